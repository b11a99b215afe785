use Rattle.cfdp_transactions.specs.Beginning.{start_with}
use Rattle.cfdp_transactions.proofs.Beginnings.Starting.{good_sound}
use Rattle.cfdp_transactions.proofs.Promises.Promise.{at_each}
use Rattle.cfdp_transactions.proofs.laws.beginning.headline_from.Goals as goal

pub returns : goal.returns
returns c = λ config F events good. at_each c.lower_laws.ensures (start_with config F) events (good_sound config F good)
