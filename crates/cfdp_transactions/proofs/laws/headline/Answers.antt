use Rattle.cfdp_actions.specs.Filestore.{empty_filestore}
use Rattle.cfdp_transactions.specs.Beginning.{start_with}
use Rattle.cfdp_transactions.proofs.Beginnings.Starting.{start_sound}
use Rattle.cfdp_transactions.proofs.Promises.Promise.{at_each}
use Rattle.cfdp_transactions.proofs.laws.headline.Goals as goal

pub returns : goal.returns
returns c = λ config events. at_each c.lower_laws.ensures (start_with config empty_filestore) events (start_sound config)
