use Rattle.cfdp_transactions.proofs.Soundness.Needs.{follows_sound}
use Rattle.cfdp_transactions.proofs.laws.follows_is_sound.Goals as goal

pub returns : goal.returns
returns c = follows_sound c.lower_laws.ensures
