use Rattle.cfdp_progress.proofs.Runs.{answered_turns as proved}
use Rattle.cfdp_progress.proofs.laws.answered_turns.Goals as goal

pub returns : goal.returns
returns c = proved c.next_is_sound.ensures c.next_is_promised.ensures c.answered_is_whole.ensures
