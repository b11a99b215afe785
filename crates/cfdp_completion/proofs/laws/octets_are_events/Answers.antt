use Rattle.cfdp_completion.proofs.Reading.{octets_events}
use Rattle.cfdp_completion.proofs.laws.octets_are_events.Goals as goal

pub returns : goal.returns
returns c = octets_events
