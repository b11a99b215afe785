use Rattle.cfdp_receiver.proofs.NaksAsk.{few_requests as proved}
use Rattle.cfdp_receiver.proofs.laws.few_requests.Goals as goal

pub returns : goal.returns
returns c = proved
