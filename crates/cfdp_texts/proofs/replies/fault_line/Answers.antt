use Rattle.std.proofs.Common.{rules}
use Rattle.cfdp_texts.proofs.replies.fault_line.Goals as goal

pub returns-in-CrcNotSupported : goal.returns-in-CrcNotSupported
returns-in-CrcNotSupported c = search rules
