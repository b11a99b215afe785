use Rattle.std.proofs.Common.{rules}
use Rattle.cfdp_entity.proofs.entity.Entity.new.Goals as goal

pub new-requires-2 : goal.new-requires-2
new-requires-2 c = search rules
