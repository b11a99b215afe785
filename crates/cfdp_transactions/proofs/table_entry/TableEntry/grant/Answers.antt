use Rattle.std.proofs.Common.{◌<◌, ◌^◌, arith}
use Rattle.cfdp_transactions.proofs.table_entry.TableEntry.grant.Goals as goal

pub overflow_add-result : goal.overflow_add-result
overflow_add-result c = let below : c.self.inside.steps.granted < 2 ^ 32 = c.self.invariant in omega (arith, below, c.left.ensures.rest)
