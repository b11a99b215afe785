use Rattle.std.proofs.Common.{arith}
use Rattle.cfdp_actions.proofs.StoreLaws.{seen_blocks, few_used}
use Rattle.cfdp_actions.proofs.list_store.ListStoreFilestore.takes_no_memory.Goals as goal

pub returns-clause-in_use : goal.returns-clause-in_use
returns-clause-in_use c = omega (arith, seen_blocks _ _ _ _ c.self.invariant _ c.self.view_is, few_used _ _ _ _ c.self.invariant)
