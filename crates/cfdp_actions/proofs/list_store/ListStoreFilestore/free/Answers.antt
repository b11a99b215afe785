use Rattle.std.proofs.Common.{arith}
use Rattle.cfdp_actions.proofs.StoreLaws.{seen_blocks, seen_capacity}
use Rattle.cfdp_actions.proofs.list_store.ListStoreFilestore.free.Goals as goal

pub returns-clause-value : goal.returns-clause-value
returns-clause-value c = omega (
  arith,
  seen_blocks _ _ _ _ c.self.invariant _ c.self.view_is,
  seen_capacity _ _ _ _ c.self.invariant _ c.self.view_is,
  c.self.invariant.fits,
)

pub returns-clause-in_use : goal.returns-clause-in_use
returns-clause-in_use c = omega (
  arith,
  seen_blocks _ _ _ _ c.self.invariant _ c.self.view_is,
  seen_capacity _ _ _ _ c.self.invariant _ c.self.view_is,
  c.self.invariant.fits,
)
