use Rattle.std.proofs.Common.{ap}
use Rattle.cfdp_actions.specs.Store.{Store}
use Rattle.cfdp_tree.proofs.OfStore.SeenLaws.{few_blocks}
use Rattle.cfdp_tree.proofs.tree_store.TreeStoreFilestore.takes_no_memory.Goals as goal

pub returns-clause-value : goal.returns-clause-value
returns-clause-value c = ap (λ (s : Store). s.takes_no_memory) c.self.view_is

pub returns-clause-in_use : goal.returns-clause-in_use
returns-clause-in_use c = few_blocks _ _ _ c.self.invariant.store _ c.self.view_is
