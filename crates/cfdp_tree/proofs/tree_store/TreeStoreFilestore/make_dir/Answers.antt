use Rattle.cfdp_tree.proofs.tree_store.TreeStoreFilestore.make_dir.Goals as goal

pub returns-clause-made : goal.returns-clause-made
returns-clause-made c = c.make_node.ensures
