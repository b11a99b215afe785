use Rattle.std.proofs.Common.{[], ◌∷◌, Some, ap, ◌∙◌}
use Rattle.cfdp_actions.specs.Filestore.{File, Becomes, Stages, is_file, node_at, staged_in}
use Rattle.cfdp_actions.specs.Store.{Store, with_changes}
use Rattle.cfdp_tree.proofs.OfStore.InstallLaws.{made_there, made_over}
use Rattle.cfdp_tree.proofs.tree_store.TreeStoreFilestore.install.Goals as goal

pub install_over-requires-2-clause-file : goal.install_over-requires-2-clause-file
install_over-requires-2-clause-file c =
    let path = c.args.path.now in
    ap (λ (s : Store). is_file (node_at s.filestore path)) c.in_ok-ticks.ensures.made ∙ made_there c.args.self.now path []

pub returns-clause-installed : goal.returns-clause-installed
returns-clause-installed c =
    let slot = c.args.slot in let path = c.args.path.now in let now = c.args.self.now in
    c.install_over-2.ensures.installed
    ∙ ap (λ (s : Store). with_changes s (Stages slot [] ∷ Becomes path (Some (File (staged_in s.filestore slot))) ∷ [])) c.in_ok-ticks.ensures.made
    ∙ made_over now path slot [] (File []) (File (staged_in now.filestore slot))
