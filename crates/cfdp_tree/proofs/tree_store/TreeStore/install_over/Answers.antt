use Rattle.std.proofs.Common.{[], ◌∷◌, Some, ap, ◌∙◌}
use Rattle.cfdp_actions.specs.Filestore.{File, Stages, file_octets_at, staged_in}
use Rattle.cfdp_actions.specs.Store.{with_changes}
use Rattle.cfdp_tree.proofs.OfStore.InstallLaws.{staged_twice}
use Rattle.cfdp_tree.proofs.tree_store.TreeStore.install_over.Goals as goal

pub returns-clause-installed : goal.returns-clause-installed
returns-clause-installed c =
    let slot = c.args.slot in let F = c.args.self.now.filestore in
    c.unstage.ensures.dropped
    ∙ ap (λ s. with_changes s (Stages slot [] ∷ [])) c.exchange.ensures.exchanged
    ∙ staged_twice c.args.self.now c.args.path.now slot (file_octets_at F c.args.path.now) [] (Some (File (staged_in F slot)))
