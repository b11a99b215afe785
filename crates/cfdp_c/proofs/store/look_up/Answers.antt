use Rattle.std.proofs.Common.{ap, ◌∙◌}
use Rattle.std.specs.Option.{option_map}
use Rattle.cfdp_actions.specs.Filestore.{node_at}
use Rattle.cfdp_tree.specs.Found.{found_of}
use Rattle.cfdp_c.proofs.Stored.{directory_found}
use Rattle.cfdp_c.proofs.store.look_up.Goals as goal

pub returns-in-Directory : goal.returns-in-Directory
returns-in-Directory c =
    directory_found (node_at c.args.core.now.world.filestore c.args.names) c.in_ok-found.found
    (c.in_ok-found.ensures ∙ ap (λ F. option_map found_of (node_at F c.args.names)) c.store.ensures.filestore)
    c.in-Directory.is
