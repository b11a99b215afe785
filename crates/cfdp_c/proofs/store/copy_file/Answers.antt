use Rattle.std.proofs.Common.{ap, ◌∙◌}
use Rattle.cfdp_actions.specs.Filestore.{node_at, octets_in}
use Rattle.cfdp_tree.specs.Found.{octets_read, with_octets}
use Rattle.cfdp_c.proofs.Stored.{copied, not_copied}
use Rattle.cfdp_c.proofs.store.copy_file.Goals as goal

pub returns-in-None : goal.returns-in-None
returns-in-None c =
    let same = ap (λ F. node_at F c.args.names) c.store.ensures.filestore in let at = c.args.at in let out = c.args.out.now in
    not_copied (node_at c.args.core.now.world.filestore c.args.names) at c.args.count.now out c.read_at.new.buffer
    (c.in-None.ensures.count ∙ ap (λ node. octets_read node at out) same)
    (c.in-None.ensures.octets ∙ ap (λ node. with_octets (octets_in node) at out) same)

pub returns-in-Some : goal.returns-in-Some
returns-in-Some c =
    let same = ap (λ F. node_at F c.args.names) c.store.ensures.filestore in let at = c.args.at in let out = c.args.out.now in
    copied (node_at c.args.core.now.world.filestore c.args.names) at c.in-Some.copied c.args.count.now out c.read_at.new.buffer
    (c.in-Some.ensures.count ∙ ap (λ node. octets_read node at out) same)
    (c.in-Some.ensures.octets ∙ ap (λ node. with_octets (octets_in node) at out) same)
