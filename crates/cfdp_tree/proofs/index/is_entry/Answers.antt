use Rattle.std.proofs.Common.{◌≡◌, sym, ap, ◌∙◌}
use Rattle.cfdp_arena.specs.Arena.{octets_of}
use Rattle.cfdp_tree.specs.code.NodeFields.{node_name}
use Rattle.cfdp_tree.specs.code.Nodes.{nodes_in}
use Rattle.cfdp_tree.specs.code.Tree.{home_in}
use Rattle.cfdp_tree.proofs.OfNodes.TreeLaws.{node_octets}
use Rattle.cfdp_tree.proofs.index.is_entry.Goals as goal

pub returns-then-home_is : goal.returns-then-home_is
returns-then-home_is c =
    let a = c.args.arena.now in let b = c.args.node in let shown = c.bytes-block.result.now in
    let same : shown ≡ octets_of (nodes_in a) b = node_octets a b c.requires.node shown c.bytes-block.ensures.octets in (
      (λ named. record {
        node = c.requires.node;
        there = ap (home_in b) (sym same) ∙ c.home_is.ensures.0 c.if-home_is.true;
        named = ap node_name (sym same) ∙ c.name_is.ensures.0 named;
      }),
      (λ entry. c.name_is.ensures.1 (ap node_name same ∙ entry.named)),
    )

pub returns-else-home_is : goal.returns-else-home_is
returns-else-home_is c =
    let a = c.args.arena.now in let b = c.args.node in let shown = c.bytes-block.result.now in
    let same : shown ≡ octets_of (nodes_in a) b = node_octets a b c.requires.node shown c.bytes-block.ensures.octets in
    ((λ there. cc), (λ entry. c.home_is.ensures.1 (ap (home_in b) same ∙ entry.there)))
