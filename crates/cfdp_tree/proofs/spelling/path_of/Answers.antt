use Rattle.std.proofs.Common.{◌≡◌, ◌-◌, List, ℕ, take, drop, length, IfOk, sym, ap, ◌∙◌, subst, arith}
use Rattle.std.proofs.lemmas.List.{take_all, length-drop}
use Rattle.cfdp_paths.specs.Paths.{Path, IsPath, names_of}
use Rattle.cfdp_paths.proofs.Parting.{names_of-parted}
use Rattle.cfdp_tree.specs.code.Nodes.{nodes_in}
use Rattle.cfdp_tree.specs.code.Tree.{path_of_node}
use Rattle.cfdp_tree.proofs.OfNodes.TextLaws.{path_good}
use Rattle.cfdp_tree.proofs.spelling.path_of.Goals as goal

-- octets up to the end of a buffer
up_to_end : (text : List ℕ) (start : ℕ) → take (length text - start) (drop start text) ≡ drop start text
up_to_end text start = take_all (length text - start) (drop start text) (omega (arith, length-drop start text))

pub from_names-requires : goal.from_names-requires
from_names-requires c =
    let nodes = nodes_in c.args.arena.now in let path = path_of_node nodes c.args.node in let good =
    path_good nodes c.requires.tree c.args.node c.requires.node in
    let text = c.write_names-names.new.text in let start = c.write_names-names.result.start in
    let same : names_of (take (length text - start) (drop start text)) ≡ path =
    ap names_of (up_to_end text start ∙ c.write_names-names.ensures.text) ∙ names_of-parted path good in
    record { path = subst IsPath (sym same) good; depth = c.write_names-names.ensures.depth ∙ ap length (sym same) }

pub returns : goal.returns
returns c =
    let nodes = nodes_in c.args.arena.now in let path = path_of_node nodes c.args.node in let good =
    path_good nodes c.requires.tree c.args.node c.requires.node in
    let text = c.write_names-names.new.text in let start = c.write_names-names.result.start in
    let same : names_of (take (length text - start) (drop start text)) ≡ path =
    ap names_of (up_to_end text start ∙ c.write_names-names.ensures.text) ∙ names_of-parted path good in
    let P : Path → Type 0 = λ q. IfOk c.from_names.result (λ p. p ≡ q) in subst P same c.from_names.ensures
