use Rattle.std.proofs.Common.{◌≡◌, ◌+◌, ◌-◌, ◌<◌, ◌∷◌, [], ◌++◌, ℕ, suc, List, length, map, drop, get_or, sym, ap, ◌∙◌, arith}
use Rattle.std.proofs.Math.Seq.{drop-cons}
use Rattle.std.proofs.lemmas.List.{reverse-append}
use Rattle.std.specs.Prelude.{reverse}
use Rattle.cfdp_paths.specs.Paths.{Path}
use Rattle.cfdp_tree.specs.code.Nodes.{nodes_in}
use Rattle.cfdp_tree.specs.code.NodesBelow.{path_and_node}
use Rattle.cfdp_tree.proofs.nodes_below.with_paths.Goals as goal

-- one path more, which comes before the others
one_more : (path : ℕ → Path × ℕ) (list : List ℕ) (made b d : ℕ) (e : Path × ℕ) → made < length list → b ≡ get_or list (length list - (made + 1)) d → e ≡ path b
    → reverse (map path (drop (length list - made) list)) ++ e ∷ [] ≡ reverse (map path (drop (length list - (made + 1)) list))
one_more path list made b d e within is same =
    let k = length list - (made + 1) in
    let next : suc k ≡ length list - made = omega (arith, within) in
    let first : drop k list ≡ b ∷ drop (length list - made) list = drop-cons list k d (omega (arith, within)) ∙ (λ i. sym is i ∷ drop (next i) list) in
    (λ i. reverse (map path (drop (length list - made) list)) ++ same i ∷ []) ∙ sym (reverse-append (path b ∷ []) (map path (drop (length list - made) list)))
    ∙ ap (λ xs. reverse (map path xs)) (sym first)

pub loop-made-preserved : goal.loop-made-preserved
loop-made-preserved c =
    let nodes = nodes_in c.args.arena.now in let list = c.args.nodes.now in let made = c.loop-made.made in let b = c.index-nodes-nodes.result in
    let index : length list - 1 - made ≡ length list - (made + 1) = omega arith in
    let path : Path = c.in_ok-path_of.field-0 in
    c.in_ok-push.ensures.items ∙ ap (λ xs. xs ++ (path, b) ∷ []) c.loop-made.invariant
    ∙ one_more (path_and_node nodes) list made b b (path, b) (omega (arith, c.loop-made-test.true))
    (c.index-nodes-nodes.is ∙ ap (λ k. get_or list k b) index) (ap (λ (p : Path). (p, b)) c.in_ok-path_of.ensures)
