use Rattle.std.proofs.Common.{◌≡◌, ◌+◌, ◌≤◌, ℕ, [], ◌∷◌, ◌++◌, length, take, Option, Some, None, refl, sym, ap, ◌∙◌, subst, arith}
use Rattle.std.proofs.lemmas.List.{take_more}
use Rattle.std.specs.Prelude.{IfNone, IfSome}
use Rattle.std.proofs.lemmas.Option.{none-some, same_Some}
use Rattle.cfdp_arena.specs.Arena.{Blocks}
use Rattle.cfdp_paths.specs.Paths.{Name, Path}
use Rattle.cfdp_tree.specs.code.Nodes.{nodes_in}
use Rattle.cfdp_tree.specs.code.Tree.{IsTree, IsNode, path_of_node}
use Rattle.cfdp_tree.specs.code.Directories.{IsAtPath}
use Rattle.cfdp_tree.proofs.OfNodes.NamesLeft.{ahead-start, ahead-next, ahead-end}
use Rattle.cfdp_tree.proofs.OfNodes.ClimbLaws.{some_path, entry_at, path_entry, beginning}
use Rattle.cfdp_tree.proofs.lookup.find_names.Goals as goal

any_none : {A : Type 0} (r : Option A) (P : Type 0) → P → IfNone r P
any_none None P p = p
any_none (Some x) P p = tt

-- the root is no node
no_node : (nodes : Blocks) (tree : IsTree nodes) (reached : Option ℕ) (p : Path) → IsAtPath nodes reached p →
    IfNone reached ((b : ℕ) → IsNode nodes b → path_of_node nodes b ≡ p → ⊥)
no_node nodes tree None p exists = (λ b node e. some_path nodes tree b node (e ∙ sym exists.path))
no_node nodes tree (Some d) p exists = tt

node_path : (nodes : Blocks) (reached : Option ℕ) (p : Path) → IsAtPath nodes reached p → IfSome reached (λ b. path_of_node nodes b ≡ p)
node_path nodes None p exists = tt
node_path nodes (Some d) p exists = exists.path

pub loop-name-init : goal.loop-name-init
loop-name-init c = (
  0,
  ahead-start c.args.names c.into_iter-name-iterator.result c.into_iter-name-iterator.ensures.into_iter_gives,
  record { node = (λ d e. absurd (none-some d e)); path = refl },
)

pub find-requires-clause-short : goal.find-requires-clause-short
find-requires-clause-short c =
    let path = c.args.names in let at = c.loop-name.invariant in
    let next = ahead-next path c.loop-name.name-iterator at.0 at.1 c.in-Some.name.now c.next.new.self c.in-Some.ensures.steps in
    subst (λ (name : Name). length name ≤ 96) (sym next.0) (c.requires.names at.0 [] next.1).short

pub returns-in_err-node-clause-none : goal.returns-in_err-node-clause-none
returns-in_err-node-clause-none c =
    let nodes = nodes_in c.args.arena.now in let path = c.args.names in let reached = c.loop-name.reached in
    let at = c.loop-name.invariant in let i = at.0 in
    let next = ahead-next path c.loop-name.name-iterator i at.1 c.in-Some.name.now c.next.new.self c.in-Some.ensures.steps in
    any_none c.from_residual.result ((b : ℕ) → IsNode nodes b → path_of_node nodes b ≡ path → ⊥) (λ b node e.
    (let above = beginning nodes c.requires.tree b (i + 1) node (omega arith) (omega (arith, ap length e, next.1)) in
    let here = above.2 ∙ ap (take (i + 1)) e ∙ take_more path i [] next.1 in
    c.in_err-node.ensures.none above.0 (entry_at nodes c.requires.tree reached (take i path) c.in-Some.name.now above.0 at.2 above.1 (here
    ∙ ap (λ name. take i path ++ name ∷ []) (sym next.0)))))

pub loop-name-preserved : goal.loop-name-preserved
loop-name-preserved c =
    let nodes = nodes_in c.args.arena.now in let path = c.args.names in let reached = c.loop-name.reached in
    let at = c.loop-name.invariant in let i = at.0 in
    let next = ahead-next path c.loop-name.name-iterator i at.1 c.in-Some.name.now c.next.new.self c.in-Some.ensures.steps in
    let entry = c.in_ok-node.ensures.found in (
      i + 1,
      next.2,
      record {
        node = (λ d same. subst (IsNode nodes) (same_Some _ _ same) entry.node);
        path = path_entry nodes c.requires.tree reached (take i path) c.in-Some.name.now c.in_ok-node.node at.2 entry
            ∙ ap (λ name. take i path ++ name ∷ []) next.0 ∙ sym (take_more path i [] next.1);
      },
    )

pub returns-clause-none : goal.returns-clause-none
returns-clause-none c =
    let nodes = nodes_in c.args.arena.now in let path = c.args.names in let at = c.loop-name.invariant in
    no_node nodes c.requires.tree c.loop-name.reached path
    (subst (λ p. IsAtPath nodes c.loop-name.reached p) (ahead-end path c.loop-name.name-iterator at.0 at.1 c.in-None.ensures.steps.0) at.2)

pub returns-clause-path : goal.returns-clause-path
returns-clause-path c =
    let nodes = nodes_in c.args.arena.now in let path = c.args.names in let at = c.loop-name.invariant in
    node_path nodes c.loop-name.reached path
    (subst (λ p. IsAtPath nodes c.loop-name.reached p) (ahead-end path c.loop-name.name-iterator at.0 at.1 c.in-None.ensures.steps.0) at.2)
