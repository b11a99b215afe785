use Rattle.std.proofs.Common.{◌≡◌, ℕ, ◌≤◌, not, sym, ap, ◌∙◌, subst}
use Rattle.std.specs.Prelude.{Some}
use Rattle.cfdp_arena.specs.Arena.{octets_at}
use Rattle.cfdp_tree.specs.code.Beside.{DividesAt, is_entry_beside}
use Rattle.cfdp_tree.specs.code.NodeFields.{node_fields_of, node_name}
use Rattle.cfdp_tree.specs.code.Nodes.{nodes_in}
use Rattle.cfdp_tree.specs.code.Tree.{name_at}
use Rattle.cfdp_tree.proofs.OfNodes.TreeLaws.{node_octets}
use Rattle.cfdp_tree.proofs.beside.Others.around.Goals as goal
use Rattle.cfdp_tree.proofs.beside.Others.around.Goals.{in-Ok, in-Err}

pub name_in-requires-clause-fits : goal.name_in-requires-clause-fits
name_in-requires-clause-fits c =
    let arena = c.args.arena.now in
    let same = node_octets arena c.args.node c.requires.node c.bytes-block.result.now
    (subst (λ k. octets_at arena k ≡ Some c.bytes-block.result.now) (c.of_number.ensures.same_number ∙ c.from.ensures) c.bytes-block.ensures.octets) in
    subst (λ o. (node_fields_of o).name_length ≤ 96) (sym same) c.requires.named.fits

-- the name that was read, and how it divides the others
named : (c : goal.After-part-3) → c.name_in.result.now ≡ name_at (nodes_in c.args.arena.now) c.args.node
named c =
    let arena = c.args.arena.now in
    c.name_in.ensures ∙ ap node_name (node_octets arena c.args.node c.requires.node c.bytes-block.result.now
    (subst (λ k. octets_at arena k ≡ Some c.bytes-block.result.now) (c.of_number.ensures.same_number ∙ c.from.ensures) c.bytes-block.ensures.octets))

divides : (c : goal.After-part-3) → DividesAt c.args.self.now.directory.now (name_at (nodes_in c.args.arena.now) c.args.node) c.args.self.now.paths.now
    c.match-find_child.start.0 c.match-find_child.start.1
divides c =
    let p = c.args.self.now.directory.now in let paths = c.args.self.now.paths.now in
    subst (λ n. DividesAt p n paths c.match-find_child.start.0 c.match-find_child.start.1) (named c) (elim c.match-find_child.branch [
      | in-Ok w ↦ subst (λ (x : ℕ × ℕ). DividesAt p c.name_in.result.now paths x.0 x.1) (sym w.start-is) w.in-Ok.ensures.divides
      | in-Err w ↦ subst (λ (x : ℕ × ℕ). DividesAt p c.name_in.result.now paths x.0 x.1) (sym w.start-is) w.in-Err.ensures.divides
    ])

pub returns-clause-before : goal.returns-clause-before
returns-clause-before c =
    let now = nodes_in c.args.arena.now in let p = c.args.self.now.directory.now in
    λ b rise. ap (λ paths. is_entry_beside p paths now b) c.part.ensures.paths ∙ ap not ((divides c).less (name_at now b) rise)

pub returns-clause-at : goal.returns-clause-at
returns-clause-at c =
    let now = nodes_in c.args.arena.now in let p = c.args.self.now.directory.now in
    ap (λ paths. is_entry_beside p paths now c.args.node) c.part-2.ensures.paths ∙ ap not (divides c).here

pub returns-clause-after : goal.returns-clause-after
returns-clause-after c =
    let now = nodes_in c.args.arena.now in let p = c.args.self.now.directory.now in
    λ b rise. ap (λ paths. is_entry_beside p paths now b) c.part-3.ensures.paths ∙ ap not ((divides c).more (name_at now b) rise)
