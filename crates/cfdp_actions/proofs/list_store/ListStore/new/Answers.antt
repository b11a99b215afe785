use Rattle.std.proofs.Common.{◌≡◌, ℕ, false, List, [], length, replicate, refl, sym, ap, subst, ◌∙◌, arith}
use Rattle.std.specs.FinMap as finite
use Rattle.std.proofs.lemmas.List.{length-map, length-replicate}
use Rattle.cfdp_paths.specs.Paths.{path_cmp}
use Rattle.cfdp_actions.specs.Filestore.{Node}
use Rattle.cfdp_actions.specs.Listed.{vector_octets}
use Rattle.cfdp_actions.specs.code.Listed.{listed_store, IsListed}
use Rattle.cfdp_actions.proofs.StoreLaws.{empty_nodes, empty_lists}
use Rattle.cfdp_actions.proofs.list_store.ListStore.new.Goals as goal

pub invariant_of-result : goal.invariant_of-result
invariant_of-result c =
    let all : c.loop-slot._slot ≡ 64 = omega (arith, c.loop-slot-test.false, c.loop-slot.auto._slot-end) in
    let lists = empty_lists c.loop-slot.staged.items c.loop-slot._slot c.loop-slot.invariant in
    let count = ap (λ (xs : List (List ℕ)). length xs) c.loop-slot.invariant in
    subst (λ es. IsListed es c.loop-slot.staged.items 0 c.args.blocks) (sym c.new-2.ensures) (record {
      sorted = refl;
      slots = omega (arith, all, count, length-map c.loop-slot.staged.items (λ vector. vector.items), length-replicate {A = List ℕ} c.loop-slot._slot []);
      counted = omega (arith, lists);
      fits = omega arith;
      small = c.requires.few;
    })

pub returns : goal.returns
returns c =
    let all : c.loop-slot._slot ≡ 64 = omega (arith, c.loop-slot-test.false, c.loop-slot.auto._slot-end) in
    ap (λ es. listed_store es c.loop-slot.staged.items c.args.blocks) c.new-2.ensures
    ∙ ap (λ (m : finite.FinMap path_cmp Node). record {
      filestore = record { nodes = m; staged = vector_octets c.loop-slot.staged.items };
      capacity = c.args.blocks;
      takes_no_memory = false;
    }) empty_nodes
    ∙ ap (λ (lists : List (List ℕ)). record { filestore = record { nodes = finite.empty; staged = lists }; capacity = c.args.blocks; takes_no_memory = false })
    (c.loop-slot.invariant ∙ ap (λ n. replicate n []) all)
