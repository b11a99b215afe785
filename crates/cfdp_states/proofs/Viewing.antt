-- A view from item to item.
use Rattle.std.proofs.Common.{◌≡◌, ◌∙◌, ap, subst, IsTrue, ℕ, ◌+◌, ◌-◌, ◌≤◌, min, max, List, [], ◌∷◌, length, sum_by, arith}
use Rattle.cfdp_paths.specs.Paths.{Path}
use Rattle.cfdp_status.specs.declared.status.Status.{Status}
use Rattle.cfdp_actions.specs.Filestore.{Filestore, blocks_of, blocks}
use Rattle.cfdp_actions.specs.Actions.{Request, Perform, Performed, succeeded, row}
use Rattle.cfdp_leases.specs.Items.{performed, step_bound}
use Rattle.cfdp_states.specs.Sketching.{Extents, makes_path}
use Rattle.cfdp_states.specs.code.Sketching.{total_blocks, bound_on, IsOutline, Performs}
use Rattle.cfdp_states.specs.Views.{most_count, most_need, Sketch, IsViewOf, Makes, Tells}
use Rattle.cfdp_actions.proofs.Growth.{blocks_of-zero}
use Rattle.cfdp_states.proofs.Counting.{enough, blocks-counted, bound-counted}

abbrev pub sketch : List Path → Extents → ℕ → ℕ → ℕ → Sketch
sketch prefixes m base need steps = record { prefixes = prefixes; extents = m; base = base; need = need; steps = steps }

pub outlined : (prefixes : List Path) (m : Extents) (base need steps : ℕ) (F : Filestore) (start peak taken : ℕ) →
    IsViewOf (sketch prefixes m base need steps) F start peak taken → IsOutline m F
outlined prefixes m base need steps F start peak taken h = record { found = h.extents }

pub nothing_staged : sum_by (λ (octets : List ℕ). blocks_of (length octets)) ([] ∷ []) ≡ 0
nothing_staged = let e = blocks_of-zero in omega (arith, e)

pub needs : (need base blocks now peak start : ℕ) → need ≡ min (peak - start) most_need → base ≡ start → start ≤ 65536 → min blocks enough ≡ min now enough →
    max need (min (blocks - base) most_need) ≡ min (max peak now - start) most_need
needs need base blocks now peak start one two three four = omega arith

pub takes : (steps bound stated taken : ℕ) → steps ≡ min taken most_count → min bound enough ≡ min stated enough → min (steps + (1 + bound)) most_count
    ≡ min (taken + (1 + stated)) most_count
takes steps bound stated taken one two = omega arith

pub tells_next : (v : Sketch) (prefixes : List Path) (m m' : Extents) (base need steps need' steps' : ℕ) (request : Request) (stated : Status)
    (bound weight : ℕ) →
    sketch prefixes m base need steps ≡ v → Performs prefixes m m' request stated → bound ≡ bound_on m (Perform request) → weight ≡ total_blocks m' →
    need' ≡ max need (min (weight - base) most_need) → steps' ≡ min (steps + (1 + bound)) most_count →
    Tells v (sketch prefixes m' base need' steps') (Perform request) (Performed stated)
tells_next v prefixes m m' base need steps need' steps' request stated bound weight is performs bound_is weight_is need_is steps_is =
    subst (λ (v : Sketch). Tells v (sketch prefixes m' base need' steps') (Perform request) (Performed stated)) is (λ F start peak taken h.
    let here = outlined prefixes m base need steps F start peak taken h in
    let G = performed prefixes F 0 (Perform request) in
    let there = performs.outlines F here in
    let staged : G.staged ≡ [] ∷ [] = performs.staged F here ∙ h.staged in (
      performs.status F here,
      record {
        extents = there.found;
        staged = staged;
        base = h.base;
        small = h.small;
        need = need_is ∙ needs need base weight (blocks G) peak start h.need h.base h.small (ap (λ n. min n enough) weight_is
            ∙ blocks-counted ([] ∷ []) nothing_staged m' G staged there);
        steps = steps_is ∙ takes steps bound (step_bound F (Perform request)) taken h.steps (ap (λ n. min n enough) bound_is
            ∙ bound-counted m F here (Perform request));
      },
    ))

-- a request that takes memory, on the view
pub tells_wanting : (v : Sketch) (prefixes : List Path) (m : Extents) (base need steps : ℕ) (request : Request) → sketch prefixes m base need steps ≡ v →
    IsTrue (makes_path request) →
    ((F : Filestore) → IsOutline m F → IsTrue (succeeded (row prefixes F 0 (Perform request)).answer)) → Makes v request
tells_wanting v prefixes m base need steps request is makes good =
    subst (λ (v : Sketch). Makes v request) is (makes, λ F start peak taken h. good F (outlined prefixes m base need steps F start peak taken h))
