-- What a survey says is what is where the footprint covers it.
use Rattle.std.proofs.Common.{◌≡◌, refl, sym, ◌∙◌, ap, Bool, true, false, cond, ◌||◌, Option, None, ℕ, ◌-◌, ◌≤◌, min, List, [], ◌∷◌, arith}
use Rattle.std.specs.List.{list_any}
use Rattle.std.specs.FinSet as set
use Rattle.std.specs.FinMap.{empty, entries, retain_keys, get-retain_keys}
use Rattle.std.specs.FinMap.Entries.{where_key}
use Rattle.cfdp_paths.specs.Paths.{Path, path_cmp, same_path, is_at_or_below}
use Rattle.cfdp_actions.specs.Filestore.{Node, Filestore, node_at, weights, blocks}
use Rattle.cfdp_leases.specs.Footprint.{Footprint, any_in, is_covered}
use Rattle.cfdp_leases.proofs.Sets.{any_in-from_list}
use Rattle.cfdp_states.specs.Alone.{alone}
use Rattle.cfdp_states.specs.Sketching.{extent_in, Extents}
use Rattle.cfdp_states.specs.code.Sketching.{total_blocks, IsOutline, AddsWhere, IsSurvey}
use Rattle.cfdp_states.specs.Views.{most_count, most_need, only, IsViewOf}
use Rattle.cfdp_actions.proofs.Weights.{entries-retain_keys}
use Rattle.cfdp_states.proofs.Counting.{enough, blocks-counted}
use Rattle.cfdp_states.proofs.Viewing.{sketch, nothing_staged}
use Rattle.cfdp_states.proofs.Trees.{weights-kept}
use Rattle.cfdp_states.proofs.Surveys.{below_one, one_of, adds_as, surveyed}
use Rattle.cfdp_paths.proofs.InOrder.{path_antisym}
use Rattle.cfdp_paths.proofs.Comparing.{path_cmp-total}

-- the paths of a footprint, as it lends them
covered-lent : (xs ys : List Path) (fp : Footprint) (p : Path) → set.from_list xs ≡ fp.exclusive → set.from_list ys ≡ fp.shared → is_covered fp p
    ≡ (below_one xs p || list_any (same_path p) ys)
covered-lent xs ys fp p exclusive shared =
    (λ i. any_in (sym exclusive i) (λ e. is_at_or_below p e) || set.contains (sym shared i) p)
    ∙ (λ i. any_in-from_list (λ e. is_at_or_below p e) xs i || set.contains-from_list path_cmp-total ys p i)

-- all that the footprint covers
pub whole_survey : (xs ys : List Path) (fp : Footprint) (F : Filestore) (m : Extents) → set.from_list xs ≡ fp.exclusive → set.from_list ys ≡ fp.shared →
    AddsWhere (λ p. below_one xs p || one_of ys p) F empty m → IsSurvey m (is_covered fp) F
whole_survey xs ys fp F m exclusive shared adds =
    surveyed (is_covered fp) F m (adds_as (λ p. below_one xs p || one_of ys p) (is_covered fp) F empty m adds (λ p. covered-lent xs ys fp p exclusive shared))

-- what is kept of a small filestore is small
pub only-small : (fp : Footprint) (F : Filestore) → blocks F ≤ 65536 → blocks (alone (only fp F) []) ≤ 65536
unfolding blocks
only-small fp F le =
    let kept : weights (entries (retain_keys F.nodes (λ p. is_covered fp p))) ≡ weights (where_key path_cmp (λ p. is_covered fp p) (entries F.nodes)) =
    ap weights (entries-retain_keys path_cmp-total path_antisym F.nodes (λ p. is_covered fp p)) in
    let fewer : weights (where_key path_cmp (λ p. is_covered fp p) (entries F.nodes)) ≤ weights (entries F.nodes) =
    weights-kept (λ p. is_covered fp p) (entries F.nodes) in
    let none = nothing_staged in
    omega (arith, kept, fewer, none)

pub survey-outlines : (m : Extents) (fp : Footprint) (F : Filestore) → IsSurvey m (is_covered fp) F → IsOutline m (alone (only fp F) [])
survey-outlines m fp F survey = record {
  found = λ x.
      survey x ∙ through (is_covered fp x) (node_at F x)
      ∙ ap extent_in (sym (get-retain_keys F.nodes (λ p. is_covered fp p) x (λ y e. ap (λ p. is_covered fp p) (sym (path_antisym x y e)))));
}
  where
    through : (b : Bool) (a : Option Node) → cond b (extent_in a) None ≡ extent_in (cond b a None)
    through true a = refl
    through false a = refl

start-is : (total now : ℕ) → min total enough ≡ min now enough → now ≤ 65536 → total ≡ now
start-is total now one two = omega arith

pub none_yet : (n most : ℕ) → 0 ≡ min (n - n) most
none_yet n most = omega arith

pub view_of : (fp : Footprint) (F : Filestore) (prefixes : List Path) (m : Extents) (base : ℕ) → IsSurvey m (is_covered fp) F → blocks F ≤ 65536 → base
    ≡ total_blocks m →
    IsViewOf (sketch prefixes m base 0 0) (alone (only fp F) []) (blocks (alone (only fp F) [])) (blocks (alone (only fp F) [])) 0
view_of fp F prefixes m base survey le base_is =
    let G = alone (only fp F) [] in
    let here : IsOutline m G = survey-outlines m fp F survey in
    record {
      extents = here.found;
      staged = refl;
      base = base_is ∙ start-is (total_blocks m) (blocks G) (blocks-counted ([] ∷ []) nothing_staged m G refl here) (only-small fp F le);
      small = only-small fp F le;
      need = none_yet (blocks G) most_need;
      steps = none_yet 0 most_count;
    }
