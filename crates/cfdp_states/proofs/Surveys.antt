-- What is at some paths, put into a map of extents, path by path and tree by tree.
--     adds_nothing, adds_both           no path;  one set of paths, and then another
--     adds_one, adds_none               one path, at which something exists, or nothing
--     inside_earlier                    what is at or below an earlier root
--     adds_paths, adds_root, adds_rest  one more path;  the paths before a root, and its tree;  the paths after all roots
use Rattle.std.proofs.Common.{◌≡◌, refl, sym, ◌∙◌, ap, Bool, true, false, cond, ◌||◌, ◌&&◌, is_some, Option, Some, None, ℕ, zero, suc, ◌+◌, ◌<◌, ◌≤◌, List, [], ◌∷◌, length, take, drop, get_or, if◌then◌else◌, true≢false, arith, take-add, take_all, length-drop}
use Rattle.std.specs.List.{list_any, between}
use Rattle.std.specs.FinMap.{get, empty, insert, get-insert, get-empty}
use Rattle.std.proofs.Math.Bool.{or_assoc}
use Rattle.std.proofs.lemmas.Bool.{or_right}
use Rattle.std.proofs.lemmas.List.{take-append-drop}
use Rattle.std.proofs.lemmas.Slice.{between_to_end}
use Rattle.std.proofs.lemmas.List.Folds.{list_any_more, list_any-append}
use Rattle.cfdp_paths.specs.Paths.{Path, path_cmp, same_path, is_at_or_below}
use Rattle.cfdp_paths.proofs.Below.{at_or_below-trans}
use Rattle.cfdp_paths.proofs.Comparing.{path_cmp-total}
use Rattle.cfdp_actions.specs.Filestore.{Filestore}
use Rattle.cfdp_states.specs.declared.extent.Extent.{Extent}
use Rattle.cfdp_states.specs.Sketching.{extent_at, Extents}
use Rattle.cfdp_states.specs.code.Sketching.{AddsWhere, IsSurvey}
use Rattle.cfdp_actions.proofs.Order.{same_path-true}
use Rattle.cfdp_actions.proofs.Truths.{absorbed}

abbrev pub below_one : List Path → Path → Bool
below_one roots p = list_any (λ root. is_at_or_below p root) roots

abbrev pub one_of : List Path → Path → Bool
one_of paths p = list_any (same_path p) paths

-- what is there where the test passes and something exists
abbrev seen : Bool → Option Extent → Option Extent → Option Extent
seen b v w = if b && is_some v then v else w

pub adds_nothing : (F : Filestore) (m : Extents) → AddsWhere (λ p. false) F m m
adds_nothing F m p = refl

pub adds_as : (A C : Path → Bool) (F : Filestore) (m n : Extents) → AddsWhere A F m n → ((p : Path) → C p ≡ A p) → AddsWhere C F m n
adds_as A C F m n one same p = one p ∙ ap (λ b. seen b (extent_at F p) (get m p)) (sym (same p))

pub adds_both : (A B C : Path → Bool) (F : Filestore) (l m n : Extents) → AddsWhere A F l m → AddsWhere B F m n → ((p : Path) → C p ≡ (A p || B p)) →
    AddsWhere C F l n
adds_both A B C F l m n one two same p =
    two p ∙ ap (seen (B p) (extent_at F p)) (one p) ∙ either (A p) (B p) (extent_at F p) (get l p) ∙ ap (λ b. seen b (extent_at F p) (get l p)) (sym (same p))
  where
    either : (a b : Bool) (v w : Option Extent) → seen b v (seen a v w) ≡ seen (a || b) v w
    either true true None w = refl
    either true true (Some e) w = refl
    either true false v w = refl
    either false true None w = refl
    either false true (Some e) w = refl
    either false false v w = refl

pub adds_one : (F : Filestore) (m : Extents) (path : Path) (e : Extent) → extent_at F path ≡ Some e → AddsWhere (λ p. same_path p path) F m (insert m path e)
adds_one F m path e here p =
    get-insert path_cmp-total m path e p
    ∙ elim (same_path p path) as (λ b. same_path p path ≡ b → cond b (Some e) (get m p) ≡ seen b (extent_at F p) (get m p)) [
      | true ↦ λ t. sym (ap (λ v. seen true v (get m p)) (ap (extent_at F) (same_path-true p path t) ∙ here))
      | false ↦ λ t. refl
    ] refl

pub adds_none : (F : Filestore) (m : Extents) (path : Path) → extent_at F path ≡ None → AddsWhere (λ p. same_path p path) F m m
adds_none F m path gone p =
    elim (same_path p path) as (λ b. same_path p path ≡ b → get m p ≡ seen b (extent_at F p) (get m p)) [
      | true ↦ λ t. sym (ap (λ v. seen true v (get m p)) (ap (extent_at F) (same_path-true p path t) ∙ gone))
      | false ↦ λ t. refl
    ] refl

-- one more of some paths
pub one_more : (paths : List Path) (i : ℕ) (path : Path) → i < length paths → path ≡ get_or paths i path → (p : Path) → one_of (take (i + 1) paths) p
    ≡ (one_of (take i paths) p || same_path p path)
one_more paths i path within is p = list_any_more (same_path p) paths i path within ∙ ap (λ q. one_of (take i paths) p || same_path p q) (sym is)

pub adds_paths : (paths : List Path) (i : ℕ) (path : Path) (F : Filestore) (l m n : Extents) → i < length paths → path ≡ get_or paths i path →
    AddsWhere (one_of (take i paths)) F l m → AddsWhere (λ p. same_path p path) F m n → AddsWhere (one_of (take (i + 1) paths)) F l n
adds_paths paths i path F l m n within is one two = adds_both (one_of (take i paths)) (λ p. same_path p path) (one_of (take (i + 1) paths)) F l m n one two
    (one_more paths i path within is)

-- ---- the roots and the paths between them

-- those up to the index of a root, and up to that of a path
abbrev pub up_to : List Path → List Path → ℕ → ℕ → Path → Bool
up_to roots paths i k p = below_one (take i roots) p || one_of (take k paths) p

-- the root at the index is at or below an earlier one
pub inside_earlier : (roots : List Path) (i j : ℕ) (root : Path) → i < j → j ≤ length roots → is_at_or_below root (get_or roots i root) ≡ true →
    below_one (take j roots) root ≡ true
inside_earlier [] i j root less within h = absurd (omega arith)
inside_earlier (r ∷ roots) i zero root less within h = absurd (omega arith)
inside_earlier (r ∷ roots) zero (suc j) root less within h = ap (λ b. b || below_one (take j roots) root) h
inside_earlier (r ∷ roots) (suc i) (suc j) root less within h =
    or_right (is_at_or_below root r) (below_one (take j roots) root) (inside_earlier roots i j root (omega arith) (omega arith) h)

lower : (rs : List Path) (root p : Path) → is_at_or_below p root ≡ true → below_one rs root ≡ true → below_one rs p ≡ true
lower [] root p below above = absurd (true≢false (sym above))
lower (r ∷ rs) root p below above =
    elim (is_at_or_below root r) as (λ b. is_at_or_below root r ≡ b → (b || below_one rs root) ≡ true → (is_at_or_below p r || below_one rs p) ≡ true) [
      | true ↦ λ e h. ap (λ b. b || below_one rs p) (at_or_below-trans p root r below e)
      | false ↦ λ e h. or_right (is_at_or_below p r) (below_one rs p) (lower rs root p below h)
    ] refl above

module _ (roots paths : List Path) (i k more : ℕ) (root : Path) (F : Filestore) (within : i < length roots) (is : root ≡ get_or roots i root) where
  -- the paths before the root
  before : (l m n : Extents) → AddsWhere (up_to roots paths i k) F l m → AddsWhere (one_of (take more (drop k paths))) F m n → AddsWhere
      (up_to roots paths i (k + more)) F l n
  before l m n one two =
      adds_both (up_to roots paths i k) (one_of (take more (drop k paths))) (up_to roots paths i (k + more)) F l m n one two (λ p.
      ap (λ b. below_one (take i roots) p || b) (ap (λ ps. one_of ps p) (take-add k more paths)
      ∙ list_any-append (same_path p) (take k paths) (take more (drop k paths)))
      ∙ sym (or_assoc (below_one (take i roots) p) (one_of (take k paths) p) (one_of (take more (drop k paths)) p)))

  next : (p : Path) → below_one (take (i + 1) roots) p ≡ (below_one (take i roots) p || is_at_or_below p root)
  next p = list_any_more (λ root. is_at_or_below p root) roots i root within ∙ ap (λ r. below_one (take i roots) p || is_at_or_below p r) (sym is)

  -- and its tree
  pub adds_root : (l m n o : Extents) → AddsWhere (up_to roots paths i k) F l m → AddsWhere (one_of (take more (drop k paths))) F m n →
      AddsWhere (λ p. is_at_or_below p root) F n o → AddsWhere (up_to roots paths (i + 1) (k + more)) F l o
  adds_root l m n o one two three =
      adds_both (up_to roots paths i (k + more)) (λ p. is_at_or_below p root) (up_to roots paths (i + 1) (k + more)) F l n o (before l m n one two) three (λ p.
      ap (λ b. b || one_of (take (k + more) paths) p) (next p) ∙ turned (below_one (take i roots) p) (is_at_or_below p root) (one_of (take (k + more) paths) p))
    where
      turned : (a b c : Bool) → ((a || b) || c) ≡ ((a || c) || b)
      turned true b c = refl
      turned false true true = refl
      turned false true false = refl
      turned false false true = refl
      turned false false false = refl

  -- or nothing more, where the root is inside an earlier one
  pub adds_inside : (l m n : Extents) → AddsWhere (up_to roots paths i k) F l m → AddsWhere (one_of (take more (drop k paths))) F m n → below_one
      (take i roots) root
      ≡ true → AddsWhere (up_to roots paths (i + 1) (k + more)) F l n
  adds_inside l m n one two inside =
      adds_as (up_to roots paths i (k + more)) (up_to roots paths (i + 1) (k + more)) F l n (before l m n one two) (λ p.
      ap (λ b. b || one_of (take (k + more) paths) p) (next p ∙ sym (absorbed (below_one (take i roots) p) (is_at_or_below p root)
      (λ below. lower (take i roots) root p below inside))))

-- in the end
pub adds_rest : (roots paths : List Path) (i k : ℕ) (F : Filestore) (l m n : Extents) → length roots ≤ i → AddsWhere (up_to roots paths i k) F l m →
    AddsWhere (one_of (drop k paths)) F m n →
    AddsWhere (λ p. below_one roots p || one_of paths p) F l n
adds_rest roots paths i k F l m n all one two =
    adds_both (up_to roots paths i k) (one_of (drop k paths)) (λ p. below_one roots p || one_of paths p) F l m n one two (λ p.
    ap (λ rs. below_one rs p || one_of paths p) (sym (take_all i roots all))
    ∙ ap (λ b. below_one (take i roots) p || b) (ap (λ ps. one_of ps p) (sym (take-append-drop k paths))
    ∙ list_any-append (same_path p) (take k paths) (drop k paths))
    ∙ sym (or_assoc (below_one (take i roots) p) (one_of (take k paths) p) (one_of (drop k paths) p)))

-- the code's slices
pub following : (paths : List Path) (k : ℕ) → between k (length paths) paths ≡ drop k paths
following paths k = between_to_end paths k (length paths) (omega arith)

pub adds_before : (paths : List Path) (k more : ℕ) (F : Filestore) (m n : Extents) → AddsWhere (one_of (take more (between k (length paths) paths))) F m n →
    AddsWhere (one_of (take more (drop k paths))) F m n
adds_before paths k more F m n two = adds_as (one_of (take more (between k (length paths) paths))) (one_of (take more (drop k paths))) F m n two
    (λ p. ap (λ ps. one_of (take more ps) p) (sym (following paths k)))

pub adds_rest_of_paths : (paths : List Path) (k : ℕ) (F : Filestore) (m n : Extents) → AddsWhere (one_of (between k (length paths) paths)) F m n →
    AddsWhere (one_of (drop k paths)) F m n
adds_rest_of_paths paths k F m n two = adds_as (one_of (between k (length paths) paths)) (one_of (drop k paths)) F m n two
    (λ p. ap (λ ps. one_of ps p) (sym (following paths k)))

pub next_within : (paths : List Path) (k more : ℕ) → k ≤ length paths → more ≤ length (between k (length paths) paths) → k + more ≤ length paths
next_within paths k more within bound = omega (arith, within, bound, ap length (following paths k), length-drop k paths)

-- of no map, what was put in is all
pub surveyed : (test : Path → Bool) (F : Filestore) (m : Extents) → AddsWhere test F empty m → IsSurvey m test F
surveyed test F m one p = one p ∙ ap (seen (test p) (extent_at F p)) (get-empty path_cmp p) ∙ alone (test p) (extent_at F p)
  where
    alone : (b : Bool) (v : Option Extent) → seen b v None ≡ (if b then v else None)
    alone true None = refl
    alone true (Some e) = refl
    alone false v = refl
