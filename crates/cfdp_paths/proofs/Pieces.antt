-- What is at and below a path is one piece of the entries in path order.
--     between_below            what is between a path and something at or below it is so too
--     below_not_before         what is at or below a path is not before it
--     tree_split               the entries at or below a path, and the others, by index
--     spreads_parted           of the entries from the index of a path on, those at or below it are first
--     any_below-tree           whether a path of the piece is another one
use Rattle.std.proofs.Common.{◌≡◌, ℕ, zero, suc, ◌+◌, ◌-◌, ◌≤◌, true, false, not, ◌&&◌, ◌||◌, List, [], ◌∷◌, ◌++◌, length, take, drop, get_or, refl, sym, ap, subst, ◌∙◌, arith, length-drop}
use Rattle.std.specs.Cmp.{Equal-is}
use Rattle.std.specs.Cmp.Lexicographic.{nat_list_cmp_total}
use Rattle.std.specs.FinMap.{is_sorted}
use Rattle.std.specs.FinMap.Entries.{below_all}
use Rattle.std.specs.List.{list_any, between}
use Rattle.std.specs.List.Sorted.{IsPartitionPoint, IsPartitionedBy}
use Rattle.std.specs.Ordering.{is_lt, ordering_reverse}
use Rattle.std.specs.declared.cmp.Ordering.TheVariants.{Less, Equal, Greater}
use Rattle.std.proofs.lemmas.Bool.{and_parts, true≢false, false_from_ne_true}
use Rattle.std.proofs.lemmas.Slice.{between_to_end}
use Rattle.cfdp_paths.specs.Paths.{Path, path_cmp, same_name, same_path, is_at_or_below}
use Rattle.cfdp_paths.specs.PathMaps.{tree_in, rest_in, any_below}
use Rattle.cfdp_paths.specs.code.Paths.{name_cmp}
use Rattle.cfdp_paths.specs.code.PathMaps.{IsPieceOf, rank, spread}
use Rattle.cfdp_paths.proofs.Comparing.{path_cmp-total, same_name-Decides}
use Rattle.cfdp_paths.proofs.InOrder.{less_by, less_back, below_at, prefix_len_of_point}

-- what is not before another is not before what is before that
pub not_before-trans : (p x y : Path) → is_lt (path_cmp x p) ≡ false → path_cmp x y ≡ Less → is_lt (path_cmp y p) ≡ false
not_before-trans p x y h less =
    false_from_ne_true (is_lt (path_cmp y p)) (λ before. true≢false (sym (ap is_lt (path_cmp-total.trans x y p less (less_by _ before))) ∙ h))

after_not_before : (x y : Path) → path_cmp x y ≡ Less → is_lt (path_cmp y x) ≡ false
after_not_before x y less = ap is_lt (less_back x y less)

-- x is not before p, and y not before x
pub between_below : (p x y : Path) → is_lt (path_cmp x p) ≡ false → is_lt (path_cmp y x) ≡ false → is_at_or_below y p ≡ true → is_at_or_below x p ≡ true
between_below [] x y a b h = refl
between_below (n ∷ p) [] y a b h = absurd (true≢false a)
between_below (n ∷ p) (m ∷ x) [] a b h = absurd (true≢false (sym h))
between_below (n ∷ p) (m ∷ x) (l ∷ y) a b h =
    let parts = and_parts (same_name l n) (is_at_or_below y p) h in
    let turned : name_cmp l m ≡ ordering_reverse (name_cmp m n) = ap (λ z. name_cmp z m) ((same_name-Decides l n).0 parts.0)
    ∙ nat_list_cmp_total.antisymm n m in
    elim (name_cmp m n) as (λ o. name_cmp m n ≡ o → (same_name m n && is_at_or_below x p) ≡ true) [
      | Less ↦ λ q. absurd (true≢false (rw q at a))
      | Equal ↦ λ q.
          let back : name_cmp l m ≡ Equal = turned ∙ ap ordering_reverse q in
          let after : is_lt (path_cmp x p) ≡ false = rw q at a in
          let before : is_lt (path_cmp y x) ≡ false = rw back at b in
          let same : same_name m n ≡ true = (Equal-is (name_cmp m n)).1 q in
          rw same (between_below p x y after before parts.1)
      | Greater ↦ λ q.
          let back : name_cmp l m ≡ Less = turned ∙ ap ordering_reverse q in
          absurd (true≢false (rw back at b))
    ] refl

pub below_not_before : (q p : Path) → is_at_or_below q p ≡ true → is_lt (path_cmp q p) ≡ false
below_not_before [] [] h = refl
below_not_before (m ∷ q) [] h = refl
below_not_before [] (n ∷ p) h = absurd (true≢false (sym h))
below_not_before (m ∷ q) (n ∷ p) h =
    let parts = and_parts (same_name m n) (is_at_or_below q p) h in
    let same : name_cmp m n ≡ Equal = (Equal-is (name_cmp m n)).0 parts.0 in
    rw same (below_not_before q p parts.1)

-- after what is not at or below p nothing is
not_below_following : (p x y : Path) → is_lt (path_cmp x p) ≡ false → is_at_or_below x p ≡ false → path_cmp x y ≡ Less → is_at_or_below y p ≡ false
not_below_following p x y a b less = false_from_ne_true (is_at_or_below y p) (λ h. true≢false (sym (between_below p x y a (after_not_before x y less) h) ∙ b))

module _ {X : Type 0} (p : Path) where
  -- the first entry, if there is one, is not before p
  abbrev pub BeginsAt : List (Path × X) → Type 0
  BeginsAt [] = Unit {0}
  BeginsAt (e ∷ es) = is_lt (path_cmp e.0 p) ≡ false

  pub begins_next : (e : Path × X) (es : List (Path × X)) → is_lt (path_cmp e.0 p) ≡ false → below_all path_cmp e.0 es ≡ true → BeginsAt es
  begins_next e [] h below = tt
  begins_next e (f ∷ es) h below = not_before-trans p e.0 f.0 h (less_by _ (and_parts (is_lt (path_cmp e.0 f.0)) (below_all path_cmp e.0 es) below).0)

  none_left : (x : Path) (es : List (Path × X)) → is_lt (path_cmp x p) ≡ false → is_at_or_below x p ≡ false → below_all path_cmp x es ≡ true →
      (tree_in p es ≡ []) × (rest_in p es ≡ es)
  none_left x [] a b h = (refl, refl)
  none_left x (e ∷ es) a b h =
      let parts = and_parts (is_lt (path_cmp x e.0)) (below_all path_cmp x es) h in
      let isnt = not_below_following p x e.0 a b (less_by _ parts.0) in
      let rest = none_left x es a b parts.1 in
      rw isnt (rest.0, ap (λ ys. e ∷ ys) rest.1)

  spread-in : (e : Path × X) (es : List (Path × X)) → is_at_or_below e.0 p ≡ true → spread p (e ∷ es) ≡ suc (spread p es)
  spread-in e es is = rw is (omega arith)

  spread-out : (e : Path × X) (es : List (Path × X)) → is_at_or_below e.0 p ≡ false → spread p (e ∷ es) ≡ 0
  spread-out e es isnt = rw isnt refl

  tree-in : (e : Path × X) (es : List (Path × X)) → is_at_or_below e.0 p ≡ true → (tree_in p (e ∷ es) ≡ e ∷ tree_in p es) × (rest_in p (e ∷ es) ≡ rest_in p es)
  tree-in e es is = rw is (refl, refl)

  tree-out : (e : Path × X) (es : List (Path × X)) → is_at_or_below e.0 p ≡ false → (tree_in p (e ∷ es) ≡ tree_in p es)
      × (rest_in p (e ∷ es) ≡ e ∷ rest_in p es)
  tree-out e es isnt = rw isnt (refl, refl)

  -- from the index of p on
  tree_front : (es : List (Path × X)) → is_sorted path_cmp es ≡ true → BeginsAt es → (tree_in p es ≡ take (spread p es) es)
      × (rest_in p es ≡ drop (spread p es) es)
  tree_front [] s h = (refl, refl)
  tree_front (e ∷ es) s h =
      let parts = and_parts (below_all path_cmp e.0 es) (is_sorted path_cmp es) s in
      elim (is_at_or_below e.0 p) as (λ b. is_at_or_below e.0 p ≡ b → (tree_in p (e ∷ es) ≡ take (spread p (e ∷ es)) (e ∷ es))
      × (rest_in p (e ∷ es) ≡ drop (spread p (e ∷ es)) (e ∷ es))) [
        | true ↦ λ is.
            let rest = tree_front es parts.1 (begins_next e es h parts.0) in
            let more = spread-in e es is in (
              (tree-in e es is).0 ∙ ap (λ ys. e ∷ ys) rest.0 ∙ ap (λ n. take n (e ∷ es)) (sym more),
              (tree-in e es is).1 ∙ rest.1
                  ∙ ap (λ n. drop n (e ∷ es)) (sym more),
            )
        | false ↦ λ isnt.
            let rest = none_left e.0 es h isnt parts.0 in
            let none = spread-out e es isnt in (
              (tree-out e es isnt).0 ∙ rest.0 ∙ ap (λ n. take n (e ∷ es)) (sym none),
              (tree-out e es isnt).1 ∙ ap (λ ys. e ∷ ys) rest.1
                  ∙ ap (λ n. drop n (e ∷ es)) (sym none),
            )
      ] refl

  rank-in : (e : Path × X) (es : List (Path × X)) → is_lt (path_cmp e.0 p) ≡ true → rank p (e ∷ es) ≡ suc (rank p es)
  rank-in e es is = rw is (omega arith)

  rank-out : (e : Path × X) (es : List (Path × X)) → is_lt (path_cmp e.0 p) ≡ false → rank p (e ∷ es) ≡ 0
  rank-out e es isnt = rw isnt refl

  pub begins_at_rank : (es : List (Path × X)) → BeginsAt (drop (rank p es) es)
  begins_at_rank [] = tt
  begins_at_rank (e ∷ es) =
      elim (is_lt (path_cmp e.0 p)) as (λ b. is_lt (path_cmp e.0 p) ≡ b → BeginsAt (drop (rank p (e ∷ es)) (e ∷ es))) [
        | true ↦ λ is. let more = rank-in e es is in rw more (begins_at_rank es)
        | false ↦ λ isnt. let none = rank-out e es isnt in rw none isnt
      ] refl

  pub sorted_following : (es : List (Path × X)) (n : ℕ) → is_sorted path_cmp es ≡ true → is_sorted path_cmp (drop n es) ≡ true
  sorted_following [] zero s = refl
  sorted_following [] (suc n) s = refl
  sorted_following (e ∷ es) zero s = s
  sorted_following (e ∷ es) (suc n) s = sorted_following es n (and_parts (below_all path_cmp e.0 es) (is_sorted path_cmp es) s).1

  pub tree_split : (es : List (Path × X)) → is_sorted path_cmp es ≡ true
      → let following = drop (rank p es) es in (tree_in p es ≡ take (spread p following) following)
      × (rest_in p es ≡ take (rank p es) es ++ drop (spread p following) following)
  tree_split [] s = (refl, refl)
  tree_split (e ∷ es) s =
      let parts = and_parts (below_all path_cmp e.0 es) (is_sorted path_cmp es) s in
      elim (is_lt (path_cmp e.0 p)) as (λ b. is_lt (path_cmp e.0 p) ≡ b → let following = drop (rank p (e ∷ es)) (e ∷ es) in
      (tree_in p (e ∷ es) ≡ take (spread p following) following)
      × (rest_in p (e ∷ es) ≡ take (rank p (e ∷ es)) (e ∷ es) ++ drop (spread p following) following)) [
        | true ↦ λ is.
            let more = rank-in e es is in
            let out = tree-out e es (false_from_ne_true (is_at_or_below e.0 p) (λ h. true≢false (sym is ∙ below_not_before e.0 p h))) in
            let rest = tree_split es parts.1 in
            rw more (out.0 ∙ rest.0, out.1 ∙ ap (λ ys. e ∷ ys) rest.1)
        | false ↦ λ isnt.
            let none = rank-out e es isnt in
            rw none (tree_front (e ∷ es) s isnt)
      ] refl

  pub spreads_parted : (es : List (Path × X)) → is_sorted path_cmp es ≡ true → BeginsAt es → IsPartitionedBy (λ e. is_at_or_below e.0 p) es
  spreads_parted [] s b i j d le less h = absurd (omega arith)
  spreads_parted (e ∷ es) s b zero zero d le less h = h
  spreads_parted (e ∷ es) s b zero (suc j) d le less h =
      let parts = and_parts (below_all path_cmp e.0 es) (is_sorted path_cmp es) s in
      between_below p e.0 (get_or es j d).0 b (after_not_before e.0 (get_or es j d).0 (below_at e.0 es j d parts.0 (omega arith))) h
  spreads_parted (e ∷ es) s b (suc i) zero d le less h = absurd (omega arith)
  spreads_parted (e ∷ es) s b (suc i) (suc j) d le less h =
      let parts = and_parts (below_all path_cmp e.0 es) (is_sorted path_cmp es) s in
      spreads_parted es parts.1 (begins_next e es b parts.0) i j d (omega arith) (omega arith) h

  pub any_below-tree : (es : List (Path × X)) → list_any (λ e. not (same_path e.0 p)) (tree_in p es) ≡ any_below p es
  any_below-tree [] = refl
  any_below-tree (e ∷ es) =
      elim (is_at_or_below e.0 p) as (λ b. is_at_or_below e.0 p ≡ b → list_any (λ e. not (same_path e.0 p)) (tree_in p (e ∷ es)) ≡ any_below p (e ∷ es)) [
        | true ↦ λ is. ap (list_any (λ e. not (same_path e.0 p))) (tree-in e es is).0 ∙ rw is (ap (λ b. not (same_path e.0 p) || b) (any_below-tree es))
        | false ↦ λ isnt. ap (list_any (λ e. not (same_path e.0 p))) (tree-out e es isnt).0 ∙ rw isnt (any_below-tree es)
      ] refl

  -- ---- by index

  pub piece_of : (q : Path) (es : List (Path × X)) (start count : ℕ) → q ≡ p → start ≡ rank q es → start ≤ length es
      → count ≤ length (between start (length es) es) → IsPartitionPoint (λ e. is_at_or_below e.0 p ≡ true) (λ e. is_at_or_below e.0 p ≡ false)
      (between start (length es) es) count
      → IsPieceOf p es start (start + count)
  piece_of q es start count sought index within few point =
      let following : between start (length es) es ≡ drop start es = between_to_end es start (length es) (omega arith) in
      let spread_is = prefix_len_of_point (λ (e : Path × X). is_at_or_below e.0 p) (between start (length es) es) count few point in
      record {
        begins = index ∙ ap (λ r. rank r es) sought;
        ends = ap (λ m. start + m) (spread_is ∙ ap (spread p) following);
        within = omega (arith, few, ap length following, length-drop start es);
      }

  pub piece_from_rank : (q : Path) (es : List (Path × X)) (start : ℕ) → q ≡ p → start ≡ rank q es → is_sorted path_cmp es ≡ true
      → IsPartitionedBy (λ e. is_at_or_below e.0 p) (between start (length es) es)
  piece_from_rank q es start sought index s =
      let begins : start ≡ rank p es = index ∙ ap (λ r. rank r es) sought in
      let following : drop start es ≡ between start (length es) es = sym (between_to_end es start (length es) (omega arith)) in
      subst (IsPartitionedBy (λ e. is_at_or_below e.0 p)) following
      (spreads_parted (drop start es) (sorted_following es start s) (subst (λ m. BeginsAt (drop m es)) (sym begins) (begins_at_rank es)))

  pub tree_between : (es fs : List (Path × X)) (start end : ℕ) → is_sorted path_cmp es ≡ true → fs ≡ es → IsPieceOf p fs start end → between start end es
      ≡ tree_in p es
  tree_between es fs start end s same piece =
      let at : IsPieceOf p es start end = subst (λ ys. IsPieceOf p ys start end) same piece in
      let count : end - start ≡ spread p (drop start es) = omega (arith, at.ends) in
      ap (λ m. take m (drop start es)) count ∙ ap (λ m. take (spread p (drop m es)) (drop m es)) at.begins ∙ sym (tree_split es s).0
