-- What is at and below a path, moved to another.
--     taken_out, left_over       what a rotation and a cut take out and leave;  turned_back: and how it is undone
--     put_in                     what two rotations put in
--     rest_around                the entries round a piece
--     tree_all, moved_all        what is taken is at or below the path, and what is put in at or below the other
--     moved_ordered              the order is kept
--     with_paths-rebased         new paths are the rebased ones
--     one_tree, one_read, one_rest, one_below, one_shallow, one_moved     where the piece is one entry
--     moved_up_to, not_moved_yet, all_moved, length-moved, below_at, shallow_at    where entries move one after the other
--     puts_piece                 where nothing is at or below the path, the entries go in as one piece
--     by_depths                  whether an entry would be too deep, by the depths alone
use Rattle.std.proofs.Common.{◌≡◌, ℕ, zero, suc, ◌+◌, ◌-◌, ◌<◌, ◌≤◌, nat_lt, ◌||◌, true, false, not, Result, Ok, Err, OnOk, OnErr, List, [], ◌∷◌, ◌++◌, map, length, take, drop, get_or, refl, sym, ap, subst, ◌∙◌, arith, append_assoc, length-take, length-drop, length-append}
use Rattle.std.specs.Cmp.{tied_itself}
use Rattle.std.specs.Cmp.Lexicographic.{slice_cmp, nat_list_cmp_total}
use Rattle.std.specs.FinMap.{put, is_sorted}
use Rattle.std.specs.FinMap.Entries.{below_all}
use Rattle.std.specs.declared.alloc.AllocError.{AllocError}
use Rattle.std.specs.List.{list_all, list_any, between, remove}
use Rattle.std.specs.Ordering.{is_lt, nat_cmp}
use Rattle.std.specs.declared.cmp.Ordering.TheVariants.{Less, Equal, Greater}
use Rattle.std.proofs.Math.ListN.{drop_of_length-le}
use Rattle.std.proofs.lemmas.Bool.{and_parts, or_parts, ltb-false, true≢false, true_from_ne_false, false_from_ne_true}
use Rattle.std.proofs.lemmas.Bool.Decides.{nat_tests}
use Rattle.std.proofs.lemmas.List.{append-nil, get_or_default, take-append-drop, take_all, take_at, drop_at, drop-take, take-take, drop-drop}
use Rattle.cfdp_paths.specs.Paths.{Path, path_cmp, is_at_or_below, rebased}
use Rattle.cfdp_paths.specs.PathMaps.{tree_in, rest_in, puts, moved_to, is_too_deep}
use Rattle.cfdp_paths.specs.code.PathMaps.{IsPieceOf, rank, spread, with_paths}
use Rattle.cfdp_paths.proofs.Comparing.{path_cmp-total}
use Rattle.cfdp_paths.proofs.Below.{append_from_at_or_below, at_or_below-append, length-rebased}
use Rattle.cfdp_paths.proofs.InOrder.{path_antisym, less_by, less_back, greater_back, put-less, put-greater, below_before, ordered-put, ordered-where}
use Rattle.cfdp_paths.proofs.Pieces.{between_below, below_not_before, BeginsAt, begins_at_rank, sorted_following, tree_split, tree_between}

-- ---- rotations

module _ {Y : Type 0} (ys : List Y) (start end : ℕ) (order : start ≤ end) (within : end ≤ length ys) where
  -- the front up to end is that up to start and what is between
  front_parts : take end ys ≡ take start ys ++ between start end ys
  front_parts =
      sym (take-append-drop start (take end ys))
      ∙ ap (λ (zs : List Y). zs ++ drop start (take end ys)) (take-take start end ys order)
      ∙ ap (λ (zs : List Y). take start ys ++ zs) (ap (λ n. drop start (take n ys)) (whole_sum start end order) ∙ drop-take start (end - start) ys)
    where
      whole_sum : (a b : ℕ) → a ≤ b → b ≡ a + (b - a)
      whole_sum a b h = omega arith

  -- after a rotation by end: what is kept first, then the piece
  turned : drop end ys ++ take end ys ≡ (drop end ys ++ take start ys) ++ between start end ys
  turned = ap (λ (zs : List Y). drop end ys ++ zs) front_parts ∙ sym (append_assoc (drop end ys) (take start ys) (between start end ys))

  kept_long : length (drop end ys ++ take start ys) ≡ length ys - (end - start)
  kept_long = omega (arith, length-append (drop end ys) (take start ys), length-drop end ys, length-take start ys)

  pub taken_out : (kept : ℕ) (zs : List Y) → kept ≡ length ys - (end - start) → zs ≡ drop end ys ++ take end ys → drop kept zs ≡ between start end ys
  taken_out kept zs count same =
      ap (drop kept) (same ∙ turned) ∙ drop_at (drop end ys ++ take start ys) (between start end ys) kept (kept_long ∙ sym count)

  pub left_over : (kept more : ℕ) (zs rest : List Y) → kept ≡ length ys - (end - start) → zs ≡ drop end ys ++ take end ys → rest ≡ take kept zs
      → more ≡ length rest - start → drop more rest ++ take more rest ≡ take start ys ++ drop end ys
  left_over kept more zs rest count same is turn =
      let rest_is : rest ≡ drop end ys ++ take start ys = is ∙ ap (take kept) (same ∙ turned)
      ∙ take_at (drop end ys ++ take start ys) (between start end ys) kept (kept_long ∙ sym count) in
      let long : length (drop end ys) ≡ more = omega (
        arith,
        turn,
        ap length rest_is,
        kept_long,
        length-drop end ys,
        length-append (drop end ys) (take start ys),
        length-take start ys,
      ) in
      ap (λ (xs : List Y). drop more xs ++ take more xs) rest_is
      ∙ ap (λ (xs : List Y). xs ++ take more (drop end ys ++ take start ys)) (drop_at (drop end ys) (take start ys) more long)
      ∙ ap (λ (xs : List Y). take start ys ++ xs) (take_at (drop end ys) (take start ys) more long)

  pub turned_back : (more : ℕ) (zs : List Y) → zs ≡ drop end ys ++ take end ys → more ≡ length zs - end → drop more zs ++ take more zs ≡ ys
  turned_back more zs same turn =
      let long : length (drop end ys) ≡ more = omega (
        arith,
        turn,
        ap length same,
        length-append (drop end ys) (take end ys),
        length-drop end ys,
        length-take end ys,
      ) in
      ap (λ (xs : List Y). drop more xs ++ take more xs) same
      ∙ ap (λ (xs : List Y). xs ++ take more (drop end ys ++ take end ys)) (drop_at (drop end ys) (take end ys) more long)
      ∙ ap (λ (xs : List Y). take end ys ++ xs) (take_at (drop end ys) (take end ys) more long)
      ∙ take-append-drop end ys

pub put_in : {Y : Type 0} (ys ms zs : List Y) (start following : ℕ) → start ≤ length ys → following ≡ length ys - start
    → zs ≡ (drop start ys ++ take start ys) ++ ms
    → drop following zs ++ take following zs ≡ take start ys ++ (ms ++ drop start ys)
put_in {Y} ys ms zs start following within count same =
    let long : length (drop start ys) ≡ following = omega (arith, count, length-drop start ys) in
    let zs_is : zs ≡ drop start ys ++ (take start ys ++ ms) = same ∙ append_assoc (drop start ys) (take start ys) ms in
    ap (λ (xs : List Y). drop following xs ++ take following xs) zs_is
    ∙ ap (λ (xs : List Y). xs ++ take following (drop start ys ++ (take start ys ++ ms))) (drop_at (drop start ys) (take start ys ++ ms) following long)
    ∙ ap (λ (xs : List Y). (take start ys ++ ms) ++ xs) (take_at (drop start ys) (take start ys ++ ms) following long)
    ∙ append_assoc (take start ys) ms (drop start ys)

-- ---- the order after a move

-- what follows the same path compares alike
pub path_cmp-append : (q a b : Path) → path_cmp (q ++ a) (q ++ b) ≡ path_cmp a b
path_cmp-append [] a b = refl
path_cmp-append (n ∷ q) a b =
    let same : slice_cmp nat_cmp n n ≡ Equal = tied_itself nat_list_cmp_total n in
    rw same (path_cmp-append q a b)

pub rebased_cmp : (p q x y : Path) → is_at_or_below x p ≡ true → is_at_or_below y p ≡ true → path_cmp (rebased p q x) (rebased p q y) ≡ path_cmp x y
rebased_cmp p q x y h k =
    path_cmp-append q (drop (length p) x) (drop (length p) y) ∙ sym (path_cmp-append p (drop (length p) x) (drop (length p) y))
    ∙ ap (λ z. path_cmp z (p ++ drop (length p) y)) (sym (append_from_at_or_below x p h)) ∙ ap (path_cmp x) (sym (append_from_at_or_below y p k))

-- what is at or below q is after what is before q
first_before : (q m x : Path) → is_at_or_below m q ≡ true → is_lt (path_cmp x q) ≡ true → path_cmp m x ≡ Greater
first_before q m x h is =
    less_back x m (elim (path_cmp q m) as (λ o. path_cmp q m ≡ o → path_cmp x m ≡ Less) [
      | Less ↦ λ r. path_cmp-total.trans x q m (less_by _ is) r
      | Equal ↦ λ r. ap (path_cmp x) (sym (path_antisym q m r)) ∙ less_by _ is
      | Greater ↦ λ r. absurd (true≢false (sym (ap is_lt (greater_back q m r)) ∙ below_not_before m q h))
    ] refl)

module _ {X : Type 0} where
  pub with_paths-rebased : (p q : Path) (es : List (Path × X)) → with_paths (map (λ e. rebased p q e.0) es) es ≡ moved_to p q es
  with_paths-rebased p q [] = refl
  with_paths-rebased p q (e ∷ es) = ap (λ ys. (rebased p q e.0, e.1) ∷ ys) (with_paths-rebased p q es)

  pub tree_all : (p : Path) (es : List (Path × X)) → list_all (λ e. is_at_or_below e.0 p) (tree_in p es) ≡ true
  tree_all p [] = refl
  tree_all p (e ∷ es) =
      elim (is_at_or_below e.0 p) as (λ b. is_at_or_below e.0 p ≡ b → list_all (λ e. is_at_or_below e.0 p) (tree_in p (e ∷ es)) ≡ true) [
        | true ↦ λ is. rw is (rw is (tree_all p es))
        | false ↦ λ isnt. rw isnt (tree_all p es)
      ] refl

  pub moved_all : (p q : Path) (es : List (Path × X)) → list_all (λ e. is_at_or_below e.0 q) (moved_to p q es) ≡ true
  moved_all p q [] = refl
  moved_all p q (e ∷ es) = let first : is_at_or_below (rebased p q e.0) q ≡ true = at_or_below-append q (drop (length p) e.0) in rw first (moved_all p q es)

  below_moved : (p q : Path) (e : Path × X) (es : List (Path × X)) → is_at_or_below e.0 p ≡ true → list_all (λ e. is_at_or_below e.0 p) es ≡ true →
      below_all path_cmp e.0 es ≡ true
      → below_all path_cmp (rebased p q e.0) (moved_to p q es) ≡ true
  below_moved p q e [] h all below = refl
  below_moved p q e (f ∷ es) h all below =
      let parts = and_parts (is_lt (path_cmp e.0 f.0)) (below_all path_cmp e.0 es) below in
      let of_all = and_parts (is_at_or_below f.0 p) (list_all (λ e. is_at_or_below e.0 p) es) all in
      let first : path_cmp (rebased p q e.0) (rebased p q f.0) ≡ Less = rebased_cmp p q e.0 f.0 h of_all.0 ∙ less_by _ parts.0 in
      rw first (below_moved p q e es h of_all.1 parts.1)

  pub moved_ordered : (p q : Path) (es : List (Path × X)) → list_all (λ e. is_at_or_below e.0 p) es ≡ true → is_sorted path_cmp es ≡ true →
      is_sorted path_cmp (moved_to p q es) ≡ true
  moved_ordered p q [] all s = refl
  moved_ordered p q (e ∷ es) all s =
      let parts = and_parts (below_all path_cmp e.0 es) (is_sorted path_cmp es) s in
      let of_all = and_parts (is_at_or_below e.0 p) (list_all (λ e. is_at_or_below e.0 p) es) all in
      let first = below_moved p q e es of_all.0 of_all.1 parts.0 in
      rw first (moved_ordered p q es of_all.1 parts.1)

  pub rest_around : (p : Path) (es : List (Path × X)) (start end : ℕ) → is_sorted path_cmp es ≡ true → IsPieceOf p es start end → take start es ++ drop end es
      ≡ rest_in p es
  rest_around p es start end s piece =
      ap (λ n. take start es ++ drop n es) piece.ends
      ∙ ap (λ ys. take start es ++ ys) (sym (drop-drop (spread p (drop start es)) start es))
      ∙ ap (λ n. take n es ++ drop (spread p (drop n es)) (drop n es)) piece.begins
      ∙ sym (tree_split p es s).1

  -- ---- one piece

  -- the entries are before the path
  abbrev AllBefore : Path → List (Path × X) → Type 0
  AllBefore k [] = Unit {0}
  AllBefore k (a ∷ as') = (path_cmp k a.0 ≡ Greater) × AllBefore k as'

  put_between : (k : Path) (v : X) (front back : List (Path × X)) → AllBefore k front → below_all path_cmp k back ≡ true → put path_cmp k v (front ++ back)
      ≡ front ++ (k, v) ∷ back
  put_between k v [] [] before below = refl
  put_between k v [] (b ∷ back) before below = put-less k v b back (less_by _ (and_parts (is_lt (path_cmp k b.0)) (below_all path_cmp k back) below).0)
  put_between k v (a ∷ front) back before below = put-greater k v a (front ++ back) before.0 ∙ ap (λ ys. a ∷ ys) (put_between k v front back before.1 below)

  before_more : (k : Path) (front : List (Path × X)) (m : Path × X) → AllBefore k front → path_cmp k m.0 ≡ Greater → AllBefore k (front ++ m ∷ [])
  before_more k [] m before last = (last, tt)
  before_more k (a ∷ front) m before last = (before.0, before_more k front m before.1 last)

  -- between the front and the back there is room for all of them
  abbrev Fit : List (Path × X) → List (Path × X) → List (Path × X) → Type 0
  Fit front [] back = Unit {0}
  Fit front (m ∷ ms) back = AllBefore m.0 front × (below_all path_cmp m.0 back ≡ true) × Fit front ms back

  fit_more : (front ms back : List (Path × X)) (m : Path × X) → Fit front ms back → below_all path_cmp m.0 ms ≡ true → Fit (front ++ m ∷ []) ms back
  fit_more front [] back m fit below = tt
  fit_more front (l ∷ ms) back m fit below =
      let parts = and_parts (is_lt (path_cmp m.0 l.0)) (below_all path_cmp m.0 ms) below in
      (before_more l.0 front m fit.0 (less_back m.0 l.0 (less_by _ parts.0)), fit.1, fit_more front ms back m fit.2 parts.1)

  puts_between : (front ms back : List (Path × X)) → is_sorted path_cmp ms ≡ true → Fit front ms back → puts (front ++ back) ms ≡ front ++ (ms ++ back)
  puts_between front [] back s fit = refl
  puts_between front (m ∷ ms) back s fit =
      let parts = and_parts (below_all path_cmp m.0 ms) (is_sorted path_cmp ms) s in
      ap (λ ys. puts ys ms) (put_between m.0 m.1 front back fit.0 fit.1 ∙ sym (append_assoc front (m ∷ []) back))
      ∙ puts_between (front ++ m ∷ []) ms back parts.1 (fit_more front ms back m fit.2 parts.0)
      ∙ append_assoc front (m ∷ []) (ms ++ back)

  front_before : (q m : Path) (es : List (Path × X)) → is_at_or_below m q ≡ true → AllBefore m (take (rank q es) es)
  front_before q m [] h = tt
  front_before q m (e ∷ es) h =
      elim (is_lt (path_cmp e.0 q)) as (λ b. is_lt (path_cmp e.0 q) ≡ b → AllBefore m (take (rank q (e ∷ es)) (e ∷ es))) [
        | true ↦ λ is.
            let more : rank q (e ∷ es) ≡ suc (rank q es) = rw is (omega arith) in
            rw more (first_before q m e.0 h is, front_before q m es h)
        | false ↦ λ isnt.
            let none : rank q (e ∷ es) ≡ 0 = rw isnt refl in
            rw none tt
      ] refl

  some_spread : (q : Path) (e : Path × X) (es : List (Path × X)) → is_at_or_below e.0 q ≡ true → spread q (e ∷ es) ≡ 0 → ⊥
  some_spread q e es is none = let more : spread q (e ∷ es) ≡ suc (spread q es) = rw is (omega arith) in omega arith

  back_is_apart : (q m : Path) (es : List (Path × X)) → is_sorted path_cmp es ≡ true → BeginsAt q es → spread q es ≡ 0 → is_at_or_below m q ≡ true →
      below_all path_cmp m es ≡ true
  back_is_apart q m [] s begins none h = refl
  back_is_apart q m (e ∷ es) s begins none h =
      let parts = and_parts (below_all path_cmp e.0 es) (is_sorted path_cmp es) s in
      let out : is_at_or_below e.0 q ≡ false = false_from_ne_true (is_at_or_below e.0 q) (λ is. some_spread q e es is none) in
      let less : is_lt (path_cmp m e.0) ≡ true =
      true_from_ne_false (is_lt (path_cmp m e.0)) (λ isnt. true≢false (sym (between_below q e.0 m begins isnt h) ∙ out)) in
      rw less (below_before m e.0 es (less_by _ less) parts.0)

  fits_all : (q : Path) (es ms : List (Path × X)) → is_sorted path_cmp es ≡ true → spread q (drop (rank q es) es) ≡ 0 → list_all (λ e. is_at_or_below e.0 q) ms
      ≡ true
      → Fit (take (rank q es) es) ms (drop (rank q es) es)
  fits_all q es [] s none all = tt
  fits_all q es (m ∷ ms) s none all =
      let of_all = and_parts (is_at_or_below m.0 q) (list_all (λ e. is_at_or_below e.0 q) ms) all in (
        front_before q m.0 es of_all.0,
        back_is_apart q m.0 (drop (rank q es) es) (sorted_following q es (rank q es) s) (begins_at_rank q es) none of_all.0,
        fits_all q es ms s none of_all.1,
      )

  pub puts_piece : (q : Path) (es ms : List (Path × X)) (start end : ℕ) → is_sorted path_cmp es ≡ true → is_sorted path_cmp ms ≡ true →
      list_all (λ e. is_at_or_below e.0 q) ms ≡ true
      → IsPieceOf q es start end → start ≡ end → take start es ++ (ms ++ drop start es) ≡ puts es ms
  puts_piece q es ms start end s t all piece empty =
      let none : spread q (drop (rank q es) es) ≡ 0 = ap (λ n. spread q (drop n es)) (sym piece.begins) ∙ omega (arith, piece.ends, empty) in
      ap (λ n. take n es ++ (ms ++ drop n es)) piece.begins
      ∙ sym (puts_between (take (rank q es) es) ms (drop (rank q es) es) t (fits_all q es ms s none all))
      ∙ ap (λ ys. puts ys ms) (take-append-drop (rank q es) es)

  -- ---- all together

  pub tree_of : (p : Path) (es fs gs : List (Path × X)) (start end : ℕ) → is_sorted path_cmp es ≡ true → fs ≡ es → gs ≡ es → IsPieceOf p fs start end →
      between start end gs ≡ tree_in p es
  tree_of p es fs gs start end s same same' piece = ap (between start end) same' ∙ tree_between p es fs start end s same piece

  pub rest_of : (p : Path) (es fs : List (Path × X)) (start end : ℕ) → is_sorted path_cmp es ≡ true → fs ≡ es → IsPieceOf p fs start end → take start es
      ++ drop end es ≡ rest_in p es
  rest_of p es fs start end s same piece = rest_around p es start end s (subst (λ ys. IsPieceOf p ys start end) same piece)

  pub moved_is : (p q : Path) (es taken tree : List (Path × X)) (paths : List Path) → paths ≡ map (λ e. rebased p q e.0) tree → tree ≡ tree_in p es → taken
      ≡ tree_in p es
      → with_paths paths taken ≡ moved_to p q (tree_in p es)
  moved_is p q es taken tree paths made same same' =
      ap (λ ps. with_paths ps taken) (made ∙ ap (map (λ e. rebased p q e.0)) same) ∙ ap (with_paths (map (λ e. rebased p q e.0) (tree_in p es))) same'
      ∙ with_paths-rebased p q (tree_in p es)

  pub tree_ordered : (p q : Path) (es : List (Path × X)) → is_sorted path_cmp es ≡ true → is_sorted path_cmp (moved_to p q (tree_in p es)) ≡ true
  tree_ordered p q es s = moved_ordered p q (tree_in p es) (tree_all p es) (ordered-where (λ x. is_at_or_below x p) es (tree_in p es) refl s)

  pub length-parts : (p q : Path) (es : List (Path × X)) → length (rest_in p es) + length (moved_to p q (tree_in p es)) ≡ length es
  length-parts p q [] = refl
  length-parts p q (e ∷ es) =
      elim (is_at_or_below e.0 p) as (λ b. is_at_or_below e.0 p ≡ b → length (rest_in p (e ∷ es)) + length (moved_to p q (tree_in p (e ∷ es)))
      ≡ length (e ∷ es)) [
        | true ↦ λ is. rw is (omega (arith, length-parts p q es))
        | false ↦ λ isnt. rw isnt (omega (arith, length-parts p q es))
      ] refl

  pub ordered-puts : (es ms : List (Path × X)) → is_sorted path_cmp es ≡ true → is_sorted path_cmp (puts es ms) ≡ true
  ordered-puts es [] s = s
  ordered-puts es (m ∷ ms) s = ordered-puts (put path_cmp m.0 m.1 es) ms (ordered-put m.0 m.1 es (put path_cmp m.0 m.1 es) refl s)

  pub ordered-relocated : (r : Result (Unit {0}) AllocError) (p q : Path) (es fs : List (Path × X)) → is_sorted path_cmp es ≡ true
      → OnOk r (fs ≡ puts (rest_in p es) (moved_to p q (tree_in p es))) → OnErr r (fs ≡ es) → is_sorted path_cmp fs ≡ true
  ordered-relocated (Ok done) p q es fs s ok err =
      ap (is_sorted path_cmp) ok ∙ ordered-puts (rest_in p es) (moved_to p q (tree_in p es))
      (ordered-where (λ x. not (is_at_or_below x p)) es (rest_in p es) refl s)
  ordered-relocated (Err want) p q es fs s ok err = ap (is_sorted path_cmp) err ∙ s

  -- ---- the piece is one entry

  one_between : (es : List (Path × X)) (i : ℕ) (x : Path × X) → i < length es → take 1 (drop i es) ≡ get_or es i x ∷ []
  one_between [] i x h = absurd (omega arith)
  one_between (e ∷ es) zero x h = refl
  one_between (e ∷ es) (suc i) x h = one_between es i x (omega arith)

  pub one_tree : (p : Path) (es : List (Path × X)) (i : ℕ) (x y : Path × X) → is_sorted path_cmp es ≡ true → IsPieceOf p es i (i + 1) → y ≡ get_or es i x →
      tree_in p es ≡ y ∷ []
  one_tree p es i x y s piece read =
      sym (tree_between p es es i (i + 1) s refl piece) ∙ ap (λ n. take n (drop i es)) (one_more i) ∙ one_between es i x (omega (arith, piece.within))
      ∙ ap (λ z. z ∷ []) (sym read)
    where
      one_more : (n : ℕ) → n + 1 - n ≡ 1
      one_more n = omega arith

  pub one_read : (p : Path) (es : List (Path × X)) (i : ℕ) (y z : Path × X) → IsPieceOf p es i (i + 1) → y ≡ get_or es i y → z ≡ get_or es i z → y ≡ z
  one_read p es i y z piece read read' = read ∙ get_or_default es i y z (omega (arith, piece.within)) ∙ sym read'

  pub one_rest : (p : Path) (es : List (Path × X)) (i : ℕ) → is_sorted path_cmp es ≡ true → IsPieceOf p es i (i + 1) → remove es i ≡ rest_in p es
  one_rest p es i s piece = ap (λ n. take i es ++ drop n es) (one_up i) ∙ rest_around p es i (i + 1) s piece
    where
      one_up : (n : ℕ) → suc n ≡ n + 1
      one_up n = omega arith

  pub one_below : (p : Path) (es : List (Path × X)) (e : Path × X) → tree_in p es ≡ e ∷ [] → is_at_or_below e.0 p ≡ true
  one_below p es e tree = (and_parts (is_at_or_below e.0 p) true (sym (ap (list_all (λ f. is_at_or_below f.0 p)) tree) ∙ tree_all p es)).0

  pub one_shallow : (p q : Path) (es : List (Path × X)) (e : Path × X) → tree_in p es ≡ e ∷ [] → is_too_deep p q (tree_in p es) ≡ false → length e.0
      + length q ≤ 8 + length p
  one_shallow p q es e tree shallow =
      let short : length (rebased p q e.0) ≤ 8 = ltb-false 8 (length (rebased p q e.0)) (or_parts _ false (sym (ap (is_too_deep p q) tree) ∙ shallow)).0 in
      omega (arith, short, length-append q (drop (length p) e.0), length-drop (length p) e.0)

  pub one_moved : (p q : Path) (es : List (Path × X)) (e f : Path × X) (x : Path) → tree_in p es ≡ e ∷ [] → f ≡ e → x ≡ rebased p q e.0 →
      (rest : List (Path × X)) → rest ≡ rest_in p es
      → put path_cmp x f.1 rest ≡ puts (rest_in p es) (moved_to p q (tree_in p es))
  one_moved p q es e f x tree same made rest left =
      ap (λ ys. put path_cmp x f.1 ys) left ∙ ap (λ (g : Path × X). put path_cmp x g.1 (rest_in p es)) same
      ∙ ap (λ y. put path_cmp y e.1 (rest_in p es)) made ∙ ap (λ ts. puts (rest_in p es) (moved_to p q ts)) (sym tree)

  -- ---- one entry after the other, at its index

  -- the entries before the index are moved
  abbrev pub moved_up_to : Path → Path → List (Path × X) → ℕ → List (Path × X)
  moved_up_to p q es i = moved_to p q (take i es) ++ drop i es

  pub not_moved_yet : (p q : Path) (es : List (Path × X)) (i : ℕ) (e : Path × X) → i < length es → get_or (moved_up_to p q es i) i e ≡ get_or es i e
  not_moved_yet p q [] i e within = absurd (omega arith)
  not_moved_yet p q (f ∷ es) zero e within = refl
  not_moved_yet p q (f ∷ es) (suc i) e within = not_moved_yet p q es i e (omega arith)

  pub below_at : (p : Path) (es : List (Path × X)) (i : ℕ) (e : Path × X) → list_all (λ f. is_at_or_below f.0 p) es ≡ true → i < length es →
      is_at_or_below (get_or es i e).0 p ≡ true
  below_at p [] i e all within = absurd (omega arith)
  below_at p (f ∷ es) zero e all within = (and_parts (is_at_or_below f.0 p) (list_all (λ g. is_at_or_below g.0 p) es) all).0
  below_at p (f ∷ es) (suc i) e all within = below_at p es i e (and_parts (is_at_or_below f.0 p) (list_all (λ g. is_at_or_below g.0 p) es) all).1 (omega arith)

  pub shallow_at : (p q : Path) (es : List (Path × X)) (i : ℕ) (e : Path × X) → is_too_deep p q es ≡ false → i < length es → length (get_or es i e).0
      + length q ≤ 8 + length p
  shallow_at p q [] i e shallow within = absurd (omega arith)
  shallow_at p q (f ∷ es) zero e shallow within =
      let short : length (rebased p q f.0) ≤ 8 = ltb-false 8 (length (rebased p q f.0)) (or_parts _ (is_too_deep p q es) shallow).0 in
      omega (arith, short, length-append q (drop (length p) f.0), length-drop (length p) f.0)
  shallow_at p q (f ∷ es) (suc i) e shallow within = shallow_at p q es i e (or_parts _ (is_too_deep p q es) shallow).1 (omega arith)

  pub all_moved : (p q : Path) (es : List (Path × X)) (i : ℕ) → length es ≤ i → moved_up_to p q es i ≡ moved_to p q es
  all_moved p q es i past =
      ap (λ (fs : List (Path × X)). moved_to p q fs ++ drop i es) (take_all i es past)
      ∙ ap (λ (fs : List (Path × X)). moved_to p q es ++ fs) (drop_of_length-le es past)
      ∙ append-nil (moved_to p q es)

  pub length-moved : (p q : Path) (es : List (Path × X)) → length (moved_to p q es) ≡ length es
  length-moved p q [] = refl
  length-moved p q (e ∷ es) = ap suc (length-moved p q es)

-- ---- depth

-- with b names instead of the first a, c names are more than 8
same_test : (a b c : ℕ) → b ≤ 8 → nat_lt 8 (b + (c - a)) ≡ nat_lt (8 + a) (c + b)
same_test a b c few = grind (arith, nat_tests)

-- whether an entry would be too deep, by the depths alone
pub by_depths : {X : Type 0} → (p q : Path) (es : List (Path × X)) → length q ≤ 8
    → is_too_deep p q es ≡ list_any (λ e. nat_lt (8 + length p) (length e.0 + length q)) es
by_depths p q [] few = refl
by_depths p q (e ∷ es) few =
    ap (λ b. b || is_too_deep p q es) (ap (λ n. nat_lt 8 n) (length-rebased p q e.0) ∙ same_test (length p) (length q) (length e.0) few)
    ∙ ap (λ b. nat_lt (8 + length p) (length e.0 + length q) || b) (by_depths p q es few)
