-- Entries in path order, and the index of a path among them.
--     path_antisym                 only a path ties with itself
--     less_by                      the test of a comparison
--     less_back, greater_back      a comparison the other way round
--     prefix_len_of_point          what `partition_point` finds
--     ranks_parted                 the entries before a path are at the front;  all_before: where the last is one
--     put-.., find-.., without-..  by the comparison with the first entry
--     there, found_at              what is found is at its index
--     put-there, put-new, without_at  what a change of one entry does
use Rattle.std.specs.List.{slice_get}
use Rattle.std.proofs.lemmas.Option.{get_or_from_slice_get}
use Rattle.std.proofs.Common.{◌≡◌, ◌≢◌, ℕ, zero, suc, ◌-◌, ◌<◌, ◌≤◌, Bool, true, false, List, [], ◌∷◌, ◌++◌, Some, None, is_some, length, take, drop, set, get_or, refl, sym, ap, subst, ◌∙◌, arith}
use Rattle.std.specs.Cmp.{tied_itself, Equal-is}
use Rattle.std.specs.FinMap.{find, put, is_sorted, IsAntisymmetric, slice_cmp-IsAntisymmetric, nat_cmp-IsAntisymmetric}
use Rattle.std.specs.FinMap.Entries.{below_all, where_key, is_sorted-put, is_sorted-where_key}
use Rattle.std.specs.List.{prefix_len}
use Rattle.std.specs.List.Sorted.{IsPartitionPoint, IsPartitionedBy}
use Rattle.std.specs.Ordering.{is_lt, is_eq, ordering_reverse}
use Rattle.std.specs.declared.cmp.Ordering.{Ordering}
use Rattle.std.specs.declared.cmp.Ordering.TheVariants.{Less, Equal, Greater}
use Rattle.std.proofs.lemmas.Bool.{and_parts, true≢false}
use Rattle.std.proofs.lemmas.Float.{T_from_true}
use Rattle.std.proofs.lemmas.List.{get_or_default}
use Rattle.std.proofs.Math.Dec.{T}
use Rattle.std.specs.List.{insert, remove}
use Rattle.cfdp_paths.specs.Paths.{Path, path_cmp}
use Rattle.cfdp_paths.specs.PathMaps.{without}
use Rattle.cfdp_paths.specs.code.PathMaps.{rank, IsIndexOf}
use Rattle.cfdp_paths.proofs.Comparing.{path_cmp-total}

pub path_antisym : IsAntisymmetric path_cmp
path_antisym = slice_cmp-IsAntisymmetric (slice_cmp-IsAntisymmetric nat_cmp-IsAntisymmetric)

pub less_by : (o : Ordering) → is_lt o ≡ true → o ≡ Less
less_by Less h = refl
less_by Equal h = absurd (true≢false (sym h))
less_by Greater h = absurd (true≢false (sym h))

pub less_back : (p q : Path) → path_cmp p q ≡ Less → path_cmp q p ≡ Greater
less_back p q h = path_cmp-total.antisymm q p ∙ ap ordering_reverse h

pub equal_back : (p q : Path) → path_cmp p q ≡ Equal → path_cmp q p ≡ Equal
equal_back p q h = path_cmp-total.antisymm q p ∙ ap ordering_reverse h

pub greater_back : (p q : Path) → path_cmp p q ≡ Greater → path_cmp q p ≡ Less
greater_back p q h = path_cmp-total.antisymm q p ∙ ap ordering_reverse h

-- no path is before itself
pub less_itself : (k : Path) → path_cmp k k ≡ Less → ⊥
less_itself k p = absurd (true≢false (sym (ap is_lt (sym (tied_itself path_cmp-total k) ∙ p))))

pub true_from_T : (b : Bool) → T b → b ≡ true
true_from_T true h = refl
true_from_T false h = absurd h

-- ---- where a test stops to hold

module _ {Y : Type 0} (test : Y → Bool) where
  pub prefix_len_of_point : (ys : List Y) (i : ℕ) → i ≤ length ys → IsPartitionPoint (λ y. test y ≡ true) (λ y. test y ≡ false) ys i → i ≡ prefix_len test ys
  prefix_len_of_point [] zero h point = refl
  prefix_len_of_point [] (suc i) h point = absurd (omega arith)
  prefix_len_of_point (y ∷ ys) zero h point =
      let no : test y ≡ false = point.1 0 y (omega arith) (omega arith) in
      rw no refl
  prefix_len_of_point (y ∷ ys) (suc i) h point =
      let yes : test y ≡ true = point.0 0 y (omega arith) (omega arith) in
      let rest = prefix_len_of_point ys i (omega arith) (
        (λ j d a b. point.0 (suc j) d (omega arith) (omega arith)),
        (λ j d a b. point.1 (suc j) d (omega arith) (omega arith)),
      ) in
      rw yes (omega (arith, rest))

module _ {X : Type 0} where
  -- ---- by the comparison with the first entry

  pub put-less : (k : Path) (v : X) (e : Path × X) (es : List (Path × X)) → path_cmp k e.0 ≡ Less → put path_cmp k v (e ∷ es) ≡ (k, v) ∷ e ∷ es
  put-less k v e es p = rw p refl

  pub put-equal : (k : Path) (v : X) (e : Path × X) (es : List (Path × X)) → path_cmp k e.0 ≡ Equal → put path_cmp k v (e ∷ es) ≡ (e.0, v) ∷ es
  put-equal k v e es p = rw p refl

  pub put-greater : (k : Path) (v : X) (e : Path × X) (es : List (Path × X)) → path_cmp k e.0 ≡ Greater → put path_cmp k v (e ∷ es) ≡ e ∷ put path_cmp k v es
  put-greater k v e es p = rw p refl

  pub rank-less : (k : Path) (e : Path × X) (es : List (Path × X)) → path_cmp k e.0 ≡ Less → rank k (e ∷ es) ≡ 0
  rank-less k e es p = let back = less_back k e.0 p in rw back refl

  pub rank-equal : (k : Path) (e : Path × X) (es : List (Path × X)) → path_cmp k e.0 ≡ Equal → rank k (e ∷ es) ≡ 0
  rank-equal k e es p = let back = equal_back k e.0 p in rw back refl

  pub rank-greater : (k : Path) (e : Path × X) (es : List (Path × X)) → path_cmp k e.0 ≡ Greater → rank k (e ∷ es) ≡ suc (rank k es)
  rank-greater k e es p = let back = greater_back k e.0 p in rw back (omega arith)

  pub find-less : (k : Path) (e : Path × X) (es : List (Path × X)) → path_cmp k e.0 ≡ Less → find path_cmp k (e ∷ es) ≡ find path_cmp k es
  find-less k e es p = rw p refl

  pub find-equal : (k : Path) (e : Path × X) (es : List (Path × X)) → path_cmp k e.0 ≡ Equal → find path_cmp k (e ∷ es) ≡ Some e.1
  find-equal k e es p = rw p refl

  pub find-greater : (k : Path) (e : Path × X) (es : List (Path × X)) → path_cmp k e.0 ≡ Greater → find path_cmp k (e ∷ es) ≡ find path_cmp k es
  find-greater k e es p = rw p refl

  pub without-less : (k : Path) (e : Path × X) (es : List (Path × X)) → path_cmp k e.0 ≡ Less → without k (e ∷ es) ≡ e ∷ without k es
  without-less k e es p = rw p refl

  pub without-equal : (k : Path) (e : Path × X) (es : List (Path × X)) → path_cmp k e.0 ≡ Equal → without k (e ∷ es) ≡ without k es
  without-equal k e es p = rw p refl

  pub without-greater : (k : Path) (e : Path × X) (es : List (Path × X)) → path_cmp k e.0 ≡ Greater → without k (e ∷ es) ≡ e ∷ without k es
  without-greater k e es p = rw p refl

  -- ---- what is before all entries

  -- k is before x, and x before all entries
  pub below_before : (k x : Path) (es : List (Path × X)) → path_cmp k x ≡ Less → below_all path_cmp x es ≡ true → below_all path_cmp k es ≡ true
  below_before k x [] p h = refl
  below_before k x (e ∷ es) p h =
      let parts = and_parts (is_lt (path_cmp x e.0)) (below_all path_cmp x es) h in
      let q : path_cmp k e.0 ≡ Less = path_cmp-total.trans k x e.0 p (less_by (path_cmp x e.0) parts.0) in
      rw q (below_before k x es p parts.1)

  pub below_same : (k : Path) (e : Path × X) (es : List (Path × X)) → path_cmp k e.0 ≡ Equal → below_all path_cmp e.0 es ≡ true → below_all path_cmp k es ≡ true
  below_same k e es p h = subst (λ x. below_all path_cmp x es ≡ true) (sym (path_antisym k e.0 p)) h

  pub not_in : (k : Path) (es : List (Path × X)) → below_all path_cmp k es ≡ true → find path_cmp k es ≡ None
  not_in k [] h = refl
  not_in k (e ∷ es) h =
      let parts = and_parts (is_lt (path_cmp k e.0)) (below_all path_cmp k es) h in
      find-less k e es (less_by (path_cmp k e.0) parts.0) ∙ not_in k es parts.1

  before_all : (k x : Path) (es : List (Path × X)) → path_cmp k x ≡ Less → below_all path_cmp x es ≡ true → find path_cmp k es ≡ None
  before_all k x es p h = not_in k es (below_before k x es p h)

  all_kept : (k : Path) (es : List (Path × X)) → below_all path_cmp k es ≡ true → without k es ≡ es
  all_kept k [] h = refl
  all_kept k (e ∷ es) h =
      let parts = and_parts (is_lt (path_cmp k e.0)) (below_all path_cmp k es) h in
      without-less k e es (less_by (path_cmp k e.0) parts.0) ∙ ap (λ x. e ∷ x) (all_kept k es parts.1)

  pub below_at : (k : Path) (es : List (Path × X)) (i : ℕ) (d : Path × X) → below_all path_cmp k es ≡ true → i < length es → path_cmp k (get_or es i d).0 ≡ Less
  below_at k [] i d h less = absurd (omega arith)
  below_at k (e ∷ es) zero d h less = less_by (path_cmp k e.0) (and_parts (is_lt (path_cmp k e.0)) (below_all path_cmp k es) h).0
  below_at k (e ∷ es) (suc i) d h less = below_at k es i d (and_parts (is_lt (path_cmp k e.0)) (below_all path_cmp k es) h).1 (omega arith)

  -- ---- the index of a path

  -- what is before k is at the front
  pub ranks_parted : (k : Path) (es : List (Path × X)) → is_sorted path_cmp es ≡ true → IsPartitionedBy (λ e. is_lt (path_cmp e.0 k)) es
  ranks_parted k [] s i j d le less h = absurd (omega arith)
  ranks_parted k (e ∷ es) s zero zero d le less h = h
  ranks_parted k (e ∷ es) s zero (suc j) d le less h =
      let parts = and_parts (below_all path_cmp e.0 es) (is_sorted path_cmp es) s in
      let front : path_cmp e.0 (get_or es j d).0 ≡ Less = below_at e.0 es j d parts.0 (omega arith) in
      ap is_lt (path_cmp-total.trans e.0 (get_or es j d).0 k front (less_by _ h))
  ranks_parted k (e ∷ es) s (suc i) zero d le less h = absurd (omega arith)
  ranks_parted k (e ∷ es) s (suc i) (suc j) d le less h =
      ranks_parted k es (and_parts (below_all path_cmp e.0 es) (is_sorted path_cmp es) s).1 i j d (omega arith) (omega arith) h

  -- where the last entry is before k, all do
  pub all_before : (k : Path) (es : List (Path × X)) (last : Path × X) → is_sorted path_cmp es ≡ true → slice_get es (length es - 1) ≡ Some last →
      is_lt (path_cmp last.0 k) ≡ true → length es ≡ rank k es
  all_before k es last sorted is less =
      prefix_len_of_point (λ e. is_lt (path_cmp e.0 k)) es (length es) (omega arith) (
        (λ i d from within. ranks_parted k es sorted i (length es - 1) d (omega arith) (omega arith)
            (subst (λ (e : Path × X). is_lt (path_cmp e.0 k) ≡ true) (sym (get_or_from_slice_get es (length es - 1) last d is)) less)),
        (λ i d from within. absurd (omega arith)),
      )

  module _ (k : Path) (d : Path × X) where
    -- what ties with the path at its index is found, and nothing else
    pub found_at : (es : List (Path × X)) → rank k es < length es → path_cmp (get_or es (rank k es) d).0 k ≡ Equal → find path_cmp k es
        ≡ Some (get_or es (rank k es) d).1
    found_at [] h e = absurd (omega arith)
    found_at (f ∷ es) h e =
        elim (path_cmp k f.0) as (λ o. path_cmp k f.0 ≡ o → find path_cmp k (f ∷ es) ≡ Some (get_or (f ∷ es) (rank k (f ∷ es)) d).1) [
          | Less ↦ λ p.
              let first = rank-less k f es p in
              let tied : path_cmp f.0 k ≡ Equal = rw first at e in
              absurd (true≢false (sym (ap is_lt (sym (equal_back f.0 k tied) ∙ p))))
          | Equal ↦ λ p. find-equal k f es p ∙ ap (λ n. Some (get_or (f ∷ es) n d).1) (sym (rank-equal k f es p))
          | Greater ↦ λ p.
              let more = rank-greater k f es p in
              let less : rank k es < length es = omega (arith, more) in
              find-greater k f es p ∙ found_at es less (rw more at e) ∙ ap (λ n. Some (get_or (f ∷ es) n d).1) (sym more)
        ] refl

    pub put-there : (v : X) (es : List (Path × X)) → rank k es < length es → (get_or es (rank k es) d).0 ≡ k → put path_cmp k v es ≡ set es (rank k es) (k, v)
    put-there v [] h e = absurd (omega arith)
    put-there v (f ∷ es) h e =
        elim (path_cmp k f.0) as (λ o. path_cmp k f.0 ≡ o → put path_cmp k v (f ∷ es) ≡ set (f ∷ es) (rank k (f ∷ es)) (k, v)) [
          | Less ↦ λ p.
              let first = rank-less k f es p in
              let same : f.0 ≡ k = rw first at e in
              absurd (less_itself k (subst (λ x. path_cmp k x ≡ Less) same p))
          | Equal ↦ λ p. put-equal k v f es p ∙ ap (λ x. (x, v) ∷ es) (sym (path_antisym k f.0 p)) ∙ ap (λ n. set (f ∷ es) n (k, v)) (sym (rank-equal k f es p))
          | Greater ↦ λ p.
              let more = rank-greater k f es p in
              let inner : (get_or es (rank k es) d).0 ≡ k = rw more at e in
              let less : rank k es < length es = omega (arith, more) in
              put-greater k v f es p ∙ ap (λ x. f ∷ x) (put-there v es less inner) ∙ ap (λ n. set (f ∷ es) n (k, v)) (sym more)
        ] refl

    pub put-new : (v : X) (es : List (Path × X)) → (rank k es < length es → (get_or es (rank k es) d).0 ≢ k) → put path_cmp k v es ≡ take (rank k es) es
        ++ (k, v) ∷ drop (rank k es) es
    put-new v [] h = refl
    put-new v (f ∷ es) h =
        elim (path_cmp k f.0) as (λ o. path_cmp k f.0 ≡ o → put path_cmp k v (f ∷ es) ≡ take (rank k (f ∷ es)) (f ∷ es)
        ++ (k, v) ∷ drop (rank k (f ∷ es)) (f ∷ es)) [
          | Less ↦ λ p. put-less k v f es p ∙ ap (λ n. take n (f ∷ es) ++ (k, v) ∷ drop n (f ∷ es)) (sym (rank-less k f es p))
          | Equal ↦ λ p.
              let first : rank k (f ∷ es) ≡ 0 = rank-equal k f es p in
              let other : f.0 ≢ k = rw first at (h (omega (arith, first))) in
              absurd (other (sym (path_antisym k f.0 p)))
          | Greater ↦ λ p.
              let more = rank-greater k f es p in
              put-greater k v f es p
              ∙ ap (λ x. f ∷ x) (put-new v es (λ less. rw more at (h (omega (arith, more)))))
              ∙ ap (λ n. take n (f ∷ es) ++ (k, v) ∷ drop n (f ∷ es)) (sym more)
        ] refl

    -- what is found is at its index
    pub there : (es : List (Path × X)) → is_sorted path_cmp es ≡ true → is_some (find path_cmp k es) ≡ true → (rank k es < length es)
        × ((get_or es (rank k es) d).0 ≡ k)
    there [] s h = absurd (true≢false (sym h))
    there (f ∷ es) s h =
        let parts = and_parts (below_all path_cmp f.0 es) (is_sorted path_cmp es) s in
        elim (path_cmp k f.0) as (λ o. path_cmp k f.0 ≡ o → (rank k (f ∷ es) < length (f ∷ es)) × ((get_or (f ∷ es) (rank k (f ∷ es)) d).0 ≡ k)) [
          | Less ↦ λ p. absurd (true≢false (sym (sym (ap is_some (find-less k f es p ∙ before_all k f.0 es p parts.0)) ∙ h)))
          | Equal ↦ λ p. let first = rank-equal k f es p in rw first (omega arith, sym (path_antisym k f.0 p))
          | Greater ↦ λ p.
              let inner = there es parts.1 (sym (ap is_some (find-greater k f es p)) ∙ h) in
              let more = rank-greater k f es p in
              rw more (omega (arith, inner.0), inner.1)
        ] refl

    pub without_at : (es : List (Path × X)) → is_sorted path_cmp es ≡ true → is_some (find path_cmp k es) ≡ true → without k es ≡ take (rank k es) es
        ++ drop (suc (rank k es)) es
    without_at [] s h = absurd (true≢false (sym h))
    without_at (f ∷ es) s h =
        let parts = and_parts (below_all path_cmp f.0 es) (is_sorted path_cmp es) s in
        elim (path_cmp k f.0) as (λ o. path_cmp k f.0 ≡ o → without k (f ∷ es) ≡ take (rank k (f ∷ es)) (f ∷ es) ++ drop (suc (rank k (f ∷ es))) (f ∷ es)) [
          | Less ↦ λ p. absurd (true≢false (sym (sym (ap is_some (find-less k f es p ∙ before_all k f.0 es p parts.0)) ∙ h)))
          | Equal ↦ λ p.
              without-equal k f es p ∙ all_kept k es (below_same k f es p parts.0)
              ∙ ap (λ n. take n (f ∷ es) ++ drop (suc n) (f ∷ es)) (sym (rank-equal k f es p))
          | Greater ↦ λ p.
              let inner = without_at es parts.1 (sym (ap is_some (find-greater k f es p)) ∙ h) in
              without-greater k f es p ∙ ap (λ x. f ∷ x) inner ∙ ap (λ n. take n (f ∷ es) ++ drop (suc n) (f ∷ es)) (sym (rank-greater k f es p))
        ] refl

  -- what is not found has nothing to leave out
  pub without_none : (k : Path) (es : List (Path × X)) → find path_cmp k es ≡ None → without k es ≡ es
  without_none k [] h = refl
  without_none k (f ∷ es) h =
      elim (path_cmp k f.0) as (λ o. path_cmp k f.0 ≡ o → without k (f ∷ es) ≡ f ∷ es) [
        | Less ↦ λ p. without-less k f es p ∙ ap (λ x. f ∷ x) (without_none k es (sym (find-less k f es p) ∙ h))
        | Equal ↦ λ p. absurd (true≢false (ap is_some (sym (find-equal k f es p) ∙ h)))
        | Greater ↦ λ p. without-greater k f es p ∙ ap (λ x. f ∷ x) (without_none k es (sym (find-greater k f es p) ∙ h))
      ] refl

  -- ---- whether the path has an entry

  -- no entry at or after the path
  pub none_following : (k : Path) (es : List (Path × X)) → length es ≤ rank k es → find path_cmp k es ≡ None
  none_following k [] h = refl
  none_following k (f ∷ es) h =
      elim (path_cmp k f.0) as (λ o. path_cmp k f.0 ≡ o → find path_cmp k (f ∷ es) ≡ None) [
        | Less ↦ λ p. absurd (omega (arith, rank-less k f es p))
        | Equal ↦ λ p. absurd (omega (arith, rank-equal k f es p))
        | Greater ↦ λ p. find-greater k f es p ∙ none_following k es (omega (arith, rank-greater k f es p))
      ] refl

  -- another one at its index
  pub none_other : (k : Path) (d : Path × X) (es : List (Path × X)) → is_sorted path_cmp es ≡ true → rank k es < length es →
      is_eq (path_cmp (get_or es (rank k es) d).0 k) ≡ false → find path_cmp k es ≡ None
  none_other k d [] s h e = refl
  none_other k d (f ∷ es) s h e =
      let parts = and_parts (below_all path_cmp f.0 es) (is_sorted path_cmp es) s in
      elim (path_cmp k f.0) as (λ o. path_cmp k f.0 ≡ o → find path_cmp k (f ∷ es) ≡ None) [
        | Less ↦ λ p. find-less k f es p ∙ before_all k f.0 es p parts.0
        | Equal ↦ λ p.
            let first = rank-equal k f es p in
            let other : is_eq (path_cmp f.0 k) ≡ false = rw first at e in
            absurd (true≢false (sym (ap is_eq (equal_back k f.0 p)) ∙ other))
        | Greater ↦ λ p.
            let more = rank-greater k f es p in
            let inner : is_eq (path_cmp (get_or es (rank k es) d).0 k) ≡ false = rw more at e in
            find-greater k f es p ∙ none_other k d es parts.1 (omega (arith, more)) inner
      ] refl

  pub index_found : (k : Path) (es : List (Path × X)) (i : ℕ) (x : Path × X) (o : Ordering) → i ≡ rank k es → i < length es → o ≡ path_cmp (get_or es i x).0 k →
      is_eq o ≡ true → IsIndexOf k es i
  index_found k es i x o index within compared same = record {
    first = index;
    within = within;
    path = λ d. ap (λ (y : Path × X). y.0) (get_or_default es i d x within)
        ∙ path_antisym (get_or es i x).0 k ((Equal-is (path_cmp (get_or es i x).0 k)).0 (ap is_eq (sym compared) ∙ same));
  }

  -- the path of the entry there
  path_there : (k : Path) (es : List (Path × X)) (i : ℕ) (x : Path × X) → IsIndexOf k es i → (get_or es (rank k es) x).0 ≡ k
  path_there k es i x at = subst (λ n. (get_or es n x).0 ≡ k) at.first (at.path x)

  within_there : (k : Path) (es : List (Path × X)) (i : ℕ) → IsIndexOf k es i → rank k es < length es
  within_there k es i at = omega (arith, at.first, at.within)

  -- the value that is at the index
  pub value_at : (k : Path) (es : List (Path × X)) (i : ℕ) (x : Path × X) → IsIndexOf k es i → x ≡ get_or es i x → Some x.1 ≡ find path_cmp k es
  value_at k es i x at read =
      let there_is : path_cmp (get_or es (rank k es) x).0 k ≡ Equal = ap (λ p. path_cmp p k) (path_there k es i x at) ∙ tied_itself path_cmp-total k in
      ap (λ (y : Path × X). Some y.1) read ∙ ap (λ n. Some (get_or es n x).1) at.first ∙ sym (found_at k x es (within_there k es i at) there_is)

  pub same_index : (k p : Path) (es fs : List (Path × X)) (i : ℕ) → p ≡ k → fs ≡ es → IsIndexOf p fs i → IsIndexOf k es i
  same_index k p es fs i sought same at = subst (λ q. IsIndexOf q es i) sought (subst (λ ys. IsIndexOf p ys i) same at)

  -- ---- one entry changed at its index

  pub put_at : (k : Path) (v : X) (es : List (Path × X)) (i : ℕ) (x : Path × X) → IsIndexOf k es i → x ≡ get_or es i x → set es i (x.0, v) ≡ put path_cmp k v es
  put_at k v es i x at read =
      ap (λ p. set es i (p, v)) (ap (λ (y : Path × X). y.0) read ∙ at.path x) ∙ ap (λ n. set es n (k, v)) at.first
      ∙ sym (put-there k x v es (within_there k es i at) (path_there k es i x at))

  pub removed_at : (k : Path) (es : List (Path × X)) (i : ℕ) (x : Path × X) → is_sorted path_cmp es ≡ true → IsIndexOf k es i → x ≡ get_or es i x → remove es i
      ≡ without k es
  removed_at k es i x s at read =
      ap (λ n. take n es ++ drop (suc n) es) at.first ∙ sym (without_at k x es s (ap is_some (sym (value_at k es i x at read))))

  pub put_gap : (k : Path) (v : X) (es : List (Path × X)) (i : ℕ) → i ≡ rank k es → find path_cmp k es ≡ None → insert es i (k, v) ≡ put path_cmp k v es
  put_gap k v es i index none =
      ap (λ n. take n es ++ (k, v) ∷ drop n es) index
      ∙ sym (put-new k (k, v) v es (λ less same.
      true≢false (ap is_some (sym (found_at k (k, v) es less (ap (λ p. path_cmp p k) same ∙ tied_itself path_cmp-total k)) ∙ none))))

  pub put_between : (k p : Path) (v : X) (es fs : List (Path × X)) (i : ℕ) → p ≡ k → fs ≡ es → find path_cmp p fs ≡ None → i ≡ rank p fs → insert es i (k, v)
      ≡ put path_cmp k v es
  put_between k p v es fs i sought same none index =
      put_gap k v es i (index ∙ ap (λ q. rank q fs) sought ∙ ap (rank k) same) (sym (ap (λ q. find path_cmp q fs) sought ∙ ap (find path_cmp k) same) ∙ none)

  -- ---- the order is kept

  pub ordered-put : (k : Path) (v : X) (es fs : List (Path × X)) → fs ≡ put path_cmp k v es → is_sorted path_cmp es ≡ true → is_sorted path_cmp fs ≡ true
  ordered-put k v es fs same s = ap (is_sorted path_cmp) same ∙ true_from_T _ (is_sorted-put path_cmp path_cmp-total k v es (T_from_true _ s))

  pub ordered-where : (test : Path → Bool) (es fs : List (Path × X)) → fs ≡ where_key path_cmp test es → is_sorted path_cmp es ≡ true → is_sorted path_cmp fs
      ≡ true
  ordered-where test es fs same s = ap (is_sorted path_cmp) same ∙ true_from_T _ (is_sorted-where_key path_cmp test es (T_from_true _ s))
