-- The index of a name among the branches below.
use Rattle.std.proofs.Common.{◌≡◌, refl, sym, ◌∙◌, ap, ℕ, zero, suc, ◌-◌, ◌<◌, true≢false, is_some, true, false, List, [], ◌∷◌, Some, None, option_map, length, get_or, set, take, drop, ◌++◌, cond, arith}
use Rattle.std.specs.List.{insert, prefix_len, slice_get}
use Rattle.std.specs.Cmp.Lexicographic.{slice_cmp}
use Rattle.std.specs.Ordering.{is_eq, is_lt, nat_cmp}
use Rattle.std.specs.declared.cmp.Ordering.TheVariants.{Less, Equal, Greater}
use Rattle.cfdp_paths.specs.Paths.{Name, Path, path_cmp, same_name}
use Rattle.std.specs.FinMap.{find, put, is_sorted}
use Rattle.std.specs.FinMap.Entries.{below_all, find-put}
use Rattle.std.proofs.lemmas.Bool.{and_parts}
use Rattle.std.proofs.lemmas.Option.{get_or_from_slice_get, slice_get_within}
use Rattle.std.specs.Cmp.{tied_itself}
use Rattle.std.specs.List.Sorted.{IsPartitionedBy}
use Rattle.cfdp_paths.specs.code.PathMaps.{rank, IsIndexOf}
use Rattle.cfdp_paths.proofs.InOrder.{all_before, below_at, less_back, none_other, ordered-put, put-equal, put-greater, put-less, put_at, put_gap, rank-equal, rank-greater, rank-less, ranks_parted, there, value_at}
use Rattle.cfdp_paths.proofs.Comparing.{path_cmp-one, path_cmp-total, same_name-Decides}
use Rattle.cfdp_branches.specs.Branches.{Branches}
use Rattle.cfdp_branches.specs.code.Branches.{all_below, in_branch, under_names}
use Rattle.cfdp_branches.proofs.Finding.{find-all_below}
use Rattle.cfdp_branches.specs.code.Twigs.{twigs_of}
use Rattle.cfdp_branches.specs.declared.branch.Twig.{Twig}

-- before an entry are those whose index is lower
rank_at : {X : Type 0} (k : Path) (es : List (Path × X)) (i : ℕ) (d : Path × X) → is_sorted path_cmp es ≡ true → i < length es → (get_or es i d).0 ≡ k
    → i ≡ rank k es
rank_at k [] i d s within same = absurd (omega arith)
rank_at k (e ∷ es) zero d s within same = sym (rank-equal k e es (ap (path_cmp k) same ∙ tied_itself path_cmp-total k))
rank_at k (e ∷ es) (suc i) d s within same =
    let parts = and_parts (below_all path_cmp e.0 es) (is_sorted path_cmp es) s in
    let less : path_cmp e.0 k ≡ Less = ap (path_cmp e.0) (sym same) ∙ below_at e.0 es i d parts.0 (omega arith) in
    ap suc (rank_at k es i d parts.1 (omega arith) same) ∙ sym (rank-greater k e es (less_back e.0 k less))

module _ {T : Type 0} where
  pub length-under_names : (ts : List (Twig T)) → length (under_names (twigs_of ts)) ≡ length ts
  length-under_names [] = refl
  length-under_names (t ∷ ts) = omega (arith, length-under_names ts)

  pub keyed_at : (ts : List (Twig T)) (i : ℕ) (d : Twig T) (e : Path × Branches T) → i < length ts → get_or (under_names (twigs_of ts)) i e
      ≡ ((get_or ts i d).name.items ∷ [], (get_or ts i d).branch)
  keyed_at [] i d e h = absurd (omega arith)
  keyed_at (t ∷ ts) zero d e h = refl
  keyed_at (t ∷ ts) (suc i) d e h = keyed_at ts i d e (omega arith)

  pub rank-under_names : (n : Name) (ts : List (Twig T)) → prefix_len (λ t. is_lt (slice_cmp nat_cmp t.name.items n)) ts ≡ rank (n ∷ []) (under_names (twigs_of
      ts))
  rank-under_names n [] = refl
  rank-under_names n (t ∷ ts) = rw (path_cmp-one t.name.items n, rank-under_names n ts) refl

  mapped_get : (ts : List (Twig T)) (i : ℕ) (t : Twig T) → slice_get ts i ≡ Some t
      → slice_get (under_names (twigs_of ts)) i ≡ Some (t.name.items ∷ [], t.branch)
  mapped_get [] i t h = absurd (true≢false (sym (ap is_some h)))
  mapped_get (s ∷ ts) zero t h = ap (λ o. option_map (λ t. (t.name.items ∷ [], t.branch)) o) h
  mapped_get (s ∷ ts) (suc i) t h = mapped_get ts i t h

  -- where the last name is before it, all are
  pub all_first : (n : Name) (ts : List (Twig T)) (t : Twig T) → is_sorted path_cmp (under_names (twigs_of ts)) ≡ true → slice_get ts (length ts - 1) ≡ Some t
      → is_lt (slice_cmp nat_cmp t.name.items n) ≡ true → length ts ≡ rank (n ∷ []) (under_names (twigs_of ts))
  all_first n ts t s is less =
      let long = length-under_names ts in
      sym long ∙ all_before (n ∷ []) (under_names (twigs_of ts)) (t.name.items ∷ [], t.branch) s
      (ap (λ k. slice_get (under_names (twigs_of ts)) (k - 1)) long ∙ mapped_get ts (length ts - 1) t is)
      (ap is_lt (path_cmp-one t.name.items n) ∙ less)

  -- the names before it are at the front
  pub names_parted : (n : Name) (ts : List (Twig T)) → is_sorted path_cmp (under_names (twigs_of ts)) ≡ true
      → IsPartitionedBy (λ t. is_lt (slice_cmp nat_cmp t.name.items n)) ts
  names_parted n ts s i j d le less h =
      let e : Path × Branches T = (d.name.items ∷ [], d.branch) in
      let k = λ (m : ℕ) (small : m < length ts). ap (λ (x : Path × Branches T). is_lt (path_cmp x.0 (n ∷ []))) (keyed_at ts m d e small)
      ∙ ap is_lt (path_cmp-one (get_or ts m d).name.items n) in
      sym (k i (omega arith)) ∙ ranks_parted (n ∷ []) (under_names (twigs_of ts)) s i j e le (omega (arith, length-under_names ts)) (k j less ∙ h)

  -- the branch at the index has the name
  pub name_found : (n : Name) (ts : List (Twig T)) (i : ℕ) (t : Twig T) → i ≡ rank (n ∷ []) (under_names (twigs_of ts)) → i < length ts → t ≡ get_or ts i t
      → same_name t.name.items n ≡ true → IsIndexOf (n ∷ []) (under_names (twigs_of ts)) i
  name_found n ts i t index within read same = record {
    first = index;
    within = omega (arith, within, length-under_names ts);
    path = λ d. ap (λ (x : Path × Branches T). x.0) (keyed_at ts i t d within)
        ∙ ap (λ (x : Twig T). x.name.items ∷ []) (sym read) ∙ ap (λ m. m ∷ []) ((same_name-Decides t.name.items n).0 same);
  }

  -- the last one has it
  pub last_found : (n : Name) (ts : List (Twig T)) (t : Twig T) → is_sorted path_cmp (under_names (twigs_of ts)) ≡ true → slice_get ts (length ts - 1) ≡ Some t
      → slice_cmp nat_cmp t.name.items n ≡ Equal → IsIndexOf (n ∷ []) (under_names (twigs_of ts)) (length ts - 1)
  last_found n ts t s is tied =
      let within : length ts - 1 < length ts = slice_get_within ts (length ts - 1) t is in
      let read : get_or ts (length ts - 1) t ≡ t = get_or_from_slice_get ts (length ts - 1) t t is in
      let e : Path × Branches T = (t.name.items ∷ [], t.branch) in
      let same : same_name t.name.items n ≡ true = ap is_eq tied in
      let path : (get_or (under_names (twigs_of ts)) (length ts - 1) e).0 ≡ n ∷ [] =
      ap (λ (x : Path × Branches T). x.0) (keyed_at ts (length ts - 1) t e within) ∙ ap (λ (x : Twig T). x.name.items ∷ []) read
      ∙ ap (λ m. m ∷ []) ((same_name-Decides t.name.items n).0 same) in
      name_found n ts (length ts - 1) t (rank_at (n ∷ []) (under_names (twigs_of ts)) (length ts - 1) e s (omega (arith, within, length-under_names ts)) path)
      within (sym read) same

  -- another one is where it would be
  pub name_other : (n : Name) (ts : List (Twig T)) (i : ℕ) (t : Twig T) → is_sorted path_cmp (under_names (twigs_of ts)) ≡ true
      → i ≡ rank (n ∷ []) (under_names (twigs_of ts)) → i < length ts → t ≡ get_or ts i t → same_name t.name.items n ≡ false
      → find path_cmp (n ∷ []) (under_names (twigs_of ts)) ≡ None
  name_other n ts i t s index within read other =
      let ks = under_names (twigs_of ts) in
      let e : Path × Branches T = (t.name.items ∷ [], t.branch) in
      none_other (n ∷ []) e ks s (omega (arith, within, index, length-under_names ts))
      (ap (λ k. is_eq (path_cmp (get_or ks k e).0 (n ∷ []))) (sym index)
      ∙ ap (λ (x : Path × Branches T). is_eq (path_cmp x.0 (n ∷ []))) (keyed_at ts i t e within)
      ∙ ap (λ (x : Twig T). is_eq (path_cmp (x.name.items ∷ []) (n ∷ []))) (sym read)
      ∙ ap is_eq (path_cmp-one t.name.items n) ∙ other)

  -- what is below the name of a branch
  pub below_index : (n : Name) (p : Path) (ts : List (Twig T)) (i : ℕ) (t : Twig T) → is_sorted path_cmp (under_names (twigs_of ts)) ≡ true
      → IsIndexOf (n ∷ []) (under_names (twigs_of ts)) i → t ≡ get_or ts i t → find path_cmp (n ∷ p) (all_below (twigs_of ts)) ≡ find path_cmp p t.branch
  below_index n p ts i t s at read =
      let within : i < length ts = omega (arith, at.within, length-under_names ts) in
      let e : Path × Branches T = (t.name.items ∷ [], t.branch) in
      let there : e ≡ get_or (under_names (twigs_of ts)) i e =
      ap (λ (x : Twig T). (x.name.items ∷ [], x.branch)) read ∙ sym (keyed_at ts i t e within) in
      find-all_below n p (twigs_of ts) s ∙ ap (in_branch p) (sym (value_at (n ∷ []) (under_names (twigs_of ts)) i e at there))

  -- ---- a change of one branch

  pub under_names-set : (ts : List (Twig T)) (i : ℕ) (t : Twig T)
      → under_names (twigs_of (set ts i t)) ≡ set (under_names (twigs_of ts)) i (t.name.items ∷ [], t.branch)
  under_names-set [] i t = refl
  under_names-set (s ∷ ts) zero t = refl
  under_names-set (s ∷ ts) (suc i) t = ap (λ x. (s.name.items ∷ [], s.branch) ∷ x) (under_names-set ts i t)

  pub under_names-insert : (ts : List (Twig T)) (i : ℕ) (t : Twig T)
      → under_names (twigs_of (insert ts i t)) ≡ insert (under_names (twigs_of ts)) i (t.name.items ∷ [], t.branch)
  under_names-insert ts i t = under_names-split i ts
    where
      under_names-split : (i : ℕ) (ts : List (Twig T)) → under_names (twigs_of (take i ts ++ t ∷ drop i ts))
          ≡ take i (under_names (twigs_of ts)) ++ (t.name.items ∷ [], t.branch) ∷ drop i (under_names (twigs_of ts))
      under_names-split zero ts = refl
      under_names-split (suc i) [] = refl
      under_names-split (suc i) (s ∷ ts) = ap (λ x. (s.name.items ∷ [], s.branch) ∷ x) (under_names-split i ts)

  -- the branch at the index is another one now
  pub branch_put : (n : Name) (ts : List (Twig T)) (i : ℕ) (t u : Twig T) → IsIndexOf (n ∷ []) (under_names (twigs_of ts)) i → t ≡ get_or ts i t
      → u.name ≡ t.name → under_names (twigs_of (set ts i u)) ≡ put path_cmp (n ∷ []) u.branch (under_names (twigs_of ts))
  branch_put n ts i t u at read same =
      let within : i < length ts = omega (arith, at.within, length-under_names ts) in
      let e : Path × Branches T = (t.name.items ∷ [], t.branch) in
      let there : e ≡ get_or (under_names (twigs_of ts)) i e =
      ap (λ (x : Twig T). (x.name.items ∷ [], x.branch)) read ∙ sym (keyed_at ts i t e within) in
      under_names-set ts i u ∙ ap (λ x. set (under_names (twigs_of ts)) i (x.items ∷ [], u.branch)) same
      ∙ put_at (n ∷ []) u.branch (under_names (twigs_of ts)) i e at there

  -- a branch of a new name
  pub branch_new : (n : Name) (ts us : List (Twig T)) (i : ℕ) (t : Twig T) → us ≡ insert ts i t → t.name.items ≡ n
      → find path_cmp (n ∷ []) (under_names (twigs_of ts)) ≡ None → i ≡ rank (n ∷ []) (under_names (twigs_of ts))
      → under_names (twigs_of us) ≡ put path_cmp (n ∷ []) t.branch (under_names (twigs_of ts))
  branch_new n ts us i t is named none index =
      ap (λ x. under_names (twigs_of x)) is ∙ under_names-insert ts i t ∙ ap (λ m. insert (under_names (twigs_of ts)) i (m ∷ [], t.branch)) named
      ∙ put_gap (n ∷ []) t.branch (under_names (twigs_of ts)) i index none

-- the branch at an index
pub twig_branch : {T : Type 0} (ts : List (Twig T)) (i : ℕ) (t : Twig T) → i < length ts → t ≡ get_or ts i t → (d : Name × Branches T)
    → (get_or (twigs_of ts) i d).1 ≡ t.branch
twig_branch [] i t h read d = absurd (omega arith)
twig_branch {T} (s ∷ ts) zero t h read d = ap (λ (x : Twig T). x.branch) (sym read)
twig_branch (s ∷ ts) (suc i) t h read d = twig_branch ts i t (omega arith) read d

pub length-twigs : {T : Type 0} (ts : List (Twig T)) → length (twigs_of ts) ≡ length ts
length-twigs [] = refl
length-twigs (t ∷ ts) = omega (arith, length-twigs ts)

rank-put : {X : Type 0} (k : Path) (v : X) (es : List (Path × X)) → rank k (put path_cmp k v es) ≡ rank k es
rank-put k v [] = rank-equal k (k, v) [] (tied_itself path_cmp-total k)
rank-put k v (e ∷ es) =
    elim (path_cmp k e.0) as (λ o. path_cmp k e.0 ≡ o → rank k (put path_cmp k v (e ∷ es)) ≡ rank k (e ∷ es)) [
      | Less ↦ λ p. ap (rank k) (put-less k v e es p) ∙ rank-equal k (k, v) (e ∷ es) (tied_itself path_cmp-total k) ∙ sym (rank-less k e es p)
      | Equal ↦ λ p. ap (rank k) (put-equal k v e es p) ∙ rank-equal k (e.0, v) es p ∙ sym (rank-equal k e es p)
      | Greater ↦ λ p. ap (rank k) (put-greater k v e es p) ∙ rank-greater k e (put path_cmp k v es) p ∙ ap suc (rank-put k v es) ∙ sym (rank-greater k e es p)
    ] refl

-- what was put is at its index
pub put_index : {X : Type 0} (k : Path) (v : X) (es fs : List (Path × X)) (i : ℕ) → is_sorted path_cmp es ≡ true → fs ≡ put path_cmp k v es → i ≡ rank k es
    → IsIndexOf k fs i
put_index {X} k v es fs i s is index =
    let some : is_some (find path_cmp k fs) ≡ true = ap (λ x. is_some (find path_cmp k x)) is ∙ ap is_some (find-put path_cmp path_cmp-total k k v es)
    ∙ ap (λ o. is_some (cond (is_eq o) (Some v) (find path_cmp k es))) (tied_itself path_cmp-total k) in
    let sorted = ordered-put k v es fs is s in
    let same : rank k fs ≡ i = ap (rank k) is ∙ rank-put k v es ∙ sym index in
    record {
      first = sym same;
      within = omega (arith, (there k (k, v) fs sorted some).0, same);
      path = λ d. ap (λ n. (get_or fs n d).0) (sym same) ∙ (there k d fs sorted some).1;
    }
