-- How deep the values of a branch are.
use Rattle.std.proofs.Common.{◌≡◌, refl, sym, ◌∙◌, ap, subst, inl, inr, ◌⊎◌, ℕ, zero, suc, ◌+◌, ◌<◌, ◌≤◌, max, Bool, true, false, cond, IsSome, Option, Some, None, List, [], ◌∷◌, length, get_or, true≢false, arith}
use Rattle.std.proofs.lemmas.Bool.{and_parts, cases_lt}
use Rattle.std.specs.FinMap.{find, is_sorted}
use Rattle.std.specs.FinMap.Entries.{below_all}
use Rattle.std.specs.Ordering.{is_eq}
use Rattle.std.specs.Cmp.{tied_itself}
use Rattle.cfdp_paths.specs.Paths.{Name, Path, path_cmp, same_name}
use Rattle.cfdp_paths.proofs.Comparing.{path_cmp-total}
use Rattle.cfdp_paths.proofs.InOrder.{below_at, less_back}
use Rattle.cfdp_branches.specs.Branches.{IsLevels, IsReached, Branches, value_at, value_in}
use Rattle.cfdp_branches.specs.code.Branches.{AreLevels, IsReachedBy, all_below, below_name, in_branch, under_names, branches_of}
use Rattle.cfdp_branches.specs.Branches.IsReached.{no_value, deepest}
use Rattle.cfdp_branches.specs.code.Branches.IsReachedBy.{no_value_by, deepest_own, deepest_below}
use Rattle.cfdp_branches.proofs.Finding.{find-all_below, find-below_name, find-joined, or_else}

module _ {X : Type 0} where
  pub length-cs : (cs : List (Name × Branches X)) → length (under_names cs) ≡ length cs
  length-cs [] = refl
  length-cs (c ∷ cs) = omega (arith, length-cs cs)

  keyed_get : (cs : List (Name × Branches X)) (j : ℕ) (d : Name × Branches X)
      → get_or (under_names cs) j (d.0 ∷ [], d.1) ≡ ((get_or cs j d).0 ∷ [], (get_or cs j d).1)
  keyed_get [] j d = refl
  keyed_get (c ∷ cs) zero d = refl
  keyed_get (c ∷ cs) (suc j) d = keyed_get cs j d

  -- each branch is found by its name
  pub find_at : (cs : List (Name × Branches X)) (j : ℕ) (d : Name × Branches X) → is_sorted path_cmp (under_names cs) ≡ true → j < length cs
      → find path_cmp ((get_or cs j d).0 ∷ []) (under_names cs) ≡ Some (get_or cs j d).1
  find_at [] j d s h = absurd (omega arith)
  find_at (c ∷ cs) zero d s h = ap (λ o. cond (is_eq o) (Some c.1) (find path_cmp (c.0 ∷ []) (under_names cs))) (tied_itself path_cmp-total (c.0 ∷ []))
  find_at (c ∷ cs) (suc j) d s h =
      let parts = and_parts (below_all path_cmp (c.0 ∷ []) (under_names cs)) (is_sorted path_cmp (under_names cs)) s in
      let less = below_at (c.0 ∷ []) (under_names cs) j (d.0 ∷ [], d.1) parts.0 (omega (arith, length-cs cs)) in
      let back = less_back (c.0 ∷ []) ((get_or cs j d).0 ∷ []) (ap (λ (x : Path × Branches X). path_cmp (c.0 ∷ []) x.0) (sym (keyed_get cs j d)) ∙ less) in
      ap (λ o. cond (is_eq o) (Some c.1) (find path_cmp ((get_or cs j d).0 ∷ []) (under_names cs))) back ∙ find_at cs j d parts.1 (omega arith)

  -- a value below is below one of the branches
  pub record BelowOne (cs : List (Name × Branches X)) (p : Path) : Type 0 where
    pub index : ℕ
    pub within : index < length cs
    pub there : (d : Name × Branches X) → IsSome (value_at (get_or cs index d).1 p)

  later : (c : Name × Branches X) (cs : List (Name × Branches X)) (p : Path) → BelowOne cs p → BelowOne (c ∷ cs) p
  later c cs p b = record { index = suc b.index; within = omega (arith, b.within); there = b.there }

  below_first : (c : Name × Branches X) (cs : List (Name × Branches X)) (p : Path) (b : Bool) (o r : Option (Option X)) → find path_cmp p c.1 ≡ o
      → (IsSome (value_in r) → BelowOne cs p) → IsSome (value_in (or_else (cond b o None) r)) → BelowOne (c ∷ cs) p
  below_first c cs p false o r is rest h = later c cs p (rest h)
  below_first c cs p true None r is rest h = later c cs p (rest h)
  below_first c cs p true (Some v) r is rest h = record { index = 0; within = omega arith; there = λ d. subst (λ o. IsSome (value_in o)) (sym is) h }

  pub below_one : (m : Name) (p : Path) (cs : List (Name × Branches X)) → IsSome (value_in (find path_cmp (m ∷ p) (all_below cs))) → BelowOne cs p
  below_one m p [] h = absurd (true≢false (sym h))
  below_one m p (c ∷ cs) h =
      below_first c cs p (same_name m c.0) (find path_cmp p c.1) (find path_cmp (m ∷ p) (all_below cs)) refl (below_one m p cs)
      (subst (λ o. IsSome (value_in o)) (find-joined (m ∷ p) (below_name c.0 c.1) (all_below cs)
      ∙ ap (λ a. or_else a (find path_cmp (m ∷ p) (all_below cs))) (find-below_name m c.0 p c.1)) h)

  -- of all branches
  pub all_levels : (v : Option X) (cs : List (Name × Branches X)) (n : ℕ) → is_sorted path_cmp (under_names cs) ≡ true → AreLevels v cs (length cs) n
      → IsLevels (branches_of v cs) n
  all_levels v cs n s a = record { within = deep; reached = far a.reached }
    where
      deep : (p : Path) → IsSome (value_at (branches_of v cs) p) → suc (length p) ≤ n
      deep [] h = a.own h
      deep (m ∷ p) h = let b = below_one m p cs h in a.within b.index (m, branches_of v cs) b.within p (b.there (m, branches_of v cs))

      far : IsReachedBy v cs (length cs) n → IsReached (branches_of v cs) n
      far (no_value_by is) = no_value is
      far (deepest_own some is) = deepest [] some (sym is)
      far (deepest_below j p h some is) =
          let d : Name × Branches X = ([], branches_of v cs) in
          let c = get_or cs j d in
          deepest (c.0 ∷ p)
          (subst (λ o. IsSome (value_in o)) (sym (find-all_below c.0 p cs s ∙ ap (λ o. in_branch p o) (find_at cs j d s h))) (some d))
          is

  -- one branch more
  more_within : (v : Option X) (cs : List (Name × Branches X)) (i n m b : ℕ) (es : Branches X) → AreLevels v cs i n → ((d : Name × Branches X)
      → (get_or cs i d).1 ≡ es)
      → IsLevels es b → n ≤ m → (0 < b → b + 1 ≤ m) → (j : ℕ) (d : Name × Branches X) → j < suc i → (p : Path) → IsSome (value_at (get_or cs j d).1 p)
      → suc (suc (length p)) ≤ m
  more_within v cs i n m b es a here l le more j d h p some = by_index (cases_lt j i)
    where
      by_index : (j < i) ⊎ (i ≤ j) → suc (suc (length p)) ≤ m
      by_index (inl less) = omega (arith, a.within j d less p some, le)
      by_index (inr not) =
          let same : j ≡ i = omega arith in
          let deep = l.within p (subst (λ es. IsSome (value_at es p)) (ap (λ k. (get_or cs k d).1) same ∙ here d) some) in
          omega (arith, deep, more (omega (arith, deep)))

  kept_reached : (v : Option X) (cs : List (Name × Branches X)) (i n : ℕ) → IsReachedBy v cs i n → IsReachedBy v cs (suc i) n
  kept_reached v cs i n (no_value_by is) = no_value_by is
  kept_reached v cs i n (deepest_own some is) = deepest_own some is
  kept_reached v cs i n (deepest_below j p h some is) = deepest_below j p (omega arith) some is

  new_reached : (v : Option X) (cs : List (Name × Branches X)) (i n b : ℕ) (es : Branches X) → IsReachedBy v cs i n → ((d : Name × Branches X)
      → (get_or cs i d).1 ≡ es)
      → IsReached es b → 0 < b → IsReachedBy v cs (suc i) (max n (b + 1))
  new_reached v cs i n b es r here (no_value is) some = absurd (omega arith)
  new_reached v cs i n b es r here (deepest p there is) some = by_order (cases_lt n (b + 1))
    where
      by_order : (n < b + 1) ⊎ (b + 1 ≤ n) → IsReachedBy v cs (suc i) (max n (b + 1))
      by_order (inr le) = subst (IsReachedBy v cs (suc i)) (omega arith) (kept_reached v cs i n r)
      by_order (inl less) = deepest_below i p (omega arith) (λ d. subst (λ es. IsSome (value_at es p)) (sym (here d)) there) (omega arith)

  pub next_level : (v : Option X) (cs : List (Name × Branches X)) (i n b : ℕ) (es : Branches X) → AreLevels v cs i n → ((d : Name × Branches X)
      → (get_or cs i d).1
      ≡ es) → IsLevels es b → 0 < b
      → AreLevels v cs (suc i) (max n (b + 1))
  next_level v cs i n b es a here l some = record {
    own = λ h. omega (arith, a.own h);
    within = more_within v cs i n (max n (b + 1)) b es a here l (omega arith) (λ _. omega arith);
    reached = new_reached v cs i n b es a.reached here l.reached some;
  }

  pub no_level : (v : Option X) (cs : List (Name × Branches X)) (i n b : ℕ) (es : Branches X) → AreLevels v cs i n → ((d : Name × Branches X)
      → (get_or cs i d).1 ≡ es)
      → IsLevels es b → b ≤ 0
      → AreLevels v cs (suc i) n
  no_level v cs i n b es a here l few = record {
    own = a.own;
    within = more_within v cs i n n b es a here l (omega arith) (λ h. absurd (omega arith));
    reached = kept_reached v cs i n a.reached;
  }
