-- A branch below that is freed, since it has no values: all values stay.
--     freed_ordered     the names still rise
--     freed_same        the same values as before
--     freed_gone        its name has none
--     pruned            what has no value is freed by the branch below, too
--     same_within       values that are the same are as deep
use Rattle.std.proofs.Common.{◌≡◌, refl, sym, ◌∙◌, ap, ℕ, zero, suc, ◌<◌, Bool, true, false, true≢false, not, cond, is_some, Option, Some, None, List, [], ◌∷◌, ◌++◌, get_or, length, take, ◌-◌, arith}
use Rattle.std.specs.List.{remove}
use Rattle.std.specs.FinMap.{find, is_sorted}
use Rattle.std.specs.FinMap.Entries.{find-where_key}
use Rattle.cfdp_paths.specs.Paths.{Name, Path, path_cmp, same_name, same_path}
use Rattle.cfdp_paths.specs.PathMaps.{IsOrdered, without}
use Rattle.cfdp_paths.specs.code.PathMaps.{IsIndexOf}
use Rattle.cfdp_paths.proofs.Comparing.{same_name-Decides}
use Rattle.cfdp_paths.proofs.InOrder.{ordered-where, path_antisym, removed_at}
use Rattle.cfdp_branches.specs.Branches.{AreSameValues, IsLevels, IsReached, IsShallow, Branches, has_branch, value_at, value_in}
use Rattle.cfdp_branches.specs.Branches.IsReached.{no_value, deepest}
use Rattle.cfdp_branches.specs.code.Branches.{all_below, in_branch, under_names, branches_of}
use Rattle.cfdp_branches.specs.code.Twigs.{twigs_of}
use Rattle.cfdp_branches.specs.declared.branch.Twig.{Twig}
use Rattle.cfdp_branches.proofs.Descending.{absent_there, below_found}
use Rattle.cfdp_branches.proofs.Finding.{find-all_below, one_name}
use Rattle.cfdp_branches.proofs.Seeking.{below_index, keyed_at, length-under_names}

module _ {X : Type 0} where
  no_value_there : (es : Branches X) (l : ℕ) → IsLevels es l → l ≡ 0 → (p : Path) → value_at es p ≡ None
  no_value_there es l levels none p = by_value (value_at es p) refl
    where
      by_value : (o : Option X) → value_at es p ≡ o → value_at es p ≡ None
      by_value None is = is
      by_value (Some x) is = absurd (omega (arith, none, levels.within p (ap is_some is)))

  in_branch-or_none : (p : Path) (b : Bool) (o : Option (Branches X)) → in_branch p (cond b o None) ≡ cond b (in_branch p o) None
  in_branch-or_none p true o = refl
  in_branch-or_none p false o = refl

  -- what is found where the branch of a name is left out
  left_out : (n : Name) (cs ds : List (Name × Branches X)) → is_sorted path_cmp (under_names cs) ≡ true → under_names ds ≡ without (n ∷ []) (under_names cs)
      → (m : Name) (p : Path)
      → find path_cmp (m ∷ p) (all_below ds) ≡ cond (not (same_name n m)) (find path_cmp (m ∷ p) (all_below cs)) None
  left_out n cs ds s is m p =
      find-all_below m p ds (ordered-where (λ q. not (same_path (n ∷ []) q)) (under_names cs) (under_names ds) is s)
      ∙ ap (λ k. in_branch p (find path_cmp (m ∷ []) k)) is
      ∙ ap (in_branch p) (find-where_key path_cmp (λ q. not (same_path (n ∷ []) q)) (m ∷ [])
      (λ x tied. ap (λ q. not (same_path (n ∷ []) q)) (sym (path_antisym (m ∷ []) x tied))) (under_names cs))
      ∙ in_branch-or_none p _ _
      ∙ ap (λ b. cond (not b) (in_branch p (find path_cmp (m ∷ []) (under_names cs))) None) (one_name n m)
      ∙ ap (λ o. cond (not (same_name n m)) o None) (sym (find-all_below m p cs s))

  pub same_within : (es fs : Branches X) → AreSameValues fs es → IsShallow 0 es → IsShallow 0 fs
  same_within es fs same within p some = within p (sym (ap is_some (same p)) ∙ some)

under_names-remove : {T : Type 0} (i : ℕ) (ts : List (Twig T)) → under_names (twigs_of (remove ts i)) ≡ remove (under_names (twigs_of ts)) i
under_names-remove zero [] = refl
under_names-remove zero (t ∷ ts) = refl
under_names-remove (suc i) [] = refl
under_names-remove (suc i) (t ∷ ts) = ap (λ x. (t.name.items ∷ [], t.branch) ∷ x) (under_names-remove i ts)

-- a branch that is freed
module _ {T : Type 0} (v : Option T) (n : Name) (ts : List (Twig T)) (i : ℕ) (t : Twig T) (s : IsOrdered (under_names (twigs_of ts)))
    (at : IsIndexOf (n ∷ []) (under_names (twigs_of ts)) i) (read : t ≡ get_or ts i t) where
  freed : under_names (twigs_of (remove ts i)) ≡ without (n ∷ []) (under_names (twigs_of ts))
  freed =
      let within : i < length ts = omega (arith, at.within, length-under_names ts) in
      let e : Path × Branches T = (t.name.items ∷ [], t.branch) in
      let there : e ≡ get_or (under_names (twigs_of ts)) i e =
      ap (λ (x : Twig T). (x.name.items ∷ [], x.branch)) read ∙ sym (keyed_at ts i t e within) in
      under_names-remove i ts ∙ removed_at (n ∷ []) (under_names (twigs_of ts)) i e s at there

  pub freed_ordered : IsOrdered (under_names (twigs_of (remove ts i)))
  freed_ordered = ordered-where (λ q. not (same_path (n ∷ []) q)) (under_names (twigs_of ts)) _ freed s

  pub freed_same : (l : ℕ) → IsLevels t.branch l → l ≡ 0 → AreSameValues (branches_of v (twigs_of (remove ts i))) (branches_of v (twigs_of ts))
  freed_same l levels none [] = refl
  freed_same l levels none (m ∷ p) = ap value_in (left_out n (twigs_of ts) (twigs_of (remove ts i)) s freed m p) ∙ by_name (same_name n m) refl
    where
      by_name : (b : Bool) → same_name n m ≡ b → value_in (cond (not b) (find path_cmp (m ∷ p) (all_below (twigs_of ts))) None)
          ≡ value_in (find path_cmp (m ∷ p) (all_below (twigs_of ts)))
      by_name false other = refl
      by_name true same =
          sym (ap (λ k. value_in (find path_cmp (k ∷ p) (all_below (twigs_of ts)))) (sym ((same_name-Decides n m).0 same))
          ∙ ap value_in (below_index n p ts i t s at read) ∙ no_value_there t.branch l levels none p)

  pub freed_gone : (q : Path) → has_branch (branches_of v (twigs_of (remove ts i))) (n ∷ q) ≡ false
  freed_gone q =
      ap is_some (left_out n (twigs_of ts) (twigs_of (remove ts i)) s freed n q
      ∙ ap (λ b. cond (not b) (find path_cmp (n ∷ q) (all_below (twigs_of ts))) None) ((same_name-Decides n n).1 refl))

some_value : {X : Type 0} (es : Branches X) (l : ℕ) → IsLevels es l → (l ≡ 0 → ⊥) → ((p : Path) → value_at es p ≡ None) → ⊥
some_value es l levels some none = by_reached levels.reached
  where
    by_reached : IsReached es l → ⊥
    by_reached (no_value is) = some is
    by_reached (deepest p there long) = true≢false (sym there ∙ ap is_some (none p))

module _ {T : Type 0} (self : Branches T) (v : Option T) (ts : List (Twig T)) (s : IsOrdered (under_names (twigs_of ts)))
    (view : branches_of v (twigs_of ts) ≡ self) where
  -- of a branch that has a value at or below it; `one` and `two` are that branch
  pub pruned : (names q : Path) (n : Name) (i k : ℕ) (one two : Twig T) (fs : Branches T) (l : ℕ) → names ≡ n ∷ q
      → IsIndexOf (n ∷ []) (under_names (twigs_of ts)) i → one ≡ get_or ts i one → two ≡ get_or ts i two → IsLevels one.branch l → (l ≡ 0 → ⊥)
      → ((q ≡ [] → ⊥) → (k : ℕ) → 0 < k → ((p : Path) → value_at two.branch (take k q ++ p) ≡ None) → has_branch fs (take k q) ≡ false)
      → ((p : Path) → value_at self (n ∷ take k q ++ p) ≡ None) → has_branch fs (take k q) ≡ false
  pruned names q n i zero one two fs l is at read again levels some rest none =
      absurd (some_value one.branch l levels some (λ p. ap value_in (below_found self v ts s view names q n i one is at read p) ∙ none p))
  pruned names [] n i (suc k) one two fs l is at read again levels some rest none =
      absurd (some_value one.branch l levels some (λ p. ap value_in (below_found self v ts s view names [] n i one is at read p) ∙ none p))
  pruned names (m ∷ q) n i (suc k) one two fs l is at read again levels some rest none =
      rest (λ e. omega (arith, ap length e)) (suc k) (omega arith)
      (λ p. ap value_in (below_found self v ts s view names (m ∷ q) n i two is at again (m ∷ take k q ++ p)) ∙ none p)

  -- a name that has no branch
  pub no_branch : (n : Name) (p : Path) → find path_cmp (n ∷ []) (under_names (twigs_of ts)) ≡ None → has_branch self (n ∷ p) ≡ false
  no_branch n p none = absent_there self v ts s view (n ∷ p) p n refl none

-- the first names of a path, as those after its first name
pub first_then : {A : Type 0} (P : Path → A) (n : Name) (q names : Path) (k : ℕ) → names ≡ n ∷ q → 0 < k → P (take k names) ≡ P (n ∷ take (k - 1) q)
first_then P n q names zero is some = absurd (omega (arith, some))
first_then P n q names (suc k) is some =
    let same : k ≡ suc k - 1 = omega arith in
    ap (λ ns. P (take (suc k) ns)) is ∙ ap (λ j. P (n ∷ take j q)) same
