-- A branch by its first name.
--     below_found                   what is below a first name that has a branch
--     names_found, names_absent     the same of names that begin so, and of names whose first one has no branch
--     names_there, absent_there     whether they have a branch
--     first_there, ok_there         where they have one, their first name has one, and a search finds it
use Rattle.std.proofs.Common.{◌≡◌, refl, sym, ◌∙◌, ap, ℕ, true, false, is_some, IsOk, OnErr, Result, Ok, Err, Option, Some, None, true≢false, List, [], ◌∷◌, ◌++◌, get_or}
use Rattle.std.specs.FinMap.{find}
use Rattle.cfdp_paths.specs.Paths.{Name, Path, path_cmp}
use Rattle.cfdp_paths.specs.PathMaps.{IsOrdered}
use Rattle.cfdp_paths.specs.code.PathMaps.{IsIndexOf}
use Rattle.cfdp_branches.specs.Branches.{Branches, has_branch}
use Rattle.cfdp_branches.specs.code.Branches.{under_names, branches_of}
use Rattle.cfdp_branches.specs.code.Twigs.{twigs_of}
use Rattle.cfdp_branches.specs.declared.branch.Twig.{Twig}
use Rattle.cfdp_branches.proofs.Finding.{none_below}
use Rattle.cfdp_branches.proofs.Seeking.{below_index}

module _ {T : Type 0} (self : Branches T) (v : Option T) (ts : List (Twig T)) (s : IsOrdered (under_names (twigs_of ts))) (view : branches_of v (twigs_of ts) ≡
    self) where
  pub below_found : (names rest : Path) (n : Name) (i : ℕ) (t : Twig T) → names ≡ n ∷ rest → IsIndexOf (n ∷ []) (under_names (twigs_of ts)) i
      → t ≡ get_or ts i t
      → (p : Path) → find path_cmp p t.branch ≡ find path_cmp (n ∷ p) self
  below_found names rest n i t is at read p = sym (ap (find path_cmp (n ∷ p)) (sym view) ∙ below_index n p ts i t s at read)

  pub names_found : (names rest : Path) (n : Name) (i : ℕ) (t : Twig T) → names ≡ n ∷ rest → IsIndexOf (n ∷ []) (under_names (twigs_of ts)) i
      → t ≡ get_or ts i t
      → (p : Path) → find path_cmp (rest ++ p) t.branch ≡ find path_cmp (names ++ p) self
  names_found names rest n i t is at read p =
      below_found names rest n i t is at read (rest ++ p) ∙ ap (λ ns. find path_cmp (ns ++ p) self) (sym is)

  pub names_there : (names rest : Path) (n : Name) (i : ℕ) (t : Twig T) → names ≡ n ∷ rest → IsIndexOf (n ∷ []) (under_names (twigs_of ts)) i
      → t ≡ get_or ts i t
      → has_branch t.branch rest ≡ has_branch self names
  names_there names rest n i t is at read =
      ap is_some (below_found names rest n i t is at read rest) ∙ ap (λ ns. has_branch self ns) (sym is)

  pub names_absent : (names rest : Path) (n : Name) → names ≡ n ∷ rest → find path_cmp (n ∷ []) (under_names (twigs_of ts)) ≡ None
      → (p : Path) → find path_cmp (names ++ p) self ≡ None
  names_absent names rest n is none p =
      ap (λ ns. find path_cmp (ns ++ p) self) is ∙ ap (find path_cmp (n ∷ rest ++ p)) (sym view) ∙ none_below n (rest ++ p) (twigs_of ts) s none

  pub absent_there : (names rest : Path) (n : Name) → names ≡ n ∷ rest → find path_cmp (n ∷ []) (under_names (twigs_of ts)) ≡ None
      → has_branch self names ≡ false
  absent_there names rest n is none =
      ap (λ ns. has_branch self ns) is ∙ ap (λ es. has_branch es (n ∷ rest)) (sym view) ∙ ap is_some (none_below n rest (twigs_of ts) s none)

  -- its first name has a branch, too
  pub first_there : (names rest : Path) (n : Name) → names ≡ n ∷ rest → has_branch self names ≡ true
      → is_some (find path_cmp (n ∷ []) (under_names (twigs_of ts)))
      ≡ true
  first_there names rest n is has = by_first (find path_cmp (n ∷ []) (under_names (twigs_of ts))) refl
    where
      by_first : (o : Option (Branches T)) → find path_cmp (n ∷ []) (under_names (twigs_of ts)) ≡ o → is_some o ≡ true
      by_first None none = absurd (true≢false (sym has ∙ absent_there names rest n is none))
      by_first (Some es) some = refl

  -- a branch below it is there only if that of its first name is
  pub ok_there : (r : Result ℕ ℕ) (names rest : Path) (n : Name) → names ≡ n ∷ rest → OnErr r (find path_cmp (n ∷ []) (under_names (twigs_of ts)) ≡ None)
      → has_branch self names ≡ true → IsOk r
  ok_there (Ok i) names rest n is none has = refl
  ok_there (Err i) names rest n is none has = absurd (true≢false (sym has ∙ absent_there names rest n is none))
