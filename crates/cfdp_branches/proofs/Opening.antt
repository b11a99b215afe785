-- A branch that is opened below a name: what it has then.
use Rattle.std.proofs.Common.{◌≡◌, refl, sym, ◌∙◌, ap, subst, ℕ, true, cond, is_some, IsTrue, true≢false, Option, List, [], ◌∷◌, get_or, set}
use Rattle.std.specs.FinMap.{find}
use Rattle.cfdp_paths.specs.Paths.{Name, Path, path_cmp}
use Rattle.cfdp_paths.specs.PathMaps.{IsOrdered}
use Rattle.cfdp_paths.specs.code.PathMaps.{IsIndexOf}
use Rattle.cfdp_paths.proofs.Comparing.{same_name-Decides}
use Rattle.cfdp_paths.proofs.InOrder.{ordered-put}
use Rattle.cfdp_branches.specs.Branches.{Branches, has_branch, value_at, value_in}
use Rattle.cfdp_branches.specs.code.Branches.{IsOpened, all_below, under_names, branches_of}
use Rattle.cfdp_branches.specs.code.Twigs.{twigs_of}
use Rattle.cfdp_branches.specs.declared.branch.Twig.{Twig}
use Rattle.cfdp_branches.proofs.Changing.{Puts, opened_ordered, opened_value, put_below}
use Rattle.cfdp_branches.specs.code.Branches.IsOpened.{stays, opens}
use Rattle.cfdp_branches.proofs.Finding.{grown, none_below}
use Rattle.cfdp_branches.proofs.Seeking.{below_index, branch_put}

module _ {T : Type 0} (self : Branches T) (v : Option T) (n : Name) (q names : Path) (ts us : List (Twig T)) (i : ℕ) (t u : Twig T) (s : IsOrdered (under_names
    (twigs_of ts)))
    (view : branches_of v (twigs_of ts) ≡ self) (is : names ≡ n ∷ q) (opened : IsOpened n (twigs_of ts) (twigs_of us)) (at : IsIndexOf (n ∷ []) (under_names
    (twigs_of
    us)) i)
    (read : t ≡ get_or us i t) (same : u.name ≡ t.name) where
  still_ordered : IsOrdered (under_names (twigs_of us))
  still_ordered = opened_ordered n (twigs_of ts) (twigs_of us) s opened

  pub opening_ordered : IsOrdered (under_names (twigs_of (set us i u)))
  opening_ordered = ordered-put (n ∷ []) u.branch (under_names (twigs_of us)) _ (branch_put n us i t u at read same) still_ordered

  pub opening_puts : (w : Option T) → Puts w q t.branch u.branch → Puts w names self (branches_of v (twigs_of (set us i u)))
  opening_puts w puts =
      subst (λ ns. Puts w ns self (branches_of v (twigs_of (set us i u)))) (sym is)
      (subst (λ es. Puts w (n ∷ q) es (branches_of v (twigs_of (set us i u)))) view
      (put_below w v n q t.branch u.branch (twigs_of ts) (twigs_of us) (twigs_of (set us i u)) s opened (λ p. below_index n p us i t still_ordered at read)
      (branch_put n us i t u at read same) puts))

  pub opening_value : value_at t.branch q ≡ value_at self names
  opening_value =
      ap value_in (sym (below_index n q us i t still_ordered at read)) ∙ opened_value n (twigs_of ts) (twigs_of us) s opened n q
      ∙ ap (λ es. value_at es (n ∷ q)) view ∙ ap (value_at self) (sym is)

  -- what is below its name has a branch where it has one in the branch
  pub opening_has : (p : Path) → has_branch (branches_of v (twigs_of (set us i u))) (n ∷ p) ≡ has_branch u.branch p
  opening_has p =
      ap is_some (grown n u.branch (twigs_of us) (twigs_of (set us i u)) still_ordered (branch_put n us i t u at read same) n p)
      ∙ ap (λ b. is_some (cond b (find path_cmp p u.branch) (find path_cmp (n ∷ p) (all_below (twigs_of us))))) ((same_name-Decides n n).1 refl)

  pub opening_there : IsTrue (has_branch u.branch q) → IsTrue (has_branch (branches_of v (twigs_of (set us i u))) names)
  opening_there there = ap (has_branch (branches_of v (twigs_of (set us i u)))) is ∙ opening_has q ∙ there

  -- what had a branch before
  pub opening_had : IsTrue (has_branch self names) → IsTrue (has_branch t.branch q)
  opening_had has =
      ap is_some (sym (below_index n q us i t still_ordered at read))
      ∙ by_opened opened
    where
      had : is_some (find path_cmp (n ∷ q) (all_below (twigs_of ts))) ≡ true
      had = ap (λ es. has_branch es (n ∷ q)) view ∙ ap (has_branch self) (sym is) ∙ has

      by_opened : {ds : List (Name × Branches T)} → IsOpened n (twigs_of ts) ds → is_some (find path_cmp (n ∷ q) (all_below ds)) ≡ true
      by_opened stays = had
      by_opened (opens _ none put) = absurd (true≢false (sym had ∙ ap is_some (none_below n q (twigs_of ts) s none)))
