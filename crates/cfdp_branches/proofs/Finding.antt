-- What is at a path of a branch, by its first name.
--     same_path-name, one_name    two paths by their first names
--     find-below_name, find-joined, find-all_below      what is found below a name;  in one list or the other;  below all names
--     grown                       after a change of one of the branches below
use Rattle.std.proofs.Common.{◌≡◌, refl, sym, ◌∙◌, ap, subst, Bool, true, false, cond, ◌&&◌, Option, Some, None, List, [], ◌∷◌, ◌++◌}
use Rattle.std.proofs.Math.Bool.{and-true}
use Rattle.std.proofs.lemmas.Bool.{and_parts}
use Rattle.std.specs.FinMap.{find, put, is_sorted}
use Rattle.std.specs.FinMap.Entries.{below_all, find-put}
use Rattle.std.specs.Cmp.{tied_then}
use Rattle.std.specs.Ordering.{eq_by_cmp}
use Rattle.cfdp_paths.specs.Paths.{Name, Path, path_cmp, same_name}
use Rattle.cfdp_paths.proofs.Comparing.{path_cmp-total, same_name-Decides}
use Rattle.cfdp_paths.proofs.InOrder.{not_in, ordered-put}
use Rattle.cfdp_branches.specs.code.Branches.{all_below, below_name, in_branch, under_names}

pub same_path-name : (m n : Name) (p q : Path) → eq_by_cmp path_cmp (m ∷ p) (n ∷ q) ≡ (same_name m n && eq_by_cmp path_cmp p q)
same_path-name m n p q = sym (tied_then _ _)

pub one_name : (m n : Name) → eq_by_cmp path_cmp (m ∷ []) (n ∷ []) ≡ same_name m n
one_name m n = same_path-name m n [] [] ∙ and-true _

module _ {X : Type 0} where
  abbrev pub or_else : Option X → Option X → Option X
  or_else None b = b
  or_else (Some x) b = Some x

  pub find-below_name : (m n : Name) (p : Path) (es : List (Path × X)) → find path_cmp (m ∷ p) (below_name n es)
      ≡ cond (same_name m n) (find path_cmp p es) None
  find-below_name m n p [] = elim (same_name m n) as (λ b. ◌≡◌ {A = Option X} None (cond b None None)) [ true ↦ refl | false ↦ refl ]
  find-below_name m n p (e ∷ es) =
      ap (λ b. cond b (Some e.1) (find path_cmp (m ∷ p) (below_name n es))) (same_path-name m n p e.0)
      ∙ elim (same_name m n) as (λ b. find path_cmp (m ∷ p) (below_name n es) ≡ cond b (find path_cmp p es) None
      → cond (b && eq_by_cmp path_cmp p e.0) (Some e.1) (find path_cmp (m ∷ p) (below_name n es))
      ≡ cond b (cond (eq_by_cmp path_cmp p e.0) (Some e.1) (find path_cmp p es)) None) [
        | true ↦ λ h. ap (cond (eq_by_cmp path_cmp p e.0) (Some e.1)) h
        | false ↦ λ h. h
      ] (find-below_name m n p es)

  pub find-joined : (q : Path) (es fs : List (Path × X)) → find path_cmp q (es ++ fs) ≡ or_else (find path_cmp q es) (find path_cmp q fs)
  find-joined q [] fs = refl
  find-joined q (e ∷ es) fs =
      elim (eq_by_cmp path_cmp q e.0) as (λ b. cond b (Some e.1) (find path_cmp q (es ++ fs))
      ≡ or_else (cond b (Some e.1) (find path_cmp q es)) (find path_cmp q fs)) [
        | true ↦ refl
        | false ↦ find-joined q es fs
      ]

  else_none : (a : Option X) → or_else a None ≡ a
  else_none None = refl
  else_none (Some x) = refl

  -- a name that is before all others
  none_first : (n : Name) (cs : List (Name × List (Path × X))) → below_all path_cmp (n ∷ []) (under_names cs) ≡ true → (m : Name) → same_name m n ≡ true
      → find path_cmp (m ∷ []) (under_names cs) ≡ None
  none_first n cs h m same = subst (λ k. find path_cmp (k ∷ []) (under_names cs) ≡ None) (sym ((same_name-Decides m n).0 same)) (not_in (n ∷ []) (under_names
      cs) h)

  pub find-all_below : (m : Name) (p : Path) (cs : List (Name × List (Path × X))) → is_sorted path_cmp (under_names cs) ≡ true
      → find path_cmp (m ∷ p) (all_below cs) ≡ in_branch p (find path_cmp (m ∷ []) (under_names cs))
  find-all_below m p [] s = refl
  find-all_below m p (c ∷ cs) s =
      let parts = and_parts (below_all path_cmp (c.0 ∷ []) (under_names cs)) (is_sorted path_cmp (under_names cs)) s in
      let rest = find-all_below m p cs parts.1 in
      find-joined (m ∷ p) (below_name c.0 c.1) (all_below cs)
      ∙ ap (λ a. or_else a (find path_cmp (m ∷ p) (all_below cs))) (find-below_name m c.0 p c.1)
      ∙ elim (same_name m c.0) as (λ b. same_name m c.0 ≡ b → or_else (cond b (find path_cmp p c.1) None) (find path_cmp (m ∷ p) (all_below cs))
      ≡ in_branch p (cond b (Some c.1) (find path_cmp (m ∷ []) (under_names cs)))) [
        | true ↦ λ same. ap (or_else (find path_cmp p c.1)) (rest ∙ ap (in_branch p) (none_first c.0 cs parts.0 m same)) ∙ else_none (find path_cmp p c.1)
        | false ↦ λ same. rest
      ] refl
      ∙ ap (λ b. in_branch p (cond b (Some c.1) (find path_cmp (m ∷ []) (under_names cs)))) (sym (one_name m c.0))

  in_branch-cond : (p : Path) (b : Bool) (es : List (Path × X)) (o : Option (List (Path × X))) → in_branch p (cond b (Some es) o)
      ≡ cond b (find path_cmp p es) (in_branch p o)
  in_branch-cond p true es o = refl
  in_branch-cond p false es o = refl

  -- one of the branches below is another one now, or new
  pub grown : (n : Name) (es : List (Path × X)) (cs ds : List (Name × List (Path × X))) → is_sorted path_cmp (under_names cs) ≡ true
      → under_names ds ≡ put path_cmp (n ∷ []) es (under_names cs) → (m : Name) (p : Path)
      → find path_cmp (m ∷ p) (all_below ds) ≡ cond (same_name m n) (find path_cmp p es) (find path_cmp (m ∷ p) (all_below cs))
  grown n es cs ds s is m p =
      find-all_below m p ds (ordered-put (n ∷ []) es (under_names cs) (under_names ds) is s)
      ∙ ap (λ k. in_branch p (find path_cmp (m ∷ []) k)) is
      ∙ ap (in_branch p) (find-put path_cmp path_cmp-total (m ∷ []) (n ∷ []) es (under_names cs))
      ∙ in_branch-cond p _ es _
      ∙ ap (λ b. cond b (find path_cmp p es) (in_branch p (find path_cmp (m ∷ []) (under_names cs)))) (one_name m n)
      ∙ ap (cond (same_name m n) (find path_cmp p es)) (sym (find-all_below m p cs s))

  -- what is below a name that has no branch
  pub none_below : (n : Name) (p : Path) (cs : List (Name × List (Path × X))) → is_sorted path_cmp (under_names cs) ≡ true
      → find path_cmp (n ∷ []) (under_names cs) ≡ None → find path_cmp (n ∷ p) (all_below cs) ≡ None
  none_below n p cs s none = find-all_below n p cs s ∙ ap (in_branch p) none
