-- A branch, one of whose branches below is another one now.
--     Puts w q es fs          the values as before, and w at q if it is a value
--     put_below               a value that is put below a name
--     put_levels, put_within  how deep the values are then
use Rattle.std.proofs.Common.{◌≡◌, refl, sym, ◌∙◌, ap, subst, ℕ, suc, ◌+◌, ◌≤◌, max, Bool, true, false, cond, ◌&&◌, is_some, IsSome, Option, Some, None, List, [], ◌∷◌, ◌++◌, length, drop, ◌⊎◌, inl, inr, ◌<◌, length-append, arith}
use Rattle.std.proofs.lemmas.Bool.{cases_lt}
use Rattle.std.specs.FinMap.{find, put, is_sorted}
use Rattle.std.specs.Ordering.{eq_by_cmp}
use Rattle.std.specs.Option.{option_or}
use Rattle.cfdp_paths.specs.Paths.{Name, Path, path_cmp, same_name, same_path, is_at_or_below}
use Rattle.cfdp_paths.proofs.Comparing.{same_name-Decides, same_path-Decides}
use Rattle.cfdp_paths.proofs.InOrder.{ordered-put}
use Rattle.cfdp_paths.proofs.Below.{append_from_at_or_below}
use Rattle.cfdp_branches.specs.Branches.{AreSameValues, IsLevels, IsReached, IsShallow, Branches, value_at, value_in}
use Rattle.cfdp_branches.specs.code.Branches.{IsOpened, all_below, under_names, branches_of}
use Rattle.cfdp_branches.specs.code.Branches.IsOpened.{stays, opens}
use Rattle.cfdp_branches.specs.Branches.IsReached.{no_value, deepest}
use Rattle.cfdp_branches.proofs.Finding.{grown, none_below, same_path-name}

abbrev pub Puts : {X : Type 0} → Option X → Path → Branches X → Branches X → Type 0
Puts w q es fs = (p : Path) → value_at fs p ≡ cond (is_some w && same_path p q) w (value_at es p)

empty_value : {X : Type 0} (b : Bool) → value_in {X = X} (cond b (Some None) None) ≡ None
empty_value true = refl
empty_value false = refl

and_below : (a b c : Bool) → (a && (b && c)) ≡ (b && (a && c))
and_below true true c = refl
and_below true false c = refl
and_below false true c = refl
and_below false false c = refl

module _ {X : Type 0} where
  -- ---- a name that has a branch now

  pub opened_ordered : (n : Name) (cs ds : List (Name × Branches X)) → is_sorted path_cmp (under_names cs) ≡ true → IsOpened n cs ds
      → is_sorted path_cmp (under_names ds)
      ≡ true
  opened_ordered n cs ds s stays = s
  opened_ordered n cs ds s (opens _ absent is) = ordered-put (n ∷ []) (([], None) ∷ []) (under_names cs) (under_names ds) is s

  pub opened_value : (n : Name) (cs ds : List (Name × Branches X)) → is_sorted path_cmp (under_names cs) ≡ true → IsOpened n cs ds → (m : Name) (p : Path)
      → value_in (find path_cmp (m ∷ p) (all_below ds)) ≡ value_in (find path_cmp (m ∷ p) (all_below cs))
  opened_value n cs ds s stays m p = refl
  opened_value n cs ds s (opens _ absent is) m p =
      ap value_in (grown n (([], None) ∷ []) cs ds s is m p) ∙ by_name (same_name m n) refl
    where
      by_name : (b : Bool) → same_name m n ≡ b → value_in (cond b (find path_cmp p (([], None) ∷ [])) (find path_cmp (m ∷ p) (all_below cs)))
          ≡ value_in (find path_cmp (m ∷ p) (all_below cs))
      by_name false same = refl
      by_name true same =
          empty_value (eq_by_cmp path_cmp p [])
          ∙ sym (ap value_in (subst (λ k. find path_cmp (k ∷ p) (all_below cs) ≡ None) (sym ((same_name-Decides m n).0 same)) (none_below n p cs s absent)))

  -- ---- a value that is put

  pub put_below : (w v : Option X) (n : Name) (q : Path) (es us : Branches X) (cs bs ds : List (Name × Branches X)) → is_sorted path_cmp (under_names cs) ≡ true
      → IsOpened n cs bs → ((p : Path) → find path_cmp (n ∷ p) (all_below bs) ≡ find path_cmp p es) → under_names ds ≡ put path_cmp (n ∷ []) us (under_names bs)
      → Puts w q es us → Puts w (n ∷ q) (branches_of v cs) (branches_of v ds)
  put_below w v n q es us cs bs ds s opened here is puts [] = by_some (is_some w)
    where
      by_some : (b : Bool) → v ≡ cond (b && false) w v
      by_some true = refl
      by_some false = refl
  put_below w v n q es us cs bs ds s opened here is puts (m ∷ p) =
      ap value_in (grown n us bs ds (opened_ordered n cs bs s opened) is m p)
      ∙ by_name (same_name m n) refl
      ∙ ap (λ b. cond b w (value_in (find path_cmp (m ∷ p) (all_below cs)))) (sym (ap (λ b. is_some w && b) (same_path-name m n p q)
      ∙ and_below (is_some w) (same_name m n) (same_path p q)))
    where
      by_name : (b : Bool) → same_name m n ≡ b → value_in (cond b (find path_cmp p us) (find path_cmp (m ∷ p) (all_below bs)))
          ≡ cond (b && (is_some w && same_path p q)) w (value_in (find path_cmp (m ∷ p) (all_below cs)))
      by_name false same = opened_value n cs bs s opened m p
      by_name true same =
          puts p ∙ ap (cond (is_some w && same_path p q) w)
          (ap value_in (sym (here p)) ∙ ap (λ k. value_in (find path_cmp (k ∷ p) (all_below bs))) (sym ((same_name-Decides m n).0 same))
          ∙ opened_value n cs bs s opened m p)

  -- ---- how deep the values are then

  put_cases : (w o : Option X) (b : Bool) → IsSome (cond (is_some w && b) w o) → ((b ≡ true) × (is_some w ≡ true)) ⊎ IsSome o
  put_cases None o b h = inr h
  put_cases (Some x) o true h = inl (refl, refl)
  put_cases (Some x) o false h = inr h

  pub put_within : (w : Option X) (q : Path) (k : ℕ) (es fs : Branches X) → Puts w q es fs → k + length q ≤ 8 → IsShallow k es → IsShallow k fs
  put_within w q k es fs puts few within p some = by_cases (put_cases w (value_at es p) (same_path p q) (subst IsSome (puts p) some))
    where
      by_cases : ((same_path p q ≡ true) × (is_some w ≡ true)) ⊎ IsSome (value_at es p) → k + length p ≤ 8
      by_cases (inl both) = omega (arith, few, ap length ((same_path-Decides p q).0 both.0))
      by_cases (inr old) = within p old

  still_there : (w : Option X) (q : Path) (es fs : Branches X) → Puts w q es fs → (p : Path) → IsSome (value_at es p) → IsSome (value_at fs p)
  still_there w q es fs puts p some = subst IsSome (sym (puts p)) (one_of w (value_at es p) (same_path p q) some)
    where
      one_of : (w o : Option X) (b : Bool) → IsSome o → IsSome (cond (is_some w && b) w o)
      one_of None o b h = h
      one_of (Some x) o true h = refl
      one_of (Some x) o false h = h

  pub put_levels : (w : Option X) (q : Path) (es fs : Branches X) (l : ℕ) → Puts w q es fs → is_some w ≡ true → IsLevels es l
      → IsLevels fs (max l (length q + 1))
  put_levels w q es fs l puts some levels = record { within = deep; reached = far levels.reached (cases_lt (length q + 1) l) }
    where
      by_cases : (p : Path) → ((same_path p q ≡ true) × (is_some w ≡ true)) ⊎ IsSome (value_at es p) → suc (length p) ≤ max l (length q + 1)
      by_cases p (inl both) = omega (arith, ap length ((same_path-Decides p q).0 both.0))
      by_cases p (inr old) = omega (arith, levels.within p old)

      deep : (p : Path) → IsSome (value_at fs p) → suc (length p) ≤ max l (length q + 1)
      deep p h = by_cases p (put_cases w (value_at es p) (same_path p q) (subst IsSome (puts p) h))

      here : IsSome (value_at fs q)
      here = ap is_some (puts q) ∙ ap (λ b. is_some (cond (b && same_path q q) w (value_at es q))) some
          ∙ ap (λ b. is_some (cond b w (value_at es q))) ((same_path-Decides q q).1 refl) ∙ some

      far : IsReached es l → (length q + 1 < l) ⊎ (l ≤ length q + 1) → IsReached fs (max l (length q + 1))
      far (no_value is) less = deepest q here (omega arith)
      far (deepest p old is) (inl less) = deepest p (still_there w q es fs puts p old) (omega arith)
      far (deepest p old is) (inr le) = deepest q here (omega arith)

  pub same_levels : (es fs : Branches X) (l : ℕ) → AreSameValues fs es → IsLevels es l → IsLevels fs l
  same_levels es fs l same levels = record { within = λ p h. levels.within p (subst IsSome (same p) h); reached = far levels.reached }
    where
      far : IsReached es l → IsReached fs l
      far (no_value is) = no_value is
      far (deepest p some is) = deepest p (subst IsSome (sym (same p)) some) is

  -- ---- a branch in place of another one

  pub exchanged_below : (v : Option X) (n : Name) (q : Path) (es us os : Branches X) (cs ds : List (Name × Branches X))
      → is_sorted path_cmp (under_names cs) ≡ true
      → ((p : Path) → find path_cmp (n ∷ p) (all_below cs) ≡ find path_cmp p es) → under_names ds ≡ put path_cmp (n ∷ []) us (under_names cs)
      → ((p : Path) → find path_cmp p us ≡ cond (is_at_or_below p q) (find path_cmp (drop (length q) p) os) (find path_cmp p es))
      → (p : Path) → find path_cmp p (branches_of v ds) ≡ cond (is_at_or_below p (n ∷ q)) (find path_cmp (drop (length (n ∷ q)) p) os) (find path_cmp p
      (branches_of
      v cs))
  exchanged_below v n q es us os cs ds s here is exchanged [] = refl
  exchanged_below v n q es us os cs ds s here is exchanged (m ∷ p) =
      grown n us cs ds s is m p ∙ by_name (same_name m n) refl
    where
      by_name : (b : Bool) → same_name m n ≡ b → cond b (find path_cmp p us) (find path_cmp (m ∷ p) (all_below cs))
          ≡ cond (b && is_at_or_below p q) (find path_cmp (drop (length q) p) os) (find path_cmp (m ∷ p) (all_below cs))
      by_name false same = refl
      by_name true same =
          exchanged p ∙ ap (cond (is_at_or_below p q) (find path_cmp (drop (length q) p) os))
          (sym (here p) ∙ ap (λ k. find path_cmp (k ∷ p) (all_below cs)) (sym ((same_name-Decides m n).0 same)))

  pub exchanged_within : (q : Path) (es os fs : Branches X) → ((p : Path)
      → find path_cmp p fs ≡ cond (is_at_or_below p q) (find path_cmp (drop (length q) p) os)
      (find path_cmp p es))
      → IsShallow 0 es → IsShallow (length q) os → IsShallow 0 fs
  exchanged_within q es os fs exchanged within shallow p some = by_place (is_at_or_below p q) refl (subst (λ o. IsSome (value_in o)) (exchanged p) some)
    where
      by_place : (b : Bool) → is_at_or_below p q ≡ b → IsSome (value_in (cond b (find path_cmp (drop (length q) p) os) (find path_cmp p es))) → 0 + length p ≤ 8
      by_place true under some = omega (
        arith,
        shallow (drop (length q) p) some,
        ap length (append_from_at_or_below p q under),
        length-append q (drop (length
            q) p),
      )
      by_place false other some = within p some

  pub taken_within : (q : Path) (es os : Branches X) → ((p : Path) → find path_cmp p os ≡ find path_cmp (q ++ p) es) → IsShallow 0 es → IsShallow (length q) os
  taken_within q es os taken within p some = omega (arith, within (q ++ p) (subst (λ o. IsSome (value_in o)) (taken p) some), length-append q p)

  -- as deep as before, or as the value
  pub more_levels : (w : Option X) (q : Path) (es fs : Branches X) (l : ℕ) → Puts w q es fs → IsLevels es l
      → IsLevels fs (max l (cond (is_some w) (length q + 1) 0))
  more_levels None q es fs l puts levels = subst (IsLevels fs) (omega arith) (same_levels es fs l puts levels)
  more_levels (Some x) q es fs l puts levels = put_levels (Some x) q es fs l puts refl levels

  -- the same value of a branch with none below
  pub put_own : (w v : Option X) (cs : List (Name × Branches X)) → Puts w [] (branches_of v cs) (branches_of (option_or w v) cs)
  put_own None v cs p = refl
  put_own (Some x) v cs [] = refl
  put_own (Some x) v cs (m ∷ p) = refl
