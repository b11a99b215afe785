-- Lists of paths that have the proper ancestors of each path.
--     none_closed, listed_closed, closed_more      no paths;  those of a list of items;  with the ancestors of one path more
--     HaveAncestorsTo, closed_to-more              of each path of fewer names;  with one path more
--     same_set-swap                                in the other order
--     same_set-beginning                           where the path of its first names is there
--     same_set-parent                              where its parent is there, all ancestors of a path are
--     same_set-left, same_set-last                 the ancestors that are left, and none
--     parent_there                                 where a parent was found
use Rattle.std.proofs.Common.{◌≡◌, refl, sym, ◌∙◌, ap, subst, ℕ, ◌+◌, ◌-◌, ◌<◌, ◌≤◌, Bool, true, false, ◌||◌, inl, inr, List, [], ◌∷◌, ◌++◌, length, get_or, take, take_all, length-take, append_assoc, arith}
use Rattle.std.specs.Prelude.{flat_map, OnOk, Result, Ok, Err}
use Rattle.std.specs.List.{list_any}
use Rattle.std.specs.FinSet as set
use Rattle.std.specs.declared.alloc.AllocError.{AllocError}
use Rattle.std.proofs.lemmas.Bool.{true≢false}
use Rattle.std.proofs.lemmas.List.{append-nil, take-take}
use Rattle.std.proofs.lemmas.List.Folds.{list_any-append}
use Rattle.cfdp_paths.specs.Paths.{Path, same_path, ancestors, parent}
use Rattle.cfdp_paths.proofs.Comparing.{same_path-Decides}
use Rattle.cfdp_paths.proofs.Below.{ancestors-take, parent-take}
use Rattle.cfdp_actions.specs.Actions.{Item}
use Rattle.cfdp_leases.specs.Footprint.{shared_in}
use Rattle.cfdp_leases.specs.code.Footprint.{HaveAncestors, SameSet}
use Rattle.cfdp_actions.proofs.Truths.{absorbed}
use Rattle.cfdp_leases.proofs.Sets.{exists, exists_from_Contains, exists-append_left, exists-append_right, exists-append_cases}
use Rattle.cfdp_leases.proofs.Conflict.{higher, list_ancestors}
use Rattle.cfdp_leases.proofs.Ordered.{same_set_from, same_members, same_set-append}

pub none_closed : HaveAncestors []
none_closed p q h a = absurd (true≢false (sym h))

-- what is shared by a list of items
pub listed_closed : (items : List Item) (xs : List Path) → SameSet xs (flat_map shared_in items) → HaveAncestors xs
listed_closed items xs same p q h a =
    same_members xs (flat_map shared_in items) q same ∙ list_ancestors items p q (inr (sym (same_members xs (flat_map shared_in items) p same) ∙ h)) a

-- once the ancestors of one more path are there
pub closed_more : (xs ys : List Path) (n : Path) → HaveAncestors xs → SameSet ys (xs ++ ancestors n) → HaveAncestors ys
closed_more xs ys n closed same p q h a =
    same_members ys (xs ++ ancestors n) q same
    ∙ elim (exists-append_cases p xs (ancestors n) (sym (same_members ys (xs ++ ancestors n) p same) ∙ h)) [
      | inl old ↦ exists-append_left q xs (ancestors n) (closed p q old a)
      | inr above ↦ exists-append_right q xs (ancestors n) (higher n p q above a)
    ]

-- the same after a call that may find no memory
pub closed_ok : {T : Type 0} (r : Result T AllocError) (xs ys : List Path) (n : Path) → HaveAncestors xs → OnOk r (SameSet ys (xs ++ ancestors n))
    → OnOk r (HaveAncestors ys)
closed_ok (Ok done) xs ys n closed same = closed_more xs ys n closed same
closed_ok (Err refusal) xs ys n closed same = tt

same_set-within : (xs zs : List Path) → ((q : Path) → exists q zs → exists q xs) → SameSet xs (xs ++ zs)
same_set-within xs zs h =
    same_set_from xs (xs ++ zs) (λ q. absorbed (list_any (same_path q) xs) (list_any (same_path q) zs) (h q) ∙ sym (list_any-append (same_path q) xs zs))

-- one path alone
only : (p q : Path) → exists q (p ∷ []) → q ≡ p
only p q h = (same_path-Decides q p).0 (one (same_path q p) h)
  where
    one : (b : Bool) → (b || false) ≡ true → b ≡ true
    one true h = refl
    one false h = h

no_ancestors : (n : Path) → length n ≤ 1 → ancestors n ≡ []
no_ancestors [] few = refl
no_ancestors (m ∷ []) few = refl
no_ancestors (m ∷ l ∷ n) few = absurd (omega (arith, few))

-- the path of one name has none
pub same_set-last : (xs zs : List Path) (n : Path) → length n ≤ 1 → SameSet (xs ++ ancestors n) zs → SameSet xs zs
same_set-last xs zs n few left =
    ap set.from_list (sym (append-nil xs) ∙ ap (λ above. xs ++ above) (sym (no_ancestors n few))) ∙ left

or_comm : (a b c : Bool) → (a || (b || c)) ≡ (a || (c || b))
or_comm true b c = refl
or_comm false true true = refl
or_comm false true false = refl
or_comm false false true = refl
or_comm false false false = refl

pub same_set-swap : (xs a b : List Path) → SameSet (xs ++ (a ++ b)) (xs ++ (b ++ a))
same_set-swap xs a b =
    same_set_from (xs ++ (a ++ b)) (xs ++ (b ++ a))
    (λ q. list_any-append (same_path q) xs (a ++ b) ∙ ap (λ o. list_any (same_path q) xs || o) (list_any-append (same_path q) a b)
    ∙ or_comm (list_any (same_path q) xs) (list_any (same_path q) a) (list_any (same_path q) b)
    ∙ sym (list_any-append (same_path q) xs (b ++ a) ∙ ap (λ o. list_any (same_path q) xs || o) (list_any-append (same_path q) b a)))

-- a list that has the proper ancestors of each of its paths of fewer than `count` names
abbrev pub HaveAncestorsTo : ℕ → List Path → Type 0
HaveAncestorsTo count xs = (p q : Path) → exists p xs → length p < count → exists q (ancestors p) → exists q xs

-- it still has, where a path of no fewer names was put in
pub closed_to-more : (xs ys : List Path) (t : Path) (more count : ℕ) → HaveAncestorsTo more xs → count ≤ more → count ≤ length t
    → SameSet ys (xs ++ t ∷ []) → HaveAncestorsTo count ys
closed_to-more xs ys t more count closed fewer long same p q h short a =
    same_members ys (xs ++ t ∷ []) q same
    ∙ elim (exists-append_cases p xs (t ∷ []) (sym (same_members ys (xs ++ t ∷ []) p same) ∙ h)) [
      | inl old ↦ exists-append_left q xs (t ∷ []) (closed p q old (omega arith) a)
      | inr this ↦ absurd (let e : length p ≡ length t = ap length (only t p this) in omega arith)
    ]

-- where its parent is there
same_set-above : (xs : List Path) (n : Path) (d : ℕ) → HaveAncestorsTo (length n) xs → 1 ≤ d → length n ≡ d + 1 → exists (take d n) xs
    → SameSet xs (xs ++ ancestors n)
same_set-above xs n d closed some deep there = same_set-within xs (ancestors n) each
  where
    are : ancestors n ≡ ancestors (take d n) ++ take d n ∷ []
    are = ap ancestors (sym (take_all (d + 1) n (omega (arith, deep)))) ∙ ancestors-take n d some (omega (arith, deep))

    each : (q : Path) → exists q (ancestors n) → exists q xs
    each q h =
        elim (exists-append_cases q (ancestors (take d n)) (take d n ∷ []) (sym (ap (list_any (same_path q)) are) ∙ h)) [
          | inl above ↦ closed (take d n) q there (omega (arith, length-take d n)) above
          | inr last ↦ ap (λ p. list_any (same_path p) xs) (only (take d n) q last) ∙ there
        ]

-- where the path of its first names is there, and one name more
pub same_set-beginning : (xs : List Path) (n : Path) (d more : ℕ) → HaveAncestorsTo more xs → 1 ≤ d → more ≡ d + 1 → more ≤ length n
    → exists (take d n) xs → SameSet xs (xs ++ ancestors (take more n))
same_set-beginning xs n d more closed some next within there =
    same_set-above xs (take more n) d (λ p q h short a. closed p q h (omega (arith, length-take more n)) a) some (omega (arith, length-take more n))
    (subst (λ p. exists p xs) (sym (take-take d more n (omega arith))) there)

pub same_set-parent : (xs : List Path) (n : Path) → HaveAncestors xs → 2 ≤ length n → exists (parent n) xs → SameSet xs (xs ++ ancestors n)
same_set-parent xs n closed deep there =
    same_set-above xs n (length n - 1) (λ p q h short a. closed p q h a) (omega (arith, deep)) (omega (arith, deep))
    (subst (λ p. exists p xs) (parent-take n) there)

-- once the path of its first names was put in, the ancestors above that one are left
pub same_set-left : (xs ys zs : List Path) (n : Path) (d more : ℕ) → 1 ≤ d → more ≡ d + 1 → more ≤ length n
    → SameSet ys (xs ++ take d n ∷ []) → SameSet (xs ++ ancestors (take more n)) zs → SameSet (ys ++ ancestors (take d n)) zs
same_set-left xs ys zs n d more some next within same left =
    same_set-append ys (xs ++ take d n ∷ []) (ancestors (take d n)) same
    ∙ ap set.from_list (append_assoc xs (take d n ∷ []) (ancestors (take d n)))
    ∙ same_set-swap xs (take d n ∷ []) (ancestors (take d n))
    ∙ ap (λ above. set.from_list (xs ++ above)) (sym (ap (λ k. ancestors (take k n)) next ∙ ancestors-take n d some (omega arith)))
    ∙ left

-- what is at an index is there
pub parent_there : (xs : List Path) (n held : Path) (i : ℕ) → i < length xs → held ≡ get_or xs i held → parent n ≡ held → exists (parent n) xs
parent_there xs n held i within read is = subst (λ p. exists p xs) (sym is) (exists_from_Contains held xs (i, within, sym read))
