-- Paths at and below others, parents and ancestors.
--     append_from_at_or_below, at_or_below_from_append     p is at or below q where p is q and a rest
--     at_or_below-itself, -trans, -antisym, prefixes_compare, length-at_or_below
--     is_below-Decides                                     below: at or below, and another path
--     parent-push, parent-take, parent_below, parent_other, below_parent, child_from_below, length-child, below_from_child
--     Contains-cons                                        what a list contains, it contains with one more before it
--     ancestors-push, ancestors-take, ancestors-Contains, below_ancestor, ancestor_from_below
--     IsPath-rebased                        paths made of paths
--     rebased_depth                                        the depth of such a path
--     path_cmp-below                                       a path is before what is below it
use Rattle.std.proofs.Common.{◌≡◌, ◌≢◌, refl, sym, ◌∙◌, ap, subst, ℕ, zero, suc, ◌+◌, ◌-◌, ◌≤◌, ◌<◌, true, false, not, ◌⊎◌, ◌↔◌, inl, inr, List, [], ◌∷◌, ◌++◌, map, length, take, drop, arith, length-append, length-take, length-drop, take-append-drop, get_or, Some, Contains}
use Rattle.std.specs.Bool.{Decides}
use Rattle.std.specs.Cmp.{tied_itself}
use Rattle.std.specs.Cmp.Lexicographic.{slice_cmp, nat_list_cmp_total}
use Rattle.std.specs.Ordering.{nat_cmp, ordering_then}
use Rattle.std.specs.declared.cmp.Ordering.TheVariants.{Less, Equal}
use Rattle.std.proofs.lemmas.Bool.{and_parts, and_from, true≢false}
use Rattle.std.proofs.lemmas.Bool.Decides.{Decides-and, Decides-not}
use Rattle.std.proofs.lemmas.List.{map-append, get_or-map, take_at, drop_at, take_more, length-map}
use Rattle.std.proofs.lemmas.List.Elements.{All-drop, All-append}
use Rattle.cfdp_paths.specs.Paths.{Name, Path, IsName, IsPath, same_name, same_path, is_at_or_below, is_below, path_cmp, parent, unless_root, ancestors, rebased}
use Rattle.cfdp_paths.proofs.Comparing.{same_name-Decides, same_path-Decides}

pub same_name-refl : (n : Name) → same_name n n ≡ true
same_name-refl n = (same_name-Decides n n).1 refl

-- p is q and what follows, where p is at or below q
pub append_from_at_or_below : (p q : Path) → is_at_or_below p q ≡ true → p ≡ q ++ drop (length q) p
append_from_at_or_below p [] h = refl
append_from_at_or_below [] (n ∷ q) h = absurd (true≢false (sym h))
append_from_at_or_below (m ∷ p) (n ∷ q) h =
    let parts = and_parts (same_name m n) (is_at_or_below p q) h in
    rw ((same_name-Decides m n).0 parts.0) (ap (λ x. n ∷ x) (append_from_at_or_below p q parts.1))

pub at_or_below-append : (q r : Path) → is_at_or_below (q ++ r) q ≡ true
at_or_below-append [] r = refl
at_or_below-append (n ∷ q) r = and_from (same_name n n) (is_at_or_below (q ++ r) q) (same_name-refl n) (at_or_below-append q r)

-- the other way round
pub at_or_below_from_append : (p q r : Path) → p ≡ q ++ r → is_at_or_below p q ≡ true
at_or_below_from_append p q r e = rw e (at_or_below-append q r)

pub at_or_below-itself : (p : Path) → is_at_or_below p p ≡ true
at_or_below-itself [] = refl
at_or_below-itself (n ∷ p) = and_from (same_name n n) (is_at_or_below p p) (same_name-refl n) (at_or_below-itself p)

pub at_or_below-trans : (p q r : Path) → is_at_or_below p q ≡ true → is_at_or_below q r ≡ true → is_at_or_below p r ≡ true
at_or_below-trans p q [] a b = refl
at_or_below-trans p [] (n ∷ r) a b = absurd (true≢false (sym b))
at_or_below-trans [] (m ∷ q) (n ∷ r) a b = absurd (true≢false (sym a))
at_or_below-trans (l ∷ p) (m ∷ q) (n ∷ r) a b =
    let above = and_parts (same_name l m) (is_at_or_below p q) a in
    let below = and_parts (same_name m n) (is_at_or_below q r) b in
    let same : same_name l n ≡ true = (same_name-Decides l n).1 ((same_name-Decides l m).0 above.0 ∙ (same_name-Decides m n).0 below.0) in
    and_from (same_name l n) (is_at_or_below p r) same (at_or_below-trans p q r above.1 below.1)

-- two prefixes of one path
pub prefixes_compare : (p q r : Path) → is_at_or_below p q ≡ true → is_at_or_below p r ≡ true → (is_at_or_below q r ≡ true) ⊎ (is_at_or_below r q ≡ true)
prefixes_compare p [] r a b = inr refl
prefixes_compare p (m ∷ q) [] a b = inl refl
prefixes_compare [] (m ∷ q) (n ∷ r) a b = absurd (true≢false (sym a))
prefixes_compare (l ∷ p) (m ∷ q) (n ∷ r) a b =
    let above = and_parts (same_name l m) (is_at_or_below p q) a in
    let below = and_parts (same_name l n) (is_at_or_below p r) b in
    let e : m ≡ n = sym ((same_name-Decides l m).0 above.0) ∙ (same_name-Decides l n).0 below.0 in
    elim (prefixes_compare p q r above.1 below.1) [
      | inl h ↦ inl (and_from (same_name m n) (is_at_or_below q r) ((same_name-Decides m n).1 e) h)
      | inr h ↦ inr (and_from (same_name n m) (is_at_or_below r q) ((same_name-Decides n m).1 (sym e)) h)
    ]

-- each above the other
pub at_or_below-antisym : (p q : Path) → is_at_or_below p q ≡ true → is_at_or_below q p ≡ true → p ≡ q
at_or_below-antisym [] [] a b = refl
at_or_below-antisym [] (n ∷ q) a b = absurd (true≢false (sym a))
at_or_below-antisym (m ∷ p) [] a b = absurd (true≢false (sym b))
at_or_below-antisym (m ∷ p) (n ∷ q) a b =
    let above = and_parts (same_name m n) (is_at_or_below p q) a in
    let below = and_parts (same_name n m) (is_at_or_below q p) b in
    rw ((same_name-Decides m n).0 above.0) (ap (λ x. n ∷ x) (at_or_below-antisym p q above.1 below.1))

-- ---- parents

pub parent-push : (q : Path) (n : Name) → parent (q ++ n ∷ []) ≡ q
parent-push [] n = refl
parent-push (m ∷ []) n = refl
parent-push (m ∷ l ∷ q) n = ap (λ x. m ∷ x) (parent-push (l ∷ q) n)

pub parent-take : (p : Path) → parent p ≡ take (length p - 1) p
parent-take [] = refl
parent-take (n ∷ []) = refl
parent-take (n ∷ m ∷ p) =
    let more : suc (suc (length p)) - 1 ≡ suc (length p) = omega arith in
    let less : suc (length p) - 1 ≡ length p = omega arith in
    rw more (ap (λ x. n ∷ x) (parent-take (m ∷ p) ∙ ap (λ k. take k (m ∷ p)) less))

pub parent_at_or_below : (p : Path) → is_at_or_below p (parent p) ≡ true
parent_at_or_below p =
    at_or_below_from_append p (parent p) (drop (length p - 1) p) (rw (parent-take p) (sym (take-append-drop (length p - 1) p)))

-- ---- strictly below

pub is_below-Decides : (p q : Path) → Decides (is_below p q) ((is_at_or_below p q ≡ true) × (p ≢ q))
is_below-Decides p q =
    Decides-and (is_at_or_below p q) (not (same_path p q)) ((λ e. e), (λ e. e)) (Decides-not (same_path p q) (same_path-Decides p q))

pub parent_below : (p : Path) → 1 ≤ length p → is_below p (parent p) ≡ true
parent_below p some =
    (is_below-Decides p (parent p)).1 (
      parent_at_or_below p,
      λ e. let same : length p ≡ length (take (length p - 1) p) = ap length (e ∙ parent-take p) in
          omega (arith, length-take (length p - 1) p),
    )

-- a path but the root is not its own parent
pub parent_other : (p : Path) → p ≢ [] → p ≢ parent p
parent_other [] some same = some refl
parent_other (n ∷ p) some same = ((is_below-Decides (n ∷ p) (parent (n ∷ p))).0 (parent_below (n ∷ p) (omega arith))).1 same

other_rest : (m n : Name) (p q : Path) → m ≡ n → ◌≢◌ {A = Path} (m ∷ p) (n ∷ q) → p ≢ q
other_rest m n p q same other e = other (ap (λ x. x ∷ p) same ∙ ap (λ x. n ∷ x) e)

pub parent_of_below : (p q : Path) → is_at_or_below p q ≡ true → p ≢ q → is_at_or_below (parent p) q ≡ true
parent_of_below p [] h other = refl
parent_of_below [] (n ∷ q) h other = absurd (true≢false (sym h))
parent_of_below (m ∷ []) (n ∷ []) h other = absurd (other (ap (λ x. x ∷ []) ((same_name-Decides m n).0 (and_parts (same_name m n) true h).0)))
parent_of_below (m ∷ []) (n ∷ l ∷ q) h other = absurd (true≢false (sym (and_parts (same_name m n) false h).1))
parent_of_below (m ∷ l ∷ p) (n ∷ q) h other =
    let parts = and_parts (same_name m n) (is_at_or_below (l ∷ p) q) h in
    let rest = other_rest m n (l ∷ p) q ((same_name-Decides m n).0 parts.0) other in
    and_from (same_name m n) (is_at_or_below (parent (l ∷ p)) q) parts.0 (parent_of_below (l ∷ p) q parts.1 rest)

-- what is below q has its parent at or below q
pub below_parent : (p q : Path) → is_below p q ≡ true → is_at_or_below (parent p) q ≡ true
below_parent p q h = let parts = (is_below-Decides p q).0 h in parent_of_below p q parts.0 parts.1

-- ---- ancestors

pub ancestors-push : (q : Path) (n : Name) → 1 ≤ length q → ancestors (q ++ n ∷ []) ≡ ancestors q ++ q ∷ []
ancestors-push [] n some = absurd (omega arith)
ancestors-push (m ∷ []) n some = refl
ancestors-push (m ∷ l ∷ q) n some =
    ap (λ paths. (m ∷ []) ∷ map (λ x. m ∷ x) paths) (ancestors-push (l ∷ q) n (omega arith))
    ∙ ap (λ paths. (m ∷ []) ∷ paths) (map-append (λ x. m ∷ x) (ancestors (l ∷ q)) ((l ∷ q) ∷ []))

pub Contains-cons : {X : Type 0} (xs : List X) (y x : X) → Contains xs x → Contains (y ∷ xs) x
Contains-cons xs y x (k, within, e) = (suc k, omega arith, e)

Contains-map : {X Y : Type 0} (f : X → Y) (xs : List X) (x : X) → Contains xs x → Contains (map f xs) (f x)
Contains-map f xs x (k, within, e) = (k, omega (arith, length-map xs f), get_or-map f xs k x (f x) within ∙ ap f e)

Contains-from_map : {X Y : Type 0} (f : X → Y) (xs : List X) (y : Y) → Contains (map f xs) y → (x : X) × Contains xs x × (f x ≡ y)
Contains-from_map f [] y (k, within, e) = absurd (omega arith)
Contains-from_map f (x ∷ xs) y (zero, within, e) = (x, (zero, omega arith, refl), e)
Contains-from_map f (x ∷ xs) y (suc k, within, e) =
    let found = Contains-from_map f xs y (k, omega arith, e) in
    (found.0, Contains-cons xs x found.0 found.1, found.2)

pub below_ancestor : (p q : Path) → Contains (ancestors p) q → (is_at_or_below p q ≡ true) × (p ≢ q) × (q ≢ [])
below_ancestor [] q (k, within, e) = absurd (omega arith)
below_ancestor (n ∷ []) q (k, within, e) = absurd (omega arith)
below_ancestor (n ∷ m ∷ p) q (zero, within, e) =
    let first : n ∷ [] ≡ q = e in
    (subst (λ x. is_at_or_below (n ∷ m ∷ p) x ≡ true) first (and_from (same_name n n) true (same_name-refl n) refl), (λ same. cc), (λ none. cc))
below_ancestor (n ∷ m ∷ p) q (suc k, within, e) =
    let found = Contains-from_map (λ x. n ∷ x) (ancestors (m ∷ p)) q (k, omega arith, e) in
    let rest = below_ancestor (m ∷ p) found.0 found.1 in
    let below = and_from (same_name n n) (is_at_or_below (m ∷ p) found.0) (same_name-refl n) rest.0 in
    let other = rest.1 in
    let last : n ∷ found.0 ≡ q = found.2 in
    (subst (λ x. is_at_or_below (n ∷ m ∷ p) x ≡ true) last below, (λ same. other (cc)), (λ none. cc))

pub ancestor_from_below : (p q : Path) → is_at_or_below p q ≡ true → p ≢ q → q ≢ [] → Contains (ancestors p) q
ancestor_from_below p [] h other some = absurd (some refl)
ancestor_from_below [] (n ∷ q) h other some = absurd (true≢false (sym h))
ancestor_from_below (m ∷ []) (n ∷ []) h other some = absurd (other (ap (λ x. x ∷ []) ((same_name-Decides m n).0 (and_parts (same_name m n) true h).0)))
ancestor_from_below (m ∷ []) (n ∷ l ∷ q) h other some = absurd (true≢false (sym (and_parts (same_name m n) false h).1))
ancestor_from_below (m ∷ l ∷ p) (n ∷ []) h other some =
    (zero, omega arith, ap (λ x. x ∷ []) ((same_name-Decides m n).0 (and_parts (same_name m n) true h).0))
ancestor_from_below (m ∷ l ∷ p) (n ∷ k ∷ q) h other some =
    let parts = and_parts (same_name m n) (is_at_or_below (l ∷ p) (k ∷ q)) h in
    let same : m ≡ n = (same_name-Decides m n).0 parts.0 in
    let rest = ancestor_from_below (l ∷ p) (k ∷ q) parts.1 (other_rest m n (l ∷ p) (k ∷ q) same other) (λ none. cc) in
    let found = Contains-map (λ x. m ∷ x) (ancestors (l ∷ p)) (k ∷ q) rest in
    let all : List Path = map (λ x. m ∷ x) (ancestors (l ∷ p)) in
    Contains-cons all (m ∷ []) (n ∷ k ∷ q) (subst (λ x. Contains all (x ∷ k ∷ q)) same found)

pub ancestors-Contains : (p q : Path) → Contains (ancestors p) q ↔ ((is_below p q ≡ true) × (q ≢ []))
ancestors-Contains p q = (
  (λ h. let found = below_ancestor p q h in ((is_below-Decides p q).1 (found.0, found.1), found.2)),
  (λ h. let parts = (is_below-Decides p q).0 h.0 in ancestor_from_below p q parts.0 parts.1 h.1),
)

-- ---- paths made of paths

pub length-rebased : (p q x : Path) → length (rebased p q x) ≡ length q + (length x - length p)
length-rebased p q x = omega (arith, length-append q (drop (length p) x), length-drop (length p) x)

pub IsPath-rebased : (p q x : Path) → length x + length q ≤ 8 + length p → length p ≤ length x → IsPath q → IsPath x → IsPath (rebased p q x)
IsPath-rebased p q x room above v w = record {
  some = omega (arith, length-rebased p q x, v.some);
  few = omega (arith, length-rebased p q x);
  names = All-append IsName q (drop (length p) x) v.names (All-drop IsName (length p) x w.names);
}

-- its depth, where the depths of the three are known
pub rebased_depth : (own to from : ℕ) (x q p : Path) → length p ≤ length x → own ≡ length x → to ≡ length q → from ≡ length p → own + to - from
    ≡ length (rebased p q x)
rebased_depth own to from x q p short own_is to_is from_is = omega (arith, length-rebased p q x, short, own_is, to_is, from_is)

-- ---- children

pub child_from_below : (p q : Path) → length p ≡ length q + 1 → is_at_or_below p q ≡ true → parent p ≡ q
child_from_below p q long below =
    let e = append_from_at_or_below p q below in
    let less : length p - 1 ≡ length q = omega arith in
    parent-take p ∙ ap (λ n. take n p) less ∙ ap (take (length q)) e ∙ take_at q (drop (length q) p) (length q) refl

pub length-child : (p q : Path) → 1 ≤ length p → parent p ≡ q → length p ≡ length q + 1
length-child p q some e =
    let short : length q ≡ length (take (length p - 1) p) = ap length (sym e ∙ parent-take p) in
    omega (arith, length-take (length p - 1) p)

pub below_from_child : (p q : Path) → parent p ≡ q → is_at_or_below p q ≡ true
below_from_child p q e = subst (λ x. is_at_or_below p x ≡ true) e (parent_at_or_below p)

-- ---- the parent, the root apart

pub unless_root-more : (p q : Path) → 1 ≤ length p → length p ≢ 1 → q ≡ take (length p - 1) p → Some q ≡ unless_root (parent p)
unless_root-more [] q some more e = absurd (omega arith)
unless_root-more (n ∷ []) q some more e = absurd (more refl)
unless_root-more (n ∷ m ∷ p) q some more e = ap (λ x. Some x) (e ∙ sym (parent-take (n ∷ m ∷ p)))

-- the ancestors of one more name's path
pub ancestors-take : (p : Path) (k : ℕ) → 1 ≤ k → k < length p → ancestors (take (k + 1) p) ≡ ancestors (take k p) ++ take k p ∷ []
ancestors-take p k some within =
    let d : Name = [] in
    let more : take (k + 1) p ≡ take k p ++ get_or p k d ∷ [] = take_more p k d within in
    ap ancestors more ∙ ancestors-push (take k p) (get_or p k d) (omega (arith, length-take k p))

pub length-at_or_below : (p q : Path) → is_at_or_below p q ≡ true → length q ≤ length p
length-at_or_below p q h =
    let long : length p ≡ length (q ++ drop (length q) p) = ap length (append_from_at_or_below p q h) in
    omega (arith, length-append q (drop (length q) p))

-- ---- the order

name_cmp-itself : (n : Name) → slice_cmp nat_cmp n n ≡ Equal
name_cmp-itself = tied_itself nat_list_cmp_total

-- a path is before all that is strictly below it
pub path_cmp-below : (p q : Path) → is_at_or_below p q ≡ true → p ≢ q → path_cmp q p ≡ Less
path_cmp-below [] [] h other = absurd (other refl)
path_cmp-below (m ∷ p) [] h other = refl
path_cmp-below [] (n ∷ q) h other = absurd (true≢false (sym h))
path_cmp-below (m ∷ p) (n ∷ q) h other =
    let parts = and_parts (same_name m n) (is_at_or_below p q) h in
    let same : m ≡ n = (same_name-Decides m n).0 parts.0 in
    let rest = path_cmp-below p q parts.1 (other_rest m n p q same other) in
    ap (λ x. ordering_then (slice_cmp nat_cmp n x) (path_cmp q p)) same
    ∙ ap (λ o. ordering_then o (path_cmp q p)) (name_cmp-itself n) ∙ rest

pub rebased-append : (p q r : Path) → rebased p q (p ++ r) ≡ q ++ r
rebased-append p q r = ap (λ x. q ++ x) (drop_at p r (length p) refl)
