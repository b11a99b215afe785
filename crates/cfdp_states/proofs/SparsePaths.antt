-- Paths that are shown, in a map by path: each once.
--     sees_by_more                      more paths show more
--     contained_same, added_same, none_added      one more path, and those of a list
--     holds_all                         the paths of a footprint
--     still                             what no rename moves
--     put_same                          one more path in the map
--     shown_tree, shown_entries         whether one is at or below a path
--     children_tree             the children that are shown, from the range below a path
--     Found, none_found, all_found      the children that were found among the first of some paths
--     has_same, deepest_same            what is beside the same paths
--     next_rest, next_shared            one more name that two paths share
--     none_known, last_known            the first names of a path, where those of a path before it are the same
use Rattle.std.proofs.Common.{◌≡◌, refl, sym, ◌∙◌, ap, subst, inl, inr, Bool, true, false, cond, not, ◌||◌, ◌&&◌, ◌==◌, is_some, ne_eqb, Option, Some, ℕ, suc, ◌+◌, ◌<◌, ◌≤◌, List, [], ◌∷◌, ◌++◌, drop, get_or, zero, slice_get, length, length-take, take, take_all, if◌then◌else◌, true≢false, append_assoc, arith}
use Rattle.std.proofs.lemmas.Bool.{cases_Bool, or_cases, or_parts}
use Rattle.std.proofs.lemmas.List.{append-nil, drop_all}
use Rattle.std.proofs.lemmas.List.Folds.{list_any-append, list_any_more}
use Rattle.std.proofs.lemmas.Map.Keys.{any_passes_from_place}
use Rattle.std.proofs.Math.Seq.{drop-cons, take-add}
use Rattle.std.specs.List.{list_any}
use Rattle.std.specs.FinMap.{find, put, len, entries, retain_keys}
use Rattle.std.specs.FinSet as set
use Rattle.std.specs.FinMap.Entries.{find-put}
use Rattle.cfdp_paths.specs.Paths.{Path, path_cmp, same_path, is_at_or_below, is_below}
use Rattle.cfdp_paths.specs.PathMaps.{tree_in}
use Rattle.cfdp_paths.proofs.Below.{at_or_below-trans}
use Rattle.cfdp_paths.proofs.Comparing.{path_cmp-total}
use Rattle.cfdp_actions.specs.Filestore.{Filestore, deepest_beside, deepest_of, has_beside, is_beside, is_root}
use Rattle.cfdp_actions.proofs.Order.{same_path-true}
use Rattle.cfdp_actions.specs.Actions.{Item}
use Rattle.cfdp_actions.proofs.BesideLaws.{below_longer}
use Rattle.cfdp_leases.specs.Footprint.{Footprint}
use Rattle.cfdp_leases.proofs.Ordered.{same_members, same_set-there}
use Rattle.cfdp_leases.proofs.Views.{same_test}
use Rattle.cfdp_leases.proofs.Sets.{exists, exists-append_left, exists-append_right, exists-append_cases, exists_from_contains, any_at, any_from}
use Rattle.cfdp_states.specs.code.Sparse.{AreSame, HoldsLeased, PassAbove, SeesBy, children, is_shown, moved_back, paths_in, with_origin}
use Rattle.cfdp_states.proofs.SparseLists.{front_above, origin_else, shows_from, shows-parts, take-at_or_below}
use Rattle.cfdp_states.proofs.SparseFillers.{same_long}

-- ---- the same paths

pub sees_by_more : (a b : List Path) (items : List Item) → ((x : Path) → exists x b → exists x a) → SeesBy b items → SeesBy a items
sees_by_more a b items more sees test h = sees test (λ x seen.
    let s = shows-parts b x seen in
    h x (shows_from a s.path x (more s.path s.exists_in) s.named s.at))

-- what is there already
pub contained_same : (p : Path) (xs : List Path) → list_any (λ y. same_path y p) xs ≡ true → AreSame xs (xs ++ p ∷ [])
contained_same p xs h x = same_members xs (xs ++ p ∷ []) x (same_set-there xs p (same_test p xs ∙ h))

-- one more of the others
pub added_same : (later now old others : List Path) (i : ℕ) (p : Path) → i < length others → p ≡ get_or others i p →
    AreSame later (now ++ p ∷ []) → AreSame now (old ++ take i others) → AreSame later (old ++ take (i + 1) others)
added_same later now old others i p within is next same x =
    next x ∙ list_any-append (same_path x) now (p ∷ [])
    ∙ ap (λ b. b || (same_path x p || false)) (same x ∙ list_any-append (same_path x) old (take i others))
    ∙ grouped (list_any (same_path x) old) (list_any (same_path x) (take i others)) (same_path x p)
    ∙ sym (list_any-append (same_path x) old (take (i + 1) others)
    ∙ ap (λ b. list_any (same_path x) old || b) (list_any_more (same_path x) others i p within
    ∙ ap (λ q. list_any (same_path x) (take i others) || same_path x q) (sym is)))
  where
    grouped : (a b c : Bool) → ((a || b) || (c || false)) ≡ (a || (b || c))
    grouped true b c = refl
    grouped false true c = refl
    grouped false false true = refl
    grouped false false false = refl

pub none_added : (now others : List Path) → AreSame now (now ++ take 0 others)
none_added now others x = sym (ap (list_any (same_path x)) (append-nil now))

-- the shared paths of a footprint, the exclusive ones, and others
pub holds_all : (one two three shared exclusive named : List Path) (fp : Footprint) → AreSame one ([] ++ shared) → AreSame two (one ++ exclusive) →
    AreSame three (two ++ named) → set.from_list exclusive ≡ fp.exclusive → set.from_list shared ≡ fp.shared → HoldsLeased three fp
holds_all one two three shared exclusive named fp a b c is_exclusive is_shared = record {
  exclusive = λ e h. c e ∙ exists-append_left e two named (b e ∙ exists-append_right e one exclusive
      (exists_from_contains exclusive e (ap (λ s. set.contains s e) is_exclusive ∙ h)));
  shared = λ e h. c e ∙ exists-append_left e two named (b e ∙ exists-append_left e one exclusive (a e
      ∙ exists_from_contains shared e (ap (λ s. set.contains s e) is_shared ∙ h)));
}

-- what no rename moves
pub still : (p q : Path) (paths : List Path) → list_any (λ s. is_at_or_below s q || is_at_or_below s p) paths ≡ false → moved_back p q paths ≡ paths
still p q [] h = refl
still p q (s ∷ paths) h =
    let parts = or_parts (is_at_or_below s q || is_at_or_below s p) (list_any (λ s. is_at_or_below s q || is_at_or_below s p) paths) h in
    let apart = or_parts (is_at_or_below s q) (is_at_or_below s p) parts.0 in
    ap (λ o. with_origin o (moved_back p q paths)) (origin_else p q s apart.0 apart.1) ∙ ap (λ ps. s ∷ ps) (still p q paths parts.1)

-- ---- the map

found : {X : Type 0} (es : List (Path × X)) (x : Path) → list_any (same_path x) (paths_in es) ≡ is_some (find path_cmp x es)
found [] x = refl
found (e ∷ es) x = elim (same_path x e.0) as (λ b. (b || list_any (same_path x) (paths_in es)) ≡ is_some (cond b (Some e.1) (find path_cmp x es))) [
  | true ↦ refl
  | false ↦ found es x
]

pub put_same : {X : Type 0} (p : Path) (v : X) (es : List (Path × X)) → AreSame (paths_in (put path_cmp p v es)) (paths_in es ++ p ∷ [])
put_same {X} p v es x = found (put path_cmp p v es) x ∙ ap is_some (find-put path_cmp path_cmp-total x p v es)
    ∙ one (same_path x p) (find path_cmp x es) (list_any (same_path x) (paths_in es)) (found es x)
    ∙ sym (list_any-append (same_path x) (paths_in es) (p ∷ []))
  where
    one : (b : Bool) (o : Option X) (l : Bool) → l ≡ is_some o → is_some (cond b (Some v) o) ≡ (l || (b || false))
    one true o true e = refl
    one true o false e = refl
    one false o true e = sym e
    one false o false e = sym e

pub shown_tree : {X : Type 0} (es : List (Path × X)) (x : Path) → not (length (tree_in x es) == 0) ≡ is_shown (paths_in es) x
shown_tree [] x = refl
shown_tree {X} (e ∷ es) x = elim (is_at_or_below e.0 x) as (λ b. not (length (cond b (e ∷ tree_in x es) (tree_in x es)) == 0)
    ≡ (b || is_shown (paths_in es) x)) [
      | true ↦ ap not (ne_eqb (length (e ∷ tree_in x es)) 0 (λ same. omega arith))
      | false ↦ shown_tree es x
    ]

pub shown_entries : {X : Type 0} (es : List (Path × X)) (x : Path) → is_shown (paths_in es) x ≡ list_any (λ (e : Path × X). is_at_or_below e.0 x) es
shown_entries [] x = refl
shown_entries (e ∷ es) x = ap (λ b. is_at_or_below e.0 x || b) (shown_entries es x)

-- ---- children

pub children_tree : {X : Type 0} (p : Path) (es : List (Path × X)) → children p (paths_in (tree_in p es)) ≡ children p (paths_in es)
children_tree p [] = refl
children_tree {X} p (e ∷ es) = elim (is_at_or_below e.0 p) as (λ b. is_at_or_below e.0 p ≡ b →
    children p (paths_in (cond b (e ∷ tree_in p es) (tree_in p es))) ≡ children p (paths_in (e ∷ es))) [
      | true ↦ λ at. λ i. if is_below e.0 p then take (suc (length p)) e.0 ∷ children_tree p es i else children_tree p es i
      | false ↦ λ off. children_tree p es
          ∙ sym (ap (λ b. if b && not (same_path e.0 p) then take (suc (length p)) e.0 ∷ children p (paths_in es) else children p (paths_in es)) off)
    ] refl

next_entry : {X : Type 0} (p : Path) (es : List (Path × X)) (i : ℕ) (e : Path × X) (b : Bool) → i < length es → e ≡ get_or es i e → is_below e.0 p ≡ b →
    children p (paths_in (drop i es))
    ≡ (if b then take (suc (length p)) e.0 ∷ children p (paths_in (drop (i + 1) es)) else children p (paths_in (drop (i + 1) es)))
next_entry p es i e b within is below =
    let next : suc i ≡ i + 1 = omega arith in
    ap (λ rest. children p (paths_in rest)) (drop-cons es i e within ∙ ap (λ f. f ∷ drop (suc i) es) (sym is))
    ∙ ap (λ k. children p (paths_in (e ∷ drop k es))) next
    ∙ ap (λ b. if b then take (suc (length p)) e.0 ∷ children p (paths_in (drop (i + 1) es)) else children p (paths_in (drop (i + 1) es))) below

-- those so far are children, and together with those from here on they are all
pub record Found {X : Type 0} (p : Path) (es : List (Path × X)) (i : ℕ) (sofar : List Path) : Type 0 where
  pub same : AreSame (sofar ++ children p (paths_in (drop i es))) (children p (paths_in es))
  pub long : (c : Path) → exists c sofar → length c ≡ suc (length p)

module _ {X : Type 0} (p : Path) (es : List (Path × X)) (i : ℕ) (sofar : List Path) (f : Found p es i sofar) (e : Path × X) (within : i < length es)
    (is : e ≡ get_or es i e) where
  pub one_more : is_below e.0 p ≡ true → Found p es (i + 1) (sofar ++ take (suc (length p)) e.0 ∷ [])
  one_more below = record {
    same = λ x. ap (list_any (same_path x)) (append_assoc sofar (take (suc (length p)) e.0 ∷ []) (children p (paths_in (drop (i + 1) es)))
        ∙ sym (ap (λ rest. sofar ++ rest) (next_entry p es i e true within is below))) ∙ f.same x;
    long = λ c h. elim (exists-append_cases c sofar (take (suc (length p)) e.0 ∷ []) h) [
      | inl old ↦ f.long c old
      | inr new ↦ elim (or_cases (same_path c (take (suc (length p)) e.0)) false new) [
        | inl same ↦ ap length (same_path-true c (take (suc (length p)) e.0) same)
            ∙ (let more = below_longer e.0 p below in omega (arith, more, length-take (suc (length p)) e.0))
        | inr bad ↦ absurd (true≢false (sym bad))
      ]
    ];
  }

  pub none_more : (is_below e.0 p ≡ true → list_any (λ c. is_at_or_below e.0 c) sofar ≡ true) → Found p es (i + 1) sofar
  none_more known = record {
    same = λ x. elim (cases_Bool (is_below e.0 p)) [
      | inl below ↦
          let child = take (suc (length p)) e.0 in
          let rest = children p (paths_in (drop (i + 1) es)) in
          let old = any_from (λ c. is_at_or_below e.0 c) sofar (known below) in
          let long : length old.0 ≡ suc (length p) = f.long old.0 old.1 in
          let at : is_at_or_below child old.0 ≡ true = subst (λ z. is_at_or_below child z ≡ true) (take_all (suc (length p)) old.0 (omega (arith, long)))
          (take-at_or_below (suc (length p)) e.0 old.0 old.2) in
          let one : child ≡ old.0 = same_long child old.0 at (omega (arith, long, length-take (suc (length p)) e.0)) in
          list_any-append (same_path x) sofar rest
          ∙ again (list_any (same_path x) sofar) (same_path x child) (list_any (same_path x) rest)
          (λ same. any_at (same_path x) sofar old.0 old.1 (subst (λ z. same_path x z ≡ true) one same))
          ∙ sym (list_any-append (same_path x) sofar (child ∷ rest))
          ∙ sym (ap (λ rest. list_any (same_path x) (sofar ++ rest)) (next_entry p es i e true within is below)) ∙ f.same x
      | inr off ↦ sym (ap (λ rest. list_any (same_path x) (sofar ++ rest)) (next_entry p es i e false within is off)) ∙ f.same x
    ];
    long = f.long;
  }
    where
      again : (a b c : Bool) → (b ≡ true → a ≡ true) → (a || c) ≡ (a || (b || c))
      again true b c h = refl
      again false true c h = absurd (true≢false (sym (h refl)))
      again false false c h = refl

pub none_found : {X : Type 0} (p : Path) (es : List (Path × X)) → Found p es 0 []
none_found p es = record { same = λ x. refl; long = λ c h. absurd (true≢false (sym h)) }

pub all_found : {X : Type 0} (p : Path) (es : List (Path × X)) (i : ℕ) (sofar : List Path) → length es ≤ i → Found p es i sofar → AreSame sofar
    (children p (paths_in es))
all_found p es i sofar all f x =
    sym (ap (list_any (same_path x)) (ap (λ rest. sofar ++ children p (paths_in rest)) (drop_all i es all) ∙ append-nil sofar)) ∙ f.same x

beside_same : (a b : List Path) (p : Path) → AreSame a b → is_beside a p ≡ is_beside b p
beside_same a b p same = λ i x. is_below x p && not (same (take (suc (length p)) x) i)

pub has_same : (F : Filestore) (a b : List Path) (p : Path) → AreSame a b → has_beside F p a ≡ has_beside F p b
has_same F a b p same = ap (λ (test : Path → Bool). not (len (retain_keys F.nodes test) == 0)) (beside_same a b p same)

pub deepest_same : (F : Filestore) (a b : List Path) (p : Path) → AreSame a b → deepest_beside F p a ≡ deepest_beside F p b
deepest_same F a b p same = ap (λ (test : Path → Bool). deepest_of (entries (retain_keys F.nodes test))) (beside_same a b p same)

-- ---- the names that a path shares with the one before it

root_above : (x : Path) → is_at_or_below [] x ≡ true → is_root x ≡ true
root_above [] h = refl
root_above (n ∷ x) h = absurd (true≢false (sym h))

pub none_known : (test : Path → Bool) (p : Path) → PassAbove test (take 0 p)
none_known test p x named at = absurd (true≢false (sym (root_above x at) ∙ named))

pub last_known : {X : Type 0} (es : List (Path × X)) (k : ℕ) (e : Path × X) (p : Path) (n : ℕ) → slice_get es k ≡ Some e → take n e.0 ≡ take n p →
    PassAbove (λ x. is_shown (paths_in es) x) (take n p)
last_known {X} es k e p n is same x named at = shown_entries es x ∙ any_passes_from_place (λ (f : Path × X). is_at_or_below f.0 x) es k e is
    (at_or_below-trans e.0 (take n e.0) x (front_above n e.0) (subst (λ z. is_at_or_below z x ≡ true) (sym same) at))

-- one more name that two paths share
next_drop : (n : ℕ) (x : Path) → drop 1 (drop n x) ≡ drop (suc n) x
next_drop zero x = refl
next_drop (suc n) [] = refl
next_drop (suc n) (m ∷ x) = next_drop n x

pub next_rest : (n k : ℕ) (x : Path) → k ≡ n + 1 → drop 1 (drop n x) ≡ drop k x
next_rest n k x is = next_drop n x ∙ (let next : suc n ≡ k = omega (arith, is) in ap (λ k. drop k x) next)

pub next_shared : (n : ℕ) (x y : Path) → take n x ≡ take n y → take 1 (drop n x) ≡ take 1 (drop n y) → take (n + 1) x ≡ take (n + 1) y
next_shared n x y sofar one = take-add n 1 x ∙ (λ i. sofar i ++ one i) ∙ sym (take-add n 1 y)
