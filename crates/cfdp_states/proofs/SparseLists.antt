-- What is to be shown so that a list of items sees no more.
--     take-at_or_below, front_above     the first names of a path are above those of what is below it, and above itself
--     shows_from, shows-parts           what is above one of the paths is shown
--     sees_nothing, sees_request, sees_install, sees_more     no item, one more, and more paths
--     origin_at, origin_else            where a path was
--     knows_all_moves                   what is moved by a list
use Rattle.std.proofs.Common.{◌≡◌, refl, sym, ◌∙◌, ap, subst, inl, inr, Bool, true, false, not, ◌||◌, nat_lt, get_or, Option, Some, None, ℕ, zero, suc, ◌+◌, ◌-◌, ◌≤◌, ◌<◌, min, List, [], ◌∷◌, ◌++◌, map, length, drop, take, take_all, arith, true≢false, lt-ltb, if◌then◌else◌}
use Rattle.std.proofs.lemmas.Bool.{cases_lt, cases_Bool, and_parts, and_from, or_left, or_right, or_cases}
use Rattle.std.proofs.lemmas.List.{drop-take, drop_all, take_min}
use Rattle.std.proofs.Math.Seq.{drop-cons, take-append-add}
use Rattle.std.specs.List.{list_any, list_all}
use Rattle.cfdp_paths.specs.Paths.{Path, IsPath, same_name, same_path, is_at_or_below, parent, rebased}
use Rattle.cfdp_paths.proofs.Below.{at_or_below-itself, at_or_below-trans, prefixes_compare, parent_at_or_below}
use Rattle.cfdp_actions.specs.Filestore.{is_root}
use Rattle.cfdp_actions.specs.Actions.{Request, CreateFile, DeleteFile, RenameFile, AppendFile, ReplaceFile, CreateDirectory, RemoveDirectory, DenyFile, DenyDirectory, Item, Install, Perform}
use Rattle.cfdp_actions.proofs.Prefixes.{below_root, rebased-below}
use Rattle.cfdp_leases.specs.Items.{items_of}
use Rattle.cfdp_leases.proofs.Sets.{exists, any_at, any_from, exists-append_left, exists-append_right}
use Rattle.cfdp_leases.specs.Footprint.{named_in}
use Rattle.cfdp_states.specs.Sparse.{Sees, KnowsMoves, passes_after, sees_path}
use Rattle.cfdp_states.specs.code.Sparse.{is_shown, shows, SeesBy, origin, with_origin, moved_back, shown_before, back_over, is_moved}
use Rattle.cfdp_actions.proofs.Order.{same_path-true, same_path-refl}
use Rattle.cfdp_states.proofs.MovedPaths.{not_both, at-moved}
use Rattle.cfdp_states.proofs.SparseMoves.{passes_at, passes_gone, passes_else}

-- ---- the first names

pub take-at_or_below : (n : ℕ) (x y : Path) → is_at_or_below x y ≡ true → is_at_or_below (take n x) (take n y) ≡ true
take-at_or_below zero x y h = refl
take-at_or_below (suc n) x [] h = below_root (take (suc n) x)
take-at_or_below (suc n) [] (l ∷ y) h = absurd (true≢false (sym h))
take-at_or_below (suc n) (m ∷ x) (l ∷ y) h =
    let parts = and_parts (same_name m l) (is_at_or_below x y) h in
    and_from (same_name m l) (is_at_or_below (take n x) (take n y)) parts.0 (take-at_or_below n x y parts.1)

pub front_above : (n : ℕ) (x : Path) → is_at_or_below x (take n x) ≡ true
front_above zero x = below_root x
front_above (suc n) [] = refl
front_above (suc n) (m ∷ x) = and_from (same_name m m) (is_at_or_below x (take n x)) (and_parts (same_name m m) (is_at_or_below x x)
    (at_or_below-itself (m ∷ x))).0 (front_above n x)

pub rooted_above : (x p : Path) → is_at_or_below x p ≡ true → is_root p ≡ false → is_root x ≡ false
rooted_above x [] at named = absurd (true≢false named)
rooted_above [] (n ∷ p) at named = absurd (true≢false (sym at))
rooted_above (m ∷ x) (n ∷ p) at named = refl

no_root : (x : Path) → not (is_root x) ≡ true → is_root x ≡ false
no_root [] h = absurd (true≢false (sym h))
no_root (n ∷ x) h = refl

not_root : (x : Path) → is_root x ≡ false → not (is_root x) ≡ true
not_root x h = ap not h

-- ---- what is shown

pub shows_from : (paths : List Path) (s x : Path) → exists s paths → is_root x ≡ false → is_at_or_below s (take 8 x) ≡ true → shows paths x ≡ true
shows_from paths s x in_them named at =
    and_from (not (is_root x)) (is_shown paths (take 8 x)) (not_root x named) (any_at (λ s. is_at_or_below s (take 8 x)) paths s in_them at)

-- one of the paths itself, and what is above it
pub shows_above : (paths : List Path) (s x : Path) → exists s paths → is_root x ≡ false → is_at_or_below s x ≡ true → shows paths x ≡ true
shows_above paths s x in_them named at = shows_from paths s x in_them named (at_or_below-trans s x (take 8 x) at (front_above 8 x))

pub record Shown (paths : List Path) (x : Path) : Type 0 where
  pub path : Path
  pub exists_in : exists path paths
  pub named : is_root x ≡ false
  pub at : is_at_or_below path (take 8 x) ≡ true

pub shows-parts : (paths : List Path) (x : Path) → shows paths x ≡ true → Shown paths x
shows-parts paths x h =
    let parts = and_parts (not (is_root x)) (is_shown paths (take 8 x)) h in
    let s = any_from (λ s. is_at_or_below s (take 8 x)) paths parts.1 in
    record { path = s.0; exists_in = s.1; named = no_root x parts.0; at = s.2 }

pub shows_more : (paths more : List Path) (x : Path) → shows paths x ≡ true → shows (paths ++ more) x ≡ true
shows_more paths more x h = let s = shows-parts paths x h in shows_from (paths ++ more) s.path x (exists-append_left s.path paths more s.exists_in) s.named s.at

-- ---- the names of an item

names_seen : (names paths : List Path) (test : Path → Bool) → list_all (λ p. not (is_root p)) names ≡ true →
    ((p : Path) → exists p names → exists p paths) → ((x : Path) → shows paths x ≡ true → test x ≡ true) → list_all (sees_path test) names ≡ true
names_seen [] paths test named there h = refl
names_seen (p ∷ names) paths test named there h =
    let parts = and_parts (not (is_root p)) (list_all (λ p. not (is_root p)) names) named in
    let in_them = there p (or_left (same_path p p) (list_any (same_path p) names) (same_path-refl p)) in
    let own : test p ≡ true = h p (shows_above paths p p in_them (no_root p parts.0) (at_or_below-itself p)) in
    let above : is_root (parent p) || test (parent p) ≡ true =
    elim (cases_Bool (is_root (parent p))) [
      | inl e ↦ or_left (is_root (parent p)) (test (parent p)) e
      | inr f ↦ or_right (is_root (parent p)) (test (parent p)) (h (parent p) (shows_above paths p (parent p) in_them f (parent_at_or_below p)))
    ] in
    and_from (sees_path test p) (list_all (sees_path test) names) (and_from (test p) (is_root (parent p) || test (parent p)) own above)
    (names_seen names paths test parts.1 (λ q s. there q (or_right (same_path q p) (list_any (same_path q) names) s)) h)

-- ---- where a path was

pub origin_at : (p q s : Path) → is_at_or_below s q ≡ true → origin p q s ≡ Some (take 8 (rebased q p s))
origin_at p q s at = ap (λ b. if b then Some (take 8 (rebased q p s)) else if is_at_or_below s p then None else Some s) at

pub origin_else : (p q s : Path) → is_at_or_below s q ≡ false → is_at_or_below s p ≡ false → origin p q s ≡ Some s
origin_else p q s off other = λ i. if off i then Some (take 8 (rebased q p s)) else if other i then None else Some s

stays_in : (o : Option Path) (paths : List Path) (r : Path) → exists r paths → exists r (with_origin o paths)
stays_in None paths r h = h
stays_in (Some s) paths r h = or_right (same_path r s) (list_any (same_path r) paths) h

back_in : (p q : Path) (paths : List Path) (s o : Path) → exists s paths → origin p q s ≡ Some o → exists o (moved_back p q paths)
back_in p q [] s o h is = absurd (true≢false (sym h))
back_in p q (t ∷ paths) s o h is =
    elim (or_cases (same_path s t) (list_any (same_path s) paths) h) [
      | inl e ↦ subst (λ (v : Option Path). exists o (with_origin v (moved_back p q paths))) (sym (sym (ap (origin p q) (same_path-true s t e)) ∙ is))
          (or_left (same_path o o) (list_any (same_path o) (moved_back p q paths)) (same_path-refl o))
      | inr r ↦ stays_in (origin p q t) (moved_back p q paths) o (back_in p q paths s o r is)
    ]

-- the first names of what moved are what the first names of it were
pub front_rebased : (p q s : Path) (k : ℕ) → length p ≤ 8 → k ≡ min (length s) (8 + length q - length p) → rebased q p (take k s) ≡ take 8 (rebased q p s)
front_rebased p q s k few is =
    let same : k ≡ min (length q + (8 - length p)) (length s) = omega (arith, few, is) in
    let all : length p + (8 - length p) ≡ 8 = omega (arith, few) in
    ap (λ x. p ++ drop (length q) x) (ap (λ k. take k s) same ∙ take_min (length q + (8 - length p)) s)
    ∙ ap (λ x. p ++ x) (drop-take (length q) (8 - length p) s) ∙ sym (take-append-add p (drop (length q) s) (8 - length p))
    ∙ ap (λ n. take n (p ++ drop (length q) s)) all

pub front_below : (s q : Path) (k : ℕ) → is_at_or_below s q ≡ true → length q ≤ k → is_at_or_below (take k s) q ≡ true
front_below s q k at le = subst (λ z. is_at_or_below (take k s) z ≡ true) (take_all k q le) (take-at_or_below k s q at)

module _ (p q : Path) (paths : List Path) (test : Path → Bool) (named : is_root p ≡ false)
    (h : (x : Path) → shows (moved_back p q paths ++ p ∷ q ∷ []) x ≡ true → test x ≡ true) where
  first_shown : exists p (moved_back p q paths ++ p ∷ q ∷ [])
  first_shown = exists-append_right p (moved_back p q paths) (p ∷ q ∷ []) (or_left (same_path p p) (list_any (same_path p) (q ∷ [])) (same_path-refl p))

  second_shown : exists q (moved_back p q paths ++ p ∷ q ∷ [])
  second_shown = exists-append_right q (moved_back p q paths) (p ∷ q ∷ []) (or_right (same_path q p) (list_any (same_path q) (q ∷ []))
      (or_left (same_path q q) false (same_path-refl q)))

  -- a path above s, where s is below r, and it is not
  above_one : (s x r : Path) → is_at_or_below s (take 8 x) ≡ true → is_at_or_below s r ≡ true → is_at_or_below x r ≡ false → is_at_or_below r (take 8 x) ≡ true
  above_one s x r at below off = elim (prefixes_compare s (take 8 x) r at below) [
    | inl t ↦ not_both (is_at_or_below x r) (at_or_below-trans x (take 8 x) r (front_above 8 x) t) off
    | inr t ↦ t
  ]

  shown_back : (x : Path) → shows paths x ≡ true → passes_after (RenameFile p q) test x ≡ true
  shown_back x seen =
      let s = shows-parts paths x seen in
      elim (cases_Bool (is_at_or_below x q)) [
        | inl at ↦ passes_at p q test x at ∙ elim (cases_lt 8 (length x)) [
          | inl deep ↦ or_left (nat_lt 8 (length x)) (test (rebased q p x)) (lt-ltb 8 (length x) deep)
          | inr short ↦
              let up : is_at_or_below s.path x ≡ true = subst (λ z. is_at_or_below s.path z ≡ true) (take_all 8 x short) s.at in
              let under = at_or_below-trans s.path x q up at in
              or_right (nat_lt 8 (length x)) (test (rebased q p x)) (h (rebased q p x)
              (shows_from (moved_back p q paths ++ p ∷ q ∷ []) (take 8 (rebased q p s.path))
              (rebased q p x)
              (exists-append_left (take 8 (rebased q p s.path)) (moved_back p q paths) (p ∷ q ∷ [])
              (back_in p q paths s.path (take 8 (rebased q p s.path)) s.exists_in (origin_at p q s.path under)))
              (rooted_above (rebased q p x) p (rebased-below q p x) named)
              (take-at_or_below 8 (rebased q p s.path) (rebased q p x) (at-moved q p s.path x up at))))
        ]
        | inr off ↦ elim (cases_Bool (is_at_or_below x p)) [
          | inl at ↦ passes_gone p q test x off at
          | inr other ↦ passes_else p q test x off other ∙ h x (elim (cases_Bool (is_at_or_below s.path q)) [
            | inl below ↦ shows_from (moved_back p q paths ++ p ∷ q ∷ []) q x second_shown s.named (above_one s.path x q s.at below off)
            | inr away ↦ elim (cases_Bool (is_at_or_below s.path p)) [
              | inl below ↦ shows_from (moved_back p q paths ++ p ∷ q ∷ []) p x first_shown s.named (above_one s.path x p s.at below other)
              | inr apart ↦ shows_from (moved_back p q paths ++ p ∷ q ∷ []) s.path x
                  (exists-append_left s.path (moved_back p q paths) (p ∷ q ∷ [])
                  (back_in p q paths s.path s.path s.exists_in (origin_else p q s.path away apart))) s.named s.at
            ]
          ])
        ]
      ]

pub sees_nothing : (paths : List Path) → SeesBy paths []
sees_nothing paths test h = tt

first_named : (p q : Path) → list_all (λ p. not (is_root p)) (p ∷ q ∷ []) ≡ true → is_root p ≡ false
first_named p q h = no_root p (and_parts (not (is_root p)) (list_all (λ p. not (is_root p)) (q ∷ [])) h).0

pub sees_request : (request : Request) (paths : List Path) (items : List Item) → list_all (λ p. not (is_root p)) (named_in (Perform request)) ≡ true →
    SeesBy paths items → SeesBy (shown_before request paths) (Perform request ∷ items)
sees_request request paths items named sees test h = (
  names_seen (named_in (Perform request)) (shown_before request paths) test named
      (λ p s. exists-append_right p (back_over request paths) (named_in (Perform request)) s) h,
  rest request named h,
)
  where
    rest : (request : Request) → list_all (λ p. not (is_root p)) (named_in (Perform request)) ≡ true →
        ((x : Path) → shows (shown_before request paths) x ≡ true → test x ≡ true) → Sees (passes_after request test) items
    rest (RenameFile p q) named h = sees (passes_after (RenameFile p q) test) (λ x s. shown_back p q paths test (first_named p q named) h x s)
    rest (CreateFile p) named h = sees (passes_after (CreateFile p) test) (λ x s. h x (shows_more paths (named_in (Perform (CreateFile p))) x s))
    rest (DeleteFile p) named h = sees (passes_after (DeleteFile p) test) (λ x s. h x (shows_more paths (named_in (Perform (DeleteFile p))) x s))
    rest (AppendFile p q) named h = sees (passes_after (AppendFile p q) test) (λ x s. h x (shows_more paths (named_in (Perform (AppendFile p q))) x s))
    rest (ReplaceFile p q) named h = sees (passes_after (ReplaceFile p q) test) (λ x s. h x (shows_more paths (named_in (Perform (ReplaceFile p q))) x s))
    rest (CreateDirectory p) named h = sees (passes_after (CreateDirectory p) test) (λ x s. h x (shows_more paths (named_in (Perform (CreateDirectory p))) x s))
    rest (RemoveDirectory p) named h = sees (passes_after (RemoveDirectory p) test) (λ x s. h x (shows_more paths (named_in (Perform (RemoveDirectory p))) x s))
    rest (DenyFile p) named h = sees (passes_after (DenyFile p) test) (λ x s. h x (shows_more paths (named_in (Perform (DenyFile p))) x s))
    rest (DenyDirectory p) named h = sees (passes_after (DenyDirectory p) test) (λ x s. h x (shows_more paths (named_in (Perform (DenyDirectory p))) x s))

pub sees_more : (paths more : List Path) (items : List Item) → SeesBy paths items → SeesBy (paths ++ more) items
sees_more paths more items sees test h = sees test (λ x s. h x (shows_more paths more x s))

pub sees_install : (p : Path) (paths : List Path) (items : List Item) → is_root p ≡ false → SeesBy paths items → SeesBy (paths ++ p ∷ []) (Install p ∷ items)
sees_install p paths items named sees test h = (
  names_seen (p ∷ []) (paths ++ p ∷ []) test (and_from (not (is_root p)) true (not_root p named) refl) (λ r s. exists-append_right r paths (p ∷ []) s) h,
  sees_more paths (p ∷ []) items sees test h,
)

-- ---- the names of a request, one after another

pub path_named : (p : Path) → IsPath p → is_root p ≡ false
path_named [] h = let some = h.some in absurd (omega (arith, some))
path_named (n ∷ p) h = refl

-- the requests from an index on
pub sees_next : (requests : List Request) (paths : List Path) (n k : ℕ) (request : Request) → k ≡ n + 1 → n < length requests →
    request ≡ get_or requests n request → list_all (λ p. not (is_root p)) (named_in (Perform request)) ≡ true →
    SeesBy paths (map Perform (drop k requests)) → SeesBy (shown_before request paths) (map Perform (drop n requests))
sees_next requests paths n k request next within is named sees =
    let here : k ≡ suc n = omega (arith, next) in
    let after = subst (λ k. SeesBy paths (map Perform (drop k requests))) here sees in
    subst (λ (items : List Item). SeesBy (shown_before request paths) items)
    (sym (ap (map Perform) (drop-cons requests n request within) ∙ ap (λ (r : Request). Perform r ∷ map Perform (drop (suc n) requests)) (sym is)))
    (sees_request request paths (map Perform (drop (suc n) requests)) named after)

pub sees_end : (requests : List Request) (n : ℕ) → length requests ≤ n → SeesBy [] (map Perform (drop n requests))
sees_end requests n all = subst (λ (rest : List Request). SeesBy [] (map Perform rest)) (sym (drop_all n requests all)) (sees_nothing [])

-- with the install, where there is one
pub sees_all : (destination : Option Path) (requests : List Request) (paths : List Path) → destination ≡ None → SeesBy paths (map Perform requests) →
    SeesBy paths (items_of destination requests)
sees_all destination requests paths none sees =
    subst (λ (d : Option Path). SeesBy paths (items_of d requests)) (sym none) sees

pub sees_file : (destination : Option Path) (requests : List Request) (paths more : List Path) (p : Path) → destination ≡ Some p → is_root p ≡ false →
    more ≡ paths ++ p ∷ [] → SeesBy paths (map Perform requests) → SeesBy more (items_of destination requests)
sees_file destination requests paths more p some named added sees =
    subst (λ (d : Option Path). SeesBy more (items_of d requests)) (sym some)
    (subst (λ (all : List Path). SeesBy all (Install p ∷ map Perform requests)) (sym added) (sees_install p paths (map Perform requests) named sees))

-- ---- what moves

moved_later : (request : Request) (requests : List Request) (test : Path → Bool) → ((x : Path) → is_moved (request ∷ requests) x ≡ true → test x ≡ true) →
    (x : Path) → is_moved requests x ≡ true → passes_after request test x ≡ true
moved_later (RenameFile p q) requests test h x m =
    elim (cases_Bool (is_at_or_below x q)) [
      | inl at ↦ passes_at p q test x at ∙ or_right (nat_lt 8 (length x)) (test (rebased q p x))
          (h (rebased q p x) (or_left (is_at_or_below (rebased q p x) p) (is_moved requests (rebased q p x)) (rebased-below q p x)))
      | inr off ↦ elim (cases_Bool (is_at_or_below x p)) [
        | inl at ↦ passes_gone p q test x off at
        | inr other ↦ passes_else p q test x off other ∙ h x (or_right (is_at_or_below x p) (is_moved requests x) m)
      ]
    ]
moved_later (CreateFile p) requests test h x m = h x m
moved_later (DeleteFile p) requests test h x m = h x m
moved_later (AppendFile p q) requests test h x m = h x m
moved_later (ReplaceFile p q) requests test h x m = h x m
moved_later (CreateDirectory p) requests test h x m = h x m
moved_later (RemoveDirectory p) requests test h x m = h x m
moved_later (DenyFile p) requests test h x m = h x m
moved_later (DenyDirectory p) requests test h x m = h x m

knows_moves : (requests : List Request) (test : Path → Bool) → ((x : Path) → is_moved requests x ≡ true → test x ≡ true) →
    KnowsMoves test (map Perform requests)
knows_moves [] test h = tt
knows_moves (RenameFile p q ∷ requests) test h = (
  (λ c at. h c (or_left (is_at_or_below c p) (is_moved requests c) at)),
  knows_moves requests (passes_after (RenameFile p q) test) (λ x m. moved_later (RenameFile p q) requests test h x m),
)
knows_moves (CreateFile p ∷ requests) test h = (tt, knows_moves requests (passes_after (CreateFile p) test) (λ x m. h x m))
knows_moves (DeleteFile p ∷ requests) test h = (tt, knows_moves requests (passes_after (DeleteFile p) test) (λ x m. h x m))
knows_moves (AppendFile p q ∷ requests) test h = (tt, knows_moves requests (passes_after (AppendFile p q) test) (λ x m. h x m))
knows_moves (ReplaceFile p q ∷ requests) test h = (tt, knows_moves requests (passes_after (ReplaceFile p q) test) (λ x m. h x m))
knows_moves (CreateDirectory p ∷ requests) test h = (tt, knows_moves requests (passes_after (CreateDirectory p) test) (λ x m. h x m))
knows_moves (RemoveDirectory p ∷ requests) test h = (tt, knows_moves requests (passes_after (RemoveDirectory p) test) (λ x m. h x m))
knows_moves (DenyFile p ∷ requests) test h = (tt, knows_moves requests (passes_after (DenyFile p) test) (λ x m. h x m))
knows_moves (DenyDirectory p ∷ requests) test h = (tt, knows_moves requests (passes_after (DenyDirectory p) test) (λ x m. h x m))

pub knows_all_moves : (requests : List Request) → KnowsMoves (is_moved requests) (map Perform requests)
knows_all_moves requests = knows_moves requests (is_moved requests) (λ x m. m)

pub knows_items : (destination : Option Path) (requests : List Request) → KnowsMoves (is_moved requests) (items_of destination requests)
knows_items None requests = knows_all_moves requests
knows_items (Some p) requests = knows_all_moves requests
