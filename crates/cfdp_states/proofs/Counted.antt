-- The entries of a map of extents, and their blocks, after a change.
--     ordered                            the entries are in order
--     put_map, without_map               a change of the entries is that of the map
--     put_counted, without_counted       and keeps them counted
--     few_blocks                         the blocks are not too many for the number that is kept
--     kept_find, kept_entries, ..        what the map has as the entries have it
--     moved_entries, moved_where         the entries once each p/r is at q/r, and what is at a path then
--     get-rehomed, moved_map             that is what the map has
--     moved_counted, free_counted        a move keeps them counted;  and the number, where nothing was there
--     deep-tree                          the test of depth by the names that there are
use Rattle.std.proofs.Common.{◌≡◌, refl, sym, ◌∙◌, ap, subst, Bool, true, false, cond, not, ◌||◌, Option, Some, None, is_some, ℕ, ◌+◌, ◌-◌, ◌*◌, ◌<◌, ◌≤◌, ◌^◌, nat_lt, List, [], ◌∷◌, length, drop, length-append, length-drop, true≢false, ltb-true, lt-ltb, arith}
use Rattle.std.proofs.lemmas.Bool.{and_parts}
use Rattle.std.proofs.lemmas.Float.{T_from_true}
use Rattle.std.specs.List.{list_all, list_any}
use Rattle.std.specs.FinMap.{empty, empty_of_len, len-entries, get, find, put, insert, remove, entries, from_sorted, entries_sorted, entries-from_sorted, entries-insert, get-from_sorted, get-entries, same_entries_map}
use Rattle.std.specs.FinMap.Entries.{where_key, is_sorted-put, is_sorted-where_key, find-put, find-where_key}
use Rattle.cfdp_status.proofs.Choices.{either_way}
use Rattle.cfdp_paths.specs.Paths.{Path, path_cmp, same_path, is_at_or_below, rebased}
use Rattle.cfdp_paths.specs.PathMaps.{IsOrdered, without, tree_in, rest_in, moved_to, puts, is_too_deep}
use Rattle.cfdp_paths.proofs.Moving.{tree_all, tree_ordered}
use Rattle.cfdp_states.specs.declared.extent.Extent.{Extent}
use Rattle.cfdp_states.specs.Sketching.{Extents}
use Rattle.cfdp_states.specs.code.Sketching.{extent_weight, weight_in, total_weight, total_blocks, AreSmall, IsCounted, rehomed}
use Rattle.cfdp_actions.proofs.Order.{kept_some, same_path-true, same_path-refl}
use Rattle.cfdp_actions.proofs.Weights.{below_rest, sorted_rest, find_below, find_later, entries-remove, totals, weighed, totals-put, totals-without}
use Rattle.cfdp_actions.proofs.Prefixes.{rebased-below, same_rebased}
use Rattle.cfdp_actions.proofs.Truths.{by_truth}
use Rattle.cfdp_paths.proofs.InOrder.{true_from_T, path_antisym}
use Rattle.cfdp_paths.proofs.Below.{append_from_at_or_below}
use Rattle.cfdp_paths.proofs.Comparing.{path_cmp-total}

abbrev Entries : Type 0
Entries = List (Path × Extent)

pub ordered : (m : Extents) → IsOrdered (entries m)
ordered m = true_from_T _ (entries_sorted m)

total-is : (es : Entries) → total_weight es ≡ totals extent_weight es
total-is [] = refl
total-is (e ∷ es) = ap (λ n. extent_weight e.1 + n) (total-is es)

weight-is : (a : Option Extent) → weight_in a ≡ weighed extent_weight a
weight-is None = refl
weight-is (Some e) = refl

-- ---- one entry

pub entries-map : (es : Entries) → IsOrdered es → entries (from_sorted {R = path_cmp} es) ≡ es
entries-map es s = entries-from_sorted path_cmp es (T_from_true _ s)

pub find-map : (es : Entries) → IsOrdered es → (p : Path) → get (from_sorted {R = path_cmp} es) p ≡ find path_cmp p es
find-map es s p = get-from_sorted path_cmp es p (T_from_true _ s)

pub put_ordered : (k : Path) (v : Extent) (es : Entries) → IsOrdered es → IsOrdered (put path_cmp k v es)
put_ordered k v es s = true_from_T _ (is_sorted-put path_cmp path_cmp-total k v es (T_from_true _ s))

where_ordered : (test : Path → Bool) (es : Entries) → IsOrdered es → IsOrdered (where_key path_cmp test es)
where_ordered test es s = true_from_T _ (is_sorted-where_key path_cmp test es (T_from_true _ s))

pub put_map : (k : Path) (v : Extent) (es : Entries) → IsOrdered es → from_sorted {R = path_cmp} (put path_cmp k v es) ≡ insert (from_sorted es) k v
put_map k v es s =
    same_entries_map _ _ (entries-map (put path_cmp k v es) (put_ordered k v es s)
    ∙ sym (entries-insert path_cmp-total (from_sorted es) k v ∙ ap (put path_cmp k v) (entries-map es s)))

pub without_map : (k : Path) (es : Entries) → IsOrdered es → from_sorted {R = path_cmp} (without k es) ≡ remove (from_sorted es) k
without_map k es s =
    same_entries_map _ _ (entries-map (without k es) (where_ordered (λ q. not (same_path k q)) es s)
    ∙ sym (entries-remove (from_sorted es) k ∙ ap (without k) (entries-map es s)))

total-put : (k : Path) (v : Extent) (es : Entries) → IsOrdered es → total_weight (put path_cmp k v es) + weight_in (find path_cmp k es) ≡ total_weight es
    + extent_weight v
total-put k v es s =
    let sum = totals-put extent_weight k v es (T_from_true _ s) in
    omega (arith, sum, total-is (put path_cmp k v es), total-is es, weight-is (find path_cmp k es))

total-without : (k : Path) (es : Entries) → IsOrdered es → total_weight (without k es) + weight_in (find path_cmp k es) ≡ total_weight es
total-without k es s =
    let sum = totals-without extent_weight k es (T_from_true _ s) in
    omega (arith, sum, total-is (without k es), total-is es, weight-is (find path_cmp k es))

pub put_counted : (k : Path) (v : Extent) (es fs : Entries) (used now : ℕ) → IsCounted es used → extent_weight v ≤ 2 ^ 58 → fs ≡ put path_cmp k v es → now
    + weight_in (find path_cmp k es) ≡ used + extent_weight v → IsCounted fs now
put_counted k v es fs used now h small is sum =
    subst (λ fs. IsCounted fs now) (sym is) (record {
      ordered = put_ordered k v es h.ordered;
      small = λ p. subst (λ (a : Option Extent). weight_in a ≤ 2 ^ 58) (sym (find-put path_cmp path_cmp-total p k v es))
          (either_way (λ (v : Option Extent). weight_in v ≤ 2 ^ 58) (same_path p k) (Some v) (find path_cmp p es) small (h.small p));
      counted = omega (arith, sum, h.counted, total-put k v es h.ordered);
    })

pub without_counted : (k : Path) (es fs : Entries) (used now : ℕ) → IsCounted es used → fs ≡ without k es → now + weight_in (find path_cmp k es) ≡ used →
    IsCounted fs now
without_counted k es fs used now h is sum =
    subst (λ fs. IsCounted fs now) (sym is) (record {
      ordered = where_ordered (λ q. not (same_path k q)) es h.ordered;
      small = λ p. subst (λ (a : Option Extent). weight_in a ≤ 2 ^ 58) (sym
          (find-where_key path_cmp (λ q. not (same_path k q)) p (λ x e. ap (λ x. not (same_path k x)) (sym (path_antisym p x e))) es))
          (either_way (λ (v : Option Extent). weight_in v ≤ 2 ^ 58) (not (same_path k p)) (find path_cmp p es) None (h.small p) (omega arith));
      counted = omega (arith, sum, h.counted, total-without k es h.ordered);
    })

-- what is at a path takes no more than all together
pub weight_within : (k : Path) (es : Entries) (used : ℕ) → IsCounted es used → weight_in (find path_cmp k es) ≤ used
weight_within k es used h = omega (arith, total-without k es h.ordered, h.counted)

small-rest : (e : Path × Extent) (es : Entries) → IsOrdered (e ∷ es) → AreSmall (e ∷ es) → AreSmall es
small-rest e es s small p =
    elim (same_path p e.0) as (λ b. same_path p e.0 ≡ b → weight_in (cond b (Some e.1) (find path_cmp p es)) ≤ 2 ^ 58 →
    weight_in (find path_cmp p es) ≤ 2 ^ 58) [
      | true ↦ λ t le. let none : weight_in (find path_cmp p es) ≡ 0 = ap (λ x. weight_in (find path_cmp x es)) (same_path-true p e.0 t)
          ∙ ap weight_in (find_below e.0 es (below_rest e es (T_from_true _ s))) in omega (arith, none)
      | false ↦ λ t le. le
    ] refl (small p)

pub few_blocks : (es : Entries) → IsOrdered es → AreSmall es → total_weight es ≤ length es * 2 ^ 58
few_blocks [] s small = omega arith
few_blocks (e ∷ es) s small =
    let first : extent_weight e.1 ≤ 2 ^ 58 = subst (λ b. weight_in (cond b (Some e.1) (find path_cmp e.0 es)) ≤ 2 ^ 58) (same_path-refl e.0) (small e.0) in
    let rest = few_blocks es (true_from_T _ (sorted_rest e es (T_from_true _ s))) (small-rest e es s small) in
    omega (arith, first, rest)

pub no_entries : from_sorted {K = Path} {X = Extent} {R = path_cmp} [] ≡ empty
no_entries = empty_of_len (from_sorted []) (len-entries (from_sorted []) ∙ ap length (entries-map [] refl))

-- what the map has as the entries have it
pub kept_find : (k : Path) (es : Entries) (used : ℕ) (m : Extents) → IsCounted es used → from_sorted es ≡ m → get m k ≡ find path_cmp k es
kept_find k es used m h is = ap (λ (m : Extents). get m k) (sym is) ∙ find-map es h.ordered k

pub kept_entries : (es : Entries) (used : ℕ) (m : Extents) → IsCounted es used → from_sorted es ≡ m → es ≡ entries m
kept_entries es used m h is = sym (entries-map es h.ordered) ∙ ap entries is

pub kept_count : (es : Entries) (used : ℕ) (m : Extents) → IsCounted es used → from_sorted es ≡ m → total_blocks m ≡ used
kept_count es used m h is = ap total_blocks (sym is) ∙ ap total_weight (entries-map es h.ordered) ∙ sym h.counted

-- ---- a move

find-puts : (es ms : Entries) (x : Path) → IsOrdered ms → find path_cmp x (puts es ms)
    ≡ cond (is_some (find path_cmp x ms)) (find path_cmp x ms) (find path_cmp x es)
find-puts es [] x s = refl
find-puts es (m ∷ ms) x s =
    find-puts (put path_cmp m.0 m.1 es) ms x (true_from_T _ (sorted_rest m ms (T_from_true _ s)))
    ∙ ap (λ v. cond (is_some (find path_cmp x ms)) (find path_cmp x ms) v) (find-put path_cmp path_cmp-total x m.0 m.1 es)
    ∙ elim (same_path x m.0) as (λ b. same_path x m.0 ≡ b →
    cond (is_some (find path_cmp x ms)) (find path_cmp x ms) (cond b (Some m.1) (find path_cmp x es))
    ≡ cond (is_some (cond b (Some m.1) (find path_cmp x ms))) (cond b (Some m.1) (find path_cmp x ms)) (find path_cmp x es)) [
      | true ↦ λ t. ap (λ v. cond (is_some v) v (Some m.1)) (find_later m ms (T_from_true _ s) x t)
      | false ↦ λ t. refl
    ] refl

find-moved : (p q : Path) (es : Entries) → list_all (λ e. is_at_or_below e.0 p) es ≡ true → (x : Path) → find path_cmp x (moved_to p q es)
    ≡ cond (is_at_or_below x q) (find path_cmp (rebased q p x) es) None
find-moved p q [] all x = elim (is_at_or_below x q) as (λ b. None ≡ cond {A = Option Extent} b None None) [ true ↦ refl | false ↦ refl ]
find-moved p q (e ∷ es) all x =
    let parts = and_parts (is_at_or_below e.0 p) (list_all (λ e. is_at_or_below e.0 p) es) all in
    let y = rebased q p x in
    ap (λ v. cond (same_path x (rebased p q e.0)) (Some e.1) v) (find-moved p q es parts.1 x)
    ∙ elim (is_at_or_below x q) as (λ b. is_at_or_below x q ≡ b → cond (same_path x (rebased p q e.0)) (Some e.1) (cond b (find path_cmp y es) None)
    ≡ cond b (cond (same_path y e.0) (Some e.1) (find path_cmp y es)) None) [
      | true ↦ λ at. ap (λ b. cond b (Some e.1) (find path_cmp y es)) (same_rebased p q x e.0 at parts.0)
      | false ↦ λ at. ap (λ b. cond b (Some e.1) None) (outside at (same_path x (rebased p q e.0)) refl)
    ] refl
  where
    outside : is_at_or_below x q ≡ false → (b : Bool) → same_path x (rebased p q e.0) ≡ b → b ≡ false
    outside at true t = absurd (true≢false (sym (ap (λ z. is_at_or_below z q) (same_path-true x (rebased p q e.0) t) ∙ rebased-below p q e.0) ∙ at))
    outside at false t = refl

puts_ordered : (es ms : Entries) → IsOrdered es → IsOrdered (puts es ms)
puts_ordered es [] s = s
puts_ordered es (m ∷ ms) s = puts_ordered (put path_cmp m.0 m.1 es) ms (put_ordered m.0 m.1 es s)

find-tree : (p : Path) (es : Entries) (x : Path) → find path_cmp x (tree_in p es) ≡ cond (is_at_or_below x p) (find path_cmp x es) None
find-tree p es x = find-where_key path_cmp (λ q. is_at_or_below q p) x (λ y e. ap (λ z. is_at_or_below z p) (sym (path_antisym x y e))) es

find-rest : (p : Path) (es : Entries) (x : Path) → find path_cmp x (rest_in p es) ≡ cond (is_at_or_below x p) None (find path_cmp x es)
find-rest p es x =
    find-where_key path_cmp (λ q. not (is_at_or_below q p)) x (λ y e. ap (λ z. not (is_at_or_below z p)) (sym (path_antisym x y e))) es
    ∙ elim (is_at_or_below x p) as (λ b. cond (not b) (find path_cmp x es) None ≡ cond b None (find path_cmp x es)) [ true ↦ refl | false ↦ refl ]

-- the entries once each p/r is at q/r
abbrev pub moved_entries : Path → Path → Entries → Entries
moved_entries p q es = puts (rest_in p es) (moved_to p q (tree_in p es))

-- what is at x then, by what was at each path
abbrev pub moved_where : Path → Path → (Path → Option Extent) → Path → Option Extent
moved_where p q f x =
    cond (is_at_or_below x q) (cond (is_some (f (rebased q p x))) (f (rebased q p x)) (cond (is_at_or_below x p) None (f x)))
    (cond (is_at_or_below x p) None (f x))

find-moved_entries : (p q : Path) (es : Entries) → IsOrdered es → (x : Path) → find path_cmp x (moved_entries p q es)
    ≡ moved_where p q (λ y. find path_cmp y es) x
find-moved_entries p q es s x =
    let y = rebased q p x in
    let there : find path_cmp x (moved_to p q (tree_in p es)) ≡ cond (is_at_or_below x q) (find path_cmp y es) None =
    find-moved p q (tree_in p es) (tree_all p es) x
    ∙ ap (λ v. cond (is_at_or_below x q) v None) (find-tree p es y ∙ ap (λ b. cond b (find path_cmp y es) None) (rebased-below q p x)) in
    find-puts (rest_in p es) (moved_to p q (tree_in p es)) x (tree_ordered p q es s)
    ∙ (λ i. cond (is_some (there i)) (there i) (find-rest p es x i))
    ∙ elim (is_at_or_below x q) as (λ b. cond (is_some (cond b (find path_cmp y es) None)) (cond b (find path_cmp y es) None)
    (cond (is_at_or_below x p) None (find path_cmp x es))
    ≡ cond b (cond (is_some (find path_cmp y es)) (find path_cmp y es) (cond (is_at_or_below x p) None (find path_cmp x es)))
    (cond (is_at_or_below x p) None (find path_cmp x es))) [ true ↦ refl | false ↦ refl ]

pub moved_entries_ordered : (p q : Path) (es : Entries) → IsOrdered es → IsOrdered (moved_entries p q es)
moved_entries_ordered p q es s = puts_ordered (rest_in p es) (moved_to p q (tree_in p es)) (where_ordered (λ x. not (is_at_or_below x p)) es s)

pub get-rehomed : (p q : Path) (m : Extents) (x : Path) → get (rehomed p q m) x ≡ moved_where p q (get m) x
get-rehomed p q m x =
    let is : (y : Path) → find path_cmp y (entries m) ≡ get m y = λ y. sym (get-entries m y) in
    find-map (moved_entries p q (entries m)) (moved_entries_ordered p q (entries m) (ordered m)) x
    ∙ find-moved_entries p q (entries m) (ordered m) x
    ∙ (λ i. cond (is_at_or_below x q) (cond (is_some (is (rebased q p x) i)) (is (rebased q p x) i) (cond (is_at_or_below x p) None (is x i)))
    (cond (is_at_or_below x p) None (is x i)))

pub moved_map : (p q : Path) (es fs : Entries) (used : ℕ) (m : Extents) → IsCounted es used → from_sorted es ≡ m → fs ≡ moved_entries p q es → from_sorted fs
    ≡ rehomed p q m
moved_map p q es fs used m h is now = ap from_sorted (now ∙ ap (moved_entries p q) (kept_entries es used m h is))

pub moved_counted : (p q : Path) (es fs : Entries) (used now : ℕ) → IsCounted es used → fs ≡ moved_entries p q es → now ≡ total_weight fs → IsCounted fs now
moved_counted p q es fs used now h is sum = record {
  ordered = subst IsOrdered (sym is) (moved_entries_ordered p q es h.ordered);
  small = λ x.
      let left : weight_in (cond (is_at_or_below x p) None (find path_cmp x es)) ≤ 2 ^ 58 =
      either_way (λ (v : Option Extent). weight_in v ≤ 2 ^ 58) (is_at_or_below x p) None (find path_cmp x es) (omega arith) (h.small x) in
      subst (λ (a : Option Extent). weight_in a ≤ 2 ^ 58) (sym (ap (find path_cmp x) is ∙ find-moved_entries p q es h.ordered x))
      (either_way (λ (v : Option Extent). weight_in v ≤ 2 ^ 58) (is_at_or_below x q) _ _
      (either_way (λ (v : Option Extent). weight_in v ≤ 2 ^ 58) (is_some (find path_cmp (rebased q p x) es)) _ _ (h.small (rebased q p x)) left) left);
  counted = sum;
}

total-parts : (p : Path) (es : Entries) → total_weight (rest_in p es) + total_weight (tree_in p es) ≡ total_weight es
total-parts p [] = refl
total-parts p (e ∷ es) =
    let more = total-parts p es in
    elim (is_at_or_below e.0 p) as (λ b. total_weight (cond (not b) (e ∷ rest_in p es) (rest_in p es)) + total_weight (cond b (e ∷ tree_in p es) (tree_in p es))
    ≡ total_weight (e ∷ es)) [
      | true ↦ omega (arith, more)
      | false ↦ omega (arith, more)
    ]

total-moved : (p q : Path) (es : Entries) → total_weight (moved_to p q es) ≡ total_weight es
total-moved p q [] = refl
total-moved p q (e ∷ es) = ap (λ n. extent_weight e.1 + n) (total-moved p q es)

-- no path is in both
total-puts : (es ms : Entries) → IsOrdered es → IsOrdered ms → ((x : Path) → is_some (find path_cmp x ms) ≡ true → find path_cmp x es ≡ None) →
    total_weight (puts es ms) ≡ total_weight es + total_weight ms
total-puts es [] s t apart = omega arith
total-puts es (m ∷ ms) s t apart =
    let next = put path_cmp m.0 m.1 es in
    let here : is_some (find path_cmp m.0 (m ∷ ms)) ≡ true = ap (λ b. is_some (cond b (Some m.1) (find path_cmp m.0 ms))) (same_path-refl m.0) in
    let first = total-put m.0 m.1 es s in
    let rest = total-puts next ms (put_ordered m.0 m.1 es s) (true_from_T _ (sorted_rest m ms (T_from_true _ t))) others in
    omega (arith, first, ap weight_in (apart m.0 here), rest)
  where
    others : (x : Path) → is_some (find path_cmp x ms) ≡ true → find path_cmp x (put path_cmp m.0 m.1 es) ≡ None
    others x there =
        find-put path_cmp path_cmp-total x m.0 m.1 es
        ∙ elim (same_path x m.0) as (λ b. same_path x m.0 ≡ b → cond b (Some m.1) (find path_cmp x es) ≡ None) [
          | true ↦ λ e. absurd (true≢false (sym there ∙ ap is_some (find_later m ms (T_from_true _ t) x e)))
          | false ↦ λ e. apart x (ap (λ b. is_some (cond b (Some m.1) (find path_cmp x ms))) e ∙ there)
        ] refl

-- where nothing is at or below q the blocks stay
pub free_counted : (p q : Path) (es : Entries) (used : ℕ) → IsCounted es used → tree_in q es ≡ [] → used ≡ total_weight (moved_entries p q es)
free_counted p q es used h free =
    let sum = total-puts (rest_in p es) (moved_to p q (tree_in p es)) (where_ordered (λ x. not (is_at_or_below x p)) es h.ordered)
    (tree_ordered p q es h.ordered) apart in
    omega (arith, sum, h.counted, total-parts p es, total-moved p q (tree_in p es))
  where
    nothing : (b : Bool) → cond {A = Option Extent} b None None ≡ None
    nothing true = refl
    nothing false = refl

    apart : (x : Path) → is_some (find path_cmp x (moved_to p q (tree_in p es))) ≡ true → find path_cmp x (rest_in p es) ≡ None
    apart x there =
        let moved = ap is_some (sym (find-moved p q (tree_in p es) (tree_all p es) x)) ∙ there in
        let below = (kept_some (is_at_or_below x q) (find path_cmp (rebased q p x) (tree_in p es)) moved).0 in
        let gone : find path_cmp x es ≡ None = sym (ap (λ b. cond b (find path_cmp x es) None) below) ∙ sym (find-tree q es x) ∙ ap (find path_cmp x) free in
        find-rest p es x ∙ ap (λ v. cond (is_at_or_below x p) None v) gone ∙ nothing (is_at_or_below x p)

-- ---- depth

-- whether a path is too deep, where it is at or below p
deep-is : (p q x : Path) → is_at_or_below x p ≡ true → nat_lt (8 + length p) (length x + length q) ≡ nat_lt 8 (length (rebased p q x))
deep-is p q x below =
    let long : length (rebased p q x) ≡ length q + (length x - length p) = length-append q (drop (length p) x)
    ∙ ap (λ n. length q + n) (length-drop (length p) x) in
    let whole : length x ≡ length p + length (drop (length p) x) = ap length (append_from_at_or_below x p below) ∙ length-append p (drop (length p) x) in
    by_truth _ _
    (λ e. let lt : 8 + length p < length x + length q = ltb-true (8 + length p) (length x + length q) e in lt-ltb 8 (length (rebased p q x)) (omega arith))
    (λ e. let lt : 8 < length (rebased p q x) = ltb-true 8 (length (rebased p q x)) e in lt-ltb (8 + length p) (length x + length q) (omega arith))

deep-all : (p q : Path) (es : Entries) → list_all (λ e. is_at_or_below e.0 p) es ≡ true → list_any (λ e. nat_lt (8 + length p) (length e.0 + length q)) es
    ≡ is_too_deep p q es
deep-all p q [] all = refl
deep-all p q (e ∷ es) all =
    let parts = and_parts (is_at_or_below e.0 p) (list_all (λ e. is_at_or_below e.0 p) es) all in
    λ i. deep-is p q e.0 parts.0 i || deep-all p q es parts.1 i

pub deep-tree : (p q : Path) (es : Entries) → list_any (λ e. nat_lt (8 + length p) (length e.0 + length q)) (tree_in p es) ≡ is_too_deep p q (tree_in p es)
deep-tree p q es = deep-all p q (tree_in p es) (tree_all p es)
