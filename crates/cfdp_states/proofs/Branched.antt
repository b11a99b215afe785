-- Extents that are kept by their names.
--     get-values, values_are        what a map of values has;  a map that has the same
--     values_put, values_same, values_removed, values_moved      the values after a change
--     tallied_put, ..               the number of paths and their blocks then
--     depth_at, depth_none          how deep what is at a path is
--     below_by_depth, deep_by_depth what that says of what is below it
use Rattle.std.proofs.Common.{◌≡◌, ◌≢◌, refl, sym, ◌∙◌, ap, subst, Bool, true, false, cond, not, ◌||◌, nat_lt, Option, Some, None, is_some, IsSome, ℕ, suc, ◌+◌, ◌-◌, ◌<◌, ◌≤◌, ◌^◌, List, [], ◌∷◌, ◌++◌, length, drop, length-append, true≢false, lt-ltb, ltb-true, ◌⊎◌, inl, inr, arith}
use Rattle.std.proofs.lemmas.Bool.{cases_lt}
use Rattle.std.proofs.lemmas.Float.{T_from_true}
use Rattle.std.proofs.lemmas.List.{append-nil, drop_all, nil_from_length}
use Rattle.std.specs.List.{list_any}
use Rattle.std.specs.FinMap.{empty, entries, entries-insert, get, get-empty, get-entries, get-insert, get-remove, insert, remove, len, len-entries, len-insert, find}
use Rattle.std.specs.FinMap as finite
use Rattle.std.specs.FinMap.Entries.{find-where_key, is_sorted-put, is_sorted-where_key, length-put}
use Rattle.cfdp_paths.specs.Paths.{Path, path_cmp, same_path, is_at_or_below, is_below, rebased}
use Rattle.cfdp_paths.specs.PathMaps.{any_below, is_too_deep, moved_to, puts, rest_in, tree_in}
use Rattle.cfdp_paths.proofs.Below.{append_from_at_or_below, at_or_below-append, at_or_below-itself, is_below-Decides, rebased-append}
use Rattle.cfdp_paths.proofs.Comparing.{path_cmp-total, same_path-Decides}
use Rattle.cfdp_paths.proofs.InOrder.{path_antisym, true_from_T}
use Rattle.cfdp_paths.proofs.Moving.{length-parts}
use Rattle.cfdp_actions.proofs.Order.{kept_some, same_path-refl}
use Rattle.cfdp_actions.proofs.Truths.{by_truth}
use Rattle.cfdp_actions.proofs.Weights.{entries-remove}
use Rattle.cfdp_branches.specs.Branches.{AreSameValues, IsLevels, IsReached, Branches, has_branch, value_at, value_in}
use Rattle.cfdp_branches.specs.Branches.IsReached.{no_value, deepest}
use Rattle.cfdp_branches.proofs.Changing.{Puts}
use Rattle.cfdp_states.specs.declared.extent.Extent.{Extent}
use Rattle.cfdp_states.specs.Sketching.{Extents}
use Rattle.cfdp_states.specs.code.Branched.{IsDeepAt, IsDepthAt, IsTallied, values_map, with_extent}
use Rattle.cfdp_states.specs.code.Branched.IsDeepAt.{nothing, deep}
use Rattle.cfdp_states.specs.code.Sketching.{extent_weight, rehomed, total_blocks, total_weight, weight_in}
use Rattle.cfdp_states.proofs.Counted.{few_blocks, free_counted, get-rehomed, moved_counted, moved_entries, moved_where, ordered, put_counted, weight_within, without_counted, entries-map, moved_entries_ordered}
use Rattle.cfdp_states.proofs.Entries.{found-any}

-- ---- the map of the values

by_value : (ss : Branches Extent) (q p : Path) (v : Option Extent) → get (values_map ss) p ≡ value_at ss p
    → get (with_extent q v (values_map ss)) p ≡ value_in (cond (same_path p q) (Some v) (find path_cmp p ss))
by_value ss q p None h = get-remove path_cmp-total (values_map ss) q p ∙ by_same (same_path p q)
  where
    by_same : (b : Bool) → cond b None (get (values_map ss) p) ≡ value_in (cond b (Some None) (find path_cmp p ss))
    by_same true = refl
    by_same false = h
by_value ss q p (Some e) h = get-insert path_cmp-total (values_map ss) q e p ∙ by_same (same_path p q)
  where
    by_same : (b : Bool) → cond b (Some e) (get (values_map ss) p) ≡ value_in (cond b (Some (Some e)) (find path_cmp p ss))
    by_same true = refl
    by_same false = h

pub get-values : (ss : Branches Extent) (p : Path) → get (values_map ss) p ≡ value_at ss p
get-values [] p = get-empty path_cmp p
get-values (s ∷ ss) p = by_value ss s.0 p s.1 (get-values ss p)

pub values_are : (ss : Branches Extent) (m : Extents) → ((p : Path) → value_at ss p ≡ get m p) → values_map ss ≡ m
values_are ss m h = finite.same_map path_cmp-total path_antisym (values_map ss) m (λ p. get-values ss p ∙ h p)

pub values_put : (ss ts : Branches Extent) (p : Path) (e : Extent) → Puts (Some e) p ss ts → values_map ts ≡ insert (values_map ss) p e
values_put ss ts p e h =
    values_are ts (insert (values_map ss) p e) (λ q. h q ∙ ap (cond (same_path q p) (Some e)) (sym (get-values ss q))
    ∙ sym (get-insert path_cmp-total (values_map ss) p e q))

pub values_same : (ss ts : Branches Extent) → AreSameValues ts ss → values_map ts ≡ values_map ss
values_same ss ts h = values_are ts (values_map ss) (λ q. h q ∙ sym (get-values ss q))

same_rest : (p r : Path) → same_path r [] ≡ same_path (p ++ r) p
same_rest p [] = sym ((same_path-Decides (p ++ []) p).1 (append-nil p))
same_rest p (n ∷ r) = by_same (same_path (p ++ n ∷ r) p) refl
  where
    by_same : (b : Bool) → same_path (p ++ n ∷ r) p ≡ b → false ≡ b
    by_same true same = absurd (omega (arith, ap length ((same_path-Decides (p ++ n ∷ r) p).0 same), length-append p (n ∷ r)))
    by_same false same = refl

-- a path of which the branch is taken out, loses its value, and is put back
pub values_removed : (ss one two bs cs : Branches Extent) (p : Path)
    → ((x : Path) → find path_cmp x one ≡ cond (is_at_or_below x p) (find path_cmp (drop (length p) x) (([], None) ∷ [])) (find path_cmp x ss))
    → ((r : Path) → find path_cmp r bs ≡ find path_cmp (p ++ r) ss)
    → ((r : Path) → value_at cs r ≡ cond (same_path r []) None (value_at bs r))
    → ((x : Path) → find path_cmp x two ≡ cond (is_at_or_below x p) (find path_cmp (drop (length p) x) cs) (find path_cmp x one))
    → values_map two ≡ remove (values_map ss) p
values_removed ss one two bs cs p exchanged taken lost back =
    values_are two (remove (values_map ss) p) (λ x. ap value_in (back x) ∙ by_place x (is_at_or_below x p) refl
    ∙ sym (get-remove path_cmp-total (values_map ss) p x))
  where
    other : (x : Path) → is_at_or_below x p ≡ false → same_path x p ≡ false
    other x apart = by_same (same_path x p) refl
      where
        by_same : (b : Bool) → same_path x p ≡ b → b ≡ false
        by_same true same = absurd (true≢false (sym (ap (λ y. is_at_or_below y p) ((same_path-Decides x p).0 same) ∙ at_or_below-itself p) ∙ apart))
        by_same false same = refl

    by_place : (x : Path) (b : Bool) → is_at_or_below x p ≡ b → value_in (cond b (find path_cmp (drop (length p) x) cs) (find path_cmp x one))
        ≡ cond (same_path x p) None (get (values_map ss) x)
    by_place x true at =
        let r = drop (length p) x in
        let whole : x ≡ p ++ r = append_from_at_or_below x p at in
        lost r ∙ ap (cond (same_path r []) None) (ap value_in (taken r) ∙ ap (value_at ss) (sym whole) ∙ sym (get-values ss x))
        ∙ ap (λ b. cond b None (get (values_map ss) x)) (same_rest p r ∙ ap (λ y. same_path y p) (sym whole))
    by_place x false apart =
        ap value_in (exchanged x ∙ ap (λ b. cond b (find path_cmp (drop (length p) x) (([], None) ∷ [])) (find path_cmp x ss)) apart) ∙ sym (get-values ss x)
        ∙ ap (λ b. cond b None (get (values_map ss) x)) (sym (other x apart))

-- ---- the number of paths, and their blocks

pub tallied_put : (m n : Extents) (p : Path) (e : Extent) (count used more now : ℕ) → IsTallied m count used → n ≡ insert m p e → extent_weight e ≤ 2 ^ 58
    → count + cond (is_some (get m p)) 0 1 ≤ more → more ≤ 2 ^ 62 → now + weight_in (get m p) ≡ used + extent_weight e → IsTallied n more now
tallied_put m n p e count used more now h is small counted few sum = record {
  counted = put_counted p e (entries m) (entries n) used now h.counted small (ap entries is ∙ entries-insert path_cmp-total m p e)
      (ap (λ a. now + weight_in a) (sym (get-entries m p)) ∙ sum);
  few = omega (arith, sym (len-entries n), ap len is, len-insert path_cmp-total m p e, len-entries m, h.few, counted, by_there (is_some (get m p)) (len m));
  bounded = few;
}
  where
    by_there : (b : Bool) (k : ℕ) → cond b k (k + 1) ≡ k + cond b 0 1
    by_there true k = omega arith
    by_there false k = omega arith

pub tallied_remove : (m n : Extents) (p : Path) (count used now : ℕ) → IsTallied m count used → n ≡ remove m p → now + weight_in (get m p) ≡ used
    → IsTallied n count now
tallied_remove m n p count used now h is sum = record {
  counted = without_counted p (entries m) (entries n) used now h.counted (ap entries is ∙ entries-remove m p) (ap (λ a. now + weight_in a) (sym (get-entries m
      p)) ∙ sum);
  few = omega (arith, h.few, ap len is, finite.len-remove path_cmp-total m p, sym (len-entries n), len-entries m, by_there (is_some (get m p)) (len m));
  bounded = h.bounded;
}
  where
    by_there : (b : Bool) (k : ℕ) → cond b (k - 1) k ≤ k
    by_there true k = omega arith
    by_there false k = omega arith

length-puts : (es ms : List (Path × Extent)) → finite.is_sorted path_cmp es ≡ true → length (puts es ms) ≤ length es + length ms
length-puts es [] s = omega arith
length-puts es (e ∷ ms) s =
    let one = length-put path_cmp path_cmp-total e.0 e.1 es (T_from_true _ s) in
    let rest = length-puts (finite.put path_cmp e.0 e.1 es) ms (true_from_T _ (is_sorted-put path_cmp path_cmp-total e.0 e.1 es (T_from_true _ s))) in
    omega (arith, one, rest, at_most (is_some (find path_cmp e.0 es)) (length es))
  where
    at_most : (b : Bool) (k : ℕ) → cond b k (k + 1) ≤ k + 1
    at_most true k = omega arith
    at_most false k = omega arith

pub tallied_moved : (m n : Extents) (p q : Path) (count used : ℕ) → IsTallied m count used → n ≡ rehomed p q m → tree_in q (entries m) ≡ []
    → IsTallied n count used
tallied_moved m n p q count used h is free =
    let es = entries m in
    let same : entries n ≡ moved_entries p q es = ap entries is ∙ entries-map (moved_entries p q es) (moved_entries_ordered p q es (ordered m)) in
    record {
      counted = moved_counted p q es (entries n) used used h.counted same (free_counted p q es used h.counted free ∙ ap total_weight (sym same));
      few = omega (
        arith,
        h.few,
        ap length same,
        length-puts (rest_in p es) (moved_to p q (tree_in p es)) (true_from_T _ (is_sorted-where_key path_cmp _ es (T_from_true _ (ordered m)))),
        length-parts p q es,
      );
      bounded = h.bounded;
    }

pub few_used : (m : Extents) (count used : ℕ) → IsTallied m count used → used ≤ 2 ^ 120
few_used m count used h = omega (arith, h.counted.counted, few_blocks (entries m) h.counted.ordered h.counted.small, h.few, h.bounded)

pub weight_in_used : (m : Extents) (p : Path) (count used : ℕ) → IsTallied m count used → weight_in (get m p) ≤ used
weight_in_used m p count used h = omega (arith, weight_within p (entries m) used h.counted, ap weight_in (get-entries m p))

-- ---- how deep what is at a path is

pub depth_at : (ss bs : Branches Extent) (m : Extents) (p : Path) (n : ℕ) → values_map ss ≡ m → ((r : Path) → find path_cmp r bs ≡ find path_cmp (p ++ r) ss)
    → IsLevels bs n → IsDepthAt m p n
depth_at ss bs m p n is found levels = record { within = λ r some. levels.within r (subst IsSome (sym (same r)) some); reached = far levels.reached }
  where
    same : (r : Path) → value_at bs r ≡ get m (p ++ r)
    same r = ap value_in (found r) ∙ sym (get-values ss (p ++ r)) ∙ ap (λ m. get m (p ++ r)) is

    far : IsReached bs n → IsDeepAt m p n
    far (no_value none) = nothing none
    far (deepest r some long) = deep r (subst IsSome (same r) some) long

pub depth_none : (ss : Branches Extent) (m : Extents) (p : Path) → values_map ss ≡ m → ((r : Path) → find path_cmp (p ++ r) ss ≡ None) → IsDepthAt m p 0
depth_none ss m p is absent = record {
  within = λ r some. absurd (true≢false (sym some ∙ ap is_some (ap (λ m. get m (p ++ r)) (sym is) ∙ get-values ss (p ++ r) ∙ ap value_in (absent r))));
  reached = nothing refl;
}

-- an entry that passes a test
record There {X : Type 0} (test : Path → Bool) (es : List (Path × X)) : Type 0 where
  pub path : Path
  pub passes : test path ≡ true
  pub there : is_some (find path_cmp path es) ≡ true

any-there : {X : Type 0} (test : Path → Bool) (es : List (Path × X)) → list_any (λ (e : Path × X). test e.0) es ≡ true → There test es
any-there test [] h = absurd (true≢false (sym h))
any-there {X} test (e ∷ es) h = by_first (test e.0) refl (any-there test es) h
  where
    later : There test es → There test (e ∷ es)
    later t = record { path = t.path; passes = t.passes; there = still (same_path t.path e.0) t.there }
      where
        still : (b : Bool) → is_some (find path_cmp t.path es) ≡ true → is_some (cond b (Some e.1) (find path_cmp t.path es)) ≡ true
        still true s = refl
        still false s = s

    by_first : (b : Bool) → test e.0 ≡ b → (list_any (λ (e : Path × X). test e.0) es ≡ true → There test es) → (b || list_any (λ (e : Path × X). test e.0) es)
        ≡ true → There test (e ∷ es)
    by_first true passes rest h = record {
      path = e.0;
      passes = passes;
      there = ap (λ b. is_some (cond b (Some e.1) (find path_cmp e.0 es))) (same_path-refl
          e.0);
    }
    by_first false fails rest h = later (rest h)

-- what is strictly below
pub below_by_depth : (m : Extents) (p : Path) (n : ℕ) → IsDepthAt m p n → nat_lt 1 n ≡ any_below p (entries m)
below_by_depth m p n d = by_truth (nat_lt 1 n) (any_below p (entries m)) to from
  where
    some : IsDeepAt m p n → 1 < n → any_below p (entries m) ≡ true
    some (nothing none) more = absurd (omega (arith, none, more))
    some (deep r there long) more =
        found-any (λ x. is_below x p) (entries m) (p ++ r)
        ((is_below-Decides (p ++ r) p).1 (at_or_below-append p r, λ same. omega (arith, ap length same, length-append p r, long, more)))
        (ap is_some (sym (get-entries m (p ++ r))) ∙ there)

    to : nat_lt 1 n ≡ true → any_below p (entries m) ≡ true
    to more = some d.reached (ltb-true _ _ more)

    from : any_below p (entries m) ≡ true → nat_lt 1 n ≡ true
    from any =
        let t = any-there (λ x. is_below x p) (entries m) any in
        let parts = (is_below-Decides t.path p).0 t.passes in
        let r = drop (length p) t.path in
        let whole : t.path ≡ p ++ r = append_from_at_or_below t.path p parts.0 in
        let long = d.within r (ap is_some (ap (get m) (sym whole)) ∙ ap is_some (get-entries m t.path) ∙ t.there) in
        lt-ltb _ _ (longer r whole parts.1 long)
      where
        longer : (r : Path) {x : Path} → x ≡ p ++ r → (x ≢ p) → suc (length r) ≤ n → 1 < n
        longer [] whole other long = absurd (other (whole ∙ append-nil p))
        longer (k ∷ r) whole other long = omega (arith, long)

-- what would be too deep elsewhere
pub deep_by_depth : (m : Extents) (p q : Path) (n : ℕ) → IsDepthAt m p n → length q ≤ 8 → nat_lt 9 (n + length q) ≡ is_too_deep p q (tree_in p (entries m))
deep_by_depth m p q n d few = by_truth (nat_lt 9 (n + length q)) (is_too_deep p q (tree_in p (entries m))) to from
  where
    test : Path → Bool
    test x = nat_lt 8 (length (rebased p q x))

    inside : (x : Path) → find path_cmp x (tree_in p (entries m)) ≡ cond (is_at_or_below x p) (get m x) None
    inside x = find-where_key path_cmp (λ y. is_at_or_below y p) x (λ y e. ap (λ z. is_at_or_below z p) (sym (path_antisym x y e))) (entries m)
        ∙ ap (λ v. cond (is_at_or_below x p) v None) (sym (get-entries m x))

    long : (r : Path) → length (rebased p q (p ++ r)) ≡ length q + length r
    long r = ap length (rebased-append p q r) ∙ length-append q r

    some : IsDeepAt m p n → 9 < n + length q → is_too_deep p q (tree_in p (entries m)) ≡ true
    some (nothing none) more = absurd (omega (arith, none, more, few))
    some (deep r there is) more =
        found-any (λ x. nat_lt 8 (length (rebased p q x))) (tree_in p (entries m)) (p ++ r) (lt-ltb _ _ (omega (arith, long r, is, more)))
        (ap is_some (inside (p ++ r)) ∙ ap (λ b. is_some (cond b (get m (p ++ r)) None)) (at_or_below-append p r) ∙ there)

    to : nat_lt 9 (n + length q) ≡ true → is_too_deep p q (tree_in p (entries m)) ≡ true
    to more = some d.reached (ltb-true _ _ more)

    from : is_too_deep p q (tree_in p (entries m)) ≡ true → nat_lt 9 (n + length q) ≡ true
    from any =
        let t = any-there (λ x. nat_lt 8 (length (rebased p q x))) (tree_in p (entries m)) any in
        let parts = kept_some (is_at_or_below t.path p) (get m t.path) (ap is_some (sym (inside t.path)) ∙ t.there) in
        let r = drop (length p) t.path in
        let whole : t.path ≡ p ++ r = append_from_at_or_below t.path p parts.0 in
        let deep_enough = d.within r (ap is_some (ap (get m) (sym whole)) ∙ parts.1) in
        lt-ltb _ _ (omega (arith, deep_enough, ltb-true _ _ t.passes, ap (λ x. length (rebased p q x)) whole, long r))

-- ---- a move

-- nothing is at or below a path
pub free_by_depth : (m : Extents) (p : Path) → IsDepthAt m p 0 → (x : Path) → is_at_or_below x p ≡ true → get m x ≡ None
free_by_depth m p d x at = none (get m x) refl
  where
    none : (o : Option Extent) → get m x ≡ o → get m x ≡ None
    none None is = is
    none (Some e) is =
        let r = drop (length p) x in
        absurd (omega (arith, d.within r (ap is_some (ap (get m) (sym (append_from_at_or_below x p at)) ∙ is))))

pub tree_free : (m : Extents) (p : Path) → IsDepthAt m p 0 → tree_in p (entries m) ≡ []
tree_free m p d = no_entry (tree_in p (entries m)) (λ x. find-where_key path_cmp (λ y. is_at_or_below y p) x (λ y e. ap (λ z. is_at_or_below z p) (sym
    (path_antisym x y e))) (entries m)
    ∙ by_place x (is_at_or_below x p) refl)
  where
    by_place : (x : Path) (b : Bool) → is_at_or_below x p ≡ b → cond b (find path_cmp x (entries m)) None ≡ None
    by_place x true at = sym (get-entries m x) ∙ free_by_depth m p d x at
    by_place x false at = refl

    no_entry : (es : List (Path × Extent)) → ((x : Path) → find path_cmp x es ≡ None) → es ≡ []
    no_entry [] h = refl
    no_entry (e ∷ es) h = absurd (true≢false (sym (ap (λ b. is_some (cond b (Some e.1) (find path_cmp e.0 es))) (same_path-refl e.0)) ∙ ap is_some (h e.0)))

itself : (v : Option Extent) (b : Bool) → v ≡ cond (is_some v) v (cond {A = Option Extent} b None None)
itself None true = refl
itself None false = refl
itself (Some e) b = refl

-- where nothing is at or below q
moved_apart : (p q : Path) (m : Extents) (x : Path) → IsDepthAt m q 0 → moved_where p q (get m) x
    ≡ cond (is_at_or_below x q) (get m (rebased q p x)) (cond (is_at_or_below x p) None (get m x))
moved_apart p q m x d = by_place (is_at_or_below x q) refl
  where
    by_place : (b : Bool) → is_at_or_below x q ≡ b → cond b (cond (is_some (get m (rebased q p x))) (get m (rebased q p x)) (cond (is_at_or_below x p) None
        (get m x)))
        (cond (is_at_or_below x p) None (get m x)) ≡ cond b (get m (rebased q p x)) (cond (is_at_or_below x p) None (get m x))
    by_place true at =
        ap (λ v. cond (is_some (get m (rebased q p x))) (get m (rebased q p x)) (cond (is_at_or_below x p) None v)) (free_by_depth m q d x at)
        ∙ sym (itself (get m (rebased q p x)) (is_at_or_below x p))
    by_place false at = refl

-- the same values are those of the map
same_get : (ss now : Branches Extent) (m : Extents) → values_map ss ≡ m → AreSameValues now ss → (x : Path) → value_at now x ≡ get m x
same_get ss now m is same x = same x ∙ sym (get-values ss x) ∙ ap (λ m. get m x) is

-- a branch that is new has no value
void : (r : Path) → value_at {X = Extent} (([], None) ∷ []) r ≡ None
void [] = refl
void (k ∷ r) = refl

pub values_moved : (ss now one two bs : Branches Extent) (p q : Path) (m : Extents) → values_map ss ≡ m → IsDepthAt m q 0 → AreSameValues now ss
    → ((x : Path) → find path_cmp x one ≡ cond (is_at_or_below x p) (find path_cmp (drop (length p) x) (([], None) ∷ [])) (find path_cmp x now))
    → ((r : Path) → find path_cmp r bs ≡ find path_cmp (p ++ r) now)
    → ((x : Path) → find path_cmp x two ≡ cond (is_at_or_below x q) (find path_cmp (drop (length q) x) bs) (find path_cmp x one))
    → values_map two ≡ rehomed p q m
values_moved ss now one two bs p q m is d same exchanged taken put =
    values_are two (rehomed p q m) (λ x. ap value_in (put x) ∙ by_place x (is_at_or_below x q) ∙ sym (get-rehomed p q m x ∙ moved_apart p q m x d))
  where
    left : (x : Path) (b : Bool) → value_in (cond b (find path_cmp (drop (length p) x) (([], None) ∷ [])) (find path_cmp x now)) ≡ cond b None (get m x)
    left x true = void (drop (length p) x)
    left x false = same_get ss now m is same x

    by_place : (x : Path) (b : Bool) → value_in (cond b (find path_cmp (drop (length q) x) bs) (find path_cmp x one))
        ≡ cond b (get m (rebased q p x)) (cond (is_at_or_below x p) None (get m x))
    by_place x true = ap value_in (taken (drop (length q) x)) ∙ same_get ss now m is same (p ++ drop (length q) x)
    by_place x false = ap value_in (exchanged x) ∙ left x (is_at_or_below x p)

pub values_stay : (ss now : Branches Extent) (p q : Path) (m : Extents) → values_map ss ≡ m → IsDepthAt m q 0 → AreSameValues now ss
    → ((r : Path) → find path_cmp (p ++ r) now ≡ None) → values_map now ≡ rehomed p q m
values_stay ss now p q m is d same absent =
    values_are now (rehomed p q m) (λ x. same_get ss now m is same x ∙ sym (get-rehomed p q m x ∙ moved_apart p q m x d ∙ by_place x (is_at_or_below x q) refl))
  where
    none : (r : Path) → get m (p ++ r) ≡ None
    none r = sym (same_get ss now m is same (p ++ r)) ∙ ap value_in (absent r)

    left : (x : Path) (b : Bool) → is_at_or_below x p ≡ b → cond b None (get m x) ≡ get m x
    left x true at = sym (ap (get m) (append_from_at_or_below x p at) ∙ none (drop (length p) x))
    left x false at = refl

    by_place : (x : Path) (b : Bool) → is_at_or_below x q ≡ b → cond b (get m (rebased q p x)) (cond (is_at_or_below x p) None (get m x)) ≡ get m x
    by_place x true at = none (drop (length q) x) ∙ sym (free_by_depth m q d x at)
    by_place x false at = left x (is_at_or_below x p) refl

-- ---- nothing

pub new_map : (ss : Branches Extent) → ss ≡ ([], None) ∷ [] → values_map ss ≡ empty
new_map ss is = values_are ss empty (λ p. ap (λ ss. value_at ss p) is ∙ void p ∙ sym (get-empty path_cmp p))

pub new_tallied : (ss : Branches Extent) → ss ≡ ([], None) ∷ [] → IsTallied (values_map ss) 0 0
new_tallied ss is =
    subst (λ m. IsTallied m 0 0) (sym (new_map ss is))
    (record {
      counted = record {
        ordered = ordered empty;
        small = λ p. omega (
          arith,
          ap weight_in (sym (get-entries empty p)
              ∙ get-empty path_cmp p),
        );
        counted = sym (ap total_weight none);
      };
      few = omega (arith, ap length none);
      bounded = omega arith;
    })
  where
    none : entries (empty {X = Extent} {R = path_cmp}) ≡ []
    none = nil_from_length _ (sym (len-entries empty) ∙ finite.len-empty path_cmp Extent)

-- ---- what the code is given

-- a branch is at p instead of what was there;  what is at and below p
abbrev pub Exchanged : Path → Branches Extent → Branches Extent → Branches Extent → Type 0
Exchanged p os es fs = (x : Path) → find path_cmp x fs ≡ cond (is_at_or_below x p) (find path_cmp (drop (length p) x) os) (find path_cmp x es)

abbrev pub Taken : Path → Branches Extent → Branches Extent → Type 0
Taken p es os = (r : Path) → find path_cmp r os ≡ find path_cmp (p ++ r) es

pub used_is : (m : Extents) (count used : ℕ) → IsTallied m count used → total_blocks m ≡ used
used_is m count used h = sym h.counted.counted

pub has_at : (ss : Branches Extent) (p : Path) → is_some (get (values_map ss) p) ≡ true → has_branch ss p ≡ true
has_at ss p some = by_find (find path_cmp p ss) refl (ap is_some (sym (get-values ss p)) ∙ some)
  where
    by_find : (o : Option (Option Extent)) → find path_cmp p ss ≡ o → is_some (value_in o) ≡ true → has_branch ss p ≡ true
    by_find None is some = absurd (true≢false (sym some))
    by_find (Some v) is some = ap is_some is

-- where nothing is, there is nothing to remove
pub nothing_removed : (m : Extents) (p : Path) → get m p ≡ None → m ≡ remove m p
nothing_removed m p none = finite.same_map path_cmp-total path_antisym m (remove m p) (λ x. by_same x (same_path x p) refl
    ∙ sym (get-remove path_cmp-total m p x))
  where
    by_same : (x : Path) (b : Bool) → same_path x p ≡ b → get m x ≡ cond b None (get m x)
    by_same x true same = ap (get m) ((same_path-Decides x p).0 same) ∙ none
    by_same x false same = refl

-- a path that is new, or is not
pub one_more : (o : Option Extent) (b : Bool) (n : ℕ) → is_some o ≡ not b → n ≡ cond b 1 0 → n ≡ cond (is_some o) 0 1
one_more None true n is counted = counted
one_more None false n is counted = absurd (true≢false (sym is))
one_more (Some e) true n is counted = absurd (true≢false is)
one_more (Some e) false n is counted = counted

-- what is not too deep elsewhere
pub shallow_there : (m : Extents) (p q r : Path) → is_too_deep p q (tree_in p (entries m)) ≡ false → is_some (get m (p ++ r)) ≡ true → length q + length r ≤ 8
shallow_there m p q r shallow some = by_length (cases_lt 8 (length q + length r))
  where
    by_length : (8 < length q + length r) ⊎ (length q + length r ≤ 8) → length q + length r ≤ 8
    by_length (inr few) = few
    by_length (inl many) =
        absurd (true≢false (sym (found-any (λ x. nat_lt 8 (length (rebased p q x))) (tree_in p (entries m)) (p ++ r)
        (lt-ltb _ _ (omega (arith, many, ap length (rebased-append p q r), length-append q r)))
        (ap is_some (find-where_key path_cmp (λ y. is_at_or_below y p) (p ++ r) (λ y e. ap (λ z. is_at_or_below z p) (sym (path_antisym (p ++ r) y e)))
        (entries m))
        ∙ ap (λ b. is_some (cond b (find path_cmp (p ++ r) (entries m)) None)) (at_or_below-append p r) ∙ ap is_some (sym (get-entries m (p ++ r))) ∙ some))
        ∙ shallow))

-- an empty branch is where one was taken out
pub room_at : (p : Path) (es fs : Branches Extent) → Exchanged p (([], None) ∷ []) es fs → has_branch fs p ≡ true
room_at p es fs exchanged =
    ap is_some (exchanged p) ∙ ap (λ b. is_some (cond b (find path_cmp (drop (length p) p) (([], None) ∷ [])) (find path_cmp p es))) (at_or_below-itself p)
    ∙ ap (λ r. has_branch {X = Extent} (([], None) ∷ []) r) (drop_all (length p) p (omega arith))
