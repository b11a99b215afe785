-- Entries as a store: what its look-ups answer, and what a change of the entries is to the store.
--     node_at-found .. blocks-used      the filestore's words, on the entries
--     octets_small, staged_small        every list of octets fits
--     put_store, put_kept               one entry put at its index
--     gone_store, gone_kept             one path taken out
--     moved_store, moved_kept           all at and below a path moved
--     staged_store, staged_kept         one staged list changed
use Rattle.std.proofs.Common.{◌≡◌, ◌≢◌, ℕ, zero, suc, ◌+◌, ◌-◌, ◌*◌, ◌<◌, ◌≤◌, Bool, true, false, not, if◌then◌else◌, ◌&&◌, ◌||◌, ◌==◌, List, [], ◌∷◌, ◌++◌, Option, Some, None, is_some, length, map, take, set, get_or, sum_by, replicate, refl, sym, ap, ◌∙◌, arith, length-take, Vec}
use Rattle.std.specs.declared.alloc.Global.{Global}
use Rattle.std.specs.FinMap as finite
use Rattle.std.specs.FinMap.{find, put, is_sorted, entries-from_sorted, get-from_sorted, entries-insert, get-remove, get-retain_keys, same_map, same_entries_map}
use Rattle.std.specs.FinMap.Entries.{where_key, is_sorted-put, is_sorted-where_key, find-where_key, is_some-find}
use Rattle.std.specs.List.{list_any}
use Rattle.std.specs.declared.cmp.Ordering.TheVariants.{Equal}
use Rattle.std.proofs.lemmas.Float.{T_from_true}
use Rattle.std.proofs.lemmas.List.Sums.{sum_by-set, sum_by-cons}
use Rattle.std.proofs.lemmas.Bool.{true≢false}
use Rattle.std.proofs.lemmas.Bool.Decides.{nat_tests}
use Rattle.std.proofs.lemmas.List.{length-map}
use Rattle.std.proofs.Math.Nat.{mul-zero}
use Rattle.std.proofs.lemmas.List.Folds.{sum_by-replicate}
use Rattle.cfdp_status.proofs.Choices.{turned}
use Rattle.cfdp_paths.specs.Paths.{Path, path_cmp, same_path, is_at_or_below, is_below, parent, rebased}
use Rattle.cfdp_paths.specs.PathMaps.{without, tree_in, rest_in, any_below, puts, moved_to}
use Rattle.cfdp_paths.proofs.Below.{parent-take}
use Rattle.cfdp_paths.proofs.Comparing.{path_cmp-total}
use Rattle.cfdp_paths.proofs.InOrder.{path_antisym, ordered-put, ordered-where, true_from_T}
use Rattle.cfdp_paths.proofs.Moving.{ordered-puts}
use Rattle.cfdp_actions.specs.Filestore.{Node, Directory, File, Filestore, node_at, staged_in, blocks_of, weight, weights, blocks, Becomes, Stages, changed, after, inside, has_entries, is_beside, inside_beside, has_beside, deepest_of, deepest_beside, is_directory, is_file, octets_in, is_good, is_root, parent_is_good, tree_at}
use Rattle.cfdp_actions.specs.Actions.{vacating, arriving}
use Rattle.cfdp_actions.specs.Store.{Store, free_blocks, with_changes}
use Rattle.cfdp_actions.specs.Listed.{vector_octets}
use Rattle.cfdp_actions.specs.code.Listed.{Entries, shown_entries, entry_found, blocks_in, nodes_of, listed_store, IsListed}
use Rattle.cfdp_actions.proofs.ShownLaws.{file_there}
use Rattle.cfdp_actions.proofs.BlocksLaws.{blocks_of-bound, lists_blocks}
use Rattle.cfdp_actions.proofs.WeighedLaws.{weights-put, weights-without, weights-relocated-le, weights-relocated}
use Rattle.cfdp_actions.proofs.Moves.{after-append}
use Rattle.cfdp_actions.proofs.Order.{same_path-symm}
use Rattle.cfdp_actions.proofs.Growth.{blocks_of-zero}

-- a test answers alike at paths that tie
pub alike : (test : Path → Bool) (q x : Path) → path_cmp q x ≡ Equal → test x ≡ test q
alike test q x e = ap test (sym (path_antisym q x e))

-- ---- lists in order as maps

pub insert_is : (es : List (Path × Node)) (k : Path) (v : Node) → is_sorted path_cmp es ≡ true → finite.insert (finite.from_sorted {R = path_cmp} es) k v
    ≡ finite.from_sorted (put path_cmp k v es)
insert_is es k v s =
    let t = T_from_true _ s in
    same_entries_map _ _ (entries-insert path_cmp-total (finite.from_sorted es) k v ∙ ap (put path_cmp k v) (entries-from_sorted path_cmp es t)
    ∙ sym (entries-from_sorted path_cmp (put path_cmp k v es) (is_sorted-put path_cmp path_cmp-total k v es t)))

pub retain_is : (es : List (Path × Node)) (test : Path → Bool) → is_sorted path_cmp es ≡ true → finite.retain_keys (finite.from_sorted {R = path_cmp} es) test
    ≡ finite.from_sorted (where_key path_cmp test es)
retain_is es test s =
    let t = T_from_true _ s in
    same_map path_cmp-total path_antisym _ _ (λ q.
    get-retain_keys (finite.from_sorted es) test q (alike test q)
    ∙ ap (λ o. if test q then o else None) (get-from_sorted path_cmp es q t)
    ∙ sym (find-where_key path_cmp test q (alike test q) es)
    ∙ sym (get-from_sorted path_cmp (where_key path_cmp test es) q (is_sorted-where_key path_cmp test es t)))

pub entries_retained : (es : List (Path × Node)) (test : Path → Bool) → is_sorted path_cmp es ≡ true →
    finite.entries (finite.retain_keys (finite.from_sorted {R = path_cmp} es) test) ≡ where_key path_cmp test es
entries_retained es test s =
    ap finite.entries (retain_is es test s) ∙ entries-from_sorted path_cmp (where_key path_cmp test es) (is_sorted-where_key path_cmp test es (T_from_true _ s))

pub remove_is : (es : List (Path × Node)) (k : Path) → is_sorted path_cmp es ≡ true → finite.remove (finite.from_sorted {R = path_cmp} es) k
    ≡ finite.from_sorted (without k es)
remove_is es k s =
    let t = T_from_true _ s in
    let test : Path → Bool = λ x. not (same_path k x) in
    same_map path_cmp-total path_antisym _ _ (λ q.
    get-remove path_cmp-total (finite.from_sorted es) k q
    ∙ ap (λ b. if b then None else finite.get (finite.from_sorted {R = path_cmp} es) q) (same_path-symm q k)
    ∙ sym (turned (same_path k q) (finite.get (finite.from_sorted {R = path_cmp} es) q) None)
    ∙ ap (λ o. if not (same_path k q) then o else None) (get-from_sorted path_cmp es q t)
    ∙ sym (find-where_key path_cmp test q (alike test q) es)
    ∙ sym (get-from_sorted path_cmp (without k es) q (is_sorted-where_key path_cmp test es t)))

-- ---- moves

removes : finite.FinMap path_cmp Node → List (Path × Node) → finite.FinMap path_cmp Node
removes m [] = m
removes m (e ∷ es) = removes (finite.remove m e.0) es

inserts : finite.FinMap path_cmp Node → List (Path × Node) → finite.FinMap path_cmp Node
inserts m [] = m
inserts m (e ∷ es) = inserts (finite.insert m e.0 e.1) es

after-vacated : (F : Filestore) (ts : List (Path × Node)) → after F (vacating ts) ≡ record F { nodes = removes F.nodes ts }
unfolding removes
after-vacated F [] = refl
after-vacated F (e ∷ es) = after-vacated (changed F (Becomes e.0 None)) es

after-arriving : (F : Filestore) (p q : Path) (ts : List (Path × Node)) → after F (arriving p q ts) ≡ record F { nodes = inserts F.nodes (moved_to p q ts) }
unfolding inserts
after-arriving F p q [] = refl
after-arriving F p q (e ∷ es) = after-arriving (changed F (Becomes (rebased p q e.0) (Some e.1))) p q es

inserts-puts : (es more : List (Path × Node)) → is_sorted path_cmp es ≡ true → inserts (finite.from_sorted es) more ≡ finite.from_sorted (puts es more)
unfolding inserts
inserts-puts es [] s = refl
inserts-puts es (e ∷ more) s =
    ap (λ m. inserts m more) (insert_is es e.0 e.1 s) ∙ inserts-puts (put path_cmp e.0 e.1 es) more
    (true_from_T _ (is_sorted-put path_cmp path_cmp-total e.0 e.1 es (T_from_true _ s)))

shadowed : {A : Type 0} (a b : Bool) (x y : A) → (if a then x else if b then x else y) ≡ (if b || a then x else y)
shadowed true true x y = refl
shadowed true false x y = refl
shadowed false true x y = refl
shadowed false false x y = refl

get-removes : (m : finite.FinMap path_cmp Node) (ts : List (Path × Node)) (q : Path) → finite.get (removes m ts) q
    ≡ (if list_any (same_path q) (map (λ e. e.0) ts) then None else finite.get m q)
unfolding removes
get-removes m [] q = refl
get-removes m (e ∷ es) q =
    get-removes (finite.remove m e.0) es q ∙ ap (λ o. if list_any (same_path q) (map (λ x. x.0) es) then None else o) (get-remove path_cmp-total m e.0 q)
    ∙ shadowed (list_any (same_path q) (map (λ x. x.0) es)) (same_path q e.0) None (finite.get m q)

-- what stays where the tree is removed
stays : (below : Bool) (o : Option Node) → (if is_some (if below then o else None) then None else o) ≡ (if not below then o else None)
stays true None = refl
stays true (Some node) = refl
stays false o = refl

removes-tree : (es : List (Path × Node)) (p : Path) → is_sorted path_cmp es ≡ true → removes (finite.from_sorted es) (tree_in p es)
    ≡ finite.from_sorted (rest_in p es)
removes-tree es p s =
    let t = T_from_true _ s in
    let test : Path → Bool = λ q. is_at_or_below q p in
    let other : Path → Bool = λ q. not (is_at_or_below q p) in
    same_map path_cmp-total path_antisym _ _ (λ q.
    get-removes (finite.from_sorted es) (tree_in p es) q
    ∙ ap (λ b. if b then None else finite.get (finite.from_sorted {R = path_cmp} es) q) (sym (is_some-find path_cmp q (tree_in p es))
    ∙ ap is_some (find-where_key path_cmp test q (alike test q) es))
    ∙ ap (λ o. if is_some (if test q then find path_cmp q es else None) then None else o) (get-from_sorted path_cmp es q t)
    ∙ stays (test q) (find path_cmp q es)
    ∙ sym (find-where_key path_cmp other q (alike other q) es)
    ∙ sym (get-from_sorted path_cmp (rest_in p es) q (is_sorted-where_key path_cmp other es t)))

-- ---- look-ups

weight-either : (b : Bool) (n : Node) (o : Option Node) (w : ℕ) → weight o ≤ w → weight (if b then Some n else o) ≤ weight (Some n) + w
weight-either true n o w h = omega arith
weight-either false n o w h = omega arith

pub weight-found : (es : List (Path × Node)) (p : Path) → weight (find path_cmp p es) ≤ weights es
weight-found [] p = omega arith
weight-found (e ∷ es) p = weight-either (same_path p e.0) e.1 (find path_cmp p es) (weights es) (weight-found es p)

pub octets-weight : (o : Option Node) → blocks_of (length (octets_in o)) ≤ weight o
unfolding blocks_of
octets-weight None = omega arith
octets-weight (Some Directory) = omega arith
octets-weight (Some (File octets)) = omega arith

pub lists-each : (xs : List (List ℕ)) (i : ℕ) → blocks_of (length (get_or xs i [])) ≤ sum_by (λ octets. blocks_of (length octets)) xs
lists-each [] i = omega (arith, blocks_of-zero)
lists-each (x ∷ xs) zero = omega (arith, sum_by-cons (λ octets. blocks_of (length octets)) x xs)
lists-each (x ∷ xs) (suc i) = omega (arith, sum_by-cons (λ octets. blocks_of (length octets)) x xs, lists-each xs i)

pub some_more : (n : ℕ) → not (suc n == 0) ≡ true
some_more n = grind (arith, nat_tests)

any-where : (test : Path → Bool) (es : List (Path × Node)) → not (length (where_key path_cmp test es) == 0) ≡ list_any (λ e. test e.0) es
any-where test [] = refl
any-where test (e ∷ es) =
    elim (test e.0) as (λ b. test e.0 ≡ b → not (length (where_key path_cmp test (e ∷ es)) == 0) ≡ list_any (λ x. test x.0) (e ∷ es)) [
      | true ↦ λ h. rw h (some_more (length (where_key path_cmp test es)))
      | false ↦ λ h. rw h (any-where test es)
    ] refl

-- a test that passes no more than another one
where-where : (test more : Path → Bool) → ((q : Path) → more q ≡ false → test q ≡ false) → (es : List (Path × Node)) →
    where_key path_cmp test (where_key path_cmp more es) ≡ where_key path_cmp test es
where-where test more out [] = refl
where-where test more out (e ∷ es) =
    elim (more e.0) as (λ b. more e.0 ≡ b → where_key path_cmp test (where_key path_cmp more (e ∷ es)) ≡ where_key path_cmp test (e ∷ es)) [
      | true ↦ λ h. rw h (ap (λ xs. if test e.0 then e ∷ xs else xs) (where-where test more out es))
      | false ↦ λ h. rw h (rw (out e.0 h) (where-where test more out es))
    ] refl

where-inside : (p : Path) (others : List Path) (es : List (Path × Node)) → where_key path_cmp (is_beside others p) (tree_in p es)
    ≡ where_key path_cmp (is_beside others p) es
where-inside p others =
    where-where (is_beside others p) (λ q. is_at_or_below q p)
    (λ q h. ap (λ b. b && not (same_path q p) && not (list_any (same_path (take (suc (length p)) q)) others)) h)

good-by : (F : Filestore) (es : Entries) (q : Path) → node_at F q ≡ entry_found es q → 1 ≤ length q → is_good F q ≡ is_directory (entry_found es q)
good-by F es [] e h = absurd (omega arith)
good-by F es (n ∷ q) e h = ap is_directory e

pub nonempty : (p : Path) → 1 ≤ length p → is_root p ≡ false
nonempty [] h = absurd (omega arith)
nonempty (n ∷ p) h = refl

module _ (es : Entries) (staged : List (Vec ℕ Global)) (used capacity : ℕ) (kept : IsListed es staged used capacity) where
  pub node_at-found : (p : Path) → node_at (listed_store es staged capacity).filestore p ≡ entry_found es p
  node_at-found p = get-from_sorted path_cmp (shown_entries es) p (T_from_true _ kept.sorted)

  pub entries-shown : finite.entries (listed_store es staged capacity).filestore.nodes ≡ shown_entries es
  entries-shown = entries-from_sorted path_cmp (shown_entries es) (T_from_true _ kept.sorted)

  pub tree_at-shown : (p : Path) → tree_at (listed_store es staged capacity).filestore p ≡ tree_in p (shown_entries es)
  tree_at-shown p = entries_retained (shown_entries es) (λ q. is_at_or_below q p) kept.sorted

  pub has_entries-shown : (p : Path) → has_entries (listed_store es staged capacity).filestore p ≡ any_below p (shown_entries es)
  has_entries-shown p =
      ap (λ n. not (n == 0)) (finite.len-entries (inside (listed_store es staged capacity).filestore p)
      ∙ ap (λ es. length es) (entries_retained (shown_entries es) (λ q. is_below q p) kept.sorted))
      ∙ any-where (λ q. is_below q p) (shown_entries es)

  -- all that is beside others is in the tree
  pub has_beside-shown : (p : Path) (others : List Path) → has_beside (listed_store es staged capacity).filestore p others
      ≡ list_any (λ e. is_beside others p e.0) (tree_in p (shown_entries es))
  has_beside-shown p others =
      ap (λ n. not (n == 0)) (finite.len-entries (inside_beside (listed_store es staged capacity).filestore p others)
      ∙ ap (λ es. length es) (entries_retained (shown_entries es) (is_beside others p) kept.sorted ∙ sym (where-inside p others (shown_entries es))))
      ∙ any-where (is_beside others p) (tree_in p (shown_entries es))

  pub deepest_beside-shown : (p : Path) (others : List Path) → deepest_beside (listed_store es staged capacity).filestore p others
      ≡ deepest_of (where_key path_cmp (is_beside others p) (tree_in p (shown_entries es)))
  deepest_beside-shown p others =
      ap deepest_of (entries_retained (shown_entries es) (is_beside others p) kept.sorted ∙ sym (where-inside p others (shown_entries es)))

  pub parent_is_good-shown : (p : Path) → 1 ≤ length (parent p) → 1 ≤ length p → parent_is_good (listed_store es staged capacity).filestore p
      ≡ is_directory (entry_found es (parent p))
  parent_is_good-shown p h k =
      ap (λ b. not b && is_good (listed_store es staged capacity).filestore (parent p)) (nonempty p k)
      ∙ good-by (listed_store es staged capacity).filestore es (parent p) (node_at-found (parent p)) h

  pub blocks-used : blocks (listed_store es staged capacity).filestore ≡ used
  unfolding blocks
  blocks-used = ap (λ es. weights es + lists_blocks staged) entries-shown ∙ sym kept.counted

  pub found_small : (p : Path) → weight (entry_found es p) ≤ used
  found_small p = omega (arith, weight-found (shown_entries es) p, kept.counted)

  pub few_used : used ≤ 65536
  few_used = omega (arith, kept.fits, kept.small)

  pub octets_small : (p : Path) → length (octets_in (entry_found es p)) ≤ 7864320
  octets_small p = blocks_of-bound (length (octets_in (entry_found es p))) (omega (arith, octets-weight (entry_found es p), found_small p, few_used))

  pub list_small : (slot : ℕ) → blocks_of (length (get_or (vector_octets staged) slot [])) ≤ used
  list_small slot = omega (arith, lists-each (vector_octets staged) slot, kept.counted)

  pub staged_small : (slot : ℕ) → length (get_or (vector_octets staged) slot []) ≤ 7864320
  staged_small slot = blocks_of-bound (length (get_or (vector_octets staged) slot [])) (omega (arith, list_small slot, few_used))

  -- ---- changes of the entries

  module _ (es' : Entries) where
    pub put_store : (p : Path) (node : Node) → shown_entries es' ≡ put path_cmp p node (shown_entries es) → listed_store es' staged capacity
        ≡ with_changes (listed_store es staged capacity) (Becomes p (Some node) ∷ [])
    put_store p node e =
        let nodes : nodes_of es' ≡ finite.insert (nodes_of es) p node = ap finite.from_sorted e ∙ sym (insert_is (shown_entries es) p node kept.sorted) in
        ap (λ (m : finite.FinMap path_cmp Node). record {
          filestore = record { nodes = m; staged = vector_octets staged };
          capacity = capacity;
          takes_no_memory = false;
        }) nodes

    pub put_kept : (p : Path) (node : Node) (used' : ℕ) → shown_entries es' ≡ put path_cmp p node (shown_entries es) → used' + weight (entry_found es p) ≡ used
        + weight (Some node) →
        used' ≤ capacity → IsListed es' staged used' capacity
    put_kept p node used' e count h = record {
      sorted = ordered-put p node (shown_entries es) (shown_entries es') e kept.sorted;
      slots = kept.slots;
      counted = omega (arith, count, kept.counted, weights-put p node (shown_entries es) kept.sorted, ap weights e);
      fits = h;
      small = kept.small;
    }

    pub gone_store : (p : Path) → shown_entries es' ≡ without p (shown_entries es) → listed_store es' staged capacity
        ≡ with_changes (listed_store es staged capacity) (Becomes p None ∷ [])
    gone_store p e =
        let nodes : nodes_of es' ≡ finite.remove (nodes_of es) p = ap finite.from_sorted e ∙ sym (remove_is (shown_entries es) p kept.sorted) in
        ap (λ (m : finite.FinMap path_cmp Node). record {
          filestore = record { nodes = m; staged = vector_octets staged };
          capacity = capacity;
          takes_no_memory = false;
        }) nodes

    pub gone_kept : (p : Path) (used' : ℕ) → shown_entries es' ≡ without p (shown_entries es) → used' + weight (entry_found es p) ≡ used →
        IsListed es' staged used' capacity
    gone_kept p used' e count = record {
      sorted = ordered-where (λ x. not (same_path p x)) (shown_entries es) (shown_entries es') e kept.sorted;
      slots = kept.slots;
      counted = omega (arith, count, kept.counted, weights-without p (shown_entries es) kept.sorted, ap weights e);
      fits = omega (arith, count, kept.fits);
      small = kept.small;
    }

    pub moved_store : (p q : Path) → shown_entries es' ≡ puts (rest_in p (shown_entries es)) (moved_to p q (tree_in p (shown_entries es)))
        → listed_store es' staged capacity ≡ with_changes (listed_store es staged capacity) (vacating (tree_at (listed_store es staged capacity).filestore p)
        ++ arriving p q (tree_at (listed_store es staged capacity).filestore p))
    moved_store p q e =
        let F : Filestore = (listed_store es staged capacity).filestore in
        let ts : List (Path × Node) = tree_in p (shown_entries es) in
        let rest : is_sorted path_cmp (rest_in p (shown_entries es)) ≡ true = ordered-where (λ x. not (is_at_or_below x p)) (shown_entries es)
        (rest_in p (shown_entries es)) refl kept.sorted in
        let nodes : nodes_of es' ≡ inserts (removes (nodes_of es) ts) (moved_to p q ts) =
        ap finite.from_sorted e ∙ sym (ap (λ m. inserts m (moved_to p q ts)) (removes-tree (shown_entries es) p kept.sorted)
        ∙ inserts-puts (rest_in p (shown_entries es)) (moved_to p q ts) rest) in
        let gone : after F (vacating ts ++ arriving p q ts) ≡ record F { nodes = inserts (removes F.nodes ts) (moved_to p q ts) } =
        after-append F (vacating ts) (arriving p q ts) ∙ ap (λ (G : Filestore). after G (arriving p q ts)) (after-vacated F ts)
        ∙ after-arriving (record F { nodes = removes F.nodes ts }) p q ts in
        ap (λ (m : finite.FinMap path_cmp Node). record {
          filestore = record { nodes = m; staged = vector_octets staged };
          capacity = capacity;
          takes_no_memory = false;
        }) nodes
        ∙ sym (ap (λ (G : Filestore). record { filestore = G; capacity = capacity; takes_no_memory = false }) gone)
        ∙ ap (λ (xs : List (Path × Node)). with_changes (listed_store es staged capacity) (vacating xs ++ arriving p q xs)) (sym (tree_at-shown p))

    module _ (p q : Path) (e : shown_entries es' ≡ puts (rest_in p (shown_entries es)) (moved_to p q (tree_in p (shown_entries es)))) where
      pub moved_fits : blocks_in es' staged ≤ capacity
      moved_fits = omega (arith, kept.fits, kept.counted, ap weights e, weights-relocated-le p q (shown_entries es))

      pub moved_counted : entry_found es q ≡ None → any_below q (shown_entries es) ≡ false → used ≡ blocks_in es' staged
      moved_counted absent none = omega (arith, kept.counted, ap weights e, weights-relocated p q (shown_entries es) kept.sorted absent none)

      pub moved_kept : (used' : ℕ) → used' ≡ blocks_in es' staged → IsListed es' staged used' capacity
      moved_kept used' count = record {
        sorted =
            ap (is_sorted path_cmp) e
            ∙ ordered-puts (rest_in p (shown_entries es)) (moved_to p q (tree_in p (shown_entries es)))
            (ordered-where (λ x. not (is_at_or_below x p)) (shown_entries es) (rest_in p (shown_entries es)) refl kept.sorted);
        slots = kept.slots;
        counted = count;
        fits = omega (arith, count, moved_fits);
        small = kept.small;
      }

  -- ---- changes of the staged lists

  module _ (staged' : List (Vec ℕ Global)) (slot : ℕ) (octets : List ℕ) (changed_list : vector_octets staged' ≡ set (vector_octets staged) slot octets) where
    pub staged_store : listed_store es staged' capacity ≡ with_changes (listed_store es staged capacity) (Stages slot octets ∷ [])
    staged_store = ap (λ (lists : List (List ℕ)). record {
      filestore = record { nodes = nodes_of es; staged = lists };
      capacity = capacity;
      takes_no_memory = false;
    }) changed_list

    pub staged_kept : (used' : ℕ) → length staged' ≡ length staged → slot < 64 → used' + blocks_of (length (get_or (vector_octets staged) slot [])) ≡ used
        + blocks_of (length octets) → used' ≤ capacity → IsListed es staged' used' capacity
    staged_kept used' e s count h =
        let within : slot < length (vector_octets staged) = omega (arith, s, kept.slots, length-map staged (λ (vector : Vec ℕ Global). vector.items)) in
        record {
          sorted = kept.sorted;
          slots = e ∙ kept.slots;
          counted = omega (
            arith,
            count,
            kept.counted,
            sum_by-set (λ (list : List ℕ). blocks_of (length list)) (vector_octets staged) slot octets [] within,
            ap (λ (lists : List (List ℕ)). sum_by (λ (list : List ℕ). blocks_of (length list)) lists) changed_list,
          );
          fits = h;
          small = kept.small;
        }

pub empty_nodes : nodes_of [] ≡ finite.empty
empty_nodes = finite.empty_of_len (nodes_of []) (finite.len-entries (nodes_of []) ∙ ap (λ es. length es) (entries-from_sorted path_cmp [] tt))

pub empty_lists : (staged : List (Vec ℕ Global)) (n : ℕ) → vector_octets staged ≡ replicate n [] → lists_blocks staged ≡ 0
empty_lists staged n e =
    ap (λ (lists : List (List ℕ)). sum_by (λ (list : List ℕ). blocks_of (length list)) lists) e
    ∙ sum_by-replicate (λ (list : List ℕ). blocks_of (length list)) n [] ∙ ap (λ k. n * k) blocks_of-zero ∙ mul-zero n

file-weight : (o : Option Node) → is_file o ≡ true → weight o ≡ 1 + blocks_of (length (octets_in o))
file-weight None h = cc
file-weight (Some Directory) h = cc
file-weight (Some (File octets)) h = refl

-- the parent is the root
pub root_is_good : (s : Store) (p : Path) → length p ≡ 1 → parent_is_good s.filestore p ≡ true
root_is_good s [] h = absurd (omega arith)
root_is_good s (n ∷ []) h = refl
root_is_good s (n ∷ m ∷ p) h = absurd (omega arith)

-- what is there and is no directory
no_directory : (o : Option Node) (node : Node) → o ≡ Some node → is_directory o ≡ false → weight o ≡ 1 + blocks_of (length (octets_in o))
no_directory None node e h = cc
no_directory (Some Directory) node e h = absurd (true≢false h)
no_directory (Some (File octets)) node e h = refl

-- ---- the same of a store that is seen so

module _ (es : Entries) (staged : List (Vec ℕ Global)) (used capacity : ℕ) (kept : IsListed es staged used capacity) (now : Store)
    (view : listed_store es staged capacity ≡ now) where
  pub seen_node : (p : Path) → node_at now.filestore p ≡ entry_found es p
  seen_node p = ap (λ (s : Store). node_at s.filestore p) (sym view) ∙ node_at-found es staged used capacity kept p

  pub seen_tree : (p : Path) → tree_at now.filestore p ≡ tree_in p (shown_entries es)
  seen_tree p = ap (λ (s : Store). tree_at s.filestore p) (sym view) ∙ tree_at-shown es staged used capacity kept p

  pub seen_entries : finite.entries now.filestore.nodes ≡ shown_entries es
  seen_entries = ap (λ (s : Store). finite.entries s.filestore.nodes) (sym view) ∙ entries-shown es staged used capacity kept

  pub seen_has_entries : (p : Path) → has_entries now.filestore p ≡ any_below p (shown_entries es)
  seen_has_entries p = ap (λ (s : Store). has_entries s.filestore p) (sym view) ∙ has_entries-shown es staged used capacity kept p

  pub seen_has_beside : (p : Path) (others : List Path) → has_beside now.filestore p others
      ≡ list_any (λ e. is_beside others p e.0) (tree_in p (shown_entries es))
  seen_has_beside p others = ap (λ (s : Store). has_beside s.filestore p others) (sym view) ∙ has_beside-shown es staged used capacity kept p others

  pub seen_deepest_beside : (p : Path) (others : List Path) → deepest_beside now.filestore p others
      ≡ deepest_of (where_key path_cmp (is_beside others p) (tree_in p (shown_entries es)))
  seen_deepest_beside p others = ap (λ (s : Store). deepest_beside s.filestore p others) (sym view) ∙ deepest_beside-shown es staged used capacity kept p others

  pub seen_parent : (p : Path) (depth : ℕ) → length p ≡ depth + 1 → depth ≢ 0 → parent_is_good now.filestore p ≡ is_directory (entry_found es (take depth p))
  seen_parent p depth long some =
      let above : parent p ≡ take depth p = parent-take p ∙ ap (λ n. take n p) (omega (arith, long)) in
      let longer : length (parent p) ≡ depth = ap (λ (q : Path). length q) above ∙ omega (arith, long, length-take depth p) in
      ap (λ (s : Store). parent_is_good s.filestore p) (sym view) ∙ parent_is_good-shown es staged used capacity kept p (omega (arith, longer, some))
      (omega (arith, long)) ∙ ap (λ q. is_directory (entry_found es q)) above

  pub seen_staged : (slot : ℕ) → staged_in now.filestore slot ≡ get_or (vector_octets staged) slot []
  seen_staged slot = ap (λ (s : Store). staged_in s.filestore slot) (sym view)

  pub seen_slots : length now.filestore.staged ≡ 64
  seen_slots = ap (λ (s : Store). length s.filestore.staged) (sym view) ∙ length-map staged (λ (vector : Vec ℕ Global). vector.items) ∙ kept.slots

  pub seen_blocks : blocks now.filestore ≡ used
  seen_blocks = ap (λ (s : Store). blocks s.filestore) (sym view) ∙ blocks-used es staged used capacity kept

  pub seen_capacity : now.capacity ≡ capacity
  seen_capacity = ap (λ (s : Store). s.capacity) (sym view)

  pub seen_free : free_blocks now + used ≡ capacity
  seen_free = omega (arith, seen_blocks, seen_capacity, kept.fits)

  pub seen_put : (es' : Entries) (p : Path) (node : Node) → shown_entries es' ≡ put path_cmp p node (shown_entries es) → listed_store es' staged capacity
      ≡ with_changes now (Becomes p (Some node) ∷ [])
  seen_put es' p node e = put_store es staged used capacity kept es' p node e ∙ ap (λ (s : Store). with_changes s (Becomes p (Some node) ∷ [])) view

  pub seen_gone : (es' : Entries) (p : Path) → shown_entries es' ≡ without p (shown_entries es) → listed_store es' staged capacity ≡ with_changes now
      (Becomes p None ∷ [])
  seen_gone es' p e = gone_store es staged used capacity kept es' p e ∙ ap (λ (s : Store). with_changes s (Becomes p None ∷ [])) view

  pub seen_moved : (es' : Entries) (p q : Path) → shown_entries es' ≡ puts (rest_in p (shown_entries es)) (moved_to p q (tree_in p (shown_entries es))) →
      listed_store es' staged capacity
      ≡ with_changes now (vacating (tree_at now.filestore p) ++ arriving p q (tree_at now.filestore p))
  seen_moved es' p q e = moved_store es staged used capacity kept es' p q e
      ∙ ap (λ (s : Store). with_changes s (vacating (tree_at s.filestore p) ++ arriving p q (tree_at s.filestore p))) view

  pub seen_list : (staged' : List (Vec ℕ Global)) (slot : ℕ) (octets : List ℕ) → vector_octets staged' ≡ set (vector_octets staged) slot octets →
      listed_store es staged' capacity ≡ with_changes now (Stages slot octets ∷ [])
  seen_list staged' slot octets e = staged_store es staged used capacity kept staged' slot octets e
      ∙ ap (λ (s : Store). with_changes s (Stages slot octets ∷ [])) view

  -- ---- what changes need

  pub seen_file : (p : Path) → is_file (node_at now.filestore p) ≡ true → is_file (entry_found es p) ≡ true
  seen_file p h = sym (ap is_file (seen_node p)) ∙ h

  pub there_file : (p : Path) → is_file (node_at now.filestore p) ≡ true → is_some (entry_found es p) ≡ true
  there_file p h = file_there (entry_found es p) (seen_file p h)

  pub weight_there : (p : Path) → is_file (node_at now.filestore p) ≡ true → weight (entry_found es p) ≡ 1 + blocks_of (length (octets_in (entry_found es p)))
  weight_there p h = file-weight (entry_found es p) (seen_file p h)

  pub weight_unless : (p : Path) (node : Node) → entry_found es p ≡ Some node → is_directory (node_at now.filestore p) ≡ false → weight (entry_found es p) ≡ 1
      + blocks_of (length (octets_in (entry_found es p)))
  weight_unless p node e h = no_directory (entry_found es p) node e (sym (ap is_directory (seen_node p)) ∙ h)

  -- one block more, at a path at which nothing was there
  pub put_absent_kept : (es' : Entries) (p : Path) (node : Node) → shown_entries es' ≡ put path_cmp p node (shown_entries es) → node_at now.filestore p ≡ None →
      1 ≤ free_blocks now → weight (Some node) ≡ 1 → IsListed es' staged (used + 1) capacity
  put_absent_kept es' p node e absent room one =
      put_kept es staged used capacity kept es' p node (used + 1) e (omega (arith, ap weight (sym (seen_node p) ∙ absent), one))
      (omega (arith, seen_free, room))

  -- an empty slot, and its list as a file
  module _ (es' : Entries) (staged' : List (Vec ℕ Global)) (slot : ℕ) (p : Path) (octets : List ℕ) (emptied : vector_octets staged'
      ≡ set (vector_octets staged) slot []) (slots : length staged' ≡ length staged) (within : slot < 64) (file : shown_entries es'
      ≡ put path_cmp p (File octets) (shown_entries es)) where
    left : ℕ
    left = used - blocks_of (length (get_or (vector_octets staged) slot []))

    emptied_kept : IsListed es staged' left capacity
    unfolding left
    emptied_kept =
        staged_kept es staged used capacity kept staged' slot [] emptied left slots within
        (omega (arith, blocks_of-zero, list_small es staged used capacity kept slot)) (omega (arith, kept.fits))

    pub installed_store : listed_store es' staged' capacity ≡ with_changes now (Stages slot [] ∷ Becomes p (Some (File octets)) ∷ [])
    installed_store =
        put_store es staged' left capacity emptied_kept es' p (File octets) file
        ∙ ap (λ (s : Store). with_changes s (Becomes p (Some (File octets)) ∷ [])) (seen_list staged' slot [] emptied)

    pub installed_kept : (used' : ℕ) → octets ≡ get_or (vector_octets staged) slot [] → used' + weight (entry_found es p) ≡ used + 1 → used' ≤ capacity →
        IsListed es' staged' used' capacity
    unfolding left
    installed_kept used' same count h =
        put_kept es staged' left capacity emptied_kept es' p (File octets) used' file
        (omega (arith, count, ap (λ (list : List ℕ). blocks_of (length list)) same, list_small es staged used capacity kept slot)) h
