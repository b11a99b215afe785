-- Sums over a finite map: the weights of its entries after one change, and the blocks of a filestore after one change.
--     below_rest, sorted_rest, find_below, ..   entries in path order
--     entries-retain_keys, entries-remove      what a change leaves
--     totals-put, totals-without               the weights of all together, whatever an entry weighs
--     weights-becomes, blocks-becomes, blocks-stages    after one change of a filestore
use Rattle.std.proofs.Common.{◌≡◌, refl, sym, ◌∙◌, ap, subst, Bool, true, false, cond, not, ◌&&◌, T, Option, Some, None, Ordering, Less, Equal, Greater, is_eq, is_lt, true≢false, ℕ, ◌+◌, ◌<◌, List, [], ◌∷◌, length, arith}
use Rattle.std.proofs.lemmas.List.Sums.{sum_by-set}
use Rattle.std.specs.Cmp.{IsTotalOrder}
use Rattle.std.specs.Ordering.{eq_by_cmp}
use Rattle.std.specs.FinMap.{FinMap, IsAntisymmetric, entries, entries_sorted, get, get-entries, retain_keys, get-retain_keys, remove, get-remove, insert, entries-insert}
use Rattle.std.specs.FinMap.Entries.{by_order, below_all, is_sorted, is_sorted-where_key, find, find-where_key, put, where_key, same_entries}
use Rattle.cfdp_paths.specs.Paths.{Path, path_cmp, same_path}
use Rattle.cfdp_actions.specs.Filestore.{Node, Filestore, node_at, staged_in, blocks_of, weight, weights, blocks, Becomes, Stages, changed}
use Rattle.cfdp_actions.proofs.Order.{same_path-symm, same_path-true}
use Rattle.cfdp_paths.proofs.InOrder.{path_antisym}
use Rattle.cfdp_paths.proofs.Comparing.{path_cmp-total}

first : (a b : Bool) → T (a && b) → T a
first true b p = tt
first false b p = p

second : (a b : Bool) → T (a && b) → T b
second true b p = p
second false b p = absurd p

lesser : (r : Ordering) → T (is_lt r) → r ≡ Less
lesser Less p = refl
lesser Equal p = absurd p
lesser Greater p = absurd p

module _ {K X : Type 0} {R : K → K → Ordering} (o : IsTotalOrder R) (exact : IsAntisymmetric R) where
  pub entries-retain_keys : (m : FinMap R X) (p : K → Bool) → entries (retain_keys m p) ≡ where_key R p (entries m)
  entries-retain_keys m p = same_entries R o exact _ _ (entries_sorted (retain_keys m p)) (is_sorted-where_key R p (entries m) (entries_sorted m)) (λ q.
      sym (get-entries (retain_keys m p) q) ∙ get-retain_keys m p q (λ x e. ap p (sym (exact q x e)))
      ∙ ap (λ v. cond (p q) v None) (get-entries m q) ∙ sym (find-where_key R p q (λ x e. ap p (sym (exact q x e))) (entries m)))

-- ---- entries in path order

module _ {X : Type 0} where
  pub below_rest : (e : Path × X) (es : List (Path × X)) → T (is_sorted path_cmp (e ∷ es)) → T (below_all path_cmp e.0 es)
  below_rest e es h = first _ _ h

  pub sorted_rest : (e : Path × X) (es : List (Path × X)) → T (is_sorted path_cmp (e ∷ es)) → T (is_sorted path_cmp es)
  sorted_rest e es h = second (below_all path_cmp e.0 es) _ h

  -- a key below all others is not found
  pub find_below : (q : Path) (es : List (Path × X)) → T (below_all path_cmp q es) → find path_cmp q es ≡ None
  find_below q [] h = refl
  find_below q (e ∷ es) h = ap (λ r. cond (is_eq r) (Some e.1) (find path_cmp q es)) (lesser _ (first _ _ h)) ∙ find_below q es (second _ _ h)

  -- the later keys are others
  pub find_later : (e : Path × X) (es : List (Path × X)) → T (is_sorted path_cmp (e ∷ es)) → (x : Path) → same_path x e.0 ≡ true → find path_cmp x es ≡ None
  find_later e es h x tied = ap (λ y. find path_cmp y es) (same_path-true x e.0 tied) ∙ find_below e.0 es (below_rest e es h)

  pub below_less : (x y : Path) (es : List (Path × X)) → path_cmp x y ≡ Less → T (below_all path_cmp y es) → T (below_all path_cmp x es)
  below_less x y [] p h = tt
  below_less x y (e ∷ es) p h =
      let here : path_cmp x e.0 ≡ Less = path_cmp-total.trans x y e.0 p (lesser _ (first _ _ h)) in
      let rest = below_less x y es p (second _ _ h) in
      subst (λ r. T (is_lt r && below_all path_cmp x es)) (sym here) rest

  pub below_tied : (x y : Path) (es : List (Path × X)) → path_cmp x y ≡ Equal → T (below_all path_cmp y es) → T (below_all path_cmp x es)
  below_tied x y es p h = subst (λ z. T (below_all path_cmp z es)) (sym (path_antisym x y p)) h

  -- the others are left as they are
  nothing_left : (k : Path) (es : List (Path × X)) → T (below_all path_cmp k es) → where_key path_cmp (λ x. not (eq_by_cmp path_cmp k x)) es ≡ es
  nothing_left k [] h = refl
  nothing_left k (e ∷ es) h =
      ap (λ r. cond (not (is_eq r)) (e ∷ where_key path_cmp (λ x. not (eq_by_cmp path_cmp k x)) es) (where_key path_cmp (λ x. not (eq_by_cmp path_cmp k x)) es))
      (lesser _ (first _ _ h))
      ∙ ap (λ es. e ∷ es) (nothing_left k es (second _ _ h))

  -- in a map
  pub entries-remove : (m : FinMap path_cmp X) (k : Path) → entries (remove m k) ≡ where_key path_cmp (λ x. not (eq_by_cmp path_cmp k x)) (entries m)
  entries-remove m k = same_entries path_cmp path_cmp-total path_antisym _ _ (entries_sorted (remove m k))
      (is_sorted-where_key path_cmp _ (entries m) (entries_sorted m)) (λ q.
      sym (get-entries (remove m k) q) ∙ get-remove path_cmp-total m k q
      ∙ turned (eq_by_cmp path_cmp q k) (eq_by_cmp path_cmp k q) (same_path-symm q k) (get m q)
      ∙ ap (λ v. cond (not (eq_by_cmp path_cmp k q)) v None) (get-entries m q)
      ∙ sym (find-where_key path_cmp (λ x. not (eq_by_cmp path_cmp k x)) q (λ x e. ap (λ x. not (eq_by_cmp path_cmp k x)) (sym (path_antisym q x e)))
      (entries m)))
    where
      turned : (a b : Bool) → a ≡ b → (v : Option X) → cond a None v ≡ cond (not b) v None
      turned true true e v = refl
      turned false false e v = refl
      turned true false e v = absurd (true≢false e)
      turned false true e v = absurd (true≢false (sym e))

-- ---- their weights together

module _ {X : Type 0} (weigh : X → ℕ) where
  abbrev pub totals : List (Path × X) → ℕ
  totals [] = 0
  totals (e ∷ es) = weigh e.1 + totals es

  abbrev pub weighed : Option X → ℕ
  weighed None = 0
  weighed (Some x) = weigh x

  -- at the index of k
  pub totals-put : (k : Path) (v : X) (es : List (Path × X)) → T (is_sorted path_cmp es) → totals (put path_cmp k v es) + weighed (find path_cmp k es)
      ≡ totals es + weigh v
  totals-put k v [] h = omega arith
  totals-put k v (e ∷ es) h =
      elim (path_cmp k e.0) as (λ r. path_cmp k e.0 ≡ r → totals (by_order r ((k, v) ∷ e ∷ es) ((e.0, v) ∷ es) (e ∷ put path_cmp k v es))
      + weighed (cond (is_eq r) (Some e.1) (find path_cmp k es)) ≡ totals (e ∷ es) + weigh v) [
        | Less ↦ λ p. let none : weighed (find path_cmp k es) ≡ 0 = ap weighed (find_below k es (below_less k e.0 es p (below_rest e es h))) in omega arith
        | Equal ↦ λ p. omega arith
        | Greater ↦ λ p. let rest : totals (put path_cmp k v es) + weighed (find path_cmp k es) ≡ totals es + weigh v =
            totals-put k v es (sorted_rest e es h) in omega arith
      ] refl

  pub totals-without : (k : Path) (es : List (Path × X)) → T (is_sorted path_cmp es) → totals (where_key path_cmp (λ x. not (eq_by_cmp path_cmp k x)) es)
      + weighed (find path_cmp k es) ≡ totals es
  totals-without k [] h = omega arith
  totals-without k (e ∷ es) h =
      let left = where_key path_cmp (λ x. not (eq_by_cmp path_cmp k x)) es in
      elim (path_cmp k e.0) as (λ r. path_cmp k e.0 ≡ r → totals (cond (not (is_eq r)) (e ∷ left) left)
      + weighed (cond (is_eq r) (Some e.1) (find path_cmp k es)) ≡ totals (e ∷ es)) [
        | Less ↦ λ p. let rest : totals left + weighed (find path_cmp k es) ≡ totals es = totals-without k es (sorted_rest e es h) in omega arith
        | Equal ↦ λ p. let rest : totals left ≡ totals es = ap totals (nothing_left k es (below_tied k e.0 es p (below_rest e es h))) in omega arith
        | Greater ↦ λ p. let rest : totals left + weighed (find path_cmp k es) ≡ totals es = totals-without k es (sorted_rest e es h) in omega arith
      ] refl

-- ---- of a filestore

abbrev block_count : Node → ℕ
block_count node = weight (Some node)

weights-totals : (es : List (Path × Node)) → weights es ≡ totals block_count es
weights-totals [] = refl
weights-totals (e ∷ es) = ap (λ n. weight (Some e.1) + n) (weights-totals es)

weight-weighed : (a : Option Node) → weight a ≡ weighed block_count a
weight-weighed None = refl
weight-weighed (Some node) = refl

pub weights-becomes : (F : Filestore) (p : Path) (node : Option Node) → weights (entries (changed F (Becomes p node)).nodes) + weight (node_at F p)
    ≡ weights (entries F.nodes) + weight node
weights-becomes F p node = by_node node
  where
    old : weighed block_count (find path_cmp p (entries F.nodes)) ≡ weight (node_at F p)
    old = sym (weight-weighed _) ∙ ap weight (sym (get-entries F.nodes p))

    by_node : (node : Option Node) → weights (entries (changed F (Becomes p node)).nodes) + weight (node_at F p) ≡ weights (entries F.nodes) + weight node
    by_node None =
        let e : weights (entries (remove F.nodes p)) ≡ totals block_count (where_key path_cmp (λ x. not (eq_by_cmp path_cmp p x)) (entries F.nodes)) =
        weights-totals _ ∙ ap (totals block_count) (entries-remove F.nodes p) in
        let f = totals-without block_count p (entries F.nodes) (entries_sorted F.nodes) in
        omega (arith, e, f, old, weights-totals (entries F.nodes))
    by_node (Some n) =
        let e : weights (entries (insert F.nodes p n)) ≡ totals block_count (put path_cmp p n (entries F.nodes)) = weights-totals _
        ∙ ap (totals block_count) (entries-insert path_cmp-total F.nodes p n) in
        let f = totals-put block_count p n (entries F.nodes) (entries_sorted F.nodes) in
        omega (arith, e, f, old, weights-totals (entries F.nodes))

-- the blocks after one change of a path
pub blocks-becomes : (F : Filestore) (p : Path) (node : Option Node) → blocks (changed F (Becomes p node)) + weight (node_at F p) ≡ blocks F + weight node
unfolding blocks
blocks-becomes F p node =
    let w : weights (entries (changed F (Becomes p node)).nodes) + weight (node_at F p) ≡ weights (entries F.nodes) + weight node = weights-becomes F p node in
    let same : (changed F (Becomes p node)).staged ≡ F.staged = refl in
    omega arith

-- and of a slot
pub blocks-stages : (F : Filestore) (slot : ℕ) (octets : List ℕ) → slot < length F.staged → blocks (changed F (Stages slot octets))
    + blocks_of (length (staged_in F slot)) ≡ blocks F + blocks_of (length octets)
unfolding blocks
blocks-stages F slot octets h =
    let w = sum_by-set (λ (octets : List ℕ). blocks_of (length octets)) F.staged slot octets [] h in
    omega (arith, w)
