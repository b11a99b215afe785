-- What is walked over is what is there, each node once, in path order.
--     Contains-flat_map, All-flat_map, AllPairs-append, AllPairs-flat_map     lists made of lists
--     Before                        a node whose path is less
--     walk_own, walk_all, walk_rising    what is walked over from a node
--     walks_own, walks_all, walks_rising from the entries of a directory or the root
--     nodes_from, nodes_rising      of a node or the root
--     some_node                     whatever is the node
use Rattle.std.proofs.Common.{◌≡◌, ◌≢◌, ℕ, zero, suc, ◌+◌, ◌-◌, ◌<◌, true, List, [], ◌∷◌, ◌++◌, length, length-append, take, drop, get_or, Option, Some, None, refl, sym, ap, ◌∙◌, subst, inl, inr, arith}
use Rattle.std.proofs.lemmas.Bool.{cases_lt}
use Rattle.std.proofs.lemmas.List.{append-nil, append_assoc, take_at, take_all, take_more, take-append-drop}
use Rattle.std.proofs.lemmas.List.Elements.{All-append, All-cons, All-nil, All-head, All-tail, All-weaker, Contains-append_left, Contains-append_right}
use Rattle.std.proofs.lemmas.List.Kept.{AllPairs-cons}
use Rattle.std.specs.List.{flat_map}
use Rattle.std.specs.Ordering.{ordering_then}
use Rattle.std.specs.Prelude.{All, AllPairs, Contains}
use Rattle.std.specs.declared.cmp.Ordering.TheVariants.{Less}
use Rattle.std.proofs.lemmas.Option.{none-some, same_Some}
use Rattle.cfdp_arena.specs.Arena.{Blocks}
use Rattle.cfdp_paths.specs.Paths.{Path, path_cmp, is_at_or_below}
use Rattle.cfdp_paths.proofs.Below.{append_from_at_or_below, at_or_below_from_append, at_or_below-itself, at_or_below-trans, length-at_or_below, Contains-cons}
use Rattle.cfdp_paths.proofs.InOrder.{less_itself}
use Rattle.cfdp_tree.specs.declared.orders.Orders.{Orders}
use Rattle.cfdp_tree.specs.code.Tree.{IsNode, name_at, home, path_of_node, IsTree}
use Rattle.cfdp_tree.specs.code.Directories.{path_at}
use Rattle.cfdp_tree.specs.code.Entries.{IsMember}
use Rattle.cfdp_tree.specs.code.Orders.{in_order, Rises, IsInOrders}
use Rattle.cfdp_tree.specs.code.Walk.{walk, walks, walk_from}
use Rattle.cfdp_tree.specs.code.NodesBelow.{IsUnder, IsDeeper, AreNodesBelow}
use Rattle.cfdp_tree.proofs.OfIndex.IndexLaws.{has_first}
use Rattle.cfdp_tree.proofs.OfNodes.TreeLaws.{same_node}
use Rattle.cfdp_tree.proofs.OfNodes.ClimbLaws.{path_by_home, entry_at, beginning}
use Rattle.cfdp_tree.proofs.OfWalks.WalkLaws.{few_names}
use Rattle.cfdp_paths.proofs.Moving.{path_cmp-append}

module _ {X Y : Type 0} (f : X → List Y) where
  pub Contains-flat_map : (xs : List X) (x : X) (y : Y) → Contains xs x → Contains (f x) y → Contains (flat_map f xs) y
  Contains-flat_map [] x y has inside = absurd (omega (arith, has.1))
  Contains-flat_map (z ∷ xs) x y has inside = at_index has.0 has.1 has.2 (λ k within e. Contains-flat_map xs x y (k, within, e) inside)
    where
      at_index : (k : ℕ) → k < length (z ∷ xs) → get_or (z ∷ xs) k x ≡ x → ((k : ℕ) → k < length xs → get_or xs k x ≡ x → Contains (flat_map f xs) y) →
          Contains (f z ++ flat_map f xs) y
      at_index zero within e rest = Contains-append_left (f z) (flat_map f xs) y (subst (λ w. Contains (f w) y) (sym e) inside)
      at_index (suc k) within e rest = Contains-append_right (f z) (flat_map f xs) y (rest k (omega arith) e)

  pub All-flat_map : (P : Y → Type 0) (xs : List X) → All (λ x. All P (f x)) xs → All P (flat_map f xs)
  All-flat_map P [] all = All-nil P
  All-flat_map P (x ∷ xs) all = All-append P (f x) (flat_map f xs) (All-head (λ x. All P (f x)) x xs all)
      (All-flat_map P xs (All-tail (λ x. All P (f x)) x xs all))

module _ {X : Type 0} (R : X → X → Type 0) where
  pairs_tail : (x : X) (xs : List X) → AllPairs R (x ∷ xs) → AllPairs R xs
  pairs_tail x xs pairs i j d less within = pairs (suc i) (suc j) d (omega arith) (omega arith)

  pairs_head : (x : X) (xs : List X) → AllPairs R (x ∷ xs) → All (R x) xs
  pairs_head x xs pairs k d within = pairs 0 (suc k) d (omega arith) (omega arith)

  pub AllPairs-append : (xs ys : List X) → AllPairs R xs → AllPairs R ys → All (λ x. All (R x) ys) xs → AllPairs R (xs ++ ys)
  AllPairs-append [] ys first second across = second
  AllPairs-append (x ∷ xs) ys first second across =
      AllPairs-cons R x (xs ++ ys) (All-append (R x) xs ys (pairs_head x xs first) (All-head (λ x. All (R x) ys) x xs across))
      (AllPairs-append xs ys (pairs_tail x xs first) second (All-tail (λ x. All (R x) ys) x xs across))

  pub AllPairs-flat_map : {Y : Type 0} (f : Y → List X) (ys : List Y) → All (λ y. AllPairs R (f y)) ys → AllPairs (λ y z. All (λ a. All (R a) (f z)) (f y)) ys →
      AllPairs R (flat_map f ys)
  AllPairs-flat_map f [] own across = (λ i j d less within. absurd (omega (arith, within)))
  AllPairs-flat_map f (y ∷ ys) own across =
      AllPairs-append (f y) (flat_map f ys) (All-head (λ y. AllPairs R (f y)) y ys own)
      (AllPairs-flat_map f ys (All-tail (λ y. AllPairs R (f y)) y ys own) (λ i j d less within. across (suc i) (suc j) d (omega arith) (omega arith)))
      (λ k d within. All-flat_map f (R (get_or (f y) k d)) ys (λ i e inside. across 0 (suc i) e (omega arith) (omega arith) k d within))

module _ (nodes : Blocks) (tree : IsTree nodes) (orders : Orders) (ordered : IsInOrders nodes orders None) where
  -- the path of an entry of a directory or the root
  member_path : (directory : Option ℕ) (e : ℕ) → IsNode nodes e → home nodes e ≡ directory → path_of_node nodes e ≡ path_at nodes directory ++ name_at nodes e
      ∷ []
  member_path directory e node there = path_by_home nodes tree e node ∙ ap (λ x. path_at nodes x ++ name_at nodes e ∷ []) there

  member_length : (directory : Option ℕ) (e : ℕ) → IsNode nodes e → home nodes e ≡ directory → length (path_of_node nodes e) ≡ length (path_at nodes directory)
      + 1
  member_length directory e node there = omega (
    arith,
    ap length (member_path directory e node there),
    length-append (path_at nodes directory)
        (name_at nodes e ∷ []),
  )

  -- what is walked over from the entries of a directory or the root
  deeper : (directory : Option ℕ) (e : ℕ) → IsNode nodes e → home nodes e ≡ directory → (c : ℕ) → IsUnder nodes (path_of_node nodes e) c →
      IsDeeper nodes (path_at nodes directory) c
  deeper directory e node there c under = record {
    under = record {
      node = under.node;
      below = at_or_below-trans (path_of_node nodes c) (path_of_node nodes e) (path_at nodes directory) under.below
          (at_or_below_from_append (path_of_node nodes e) (path_at nodes directory) (name_at nodes e ∷ []) (member_path directory e node there));
    };
    longer = omega (arith, member_length directory e node there, length-at_or_below (path_of_node nodes c) (path_of_node nodes e) under.below);
  }

  pub walks_own : (n : ℕ) → ((b : ℕ) → IsNode nodes b → All (IsUnder nodes (path_of_node nodes b)) (walk orders n b))
      → (directory : Option ℕ) (list : List ℕ) → All (IsMember nodes None directory) list → All (IsDeeper nodes (path_at nodes directory)) (walks orders n list)
  walks_own n below directory list members =
      All-flat_map (walk orders n) (IsDeeper nodes (path_at nodes directory)) list
      (All-weaker (IsMember nodes None directory) (λ e. All (IsDeeper nodes (path_at nodes directory)) (walk orders n e)) (λ e member.
      All-weaker (IsUnder nodes (path_of_node nodes e)) (IsDeeper nodes (path_at nodes directory)) (deeper directory e member.node member.there)
      (walk orders n e)
      (below e member.node)) list members)

  pub walks_all : (n : ℕ) → ((b c : ℕ) → IsNode nodes b → IsUnder nodes (path_of_node nodes b) c → length (path_of_node nodes c) < length (path_of_node nodes b)
      + n →
      Contains (walk orders n b) c)
      → (directory : Option ℕ) → ((d : ℕ) → directory ≡ Some d → IsNode nodes d) → (list : List ℕ) →
      ((e : ℕ) → IsNode nodes e → home nodes e ≡ directory → Contains list e)
      → (c : ℕ) → IsDeeper nodes (path_at nodes directory) c → length (path_of_node nodes c) < length (path_at nodes directory) + suc n → Contains
      (walks orders n list) c
  walks_all n below directory exists list has c deep short =
      let p = path_at nodes directory in
      let q = path_of_node nodes c in
      let whole = append_from_at_or_below q p deep.under.below in
      let front : take (length p) q ≡ p = ap (take (length p)) whole ∙ take_at p (drop (length p) q) (length p) refl in
      let entry = beginning nodes tree c (length p + 1) deep.under.node (omega arith) (omega (arith, deep.longer)) in
      let way : path_of_node nodes entry.0 ≡ p ++ get_or q (length p) [] ∷ [] = entry.2 ∙ take_more q (length p) [] deep.longer
      ∙ ap (λ x. x ++ get_or q (length p) [] ∷ []) front in
      let at = entry_at nodes tree directory p (get_or q (length p) []) entry.0 (record { node = exists; path = refl }) entry.1 way in
      let under : is_at_or_below q (path_of_node nodes entry.0) ≡ true = at_or_below_from_append q (path_of_node nodes entry.0) (drop (length p + 1) q)
      (sym (take-append-drop (length p + 1) q) ∙ ap (λ x. x ++ drop (length p + 1) q) (sym entry.2)) in
      Contains-flat_map (walk orders n) list entry.0 c (has entry.0 entry.1 at.there)
      (below entry.0 c entry.1 (record { node = deep.under.node; below = under }) (omega (arith, short, member_length directory entry.0 entry.1 at.there)))

  -- of two entries of one directory all that is at the one or below it comes before all that is so at the other
  abbrev pub Before : ℕ → ℕ → Type 0
  Before b c = path_cmp (path_of_node nodes b) (path_of_node nodes c) ≡ Less

  under_way : (directory : Option ℕ) (x : ℕ) → IsMember nodes None directory x → (a : ℕ) → IsUnder nodes (path_of_node nodes x) a → (s : Path)
      × (path_of_node nodes a ≡ path_at nodes directory ++ name_at nodes x ∷ s)
  under_way directory x member a under =
      let s = drop (length (path_of_node nodes x)) (path_of_node nodes a) in (
        s,
        append_from_at_or_below (path_of_node nodes a) (path_of_node nodes x) under.below ∙ ap (λ p. p ++ s) (member_path directory x member.node member.there)
            ∙ append_assoc (path_at nodes directory) (name_at nodes x ∷ []) s,
      )

  across : (directory : Option ℕ) (x y : ℕ) → IsMember nodes None directory x → IsMember nodes None directory y → Rises nodes x y → (a b : ℕ) →
      IsUnder nodes (path_of_node nodes x) a → IsUnder nodes (path_of_node nodes y) b → Before a b
  across directory x y first second less a b under also =
      let p = path_at nodes directory in let one = under_way directory x first a under in let two = under_way directory y second b also in
      (λ k. path_cmp (one.1 k) (two.1 k)) ∙ path_cmp-append p (name_at nodes x ∷ one.0) (name_at nodes y ∷ two.0)
      ∙ ap (λ o. ordering_then o (path_cmp one.0 two.0)) less

  pub walks_rising : (n : ℕ) → ((b : ℕ) → IsNode nodes b → All (IsUnder nodes (path_of_node nodes b)) (walk orders n b)) →
      ((b : ℕ) → IsNode nodes b → AllPairs Before (walk orders n b))
      → (directory : Option ℕ) → AllPairs Before (walks orders n (in_order orders directory))
  walks_rising n below own directory =
      let list = in_order orders directory in let members = ordered.own directory in
      AllPairs-flat_map Before (walk orders n) list
      (All-weaker (IsMember nodes None directory) (λ e. AllPairs Before (walk orders n e)) (λ e member. own e member.node) list members)
      (λ i j d less within k a inside l b within'.
      (let first = members i d (omega (arith, less, within)) in let second = members j d within in
      across directory (get_or list i d) (get_or list j d) first second (ordered.rising directory i j d less within)
      (get_or (walk orders n (get_or list i d)) k a) (get_or (walk orders n (get_or list j d)) l b)
      (below (get_or list i d) first.node k a inside) (below (get_or list j d) second.node l b within')))

  -- a node comes before all that is below it
  some_names : (a q : Path) → length a < length (a ++ q) → path_cmp [] q ≡ Less
  some_names a [] longer = absurd (omega (arith, longer, length-append a []))
  some_names a (m ∷ q) longer = refl

  before_deeper : (b c : ℕ) → IsDeeper nodes (path_of_node nodes b) c → Before b c
  before_deeper b c deep =
      let p = path_of_node nodes b in let q = drop (length p) (path_of_node nodes c) in
      let whole = append_from_at_or_below (path_of_node nodes c) p deep.under.below in
      (λ k. path_cmp (sym (append-nil p) k) (whole k)) ∙ path_cmp-append p [] q ∙ some_names p q (omega (arith, deep.longer, ap length whole))

  entries_has : (b e : ℕ) → IsNode nodes e → home nodes e ≡ Some b → Contains (in_order orders (Some b)) e
  entries_has b e node there = subst (λ x. Contains (in_order orders x) e) there (ordered.all e node (none-some e))

  -- what is walked over from a node
  pub walk_own : (n b : ℕ) → IsNode nodes b → All (IsUnder nodes (path_of_node nodes b)) (walk orders n b)
  walk_own zero b node = All-nil (IsUnder nodes (path_of_node nodes b))
  walk_own (suc n) b node =
      All-cons (IsUnder nodes (path_of_node nodes b)) b (walks orders n (in_order orders (Some b)))
      (record { node = node; below = at_or_below-itself (path_of_node nodes b) })
      (All-weaker (IsDeeper nodes (path_of_node nodes b)) (IsUnder nodes (path_of_node nodes b)) (λ c deep. deep.under)
      (walks orders n (in_order orders (Some b)))
      (walks_own n (walk_own n) (Some b) (in_order orders (Some b)) (ordered.own (Some b))))

  pub walk_all : (n b c : ℕ) → IsNode nodes b → IsUnder nodes (path_of_node nodes b) c → length (path_of_node nodes c) < length (path_of_node nodes b) + n →
      Contains (walk orders n b) c
  walk_all zero b c node under short = absurd (omega (arith, short, length-at_or_below (path_of_node nodes c) (path_of_node nodes b) under.below))
  walk_all (suc n) b c node under short = elim (cases_lt (length (path_of_node nodes b)) (length (path_of_node nodes c))) [
    | inl longer ↦ Contains-cons (walks orders n (in_order orders (Some b))) b c
        (walks_all n (walk_all n) (Some b) (λ d is. subst (IsNode nodes) (same_Some _ _ is) node) (in_order orders (Some b)) (entries_has b) c
        (record { under = under; longer = longer }) short)
    | inr past ↦ (let whole = append_from_at_or_below (path_of_node nodes c) (path_of_node nodes b) under.below in
        let front = ap (take (length (path_of_node nodes b))) whole ∙ take_at (path_of_node nodes b)
        (drop (length (path_of_node nodes b)) (path_of_node nodes c))
        (length (path_of_node nodes b)) refl in
        subst (Contains (walk orders (suc n) b)) (same_node nodes tree b c node under.node (sym front
        ∙ take_all (length (path_of_node nodes b)) (path_of_node nodes c) past)) (has_first b (walks orders n (in_order orders (Some b)))))
  ]

  pub walk_rising : (n b : ℕ) → IsNode nodes b → AllPairs Before (walk orders n b)
  walk_rising zero b node = (λ i j d less within. absurd (omega (arith, within)))
  walk_rising (suc n) b node =
      AllPairs-cons Before b (walks orders n (in_order orders (Some b)))
      (All-weaker (IsDeeper nodes (path_of_node nodes b)) (Before b) (λ c deep. before_deeper b c deep) (walks orders n (in_order orders (Some b)))
      (walks_own n (walk_own n) (Some b) (in_order orders (Some b)) (ordered.own (Some b))))
      (walks_rising n (walk_own n) (walk_rising n) (Some b))

  once : (list : List ℕ) → AllPairs Before list → AllPairs (λ x y. x ≢ y) list
  once list rising i j d less within same =
      less_itself (path_of_node nodes (get_or list i d)) (ap (λ x. path_cmp (path_of_node nodes (get_or list i d)) (path_of_node nodes x)) same
      ∙ rising i j d less within)

  -- all that is at a node or the root and below it
  pub nodes_rising : (directory : Option ℕ) (depth : ℕ) → ((d : ℕ) → directory ≡ Some d → IsNode nodes d) → AllPairs Before (walk_from orders depth directory)
  nodes_rising None depth node = walks_rising (8 - depth) (walk_own (8 - depth)) (walk_rising (8 - depth)) None
  nodes_rising (Some b) depth node = walk_rising (suc (8 - depth)) b (node b refl)

  pub nodes_from : (directory : Option ℕ) (depth : ℕ) → ((d : ℕ) → directory ≡ Some d → IsNode nodes d) → length (path_at nodes directory) ≡ depth →
      AreNodesBelow nodes (path_at nodes directory) (walk_from orders depth directory)
  nodes_from (Some b) depth node long = record {
    own = walk_own (suc (8 - depth)) b (node b refl);
    all = (λ c under. walk_all (suc (8 - depth)) b c (node b refl) under (omega (arith, long, few_names nodes b, few_names nodes c)));
    once = once (walk orders (suc (8 - depth)) b) (walk_rising (suc (8 - depth)) b (node b refl));
  }
  nodes_from None depth node long = record {
    own = All-weaker (IsDeeper nodes []) (IsUnder nodes []) (λ c deep. deep.under) (walks orders (8 - depth) (in_order orders None))
        (walks_own (8 - depth) (walk_own (8 - depth)) None (in_order orders None) (ordered.own None));
    all = (λ c under. walks_all (8 - depth) (walk_all (8 - depth)) None (λ d e. absurd (none-some d e)) (in_order orders None)
        (λ e node there. subst (λ x. Contains (in_order orders x) e) there (ordered.all e node (none-some e))) c
        (record { under = under; longer = named c under.node }) (omega (arith, long, few_names nodes c)));
    once = once (walks orders (8 - depth) (in_order orders None)) (walks_rising (8 - depth) (walk_own (8 - depth)) (walk_rising (8 - depth)) None);
  }
    where
      named : (c : ℕ) → IsNode nodes c → 0 < length (path_of_node nodes c)
      named c node = omega (arith, ap length (path_by_home nodes tree c node), length-append (path_at nodes (home nodes c)) (name_at nodes c ∷ []))

-- what holds of a node holds of whatever is that node
pub some_node : (P : ℕ → Type 0) (b : ℕ) → P b → (d : ℕ) → Some b ≡ Some d → P d
some_node P b has d e = subst P (same_Some b d e) has
