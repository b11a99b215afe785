-- Walks over what is below a directory or the root.
--     longest-append                of nodes together
--     few_names, names_few      a path has no more than 8 names, nor has the longest of some
--     deep_parts                of an order, a node and those before and after it
--     longest_parts, walks_parts    the longest path, and a walk, in these parts
--     directory_deep            the entries of a directory have a name more
--     Parts, parts              an order that is not empty, with the orders of its parts
--     falls_below               how far a walk has to go yet
--     no_walk                   of an empty order nothing is walked over
--     filled, read_parts, read_around, read_below, top_inside    the same by what a walk reads
--     directory_few             the path of a directory has 8 names at most
--     some_begun, none_begun, one_deeper    where a walk from a directory or the root begins
use Rattle.std.proofs.Common.{◌≡◌, ℕ, zero, suc, ◌+◌, ◌≤◌, max, ◌-◌, ◌*◌, ◌<◌, List, [], ◌∷◌, ◌++◌, length, length-append, get_or, Bool, true, false, inl, inr, Option, Some, None, refl, sym, ap, ◌∙◌, subst, arith}
use Rattle.std.proofs.Math.Nat.{zero-max}
use Rattle.std.proofs.lemmas.Grind.{flat_map-append}
use Rattle.std.proofs.lemmas.Bool.{both_ways, cases_eq}
use Rattle.std.proofs.lemmas.List.{append_assoc, get_or_default, length-map}
use Rattle.std.proofs.lemmas.List.Elements.{All-weaker}
use Rattle.std.specs.Option.{option_map_or}
use Rattle.cfdp_arena.specs.Arena.{Blocks}
use Rattle.cfdp_arena.proofs.Chains.{live_within}
use Rattle.cfdp_order.specs.declared.links.Links.{Links}
use Rattle.cfdp_order.specs.declared.links.Order.{Order}
use Rattle.cfdp_order.specs.Orders.{no_links, links_at, left_of, right_of, IsOrder}
use Rattle.cfdp_order.specs.Orders.{nodes as nodes_of}
use Rattle.cfdp_order.proofs.TreeLaws.{opened, opened_at, no_nodes}
use Rattle.cfdp_order.proofs.HeightLaws.{low}
use Rattle.cfdp_order.proofs.SplitLaws.{All_left, All_at, All_right}
use Rattle.cfdp_tree.specs.declared.orders.Orders.{Orders}
use Rattle.cfdp_tree.specs.code.Nodes.{only_node, nodes_in}
use Rattle.cfdp_tree.specs.code.Tree.{name_at, home, climb, path_of_node, IsTree}
use Rattle.cfdp_tree.specs.code.Directories.{path_at}
use Rattle.cfdp_tree.specs.code.Entries.{IsMember}
use Rattle.cfdp_tree.specs.code.Orders.{no_order, order_at, in_order, IsInOrders}
use Rattle.cfdp_tree.specs.code.Walk.{walk, walks, walks_at, walk_from, most_names_in, IsAtDepth, AreAtDepth}
use Rattle.cfdp_tree.proofs.OfNodes.ClimbLaws.{most_is, path_by_home}
use Rattle.cfdp_actions.proofs.RowLaws.{max_three}

pub longest-append : (nodes : Blocks) (xs ys : List ℕ) → most_names_in nodes (xs ++ ys) ≡ max (most_names_in nodes xs) (most_names_in nodes ys)
longest-append nodes [] ys = sym (zero-max (most_names_in nodes ys))
longest-append nodes (x ∷ xs) ys = ap (max (length (path_of_node nodes x))) (longest-append nodes xs ys)
    ∙ max_three (length (path_of_node nodes x)) (most_names_in nodes xs) (most_names_in nodes ys)

climb_few : (nodes : Blocks) (n b : ℕ) → length (climb nodes n b) ≤ n
climb_few nodes zero b = omega arith
climb_few nodes (suc n) b = by_home (λ d. climb_few nodes n d) (home nodes b) refl
  where
    by_home : ((d : ℕ) → length (climb nodes n d) ≤ n) → (x : Option ℕ) → home nodes b ≡ x → length (climb nodes (suc n) b) ≤ suc n
    by_home few None there = omega (arith, ap (λ y. length (option_map_or (λ d. climb nodes n d) y [] ++ name_at nodes b ∷ [])) there)
    by_home few (Some d) there =
        omega (
          arith,
          ap (λ y. length (option_map_or (λ d. climb nodes n d) y [] ++ name_at nodes b ∷ [])) there,
          length-append (climb nodes n d) (name_at nodes b ∷ []),
          few d,
        )

pub few_names : (nodes : Blocks) (b : ℕ) → length (path_of_node nodes b) ≤ 8
few_names nodes b = subst (λ n. length (climb nodes n b) ≤ 8) (sym most_is) (climb_few nodes 8 b)

pub names_few : (nodes : Blocks) (list : List ℕ) → most_names_in nodes list ≤ 8
names_few nodes [] = omega arith
names_few nodes (b ∷ list) = grind (arith, few_names nodes b, names_few nodes list)

-- a node, and those before and after it
pub deep_parts : (nodes : Blocks) (depth : ℕ) (before : List ℕ) (b : ℕ) (after : List ℕ) → AreAtDepth nodes depth (before ++ b ∷ after) →
    AreAtDepth nodes depth before × IsAtDepth nodes depth b × AreAtDepth nodes depth after
deep_parts nodes depth before b after all =
    let P = IsAtDepth nodes depth in (All_left P before b after all, All_at P before b after all, All_right P before b after all)

-- a walk of one name more
walk_more : (orders : Orders) (n m b : ℕ) → n ≡ suc m → walk orders n b ≡ b ∷ walks orders m (in_order orders (Some b))
walk_more orders n m b e = ap (λ k. walk orders k b) e

max_four : (here below before after : ℕ) → max before (max (max here below) after) ≡ max (max (max here below) before) after
max_four here below before after = grind arith

pub longest_parts : (nodes : Blocks) (orders : Orders) (n m : ℕ) (before : List ℕ) (b : ℕ) (after : List ℕ) → n ≡ suc m
    → most_names_in nodes (walks orders n (before ++ b ∷ after))
    ≡ max (max (max (length (path_of_node nodes b)) (most_names_in nodes (walks orders m (in_order orders (Some b)))))
    (most_names_in nodes (walks orders n before)))
    (most_names_in nodes (walks orders n after))
longest_parts nodes orders n m before b after e =
    ap (most_names_in nodes) (flat_map-append (walk orders n) before (b ∷ after))
    ∙ longest-append nodes (walks orders n before) (walk orders n b ++ walks orders n after)
    ∙ ap (max (most_names_in nodes (walks orders n before))) (longest-append nodes (walk orders n b) (walks orders n after)
    ∙ ap (λ list. max (most_names_in nodes list) (most_names_in nodes (walks orders n after))) (walk_more orders n m b e))
    ∙ max_four (length (path_of_node nodes b)) (most_names_in nodes (walks orders m (in_order orders (Some b)))) (most_names_in nodes (walks orders n before))
    (most_names_in nodes (walks orders n after))

pub walks_parts : (orders : Orders) (n m : ℕ) (sofar before : List ℕ) (b : ℕ) (after : List ℕ) → n ≡ suc m
    → sofar ++ walks orders n (before ++ b ∷ after) ≡ (((sofar ++ walks orders n before) ++ b ∷ []) ++ walks orders m (in_order orders (Some b)))
    ++ walks orders n after
walks_parts orders n m sofar before b after e =
    let first = walks orders n before in let below = walks orders m (in_order orders (Some b)) in let last = walks orders n after in
    ap (λ list. sofar ++ list) (flat_map-append (walk orders n) before (b ∷ after))
    ∙ ap (λ list. sofar ++ (first ++ (list ++ last))) (walk_more orders n m b e)
    ∙ sym (append_assoc sofar first ((b ∷ below) ++ last))
    ∙ sym (append_assoc (sofar ++ first) (b ∷ below) last)
    ∙ ap (λ list. list ++ last) (sym (append_assoc (sofar ++ first) (b ∷ []) below))

-- a name more than the directory
pub directory_deep : (nodes : Blocks) → IsTree nodes → (orders : Orders) → IsInOrders nodes orders None → (directory : Option ℕ) (depth : ℕ) →
    length (path_at nodes directory) ≡ depth → AreAtDepth nodes (depth + 1) (in_order orders directory)
directory_deep nodes tree orders ordered directory depth long = All-weaker (IsMember nodes None directory) (IsAtDepth nodes (depth + 1)) (λ e member. record {
  node = member.node;
  names = omega (
    arith,
    long,
    ap length (path_by_home nodes tree e member.node ∙ ap (λ x. path_at nodes x ++ name_at nodes e ∷ []) member.there),
    length-append (path_at nodes directory) (name_at nodes e ∷ []),
  );
}) (in_order orders directory) (ordered.own directory)

lower_left : (l r h : ℕ) → h ≡ max l r + 1 → l < h
lower_left l r h e = grind (arith, e)

lower_right : (l r h : ℕ) → h ≡ max l r + 1 → r < h
lower_right l r h e = grind (arith, e)

-- an order that is not empty: the node at its top, and the orders of those before it, below it and after it
pub record Parts (nodes : Blocks) (orders : Orders) (order : Order) (depth : ℕ) (before below after : Order) : Type 0 where
  pub within : order.root < length orders.links.items
  pub inside : order.root < length orders.directories.items
  pub listed : nodes_of orders.links.items order ≡ nodes_of orders.links.items before ++ order.root ∷ nodes_of orders.links.items after
  pub top : IsAtDepth nodes depth order.root
  pub below_listed : nodes_of orders.links.items below ≡ in_order orders (Some order.root)
  pub is_before : IsOrder orders.links.items before
  pub is_below : IsOrder orders.links.items below
  pub is_after : IsOrder orders.links.items after
  pub deep_before : AreAtDepth nodes depth (nodes_of orders.links.items before)
  pub deep_below : AreAtDepth nodes (depth + 1) (nodes_of orders.links.items below)
  pub deep_after : AreAtDepth nodes depth (nodes_of orders.links.items after)
  pub few : depth ≤ 8
  pub low_before : before.height < order.height
  pub low_below : below.height ≤ 22
  pub low_after : after.height < order.height
  pub longest_is : most_names_in nodes (walks_at orders depth (nodes_of orders.links.items order))
      ≡ max (max (max depth (most_names_in nodes (walks_at orders (depth + 1) (nodes_of orders.links.items below))))
      (most_names_in nodes (walks_at orders depth (nodes_of orders.links.items before))))
      (most_names_in nodes (walks_at orders depth (nodes_of orders.links.items after)))
  pub walk_is : (sofar : List ℕ) → sofar ++ walks_at orders depth (nodes_of orders.links.items order)
      ≡ (((sofar ++ walks_at orders depth (nodes_of orders.links.items before)) ++ order.root ∷ [])
      ++ walks_at orders (depth + 1) (nodes_of orders.links.items below))
      ++ walks_at orders depth (nodes_of orders.links.items after)

pub parts : (nodes : Blocks) → IsTree nodes → (orders : Orders) → IsInOrders nodes orders None → length orders.links.items ≤ 65536 →
    (order : Order) (depth : ℕ) → IsOrder orders.links.items order → 0 < order.height
    → AreAtDepth nodes depth (nodes_of orders.links.items order) → (n m : ℕ) → n ≡ order.root → m ≡ order.root → (before below after : Order)
    → before ≡ left_of (links_at orders.links.items n) → below ≡ order_at orders (Some m) → after ≡ right_of (links_at orders.links.items n) →
    Parts nodes orders order depth before below after
parts nodes tree orders ordered small order depth is some deep n m n_is m_is before below after before_is below_is after_is =
    let links = orders.links.items in
    let at_top = opened is some n_is before_is after_is in
    let at = deep_parts nodes depth (nodes_of links before) order.root (nodes_of links after) (subst (AreAtDepth nodes depth) at_top.listed deep) in
    let node = at.1.node in
    let few : depth ≤ 8 = omega (arith, few_names nodes order.root, at.1.names) in
    let below_here : below ≡ order_at orders (Some order.root) = below_is ∙ ap (λ k. order_at orders (Some k)) m_is in
    let list : nodes_of links below ≡ in_order orders (Some order.root) = ap (λ (o : Order). nodes_of links o) below_here in
    let is_below : IsOrder links below = subst (λ (o : Order). IsOrder links o) (sym below_here) (ordered.order (Some order.root)) in
    let left = 9 - (depth + 1) in
    let more : 9 - depth ≡ suc left = omega (arith, few) in
    record {
      within = at_top.within;
      inside = omega (arith, live_within nodes order.root node, ordered.directories);
      listed = at_top.listed;
      top = at.1;
      below_listed = list;
      is_before = at_top.is_a;
      is_below = is_below;
      is_after = at_top.is_b;
      deep_before = at.0;
      deep_below = subst (AreAtDepth nodes (depth + 1)) (sym list) (directory_deep nodes tree orders ordered (Some order.root) depth at.1.names);
      deep_after = at.2;
      few = few;
      low_before = lower_left before.height after.height order.height at_top.high;
      low_below = low links below is_below small;
      low_after = lower_right before.height after.height order.height at_top.high;
      longest_is =
          ap (λ xs. most_names_in nodes (walks_at orders depth xs)) at_top.listed
          ∙ longest_parts nodes orders (9 - depth) left (nodes_of links before) order.root (nodes_of links after) more
          ∙ (λ k. max (max (max (at.1.names k) (most_names_in nodes (walks orders left (sym list k))))
          (most_names_in nodes (walks_at orders depth (nodes_of links before)))) (most_names_in nodes (walks_at orders depth (nodes_of links after))));
      walk_is = (λ sofar. ap (λ xs. sofar ++ walks_at orders depth xs) at_top.listed
          ∙ walks_parts orders (9 - depth) left sofar (nodes_of links before) order.root (nodes_of links after) more
          ∙ ap (λ xs. (((sofar ++ walks_at orders depth (nodes_of links before)) ++ order.root ∷ []) ++ walks orders left xs)
          ++ walks_at orders depth (nodes_of links after)) (sym list));
    }

-- how the measure falls
pub falls_below : (depth h top : ℕ) → depth ≤ 8 → h ≤ 22 → 0 < top → (9 - (depth + 1)) * 23 + h < (9 - depth) * 23 + top
falls_below depth h top few low some = omega (arith, few, low, some, ap (λ k. k * 23) (one_less depth few))
  where
    one_less : (d : ℕ) → d ≤ 8 → 9 - d ≡ suc (9 - (d + 1))
    one_less d fits = omega (arith, fits)

pub no_walk : (orders : Orders) (n : ℕ) (order : Order) → order.height ≡ 0 → walks orders n (nodes_of orders.links.items order) ≡ []
no_walk orders n order none = ap (walks orders n) (no_nodes orders.links.items order none)

-- the same by what a walk reads
pub filled : (empty : Bool) (h : ℕ) → empty ≡ false → (h ≡ 0 → empty ≡ true) → 0 < h
filled empty h full none = elim (cases_eq h 0) [
  | inl e ↦ absurd (both_ways empty full (none e))
  | inr some ↦ omega (arith, some)
]

pub read_parts : (arena : Blocks) → IsTree (nodes_in arena) → (orders : Orders) → IsInOrders (nodes_in arena) orders None → length arena ≤ 65536 →
    (order : Order) (depth : ℕ) → IsOrder orders.links.items order → 0 < order.height
    → AreAtDepth (nodes_in arena) depth (nodes_of orders.links.items order) → (n m : ℕ) → n ≡ order.root → m ≡ order.root → (around : Links) (below : Order)
    → around ≡ get_or orders.links.items n around → below ≡ get_or orders.directories.items m below →
    Parts (nodes_in arena) orders order depth (left_of around) below (right_of around)
read_parts arena tree orders ordered small order depth is some deep n m n_is m_is around below around_is below_is =
    let links = orders.links.items in
    let few : length links ≤ 65536 = omega (arith, small, ordered.links, length-map arena only_node) in
    let within : n < length links = omega (arith, n_is, (opened_at is some n_is).within) in
    let here : around ≡ links_at links n = around_is ∙ get_or_default links n around no_links within in
    let plain = parts (nodes_in arena) tree orders ordered few order depth is some deep n order.root n_is refl (left_of (links_at links n))
    (order_at orders (Some order.root)) (right_of (links_at links n)) refl refl refl in
    let inside : m < length orders.directories.items = omega (arith, m_is, plain.inside) in
    parts (nodes_in arena) tree orders ordered few order depth is some deep n m n_is m_is (left_of around) below (right_of around)
    (ap (λ (l : Links). left_of l) here) (below_is ∙ get_or_default orders.directories.items m below no_order inside) (ap (λ (l : Links). right_of l) here)

-- the same where the links alone were read
pub read_around : (arena : Blocks) → IsTree (nodes_in arena) → (orders : Orders) → IsInOrders (nodes_in arena) orders None → length arena ≤ 65536 →
    (order : Order) (depth : ℕ) → IsOrder orders.links.items order → 0 < order.height
    → AreAtDepth (nodes_in arena) depth (nodes_of orders.links.items order) → (n : ℕ) → n ≡ order.root → (around : Links)
    → around ≡ get_or orders.links.items n around →
    Parts (nodes_in arena) orders order depth (left_of around) (order_at orders (Some order.root)) (right_of around)
read_around arena tree orders ordered small order depth is some deep n n_is around around_is =
    let links = orders.links.items in
    let few : length links ≤ 65536 = omega (arith, small, ordered.links, length-map arena only_node) in
    let within : n < length links = omega (arith, n_is, (opened_at is some n_is).within) in
    let here : around ≡ links_at links n = around_is ∙ get_or_default links n around no_links within in
    parts (nodes_in arena) tree orders ordered few order depth is some deep n order.root n_is refl (left_of around) (order_at orders (Some order.root))
    (right_of around) (ap (λ (l : Links). left_of l) here) refl (ap (λ (l : Links). right_of l) here)

-- what is below a node
pub record Below (nodes : Blocks) (orders : Orders) (depth b : ℕ) (below : Order) : Type 0 where
  pub listed : nodes_of orders.links.items below ≡ in_order orders (Some b)
  pub is_below : IsOrder orders.links.items below
  pub deep_below : AreAtDepth nodes (depth + 1) (nodes_of orders.links.items below)
  pub few : depth ≤ 8

pub read_below : (nodes : Blocks) → IsTree nodes → (orders : Orders) → IsInOrders nodes orders None → (depth b : ℕ) → IsAtDepth nodes depth b →
    (m : ℕ) → m ≡ b → (below : Order) → below ≡ get_or orders.directories.items m below → Below nodes orders depth b below
read_below nodes tree orders ordered depth b deep m m_is below below_is =
    let inside : m < length orders.directories.items = omega (arith, m_is, live_within nodes b deep.node, ordered.directories) in
    let here : below ≡ order_at orders (Some b) = below_is ∙ get_or_default orders.directories.items m below no_order inside
    ∙ ap (λ k. order_at orders (Some k)) m_is in
    let list : nodes_of orders.links.items below ≡ in_order orders (Some b) = ap (λ (o : Order). nodes_of orders.links.items o) here in
    record {
      listed = list;
      is_below = subst (λ (o : Order). IsOrder orders.links.items o) (sym here) (ordered.order (Some b));
      deep_below = subst (AreAtDepth nodes (depth + 1)) (sym list) (directory_deep nodes tree orders ordered (Some b) depth deep.names);
      few = omega (arith, few_names nodes b, deep.names);
    }

pub top_inside : (arena : Blocks) → IsTree (nodes_in arena) → (orders : Orders) → IsInOrders (nodes_in arena) orders None → length arena ≤ 65536 →
    (order : Order) (depth : ℕ) → IsOrder orders.links.items order → 0 < order.height
    → AreAtDepth (nodes_in arena) depth (nodes_of orders.links.items order) → (order.root < length orders.links.items)
    × (order.root < length orders.directories.items)
top_inside arena tree orders ordered small order depth is some deep =
    let links = orders.links.items in
    let few : length links ≤ 65536 = omega (arith, small, ordered.links, length-map arena only_node) in
    let plain = parts (nodes_in arena) tree orders ordered few order depth is some deep order.root order.root refl refl (left_of (links_at links order.root))
    (order_at orders (Some order.root)) (right_of (links_at links order.root)) refl refl refl in
    (plain.within, plain.inside)

-- a path has at most 8 names
pub directory_few : (nodes : Blocks) (directory : Option ℕ) → length (path_at nodes directory) ≤ 8
directory_few nodes None = omega arith
directory_few nodes (Some d) = few_names nodes d

-- where a walk from a directory or the root begins
pub some_begun : (orders : Orders) (depth : ℕ) (directory : Option ℕ) (start : List ℕ) (b : ℕ) → directory ≡ Some b → start ≡ b ∷ [] → start
    ++ walks orders (8 - depth) (in_order orders directory) ≡ walk_from orders depth directory
some_begun orders depth directory start b e is = (λ k. is k ++ walks orders (8 - depth) (in_order orders (e k))) ∙ ap (walk_from orders depth) (sym e)

pub none_begun : (orders : Orders) (depth : ℕ) (directory : Option ℕ) (start : List ℕ) → directory ≡ None → start ≡ [] → start
    ++ walks orders (8 - depth) (in_order orders directory) ≡ walk_from orders depth directory
none_begun orders depth directory start e is = (λ k. is k ++ walks orders (8 - depth) (in_order orders (e k))) ∙ ap (walk_from orders depth) (sym e)

pub one_deeper : (orders : Orders) (depth : ℕ) (list : List ℕ) → walks_at orders (depth + 1) list ≡ walks orders (8 - depth) list
one_deeper orders depth list = let same : 9 - (depth + 1) ≡ 8 - depth = omega arith in ap (λ n. walks orders n list) same
