-- Balanced trees of nodes.
--     nodes_are                  the nodes of a tree
--     no_nodes, none_is          a tree of no levels
--     forked                     a tree of a node and of two trees
--     parts                      the parts of a tree of some levels
--     opened, opened_at          the same, by the orders that were read
--     stays, stays_apart         a tree stays while the links of its nodes do
--     joined_is, joined_nodes    two trees and a node between them, whose links lead to the trees
use Rattle.std.proofs.Common.{◌≡◌, ℕ, zero, suc, ◌+◌, ◌<◌, ◌≤◌, ◌==◌, max, cond, true, false, List, [], ◌∷◌, ◌++◌, length, refl, sym, ap, ◌∙◌, subst, arith, set, length-set}
use Rattle.std.proofs.lemmas.List.{get_or-set_same, get_or-set_other}
use Rattle.std.proofs.lemmas.Bool.{eq-eqb, eqb-true}
use Rattle.cfdp_order.specs.declared.links.Links.{Links}
use Rattle.cfdp_order.specs.declared.links.Order.{Order}
use Rattle.cfdp_order.specs.Orders.{no_links, links_at, left_of, right_of, AreNear, IsOrderTree, leaf, fork, nodes_within, nodes, times_in, IsOrder, OtherLinksStay}
use Rattle.cfdp_order.specs.code.Orders.{CanJoin}
use Rattle.cfdp_order.proofs.Counts.{one, one_self, times_middle}

if_none : {A : Type 0} (n : ℕ) (x y : A) → n ≡ 0 → cond (n == 0) x y ≡ x
if_none n x y e = ap (λ b. cond b x y) (eq-eqb n 0 e)

if_some : {A : Type 0} (n : ℕ) (x y : A) → 0 < n → cond (n == 0) x y ≡ y
if_some n x y some = go (n == 0) refl
  where
    go : (b : _) → (n == 0) ≡ b → cond b x y ≡ y
    go true e = absurd (let z = eqb-true n 0 e in omega arith)
    go false e = refl

within_are : {links : List Links} {order : Order} {list : List ℕ} → IsOrderTree links order list → (n : ℕ) → order.height ≤ n → nodes_within links n order
    ≡ list
within_are (leaf none) zero few = refl
within_are {links} {order} (leaf none) (suc n) few = if_none order.height _ _ none
within_are (fork within left right near high) zero few = absurd (omega arith)
within_are {links} {order} (fork {before = before} {after = after} within left right near high) (suc n) few =
    let w = links_at links order.root in
    let e = within_are left n (omega arith) in
    let f = within_are right n (omega arith) in
    if_some order.height _ _ (omega arith) ∙ (λ i. e i ++ order.root ∷ f i)

pub nodes_are : {links : List Links} {order : Order} {list : List ℕ} → IsOrderTree links order list → nodes links order ≡ list
unfolding nodes
nodes_are {order = order} tree = within_are tree order.height (omega arith)

pub no_nodes : (links : List Links) (order : Order) → order.height ≡ 0 → nodes links order ≡ []
no_nodes links order none = nodes_are (leaf none)

pub forked : (links : List Links) (order : Order) (around : Links) (before after : List ℕ) → order.root < length links → links_at links order.root ≡ around
    → IsOrderTree links (left_of around) before → IsOrderTree links (right_of around) after → AreNear around.left_height around.right_height
    → order.height ≡ max around.left_height around.right_height + 1 → IsOrderTree links order (before ++ order.root ∷ after)
forked links order around before after within is left right near high =
    let e = sym is in
    fork within (subst (λ (w : Links). IsOrderTree links (left_of w) before) e left) (subst (λ (w : Links). IsOrderTree links (right_of w) after) e right)
    (subst (λ (w : Links). AreNear w.left_height w.right_height) e near) (subst (λ (w : Links). order.height ≡ max w.left_height w.right_height + 1) e high)

-- the parts of a tree of some levels
record Split (links : List Links) (order : Order) (list : List ℕ) : Type 0 where
  before : List ℕ
  after : List ℕ
  within : order.root < length links
  left : IsOrderTree links (left_of (links_at links order.root)) before
  right : IsOrderTree links (right_of (links_at links order.root)) after
  near : AreNear (links_at links order.root).left_height (links_at links order.root).right_height
  high : order.height ≡ max (links_at links order.root).left_height (links_at links order.root).right_height + 1
  listed : list ≡ before ++ order.root ∷ after

split : {links : List Links} {order : Order} {list : List ℕ} → IsOrderTree links order list → 0 < order.height → Split links order list
split (leaf none) some = absurd (omega arith)
split (fork {before = before} {after = after} within left right near high) some =
    record { before = before; after = after; within = within; left = left; right = right; near = near; high = high; listed = refl }

pub record Parts (links : List Links) (order : Order) : Type 0 where
  pub within : order.root < length links
  pub left : IsOrder links (left_of (links_at links order.root))
  pub right : IsOrder links (right_of (links_at links order.root))
  pub near : AreNear (links_at links order.root).left_height (links_at links order.root).right_height
  pub high : order.height ≡ max (links_at links order.root).left_height (links_at links order.root).right_height + 1
  pub listed : nodes links order ≡ nodes links (left_of (links_at links order.root)) ++ order.root ∷ nodes links (right_of (links_at links order.root))

-- a tree with each node once
order_of : {links : List Links} {order : Order} {list : List ℕ} → IsOrderTree links order list → ((n : ℕ) → times_in n list ≤ 1) → IsOrder links order
order_of {links} {order} tree once = let e = sym (nodes_are tree) in record {
  tree = subst (IsOrderTree links order) e tree;
  once = (λ n. subst (λ l. times_in n l ≤ 1) e (once n));
}

pub none_is : (links : List Links) (order : Order) → order.height ≡ 0 → IsOrder links order
none_is links order none = order_of (leaf none) (λ n. omega arith)

pub parts : (links : List Links) (order : Order) → IsOrder links order → 0 < order.height → Parts links order
parts links order is some =
    let s = split is.tree some in
    let w = links_at links order.root in
    let once : (n : ℕ) → times_in n s.before + (one order.root n + times_in n s.after) ≤ 1 =
    λ n. subst (λ m. m ≤ 1) (ap (times_in n) s.listed ∙ times_middle n s.before order.root s.after) (is.once n) in
    record {
      within = s.within;
      left = order_of s.left (λ n. omega (arith, once n));
      right = order_of s.right (λ n. omega (arith, once n));
      near = s.near;
      high = s.high;
      listed = s.listed ∙ (λ i. sym (nodes_are s.left) i ++ order.root ∷ sym (nodes_are s.right) i);
    }

tree_stays : {old : List Links} (new : List Links) → length new ≡ length old → {order : Order} {list : List ℕ} → IsOrderTree old order list
    → ((n : ℕ) → 1 ≤ times_in n list → links_at new n ≡ links_at old n) → IsOrderTree new order list
tree_stays new long (leaf none) same = leaf none
tree_stays {old} new long {order = order} (fork {before = before} {after = after} within left right near high) same =
    let w = links_at old order.root in
    let here : 1 ≤ times_in order.root (before ++ order.root ∷ after) = omega (arith, times_middle order.root before order.root after, one_self order.root) in
    forked new order w before after (omega (arith, within, long)) (same order.root here)
    (tree_stays new long left (λ n in'. same n (omega (arith, times_middle n before order.root after, in'))))
    (tree_stays new long right (λ n in'. same n (omega (arith, times_middle n before order.root after, in'))))
    near high

pub record Stays (old new : List Links) (order : Order) : Type 0 where
  pub is : IsOrder new order
  pub listed : nodes new order ≡ nodes old order

pub stays : (old new : List Links) (order : Order) → IsOrder old order → length new ≡ length old
    → ((n : ℕ) → 1 ≤ times_in n (nodes old order) → links_at new n ≡ links_at old n) → Stays old new order
stays old new order is long same =
    let tree = tree_stays new long is.tree same in
    record { is = order_of tree is.once; listed = nodes_are tree }

pub stays_apart : (old new : List Links) (order : Order) (list : List ℕ) → IsOrder old order → OtherLinksStay old new list
    → ((n : ℕ) → times_in n (nodes old order) + times_in n list ≤ 1) → Stays old new order
stays_apart old new order list is others apart = stays old new order is others.long (λ n some. others.same n (omega (arith, some, apart n)))

-- a node's links are written, and lead to two trees
module _ (links : List Links) (left : Order) (node : ℕ) (right : Order) (around : Links) (can : CanJoin links left node right) (to_left : left_of around ≡ left)
    (to_right : right_of around ≡ right)
    (near : AreNear left.height right.height) (height : ℕ) (high : height ≡ max left.height right.height + 1) where
  written : List Links
  written = set links node around

  long : length written ≡ length links
  unfolding written
  long = length-set links node around

  others : OtherLinksStay links written (node ∷ [])
  unfolding written
  others = record {
    long = length-set links node around;
    same = (λ n none. get_or-set_other links node n around no_links (λ e. absurd (let here = subst (λ k. one node k ≡ 1) (sym e) (one_self node) in
        omega arith)));
  }

  apart : (n : ℕ) → times_in n (nodes links left) + (one node n + times_in n (nodes links right)) ≤ 1
  apart n = subst (λ m. m ≤ 1) (times_middle n (nodes links left) node (nodes links right)) (can.once n)

  left_stays : Stays links written left
  left_stays = stays_apart links written left (node ∷ []) can.before others (λ n. omega (arith, apart n))

  right_stays : Stays links written right
  right_stays = stays_apart links written right (node ∷ []) can.after others (λ n. omega (arith, apart n))

  top : Order
  top = record { root = node; height = height }

  tree : IsOrderTree written top (nodes links left ++ node ∷ nodes links right)
  unfolding top
  tree =
      let here : links_at written node ≡ around = unfold written in get_or-set_same links node around no_links can.within in
      forked written (record { root = node; height = height }) around (nodes links left) (nodes links right) (omega (arith, can.within, long)) here
      (subst (λ (o : Order). IsOrderTree written o (nodes links left)) (sym to_left) (subst (IsOrderTree written left) left_stays.listed left_stays.is.tree))
      (subst (λ (o : Order). IsOrderTree written o (nodes links right)) (sym to_right)
      (subst (IsOrderTree written right) right_stays.listed right_stays.is.tree))
      (subst (λ (o : Order). AreNear o.height (right_of around).height) (sym to_left) (subst (λ (o : Order). AreNear left.height o.height) (sym to_right) near))
      (high ∙ (λ i. max ((sym to_left i).height) ((sym to_right i).height) + 1))

  pub joined_is : IsOrder (set links node around) (record { root = node; height = height })
  unfolding written top
  joined_is = order_of tree can.once

  pub joined_nodes : nodes (set links node around) (record { root = node; height = height }) ≡ nodes links left ++ node ∷ nodes links right
  unfolding written top
  joined_nodes = nodes_are tree

-- the parts of an order of some levels, by the orders to the left and to the right of its top
pub record Opened (links : List Links) (order a b : Order) : Type 0 where
  pub within : order.root < length links
  pub is_a : IsOrder links a
  pub is_b : IsOrder links b
  pub near : AreNear a.height b.height
  pub high : order.height ≡ max a.height b.height + 1
  pub listed : nodes links order ≡ nodes links a ++ order.root ∷ nodes links b

pub opened : {links : List Links} {order : Order} → IsOrder links order → 0 < order.height → {n : ℕ} → n ≡ order.root → {a b : Order}
    → a ≡ left_of (links_at links n) → b ≡ right_of (links_at links n) → Opened links order a b
opened {links} {order} is some n_is {a} {b} a_is b_is =
    let p = parts links order is some in let around = links_at links order.root in
    let left : left_of around ≡ a = sym (a_is ∙ ap (λ k. left_of (links_at links k)) n_is) in
    let right : right_of around ≡ b = sym (b_is ∙ ap (λ k. right_of (links_at links k)) n_is) in
    record {
      within = p.within;
      is_a = subst (IsOrder links) left p.left;
      is_b = subst (IsOrder links) right p.right;
      near = subst (λ (o : Order). AreNear o.height b.height) left (subst (λ (o : Order). AreNear around.left_height o.height) right p.near);
      high = p.high ∙ (λ i. max ((left i).height) ((right i).height) + 1);
      listed = p.listed ∙ (λ i. nodes links (left i) ++ order.root ∷ nodes links (right i));
    }

-- the same where its links alone were read
pub opened_at : {links : List Links} {order : Order} → IsOrder links order → 0 < order.height → {n : ℕ} → n ≡ order.root →
    Opened links order (left_of (links_at links n)) (right_of (links_at links n))
opened_at is some n_is = opened is some n_is refl refl
