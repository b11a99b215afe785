-- An order from one of whose parts a node was removed.
--     Shrunk                         what `remove` does, but for the rest of the nodes
--     shrunk_right, shrunk_left      a node removed to the right or to the left of the top
--     rest_right, rest_left          the rest of the nodes
--     same_right, same_left          the same nodes, where none was removed
--     unique_split                   a node that is once in a list: what comes before and after it
--     taken                          an order that loses its first node
--     Front                          two orders, the second of which loses its first node
--     merged_listed, merged_can, merged_others      that node between them
use Rattle.std.proofs.Common.{◌≡◌, ◌≢◌, ℕ, ◌+◌, ◌≤◌, ◌⊎◌, max, List, [], ◌∷◌, ◌++◌, refl, sym, ap, ◌∙◌, subst, inl, inr, arith, append_assoc}
use Rattle.std.proofs.Math.Nat.{max_comm}
use Rattle.std.proofs.lemmas.Bool.{cases_lt}
use Rattle.std.proofs.lemmas.List.Elements.{All-cons, All-weaker}
use Rattle.std.specs.Prelude.{All}
use Rattle.cfdp_order.specs.declared.links.Links.{Links}
use Rattle.cfdp_order.specs.declared.links.Order.{Order}
use Rattle.cfdp_order.specs.Orders.{nodes, times_in, AreNear, IsOrder, OtherLinksStay}
use Rattle.cfdp_order.specs.code.Orders.{CanJoin}
use Rattle.cfdp_order.proofs.Counts.{one, one_self, times-append, times_middle}
use Rattle.cfdp_order.proofs.TreeLaws.{Stays, stays_apart, Opened}
use Rattle.cfdp_order.proofs.HeightLaws.{within_links}
use Rattle.cfdp_order.proofs.TurnLaws.{others_then}
use Rattle.cfdp_order.proofs.SplitLaws.{split_right, split_left, All_left}
use Rattle.cfdp_order.proofs.GrowthLaws.{Balanced}

pub record Shrunk (old new : List Links) (order result : Order) : Type 0 where
  pub is : IsOrder new result
  pub fewer : (n : ℕ) → times_in n (nodes new result) ≤ times_in n (nodes old order)
  pub least : order.height ≤ result.height + 1
  pub most : result.height ≤ order.height
  pub others : OtherLinksStay old new (nodes old order)

-- the height of an order, one of whose parts may be lower now
lower : (order a b less result : ℕ) → order ≡ max a b + 1 → AreNear a b → b ≤ less + 1 → less ≤ b → (AreNear a less → result ≡ max a less + 1) →
    max a less ≤ result → result ≤ max a less + 1
    → (order ≤ result + 1) × (result ≤ order)
lower order a b less result high near least most same low top = elim (cases_lt (less + 1) a) [
  | inl far ↦ (omega (arith, far, near), omega (arith, far, near))
  | inr close ↦ (let is = same (close, omega (arith, near)) in (omega (arith, is, close), omega (arith, is, close)))
]

-- a node that is not at the top is in the first part, or in the second one
no_other : (Q : ℕ → Type 0) (node root : ℕ) → root ≢ node → (Q root → ⊥) → (root ≡ node) ⊎ Q root → ⊥
no_other Q node root other apart (inl e) = other e
no_other Q node root other apart (inr q) = apart q

record Following (Q : ℕ → Type 0) (node : ℕ) (rest l before after : List ℕ) (root : ℕ) (r : List ℕ) : Type 0 where
  back : List ℕ
  after_is : after ≡ back ++ root ∷ r
  left_is : l ≡ before ++ node ∷ back
  all : All Q back

following : (Q : ℕ → Type 0) (node root : ℕ) (rest l before after r : List ℕ) → root ≢ node → node ∷ after ≡ rest ++ root ∷ r → l ≡ before ++ rest
    → All Q after →
    Following Q node rest l before after root r
following Q node root [] l before after r other e left_is more = absurd (other (cc))
following Q node root (x ∷ rest) l before after r other e left_is more =
    let head : x ≡ node = cc in let tail : after ≡ rest ++ root ∷ r = cc in
    record { back = rest; after_is = tail; left_is = left_is ∙ (λ i. before ++ head i ∷ rest); all = All_left Q rest root r (subst (All Q) tail more) }

module _ (old : List Links) (order a b : Order) (is : IsOrder old order) (o : Opened old order a b) where
  counted : (n : ℕ) → times_in n (nodes old order) ≡ times_in n (nodes old a) + (one order.root n + times_in n (nodes old b))
  counted n = ap (times_in n) o.listed ∙ times_middle n (nodes old a) order.root (nodes old b)

  all_once : (n : ℕ) → times_in n (nodes old a) + (one order.root n + times_in n (nodes old b)) ≤ 1
  all_once n = omega (arith, is.once n, counted n)

-- to the right
module _ {old new : List Links} {order a b less : Order} (is : IsOrder old order) (o : Opened old order a b) (shrunk : Shrunk old new b less) where
  pub a_stays : Stays old new a
  a_stays = stays_apart old new a (nodes old b) o.is_a shrunk.others (λ n. omega (arith, all_once old order a b is o n))

  pub right_counted : (n : ℕ) → times_in n (nodes new a ++ order.root ∷ nodes new less) ≤ times_in n (nodes old order)
  right_counted n = omega (
    arith,
    times_middle n (nodes new a) order.root (nodes new less),
    ap (times_in n) a_stays.listed,
    shrunk.fewer n,
    counted old order a b is o n,
  )

  pub right_can : CanJoin new a order.root less
  right_can = record {
    before = a_stays.is;
    after = shrunk.is;
    within = omega (arith, o.within, shrunk.others.long);
    once = (λ n. omega (arith, right_counted n, is.once n));
  }

  pub shrunk_right : {last : List Links} {result : Order} → Balanced new last a order.root less result → Shrunk old last order result
  shrunk_right {result = result} balanced =
      let heights = lower order.height a.height b.height less.height result.height o.high o.near shrunk.least shrunk.most balanced.near balanced.least
      balanced.most in
      record {
        is = balanced.is;
        fewer = (λ n. subst (λ l. times_in n l ≤ times_in n (nodes old order)) (sym balanced.listed) (right_counted n));
        least = heights.0;
        most = heights.1;
        others = others_then shrunk.others balanced.others (λ n none. (
          omega (arith, none, counted old order a b is o n),
          omega (arith, none, right_counted n),
        ));
      }

  pub same_right : {last : List Links} {result : Order} → Balanced new last a order.root less result → nodes new less ≡ nodes old b → nodes last result
      ≡ nodes old order
  same_right balanced same = balanced.listed ∙ (λ i. a_stays.listed i ++ order.root ∷ same i) ∙ sym o.listed

  pub rest_right : {last : List Links} {result : Order} → Balanced new last a order.root less result → (P Q : ℕ → Type 0) (node : ℕ) → order.root ≢ node →
      (Q order.root → ⊥) → (before after : List ℕ)
      → nodes old order ≡ before ++ node ∷ after → All P before → All Q after →
      ((rest : List ℕ) → nodes old b ≡ rest ++ node ∷ after → All P rest → nodes new less ≡ rest ++ after)
      → nodes last result ≡ before ++ after
  rest_right balanced P Q node other apart before after parted front back removed =
      let R : ℕ → Type 0 = λ k. (k ≡ node) ⊎ Q k in
      let all = All-cons R node after (inl refl) (All-weaker Q R (λ k q. inr q) after back) in
      let s = split_right P R (nodes old a) order.root (nodes old b) before (node ∷ after) (sym o.listed ∙ parted) front all
      (no_other Q node order.root other apart) in
      balanced.listed ∙ (λ i. a_stays.listed i ++ order.root ∷ removed s.rest s.right_is s.all i)
      ∙ sym (append_assoc (nodes old a) (order.root ∷ s.rest) after) ∙ (λ i. sym s.before_is i ++ after)

-- to the left
module _ {old new : List Links} {order a b less : Order} (is : IsOrder old order) (o : Opened old order a b) (shrunk : Shrunk old new a less) where
  pub b_stays : Stays old new b
  b_stays = stays_apart old new b (nodes old a) o.is_b shrunk.others (λ n. omega (arith, all_once old order a b is o n))

  pub left_counted : (n : ℕ) → times_in n (nodes new less ++ order.root ∷ nodes new b) ≤ times_in n (nodes old order)
  left_counted n = omega (
    arith,
    times_middle n (nodes new less) order.root (nodes new b),
    ap (times_in n) b_stays.listed,
    shrunk.fewer n,
    counted old order a b is o n,
  )

  pub left_can : CanJoin new less order.root b
  left_can = record {
    before = shrunk.is;
    after = b_stays.is;
    within = omega (arith, o.within, shrunk.others.long);
    once = (λ n. omega (arith, left_counted n, is.once n));
  }

  pub shrunk_left : {last : List Links} {result : Order} → Balanced new last less order.root b result → Shrunk old last order result
  shrunk_left {result = result} balanced =
      let turned = max_comm less.height b.height in
      let heights = lower order.height b.height a.height less.height result.height (o.high ∙ ap (λ k. k + 1) (max_comm a.height b.height)) (
        o.near.1,
        o.near.0,
      ) shrunk.least shrunk.most
      (λ near. balanced.near (near.1, near.0) ∙ ap (λ k. k + 1) turned) (omega (arith, balanced.least, turned)) (omega (arith, balanced.most, turned)) in
      record {
        is = balanced.is;
        fewer = (λ n. subst (λ l. times_in n l ≤ times_in n (nodes old order)) (sym balanced.listed) (left_counted n));
        least = heights.0;
        most = heights.1;
        others = others_then shrunk.others balanced.others (λ n none. (omega (arith, none, counted old order a b is o n), omega (arith, none, left_counted n)));
      }

  pub left_listed : {last : List Links} {result : Order} → Balanced new last less order.root b result → nodes last result ≡ nodes new less
      ++ order.root ∷ nodes old b
  left_listed balanced = balanced.listed ∙ (λ i. nodes new less ++ order.root ∷ b_stays.listed i)

  pub same_left : {last : List Links} {result : Order} → Balanced new last less order.root b result → nodes new less ≡ nodes old a → nodes last result
      ≡ nodes old order
  same_left balanced same = left_listed balanced ∙ (λ i. same i ++ order.root ∷ nodes old b) ∙ sym o.listed

  pub rest_left : {last : List Links} {result : Order} → Balanced new last less order.root b result → (P Q : ℕ → Type 0) (node : ℕ) → order.root ≢ node →
      (P order.root → ⊥) → (before after : List ℕ)
      → nodes old order ≡ before ++ node ∷ after → All P before → All Q after →
      ((rest : List ℕ) → nodes old a ≡ before ++ node ∷ rest → All Q rest → nodes new less ≡ before ++ rest)
      → nodes last result ≡ before ++ after
  rest_left balanced P Q node other apart before after parted front back removed =
      let R : ℕ → Type 0 = λ k. (k ≡ node) ⊎ Q k in
      let all = All-cons R node after (inl refl) (All-weaker Q R (λ k q. inr q) after back) in
      let s = split_left P R (nodes old a) order.root (nodes old b) before (node ∷ after) (sym o.listed ∙ parted) front all apart in
      let t = following Q node order.root s.rest (nodes old a) before after (nodes old b) other s.after_is s.left_is back in
      left_listed balanced ∙ (λ i. removed t.back t.left_is t.all i ++ order.root ∷ nodes old b)
      ∙ append_assoc before t.back (order.root ∷ nodes old b) ∙ (λ i. before ++ sym t.after_is i)

pub unique_split : (l : List ℕ) (x : ℕ) (r before after : List ℕ) → l ++ x ∷ r ≡ before ++ x ∷ after → times_in x (l ++ x ∷ r) ≤ 1 → (l ≡ before) × (r ≡ after)
unique_split [] x r [] after e once = (refl, cc)
unique_split [] x r (y ∷ before) after e once =
    let tail : r ≡ before ++ x ∷ after = cc in
    absurd (omega (arith, once, one_self x, ap (times_in x) tail, times_middle x before x after))
unique_split (z ∷ l) x r [] after e once =
    let head : z ≡ x = cc in
    absurd (let here = subst (λ k. one k x ≡ 1) (sym head) (one_self x) in omega (arith, once, here, one_self x, times_middle x l x r))
unique_split (z ∷ l) x r (y ∷ before) after e once =
    let head : z ≡ y = cc in let tail : l ++ x ∷ r ≡ before ++ x ∷ after = cc in
    let rest = unique_split l x r before after tail (omega (arith, once)) in
    ((λ i. head i ∷ rest.0 i), rest.1)

-- an order that loses its first node
pub taken : {old new : List Links} {order rest : Order} (node : ℕ) → nodes old order ≡ node ∷ nodes new rest → IsOrder new rest → order.height ≤ rest.height
    + 1 → rest.height ≤ order.height
    → OtherLinksStay old new (nodes old order) → Shrunk old new order rest
taken node is rest least most others = record { is = rest; fewer = (λ n. omega (arith, ap (times_in n) is)); least = least; most = most; others = others }

-- two orders, the second of which loses its first node
pub record Front (old new : List Links) (left right : Order) (node : ℕ) (rest : Order) : Type 0 where
  pub is_left : IsOrder old left
  pub is_right : IsOrder old right
  pub once : (n : ℕ) → times_in n (nodes old left ++ nodes old right) ≤ 1
  pub is_rest : IsOrder new rest
  pub first : nodes old right ≡ node ∷ nodes new rest
  pub others : OtherLinksStay old new (nodes old right)

module _ {old new : List Links} {left right : Order} {node : ℕ} {rest : Order} (f : Front old new left right node rest) where
  pub left_stays : Stays old new left
  left_stays = stays_apart old new left (nodes old right) f.is_left f.others (λ n. omega (arith, f.once n, times-append n (nodes old left) (nodes old right)))

  pub merged_listed : nodes new left ++ node ∷ nodes new rest ≡ nodes old left ++ nodes old right
  merged_listed i = left_stays.listed i ++ sym f.first i

  pub merged_can : CanJoin new left node rest
  merged_can = record {
    before = left_stays.is;
    after = f.is_rest;
    within = (let here : 1 ≤ times_in node (nodes old right) = omega (arith, ap (times_in node) f.first, one_self node) in
        omega (arith, f.others.long, within_links f.is_right.tree node here));
    once = (λ n. subst (λ l. times_in n l ≤ 1) (sym merged_listed) (f.once n));
  }

  pub merged_others : {last : List Links} → OtherLinksStay new last (nodes new left ++ node ∷ nodes new rest) →
      OtherLinksStay old last (nodes old left ++ nodes old right)
  merged_others next = others_then f.others next (λ n none. (
    omega (arith, none, times-append n (nodes old left) (nodes old right)),
    omega (arith, none, ap (times_in n) merged_listed),
  ))
