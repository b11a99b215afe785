-- An order in one of whose parts a node was inserted.
--     Balanced                       what `balance` does
--     Grown                          what `insert` does, but for the index of the node
--     none_can, none_split           a node can be joined with two empty orders;  no nodes are before it, and none after it
--     grown_right, grown_left        a node inserted to the right or to the left of the top
--     joined_right, joined_left      where the node comes
use Rattle.std.proofs.Common.{◌≡◌, ℕ, ◌+◌, ◌<◌, ◌≤◌, max, List, [], ◌∷◌, ◌++◌, length, refl, sym, ap, ◌∙◌, subst, inl, inr, arith, append_assoc}
use Rattle.std.proofs.Math.Nat.{max_comm}
use Rattle.std.proofs.lemmas.Bool.{cases_eq, cases_lt}
use Rattle.std.specs.Prelude.{All}
use Rattle.cfdp_order.specs.declared.links.Links.{Links}
use Rattle.cfdp_order.specs.declared.links.Order.{Order}
use Rattle.cfdp_order.specs.Orders.{nodes, times_in, AreNear, IsOrder, OtherLinksStay}
use Rattle.cfdp_order.specs.code.Orders.{CanJoin}
use Rattle.cfdp_order.proofs.Counts.{one, one_self, one_other, one_most, times_middle}
use Rattle.cfdp_order.proofs.TreeLaws.{Stays, stays_apart, Opened, no_nodes, none_is}
use Rattle.cfdp_order.proofs.TurnLaws.{others_then}
use Rattle.cfdp_order.proofs.SplitLaws.{split_right, split_left}

pub record Balanced (old new : List Links) (left : Order) (node : ℕ) (right result : Order) : Type 0 where
  pub is : IsOrder new result
  pub listed : nodes new result ≡ nodes old left ++ node ∷ nodes old right
  pub near : AreNear left.height right.height → result.height ≡ max left.height right.height + 1
  pub least : max left.height right.height ≤ result.height
  pub most : result.height ≤ max left.height right.height + 1
  pub others : OtherLinksStay old new (nodes old left ++ node ∷ nodes old right)

pub record Grown (old new : List Links) (node : ℕ) (order result : Order) : Type 0 where
  pub is : IsOrder new result
  pub one_more : (n : ℕ) → times_in n (nodes new result) ≡ one node n + times_in n (nodes old order)
  pub least : order.height ≤ result.height
  pub most : result.height ≤ order.height + 1
  pub others : OtherLinksStay old new (node ∷ nodes old order)

-- a node that is not there, with those that are
with_fresh : (node : ℕ) (list : List ℕ) → times_in node list ≡ 0 → ((n : ℕ) → times_in n list ≤ 1) → (n : ℕ) → one node n + times_in n list ≤ 1
with_fresh node list fresh once n = elim (cases_eq node n) [
  | inl e ↦ subst (λ k. one node k + times_in k list ≤ 1) e (omega (arith, fresh, one_self node))
  | inr other ↦ omega (arith, once n, one_other node n other)
]

-- the height of an order, one of whose parts may be higher now
higher : (order a b more result : ℕ) → order ≡ max a b + 1 → AreNear a b → b ≤ more → more ≤ b + 1 → (AreNear a more → result ≡ max a more + 1) →
    max a more ≤ result → result ≤ max a more + 1
    → (order ≤ result) × (result ≤ order + 1)
higher order a b more result high near least most same low top = elim (cases_lt (a + 1) more) [
  | inl far ↦ (omega (arith, far, near), omega (arith, far, near))
  | inr close ↦ (let is = same (omega (arith, near), close) in (omega (arith, is, close), omega (arith, is, close)))
]

module _ (old : List Links) (node : ℕ) (order a b : Order) (is : IsOrder old order) (o : Opened old order a b)
    (fresh : times_in node (nodes old order) ≡ 0) where
  counted : (n : ℕ) → times_in n (nodes old order) ≡ times_in n (nodes old a) + (one order.root n + times_in n (nodes old b))
  counted n = ap (times_in n) o.listed ∙ times_middle n (nodes old a) order.root (nodes old b)

  all_once : (n : ℕ) → one node n + (times_in n (nodes old a) + (one order.root n + times_in n (nodes old b))) ≤ 1
  all_once n = omega (arith, with_fresh node (nodes old order) fresh is.once n, counted n)

  pub fresh_left : times_in node (nodes old a) ≡ 0
  fresh_left = omega (arith, counted node, fresh)

  pub fresh_right : times_in node (nodes old b) ≡ 0
  fresh_right = omega (arith, counted node, fresh)

-- to the right
module _ {old new : List Links} {node : ℕ} {order a b more : Order} (is : IsOrder old order) (o : Opened old order a b) (fresh : times_in node (nodes old order)
    ≡ 0) (grown : Grown old new node b more) where
  pub a_stays : Stays old new a
  a_stays = stays_apart old new a (node ∷ nodes old b) o.is_a grown.others (λ n. omega (arith, all_once old node order a b is o fresh n))

  pub right_counted : (n : ℕ) → times_in n (nodes new a ++ order.root ∷ nodes new more) ≡ one node n + times_in n (nodes old order)
  right_counted n = omega (
    arith,
    times_middle n (nodes new a) order.root (nodes new more),
    ap (times_in n) a_stays.listed,
    grown.one_more n,
    counted old node order a b is o fresh n,
  )

  pub right_can : CanJoin new a order.root more
  right_can = record {
    before = a_stays.is;
    after = grown.is;
    within = omega (arith, o.within, grown.others.long);
    once = (λ n. omega (arith, right_counted n, with_fresh node (nodes old order) fresh is.once n));
  }

  pub grown_right : {last : List Links} {result : Order} → Balanced new last a order.root more result → Grown old last node order result
  grown_right {result = result} balanced =
      let heights = higher order.height a.height b.height more.height result.height o.high o.near grown.least grown.most balanced.near balanced.least
      balanced.most in
      record {
        is = balanced.is;
        one_more = (λ n. ap (times_in n) balanced.listed ∙ right_counted n);
        least = heights.0;
        most = heights.1;
        others = others_then grown.others balanced.others (λ n none. (
          omega (arith, none, counted old node order a b is o fresh n),
          omega (arith, none, right_counted n),
        ));
      }

  pub joined_right : {last : List Links} {result : Order} → Balanced new last a order.root more result → (P Q : ℕ → Type 0) → (Q order.root → ⊥) →
      (before after : List ℕ)
      → nodes old order ≡ before ++ after → All P before → All Q after → ((rest : List ℕ) → nodes old b ≡ rest ++ after → All P rest → nodes new more ≡ rest
      ++ node ∷ after)
      → nodes last result ≡ before ++ node ∷ after
  joined_right balanced P Q apart before after parted less rest join =
      let s = split_right P Q (nodes old a) order.root (nodes old b) before after (sym o.listed ∙ parted) less rest apart in
      balanced.listed ∙ (λ i. a_stays.listed i ++ order.root ∷ join s.rest s.right_is s.all i)
      ∙ sym (append_assoc (nodes old a) (order.root ∷ s.rest) (node ∷ after)) ∙ (λ i. sym s.before_is i ++ node ∷ after)

-- to the left
module _ {old new : List Links} {node : ℕ} {order a b more : Order} (is : IsOrder old order) (o : Opened old order a b) (fresh : times_in node (nodes old order)
    ≡ 0) (grown : Grown old new node a more) where
  pub b_stays : Stays old new b
  b_stays = stays_apart old new b (node ∷ nodes old a) o.is_b grown.others (λ n. omega (arith, all_once old node order a b is o fresh n))

  pub left_counted : (n : ℕ) → times_in n (nodes new more ++ order.root ∷ nodes new b) ≡ one node n + times_in n (nodes old order)
  left_counted n = omega (
    arith,
    times_middle n (nodes new more) order.root (nodes new b),
    ap (times_in n) b_stays.listed,
    grown.one_more n,
    counted old node order a b is o fresh n,
  )

  pub left_can : CanJoin new more order.root b
  left_can = record {
    before = grown.is;
    after = b_stays.is;
    within = omega (arith, o.within, grown.others.long);
    once = (λ n. omega (arith, left_counted n, with_fresh node (nodes old order) fresh is.once n));
  }

  pub grown_left : {last : List Links} {result : Order} → Balanced new last more order.root b result → Grown old last node order result
  grown_left {result = result} balanced =
      let turned = max_comm more.height b.height in
      let heights = higher order.height b.height a.height more.height result.height (o.high ∙ ap (λ k. k + 1) (max_comm a.height b.height)) (
        o.near.1,
        o.near.0,
      ) grown.least grown.most
      (λ near. balanced.near (near.1, near.0) ∙ ap (λ k. k + 1) turned) (omega (arith, balanced.least, turned)) (omega (arith, balanced.most, turned)) in
      record {
        is = balanced.is;
        one_more = (λ n. ap (times_in n) balanced.listed ∙ left_counted n);
        least = heights.0;
        most = heights.1;
        others = others_then grown.others balanced.others (λ n none. (
          omega (arith, none, counted old node order a b is o fresh n),
          omega (arith, none, left_counted n),
        ));
      }

  pub joined_left : {last : List Links} {result : Order} → Balanced new last more order.root b result → (P Q : ℕ → Type 0) → (P order.root → ⊥) →
      (before after : List ℕ)
      → nodes old order ≡ before ++ after → All P before → All Q after → ((rest : List ℕ) → nodes old a ≡ before ++ rest → All Q rest → nodes new more ≡ before
      ++ node ∷ rest)
      → nodes last result ≡ before ++ node ∷ after
  joined_left balanced P Q apart before after parted less rest join =
      let s = split_left P Q (nodes old a) order.root (nodes old b) before after (sym o.listed ∙ parted) less rest apart in
      balanced.listed ∙ (λ i. join s.rest s.left_is s.all i ++ order.root ∷ b_stays.listed i)
      ∙ append_assoc before (node ∷ s.rest) (order.root ∷ nodes old b) ∙ (λ i. before ++ node ∷ sym s.after_is i)

-- a node inserted into an order of none
pub none_can : (links : List Links) (a b : Order) (node : ℕ) → a.height ≡ 0 → b.height ≡ 0 → node < length links → CanJoin links a node b
none_can links a b node none no_more within =
    let left = no_nodes links a none in let right = no_nodes links b no_more in
    record {
      before = none_is links a none;
      after = none_is links b no_more;
      within = within;
      once = (λ n. omega (arith, times_middle n (nodes links a) node (nodes links b), ap (times_in n) left, ap (times_in n) right, one_most node n));
    }

pub none_split : {before after list : List ℕ} → list ≡ [] → list ≡ before ++ after → (before ≡ []) × (after ≡ [])
none_split {before} {after} none parted = go before after (sym none ∙ parted)
  where
    go : (x y : List ℕ) → [] ≡ x ++ y → (x ≡ []) × (y ≡ [])
    go [] y e = (refl, sym e)
    go (z ∷ x) y e = cc
