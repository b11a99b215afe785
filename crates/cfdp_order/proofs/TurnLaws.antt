-- Orders that are joined again in another way.
--     Joined, joined_by          what `join` does
--     others_then                the links of other nodes stay twice
--     Three                      three orders, and the nodes between them
--     right_pair, left_pair      its second and third order may be joined, and so may the first and the second one
--     then_listed, then_can, then_others     after the second and the third one were joined
--     next_listed, next_can, next_others     after the first and the second one were joined
--     Four                       four orders, and the nodes between them, of which the outer pairs are joined first
--     first_pair, second_pair, both_pairs    what may be joined, and when
--     four_listed, four_others   what results from it
--     three_right, three_left, four_right, four_left     the parts of an order on one side of a node
use Rattle.std.proofs.Common.{◌≡◌, ℕ, ◌+◌, ◌<◌, ◌≤◌, List, [], ◌∷◌, ◌++◌, length, sym, ap, ◌∙◌, subst, arith, append_assoc}
use Rattle.cfdp_order.specs.declared.links.Links.{Links}
use Rattle.cfdp_order.specs.declared.links.Order.{Order}
use Rattle.cfdp_order.specs.Orders.{links_at, left_of, right_of, nodes, times_in, IsOrder, OtherLinksStay}
use Rattle.cfdp_order.specs.code.Orders.{CanJoin}
use Rattle.cfdp_order.proofs.Counts.{one, times_middle}
use Rattle.cfdp_order.proofs.TreeLaws.{Stays, stays_apart, Opened}

pub record Joined (old new : List Links) (left : Order) (node : ℕ) (right result : Order) : Type 0 where
  pub is : IsOrder new result
  pub listed : nodes new result ≡ nodes old left ++ node ∷ nodes old right
  pub others : OtherLinksStay old new (node ∷ [])

pub joined_by : {old new : List Links} (left : Order) {node : ℕ} (right : Order) {result : Order} → IsOrder new result
    → nodes new result ≡ nodes old left ++ node ∷ nodes old right → OtherLinksStay old new (node ∷ []) → Joined old new left node right result
joined_by left right is listed others = record { is = is; listed = listed; others = others }

pub others_then : {a b c : List Links} {r s t : List ℕ} → OtherLinksStay a b r → OtherLinksStay b c s
    → ((n : ℕ) → times_in n t ≡ 0 → (times_in n r ≡ 0) × (times_in n s ≡ 0)) → OtherLinksStay a c t
others_then first second both = record { long = second.long ∙ first.long; same = (λ n none. second.same n (both n none).1 ∙ first.same n (both n none).0) }

pub record Three (links : List Links) (a : Order) (p : ℕ) (b : Order) (q : ℕ) (d : Order) (whole : List ℕ) : Type 0 where
  pub is_a : IsOrder links a
  pub is_b : IsOrder links b
  pub is_d : IsOrder links d
  pub p_in : p < length links
  pub q_in : q < length links
  pub is_whole : whole ≡ nodes links a ++ p ∷ (nodes links b ++ q ∷ nodes links d)
  pub once : (n : ℕ) → times_in n whole ≤ 1

module _ (links : List Links) (a : Order) (p : ℕ) (b : Order) (q : ℕ) (d : Order) (whole : List ℕ) (t : Three links a p b q d whole) where
  counted : (n : ℕ) → times_in n whole ≡ times_in n (nodes links a) + (one p n + (times_in n (nodes links b) + (one q n + times_in n (nodes links d))))
  counted n = ap (times_in n) t.is_whole ∙ omega (
    arith,
    times_middle n (nodes links a) p (nodes links b ++ q ∷ nodes links d),
    times_middle n (nodes links b) q (nodes links d),
  )

  each_once : (n : ℕ) → times_in n (nodes links a) + (one p n + (times_in n (nodes links b) + (one q n + times_in n (nodes links d)))) ≤ 1
  each_once n = omega (arith, counted n, t.once n)

module _ {links : List Links} {a : Order} {p : ℕ} {b : Order} {q : ℕ} {d : Order} {whole : List ℕ} (t : Three links a p b q d whole) where
  pub right_pair : CanJoin links b q d
  right_pair = record {
    before = t.is_b;
    after = t.is_d;
    within = t.q_in;
    once = (λ n. omega (arith, each_once links a p b q d whole t n, times_middle n (nodes links b) q (nodes links d)));
  }

  pub left_pair : CanJoin links a p b
  left_pair = record {
    before = t.is_a;
    after = t.is_b;
    within = t.p_in;
    once = (λ n.
        omega (arith, each_once links a p b q d whole t n, times_middle n (nodes links a) p (nodes links b)));
  }

module _ {links then : List Links} {a : Order} {p : ℕ} {b : Order} {q : ℕ} {d right : Order} {whole : List ℕ} (t : Three links a p b q d whole)
    (joined : Joined links then b q d right) where
  pub then_stays : Stays links then a
  then_stays = stays_apart links then a (q ∷ []) t.is_a joined.others (λ n. omega (arith, each_once links a p b q d whole t n))

  pub then_listed : nodes then a ++ p ∷ nodes then right ≡ whole
  then_listed = (λ i. then_stays.listed i ++ p ∷ joined.listed i) ∙ sym t.is_whole

  pub then_can : CanJoin then a p right
  then_can = record {
    before = then_stays.is;
    after = joined.is;
    within = omega (arith, t.p_in, joined.others.long);
    once = (λ n. subst (λ l. times_in n l ≤ 1) (sym then_listed) (t.once n));
  }

  pub then_others : {last : List Links} → OtherLinksStay then last (p ∷ []) → OtherLinksStay links last whole
  then_others others = let each = counted links a p b q d whole t in others_then joined.others others
      (λ n none. (omega (arith, each n, none), omega (arith, each n, none)))

module _ {links then : List Links} {a : Order} {p : ℕ} {b : Order} {q : ℕ} {d left : Order} {whole : List ℕ} (t : Three links a p b q d whole)
    (joined : Joined links then a p b left) where
  pub next_stays : Stays links then d
  next_stays = stays_apart links then d (p ∷ []) t.is_d joined.others (λ n. omega (arith, each_once links a p b q d whole t n))

  pub next_listed : nodes then left ++ q ∷ nodes then d ≡ whole
  next_listed = (λ i. joined.listed i ++ q ∷ next_stays.listed i) ∙ append_assoc (nodes links a) (p ∷ nodes links b) (q ∷ nodes links d) ∙ sym t.is_whole

  pub next_can : CanJoin then left q d
  next_can = record {
    before = joined.is;
    after = next_stays.is;
    within = omega (arith, t.q_in, joined.others.long);
    once = (λ n. subst (λ l. times_in n l ≤ 1) (sym next_listed) (t.once n));
  }

  pub next_others : {last : List Links} → OtherLinksStay then last (q ∷ []) → OtherLinksStay links last whole
  next_others others = let each = counted links a p b q d whole t in others_then joined.others others
      (λ n none. (omega (arith, each n, none), omega (arith, each n, none)))

pub record Four (links : List Links) (a : Order) (p : ℕ) (b : Order) (q : ℕ) (d : Order) (r : ℕ) (e : Order) (whole : List ℕ) : Type 0 where
  pub is_a : IsOrder links a
  pub is_b : IsOrder links b
  pub is_d : IsOrder links d
  pub is_e : IsOrder links e
  pub p_in : p < length links
  pub q_in : q < length links
  pub r_in : r < length links
  pub is_whole : whole ≡ nodes links a ++ p ∷ (nodes links b ++ q ∷ (nodes links d ++ r ∷ nodes links e))
  pub once : (n : ℕ) → times_in n whole ≤ 1

module _ (links : List Links) (a : Order) (p : ℕ) (b : Order) (q : ℕ) (d : Order) (r : ℕ) (e : Order) (whole : List ℕ)
    (f : Four links a p b q d r e whole) where
  counted4 : (n : ℕ) → times_in n whole ≡ times_in n (nodes links a) + (one p n
      + (times_in n (nodes links b) + (one q n + (times_in n (nodes links d) + (one r n + times_in n (nodes links e))))))
  counted4 n =
      let back = nodes links d ++ r ∷ nodes links e in
      ap (times_in n) f.is_whole ∙ omega (
        arith,
        times_middle n (nodes links a) p (nodes links b ++ q ∷ back),
        times_middle n (nodes links b) q back,
        times_middle n (nodes links d) r (nodes links e),
      )

  each_once4 : (n : ℕ) → times_in n (nodes links a) + (one p n + (times_in n (nodes links b)
      + (one q n + (times_in n (nodes links d) + (one r n + times_in n (nodes links e)))))) ≤ 1
  each_once4 n = omega (arith, counted4 n, f.once n)

module _ {links : List Links} {a : Order} {p : ℕ} {b : Order} {q : ℕ} {d : Order} {r : ℕ} {e : Order} {whole : List ℕ}
    (f : Four links a p b q d r e whole) where
  pub first_pair : CanJoin links a p b
  first_pair = record {
    before = f.is_a;
    after = f.is_b;
    within = f.p_in;
    once = (λ n. omega (arith, each_once4 links a p b q d r e whole f n, times_middle n (nodes links a) p (nodes links b)));
  }

module _ {links then : List Links} {a : Order} {p : ℕ} {b : Order} {q : ℕ} {d : Order} {r : ℕ} {e left : Order} {whole : List ℕ}
    (f : Four links a p b q d r e whole) (first : Joined links then a p b left) where
  pub d_stays : Stays links then d
  d_stays = stays_apart links then d (p ∷ []) f.is_d first.others (λ n. omega (arith, each_once4 links a p b q d r e whole f n))

  pub e_stays : Stays links then e
  e_stays = stays_apart links then e (p ∷ []) f.is_e first.others (λ n. omega (arith, each_once4 links a p b q d r e whole f n))

  pub right_listed : nodes then d ++ r ∷ nodes then e ≡ nodes links d ++ r ∷ nodes links e
  right_listed i = d_stays.listed i ++ r ∷ e_stays.listed i

  pub second_pair : CanJoin then d r e
  second_pair = record {
    before = d_stays.is;
    after = e_stays.is;
    within = omega (arith, f.r_in, first.others.long);
    once = (λ n. subst (λ l. times_in n l ≤ 1) (sym right_listed) (omega (
      arith,
      each_once4 links a p b q d r e whole f n,
      times_middle n (nodes links d) r (nodes links e),
    )));
  }

module _ {links then next : List Links} {a : Order} {p : ℕ} {b : Order} {q : ℕ} {d : Order} {r : ℕ} {e left right : Order} {whole : List ℕ}
    (f : Four links a p b q d r e whole)
    (first : Joined links then a p b left) (second : Joined then next d r e right) where
  pub left_stays : Stays then next left
  left_stays = stays_apart then next left (r ∷ []) first.is second.others
      (λ n. subst (λ l. times_in n l + times_in n (r ∷ []) ≤ 1) (sym first.listed)
      (omega (arith, each_once4 links a p b q d r e whole f n, times_middle n (nodes links a) p (nodes links b))))

  pub four_listed : nodes next left ++ q ∷ nodes next right ≡ whole
  four_listed = (λ i. (left_stays.listed ∙ first.listed) i ++ q ∷ (second.listed ∙ right_listed f first) i)
      ∙ append_assoc (nodes links a) (p ∷ nodes links b) (q ∷ (nodes links d ++ r ∷ nodes links e)) ∙ sym f.is_whole

  pub both_pairs : CanJoin next left q right
  both_pairs = record {
    before = left_stays.is;
    after = second.is;
    within = omega (arith, f.q_in, first.others.long, second.others.long);
    once = (λ n. subst (λ l. times_in n l ≤ 1) (sym four_listed) (f.once n));
  }

  pub four_others : {last : List Links} → OtherLinksStay next last (q ∷ []) → OtherLinksStay links last whole
  four_others others =
      let each = counted4 links a p b q d r e whole f in
      let two : OtherLinksStay links next (p ∷ r ∷ []) = others_then first.others second.others (λ n none. (omega (arith, none), omega (arith, none))) in
      others_then two others (λ n none. (omega (arith, each n, none), omega (arith, each n, none)))

-- the parts of an order in front of a node
opened_left : (links : List Links) (left a b : Order) (node : ℕ) (rest : List ℕ) → Opened links left a b → nodes links left ++ node ∷ rest ≡ nodes links a
    ++ left.root ∷ (nodes links b ++ node ∷ rest)
opened_left links left a b node rest o = (λ i. o.listed i ++ node ∷ rest) ∙ append_assoc (nodes links a) (left.root ∷ nodes links b) (node ∷ rest)

pub three_right : {links : List Links} {left a b : Order} {node : ℕ} {right : Order} → CanJoin links left node right → Opened links left a b
    → Three links a left.root b node right (nodes links left ++ node ∷ nodes links right)
three_right {links} {left} {a} {b} {node} {right} can o = record {
  is_a = o.is_a;
  is_b = o.is_b;
  is_d = can.after;
  p_in = o.within;
  q_in = can.within;
  is_whole = opened_left links left a b node (nodes links right) o;
  once = can.once;
}

pub three_left : {links : List Links} {left : Order} {node : ℕ} {right a b : Order} → CanJoin links left node right → Opened links right a b
    → Three links left node a right.root b (nodes links left ++ node ∷ nodes links right)
three_left {links} {left} {node} can o = record {
  is_a = can.before;
  is_b = o.is_a;
  is_d = o.is_b;
  p_in = can.within;
  q_in = o.within;
  is_whole = (λ i. nodes links left ++ node ∷ o.listed i);
  once = can.once;
}

pub four_right : {links : List Links} {left a m b d : Order} {node : ℕ} {right : Order} → CanJoin links left node right → Opened links left a m →
    Opened links m b d
    → Four links a left.root b m.root d node right (nodes links left ++ node ∷ nodes links right)
four_right {links} {left} {a} {m} {b} {d} {node} {right} can o i = record {
  is_a = o.is_a;
  is_b = i.is_a;
  is_d = i.is_b;
  is_e = can.after;
  p_in = o.within;
  q_in = i.within;
  r_in = can.within;
  is_whole = opened_left links left a m node (nodes links right) o ∙ (λ j. nodes links a ++ left.root ∷ opened_left links m b d node (nodes links right) i j);
  once = can.once;
}

pub four_left : {links : List Links} {left : Order} {node : ℕ} {right m e b d : Order} → CanJoin links left node right → Opened links right m e →
    Opened links m b d
    → Four links left node b m.root d right.root e (nodes links left ++ node ∷ nodes links right)
four_left {links} {left} {node} {right} {m} {e} {b} {d} can o i = record {
  is_a = can.before;
  is_b = i.is_a;
  is_d = i.is_b;
  is_e = o.is_b;
  p_in = can.within;
  q_in = i.within;
  r_in = o.within;
  is_whole = (λ j. nodes links left ++ node ∷ (o.listed ∙ opened_left links m b d right.root (nodes links e) i) j);
  once = can.once;
}

-- which of two orders is the higher one
pub higher_right : (links : List Links) (order : Order) {a : Order} {n : ℕ} → n ≡ order.root → a ≡ left_of (links_at links n)
    → (links_at links order.root).left_height < (links_at links order.root).right_height → a.height < (right_of (links_at links n)).height
higher_right links order {a} {n} n_is a_is high =
    let there = subst (λ j. (links_at links j).left_height < (links_at links j).right_height) (sym n_is) high in
    subst (λ (o : Order). o.height < (links_at links n).right_height) (sym a_is) there

pub higher_left : (links : List Links) (order : Order) {e : Order} {n : ℕ} → n ≡ order.root → e ≡ right_of (links_at links n)
    → (links_at links order.root).right_height < (links_at links order.root).left_height → e.height < (left_of (links_at links n)).height
higher_left links order {e} {n} n_is e_is high =
    let there = subst (λ j. (links_at links j).right_height < (links_at links j).left_height) (sym n_is) high in
    subst (λ (o : Order). o.height < (links_at links n).left_height) (sym e_is) there
