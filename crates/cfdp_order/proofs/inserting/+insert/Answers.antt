use Rattle.std.proofs.Common.{◌≡◌, ◌≢◌, ◌∷◌, ◌++◌, refl, sym, ap, ◌∙◌, subst, arith}
use Rattle.std.specs.Prelude.{All}
use Rattle.std.specs.declared.cmp.Ordering.TheVariants.{Less}
use Rattle.cfdp_order.specs.declared.links.Order.{Order}
use Rattle.cfdp_order.specs.Orders.{nodes, times_in, links_at, left_of, right_of}
use Rattle.cfdp_order.proofs.TreeLaws.{opened, opened_at, no_nodes}
use Rattle.cfdp_order.proofs.TestLaws.{some_levels, not_less}
use Rattle.cfdp_order.proofs.SplitLaws.{All_left, All_right, All_at}
use Rattle.cfdp_order.proofs.GrowthLaws.{Balanced, Grown, none_can, none_split, fresh_left, fresh_right, right_can, grown_right, joined_right, left_can, grown_left, joined_left}
use Rattle.cfdp_order.proofs.inserting.+insert.Goals as goal

no_levels : {r : Order} → r ≡ record { root = 0; height = 0 } → r.height ≡ 0
no_levels e = ap (λ (o : Order). o.height) e

pub join-requires-clause-parts : goal.join-requires-clause-parts
join-requires-clause-parts g t c =
    let a = c.empty in let b = c.empty-then-is_empty in
    none_can c.args.links.now a.result b.result c.args.node (no_levels a.ensures) (no_levels b.ensures) c.requires.within

-- the nodes of an order of one node
pub returns-then-is_empty-clause-inserted : goal.returns-then-is_empty-clause-inserted
returns-then-is_empty-clause-inserted g t c before after parted splits =
    let links = c.args.links.now in let a = c.empty in let b = c.empty-then-is_empty in
    let parts = none_split (no_nodes links c.args.order (c.if-is_empty.ensures.0 refl)) parted in
    c.join.ensures.nodes ∙ (λ i. no_nodes links a.result (no_levels a.ensures) i ++ c.args.node ∷ no_nodes links b.result (no_levels b.ensures) i)
    ∙ (λ i. sym parts.0 i ++ c.args.node ∷ sym parts.1 i)

pub returns-then-is_empty-clause-one_more : goal.returns-then-is_empty-clause-one_more
returns-then-is_empty-clause-one_more g t c n =
    let links = c.args.links.now in let a = c.empty in let b = c.empty-then-is_empty in
    let none = no_nodes links c.args.order (c.if-is_empty.ensures.0 refl) in
    ap (times_in n) (c.join.ensures.nodes ∙ (λ i. no_nodes links a.result (no_levels a.ensures) i ++ c.args.node ∷ no_nodes links b.result
    (no_levels b.ensures) i)
    ∙ (λ i. c.args.node ∷ sym none i))

pub compare-requires : goal.compare-requires
compare-requires g t c =
    let links = c.args.links.now in let order = c.args.order in let n = c.from.result in
    let o = opened_at c.requires.order (some_levels c.if-is_empty.ensures.1) c.from.ensures in
    let K = g.S.Sought.can_compare c.args.sought.now in
    All_at K (nodes links (left_of (links_at links n))) order.root (nodes links (right_of (links_at links n))) (subst (All K) o.listed c.requires.known)

pub insert-right-requires : goal.insert-right-requires
insert-right-requires g t c κs within =
    let links = c.args.links.now in let order = c.args.order in let a = left_of (links_at links c.from.result) in let b = c.right.result in
    let o = opened c.requires.order (some_levels c.if-is_empty.ensures.1) c.from.ensures refl c.right.ensures in
    let K = g.S.Sought.can_compare c.args.sought.now in
    let known = All_right K (nodes links a) order.root (nodes links b) (subst (All K) o.listed c.requires.known) in
    let fresh = fresh_right links c.args.node order a b c.requires.order o c.requires.fresh in
    (omega (arith, o.high, c.decreases), (within, (o.is_b, (c.requires.within, (fresh, (c.requires.small, known))))))

pub insert-left-requires : goal.insert-left-requires
insert-left-requires g t c κs within =
    let links = c.args.links.now in let order = c.args.order in let a = c.left-in-Equal.result in let b = right_of (links_at links c.from.result) in
    let o = opened c.requires.order (some_levels c.if-is_empty.ensures.1) c.from.ensures c.left-in-Equal.ensures refl in
    let K = g.S.Sought.can_compare c.args.sought.now in
    let known = All_left K (nodes links a) order.root (nodes links b) (subst (All K) o.listed c.requires.known) in
    let fresh = fresh_left links c.args.node order a b c.requires.order o c.requires.fresh in
    (omega (arith, o.high, c.decreases), (within, (o.is_a, (c.requires.within, (fresh, (c.requires.small, known))))))

pub balance-requires-clause-parts : goal.balance-requires-clause-parts
balance-requires-clause-parts g t c =
    let is = c.requires.order in let fresh = c.requires.fresh in let more = c.insert-right in let e = more.ensures in
    let o = opened is (some_levels c.if-is_empty.ensures.1) c.from.ensures c.left.ensures c.right.ensures in
    let grown : Grown c.args.links.now more.new.links c.args.node c.right.result more.result =
    record { is = e.order; one_more = e.one_more; least = e.least; most = e.most; others = e.others } in
    right_can is o fresh grown

pub balance-requires-in-Equal : goal.balance-requires-in-Equal
balance-requires-in-Equal g t c =
    let is = c.requires.order in let fresh = c.requires.fresh in let more = c.insert-left in let e = more.ensures in
    let o = opened is (some_levels c.if-is_empty.ensures.1) c.from.ensures c.left-in-Equal.ensures c.right-in-Equal.ensures in
    let grown : Grown c.args.links.now more.new.links c.args.node c.left-in-Equal.result more.result =
    record { is = e.order; one_more = e.one_more; least = e.least; most = e.most; others = e.others } in
    record {
      parts = left_can is o fresh grown;
      small = omega (arith, e.others.long, c.requires.small);
      left = omega (arith, o.near, e.most);
      right = omega (arith, o.near, e.least);
    }

pub returns-in-Less : goal.returns-in-Less
returns-in-Less g t c =
    let is = c.requires.order in let fresh = c.requires.fresh in let more = c.insert-right in let e = more.ensures in
    let o = opened is (some_levels c.if-is_empty.ensures.1) c.from.ensures c.left.ensures c.right.ensures in
    let grown : Grown c.args.links.now more.new.links c.args.node c.right.result more.result =
    record { is = e.order; one_more = e.one_more; least = e.least; most = e.most; others = e.others } in
    let f = c.balance.ensures in
    let balanced : Balanced more.new.links c.balance.new.links c.left.result c.args.order.root more.result c.balance.result =
    record { is = f.order; listed = f.nodes; near = f.near; least = f.least; most = f.most; others = f.others } in
    let now = grown_right is o fresh grown balanced in let side = g.S.Sought.side c.args.sought.now in
    record {
      order = now.is;
      inserted = (λ before after parted splits. joined_right is o fresh grown balanced (λ k. side k ≡ Less) (λ k. side k ≢ Less)
          (λ apart. apart (sym c.in-Less.ensures))
          before after parted splits.less splits.rest (λ rest part less. e.inserted rest after part (record { less = less; rest = splits.rest })));
      one_more = now.one_more;
      least = now.least;
      most = now.most;
      others = now.others;
    }

pub returns-in-Equal : goal.returns-in-Equal
returns-in-Equal g t c =
    let is = c.requires.order in let fresh = c.requires.fresh in let more = c.insert-left in let e = more.ensures in
    let o = opened is (some_levels c.if-is_empty.ensures.1) c.from.ensures c.left-in-Equal.ensures c.right-in-Equal.ensures in
    let grown : Grown c.args.links.now more.new.links c.args.node c.left-in-Equal.result more.result =
    record { is = e.order; one_more = e.one_more; least = e.least; most = e.most; others = e.others } in
    let f = c.balance-in-Equal.ensures in
    let balanced : Balanced more.new.links c.balance-in-Equal.new.links more.result c.args.order.root c.right-in-Equal.result c.balance-in-Equal.result =
    record { is = f.order; listed = f.nodes; near = f.near; least = f.least; most = f.most; others = f.others } in
    let now = grown_left is o fresh grown balanced in let side = g.S.Sought.side c.args.sought.now in
    record {
      order = now.is;
      inserted = (λ before after parted splits.
          joined_left is o fresh grown balanced (λ k. side k ≡ Less) (λ k. side k ≢ Less) (λ less. not_less c.in-Equal.is (c.compare.ensures ∙ less))
          before after parted splits.less splits.rest (λ rest part all. e.inserted before rest part (record { less = splits.less; rest = all })));
      one_more = now.one_more;
      least = now.least;
      most = now.most;
      others = now.others;
    }
