use Rattle.std.proofs.Common.{◌∷◌, ◌++◌, refl, sym, ap, ◌∙◌, arith}
use Rattle.cfdp_order.specs.declared.links.Order.{Order}
use Rattle.cfdp_order.specs.Orders.{nodes}
use Rattle.cfdp_order.proofs.TreeLaws.{opened, no_nodes}
use Rattle.cfdp_order.proofs.TestLaws.{some_levels}
use Rattle.cfdp_order.proofs.GrowthLaws.{Balanced}
use Rattle.cfdp_order.proofs.ShrinkLaws.{Shrunk, taken, left_can, left_listed, shrunk_left}
use Rattle.cfdp_order.proofs.removing.+take_first.Goals as goal

pub returns-then-is_empty : goal.returns-then-is_empty
returns-then-is_empty t c =
    let links = c.args.links.now in let none = c.if-is_empty.ensures.0 refl in
    let o = opened c.requires.order c.requires.some c.from.ensures c.left.ensures c.right.ensures in
    record {
      order = o.is_b;
      nodes = o.listed ∙ (λ i. no_nodes links c.left.result none i ++ c.args.order.root ∷ nodes links c.right.result);
      least = omega (arith, o.high, o.near, none);
      most = omega (arith, o.high, o.near, none);
      others = record { long = refl; same = (λ n none. refl) };
    }

pub take_first-front-requires : goal.take_first-front-requires
take_first-front-requires t c =
    let o = opened c.requires.order c.requires.some c.from.ensures c.left-2.ensures refl in
    let same = ap (λ (q : Order). q.height) (c.left.ensures ∙ sym c.left-2.ensures) in
    (omega (arith, o.high, c.decreases), (o.is_a, (omega (arith, same, some_levels c.if-is_empty.ensures.1), c.requires.small)))

pub balance-requires : goal.balance-requires
balance-requires t c =
    let is = c.requires.order in let front = c.take_first-front in let e = front.ensures in
    let o = opened is c.requires.some c.from.ensures c.left-2.ensures c.right-2.ensures in
    let shrunk : Shrunk c.args.links.now front.new.links c.left-2.result front.result.rest = taken front.result.node e.nodes e.order e.least e.most e.others in
    record {
      parts = left_can is o shrunk;
      small = omega (arith, e.others.long, c.requires.small);
      left = omega (arith, o.near, e.most);
      right = omega (arith, o.near, e.least);
    }

pub returns : goal.returns
returns t c =
    let is = c.requires.order in let front = c.take_first-front in let e = front.ensures in
    let o = opened is c.requires.some c.from.ensures c.left-2.ensures c.right-2.ensures in
    let shrunk : Shrunk c.args.links.now front.new.links c.left-2.result front.result.rest = taken front.result.node e.nodes e.order e.least e.most e.others in
    let f = c.balance.ensures in let root = c.args.order.root in
    let balanced : Balanced front.new.links c.balance.new.links front.result.rest root c.right-2.result c.balance.result =
    record { is = f.order; listed = f.nodes; near = f.near; least = f.least; most = f.most; others = f.others } in
    let now = shrunk_left is o shrunk balanced in
    record {
      order = now.is;
      nodes = o.listed ∙ (λ i. e.nodes i ++ root ∷ nodes c.args.links.now c.right-2.result)
          ∙ (λ i. front.result.node ∷ sym (left_listed is o shrunk balanced) i);
      least = now.least;
      most = now.most;
      others = now.others;
    }
