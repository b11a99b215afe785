use Rattle.std.proofs.Common.{◌≡◌, ◌≢◌, refl, sym, ◌∙◌, subst, arith}
use Rattle.std.specs.Prelude.{All}
use Rattle.std.specs.declared.cmp.Ordering.TheVariants.{Greater}
use Rattle.cfdp_order.specs.Orders.{nodes, links_at, left_of, right_of}
use Rattle.cfdp_order.proofs.TreeLaws.{opened, opened_at, no_nodes}
use Rattle.cfdp_order.proofs.TestLaws.{some_levels, not_greater}
use Rattle.cfdp_order.proofs.SplitLaws.{All_left, All_right, All_at}
use Rattle.cfdp_order.proofs.SearchLaws.{reach_right, reach_left, reach_end}
use Rattle.cfdp_order.proofs.searching.first_after.Goals as goal

pub offset_bounds-links-from : goal.offset_bounds-links-from
offset_bounds-links-from g c =
    let o = opened_at c.loop-part.invariant.order (some_levels c.loop-part-test.ensures.1) c.from.ensures in
    omega (arith, o.within, c.requires.small, c.from.ensures)

pub bounds-links-from : goal.bounds-links-from
bounds-links-from g c =
    let o = opened_at c.loop-part.invariant.order (some_levels c.loop-part-test.ensures.1) c.from.ensures in omega (arith, o.within, c.from.ensures)

pub compare-requires : goal.compare-requires
compare-requires g c =
    let links = c.args.links.now in let n = c.from.result in let K = g.S.Sought.can_compare c.args.sought.now in
    let o = opened_at c.loop-part.invariant.order (some_levels c.loop-part-test.ensures.1) c.from.ensures in
    All_at K (nodes links (left_of (links_at links n))) c.loop-part.part.root (nodes links (right_of (links_at links n)))
    (subst (All K) o.listed c.loop-part.invariant.known)

pub loop-part-preserved-in-Less : goal.loop-part-preserved-in-Less
loop-part-preserved-in-Less g c =
    let links = c.args.links.now in let l = c.loop-part in let root = l.part.root in let inv = l.invariant in
    let a = nodes links (left_of (links_at links c.from.result)) in let b = nodes links c.right-part.result in
    let o = opened inv.order (some_levels c.loop-part-test.ensures.1) c.from.ensures refl c.right-part.ensures in
    let K = g.S.Sought.can_compare c.args.sought.now in let side = g.S.Sought.side c.args.sought.now in
    record {
      order = o.is_b;
      known = All_right K a root b (subst (All K) o.listed inv.known);
      reached = (λ before after parted splits.
          reach_right (λ k. side k ≢ Greater) (λ k. side k ≡ Greater) (nodes links l.part) a root b l.next after o.listed
          (λ more. not_greater c.in-Less.is (c.compare.ensures ∙ more)) (inv.reached before after parted splits));
    }

pub loop-part-preserved : goal.loop-part-preserved
loop-part-preserved g c =
    let links = c.args.links.now in let l = c.loop-part in let root = l.part.root in let inv = l.invariant in
    let a = nodes links c.left-part.result in let b = nodes links (right_of (links_at links c.from.result)) in
    let o = opened inv.order (some_levels c.loop-part-test.ensures.1) c.from.ensures c.left-part.ensures refl in
    let K = g.S.Sought.can_compare c.args.sought.now in let side = g.S.Sought.side c.args.sought.now in
    record {
      order = o.is_a;
      known = All_left K a root b (subst (All K) o.listed inv.known);
      reached = (λ before after parted splits.
          reach_left (λ k. side k ≢ Greater) (λ k. side k ≡ Greater) (nodes links l.part) a root b l.next after o.listed
          (λ apart. apart (sym c.in-Greater.ensures)) (inv.reached before after parted splits));
    }

pub returns : goal.returns
returns g c before after parted splits =
    let links = c.args.links.now in let l = c.loop-part in let side = g.S.Sought.side c.args.sought.now in
    let none = no_nodes links l.part (c.loop-part-test.ensures.0 refl) in
    reach_end (λ k. side k ≢ Greater) (λ k. side k ≡ Greater) (nodes links l.part) l.next after none (l.invariant.reached before after parted splits)
