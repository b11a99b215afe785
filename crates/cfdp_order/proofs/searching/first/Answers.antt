use Rattle.std.proofs.Common.{refl, sym, ap, ◌∙◌, arith}
use Rattle.std.specs.Prelude.{slice_get}
use Rattle.std.specs.Option.{option_or}
use Rattle.cfdp_order.specs.Orders.{nodes, links_at, right_of}
use Rattle.cfdp_order.proofs.TreeLaws.{opened, opened_at, no_nodes}
use Rattle.cfdp_order.proofs.TestLaws.{some_levels}
use Rattle.cfdp_order.proofs.SearchLaws.{first_left}
use Rattle.cfdp_order.proofs.searching.first.Goals as goal

pub offset_bounds-links-from : goal.offset_bounds-links-from
offset_bounds-links-from c =
    let o = opened_at c.loop-found.invariant.order (some_levels c.loop-found-test.ensures.1) c.from.ensures in
    omega (arith, o.within, c.requires.small, c.from.ensures)

pub bounds-links-from : goal.bounds-links-from
bounds-links-from c =
    let o = opened_at c.loop-found.invariant.order (some_levels c.loop-found-test.ensures.1) c.from.ensures in omega (arith, o.within, c.from.ensures)

pub loop-found-preserved : goal.loop-found-preserved
loop-found-preserved c =
    let links = c.args.links.now in let l = c.loop-found in let a = c.left-part.result in let b = right_of (links_at links c.from.result) in
    let o = opened l.invariant.order (some_levels c.loop-found-test.ensures.1) c.from.ensures c.left-part.ensures refl in
    record {
      order = o.is_a;
      first = first_left (nodes links a) l.part.root (nodes links b) l.found ∙ ap (λ k. option_or (slice_get k 0) l.found) (sym o.listed) ∙ l.invariant.first;
    }

pub loop-found-smaller : goal.loop-found-smaller
loop-found-smaller c =
    let o = opened c.loop-found.invariant.order (some_levels c.loop-found-test.ensures.1) c.from.ensures c.left-part.ensures refl in omega (arith, o.high)

pub returns : goal.returns
returns c =
    let l = c.loop-found in
    ap (λ k. option_or (slice_get k 0) l.found) (sym (no_nodes c.args.links.now l.part (c.loop-found-test.ensures.0 refl))) ∙ l.invariant.first
