use Rattle.std.proofs.Common.{refl, ◌∙◌, arith}
use Rattle.cfdp_order.proofs.TreeLaws.{opened, opened_at}
use Rattle.cfdp_order.proofs.TurnLaws.{joined_by, higher_left, four_left, first_pair, second_pair, both_pairs, four_listed, four_others}
use Rattle.cfdp_order.proofs.balancing.turn_left_twice.Goals as goal

pub offset_bounds-links-from-2 : goal.offset_bounds-links-from-2
offset_bounds-links-from-2 c =
    let can = c.requires.parts in let links = c.args.links.now in let right = c.args.right in
    let n_is = c.from.ensures in let tall = higher_left links right n_is refl c.requires.inner in
    let o = opened_at can.after (omega (arith, c.requires.high)) n_is in
    let i = opened_at o.is_a (omega (arith, tall)) refl in
    omega (arith, i.within, c.requires.small, c.from-2.ensures)

pub slice_copy_out-middle : goal.slice_copy_out-middle
slice_copy_out-middle c =
    let can = c.requires.parts in let links = c.args.links.now in let right = c.args.right in
    let n_is = c.from.ensures in let tall = higher_left links right n_is refl c.requires.inner in
    let o = opened_at can.after (omega (arith, c.requires.high)) n_is in
    let i = opened_at o.is_a (omega (arith, tall)) refl in
    omega (arith, i.within, c.from-2.ensures)

pub join-before-requires : goal.join-before-requires
join-before-requires c =
    let can = c.requires.parts in let links = c.args.links.now in let right = c.args.right in
    let o = opened can.after (omega (arith, c.requires.high)) c.from.ensures refl refl in
    let tall = higher_left links right c.from.ensures refl c.requires.inner in
    let i = opened o.is_a (omega (arith, tall)) c.from-2.ensures c.left.ensures refl in
    record {
      parts = first_pair (four_left can o i);
      small = c.requires.small;
      near = (omega (arith, o.high, o.near, i.high, i.near, tall, c.requires.high), omega (arith, o.high, o.near, i.high, i.near, tall, c.requires.high));
    }

pub join-after-requires : goal.join-after-requires
join-after-requires c =
    let can = c.requires.parts in let links = c.args.links.now in let right = c.args.right in
    let o = opened can.after (omega (arith, c.requires.high)) c.from.ensures refl c.right-2.ensures in
    let tall = higher_left links right c.from.ensures c.right-2.ensures c.requires.inner in
    let i = opened o.is_a (omega (arith, tall)) c.from-2.ensures c.left.ensures c.right.ensures in
    let e = c.join-before.ensures in let one = joined_by c.args.left c.left.result e.order e.nodes e.others in
    record {
      parts = second_pair (four_left can o i) one;
      small = omega (arith, e.others.long, c.requires.small);
      near = (omega (arith, o.high, o.near, i.high, i.near, tall, c.requires.high), omega (arith, o.high, o.near, i.high, i.near, tall, c.requires.high));
    }

pub join-requires : goal.join-requires
join-requires c =
    let can = c.requires.parts in let links = c.args.links.now in let right = c.args.right in
    let o = opened can.after (omega (arith, c.requires.high)) c.from.ensures refl c.right-2.ensures in
    let tall = higher_left links right c.from.ensures c.right-2.ensures c.requires.inner in
    let i = opened o.is_a (omega (arith, tall)) c.from-2.ensures c.left.ensures c.right.ensures in
    let e = c.join-before.ensures in let one = joined_by c.args.left c.left.result e.order e.nodes e.others in
    let f = c.join-after.ensures in let two = joined_by c.right.result c.right-2.result f.order f.nodes f.others in
    record {
      parts = both_pairs (four_left can o i) one two;
      small = omega (arith, e.others.long, f.others.long, c.requires.small);
      near = (
        omega (arith, o.high, o.near, i.high, i.near, tall, c.requires.high, e.height, f.height),
        omega (arith, o.high, o.near, i.high, i.near, tall, c.requires.high, e.height, f.height),
      );
    }

pub returns : goal.returns
returns c =
    let can = c.requires.parts in let links = c.args.links.now in let right = c.args.right in
    let o = opened can.after (omega (arith, c.requires.high)) c.from.ensures refl c.right-2.ensures in
    let tall = higher_left links right c.from.ensures c.right-2.ensures c.requires.inner in
    let i = opened o.is_a (omega (arith, tall)) c.from-2.ensures c.left.ensures c.right.ensures in
    let e = c.join-before.ensures in let one = joined_by c.args.left c.left.result e.order e.nodes e.others in
    let f = c.join-after.ensures in let two = joined_by c.right.result c.right-2.result f.order f.nodes f.others in
    let last = c.join.ensures in
    record {
      order = last.order;
      nodes = last.nodes ∙ four_listed (four_left can o i) one two;
      height = omega (arith, o.high, o.near, i.high, i.near, tall, c.requires.high, e.height, f.height, last.height);
      others = four_others (four_left can o i) one two last.others;
    }
