use Rattle.std.proofs.Common.{◌+◌, ◌-◌, get_or, sym, subst, arith}
use Rattle.core.specs.Slice.Scan.{Settles}
use Rattle.core.proofs.cmp.Settled.{word, one, fewer, up_to_lem, at_once}
use Rattle.cfdp_paths.proofs.octet_order.deciding_octets.Goals as goal

pub returns-then-x-y : goal.returns-then-x-y
returns-then-x-y c =
    let xs = c.args.a.now in
    let ys = c.args.b.now in
    let front = word xs ys c.type_inv.a c.type_inv.b 0 4 _ _ (omega arith) (omega arith) c.half_word-x.ensures c.half_word-y.ensures
    (λ k l m. absurd (omega arith)) in
    at_once xs ys 4 _ _ _ front c.if-x-y.true

pub returns-then-both-ge4 : goal.returns-then-both-ge4
returns-then-both-ge4 c =
    let xs = c.args.a.now in
    let ys = c.args.b.now in
    let read = word xs ys c.type_inv.a c.type_inv.b in
    let front = read 0 4 _ _ (omega arith) (omega arith) c.half_word-x.ensures c.half_word-y.ensures (λ k l m. absurd (omega arith)) in
    let next = c.args.both - 4 in
    up_to_lem xs ys (next + 4) _ _ _ (omega arith)
    (read next 4 _ _ (omega arith) (omega arith) c.half_word.ensures c.half_word-then-both-ge4.ensures
    (fewer xs ys next 4 (omega arith) (front.alike c.if-x-y.false)))

pub returns-then-x-y-2 : goal.returns-then-x-y-2
returns-then-x-y-2 c =
    let xs = c.args.a.now in
    let ys = c.args.b.now in
    let i = c.loop-index.index in
    let here = one xs ys c.type_inv.a c.type_inv.b i (omega arith) (omega arith) c.loop-index.invariant in
    at_once xs ys (i + 1) _ c.from-x.result c.from-y.result
    (subst (λ y. Settles xs ys (i + 1) c.from-x.result y) (sym c.from-y.ensures)
    (subst (λ x. Settles xs ys (i + 1) x (get_or ys i 0)) (sym c.from-x.ensures) here)) c.if-x-y-2.true

pub loop-index-preserved : goal.loop-index-preserved
loop-index-preserved c =
    let xs = c.args.a.now in
    let ys = c.args.b.now in
    let i = c.loop-index.index in
    let here = one xs ys c.type_inv.a c.type_inv.b i (omega arith) (omega arith) c.loop-index.invariant in
    (subst (λ y. Settles xs ys (i + 1) c.from-x.result y) (sym c.from-y.ensures)
    (subst (λ x. Settles xs ys (i + 1) x (get_or ys i 0)) (sym c.from-x.ensures) here)).alike c.if-x-y-2.false
