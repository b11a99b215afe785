use Rattle.std.proofs.Common.{◌+◌, ◌-◌, arith}
use Rattle.core.proofs.cmp.Settled.{word, fewer, up_to_lem, at_once}
use Rattle.cfdp_paths.proofs.octet_order.deciding_words.Goals as goal

pub returns-then-x-y : goal.returns-then-x-y
returns-then-x-y c =
    let xs = c.args.a.now in
    let ys = c.args.b.now in
    let i = c.loop-start.start in
    let here = word xs ys c.type_inv.a c.type_inv.b i 8 _ _ (omega arith) (omega arith) c.word-x.ensures c.word-y.ensures c.loop-start.invariant in
    at_once xs ys (i + 8) _ _ _ here c.if-x-y.true

pub loop-start-preserved : goal.loop-start-preserved
loop-start-preserved c =
    let xs = c.args.a.now in
    let ys = c.args.b.now in
    let i = c.loop-start.start in
    (word xs ys c.type_inv.a c.type_inv.b i 8 _ _ (omega arith) (omega arith) c.word-x.ensures c.word-y.ensures c.loop-start.invariant).alike c.if-x-y.false

pub returns : goal.returns
returns c =
    let xs = c.args.a.now in
    let ys = c.args.b.now in
    let last = c.args.both - 8 in
    up_to_lem xs ys (last + 8) _ _ _ (omega arith)
    (word xs ys c.type_inv.a c.type_inv.b last 8 _ _ (omega arith) (omega arith) c.word.ensures c.word-2.ensures
    (fewer xs ys last c.loop-start.start (omega arith) c.loop-start.invariant))
