use Rattle.core.proofs.cmp.Settled.{by_lengths}
use Rattle.std.proofs.Common.{sym, ◌∙◌}
use Rattle.cfdp_paths.proofs.octet_order.order.Goals as goal

pub returns-then-x-y : goal.returns-then-x-y
returns-then-x-y c = c.order_unequal.ensures ∙ sym (c.deciding_words-x.ensures.apart c.if-x-y.true)

pub returns : goal.returns
returns c = by_lengths c.args.a.now c.args.b.now c.min-both.result _ c.min-both.ensures (c.deciding_words-x.ensures.alike c.if-x-y.false) c.cmp.ensures
