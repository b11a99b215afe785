use Rattle.std.proofs.Common.{sym, ap, subst, ◌∙◌}
use Rattle.std.specs.Prelude.{map, slice_get, is_some}
use Rattle.cfdp_transactions.specs.Entry.{name_of}
use Rattle.cfdp_transactions.specs.World.{World}
use Rattle.cfdp_receiver.specs.code.StateMachine.{IsWholeReceiver}
use Rattle.cfdp_receiver.proofs.CallsAnswer.{none_named}
use Rattle.cfdp_receiver.proofs.StaysWhole.{whole_begin}
use Rattle.cfdp_receiver.proofs.receiver.Receiver.new.Goals as goal

pub invariant_of-result : goal.invariant_of-result
invariant_of-result c =
    let W = c.args.entity in
    let none =
    ap (λ (X : World). is_some (slice_get (map name_of X.table) 0)) (sym c.core.ensures) ∙ ap is_some (sym c.transaction_at.ensures) ∙ sym c.is_some.ensures
    ∙ c.if-is_some.false in
    subst IsWholeReceiver (sym c.new-in-Ok.ensures.state) (whole_begin c.args.mib W (none_named W.table none))

pub returns-in-Err-clause-err : goal.returns-in-Err-clause-err
returns-in-Err-clause-err c =
    let W = c.args.entity in
    let none =
    ap (λ (X : World). is_some (slice_get (map name_of X.table) 0)) (sym c.core.ensures) ∙ ap is_some (sym c.transaction_at.ensures) ∙ sym c.is_some.ensures
    ∙ c.if-is_some.false in
    (sym c.fault.ensures.fault ∙ c.in_default.is, none_named W.table none)

pub returns-in-Ok-clause-free : goal.returns-in-Ok-clause-free
returns-in-Ok-clause-free c =
    let W = c.args.entity in
    let none =
    ap (λ (X : World). is_some (slice_get (map name_of X.table) 0)) (sym c.core.ensures) ∙ ap is_some (sym c.transaction_at.ensures) ∙ sym c.is_some.ensures
    ∙ c.if-is_some.false in
    none_named W.table none
