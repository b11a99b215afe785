use Rattle.std.proofs.Common.{ℕ, List, length, Option, sym, ap, subst, arith}
use Rattle.std.specs.Prelude.{IfErr, IfSome}
use Rattle.cfdp_pdus.specs.Canonical.{IsHeader}
use Rattle.cfdp_pdus.specs.declared.header.Header.{Header}
use Rattle.cfdp_directives.specs.Spelling.{IsSizedAck, ack_pdu}
use Rattle.cfdp_directives.specs.declared.ack.Ack.{Ack}
use Rattle.cfdp_receiver.specs.StateMachine.{AnswerParts}
use Rattle.cfdp_receiver.specs.Sent.{IsNotWritten}
use Rattle.cfdp_receiver.proofs.PdusByNumber.{ack_short, put_enough, put_next}
use Rattle.cfdp_receiver.proofs.state_machine.StateMachine.put.Goals as goal

pub returns-clause-err : goal.returns-clause-err
returns-clause-err c =
    let a = c.args in
    let acks = ap (λ (x : AnswerParts). x.acks) (sym c.answer.view_is) in
    let e = put_next a.self.now a.answer.now c.answer.inside.ack (c.in-Some.header, c.in-Some.ack) a.number acks c.in-Some.is (omega arith) in
    subst (λ (o : Option (List ℕ)). IfErr c.put_after_ack-2.result (IsNotWritten 0 o (length a.out.now))) (sym e) c.put_after_ack-2.ensures.err

pub returns-then-number-eq0-clause-enough : goal.returns-then-number-eq0-clause-enough
returns-then-number-eq0-clause-enough c =
    let h = c.in-Some.header in
    let ack = c.in-Some.ack in
    let done = c.written.ensures in
    let fits = subst (λ (x : Option (Header × Ack)). IfSome x (λ p. IsHeader p.0 × IsSizedAck p.1)) c.in-Some.is c.answer.invariant.ack in
    put_enough (ack_pdu h ack) c.args.out.now c.put_ack.result c.written.result c.put_ack.ensures.fits done.ok done.err (ack_short h ack fits.0)
