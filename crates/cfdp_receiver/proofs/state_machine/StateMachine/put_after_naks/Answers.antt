use Rattle.std.specs.Prelude.{IfSome, Option}
use Rattle.std.proofs.Common.{subst}
use Rattle.cfdp_pdus.specs.Canonical.{IsHeader}
use Rattle.cfdp_pdus.specs.declared.header.Header.{Header}
use Rattle.cfdp_directives.specs.Spelling.{IsSizedKeepAlive, keep_alive_pdu}
use Rattle.cfdp_directives.specs.declared.keep_alive.KeepAlive.{KeepAlive}
use Rattle.cfdp_receiver.proofs.PdusByNumber.{keep_alive_short, put_enough}
use Rattle.cfdp_receiver.proofs.state_machine.StateMachine.put_after_naks.Goals as goal

pub returns-then-number-eq0-clause-enough : goal.returns-then-number-eq0-clause-enough
returns-then-number-eq0-clause-enough c =
    let h = c.in-Some.header in
    let k = c.in-Some.keep_alive in
    let done = c.written.ensures in
    let fits = subst (λ (x : Option (Header × KeepAlive)). IfSome x (λ p. IsHeader p.0 × IsSizedKeepAlive p.0.large p.1)) c.in-Some.is
    c.answer.invariant.keep_alive in
    put_enough (keep_alive_pdu h k) c.args.out.now c.put_keep_alive.result c.written.result c.put_keep_alive.ensures.fits done.ok done.err
    (keep_alive_short h k fits.0)
