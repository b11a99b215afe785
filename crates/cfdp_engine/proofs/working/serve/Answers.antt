use Rattle.std.proofs.Common.{refl}
use Rattle.cfdp_engine.proofs.Serving.{adds_nothing}
use Rattle.cfdp_engine.proofs.working.serve.Goals as goal
use Rattle.cfdp_paths.proofs.Results.{on_err}

pub returns-in_err-event-in-Event-clause-stopped :
    goal.returns-in_err-event-in-Event-clause-stopped
returns-in_err-event-in-Event-clause-stopped g c = on_err _ _ (adds_nothing c.args.message.now c.args.seat.now c.args.seat.now refl)

pub returns-in_err-accept-in-Event-clause-stopped :
    goal.returns-in_err-accept-in-Event-clause-stopped
returns-in_err-accept-in-Event-clause-stopped g c = on_err _ _ (adds_nothing c.args.message.now c.args.seat.now c.accept.new.seat
    c.in_err-accept-in-Event.ensures.err)

pub returns-in_err-event-in-Pdu-clause-stopped : goal.returns-in_err-event-in-Pdu-clause-stopped
returns-in_err-event-in-Pdu-clause-stopped g c = on_err _ _ (adds_nothing c.args.message.now c.args.seat.now c.args.seat.now refl)

pub returns-in_err-hand_in-in-Pdu-clause-stopped :
    goal.returns-in_err-hand_in-in-Pdu-clause-stopped
returns-in_err-hand_in-in-Pdu-clause-stopped g c = on_err _ _ (adds_nothing c.args.message.now c.args.seat.now c.hand_in.new.seat
    c.in_err-hand_in-in-Pdu.ensures.err)
