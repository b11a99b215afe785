use Rattle.std.proofs.Common.{◌∷◌, [], List, ℕ, sym, ap, ◌∙◌}
use Rattle.cfdp_receiver.specs.Sent.{pdus_of}
use Rattle.cfdp_live.specs.code.Living.{with_sent}
use Rattle.cfdp_live.proofs.Making.{sent_next}
use Rattle.cfdp_live.proofs.output.Output.push_pdus.Goals as goal

pub loop-number-preserved : goal.loop-number-preserved
loop-number-preserved c =
    let R = c.args.receiver.now in
    let ok = c.in-Ok.ensures.ok in
    sent_next R.state.mib (pdus_of R c.args.answer.now) c.loop-number.number ok.0 _ c.loop-number.self c.push_pdu.new.self ok.1 c.loop-number.invariant
    (c.in_ok-push_pdu.ensures ∙ ap (λ (t : List ℕ). with_sent c.loop-number.self (t ∷ [])) (sym ok.2))
