use Rattle.std.proofs.Common.{◌≡◌, true, sym, ap, ◌∙◌}
use Rattle.std.specs.Prelude.{slice_get}
use Rattle.cfdp_receiver.specs.StateMachine.{StateMachineFields}
use Rattle.cfdp_receiver.specs.Sent.{pdus_of}
use Rattle.cfdp_receiver.specs.declared.receiver.Receiver.TheInside.{Inside}
use Rattle.cfdp_receiver.proofs.PdusByNumber.{sent_is, sent_rest, sent_within}
use Rattle.cfdp_receiver.proofs.receiver.Receiver.write.Goals as goal

pub returns-clause-ok : goal.returns-clause-ok
returns-clause-ok c =
    let a = c.args in
    let s = c.seal.ensures in
    let crc : a.self.now.state.mib.has_crc ≡ true =
    ap (λ (m : StateMachineFields). m.state.mib.has_crc) (sym c.self.view_is)
    ∙ ap (λ (i : Inside). i.machine.state.mib.has_crc) (sym c.self-inside.view_is)
    ∙ c.if-not-self.false in
    let is = ap (λ (m : StateMachineFields). slice_get (pdus_of m a.answer.now) a.number) (sym c.self.view_is) ∙ c.in_ok-len.ensures.ok in
    let len = c.in_ok-len.len in
    let room = c.saturating_sub-room.result in
    sent_is a.self.now.state.mib _ a.out.now c.put-2.new.out c.seal.new.buffer len room c.unwrap_or.result c.seal.result crc is
    c.in_ok-len.ensures.room c.saturating_sub-room.ensures c.put-2.auto.out s.ok s.err s.no_room s.no_room_last s.unchanged c.unwrap_or.ensures

pub returns-clause-room : goal.returns-clause-room
returns-clause-room c =
    let s = c.seal.ensures in
    let put = c.in_ok-len.ensures in
    sent_within c.args.out.now c.put-2.new.out c.seal.new.buffer c.in_ok-len.len c.saturating_sub-room.result c.unwrap_or.result c.seal.result
    put.room c.saturating_sub-room.ensures s.ok s.whole c.unwrap_or.ensures

pub returns-clause-rest : goal.returns-clause-rest
returns-clause-rest c =
    let s = c.seal.ensures in
    let put = c.in_ok-len.ensures in
    sent_rest c.args.out.now c.put-2.new.out c.seal.new.buffer c.in_ok-len.len c.saturating_sub-room.result c.unwrap_or.result c.seal.result
    put.room c.put-2.auto.out put.rest s.whole s.rest s.unchanged c.unwrap_or.ensures
