use Rattle.std.proofs.Common.{rules, ◌≡◌, ap, ◌∙◌}
use Rattle.std.specs.Prelude.{slice_get, Some}
use Rattle.cfdp_sessions.specs.Sessions.{session_id}
use Rattle.cfdp_sessions.proofs.Names.{found_name}
use Rattle.cfdp_transactions.specs.Entry.{id_of}
use Rattle.cfdp_transactions.specs.declared.event.Event.TheVariants.{Data as DataCame}
use Rattle.cfdp_transactions.specs.Next.{next}
use Rattle.cfdp_receiver.specs.declared.indication.Became.TheVariants.{Replied}
use Rattle.cfdp_receiver.specs.StateMachine.{StateMachineFields}
use Rattle.cfdp_receiver.specs.code.StateMachine.{machine_heard, in_world, silent}
use Rattle.cfdp_receiver.proofs.OnlyKeepsData.{only_kept, indications_of}
use Rattle.cfdp_receiver.proofs.NoGap.{none_at_once}
use Rattle.cfdp_receiver.proofs.state_machine.StateMachine.keeps.Goals as goal

pub returns-clause-ok : goal.returns-clause-ok
returns-clause-ok c =
    let M = c.args.self.now in
    let W = M.state.world in
    let h = c.args.header.now in
    let p = c.args.piece.now in
    let s = c.session.result.now in
    let here : slice_get M.state.sessions c.args.index ≡ Some s = search rules in
    let found = c.requires.here.found ∙ here in
    let named : session_id s ≡ id_of h = found_name M.state.sessions (id_of h) s found in
    let before : c.self.inside.entity ≡ W = search rules in
    let handed : next W (DataCame h p) ≡ (c.file_data-reply.new.self, c.file_data-reply.result) = search rules in
    let hears : c.restarts.new.self ≡ machine_heard W (in_world (next W (DataCame h p)).0 M) s = search rules in
    let answers : c.replied.result ≡ record (silent (Replied (id_of h) (next W (DataCame h p)).1))
    { indications = indications_of (next W (DataCame h p)).1 h p } =
    search rules in
    only_kept M c.restarts.new.self c.replied.result h p s c.requires.ours found (c.requires.known s here) hears
    (none_at_once M.state s h p named (c.requires.known s here) (c.requires.receiving s here) c.requires.no_gap) answers

pub returns-clause-turns : goal.returns-clause-turns
returns-clause-turns c =
    let M = c.args.self.now in
    let W = M.state.world in
    let h = c.args.header.now in
    let p = c.args.piece.now in
    let s = c.session.result.now in
    let handed : next W (DataCame h p) ≡ (c.file_data-reply.new.self, c.file_data-reply.result) = search rules in
    let hears : c.restarts.new.self ≡ machine_heard W (in_world (next W (DataCame h p)).0 M) s = search rules in
    ap (λ (m : StateMachineFields). m.turns) hears
