use Rattle.std.proofs.Common.{not, sym, ap, ◌∙◌}
use Rattle.std.proofs.lemmas.Bool.{ne_eqb}
use Rattle.cfdp_receiver.specs.Handing.{is_list_begun}
use Rattle.cfdp_receiver.proofs.ListGoesOn.{eof_begun}
use Rattle.cfdp_receiver.proofs.state_machine.StateMachine.eof_of_known.Goals as goal

pub returns-then-is_list_begun : goal.returns-then-is_list_begun
returns-then-is_list_begun c =
    let M = c.args.self.now in
    let begun =
    ap (is_list_begun M.state) (sym c.transaction_of.ensures) ∙ sym c.is_list_begun.ensures ∙ c.if-is_list_begun.true in
    eof_begun M c.acks_only.result c.args.header.now c.args.eof c.args.index c.requires.ours c.requires.here c.requires.known
    (ap not (ne_eqb c.args.eof.condition 0 c.if-eof-ne-NO_ERROR.true)) begun
    (c.acks_only.ensures M)
