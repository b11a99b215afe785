use Rattle.std.proofs.Common.{ℕ, List, ap, sym}
use Rattle.std.specs.Prelude.{slice_get}
use Rattle.cfdp_pdus.specs.Messages.{messages_among}
use Rattle.cfdp_pdus.proofs.MessageSteps.{one_less, last_of_them, not_that_many}
use Rattle.cfdp_pdus.proofs.message.Messages.get.Goals as goal

pub messages-init : goal.messages-init
messages-init c = ap (λ (ms : List (List ℕ)). slice_get ms c.args.n) (sym c.self.view_is)

pub messages-preserved : goal.messages-preserved
messages-preserved c =
    one_less c.args.self.now (messages_among c.messages.options.now) _ _ c.args.n c.messages.before c.messages.invariant
    c.in_ok-passed.ensures.some c.messages-test.true

pub returns-in_err-passed : goal.returns-in_err-passed
returns-in_err-passed c =
    rw c.from_residual.ensures (not_that_many c.args.self.now (messages_among c.messages.options.now) c.args.n c.messages.before c.messages.invariant
    c.in_err-passed.ensures.none)

pub returns-in_err-first : goal.returns-in_err-first
returns-in_err-first c =
    rw c.from_residual-in_err-first.ensures (not_that_many c.args.self.now (messages_among c.messages.options.now) c.args.n c.messages.before
    c.messages.invariant c.in_err-first.ensures.none)

pub returns : goal.returns
returns c =
    last_of_them c.args.self.now (messages_among c.messages.options.now) _ _ c.args.n c.messages.before c.messages.invariant
    c.in_ok-first.ensures.some c.messages-test.false
