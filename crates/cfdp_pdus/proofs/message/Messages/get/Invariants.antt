use Rattle.std.proofs.Common.{◌≡◌}
use Rattle.std.specs.Prelude.{slice_get}
use Rattle.cfdp_pdus.specs.Messages.{messages_among}
use Rattle.cfdp_pdus.proofs.message.Messages.get.Given as goal

abbrev pub invariant-messages : goal.invariant-messages
invariant-messages l = slice_get l.self l.n ≡ slice_get (messages_among l.options) l.before

abbrev pub decreases-messages : goal.decreases-messages
decreases-messages l = l.before
