use Rattle.std.proofs.Common.{◌≡◌, length}
use Rattle.cfdp_pdus.specs.Messages.{messages_among}
use Rattle.cfdp_pdus.proofs.message.first_message.Given as goal

abbrev pub invariant-fields : goal.invariant-fields
invariant-fields l = messages_among l.octets ≡ messages_among l.rest

abbrev pub decreases-fields : goal.decreases-fields
decreases-fields l = length l.rest
