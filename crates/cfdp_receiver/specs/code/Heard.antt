-- What only the proofs of the code need of `Heard`.
--     input_of now directed     the input that a PDU is that was read and is no File Data PDU
--     IsHearable directed       what is read can be handed in
use Rattle.std.specs.Prelude.{⊤, ℕ}
use Rattle.cfdp_pdus.specs.Canonical.{IsHeader, IsSizedEof}
use Rattle.cfdp_transactions.specs.declared.event.Event.TheVariants.{Metadata as MetadataCame}
use Rattle.cfdp_transactions.specs.Writable.{IsReadable}
use Rattle.cfdp_receiver.specs.declared.reading.Directed.{Directed}
use Rattle.cfdp_receiver.specs.declared.reading.Directed.TheVariants as directed
use Rattle.cfdp_receiver.specs.State.{Input, MetadataPdu, EofPdu, AckPdu, PromptPdu, OtherPdu}

abbrev pub input_of : ℕ → Directed → Input
input_of now (directed.Metadata h m) = MetadataPdu now h m
input_of now (directed.Eof h eof) = EofPdu now h eof
input_of now (directed.Ack h ack) = AckPdu now h ack
input_of now (directed.Prompt h prompt) = PromptPdu now h prompt
input_of now (directed.Other h) = OtherPdu now h

-- what is read can be handed in
abbrev pub IsHearable : Directed → Type 0
IsHearable (directed.Metadata h m) = IsReadable (MetadataCame h m)
IsHearable (directed.Eof h eof) = IsHeader h × IsSizedEof h.large eof
IsHearable other = ⊤
