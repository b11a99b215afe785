-- The octets of the PDUs that are sent.
--     pdus_of M a               those of an answer without a CRC, in order
--     as_sent mib octets        with a CRC, where PDUs that are sent have one (§5.1)
--     IsNotWritten              why a PDU of the last answer was not written;  IsNotSent: of any answer
--     OnlyTheLast               an answer is the last one until the next turn
use Rattle.std.specs.Prelude.{◌≡◌, ⊤, ℕ, ◌+◌, ◌^◌, ◌<◌, Bool, true, false, if◌then◌else◌, List, ◌++◌, length, map, Option, Some, None, Result, Ok, Err}
use Rattle.cfdp_crc.specs.Seal.{sealed}
use Rattle.cfdp_crc.specs.declared.sealing.SealFault.{SealFault}
use Rattle.cfdp_directives.specs.Spelling.{ack_pdu, nak_pdu, keep_alive_pdu}
use Rattle.cfdp_receiver.specs.declared.mib.Mib.{Mib}
use Rattle.cfdp_receiver.specs.declared.receiver.NotWritten.{NotWritten}
use Rattle.cfdp_receiver.specs.declared.receiver.NotWritten.TheVariants as not_written
use Rattle.cfdp_receiver.specs.StateMachine.{StateMachineFields, AnswerParts, finished_for, is_last, turn_after}

abbrev pub pdus_of : StateMachineFields → AnswerParts → List (List ℕ)
pdus_of M a =
    map (λ ack. ack_pdu ack.0 ack.1) a.acks
    ++ map (λ nak. nak_pdu nak.header nak.scope nak.requests) a.naks
    ++ map (λ keep_alive. keep_alive_pdu keep_alive.0 keep_alive.1) a.keep_alives
    ++ map (finished_for M) a.finished

-- a PDU that can get no CRC goes out without one
abbrev pub sealed_or : List ℕ → Result (List ℕ) SealFault → List ℕ
sealed_or octets (Ok whole) = whole
sealed_or octets (Err fault) = octets

abbrev pub as_sent : Mib → List ℕ → List ℕ
as_sent mib octets = if mib.has_crc then sealed_or octets (sealed octets) else octets

abbrev pub crc_len : Mib → ℕ
crc_len mib = if mib.has_crc then 2 else 0

-- there is no PDU of this number, or the buffer is too short for it; the answer is the last one
abbrev pub IsNotWritten : ℕ → Option (List ℕ) → ℕ → NotWritten → Type 0
IsNotWritten crc pdu room not_written.NotLast = ⊥
IsNotWritten crc None room not_written.NoMore = ⊤
IsNotWritten crc (Some octets) room not_written.NoMore = ⊥
IsNotWritten crc None room not_written.TooShort = ⊥
IsNotWritten crc (Some octets) room not_written.TooShort = room < length octets + crc

abbrev pub IsNotSent : Bool → ℕ → Option (List ℕ) → ℕ → NotWritten → Type 0
IsNotSent false crc pdu room why = why ≡ not_written.NotLast
IsNotSent true crc pdu room why = IsNotWritten crc pdu room why

abbrev pub OnlyTheLast : Type 0
OnlyTheLast = (M N : StateMachineFields) (a : AnswerParts) → M.turns < 2 ^ 64 → N.turns ≡ turn_after M.turns →
    is_last M a ≡ true → is_last N a ≡ false

-- a Finished PDU of 16,488 octets and its CRC
abbrev pub longest_sealed : ℕ
longest_sealed = 16490
