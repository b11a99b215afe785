-- ACK, NAK, Prompt and Keep Alive PDUs: the one spelling of each (CCSDS 727.0-B-5 §5.2.4, §5.2.6 to §5.2.8).
--   ack_field, nak_field, prompt_field, keep_alive_field     the data fields
--   ack_pdu, nak_pdu, prompt_pdu, keep_alive_pdu             the whole PDUs
--   IsSizedAck, IsSizedRange, IsSizedKeepAlive               the numbers fit their fields
--   most_requests large                                      how many requests fit into the data field of a NAK PDU
use Rattle.std.specs.Prelude.{ℕ, ◌+◌, ◌*◌, ◌^◌, ◌<◌, ◌==◌, if◌then◌else◌, Bool, false, List, [], ◌∷◌, ◌++◌}
use Rattle.std.specs.List.{flat_map}
use Rattle.byteorder.specs.Endian.{big_bytes}
use Rattle.cfdp_pdus.specs.Bits.{one_if, fss}
use Rattle.cfdp_pdus.specs.Codes.{finished_code, ack_code, nak_code, prompt_code, keep_alive_code}
use Rattle.cfdp_pdus.specs.Canonical.{pdu_octets}
use Rattle.cfdp_pdus.specs.declared.header.Header.{Header}
use Rattle.cfdp_directives.specs.declared.ack.Ack.{Ack}
use Rattle.cfdp_directives.specs.declared.keep_alive.KeepAlive.{KeepAlive}
use Rattle.cfdp_directives.specs.declared.prompt.Prompt.{Prompt}
use Rattle.cfdp_directives.specs.declared.prompt.Prompt.TheVariants as prompts
use Rattle.cfdp_directives.specs.Reading.{status_code}

-- ---- ACK

pub record IsSizedAck (ack : Ack) : Type 0 where
  pub directive : ack.directive < 16
  pub condition : ack.condition < 16

-- the directive subtype code is 1 for a Finished PDU, else 0
unfoldable pub ack_field : Ack → List ℕ
ack_field ack =
    ack_code ∷ (16 * ack.directive + one_if (ack.directive == finished_code))
    ∷ (16 * ack.condition + status_code ack.status) ∷ []

abbrev pub ack_pdu : Header → Ack → List ℕ
ack_pdu header ack = pdu_octets false header (ack_field ack)

-- ---- NAK

pub record IsSizedRange (large : Bool) (range : ℕ × ℕ) : Type 0 where
  pub start : range.0 < 256 ^ fss large
  pub end : range.1 < 256 ^ fss large

abbrev pub range_octets : Bool → ℕ × ℕ → List ℕ
range_octets large range = big_bytes (fss large) range.0 ++ big_bytes (fss large) range.1

unfoldable pub nak_field : Bool → ℕ × ℕ → List (ℕ × ℕ) → List ℕ
nak_field large scope requests =
    nak_code ∷ (range_octets large scope ++ flat_map (range_octets large) requests)

-- a data field has 65,535 octets at most: the directive code, and 16 octets for the scope and for each request of a
-- large file, else 8
abbrev pub most_requests : Bool → ℕ
most_requests large = 4094 + (if large then 0 else 4096)

abbrev pub nak_pdu : Header → ℕ × ℕ → List (ℕ × ℕ) → List ℕ
nak_pdu header scope requests = pdu_octets false header (nak_field header.large scope requests)

-- ---- Prompt

abbrev pub prompt_flags : Prompt → ℕ
prompt_flags prompts.Nak = 0
prompt_flags prompts.KeepAlive = 128

unfoldable pub prompt_field : Prompt → List ℕ
prompt_field prompt = prompt_code ∷ prompt_flags prompt ∷ []

abbrev pub prompt_pdu : Header → Prompt → List ℕ
prompt_pdu header prompt = pdu_octets false header (prompt_field prompt)

-- ---- Keep Alive

pub record IsSizedKeepAlive (large : Bool) (keep_alive : KeepAlive) : Type 0 where
  pub progress : keep_alive.progress < 256 ^ fss large

unfoldable pub keep_alive_field : Bool → KeepAlive → List ℕ
keep_alive_field large keep_alive = keep_alive_code ∷ big_bytes (fss large) keep_alive.progress

abbrev pub keep_alive_pdu : Header → KeepAlive → List ℕ
keep_alive_pdu header keep_alive = pdu_octets false header (keep_alive_field header.large keep_alive)
