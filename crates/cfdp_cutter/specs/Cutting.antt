-- How a stream of octets is cut into PDUs, of which each says its length by its header (CCSDS 727.0-B-5 §5.1).
--     pdu_len octets        how many octets the PDU has that these begin; None where they are fewer than 4
--     longest_pdu           how many octets a PDU has at most
--     begins_pdu octets     they can begin a PDU: the version is 001
--     First, first_pdu      what a stream begins with: a whole PDU, and what is after it; a PDU that is not whole yet,
--                           or nothing; or what is no PDU, so that it cannot be known where the next one begins
--     Cut, cut              all PDUs that are whole in a stream, and what is after them
--     followed a b          the PDUs of both, and what is after the second
--     IsNotCut stream why   why a stream is cut no further
use Rattle.std.specs.Prelude.{◌≡◌, ℕ, zero, suc, ◌+◌, ◌*◌, ◌/◌, ◌==◌, nat_lt, Bool, true, if◌then◌else◌, List, [], ◌∷◌, ◌++◌, length, take, drop, Option, Some, None}
use Rattle.cfdp_crc.specs.Seal.{header_len}
use Rattle.cfdp_cutter.specs.declared.cutter.CutFault.{CutFault}
use Rattle.cfdp_cutter.specs.declared.cutter.CutFault.TheVariants.{Version, Memory}

abbrev pub pdu_len : List ℕ → Option ℕ
pdu_len (first ∷ high ∷ low ∷ fourth ∷ rest) = Some (header_len fourth + (256 * high + low))
pdu_len octets = None

-- a header of 28 octets, and a data field of 65,535
abbrev pub longest_pdu : ℕ
longest_pdu = 65563

abbrev pub begins_pdu : List ℕ → Bool
begins_pdu [] = true
begins_pdu (first ∷ rest) = first / 32 == 1

pub data First : Type 0 where
  Whole : (pdu rest : List ℕ) → First
  Open : First
  Lost : First

abbrev pub first_by : Option ℕ → List ℕ → First
first_by None stream = Open
first_by (Some len) stream = if nat_lt (length stream) len then Open else Whole (take len stream) (drop len stream)

unfoldable pub first_pdu : List ℕ → First
first_pdu stream = if begins_pdu stream then first_by (pdu_len stream) stream else Lost

-- ---- all of a stream

pub record Cut : Type 0 where
  pub pdus : List (List ℕ)
  pub rest : List ℕ

abbrev pub uncut : List ℕ → Cut
uncut stream = record { pdus = []; rest = stream }

abbrev pub cut_next : First → List ℕ → (List ℕ → Cut) → Cut
cut_next (Whole pdu rest) stream later = record { pdus = pdu ∷ (later rest).pdus; rest = (later rest).rest }
cut_next Open stream later = uncut stream
cut_next Lost stream later = uncut stream

-- at most this many PDUs
unfoldable pub cut_some : ℕ → List ℕ → Cut
cut_some zero stream = uncut stream
cut_some (suc count) stream = cut_next (first_pdu stream) stream (cut_some count)

-- each has an octet at least
unfoldable pub cut : List ℕ → Cut
cut stream = cut_some (length stream) stream

abbrev pub followed : Cut → Cut → Cut
followed a b = record { pdus = a.pdus ++ b.pdus; rest = b.rest }

abbrev pub IsNotCut : List ℕ → CutFault → Type 0
IsNotCut stream Version = first_pdu stream ≡ Lost
IsNotCut stream Memory = Unit {0}
