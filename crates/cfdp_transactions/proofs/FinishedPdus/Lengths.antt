-- The lengths of a Finished PDU, in the words in which it is written: where requests are short, its fields fit, and it has at most
-- 16488 octets.
use Rattle.std.proofs.Common.{◌≡◌, ℕ, zero, suc, ◌+◌, ◌*◌, ◌≤◌, List, [], ◌∷◌, length, refl, arith}
use Rattle.std.specs.Prelude.{Option, Some, None, true, false, nat_le}
use Rattle.std.specs.Int.{bytes_high_first}
use Rattle.std.specs.List.{AllByRecursion, flat_map, list_all}
use Rattle.std.proofs.lemmas.Bool.{and_from, le-leb}
use Rattle.std.proofs.lemmas.List.{length-append}
use Rattle.cfdp_status.specs.declared.status.Status.{Status}
use Rattle.cfdp_status.specs.declared.status.Status.TheVariants.{NotPerformed}
use Rattle.cfdp_tlv.specs.Field.{lv}
use Rattle.cfdp_tlv.specs.Values.{RequestFields}
use Rattle.cfdp_tlv.specs.Grammar.{names_as_lv, request_octets, response_octets}
use Rattle.cfdp_pdus.specs.declared.header.Header.{Header}
use Rattle.cfdp_pdus.specs.Values.{FinishedFields}
use Rattle.cfdp_pdus.specs.Canonical.{response_field, fault_location, is_short_response, finished_field, finished_fits, pdu_octets}
use Rattle.cfdp_pdus.proofs.WriteSteps.{pdu_len}
use Rattle.cfdp_transactions.specs.Outcome.{answered, responses_of}
use Rattle.cfdp_transactions.specs.Writable.{IsShort, longest_finished}

-- the message, of length 0
response_len : (r : RequestFields) (s : Status) → length (response_octets (answered r s)) ≡ suc (length (request_octets r))
response_len r s = omega (arith, length-append (names_as_lv r.first r.second) (lv []))

response_short : (r : RequestFields) (s : Status) → IsShort r → is_short_response (answered r s) ≡ true
response_short r s h = le-leb _ _ (omega (arith, response_len r s))

pub responses_short : (rs : List RequestFields) (ss : List Status) → AllByRecursion IsShort rs → list_all is_short_response (responses_of rs ss) ≡ true
responses_short [] ss h = refl
responses_short (r ∷ rs) [] h = and_from _ _ (response_short r (NotPerformed r.action) h.0) (responses_short rs [] h.1)
responses_short (r ∷ rs) (s ∷ ss) h = and_from _ _ (response_short r s h.0) (responses_short rs ss h.1)

-- a type octet and a length octet more
responses_len : (rs : List RequestFields) (ss : List Status) → AllByRecursion IsShort rs →
    length (flat_map response_field (responses_of rs ss)) ≤ 257 * length rs
responses_len [] ss h = omega arith
responses_len (r ∷ rs) [] h =
    let s = NotPerformed r.action in
    omega (arith, h.0, response_len r s, responses_len rs [] h.1, length-append (response_field (answered r s)) (flat_map response_field (responses_of rs [])))
responses_len (r ∷ rs) (s ∷ ss) h =
    omega (arith, h.0, response_len r s, responses_len rs ss h.1, length-append (response_field (answered r s)) (flat_map response_field (responses_of rs ss)))

length-bytes : (n x : ℕ) → length (bytes_high_first n x) ≡ n
length-bytes zero x = refl
length-bytes (suc n) x = let e = length-bytes n x in omega (arith, e)

fault_len : (id_len : ℕ) (fault : Option ℕ) → length (fault_location id_len fault) ≤ 2 + id_len
fault_len id_len None = omega arith
fault_len id_len (Some entity) = omega (arith, length-bytes id_len entity)

-- 2 octets, 64 responses of 257, and a fault location of 10
field_len : (header : Header) (f : FinishedFields) (rs : List RequestFields) (ss : List Status) → f.responses ≡ responses_of rs ss → header.id_len ≤ 8 →
    length rs ≤ 64 → AllByRecursion IsShort rs →
    length (finished_field header f) ≤ 16460
unfolding finished_field
field_len header f rs ss is short few h =
    rw is (omega (
      arith,
      fault_len header.id_len f.fault,
      responses_len rs ss h,
      length-append (flat_map response_field (responses_of rs ss)) (fault_location header.id_len f.fault),
    ))

module _ (header : Header) (f : FinishedFields) (rs : List RequestFields) (ss : List Status) (is : f.responses ≡ responses_of rs ss) (short : header.id_len ≤ 8)
    (few : length rs ≤ 64) (h : AllByRecursion IsShort rs) where
  pub fields_fit : finished_fits header f ≡ true
  unfolding finished_fits
  fields_fit =
      let field = length (finished_field header f) in
      and_from (list_all is_short_response f.responses) (nat_le field 65535) (rw is (responses_short rs ss h))
      (le-leb field 65535 (omega (arith, field_len header f rs ss is short few h)))

  pub octets_fit : header.number_len ≤ 8 → length (pdu_octets false header (finished_field header f)) ≤ longest_finished
  octets_fit number = omega (arith, pdu_len false header (finished_field header f), field_len header f rs ss is short few h)
