-- The responses of a Finished PDU, one after another, as octets in a buffer.
use Rattle.std.proofs.Common.{◌≡◌, ℕ, suc, ◌+◌, ◌-◌, ◌≤◌, ◌<◌, List, [], ◌∷◌, length, drop, true, refl, ap, sym, ◌∙◌, arith, get_or, add-one}
use Rattle.std.specs.List.{flat_map, list_all}
use Rattle.std.proofs.lemmas.List.{length-append}
use Rattle.std.proofs.Math.Seq.{drop-cons}
use Rattle.std.proofs.lemmas.Bool.{and_parts}
use Rattle.cfdp_status.specs.declared.status.Status.{Status}
use Rattle.cfdp_tlv.specs.Values.{RequestFields, ResponseFields}
use Rattle.cfdp_pdus.specs.declared.header.Header.{Header}
use Rattle.cfdp_pdus.specs.Values.{FinishedFields}
use Rattle.cfdp_pdus.specs.Canonical.{finished_fits, is_short_response, response_field}
use Rattle.cfdp_pdus.specs.BufferParts.{with_octets_at}
use Rattle.cfdp_pdus.proofs.BufferParts.{overwritten-overwritten}
use Rattle.cfdp_transactions.specs.code.FinishedInBuffer.{unperformed_field}
use Rattle.cfdp_transactions.specs.Outcome.{answered, responses_of}
use Rattle.cfdp_transactions.specs.code.TakenOutcome.{statuses_of}
use Rattle.cfdp_transactions.proofs.KeptTable.EntryTakenOut.{one_response, status_at}

-- the responses to the requests from an index on
abbrev pub responses_from : List RequestFields → ℕ → ℕ → List ResponseFields
responses_from requests performed index = responses_of (drop index requests) (statuses_of (performed - index) (drop index requests))

pub next_is : (requests : List RequestFields) (performed index : ℕ) (r : RequestFields) → index < length requests → r ≡ get_or requests index r →
    responses_from requests performed index ≡ answered r (status_at (performed - index) r) ∷ responses_from requests performed (index + 1)
next_is requests performed index r there is =
    let rest = drop (suc index) requests in
    let here : drop index requests ≡ r ∷ rest = drop-cons requests index r there ∙ ap (λ (q : RequestFields). q ∷ rest) (sym is) in
    let less : performed - index - 1 ≡ performed - (index + 1) = omega arith in
    ap (λ (rs : List RequestFields). responses_of rs (statuses_of (performed - index) rs)) here ∙ one_response (performed - index) r rest
    ∙ rw (less, add-one) refl

-- where those left follow those written, they still do after one more
pub one_more : (out new buffer : List ℕ) (at end next : ℕ) (x : ResponseFields) (rest all : List ResponseFields) → end ≤ length out →
    with_octets_at out end (flat_map response_field (x ∷ rest)) ≡ with_octets_at buffer at (flat_map response_field all) →
    new ≡ with_octets_at out end (response_field x) → next ≡ end + length (response_field x) →
    with_octets_at new next (flat_map response_field rest) ≡ with_octets_at buffer at (flat_map response_field all)
one_more out new buffer at end next x rest all within whole is_new same =
    let octets = flat_map response_field rest in
    ap (λ (t : List ℕ). with_octets_at t next octets) is_new ∙ overwritten-overwritten out (response_field x) octets end next within same ∙ whole

-- lengths -----------------------------------------------------------------------------

-- whether a request was performed makes no difference
pub answers_len : (requests : List RequestFields) (statuses : List Status) →
    length (flat_map response_field (responses_of requests statuses)) ≡ length (flat_map unperformed_field requests)
answers_len [] statuses = refl
answers_len (r ∷ requests) [] = omega (
  arith,
  length-append (unperformed_field r) (flat_map response_field (responses_of requests [])),
  length-append (unperformed_field r) (flat_map unperformed_field requests),
  answers_len requests [],
)
answers_len (r ∷ requests) (s ∷ statuses) =
    let same : length (response_field (answered r s)) ≡ length (unperformed_field r) = refl in
    omega (
      arith,
      same,
      length-append (response_field (answered r s)) (flat_map response_field (responses_of requests statuses)),
      length-append (unperformed_field r) (flat_map unperformed_field requests),
      answers_len requests statuses,
    )

pub all_short : (header : Header) (finished : FinishedFields) → finished_fits header finished ≡ true → list_all is_short_response finished.responses ≡ true
unfolding finished_fits
all_short header finished fits = (and_parts _ _ fits).0
