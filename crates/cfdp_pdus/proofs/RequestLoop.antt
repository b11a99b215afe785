-- What one step over the TLV fields of a Metadata PDU reads.
use Rattle.std.proofs.Common.{◌≡◌, ℕ, List, [], ◌∷◌, true, false, eqb, Option, Some, None, Ok, Err, refl}
use Rattle.std.specs.Prelude.{IsOk}
use Rattle.cfdp_tlv.specs.Reading.{◌>>=◌}
use Rattle.cfdp_tlv.specs.Values.{RequestFields}
use Rattle.cfdp_pdus.specs.declared.fault.PduFault.{PduFault}
use Rattle.cfdp_pdus.specs.declared.fault.PduFault.TheVariants.{BadTlv}
use Rattle.cfdp_pdus.specs.Grammar.{Field}
use Rattle.cfdp_pdus.specs.First.{asked_at, requests_of}
use Rattle.cfdp_pdus.proofs.Steps.{not_refused, never_both}

pub asks : (fields after : List (Option Field)) (kind : ℕ) (value : List ℕ) (request : RequestFields) → fields ≡ Some (kind, value) ∷ after → kind ≡ 0 →
    asked_at value ≡ Ok request → requests_of fields ≡ (requests_of after >>= λ requests. Ok (request ∷ requests))
unfolding requests_of
asks fields after kind value request read zero asked =
    let is_request : eqb kind 0 ≡ true = rw zero refl in
    rw (read, is_request, asked) refl

pub passes : (fields after : List (Option Field)) (kind : ℕ) (value : List ℕ) → fields ≡ Some (kind, value) ∷ after → eqb kind 0 ≡ false →
    requests_of fields ≡ requests_of after
unfolding requests_of
passes fields after kind value read other = rw (read, other) refl

pub refused : (fields after : List (Option Field)) (kind : ℕ) (value : List ℕ) (fault : PduFault) → fields ≡ Some (kind, value) ∷ after → kind ≡ 0 →
    asked_at value ≡ Err fault → requests_of fields ≡ Err fault
unfolding requests_of
refused fields after kind value fault read zero fails =
    let is_request : eqb kind 0 ≡ true = rw zero refl in
    rw (read, is_request, fails) refl

pub cut : (fields after : List (Option Field)) → fields ≡ None ∷ after → requests_of fields ≡ Err BadTlv
unfolding requests_of
cut fields after read = rw read refl

pub none_left : (fields : List (Option Field)) → fields ≡ [] → requests_of fields ≡ Ok []
unfolding requests_of
none_left fields none = rw none refl

-- where all of them are read, the next field is whole, and so is the request in it
pub never_cut : (fields after : List (Option Field)) → fields ≡ None ∷ after → IsOk (requests_of fields) → ⊥
never_cut fields after read good = never_both (requests_of fields) BadTlv (cut fields after read) good

pub next_request : (fields after : List (Option Field)) (kind : ℕ) (value : List ℕ) → fields ≡ Some (kind, value) ∷ after → kind ≡ 0 →
    IsOk (requests_of fields) → IsOk (asked_at value)
next_request fields after kind value read zero good = not_refused (asked_at value) (requests_of fields) (λ fault. fault)
    (λ fault. refused fields after kind value fault read zero) good
