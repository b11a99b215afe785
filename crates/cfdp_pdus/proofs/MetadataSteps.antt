-- Reading a Metadata PDU whose requests fail.
use Rattle.std.proofs.Common.{◌≡◌, ℕ, ◌≤◌, ◌-◌, Bool, List, [], ◌∷◌, length, take, drop, Ok, arith}
use Rattle.std.proofs.lemmas.List.{take_all}
use Rattle.cfdp_tlv.specs.Reading.{Fails}
use Rattle.cfdp_pdus.specs.declared.fault.PduFault.{PduFault}
use Rattle.cfdp_pdus.specs.declared.fault.PduFault.TheVariants.{LengthMismatch, Memory}
use Rattle.cfdp_pdus.specs.Bits.{fss}
use Rattle.cfdp_pdus.specs.First.{number_at, name_field_at, requests_of, fields_at, metadata_at}
use Rattle.cfdp_pdus.proofs.Steps.{last_fails}

pub requests_fail : (e : PduFault) (large : Bool) (octets : List ℕ) (size : ℕ) (after_size source after_source destination rest : List ℕ) → 1 ≤ length octets
    → number_at LengthMismatch (fss large) (take (length octets - 1) (drop 1 octets)) ≡ Ok (size, after_size) → name_field_at after_size ≡ Ok
    (source, after_source) →
    name_field_at after_source ≡ Ok (destination, rest)
    → Fails Memory e (requests_of (fields_at rest)) → Fails Memory e (metadata_at large octets)
unfolding metadata_at
requests_fail e large [] size after_size source after_source destination rest some one two three fails = absurd (omega arith)
requests_fail e large (flags ∷ octets) size after_size source after_source destination rest some one two three fails =
    let following : take (length (flags ∷ octets) - 1) octets ≡ octets = take_all (length (flags ∷ octets) - 1) octets (omega arith) in
    let read = rw following at one in
    rw (read, two, three) (last_fails Memory e (requests_of (fields_at rest)) _ fails)
