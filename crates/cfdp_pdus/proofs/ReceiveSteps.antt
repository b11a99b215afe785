-- What holds of each PDU that octets spell, holds of the one that a receiver learns of; and for which PDUs memory runs out.
use Rattle.std.proofs.Common.{◌≡◌, List, ℕ, Option, Some, None, Result, Ok, Err, refl, ap, subst, inl, inr}
use Rattle.std.specs.Prelude.{IfOk, IfSome}
use Rattle.cfdp_pdus.specs.declared.pdu.Pdu.{Pdu}
use Rattle.cfdp_pdus.specs.declared.pdu.Pdu.TheVariants as pdus
use Rattle.cfdp_pdus.specs.declared.fault.PduFault.{PduFault}
use Rattle.cfdp_pdus.specs.declared.fault.PduFault.TheVariants.{Memory}
use Rattle.cfdp_tlv.specs.Reading.{Fails, Gives}
use Rattle.cfdp_tlv.proofs.Steps.{bind_ok, ok_is}
use Rattle.cfdp_pdus.specs.Grammar.{SpellsPdu}
use Rattle.cfdp_pdus.specs.First.{pdu_at}
use Rattle.cfdp_pdus.specs.Receiving.{received, received_of, IsCopied}
use Rattle.cfdp_pdus.specs.code.Receiving.{ReceivesLean}
use Rattle.cfdp_pdus.proofs.Steps.{never_both}
use Rattle.cfdp_pdus.proofs.PduSteps.{pdu_takes}

if_received : (P : Pdu → Type 0) (pdu : Pdu) → P pdu → IfSome (received pdu) P
if_received P (pdus.Metadata header metadata) holds = holds
if_received P (pdus.FileData header file_data) holds = holds
if_received P (pdus.Eof header eof) holds = holds
if_received P (pdus.Finished header finished) holds = tt
if_received P (pdus.NotOurs header code) holds = holds

pub result_holds : (P : Pdu → Type 0) (octets : List ℕ) (result : Result (Option Pdu) PduFault)
    → ((pdu : Pdu) → SpellsPdu octets pdu → P pdu)
    → Gives Memory (λ (returned : Option Pdu). returned) result (received_of (pdu_at octets)) → IfOk result (λ returned. IfSome returned P)
result_holds P octets (Ok returned) all given =
    let read = bind_ok (pdu_at octets) (λ pdu. Ok (received pdu)) returned given in
    let holds = if_received P read.0 (all read.0 (pdu_takes octets read.0 read.1)) in
    subst (λ (returned : Option Pdu). IfSome returned P) (ok_is (received read.0) returned read.2) holds
result_holds P octets (Err fault) all given = tt

not_both : (returned : Option Pdu) (result : Result (Option Pdu) PduFault) → result ≡ Err Memory → result ≡ Ok returned → ⊥
not_both returned (Ok other) wanting given = cc
not_both returned (Err fault) wanting given = cc

abbrev failed : PduFault → Result Pdu PduFault
failed fault = Err fault

not_failed : (fault : PduFault) → (failed fault ≡ failed Memory → ⊥) → Fails Memory Memory (received_of (failed fault)) → ⊥
not_failed fault never (inl same) = let why : fault ≡ Memory = cc in never (ap failed why)
not_failed fault never (inr ran_out) = never_both (received_of (failed fault)) fault refl ran_out.1

-- where memory runs out, and no octets have that fault, the PDU is one that is copied
pub copied : (read : Result Pdu PduFault) (result : Result (Option Pdu) PduFault) → result ≡ Err Memory → (read ≡ failed Memory → ⊥)
    → Gives Memory (λ (returned : Option Pdu). returned) result (received_of read) → (ReceivesLean read → result ≡ received_of read) → IsCopied read
copied (Ok (pdus.Metadata header metadata)) result wanting never exact lean = tt
copied (Ok (pdus.FileData header file_data)) result wanting never exact lean = tt
copied (Ok (pdus.Eof header eof)) result wanting never exact lean = absurd (not_both (Some (pdus.Eof header eof)) result wanting (lean tt))
copied (Ok (pdus.Finished header finished)) result wanting never exact lean = absurd (not_both None result wanting (lean tt))
copied (Ok (pdus.NotOurs header code)) result wanting never exact lean = absurd (not_both (Some (pdus.NotOurs header code)) result wanting (lean tt))
copied (Err fault) result wanting never exact lean =
    absurd (not_failed fault never (subst (λ (r : Result (Option Pdu) PduFault). Gives Memory (λ (returned : Option Pdu). returned) r
    (received_of (failed fault)))
    wanting exact))
