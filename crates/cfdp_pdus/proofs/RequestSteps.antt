-- The requests that are read are those that the fields spell.
use Rattle.std.proofs.Common.{◌≡◌, ℕ, ◌<◌, List, [], ◌∷◌, length, Bool, true, false, eqb, ltb, cond, Option, Some, None, Result, Ok, Err, refl, sym, ap, subst, inl, inr}
use Rattle.std.proofs.lemmas.Bool.{lt-ltb, ltb-true}
use Rattle.cfdp_tlv.specs.Values.{RequestFields}
use Rattle.cfdp_tlv.specs.Grammar.{SpellsRequest, request_at}
use Rattle.cfdp_tlv.proofs.Requests.{request_takes, request_again}
use Rattle.cfdp_pdus.specs.declared.fault.PduFault.{PduFault}
use Rattle.cfdp_pdus.specs.declared.fault.PduFault.TheVariants.{BadTlv, RequestTooLong}
use Rattle.cfdp_tlv.specs.Reading.{◌>>=◌}
use Rattle.cfdp_pdus.specs.Reading.{mend}
use Rattle.cfdp_pdus.specs.Grammar.{Field, values_of, EachAsks}
use Rattle.cfdp_pdus.specs.First.{asked_at, requests_of}
use Rattle.cfdp_tlv.proofs.Steps.{bind_ok, ok_is}
use Rattle.cfdp_pdus.proofs.Steps.{mend_ok, held_ok}
use Rattle.cfdp_pdus.proofs.FieldSteps.{all_of}
use Rattle.cfdp_status.proofs.Octets.{chosen}

asked_takes : (value : List ℕ) (request : RequestFields) → asked_at value ≡ Ok request → SpellsRequest value request × (length value < 255)
unfolding asked_at
asked_takes value request e =
    let a = bind_ok (mend BadTlv (request_at value)) (λ r. cond (ltb (length value) 255) (Ok r) (Err RequestTooLong)) request e in
    let g = held_ok (ltb (length value) 255) RequestTooLong a.0 request a.2 in
    let P : RequestFields → Type 0 = λ r. SpellsRequest value r in
    (subst P g.1 (request_takes value a.0 (mend_ok BadTlv (request_at value) a.0 a.1)), ltb-true _ _ g.0)

asked_again : (value : List ℕ) (request : RequestFields) → SpellsRequest value request → length value < 255 → asked_at value ≡ Ok request
unfolding asked_at
asked_again value request spelled short =
    let small : ltb (length value) 255 ≡ true = lt-ltb _ _ short in
    rw (request_again value request spelled, small) refl

-- the fields are whole, and those of type 0 ask for these
pub record AsksAll (options : List (Option Field)) (requests : List RequestFields) : Type 0 where
  pub fields : List Field
  pub whole : options ≡ all_of fields
  pub asks : EachAsks (values_of 0 fields) requests

abbrev given : List RequestFields → Result (List RequestFields) PduFault
given requests = Ok requests

nothing_read : (request : RequestFields) (requests : List RequestFields) → given [] ≡ given (request ∷ requests) → ⊥
nothing_read request requests e = cc

pub requests_take : (options : List (Option Field)) (requests : List RequestFields) → requests_of options ≡ Ok requests → AsksAll options requests
unfolding requests_of
requests_take [] [] e = record { fields = []; whole = refl; asks = tt }
requests_take [] (request ∷ requests) e = absurd (nothing_read request requests e)
requests_take (None ∷ options) requests e = absurd cc
requests_take (Some field ∷ options) requests e =
    elim (chosen (eqb field.0 0) (asked_at field.1 >>= λ request. requests_of options >>= λ others. Ok (request ∷ others)) (requests_of options)
    (Ok requests) e) [
      | inl here ↦
          let a = bind_ok (asked_at field.1) (λ request. requests_of options >>= λ others. Ok (request ∷ others)) requests here.1 in
          let b = bind_ok (requests_of options) (λ others. Ok (a.0 ∷ others)) requests a.2 in
          let asked = asked_takes field.1 a.0 a.1 in
          let following = requests_take options b.0 b.1 in
          let P : List RequestFields → Type 0 = λ rs. AsksAll (Some field ∷ options) rs in
          let values-are : values_of 0 (field ∷ following.fields) ≡ field.1 ∷ values_of 0 following.fields = rw here.0 refl in
          let Q : List (List ℕ) → Type 0 = λ values. EachAsks values (a.0 ∷ b.0) in
          subst P (ok_is (a.0 ∷ b.0) requests b.2) (record {
            fields = field ∷ following.fields;
            whole = ap (λ (os : List (Option Field)). Some field ∷ os) following.whole;
            asks = subst Q (sym values-are) (asked.0, asked.1, following.asks);
          })
      | inr other ↦
          let following = requests_take options requests other.1 in
          let values-are : values_of 0 (field ∷ following.fields) ≡ values_of 0 following.fields = rw other.0 refl in
          let Q : List (List ℕ) → Type 0 = λ values. EachAsks values requests in
          record {
            fields = field ∷ following.fields;
            whole = ap (λ (os : List (Option Field)). Some field ∷ os) following.whole;
            asks = subst Q (sym values-are) following.asks;
          }
    ]

-- one step, whichever way its test goes
after_field : (is_request : Bool) (value : List ℕ) (values : List (List ℕ)) (requests : List RequestFields) (read : Result (List RequestFields) PduFault) →
    ((others : List RequestFields) → EachAsks values others → read ≡ Ok others)
    → EachAsks (cond is_request (value ∷ values) values) requests → cond is_request
    (asked_at value >>= λ request. read >>= λ others. Ok (request ∷ others)) read ≡ Ok requests
after_field true value values [] read again asks = absurd asks
after_field true value values (request ∷ requests) read again asks = rw (asked_again value request asks.0 asks.1, again requests asks.2) refl
after_field false value values requests read again asks = again requests asks

pub requests_again : (fields : List Field) (requests : List RequestFields) → EachAsks (values_of 0 fields) requests → requests_of (all_of fields) ≡ Ok requests
unfolding requests_of
requests_again [] [] asks = refl
requests_again [] (request ∷ requests) asks = absurd asks
requests_again (field ∷ fields) requests asks = after_field (eqb field.0 0) field.1 (values_of 0 fields) requests (requests_of (all_of fields))
    (requests_again fields) asks
