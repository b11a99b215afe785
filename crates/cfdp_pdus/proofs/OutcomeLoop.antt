-- What one step over the TLV fields of a Finished PDU reads.
use Rattle.std.proofs.Common.{◌≡◌, ℕ, List, [], ◌∷◌, Bool, true, false, eqb, Option, Some, None, Result, Ok, Err, refl, ap, ◌+◌, length, ◌∙◌, arith}
use Rattle.std.proofs.lemmas.Bool.{eqb-true}
use Rattle.std.specs.Prelude.{IsOk}
use Rattle.cfdp_tlv.specs.Reading.{◌>>=◌}
use Rattle.cfdp_tlv.specs.Values.{ResponseFields}
use Rattle.cfdp_pdus.specs.declared.fault.PduFault.{PduFault}
use Rattle.cfdp_pdus.specs.declared.fault.PduFault.TheVariants.{BadTlv}
use Rattle.cfdp_pdus.specs.Grammar.{Field}
use Rattle.cfdp_pdus.specs.First.{answered_at, entity_at, or_else, outcome_fields}
use Rattle.cfdp_pdus.specs.code.Counting.{responses_in_fields}
use Rattle.cfdp_pdus.proofs.Steps.{not_refused, never_both}

abbrev pub Outcome : Type 0
Outcome = List ResponseFields × Option ℕ

pub tells : (fields after : List (Option Field)) (kind : ℕ) (value : List ℕ) (response : ResponseFields) → fields ≡ Some (kind, value) ∷ after →
    kind ≡ 1 → answered_at value ≡ Ok response
    → outcome_fields fields ≡ (outcome_fields after >>= λ others. Ok (response ∷ others.0, others.1))
unfolding outcome_fields
tells fields after kind value response read is_one returned =
    let response_here : eqb kind 1 ≡ true = rw is_one refl in
    rw (read, response_here, returned) refl

pub locates : (fields after : List (Option Field)) (kind : ℕ) (value : List ℕ) (entity : ℕ) → fields ≡ Some (kind, value) ∷ after →
    kind ≡ 6 → entity_at value ≡ Ok entity
    → outcome_fields fields ≡ (outcome_fields after >>= λ others. Ok (others.0, or_else others.1 (Some entity)))
unfolding outcome_fields
locates fields after kind value entity read is_six located =
    let no_response : eqb kind 1 ≡ false = rw is_six refl in
    let entity_here : eqb kind 6 ≡ true = rw is_six refl in
    rw (read, no_response, entity_here, located) refl

pub passes : (fields after : List (Option Field)) (kind : ℕ) (value : List ℕ) → fields ≡ Some (kind, value) ∷ after → eqb kind 1 ≡ false → eqb kind 6 ≡ false →
    outcome_fields fields ≡ outcome_fields after
unfolding outcome_fields
passes fields after kind value read not_one not_six = rw (read, not_one, not_six) refl

pub refused_response : (fields after : List (Option Field)) (kind : ℕ) (value : List ℕ) (e : PduFault) → fields ≡ Some (kind, value) ∷ after →
    kind ≡ 1 → answered_at value ≡ Err e → outcome_fields fields ≡ Err e
unfolding outcome_fields
refused_response fields after kind value e read is_one fails =
    let response_here : eqb kind 1 ≡ true = rw is_one refl in
    rw (read, response_here, fails) refl

pub refused_entity : (fields after : List (Option Field)) (kind : ℕ) (value : List ℕ) (e : PduFault) → fields ≡ Some (kind, value) ∷ after →
    kind ≡ 6 → entity_at value ≡ Err e → outcome_fields fields ≡ Err e
unfolding outcome_fields
refused_entity fields after kind value e read is_six fails =
    let no_response : eqb kind 1 ≡ false = rw is_six refl in
    let entity_here : eqb kind 6 ≡ true = rw is_six refl in
    rw (read, no_response, entity_here, fails) refl

pub cut : (fields after : List (Option Field)) → fields ≡ None ∷ after → outcome_fields fields ≡ Err BadTlv
unfolding outcome_fields
cut fields after read = rw read refl

pub none_left : (fields : List (Option Field)) → fields ≡ [] → outcome_fields fields ≡ Ok ([], None)
unfolding outcome_fields
none_left fields none = rw none refl

-- where all of them are read, the next field is whole, and so is the response in it
pub never_cut : (fields after : List (Option Field)) → fields ≡ None ∷ after → IsOk (outcome_fields fields) → ⊥
never_cut fields after read good = never_both (outcome_fields fields) BadTlv (cut fields after read) good

pub next_response : (fields after : List (Option Field)) (kind : ℕ) (value : List ℕ) → fields ≡ Some (kind, value) ∷ after → kind ≡ 1 →
    IsOk (outcome_fields fields) → IsOk (answered_at value)
next_response fields after kind value read is_one good = not_refused (answered_at value) (outcome_fields fields) (λ e. e)
    (λ e. refused_response fields after kind value e read is_one) good

-- ---- counting

-- this many before, with this fault location, and what is still read
abbrev pub counted_outcome : ℕ → Option ℕ → Result Outcome PduFault → Result (ℕ × Option ℕ) PduFault
counted_outcome n fault read = read >>= λ others. Ok (n + length others.0, or_else others.1 fault)

or_none : (x : Option ℕ) → or_else x None ≡ x
or_none None = refl
or_none (Some entity) = refl

pub count_first : (read : Result Outcome PduFault) → counted_outcome 0 None read ≡ (read >>= λ others. Ok (length others.0, others.1))
count_first (Ok others) =
    ap (λ (n : ℕ). Ok (n, or_else others.1 None)) (omega arith)
    ∙ ap (λ (x : Option ℕ). Ok (length others.0, x)) (or_none others.1)
count_first (Err e) = refl

pub count_none : (n : ℕ) (fault : Option ℕ) (read : Result Outcome PduFault) → read ≡ Ok ([], None) → counted_outcome n fault read ≡ Ok (n, fault)
count_none n fault read none = ap (counted_outcome n fault) none ∙ ap (λ (k : ℕ). Ok (k, fault)) (omega arith)

pub count_response : (n : ℕ) (fault : Option ℕ) (response : ResponseFields) (read : Result Outcome PduFault) →
    counted_outcome n fault (read >>= λ others. Ok (response ∷ others.0, others.1)) ≡ counted_outcome (n + 1) fault read
count_response n fault response (Ok others) = ap (λ (k : ℕ). Ok (k, or_else others.1 fault)) (omega arith)
count_response n fault response (Err e) = refl

last_of : (x : Option ℕ) (entity : ℕ) (fault : Option ℕ) → or_else (or_else x (Some entity)) fault ≡ or_else x (Some entity)
last_of None entity fault = refl
last_of (Some y) entity fault = refl

pub count_entity : (n : ℕ) (fault : Option ℕ) (entity : ℕ) (read : Result Outcome PduFault) →
    counted_outcome n fault (read >>= λ others. Ok (others.0, or_else others.1 (Some entity))) ≡ counted_outcome n (Some entity) read
count_entity n fault entity (Ok others) = ap (λ (x : Option ℕ). Ok (n + length others.0, x)) (last_of others.1 entity fault)
count_entity n fault entity (Err e) = refl

-- ---- copying

-- one more in front, and the fault location left away
abbrev with_response : ResponseFields → Outcome → Result Outcome PduFault
with_response response others = Ok (response ∷ others.0, others.1)

abbrev at_entity : ℕ → Outcome → Result Outcome PduFault
at_entity entity others = Ok (others.0, or_else others.1 (Some entity))

abbrev no_fault : Outcome → Result (List ResponseFields) PduFault
no_fault others = Ok others.0

front_first : (response : ResponseFields) (read : Result Outcome PduFault) → ((read >>= with_response response) >>= no_fault)
    ≡ ((read >>= no_fault) >>= λ responses. Ok (response ∷ responses))
front_first response (Ok others) = refl
front_first response (Err e) = refl

pub copies : (fields after : List (Option Field)) (kind : ℕ) (value : List ℕ) (response : ResponseFields) → fields ≡ Some (kind, value) ∷ after →
    kind ≡ 1 → answered_at value ≡ Ok response
    → responses_in_fields fields ≡ (responses_in_fields after >>= λ responses. Ok (response ∷ responses))
copies fields after kind value response read is_one returned =
    ap (λ r. r >>= no_fault) (tells fields after kind value response read is_one returned) ∙ front_first response (outcome_fields after)

past_entity : (entity : ℕ) (read : Result Outcome PduFault) → ((read >>= at_entity entity) >>= no_fault) ≡ (read >>= no_fault)
past_entity entity (Ok others) = refl
past_entity entity (Err e) = refl

skips_entity : (fields after : List (Option Field)) (kind : ℕ) (value : List ℕ) (entity : Result ℕ PduFault) → fields ≡ Some (kind, value) ∷ after → kind ≡ 6 →
    entity_at value ≡ entity → IsOk (outcome_fields fields)
    → responses_in_fields fields ≡ responses_in_fields after
skips_entity fields after kind value (Ok entity) read is_six located good =
    ap (λ r. r >>= no_fault) (locates fields after kind value entity read is_six located) ∙ past_entity entity (outcome_fields after)
skips_entity fields after kind value (Err e) read is_six fails good = absurd
    (never_both (outcome_fields fields) e (refused_entity fields after kind value e read is_six fails) good)

skips_either : (is_six : Bool) (fields after : List (Option Field)) (kind : ℕ) (value : List ℕ) → fields ≡ Some (kind, value) ∷ after →
    eqb kind 1 ≡ false → eqb kind 6 ≡ is_six → IsOk (outcome_fields fields)
    → responses_in_fields fields ≡ responses_in_fields after
skips_either true fields after kind value read other six good = skips_entity fields after kind value (entity_at value) read (eqb-true kind 6 six) refl good
skips_either false fields after kind value read other neither good = ap (λ r. r >>= no_fault) (passes fields after kind value read other neither)

pub skips : (fields after : List (Option Field)) (kind : ℕ) (value : List ℕ) → fields ≡ Some (kind, value) ∷ after → eqb kind 1 ≡ false →
    IsOk (outcome_fields fields) → responses_in_fields fields ≡ responses_in_fields after
skips fields after kind value read other good = skips_either (eqb kind 6) fields after kind value read other refl good
