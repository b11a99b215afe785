-- The responses and the fault location that are read are those that the fields spell.
use Rattle.std.proofs.Common.{◌≡◌, ℕ, ◌≤◌, List, [], ◌∷◌, length, Bool, true, false, eqb, cond, ◌&&◌, Option, Some, None, Result, Ok, refl, sym, ap, subst, ◌∙◌, inl, inr, arith}
use Rattle.std.specs.Prelude.{nat_le, is_some}
use Rattle.std.proofs.lemmas.Bool.{eqb-true, leb-true, le-leb, and_parts}
use Rattle.byteorder.specs.Endian.{big_number}
use Rattle.cfdp_tlv.specs.Values.{ResponseFields}
use Rattle.cfdp_tlv.specs.Grammar.{SpellsResponse, response_at}
use Rattle.cfdp_tlv.proofs.Responses.{response_takes, response_again}
use Rattle.cfdp_pdus.specs.declared.fault.PduFault.{PduFault}
use Rattle.cfdp_pdus.specs.declared.fault.PduFault.TheVariants.{BadTlv}
use Rattle.cfdp_tlv.specs.Reading.{◌>>=◌}
use Rattle.cfdp_pdus.specs.Reading.{mend}
use Rattle.cfdp_pdus.specs.Grammar.{Field, values_of, EachTells, IsEntity, AreEntities, last_entity}
use Rattle.cfdp_pdus.specs.First.{answered_at, entity_at, or_else, outcome_fields}
use Rattle.cfdp_tlv.proofs.Steps.{bind_ok, ok_is}
use Rattle.cfdp_pdus.proofs.Steps.{mend_ok, held_ok}
use Rattle.cfdp_pdus.proofs.FieldSteps.{all_of}
use Rattle.cfdp_pdus.proofs.OutcomeLoop.{Outcome}
use Rattle.cfdp_status.proofs.Octets.{chosen}

in_range : (n : ℕ) → (nat_le 1 n && nat_le n 8) ≡ true → (1 ≤ n) × (n ≤ 8)
in_range n e =
    let both = and_parts (nat_le 1 n) (nat_le n 8) e in
    (leb-true 1 n both.0, leb-true n 8 both.1)

range_test : (n : ℕ) → 1 ≤ n → n ≤ 8 → (nat_le 1 n && nat_le n 8) ≡ true
range_test n low high = rw (le-leb 1 n low, le-leb n 8 high) refl

entity_takes : (value : List ℕ) (entity : ℕ) → entity_at value ≡ Ok entity → IsEntity value × (big_number (length value) value ≡ entity)
unfolding entity_at
entity_takes value entity e =
    let g = held_ok (nat_le 1 (length value) && nat_le (length value) 8) BadTlv (big_number (length value) value) entity e in
    (in_range (length value) g.0, g.1)

entity_again : (value : List ℕ) → IsEntity value → entity_at value ≡ Ok (big_number (length value) value)
unfolding entity_at
entity_again value is = rw (range_test (length value) is.0 is.1) refl

kept : (x y : Option ℕ) → is_some x ≡ true → or_else x y ≡ x
kept None y e = absurd cc
kept (Some n) y e = refl

some_last : (next : List ℕ) (values : List (List ℕ)) → is_some (last_entity (next ∷ values)) ≡ true
some_last next [] = refl
some_last next (value ∷ values) = some_last value values

-- the last of several is that of the later ones, if there are any
last-cons : (value : List ℕ) (values : List (List ℕ)) → last_entity (value ∷ values) ≡ or_else (last_entity values) (Some (big_number (length value) value))
last-cons value [] = refl
last-cons value (next ∷ values) = sym (kept (last_entity (next ∷ values)) (Some (big_number (length value) value)) (some_last next values))

-- the fields are whole, and those of type 1 and 6 say this
pub record TellsAll (options : List (Option Field)) (responses : List ResponseFields) (fault : Option ℕ) : Type 0 where
  pub fields : List Field
  pub whole : options ≡ all_of fields
  pub tells : EachTells (values_of 1 fields) responses
  pub entities : AreEntities (values_of 6 fields)
  pub last : fault ≡ last_entity (values_of 6 fields)

-- one more field in front: a response, an entity ID, or neither
response_in_front : (field : Field) (options : List (Option Field)) (response : ResponseFields) (responses : List ResponseFields) (fault : Option ℕ) →
    eqb field.0 1 ≡ true → SpellsResponse field.1 response → TellsAll options responses fault → TellsAll (Some field ∷ options) (response ∷ responses) fault
response_in_front field options response responses fault here spelled following =
    let kind-is : field.0 ≡ 1 = eqb-true _ _ here in
    let no_entity : eqb field.0 6 ≡ false = rw kind-is refl in
    let ones : values_of 1 (field ∷ following.fields) ≡ field.1 ∷ values_of 1 following.fields = rw here refl in
    let sixes : values_of 6 (field ∷ following.fields) ≡ values_of 6 following.fields = rw no_entity refl in
    let Q : List (List ℕ) → Type 0 = λ values. EachTells values (response ∷ responses) in
    record {
      fields = field ∷ following.fields;
      whole = ap (λ (os : List (Option Field)). Some field ∷ os) following.whole;
      tells = subst Q (sym ones) (spelled, following.tells);
      entities = subst AreEntities (sym sixes) following.entities;
      last = following.last ∙ ap last_entity (sym sixes);
    }

entity_in_front : (field : Field) (options : List (Option Field)) (responses : List ResponseFields) (fault : Option ℕ) → eqb field.0 1 ≡ false → eqb field.0 6
    ≡ true → IsEntity field.1 → TellsAll options responses fault → TellsAll (Some field ∷ options) responses
    (or_else fault (Some (big_number (length field.1) field.1)))
entity_in_front field options responses fault other here is following =
    let ones : values_of 1 (field ∷ following.fields) ≡ values_of 1 following.fields = rw other refl in
    let sixes : values_of 6 (field ∷ following.fields) ≡ field.1 ∷ values_of 6 following.fields = rw here refl in
    let Q : List (List ℕ) → Type 0 = λ values. EachTells values responses in
    let last-is : or_else fault (Some (big_number (length field.1) field.1))
    ≡ or_else (last_entity (values_of 6 following.fields)) (Some (big_number (length field.1) field.1)) =
    ap (λ (x : Option ℕ). or_else x (Some (big_number (length field.1) field.1))) following.last in
    record {
      fields = field ∷ following.fields;
      whole = ap (λ (os : List (Option Field)). Some field ∷ os) following.whole;
      tells = subst Q (sym ones) following.tells;
      entities = subst AreEntities (sym sixes) (is, following.entities);
      last = last-is ∙ sym (last-cons field.1 (values_of 6 following.fields)) ∙ ap last_entity (sym sixes);
    }

other_in_front : (field : Field) (options : List (Option Field)) (responses : List ResponseFields) (fault : Option ℕ) → eqb field.0 1 ≡ false → eqb field.0 6
    ≡ false → TellsAll options responses fault → TellsAll (Some field ∷ options) responses fault
other_in_front field options responses fault not_one not_six following =
    let ones : values_of 1 (field ∷ following.fields) ≡ values_of 1 following.fields = rw not_one refl in
    let sixes : values_of 6 (field ∷ following.fields) ≡ values_of 6 following.fields = rw not_six refl in
    let Q : List (List ℕ) → Type 0 = λ values. EachTells values responses in
    record {
      fields = field ∷ following.fields;
      whole = ap (λ (os : List (Option Field)). Some field ∷ os) following.whole;
      tells = subst Q (sym ones) following.tells;
      entities = subst AreEntities (sym sixes) following.entities;
      last = following.last ∙ ap last_entity (sym sixes);
    }

pub outcome_take : (options : List (Option Field)) (outcome : Outcome) → outcome_fields options ≡ Ok outcome → TellsAll options outcome.0 outcome.1
unfolding outcome_fields
outcome_take [] outcome e =
    let P : Outcome → Type 0 = λ o. TellsAll [] o.0 o.1 in
    subst P (ok_is ([], None) outcome e) (record { fields = []; whole = refl; tells = tt; entities = tt; last = refl })
outcome_take (None ∷ options) outcome e = absurd cc
outcome_take (Some field ∷ options) outcome e =
    let P : Outcome → Type 0 = λ o. TellsAll (Some field ∷ options) o.0 o.1 in
    elim (chosen (eqb field.0 1) (answered_at field.1 >>= λ response. outcome_fields options >>= λ others. Ok (response ∷ others.0, others.1))
    (cond (eqb field.0 6) (entity_at field.1 >>= λ entity. outcome_fields options >>= λ others. Ok (others.0, or_else others.1 (Some entity)))
    (outcome_fields options)) (Ok outcome) e) [
      | inl here ↦
          let a = bind_ok (answered_at field.1) (λ response. outcome_fields options >>= λ others. Ok (response ∷ others.0, others.1)) outcome here.1 in
          let b = bind_ok (outcome_fields options) (λ others. Ok (a.0 ∷ others.0, others.1)) outcome a.2 in
          let spelled = response_takes field.1 a.0 (mend_ok BadTlv (response_at field.1) a.0 a.1) in
          subst P (ok_is (a.0 ∷ b.0.0, b.0.1) outcome b.2) (response_in_front field options a.0 b.0.0 b.0.1 here.0 spelled (outcome_take options b.0 b.1))
      | inr other ↦ elim (chosen (eqb field.0 6) (entity_at field.1 >>= λ entity. outcome_fields options >>= λ others.
          Ok (others.0, or_else others.1 (Some entity))) (outcome_fields options) (Ok outcome) other.1) [
            | inl here ↦
                let a = bind_ok (entity_at field.1) (λ entity. outcome_fields options >>= λ others. Ok
                (others.0, or_else others.1 (Some entity))) outcome here.1 in
                let b = bind_ok (outcome_fields options) (λ others. Ok (others.0, or_else others.1 (Some a.0))) outcome a.2 in
                let is = entity_takes field.1 a.0 a.1 in
                let Q : ℕ → Type 0 = λ n. TellsAll (Some field ∷ options) b.0.0 (or_else b.0.1 (Some n)) in
                subst P (ok_is (b.0.0, or_else b.0.1 (Some a.0)) outcome b.2) (subst Q is.1
                (entity_in_front field options b.0.0 b.0.1 other.0 here.0 is.0 (outcome_take options b.0 b.1)))
            | inr neither ↦ other_in_front field options outcome.0 outcome.1 other.0 neither.0 (outcome_take options outcome neither.1)
          ]
    ]

-- one step, whichever way its tests go
after_field : (kind : ℕ) (value : List ℕ) (fields : List Field) (responses : List ResponseFields) (read : Result Outcome PduFault)
    → ((others : List ResponseFields) → EachTells (values_of 1 fields) others → AreEntities (values_of 6 fields) → read
    ≡ Ok (others, last_entity (values_of 6 fields)))
    → (is_one is_six : Bool) → eqb kind 1 ≡ is_one → eqb kind 6 ≡ is_six → EachTells (cond is_one (value ∷ values_of 1 fields) (values_of 1 fields)) responses →
    AreEntities (cond is_six (value ∷ values_of 6 fields) (values_of 6 fields))
    → cond is_one (answered_at value >>= λ response. read >>= λ others. Ok (response ∷ others.0, others.1))
    (cond is_six (entity_at value >>= λ entity. read >>= λ others. Ok (others.0, or_else others.1 (Some entity))) read)
    ≡ Ok (responses, last_entity (cond is_six (value ∷ values_of 6 fields) (values_of 6 fields)))
after_field kind value fields responses read again true true one six tells entities = absurd (omega (arith, eqb-true kind 1 one, eqb-true kind 6 six))
after_field kind value fields [] read again true false one six tells entities = absurd tells
after_field kind value fields (response ∷ responses) read again true false one six tells entities =
    let here : answered_at value ≡ Ok response = ap (mend BadTlv) (response_again value response tells.0) in
    rw (here, again responses tells.1 entities) refl
after_field kind value fields responses read again false true one six tells entities =
    rw (entity_again value entities.0, again responses tells entities.1, last-cons value (values_of 6 fields)) refl
after_field kind value fields responses read again false false one six tells entities = again responses tells entities

pub outcome_again : (fields : List Field) (responses : List ResponseFields) → EachTells (values_of 1 fields) responses → AreEntities (values_of 6 fields) →
    outcome_fields (all_of fields) ≡ Ok (responses, last_entity (values_of 6 fields))
unfolding outcome_fields
outcome_again [] [] tells entities = refl
outcome_again [] (response ∷ responses) tells entities = absurd tells
outcome_again (field ∷ fields) responses tells entities =
    after_field field.0 field.1 fields responses (outcome_fields (all_of fields)) (λ others. outcome_again fields others) (eqb field.0 1)
    (eqb field.0 6) refl refl tells entities
