-- A data field that is read is spelled so, and one that is spelled so is read.
use Rattle.std.proofs.Common.{◌≡◌, ℕ, ◌/◌, ◌%◌, ◌≤◌, List, [], ◌∷◌, ◌++◌, length, take, drop, Bool, true, false, ltb, Option, Some, None, Ok, refl, sym, ap, subst, ◌∙◌, arith}
use Rattle.std.proofs.lemmas.Bool.{ltb-false, le-ltb}
use Rattle.std.proofs.lemmas.List.{drop_at, take-append-drop, length-append, length-take}
use Rattle.cfdp_tlv.specs.Field.{lv, lv_at}
use Rattle.cfdp_tlv.proofs.Fields.{lv_takes, lv_again}
use Rattle.cfdp_pdus.specs.declared.eof.Eof.{Eof}
use Rattle.cfdp_pdus.specs.declared.fault.PduFault.TheVariants.{LengthMismatch}
use Rattle.cfdp_pdus.specs.Values.{MetadataFields, FileDataFields, FinishedFields}
use Rattle.cfdp_pdus.specs.Bits.{flag, fss}
use Rattle.cfdp_tlv.specs.Reading.{◌>>=◌}
use Rattle.cfdp_pdus.specs.Reading.{mend}
use Rattle.cfdp_pdus.specs.Grammar.{Field, field_octets, SpellsMetadata, IsSegment, SpellsFileData, SpellsEof, SpellsFinished}
use Rattle.cfdp_pdus.specs.First.{number_at, name_field_at, requests_of, outcome_fields, all_whole, fields_at, metadata_at, after_segment, file_data_at, eof_at, finished_at}
use Rattle.cfdp_tlv.proofs.Steps.{bind_ok, guard_ok, ok_is}
use Rattle.cfdp_pdus.proofs.Steps.{mend_ok}
use Rattle.cfdp_pdus.proofs.NumberSteps.{number_takes, number_again}
use Rattle.cfdp_pdus.proofs.FieldSteps.{all_of, fields_take, fields_again}
use Rattle.cfdp_pdus.proofs.RequestSteps.{requests_take, requests_again}
use Rattle.cfdp_pdus.proofs.OutcomeSteps.{outcome_take, outcome_again}

-- ---- names

name_takes : (octets name rest : List ℕ) → name_field_at octets ≡ Ok (name, rest) → octets ≡ lv name ++ rest
name_takes octets name rest e = lv_takes octets name rest (mend_ok LengthMismatch (lv_at octets) (name, rest) e)

pub name_again : (name rest : List ℕ) → name_field_at (lv name ++ rest) ≡ Ok (name, rest)
name_again name rest = ap (mend LengthMismatch) (lv_again name rest)

-- ---- Metadata

pub metadata_takes : (large : Bool) (octets : List ℕ) (metadata : MetadataFields) → metadata_at large octets ≡ Ok metadata →
    SpellsMetadata large octets metadata
unfolding metadata_at
metadata_takes large [] metadata e = absurd cc
metadata_takes large (flags ∷ octets) metadata e =
    let a = bind_ok (number_at LengthMismatch (fss large) octets) (λ size. name_field_at size.1 >>= λ source.
    name_field_at source.1 >>= λ destination. requests_of (fields_at destination.1) >>= λ requests.
    Ok (record {
      closure = flag 6 flags;
      checksum_type = flags % 16;
      size = size.0;
      source_name = source.0;
      destination_name = destination.0;
      requests = requests;
    })) metadata e in
    let b = bind_ok (name_field_at a.0.1) (λ source. name_field_at source.1 >>= λ destination. requests_of (fields_at destination.1) >>= λ requests.
    Ok (record {
      closure = flag 6 flags;
      checksum_type = flags % 16;
      size = a.0.0;
      source_name = source.0;
      destination_name = destination.0;
      requests = requests;
    })) metadata a.2 in
    let d = bind_ok (name_field_at b.0.1) (λ destination. requests_of (fields_at destination.1) >>= λ requests.
    Ok (record {
      closure = flag 6 flags;
      checksum_type = flags % 16;
      size = a.0.0;
      source_name = b.0.0;
      destination_name = destination.0;
      requests = requests;
    })) metadata b.2 in
    let r = bind_ok (requests_of (fields_at d.0.1)) (λ requests. Ok (record {
      closure = flag 6 flags;
      checksum_type = flags % 16;
      size = a.0.0;
      source_name = b.0.0;
      destination_name = d.0.0;
      requests = requests;
    })) metadata d.2 in
    let made : MetadataFields = record {
      closure = flag 6 flags;
      checksum_type = flags % 16;
      size = a.0.0;
      source_name = b.0.0;
      destination_name = d.0.0;
      requests = r.0;
    } in
    let number = number_takes LengthMismatch (fss large) octets a.0.0 a.0.1 a.1 in
    let source : a.0.1 ≡ lv b.0.0 ++ b.0.1 = name_takes a.0.1 b.0.0 b.0.1 b.1 in
    let destination : b.0.1 ≡ lv d.0.0 ++ d.0.1 = name_takes b.0.1 d.0.0 d.0.1 d.1 in
    let asked = requests_take (fields_at d.0.1) r.0 r.1 in
    let options : d.0.1 ≡ field_octets asked.fields = fields_take d.0.1 asked.fields asked.whole in
    let names : a.0.1 ≡ lv b.0.0 ++ (lv d.0.0 ++ field_octets asked.fields) = source
    ∙ ap (λ (t : List ℕ). lv b.0.0 ++ t) (destination ∙ ap (λ (t : List ℕ). lv d.0.0 ++ t) options) in
    let P : MetadataFields → Type 0 = λ m. SpellsMetadata large (flags ∷ octets) m in
    subst P (ok_is made metadata r.2) (record {
      flags = flags;
      size_octets = number.front;
      options = asked.fields;
      parts = ap (λ (t : List ℕ). flags ∷ t) (number.parts ∙ ap (λ (t : List ℕ). number.front ++ t) names);
      closure = refl;
      checksum_type = refl;
      size = number.spelled;
      requests = asked.asks;
    })

pub metadata_again : (large : Bool) (octets : List ℕ) (metadata : MetadataFields) → SpellsMetadata large octets metadata → metadata_at large octets
    ≡ Ok metadata
unfolding metadata_at
metadata_again large octets metadata spelled =
    let requests : requests_of (fields_at (field_octets spelled.options)) ≡ Ok metadata.requests = ap requests_of (fields_again spelled.options)
    ∙ requests_again spelled.options metadata.requests spelled.requests in
    ap (metadata_at large) spelled.parts
    ∙ rw (
      number_again LengthMismatch (fss large) spelled.size_octets metadata.size (lv metadata.source_name
          ++ (lv metadata.destination_name ++ field_octets spelled.options)) spelled.size,
      name_again metadata.source_name (lv metadata.destination_name ++ field_octets spelled.options),
      name_again metadata.destination_name (field_octets spelled.options),
      requests,
      ← spelled.closure,
      ← spelled.checksum_type,
    ) refl

-- ---- File Data

record TakesSegment (segment_metadata : Bool) (octets rest : List ℕ) : Type 0 where
  segment : List ℕ
  parts : octets ≡ segment ++ rest
  is : IsSegment segment_metadata segment

segment_takes : (segment_metadata : Bool) (octets rest : List ℕ) → after_segment segment_metadata octets ≡ Ok rest → TakesSegment segment_metadata octets rest
unfolding after_segment
segment_takes false octets rest e = record { segment = []; parts = ok_is octets rest e; is = refl }
segment_takes true [] rest e = absurd cc
segment_takes true (state ∷ octets) rest e =
    let len = state % 64 in
    let g = guard_ok (ltb (length octets) len) LengthMismatch (drop len octets) rest e in
    let long : len ≤ length octets = ltb-false _ _ g.0 in
    record {
      segment = state ∷ take len octets;
      parts = ap (λ (t : List ℕ). state ∷ t) (sym (take-append-drop len octets) ∙ ap (λ (t : List ℕ). take len octets ++ t) g.1);
      is = omega (arith, length-take len octets);
    }

segment_again : (segment_metadata : Bool) (segment rest : List ℕ) → IsSegment segment_metadata segment → after_segment segment_metadata (segment ++ rest)
    ≡ Ok rest
unfolding after_segment
segment_again false segment rest is = rw is refl
segment_again true [] rest is = absurd is
segment_again true (state ∷ metadata) rest is =
    let long : ltb (length (metadata ++ rest)) (state % 64) ≡ false = le-ltb _ _ (omega (arith, length-append metadata rest, is)) in
    rw (long, drop_at metadata rest (state % 64) is) refl

pub file_data_takes : (large segment_metadata : Bool) (octets : List ℕ) (file_data : FileDataFields) → file_data_at large segment_metadata octets
    ≡ Ok file_data → SpellsFileData large segment_metadata octets file_data
unfolding file_data_at
file_data_takes large segment_metadata octets file_data e =
    let a = bind_ok (after_segment segment_metadata octets) (λ segment. number_at LengthMismatch (fss large) segment >>= λ offset.
    Ok (record { offset = offset.0; octets = offset.1 })) file_data e in
    let b = bind_ok (number_at LengthMismatch (fss large) a.0) (λ offset. Ok (record { offset = offset.0; octets = offset.1 })) file_data a.2 in
    let segment = segment_takes segment_metadata octets a.0 a.1 in
    let number = number_takes LengthMismatch (fss large) a.0 b.0.0 b.0.1 b.1 in
    let made : FileDataFields = record { offset = b.0.0; octets = b.0.1 } in
    let P : FileDataFields → Type 0 = λ d. SpellsFileData large segment_metadata octets d in
    subst P (ok_is made file_data b.2) (record {
      segment = segment.segment;
      offset_octets = number.front;
      parts = segment.parts ∙ ap (λ (t : List ℕ). segment.segment ++ t) number.parts;
      state = segment.is;
      offset = number.spelled;
    })

pub file_data_again : (large segment_metadata : Bool) (octets : List ℕ) (file_data : FileDataFields) → SpellsFileData large segment_metadata octets file_data →
    file_data_at large segment_metadata octets ≡ Ok file_data
unfolding file_data_at
file_data_again large segment_metadata octets file_data spelled =
    ap (file_data_at large segment_metadata) spelled.parts
    ∙ rw (
      segment_again segment_metadata spelled.segment (spelled.offset_octets ++ file_data.octets) spelled.state,
      number_again LengthMismatch (fss large) spelled.offset_octets file_data.offset file_data.octets spelled.offset,
    ) refl

-- ---- EOF

record IsWhole (options : List (Option Field)) : Type 0 where
  fields : List Field
  whole : options ≡ all_of fields

whole_takes : (options : List (Option Field)) → all_whole options ≡ Ok tt → IsWhole options
unfolding all_whole
whole_takes [] e = record { fields = []; whole = refl }
whole_takes (None ∷ options) e = absurd cc
whole_takes (Some field ∷ options) e =
    let following = whole_takes options e in
    record { fields = field ∷ following.fields; whole = ap (λ (os : List (Option Field)). Some field ∷ os) following.whole }

whole_again : (fields : List Field) → all_whole (all_of fields) ≡ Ok tt
unfolding all_whole
whole_again [] = refl
whole_again (field ∷ fields) = whole_again fields

pub eof_takes : (large : Bool) (octets : List ℕ) (eof : Eof) → eof_at large octets ≡ Ok eof → SpellsEof large octets eof
unfolding eof_at
eof_takes large [] eof e = absurd cc
eof_takes large (condition ∷ octets) eof e =
    let a = bind_ok (number_at LengthMismatch 4 octets) (λ checksum. number_at LengthMismatch (fss large) checksum.1 >>= λ size.
    all_whole (fields_at size.1) >>= λ _. Ok (record { condition = condition / 16; checksum = checksum.0; size = size.0 })) eof e in
    let b = bind_ok (number_at LengthMismatch (fss large) a.0.1) (λ size. all_whole (fields_at size.1) >>= λ _.
    Ok (record { condition = condition / 16; checksum = a.0.0; size = size.0 })) eof a.2 in
    let d = bind_ok (all_whole (fields_at b.0.1)) (λ _. Ok (record { condition = condition / 16; checksum = a.0.0; size = b.0.0 })) eof b.2 in
    let checksum = number_takes LengthMismatch 4 octets a.0.0 a.0.1 a.1 in
    let size = number_takes LengthMismatch (fss large) a.0.1 b.0.0 b.0.1 b.1 in
    let whole = whole_takes (fields_at b.0.1) d.1 in
    let fields : b.0.1 ≡ field_octets whole.fields = fields_take b.0.1 whole.fields whole.whole in
    let made : Eof = record { condition = condition / 16; checksum = a.0.0; size = b.0.0 } in
    let P : Eof → Type 0 = λ x. SpellsEof large (condition ∷ octets) x in
    subst P (ok_is made eof d.2) (record {
      condition_octet = condition;
      checksum_octets = checksum.front;
      size_octets = size.front;
      fields = whole.fields;
      parts = ap (λ (t : List ℕ). condition ∷ t) (checksum.parts ∙ ap (λ (t : List ℕ). checksum.front ++ t) (size.parts
          ∙ ap (λ (t : List ℕ). size.front ++ t) fields));
      condition = refl;
      checksum = checksum.spelled;
      size = size.spelled;
    })

pub eof_again : (large : Bool) (octets : List ℕ) (eof : Eof) → SpellsEof large octets eof → eof_at large octets ≡ Ok eof
unfolding eof_at
eof_again large octets eof spelled =
    let whole : all_whole (fields_at (field_octets spelled.fields)) ≡ Ok tt = ap all_whole (fields_again spelled.fields) ∙ whole_again spelled.fields in
    ap (eof_at large) spelled.parts
    ∙ rw (
      number_again LengthMismatch 4 spelled.checksum_octets eof.checksum (spelled.size_octets ++ field_octets spelled.fields) spelled.checksum,
      number_again LengthMismatch (fss large) spelled.size_octets eof.size (field_octets spelled.fields) spelled.size,
      whole,
      ← spelled.condition,
    ) refl

-- ---- Finished

pub finished_takes : (octets : List ℕ) (finished : FinishedFields) → finished_at octets ≡ Ok finished → SpellsFinished octets finished
unfolding finished_at
finished_takes [] finished e = absurd cc
finished_takes (flags ∷ octets) finished e =
    let a = bind_ok (outcome_fields (fields_at octets)) (λ outcome. Ok (record {
      condition = flags / 16;
      incomplete = flag 2 flags;
      file_status = flags % 4;
      responses = outcome.0;
      fault = outcome.1;
    })) finished e in
    let returned = outcome_take (fields_at octets) a.0 a.1 in
    let fields : octets ≡ field_octets returned.fields = fields_take octets returned.fields returned.whole in
    let made : FinishedFields = record { condition = flags / 16; incomplete = flag 2 flags; file_status = flags % 4; responses = a.0.0; fault = a.0.1 } in
    let P : FinishedFields → Type 0 = λ f. SpellsFinished (flags ∷ octets) f in
    subst P (ok_is made finished a.2) (record {
      flags = flags;
      fields = returned.fields;
      parts = ap (λ (t : List ℕ). flags ∷ t) fields;
      condition = refl;
      incomplete = refl;
      file_status = refl;
      responses = returned.tells;
      entities = returned.entities;
      fault = returned.last;
    })

pub finished_again : (octets : List ℕ) (finished : FinishedFields) → SpellsFinished octets finished → finished_at octets ≡ Ok finished
unfolding finished_at
finished_again octets finished spelled =
    let outcome = ap outcome_fields (fields_again spelled.fields) ∙ outcome_again spelled.fields finished.responses spelled.responses spelled.entities in
    ap finished_at spelled.parts ∙ rw (outcome, ← spelled.condition, ← spelled.incomplete, ← spelled.file_status, ← spelled.fault) refl
