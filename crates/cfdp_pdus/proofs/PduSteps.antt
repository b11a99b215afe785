-- A PDU that is read is spelled so, and one that is spelled so is read.
use Rattle.std.proofs.Common.{◌≡◌, ℕ, ◌+◌, ◌*◌, ◌/◌, ◌%◌, List, [], ◌∷◌, ◌++◌, length, Bool, true, false, not, eqb, ltb, cond, Result, Ok, Err, refl, sym, ap, subst, ◌∙◌, append_assoc, inl, inr, arith}
use Rattle.std.specs.Prelude.{◌⊎◌, IfOk}
use Rattle.std.proofs.lemmas.Bool.{eqb-true, ltb-false, le-ltb}
use Rattle.cfdp_pdus.specs.declared.header.Header.{Header}
use Rattle.cfdp_pdus.specs.declared.pdu.Pdu.{Pdu}
use Rattle.cfdp_pdus.specs.declared.pdu.Pdu.TheVariants as pdus
use Rattle.cfdp_pdus.specs.declared.fault.PduFault.{PduFault}
use Rattle.cfdp_pdus.specs.declared.fault.PduFault.TheVariants.{Truncated, BadVersion, CrcNotSupported, LengthMismatch, BadDirective, Memory}
use Rattle.cfdp_pdus.specs.Bits.{flag, IsNumber}
use Rattle.cfdp_tlv.specs.Reading.{◌>>=◌, Gives}
use Rattle.cfdp_pdus.specs.Grammar.{HasHeader, header_of, SpellsDirective, SpellsField, IsOther, SpellsPdu}
use Rattle.cfdp_pdus.specs.First.{Start, number_at, metadata_at, file_data_at, eof_at, finished_at, directive_at, field_at, header_at, start_at, pdu_at}
use Rattle.cfdp_tlv.proofs.Steps.{bind_ok, guard_ok, only_ok, ok_is}
use Rattle.cfdp_pdus.proofs.Steps.{guard_then, held_then}
use Rattle.cfdp_pdus.proofs.NumberSteps.{number_takes, number_again}
use Rattle.cfdp_pdus.proofs.DataSteps.{metadata_takes, metadata_again, file_data_takes, file_data_again, eof_takes, eof_again, finished_takes, finished_again}
use Rattle.cfdp_status.proofs.Octets.{chosen}

-- ---- the header

-- the octets begin so
pub record Begins (octets : List ℕ) (start : Start) : Type 0 where
  pub first : ℕ
  pub high : ℕ
  pub low : ℕ
  pub fourth : ℕ
  pub rest : List ℕ
  pub names : List ℕ
  pub octets_are : octets ≡ first ∷ high ∷ low ∷ fourth ∷ rest
  pub parts : rest ≡ names ++ start.field
  pub field_len : length start.field ≡ 256 * high + low
  pub header : HasHeader first fourth names start.header
  pub kind : start.file_data ≡ flag 4 first
  pub segment_metadata : start.segment_metadata ≡ flag 3 fourth

-- the header that four octets and three names say
abbrev header_made : (first fourth source number destination : ℕ) → Header
header_made first fourth source number destination = record {
  toward_sender = flag 3 first;
  acknowledged = not (flag 2 first);
  large = flag 0 first;
  id_len = fourth / 16 % 8 + 1;
  number_len = fourth % 8 + 1;
  source = source;
  number = number;
  destination = destination;
}

abbrev start_made : (first fourth source number destination : ℕ) (field : List ℕ) → Start
start_made first fourth source number destination field = record {
  file_data = flag 4 first;
  segment_metadata = flag 3 fourth;
  header = header_made first fourth source number destination;
  field = field;
}

-- as many octets as the header says
abbrev measured : ℕ → List ℕ → Start → Result Start PduFault
measured len field start = cond (ltb (length field) len) (Err Truncated) (cond (ltb len (length field)) (Err LengthMismatch) (Ok start))

measured_ok : (len : ℕ) (field : List ℕ) (made start : Start) → measured len field made ≡ Ok start → (length field ≡ len) × (made ≡ start)
measured_ok len field made start e =
    let g = guard_then (ltb (length field) len) Truncated (cond (ltb len (length field)) (Err LengthMismatch) (Ok made)) start e in
    let h = guard_ok (ltb len (length field)) LengthMismatch made start g.1 in
    (omega (arith, ltb-false _ _ g.0, ltb-false _ _ h.0), h.1)

three : (octets a b field x y z : List ℕ) → octets ≡ x ++ a → a ≡ y ++ b → b ≡ z ++ field → octets ≡ (x ++ (y ++ z)) ++ field
three octets a b field x y z first second third =
    first ∙ ap (λ (t : List ℕ). x ++ t) (second ∙ ap (λ (t : List ℕ). y ++ t) third ∙ sym (append_assoc y z field)) ∙ sym (append_assoc x (y ++ z) field)

header_takes : (first : ℕ) (octets : List ℕ) (start : Start) → header_at first octets ≡ Ok start → first / 32 ≡ 1 → flag 1 first ≡ false →
    Begins (first ∷ octets) start
unfolding header_at
header_takes first [] start e version no_crc = absurd cc
header_takes first (high ∷ []) start e version no_crc = absurd cc
header_takes first (high ∷ low ∷ []) start e version no_crc = absurd cc
header_takes first (high ∷ low ∷ fourth ∷ octets) start e version no_crc =
    let id_len = fourth / 16 % 8 + 1 in
    let number_len = fourth % 8 + 1 in
    let len = 256 * high + low in
    let a = bind_ok (number_at Truncated id_len octets) (λ source. number_at Truncated number_len source.1 >>= λ number.
    number_at Truncated id_len number.1 >>= λ destination. measured len destination.1
    (start_made first fourth source.0 number.0 destination.0 destination.1)) start e in
    let b = bind_ok (number_at Truncated number_len a.0.1) (λ number. number_at Truncated id_len number.1 >>= λ destination. measured len destination.1
    (start_made first fourth a.0.0 number.0 destination.0 destination.1)) start a.2 in
    let d = bind_ok (number_at Truncated id_len b.0.1) (λ destination. measured len destination.1
    (start_made first fourth a.0.0 b.0.0 destination.0 destination.1)) start b.2 in
    let m = measured_ok len d.0.1 (start_made first fourth a.0.0 b.0.0 d.0.0 d.0.1) start d.2 in
    let source = number_takes Truncated id_len octets a.0.0 a.0.1 a.1 in
    let number = number_takes Truncated number_len a.0.1 b.0.0 b.0.1 b.1 in
    let destination = number_takes Truncated id_len b.0.1 d.0.0 d.0.1 d.1 in
    let names = source.front ++ (number.front ++ destination.front) in
    let parts : octets ≡ names ++ d.0.1 = three octets a.0.1 b.0.1 d.0.1 source.front number.front destination.front source.parts number.parts
    destination.parts in
    subst (Begins (first ∷ high ∷ low ∷ fourth ∷ octets)) m.1 (record {
      first = first;
      high = high;
      low = low;
      fourth = fourth;
      rest = octets;
      names = names;
      octets_are = refl;
      parts = parts;
      field_len = m.0;
      header = record {
        version = version;
        no_crc = no_crc;
        direction = refl;
        mode = refl;
        large = refl;
        id_len = refl;
        number_len = refl;
        source_octets = source.front;
        number_octets = number.front;
        destination_octets = destination.front;
        parts = refl;
        source = source.spelled;
        number = number.spelled;
        destination = destination.spelled;
      };
      kind = refl;
      segment_metadata = refl;
    })

pub start_takes : (octets : List ℕ) (start : Start) → start_at octets ≡ Ok start → Begins octets start
unfolding start_at
start_takes [] start e = absurd cc
start_takes (first ∷ octets) start e =
    let g = held_then (eqb (first / 32) 1) BadVersion (cond (flag 1 first) (Err CrcNotSupported) (header_at first octets)) start e in
    let h = guard_then (flag 1 first) CrcNotSupported (header_at first octets) start g.1 in
    header_takes first octets start h.1 (eqb-true _ _ g.0) h.0

-- ---- the data field

record Directs (header : Header) (code : ℕ) (octets : List ℕ) (pdu : Pdu) : Type 0 where
  of_header : header_of pdu ≡ header
  spelled : SpellsDirective code octets pdu

abbrev other : Header → ℕ → Pdu
other header code = pdus.NotOurs header code

is_other : (header : Header) (code number : ℕ) (octets : List ℕ) (pdu : Pdu) → eqb code number ≡ true → IsOther number → other header number ≡ pdu →
    Directs header code octets pdu
is_other header code number octets pdu e is same =
    let code-is : code ≡ number = eqb-true _ _ e in
    subst (Directs header code octets) same (record { of_header = refl; spelled = (code-is, subst IsOther (sym code-is) is) })

abbrev refusal : Result Pdu PduFault
refusal = Err BadDirective

nothing : (pdu : Pdu) → refusal ≡ Ok pdu → ⊥
nothing pdu e = cc

directive_takes : (header : Header) (code : ℕ) (octets : List ℕ) (pdu : Pdu) → directive_at header (code ∷ octets) ≡ Ok pdu → Directs header code octets pdu
unfolding directive_at
directive_takes header code octets pdu e =
    elim (chosen (eqb code 7) (metadata_at header.large octets >>= λ metadata. Ok (pdus.Metadata header metadata))
    (cond (eqb code 4) (eof_at header.large octets >>= λ eof. Ok (pdus.Eof header eof))
    (cond (eqb code 5) (finished_at octets >>= λ finished. Ok (pdus.Finished header finished))
    (cond (eqb code 6) (Ok (pdus.NotOurs header 6)) (cond (eqb code 8) (Ok (pdus.NotOurs header 8))
    (cond (eqb code 9) (Ok (pdus.NotOurs header 9)) (cond (eqb code 12) (Ok (pdus.NotOurs header 12)) (Err BadDirective))))))) (Ok pdu) e) [
      | inl here ↦
          let x = bind_ok (metadata_at header.large octets) (λ v. Ok (pdus.Metadata header v)) pdu here.1 in
          subst (Directs header code octets) (ok_is (pdus.Metadata header x.0) pdu x.2)
          (record { of_header = refl; spelled = (eqb-true _ _ here.0, metadata_takes header.large octets x.0 x.1) })
      | inr later0 ↦
          elim (chosen (eqb code 4) (eof_at header.large octets >>= λ eof. Ok (pdus.Eof header eof))
          (cond (eqb code 5) (finished_at octets >>= λ finished. Ok (pdus.Finished header finished))
          (cond (eqb code 6) (Ok (pdus.NotOurs header 6)) (cond (eqb code 8) (Ok (pdus.NotOurs header 8))
          (cond (eqb code 9) (Ok (pdus.NotOurs header 9)) (cond (eqb code 12) (Ok (pdus.NotOurs header 12)) (Err BadDirective)))))) (Ok pdu) later0.1) [
            | inl here ↦
                let x = bind_ok (eof_at header.large octets) (λ v. Ok (pdus.Eof header v)) pdu here.1 in
                subst (Directs header code octets) (ok_is (pdus.Eof header x.0) pdu x.2)
                (record { of_header = refl; spelled = (eqb-true _ _ here.0, eof_takes header.large octets x.0 x.1) })
            | inr later1 ↦
                elim (chosen (eqb code 5) (finished_at octets >>= λ finished. Ok (pdus.Finished header finished))
                (cond (eqb code 6) (Ok (pdus.NotOurs header 6)) (cond (eqb code 8) (Ok (pdus.NotOurs header 8))
                (cond (eqb code 9) (Ok (pdus.NotOurs header 9)) (cond (eqb code 12) (Ok (pdus.NotOurs header 12)) (Err BadDirective))))) (Ok pdu) later1.1) [
                  | inl here ↦
                      let x = bind_ok (finished_at octets) (λ v. Ok (pdus.Finished header v)) pdu here.1 in
                      subst (Directs header code octets) (ok_is (pdus.Finished header x.0) pdu x.2)
                      (record { of_header = refl; spelled = (eqb-true _ _ here.0, finished_takes octets x.0 x.1) })
                  | inr later2 ↦
                      elim (chosen (eqb code 6) (Ok (pdus.NotOurs header 6)) (cond (eqb code 8) (Ok (pdus.NotOurs header 8))
                      (cond (eqb code 9) (Ok (pdus.NotOurs header 9)) (cond (eqb code 12) (Ok (pdus.NotOurs header 12)) (Err BadDirective))))
                      (Ok pdu) later2.1) [
                        | inl here ↦ is_other header code 6 octets pdu here.0 (inl refl) (ok_is (other header 6) pdu here.1)
                        | inr later3 ↦
                            elim (chosen (eqb code 8) (Ok (pdus.NotOurs header 8)) (cond (eqb code 9) (Ok (pdus.NotOurs header 9))
                            (cond (eqb code 12) (Ok (pdus.NotOurs header 12)) (Err BadDirective))) (Ok pdu) later3.1) [
                              | inl here ↦ is_other header code 8 octets pdu here.0 (inr (inl refl)) (ok_is (other header 8) pdu here.1)
                              | inr later4 ↦
                                  elim (chosen (eqb code 9) (Ok (pdus.NotOurs header 9)) (cond (eqb code 12) (Ok (pdus.NotOurs header 12)) (Err BadDirective))
                                  (Ok pdu) later4.1) [
                                    | inl here ↦ is_other header code 9 octets pdu here.0 (inr (inr (inl refl))) (ok_is (other header 9) pdu here.1)
                                    | inr later5 ↦
                                        elim (chosen (eqb code 12) (Ok (pdus.NotOurs header 12)) (Err BadDirective) (Ok pdu) later5.1) [
                                          | inl here ↦ is_other header code 12 octets pdu here.0 (inr (inr (inr refl))) (ok_is (other header 12) pdu here.1)
                                          | inr later6 ↦
                                              absurd (nothing pdu later6.1)
                                        ]
                                  ]
                            ]
                      ]
                ]
          ]
    ]

others_again : (code number : ℕ) (header : Header) (octets : List ℕ) → code ≡ number → IsOther code → directive_at header (code ∷ octets)
    ≡ Ok (pdus.NotOurs header number)
unfolding directive_at
others_again code number header octets same (inl is) =
    let number-is : number ≡ 6 = sym same ∙ is in rw (is, number-is) refl
others_again code number header octets same (inr (inl is)) =
    let number-is : number ≡ 8 = sym same ∙ is in rw (is, number-is) refl
others_again code number header octets same (inr (inr (inl is))) =
    let number-is : number ≡ 9 = sym same ∙ is in rw (is, number-is) refl
others_again code number header octets same (inr (inr (inr is))) =
    let number-is : number ≡ 12 = sym same ∙ is in rw (is, number-is) refl

directive_again : (code : ℕ) (octets : List ℕ) (pdu : Pdu) → SpellsDirective code octets pdu → directive_at (header_of pdu) (code ∷ octets) ≡ Ok pdu
unfolding directive_at
directive_again code octets (pdus.Metadata header metadata) spelled = rw (spelled.0, metadata_again header.large octets metadata spelled.1) refl
directive_again code octets (pdus.FileData header file_data) spelled = absurd spelled
directive_again code octets (pdus.Eof header eof) spelled = rw (spelled.0, eof_again header.large octets eof spelled.1) refl
directive_again code octets (pdus.Finished header finished) spelled = rw (spelled.0, finished_again octets finished spelled.1) refl
directive_again code octets (pdus.NotOurs header number) spelled = others_again code number header octets spelled.0 spelled.1

record Fields (start : Start) (pdu : Pdu) : Type 0 where
  of_header : header_of pdu ≡ start.header
  spelled : SpellsField start.file_data start.segment_metadata start.field pdu

field_takes : (file_data segment_metadata : Bool) (header : Header) (field : List ℕ) (pdu : Pdu)
    → field_at (record { file_data = file_data; segment_metadata = segment_metadata; header = header; field = field }) ≡ Ok pdu
    → Fields (record { file_data = file_data; segment_metadata = segment_metadata; header = header; field = field }) pdu
unfolding field_at directive_at
field_takes true segment_metadata header field pdu e =
    let x = bind_ok (file_data_at header.large segment_metadata field) (λ v. Ok (pdus.FileData header v)) pdu e in
    let start : Start = record { file_data = true; segment_metadata = segment_metadata; header = header; field = field } in
    subst (Fields start) (ok_is (pdus.FileData header x.0) pdu x.2) (record {
      of_header = refl;
      spelled = file_data_takes header.large segment_metadata field x.0 x.1;
    })
field_takes false segment_metadata header [] pdu e = absurd cc
field_takes false segment_metadata header (code ∷ octets) pdu e =
    let directs = directive_takes header code octets pdu e in
    record { of_header = directs.of_header; spelled = directs.spelled }

pub field_again : (file_data segment_metadata : Bool) (field : List ℕ) (pdu : Pdu) → SpellsField file_data segment_metadata field pdu
    → field_at (record { file_data = file_data; segment_metadata = segment_metadata; header = header_of pdu; field = field }) ≡ Ok pdu
unfolding field_at
field_again true segment_metadata field (pdus.FileData header file_data) spelled =
    rw (file_data_again header.large segment_metadata field file_data spelled) refl
field_again true segment_metadata field (pdus.Metadata header metadata) spelled = absurd spelled
field_again true segment_metadata field (pdus.Eof header eof) spelled = absurd spelled
field_again true segment_metadata field (pdus.Finished header finished) spelled = absurd spelled
field_again true segment_metadata field (pdus.NotOurs header code) spelled = absurd spelled
field_again false segment_metadata [] pdu spelled = absurd spelled
field_again false segment_metadata (code ∷ octets) pdu spelled = directive_again code octets pdu spelled

-- ---- whole PDUs

pub pdu_takes : (octets : List ℕ) (pdu : Pdu) → pdu_at octets ≡ Ok pdu → SpellsPdu octets pdu
pdu_takes octets pdu e =
    let a = bind_ok (start_at octets) field_at pdu e in
    let begins = start_takes octets a.0 a.1 in
    let fields = field_takes a.0.file_data a.0.segment_metadata a.0.header a.0.field pdu a.2 in
    let P : List ℕ → Type 0 = λ os. SpellsPdu os pdu in
    let header : HasHeader begins.first begins.fourth begins.names (header_of pdu) =
    subst (HasHeader begins.first begins.fourth begins.names) (sym fields.of_header) begins.header in
    let spelled : SpellsField (flag 4 begins.first) (flag 3 begins.fourth) a.0.field pdu = rw (← begins.kind, ← begins.segment_metadata) fields.spelled in
    subst P (sym begins.octets_are) (record {
      names = begins.names;
      field = a.0.field;
      parts = begins.parts;
      field_len = begins.field_len;
      header = header;
      spelled = spelled;
    })

pub header_again : (first high low fourth : ℕ) (names field : List ℕ) (header : Header) → HasHeader first fourth names header → length field ≡ 256 * high + low
    → start_at (first ∷ high ∷ low ∷ fourth ∷ (names ++ field)) ≡ Ok (record {
      file_data = flag 4 first;
      segment_metadata = flag 3 fourth;
      header = header;
      field = field;
    })
unfolding start_at header_at
header_again first high low fourth names field header has len =
    let version : eqb (first / 32) 1 ≡ true = rw has.version refl in
    let source : IsNumber has.source_octets (fourth / 16 % 8 + 1) header.source =
    subst (λ (n : ℕ). IsNumber has.source_octets n header.source) has.id_len has.source in
    let number : IsNumber has.number_octets (fourth % 8 + 1) header.number =
    subst (λ (n : ℕ). IsNumber has.number_octets n header.number) has.number_len has.number in
    let destination : IsNumber has.destination_octets (fourth / 16 % 8 + 1) header.destination =
    subst (λ (n : ℕ). IsNumber has.destination_octets n header.destination) has.id_len has.destination in
    let parts : names ++ field ≡ has.source_octets ++ (has.number_octets ++ (has.destination_octets ++ field)) =
    ap (λ (t : List ℕ). t ++ field) has.parts ∙ append_assoc has.source_octets (has.number_octets ++ has.destination_octets) field
    ∙ ap (λ (t : List ℕ). has.source_octets ++ t) (append_assoc has.number_octets has.destination_octets field) in
    let enough : ltb (length field) (256 * high + low) ≡ false = le-ltb _ _ (omega (arith, len)) in
    let no_more : ltb (256 * high + low) (length field) ≡ false = le-ltb _ _ (omega (arith, len)) in
    ap (λ (t : List ℕ). start_at (first ∷ high ∷ low ∷ fourth ∷ t)) parts
    ∙ rw (
      version,
      has.no_crc,
      number_again Truncated (fourth / 16 % 8 + 1) has.source_octets header.source (has.number_octets ++ (has.destination_octets ++ field)) source,
      number_again Truncated (fourth % 8 + 1) has.number_octets header.number (has.destination_octets ++ field) number,
      number_again Truncated (fourth / 16 % 8 + 1) has.destination_octets header.destination field destination,
      enough,
      no_more,
      ← has.direction,
      ← has.mode,
      ← has.large,
      ← has.id_len,
      ← has.number_len,
    ) refl

pub pdu_again : (octets : List ℕ) (pdu : Pdu) → SpellsPdu octets pdu → pdu_at octets ≡ Ok pdu
pdu_again [] pdu spelled = absurd spelled
pdu_again (first ∷ []) pdu spelled = absurd spelled
pdu_again (first ∷ high ∷ []) pdu spelled = absurd spelled
pdu_again (first ∷ high ∷ low ∷ []) pdu spelled = absurd spelled
pdu_again (first ∷ high ∷ low ∷ fourth ∷ rest) pdu spelled =
    let begun = ap (λ (t : List ℕ). start_at (first ∷ high ∷ low ∷ fourth ∷ t)) spelled.parts
    ∙ header_again first high low fourth spelled.names spelled.field (header_of pdu) spelled.header spelled.field_len in
    ap (λ read. read >>= field_at) begun ∙ field_again (flag 4 first) (flag 3 fourth) spelled.field pdu spelled.spelled

-- octets spell at most one PDU
pub one_pdu : (octets : List ℕ) (a b : Pdu) → SpellsPdu octets a → SpellsPdu octets b → a ≡ b
one_pdu octets a b first second = ok_is a b (sym (pdu_again octets a first) ∙ pdu_again octets b second)

pub pdu_found : (octets : List ℕ) (result : Result Pdu PduFault) → Gives Memory (λ (pdu : Pdu). pdu) result (pdu_at octets) → IfOk result (SpellsPdu octets)
pdu_found octets (Ok pdu) given = pdu_takes octets pdu given
pdu_found octets (Err fault) given = tt

pub pdu_only : (octets : List ℕ) (result : Result Pdu PduFault) → Gives Memory (λ (pdu : Pdu). pdu) result (pdu_at octets) → (pdu : Pdu) →
    SpellsPdu octets pdu → (result ≡ Ok pdu) ⊎ (result ≡ Err Memory)
pdu_only octets result given pdu spelled = only_ok Memory result (pdu_at octets) pdu given (pdu_again octets pdu spelled)
