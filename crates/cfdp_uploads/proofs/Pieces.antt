-- The pieces of a file, and the PDUs of an upload.
use Rattle.std.proofs.Common.{◌≡◌, ℕ, zero, suc, ◌+◌, ◌-◌, ◌*◌, ◌/◌, ◌%◌, ◌<◌, ◌≤◌, ◌^◌, List, [], ◌∷◌, ◌++◌, length, map, get_or, take, drop, Bool, true, false, eqb, cond, Option, Some, refl, ap, sym, subst, ◌∙◌, arith, ◌||◌, lit<}
use Rattle.std.specs.Prelude.{IfSome, OnOk, Contains, Result}
use Rattle.std.specs.List.{AllByRecursion, slice_get}
use Rattle.std.proofs.lemmas.Bool.{eqb-true, eqb-false}
use Rattle.std.proofs.lemmas.List.{length-take, length-drop, length-append, length-map}
use Rattle.std.proofs.Math.Nat.{div-add-mod, mod-lt, lt_of_mul-lt-mul_left}
use Rattle.cfdp_checksum.specs.Checksum.{weighed_from}
use Rattle.cfdp_pdus.specs.declared.pdu.Pdu.{Pdu}
use Rattle.cfdp_pdus.specs.declared.pdu.Pdu.TheVariants as pdus
use Rattle.cfdp_pdus.specs.declared.eof.Eof.{Eof}
use Rattle.cfdp_pdus.specs.declared.fault.WriteFault.{WriteFault}
use Rattle.cfdp_pdus.specs.Values.{FileDataFields}
use Rattle.cfdp_pdus.specs.Grammar.{SpellsPdu}
use Rattle.cfdp_pdus.specs.Canonical.{metadata_field, file_data_field, eof_field, pdu_octets}
use Rattle.cfdp_pdus.proofs.CanonicalSteps.{pdu_spelled, metadata_spelled, metadata_short, file_data_spelled, eof_spelled, eof_short}
use Rattle.cfdp_pdus.proofs.WriteSteps.{file_data_len}
use Rattle.cfdp_uploads.specs.Uploads.{UploadFields, IsUpload, piece_count, pieces_of, piece_of, piece_pdu, eof_of, upload_pdus, sent_octets, is_sent}
use Rattle.cfdp_uploads.specs.Laws.{ReadBack, IsPart, PartsOfFile, WholeFile}
use Rattle.cfdp_uploads.proofs.Found.{each_weaker}
use Rattle.cfdp_status.proofs.Appended.{all-append}

-- ---- how many pieces there are

count_reaches_by : (size segment : ℕ) (b : Bool) → eqb (size % segment) 0 ≡ b → 0 < segment → size ≤ segment * (size / segment + cond b 0 1)
count_reaches_by size segment true is pos = omega (arith, div-add-mod size segment, eqb-true (size % segment) 0 is)
count_reaches_by size segment false is pos = omega (arith, div-add-mod size segment, mod-lt size {m = segment} pos)

-- the pieces are the whole file
count_reaches : (size segment : ℕ) → 0 < segment → size ≤ segment * piece_count size segment
count_reaches size segment pos = count_reaches_by size segment (eqb (size % segment) 0) refl pos

count_needed_by : (size segment : ℕ) (b : Bool) → eqb (size % segment) 0 ≡ b → 0 < segment → segment * (size / segment + cond b 0 1) < size + segment
count_needed_by size segment true is pos = omega (arith, div-add-mod size segment)
count_needed_by size segment false is pos =
    let some : (size % segment ≡ 0) → ⊥ = eqb-false (size % segment) 0 is in
    omega (arith, div-add-mod size segment, some)

-- and no piece is empty
count_needed : (size segment : ℕ) → 0 < segment → segment * piece_count size segment < size + segment
count_needed size segment pos = count_needed_by size segment (eqb (size % segment) 0) refl pos

mul_step : (segment index count : ℕ) → index < count → segment * index + segment ≤ segment * count
mul_step segment index count lt = grind arith

-- each piece begins in the file
pub begins_within : (size segment index : ℕ) → 0 < segment → index < piece_count size segment → segment * index < size
begins_within size segment index pos lt =
    omega (arith, count_needed size segment pos, mul_step segment index (piece_count size segment) lt)

-- the piece in which an offset lies is there
pub lies_in : (size segment offset : ℕ) → 0 < segment → offset < size → offset / segment < piece_count size segment
lies_in size segment offset pos lt =
    lt_of_mul-lt-mul_left segment (omega (arith, div-add-mod offset segment, count_reaches size segment pos))

pub piece_len : (u : UploadFields) (index : ℕ) → length (piece_of u index).octets ≤ u.segment
piece_len u index = omega (arith, length-take u.segment (drop (u.segment * index) u.file))

-- ---- lists

pub each_map : {X Y : Type 0} (P : Y → Type 0) (f : X → Y) (xs : List X) → AllByRecursion (λ x. P (f x)) xs → AllByRecursion P (map f xs)
each_map P f [] all = tt
each_map P f (x ∷ xs) all = (all.0, each_map P f xs all.1)

pub known_of : {X : Type 0} (P : X → Type 0) (xs : List X) (n : ℕ) → AllByRecursion P xs → IfSome (slice_get xs n) P
known_of P [] n all = tt
known_of P (x ∷ xs) zero all = all.0
known_of P (x ∷ xs) (suc n) all = known_of P xs n all.1

among : {X Y : Type 0} (f : X → Y) (xs : List X) (y : Y) (n : ℕ) (x : X) → n < length xs → x ≡ get_or xs n x → slice_get (map f xs ++ y ∷ []) n ≡ Some (f x)
among f [] y n x lt is = absurd (omega arith)
among f (z ∷ xs) y zero x lt is = ap (λ w. Some (f w)) (sym is)
among f (z ∷ xs) y (suc n) x lt is = among f xs y n x (omega arith) is

following : {X Y : Type 0} (f : X → Y) (xs : List X) (y : Y) → slice_get (map f xs ++ y ∷ []) (length xs) ≡ Some y
following f [] y = refl
following f (z ∷ xs) y = following f xs y

pub piece_at : (u : UploadFields) (number index : ℕ) → 0 < number → number - 1 < length u.order → index ≡ get_or u.order (number - 1) index
    → slice_get (upload_pdus u) number ≡ Some (piece_pdu u index)
piece_at u number index some lt is =
    let e : number ≡ suc (number - 1) = omega arith in
    ap (slice_get (upload_pdus u)) e ∙ among (piece_pdu u) u.order (pdus.Eof u.header (eof_of u)) (number - 1) index lt is

pub end_at : (u : UploadFields) (number : ℕ) → number ≡ suc (length u.order) → slice_get (upload_pdus u) number ≡ Some (pdus.Eof u.header (eof_of u))
end_at u number e = ap (slice_get (upload_pdus u)) e ∙ following (piece_pdu u) u.order (pdus.Eof u.header (eof_of u))

-- ---- what is written is read

piece_spelled : (u : UploadFields) → IsUpload u → (index : ℕ) → index < pieces_of u → SpellsPdu (sent_octets (piece_pdu u index)) (piece_pdu u index)
piece_spelled u is index lt =
    let begins : u.segment * index < length u.file = begins_within (length u.file) u.segment index (omega (arith, is.some)) lt in
    pdu_spelled true (piece_pdu u index) (file_data_field u.header.large (piece_of u index)) is.header
    (omega (arith, file_data_len u.header.large (piece_of u index), piece_len u index, is.short))
    (file_data_spelled u.header (piece_of u index) (record { offset = omega (arith, begins, is.size, is.sized.size) }))

sum_fits : (u : UploadFields) → (eof_of u).checksum < 256 ^ 4
sum_fits u = mod-lt (weighed_from 0 u.file) {m = 2 ^ 32} (lit< tt)

pub read_back : ReadBack
read_back u is = (
  pdu_spelled false (pdus.Metadata u.header u.metadata) (metadata_field u.header.large u.metadata) is.header
      (metadata_short u.header.large u.metadata is.fits)
      (metadata_spelled u.header u.metadata is.sized is.answerable),
  all-append (λ pdu. SpellsPdu (sent_octets pdu) pdu) (map (piece_pdu u) u.order) (pdus.Eof u.header (eof_of u) ∷ [])
      (each_map (λ pdu. SpellsPdu (sent_octets pdu) pdu) (piece_pdu u) u.order
      (each_weaker (λ index. index < pieces_of u) _ (piece_spelled u is) u.order is.within)) (
        pdu_spelled false (pdus.Eof u.header (eof_of u)) (eof_field u.header (eof_of u)) is.header (eof_short u.header (eof_of u) is.header)
            (eof_spelled u.header (eof_of u) (record { condition = omega arith; size = omega (arith, is.size, is.sized.size) }) (sum_fits u)),
        tt,
      ),
)

-- ---- the pieces are the file

take_len : (n : ℕ) (xs : List ℕ) → take n xs ≡ take (length (take n xs)) xs
take_len zero xs = refl
take_len (suc n) [] = refl
take_len (suc n) (x ∷ xs) = ap (λ (l : List ℕ). x ∷ l) (take_len n xs)

pub part : (u : UploadFields) → IsUpload u → (index : ℕ) → index < pieces_of u → IsPart u.file (piece_of u index)
part u is index lt =
    let begins : u.segment * index < length u.file = begins_within (length u.file) u.segment index (omega (arith, is.some)) lt in
    record {
      within =
          omega (
            arith,
            begins,
            length-take u.segment (drop (u.segment * index) u.file),
            length-drop (u.segment * index) u.file,
          );
      same = take_len u.segment (drop (u.segment * index) u.file);
    }

pub parts : PartsOfFile
parts u is = each_weaker (λ index. index < pieces_of u) _ (part u is) u.order is.within

sent_by_first : (x : ℕ) (xs : List ℕ) (index : ℕ) (b : Bool) → eqb x index ≡ b → (b || is_sent xs index) ≡ true
    → (is_sent xs index ≡ true → Contains xs index) → Contains (x ∷ xs) index
sent_by_first x xs index true same is rest = (0, omega arith, eqb-true x index same)
sent_by_first x xs index false same is rest = let at = rest is in (suc at.0, omega (arith, at.1), at.2)

sent_by : (order : List ℕ) (index : ℕ) → is_sent order index ≡ true → Contains order index
sent_by [] index is = absurd cc
sent_by (x ∷ xs) index is = sent_by_first x xs index (eqb x index) refl is (sent_by xs index)

pub whole : WholeFile
whole u is offset lt =
    let pos : 0 < u.segment = omega (arith, is.some) in
    let index : ℕ = offset / u.segment in
    let there : index < pieces_of u = lies_in (length u.file) u.segment offset pos lt in
    record {
      index = index;
      sent = sent_by u.order index (is.each index there);
      from = omega (arith, div-add-mod offset u.segment);
      to =
          omega (
            arith,
            lt,
            div-add-mod offset u.segment,
            mod-lt offset {m = u.segment} pos,
            length-take u.segment (drop (u.segment * index) u.file),
            length-drop (u.segment * index) u.file,
          );
    }

-- ---- what a call of `write` appends

pub piece_written : {u v : UploadFields} → u ≡ v → (number index : ℕ) (order : List ℕ) (piece : FileDataFields)
    (r : Result (Unit {0}) WriteFault) (old new : List ℕ)
    → 0 < number → order ≡ u.order → number - 1 < length order → index ≡ get_or order (number - 1) index → piece ≡ piece_of v index
    → OnOk r (new ≡ old ++ pdu_octets true u.header (file_data_field u.header.large piece))
    → OnOk r (IfSome (slice_get (upload_pdus v) number) (λ pdu. new ≡ old ++ sent_octets pdu))
piece_written {u = u} {v = v} same number index order piece r old new some order_is lt is piece_is written =
    let lt' : number - 1 < length v.order = subst (λ (xs : List ℕ). number - 1 < length xs) (order_is ∙ ap (λ (w : UploadFields). w.order) same) lt in
    let is' : index ≡ get_or v.order (number - 1) index =
    is ∙ ap (λ (xs : List ℕ). get_or xs (number - 1) index) (order_is ∙ ap (λ (w : UploadFields). w.order) same) in
    let octets : OnOk r (new ≡ old ++ sent_octets (pdus.FileData v.header piece)) =
    subst (λ (w : UploadFields). OnOk r (new ≡ old ++ sent_octets (pdus.FileData w.header piece))) same written in
    let whole : OnOk r (new ≡ old ++ sent_octets (piece_pdu v index)) =
    subst (λ (d : FileDataFields). OnOk r (new ≡ old ++ sent_octets (pdus.FileData v.header d))) piece_is octets in
    subst (λ (o : Option Pdu). OnOk r (IfSome o (λ pdu. new ≡ old ++ sent_octets pdu))) (sym (piece_at v number index some lt' is')) whole

pub end_written : {u v : UploadFields} → u ≡ v → (number : ℕ) (order : List ℕ) (eof : Eof) (r : Result (Unit {0}) WriteFault) (old new : List ℕ)
    → 0 < number → order ≡ u.order → length order ≤ number - 1 → number < length (upload_pdus v) → eof ≡ eof_of v
    → OnOk r (new ≡ old ++ pdu_octets false u.header (eof_field u.header eof))
    → OnOk r (IfSome (slice_get (upload_pdus v) number) (λ pdu. new ≡ old ++ sent_octets pdu))
end_written {u = u} {v = v} same number order eof r old new some order_is le lt eof_is written =
    let long : length order ≡ length v.order = ap (λ (xs : List ℕ). length xs) (order_is ∙ ap (λ (w : UploadFields). w.order) same) in
    let last : number ≡ suc (length v.order) =
    omega (
      arith,
      long,
      length-append (map (piece_pdu v) v.order) (pdus.Eof v.header (eof_of v) ∷ []),
      length-map v.order (piece_pdu v),
    ) in
    let octets : OnOk r (new ≡ old ++ sent_octets (pdus.Eof v.header eof)) =
    subst (λ (w : UploadFields). OnOk r (new ≡ old ++ sent_octets (pdus.Eof w.header eof))) same written in
    let whole : OnOk r (new ≡ old ++ sent_octets (pdus.Eof v.header (eof_of v))) =
    subst (λ (e : Eof). OnOk r (new ≡ old ++ sent_octets (pdus.Eof v.header e))) eof_is octets in
    subst (λ (o : Option Pdu). OnOk r (IfSome o (λ pdu. new ≡ old ++ sent_octets pdu))) (sym (end_at v number last)) whole

pub spelled_at : {u v : UploadFields} → u ≡ v → IsUpload u → (number : ℕ) → IfSome (slice_get (upload_pdus v) number) (λ pdu. SpellsPdu (sent_octets pdu) pdu)
spelled_at {u = u} {v = v} same is number = known_of (λ pdu. SpellsPdu (sent_octets pdu) pdu) (upload_pdus v) number (read_back v (subst IsUpload same is))
