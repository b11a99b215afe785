-- What is kept of the pieces of a file is the file.
use Rattle.std.proofs.Common.{◌≡◌, ℕ, zero, suc, ◌+◌, ◌-◌, ◌<◌, ◌≤◌, ◌⊎◌, List, [], ◌∷◌, length, map, get_or, drop, Option, Some, None, inl, inr, refl, ap, sym, subst, ◌∙◌, arith}
use Rattle.std.specs.Option.{option_or}
use Rattle.std.specs.List.{AllByRecursion}
use Rattle.std.proofs.lemmas.List.{get_or-take, get_or-drop}
use Rattle.std.proofs.lemmas.Bool.{cases_lt}
use Rattle.std.proofs.lemmas.Option.{slice_get_past, slice_get-get_or}
use Rattle.cfdp_transactions.specs.Received.{Received, kept_with, brought}
use Rattle.cfdp_transactions.specs.ReceivedLaws.{octet_at}
use Rattle.cfdp_transactions.proofs.Received.OctetsAndGaps.{first_stays}
use Rattle.cfdp_transactions.proofs.Received.Writing.{brought_before, brought_there}
use Rattle.cfdp_pdus.specs.Values.{FileDataFields}
use Rattle.cfdp_uploads.specs.Uploads.{UploadFields, IsUpload, piece_of, pieces_of}
use Rattle.cfdp_uploads.specs.Laws.{IsPart}
use Rattle.cfdp_uploads.proofs.Pieces.{part, whole}
use Rattle.cfdp_completion.specs.Delivering.{kept_piece, kept_after, FileIsKept}
use Rattle.cfdp_transactions.proofs.Soundness.Receiving.{kept_within}

-- ---- what a piece brings

-- an octet of the file, or none
abbrev IsOf : List ℕ → Option ℕ → ℕ → Type 0
IsOf file o i = (o ≡ None) ⊎ ((o ≡ Some (get_or file i 0)) × (i < length file))

part_octet : (file : List ℕ) (piece : FileDataFields) → IsPart file piece → (j : ℕ) → j < length piece.octets
    → get_or piece.octets j 0 ≡ get_or file (piece.offset + j) 0
part_octet file piece is j lt =
    ap (λ (xs : List ℕ). get_or xs j 0) is.same
    ∙ get_or-take (length piece.octets) (drop piece.offset file) j 0 lt
    ∙ get_or-drop piece.offset file j 0

brings : (file : List ℕ) (piece : FileDataFields) → IsPart file piece → (i : ℕ) → piece.offset ≤ i → i < piece.offset + length piece.octets
    → brought piece.offset piece.octets i ≡ Some (get_or file i 0)
brings file piece is i from to =
    let j : ℕ = i - piece.offset in
    let at : piece.offset + j ≡ i = omega arith in
    let lt : j < length piece.octets = omega arith in
    brought_there piece.offset piece.octets i from ∙ slice_get-get_or piece.octets j 0 lt
    ∙ ap Some (part_octet file piece is j lt) ∙ ap (λ n. Some (get_or file n 0)) at

brought_at_end : (file : List ℕ) (piece : FileDataFields) (i : ℕ) → piece.offset + length piece.octets ≤ i → IsOf file (brought piece.offset piece.octets i) i
brought_at_end file piece i past =
    inl (brought_there piece.offset piece.octets i (omega arith) ∙ slice_get_past piece.octets (i - piece.offset) (omega arith))

brought_part : (file : List ℕ) (piece : FileDataFields) → IsPart file piece → (i : ℕ) → IsOf file (brought piece.offset piece.octets i) i
brought_part file piece is i =
    elim (cases_lt i piece.offset) [
      | inl before ↦ inl (brought_before piece.offset piece.octets i before)
      | inr from ↦ elim (cases_lt i (piece.offset + length piece.octets)) [
        | inl to ↦ inr (brings file piece is i from to, omega (arith, to, is.within))
        | inr past ↦ brought_at_end file piece i past
      ]
    ]

-- ---- what is kept

pub record Partly (file : List ℕ) (rs : Received) : Type 0 where
  pub each : (i : ℕ) → IsOf file (octet_at rs i) i
  pub within : length rs ≤ length file

either : (file : List ℕ) (a b : Option ℕ) (i : ℕ) → IsOf file a i → IsOf file b i → IsOf file (option_or a b) i
either file None b i first second = second
either file (Some x) b i first second = first

pub partly_kept : (file : List ℕ) (rs : Received) (piece : FileDataFields) → IsPart file piece → Partly file rs
    → Partly file (kept_with rs piece.offset piece.octets)
partly_kept file rs piece is partly = record {
  each = λ i. subst (λ (o : Option ℕ). IsOf file o i) (sym (first_stays rs piece.offset piece.octets i))
      (either file (octet_at rs i) (brought piece.offset piece.octets i) i (partly.each i) (brought_part file piece is i));
  within = kept_within rs piece.offset piece.octets (length file) partly.within is.within;
}

-- once an octet is there, it stays
abbrev IsThere : List ℕ → Received → ℕ → Type 0
IsThere file rs i = octet_at rs i ≡ Some (get_or file i 0)

stays_there : (file : List ℕ) (rs : Received) (piece : FileDataFields) (i : ℕ) → IsThere file rs i → IsThere file (kept_with rs piece.offset piece.octets) i
stays_there file rs piece i there =
    first_stays rs piece.offset piece.octets i ∙ ap (λ (o : Option ℕ). option_or o (brought piece.offset piece.octets i)) there

comes_by : (file : List ℕ) (a : Option ℕ) (i : ℕ) → IsOf file a i → option_or a (Some (get_or file i 0)) ≡ Some (get_or file i 0)
comes_by file None i of = refl
comes_by file (Some x) i (inl none) = absurd cc
comes_by file (Some x) i (inr of) = of.0

comes : (file : List ℕ) (rs : Received) (piece : FileDataFields) → IsPart file piece → Partly file rs → (i : ℕ)
    → piece.offset ≤ i → i < piece.offset + length piece.octets → IsThere file (kept_with rs piece.offset piece.octets) i
comes file rs piece is partly i from to =
    first_stays rs piece.offset piece.octets i ∙ ap (option_or (octet_at rs i)) (brings file piece is i from to)
    ∙ comes_by file (octet_at rs i) i (partly.each i)

partly_after : (u : UploadFields) → IsUpload u → (rs : Received) (indices : List ℕ) → AllByRecursion (λ index. index < pieces_of u) indices
    → Partly u.file rs → Partly u.file (kept_after u rs indices)
partly_after u is rs [] within partly = partly
partly_after u is rs (index ∷ indices) within partly =
    partly_after u is (kept_piece u rs index) indices within.1 (partly_kept u.file rs (piece_of u index) (part u is index within.0) partly)

there_after : (u : UploadFields) (rs : Received) (indices : List ℕ) (i : ℕ) → IsThere u.file rs i → IsThere u.file (kept_after u rs indices) i
there_after u rs [] i there = there
there_after u rs (index ∷ indices) i there = there_after u (kept_piece u rs index) indices i (stays_there u.file rs (piece_of u index) i there)

came_after : (u : UploadFields) → IsUpload u → (rs : Received) (indices : List ℕ) → AllByRecursion (λ index. index < pieces_of u) indices
    → Partly u.file rs → (i n index : ℕ) → n < length indices → get_or indices n index ≡ index → (piece_of u index).offset ≤ i
    → i < (piece_of u index).offset + length (piece_of u index).octets → IsThere u.file (kept_after u rs indices) i
came_after u is rs [] within partly i n index lt at from to = absurd (omega arith)
came_after u is rs (first ∷ indices) within partly i zero index lt at from to =
    let lt' : index < pieces_of u = omega (arith, at, within.0) in
    let now : IsThere u.file (kept_piece u rs index) i = comes u.file rs (piece_of u index) (part u is index lt') partly i from to in
    there_after u (kept_piece u rs first) indices i (subst (λ (k : ℕ). IsThere u.file (kept_piece u rs k) i) (sym at) now)
came_after u is rs (first ∷ indices) within partly i (suc n) index lt at from to =
    came_after u is (kept_piece u rs first) indices within.1 (partly_kept u.file rs (piece_of u first) (part u is first within.0) partly)
    i n index (omega arith) at from to

-- ---- the whole

whole_is : (file : List ℕ) (rs : Received) → length rs ≤ length file → ((i : ℕ) → i < length file → octet_at rs i ≡ Some (get_or file i 0)) → rs ≡ map Some file
whole_is [] [] le there = refl
whole_is [] (r ∷ rs) le there = absurd (omega arith)
whole_is (x ∷ file) [] le there = absurd (let h = there 0 (omega arith) in cc)
whole_is (x ∷ file) (r ∷ rs) le there =
    ap (λ (o : Option ℕ). o ∷ rs) (there 0 (omega arith))
    ∙ ap (λ (l : Received). Some x ∷ l) (whole_is file rs (omega arith) (λ i lt. there (suc i) (omega arith)))

nothing_yet : (file : List ℕ) → Partly file []
nothing_yet file = record { each = λ i. inl refl; within = omega arith }

pub file_kept : FileIsKept
file_kept u is =
    let partly = partly_after u is [] u.order is.within (nothing_yet u.file) in
    whole_is u.file (kept_after u [] u.order) partly.within
    (λ i lt. let at = whole u is i lt in
    came_after u is [] u.order is.within (nothing_yet u.file) i at.sent.0 at.index at.sent.1 at.sent.2 at.from at.to)
