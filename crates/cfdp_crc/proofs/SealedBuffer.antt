-- A PDU and its CRC in a buffer: the PDU with its flag is followed by the two octets of the CRC, and the rest of the buffer stays.
use Rattle.std.proofs.Common.{◌≡◌, ℕ, ◌+◌, ◌/◌, ◌%◌, List, [], ◌∷◌, ◌++◌, length, take, drop, Result, Ok, sym, ap, ◌∙◌}
use Rattle.std.proofs.Math.Seq.{take-append-add, drop-append-add}
use Rattle.std.proofs.lemmas.List.{length-set, drop-drop}
use Rattle.cfdp_crc.specs.Crc.{crc_of}
use Rattle.cfdp_crc.specs.declared.sealing.SealFault.{SealFault}
use Rattle.cfdp_crc.specs.Seal.{plain_len, with_flag, with_crc, sealed, sealed_from}

pub length-with_flag : (octets : List ℕ) (len : ℕ) → length (with_flag octets len) ≡ length octets
length-with_flag octets len = simp length-set

pub sealed-is : (octets flagged room rest : List ℕ) (n len crc : ℕ) → plain_len octets ≡ Ok len → flagged ≡ with_flag octets len →
    length octets ≡ n → crc ≡ crc_of flagged → room ≡ crc / 256 ∷ crc % 256 ∷ rest → sealed octets ≡ Ok (take (n + 2) (flagged ++ room))
sealed-is octets flagged room rest n len crc plain flag long crc-is room-is =
    let flagged-len : length flagged ≡ n = ap length flag ∙ length-with_flag octets len ∙ long in
    let two : take 2 room ≡ crc / 256 ∷ crc % 256 ∷ [] = ap (take 2) room-is in
    let taken : take (n + 2) (flagged ++ room) ≡ with_crc flagged crc =
    ap (λ (k : ℕ). take (k + 2) (flagged ++ room)) (sym flagged-len) ∙ take-append-add flagged room 2 ∙ ap (λ (xs : List ℕ). flagged ++ xs) two in
    let W = with_flag octets len in
    let crc-of : crc ≡ crc_of W = crc-is ∙ ap crc_of flag in
    ap (λ (r : Result ℕ SealFault). sealed_from r octets) plain
    ∙ ap Ok (
    ap (λ (k : ℕ). with_crc W k) (sym crc-of) ∙ ap (λ (xs : List ℕ). with_crc xs crc) (sym flag) ∙ sym taken
    )

pub rest-stays : (buffer flagged room : List ℕ) (n x y : ℕ) → length flagged ≡ n →
    room ≡ x ∷ y ∷ drop 2 (drop n buffer) → drop (n + 2) (flagged ++ room) ≡ drop (n + 2) buffer
rest-stays buffer flagged room n x y long room-is =
    ap (λ (k : ℕ). drop (k + 2) (flagged ++ room)) (sym long) ∙ drop-append-add flagged room 2 ∙ ap (drop 2) room-is ∙ drop-drop 2 n buffer
