-- Octets that are put one part after the other.
use Rattle.std.proofs.Common.{◌≡◌, ◌≤◌, ℕ, ◌+◌, ◌*◌, List, [], ◌∷◌, ◌++◌, length, take, drop, Bool, refl, sym, ap, ◌∙◌, append_assoc, arith}
use Rattle.std.proofs.lemmas.List.{length-append, length-take-le, take_at, drop_at, drop-drop}
use Rattle.byteorder.specs.Endian.{big_bytes}
use Rattle.byteorder.specs.Numbers.{length-bytes_high_first}
use Rattle.cfdp_pdus.specs.Canonical.{first_octet, fourth_octet, header_octets, pdu_octets}
use Rattle.cfdp_pdus.specs.declared.header.Header.{Header}
use Rattle.cfdp_pdus.specs.BufferParts.{filled, with_octets_at}

-- a part after those that are there
pub overwritten-overwritten : (buffer xs ys : List ℕ) (at next : ℕ)
    → at ≤ length buffer → next ≡ at + length xs
    → with_octets_at (with_octets_at buffer at xs) next ys ≡ with_octets_at buffer at (xs ++ ys)
overwritten-overwritten buffer xs ys at next within same =
    let front = take at buffer ++ xs in
    let rest = drop (at + length xs) buffer in
    let parts : with_octets_at buffer at xs ≡ front ++ rest = sym (append_assoc (take at buffer) xs rest) in
    let len : length front ≡ next = omega (arith, same, length-append (take at buffer) xs, length-take-le at buffer within) in
    let before : take next (with_octets_at buffer at xs) ≡ front = ap (take next) parts ∙ take_at front rest next len in
    let after : drop (next + length ys) (with_octets_at buffer at xs) ≡ drop (at + length (xs ++ ys)) buffer =
    sym (drop-drop (length ys) next (with_octets_at buffer at xs))
    ∙ ap (λ (t : List ℕ). drop (length ys) (drop next t)) parts
    ∙ ap (drop (length ys)) (drop_at front rest next len)
    ∙ drop-drop (length ys) (at + length xs) buffer
    ∙ ap (λ (n : ℕ). drop n buffer) (omega (arith, length-append xs ys)) in
    let tail = drop (at + length (xs ++ ys)) buffer in
    ap (λ (t : List ℕ). t ++ (ys ++ drop (next + length ys) (with_octets_at buffer at xs))) before
    ∙ ap (λ (t : List ℕ). front ++ (ys ++ t)) after
    ∙ append_assoc (take at buffer) xs (ys ++ tail)
    ∙ ap (λ (t : List ℕ). take at buffer ++ t) (sym (append_assoc xs ys tail))

pub then : (buffer now new xs ys : List ℕ) (at next : ℕ)
    → at ≤ length buffer → now ≡ with_octets_at buffer at xs → new ≡ with_octets_at now next ys
    → next ≡ at + length xs → new ≡ with_octets_at buffer at (xs ++ ys)
then buffer now new xs ys at next within is_now is_new same =
    is_new ∙ ap (λ (t : List ℕ). with_octets_at t next ys) is_now ∙ overwritten-overwritten buffer xs ys at next within same

-- ---- from the front

pub at_front : (buffer xs : List ℕ) → with_octets_at buffer 0 xs ≡ filled xs buffer
at_front buffer xs = ap (λ (n : ℕ). xs ++ drop n buffer) (omega arith)

-- a part after those at the front
pub after : (buffer now new xs ys : List ℕ) (next : ℕ)
    → now ≡ filled xs buffer → new ≡ with_octets_at now next ys → next ≡ length xs
    → new ≡ filled (xs ++ ys) buffer
after buffer now new xs ys next is_now is_new same =
    then buffer now new xs ys 0 next (omega arith) (is_now ∙ sym (at_front buffer xs)) is_new (omega (arith, same)) ∙ at_front buffer (xs ++ ys)

pub length-header_octets : (file_data : Bool) (header : Header) (len : ℕ) → length (header_octets file_data header len) ≡ 4 + 2 * header.id_len
    + header.number_len
length-header_octets file_data header len =
    let source = big_bytes header.id_len header.source in
    let number = big_bytes header.number_len header.number in
    let destination = big_bytes header.id_len header.destination in
    omega (
      arith,
      length-append source (number ++ destination),
      length-append number destination,
      length-bytes_high_first header.id_len header.source,
      length-bytes_high_first header.number_len header.number,
      length-bytes_high_first header.id_len header.destination,
    )

-- the six parts of a header
pub header_filled : (file_data : Bool) (header : Header) (len : ℕ) (b p q r s t u : List ℕ) (second third : ℕ)
    → p ≡ with_octets_at b 0 (first_octet file_data header ∷ [])
    → q ≡ with_octets_at p 1 (big_bytes 2 len)
    → r ≡ with_octets_at q 3 (fourth_octet header ∷ [])
    → s ≡ with_octets_at r 4 (big_bytes header.id_len header.source)
    → t ≡ with_octets_at s second (big_bytes header.number_len header.number) → second ≡ 4 + header.id_len
    → u ≡ with_octets_at t third (big_bytes header.id_len header.destination) → third ≡ 4 + header.id_len + header.number_len
    → u ≡ filled (header_octets file_data header len) b
header_filled file_data header len b p q r s t u second third is_p is_q is_r is_s is_t at_second is_u at_third =
    let source = big_bytes header.id_len header.source in
    let number = big_bytes header.number_len header.number in
    let destination = big_bytes header.id_len header.destination in
    let first = first_octet file_data header ∷ [] in
    let fourth = fourth_octet header ∷ [] in
    let front = first ++ (big_bytes 2 len ++ fourth) in
    let till_q = after b p q first (big_bytes 2 len) 1 (is_p ∙ at_front b first) is_q refl in
    let till_r = after b q r (first ++ big_bytes 2 len) fourth 3 till_q is_r refl in
    let till_s = after b r s front source 4 till_r is_s refl in
    let till_t = after b s t (front ++ source) number second till_s is_t
    (omega (arith, at_second, length-bytes_high_first header.id_len header.source)) in
    let till_u = after b t u ((front ++ source) ++ number) destination third till_t is_u
    (omega (
      arith,
      at_third,
      length-append source number,
      length-bytes_high_first header.id_len header.source,
      length-bytes_high_first header.number_len header.number,
    )) in
    till_u ∙ ap (λ (o : List ℕ). filled (front ++ o) b) (append_assoc source number destination)

-- the data field after the header
pub pdu_filled : (file_data : Bool) (header : Header) (buffer now new field : List ℕ) (at : ℕ)
    → now ≡ filled (header_octets file_data header (length field)) buffer → new ≡ with_octets_at now at field
    → at ≡ 4 + 2 * header.id_len + header.number_len → new ≡ filled (pdu_octets file_data header field) buffer
pdu_filled file_data header buffer now new field at is_now is_new same =
    let octets = header_octets file_data header (length field) in
    after buffer now new octets field at is_now is_new (same ∙ sym (length-header_octets file_data header (length field)))

-- a header that was written to the front is there
pub header_front : (file_data : Bool) (header : Header) (len : ℕ) (buffer : List ℕ) (n : ℕ) → n ≡ 4 + 2 * header.id_len + header.number_len
    → take n (filled (header_octets file_data header len) buffer) ≡ header_octets file_data header len
header_front file_data header len buffer n is =
    let octets = header_octets file_data header len in
    take_at octets (drop (length octets) buffer) n (length-header_octets file_data header len ∙ sym is)
