-- A part that is put before one that is there.
use Rattle.std.proofs.Common.{◌≡◌, ◌≤◌, ℕ, ◌+◌, ◌*◌, List, ◌++◌, length, take, drop, false, sym, ap, ◌∙◌, append_assoc, arith}
use Rattle.std.proofs.lemmas.List.{length-append, length-take-le, take-append-le, take-append-drop, drop_at}
use Rattle.cfdp_pdus.specs.Canonical.{header_octets, pdu_octets}
use Rattle.cfdp_pdus.specs.BufferParts.{filled, with_octets_at}
use Rattle.cfdp_pdus.specs.declared.header.Header.{Header}
use Rattle.cfdp_pdus.proofs.BufferParts.{length-header_octets, at_front}

pub before : (buffer now new xs ys : List ℕ) (at next : ℕ)
    → next ≤ length buffer → now ≡ with_octets_at buffer next ys → new ≡ with_octets_at now at xs
    → next ≡ at + length xs → new ≡ with_octets_at buffer at (xs ++ ys)
before buffer now new xs ys at next within is_now is_new same =
    let kept = take next buffer in
    let rest = drop (at + length (xs ++ ys)) buffer in
    let len : length kept ≡ next = length-take-le next buffer within in
    let less : at ≤ length kept = omega (arith, len, same) in
    let past : next + length ys ≡ at + length (xs ++ ys) = omega (arith, same, length-append xs ys) in
    let parts : now ≡ kept ++ (ys ++ rest) = is_now ∙ ap (λ (n : ℕ). kept ++ (ys ++ drop n buffer)) past in
    let front : take at now ≡ take at buffer =
    ap (take at) parts
    ∙ take-append-le at kept (ys ++ rest) less
    ∙ sym (take-append-le at kept (drop next buffer) less)
    ∙ ap (take at) (take-append-drop next buffer) in
    let after : drop (at + length xs) now ≡ ys ++ rest =
    ap (λ (n : ℕ). drop n now) (sym same) ∙ ap (drop next) parts ∙ drop_at kept (ys ++ rest) next len in
    is_new
    ∙ ap (λ (t : List ℕ). t ++ (xs ++ drop (at + length xs) now)) front
    ∙ ap (λ (t : List ℕ). take at buffer ++ (xs ++ t)) after
    ∙ ap (λ (t : List ℕ). take at buffer ++ t) (sym (append_assoc xs ys rest))

-- a header that is put before its data field
pub header_before : (header : Header) (buffer now new field : List ℕ) (len at : ℕ)
    → at ≤ length buffer → now ≡ with_octets_at buffer at field → new ≡ filled (header_octets false header len) now
    → len ≡ length field → at ≡ 4 + 2 * header.id_len + header.number_len → new ≡ filled (pdu_octets false header field) buffer
header_before header buffer now new field len at within is_now is_new is_len same =
    let octets = header_octets false header (length field) in
    let front : new ≡ with_octets_at now 0 octets =
    is_new ∙ ap (λ (n : ℕ). filled (header_octets false header n) now) is_len ∙ sym (at_front now octets) in
    before buffer now new octets field 0 at within is_now front (omega (arith, same, length-header_octets false header (length field)))
    ∙ at_front buffer (octets ++ field)
