-- Octets that replace others, in a list that is two lists joined.
--     overwritten-left, overwritten-right     in the first of them, in the second
--     overwritten-join                        one part after another
--     overwritten-extended                    octets put after a list that was lengthened by zeros
--     take-front, slice-first                 the first octets, before the part;  a slice of first octets that are the same
--     take_parts, slice_is, slice_join        the first octets in two parts;  a slice, and two of them joined
--     step_write, step_read, step_copy            what one part or one block more adds
--     slice-left, slice-right                 a slice of two lists joined
use Rattle.std.proofs.Common.{◌≡◌, ℕ, suc, zero, ◌+◌, ◌-◌, ◌*◌, ◌<◌, ◌≤◌, min, List, [], ◌∷◌, ◌++◌, length, take, drop, replicate, refl, sym, ap, ◌∙◌, arith, append_assoc, append-nil, length-append, length-drop}
use Rattle.std.proofs.lemmas.List.{take-append-le, drop-append-le, length-take-le, take_at, drop-drop, drop-replicate, take-append-drop, take-take}
use Rattle.std.proofs.lemmas.Slice.{between_is, take-put_mid}
use borrow.Rule.Slice.PartMut.{put_mid}
use Rattle.std.specs.Prelude.{slice_range}
use Rattle.cfdp_actions.specs.Store.{extended, overwritten}

pub take-right : (xs ys : List ℕ) (at j : ℕ) → j ≡ length xs + at → take j (xs ++ ys) ≡ xs ++ take at ys
take-right [] ys at j e = let same : j ≡ at = omega arith in ap (λ n. take n ys) same
take-right (x ∷ xs) ys at zero e = absurd (omega arith)
take-right (x ∷ xs) ys at (suc j) e = ap (λ rest. x ∷ rest) (take-right xs ys at j (omega arith))

pub drop-right : (xs ys : List ℕ) (at j : ℕ) → j ≡ length xs + at → drop j (xs ++ ys) ≡ drop at ys
drop-right [] ys at j e = let same : j ≡ at = omega arith in ap (λ n. drop n ys) same
drop-right (x ∷ xs) ys at zero e = absurd (omega arith)
drop-right (x ∷ xs) ys at (suc j) e = drop-right xs ys at j (omega arith)

pub overwritten-left : (xs ys : List ℕ) (at : ℕ) (part : List ℕ) → at + length part ≤ length xs → overwritten (xs ++ ys) at part ≡ overwritten xs at part ++ ys
overwritten-left xs ys at part within =
    (λ k. take-append-le at xs ys (omega arith) k ++ part ++ drop-append-le (at + length part) xs ys within k)
    ∙ sym (append_assoc (take at xs ++ part) (drop (at + length part) xs) ys)

pub overwritten-right : (xs ys : List ℕ) (at j : ℕ) (part : List ℕ) → j ≡ length xs + at → overwritten (xs ++ ys) j part ≡ xs ++ overwritten ys at part
overwritten-right xs ys at j part e =
    (λ k. take-right xs ys at j e k ++ part ++ drop-right xs ys (at + length part) (j + length part) (omega arith) k)
    ∙ ap (λ front. front ++ drop (at + length part) ys) (append_assoc xs (take at ys) part)
    ∙ append_assoc xs (take at ys ++ part) (drop (at + length part) ys)

-- one part after the other
pub overwritten-join : (xs part more : List ℕ) (at j : ℕ) → at ≤ length xs → j ≡ at + length part → overwritten (overwritten xs at part) j more
    ≡ overwritten xs at (part ++ more)
overwritten-join xs part more at j within e =
    let front = take at xs ++ part in
    let back = drop (at + length part) xs in
    let long : length front ≡ j = omega (arith, length-append (take at xs) part, length-take-le at xs within) in
    let end : at + length part + length more ≡ at + length (part ++ more) = omega (arith, length-append part more) in
    (λ k. take_at front back j long k ++ more ++ drop-right front back (length more) (j + length more) (omega arith) k)
    ∙ (λ k. append_assoc (take at xs) part more k ++ drop-drop (length more) (at + length part) xs k)
    ∙ ap (λ n. take at xs ++ (part ++ more) ++ drop n xs) end

pub overwritten-extended : (xs ys : List ℕ) (n j : ℕ) → length xs ≡ n → j ≡ n + length ys → overwritten (extended xs j) n ys ≡ xs ++ ys
overwritten-extended xs ys n j long e =
    let count : j - length xs ≡ length ys = omega arith in
    let same : n ≡ length xs + 0 = omega arith in
    let none : 0 + length ys ≡ length ys = omega arith in
    overwritten-right xs (replicate (j - length xs) 0) 0 n ys same
    ∙ (λ k. xs ++ (ys ++ drop (none k) (replicate (count k) 0)))
    ∙ ap (λ rest. xs ++ (ys ++ rest)) (drop-replicate (length ys) (length ys) 0 ∙ ap (λ m. replicate m 0) nothing)
    ∙ ap (λ rest. xs ++ rest) (append-nil ys)
  where
    nothing : length ys - length ys ≡ 0
    nothing = omega arith

-- the first n octets are the first m, and those from there on
pub take_parts : (xs : List ℕ) (m n : ℕ) → m ≤ n → take n xs ≡ take m xs ++ slice_range xs m n
take_parts xs m n le = sym (take-append-drop m (take n xs)) ∙ (λ k. take-take m n xs le k ++ sym (between_is xs m n) k)

-- a slice of the first list, and of the second
pub slice-left : (xs ys : List ℕ) (at count : ℕ) → at + count ≤ length xs → take count (drop at (xs ++ ys)) ≡ take count (drop at xs)
slice-left xs ys at count within =
    ap (λ zs. take count zs) (drop-append-le at xs ys (omega arith)) ∙ take-append-le count (drop at xs) ys (omega (arith, length-drop at xs))

pub slice-right : (xs ys : List ℕ) (at j count : ℕ) → j ≡ length xs + at → take count (drop j (xs ++ ys)) ≡ take count (drop at ys)
slice-right xs ys at j count e = ap (λ zs. take count zs) (drop-right xs ys at j e)

pub slice_is : (xs : List ℕ) (at end count : ℕ) → end ≡ at + count → slice_range xs at end ≡ take count (drop at xs)
slice_is xs at end count e = let same : end - at ≡ count = omega arith in ap (λ n. take n (drop at xs)) same

-- a part of the list, and the part after it
pub slice_join : (xs : List ℕ) (a b c : ℕ) → a ≤ b → b ≤ c → slice_range xs a b ++ slice_range xs b c ≡ slice_range xs a c
slice_join xs a b c ab bc =
    let m = b - a in
    let there : a + m ≡ b = omega arith in
    let following : drop m (drop a xs) ≡ drop b xs = drop-drop m a xs ∙ ap (λ n. drop n xs) there in
    let fewer : c - a - m ≡ c - b = omega arith in
    sym (take_parts (drop a xs) m (c - a) (omega arith)
    ∙ (λ k. take m (drop a xs) ++ take (fewer k) (following k)))

-- the first octets, where the part comes after them, and a slice of them
pub take-front : (xs part : List ℕ) (at b : ℕ) → b ≤ at → at ≤ length xs → take b (overwritten xs at part) ≡ take b xs
take-front xs part at b before within =
    let front : length (take at xs) ≡ at = length-take-le at xs within in
    ap (take b) (append_assoc (take at xs) part (drop (at + length part) xs))
    ∙ take-append-le b (take at xs) (part ++ drop (at + length part) xs) (omega arith)
    ∙ take-take b at xs before

pub slice-first : (xs ys : List ℕ) (n a b : ℕ) → b ≤ n → take n xs ≡ take n ys → slice_range xs a b ≡ slice_range ys a b
slice-first xs ys n a b before same =
    between_is xs a b ∙ ap (drop a) (sym (take-take b n xs before) ∙ ap (take b) same ∙ take-take b n ys before) ∙ sym (between_is ys a b)

-- one part more of some octets is written
pub step_write : (old octets rest : List ℕ) (at done count j : ℕ) → at ≤ length old → done + count ≤ length octets → rest ≡ drop done octets → j ≡ at + done
    → overwritten (overwritten old at (take done octets)) j (take count rest) ≡ overwritten old at (take (done + count) octets)
step_write old octets rest at done count j within long rest_is j_is =
    let more : take count rest ≡ slice_range octets done (done + count) = ap (take count) rest_is ∙ sym (slice_is octets done (done + count) count refl) in
    overwritten-join old (take done octets) (take count rest) at j within (omega (arith, j_is, length-take-le done octets (omega (arith, long))))
    ∙ ap (λ part. overwritten old at (take done octets ++ part)) more
    ∙ ap (overwritten old at) (sym (take_parts octets done (done + count) (omega arith)))

-- one part more is read
pub step_read : (all buffer piece : List ℕ) (at done count : ℕ) → take done buffer ≡ take done (drop at all) → piece ≡ take count (drop (at + done) all) →
    length piece ≡ count → done + count ≤ length buffer
    → take (done + count) (put_mid done (done + count - done) buffer piece) ≡ take (done + count) (drop at all)
step_read all buffer piece at done count so_far piece_is whole fits =
    let rest = drop at all in
    let full : done + count ≡ done + length piece = omega (arith, whole) in
    let there : piece ≡ slice_range rest done (done + count) = piece_is ∙ ap (take count) (sym (drop-drop done at all))
    ∙ sym (slice_is rest done (done + count) count refl) in
    take-put_mid done (done + count - done) buffer piece (done + count) full (omega (arith, fits))
    ∙ (λ k. so_far k ++ there k)
    ∙ sym (take_parts rest done (done + count) (omega arith))

-- one block more is copied
pub step_copy : (old source : List ℕ) (at count index n j : ℕ) → at ≤ length old → count ≤ length source → 120 * index < count → n
    ≡ min 120 (count - index * 120) → j ≡ at + 120 * index
    → overwritten (overwritten old at (take (min count (120 * index)) source)) j (slice_range source (120 * index) (120 * index + n))
    ≡ overwritten old at (take (min count (120 * (index + 1))) source)
step_copy old source at count index n j within long before n_is j_is =
    let m = 120 * index in
    let now : min count (120 * index) ≡ m = omega arith in
    let next : m + n ≡ min count (120 * (index + 1)) = omega arith in
    let part = slice_range source m (m + n) in
    ap (λ i. overwritten (overwritten old at (take i source)) j part) now
    ∙ overwritten-join old (take m source) part at j within (omega (arith, length-take-le m source (omega arith)))
    ∙ ap (overwritten old at) (sym (take_parts source m (m + n) (omega arith)))
    ∙ ap (λ i. overwritten old at (take i source)) next
