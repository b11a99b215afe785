-- Numbers that fit their lengths.
use Rattle.std.proofs.Common.{◌≡◌, ℕ, ◌*◌, ◌/◌, ◌<◌, ◌≤◌, ◌^◌, Bool, true, false, ltb, leb, eqb, ◌&&◌, le-leb, refl, sym, ap, ◌∙◌, arith}
use Rattle.std.proofs.lemmas.Bool.{ltb-true, ltb-false, ne_eqb}
use Rattle.std.proofs.Math.Nat.{div-eq_of_lt, div-lt_iff_lt-mul}
use Rattle.std.proofs.lemmas.Nat.{pow_pos}
use Rattle.byteorder.proofs.Bytes.{pow256}
use Rattle.cfdp_uploads.specs.Judging.{is_sized}

by_less : (n d : ℕ) → 0 < d → (b : Bool) → ltb n d ≡ b → eqb (n / d) 0 ≡ b
by_less n d pos true e = let z : n / d ≡ 0 = div-eq_of_lt (ltb-true n d e) in ap (λ q. eqb q 0) z
by_less n d pos false e =
    let le : d ≤ n = ltb-false n d e in
    let some : (n / d ≡ 0) → ⊥ = λ z. (let lt : n < 1 * d = (div-lt_iff_lt-mul {k = d} {x = n} {y = 1} pos).0 (omega (arith, z)) in omega (arith, lt, le)) in
    grind (arith, some)

-- nothing is left after as many digits as a number below their power has
pub none_left : (n d : ℕ) → 0 < d → eqb (n / d) 0 ≡ ltb n d
none_left n d pos = by_less n d pos (ltb n d) refl

pub sized_by_shift : (len n : ℕ) → 1 ≤ len → len ≤ 8 → eqb (n / 2 ^ (8 * len)) 0 ≡ is_sized len n
sized_by_shift len n low high =
    none_left n (2 ^ (8 * len)) (pow_pos (8 * len))
    ∙ ap (λ d. ltb n d) (sym (pow256 len))
    ∙ ap (λ b. b && ltb n (256 ^ len)) (sym (le-leb len 8 high))
    ∙ ap (λ b. b && leb len 8 && ltb n (256 ^ len)) (sym (le-leb 1 len low))

pub fits_by_shift : (len n : ℕ) → n / 2 ^ (8 * len) ≡ 0 → n < 256 ^ len
fits_by_shift len n zero =
    let lt : n < 2 ^ (8 * len) =
    ltb-true n (2 ^ (8 * len)) (sym (none_left n (2 ^ (8 * len)) (pow_pos (8 * len))) ∙ ap (λ q. eqb q 0) zero) in
    omega (arith, lt, pow256 len)

pub above_by_shift : (len n : ℕ) → (n / 2 ^ (8 * len) ≡ 0 → ⊥) → 256 ^ len ≤ n
above_by_shift len n some =
    let le : 2 ^ (8 * len) ≤ n =
    ltb-false n (2 ^ (8 * len)) (sym (none_left n (2 ^ (8 * len)) (pow_pos (8 * len))) ∙ ne_eqb (n / 2 ^ (8 * len)) 0 some) in
    omega (arith, le, pow256 len)
