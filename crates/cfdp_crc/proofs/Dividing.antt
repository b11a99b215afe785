-- The division bit by bit: it is one of each left, and what comes later may as well come at once.
use Rattle.std.proofs.Common.{◌≡◌, ◌⊎◌, inl, inr, ℕ, zero, suc, ◌+◌, ◌-◌, ◌*◌, ◌%◌, ◌^◌, ◌<◌, ◌≤◌, refl, sym, ap, ◌∙◌, arith}
use Rattle.std.specs.Int.Bits.{bit_xor, xor_assoc, xor_self, xor_zero_r}
use Rattle.std.proofs.lemmas.Bool.{cases_lt, lt-ltb, le-ltb}
use Rattle.std.proofs.lemmas.Nat.{xor_lt, xor_comm, xor_block, xor_mod}
use Rattle.cfdp_crc.specs.Crc.{shifted, divided}

-- ---- without carries

again : (a k : ℕ) → bit_xor (bit_xor a k) k ≡ a
again a k = xor_assoc a k k ∙ ap (bit_xor a) (xor_self k) ∙ xor_zero_r a

pub xor_cancels : (a b k : ℕ) → bit_xor a k ≡ bit_xor b k → a ≡ b
xor_cancels a b k e = sym (again a k) ∙ ap (λ (x : ℕ). bit_xor x k) e ∙ again b k

swaps : (a b c : ℕ) → bit_xor (bit_xor a b) c ≡ bit_xor (bit_xor a c) b
swaps a b c = xor_assoc a b c ∙ ap (bit_xor a) (xor_comm b c) ∙ sym (xor_assoc a c b)

doubles : (a b : ℕ) → bit_xor (2 * a) (2 * b) ≡ 2 * bit_xor a b
doubles a b =
    let a-is : 2 * a ≡ a * 2 ^ 1 + 0 = omega arith in
    let b-is : 2 * b ≡ b * 2 ^ 1 + 0 = omega arith in
    let block = xor_block 1 a b 0 0 (omega arith) (omega arith) in
    ap (λ (x : ℕ). bit_xor x (2 * b)) a-is ∙ ap (bit_xor (a * 2 ^ 1 + 0)) b-is ∙ omega (arith, block)

-- the highest bit stays where the other number has none there
top_stays : (z y : ℕ) → z < 32768 → y < 32768 → bit_xor (32768 + z) y ≡ 32768 + bit_xor z y
top_stays z y hz hy =
    let z-is : 32768 + z ≡ 1 * 2 ^ 15 + z = omega arith in
    let y-is : y ≡ 0 * 2 ^ 15 + y = omega arith in
    let block = xor_block 15 1 0 z y hz hy in
    ap (λ (x : ℕ). bit_xor x y) z-is ∙ ap (bit_xor (1 * 2 ^ 15 + z)) y-is ∙ omega (arith, block)

-- two octets are one number of sixteen bits
pub joined : (a b : ℕ) → b < 256 → bit_xor (a * 2 ^ 8) b ≡ a * 2 ^ 8 + b
joined a b h =
    let a-is : a * 2 ^ 8 ≡ a * 2 ^ 8 + 0 = omega arith in
    let b-is : b ≡ 0 * 2 ^ 8 + b = omega arith in
    let block = xor_block 8 a 0 0 b (omega arith) h in
    let alone : bit_xor a 0 ≡ a = xor_comm a 0 in
    let lone : bit_xor 0 b ≡ b = refl in
    ap (λ (x : ℕ). bit_xor x b) a-is ∙ ap (bit_xor (a * 2 ^ 8 + 0)) b-is ∙ omega (arith, block, alone, lone)

-- ---- one bit

low : (x : ℕ) → x < 32768 → shifted x ≡ 2 * x
low x h = rw (lt-ltb x 32768 h) refl

high : (z : ℕ) → shifted (32768 + z) ≡ bit_xor (2 * z) 4129
high z =
    let back : 32768 + z - 32768 ≡ z = omega arith in
    rw (le-ltb (32768 + z) 32768 (omega arith)) (ap (λ (x : ℕ). bit_xor (2 * x) 4129) back)

-- which of both it is
split : (x : ℕ) → x < 65536 → (x < 32768) ⊎ ((z : ℕ) × (x ≡ 32768 + z) × (z < 32768))
split x h = elim (cases_lt x 32768) [ inl l ↦ inl l | inr g ↦ inr (x - 32768, omega (arith, g), omega (arith, g, h)) ]

pub shifted_lt : (x : ℕ) → x < 65536 → shifted x < 65536
shifted_lt x h = elim (split x h) [
  | inl l ↦ rw (low x l) (omega (arith, l))
  | inr g ↦ rw (ap shifted g.1 ∙ high g.0) (xor_lt 16 (2 * g.0) 4129 (omega (arith, g.2)) (omega arith))
]

even : (a : ℕ) → (2 * a) % 2 ^ 1 ≡ 0
even a = omega arith

-- one bit of the polynomial makes it odd
odd : (z : ℕ) → bit_xor (2 * z) 4129 % 2 ^ 1 ≡ 1
odd z = xor_mod (2 * z) 4129 1 ∙ ap (λ (x : ℕ). bit_xor x 1) (even z)

apart : (x z : ℕ) → 2 * x ≡ bit_xor (2 * z) 4129 → ⊥
apart x z e = omega (arith, ap (λ (n : ℕ). n % 2 ^ 1) e, even x, odd z)

pub shifted_one : (x y : ℕ) → x < 65536 → y < 65536 → shifted x ≡ shifted y → x ≡ y
shifted_one x y hx hy e = elim (split x hx) [
  | inl lx ↦ elim (split y hy) [
    | inl ly ↦ omega (arith, sym (low x lx) ∙ e ∙ low y ly)
    | inr gy ↦ absurd (apart x gy.0 (sym (low x lx) ∙ e ∙ ap shifted gy.1 ∙ high gy.0))
  ]
  | inr gx ↦ elim (split y hy) [
    | inl ly ↦ absurd (apart y gx.0 (sym (low y ly) ∙ sym e ∙ ap shifted gx.1 ∙ high gx.0))
    | inr gy ↦
        let same = xor_cancels (2 * gx.0) (2 * gy.0) 4129 (sym (ap shifted gx.1 ∙ high gx.0) ∙ e ∙ ap shifted gy.1 ∙ high gy.0) in
        omega (arith, same, gx.1, gy.1)
  ]
]

-- the bits after the highest move up by one
pub shifted_xor : (x y : ℕ) → x < 65536 → y < 32768 → shifted (bit_xor x y) ≡ bit_xor (shifted x) (2 * y)
shifted_xor x y hx hy = elim (split x hx) [
  | inl l ↦ low (bit_xor x y) (xor_lt 15 x y l hy) ∙ sym (ap (λ (s : ℕ). bit_xor s (2 * y)) (low x l) ∙ doubles x y)
  | inr g ↦
      ap (λ (x : ℕ). shifted (bit_xor x y)) g.1
      ∙ ap shifted (top_stays g.0 y g.2 hy)
      ∙ high (bit_xor g.0 y)
      ∙ ap (λ (s : ℕ). bit_xor s 4129) (sym (doubles g.0 y))
      ∙ swaps (2 * g.0) (2 * y) 4129
      ∙ ap (λ (s : ℕ). bit_xor s (2 * y)) (sym (ap shifted g.1 ∙ high g.0))
]

-- ---- several bits

abbrev pub doubled : ℕ → ℕ → ℕ
doubled zero y = y
doubled (suc n) y = doubled n (2 * y)

grows : (n y : ℕ) → y ≤ doubled n y
grows zero y = omega arith
grows (suc n) y = omega (arith, grows n (2 * y))

pub divided_lt : (n x : ℕ) → x < 65536 → divided n x < 65536
divided_lt zero x h = h
divided_lt (suc n) x h = divided_lt n (shifted x) (shifted_lt x h)

pub divided_one : (n x y : ℕ) → x < 65536 → y < 65536 → divided n x ≡ divided n y → x ≡ y
divided_one zero x y hx hy e = e
divided_one (suc n) x y hx hy e = shifted_one x y hx hy (divided_one n (shifted x) (shifted y) (shifted_lt x hx) (shifted_lt y hy) e)

pub divided_xor : (n x y : ℕ) → x < 65536 → doubled n y < 65536 → divided n (bit_xor x y) ≡ bit_xor (divided n x) (doubled n y)
divided_xor zero x y hx hy = refl
divided_xor (suc n) x y hx hy =
    ap (divided n) (shifted_xor x y hx (omega (arith, grows n (2 * y), hy)))
    ∙ divided_xor n (shifted x) (2 * y) (shifted_lt x hx) hy
