-- Lists of blocks whose ways lead back.
--     led_shorter        the first blocks of such a list
--     jump_within        a jump leads to a block that has a way
--     jump_both          where the last block's jump, and the jump from there, lead
--     led_longer         one block more, whose way leads back
use Rattle.std.proofs.Common.{◌≡◌, ◌≢◌, ℕ, ◌+◌, ◌-◌, ◌<◌, ◌≤◌, List, length, set, sym, ap, ◌∙◌, subst, inl, inr, arith, length-set}
use Rattle.std.proofs.lemmas.List.{get_or-set_same, get_or-set_other}
use Rattle.std.proofs.lemmas.Bool.{cases_eq}
use Rattle.cfdp_ways.specs.declared.way.Way.{Way}
use Rattle.cfdp_ways.specs.Ways.{no_way, way_of, LeadsBack, IsLed}

pub led_shorter : (ways : List Way) (blocks : ℕ → ℕ) (n m : ℕ) → m ≤ n → IsLed ways blocks n → IsLed ways blocks m
led_shorter ways blocks n m fewer led = record {
  within = (λ k less. led.within k (omega (arith, less, fewer)));
  each = (λ k less. led.each k (omega (arith, less, fewer)));
}

pub jump_within : (ways : List Way) (blocks : ℕ → ℕ) (n k : ℕ) → k < n → IsLed ways blocks n → (block : ℕ) → block ≡ blocks k →
    (way_of ways block).jump < length ways
jump_within ways blocks n k less led block at =
    let back = led.each k less in
    let to = ap (λ b. (way_of ways b).jump) at ∙ back.jump in
    let inside = led.within (k - (way_of ways (blocks k)).over) (omega (arith, less)) in
    subst (λ b. b < length ways) (sym to) inside

-- where the last block's jump leads, and the jump from there
module _ (ways : List Way) (blocks : ℕ → ℕ) (n : ℕ) (led : IsLed ways blocks (n + 1)) (near far : Way) (near_is : near ≡ way_of ways (blocks n)) (far_is : far
    ≡ way_of ways near.jump) where
  near_jump : near.jump ≡ blocks (n - near.over)
  near_jump = ap (λ (w : Way). w.jump) near_is ∙ (led.each n (omega arith)).jump ∙ ap (λ (w : Way). blocks (n - w.over)) (sym near_is)

  far_there : far ≡ way_of ways (blocks (n - near.over))
  far_there = far_is ∙ ap (way_of ways) near_jump

  pub jump_both : far.jump ≡ blocks (n + 1 - (near.over + far.over + 1))
  jump_both =
      let index : n - near.over - far.over ≡ n + 1 - (near.over + far.over + 1) = omega arith in
      ap (λ (w : Way). w.jump) far_there ∙ (led.each (n - near.over) (omega arith)).jump ∙ ap (λ (w : Way). blocks (n - near.over - w.over)) (sym far_there)
      ∙ ap blocks index

-- a way that leads back
led_by : (ways : List Way) (blocks : ℕ → ℕ) (k : ℕ) (way : Way) → way_of ways (blocks k) ≡ way → (0 < k → way.before ≡ blocks (k - 1)) → way.jump
    ≡ blocks (k - way.over) → (0 < k → 0 < way.over) → way.over ≤ k
    → LeadsBack ways blocks k
led_by ways blocks k way is before jump some over = record {
  before = (λ later. ap (λ (w : Way). w.before) is ∙ before later);
  jump = ap (λ (w : Way). w.jump) is ∙ jump ∙ ap (λ (w : Way). blocks (k - w.over)) (sym is);
  some = (λ later. subst (λ (w : Way). 0 < w.over) (sym is) (some later));
  over = subst (λ (w : Way). w.over ≤ k) (sym is) over;
}

module _ (ways : List Way) (blocks : ℕ → ℕ) (n block : ℕ) (way : Way) (led : IsLed ways blocks (n + 1)) (block_is : block ≡ blocks (n + 1))
    (fresh : (k : ℕ) → k ≤ n → blocks k ≢ block) (within : block < length ways) (before : way.before ≡ blocks n) (jump : way.jump ≡ blocks (n + 1 - way.over))
    (some : 0 < way.over) (over : way.over ≤ n + 1) where
  after : List Way
  after = set ways block way

  same_long : length after ≡ length ways
  unfolding after
  same_long = length-set ways block way

  way_there : (k : ℕ) → k ≤ n → way_of after (blocks k) ≡ way_of ways (blocks k)
  unfolding after
  way_there k less = get_or-set_other ways block (blocks k) way no_way (fresh k less)

  way_here : way_of after (blocks (n + 1)) ≡ way
  unfolding after
  way_here = ap (way_of (set ways block way)) (sym block_is) ∙ get_or-set_same ways block way no_way within

  leads : (k : ℕ) → k < n + 2 → LeadsBack after blocks k
  leads k less = elim (cases_eq k (n + 1)) [
    | inl e ↦ (
        let last : k - 1 ≡ n = omega (arith, e) in
        led_by after blocks k way (ap (λ j. way_of after (blocks j)) e ∙ way_here) (λ later. before ∙ ap blocks (sym last)) (jump
        ∙ ap (λ j. blocks (j - way.over)) (sym e)) (λ later. some) (omega (arith, over, e)))
    | inr other ↦ (
        let was = led.each k (omega (arith, less, other)) in
        led_by after blocks k (way_of ways (blocks k)) (way_there k (omega (arith, less, other))) was.before was.jump was.some was.over)
  ]

  inside : (k : ℕ) → k < n + 2 → blocks k < length after
  inside k less = elim (cases_eq k (n + 1)) [
    | inl e ↦ subst (λ b. b < length after) (block_is ∙ ap blocks (sym e)) (omega (arith, within, same_long))
    | inr other ↦ omega (arith, same_long, led.within k (omega (arith, less, other)))
  ]

  pub led_longer : IsLed (set ways block way) blocks (n + 2)
  unfolding after
  led_longer = record { within = inside; each = leads }
