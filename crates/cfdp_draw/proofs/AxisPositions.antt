-- Where things are on the time axis.
--     level_rises, level_within      a larger part is not lower;  it is not higher than the whole
--     time_goes_right, stays_inside  what is later is not further left;  all is between the ends of the axis
use Rattle.std.proofs.Common.{◌≡◌, refl, ℕ, ◌*◌, ◌/◌, ◌≤◌, ◌<◌, ◌==◌, Bool, true, false, min, if◌then◌else◌, arith, subst, mul_comm}
use Rattle.std.proofs.Math.Nat.{div-le_of_le-mul, div-mul-le_self, le_trans, mul-le-mul_left, min-le_left, min-le_right, le-min}
use Rattle.std.proofs.lemmas.Nat.{le-div}
use Rattle.cfdp_draw.specs.Axis.{StaysInside, TimeGoesRight, level_of, pitch, axis_end, room, x_of}
use Rattle.cfdp_draw.specs.declared.axis.TheConstants.{LEFT}

pub min_rises : (a b w : ℕ) → a ≤ b → min a w ≤ min b w
min_rises a b w le = le-min (le_trans (min-le_left a w) le) (min-le_right a w)

pub div_rises : (x y k : ℕ) → 0 < k → x ≤ y → x / k ≤ y / k
div_rises x y k some le = le-div (x / k) y k some (le_trans (div-mul-le_self x k) le)

pub positive : (w : ℕ) → (w == 0) ≡ false → 0 < w
positive w is = grind arith

pub level_rises : (h a b w : ℕ) → a ≤ b → level_of h a w ≤ level_of h b w
unfolding level_of
level_rises h a b w le =
    let by : (z : Bool) → (w == 0) ≡ z → (if z then 0 else h * min a w / w) ≤ (if z then 0 else h * min b w / w) =
    λ z is. elim z as (λ v. (w == 0) ≡ v → (if v then 0 else h * min a w / w) ≤ (if v then 0 else h * min b w / w))
    [ true ↦ λ none. omega arith | false ↦ λ some. div_rises (h * min a w) (h * min b w) w (positive w some) (mul-le-mul_left h (min_rises a b w le)) ] is in
    by (w == 0) refl

pub level_within : (h a w : ℕ) → level_of h a w ≤ h
unfolding level_of
level_within h a w =
    let by : (z : Bool) → (w == 0) ≡ z → (if z then 0 else h * min a w / w) ≤ h =
    λ z is. elim z as (λ v. (w == 0) ≡ v → (if v then 0 else h * min a w / w) ≤ h) [
      | true ↦ λ none. omega arith
      | false ↦ λ some. div-le_of_le-mul w (subst (λ n. h * min a w ≤ n) (mul_comm h w) (mul-le-mul_left h (min-le_right a w)))
    ] is in
    by (w == 0) refl

pub time_goes_right : TimeGoesRight
unfolding x_of
time_goes_right total a b moments wide_marks =
    let wide : pitch total * min a.wide_marks total.wide_marks ≤ pitch total * min b.wide_marks total.wide_marks =
    mul-le-mul_left (pitch total) (min_rises a.wide_marks b.wide_marks total.wide_marks wide_marks) in
    let long : level_of (room total) a.moments total.moments ≤ level_of (room total) b.moments total.moments =
    level_rises (room total) a.moments b.moments total.moments moments in
    omega arith

pub stays_inside : StaysInside
unfolding x_of axis_end
stays_inside total at =
    let wide : pitch total * min at.wide_marks total.wide_marks ≤ pitch total * total.wide_marks = mul-le-mul_left (pitch total)
    (min-le_right at.wide_marks total.wide_marks) in
    let long : level_of (room total) at.moments total.moments ≤ room total = level_within (room total) at.moments total.moments in
    let first : LEFT ≤ x_of total at = omega arith in
    let last : x_of total at ≤ axis_end total = omega arith in
    (first, last)
