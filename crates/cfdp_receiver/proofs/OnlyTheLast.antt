-- An answer is the last one until the next turn.
use Rattle.std.specs.Prelude.{◌%◌, ◌^◌}
use Rattle.std.proofs.Common.{◌≡◌, inl, inr, ℕ, ◌+◌, ◌<◌, ◌≤◌, sym, ap, ◌∙◌, arith}
use Rattle.std.proofs.Math.Nat.{eq-or-lt_of_le, mod-eq_of_lt, mod_self}
use Rattle.std.proofs.lemmas.Bool.{eqb-true, false_from_ne_true}
use Rattle.cfdp_receiver.specs.Sent.{OnlyTheLast}
use Rattle.cfdp_receiver.specs.StateMachine.{is_last, turn_after}

goes_on_small : (n m : ℕ) → n + 1 < m → (n + 1) % m ≡ n → ⊥
goes_on_small n m small same = absurd (omega (arith, sym (mod-eq_of_lt small) ∙ same))

goes_on_round : (n m : ℕ) → 1 < m → n + 1 ≡ m → (n + 1) % m ≡ n → ⊥
goes_on_round n m some is same =
    let none = ap (λ (k : ℕ). k % m) is ∙ mod_self m in
    absurd (omega (arith, is, some, sym none ∙ same))

-- the number of the next turn is another one
goes_on : (n m : ℕ) → 1 < m → n < m → (n + 1) % m ≡ n → ⊥
goes_on n m some small same =
    let most : n + 1 ≤ m = omega (arith, small) in
    elim (eq-or-lt_of_le most) [
      | inl end ↦ goes_on_round n m some end same
      | inr less ↦ goes_on_small n m less same
    ]

pub only_the_last : OnlyTheLast
only_the_last M N a small next is = false_from_ne_true (is_last N a) (λ same.
    let stays : turn_after M.turns ≡ M.turns = sym next ∙ sym (eqb-true a.turn N.turns same) ∙ eqb-true a.turn M.turns is in
    goes_on M.turns (2 ^ 64) (omega arith) small stays)
