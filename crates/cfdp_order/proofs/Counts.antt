-- How many times a node is in a list.
--     one_self, one_other, one_most  in a list of one node
--     times-append               in two lists one after the other
--     times_middle               in two lists with a node between them
use Rattle.std.proofs.Common.{◌≡◌, ◌≢◌, ℕ, ◌+◌, ◌≤◌, ◌==◌, cond, Bool, true, false, List, [], ◌∷◌, ◌++◌, refl, ap, arith}
use Rattle.std.proofs.lemmas.Bool.{eq-eqb, eqb-true}
use Rattle.cfdp_order.specs.Orders.{times_in}

abbrev pub one : ℕ → ℕ → ℕ
one node other = cond (node == other) 1 0

pub one_self : (node : ℕ) → one node node ≡ 1
one_self node = ap (λ (b : Bool). cond {A = ℕ} b 1 0) (eq-eqb node node refl)

pub one_other : (node other : ℕ) → node ≢ other → one node other ≡ 0
one_other node other apart = go (node == other) refl
  where
    go : (b : Bool) → (node == other) ≡ b → cond {A = ℕ} b 1 0 ≡ 0
    go true e = absurd (apart (eqb-true node other e))
    go false e = refl

pub times-append : (node : ℕ) (a b : List ℕ) → times_in node (a ++ b) ≡ times_in node a + times_in node b
times-append node [] b = omega arith
times-append node (other ∷ a) b = omega (arith, times-append node a b)

pub times_middle : (node : ℕ) (a : List ℕ) (other : ℕ) (b : List ℕ) → times_in node (a ++ other ∷ b) ≡ times_in node a + (one other node + times_in node b)
times_middle node a other b = times-append node a (other ∷ b)

pub one_most : (node other : ℕ) → one node other ≤ 1
one_most node other = go (node == other)
  where
    go : (b : Bool) → cond {A = ℕ} b 1 0 ≤ 1
    go true = omega arith
    go false = omega arith
