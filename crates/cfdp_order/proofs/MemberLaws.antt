-- The nodes of an order, as std speaks of the elements of a list.
--     times_contains, contains_times     a node that is in a list
--     each_once                          in the order, no two nodes are equal
use Rattle.std.proofs.Common.{◌≡◌, ◌≢◌, ℕ, zero, suc, ◌<◌, ◌≤◌, List, [], ◌∷◌, length, sym, ◌∙◌, subst, inl, inr, arith}
use Rattle.std.proofs.lemmas.Bool.{cases_eq}
use Rattle.std.proofs.lemmas.List.{get_or_default}
use Rattle.std.proofs.lemmas.List.Kept.{AllPairs-cons}
use Rattle.std.specs.Prelude.{All, AllPairs, Contains}
use Rattle.std.specs.List.{slice_index_or}
use Rattle.cfdp_order.specs.declared.links.Links.{Links}
use Rattle.cfdp_order.specs.declared.links.Order.{Order}
use Rattle.cfdp_order.specs.Orders.{nodes, times_in, IsOrder}
use Rattle.cfdp_order.proofs.Counts.{one, one_self, one_other}

pub times_contains : (list : List ℕ) (node : ℕ) → 1 ≤ times_in node list → Contains list node
times_contains [] node some = absurd (omega arith)
times_contains (m ∷ list) node some = elim (cases_eq m node) [
  | inl e ↦ (zero, omega arith, e)
  | inr other ↦ (let rest = times_contains list node (omega (arith, some, one_other m node other)) in (suc rest.0, omega (arith, rest.1), rest.2))
]

at_times : (list : List ℕ) (node k : ℕ) → k < length list → slice_index_or list k node ≡ node → 1 ≤ times_in node list
at_times [] node k less is = absurd (omega arith)
at_times (m ∷ list) node zero less is = let here = subst (λ j. one j node ≡ 1) (sym is) (one_self node) in omega arith
at_times (m ∷ list) node (suc k) less is = let there = at_times list node k (omega arith) is in omega arith

pub contains_times : (list : List ℕ) (node : ℕ) → Contains list node → 1 ≤ times_in node list
contains_times list node there = at_times list node there.0 there.1 there.2

none_equal : (m : ℕ) (list : List ℕ) → times_in m list ≡ 0 → All (λ n. m ≢ n) list
none_equal m list none k d less same =
    let here = contains_times list m (k, less, get_or_default list k m d less ∙ sym same) in omega (arith, here, none)

apart : (list : List ℕ) → ((node : ℕ) → times_in node list ≤ 1) → AllPairs (λ m n. m ≢ n) list
apart [] once = (λ i j d rising less. absurd (omega arith))
apart (m ∷ list) once = AllPairs-cons (λ a b. a ≢ b) m list (none_equal m list (omega (arith, once m, one_self m))) (apart list (λ n. omega (arith, once n)))

pub each_once : (links : List Links) (order : Order) → IsOrder links order → AllPairs (λ m n. m ≢ n) (nodes links order)
each_once links order is = apart (nodes links order) is.once
