-- How many levels a tree has.
--     least_in           a tree of a height has at least this number of nodes
--     within_links, all_within, known_of  each node of a tree has links
--     few_nodes          the nodes of a tree are at most as many as there are links
--     few_levels         a tree of at most 65,536 nodes has at most 22 levels
--     low                so has one whose links are in an array of at most 65,536
use Rattle.std.proofs.Common.{◌≡◌, ℕ, zero, suc, ◌+◌, ◌-◌, ◌<◌, ◌≤◌, ◌||◌, max, eqb, true, false, Bool, List, [], ◌∷◌, ◌++◌, length, refl, sym, subst, inl, inr, arith, length-append}
use Rattle.std.proofs.Math.Nat.{max-eq_left, max-eq_right}
use Rattle.std.proofs.lemmas.Bool.{eqb-true, cases_eq, cases_lt}
use Rattle.std.specs.Prelude.{All}
use Rattle.std.proofs.lemmas.List.Elements.{All-nil, All-cons, All-append}
use Rattle.std.specs.List.{IsDistinct, list_any, AllByRecursion}
use Rattle.std.proofs.lemmas.Map.Steps.{length-le_from_distinct_below}
use Rattle.cfdp_order.specs.declared.links.Links.{Links}
use Rattle.cfdp_order.specs.declared.links.Order.{Order}
use Rattle.cfdp_order.specs.Orders.{links_at, AreNear, IsOrderTree, leaf, fork, nodes, times_in, IsOrder, least_nodes}
use Rattle.cfdp_order.proofs.Counts.{one, one_self, one_other, times_middle}

zero_least : least_nodes 0 ≡ 0
unfolding least_nodes
zero_least = refl

one_least : least_nodes 1 ≡ 1
unfolding least_nodes
one_least = refl

next_least : (h : ℕ) → least_nodes (suc (suc h)) ≡ least_nodes (suc h) + least_nodes h + 1
unfolding least_nodes
next_least h = refl

more_least : (h : ℕ) → least_nodes h ≤ least_nodes (suc h)
more_least zero = omega (arith, zero_least)
more_least (suc h) = omega (arith, next_least h)

least_rises : (h m : ℕ) → least_nodes h ≤ least_nodes (m + h)
least_rises h zero = let e : h ≡ 0 + h = omega arith in subst (λ k. least_nodes h ≤ least_nodes k) e (omega arith)
least_rises h (suc m) = let e : suc m + h ≡ suc (m + h) = omega arith in
    subst (λ k. least_nodes h ≤ least_nodes k) (sym e) (omega (arith, least_rises h m, more_least (m + h)))

least_up : (h k : ℕ) → h ≤ k → least_nodes h ≤ least_nodes k
least_up h k up = let e : (k - h) + h ≡ k = omega arith in subst (λ m. least_nodes h ≤ least_nodes m) e (least_rises h (k - h))

-- a node with two trees of one height, and of a height and the next one
twice_least : (h : ℕ) → least_nodes (suc h) ≤ least_nodes h + least_nodes h + 1
twice_least zero = omega (arith, zero_least, one_least)
twice_least (suc h) = omega (arith, next_least h, more_least h)

-- where the second tree is the higher one
higher : (n m : ℕ) → n ≤ m → m ≤ n + 1 → least_nodes (suc m) ≤ least_nodes n + least_nodes m + 1
higher n m less near = elim (cases_eq n m) [
  | inl e ↦ subst (λ k. least_nodes (suc m) ≤ least_nodes k + least_nodes m + 1) (sym e) (twice_least m)
  | inr other ↦ (let e : m ≡ suc n = omega (arith, other) in
      subst (λ k. least_nodes (suc k) ≤ least_nodes n + least_nodes k + 1) (sym e) (omega (arith, next_least n)))
]

joined_least : (n m : ℕ) → AreNear n m → (h : ℕ) → h ≡ max n m + 1 → least_nodes h ≤ least_nodes n + least_nodes m + 1
joined_least n m near h high = elim (cases_lt n m) [
  | inl less ↦ (let e : h ≡ suc m = omega (arith, less, max-eq_right {n = n} {m = m} (omega (arith, less))) in
      subst (λ k. least_nodes k ≤ least_nodes n + least_nodes m + 1) (sym e) (higher n m (omega (arith, less)) near.1))
  | inr more ↦ (let e : h ≡ suc n = omega (arith, more, max-eq_left {n = n} {m = m} more) in
      subst (λ k. least_nodes k ≤ least_nodes n + least_nodes m + 1) (sym e) (omega (arith, higher m n more near.0)))
]

pub least_in : {links : List Links} {order : Order} {list : List ℕ} → IsOrderTree links order list → least_nodes order.height ≤ length list
least_in (leaf none) = subst (λ h. least_nodes h ≤ 0) (sym none) (omega (arith, zero_least))
least_in {links} {order} (fork {before = before} {after = after} within left right near high) =
    let w = links_at links order.root in
    omega (arith, joined_least w.left_height w.right_height near order.height high, least_in left, least_in right, length-append before (order.root ∷ after))

-- a node of a tree is at its top, to the left or to the right
somewhere : (n root : ℕ) (before after : List ℕ) (P : ℕ → Type 0) → P root → (1 ≤ times_in n before → P n) → (1 ≤ times_in n after → P n) →
    1 ≤ times_in n (before ++ root ∷ after) → P n
somewhere n root before after P top left right some = elim (cases_eq root n) [
  | inl e ↦ subst P e top
  | inr other ↦ elim (cases_eq (times_in n before) 0) [
    | inl none ↦ right (omega (arith, some, none, times_middle n before root after, one_other root n other))
    | inr more ↦ left (omega (arith, more))
  ]
]

-- each node is within the array
pub within_links : {links : List Links} {order : Order} {list : List ℕ} → IsOrderTree links order list → (n : ℕ) → 1 ≤ times_in n list → n < length links
within_links (leaf none) n some = absurd (omega arith)
within_links {links} {order} (fork {before = before} {after = after} within left right near high) n some =
    somewhere n order.root before after (λ k. k < length links) within (λ h. within_links left n h) (λ h. within_links right n h) some

pub all_within : {links : List Links} {order : Order} {list : List ℕ} → IsOrderTree links order list → All (λ n. n < length links) list
all_within {links} (leaf none) = All-nil (λ n. n < length links)
all_within {links} {order} (fork {before = before} {after = after} within left right near high) =
    let P : ℕ → Type 0 = λ n. n < length links in
    All-append P before (order.root ∷ after) (all_within left) (All-cons P order.root after within (all_within right))

pub known_of : (links : List Links) (order : Order) → IsOrder links order → {A : Type 0} (keys : List A) → length links ≡ length keys →
    All (λ n. n < length keys) (nodes links order)
known_of links order is keys long = subst (λ m. All (λ n. n < m) (nodes links order)) long (all_within is.tree)

-- each node once, as std says it
none_equal : (n : ℕ) (list : List ℕ) → times_in n list ≡ 0 → AllByRecursion (λ m. eqb n m ≡ false) list
none_equal n [] none = tt
none_equal n (m ∷ list) none = (go (eqb n m) refl, none_equal n list (omega arith))
  where
    go : (b : Bool) → eqb n m ≡ b → eqb n m ≡ false
    go false e = e
    go true e = absurd (let same = eqb-true n m e in let here = subst (λ k. one k n ≡ 1) same (one_self n) in omega arith)

distinct : (list : List ℕ) → ((n : ℕ) → times_in n list ≤ 1) → IsDistinct eqb list
unfolding IsDistinct
distinct [] once = tt
distinct (m ∷ list) once = (none_equal m list (omega (arith, once m, one_self m)), distinct list (λ n. omega (arith, once n)))

at_head : (n m : ℕ) (list : List ℕ) (b : Bool) → eqb n m ≡ b → (list_any (eqb n) list ≡ true → 1 ≤ times_in n list) → (b || list_any (eqb n) list) ≡ true →
    1 ≤ times_in n (m ∷ list)
at_head n m list true e rest any = let same = eqb-true n m e in let here = subst (λ k. one k n ≡ 1) same (one_self n) in omega arith
at_head n m list false e rest any = omega (arith, rest any)

is_there : (n : ℕ) (list : List ℕ) → list_any (eqb n) list ≡ true → 1 ≤ times_in n list
is_there n [] any = absurd (cc)
is_there n (m ∷ list) any = at_head n m list (eqb n m) refl (λ h. is_there n list h) any

pub few_nodes : (links : List Links) (order : Order) → IsOrder links order → length (nodes links order) ≤ length links
few_nodes links order is = length-le_from_distinct_below (nodes links order) (length links) (distinct (nodes links order) is.once)
    (λ n any. within_links is.tree n (is_there n (nodes links order) any))

least_23 : 65536 < least_nodes 23
least_23 = omega (
  arith,
  zero_least,
  one_least,
  next_least 0,
  next_least 1,
  next_least 2,
  next_least 3,
  next_least 4,
  next_least 5,
  next_least 6,
  next_least 7,
  next_least 8,
  next_least 9,
  next_least 10,
  next_least 11,
  next_least 12,
  next_least 13,
  next_least 14,
  next_least 15,
  next_least 16,
  next_least 17,
  next_least 18,
  next_least 19,
  next_least 20,
  next_least 21,
)

pub few_levels : (links : List Links) (order : Order) → IsOrder links order → length (nodes links order) ≤ 65536 → order.height ≤ 22
few_levels links order is few = elim (cases_lt 22 order.height) [
  | inl high ↦ absurd (omega (arith, least_23, least_up 23 order.height (omega (arith, high)), least_in is.tree, few))
  | inr low ↦ low
]

pub low : (links : List Links) (order : Order) → IsOrder links order → length links ≤ 65536 → order.height ≤ 22
low links order is small = few_levels links order is (omega (arith, few_nodes links order is, small))
