use Rattle.std.proofs.Common.{rules, ◌≡◌, ◌≢◌, ℕ, ◌+◌, ◌≤◌, List, ◌∷◌, length, sym, ap, ◌∙◌, subst, inl, inr, arith}
use Rattle.std.proofs.lemmas.Bool.{cases_eq}
use Rattle.std.proofs.lemmas.List.{with_items_is}
use Rattle.cfdp_order.specs.declared.links.Links.{Links}
use Rattle.cfdp_order.specs.declared.links.Order.{Order}
use Rattle.cfdp_order.specs.Orders.{nodes, times_in, IsOrder, OtherLinksStay}
use Rattle.cfdp_order.proofs.Counts.{one, one_most, one_other}
use Rattle.cfdp_order.proofs.TreeLaws.{none_is, no_nodes, Stays, stays_apart}
use Rattle.cfdp_order.proofs.HeightLaws.{known_of}
use Rattle.cfdp_order.proofs.tests.pair_of.Goals as goal
use Rattle.cfdp_order.proofs.tests.pair_of.Goals.{then-node-eq0, else-node-eq0}

pub loop-node-init : goal.loop-node-init
loop-node-init c =
    let links = c.resize.new.self.items in let none = ap (λ (o : Order). o.height) c.empty-even.ensures in let no_odd =
    ap (λ (o : Order). o.height) c.empty-odd.ensures in
    let a = no_nodes links c.empty-even.result none in let b = no_nodes links c.empty-odd.result no_odd in
    record {
      even = none_is links c.empty-even.result none;
      odd = none_is links c.empty-odd.result no_odd;
      long = search rules;
      fresh = (λ n more. omega (arith, ap (times_in n) a, ap (times_in n) b));
      apart = (λ n. omega (arith, ap (times_in n) a, ap (times_in n) b));
    }

pub insert-even-requires-clause-known : goal.insert-even-requires-clause-known
insert-even-requires-clause-known c =
    let l = c.loop-node in let value = c.deref_mut.ensures.value in
    known_of c.deref_mut.result.now l.even (subst (λ k. IsOrder k l.even) (sym value) l.invariant.even) c.sought_key-sought.result.keys.now
    (ap length value ∙ l.invariant.long ∙ ap length (sym c.sought_key-sought.ensures.keys))

pub insert-odd-requires-clause-known : goal.insert-odd-requires-clause-known
insert-odd-requires-clause-known c =
    let l = c.loop-node in let value = c.deref_mut-else-node-eq0.ensures.value in
    known_of c.deref_mut-else-node-eq0.result.now l.odd (subst (λ k. IsOrder k l.odd) (sym value) l.invariant.odd) c.sought_key-sought.result.keys.now
    (ap length value ∙ l.invariant.long ∙ ap length (sym c.sought_key-sought.ensures.keys))

record Kept (links : List Links) (even odd : Order) (node count : ℕ) : Type 0 where
  even_is : IsOrder links even
  odd_is : IsOrder links odd
  long : length links ≡ count
  fresh : (n : ℕ) → node ≤ n → times_in n (nodes links even) + times_in n (nodes links odd) ≡ 0
  apart : (n : ℕ) → times_in n (nodes links even) + times_in n (nodes links odd) ≤ 1

kept_at : (links was : List Links) (even more odd other : Order) (node count : ℕ) → links ≡ was → even ≡ more → odd ≡ other → Kept was more other node count →
    Kept links even odd node count
kept_at links was even more odd other node count e f g kept =
    subst (λ l. Kept l even odd node count) (sym e) (subst (λ o. Kept was o odd node count) (sym f) (subst (λ o. Kept was more o node count) (sym g) kept))

-- a node more in one order, and none in the other
module _ (old new : List Links) (node : ℕ) (grown other more : Order) (is : IsOrder old other) (others : OtherLinksStay old new (node ∷ nodes old grown))
    (one_more : (n : ℕ) → times_in n (nodes new more) ≡ one node n + times_in n (nodes old grown))
    (fresh : (n : ℕ) → node ≤ n → times_in n (nodes old grown) + times_in n (nodes old other) ≡ 0) (apart : (n : ℕ) → times_in n (nodes old grown)
    + times_in n (nodes old other) ≤ 1) where
  all_once : (n : ℕ) → one node n + (times_in n (nodes old grown) + times_in n (nodes old other)) ≤ 1
  all_once n = elim (cases_eq node n) [
    | inl e ↦ omega (arith, one_most node n, fresh n (omega (arith, e)))
    | inr differs ↦ omega (arith, apart n, one_other node n differs)
  ]

  other_stays : Stays old new other
  other_stays = stays_apart old new other (node ∷ nodes old grown) is others (λ n. omega (arith, all_once n))

  now_once : (n : ℕ) → times_in n (nodes new more) + times_in n (nodes new other) ≤ 1
  now_once n = omega (arith, all_once n, one_more n, ap (times_in n) other_stays.listed)

  now_fresh : (n : ℕ) → node + 1 ≤ n → times_in n (nodes new more) + times_in n (nodes new other) ≡ 0
  now_fresh n later = let differs : node ≢ n = omega (arith, later) in omega (
    arith,
    fresh n (omega (arith, later)),
    one_other node n differs,
    one_more n,
    ap (times_in n) other_stays.listed,
  )

pub loop-node-preserved : goal.loop-node-preserved
loop-node-preserved c =
    let l = c.loop-node in let inv = l.invariant in let old = l.links.items in let count = length c.args.keys.now in
    let kept : Kept c.if-node-eq0.links.items c.if-node-eq0.even c.if-node-eq0.odd (l.node + 1) count = elim c.if-node-eq0.branch [
      | then-node-eq0 w ↦ (
          let now = w.insert-even.new.links in let more = w.insert-even.result in
          let e = w.insert-even.ensures in let same = w.deref_mut.ensures.value in
          let others = subst (λ (k : List Links). OtherLinksStay k now (l.node ∷ nodes k l.even)) same e.others in
          let one_more : (n : ℕ) → times_in n (nodes now more) ≡ one l.node n + times_in n (nodes old l.even) = λ n. e.one_more n
          ∙ ap (λ k. one l.node n + times_in n (nodes k l.even)) same in
          kept_at c.if-node-eq0.links.items now c.if-node-eq0.even more c.if-node-eq0.odd l.odd (l.node + 1) count (ap (λ v. v.items) w.links-is
          ∙ with_items_is l.links now (others.long ∙ sym l.links.ok.0)) w.even-is w.odd-is
          (record {
            even_is = e.order;
            odd_is = (other_stays old now l.node l.even l.odd more inv.odd others one_more inv.fresh inv.apart).is;
            long = others.long ∙ inv.long;
            fresh = now_fresh old now l.node l.even l.odd more inv.odd others one_more inv.fresh inv.apart;
            apart = now_once old now l.node l.even l.odd more inv.odd others one_more inv.fresh inv.apart;
          }))
      | else-node-eq0 w ↦ (
          let now = w.insert-odd.new.links in let more = w.insert-odd.result in
          let e = w.insert-odd.ensures in let same = w.deref_mut-else-node-eq0.ensures.value in
          let others = subst (λ (k : List Links). OtherLinksStay k now (l.node ∷ nodes k l.odd)) same e.others in
          let one_more : (n : ℕ) → times_in n (nodes now more) ≡ one l.node n + times_in n (nodes old l.odd) = λ n. e.one_more n
          ∙ ap (λ k. one l.node n + times_in n (nodes k l.odd)) same in
          let fresh : (n : ℕ) → l.node ≤ n → times_in n (nodes old l.odd) + times_in n (nodes old l.even) ≡ 0 = λ n later. omega (arith, inv.fresh n later) in
          let apart : (n : ℕ) → times_in n (nodes old l.odd) + times_in n (nodes old l.even) ≤ 1 = λ n. omega (arith, inv.apart n) in
          kept_at c.if-node-eq0.links.items now c.if-node-eq0.even l.even c.if-node-eq0.odd more (l.node + 1) count (ap (λ v. v.items) w.links-is
          ∙ with_items_is l.links now (others.long ∙ sym l.links.ok.0)) w.even-is w.odd-is
          (record {
            even_is = (other_stays old now l.node l.odd l.even more inv.even others one_more fresh apart).is;
            odd_is = e.order;
            long = others.long ∙ inv.long;
            fresh = (λ n later. omega (arith, now_fresh old now l.node l.odd l.even more inv.even others one_more fresh apart n later));
            apart = (λ n. omega (arith, now_once old now l.node l.odd l.even more inv.even others one_more fresh apart n));
          }))
    ] in
    record { even = kept.even_is; odd = kept.odd_is; long = kept.long; fresh = kept.fresh; apart = kept.apart }
