use Rattle.std.proofs.Common.{◌≡◌, ◌≢◌, ℕ, ◌+◌, ◌≤◌, List, [], ◌∷◌, ◌++◌, length, refl, sym, ap, ◌∙◌, subst, arith, length-append}
use Rattle.std.specs.Prelude.{All}
use Rattle.std.specs.declared.cmp.Ordering.TheVariants.{Less}
use Rattle.cfdp_order.specs.Orders.{nodes, times_in, links_at, left_of, right_of}
use Rattle.cfdp_order.proofs.Counts.{one, one_self, times-append, times_middle}
use Rattle.cfdp_order.proofs.TreeLaws.{opened, opened_at, no_nodes}
use Rattle.cfdp_order.proofs.TestLaws.{some_levels, not_less}
use Rattle.cfdp_order.proofs.SplitLaws.{All_left, All_right, All_at}
use Rattle.cfdp_order.proofs.GrowthLaws.{Balanced}
use Rattle.cfdp_order.proofs.ShrinkLaws.{Shrunk, right_can, shrunk_right, same_right, rest_right, left_can, shrunk_left, same_left, rest_left, unique_split}
use Rattle.cfdp_order.proofs.removing.+remove.Goals as goal

empty_of : (list before after : List ℕ) (node : ℕ) → list ≡ [] → list ≡ before ++ node ∷ after → ⊥
empty_of list before after node none parted = omega (arith, ap length none, ap length parted, length-append before (node ∷ after))

pub returns-then-is_empty-clause-removed : goal.returns-then-is_empty-clause-removed
returns-then-is_empty-clause-removed g t c before after parted splits =
    let links = c.args.links.now in let order = c.args.order in
    absurd (empty_of (nodes links order) before after c.args.node (no_nodes links order (c.if-is_empty.ensures.0 refl)) parted)

pub merge-requires : goal.merge-requires
merge-requires g t c =
    let links = c.args.links.now in let order = c.args.order in let a = nodes links c.left.result in let b = nodes links c.right.result in
    let o = opened c.requires.order (some_levels c.if-is_empty.ensures.1) c.from.ensures c.left.ensures c.right.ensures in
    record {
      left = o.is_a;
      right = o.is_b;
      once = (λ k. omega (arith, c.requires.order.once k, ap (times_in k) o.listed, times_middle k a order.root b, times-append k a b));
      near = o.near;
      small = c.requires.small;
    }

-- the node at the top is removed
pub returns-then-order-node : goal.returns-then-order-node
returns-then-order-node g t c =
    let links = c.args.links.now in let order = c.args.order in let a = nodes links c.left.result in let b = nodes links c.right.result in let root =
    order.root in
    let o = opened c.requires.order (some_levels c.if-is_empty.ensures.1) c.from.ensures c.left.ensures c.right.ensures in
    let merged = c.merge.ensures in let same = sym c.if-order-node.true in
    let counted : (k : ℕ) → times_in k (nodes links order) ≡ times_in k a + (one root k + times_in k b) = λ k. ap (times_in k) o.listed
    ∙ times_middle k a root b in
    record {
      order = merged.order;
      removed = (λ before after parted splits.
          let there = subst (λ k. nodes links order ≡ before ++ k ∷ after) same parted in
          let parts = unique_split a root b before after (sym o.listed ∙ there) (subst (λ l. times_in root l ≤ 1) o.listed (c.requires.order.once root)) in
          merged.nodes ∙ (λ i. parts.0 i ++ parts.1 i));
      absent = (λ none. absurd (let gone = subst (λ j. times_in j (nodes links order) ≡ 0) same none in omega (arith, gone, counted root, one_self root)));
      fewer = (λ k. omega (arith, ap (times_in k) merged.nodes, counted k, times-append k a b));
      least = omega (arith, o.high, merged.most, merged.least);
      most = omega (arith, o.high, merged.most, merged.least);
      others = record { long = merged.others.long; same = (λ k none. merged.others.same k (omega (arith, none, counted k, times-append k a b))) };
    }

pub compare-requires : goal.compare-requires
compare-requires g t c =
    let links = c.args.links.now in let order = c.args.order in let n = c.from.result in
    let o = opened_at c.requires.order (some_levels c.if-is_empty.ensures.1) c.from.ensures in
    let K = g.S.Sought.can_compare c.args.sought.now in
    All_at K (nodes links (left_of (links_at links n))) order.root (nodes links (right_of (links_at links n))) (subst (All K) o.listed c.requires.known)

pub remove-right-requires : goal.remove-right-requires
remove-right-requires g t c κs within =
    let links = c.args.links.now in let order = c.args.order in let a = left_of (links_at links c.from.result) in let b = c.right-in-Less.result in
    let o = opened c.requires.order (some_levels c.if-is_empty.ensures.1) c.from.ensures refl c.right-in-Less.ensures in
    let K = g.S.Sought.can_compare c.args.sought.now in
    let known = All_right K (nodes links a) order.root (nodes links b) (subst (All K) o.listed c.requires.known) in
    (omega (arith, o.high, c.decreases), (within, (o.is_b, (c.requires.small, known))))

pub remove-left-requires : goal.remove-left-requires
remove-left-requires g t c κs within =
    let links = c.args.links.now in let order = c.args.order in let a = c.left-in-Equal.result in let b = right_of (links_at links c.from.result) in
    let o = opened c.requires.order (some_levels c.if-is_empty.ensures.1) c.from.ensures c.left-in-Equal.ensures refl in
    let K = g.S.Sought.can_compare c.args.sought.now in
    let known = All_left K (nodes links a) order.root (nodes links b) (subst (All K) o.listed c.requires.known) in
    (omega (arith, o.high, c.decreases), (within, (o.is_a, (c.requires.small, known))))

pub balance-requires-clause-parts : goal.balance-requires-clause-parts
balance-requires-clause-parts g t c =
    let is = c.requires.order in let less = c.remove-right in let e = less.ensures in
    let o = opened is (some_levels c.if-is_empty.ensures.1) c.from.ensures c.left-in-Less.ensures c.right-in-Less.ensures in
    let shrunk : Shrunk c.args.links.now less.new.links c.right-in-Less.result less.result =
    record { is = e.order; fewer = e.fewer; least = e.least; most = e.most; others = e.others } in
    right_can is o shrunk

pub balance-requires-in-Equal : goal.balance-requires-in-Equal
balance-requires-in-Equal g t c =
    let is = c.requires.order in let less = c.remove-left in let e = less.ensures in
    let o = opened is (some_levels c.if-is_empty.ensures.1) c.from.ensures c.left-in-Equal.ensures c.right-in-Equal.ensures in
    let shrunk : Shrunk c.args.links.now less.new.links c.left-in-Equal.result less.result =
    record { is = e.order; fewer = e.fewer; least = e.least; most = e.most; others = e.others } in
    record {
      parts = left_can is o shrunk;
      small = omega (arith, e.others.long, c.requires.small);
      left = omega (arith, o.near, e.most);
      right = omega (arith, o.near, e.least);
    }

pub returns-in-Less : goal.returns-in-Less
returns-in-Less g t c =
    let is = c.requires.order in let less = c.remove-right in let e = less.ensures in
    let o = opened is (some_levels c.if-is_empty.ensures.1) c.from.ensures c.left-in-Less.ensures c.right-in-Less.ensures in
    let shrunk : Shrunk c.args.links.now less.new.links c.right-in-Less.result less.result =
    record { is = e.order; fewer = e.fewer; least = e.least; most = e.most; others = e.others } in
    let f = c.balance.ensures in
    let balanced : Balanced less.new.links c.balance.new.links c.left-in-Less.result c.args.order.root less.result c.balance.result =
    record { is = f.order; listed = f.nodes; near = f.near; least = f.least; most = f.most; others = f.others } in
    let k = c.args.node in let side = g.S.Sought.side c.args.sought.now in
    let counted = times_middle k (nodes c.args.links.now c.left-in-Less.result) c.args.order.root (nodes c.args.links.now c.right-in-Less.result) in
    let now = shrunk_right is o shrunk balanced in
    record {
      order = now.is;
      removed = (λ before after parted splits.
          rest_right is o shrunk balanced (λ j. side j ≡ Less) (λ j. side j ≢ Less) k c.if-order-node.false
          (λ apart. apart (sym c.in-Less.ensures)) before after parted splits.less splits.rest
          (λ rest part all. e.removed rest after part (record { less = all; rest = splits.rest })));
      absent = (λ none. same_right is o shrunk balanced (e.absent (omega (arith, none, counted, ap (times_in k) o.listed))));
      fewer = now.fewer;
      least = now.least;
      most = now.most;
      others = now.others;
    }

pub returns-in-Equal : goal.returns-in-Equal
returns-in-Equal g t c =
    let is = c.requires.order in let less = c.remove-left in let e = less.ensures in
    let o = opened is (some_levels c.if-is_empty.ensures.1) c.from.ensures c.left-in-Equal.ensures c.right-in-Equal.ensures in
    let shrunk : Shrunk c.args.links.now less.new.links c.left-in-Equal.result less.result =
    record { is = e.order; fewer = e.fewer; least = e.least; most = e.most; others = e.others } in
    let f = c.balance-in-Equal.ensures in
    let balanced : Balanced less.new.links c.balance-in-Equal.new.links less.result c.args.order.root c.right-in-Equal.result c.balance-in-Equal.result =
    record { is = f.order; listed = f.nodes; near = f.near; least = f.least; most = f.most; others = f.others } in
    let k = c.args.node in let side = g.S.Sought.side c.args.sought.now in
    let counted = times_middle k (nodes c.args.links.now c.left-in-Equal.result) c.args.order.root (nodes c.args.links.now c.right-in-Equal.result) in
    let now = shrunk_left is o shrunk balanced in
    record {
      order = now.is;
      removed = (λ before after parted splits.
          rest_left is o shrunk balanced (λ j. side j ≡ Less) (λ j. side j ≢ Less) k c.if-order-node.false
          (λ less. not_less c.in-Equal.is (c.compare.ensures ∙ less))
          before after parted splits.less splits.rest (λ rest part all. e.removed before rest part (record { less = splits.less; rest = all })));
      absent = (λ none. same_left is o shrunk balanced (e.absent (omega (arith, none, counted, ap (times_in k) o.listed))));
      fewer = now.fewer;
      least = now.least;
      most = now.most;
      others = now.others;
    }
