use Rattle.std.proofs.Common.{◌≡◌, ◌<◌, ◌≤◌, ◌+◌, ◌-◌, ◌*◌, ◌++◌, replicate, refl, ap, ◌∙◌, arith}
use Rattle.cfdp_arena.specs.Arena.{octets_at}
use Rattle.cfdp_arena.specs.Blocks.{blank_block}
use Rattle.cfdp_tree.specs.code.Block.{payload}
use Rattle.cfdp_tree.specs.code.Runs.{octets_of_run}
use Rattle.cfdp_tree.specs.declared.runs.Run.{Run}
use Rattle.cfdp_tree.proofs.OfRuns.BegunLaws.{IsBegun, begun_first, begun_same, begun_is}
use Rattle.cfdp_tree.proofs.OfRuns.Filling.{more_zeros}
use Rattle.cfdp_tree.proofs.OfRuns.HeldLaws.{others_grown}
use Rattle.cfdp_tree.proofs.runs.Run.grow_to.Goals as goal
use Rattle.cfdp_tree.proofs.runs.Run.grow_to.Goals.{then-self-eq0+then-count-gt0, else-self-eq0, else-self-eq0-via-then-self-eq0+else-count-gt0, else-self-eq0-via-else-self-eq0}

pub loop-block-preserved : goal.loop-block-preserved
loop-block-preserved c =
    let l = c.loop-block in let inv = l.invariant in let g = c.grow.ensures in let a = c.args.arena.now in let run = c.args.self.now in
    let after = c.grow.new.self in
    record {
      held = g.held;
      count = g.count ∙ ap (λ n. n + 1) inv.count;
      more = omega arith;
      most = omega arith;
      octets = g.octets ∙ ap (λ xs. xs ++ payload blank_block) inv.octets
          ∙ more_zeros (octets_of_run a run) (120 * (l._block - run.count)) (120 * (l._block + 1 - run.count)) (omega (arith, inv.more));
      taken = omega (arith, g.taken, inv.taken);
      size = g.size ∙ inv.size;
      some = (λ more. omega arith);
      others = others_grown a l.arena c.grow.new.arena l.self after inv.others g.others (omega (arith, g.count)) (λ some. g.first);
      first = (λ some. g.first ∙ inv.first some);
      fresh = (λ none some. ap (octets_at a) g.first ∙ inv.fresh none (inv.some (omega (arith, c.loop-block-test.true))));
      sequence = (λ k within. g.sequence k (omega (arith, inv.count, inv.more)) ∙ inv.sequence k within);
      nodes = g.nodes ∙ inv.nodes;
      live = (λ b was. g.live b (inv.live b was));
      ways = g.ways;
      ways_stay = (λ b was. g.ways_stay b (inv.live b was) ∙ inv.ways_stay b was);
    }

-- at the first turn
begun : (c : goal.Joined-self-eq0) → IsBegun c.args.arena.now c.if-self-eq0.arena c.args.ways.now c.if-self-eq0.ways c.args.self.now c.if-self-eq0.self
begun c =
    let a = c.args.arena.now in let run = c.args.self.now in let ways = c.args.ways.now in let r = c.requires in
    elim c.if-self-eq0.branch [
      | then-self-eq0+then-count-gt0 w ↦ (
          let s = w.start_with_block in let e = s.ensures in
          begun_is a s.new.arena c.if-self-eq0.arena ways s.new.ways c.if-self-eq0.ways run s.new.self c.if-self-eq0.self w.arena-is w.ways-is w.self-is
          (begun_first a s.new.arena ways s.new.ways run s.new.self w.if-self-eq0.true e.held e.count e.octets e.taken e.size e.others e.fresh e.nodes e.live
          e.ways e.ways_stay))
      | else-self-eq0 w ↦ begun_is a a c.if-self-eq0.arena ways ways c.if-self-eq0.ways run run c.if-self-eq0.self w.arena-is w.ways-is w.self-is
          (begun_same a ways run r.held r.ways)
    ]

-- there is a block, if there are to be some
some_begun : (c : goal.Joined-self-eq0) → (c.if-self-eq0.self.count ≤ c.args.count) × (0 < c.args.count → 0 < c.if-self-eq0.self.count)
some_begun c = elim c.if-self-eq0.branch [
  | then-self-eq0+then-count-gt0 w ↦ (
      let one = ap (λ (x : Run). x.count) w.self-is ∙ w.start_with_block.ensures.count in
      (omega (arith, one, w.if-count-gt0.true), (λ more. omega (arith, one))))
  | else-self-eq0 w ↦ (
      let same = ap (λ (x : Run). x.count) w.self-is in
      elim w.else-self-eq0.branch [
        | else-self-eq0-via-then-self-eq0+else-count-gt0 v ↦ (
          omega (arith, same, c.requires.more),
          (λ more. absurd (omega (arith, more, v.if-count-gt0.false))),
        )
        | else-self-eq0-via-else-self-eq0 v ↦ (omega (arith, same, c.requires.more), (λ more. omega (arith, same, v.if-self-eq0.false)))
      ])
]

pub loop-block-init : goal.loop-block-init
loop-block-init c =
    let b = begun c in
    record {
      held = b.held;
      count = refl;
      more = b.more;
      most = (some_begun c).0;
      some = (some_begun c).1;
      octets = b.octets;
      taken = b.taken;
      size = b.size;
      others = b.others;
      first = b.first;
      fresh = b.fresh;
      sequence = b.sequence;
      nodes = b.nodes;
      live = b.live;
      ways = b.ways;
      ways_stay = b.ways_stay;
    }

pub returns-clause-octets : goal.returns-clause-octets
returns-clause-octets c =
    let l = c.loop-block in let run = c.args.self.now in
    let end : l._block ≡ c.args.count = omega (arith, l.invariant.most, c.loop-block-test.false) in
    l.invariant.octets ∙ ap (λ n. octets_of_run c.args.arena.now run ++ replicate (120 * (n - run.count)) 0) end
