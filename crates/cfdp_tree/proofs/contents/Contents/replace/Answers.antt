use Rattle.std.proofs.Common.{◌≡◌, ◌+◌, ◌++◌, sym, ap, ◌∙◌, arith}
use Rattle.cfdp_actions.specs.Filestore.{blocks_of}
use Rattle.cfdp_tree.proofs.OfRuns.Filling.{blocks_of-none}
use Rattle.cfdp_tree.proofs.OfRuns.ContentsLaws.{none_filled, none_contents, stays_filled, stays_contents}
use Rattle.cfdp_tree.proofs.OfRuns.SpareLaws.{spares_then}
use Rattle.cfdp_tree.proofs.OfRuns.WayLaws.{ways_none, keeps_still, keeps_then}
use Rattle.cfdp_tree.proofs.contents.Contents.replace.Goals as goal

pub append-requires-clause-filled : goal.append-requires-clause-filled
append-requires-clause-filled c = none_filled c.release.new.arena c.empty.result c.empty.ensures.blocks c.empty.ensures.size c.empty.ensures.sum

pub returns-clause-taken : goal.returns-clause-taken
returns-clause-taken c =
    let s = c.args.source.now in
    let all : c.empty.result.size + s.size ≡ s.size = omega (arith, c.empty.ensures.size) in
    omega (arith, ap blocks_of all, blocks_of-none c.empty.result.size c.empty.ensures.size, c.append.ensures.taken, c.release.ensures.freed)

pub append-requires-clause-ways : goal.append-requires-clause-ways
append-requires-clause-ways c =
    ways_none c.release.new.arena c.args.ways.now c.empty.result.run (c.requires.ways.long ∙ sym c.release.ensures.capacity) c.empty.ensures.blocks

pub append-requires-clause-source : goal.append-requires-clause-source
append-requires-clause-source c =
    let s = c.args.source.now in let r = c.requires in
    stays_filled c.args.arena.now c.release.new.arena s (c.release.ensures.spares s.run r.source.held r.apart).0 r.source

pub returns-clause-octets : goal.returns-clause-octets
returns-clause-octets c =
    let s = c.args.source.now in let r = c.requires in let gone = c.release.new.arena in let none = c.empty in
    let still = stays_contents c.args.arena.now gone s (c.release.ensures.spares s.run r.source.held r.apart).0 in
    c.append.ensures.octets ∙ (λ k. none_contents gone none.result none.ensures.blocks none.ensures.size k ++ still k)

pub returns-clause-only : goal.returns-clause-only
returns-clause-only c =
    let a = c.args.arena.now in let run = c.args.self.now.run in let gone = c.release.ensures in let between = c.release.new.arena in
    let ways = c.args.ways.now in let added = c.append.ensures.only in let later = c.append.new.arena in
    record {
      filled = added.filled;
      ways = added.ways;
      spares = spares_then a between later run run c.append.new.self.run gone.spares
          (λ other held apart. added.spares other held (λ some there. absurd (omega (arith, c.empty.ensures.blocks))));
      other_ways = keeps_then a between later ways ways c.append.new.ways run run (keeps_still a between ways run run gone.capacity gone.spares) gone.spares
          (λ other held apart has. added.other_ways other held (λ some there. absurd (omega (arith, some, c.empty.ensures.blocks))) has);
      capacity = added.capacity ∙ gone.capacity;
      nodes = added.nodes ∙ gone.nodes;
    }
