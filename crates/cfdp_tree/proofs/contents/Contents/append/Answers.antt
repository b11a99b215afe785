use Rattle.std.proofs.Common.{◌≡◌, ◌+◌, ℕ, length, length-take, take, sym, ap, ◌∙◌, arith}
use Rattle.cfdp_actions.specs.Store.{overwritten}
use Rattle.cfdp_actions.proofs.RowLaws.{blocks_of-fits}
use Rattle.cfdp_checksum.specs.Checksum.{checksum}
use Rattle.cfdp_tree.specs.code.Runs.{octets_of_run}
use Rattle.cfdp_tree.specs.code.Contents.{contents_in}
use Rattle.cfdp_tree.proofs.OfRuns.OctetsInLists.{overwritten-extended}
use Rattle.cfdp_tree.proofs.OfRuns.Filling.{blocks_of-some}
use Rattle.cfdp_tree.proofs.OfRuns.ContentsLaws.{length-contents, written_filled, written_contents}
use Rattle.cfdp_tree.proofs.OfRuns.SpareLaws.{spares_kept, spares_then}
use Rattle.cfdp_tree.proofs.OfRuns.SummingLaws.{joined_sum}
use Rattle.cfdp_tree.proofs.OfRuns.WayLaws.{ways_still, keeps_still, keeps_then}
use Rattle.cfdp_tree.proofs.contents.Contents.append.Goals as goal

pub copy-requires-clause-source_stays : goal.copy-requires-clause-source_stays
copy-requires-clause-source_stays c =
    let s = c.args.source.now in let m = c.make_room-to in let r = c.requires in
    let spared = m.ensures.only.spares s.run r.source.held r.apart in
    let some = blocks_of-some s.size (omega arith) in
    let more = blocks_of-some m.new.self.size (omega (arith, m.ensures.size)) in
    (λ e. absurd (spared.1 (omega (arith, m.ensures.only.filled.blocks, more)) (omega (arith, r.source.blocks, some)) (sym e)))

pub copy-requires-clause-within : goal.copy-requires-clause-within
copy-requires-clause-within c =
    let m = c.make_room-to in omega (arith, m.ensures.only.filled.blocks, m.ensures.size, blocks_of-fits m.new.self.size)

pub copy-requires-clause-there : goal.copy-requires-clause-there
copy-requires-clause-there c = omega (arith, c.requires.source.blocks, blocks_of-fits c.args.source.now.size)

pub returns-clause-octets : goal.returns-clause-octets
returns-clause-octets c =
    let a = c.args.arena.now in let old = c.args.self.now in let s = c.args.source.now in let m = c.make_room-to in let r = c.requires in
    let n = old.size in
    let part = take s.size (octets_of_run m.new.arena s.run) in
    let spared = m.ensures.only.spares s.run r.source.held r.apart in
    let front = contents_in a old in
    let back = contents_in a s in
    let end : n + s.size ≡ n + length back = omega (arith, length-contents a s r.source) in
    written_contents m.new.arena m.new.self m.ensures.only.filled c.copy.new.arena n part
    (omega (arith, m.ensures.size, length-take {A = ℕ})) c.copy.ensures.only.held c.copy.ensures.octets
    ∙ (λ k. overwritten (m.ensures.octets k) n (take s.size (spared.0.octets k)))
    ∙ overwritten-extended front back n (n + s.size) (length-contents a old r.filled) end

pub copy-requires-clause-source : goal.copy-requires-clause-source
copy-requires-clause-source c =
    let s = c.args.source.now in let r = c.requires in (c.make_room-to.ensures.only.spares s.run r.source.held r.apart).0.held

pub returns-clause-only : goal.returns-clause-only
returns-clause-only c =
    let a = c.args.arena.now in let old = c.args.self.now in let s = c.args.source.now in let m = c.make_room-to in let r = c.requires in
    let room = m.ensures.only in let copy = c.copy.ensures in let kept = copy.only in let later = c.copy.new.arena in let after = m.new.self.run in
    let part = take s.size (octets_of_run m.new.arena s.run) in
    let joined = joined_sum (contents_in a old) (contents_in a s) old.size (length-contents a old r.filled) in
    let still = spares_kept m.new.arena later after kept.others in
    record {
      filled = written_filled m.new.arena m.new.self room.filled later old.size part (omega (arith, m.ensures.size, length-take {A = ℕ}))
          kept.held copy.octets _
          (omega (arith, m.ensures.sum, r.filled.summed, c.sum_at-added.ensures, joined) ∙ ap checksum (sym (returns-clause-octets c)));
      ways = ways_still m.new.arena later m.new.ways after kept.size (λ k less. kept.sequence k (omega (arith, less))) room.ways;
      spares = spares_then a m.new.arena later old.run after after room.spares still;
      other_ways = keeps_then a m.new.arena later c.args.ways.now m.new.ways m.new.ways old.run after room.other_ways room.spares
          (keeps_still m.new.arena later m.new.ways after after kept.size still);
      capacity = kept.size ∙ room.capacity;
      nodes = kept.nodes ∙ room.nodes;
    }
