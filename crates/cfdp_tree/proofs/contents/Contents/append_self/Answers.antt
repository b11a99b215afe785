use Rattle.std.proofs.Common.{◌≡◌, ◌+◌, ◌-◌, ◌*◌, ◌≤◌, ℕ, length, length-take, take, replicate, refl, sym, ap, ◌∙◌, arith}
use Rattle.std.proofs.lemmas.List.{take-take, take-append-le, take_all}
use Rattle.cfdp_actions.specs.Store.{overwritten}
use Rattle.cfdp_checksum.specs.Checksum.{checksum}
use Rattle.cfdp_tree.specs.code.Runs.{octets_of_run}
use Rattle.cfdp_tree.specs.code.Contents.{contents_in}
use Rattle.cfdp_tree.proofs.OfRuns.OctetsInLists.{overwritten-extended}
use Rattle.cfdp_tree.proofs.OfRuns.ContentsLaws.{length-contents, written_filled, written_contents}
use Rattle.cfdp_tree.proofs.OfRuns.SpareLaws.{spares_kept, spares_then}
use Rattle.cfdp_tree.proofs.OfRuns.SummingLaws.{joined_sum}
use Rattle.cfdp_tree.proofs.OfRuns.WayLaws.{ways_still, keeps_still, keeps_then}
use Rattle.cfdp_actions.specs.Filestore.{blocks_of}
use Rattle.cfdp_actions.proofs.RowLaws.{blocks_of-fits}
use Rattle.cfdp_tree.proofs.contents.Contents.append_self.Goals as goal

pub copy-requires-clause-source_stays : goal.copy-requires-clause-source_stays
copy-requires-clause-source_stays c = (λ _. (refl, omega arith))

pub copy-requires-clause-within : goal.copy-requires-clause-within
copy-requires-clause-within c =
    let m = c.make_room-to in omega (arith, m.ensures.only.filled.blocks, m.ensures.size, blocks_of-fits m.new.self.size)

pub copy-requires-clause-there : goal.copy-requires-clause-there
copy-requires-clause-there c =
    let m = c.make_room-to in omega (arith, m.ensures.only.filled.blocks, m.ensures.size, blocks_of-fits m.new.self.size)

pub returns-clause-octets : goal.returns-clause-octets
returns-clause-octets c =
    let old = c.args.self.now in let n = old.size in let m = c.make_room-to in let run = octets_of_run m.new.arena m.new.self.run in
    let octets = contents_in c.args.arena.now old in
    let long : length octets ≡ n = length-contents c.args.arena.now old c.requires.filled in
    let front : take n run ≡ octets =
    sym (take-take n m.new.self.size run (omega (arith, m.ensures.size)))
    ∙ ap (take n) m.ensures.octets
    ∙ take-append-le n octets (replicate (n + n - length octets) 0) (omega arith)
    ∙ take_all n octets (omega arith) in
    let fits : n + length (take n run) ≤ m.new.self.size = omega (arith, m.ensures.size, length-take {A = ℕ}) in
    written_contents m.new.arena m.new.self m.ensures.only.filled c.copy.new.arena n (take n run) fits c.copy.ensures.only.held c.copy.ensures.octets
    ∙ (λ k. overwritten (m.ensures.octets k) n (front k))
    ∙ overwritten-extended octets octets n (n + n) long (omega arith)

pub returns-clause-taken : goal.returns-clause-taken
returns-clause-taken c =
    let n = c.args.self.now.size in
    let twice : 2 * n ≡ n + n = omega arith in
    omega (arith, ap blocks_of twice, c.copy.ensures.only.free, c.make_room-to.ensures.taken)

pub returns-clause-only : goal.returns-clause-only
returns-clause-only c =
    let a = c.args.arena.now in let old = c.args.self.now in let n = old.size in let m = c.make_room-to in let r = c.requires in
    let room = m.ensures.only in let copy = c.copy.ensures in let kept = copy.only in let later = c.copy.new.arena in let after = m.new.self.run in
    let part = take n (octets_of_run m.new.arena after) in
    let joined = joined_sum (contents_in a old) (contents_in a old) n (length-contents a old r.filled) in
    let still = spares_kept m.new.arena later after kept.others in
    record {
      filled = written_filled m.new.arena m.new.self room.filled later n part (omega (arith, m.ensures.size, length-take {A = ℕ})) kept.held copy.octets _
          (omega (arith, m.ensures.sum, r.filled.summed, c.sum_at-added.ensures, joined) ∙ ap checksum (sym (returns-clause-octets c)));
      ways = ways_still m.new.arena later m.new.ways after kept.size (λ k less. kept.sequence k (omega (arith, less))) room.ways;
      spares = spares_then a m.new.arena later old.run after after room.spares still;
      other_ways = keeps_then a m.new.arena later c.args.ways.now m.new.ways m.new.ways old.run after room.other_ways room.spares
          (keeps_still m.new.arena later m.new.ways after after kept.size still);
      capacity = kept.size ∙ room.capacity;
      nodes = kept.nodes ∙ room.nodes;
    }
