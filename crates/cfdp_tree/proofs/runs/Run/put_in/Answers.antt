use Rattle.std.proofs.Common.{length, length-set, Some, ap, ◌∙◌}
use Rattle.cfdp_actions.specs.Store.{overwritten}
use Rattle.cfdp_tree.specs.code.Block.{block_header, payload}
use Rattle.cfdp_tree.proofs.OfRuns.BlockLaws.{header-part, payload-part, whole-part}
use Rattle.cfdp_tree.proofs.OfRuns.HeldLaws.{held_part, octets_are, put_held, put_nth, put_others, put_octets, put_nodes}
use Rattle.cfdp_tree.proofs.runs.Run.put_in.Goals as goal
use Rattle.cfdp_arena.proofs.Laws.{free_count-written}

pub bytes_mut-requires : goal.bytes_mut-requires
bytes_mut-requires c = let r = c.requires in let k = c.args.cursor.now in
    record { live = (held_part c.args.arena.now c.args.self.now r.held k.index r.within k.block r.cursor.1).live }

pub returns-clause-only : goal.returns-clause-only
returns-clause-only c = let r = c.requires in let k = c.args.cursor.now in let old = c.bytes_mut.result.now in
    let a = c.args.arena.now in let run = c.args.self.now in let new = c.put_part.new.block in
    let same = ap block_header c.put_part.ensures ∙ header-part old c.args.at c.args.part.now c.bytes_mut.ensures.whole
    ∙ ap block_header (octets_are a k.block old c.bytes_mut.ensures.octets) in
    let whole = ap length c.put_part.ensures ∙ whole-part old c.args.at c.args.part.now c.bytes_mut.ensures.whole r.fits in
    record {
      held = put_held a run r.held k.index r.within k.block r.cursor.1 new whole same;
      sequence = put_nth a run r.held k.index r.within k.block r.cursor.1 new whole same;
      free = free_count-written a k.block new (held_part a run r.held k.index r.within k.block r.cursor.1).live;
      size = length-set a k.block (Some new);
      others = put_others a run r.held k.index r.within k.block r.cursor.1 new whole same;
      nodes = put_nodes a run r.held k.index r.within k.block r.cursor.1 new whole same;
    }

pub returns-clause-octets : goal.returns-clause-octets
returns-clause-octets c = let r = c.requires in let k = c.args.cursor.now in let old = c.bytes_mut.result.now in
    let shown = octets_are c.args.arena.now k.block old c.bytes_mut.ensures.octets in
    let same = ap block_header c.put_part.ensures ∙ header-part old c.args.at c.args.part.now c.bytes_mut.ensures.whole ∙ ap block_header shown in
    put_octets c.args.arena.now c.args.self.now r.held k.index r.within k.block r.cursor.1 c.put_part.new.block (ap length c.put_part.ensures
    ∙ whole-part old c.args.at c.args.part.now c.bytes_mut.ensures.whole r.fits) same
    c.args.at c.args.part.now r.fits
    (ap payload c.put_part.ensures ∙ payload-part old c.args.at c.args.part.now c.bytes_mut.ensures.whole
    ∙ ap (λ o. overwritten (payload o) c.args.at c.args.part.now) shown)
