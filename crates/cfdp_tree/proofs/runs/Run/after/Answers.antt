use Rattle.std.proofs.Common.{◌≡◌, ◌+◌, suc, sym, ap, ◌∙◌, arith}
use Rattle.cfdp_tree.specs.code.Runs.{nth, next_in}
use Rattle.cfdp_tree.proofs.OfRuns.RunLaws.{nth_more}
use Rattle.cfdp_tree.proofs.OfRuns.HeldLaws.{held_part, octets_are}
use Rattle.cfdp_arena.specs.Arena.{octets_at}
use Rattle.cfdp_tree.specs.code.Block.{block_header}
use Rattle.cfdp_tree.proofs.runs.Run.after.Goals as goal

pub bytes-requires : goal.bytes-requires
bytes-requires c = let r = c.requires in let k = c.args.cursor.now in
    record { live = (held_part c.args.arena.now c.args.self.now r.held k.index r.within k.block r.cursor.1).live }

pub returns-clause-cursor : goal.returns-clause-cursor
returns-clause-cursor c = let r = c.requires in let k = c.args.cursor.now in let a = c.args.arena.now in
    let more : suc k.index ≡ k.index + 1 = omega arith in (
      omega arith,
      c.next_of.ensures.value ∙ ap (λ o. (block_header o).next) (octets_are a k.block _ c.bytes.ensures.octets)
          ∙ ap (λ b. next_in (octets_at a b)) r.cursor.1
          ∙ sym (nth_more a c.args.self.now.first k.index) ∙ ap (nth a c.args.self.now.first) more,
    )
