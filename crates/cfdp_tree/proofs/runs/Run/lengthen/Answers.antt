use Rattle.std.proofs.Common.{◌+◌, List, ℕ, refl, sym, ap, ◌∙◌}
use Rattle.cfdp_arena.specs.Blocks.{blank_block}
use Rattle.cfdp_arena.specs.Arena.{octets_at, with_block}
use Rattle.cfdp_tree.specs.declared.runs.Run.{Run}
use Rattle.cfdp_tree.specs.code.Block.{block_header, payload, linked}
use Rattle.cfdp_tree.proofs.OfRuns.HeldLaws.{octets_are}
use Rattle.cfdp_tree.proofs.OfRuns.GrowLaws.{taken_octets, taken_written, grown_last_live, grown_held, grown_octets, grown_others, grown_free, grown_size, grown_sequence, grown_nodes, grown_live}
use Rattle.cfdp_tree.proofs.runs.Run.lengthen.Goals as goal

pub bytes_mut-requires-2 : goal.bytes_mut-requires-2
bytes_mut-requires-2 c =
    let a = c.args.arena.now in let run = c.args.self.now in let t = c.take_block-block in let b = t.result in let fresh = c.set_tag.new.block in
    let begun = with_block t.new.arena b fresh in
    let is = taken_written a t.new.arena b blank_block fresh t.ensures.zeros in
    let zeros = c.set_tag.ensures.payload ∙ ap payload (taken_octets a b blank_block _ t.ensures.within (ap (λ x. octets_at x b) (sym t.ensures.zeros)
    ∙ c.bytes_mut.ensures.octets)) in
    record {
      live = grown_last_live a begun b t.ensures.was_free t.ensures.within run.first run.count fresh is c.set_tag.ensures.whole
          (block_header c.bytes_mut.result.now) c.set_tag.ensures.header zeros run c.requires.held c.requires.some refl refl;
    }

pub returns : goal.returns
returns c =
    let a = c.args.arena.now in let run = c.args.self.now in let t = c.take_block-block in let b = t.result in let fresh = c.set_tag.new.block in
    let begun = with_block t.new.arena b fresh in
    let is = taken_written a t.new.arena b blank_block fresh t.ensures.zeros in
    let zeros = c.set_tag.ensures.payload ∙ ap payload (taken_octets a b blank_block _ t.ensures.within (ap (λ x. octets_at x b) (sym t.ensures.zeros)
    ∙ c.bytes_mut.ensures.octets)) in
    let shown = octets_are begun run.last _ c.bytes_mut-2.ensures.octets in
    let before = block_header c.bytes_mut.result.now in
    let new = c.set_next.new.block in
    let link = c.set_next.ensures.header ∙ ap (λ (o : List ℕ). linked (block_header o) b) shown in
    let same = c.set_next.ensures.payload ∙ ap payload shown in
    let after : Run = record { first = run.first; last = b; count = run.count + 1 } in
    record {
      held = grown_held a begun b t.ensures.was_free t.ensures.within run.first run.count fresh is c.set_tag.ensures.whole before c.set_tag.ensures.header zeros
          run c.requires.held c.requires.some refl refl new c.set_next.ensures.whole link same after refl refl refl;
      count = refl;
      octets = grown_octets a begun b t.ensures.was_free t.ensures.within run.first run.count fresh is c.set_tag.ensures.whole before c.set_tag.ensures.header
          zeros run c.requires.held c.requires.some refl refl new c.set_next.ensures.whole link same after refl refl;
      taken = grown_free a begun b t.ensures.was_free t.ensures.within run.first run.count fresh is c.set_tag.ensures.whole before c.set_tag.ensures.header
          zeros run c.requires.held c.requires.some refl refl new c.set_next.ensures.whole link same;
      size = grown_size a begun b t.ensures.was_free t.ensures.within run.first run.count fresh is c.set_tag.ensures.whole before c.set_tag.ensures.header zeros
          run c.requires.held c.requires.some refl refl new c.set_next.ensures.whole link same;
      others = grown_others a begun b t.ensures.was_free t.ensures.within run.first run.count fresh is c.set_tag.ensures.whole before c.set_tag.ensures.header
          zeros run c.requires.held c.requires.some refl refl new c.set_next.ensures.whole link same;
      first = refl;
      sequence = grown_sequence a begun b t.ensures.was_free t.ensures.within run.first run.count fresh is c.set_tag.ensures.whole before
          c.set_tag.ensures.header
          zeros run c.requires.held c.requires.some refl refl new c.set_next.ensures.whole link same after refl;
      nodes = grown_nodes a begun b t.ensures.was_free t.ensures.within run.first run.count fresh is c.set_tag.ensures.whole before c.set_tag.ensures.header
          zeros run c.requires.held c.requires.some refl refl new c.set_next.ensures.whole link same;
      live = grown_live a begun b t.ensures.was_free t.ensures.within run.first run.count fresh is c.set_tag.ensures.whole before c.set_tag.ensures.header zeros
          run c.requires.held c.requires.some refl refl new c.set_next.ensures.whole link same;
      was_free = t.ensures.was_free;
      within = t.ensures.within;
      few_blocks = t.ensures.capacity;
    }
