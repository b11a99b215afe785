use Rattle.std.proofs.Common.{◌≡◌, ◌+◌, ◌-◌, ℕ, sym, ap, ◌∙◌, arith, List}
use Rattle.std.specs.Prelude.{slice_range}
use Rattle.cfdp_checksum.specs.Checksum.{checksum_at}
use Rattle.cfdp_checksum.proofs.ChecksumSteps.{none-added}
use Rattle.cfdp_tree.specs.declared.gap.Gap.{Gap}
use Rattle.cfdp_tree.specs.code.Runs.{octets_of_run}
use Rattle.cfdp_tree.specs.code.Contents.{contents_in}
use Rattle.cfdp_tree.specs.code.Slots.{IsBlank, blank_end}
use Rattle.cfdp_tree.proofs.OfRuns.Filling.{front_read}
use Rattle.cfdp_tree.proofs.OfRuns.ContentsLaws.{within_run}
use Rattle.cfdp_tree.proofs.OfStore.GapLaws.{part_blank}
use Rattle.cfdp_tree.proofs.slots.Slot.sum_there.Goals as goal
use Rattle.cfdp_tree.proofs.slots.Slot.sum_there.Goals.{then-self-start-via-then-self-start, then-self-start-via-else-self-start+then-covers}
use Rattle.cfdp_actions.proofs.RowLaws.{blocks_of-fits}

-- zeros add nothing
nothing : (octets : List ℕ) (at end : ℕ) → IsBlank octets (record { from = at; to = end }) → 0 ≡ checksum_at at (slice_range octets at end)
nothing octets at end blank = sym (ap (checksum_at at) blank.zeros ∙ none-added at (end - at))

pub returns-then-self-start : goal.returns-then-self-start
returns-then-self-start c =
    let slot = c.args.self.now in let r = c.requires in let octets = contents_in c.args.arena.now slot.contents in let known = r.sound.unwritten in
    let there : Gap = record { from = c.args.at; to = c.args.end } in
    nothing octets c.args.at c.args.end (elim c.then-self-start.branch [
      | then-self-start-via-then-self-start w ↦ part_blank octets (blank_end slot) known.end there w.if-self-start.true r.ordered r.range
      | then-self-start-via-else-self-start+then-covers w ↦ (let inside = w.covers.ensures.0 w.if-covers.true in
          part_blank octets slot.gap known.gap there inside.0 r.ordered inside.1)
    ])

pub sum_of-requires-clause-range : goal.sum_of-requires-clause-range
sum_of-requires-clause-range c = omega (arith, c.requires.filled.blocks, c.requires.ordered, c.requires.range, blocks_of-fits c.args.self.now.contents.size)

pub returns : goal.returns
returns c =
    let a = c.args.arena.now in let contents = c.args.self.now.contents in let r = c.requires in let at = c.args.at in
    let all : at + (c.args.end - at) ≡ c.args.end = omega (arith, r.ordered) in
    c.sum_of.ensures
    ∙ ap (checksum_at at) (front_read (octets_of_run a contents.run) contents.size (within_run a contents r.filled) at (c.args.end - at)
    (omega (arith, r.ordered, r.range)))
    ∙ ap (λ e. checksum_at at (slice_range (contents_in a contents) at e)) all
