use Rattle.std.proofs.Common.{◌≡◌, ◌++◌, take, flat_map}
use Rattle.cfdp_draw.specs.Notes.{note_text}
use Rattle.cfdp_draw.proofs.notes.push_each.Given as goal

abbrev pub invariant-loop-note : goal.invariant-loop-note
invariant-loop-note l = l.text.items ≡ l.initial.text.items ++ flat_map note_text (take l.note-index l.notes)
