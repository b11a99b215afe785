use Rattle.std.proofs.Common.{◌≡◌, ◌++◌, take, flat_map}
use Rattle.cfdp_draw.specs.Notes.{pointer_text}
use Rattle.cfdp_draw.proofs.notes.push_pointers.Given as goal

abbrev pub invariant-loop-note : goal.invariant-loop-note
invariant-loop-note l = l.text.items ≡ l.initial.text.items ++ flat_map (pointer_text l.total) (take l.note-index l.notes)
