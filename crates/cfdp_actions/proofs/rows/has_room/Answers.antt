use Rattle.std.proofs.Common.{◌+◌, ◌∙◌, sym, nat_le, arith}
use Rattle.std.proofs.lemmas.Bool.{le-leb}
use Rattle.std.proofs.lemmas.Bool.Decides.{nat_tests}
use Rattle.cfdp_actions.proofs.RowLaws.{blocks_of-small, blocks_of-mono, blocks_of_both, blocks_of_one}
use Rattle.cfdp_actions.proofs.Allowed.{made_takes, appended, replaced, replace_room, takes_nothing}
use Rattle.cfdp_actions.proofs.rows.has_room.Goals as goal

pub size-size-requires : goal.size-size-requires
size-size-requires g c =
    (appended _ _ _ _ c.requires c.in-AppendFile.is).first

pub size-requires : goal.size-requires
size-requires g c =
    (appended _ _ _ _ c.requires c.in-AppendFile.is).second

pub overflow_sub-result : goal.overflow_sub-result
overflow_sub-result g c =
    omega (arith, c.blocks_of.ensures, c.blocks_of-in-AppendFile.ensures, blocks_of-mono c.size-size.result (c.size-size.result + c.size.result) (omega arith))

pub size-requires-in-ReplaceFile : goal.size-requires-in-ReplaceFile
size-requires-in-ReplaceFile g c =
    (replaced _ _ _ _ c.requires c.in-ReplaceFile.is).first

pub size-requires-in-ReplaceFile-2 : goal.size-requires-in-ReplaceFile-2
size-requires-in-ReplaceFile-2 g c =
    (replaced _ _ _ _ c.requires c.in-ReplaceFile.is).second

pub overflow_add-result : goal.overflow_add-result
overflow_add-result g c =
    omega (
      arith,
      c.free-in-ReplaceFile.ensures.value,
      c.free-in-ReplaceFile.ensures.capacity,
      blocks_of-small c.size-in-ReplaceFile.result (omega arith),
      c.blocks_of-given.ensures,
    )

pub returns-in-CreateFile : goal.returns-in-CreateFile
returns-in-CreateFile g c =
    let row = made_takes _ _ c.requires c.in-CreateFile.is in
    rw row.0 (rw row.1 (grind (arith, nat_tests, c.free-in-CreateFile.ensures.value)))

pub returns-in-AppendFile : goal.returns-in-AppendFile
returns-in-AppendFile g c =
    let row = (appended _ _ _ _ c.requires c.in-AppendFile.is).row in
    let both = blocks_of_both _ _ _ _ _ c.blocks_of.ensures c.size-size.ensures.value c.size.ensures.value in
    let one = blocks_of_one _ _ _ c.blocks_of-in-AppendFile.ensures c.size-size.ensures.value in
    rw row.taken (rw row.given (grind (arith, nat_tests, both, one, c.free.ensures.value)))

pub returns-in-ReplaceFile : goal.returns-in-ReplaceFile
returns-in-ReplaceFile g c =
    let given = blocks_of_one _ _ _ c.blocks_of-given.ensures c.size-in-ReplaceFile.ensures.value in
    let taken = blocks_of_one _ _ _ c.blocks_of-in-ReplaceFile.ensures c.size-in-ReplaceFile-2.ensures.value in
    (λ i. nat_le (taken i) (c.free-in-ReplaceFile.ensures.value i + given i)) ∙ replace_room _ _ _ _ _ (replaced _ _ _ _ c.requires c.in-ReplaceFile.is)

pub returns-in_default : goal.returns-in_default
returns-in_default g c =
    let none = takes_nothing _ _ c.requires c.in_default.not-CreateFile c.in_default.not-CreateDirectory c.in_default.not-AppendFile
    c.in_default.not-ReplaceFile in
    sym (le-leb _ _ (omega (arith, none)))
