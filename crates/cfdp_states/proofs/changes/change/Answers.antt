use Rattle.std.proofs.Common.{◌∙◌, ◌+◌, min}
use Rattle.std.proofs.lemmas.Result.{on_ok_weaker}
use Rattle.cfdp_states.specs.Sketching.{most_octets}
use Rattle.cfdp_states.proofs.SketchedRows.{file-created, directory-created, gone, moves, appends, replaces}
use Rattle.cfdp_states.proofs.changes.change.Goals as goal

pub returns-in-CreateFile-clause-done : goal.returns-in-CreateFile-clause-done
returns-in-CreateFile-clause-done c =
    on_ok_weaker c.put.result (file-created c.args.extents.now c.args.request.now c.requires.allowed _ c.in-CreateFile.path c.in-CreateFile.is) c.put.ensures.ok

pub returns-in-CreateDirectory-clause-done : goal.returns-in-CreateDirectory-clause-done
returns-in-CreateDirectory-clause-done c =
    on_ok_weaker c.put-in-CreateDirectory.result
    (directory-created c.args.extents.now c.args.request.now c.requires.allowed _ c.in-CreateDirectory.path c.in-CreateDirectory.is)
    c.put-in-CreateDirectory.ensures.ok

pub returns-in-DeleteFile-clause-done : goal.returns-in-DeleteFile-clause-done
returns-in-DeleteFile-clause-done c =
    gone c.args.extents.now c.args.request.now c.requires.allowed _ c.in-DeleteFile.path c.in-DeleteFile.is c.remove.ensures

pub returns-in-RenameFile-clause-done : goal.returns-in-RenameFile-clause-done
returns-in-RenameFile-clause-done c =
    on_ok_weaker c.relocate.result (moves c.args.extents.now c.args.request.now c.requires.allowed _ c.in-RenameFile.from c.in-RenameFile.to c.in-RenameFile.is)
    c.relocate.ensures.ok

pub returns-in-AppendFile-clause-done : goal.returns-in-AppendFile-clause-done
returns-in-AppendFile-clause-done c =
    appends c.args.extents.now c.args.request.now c.requires.allowed _ c.in-AppendFile.first c.in-AppendFile.second _ c.in-AppendFile.is
    (c.saturating_add.ensures
    ∙ (λ i. min (c.size.ensures i + c.size-more.ensures i) most_octets)) c.resize.ensures

pub returns-in-ReplaceFile-clause-done : goal.returns-in-ReplaceFile-clause-done
returns-in-ReplaceFile-clause-done c =
    replaces c.args.extents.now c.args.request.now c.requires.allowed _ c.in-ReplaceFile.first c.in-ReplaceFile.second _ c.in-ReplaceFile.is
    c.size-in-ReplaceFile.ensures c.resize-in-ReplaceFile.ensures
