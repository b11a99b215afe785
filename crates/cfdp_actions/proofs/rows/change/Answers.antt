use Rattle.std.proofs.Common.{arith}
use Rattle.cfdp_actions.proofs.Allowed.{file_made, directory_made, removed, denied, moved, appended, replaced, replace_fits}
use Rattle.cfdp_actions.proofs.rows.change.Goals as goal

pub make_file-requires : goal.make_file-requires
make_file-requires g c =
    let facts = file_made _ _ _ c.requires.allowed c.in-CreateFile.is in
    record { absent = facts.absent; parent = facts.parent; room = omega (arith, facts.row.taken, facts.row.given, c.requires.room) }

pub returns-in-CreateFile-clause-ticks : goal.returns-in-CreateFile-clause-ticks
returns-in-CreateFile-clause-ticks g c =
    let facts = file_made _ _ _ c.requires.allowed c.in-CreateFile.is in
    rw facts.row.counted c.make_file.ensures.ticks

pub returns-in-CreateFile-clause-state : goal.returns-in-CreateFile-clause-state
returns-in-CreateFile-clause-state g c =
    let facts = file_made _ _ _ c.requires.allowed c.in-CreateFile.is in
    rw facts.row.changes c.make_file.ensures.made

pub make_dir-requires : goal.make_dir-requires
make_dir-requires g c =
    let facts = directory_made _ _ _ c.requires.allowed c.in-CreateDirectory.is in
    record { absent = facts.absent; parent = facts.parent; room = omega (arith, facts.row.taken, facts.row.given, c.requires.room) }

pub returns-in-CreateDirectory-clause-ticks : goal.returns-in-CreateDirectory-clause-ticks
returns-in-CreateDirectory-clause-ticks g c =
    let facts = directory_made _ _ _ c.requires.allowed c.in-CreateDirectory.is in
    rw facts.row.counted c.make_dir.ensures.ticks

pub returns-in-CreateDirectory-clause-state : goal.returns-in-CreateDirectory-clause-state
returns-in-CreateDirectory-clause-state g c =
    let facts = directory_made _ _ _ c.requires.allowed c.in-CreateDirectory.is in
    rw facts.row.changes c.make_dir.ensures.made

pub remove-requires : goal.remove-requires
remove-requires g c =
    let facts = removed _ _ _ c.requires.allowed c.in-DeleteFile.is in
    record { present = facts.present; childless = facts.childless }

pub returns-in-DeleteFile-clause-ticks : goal.returns-in-DeleteFile-clause-ticks
returns-in-DeleteFile-clause-ticks g c =
    let facts = removed _ _ _ c.requires.allowed c.in-DeleteFile.is in
    rw facts.row.counted c.remove.ensures.ticks

pub returns-in-DeleteFile-clause-state : goal.returns-in-DeleteFile-clause-state
returns-in-DeleteFile-clause-state g c =
    let facts = removed _ _ _ c.requires.allowed c.in-DeleteFile.is in
    rw facts.row.changes c.remove.ensures.gone

pub deny-requires : goal.deny-requires
deny-requires g c =
    let facts = denied _ _ _ c.requires.allowed c.in-DenyFile.is in
    facts.childless

pub returns-in-DenyFile-clause-ticks : goal.returns-in-DenyFile-clause-ticks
returns-in-DenyFile-clause-ticks g c =
    let facts = denied _ _ _ c.requires.allowed c.in-DenyFile.is in
    rw facts.row.counted c.deny.ensures.ticks

pub returns-in-DenyFile-clause-state : goal.returns-in-DenyFile-clause-state
returns-in-DenyFile-clause-state g c =
    let facts = denied _ _ _ c.requires.allowed c.in-DenyFile.is in
    rw facts.row.changes c.deny.ensures.gone

pub rename-requires : goal.rename-requires
rename-requires g c =
    let facts = moved _ _ _ _ c.requires.allowed c.in-RenameFile.is in
    record { present = facts.present; absent = facts.absent; parent = facts.parent; apart = facts.apart; depth = facts.depth }

pub returns-in-RenameFile-clause-ticks : goal.returns-in-RenameFile-clause-ticks
returns-in-RenameFile-clause-ticks g c =
    let facts = moved _ _ _ _ c.requires.allowed c.in-RenameFile.is in
    rw facts.row.counted c.rename.ensures.ticks

pub returns-in-RenameFile-clause-state : goal.returns-in-RenameFile-clause-state
returns-in-RenameFile-clause-state g c =
    let facts = moved _ _ _ _ c.requires.allowed c.in-RenameFile.is in
    rw facts.row.changes c.rename.ensures.moved

pub append-requires : goal.append-requires
append-requires g c =
    let facts = appended _ _ _ _ c.requires.allowed c.in-AppendFile.is in
    record { first = facts.first; second = facts.second; room = omega (arith, facts.row.taken, facts.row.given, c.requires.room) }

pub returns-in-AppendFile-clause-ticks : goal.returns-in-AppendFile-clause-ticks
returns-in-AppendFile-clause-ticks g c =
    let facts = appended _ _ _ _ c.requires.allowed c.in-AppendFile.is in
    rw facts.row.counted c.append.ensures.ticks

pub returns-in-AppendFile-clause-state : goal.returns-in-AppendFile-clause-state
returns-in-AppendFile-clause-state g c =
    let facts = appended _ _ _ _ c.requires.allowed c.in-AppendFile.is in
    rw facts.row.changes c.append.ensures.appended

pub replace-requires : goal.replace-requires
replace-requires g c =
    let facts = replaced _ _ _ _ c.requires.allowed c.in-ReplaceFile.is in
    record { first = facts.first; second = facts.second; room = replace_fits _ _ _ _ _ facts c.requires.room }

pub returns-in-ReplaceFile-clause-ticks : goal.returns-in-ReplaceFile-clause-ticks
returns-in-ReplaceFile-clause-ticks g c =
    let facts = replaced _ _ _ _ c.requires.allowed c.in-ReplaceFile.is in
    rw facts.row.counted c.replace.ensures.ticks

pub returns-in-ReplaceFile-clause-state : goal.returns-in-ReplaceFile-clause-state
returns-in-ReplaceFile-clause-state g c =
    let facts = replaced _ _ _ _ c.requires.allowed c.in-ReplaceFile.is in
    rw facts.row.changes c.replace.ensures.replaced
