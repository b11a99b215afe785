use Rattle.std.proofs.Common.{rules, []}
use Rattle.cfdp_actions.specs.Filestore.{Directory, File}
use Rattle.cfdp_actions.proofs.Refusing.{file_creation, directory_creation, deletion, denial, removal, directory_denial, appending, replacement}
use Rattle.cfdp_actions.proofs.refusals.refusal.Goals as goal

pub returns-in-CreateFile-clause-stated : goal.returns-in-CreateFile-clause-stated
returns-in-CreateFile-clause-stated g c = λ F h.
    rw c.in-CreateFile.is (file_creation F _ _ (c.creation.ensures F (File []) h))

pub returns-in-DeleteFile-clause-stated : goal.returns-in-DeleteFile-clause-stated
returns-in-DeleteFile-clause-stated g c = search (rules, deletion)

pub returns-in-AppendFile-clause-stated : goal.returns-in-AppendFile-clause-stated
returns-in-AppendFile-clause-stated g c = search (rules, appending)

pub returns-in-ReplaceFile-clause-stated : goal.returns-in-ReplaceFile-clause-stated
returns-in-ReplaceFile-clause-stated g c = search (rules, replacement)

pub returns-in-CreateDirectory-clause-stated : goal.returns-in-CreateDirectory-clause-stated
returns-in-CreateDirectory-clause-stated g c = λ F h.
    rw c.in-CreateDirectory.is (directory_creation F _ _ (c.creation-in-CreateDirectory.ensures F Directory h))

pub returns-in-RemoveDirectory-clause-stated : goal.returns-in-RemoveDirectory-clause-stated
returns-in-RemoveDirectory-clause-stated g c = search (rules, removal)

pub returns-in-DenyFile-clause-stated : goal.returns-in-DenyFile-clause-stated
returns-in-DenyFile-clause-stated g c = search (rules, denial)

pub returns-in-DenyDirectory-clause-stated : goal.returns-in-DenyDirectory-clause-stated
returns-in-DenyDirectory-clause-stated g c = search (rules, directory_denial)
