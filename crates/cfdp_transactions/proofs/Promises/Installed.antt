-- Of an entry that is done the file was installed exactly where there is one.
--     done_has_its_file         of one entry whose items are in order
--     done_from                 of each entry in each world of a run, whatever the filestore at its start
--     done_is_installed         and from the empty one
use Rattle.std.proofs.Common.{◌≡◌, refl, sym, ◌∙◌}
use Rattle.std.specs.Prelude.{Bool, true, false, not, if◌then◌else◌, ℕ}
use Rattle.cfdp_actions.specs.Filestore.{empty_filestore}
use Rattle.cfdp_transactions.specs.Entry.{Done, Entry, has_file}
use Rattle.cfdp_transactions.specs.Outcome.{is_refused}
use Rattle.cfdp_transactions.specs.Beside.{HasItsFile, DoneIsInstalled}
use Rattle.cfdp_transactions.specs.Beginning.{DoneIsInstalledFrom}
use Rattle.cfdp_transactions.proofs.Promises.ItemOrder.{IsInOrder, ordered_from}
use Rattle.std.proofs.Math.Bool.{or-false}

retained_or_none : (file refused : Bool) → ◌≡◌ {A = ℕ} (if not file then 3 else if file then 2 else if refused then 1 else 0) (if file then 2 else 3)
retained_or_none true refused = refl
retained_or_none false refused = refl

done_has_its_file : (e : Entry) → IsInOrder e → e.phase ≡ Done → HasItsFile e
done_has_its_file e s is =
    let installed : e.installed ≡ has_file e.metadata = sym (or-false e.installed) ∙ (let due = s.due (rw is refl) in rw is at due) in
    record { installed = installed; file_status = rw installed (retained_or_none (has_file e.metadata) (is_refused e.phase)) }

pub done_from : DoneIsInstalledFrom
done_from c F events k e at is = done_has_its_file e (ordered_from c F events k e at) is

pub done_is_installed : DoneIsInstalled
done_is_installed c events = done_from c empty_filestore events
