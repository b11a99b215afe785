-- A reply that is reported as numbers is shown as `replay` writes it.
use Rattle.std.proofs.Common.{◌≡◌, ℕ, ◌<◌, Some, refl}
use Rattle.std.proofs.lemmas.Bool.{lt-ltb}
use Rattle.cfdp_status.specs.Codes.{octet_of}
use Rattle.cfdp_status.specs.declared.action.Action.TheVariants.{CreateFile, DeleteFile, RenameFile, AppendFile, ReplaceFile, CreateDirectory, RemoveDirectory, DenyFile, DenyDirectory}
use Rattle.cfdp_status.specs.declared.status.Status.{Status}
use Rattle.cfdp_status.specs.declared.status.Status.TheVariants.{Successful, NotAllowed, NotPerformed, DeleteAbsent, RenameOldAbsent, RenameNewPresent, AppendFirstAbsent, AppendSecondAbsent, ReplaceFirstAbsent, ReplaceSecondAbsent, RemoveAbsent}
use Rattle.cfdp_verifier.specs.declared.refusal.Place.TheVariants as place
use Rattle.cfdp_verifier.specs.declared.refusal.Refusal.TheVariants as refusal
use Rattle.cfdp_transactions.specs.declared.reply.Reply.TheVariants as reply
use Rattle.cfdp_c.specs.Shown.{small, status_numbered, ShownAsReplayed}

small_is : (n : ℕ) → n < 256 → small n ≡ Some n
small_is n less = rw (lt-ltb n 256 less) refl

status_back : (status : Status) → status_numbered (octet_of status) ≡ Some status
status_back (Successful CreateFile) = refl
status_back (Successful DeleteFile) = refl
status_back (Successful RenameFile) = refl
status_back (Successful AppendFile) = refl
status_back (Successful ReplaceFile) = refl
status_back (Successful CreateDirectory) = refl
status_back (Successful RemoveDirectory) = refl
status_back (Successful DenyFile) = refl
status_back (Successful DenyDirectory) = refl
status_back (NotAllowed CreateFile) = refl
status_back (NotAllowed DeleteFile) = refl
status_back (NotAllowed RenameFile) = refl
status_back (NotAllowed AppendFile) = refl
status_back (NotAllowed ReplaceFile) = refl
status_back (NotAllowed CreateDirectory) = refl
status_back (NotAllowed RemoveDirectory) = refl
status_back (NotAllowed DenyFile) = refl
status_back (NotAllowed DenyDirectory) = refl
status_back (NotPerformed CreateFile) = refl
status_back (NotPerformed DeleteFile) = refl
status_back (NotPerformed RenameFile) = refl
status_back (NotPerformed AppendFile) = refl
status_back (NotPerformed ReplaceFile) = refl
status_back (NotPerformed CreateDirectory) = refl
status_back (NotPerformed RemoveDirectory) = refl
status_back (NotPerformed DenyFile) = refl
status_back (NotPerformed DenyDirectory) = refl
status_back DeleteAbsent = refl
status_back RenameOldAbsent = refl
status_back RenameNewPresent = refl
status_back AppendFirstAbsent = refl
status_back AppendSecondAbsent = refl
status_back ReplaceFirstAbsent = refl
status_back ReplaceSecondAbsent = refl
status_back RemoveAbsent = refl

pub shown_as_replayed : ShownAsReplayed
shown_as_replayed id (reply.Admitted blocks steps) is = refl
shown_as_replayed id (reply.Refused refusal.TooManyRequests) is = refl
shown_as_replayed id (reply.Refused (refusal.BadPath place.Destination)) is = refl
shown_as_replayed id (reply.Refused (refusal.BadPath (place.Request request))) is = rw (small_is request is) refl
shown_as_replayed id (reply.Refused (refusal.Conflict other)) is = refl
shown_as_replayed id (reply.Refused refusal.DestinationNotAllowed) is = refl
shown_as_replayed id (reply.Refused (refusal.WouldFail request status)) is = rw (small_is request is, status_back status) refl
shown_as_replayed id (reply.Refused (refusal.TooLong steps)) is = refl
shown_as_replayed id (reply.Refused (refusal.NoRoom blocks spare)) is = refl
shown_as_replayed id (reply.Faulted condition) is = rw (small_is condition is) refl
shown_as_replayed id (reply.Performed status) is = rw (status_back status) refl
shown_as_replayed id reply.Memory is = absurd is
shown_as_replayed id reply.JournalFull is = absurd is
shown_as_replayed id reply.Stored is = refl
shown_as_replayed id reply.Dropped is = refl
shown_as_replayed id reply.Complete is = refl
shown_as_replayed id reply.Waiting is = refl
shown_as_replayed id reply.Installed is = refl
shown_as_replayed id reply.Done is = refl
shown_as_replayed id reply.Cancelled is = refl
shown_as_replayed id reply.Duplicate is = refl
shown_as_replayed id reply.Unknown is = refl
shown_as_replayed id reply.Idle is = refl
shown_as_replayed id reply.NotForUs is = refl
shown_as_replayed id reply.TableFull is = refl
shown_as_replayed id (reply.Taken outcome) is = refl
