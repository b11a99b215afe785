-- What `replay` writes: a line for each reply, for each PDU that is no event, and for all that is in the filestore.
--
--   StartsAs         a text begins with what it was
--   word             a text with a space before it
--   number_text      a number in decimal
--   labelled         a label, and a number in decimal after it
--   two_digits       an octet in two hexadecimal digits
--   line             a text with a newline after it
--   place_text       which name is no path: the destination's, or that of a request
--   failure_text     which request would fail, and with which status
--   refusal_text     why a list of requests was refused
--   taken_text       the octets of a Finished PDU in hexadecimal (CCSDS 727.0-B-5 §5.2.3), or, where there are none, a
--                    condition code
--   finished_text    that of an outcome: the Finished PDU where it is sent, and else the condition code
--   grant_text       what was granted to a transaction
--   reply_text       what is written of a reply
--   reply_line       the line of a reply: whose transaction it is about, and the text
--   reply_lines      the lines of some events' replies
--   fault_line       the line of octets that are no PDU
--   not_ours         the line of a PDU that is not for the receiver
--   is_plain         an octet of a path that is written as it is: no space, no control character, no `%`
--   shown_octet, shown, shown_path   an octet, octets and a path, with `%` and two digits for the others
--   checksum_text    the checksum of a file in eight digits
--   entry_line       the line of what is at a path
--   blocks_line      the blocks in use, those that are free, and those of them that nobody was granted
--   listing_text     that line and those of all that exists, in path order
use Rattle.std.specs.Prelude.{◌≡◌, ℕ, ◌==◌, Bool, not, ◌&&◌, nat_le, if◌then◌else◌, List, [], ◌∷◌, ◌++◌, codes, decimal, flat_map}
use Rattle.byteorder.specs.Endian.{big_bytes}
use Rattle.hex.specs.Hex.{encode_lower}
use Rattle.cfdp_status.specs.Codes.{octet_of}
use Rattle.cfdp_status.specs.Transaction.{transaction_name}
use Rattle.cfdp_status.specs.declared.status.Status.{Status}
use Rattle.cfdp_status.specs.declared.transaction.TransactionId.{TransactionId}
use Rattle.cfdp_paths.specs.Paths.{Path, joined}
use Rattle.cfdp_actions.specs.Filestore.{blocks}
use Rattle.cfdp_actions.specs.Store.{listing_of}
use Rattle.cfdp_actions.specs.declared.kind.Entry.{Entry}
use Rattle.cfdp_actions.specs.declared.kind.Kind.{Kind}
use Rattle.cfdp_actions.specs.declared.kind.Kind.TheVariants.{File, Directory}
use Rattle.cfdp_verifier.specs.declared.refusal.Place.{Place}
use Rattle.cfdp_verifier.specs.declared.refusal.Place.TheVariants.{Destination, Request}
use Rattle.cfdp_verifier.specs.declared.refusal.Refusal.{Refusal}
use Rattle.cfdp_verifier.specs.declared.refusal.Refusal.TheVariants.{TooManyRequests, BadPath, Conflict, DestinationNotAllowed, WouldFail, TooLong, NoRoom}
use Rattle.cfdp_pdus.specs.declared.fault.PduFault.{PduFault}
use Rattle.cfdp_pdus.specs.declared.fault.PduFault.TheVariants as pdu
use Rattle.cfdp_transactions.specs.Events.{about}
use Rattle.cfdp_transactions.specs.declared.event.Event.{Event}
use Rattle.cfdp_transactions.specs.declared.outcome.Outcome.{Outcome}
use Rattle.cfdp_transactions.specs.declared.reply.Reply.{Reply}
use Rattle.cfdp_transactions.specs.declared.reply.Reply.TheVariants as replied
use Rattle.cfdp_transactions.specs.World.{World, free, spare_blocks}
use Rattle.cfdp_transactions.specs.Writable.{finished_octets}

-- it was not cut, and nothing in it changed; more may follow
pub record StartsAs (old new : List ℕ) : Type 0 where
  pub more : List ℕ
  pub is : new ≡ old ++ more

abbrev pub word : List ℕ → List ℕ
word text = 32 ∷ text

unfoldable pub number_text : ℕ → List ℕ
number_text number = decimal number

unfoldable pub labelled : List ℕ → ℕ → List ℕ
labelled label number = label ++ number_text number

unfoldable pub two_digits : ℕ → List ℕ
two_digits octet = encode_lower (octet ∷ [])

abbrev pub line : List ℕ → List ℕ
line text = text ++ 10 ∷ []

abbrev pub place_text : Place → List ℕ
place_text Destination = codes "bad-path destination"
place_text (Request number) = labelled (codes "bad-path ") number

abbrev pub failure_text : ℕ → Status → List ℕ
failure_text number status = labelled (codes "would-fail ") number ++ word (two_digits (octet_of status))

abbrev pub refusal_text : Refusal → List ℕ
refusal_text TooManyRequests = codes "too-many-requests"
refusal_text (BadPath place) = place_text place
refusal_text (Conflict id) = codes "conflict " ++ transaction_name id
refusal_text DestinationNotAllowed = codes "destination"
refusal_text (WouldFail number status) = failure_text number status
refusal_text (TooLong steps) = labelled (codes "too-long ") steps
refusal_text (NoRoom wanted spare) = labelled (codes "no-room ") wanted ++ labelled (codes " ") spare

abbrev pub taken_text : List ℕ → ℕ → List ℕ
taken_text [] condition = labelled (codes "ended ") condition
taken_text octets condition = codes "finished " ++ encode_lower octets

abbrev pub finished_text : Outcome → List ℕ
finished_text outcome = taken_text (finished_octets outcome) outcome.finished.condition

abbrev pub grant_text : ℕ → ℕ → List ℕ
grant_text blocks steps = codes "admitted " ++ labelled (codes "blocks ") blocks ++ labelled (codes " steps ") steps

-- the last two have a text so that each reply has one: a script ends when out of memory, and has no journal
abbrev pub reply_text : Reply → List ℕ
reply_text (replied.Admitted blocks steps) = grant_text blocks steps
reply_text (replied.Refused refusal) = codes "refused " ++ refusal_text refusal
reply_text replied.Stored = codes "stored"
reply_text replied.Dropped = codes "dropped"
reply_text replied.Complete = codes "complete"
reply_text replied.Waiting = codes "waiting"
reply_text (replied.Faulted condition) = labelled (codes "faulted ") condition
reply_text (replied.Performed status) = codes "performed " ++ two_digits (octet_of status)
reply_text replied.Installed = codes "installed"
reply_text replied.Done = codes "done"
reply_text replied.Cancelled = codes "cancelled"
reply_text (replied.Taken outcome) = finished_text outcome
reply_text replied.Duplicate = codes "duplicate"
reply_text replied.Unknown = codes "unknown"
reply_text replied.Idle = codes "idle"
reply_text replied.NotForUs = codes "not-for-us"
reply_text replied.TableFull = codes "table-full"
reply_text replied.Memory = codes "out-of-memory"
reply_text replied.JournalFull = codes "journal-full"

abbrev pub reply_line : TransactionId → Reply → List ℕ
reply_line id reply = line (transaction_name id ++ word (reply_text reply))

abbrev pub reply_lines : List Event → List Reply → List ℕ
reply_lines (event ∷ events) (reply ∷ replies) = reply_line (about event) reply ++ reply_lines events replies
reply_lines events replies = []

-- the last has a text so that each fault has one
abbrev pub fault_line : PduFault → List ℕ
fault_line pdu.Truncated = codes "pdu dropped truncated\n"
fault_line pdu.BadVersion = codes "pdu dropped bad-version\n"
fault_line pdu.CrcNotSupported = codes "pdu dropped crc\n"
fault_line pdu.LengthMismatch = codes "pdu dropped length-mismatch\n"
fault_line pdu.BadDirective = codes "pdu dropped bad-directive\n"
fault_line pdu.BadTlv = codes "pdu dropped bad-tlv\n"
fault_line pdu.RequestTooLong = codes "pdu dropped request-too-long\n"
fault_line pdu.Memory = codes "pdu dropped out-of-memory\n"

abbrev pub not_ours : List ℕ
not_ours = codes "pdu not-ours\n"

abbrev pub is_plain : ℕ → Bool
is_plain octet = nat_le 33 octet && nat_le octet 126 && not (octet == 37)

abbrev pub shown_octet : ℕ → List ℕ
shown_octet octet = if is_plain octet then octet ∷ [] else 37 ∷ two_digits octet

unfoldable pub shown : List ℕ → List ℕ
shown octets = flat_map shown_octet octets

abbrev pub shown_path : Path → List ℕ
shown_path path = flat_map shown_octet (joined path)

abbrev pub checksum_text : ℕ → List ℕ
checksum_text checksum = encode_lower (big_bytes 4 checksum)

abbrev pub kind_line : Kind → Entry → List ℕ
kind_line Directory entry = line (codes "dir " ++ shown_path entry.path)
kind_line File entry =
    line (codes "file " ++ shown_path entry.path ++ labelled (codes " ") entry.size
    ++ word (checksum_text entry.checksum))

abbrev pub entry_line : Entry → List ℕ
entry_line entry = kind_line entry.kind entry

abbrev pub blocks_line : World → List ℕ
blocks_line W =
    line (labelled (codes "store used ") (blocks W.filestore) ++ labelled (codes " free ") (free W)
    ++ labelled (codes " spare ") (spare_blocks W))

abbrev pub listing_text : World → List ℕ
listing_text W = blocks_line W ++ flat_map entry_line (listing_of W.filestore)
