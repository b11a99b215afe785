-- What was read is readable.
use Rattle.std.proofs.Common.{◌≡◌, List, [], ◌∷◌}
use Rattle.std.specs.Prelude.{Some, Result, Ok, Err, IfOk, IfSome}
use Rattle.std.specs.Result.{result_ok}
use Rattle.std.specs.List.{AllByRecursion}
use Rattle.cfdp_tlv.specs.Values.{RequestFields}
use Rattle.cfdp_pdus.specs.Canonical.{IsAnswerable}
use Rattle.cfdp_pdus.specs.Sound.{IsSound}
use Rattle.cfdp_pdus.specs.declared.pdu.Pdu.{Pdu}
use Rattle.cfdp_pdus.specs.declared.pdu.Pdu.TheVariants as pdus
use Rattle.cfdp_transactions.specs.Events.{Event, MetadataCame, DataCame, EofCame, event_of}
use Rattle.cfdp_transactions.specs.Writable.{IsReadable, IsShort, ReadIsReadable}
use Rattle.cfdp_transactions.specs.declared.event.NotOurs.{NotOurs}
use Rattle.cfdp_transactions.proofs.Options.{unless_some}

answerable_short : (rs : List RequestFields) → AllByRecursion IsAnswerable rs → AllByRecursion IsShort rs
answerable_short [] all = tt
answerable_short (r ∷ rs) all = (all.0.short, answerable_short rs all.1)

pub read_is_readable : ReadIsReadable
read_is_readable (pdus.Metadata h m) event s is = rw (← unless_some h.toward_sender (MetadataCame h m) event is) (
  s.header_fits,
  answerable_short m.requests s.answerable,
)
read_is_readable (pdus.FileData h piece) event s is = rw (← unless_some h.toward_sender (DataCame h piece) event is) s.0
read_is_readable (pdus.Eof h eof) event s is = rw (← unless_some h.toward_sender (EofCame h eof) event is) (s.0, s.1.condition)
read_is_readable (pdus.Finished h finished) event s is = absurd cc
read_is_readable (pdus.NotOurs h directive) event s is = absurd cc

-- the event that is made of a PDU that was read, where one is
pub made_readable : (pdu : Pdu) (made : Result Event NotOurs) → IsSound pdu → IfOk made (λ event. event_of pdu ≡ Some event) →
    IfSome (result_ok made) IsReadable
made_readable pdu (Ok event) sound is = read_is_readable pdu event sound is
made_readable pdu (Err why) sound is = tt
