-- Which outcomes can be written as a Finished PDU, and from which events only such come (CCSDS 727.0-B-5 §5.1 for the
-- header, §5.2.3 for the Finished PDU, §5.4.1 and §5.4.2 for requests and responses).
--     IsWritable o              the outcome may be handed to the writer of Finished PDUs, which then has no length to
--                               refuse
--     longest_finished          how many octets a Finished PDU has at most
--     finished_octets o         the octets of its Finished PDU, where it is sent, and else none
--     FitsReply reply           the outcome that it hands out, if any, can be written
--     IsShort request           its value has at most 254 octets, so that of its response has at most 255
--     IsReadable event          the event may come from a PDU that was read
--     OutcomesFit               from such events only such outcomes come
--     ReadIsReadable            the event of a PDU that was read is one of these
use Rattle.std.specs.Prelude.{◌≡◌, ⊤, ℕ, ◌<◌, ◌≤◌, true, false, if◌then◌else◌, List, [], length, Some}
use Rattle.std.specs.List.{AllByRecursion}
use Rattle.cfdp_tlv.specs.Values.{RequestFields}
use Rattle.cfdp_tlv.specs.Grammar.{request_octets}
use Rattle.cfdp_pdus.specs.Canonical.{IsHeader, IsSizedFinished, finished_field, finished_fits, pdu_octets}
use Rattle.cfdp_pdus.specs.Sound.{IsSound}
use Rattle.cfdp_pdus.specs.declared.pdu.Pdu.{Pdu}
use Rattle.cfdp_transactions.specs.Config.{Config}
use Rattle.cfdp_transactions.specs.Events.{Event, MetadataCame, DataCame, EofCame, Outcome, Reply, event_of}
use Rattle.cfdp_transactions.specs.World.{start}
use Rattle.cfdp_transactions.specs.Next.{replies}

-- a header of 28 octets, 2 before the responses, 64 responses of 257, and a fault location of 10
abbrev pub longest_finished : ℕ
longest_finished = 16488

pub record IsWritable (o : Outcome) : Type 0 where
  pub header : IsHeader o.header
  pub sized : IsSizedFinished o.header o.finished
  pub fits : finished_fits o.header o.finished ≡ true
  pub most : length (pdu_octets false o.header (finished_field o.header o.finished)) ≤ longest_finished

abbrev pub finished_octets : Outcome → List ℕ
finished_octets o = if o.send then pdu_octets false o.header (finished_field o.header o.finished) else []

abbrev pub FitsReply : Reply → Type 0
FitsReply (Reply.Taken o) = IsWritable o
FitsReply reply = ⊤

abbrev pub IsShort : RequestFields → Type 0
IsShort request = length (request_octets request) < 255

abbrev pub IsReadable : Event → Type 0
IsReadable (MetadataCame h m) = IsHeader h × AllByRecursion IsShort m.requests
IsReadable (DataCame h piece) = IsHeader h
IsReadable (EofCame h eof) = IsHeader h × (eof.condition < 16)
IsReadable event = ⊤

abbrev pub OutcomesFit : Type 0
OutcomesFit = (c : Config) (events : List Event) → AllByRecursion IsReadable events →
    AllByRecursion FitsReply (replies (start c) events)

abbrev pub ReadIsReadable : Type 0
ReadIsReadable = (pdu : Pdu) (event : Event) → IsSound pdu → event_of pdu ≡ Some event → IsReadable event
