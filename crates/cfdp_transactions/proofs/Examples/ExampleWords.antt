-- The words of the worked examples.
--     config, header n, id n    entity 2 with 64 blocks;  of transaction 1/n
--     asks, asks_two            requests, by the spelling of their names;  answers, answers_two: responses to them
--     list, file_to             Metadata without a file, and with one
--     metadata, piece, eof      events
--     world c es table          these entries exist, and nothing is staged
--     fresh, executing          an entry that was just admitted, in slot 0;  one whose items are performed
--     outcome n f               a Finished PDU that is sent
use Rattle.std.proofs.Common.{ℕ, List, []}
use Rattle.std.specs.Prelude.{true, false, Some, None, replicate}
use Rattle.cfdp_status.specs.declared.action.Action.{Action}
use Rattle.cfdp_status.specs.declared.status.Status.{Status}
use Rattle.cfdp_status.specs.declared.transaction.TransactionId.{TransactionId}
use Rattle.cfdp_actions.specs.Actions.{Item}
use Rattle.cfdp_tlv.specs.Values.{RequestFields, ResponseFields}
use Rattle.cfdp_pdus.specs.Values.{MetadataFields, FinishedFields}
use Rattle.cfdp_pdus.specs.declared.header.Header.{Header}
use Rattle.cfdp_transactions.specs.Config.{Config}
use Rattle.cfdp_transactions.specs.Entry.{Receiving, Executing, Entry}
use Rattle.cfdp_transactions.specs.Events.{Event, MetadataCame, DataCame, EofCame, Outcome}
use Rattle.cfdp_transactions.specs.World.{World}
use Rattle.cfdp_transactions.specs.Admission.{new_entry}
use Rattle.cfdp_transactions.proofs.Examples.Computing.{Listed, nodes_of}

abbrev pub config : Config
config = record { entity = 2; blocks = 64; cap = 2400; checks = 2; journal = 1000; prefixes = [] }

abbrev pub header : ℕ → Header
header n = record { toward_sender = false; acknowledged = false; large = false; id_len = 1; number_len = 1; source = 1; number = n; destination = 2 }

abbrev pub id : ℕ → TransactionId
id n = record { source = 1; number = n }

abbrev pub asks : Action → List ℕ → RequestFields
asks action name = record { action = action; first = name; second = None }

abbrev pub asks_two : Action → List ℕ → List ℕ → RequestFields
asks_two action name second = record { action = action; first = name; second = Some second }

abbrev pub answers : Status → List ℕ → ResponseFields
answers status name = record { status = status; first = name; second = None; message = [] }

abbrev pub answers_two : Status → List ℕ → List ℕ → ResponseFields
answers_two status name second = record { status = status; first = name; second = Some second; message = [] }

abbrev pub list : List RequestFields → MetadataFields
list requests = record { closure = true; checksum_type = 0; size = 0; source_name = []; destination_name = []; requests = requests }

abbrev pub file_to : List ℕ → ℕ → List RequestFields → MetadataFields
file_to name size requests = record (list requests) { destination_name = name; size = size }

abbrev pub metadata : ℕ → MetadataFields → Event
metadata n m = MetadataCame (header n) m

abbrev pub piece : ℕ → ℕ → List ℕ → Event
piece n at octets = DataCame (header n) (record { offset = at; octets = octets })

abbrev pub eof : ℕ → ℕ → ℕ → Event
eof n sum size = EofCame (header n) (record { condition = 0; checksum = sum; size = size })

abbrev pub world : Config → Listed → List Entry → World
world c es table = record { config = c; filestore = record { nodes = nodes_of es; staged = replicate 64 [] }; table = table }

abbrev pub fresh : ℕ → MetadataFields → List Item → ℕ → ℕ → Entry
fresh n m items blocks steps = new_entry (header n) m Receiving 0 items blocks steps

abbrev pub executing : Entry → Entry
executing e = record e { phase = Executing 0; complete = true }

abbrev pub outcome : ℕ → FinishedFields → Outcome
outcome n f = record { header = record (header n) { toward_sender = true }; finished = f; send = true }
