-- The words of the worked examples: entity 2 with 64 blocks, sender 1, transaction 1/n; intervals 10, limits 3,
-- inactivity 100; a file `f` of the 15 octets 0 to 14, with the checksum 181c2015, and closure requested.
--     mib                       how the entity is set up
--     header n                  of transaction 1/n;  header_un n: in unacknowledged mode
--     M, D low high, E          the file's Metadata, its octets from one offset to another, its EOF
--     data_at now low high      these octets come, of transaction 1/5
--     fresh m                   the entity with no session
--     ack, nak, alive           PDUs that are sent, of transaction 1/n
--     says, replies             an answer that sends nothing: a word of the receiver's own, or the core's
use Rattle.std.proofs.Common.{ℕ, suc, ◌-◌, Bool, List, [], ◌∷◌}
use Rattle.std.specs.Prelude.{true, false, None, codes, take, drop, length}
use Rattle.cfdp_pdus.specs.Values.{MetadataFields, FileDataFields}
use Rattle.cfdp_pdus.specs.declared.header.Header.{Header}
use Rattle.cfdp_pdus.specs.declared.eof.Eof.{Eof}
use Rattle.cfdp_directives.specs.Reading.{NakFields}
use Rattle.cfdp_directives.specs.declared.ack.Ack.{Ack}
use Rattle.cfdp_directives.specs.declared.ack.TransactionStatus.{TransactionStatus}
use Rattle.cfdp_directives.specs.declared.ack.TransactionStatus.TheVariants.{Active}
use Rattle.cfdp_directives.specs.declared.keep_alive.KeepAlive.{KeepAlive}
use Rattle.cfdp_transactions.specs.declared.reply.Reply.{Reply}
use Rattle.cfdp_transactions.specs.World.{start}
use Rattle.cfdp_transactions.proofs.Examples.ExampleWords.{config, id}
use Rattle.cfdp_receiver.specs.declared.indication.Became.TheVariants.{Nothing, Said, Replied}
use Rattle.cfdp_receiver.specs.declared.indication.Indication.{Indication}
use Rattle.cfdp_receiver.specs.declared.indication.Indication.TheVariants as tells
use Rattle.cfdp_receiver.specs.declared.indication.Word.{Word}
use Rattle.cfdp_receiver.specs.declared.mib.Handler.TheVariants as handlers
use Rattle.cfdp_receiver.specs.declared.mib.Mib.{Mib}
use Rattle.cfdp_receiver.specs.declared.mib.NakMode.TheVariants as modes
use Rattle.cfdp_receiver.specs.State.{State, begin, AnswerFields, Input, DataPdu, turned_header}
use Rattle.cfdp_receiver.specs.Turning.{quiet}

abbrev pub mib : Mib
mib = record {
  ack = record { interval = 10; limit = 3; at_limit = handlers.Cancel };
  nak = record { interval = 10; limit = 3; at_limit = handlers.Cancel };
  check = record { interval = 10; at_limit = handlers.Cancel };
  inactivity = record { interval = 100; at_limit = handlers.Cancel };
  keep_alive = None;
  nak_mode = modes.Deferred;
  has_crc = false;
  longest_nak = 65535;
  most_ahead = None;
}

-- the entity with no session
abbrev pub fresh : Mib → State
fresh m = begin m (start config)

abbrev pub header : ℕ → Header
header n = record { toward_sender = false; acknowledged = true; large = false; id_len = 1; number_len = 1; source = 1; number = n; destination = 2 }

-- of an unacknowledged transaction
abbrev pub header_un : ℕ → Header
header_un n = record (header n) { acknowledged = false }

abbrev pub M : MetadataFields
M = record { closure = true; checksum_type = 0; size = 15; source_name = codes "s"; destination_name = codes "f"; requests = [] }

abbrev pub octets : List ℕ
octets = 0 ∷ 1 ∷ 2 ∷ 3 ∷ 4 ∷ 5 ∷ 6 ∷ 7 ∷ 8 ∷ 9 ∷ 10 ∷ 11 ∷ 12 ∷ 13 ∷ 14 ∷ []

abbrev pub D : ℕ → ℕ → FileDataFields
D low high = record { offset = low; octets = drop low (take high octets) }

abbrev pub E : Eof
E = record { condition = 0; checksum = 0x181c2015; size = 15 }

abbrev pub data_at : ℕ → ℕ → ℕ → Input
data_at now low high = DataPdu now (header 5) (D low high)

abbrev pub finished_ack : Ack
finished_ack = record { directive = 5; condition = 0; status = Active }

abbrev pub ack : ℕ → ℕ → TransactionStatus → Header × Ack
ack n condition status = (turned_header (header n), record { directive = 4; condition = condition; status = status })

abbrev pub nak : ℕ → ℕ → ℕ → List (ℕ × ℕ) → NakFields
nak n low high requests = record { header = turned_header (header n); scope = (low, high); requests = requests }

abbrev pub alive : ℕ → ℕ → Header × KeepAlive
alive n progress = (turned_header (header n), record { progress = progress })

abbrev pub says : ℕ → Word → AnswerFields
says n word = quiet (Said (id n) word)

abbrev pub replies : ℕ → Reply → AnswerFields
replies n reply = quiet (Replied (id n) reply)

abbrev pub described : ℕ → Indication
described n = tells.MetadataRecv (id n) (record { size = 15; closure = true; checksum_type = 0 })

abbrev pub segment : ℕ → ℕ → ℕ → Indication
segment n low high = tells.FileSegmentRecv (id n) low (high - low)

-- a Finished PDU of transaction 1/n, as octets: its data field after the directive code
abbrev pub pdu_of : ℕ → List ℕ → List ℕ
pdu_of n field = 0x28 ∷ 0 ∷ suc (length field) ∷ 0 ∷ 1 ∷ n ∷ 2 ∷ 5 ∷ field

abbrev pub ended : ℕ → ℕ → Bool → ℕ → Indication
ended n condition incomplete status = tells.TransactionFinished (id n) (record { condition = condition; incomplete = incomplete; file_status = status })

-- nothing was due, or nothing to do
abbrev pub nothing : AnswerFields
nothing = quiet Nothing
