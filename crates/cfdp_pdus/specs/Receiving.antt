-- How the receiver of a file reads a PDU.
--   received pdu             the PDU itself; of a Finished PDU, which only the file's sender takes, nothing
--   received_of read         the same of what reading gives
--   IsLeanToReceive pdu      nothing is copied of it: an EOF PDU, a Finished PDU, and one that is not ours
--   IsCopied read            reading gives another one: a Metadata PDU or a File Data PDU
use Rattle.std.specs.Prelude.{⊤, Option, Some, None, Result, Ok}
use Rattle.cfdp_tlv.specs.Reading.{◌>>=◌}
use Rattle.cfdp_pdus.specs.declared.pdu.Pdu.{Pdu}
use Rattle.cfdp_pdus.specs.declared.pdu.Pdu.TheVariants as pdus
use Rattle.cfdp_pdus.specs.declared.fault.PduFault.{PduFault}

abbrev pub received : Pdu → Option Pdu
received (pdus.Metadata header metadata) = Some (pdus.Metadata header metadata)
received (pdus.FileData header file_data) = Some (pdus.FileData header file_data)
received (pdus.Eof header eof) = Some (pdus.Eof header eof)
received (pdus.Finished header finished) = None
received (pdus.NotOurs header code) = Some (pdus.NotOurs header code)

abbrev pub received_of : Result Pdu PduFault → Result (Option Pdu) PduFault
received_of read = read >>= λ pdu. Ok (received pdu)

abbrev pub IsLeanToReceive : Pdu → Type 0
IsLeanToReceive (pdus.Metadata header metadata) = ⊥
IsLeanToReceive (pdus.FileData header file_data) = ⊥
IsLeanToReceive (pdus.Eof header eof) = Unit {0}
IsLeanToReceive (pdus.Finished header finished) = Unit {0}
IsLeanToReceive (pdus.NotOurs header code) = Unit {0}

abbrev pub IsCopied : Result Pdu PduFault → Type 0
IsCopied (Ok (pdus.Metadata header metadata)) = ⊤
IsCopied (Ok (pdus.FileData header file_data)) = ⊤
IsCopied read = ⊥
