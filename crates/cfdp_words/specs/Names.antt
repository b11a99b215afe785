-- The kinds of PDU and the names of their fields, in words.
--   kind_words    a kind;  Damaged: the octets are no PDU
--   name_words    the name of a field in CCSDS 727.0-B-5 §5
use Rattle.std.specs.Prelude.{ℕ, List, codes}
use Rattle.cfdp_words.specs.declared.names.PduKind.{PduKind}
use Rattle.cfdp_words.specs.declared.names.PduKind.TheVariants as kinds
use Rattle.cfdp_words.specs.declared.names.Name.{Name}
use Rattle.cfdp_words.specs.declared.names.Name.TheVariants as names

unfoldable pub kind_words : PduKind → List ℕ
kind_words kinds.Metadata = codes "Metadata"
kind_words kinds.FileData = codes "File Data"
kind_words kinds.Eof = codes "EOF"
kind_words kinds.Finished = codes "Finished"
kind_words kinds.Ack = codes "ACK"
kind_words kinds.Nak = codes "NAK"
kind_words kinds.Prompt = codes "Prompt"
kind_words kinds.KeepAlive = codes "Keep Alive"
kind_words kinds.Damaged = codes "Damaged"

unfoldable pub name_words : Name → List ℕ
name_words names.Direction = codes "Direction"
name_words names.TransmissionMode = codes "Transmission mode"
name_words names.CrcFlag = codes "CRC flag"
name_words names.LargeFileFlag = codes "Large file flag"
name_words names.LengthOfEntityIds = codes "Length of entity IDs"
name_words names.LengthOfTransactionSequenceNumber = codes "Length of transaction sequence number"
name_words names.SourceEntityId = codes "Source entity ID"
name_words names.TransactionSequenceNumber = codes "Transaction sequence number"
name_words names.DestinationEntityId = codes "Destination entity ID"
name_words names.ClosureRequested = codes "Closure requested"
name_words names.ChecksumType = codes "Checksum type"
name_words names.FileSize = codes "File size"
name_words names.SourceFileName = codes "Source file name"
name_words names.DestinationFileName = codes "Destination file name"
name_words names.FilestoreRequests = codes "Filestore requests"
name_words names.FilestoreRequest = codes "Filestore request"
name_words names.MessagesToUser = codes "Messages to user"
name_words names.MessageToUser = codes "Message to user"
name_words names.FirstFileName = codes "First file name"
name_words names.SecondFileName = codes "Second file name"
name_words names.FilestoreResponses = codes "Filestore responses"
name_words names.FilestoreResponse = codes "Filestore response"
name_words names.StatusCode = codes "Status code"
name_words names.FilestoreMessage = codes "Filestore message"
name_words names.Offset = codes "Offset"
name_words names.OctetsOfFileData = codes "Octets of file data"
name_words names.ConditionCode = codes "Condition code"
name_words names.FileChecksum = codes "File checksum"
name_words names.DeliveryCode = codes "Delivery code"
name_words names.FileStatus = codes "File status"
name_words names.FaultLocation = codes "Fault location"
name_words names.DirectiveCodeOfTheAcknowledgedPdu = codes "Directive code of the acknowledged PDU"
name_words names.TransactionStatus = codes "Transaction status"
name_words names.ResponseRequired = codes "Response required"
name_words names.StartOfScope = codes "Start of scope"
name_words names.EndOfScope = codes "End of scope"
name_words names.SegmentRequests = codes "Segment requests"
name_words names.SegmentRequest = codes "Segment request"
name_words names.Progress = codes "Progress"
name_words names.Means = codes "Means"
name_words names.Fault = codes "Fault"
