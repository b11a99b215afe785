-- What is printed of a fault.
--   upload_fault_text  the octets of its text
use Rattle.std.specs.Prelude.{ℕ, List, ◌++◌, codes, decimal}
use Rattle.cfdp_uploads.specs.declared.fault.UploadFault.{UploadFault}
use Rattle.cfdp_uploads.specs.declared.fault.UploadFault.TheVariants.{Header, SourceName, DestinationName, Request, FileSize, Metadata, Segment, NoPiece, NotSent, Memory}

abbrev pub upload_fault_text : UploadFault → List ℕ
upload_fault_text Header = codes "an entity ID or the sequence number does not fit its length of 1 to 8 octets"
upload_fault_text SourceName = codes "the source file name has more than 255 octets"
upload_fault_text DestinationName = codes "the destination file name has more than 255 octets"
upload_fault_text (Request number) = codes "request " ++ decimal number
    ++ codes " is too long: no response can repeat its names"
upload_fault_text FileSize = codes "the file has 2^32 octets or more, and the large file flag is not set"
upload_fault_text Metadata = codes "the Metadata has more than 65535 octets"
upload_fault_text Segment = codes "a piece has no octet, or too many for a File Data PDU"
upload_fault_text (NoPiece index) = codes "the order names piece " ++ decimal index ++ codes ", and there are fewer"
upload_fault_text (NotSent index) = codes "the order does not name piece " ++ decimal index
upload_fault_text Memory = codes "out of memory"
