-- Which uploads are refused, and why: the first of these faults in this order.
--   is_sized               a number fits its length, which is 1 to 8 octets
--   header_judged          Header: an entity ID or the sequence number does not
--   names_judged           SourceName, DestinationName: a name has more than 255 octets
--   requests_judged        Request: the value of this request, counted from 0, has more than 254 octets, so that no
--                          response can repeat it
--   field_judged           Metadata: the data field has more than 65,535 octets
--   file_judged            FileSize: the size does not fit 32 bits, and the large file flag is 0
--   segment_judged         Segment: a piece has no octet, or too many for a File Data PDU
--   order_judged           NoPiece: the order names this piece, and the file has fewer
--                          NotSent: it does not name this piece
--   judged_upload          the upload, where there is no fault
use Rattle.std.specs.Prelude.{ℕ, ◌+◌, ◌^◌, ◌&&◌, ◌||◌, ◌==◌, not, nat_lt, nat_le, Bool, if◌then◌else◌, List, length, Option, Some, None, Result, Ok, Err, position, find}
use Rattle.std.specs.List.{range_with_len}
use Rattle.cfdp_tlv.specs.Reading.{◌>>=◌}
use Rattle.cfdp_tlv.specs.Values.{RequestFields}
use Rattle.cfdp_tlv.specs.Grammar.{request_octets}
use Rattle.cfdp_pdus.specs.declared.header.Header.{Header}
use Rattle.cfdp_pdus.specs.Values.{MetadataFields}
use Rattle.cfdp_pdus.specs.Bits.{fss}
use Rattle.cfdp_pdus.specs.Canonical.{metadata_fits}
use Rattle.cfdp_uploads.specs.Uploads.{UploadFields, pieces_of, is_sent}
use Rattle.cfdp_uploads.specs.declared.fault.UploadFault.{UploadFault}
use Rattle.cfdp_uploads.specs.declared.fault.UploadFault.TheVariants as faults

abbrev pub Judged : Type 0
Judged = Result (Unit {0}) UploadFault

abbrev pub unless_wrong : Bool → UploadFault → Judged
unless_wrong wrong fault = if wrong then Err fault else Ok tt

abbrev pub is_sized : (len number : ℕ) → Bool
is_sized len number = nat_le 1 len && nat_le len 8 && nat_lt number (256 ^ len)

abbrev pub is_header : Header → Bool
is_header h = is_sized h.id_len h.source && is_sized h.number_len h.number && is_sized h.id_len h.destination

unfoldable pub header_judged : Header → Judged
header_judged h = unless_wrong (not (is_header h)) faults.Header

unfoldable pub names_judged : MetadataFields → Judged
names_judged m = do
  _ ← unless_wrong (nat_lt 255 (length m.source_name)) faults.SourceName
  unless_wrong (nat_lt 255 (length m.destination_name)) faults.DestinationName

abbrev pub is_long : RequestFields → Bool
is_long request = nat_lt 254 (length (request_octets request))

abbrev pub none_found : Option ℕ → (ℕ → UploadFault) → Judged
none_found None fault = Ok tt
none_found (Some number) fault = Err (fault number)

unfoldable pub requests_judged : List RequestFields → Judged
requests_judged requests = none_found (position is_long requests) (λ number. faults.Request number)

unfoldable pub file_judged : Bool → ℕ → Judged
file_judged large size = unless_wrong (nat_le (256 ^ fss large) size) faults.FileSize

unfoldable pub field_judged : Bool → MetadataFields → Judged
field_judged large m = unless_wrong (not (metadata_fits large m)) faults.Metadata

unfoldable pub segment_judged : Bool → ℕ → Judged
segment_judged large segment = unless_wrong ((segment == 0) || nat_lt 65535 (segment + fss large)) faults.Segment

unfoldable pub order_judged : ℕ → List ℕ → Judged
order_judged count order = do
  _ ← none_found (find (λ index. nat_le count index) order) (λ index. faults.NoPiece index)
  none_found (position (λ index. not (is_sent order index)) (range_with_len 0 count)) (λ index. faults.NotSent index)

abbrev pub judged_upload : UploadFields → Result UploadFields UploadFault
judged_upload u = do
  _ ← header_judged u.header
  _ ← names_judged u.metadata
  _ ← requests_judged u.metadata.requests
  _ ← file_judged u.header.large (length u.file)
  _ ← field_judged u.header.large u.metadata
  _ ← segment_judged u.header.large u.segment
  _ ← order_judged (pieces_of u) u.order
  Ok u
