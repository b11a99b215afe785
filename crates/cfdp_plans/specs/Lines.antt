-- The lines of a script for `replay`.
--   config_line      the line of a configuration
--   protect_line     the line of a protected path
--   title_line       what an upload is, as a comment: its transaction, and its sizes
--   pdu_line         the line of a PDU: its octets in hexadecimal
--   work_lines       those by which what a transaction asks for is performed, and its outcome is taken
--   upload_lines     those of an upload: its PDUs, in the order in which they are sent, and its work
--   list_line        the line that lists the filestore
use Rattle.std.specs.Prelude.{ℕ, List, ◌++◌, length, codes}
use Rattle.std.specs.List.{flat_map}
use Rattle.hex.specs.Hex.{encode_lower}
use Rattle.cfdp_texts.specs.Replies.{line, labelled}
use Rattle.cfdp_pdus.specs.declared.header.Header.{Header}
use Rattle.cfdp_pdus.specs.declared.pdu.Pdu.{Pdu}
use Rattle.cfdp_uploads.specs.Uploads.{UploadFields, sent_octets, upload_pdus}

abbrev pub config_line : (entity blocks cap checks journal : ℕ) → List ℕ
config_line entity blocks cap checks journal =
    line (labelled (codes "config ") entity ++ labelled (codes " ") blocks ++ labelled (codes " ") cap
    ++ labelled (codes " ") checks ++ labelled (codes " ") journal)

unfoldable pub protect_line : List ℕ → List ℕ
protect_line octets = line (codes "protect " ++ encode_lower octets)

unfoldable pub sizes_text : UploadFields → List ℕ
sizes_text u =
    labelled (codes ": ") u.metadata.size ++ labelled (codes " octets in ") (length u.order)
    ++ labelled (codes " File Data PDUs, ") (length u.metadata.requests) ++ codes " requests\n"

unfoldable pub title_line : UploadFields → List ℕ
title_line u = labelled (codes "# ") u.header.source ++ labelled (codes "/") u.header.number ++ sizes_text u

unfoldable pub pdu_line : Pdu → List ℕ
pdu_line pdu = line (codes "pdu " ++ encode_lower (sent_octets pdu))

abbrev pub work_lines : Header → List ℕ
work_lines header =
    codes "run\n" ++ labelled (codes "take ") header.source ++ labelled (codes " ") header.number ++ codes "\n"

abbrev pub upload_lines : UploadFields → List ℕ
upload_lines u = title_line u ++ flat_map pdu_line (upload_pdus u) ++ work_lines u.header

abbrev pub list_line : List ℕ
list_line = line (codes "list")
