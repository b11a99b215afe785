-- The codes in PDUs, by name.
--   no_error, .. cancel_request_received         the condition codes (CCSDS 727.0-B-5 §5.2.2)
--   eof_code, .. keep_alive_code                 the directive codes (§5.2)
--   file_discarded, .. file_unreported           the file statuses (§5.2.3)
--   modular_checksum_type, .. null_checksum_type the checksum types, by the registry of checksum types
use Rattle.std.specs.Prelude.{ℕ}

-- ---- condition codes

abbrev pub no_error : ℕ
no_error = 0

abbrev pub positive_ack_limit_reached : ℕ
positive_ack_limit_reached = 1

abbrev pub keep_alive_limit_reached : ℕ
keep_alive_limit_reached = 2

abbrev pub invalid_transmission_mode : ℕ
invalid_transmission_mode = 3

abbrev pub filestore_rejection : ℕ
filestore_rejection = 4

abbrev pub file_checksum_failure : ℕ
file_checksum_failure = 5

abbrev pub file_size_error : ℕ
file_size_error = 6

abbrev pub nak_limit_reached : ℕ
nak_limit_reached = 7

abbrev pub inactivity_detected : ℕ
inactivity_detected = 8

abbrev pub invalid_file_structure : ℕ
invalid_file_structure = 9

abbrev pub check_limit_reached : ℕ
check_limit_reached = 10

abbrev pub unsupported_checksum_type : ℕ
unsupported_checksum_type = 11

abbrev pub suspend_request_received : ℕ
suspend_request_received = 14

abbrev pub cancel_request_received : ℕ
cancel_request_received = 15

-- ---- directive codes

abbrev pub eof_code : ℕ
eof_code = 4

abbrev pub finished_code : ℕ
finished_code = 5

abbrev pub ack_code : ℕ
ack_code = 6

abbrev pub metadata_code : ℕ
metadata_code = 7

abbrev pub nak_code : ℕ
nak_code = 8

abbrev pub prompt_code : ℕ
prompt_code = 9

abbrev pub keep_alive_code : ℕ
keep_alive_code = 12

-- ---- file statuses

abbrev pub file_discarded : ℕ
file_discarded = 0

abbrev pub file_rejected : ℕ
file_rejected = 1

abbrev pub file_retained : ℕ
file_retained = 2

abbrev pub file_unreported : ℕ
file_unreported = 3

-- ---- checksum types

abbrev pub modular_checksum_type : ℕ
modular_checksum_type = 0

abbrev pub proximity_1_crc_32_type : ℕ
proximity_1_crc_32_type = 1

abbrev pub crc_32c_type : ℕ
crc_32c_type = 2

abbrev pub ieee_802_3_crc_32_type : ℕ
ieee_802_3_crc_32_type = 3

abbrev pub null_checksum_type : ℕ
null_checksum_type = 15
