-- The types of TLV fields that are read, by name. Fields of the types 4 (fault handler override, §5.4.4) and 5 (flow
-- label, §5.4.5) are passed over.
--   filestore_request_type        CCSDS 727.0-B-5 §5.4.1
--   filestore_response_type       §5.4.2
--   message_to_user_type          §5.4.3
--   entity_id_type                §5.4.6
use Rattle.std.specs.Prelude.{ℕ}

abbrev pub filestore_request_type : ℕ
filestore_request_type = 0

abbrev pub filestore_response_type : ℕ
filestore_response_type = 1

abbrev pub message_to_user_type : ℕ
message_to_user_type = 2

abbrev pub entity_id_type : ℕ
entity_id_type = 6
