-- The grammar of filestore request and response values (CCSDS 727.0-B-5 §5.4.1 and §5.4.2), the one
-- canonical spelling of each, and the order in which faults are found.
--   names_as_lv first second        the LV fields of the names
--   SpellsRequest octets request    the octets spell the request: the action code in the high four bits
--                                   of the first octet, spare bits below it, then the names
--   SpellsResponse octets response  the octets spell the response: the status octet, the names, and
--                                   the message
--   request_octets request          the spelling with spare bits 0
--   response_octets response        the one spelling
--   request_at octets               the request that the octets spell, or the first fault: no octet
--                                   (Truncated), the action (BadAction), an LV field cut (Truncated),
--                                   octets left (Trailing)
--   response_at octets              the same, with BadStatus after BadAction
use Rattle.std.specs.Prelude.{◌≡◌, ℕ, ◌*◌, ◌/◌, List, [], ◌∷◌, ◌++◌, Option, Some, None, Result, Ok, Err, Bool, true, false}
use Rattle.cfdp_status.specs.Codes.{beside, actions, status_octets, code_of, octet_of, has_second, action_of}
use Rattle.cfdp_tlv.specs.declared.fault.TlvFault.{TlvFault}
use Rattle.cfdp_tlv.specs.declared.fault.TlvFault.TheVariants.{Truncated, BadAction, BadStatus, Trailing}
use Rattle.cfdp_tlv.specs.Reading.{◌>>=◌}
use Rattle.cfdp_tlv.specs.Field.{lv, lv_at}
use Rattle.cfdp_tlv.specs.Values.{RequestFields, ResponseFields, IsRequest, IsResponse}

abbrev pub names_as_lv : List ℕ → Option (List ℕ) → List ℕ
names_as_lv first None = lv first
names_as_lv first (Some second) = lv first ++ lv second

pub record HasRequest (octet : ℕ) (names : List ℕ) (request : RequestFields) : Type 0 where
  pub acts : beside actions (octet / 16) ≡ Some request.action
  pub complete : IsRequest request
  pub named : names ≡ names_as_lv request.first request.second

abbrev pub SpellsRequest : List ℕ → RequestFields → Type 0
SpellsRequest [] request = ⊥
SpellsRequest (octet ∷ names) request = HasRequest octet names request

pub record HasResponse (octet : ℕ) (fields : List ℕ) (response : ResponseFields) : Type 0 where
  pub answers : beside status_octets octet ≡ Some response.status
  pub complete : IsResponse response
  pub named : fields ≡ names_as_lv response.first response.second ++ lv response.message

abbrev pub SpellsResponse : List ℕ → ResponseFields → Type 0
SpellsResponse [] response = ⊥
SpellsResponse (octet ∷ fields) response = HasResponse octet fields response

abbrev pub request_octets : RequestFields → List ℕ
request_octets request = (16 * code_of request.action) ∷ names_as_lv request.first request.second

abbrev pub response_octets : ResponseFields → List ℕ
response_octets response =
    octet_of response.status ∷ (names_as_lv response.first response.second ++ lv response.message)

-- a second name, where there is to be one, and what is after it
unfoldable pub second_at : Bool → List ℕ → Result (Option (List ℕ) × List ℕ) TlvFault
second_at false octets = Ok (None, octets)
second_at true octets = do
  second ← lv_at octets
  Ok (Some second.0, second.1)

-- v where nothing is left
abbrev pub all_read : {A : Type 0} → A → List ℕ → Result A TlvFault
all_read value [] = Ok value
all_read value (octet ∷ octets) = Err Trailing

-- what a table has, or a fault
abbrev pub known : {A : Type 0} → Option A → TlvFault → Result A TlvFault
known None fault = Err fault
known (Some x) fault = Ok x

unfoldable pub request_at : List ℕ → Result RequestFields TlvFault
request_at [] = Err Truncated
request_at (octet ∷ octets) = do
  action ← known (beside actions (octet / 16)) BadAction
  first ← lv_at octets
  second ← second_at (has_second action) first.1
  all_read (record { action = action; first = first.0; second = second.0 }) second.1

unfoldable pub response_at : List ℕ → Result ResponseFields TlvFault
response_at [] = Err Truncated
response_at (octet ∷ octets) = do
  action ← known (beside actions (octet / 16)) BadAction
  status ← known (beside status_octets octet) BadStatus
  first ← lv_at octets
  second ← second_at (has_second (action_of status)) first.1
  message ← lv_at second.1
  all_read (record { status = status; first = first.0; second = second.0; message = message.0 }) message.1
