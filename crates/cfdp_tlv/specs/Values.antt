-- What a filestore request and a filestore response say (CCSDS 727.0-B-5 §5.4.1 and §5.4.2), without
-- where they lie in memory.
--   RequestFields    an action, a first file name, and a second one where the action has it
--   ResponseFields   a status, the names of the request, and a filestore message
--   IsRequest        the second name is there exactly where the action has one
--   IsResponse       the second name is there exactly where the status's action has one
use Rattle.std.specs.Prelude.{◌≡◌, ℕ, List, Option, is_some}
use Rattle.cfdp_status.specs.Codes.{has_second, action_of}
use Rattle.cfdp_status.specs.declared.action.Action.{Action}
use Rattle.cfdp_status.specs.declared.status.Status.{Status}

pub record RequestFields : Type 0 where
  pub action : Action
  pub first : List ℕ
  pub second : Option (List ℕ)

pub record ResponseFields : Type 0 where
  pub status : Status
  pub first : List ℕ
  pub second : Option (List ℕ)
  pub message : List ℕ

abbrev pub IsRequest : RequestFields → Type 0
IsRequest request = is_some request.second ≡ has_second request.action

abbrev pub IsResponse : ResponseFields → Type 0
IsResponse response = is_some response.second ≡ has_second (action_of response.status)
