-- A request that is read is spelled so, and one that is spelled so is read.
use Rattle.std.proofs.Common.{◌≡◌, ℕ, ◌*◌, ◌/◌, List, [], ◌∷◌, ◌++◌, Some, Result, Ok, Err, refl, sym, ap, subst, ◌∙◌}
use Rattle.std.proofs.lemmas.List.{append-nil}
use Rattle.cfdp_status.specs.Codes.{beside, actions, code_of, has_second}
use Rattle.cfdp_status.specs.declared.action.Action.{Action}
use Rattle.cfdp_status.specs.declared.action.Action.TheVariants.{CreateFile, DeleteFile, RenameFile, AppendFile, ReplaceFile, CreateDirectory, RemoveDirectory, DenyFile, DenyDirectory}
use Rattle.cfdp_tlv.specs.declared.fault.TlvFault.TheVariants.{BadAction}
use Rattle.cfdp_tlv.specs.Reading.{◌>>=◌}
use Rattle.cfdp_tlv.specs.Field.{lv_at}
use Rattle.cfdp_tlv.specs.Values.{RequestFields, IsRequest}
use Rattle.cfdp_tlv.specs.Grammar.{names_as_lv, HasRequest, SpellsRequest, request_octets, second_at, all_read, known, request_at}
use Rattle.cfdp_tlv.specs.declared.fault.TlvFault.{TlvFault}
use Rattle.cfdp_tlv.specs.declared.fault.TlvFault.TheVariants.{Memory}
use Rattle.std.specs.Prelude.{IfOk, ◌⊎◌}
use Rattle.cfdp_tlv.specs.Reading.{Gives}
use Rattle.cfdp_tlv.proofs.Steps.{bind_ok, ok_is, whole_ok, known_ok, only_ok}
use Rattle.cfdp_tlv.proofs.NameFields.{ended, names_take, after_first, first_again, second_again}

pub request_takes : (octets : List ℕ) (request : RequestFields) → request_at octets ≡ Ok request → SpellsRequest octets request
unfolding request_at
request_takes [] request e = absurd cc
request_takes (octet ∷ octets) request e =
    let a = bind_ok (known (beside actions (octet / 16)) BadAction) (λ action. lv_at octets >>= λ first. second_at (has_second action) first.1 >>= λ second.
    all_read (record { action = action; first = first.0; second = second.0 }) second.1) request e in
    let b = bind_ok (lv_at octets) (λ first. second_at (has_second a.0) first.1 >>= λ second.
    all_read (record { action = a.0; first = first.0; second = second.0 }) second.1) request a.2 in
    let d = bind_ok (second_at (has_second a.0) b.0.1) (λ second. all_read (record { action = a.0; first = b.0.0; second = second.0 }) second.1) request b.2 in
    let made : RequestFields = record { action = a.0; first = b.0.0; second = d.0.0 } in
    let end = whole_ok made d.0.1 request d.2 in
    let names = names_take (has_second a.0) octets b.0.0 b.0.1 d.0.0 d.0.1 b.1 d.1 in
    let spelled : HasRequest octet octets made = record {
      acts = known_ok (beside actions (octet / 16)) BadAction a.0 a.1;
      complete = names.complete;
      named = ended octets (names_as_lv b.0.0 d.0.0) d.0.1 names.parts end.0;
    } in
    subst (λ (r : RequestFields). HasRequest octet octets r) end.1 spelled

pub request_again : (octets : List ℕ) (request : RequestFields) → SpellsRequest octets request → request_at octets ≡ Ok request
unfolding request_at
request_again [] request spelled = absurd spelled
request_again (octet ∷ octets) request spelled =
    let names : octets ≡ names_as_lv request.first request.second ++ [] = spelled.named ∙ sym (append-nil (names_as_lv request.first request.second)) in
    let first : lv_at octets ≡ Ok (request.first, after_first request.second []) = ap lv_at names ∙ first_again request.first request.second [] in
    let second : second_at (has_second request.action) (after_first request.second []) ≡ Ok (request.second, []) =
    rw (← spelled.complete) (second_again request.second []) in
    rw (spelled.acts, first, second) refl

-- the code of an action, above four spare bits, means it
beside-code : (action : Action) → beside actions (16 * code_of action / 16) ≡ Some action
beside-code CreateFile = refl
beside-code DeleteFile = refl
beside-code RenameFile = refl
beside-code AppendFile = refl
beside-code ReplaceFile = refl
beside-code CreateDirectory = refl
beside-code RemoveDirectory = refl
beside-code DenyFile = refl
beside-code DenyDirectory = refl

-- octets spell at most one request
pub one_request : (octets : List ℕ) (a b : RequestFields) → SpellsRequest octets a → SpellsRequest octets b → a ≡ b
one_request octets a b first second = ok_is a b (sym (request_again octets a first) ∙ request_again octets b second)

pub request_found : (octets : List ℕ) (result : Result RequestFields TlvFault) → Gives Memory (λ (r : RequestFields). r) result (request_at octets) →
    IfOk result (SpellsRequest octets)
request_found octets (Ok request) given = request_takes octets request given
request_found octets (Err fault) given = tt

pub request_only : (octets : List ℕ) (result : Result RequestFields TlvFault) → Gives Memory (λ (r : RequestFields). r) result (request_at octets) →
    (request : RequestFields) → SpellsRequest octets request → (result ≡ Ok request) ⊎ (result ≡ Err Memory)
request_only octets result given request spelled = only_ok Memory result (request_at octets) request given (request_again octets request spelled)

-- what is written of a request spells it
pub request_spelled : (request : RequestFields) → IsRequest request → SpellsRequest (request_octets request) request
request_spelled request complete = record { acts = beside-code request.action; complete = complete; named = refl }
