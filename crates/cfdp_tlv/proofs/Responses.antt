-- A response that is read is spelled so, and one that is spelled so is read.
use Rattle.std.proofs.Common.{◌≡◌, ℕ, ◌/◌, List, [], ◌∷◌, ◌++◌, Some, Result, Ok, Err, refl, sym, ap, subst, ◌∙◌}
use Rattle.std.proofs.lemmas.List.{append-nil}
use Rattle.std.specs.Prelude.{IfOk, ◌⊎◌}
use Rattle.cfdp_status.specs.Codes.{beside, actions, status_octets, has_second, action_of}
use Rattle.cfdp_status.proofs.Octets.{beside-octet_of, action_of-beside}
use Rattle.cfdp_tlv.specs.declared.fault.TlvFault.{TlvFault}
use Rattle.cfdp_tlv.specs.declared.fault.TlvFault.TheVariants.{BadAction, BadStatus, Memory}
use Rattle.cfdp_tlv.specs.Reading.{◌>>=◌, Gives}
use Rattle.cfdp_tlv.specs.Field.{lv, lv_at}
use Rattle.cfdp_tlv.specs.Values.{ResponseFields, IsResponse}
use Rattle.cfdp_tlv.specs.Grammar.{names_as_lv, HasResponse, SpellsResponse, response_octets, second_at, all_read, known, response_at}
use Rattle.cfdp_tlv.proofs.Steps.{bind_ok, ok_is, whole_ok, known_ok, only_ok}
use Rattle.cfdp_tlv.proofs.Fields.{lv_takes, lv_again}
use Rattle.cfdp_tlv.proofs.NameFields.{ended, names_take, after_first, first_again, second_again}

pub response_takes : (octets : List ℕ) (response : ResponseFields) → response_at octets ≡ Ok response → SpellsResponse octets response
unfolding response_at
response_takes [] response e = absurd cc
response_takes (octet ∷ octets) response e =
    let n = bind_ok (known (beside actions (octet / 16)) BadAction) (λ _. known (beside status_octets octet) BadStatus >>= λ status. lv_at octets >>= λ first.
    second_at (has_second (action_of status)) first.1 >>= λ second. lv_at second.1 >>= λ message.
    all_read (record { status = status; first = first.0; second = second.0; message = message.0 }) message.1) response e in
    let a = bind_ok (known (beside status_octets octet) BadStatus) (λ status. lv_at octets >>= λ first.
    second_at (has_second (action_of status)) first.1 >>= λ second. lv_at second.1 >>= λ message.
    all_read (record { status = status; first = first.0; second = second.0; message = message.0 }) message.1) response n.2 in
    let b = bind_ok (lv_at octets) (λ first. second_at (has_second (action_of a.0)) first.1 >>= λ second. lv_at second.1 >>= λ message.
    all_read (record { status = a.0; first = first.0; second = second.0; message = message.0 }) message.1) response a.2 in
    let d = bind_ok (second_at (has_second (action_of a.0)) b.0.1) (λ second. lv_at second.1 >>= λ message.
    all_read (record { status = a.0; first = b.0.0; second = second.0; message = message.0 }) message.1) response b.2 in
    let m = bind_ok (lv_at d.0.1) (λ message. all_read (record { status = a.0; first = b.0.0; second = d.0.0; message = message.0 }) message.1) response d.2 in
    let made : ResponseFields = record { status = a.0; first = b.0.0; second = d.0.0; message = m.0.0 } in
    let end = whole_ok made m.0.1 response m.2 in
    let names = names_take (has_second (action_of a.0)) octets b.0.0 b.0.1 d.0.0 d.0.1 b.1 d.1 in
    let message : d.0.1 ≡ lv m.0.0 = ended d.0.1 (lv m.0.0) m.0.1 (lv_takes d.0.1 m.0.0 m.0.1 m.1) end.0 in
    let spelled : HasResponse octet octets made = record {
      answers = known_ok (beside status_octets octet) BadStatus a.0 a.1;
      complete = names.complete;
      named = names.parts ∙ ap (λ (t : List ℕ). names_as_lv b.0.0 d.0.0 ++ t) message;
    } in
    subst (λ (r : ResponseFields). HasResponse octet octets r) end.1 spelled

pub response_again : (octets : List ℕ) (response : ResponseFields) → SpellsResponse octets response → response_at octets ≡ Ok response
unfolding response_at
response_again [] response spelled = absurd spelled
response_again (octet ∷ octets) response spelled =
    let action : beside actions (octet / 16) ≡ Some (action_of response.status) = action_of-beside octet response.status spelled.answers in
    let first : lv_at octets ≡ Ok (response.first, after_first response.second (lv response.message)) = ap lv_at spelled.named
    ∙ first_again response.first response.second (lv response.message) in
    let second : second_at (has_second (action_of response.status)) (after_first response.second (lv response.message))
    ≡ Ok (response.second, lv response.message) = rw (← spelled.complete) (second_again response.second (lv response.message)) in
    let message : lv_at (lv response.message) ≡ Ok (response.message, []) = ap lv_at (sym (append-nil (lv response.message))) ∙ lv_again response.message [] in
    rw (action, spelled.answers, first, second, message) refl

-- octets spell at most one response
pub one_response : (octets : List ℕ) (a b : ResponseFields) → SpellsResponse octets a → SpellsResponse octets b → a ≡ b
one_response octets a b first second = ok_is a b (sym (response_again octets a first) ∙ response_again octets b second)

pub response_found : (octets : List ℕ) (result : Result ResponseFields TlvFault) → Gives Memory (λ (r : ResponseFields). r) result (response_at octets) →
    IfOk result (SpellsResponse octets)
response_found octets (Ok response) given = response_takes octets response given
response_found octets (Err fault) given = tt

pub response_only : (octets : List ℕ) (result : Result ResponseFields TlvFault) → Gives Memory (λ (r : ResponseFields). r) result (response_at octets) →
    (response : ResponseFields) → SpellsResponse octets response → (result ≡ Ok response) ⊎ (result ≡ Err Memory)
response_only octets result given response spelled = only_ok Memory result (response_at octets) response given (response_again octets response spelled)

-- what is written of a response spells it
pub response_spelled : (response : ResponseFields) → IsResponse response → SpellsResponse (response_octets response) response
response_spelled response complete = record { answers = beside-octet_of response.status; complete = complete; named = refl }
