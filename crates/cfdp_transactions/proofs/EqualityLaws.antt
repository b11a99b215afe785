-- The tests of requests, responses and PDUs hold of exactly the equal ones.
--     request-Decides, response-Decides
--     metadata-Decides, finished-Decides
use Rattle.std.proofs.Common.{◌≡◌, ◌&&◌, refl, sym, ◌∙◌, ap, subst, Bool, true, eqb, Option, Some, None}
use Rattle.std.specs.Bool.{Decides, beq}
use Rattle.std.specs.Cmp.{IsEquivalence, first_so, second_so, booleans_Decides}
use Rattle.std.specs.Cmp.Lexicographic.{pointwise, pointwise_decides, bytes_decides}
use Rattle.std.specs.Option.{option_eq}
use Rattle.std.proofs.lemmas.Bool.{eqb-true, true≢false}
use Rattle.std.proofs.lemmas.Bool.Decides.{Decides-eqb}
use Rattle.cfdp_status.specs.Codes.{beside, actions, status_octets, code_of, octet_of}
use Rattle.cfdp_status.specs.declared.action.Action.{Action}
use Rattle.cfdp_status.specs.declared.action.Action.TheVariants.{CreateFile, DeleteFile, RenameFile, AppendFile, ReplaceFile, CreateDirectory, RemoveDirectory, DenyFile, DenyDirectory}
use Rattle.cfdp_status.specs.declared.status.Status.{Status}
use Rattle.cfdp_status.proofs.Octets.{beside-octet_of}
use Rattle.cfdp_tlv.specs.Values.{RequestFields, ResponseFields}
use Rattle.cfdp_tlv.specs.Equality as tlv
use Rattle.cfdp_tlv.specs.code.Equality as tlv_in_code
use Rattle.cfdp_pdus.specs.Values.{MetadataFields, FinishedFields}
use Rattle.cfdp_pdus.specs.Equality.{same_options, same_file_names, same_metadata, same_codes, same_finished}
use Rattle.cfdp_pdus.specs.code.Equality.{metadata_equiv, finished_equiv}

-- a test that is an equivalence, and true of equal ones only, holds of them
by_same : {T : Type 0} {E : T → T → Bool} → IsEquivalence E → ((x y : T) → E x y ≡ true → x ≡ y) → (x y : T) → Decides (E x y) (x ≡ y)
by_same {E = E} laws same x y = (same x y, λ e. subst (λ z. E x z ≡ true) e (laws.refl x))

option-same : {T : Type 0} {E : T → T → Bool} → ((x y : T) → Decides (E x y) (x ≡ y)) → (p q : Option T) → option_eq E p q ≡ true → p ≡ q
option-same decides None None h = refl
option-same decides None (Some y) h = absurd (true≢false (sym h))
option-same decides (Some x) None h = absurd (true≢false (sym h))
option-same decides (Some x) (Some y) h = ap Some ((decides x y).0 h)

-- ---- requests and responses

beside-code_of : (action : Action) → beside actions (code_of action) ≡ Some action
beside-code_of CreateFile = refl
beside-code_of DeleteFile = refl
beside-code_of RenameFile = refl
beside-code_of AppendFile = refl
beside-code_of ReplaceFile = refl
beside-code_of CreateDirectory = refl
beside-code_of RemoveDirectory = refl
beside-code_of DenyFile = refl
beside-code_of DenyDirectory = refl

code-same : (a b : Action) → eqb (code_of a) (code_of b) ≡ true → a ≡ b
code-same a b h =
    let codes : code_of a ≡ code_of b = eqb-true _ _ h in
    let both : Some a ≡ Some b = sym (beside-code_of a) ∙ (ap (beside actions) codes ∙ beside-code_of b) in
    cc

octet-same : (a b : Status) → eqb (octet_of a) (octet_of b) ≡ true → a ≡ b
octet-same a b h =
    let octets : octet_of a ≡ octet_of b = eqb-true _ _ h in
    let both : Some a ≡ Some b = sym (beside-octet_of a) ∙ (ap (beside status_octets) octets ∙ beside-octet_of b) in
    cc

request-same : (a b : RequestFields) → tlv.same_request a b ≡ true → a ≡ b
request-same a b h =
    let rest = second_so (eqb (code_of a.action) (code_of b.action)) (pointwise eqb a.first b.first && option_eq (pointwise eqb) a.second b.second) h in
    let action : a.action ≡ b.action = code-same a.action b.action (first_so _ _ h) in
    let first : a.first ≡ b.first = (bytes_decides a.first b.first).0 (first_so _ _ rest) in
    let second : a.second ≡ b.second = option-same bytes_decides a.second b.second (second_so (pointwise eqb a.first b.first) _ rest) in
    λ i. record { action = action i; first = first i; second = second i }

pub request-Decides : (a b : RequestFields) → Decides (tlv.same_request a b) (a ≡ b)
request-Decides = by_same tlv_in_code.requests_equiv request-same

response_names-same : (a b : ResponseFields) → tlv.same_names a b ≡ true → (a.first ≡ b.first) × (a.second ≡ b.second)
unfolding tlv.same_names
response_names-same a b h = (
  (bytes_decides a.first b.first).0 (first_so _ _ h),
  option-same bytes_decides a.second b.second (second_so (pointwise eqb a.first b.first) _ h),
)

response-same : (a b : ResponseFields) → tlv.same_response a b ≡ true → a ≡ b
response-same a b h =
    let rest = second_so (eqb (octet_of a.status) (octet_of b.status)) (tlv.same_names a b && pointwise eqb a.message b.message) h in
    let status : a.status ≡ b.status = octet-same a.status b.status (first_so _ _ h) in
    let names = response_names-same a b (first_so _ _ rest) in
    let message : a.message ≡ b.message = (bytes_decides a.message b.message).0 (second_so (tlv.same_names a b) _ rest) in
    λ i. record { status = status i; first = names.0 i; second = names.1 i; message = message i }

pub response-Decides : (a b : ResponseFields) → Decides (tlv.same_response a b) (a ≡ b)
response-Decides = by_same tlv_in_code.responses_equiv response-same

-- ---- Metadata

record SameOptions (a b : MetadataFields) : Type 0 where
  closure : a.closure ≡ b.closure
  checksum_type : a.checksum_type ≡ b.checksum_type
  size : a.size ≡ b.size

options-same : (a b : MetadataFields) → same_options a b ≡ true → SameOptions a b
unfolding same_options
options-same a b h =
    let rest = second_so (beq a.closure b.closure) (eqb a.checksum_type b.checksum_type && eqb a.size b.size) h in
    record {
      closure = (booleans_Decides a.closure b.closure).0 (first_so _ _ h);
      checksum_type = eqb-true _ _ (first_so _ _ rest);
      size = eqb-true _ _ (second_so (eqb a.checksum_type b.checksum_type) _ rest);
    }

names-same : (a b : MetadataFields) → same_file_names a b ≡ true → (a.source_name ≡ b.source_name) × (a.destination_name ≡ b.destination_name)
unfolding same_file_names
names-same a b h = (
  (bytes_decides a.source_name b.source_name).0 (first_so _ _ h),
  (bytes_decides a.destination_name b.destination_name).0 (second_so (pointwise eqb a.source_name b.source_name) _ h),
)

metadata-same : (a b : MetadataFields) → same_metadata a b ≡ true → a ≡ b
metadata-same a b h =
    let rest = second_so (same_options a b) (same_file_names a b && pointwise tlv.same_request a.requests b.requests) h in
    let options = options-same a b (first_so _ _ h) in
    let names = names-same a b (first_so _ _ rest) in
    let requests : a.requests ≡ b.requests = (pointwise_decides request-Decides a.requests b.requests).0 (second_so (same_file_names a b) _ rest) in
    λ i. record {
      closure = options.closure i;
      checksum_type = options.checksum_type i;
      size = options.size i;
      source_name = names.0 i;
      destination_name = names.1 i;
      requests = requests i;
    }

pub metadata-Decides : (a b : MetadataFields) → Decides (same_metadata a b) (a ≡ b)
metadata-Decides = by_same metadata_equiv metadata-same

-- ---- Finished

record SameCodes (a b : FinishedFields) : Type 0 where
  condition : a.condition ≡ b.condition
  incomplete : a.incomplete ≡ b.incomplete
  file_status : a.file_status ≡ b.file_status

codes-same : (a b : FinishedFields) → same_codes a b ≡ true → SameCodes a b
unfolding same_codes
codes-same a b h =
    let rest = second_so (eqb a.condition b.condition) (beq a.incomplete b.incomplete && eqb a.file_status b.file_status) h in
    record {
      condition = eqb-true _ _ (first_so _ _ h);
      incomplete = (booleans_Decides a.incomplete b.incomplete).0 (first_so _ _ rest);
      file_status = eqb-true _ _ (second_so (beq a.incomplete b.incomplete) _ rest);
    }

finished-same : (a b : FinishedFields) → same_finished a b ≡ true → a ≡ b
finished-same a b h =
    let rest = second_so (same_codes a b) (pointwise tlv.same_response a.responses b.responses && option_eq eqb a.fault b.fault) h in
    let codes = codes-same a b (first_so _ _ h) in
    let responses : a.responses ≡ b.responses = (pointwise_decides response-Decides a.responses b.responses).0 (first_so _ _ rest) in
    let fault : a.fault ≡ b.fault = option-same Decides-eqb a.fault b.fault (second_so (pointwise tlv.same_response a.responses b.responses) _ rest) in
    λ i. record { condition = codes.condition i; incomplete = codes.incomplete i; file_status = codes.file_status i; responses = responses i; fault = fault i }

pub finished-Decides : (a b : FinishedFields) → Decides (same_finished a b) (a ≡ b)
finished-Decides = by_same finished_equiv finished-same
