-- When two requests, or two responses, are one.
--   same_request     the same action and the same names
--   same_names       two responses have the same names
--   same_response    the same status, names and message
use Rattle.std.specs.Prelude.{Bool, nat_eq}
use Rattle.std.specs.Cmp.Lexicographic.{pointwise}
use Rattle.std.specs.Option.{option_eq}
use Rattle.std.specs.Ordering.{eq_of_both, on}
use Rattle.cfdp_status.specs.Codes.{code_of, octet_of}
use Rattle.cfdp_tlv.specs.Values.{RequestFields, ResponseFields}

abbrev pub same_request : RequestFields → RequestFields → Bool
same_request =
    eq_of_both (on (λ r. code_of r.action) nat_eq)
    (eq_of_both (on (λ r. r.first) (pointwise nat_eq)) (on (λ r. r.second) (option_eq (pointwise nat_eq))))

unfoldable pub same_names : ResponseFields → ResponseFields → Bool
same_names = eq_of_both (on (λ r. r.first) (pointwise nat_eq)) (on (λ r. r.second) (option_eq (pointwise nat_eq)))

abbrev pub same_response : ResponseFields → ResponseFields → Bool
same_response =
    eq_of_both (on (λ r. octet_of r.status) nat_eq)
    (eq_of_both same_names (on (λ r. r.message) (pointwise nat_eq)))
