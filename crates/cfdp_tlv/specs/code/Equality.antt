-- What only the proofs of the code need of `Equality`.
use Rattle.std.specs.Prelude.{nat_eq}
use Rattle.std.specs.Cmp.{IsEquivalence, IsPartialEquivalence, partial_equiv_from_equiv, and_equiv, on_equiv, nat_eq_equiv}
use Rattle.std.specs.Cmp.Lexicographic.{pointwise, lists_equiv, options_equiv}
use Rattle.std.specs.Option.{option_eq}
use Rattle.cfdp_status.specs.Codes.{code_of, octet_of}
use Rattle.cfdp_tlv.specs.Values.{RequestFields, ResponseFields}
use Rattle.cfdp_tlv.specs.Equality.{same_request, same_names, same_response}

names_equiv : IsEquivalence (option_eq (pointwise nat_eq))
names_equiv = options_equiv (lists_equiv nat_eq_equiv)

pub requests_equiv : IsEquivalence same_request
requests_equiv =
    and_equiv (on_equiv (λ (r : RequestFields). code_of r.action) nat_eq_equiv)
    (and_equiv (on_equiv (λ (r : RequestFields). r.first) (lists_equiv nat_eq_equiv))
    (on_equiv (λ (r : RequestFields). r.second) names_equiv))

pub requests_per : IsPartialEquivalence same_request
requests_per = partial_equiv_from_equiv requests_equiv

same_names_equiv : IsEquivalence same_names
unfolding same_names
same_names_equiv =
    and_equiv (on_equiv (λ (r : ResponseFields). r.first) (lists_equiv nat_eq_equiv))
    (on_equiv (λ (r : ResponseFields). r.second) names_equiv)

pub responses_equiv : IsEquivalence same_response
responses_equiv =
    and_equiv (on_equiv (λ (r : ResponseFields). octet_of r.status) nat_eq_equiv)
    (and_equiv same_names_equiv (on_equiv (λ (r : ResponseFields). r.message) (lists_equiv nat_eq_equiv)))

pub responses_per : IsPartialEquivalence same_response
responses_per = partial_equiv_from_equiv responses_equiv
