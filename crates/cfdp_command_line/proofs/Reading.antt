-- What is read of an input when at most n octets are asked for.
use Rattle.std.proofs.Common.{◌≡◌, ◌<◌, ℕ, min, List, [], ◌++◌, Option, None, Some, take, length, option_map, ap, ◌∙◌, arith}
use Rattle.std.specs.Prelude.{IfSome}
use Rattle.std.proofs.lemmas.List.{length-take, take_all}

-- where fewer came than were asked for, they are all that there was
all_came : (limit : ℕ) (octets all : List ℕ) → octets ≡ take limit all → length octets < limit → octets ≡ all
all_came limit octets all same few =
    let long : length octets ≡ min limit (length all) = ap length same ∙ length-take limit all in
    same ∙ take_all limit all (omega arith)

pub all_of_it : (limit : ℕ) (octets old : List ℕ) (inner : Option (List ℕ)) → IfSome (option_map (take limit) inner) (λ xs. octets ≡ old ++ xs)
    → old ≡ [] → length octets < limit → IfSome inner (λ all. octets ≡ all)
all_of_it limit octets old None came none few = tt
all_of_it limit octets old (Some all) came none few =
    all_came limit octets all (came ∙ ap (λ (xs : List ℕ). xs ++ take limit all) none) few
