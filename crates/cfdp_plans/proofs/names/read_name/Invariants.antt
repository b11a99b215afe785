use Rattle.std.proofs.Common.{◌≡◌, ◌++◌, length, List, ℕ}
use Rattle.std.specs.Option.{option_map}
use Rattle.cfdp_plans.specs.Names.{name_in}
use Rattle.cfdp_plans.proofs.names.read_name.Given as goal

abbrev pub invariant-octets : goal.invariant-octets
invariant-octets l = name_in l.text ≡ option_map (λ (more : List ℕ). l.name.items ++ more) (name_in l.rest)

abbrev pub decreases-octets : goal.decreases-octets
decreases-octets l = length l.rest
