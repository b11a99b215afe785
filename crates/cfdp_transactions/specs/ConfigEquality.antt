-- When two configurations are one.
--     same_config               each part is the same
use Rattle.std.specs.Prelude.{Bool, nat_eq}
use Rattle.std.specs.Ordering.{eq_of_both, on}
use Rattle.cfdp_actions.specs.Prefixes.{same_paths}
use Rattle.cfdp_transactions.specs.Config.{Config}

unfoldable pub same_store : Config → Config → Bool
same_store = eq_of_both (on (λ c. c.blocks) nat_eq) (eq_of_both (on (λ c. c.cap) nat_eq)
    (on (λ c. c.prefixes) same_paths))

unfoldable pub same_counts : Config → Config → Bool
same_counts = eq_of_both (on (λ c. c.checks) nat_eq) (on (λ c. c.journal) nat_eq)

abbrev pub same_config : Config → Config → Bool
same_config = eq_of_both (on (λ c. c.entity) nat_eq) (eq_of_both same_store same_counts)
