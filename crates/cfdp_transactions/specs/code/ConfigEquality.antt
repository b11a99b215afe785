-- What only the proofs of the code need of `ConfigEquality`.
use Rattle.std.specs.Cmp.{IsEquivalence, IsPartialEquivalence, partial_equiv_from_equiv, and_equiv, on_equiv, nat_eq_equiv}
use Rattle.std.specs.Cmp.Rules.{comparing}
use Rattle.std.proofs.Common.{rules}
use Rattle.cfdp_actions.specs.Prefixes.{same_paths}
use Rattle.cfdp_transactions.specs.Config.{Config}
use Rattle.cfdp_transactions.specs.ConfigEquality.{same_store, same_counts, same_config}

paths_equiv : IsEquivalence same_paths
paths_equiv = Prim.search (comparing, rules)

same_store_equiv : IsEquivalence same_store
unfolding same_store
same_store_equiv =
    and_equiv (on_equiv (λ (c : Config). c.blocks) nat_eq_equiv)
    (and_equiv (on_equiv (λ (c : Config). c.cap) nat_eq_equiv) (on_equiv (λ (c : Config). c.prefixes) paths_equiv))

same_counts_equiv : IsEquivalence same_counts
unfolding same_counts
same_counts_equiv = and_equiv (on_equiv (λ (c : Config). c.checks) nat_eq_equiv)
    (on_equiv (λ (c : Config). c.journal) nat_eq_equiv)

pub config_equiv : IsEquivalence same_config
config_equiv =
    and_equiv (on_equiv (λ (c : Config). c.entity) nat_eq_equiv)
    (and_equiv same_store_equiv same_counts_equiv)

pub config_per : IsPartialEquivalence same_config
config_per = partial_equiv_from_equiv config_equiv
