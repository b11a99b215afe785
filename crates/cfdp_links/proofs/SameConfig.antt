-- Configurations that the test for it calls equal are one, and the others are not.
use Rattle.std.proofs.Common.{◌≡◌, ℕ, Bool, true, false, not, ◌&&◌, ◌==◌, refl, sym, ap, subst, ◌∙◌, eqb→eq, true≢false, T}
use Rattle.std.proofs.lemmas.Bool.{not-false}
use Rattle.std.specs.Cmp.{first_so, second_so, Equal-is}
use Rattle.std.specs.FinMap.{nat_cmp-IsAntisymmetric, slice_cmp-IsAntisymmetric}
use Rattle.std.specs.Prelude.{List}
use Rattle.cfdp_paths.specs.Paths.{Path}
use Rattle.cfdp_actions.specs.Prefixes.{same_paths}
use Rattle.cfdp_transactions.specs.Config.{Config}
use Rattle.cfdp_transactions.specs.ConfigEquality.{same_config, same_store, same_counts}
use Rattle.cfdp_transactions.specs.code.ConfigEquality.{config_equiv}

paths_are : (ps qs : List Path) → same_paths ps qs ≡ true → ps ≡ qs
paths_are ps qs same =
    slice_cmp-IsAntisymmetric (slice_cmp-IsAntisymmetric (slice_cmp-IsAntisymmetric nat_cmp-IsAntisymmetric)) ps qs ((Equal-is _).0 same)

number_is : (n m : ℕ) → (n == m) ≡ true → n ≡ m
number_is n m same = eqb→eq n m (subst T (sym same) tt)

pub config_is : (a b : Config) → same_config a b ≡ true → a ≡ b
unfolding same_store same_counts
config_is a b same =
    let entity = number_is _ _ (first_so (a.entity == b.entity) (same_store a b && same_counts a b) same) in
    let rest = second_so (a.entity == b.entity) (same_store a b && same_counts a b) same in
    let store = first_so (same_store a b) (same_counts a b) rest in
    let counts = second_so (same_store a b) (same_counts a b) rest in
    let blocks = number_is _ _ (first_so (a.blocks == b.blocks) ((a.cap == b.cap) && same_paths a.prefixes b.prefixes) store) in
    let following = second_so (a.blocks == b.blocks) ((a.cap == b.cap) && same_paths a.prefixes b.prefixes) store in
    let cap = number_is _ _ (first_so (a.cap == b.cap) (same_paths a.prefixes b.prefixes) following) in
    let prefixes = paths_are _ _ (second_so (a.cap == b.cap) (same_paths a.prefixes b.prefixes) following) in
    let checks = number_is _ _ (first_so (a.checks == b.checks) (a.journal == b.journal) counts) in
    let journal = number_is _ _ (second_so (a.checks == b.checks) (a.journal == b.journal) counts) in
    λ i. record { entity = entity i; blocks = blocks i; cap = cap i; checks = checks i; journal = journal i; prefixes = prefixes i }

-- as where the test says that they do not differ
pub config_same : (a b : Config) → false ≡ not (same_config a b) → a ≡ b
config_same a b same = config_is a b (not-false (same_config a b) (sym same))

-- likewise where the test says that they do
fails : (b : Bool) → true ≡ not b → b ≡ true → ⊥
fails true differ same = true≢false differ
fails false differ same = true≢false (sym same)

pub configs_differ : (a b : Config) → true ≡ not (same_config a b) → a ≡ b → ⊥
configs_differ a b differ same = fails (same_config a b) differ (ap (same_config a) (sym same) ∙ config_equiv.refl a)
