-- Worked examples of configurations: blocks, cap, checks and journal, each at the edges of its limits.
use Rattle.std.proofs.Common.{◌≡◌, refl}
use Rattle.std.specs.Prelude.{Some, None}
use Rattle.cfdp_transactions.specs.Config.{BadBlocks, BadCap, BadChecks, BadJournal, config_fault}

least : config_fault 16 0 1 16 ≡ None
least = refl

greatest : config_fault 65536 7864320 1000 1000000 ≡ None
greatest = refl

few_blocks : config_fault 15 0 1 16 ≡ Some BadBlocks
few_blocks = refl

many_blocks : config_fault 65537 0 1 16 ≡ Some BadBlocks
many_blocks = refl

long_cap : config_fault 16 7864321 1 16 ≡ Some BadCap
long_cap = refl

no_checks : config_fault 16 0 0 16 ≡ Some BadChecks
no_checks = refl

many_checks : config_fault 16 0 1001 16 ≡ Some BadChecks
many_checks = refl

short_journal : config_fault 16 0 1 15 ≡ Some BadJournal
short_journal = refl

long_journal : config_fault 16 0 1 1000001 ≡ Some BadJournal
long_journal = refl

first_of_all : config_fault 15 7864321 0 15 ≡ Some BadBlocks
first_of_all = refl

cap_before_checks : config_fault 16 7864321 0 15 ≡ Some BadCap
cap_before_checks = refl

checks_before_journal : config_fault 16 0 0 15 ≡ Some BadChecks
checks_before_journal = refl
