-- The configuration of a receiving entity: what CCSDS 727.0-B-5 §8 leaves to the management information base.
--     Config                    its values
--     config_fault              what is wrong with the numbers, in the order of tests
use Rattle.std.specs.Prelude.{ℕ, ◌||◌, if◌then◌else◌, nat_lt, List, Option, Some, None}
use Rattle.cfdp_paths.specs.Paths.{Path}
pub use Rattle.cfdp_transactions.specs.declared.config.ConfigFault.{ConfigFault}
pub use Rattle.cfdp_transactions.specs.declared.config.ConfigFault.TheVariants.{BadBlocks, BadCap, BadChecks, BadJournal}

pub record Config : Type 0 where
  pub entity : ℕ  -- this entity's ID
  pub blocks : ℕ  -- of the filestore
  pub cap : ℕ  -- octets of a file of unbounded size
  pub checks : ℕ  -- the check limit (CCSDS 727.0-B-5, timer procedures)
  pub journal : ℕ  -- entries
  pub prefixes : List Path  -- what is at or below them is protected

abbrev pub config_fault : (blocks cap checks journal : ℕ) → Option ConfigFault
config_fault blocks cap checks journal =
    if nat_lt blocks 16 || nat_lt 65536 blocks then Some BadBlocks
    else if nat_lt 7864320 cap then Some BadCap
    else if nat_lt checks 1 || nat_lt 1000 checks then Some BadChecks
    else if nat_lt journal 16 || nat_lt 1000000 journal then Some BadJournal
    else None
