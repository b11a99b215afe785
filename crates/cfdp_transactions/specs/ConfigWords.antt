-- What a fault of a configuration is called, in words.
--     config_fault_text fault  the text that `Display` writes
use Rattle.std.specs.Prelude.{ℕ, List, codes}
use Rattle.cfdp_transactions.specs.declared.config.ConfigFault.{ConfigFault}
use Rattle.cfdp_transactions.specs.declared.config.ConfigFault.TheVariants.{BadBlocks, BadCap, BadChecks, BadJournal}

abbrev pub config_fault_text : ConfigFault → List ℕ
config_fault_text BadBlocks = codes "the filestore must have 16 to 65536 blocks"
config_fault_text BadCap = codes "the cap must be at most 7864320 octets"
config_fault_text BadChecks = codes "the check limit must be 1 to 1000"
config_fault_text BadJournal = codes "the journal must have 16 to 1000000 entries"
