-- The configuration that C gives.
--   path_in_fields fields     the path that the octets of a struct spell, where there are this many
--   protected_by prefixes protected    the protected paths, after more prefixes, or what is wrong with the first bad
--                                      one
--   config_from fields protected       the configuration of these numbers, or what is wrong with the first bad one
--   config_of_fields fields prefixes   the whole configuration
--   OpensEngine fields prefixes  what making an engine does to a handle
use Rattle.std.specs.Prelude.{◌≡◌, ◌⊎◌, ℕ, ◌==◌, nat_le, if◌then◌else◌, List, [], ◌∷◌, ◌++◌, length, take, Option, Some, None, Result, Ok, Err}
use Rattle.cfdp_tlv.specs.Reading.{◌>>=◌}
use Rattle.cfdp_paths.specs.Paths.{Path, path_of}
use Rattle.cfdp_transactions.specs.Config.{Config, config_fault}
use Rattle.cfdp_transactions.specs.declared.config.ConfigFault.{ConfigFault}
use Rattle.cfdp_transactions.specs.World.{World, start}
use Rattle.cfdp_c.specs.Answers.{answer_code, config_answer}
use Rattle.cfdp_c.specs.declared.answer.CallAnswer.{CallAnswer}
use Rattle.cfdp_c.specs.declared.answer.CallAnswer.TheVariants.{Done, HasEngine, Memory, BadPath, TooManyPrefixes}
use Rattle.cfdp_c.specs.declared.fields.ConfigFields.{ConfigFields}
use Rattle.cfdp_c.specs.declared.fields.PathFields.{PathFields}

abbrev pub path_in_fields : PathFields → Option Path
path_in_fields fields = if nat_le fields.length 776 then path_of (take fields.length fields.octets) else None

abbrev pub with_path : List Path → Option Path → Result (List Path) CallAnswer
with_path protected None = Err BadPath
with_path protected (Some path) = if length protected == 8 then Err TooManyPrefixes else Ok (protected ++ path ∷ [])

abbrev pub protected_by : List PathFields → List Path → Result (List Path) CallAnswer
protected_by [] protected = Ok protected
protected_by (prefix ∷ prefixes) protected = with_path protected (path_in_fields prefix) >>= protected_by prefixes

abbrev pub numbers_in : ConfigFields → List Path → Config
numbers_in fields protected =
    record {
      entity = fields.entity;
      blocks = fields.blocks;
      cap = fields.cap;
      checks = fields.checks;
      journal = 16;
      prefixes = protected;
    }

abbrev pub config_from : ConfigFields → List Path → Option ConfigFault → Result Config CallAnswer
config_from fields protected None = Ok (numbers_in fields protected)
config_from fields protected (Some fault) = Err (config_answer fault)

abbrev pub with_protected : ConfigFields → Result (List Path) CallAnswer → Result Config CallAnswer
with_protected fields (Ok protected) = config_from fields protected
    (config_fault fields.blocks fields.cap fields.checks 16)
with_protected fields (Err answer) = Err answer

abbrev pub config_of_fields : ConfigFields → List PathFields → Result Config CallAnswer
config_of_fields fields prefixes = with_protected fields (protected_by prefixes [])

abbrev pub MakesEngine : Result Config CallAnswer → Option World → ℕ → Type 0
MakesEngine (Err fault) after answer = (after ≡ None) × (answer ≡ answer_code fault)
MakesEngine (Ok config) after answer = (after ≡ Some (start config)) × (answer ≡ answer_code Done)

abbrev pub OpensEngine : ConfigFields → List PathFields → Option World → Option World → ℕ → Type 0
OpensEngine fields prefixes (Some W) after answer = (after ≡ Some W) × (answer ≡ answer_code HasEngine)
OpensEngine fields prefixes None after answer = MakesEngine (config_of_fields fields prefixes) after answer
    ⊎ ((after ≡ None) × (answer ≡ answer_code Memory))
