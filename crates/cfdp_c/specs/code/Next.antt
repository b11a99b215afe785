-- What only the proofs of the code need of `Next`.
--   kind_number               the number of a kind
use Rattle.std.specs.Prelude.{ℕ}
use Rattle.cfdp_actions.specs.declared.kind.Kind.{Kind}
use Rattle.cfdp_actions.specs.declared.kind.Kind.TheVariants as kind
use Rattle.cfdp_c.specs.Numbers.{entry_file, entry_directory}

abbrev pub kind_number : Kind → ℕ
kind_number kind.File = entry_file
kind_number kind.Directory = entry_directory
