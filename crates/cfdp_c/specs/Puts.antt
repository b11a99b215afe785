-- What C puts into an engine's filestore.
--   node_in kind octets       what a kind asks for: a file with the octets, or a directory;  no other kind is one
--   Puts path what            it is put there;  or why not, with all as before: a path that is none, a kind that is
--                             none, a reason of the entity's, or out of memory;  PutsPath, PutsNode, PutsBy: by the
--                             first of these that is known
use Rattle.std.specs.Prelude.{◌≡◌, ◌⊎◌, ℕ, ◌==◌, if◌then◌else◌, List, Option, Some, None}
use Rattle.cfdp_paths.specs.Paths.{Path}
use Rattle.cfdp_actions.specs.Filestore.{Node, Directory, File}
use Rattle.cfdp_transactions.specs.Beginning.{with_node, put_fault}
use Rattle.cfdp_transactions.specs.declared.putting.NotPut.{NotPut}
use Rattle.cfdp_transactions.specs.World.{World}
use Rattle.cfdp_c.specs.Answers.{answer_code, put_answer}
use Rattle.cfdp_c.specs.Creation.{path_in_fields}
use Rattle.cfdp_c.specs.Numbers.{entry_file, entry_directory}
use Rattle.cfdp_c.specs.declared.answer.CallAnswer.TheVariants as answer
use Rattle.cfdp_c.specs.declared.fields.PathFields.{PathFields}

abbrev pub node_in : ℕ → List ℕ → Option Node
node_in kind octets =
    if kind == entry_file then Some (File octets) else if kind == entry_directory then Some Directory else None

abbrev pub PutsBy : Option NotPut → World → Path → Node → World → ℕ → Type 0
PutsBy None W p node after code = (after ≡ with_node W p node) × (code ≡ answer_code answer.Done)
PutsBy (Some reason) W p node after code = (after ≡ W) × (code ≡ answer_code (put_answer reason))

abbrev pub PutsNode : Option Node → World → Path → World → ℕ → Type 0
PutsNode None W p after code = (after ≡ W) × (code ≡ answer_code answer.Nothing)
PutsNode (Some node) W p after code = PutsBy (put_fault W p node) W p node after code

abbrev pub PutsPath : Option Path → Option Node → World → World → ℕ → Type 0
PutsPath None what W after code = (after ≡ W) × (code ≡ answer_code answer.BadPath)
PutsPath (Some p) what W after code = PutsNode what W p after code

abbrev pub PutsIn : PathFields → Option Node → World → Option World → ℕ → Type 0
PutsIn path what W None code = ⊥
PutsIn path what W (Some after) code = PutsPath (path_in_fields path) what W after code
    ⊎ ((after ≡ W) × (code ≡ answer_code answer.Memory))

abbrev pub Puts : PathFields → Option Node → Option World → Option World → ℕ → Type 0
Puts path what None after code = (after ≡ None) × (code ≡ answer_code answer.NoEngine)
Puts path what (Some W) after code = PutsIn path what W after code
