-- What only the proofs of the code need of `CoreFields`.
--     nodes_code                how the nodes of a filestore are distinguished
--     IsWholeCore s b           a sound world, and books that say what it says: what is true of the core at all times
use Rattle.std.specs.Coded.{Coded, coded_list, coded_ℕ}
use Rattle.std.specs.FinMap as finite
use Rattle.cfdp_paths.specs.Paths.{path_cmp}
use Rattle.cfdp_actions.specs.Filestore.{Node}
use Rattle.cfdp_actions.specs.code.Codes.{node_code}
use Rattle.cfdp_actions.specs.Store.{Store}
use Rattle.cfdp_transactions.specs.Sound.{Sound}
use Rattle.cfdp_transactions.specs.code.Books.{IsBooked, world_of}
use Rattle.cfdp_transactions.specs.declared.books.Books.{Books}
use Rattle.cfdp_transactions.specs.CoreFields.{CoreFields}

abbrev pub nodes_code : Coded (finite.FinMap path_cmp Node)
nodes_code = finite.code (coded_list (coded_list coded_ℕ)) node_code

abbrev pub core_of : Store → Books → CoreFields
core_of s b = record { world = world_of s b; takes_no_memory = s.takes_no_memory }

pub record IsWholeCore (s : Store) (b : Books) : Type 0 where
  pub sound : Sound (world_of s b)
  pub booked : IsBooked s b
