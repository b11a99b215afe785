-- How a store is distinguished from another, as the value of a type: no more than its parts.
--     node_code, store_code
use Rattle.std.specs.Prelude.{◌≡◌, ℕ, Bool, List, Option, Some, None, refl}
use Rattle.std.specs.Coded.{Coded, code_by, coded×, coded_list, coded_option, coded_ℕ, coded_bool}
use Rattle.std.specs.FinMap as finite
use Rattle.cfdp_paths.specs.Paths.{path_cmp}
use Rattle.cfdp_actions.specs.Filestore.{Node, Directory, File}
use Rattle.cfdp_actions.specs.Store.{Store}

abbrev pub octets_of_node : Node → Option (List ℕ)
octets_of_node Directory = None
octets_of_node (File octets) = Some octets

abbrev pub node_of_octets : Option (List ℕ) → Node
node_of_octets None = Directory
node_of_octets (Some octets) = File octets

abbrev pub same_node : (node : Node) → node_of_octets (octets_of_node node) ≡ node
same_node Directory = refl
same_node (File octets) = refl

abbrev pub node_code : Coded Node
node_code = code_by (Option (List ℕ)) (coded_option (coded_list coded_ℕ)) octets_of_node node_of_octets same_node

abbrev pub StoreParts : Type 0
StoreParts = (finite.FinMap path_cmp Node × List (List ℕ)) × (ℕ × Bool)

abbrev pub store_code : Coded Store
store_code =
    code_by StoreParts (coded× (coded× (finite.code (coded_list (coded_list coded_ℕ)) node_code)
    (coded_list (coded_list coded_ℕ))) (coded× coded_ℕ coded_bool))
    (λ s. ((s.filestore.nodes, s.filestore.staged), (s.capacity, s.takes_no_memory)))
    (λ p. record { filestore = record { nodes = p.0.0; staged = p.0.1 }; capacity = p.1.0; takes_no_memory = p.1.1 })
    (λ _. refl)
