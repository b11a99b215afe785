-- What only the proofs of the code need of `Listed`.
--     Entries                   paths with what is there
--     content_node              what an entry has
--     shown_entries es          the entries as paths with nodes
--     entry_found es p          what is at a path
--     blocks_in es staged       the blocks of all together
--     nodes_of, listed_store    the entries as a finite map, and with the staged lists as a store
--     IsListed                  what is true of every such store, with the number of its blocks in use
use Rattle.std.specs.Prelude.{◌≡◌, ℕ, ◌+◌, ◌≤◌, false, IsTrue, List, Option, length, map, sum_by, Vec}
use Rattle.std.specs.declared.alloc.Global.{Global}
use Rattle.std.specs.FinMap as finite
use Rattle.cfdp_paths.specs.Paths.{Path, path_cmp}
use Rattle.cfdp_actions.specs.Filestore.{Node, Directory, File, blocks_of, weights}
use Rattle.cfdp_actions.specs.Store.{Store}
use Rattle.cfdp_actions.specs.declared.content.Content.{Content}
use Rattle.cfdp_actions.specs.declared.content.Content.TheVariants as content
use Rattle.cfdp_actions.specs.Listed.{vector_octets}

abbrev pub Entries : Type 0
Entries = List (Path × Content)

abbrev pub content_node : Content → Node
content_node content.Directory = Directory
content_node (content.File octets) = File octets.items

abbrev pub shown_entries : Entries → List (Path × Node)
shown_entries es = map (λ e. (e.0, content_node e.1)) es

abbrev pub entry_found : Entries → Path → Option Node
entry_found es p = finite.find path_cmp p (shown_entries es)

abbrev pub blocks_in : Entries → List (Vec ℕ Global) → ℕ
blocks_in es staged = weights (shown_entries es) + sum_by (λ octets. blocks_of (length octets)) (vector_octets staged)

abbrev pub nodes_of : Entries → finite.FinMap path_cmp Node
nodes_of es = finite.from_sorted (shown_entries es)

abbrev pub listed_store : Entries → List (Vec ℕ Global) → ℕ → Store
listed_store es staged capacity = record {
  filestore = record { nodes = nodes_of es; staged = vector_octets staged };
  capacity = capacity;
  takes_no_memory = false;
}

pub record IsListed (es : Entries) (staged : List (Vec ℕ Global)) (used capacity : ℕ) : Type 0 where
  pub sorted : IsTrue (finite.is_sorted path_cmp (shown_entries es))
  pub slots : length staged ≡ 64
  pub counted : used ≡ blocks_in es staged
  pub fits : used ≤ capacity
  pub small : capacity ≤ 65536
