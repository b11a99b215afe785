-- The items of a transaction, and what one of them may do at most: the install of the delivered file (CCSDS 727.0-B-5,
-- copy file procedures) and the filestore requests after it (filestore procedures).
--     items_of destination requests      the install, where there is a destination, and then the requests in order
--     performed prefixes F slot item     the filestore after the item's row
--     content                            the blocks of the octets of what is at a path
--     bound_by content_at weight_at item how many ticks the item may take, by the blocks at a path;
--                                        step_bound F item: in a filestore
use Rattle.std.specs.Prelude.{ℕ, ◌+◌, ◌*◌, min, if◌then◌else◌, List, ◌++◌, [], ◌∷◌, Option, Some, None, length, map}
use Rattle.cfdp_paths.specs.Paths.{Path, same_path}
use Rattle.cfdp_actions.specs.Filestore.{Node, Directory, File, Filestore, node_at, blocks_of, weight, after}
use Rattle.cfdp_actions.specs.Actions.{Item, Install, Perform, Request, CreateFile, DeleteFile, RenameFile, AppendFile, ReplaceFile, CreateDirectory, RemoveDirectory, DenyFile, DenyDirectory, row}

abbrev pub install_of : Option Path → List Item
install_of None = []
install_of (Some p) = Install p ∷ []

abbrev pub items_of : Option Path → List Request → List Item
items_of destination requests = install_of destination ++ map Perform requests

abbrev pub performed : List Path → Filestore → ℕ → Item → Filestore
performed prefixes F slot item = after F (row prefixes F slot item).changes

abbrev pub content : Option Node → ℕ
content None = 0
content (Some Directory) = 0
content (Some (File octets)) = blocks_of (length octets)

-- how many ticks an item may take, by the blocks of the octets of what is at a path, and by all its blocks
abbrev pub bound_by : (Path → ℕ) → (Path → ℕ) → Item → ℕ
bound_by content_at weight_at (Install p) = 1 + content_at p
bound_by content_at weight_at (Perform (CreateFile p)) = 1
bound_by content_at weight_at (Perform (DeleteFile p)) = 1 + content_at p
bound_by content_at weight_at (Perform (RenameFile p q)) = 0
bound_by content_at weight_at (Perform (AppendFile p q)) = 2 * content_at q
bound_by content_at weight_at (Perform (ReplaceFile p q)) = if same_path p q then 0 else content_at p + 2 * content_at q
bound_by content_at weight_at (Perform (CreateDirectory p)) = 1
bound_by content_at weight_at (Perform (RemoveDirectory p)) = 1
bound_by content_at weight_at (Perform (DenyFile p)) = weight_at p
bound_by content_at weight_at (Perform (DenyDirectory p)) = min 1 (weight_at p)

unfoldable pub step_bound : Filestore → Item → ℕ
step_bound F = bound_by (λ p. content (node_at F p)) (λ p. weight (node_at F p))
