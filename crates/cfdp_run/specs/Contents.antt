-- What a script asks for a path of the filestore, and what `cfdp run` writes then.
--     octets_text octets     the octets of a file in hexadecimal, after a space; nothing where there are none
--     node_line p node       what exists at a path: a file with its size and its octets, a directory, or nothing
--     get_line F p           the line that a question for a path writes
use Rattle.std.specs.Prelude.{ℕ, List, [], ◌∷◌, ◌++◌, length, Option, Some, None, codes}
use Rattle.hex.specs.Hex.{encode_lower}
use Rattle.cfdp_paths.specs.Paths.{Path}
use Rattle.cfdp_actions.specs.Filestore.{Node, Directory, File, Filestore, node_at}
use Rattle.cfdp_texts.specs.Replies.{line, word, labelled, shown_path}

abbrev pub octets_text : List ℕ → List ℕ
octets_text [] = []
octets_text (octet ∷ octets) = word (encode_lower (octet ∷ octets))

abbrev pub node_line : Path → Option Node → List ℕ
node_line p None = line (codes "absent " ++ shown_path p)
node_line p (Some Directory) = line (codes "dir " ++ shown_path p)
node_line p (Some (File octets)) = line (codes "content " ++ shown_path p ++ labelled (codes " ") (length octets)
    ++ octets_text octets)

abbrev pub get_line : Filestore → Path → List ℕ
get_line F p = node_line p (node_at F p)
