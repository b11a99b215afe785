-- The octets of a path.
--     text-push, text_home      one name more;  a node's path by its directory
--     text_whole                a separator, and the names with separators between them
--     path_good                 a node's path is one
use Rattle.std.proofs.Common.{◌≡◌, ℕ, zero, suc, List, [], ◌∷◌, ◌++◌, length, length-append, Option, Some, None, refl, ap, ◌∙◌, arith}
use Rattle.std.proofs.lemmas.Grind.{flat_map-append}
use Rattle.std.proofs.lemmas.List.{append-nil, append_assoc}
use Rattle.std.proofs.lemmas.List.Elements.{All-append, All-cons, All-nil}
use Rattle.std.specs.List.{join_with_byte}
use Rattle.std.specs.Option.{option_map_or}
use Rattle.std.specs.Prelude.{All}
use Rattle.cfdp_arena.specs.Arena.{Blocks}
use Rattle.cfdp_paths.specs.Paths.{Name, Path, IsName, IsPath}
use Rattle.cfdp_tree.specs.code.Tree.{IsNode, name_at, home, climb, most_names, path_of_node, Ends, IsTree}
use Rattle.cfdp_tree.specs.code.Directories.{path_at}
use Rattle.cfdp_tree.specs.code.Text.{preceded, separated_text}
use Rattle.cfdp_tree.proofs.OfNodes.ClimbLaws.{path_by_home}
use Rattle.cfdp_tree.proofs.OfWalks.WalkLaws.{few_names}

pub text-push : (octet : ℕ) (p : Path) (name : Name) → separated_text octet (p ++ name ∷ []) ≡ separated_text octet p ++ octet ∷ name
text-push octet p name = flat_map-append (preceded octet) p (name ∷ []) ∙ ap (λ t. separated_text octet p ++ octet ∷ t) (append-nil name)

pub text_home : (octet : ℕ) (p q : Path) (name : Name) (rest : List ℕ) → q ≡ p ++ name ∷ [] → separated_text octet q ++ rest ≡ separated_text octet p
    ++ octet ∷ (name ++ rest)
text_home octet p q name rest e = ap (λ x. separated_text octet x ++ rest) e ∙ ap (λ t. t ++ rest) (text-push octet p name)
    ∙ append_assoc (separated_text octet p) (octet ∷ name) rest

text_joined : (octet : ℕ) (name : Name) (p : Path) → separated_text octet (name ∷ p) ≡ octet ∷ join_with_byte octet (name ∷ p)
text_joined octet name [] = ap (λ t. octet ∷ t) (append-nil name)
text_joined octet name (other ∷ p) = ap (λ t. octet ∷ name ++ t) (text_joined octet other p)

pub text_whole : (octet : ℕ) (p : Path) → IsPath p → separated_text octet p ≡ octet ∷ join_with_byte octet p
text_whole octet [] good = absurd (omega (arith, good.some))
text_whole octet (name ∷ p) good = text_joined octet name p

module _ (nodes : Blocks) (tree : IsTree nodes) where
  names_good : (n b : ℕ) → IsNode nodes b → Ends nodes n b → All IsName (climb nodes n b)
  names_good zero b node ends = absurd ends
  names_good (suc n) b node ends =
      All-append IsName (option_map_or (λ d. climb nodes n d) (home nodes b) []) (name_at nodes b ∷ [])
      (above (λ d there. names_good n d (tree.homes b d node there).node (ends d there)) (home nodes b) (λ d e. e))
      (All-cons IsName (name_at nodes b) [] (tree.named b node).name (All-nil IsName))
    where
      above : ((d : ℕ) → home nodes b ≡ Some d → All IsName (climb nodes n d)) → (x : Option ℕ) → ((d : ℕ) → x ≡ Some d → home nodes b ≡ Some d) →
          All IsName (option_map_or (λ d. climb nodes n d) x [])
      above each None is = All-nil IsName
      above each (Some d) is = each d (is d refl)

  pub path_good : (b : ℕ) → IsNode nodes b → IsPath (path_of_node nodes b)
  path_good b node = record {
    some = omega (arith, ap length (path_by_home nodes tree b node), length-append (path_at nodes (home nodes b)) (name_at nodes b ∷ []));
    few = few_names nodes b;
    names = names_good most_names b node (tree.ends b node);
  }
