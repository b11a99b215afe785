-- A file or a directory is made.
--     entry_none, name_good, target_few     under the name of a path at which nothing is there is no node
--     tree_made, index_made     a node for it
--     make_view, make_store                 the store once it is in the index
use Rattle.std.proofs.Common.{◌≡◌, ℕ, ◌+◌, ◌<◌, ◌≤◌, true, List, [], ◌∷◌, ◌++◌, length, take, get_or, Option, Some, None, refl, sym, ap, ◌∙◌, subst, inl, inr, arith}
use Rattle.std.proofs.lemmas.List.{get_or-set_same, get_or-set_other, length-map, length-take-le, take_more, take_all}
use Rattle.std.proofs.lemmas.Bool.{cases_eq}
use Rattle.std.proofs.Math.ListN.{get_or-map}
use Rattle.std.specs.FinMap as finite
use Rattle.std.specs.Prelude.{IfSome, IfNone, unwrap_or}
use Rattle.std.proofs.lemmas.Option.{none-some}
use Rattle.cfdp_paths.specs.Paths.{Name, Path, IsName, IsPath}
use Rattle.cfdp_arena.specs.Arena.{Blocks, octets_at, octets_of, with_block, free_count}
use Rattle.cfdp_actions.specs.declared.kind.Kind.{Kind}
use Rattle.cfdp_actions.specs.declared.kind.Kind.TheVariants as kind
use Rattle.cfdp_actions.specs.Filestore.{Filestore, Becomes, node_at, weight, blocks, parent_is_good}
use Rattle.cfdp_actions.specs.Filestore as files
use Rattle.cfdp_actions.specs.Store.{Store, with_changes}
use Rattle.cfdp_actions.proofs.ChangeLaws.{blocks-becomes}
use Rattle.cfdp_actions.proofs.Growth.{blocks_of-zero}
use Rattle.cfdp_tree.specs.declared.contents.Contents.{Contents}
use Rattle.cfdp_ways.specs.declared.way.Way.{Way}
use Rattle.cfdp_tree.specs.declared.slots.Slot.{Slot}
use Rattle.cfdp_tree.specs.code.NodeFields.{NodeFields, node_fields_of, node_name, kind_of_octet, plain_fields}
use Rattle.cfdp_tree.specs.code.Runs.{Stays, RunsStay}
use Rattle.cfdp_tree.specs.code.Nodes.{only_node, nodes_in}
use Rattle.cfdp_tree.specs.code.Tree.{IsNode, IsDirectory, name_at, home_in, home, path_of_node, IsEntry, IsNamed, IsTree, Relinked}
use Rattle.cfdp_tree.specs.code.Directories.{path_at, IsAtPath}
use Rattle.cfdp_tree.specs.code.Index.{Heads, IsIndex}
use Rattle.cfdp_tree.specs.code.Kept.{no_contents, contents_of_fields, file_of, file_in, node_with, node_of, Shows, store_of}
use Rattle.cfdp_tree.specs.code.Slots.{lists_staged, IsStore}
use Rattle.cfdp_tree.specs.code.Changes.{empty_node}
use Rattle.cfdp_tree.proofs.OfRuns.ContentsLaws.{stays_contents}
use Rattle.cfdp_tree.proofs.OfStore.SlotLaws.{node_held}
use Rattle.cfdp_tree.proofs.OfStore.SeenLaws.{shows, seen_blocks}
use Rattle.cfdp_tree.proofs.OfNodes.EntryLaws.{same_tree}
use Rattle.cfdp_tree.proofs.OfNodes.ClimbLaws.{path_entry}
use Rattle.cfdp_tree.proofs.OfNodes.ParentLaws.{parent_directory, parent_exists}
use Rattle.cfdp_tree.proofs.OfNodes.AddLaws.{added_tree, added_path, added_shows}
use Rattle.cfdp_tree.proofs.OfIndex.OutLaws.{index_created}
use Rattle.cfdp_tree.proofs.OfStore.AlikeLaws.{Alike, alike_relinked, alike_shows}
use Rattle.cfdp_tree.proofs.OfStore.ChangedLaws.{IsLeft, list_held, file_held, nodes_seen, nodes_store}

plain_file : (parent : ℕ) (k : Kind) (name : Name) → contents_of_fields (kind_of_octet (plain_fields parent k name).kind) (plain_fields parent k name)
    ≡ no_contents
plain_file parent kind.Directory name = refl
plain_file parent kind.File name = ap (λ n. record { run = record { first = 0; last = 0; count = n }; size = 0; sum = 0 }) blocks_of-zero

plain_node : (arena : Blocks) (parent : ℕ) (k : Kind) (name : Name)
    → node_with arena (kind_of_octet (plain_fields parent k name).kind) no_contents ≡ empty_node k
plain_node arena parent kind.Directory name = refl
plain_node arena parent kind.File name = refl

empty_weight : (k : Kind) → weight (Some (empty_node k)) ≡ 1
empty_weight kind.Directory = refl
empty_weight kind.File = ap (λ n. 1 + n) blocks_of-zero

module _ (arena : Blocks) (heads : Heads) (slots : List Slot) {ways : List Way} (store : IsStore arena ways heads slots) (now : Store)
    (view : store_of arena (lists_staged slots) ≡ now)
    (path : Path) (is_path : IsPath path) (depth : ℕ) (long : length path ≡ depth + 1) (parent_good : parent_is_good now.filestore path ≡ true)
    (directory : Option ℕ) (directory_node : IfSome directory (λ b. IsNode (nodes_in arena) b))
    (directory_path : IfSome directory (λ b. path_of_node (nodes_in arena) b ≡ take depth path))
    (directory_none : IfNone directory ((b : ℕ) → IsNode (nodes_in arena) b → path_of_node (nodes_in arena) b ≡ take depth path → ⊥)) (name : Name)
    (name_is : name
    ≡ get_or path depth []) where
  abbrev nodes : Blocks
  nodes = nodes_in arena

  is_directory : (d : ℕ) → directory ≡ Some d → IsDirectory nodes d
  is_directory = parent_directory arena nodes store.kept.tree now.filestore (shows arena heads slots store now view) path depth long parent_good directory (
    directory_node,
    directory_path,
    directory_none,
  )

  exists : IsAtPath nodes directory (take depth path)
  exists = parent_exists arena nodes store.kept.tree now.filestore (shows arena heads slots store now view) path depth long parent_good directory (
    directory_node,
    directory_path,
    directory_none,
  )

  pub path_is : take depth path ++ name ∷ [] ≡ path
  path_is = ap (λ n. take depth path ++ n ∷ []) name_is ∙ sym (take_more path depth [] (omega (arith, long))) ∙ take_all (depth + 1) path (omega (arith, long))

  pub name_good : IsName name
  name_good = subst IsName (sym name_is) (is_path.names depth [] (omega (arith, long)))

  pub target_few : length (path_at nodes directory) ≤ 7
  target_few = omega (arith, ap length exists.path, length-take-le depth path (omega (arith, long)), long, is_path.few)

  pub entry_none : node_at now.filestore path ≡ None → (c : ℕ) → IsEntry nodes directory name c → ⊥
  entry_none absent c entry =
      let way = path_entry nodes store.kept.tree directory (take depth path) name c exists entry ∙ path_is in
      none-some _ (sym absent ∙ ap (node_at now.filestore) (sym way) ∙ (shows arena heads slots store now view).each c entry.node)

  module _ (absent : node_at now.filestore path ≡ None) (one : Blocks) (b : ℕ) (k : Kind) (free : octets_at arena b ≡ None) (within : b < length arena)
      (one_is : nodes_in one ≡ with_block nodes b (octets_of (nodes_in one) b)) (fields : node_fields_of (octets_of (nodes_in one) b)
      ≡ plain_fields (unwrap_or directory b) k name)
      (there : home (nodes_in one) b ≡ directory) (named : name_at (nodes_in one) b ≡ name) (whole : length (octets_of (nodes_in one) b) ≡ 128) where
    abbrev block : List ℕ
    block = octets_of (nodes_in one) b

    abbrev made : Blocks
    made = with_block nodes b block

    free_node : octets_at nodes b ≡ None
    free_node = get_or-map only_node arena b None ∙ ap only_node free

    inside : b < length nodes
    inside = omega (arith, within, length-map arena only_node)

    block_named : IsNamed block
    block_named = record {
      whole = whole;
      fits = omega (arith, ap (λ (r : NodeFields). r.name_length) fields, name_good.short);
      name = subst IsName (sym named) name_good;
    }

    good : (d : ℕ) → home_in b block ≡ Some d → IsDirectory nodes d
    good d e = is_directory d (sym there ∙ e)

    few : length (path_at nodes (home_in b block)) ≤ 7
    few = subst (λ x. length (path_at nodes x) ≤ 7) (sym there) target_few

    fresh : (c : ℕ) → IsEntry nodes (home_in b block) (node_name block) c → ⊥
    fresh c entry = entry_none absent c (record { node = entry.node; there = entry.there ∙ there; named = entry.named ∙ named })

    tree_new : IsTree made
    tree_new = added_tree nodes b block inside free_node store.kept.tree block_named good few fresh

    pub tree_made : IsTree (nodes_in one)
    tree_made = subst IsTree (sym one_is) tree_new

    pub index_made : IsIndex (nodes_in one) heads (Some b)
    index_made = subst (λ ns. IsIndex ns heads (Some b)) (sym one_is) (index_created nodes heads b block inside free_node store.kept.index)

    here : octets_at made b ≡ Some block
    here = get_or-set_same nodes b (Some block) None inside

    module _ (later : Blocks) (links : Relinked (nodes_in one) (nodes_in later)) (heads_now : Heads) (index : IsIndex (nodes_in later) heads_now None)
        (runs : RunsStay arena later) (long_now : length later ≡ length arena) (taken : free_count later + 1 ≡ free_count arena) where
      same : Alike (nodes_in one) (nodes_in later)
      same = alike_relinked (nodes_in one) (nodes_in later) links

      tree : IsTree (nodes_in later)
      tree = same_tree (nodes_in one) (nodes_in later) same.entries tree_made

      abbrev staged : List Contents
      staged = lists_staged slots

      alike : Alike made (nodes_in later)
      alike = subst (λ ns. Alike ns (nodes_in later)) one_is same

      file_new : file_of block ≡ no_contents
      file_new = ap (λ (r : NodeFields). contents_of_fields (kind_of_octet r.kind) r) fields ∙ plain_file (unwrap_or directory b) k name

      node_new : node_of later block ≡ empty_node k
      node_new = (λ i. node_with later (kind_of_octet (fields i).kind) (file_new i)) ∙ plain_node later (unwrap_or directory b) k name

      files_left : (c : ℕ) → IsLeft arena later (file_in (octets_at nodes c)) (file_in (octets_at (nodes_in later) c))
      files_left c = elim (cases_eq c b) [
        | inl e ↦ inl (alike.files c ∙ ap (λ x. file_in (octets_at made x)) e ∙ ap file_in here ∙ file_new)
        | inr other ↦ inr (
          alike.files c ∙ ap file_in (get_or-set_other nodes b c (Some block) None other),
          runs (file_in (octets_at nodes c)).run (file_held arena heads slots store c),
        )
      ]

      node_kept : (c : ℕ) → IsNode nodes c → node_of later (octets_of nodes c) ≡ node_of arena (octets_of nodes c)
      node_kept c node =
          node_held arena later nodes c node
          (stays_contents arena later (file_in (octets_at nodes c)) (runs (file_in (octets_at nodes c)).run (file_held arena heads slots store c)))

      path_new : path_of_node made b ≡ path
      path_new =
          added_path nodes b block inside free_node store.kept.tree block_named good few fresh
          ∙ (λ i. path_at nodes (there i) ++ named i ∷ []) ∙ ap (λ p. p ++ name ∷ []) exists.path ∙ path_is

      shows_now : Shows later (nodes_in later) (finite.insert now.filestore.nodes path (empty_node k))
      shows_now =
          alike_shows made (nodes_in later) alike later (finite.insert now.filestore.nodes path (empty_node k))
          (subst (λ p. Shows later made (finite.insert now.filestore.nodes p (empty_node k))) path_new
          (subst (λ n. Shows later made (finite.insert now.filestore.nodes (path_of_node made b) n)) node_new
          (added_shows nodes b block inside free_node store.kept.tree block_named good few fresh arena later now.filestore.nodes
          (shows arena heads slots store now view) node_kept)))

      lists_stay : (j : ℕ) → Stays arena later (get_or staged j no_contents).run
      lists_stay j = runs (get_or staged j no_contents).run (list_held arena heads slots store j)

      pub make_view : store_of later staged ≡ with_changes now (Becomes path (Some (empty_node k)) ∷ [])
      make_view =
          nodes_seen arena later heads heads_now slots store long_now lists_stay files_left
          (finite.insert now.filestore.nodes path (empty_node k)) shows_now tree index
          ∙ (λ i. record (view i) { filestore = record { nodes = finite.insert now.filestore.nodes path (empty_node k); staged = (view i).filestore.staged } })

      seen_is : record { nodes = finite.insert now.filestore.nodes path (empty_node k); staged = (store_of arena staged).filestore.staged }
          ≡ files.changed now.filestore (Becomes path (Some (empty_node k)))
      seen_is = (λ i. record { nodes = finite.insert now.filestore.nodes path (empty_node k); staged = (view i).filestore.staged })

      pub make_store : IsStore later ways heads_now slots
      make_store =
          nodes_store arena later heads heads_now slots store long_now lists_stay files_left
          (finite.insert now.filestore.nodes path (empty_node k)) shows_now tree index
          (omega (
            arith,
            ap blocks seen_is,
            blocks-becomes now.filestore path (Some (empty_node k)),
            ap weight absent,
            empty_weight k,
            taken,
            long_now,
            seen_blocks arena heads slots store now view,
          ))
