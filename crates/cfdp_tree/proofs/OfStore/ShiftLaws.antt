-- What is at a path is moved to another one, with all that is below it.
--     shallow_each                      each path of a tree that is not too deep has at most 8 names
--     directory_nodes, directory_other  the new directory is a node, and another one
--     tree_three, index_three, entry_three     the node is put into it while it is in no list
--     shift_view, shift_store           the store once it is in the lists of its new directory
use Rattle.std.proofs.Common.{◌≡◌, ◌≢◌, ℕ, ◌+◌, ◌≤◌, nat_lt, Bool, true, false, cond, List, [], ◌∷◌, ◌++◌, length, take, get_or, Option, Some, None, is_some, refl, sym, ap, ◌∙◌, subst, inr, arith}
use Rattle.std.proofs.lemmas.Bool.Decides.{nat_tests}
use Rattle.std.specs.FinMap.Entries.{find}
use Rattle.std.specs.Prelude.{IsSome, IfSome, IfNone, unwrap_or}
use Rattle.cfdp_paths.specs.Paths.{Name, Path, IsName, IsPath, path_cmp, same_path, is_at_or_below, rebased}
use Rattle.cfdp_paths.proofs.Below.{at_or_below_from_append}
use Rattle.cfdp_paths.proofs.Comparing.{same_path-Decides}
use Rattle.cfdp_paths.specs.PathMaps.{is_too_deep}
use Rattle.cfdp_arena.specs.Arena.{Blocks, octets_at, octets_of, with_block, free_count}
use Rattle.cfdp_actions.specs.declared.kind.Kind.{Kind}
use Rattle.cfdp_actions.specs.declared.kind.Kind.TheVariants as kind
use Rattle.cfdp_actions.specs.Filestore.{Node, Filestore, node_at, blocks, tree_at, parent_is_good, IsRooted}
use Rattle.cfdp_actions.specs.Actions.{vacating, arriving}
use Rattle.cfdp_actions.specs.Store.{Store, with_changes}
use Rattle.cfdp_actions.proofs.Prefixes.{rebased-below, rebased_back}
use Rattle.cfdp_actions.proofs.Moves.{find-tree_at, moved, nothing_there, moved_there, moved_apart, blocks-moved, staged-moved}
use Rattle.cfdp_tree.specs.declared.contents.Contents.{Contents}
use Rattle.cfdp_ways.specs.declared.way.Way.{Way}
use Rattle.cfdp_tree.specs.declared.slots.Slot.{Slot}
use Rattle.cfdp_tree.specs.code.NodeFields.{NodeFields, node_fields_of, node_name, kind_of_octet}
use Rattle.cfdp_tree.specs.code.Runs.{Stays, RunsStay}
use Rattle.cfdp_tree.specs.code.Nodes.{nodes_in}
use Rattle.cfdp_tree.specs.code.Tree.{IsNode, IsDirectory, node_fields_at, name_at, home_in, home, path_of_node, IsEntry, IsNamed, IsTree}
use Rattle.cfdp_tree.specs.code.Directories.{path_at, IsAtPath}
use Rattle.cfdp_tree.specs.code.Index.{Heads, IsIndex}
use Rattle.cfdp_tree.specs.code.Kept.{no_contents, contents_of_fields, file_in, node_with, node_of, Shows, store_of}
use Rattle.cfdp_tree.specs.code.Slots.{lists_staged, IsStore}
use Rattle.cfdp_tree.proofs.OfRuns.ContentsLaws.{stays_contents}
use Rattle.cfdp_tree.proofs.OfStore.SlotLaws.{node_same}
use Rattle.cfdp_tree.proofs.OfStore.SeenLaws.{shows, seen_blocks}
use Rattle.cfdp_tree.proofs.OfNodes.EntryLaws.{at_b, kept_by, same_paths, same_tree}
use Rattle.cfdp_tree.proofs.OfNodes.ParentLaws.{parent_directory, parent_exists}
use Rattle.cfdp_tree.proofs.OfNodes.RootedLaws.{tree_rooted}
use Rattle.cfdp_tree.proofs.OfStore.MakeLaws.{path_is, name_good, entry_none}
use Rattle.cfdp_tree.proofs.OfNodes.MoveLaws.{moved_tree, moved_path, stayed_path}
use Rattle.cfdp_tree.proofs.OfIndex.OutLaws.{index_moved}
use Rattle.cfdp_tree.proofs.OfStore.AlikeLaws.{Alike, alike_node, alike_directory, node_by_contents, alike_shows, held_is}
use Rattle.cfdp_tree.proofs.OfStore.ChangedLaws.{IsLeft, list_held, file_held, nodes_seen, nodes_store}
use Rattle.std.proofs.lemmas.Bool.{both_ways, false≢true, or_parts}
use Rattle.std.proofs.lemmas.Option.{none-some}

-- the depth

few_names : (n : ℕ) → nat_lt 8 n ≡ false → n ≤ 8
few_names n few = grind (arith, nat_tests, few)

pub shallow_each : (p q : Path) (es : List (Path × Node)) (x : Path) → is_some (find path_cmp x es) ≡ true → is_too_deep p q es ≡ false →
    length (rebased p q x) ≤ 8
shallow_each p q [] x found shallow = absurd (false≢true found)
shallow_each p q (e ∷ es) x found shallow = by_same (same_path x e.0) refl (shallow_each p q es x)
  where
    parts : (nat_lt 8 (length (rebased p q e.0)) ≡ false) × (is_too_deep p q es ≡ false)
    parts = or_parts (nat_lt 8 (length (rebased p q e.0))) (is_too_deep p q es) shallow

    by_same : (same : Bool) → same_path x e.0 ≡ same → (is_some (find path_cmp x es) ≡ true → is_too_deep p q es ≡ false → length (rebased p q x) ≤ 8) →
        length (rebased p q x) ≤ 8
    by_same true is rest = subst (λ y. length (rebased p q y) ≤ 8) (sym ((same_path-Decides x e.0).0 is)) (few_names (length (rebased p q e.0)) parts.0)
    by_same false is rest = rest (sym (ap (λ b. is_some (cond b (Some e.1) (find path_cmp x es))) is) ∙ found) parts.1

-- the staged lists stay

contents_moved : (k : Kind) (fields : NodeFields) (parent n : ℕ)
    → contents_of_fields k (record fields { parent = parent; name_length = n }) ≡ contents_of_fields k fields
contents_moved kind.File fields parent n = refl
contents_moved kind.Directory fields parent n = refl

module _ (arena : Blocks) (heads : Heads) (slots : List Slot) {ways : List Way} (store : IsStore arena ways heads slots) (now : Store)
    (view : store_of arena (lists_staged slots) ≡ now)
    (p : Path) (b : ℕ) (node : IsNode (nodes_in arena) b) (way : path_of_node (nodes_in arena) b ≡ p)
    (q : Path) (is_path : IsPath q) (depth : ℕ) (long : length q ≡ depth + 1) (parent_good : parent_is_good now.filestore q ≡ true)
    (directory : Option ℕ) (directory_node : IfSome directory (λ x. IsNode (nodes_in arena) x))
    (directory_path : IfSome directory (λ x. path_of_node (nodes_in arena) x ≡ take depth q))
    (directory_none : IfNone directory ((x : ℕ) → IsNode (nodes_in arena) x → path_of_node (nodes_in arena) x ≡ take depth q → ⊥)) (name : Name) (name_is : name
    ≡ get_or q depth [])
    (apart : is_at_or_below q p ≡ false) where
  abbrev nodes : Blocks
  nodes = nodes_in arena

  seen : Shows arena nodes now.filestore.nodes
  seen = shows arena heads slots store now view

  is_directory : (d : ℕ) → directory ≡ Some d → IsDirectory nodes d
  is_directory = parent_directory arena nodes store.kept.tree now.filestore seen q depth long parent_good directory
      (directory_node, directory_path, directory_none)

  exists : IsAtPath nodes directory (take depth q)
  exists = parent_exists arena nodes store.kept.tree now.filestore seen q depth long parent_good directory (directory_node, directory_path, directory_none)

  whole : take depth q ++ name ∷ [] ≡ q
  whole = path_is arena heads slots store now view q is_path depth long parent_good directory directory_node directory_path directory_none name name_is

  named : IsName name
  named = name_good arena heads slots store now view q is_path depth long parent_good directory directory_node directory_path directory_none name name_is

  -- the node does not go into itself
  pub directory_other : directory ≢ Some b
  directory_other e =
      let above : take depth q ≡ p = sym exists.path ∙ ap (path_at nodes) e ∙ way in
      both_ways _ apart (at_or_below_from_append q p (name ∷ []) (sym whole ∙ ap (λ x. x ++ name ∷ []) above))

  -- it is out of its lists
  module _ (two : Blocks) (same : Alike nodes (nodes_in two)) where
    abbrev before : Blocks
    before = nodes_in two

    pub tree_two : IsTree before
    tree_two = same_tree nodes before same.entries store.kept.tree

    pub node_two : IsNode before b
    node_two = same.entries.nodes b ∙ node

    pub directory_two : (d : ℕ) → directory ≡ Some d → IsDirectory before d
    directory_two d e = alike_directory nodes before same d (is_directory d e)

    -- the directory is a node
    pub directory_nodes : IfSome directory (λ d. IsNode before d)
    directory_nodes = of_directory directory (λ d e. (directory_two d e).node)
      where
        of_directory : (x : Option ℕ) → ((d : ℕ) → x ≡ Some d → IsNode before d) → IfSome x (λ d. IsNode before d)
        of_directory None each = tt
        of_directory (Some d) each = each d refl

    -- and is put elsewhere
    module _ (three : Blocks) (parent : ℕ) (three_is : nodes_in three ≡ with_block before b (octets_of (nodes_in three) b))
        (fields : node_fields_at (nodes_in three) b ≡ record (node_fields_at before b) { parent = parent; name_length = length name })
        (there : home (nodes_in three) b ≡ directory)
        (name_there : name_at (nodes_in three) b ≡ name) (block_whole : length (octets_of (nodes_in three) b) ≡ 128) (absent : node_at now.filestore q ≡ None)
        (shallow : is_too_deep p q (tree_at now.filestore p) ≡ false) where
      abbrev block : List ℕ
      block = octets_of (nodes_in three) b

      abbrev put : Blocks
      put = with_block before b block

      block_named : IsNamed block
      block_named = record {
        whole = block_whole;
        fits = omega (arith, ap (λ (r : NodeFields). r.name_length) fields, named.short);
        name = subst IsName (sym name_there) named;
      }

      good : (d : ℕ) → home_in b block ≡ Some d → IsDirectory before d
      good d e = directory_two d (sym there ∙ e)

      p_is : path_of_node before b ≡ p
      p_is = same_paths nodes before same.entries b ∙ way

      directory_same : (x : Option ℕ) → path_at before x ≡ path_at nodes x
      directory_same None = refl
      directory_same (Some d) = same_paths nodes before same.entries d

      q_is : path_at before (home_in b block) ++ node_name block ∷ [] ≡ q
      q_is = (λ i. path_at before (there i) ++ name_there i ∷ []) ∙ ap (λ x. x ++ name ∷ []) (directory_same directory ∙ exists.path) ∙ whole

      fresh : (c : ℕ) → IsEntry before (home_in b block) (node_name block) c → ⊥
      fresh c entry =
          entry_none arena heads slots store now view q is_path depth long parent_good directory directory_node directory_path directory_none name name_is
          absent c (record {
            node = alike_node nodes before same c entry.node;
            there = sym (same.entries.homes c) ∙ entry.there ∙ there;
            named = sym (same.entries.names c) ∙ entry.named ∙ name_there;
          })

      shown_two : Shows arena before now.filestore.nodes
      shown_two = alike_shows nodes before same arena now.filestore.nodes seen

      fits : (c : ℕ) → IsNode before c → is_at_or_below (path_of_node before c) p ≡ true → length (rebased p q (path_of_node before c)) ≤ 8
      fits c inside below =
          shallow_each p q (tree_at now.filestore p) (path_of_node before c)
          (ap is_some (find-tree_at now.filestore p (path_of_node before c) ∙ ap (λ t. cond t (node_at now.filestore (path_of_node before c)) None) below
          ∙ shown_two.each c inside)) shallow

      kind_same : kind_of_octet (node_fields_of block).kind ≡ kind_of_octet (node_fields_at before b).kind
      kind_same = ap (λ (r : NodeFields). kind_of_octet r.kind) fields

      tree_put : IsTree put
      tree_put = moved_tree before b block node_two tree_two block_named kind_same good p q p_is q_is apart fresh fits

      pub tree_three : IsTree (nodes_in three)
      tree_three = subst IsTree (sym three_is) tree_put

      pub index_three : (hs : Heads) → IsIndex before hs (Some b) → IsIndex (nodes_in three) hs (Some b)
      index_three hs index = subst (λ ns. IsIndex ns hs (Some b)) (sym three_is) (index_moved before hs b block node_two index)

      pub entry_three : IsEntry (nodes_in three) directory name b
      entry_three = record {
        node = subst (λ ns. IsNode ns b) (sym three_is) (subst IsSome (sym (at_b before b block node_two)) refl);
        there = there;
        named = name_there;
      }

      file_three : (c : ℕ) → file_in (octets_at put c) ≡ file_in (octets_at before c)
      file_three = kept_by before b block node_two (λ c entry. file_in entry)
          (ap (λ (r : NodeFields). contents_of_fields (kind_of_octet r.kind) r) fields ∙ contents_moved (kind_of_octet (node_fields_at before b).kind)
          (node_fields_at before b) parent (length name)
          ∙ held_is (octets_at before b) node_two)

      kind_three : (c : ℕ) → kind_of_octet (node_fields_at put c).kind ≡ kind_of_octet (node_fields_at before c).kind
      kind_three = kept_by before b block node_two (λ c entry. kind_of_octet (node_fields_of (unwrap_or entry [])).kind) kind_same

      some_three : (c : ℕ) → is_some (octets_at put c) ≡ is_some (octets_at before c)
      some_three = kept_by before b block node_two (λ c entry. is_some entry) (sym node_two)

      module _ (later : Blocks) (alike : Alike (nodes_in three) (nodes_in later)) (runs : RunsStay arena later) where
        abbrev F : Filestore
        F = now.filestore

        abbrev G : Filestore
        G = moved F p q

        rooted : IsRooted F
        rooted = tree_rooted arena nodes store.kept.tree F seen

        some_q : q ≢ []
        some_q e = omega (arith, ap length e, long)

        file_later : (c : ℕ) → file_in (octets_at (nodes_in later) c) ≡ file_in (octets_at nodes c)
        file_later c = alike.files c ∙ ap (λ ns. file_in (octets_at ns c)) three_is ∙ file_three c ∙ same.files c

        file_stays : (c : ℕ) → Stays arena later (file_in (octets_at nodes c)).run
        file_stays c = runs (file_in (octets_at nodes c)).run (file_held arena heads slots store c)

        was_two : (c : ℕ) → IsNode put c → IsNode before c
        was_two c inside = sym (some_three c) ∙ inside

        described : (c : ℕ) → IsNode put c → node_of later (octets_of put c) ≡ node_of arena (octets_of before c)
        described c inside =
            node_by_contents later put c inside
            ∙ (λ i. node_with later (kind_three c i) (file_three c i))
            ∙ node_same arena later (kind_of_octet (node_fields_at before c).kind) (file_in (octets_at before c))
            (stays_contents arena later (file_in (octets_at before c)) (subst (λ (x : Contents). Stays arena later x.run) (sym (same.files c)) (file_stays c)))
            ∙ sym (node_by_contents arena before c (was_two c inside))

        goes : (c : ℕ) → IsNode before c → is_at_or_below (path_of_node before c) p ≡ true → path_of_node put c ≡ rebased p q (path_of_node before c)
        goes = moved_path before b block node_two tree_two block_named kind_same good p q p_is q_is apart fresh fits

        remains : (c : ℕ) → IsNode before c → is_at_or_below (path_of_node before c) p ≡ false → path_of_node put c ≡ path_of_node before c
        remains = stayed_path before b block node_two tree_two block_named kind_same good p q p_is q_is apart fresh fits

        got_moved : (x : Path) → is_at_or_below x p ≡ true → node_at G (rebased p q x) ≡ node_at F x
        got_moved x below =
            moved_there F p q rooted some_q absent (rebased p q x) (rebased-below p q x) ∙ ap (node_at F) (rebased_back p q x below)

        -- a path at which something exists is not at or below the new path
        not_there : (x : Path) (here : Node) → node_at F x ≡ Some here → (below : Bool) → is_at_or_below x q ≡ below → is_at_or_below x q ≡ false
        not_there x here e true below = absurd (none-some _ (sym (nothing_there F p q rooted some_q absent x below) ∙ e))
        not_there x here e false below = below

        got_stayed : (x : Path) (here : Node) → node_at F x ≡ Some here → is_at_or_below x p ≡ false → node_at G x ≡ Some here
        got_stayed x here e outside =
            moved_apart F p q rooted some_q absent x (not_there x here e (is_at_or_below x q) refl) ∙ ap (λ t. cond t None (node_at F x)) outside ∙ e

        each_put : (c : ℕ) → IsNode put c → (below : Bool) → is_at_or_below (path_of_node before c) p ≡ below → node_at G (path_of_node put c)
            ≡ Some (node_of later (octets_of put c))
        each_put c inside true below =
            let was = was_two c inside in
            ap (node_at G) (goes c was below) ∙ got_moved (path_of_node before c) below ∙ shown_two.each c was ∙ ap Some (sym (described c inside))
        each_put c inside false outside =
            let was = was_two c inside in
            ap (node_at G) (remains c was outside)
            ∙ got_stayed (path_of_node before c) (node_of arena (octets_of before c)) (shown_two.each c was) outside ∙ ap Some (sym (described c inside))

        is_put : (c : ℕ) → IsNode before c → IsNode put c
        is_put c was = some_three c ∙ was

        only_moved : (x : Path) (here : Node) → node_at G x ≡ Some here → is_at_or_below x q ≡ true → (c : ℕ) × IsNode put c × (path_of_node put c ≡ x)
        only_moved x here e below =
            let at = shown_two.only (rebased q p x) here (sym (moved_there F p q rooted some_q absent x below) ∙ e) in
            let inside = ap (λ y. is_at_or_below y p) at.2 ∙ rebased-below q p x in
            (at.0, is_put at.0 at.1, goes at.0 at.1 inside ∙ ap (rebased p q) at.2 ∙ rebased_back q p x below)

        only_stayed : (x : Path) (here : Node) → node_at G x ≡ Some here → is_at_or_below x q ≡ false → (below : Bool) → is_at_or_below x p ≡ below → (c : ℕ)
            × IsNode put c × (path_of_node put c ≡ x)
        only_stayed x here e outside true below =
            absurd (none-some _ (sym (moved_apart F p q rooted some_q absent x outside ∙ ap (λ t. cond t None (node_at F x)) below) ∙ e))
        only_stayed x here e outside false below =
            let at = shown_two.only x here (sym (moved_apart F p q rooted some_q absent x outside ∙ ap (λ t. cond t None (node_at F x)) below) ∙ e) in
            (at.0, is_put at.0 at.1, remains at.0 at.1 (ap (λ y. is_at_or_below y p) at.2 ∙ below) ∙ at.2)

        only_put : (x : Path) (here : Node) → node_at G x ≡ Some here → (below : Bool) → is_at_or_below x q ≡ below → (c : ℕ) × IsNode put c
            × (path_of_node put c ≡ x)
        only_put x here e true below = only_moved x here e below
        only_put x here e false outside = only_stayed x here e outside (is_at_or_below x p) refl

        shows_put : Shows later put G.nodes
        shows_put = record {
          each = (λ c inside. each_put c inside (is_at_or_below (path_of_node before c) p) refl);
          only = (λ x here e. only_put x here e (is_at_or_below x q) refl);
        }

        shows_later : Shows later (nodes_in later) G.nodes
        shows_later = alike_shows (nodes_in three) (nodes_in later) alike later G.nodes (subst (λ ns. Shows later ns G.nodes) (sym three_is) shows_put)

        left_at : (c : ℕ) → IsLeft arena later (file_in (octets_at nodes c)) (file_in (octets_at (nodes_in later) c))
        left_at c = inr (file_later c, file_stays c)

        list_stays : (j : ℕ) → Stays arena later (get_or (lists_staged slots) j no_contents).run
        list_stays j = runs (get_or (lists_staged slots) j no_contents).run (list_held arena heads slots store j)

        tree_later : IsTree (nodes_in later)
        tree_later = same_tree (nodes_in three) (nodes_in later) alike.entries tree_three

        module _ (heads_now : Heads) (index : IsIndex (nodes_in later) heads_now None)
            (long_now : length later ≡ length arena) (free : free_count later ≡ free_count arena) where
          filestore_is : record { nodes = G.nodes; staged = (store_of arena (lists_staged slots)).filestore.staged } ≡ G
          filestore_is = (λ i. record { nodes = G.nodes; staged = (ap (λ (s : Store). s.filestore.staged) view ∙ sym (staged-moved F p q)) i })

          pub shift_view : store_of later (lists_staged slots) ≡ with_changes now (vacating (tree_at F p) ++ arriving p q (tree_at F p))
          shift_view =
              nodes_seen arena later heads heads_now slots store long_now list_stays left_at G.nodes shows_later tree_later index
              ∙ (λ i. record (view i) { filestore = filestore_is i })

          pub shift_store : IsStore later ways heads_now slots
          shift_store =
              nodes_store arena later heads heads_now slots store long_now list_stays left_at G.nodes shows_later tree_later index
              (omega (arith, ap blocks filestore_is, blocks-moved F p q rooted some_q absent, free, long_now, seen_blocks arena heads slots store now view))
