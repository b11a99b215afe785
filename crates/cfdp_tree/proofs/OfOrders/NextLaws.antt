-- The first node in path order after a path.
--     between                        what is between two paths that begin alike begins like them
--     following_parts, entry_on_way  a node that follows, and the entry on the way to it
--     least_first, none_first        the entry of the least name is the first node, and where there is none no node follows
--     apart_last, apart_name         all entries follow, or those of a greater name, where nothing follows below the name's own
--     none_below, first_below        where the name has no entry, and where something follows below it
--     first_next, none_last          of the root that is what comes next in the filestore
use Rattle.std.proofs.Common.{◌≡◌, ◌≢◌, ℕ, suc, ◌+◌, true, List, [], ◌∷◌, ◌++◌, length, length-append, take, drop, is_some, Option, Some, None, refl, sym, ap, ◌∙◌, subst, arith}
use Rattle.std.proofs.lemmas.Bool.{and_from}
use Rattle.std.proofs.lemmas.List.{append_assoc, take_at}
use Rattle.std.specs.Cmp.Lexicographic.{nat_list_cmp_total}
use Rattle.std.specs.FinMap.{slice_cmp-IsAntisymmetric, nat_cmp-IsAntisymmetric}
use Rattle.std.specs.Ordering.{ordering_then, ordering_reverse}
use Rattle.std.specs.Prelude.{All, Contains, IsSome}
use Rattle.std.specs.declared.cmp.Ordering.{Ordering}
use Rattle.std.specs.declared.cmp.Ordering.TheVariants.{Less, Equal, Greater}
use Rattle.std.proofs.lemmas.Option.{none-some}
use Rattle.cfdp_arena.specs.Arena.{Blocks}
use Rattle.cfdp_paths.specs.Paths.{Name, Path, path_cmp, same_name, is_at_or_below}
use Rattle.cfdp_paths.proofs.Below.{append_from_at_or_below, at_or_below_from_append, at_or_below-trans}
use Rattle.cfdp_paths.proofs.Comparing.{path_cmp-total, same_name-Decides}
use Rattle.cfdp_actions.specs.Filestore.{Node, Filestore, node_at}
use Rattle.cfdp_paths.specs.code.Paths.{name_cmp}
use Rattle.cfdp_tree.specs.code.Tree.{IsNode, name_at, path_of_node, IsEntry, IsTree}
use Rattle.cfdp_tree.specs.code.Directories.{IsAtPath}
use Rattle.cfdp_tree.specs.code.Entries.{IsMember}
use Rattle.cfdp_tree.specs.code.Kept.{Shows}
use Rattle.cfdp_tree.specs.Next.{IsNext, IsLast}
use Rattle.cfdp_tree.specs.code.Next.{IsFollowing, IsLeast, IsListOf, ComesAfter, IsFirst}
use Rattle.cfdp_tree.proofs.OfNodes.ClimbLaws.{entry_at, path_entry, beginning}
use Rattle.cfdp_tree.proofs.OfOrders.LeastLaws.{flipped, less_greater, equal_greater}
use Rattle.cfdp_paths.proofs.Moving.{path_cmp-append}

pub name_antisym : (m n : Name) → name_cmp m n ≡ Equal → m ≡ n
name_antisym = slice_cmp-IsAntisymmetric nat_cmp-IsAntisymmetric

-- ---- paths that begin alike

pub between : (a p q r : Path) → path_cmp (a ++ p) q ≡ Less → path_cmp q (a ++ r) ≢ Greater → is_at_or_below q a ≡ true
between [] p q r following before = refl
between (n ∷ a) p [] r following before = cc
between (n ∷ a) p (m ∷ q) r following before = by_order (name_cmp n m) refl (between a p q r)
  where
    rest : name_cmp n m ≡ Equal → (path_cmp (a ++ p) q ≡ Less → path_cmp q (a ++ r) ≢ Greater → is_at_or_below q a ≡ true) → is_at_or_below (m ∷ q) (n ∷ a)
        ≡ true
    rest tied below =
        let back : name_cmp m n ≡ Equal = nat_list_cmp_total.antisymm m n ∙ ap ordering_reverse tied in
        and_from (same_name m n) (is_at_or_below q a) ((same_name-Decides m n).1 (sym (name_antisym n m tied)))
        (below (sym (ap (λ o. ordering_then o (path_cmp (a ++ p) q)) tied) ∙ following)
        (λ greater. before (ap (λ o. ordering_then o (path_cmp q (a ++ r))) back ∙ greater)))

    by_order : (o : Ordering) → name_cmp n m ≡ o → (path_cmp (a ++ p) q ≡ Less → path_cmp q (a ++ r) ≢ Greater → is_at_or_below q a ≡ true) →
        is_at_or_below (m ∷ q) (n ∷ a) ≡ true
    by_order Less e below = absurd (before (ap (λ o. ordering_then o (path_cmp q (a ++ r))) (nat_list_cmp_total.antisymm m n ∙ ap ordering_reverse e)))
    by_order Equal e below = rest e below
    by_order Greater e below = absurd (less_greater following (ap (λ o. ordering_then o (path_cmp (a ++ p) q)) e))

-- what is after a path has a name more than what both begin with
first_name : (p q : Path) → path_cmp p q ≡ Less → (m : Name) × (t : Path) × (q ≡ m ∷ t)
first_name [] [] following = cc
first_name (n ∷ p) [] following = cc
first_name p (m ∷ q) following = (m, q, refl)

-- the first names decide, or are one
names_part : (n m : Name) (p q : Path) → path_cmp (n ∷ p) (m ∷ q) ≡ Less → (n ≢ m) → name_cmp n m ≡ Less
names_part n m p q following other = by_order (name_cmp n m) refl
  where
    by_order : (o : Ordering) → name_cmp n m ≡ o → name_cmp n m ≡ Less
    by_order Less e = e
    by_order Equal e = absurd (other (name_antisym n m e))
    by_order Greater e = absurd (less_greater following (ap (λ o. ordering_then o (path_cmp p q)) e))

-- a name that is no greater is that of a path that is no greater
name_upto : (m n : Name) (t : Path) → name_cmp m n ≢ Greater → path_cmp (m ∷ []) (n ∷ t) ≢ Greater
name_upto m n [] upto greater = by_order (name_cmp m n) refl
  where
    by_order : (o : Ordering) → name_cmp m n ≡ o → ⊥
    by_order Less e = less_greater (ap (λ o. ordering_then o Equal) e) greater
    by_order Equal e = equal_greater (ap (λ o. ordering_then o Equal) e) greater
    by_order Greater e = upto e
name_upto m n (l ∷ t) upto greater = by_order (name_cmp m n) refl
  where
    by_order : (o : Ordering) → name_cmp m n ≡ o → ⊥
    by_order Less e = less_greater (ap (λ o. ordering_then o Less) e) greater
    by_order Equal e = less_greater (ap (λ o. ordering_then o Less) e) greater
    by_order Greater e = upto e

-- ---- the nodes that follow, at and below a node or the root

module _ (nodes : Blocks) (tree : IsTree nodes) (directory : Option ℕ) (a : Path) (exists : IsAtPath nodes directory a) where
  -- such a node has a name more than that
  module _ (p : Path) (c : ℕ) (follows : ComesAfter nodes a (a ++ p) c) where
    rest : Path
    rest = drop (length a) (path_of_node nodes c)

    whole : path_of_node nodes c ≡ a ++ drop (length a) (path_of_node nodes c)
    whole = append_from_at_or_below (path_of_node nodes c) a follows.below

    rest_following : path_cmp p (drop (length a) (path_of_node nodes c)) ≡ Less
    rest_following = sym (path_cmp-append a p (drop (length a) (path_of_node nodes c))) ∙ ap (path_cmp (a ++ p)) (sym whole) ∙ follows.following

    pub following_parts : (m : Name) × (t : Path) × (path_of_node nodes c ≡ a ++ m ∷ t) × (path_cmp p (m ∷ t) ≡ Less)
    following_parts =
        let parts = first_name p (drop (length a) (path_of_node nodes c)) rest_following in
        (parts.0, parts.1, whole ∙ ap (λ q. a ++ q) parts.2, ap (path_cmp p) (sym parts.2) ∙ rest_following)

  -- the entry on the way to a node
  pub entry_on_way : (c : ℕ) (m : Name) (t : Path) → IsNode nodes c → path_of_node nodes c ≡ a ++ m ∷ t → (e : ℕ) × IsEntry nodes directory m e
  entry_on_way c m t node way =
      let long : length (path_of_node nodes c) ≡ length a + suc (length t) = ap length way ∙ length-append a (m ∷ t) in
      let above = beginning nodes tree c (length a + 1) node (omega arith) (omega (arith, long)) in
      let front : take (length a + 1) (path_of_node nodes c) ≡ a ++ m ∷ [] =
      ap (take (length a + 1)) (way ∙ sym (append_assoc a (m ∷ []) t)) ∙ take_at (a ++ m ∷ []) t (length a + 1) (omega (arith, length-append a (m ∷ []))) in
      (above.0, entry_at nodes tree directory a m above.0 exists above.1 (above.2 ∙ front))

  member_of : (m : Name) (e : ℕ) → IsEntry nodes directory m e → IsMember nodes None directory e
  member_of m e entry = record { node = entry.node; there = entry.there; listed = none-some e }

  way_of : (e : ℕ) → IsMember nodes None directory e → path_of_node nodes e ≡ a ++ name_at nodes e ∷ []
  way_of e member = path_entry nodes tree directory a (name_at nodes e) e exists (record { node = member.node; there = member.there; named = refl })

  module _ (list : List ℕ) (is_list : IsListOf nodes directory list) (p : Path) (after : Option Name) where
    -- the entries with later names are on the way to all that follows
    abbrev pub IsApart : Type 0
    IsApart = (c : ℕ) (m : Name) (t : Path) → ComesAfter nodes a (a ++ p) c → path_of_node nodes c ≡ a ++ m ∷ t → path_cmp p (m ∷ t) ≡ Less
        → IsFollowing after m

    module _ (apart : IsApart) where
      on_way : (c : ℕ) (follows : ComesAfter nodes a (a ++ p) c) → (e : ℕ) × Contains list e × IsFollowing after (name_at nodes e) × (t : Path)
          × (path_of_node nodes c ≡ a ++ name_at nodes e ∷ t)
      on_way c follows =
          let parts = following_parts p c follows in
          let entry = entry_on_way c parts.0 parts.1 follows.node parts.2 in
          let named = entry.1.named in (
            entry.0,
            is_list.all entry.0 (member_of parts.0 entry.0 entry.1),
            subst (IsFollowing after) (sym named) (apart c parts.0 parts.1 follows parts.2 parts.3),
            parts.1,
            parts.2 ∙ ap (λ m. a ++ m ∷ parts.1) (sym named),
          )

      pub none_first : All (λ e. IsFollowing after (name_at nodes e) → ⊥) list → (c : ℕ) → ComesAfter nodes a (a ++ p) c → ⊥
      none_first none c follows =
          let at = on_way c follows in
          subst (λ e. IsFollowing after (name_at nodes e) → ⊥) at.1.2 (none at.1.0 at.0 at.1.1) at.2

      pub least_first : ((m : Name) → IsFollowing after m → path_cmp p (m ∷ []) ≡ Less) → (b : ℕ) → IsLeast nodes after list b → IsFirst nodes a (a ++ p) b
      least_first following b least =
          let member = subst (IsMember nodes None directory) least.listed.2 (is_list.own least.listed.0 b least.listed.1) in
          let way = way_of b member in
          record {
            follows = record {
              node = member.node;
              below = at_or_below_from_append (path_of_node nodes b) a (name_at nodes b ∷ []) way;
              following = ap (path_cmp (a ++ p)) way ∙ path_cmp-append a p (name_at nodes b ∷ []) ∙ following (name_at nodes b) least.following;
            };
            first = λ c follows greater.
                (let at = on_way c follows in
                let upto = subst (λ e. IsFollowing after (name_at nodes e) → name_cmp (name_at nodes b) (name_at nodes e) ≢ Greater) at.1.2
                (least.least at.1.0 at.0 at.1.1) at.2 in
                name_upto (name_at nodes b) (name_at nodes at.0) at.3 upto
                (sym (path_cmp-append a (name_at nodes b ∷ []) (name_at nodes at.0 ∷ at.3)) ∙ (λ k. path_cmp (sym way k) (sym at.4 k)) ∙ greater));
          }

  -- all entries follow the directory or the root itself
  pub apart_last : (list : List ℕ) (is_list : IsListOf nodes directory list) → IsApart list is_list [] None
  apart_last list is_list c m t follows way following = tt

  module _ (n : Name) (p : Path) where
    longer : (a ++ n ∷ []) ++ p ≡ a ++ n ∷ p
    longer = append_assoc a (n ∷ []) p

    -- nothing follows below the name's own path
    abbrev pub NoneBelow : Type 0
    NoneBelow = (c : ℕ) → ComesAfter nodes (a ++ n ∷ []) ((a ++ n ∷ []) ++ p) c → ⊥

    pub apart_name : (list : List ℕ) (is_list : IsListOf nodes directory list) → NoneBelow → IsApart list is_list (n ∷ p) (Some n)
    apart_name list is_list none c m t follows way following = names_part n m p t following (λ same. none c (record {
      node = follows.node;
      below = at_or_below_from_append (path_of_node nodes c) (a ++ n ∷ []) t (way ∙ ap (λ x. a ++ x ∷ t) (sym same) ∙ sym (append_assoc a (n ∷ []) t));
      following = ap (λ q. path_cmp q (path_of_node nodes c)) longer ∙ follows.following;
    }))

    pub following_name : (m : Name) → IsFollowing (Some n) m → path_cmp (n ∷ p) (m ∷ []) ≡ Less
    following_name m following = ap (λ o. ordering_then o (path_cmp p [])) following

    -- the name has no entry
    pub none_below : ((e : ℕ) → IsEntry nodes directory n e → ⊥) → NoneBelow
    none_below none c follows =
        let way = append_from_at_or_below (path_of_node nodes c) (a ++ n ∷ []) follows.below
        ∙ append_assoc a (n ∷ []) (drop (length (a ++ n ∷ [])) (path_of_node nodes c)) in
        let entry = entry_on_way c n (drop (length (a ++ n ∷ [])) (path_of_node nodes c)) follows.node way in
        none entry.0 entry.1

    -- what follows below the name's own path is before all else that follows
    pub first_below : (b : ℕ) → IsFirst nodes (a ++ n ∷ []) ((a ++ n ∷ []) ++ p) b → IsFirst nodes a (a ++ n ∷ p) b
    first_below b is_first = record {
      follows = record {
        node = is_first.follows.node;
        below = at_or_below-trans (path_of_node nodes b) (a ++ n ∷ []) a is_first.follows.below (at_or_below_from_append (a ++ n ∷ []) a (n ∷ []) refl);
        following = ap (λ q. path_cmp q (path_of_node nodes b)) (sym longer) ∙ is_first.follows.following;
      };
      first = λ c follows greater.
          (let own = append_from_at_or_below (path_of_node nodes b) (a ++ n ∷ []) is_first.follows.below in
          let before : path_cmp (path_of_node nodes c) (path_of_node nodes b) ≡ Less = flipped path_cmp-total (path_of_node nodes b)
          (path_of_node nodes c) greater in
          let following : path_cmp ((a ++ n ∷ []) ++ p) (path_of_node nodes c) ≡ Less = ap (λ q. path_cmp q (path_of_node nodes c)) longer
          ∙ follows.following in
          is_first.first c (record {
            node = follows.node;
            below = between (a ++ n ∷ []) p (path_of_node nodes c) (drop (length (a ++ n ∷ [])) (path_of_node nodes b)) following
                (λ e. less_greater before (ap (path_cmp (path_of_node nodes c)) own ∙ e));
            following = following;
          }) greater);
    }

-- ---- what comes next in the filestore

module _ (arena nodes : Blocks) (F : Filestore) (shows : Shows arena nodes F.nodes) (p : Path) where
  some_at : (o : Option Node) → IsSome o → (node : Node) × (o ≡ Some node)
  some_at None some = cc
  some_at (Some node) some = (node, refl)

  follows_at : (q : Path) → IsSome (node_at F q) → path_cmp p q ≡ Less → (c : ℕ) × ComesAfter nodes [] p c × (path_of_node nodes c ≡ q)
  follows_at q some following =
      let node = some_at (node_at F q) some in
      let at = shows.only q node.0 node.1 in
      (at.0, record { node = at.1; below = refl; following = ap (path_cmp p) at.2 ∙ following }, at.2)

  pub first_next : (b : ℕ) → IsFirst nodes [] p b → IsNext F p (path_of_node nodes b)
  first_next b is_first = record {
    exists = ap is_some (shows.each b is_first.follows.node);
    following = is_first.follows.following;
    least = λ q some following greater. (let at = follows_at q some following in is_first.first at.0 at.1
        (ap (path_cmp (path_of_node nodes b)) at.2 ∙ greater));
  }

  pub none_last : ((b : ℕ) → ComesAfter nodes [] p b → ⊥) → IsLast F p
  none_last none q some following = (let at = follows_at q some following in none at.0 at.1)
