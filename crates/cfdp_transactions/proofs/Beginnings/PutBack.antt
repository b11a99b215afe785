-- What the filestore of a sound entity has, in path order, can be put into an empty one, which is then the same.
use Rattle.std.proofs.Common.{◌≡◌, ◌≢◌, ◌+◌, ◌≤◌, true, false, cond, List, [], ◌∷◌, inl, inr, refl, ap, sym, ◌∙◌, subst, arith}
use Rattle.std.specs.Prelude.{Option, Some, None, is_some, not, ◌&&◌, replicate}
use Rattle.std.specs.List.{AllByRecursion}
use Rattle.std.specs.Cmp.{tied_itself}
use Rattle.std.specs.Cmp.Lexicographic.{nat_list_cmp_total}
use Rattle.std.specs.Ordering.{ordering_then}
use Rattle.std.specs.declared.cmp.Ordering.{Ordering}
use Rattle.std.specs.declared.cmp.Ordering.TheVariants.{Less, Equal, Greater}
use Rattle.std.specs.FinMap as finite
use Rattle.std.specs.FinMap.{same_map}
use Rattle.std.specs.FinMap.Entries.{below_all, is_sorted, find}
use Rattle.std.proofs.lemmas.Bool.{cases_Bool, and_parts}
use Rattle.cfdp_status.proofs.Options.{none_where_some}
use Rattle.cfdp_paths.specs.Paths.{Name, Path, path_cmp, same_path, is_at_or_below, parent}
use Rattle.cfdp_paths.proofs.Comparing.{path_cmp-total, same_path-Decides}
use Rattle.cfdp_paths.proofs.InOrder.{path_antisym, less_by, less_itself, true_from_T}
use Rattle.cfdp_actions.specs.Filestore.{Node, Filestore, node_at, empty_filestore, weight, weights, blocks, Becomes, changed, is_directory, is_root, is_good, parent_is_good, IsRooted, tree_at}
use Rattle.cfdp_leases.proofs.ChangeFrame.{node_at-changed}
use Rattle.cfdp_leases.proofs.Rooted.{Of, tree_at-of}
use Rattle.cfdp_transactions.specs.Config.{Config}
use Rattle.cfdp_transactions.specs.Beginning.{start_with}
use Rattle.cfdp_transactions.specs.Restart.{put_all, CanPutAll, PutBackIsSame}
use Rattle.cfdp_transactions.proofs.Beginnings.Starting.{blocks-empty, nowhere}
use Rattle.cfdp_transactions.proofs.Beginnings.PutThere.{CanPut, no_fault, no_root, grown}
use Rattle.cfdp_actions.proofs.Order.{same_path-refl, get_kept}

abbrev Entry : Type 0
Entry = Path × Node

-- in order ---------------------------------------------------------------------------------

-- a parent comes before what is in it
after_parent : (n : Name) (p : Path) → path_cmp (n ∷ p) (parent (n ∷ p)) ≡ Greater
after_parent n [] = refl
after_parent n (m ∷ p) =
    ap (λ (o : Ordering). ordering_then o (path_cmp (m ∷ p) (parent (m ∷ p)))) (tied_itself nat_list_cmp_total n) ∙ after_parent m p

parent_first : (p : Path) → p ≢ [] → path_cmp p (parent p) ≡ Greater
parent_first [] some = absurd (some refl)
parent_first (n ∷ p) some = after_parent n p

apart_from : (k q : Path) → path_cmp k q ≡ Greater → same_path q k ≡ false
apart_from k q greater =
    elim (cases_Bool (same_path q k)) [
      | inl tie ↦ absurd (let tied : path_cmp k k ≡ Equal = tied_itself path_cmp-total k in let again : path_cmp k k
          ≡ Greater = sym (ap (path_cmp k) ((same_path-Decides q k).0 tie)) ∙ greater in cc)
      | inr apart ↦ apart
    ]

-- among the entries after a path no key comes before it, and none is this path
none_after : (k q : Path) (es : List Entry) → below_all path_cmp k es ≡ true → path_cmp k q ≢ Less → find path_cmp q es ≡ None
none_after k q [] after other = refl
none_after k q (f ∷ es) after other =
    let parts = and_parts _ _ after in
    elim (cases_Bool (same_path q f.0)) [
      | inl tie ↦ absurd (other (ap (path_cmp k) ((same_path-Decides q f.0).0 tie) ∙ less_by (path_cmp k f.0) parts.0))
      | inr apart ↦ ap (λ b. cond b (Some f.1) (find path_cmp q es)) apart ∙ none_after k q es parts.1 other
    ]

-- parents ----------------------------------------------------------------------------------

good_same : (F G : Filestore) (a : Path) → node_at G a ≡ node_at F a → is_good G a ≡ is_good F a
good_same F G [] same = refl
good_same F G (n ∷ a) same = ap is_directory same

parent_same : (F G : Filestore) (p : Path) → node_at G (parent p) ≡ node_at F (parent p) → parent_is_good G p ≡ parent_is_good F p
parent_same F G p same = ap (λ b. not (is_root p) && b) (good_same F G (parent p) same)

-- one after the other ----------------------------------------------------------------------

put_all_is : (c : Config) (G : Filestore) (es : List Entry) →
    put_all (start_with c G) es ≡ start_with c (record { nodes = (put_all (start_with c G) es).filestore.nodes; staged = G.staged })
put_all_is c G [] = refl
put_all_is c G (e ∷ es) = put_all_is c (changed G (Becomes e.0 (Some e.1))) es

module _ (c : Config) (F : Filestore) (rooted : IsRooted F) where
  abbrev IsOf : Entry → Type 0
  IsOf e = node_at F e.0 ≡ Some e.1

  -- all of F is there, but for the entries that are left
  abbrev IsLeft : List Entry → Filestore → Type 0
  IsLeft left G = (q : Path) → node_at G q ≡ cond (is_some (find path_cmp q left)) None (node_at F q)

  record ArePut (left : List Entry) (G : Filestore) : Type 0 where
    pub can : CanPutAll (start_with c G) left
    pub same : (q : Path) → node_at (put_all (start_with c G) left).filestore q ≡ node_at F q

  module _ (e : Entry) (left : List Entry) (G : Filestore) (after : below_all path_cmp e.0 left ≡ true) (is : IsOf e) (rest : IsLeft (e ∷ left) G) where
    absent : node_at G e.0 ≡ None
    absent = rest e.0 ∙ ap (λ b. cond (is_some (cond b (Some e.1) (find path_cmp e.0 left))) None (node_at F e.0)) (same_path-refl e.0)

    good : parent_is_good F e.0 ≡ true
    good = rooted e.0 (ap is_some is)

    parent_there : node_at G (parent e.0) ≡ node_at F (parent e.0)
    parent_there =
        let greater = parent_first e.0 (no_root F e.0 good) in
        let none : find path_cmp (parent e.0) left ≡ None = none_after e.0 (parent e.0) left after (λ less. let no : Less ≡ Greater = sym less ∙ greater in
        absurd (cc)) in
        rest (parent e.0)
        ∙ ap (λ b. cond (is_some (cond b (Some e.1) (find path_cmp (parent e.0) left))) None (node_at F (parent e.0))) (apart_from e.0 (parent e.0) greater)
        ∙ ap (λ (o : Option Node). cond (is_some o) None (node_at F (parent e.0))) none

    abbrev H : Filestore
    H = changed G (Becomes e.0 (Some e.1))

    rest_now : IsLeft left H
    rest_now q =
        elim (cases_Bool (same_path q e.0)) [
          | inl tie ↦
              let same : q ≡ e.0 = (same_path-Decides q e.0).0 tie in
              let none : find path_cmp q left ≡ None = none_after e.0 q left after (λ less. less_itself e.0 (sym (ap (path_cmp e.0) same) ∙ less)) in
              node_at-changed G (Becomes e.0 (Some e.1)) q ∙ ap (λ b. cond b (Some e.1) (node_at G q)) tie
              ∙ sym (ap (λ (o : Option Node). cond (is_some o) None (node_at F q)) none ∙ ap (node_at F) same ∙ is)
          | inr apart ↦
              node_at-changed G (Becomes e.0 (Some e.1)) q ∙ ap (λ b. cond b (Some e.1) (node_at G q)) apart
              ∙ rest q ∙ ap (λ b. cond (is_some (cond b (Some e.1) (find path_cmp q left))) None (node_at F q)) apart
        ]

    can_be : blocks G + (weight (Some e.1) + weights left) ≤ c.blocks → CanPut (start_with c G) e.0 e.1
    can_be room = record { idle = refl; absent = absent; parent = parent_same F G e.0 parent_there ∙ good; room = omega (arith, room) }

  put_left : (left : List Entry) (G : Filestore) → is_sorted path_cmp left ≡ true → AllByRecursion IsOf left → IsLeft left G → blocks G
      + weights left ≤ c.blocks → ArePut left G
  put_left [] G sorted of rest room = record { can = tt; same = rest }
  put_left (e ∷ left) G sorted of rest room =
      let parts : (below_all path_cmp e.0 left ≡ true) × (is_sorted path_cmp left ≡ true) = and_parts _ _ sorted in
      let H = changed G (Becomes e.0 (Some e.1)) in
      let room_now : blocks H + weights left ≤ c.blocks = omega (arith, grown G e.0 e.1 (absent e left G parts.0 of.0 rest), room) in
      let later = put_left left H parts.1 of.1 (rest_now e left G parts.0 of.0 rest) room_now in
      record { can = (no_fault (start_with c G) e.0 e.1 (can_be e left G parts.0 of.0 rest room), later.can); same = later.same }

-- all of it --------------------------------------------------------------------------------

module _ (F : Filestore) where
  all_kept : finite.retain_keys F.nodes (λ q. is_at_or_below q []) ≡ F.nodes
  all_kept = same_map path_cmp-total path_antisym _ F.nodes (λ q. get_kept F (λ q. is_at_or_below q []) q)

  nodes_of : (es : List Entry) → AllByRecursion (Of F []) es → AllByRecursion (λ (e : Entry). node_at F e.0 ≡ Some e.1) es
  nodes_of [] all = tt
  nodes_of (e ∷ es) all = (all.0.1, nodes_of es all.1)

  pub each_of : AllByRecursion (λ (e : Entry). node_at F e.0 ≡ Some e.1) (finite.entries F.nodes)
  each_of = subst (λ (nodes : finite.FinMap path_cmp Node). AllByRecursion (λ (e : Entry). node_at F e.0 ≡ Some e.1) (finite.entries nodes)) all_kept
      (nodes_of (tree_at F []) (tree_at-of F []))

  all_left : (q : Path) → node_at empty_filestore q ≡ cond (is_some (find path_cmp q (finite.entries F.nodes))) None (node_at F q)
  all_left q =
      nowhere q ∙ sym (ap (λ (o : Option Node). cond (is_some (find path_cmp q (finite.entries F.nodes))) None o) (finite.get-entries F.nodes q)
      ∙ none_where_some (find path_cmp q (finite.entries F.nodes)))

  within : weights (finite.entries F.nodes) ≤ blocks F
  unfolding blocks
  within = omega arith

pub put_back : PutBackIsSame
put_back W s =
    let F = W.filestore in
    let room : blocks empty_filestore + weights (finite.entries F.nodes) ≤ W.config.blocks = omega (arith, blocks-empty, within F, s.room) in
    let put = put_left W.config F s.rooted (finite.entries F.nodes) empty_filestore (true_from_T _ (finite.entries_sorted F.nodes)) (each_of F)
    (all_left F) room in (
      put.can,
      put_all_is W.config empty_filestore (finite.entries F.nodes)
          ∙ ap (λ (nodes : finite.FinMap path_cmp Node). start_with W.config (record { nodes = nodes; staged = replicate 64 [] }))
          (same_map path_cmp-total path_antisym _ F.nodes put.same),
    )
