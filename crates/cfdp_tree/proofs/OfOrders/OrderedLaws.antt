-- Entries stay in order while the nodes stay where they are, under their names.
--     KeepsEntries old new out     each node but the one that is out is where it was
--     kept_entries, kept_block     where links change, and where one block does
--     ordered_kept                 then the entries stay in order
--     ordered_out, ordered_back    a block that is no node is out of all orders
--     ordered_made, ordered_moved, ordered_gone    a node is made, is put elsewhere, goes
--     listed_in                    the order of a directory or the root has just its nodes
--     ordered_written              the octets of a file change
--     ordered_none                 where there are no nodes
use Rattle.std.proofs.Common.{◌≡◌, ◌≢◌, ℕ, ◌<◌, List, [], length, get_or, set, length-set, Option, Some, None, is_some, sym, ap, ◌∙◌, subst, arith}
use Rattle.std.proofs.lemmas.List.{get_or-set_same, get_or-set_other}
use Rattle.std.proofs.lemmas.List.Elements.{All-nil, All-weaker}
use Rattle.std.specs.Prelude.{All, AllPairs, Contains, unwrap_or}
use Rattle.std.specs.declared.cmp.Ordering.TheVariants.{Less}
use Rattle.std.proofs.lemmas.Option.{none-some, same_Some}
use Rattle.cfdp_arena.specs.Arena.{Blocks, octets_at, with_block, without_block}
use Rattle.cfdp_arena.proofs.Chains.{live_within, no_live}
use Rattle.cfdp_paths.specs.code.Paths.{name_cmp}
use Rattle.cfdp_tree.specs.declared.orders.Orders.{Orders}
use Rattle.cfdp_actions.specs.declared.kind.Kind.TheVariants as kind
use Rattle.cfdp_order.proofs.TreeLaws.{none_is, no_nodes}
use Rattle.cfdp_tree.specs.declared.contents.Contents.{Contents}
use Rattle.cfdp_tree.specs.code.NodeFields.{node_fields_of, node_name, kind_of_octet}
use Rattle.cfdp_tree.specs.code.Files.{with_contents}
use Rattle.cfdp_tree.specs.code.Tree.{IsNode, IsTree, node_fields_at, name_at, home_in, home, SameEntries}
use Rattle.cfdp_tree.specs.code.Entries.{IsMember}
use Rattle.cfdp_tree.specs.code.Next.{IsListOf}
use Rattle.cfdp_tree.specs.code.Orders.{order_at, in_order, Rises, IsInOrders}
use Rattle.cfdp_tree.proofs.OfStore.FileNodeLaws.{file_entries}

pub record KeepsEntries (old new : Blocks) (out : Option ℕ) : Type 0 where
  pub nodes : (c : ℕ) → out ≢ Some c → is_some (octets_at new c) ≡ is_some (octets_at old c)
  pub homes : (c : ℕ) → out ≢ Some c → home new c ≡ home old c
  pub names : (c : ℕ) → out ≢ Some c → name_at new c ≡ name_at old c

pub kept_entries : (old new : Blocks) (out : Option ℕ) → SameEntries old new → KeepsEntries old new out
kept_entries old new out same = record { nodes = (λ c listed. same.nodes c); homes = (λ c listed. same.homes c); names = (λ c listed. same.names c) }

pub kept_block : (old : Blocks) (b : ℕ) (entry : Option (List ℕ)) → KeepsEntries old (set old b entry) (Some b)
kept_block old b entry =
    let others : (c : ℕ) → Some b ≢ Some c → octets_at (set old b entry) c ≡ octets_at old c =
    λ c listed. get_or-set_other old b c entry None (λ e. listed (ap Some (sym e))) in
    record {
      nodes = (λ c listed. ap is_some (others c listed));
      homes = (λ c listed. ap (λ o. home_in c (unwrap_or o [])) (others c listed));
      names = (λ c listed. ap (λ o. node_name (unwrap_or o [])) (others c listed));
    }

module _ (old new : Blocks) (orders : Orders) (out : Option ℕ) (long : length new ≡ length old) (keeps : KeepsEntries old new out)
    (ordered : IsInOrders old orders out) where
  member_kept : (directory : Option ℕ) (c : ℕ) → IsMember old out directory c → IsMember new out directory c
  member_kept directory c member = record {
    node = keeps.nodes c member.listed ∙ member.node;
    there = keeps.homes c member.listed ∙ member.there;
    listed = member.listed;
  }

  rising_kept : (directory : Option ℕ) → AllPairs (Rises new) (in_order orders directory)
  rising_kept directory i j d up less =
      let member : (k : ℕ) → k < length (in_order orders directory) → IsMember old out directory (get_or (in_order orders directory) k d) =
      λ k within. ordered.own directory k d within in
      subst (λ n. name_cmp n (name_at new (get_or (in_order orders directory) j d)) ≡ Less)
      (sym (keeps.names (get_or (in_order orders directory) i d) (member i (omega (arith, up, less))).listed))
      (subst (λ n. name_cmp (name_at old (get_or (in_order orders directory) i d)) n ≡ Less)
      (sym (keeps.names (get_or (in_order orders directory) j d) (member j less).listed)) (ordered.rising directory i j d up less))

  pub ordered_kept : IsInOrders new orders out
  ordered_kept = record {
    links = ordered.links ∙ sym long;
    directories = ordered.directories ∙ sym long;
    order = ordered.order;
    own = (λ directory. All-weaker (IsMember old out directory) (IsMember new out directory) (member_kept directory) (in_order orders directory)
        (ordered.own directory));
    rising = rising_kept;
    all = (λ c node listed. subst (λ directory. Contains (in_order orders directory) c) (sym (keeps.homes c listed))
        (ordered.all c (sym (keeps.nodes c listed) ∙ node) listed));
  }

module _ (nodes : Blocks) (orders : Orders) (b : ℕ) (free : octets_at nodes b ≡ None) where
  pub ordered_out : IsInOrders nodes orders None → IsInOrders nodes orders (Some b)
  ordered_out ordered = record {
    links = ordered.links;
    directories = ordered.directories;
    order = ordered.order;
    own = (λ directory. All-weaker (IsMember nodes None directory) (IsMember nodes (Some b) directory)
        (λ c member. record {
          node = member.node;
          there = member.there;
          listed = λ e. no_live _ free (subst (IsNode nodes) (sym (same_Some b c e)) member.node);
        })
        (in_order orders directory) (ordered.own directory));
    rising = ordered.rising;
    all = (λ c node listed. ordered.all c node (none-some c));
  }

  pub ordered_back : IsInOrders nodes orders (Some b) → IsInOrders nodes orders None
  ordered_back ordered = record {
    links = ordered.links;
    directories = ordered.directories;
    order = ordered.order;
    own = (λ directory. All-weaker (IsMember nodes (Some b) directory) (IsMember nodes None directory)
        (λ c member. record { node = member.node; there = member.there; listed = none-some c }) (in_order orders directory) (ordered.own directory));
    rising = ordered.rising;
    all = (λ c node listed. ordered.all c node (λ e. no_live _ free (subst (IsNode nodes) (sym (same_Some _ _ e)) node)));
  }

pub ordered_made : (old : Blocks) (orders : Orders) (b : ℕ) (block : List ℕ) → octets_at old b ≡ None → IsInOrders old orders None →
    IsInOrders (with_block old b block) orders (Some b)
ordered_made old orders b block free ordered =
    ordered_kept old (with_block old b block) orders (Some b) (length-set old b (Some block)) (kept_block old b (Some block))
    (ordered_out old orders b free ordered)

pub ordered_moved : (old : Blocks) (orders : Orders) (b : ℕ) (block : List ℕ) → IsInOrders old orders (Some b) →
    IsInOrders (with_block old b block) orders (Some b)
ordered_moved old orders b block ordered = ordered_kept old (with_block old b block) orders (Some b) (length-set old b (Some block))
    (kept_block old b (Some block)) ordered

pub ordered_gone : (old : Blocks) (orders : Orders) (b : ℕ) → IsNode old b → IsInOrders old orders (Some b) → IsInOrders (without_block old b) orders None
ordered_gone old orders b node ordered =
    ordered_back (without_block old b) orders b (get_or-set_same old b None None (live_within old b node))
    (ordered_kept old (without_block old b) orders (Some b) (length-set old b None) (kept_block old b None) ordered)

pub listed_in : (nodes : Blocks) (orders : Orders) → IsInOrders nodes orders None → (directory : Option ℕ) → IsListOf nodes directory
    (in_order orders directory)
listed_in nodes orders ordered directory = record {
  own = ordered.own directory;
  all = (λ b member. subst (λ p. Contains (in_order orders p) b) member.there (ordered.all b member.node (none-some b)));
}

-- the octets of a file change, and its block says so
module _ (nodes : Blocks) (tree : IsTree nodes) (b : ℕ) (node : IsNode nodes b) (file : kind_of_octet (node_fields_at nodes b).kind ≡ kind.File)
    (middle later : Blocks)
    (written : List ℕ) (contents : Contents) (middle_is : middle ≡ nodes)
    (later_is : later ≡ with_block middle b written) (fields : node_fields_of written ≡ with_contents (node_fields_at middle b) contents)
    (name : node_name written
    ≡ name_at middle b) (whole : length written ≡ 128) where
  pub ordered_written : (orders : Orders) → IsInOrders nodes orders None → IsInOrders later orders None
  ordered_written orders ordered =
      subst (λ ns. IsInOrders ns orders None) (sym (later_is ∙ ap (λ ns. with_block ns b written) middle_is))
      (ordered_kept nodes (with_block nodes b written) orders None (length-set nodes b (Some written))
      (kept_entries nodes (with_block nodes b written) None
      (file_entries nodes tree b node file written contents (fields ∙ ap (λ ns. with_contents (node_fields_at ns b) contents) middle_is) (name
      ∙ ap (λ ns. name_at ns b) middle_is) whole)) ordered)

pub ordered_none : (nodes : Blocks) (orders : Orders) → length orders.links.items ≡ length nodes → length orders.directories.items ≡ length nodes →
    ((b : ℕ) → IsNode nodes b → ⊥)
    → ((directory : Option ℕ) → (order_at orders directory).height ≡ 0) → IsInOrders nodes orders None
ordered_none nodes orders links directories none empty =
    let list : (directory : Option ℕ) → in_order orders directory ≡ [] = λ directory. no_nodes orders.links.items (order_at orders directory)
    (empty directory) in
    record {
      links = links;
      directories = directories;
      order = (λ directory. none_is orders.links.items (order_at orders directory) (empty directory));
      own = (λ directory. subst (All (IsMember nodes None directory)) (sym (list directory)) (All-nil (IsMember nodes None directory)));
      rising = (λ directory. subst (AllPairs (Rises nodes)) (sym (list directory)) (λ i j d up less. absurd (omega (arith, less))));
      all = (λ b node listed. absurd (none b node));
    }
