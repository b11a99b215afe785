-- Nodes that say the same but for their links.
--     Alike                              they are where they were, and files hold what they held
--     alike_relinked                     where links of the index change
--     alike_shows                        the same is at each path
--     alike_directory, node_by_contents  directories stay;  what is at a node by what it holds
--     held_is                            what a node that is there holds
--     stays_then, runs_then              a run that stays in two steps, and all runs
use Rattle.std.proofs.Common.{◌≡◌, ℕ, List, [], Option, Some, None, is_some, refl, sym, ap, ◌∙◌}
use Rattle.std.specs.FinMap as finite
use Rattle.std.specs.Prelude.{IsSome, unwrap_or}
use Rattle.cfdp_paths.specs.Paths.{path_cmp}
use Rattle.cfdp_arena.specs.Arena.{Blocks, octets_at, octets_of}
use Rattle.cfdp_actions.specs.declared.kind.Kind.{Kind}
use Rattle.cfdp_actions.specs.declared.kind.Kind.TheVariants as kind
use Rattle.cfdp_actions.specs.Filestore.{Node}
use Rattle.cfdp_tree.specs.declared.runs.Run.{Run}
use Rattle.cfdp_tree.specs.code.NodeFields.{NodeFields, node_fields_of, kind_of_octet}
use Rattle.cfdp_tree.specs.code.Runs.{Stays, RunsStay}
use Rattle.cfdp_tree.specs.code.Tree.{IsNode, IsDirectory, node_fields_at, unlinked, Relinked, SameEntries}
use Rattle.cfdp_tree.specs.code.Kept.{contents_of_fields, file_of, file_in, node_with, node_of, Shows}
use Rattle.cfdp_tree.proofs.OfNodes.EntryLaws.{same_paths}
use Rattle.cfdp_tree.proofs.OfNodes.LinkLaws.{relinked_entries}

pub record Alike (old new : Blocks) : Type 0 where
  pub entries : SameEntries old new
  pub files : (b : ℕ) → file_in (octets_at new b) ≡ file_in (octets_at old b)

contents_unlinked : (k : Kind) (fields : NodeFields) → contents_of_fields k (unlinked fields) ≡ contents_of_fields k fields
contents_unlinked kind.File fields = refl
contents_unlinked kind.Directory fields = refl

-- what a node holds, by what it says
by_fields : (x y : Option (List ℕ)) → is_some x ≡ is_some y → unlinked (node_fields_of (unwrap_or x [])) ≡ unlinked (node_fields_of (unwrap_or y []))
    → file_in x
    ≡ file_in y
by_fields None None some all_fields = refl
by_fields None (Some y) some all_fields = cc
by_fields (Some x) None some all_fields = cc
by_fields (Some x) (Some y) some all_fields =
    sym (contents_unlinked (kind_of_octet (node_fields_of x).kind) (node_fields_of x))
    ∙ ap (λ (r : NodeFields). contents_of_fields (kind_of_octet r.kind) r) all_fields
    ∙ contents_unlinked (kind_of_octet (node_fields_of y).kind) (node_fields_of y)

pub alike_relinked : (old new : Blocks) → Relinked old new → Alike old new
alike_relinked old new links = record {
  entries = relinked_entries old new links;
  files = (λ b. by_fields (octets_at new b) (octets_at old b) (links.nodes b) (links.all_fields b));
}

pub held_is : (o : Option (List ℕ)) → IsSome o → file_of (unwrap_or o []) ≡ file_in o
held_is None some = cc
held_is (Some block) some = refl

pub node_by_contents : (arena nodes : Blocks) (b : ℕ) → IsNode nodes b → node_of arena (octets_of nodes b)
    ≡ node_with arena (kind_of_octet (node_fields_at nodes b).kind) (file_in (octets_at nodes b))
node_by_contents arena nodes b node = ap (node_with arena (kind_of_octet (node_fields_at nodes b).kind)) (held_is (octets_at nodes b) node)

module _ (old new : Blocks) (same : Alike old new) where
  pub alike_node : (b : ℕ) → IsNode new b → IsNode old b
  alike_node b node = sym (same.entries.nodes b) ∙ node

  pub alike_node_of : (arena : Blocks) (b : ℕ) → IsNode new b → node_of arena (octets_of new b) ≡ node_of arena (octets_of old b)
  alike_node_of arena b node =
      node_by_contents arena new b node ∙ (λ k. node_with arena (same.entries.kinds b k) (same.files b k))
      ∙ sym (node_by_contents arena old b (alike_node b node))

  pub alike_directory : (d : ℕ) → IsDirectory old d → IsDirectory new d
  alike_directory d was = record { node = same.entries.nodes d ∙ was.node; directory = same.entries.kinds d ∙ was.directory }

  pub alike_shows : (arena : Blocks) (F : finite.FinMap path_cmp Node) → Shows arena old F → Shows arena new F
  alike_shows arena F shows = record {
    each = (λ b node. ap (finite.get F) (same_paths old new same.entries b) ∙ shows.each b (alike_node b node) ∙ ap Some (sym (alike_node_of arena b node)));
    only = (λ p node e. (let at = shows.only p node e in (at.0, same.entries.nodes at.0 ∙ at.1, same_paths old new same.entries at.0 ∙ at.2)));
  }

pub stays_then : (first second third : Blocks) (run : Run) → Stays first second run → Stays second third run → Stays first third run
stays_then first second third run one two = record {
  held = two.held;
  octets = two.octets ∙ one.octets;
  sequence = (λ k within. two.sequence k within ∙ one.sequence k within);
}

pub runs_then : (first second third : Blocks) → RunsStay first second → RunsStay second third → RunsStay first third
runs_then first second third one two run held = (let stays = one run held in stays_then first second third run stays (two run stays.held))
