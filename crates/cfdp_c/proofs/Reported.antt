-- What is said of the entry that is next.
--     next_fields    it is reported, where its path and its numbers are
use Rattle.std.proofs.Common.{◌≡◌, ℕ, List, Some, length, refl, ap, ◌∙◌}
use Rattle.cfdp_paths.specs.Paths.{Path}
use Rattle.cfdp_actions.specs.Filestore.{Filestore, Node, Directory, File, octets_in}
use Rattle.cfdp_actions.specs.Store.{kind_of}
use Rattle.cfdp_actions.specs.declared.kind.Kind.{Kind}
use Rattle.cfdp_checksum.specs.Checksum.{checksum, weighed_from}
use Rattle.cfdp_tree.specs.Next.{IsNextEntry}
use Rattle.cfdp_tree.specs.declared.next.NextEntry.{NextEntry}
use Rattle.cfdp_c.specs.Next.{IsNextAfter, spelled_fields}
use Rattle.cfdp_c.specs.code.Next.{kind_number}
use Rattle.cfdp_c.specs.Stored.{node_fields}
use Rattle.cfdp_c.specs.declared.fields.EntryFields.{EntryFields}
use Rattle.cfdp_c.specs.declared.fields.PathFields.{PathFields}

abbrev pub numbers_of : Kind → ℕ → ℕ → EntryFields
numbers_of kind size sum = record { kind = kind_number kind; checksum = sum; size = size }

of_node : (node : Node) → numbers_of (kind_of node) (length (octets_in (Some node))) (checksum (octets_in (Some node))) ≡ node_fields node
unfolding weighed_from
of_node Directory = refl
of_node (File octets) = refl

pub next_fields : (F : Filestore) (p : Path) (octets : List ℕ) (e : NextEntry) → IsNextEntry F p octets e →
    (path : PathFields) (entry : EntryFields) → path ≡ spelled_fields octets → entry ≡ numbers_of e.kind e.size e.checksum → IsNextAfter F p path entry
next_fields F p octets e is path entry path_is entry_is = record {
  next = is.path;
  node = is.node;
  there = is.there;
  is_next = is.is_next;
  path_is = path_is ∙ ap spelled_fields is.spelled;
  entry_is = entry_is ∙ (λ i. numbers_of (is.kind i) (is.size i) (is.checksum i)) ∙ of_node is.node;
}
