-- What is at a node, as callers see it.
--     existing_directory, existing_file     without a checksum
--     entry_directory, entry_file           with it
--     file_filled                           the octets of a file
use Rattle.std.proofs.Common.{◌≡◌, ℕ, List, sym, ap, ◌∙◌, subst}
use Rattle.cfdp_checksum.specs.Checksum.{weighed_from, checksum}
use Rattle.cfdp_paths.specs.Paths.{Path}
use Rattle.cfdp_arena.specs.Arena.{Blocks}
use Rattle.cfdp_actions.specs.declared.kind.Kind.{Kind}
use Rattle.cfdp_actions.specs.declared.kind.Kind.TheVariants as kind
use Rattle.cfdp_actions.specs.declared.kind.Entry.{Entry}
use Rattle.cfdp_actions.specs.declared.kind.ExistingNode.{ExistingNode}
use Rattle.cfdp_actions.specs.Store.{listing_entry, existing_node}
use Rattle.cfdp_tree.specs.code.NodeFields.{NodeFields, node_fields_of, kind_of_octet}
use Rattle.cfdp_tree.specs.code.Contents.{IsFilled, contents_in}
use Rattle.cfdp_tree.specs.code.Kept.{contents_of_fields, file_of, node_with, node_of}
use Rattle.cfdp_tree.proofs.OfRuns.ContentsLaws.{length-contents}

abbrev existing_of_fields : Blocks → NodeFields → Path → Kind → ExistingNode
existing_of_fields arena fields path k = existing_node (path, node_with arena k (contents_of_fields k fields))

abbrev entry_of_fields : Blocks → NodeFields → Path → Kind → Entry
entry_of_fields arena fields path k = listing_entry (path, node_with arena k (contents_of_fields k fields))

module _ (arena : Blocks) (block : List ℕ) (path : Path) where
  pub existing_directory : kind.Directory ≡ kind_of_octet (node_fields_of block).kind → record { path = path; kind = kind.Directory; size = 0 }
      ≡ existing_node (path, node_of arena block)
  existing_directory e = ap (existing_of_fields arena (node_fields_of block) path) e

  pub entry_directory : kind.Directory ≡ kind_of_octet (node_fields_of block).kind → record { path = path; kind = kind.Directory; size = 0; checksum = 0 }
      ≡ listing_entry (path, node_of arena block)
  unfolding weighed_from
  entry_directory e = ap (entry_of_fields arena (node_fields_of block) path) e

  module _ (filled : IsFilled arena (file_of block)) (e : kind.File ≡ kind_of_octet (node_fields_of block).kind) where
    pub file_filled : IsFilled arena (contents_of_fields kind.File (node_fields_of block))
    file_filled = subst (λ k. IsFilled arena (contents_of_fields k (node_fields_of block))) (sym e) filled

    pub existing_file : record { path = path; kind = kind.File; size = (node_fields_of block).size } ≡ existing_node (path, node_of arena block)
    existing_file =
        (λ i. record { path = path; kind = kind.File; size = sym (length-contents arena (contents_of_fields kind.File (node_fields_of block)) file_filled) i })
        ∙ ap (existing_of_fields arena (node_fields_of block) path) e

    pub entry_file : record {
      path = path;
      kind = kind.File;
      size = (node_fields_of block).size;
      checksum = checksum (contents_in arena (contents_of_fields kind.File (node_fields_of block)));
    } ≡ listing_entry (path, node_of arena block)
    entry_file =
        (λ i. record {
          path = path;
          kind = kind.File;
          size = sym (length-contents arena (contents_of_fields kind.File (node_fields_of block)) file_filled) i;
          checksum = checksum (contents_in arena (contents_of_fields kind.File (node_fields_of block)));
        })
        ∙ ap (entry_of_fields arena (node_fields_of block) path) e
