-- The block of a file, written with other octets: nodes are where they were, and are found as they were.
--     run_keeps       what the fields do not say of the blocks stays
--     fields_keep     what the fields do not say of the octets stays
--     file_entries    all nodes are where they were
--     file_index      and are in the lists of the index in which they were
--     octets_same     its contents are those that were written
use Rattle.std.proofs.Common.{◌≡◌, ℕ, ◌<◌, Bool, true, false, List, [], length, Option, Some, None, refl, sym, ap, ◌∙◌, subst, arith, length-set}
use Rattle.std.proofs.lemmas.Bool.{ne_eqb}
use Rattle.std.specs.Prelude.{◌==◌, if◌then◌else◌, unwrap_or}
use Rattle.cfdp_arena.specs.Arena.{Blocks, with_block}
use Rattle.cfdp_paths.specs.Paths.{IsName}
use Rattle.cfdp_actions.specs.declared.kind.Kind.TheVariants as kind
use Rattle.cfdp_actions.specs.Filestore.{blocks_of}
use Rattle.cfdp_tree.specs.declared.runs.Run.{Run}
use Rattle.cfdp_tree.specs.declared.contents.Contents.{Contents}
use Rattle.cfdp_tree.specs.code.NodeFields.{NodeFields, node_fields_of, node_name, kind_of_octet}
use Rattle.cfdp_tree.specs.code.Tree.{IsNode, node_fields_at, name_at, IsNamed, IsTree, SameEntries}
use Rattle.cfdp_tree.specs.code.Index.{Heads, IsIndex}
use Rattle.cfdp_tree.specs.code.Kept.{contents_of_fields}
use Rattle.cfdp_tree.specs.code.Files.{with_run, with_contents, SameOctets}
use Rattle.cfdp_tree.proofs.OfNodes.EntryLaws.{kept_by, same_entries}
use Rattle.cfdp_tree.proofs.OfIndex.OutLaws.{index_kept}

pub run_keeps : {X : Type 0} (word : NodeFields → X) (fields : NodeFields) (run : Run)
    → word (record fields { first = run.first; last = run.last }) ≡ word fields →
    word (with_run fields run) ≡ word fields
run_keeps {X = X} word fields run same = by_test (run.count == 0)
  where
    by_test : (none : Bool) → word (if none then fields else record fields { first = run.first; last = run.last }) ≡ word fields
    by_test true = refl
    by_test false = same

pub fields_keep : {X : Type 0} (word : NodeFields → X) (fields : NodeFields) (contents : Contents) →
    ((first last size sum : ℕ) → word (record fields { first = first; last = last; size = size; sum = sum }) ≡ word fields)
    → word (with_contents fields contents) ≡ word fields
fields_keep {X = X} word fields contents same = by_test (contents.run.count == 0)
  where
    by_test : (none : Bool) → word (record (if none then fields else record fields { first = contents.run.first; last = contents.run.last }) {
      size = contents.size;
      sum = contents.sum;
    }) ≡ word fields
    by_test true = same fields.first fields.last contents.size contents.sum
    by_test false = same contents.run.first contents.run.last contents.size contents.sum

-- what was written is what it says
pub octets_same : (fields : NodeFields) (contents : Contents) → contents.run.count ≡ blocks_of contents.size
    → SameOctets (contents_of_fields kind.File (with_contents fields contents)) contents
octets_same fields contents blocks = record {
  size = refl;
  sum = refl;
  count = sym blocks;
  first = (λ some. ap (λ (none : Bool). (if none then fields else record fields { first = contents.run.first; last = contents.run.last }).first)
      (not_none some));
  last = (λ some. ap (λ (none : Bool). (if none then fields else record fields { first = contents.run.first; last = contents.run.last }).last) (not_none some));
}
  where
    not_none : 0 < contents.run.count → (contents.run.count == 0) ≡ false
    not_none some = ne_eqb contents.run.count 0 (λ e. omega (arith, some, e))

module _ (nodes : Blocks) (tree : IsTree nodes) (b : ℕ) (node : IsNode nodes b) (file : kind_of_octet (node_fields_at nodes b).kind ≡ kind.File)
    (block : List ℕ)
    (contents : Contents)
    (fields : node_fields_of block ≡ with_contents (node_fields_at nodes b) contents) (name : node_name block ≡ name_at nodes b) (whole : length block ≡ 128)
  where
    abbrev new : Blocks
    new = with_block nodes b block

    keeps : {X : Type 0} (word : NodeFields → X) → ((first last size sum : ℕ) → word
        (record (node_fields_at nodes b) { first = first; last = last; size = size; sum = sum })
        ≡ word (node_fields_at nodes b)) → word (node_fields_of block) ≡ word (node_fields_at nodes b)
    keeps word same = ap word fields ∙ fields_keep word (node_fields_at nodes b) contents same

    named : IsNamed block
    named =
        let was = tree.named b node in
        record {
          whole = whole;
          fits = omega (arith, keeps (λ (r : NodeFields). r.name_length) (λ _ _ _ _. refl), was.fits);
          name = subst IsName (sym name) was.name;
        }

    pub file_kind : kind_of_octet (node_fields_of block).kind ≡ kind.File
    file_kind = ap kind_of_octet (keeps (λ (r : NodeFields). r.kind) (λ _ _ _ _. refl)) ∙ file

    pub file_entries : SameEntries nodes new
    file_entries = same_entries nodes b block node tree named
        (keeps (λ (r : NodeFields). if r.parent == b then None else Some r.parent) (λ _ _ _ _. refl)) name
        (keeps (λ (r : NodeFields). kind_of_octet r.kind) (λ _ _ _ _. refl))

    kept : {X : Type 0} (word : NodeFields → X) → ((first last size sum : ℕ) → word
        (record (node_fields_at nodes b) { first = first; last = last; size = size; sum = sum })
        ≡ word (node_fields_at nodes b))
        → (c : ℕ) → word (node_fields_at new c) ≡ word (node_fields_at nodes c)
    kept word same = kept_by nodes b block node (λ c entry. word (node_fields_of (unwrap_or entry []))) (keeps word same)

    same_head : (c : ℕ) → (node_fields_at new c).same_head ≡ (node_fields_at nodes c).same_head
    same_head = kept (λ (r : NodeFields). r.same_head) (λ _ _ _ _. refl)

    pub file_index : (heads : Heads) (out : Option ℕ) → IsIndex nodes heads out → IsIndex new heads out
    file_index heads out index = index_kept nodes new heads out file_entries same_head (length-set nodes b (Some block)) index
