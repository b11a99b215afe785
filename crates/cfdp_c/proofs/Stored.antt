-- What the calls from C say of the filestore.
--     directory_found            a directory as a struct
--     copied, not_copied         octets of a file were copied;  there is no file
use Rattle.std.proofs.Common.{◌≡◌, ℕ, List, Option, Some, None, refl, ap, ◌∙◌, sym}
use Rattle.std.specs.Option.{option_map}
use Rattle.std.proofs.lemmas.Option.{none-some, same_Some}
use Rattle.cfdp_checksum.specs.Checksum.{weighed_from}
use Rattle.cfdp_actions.specs.Filestore.{Node, Directory, File, octets_in}
use Rattle.cfdp_actions.specs.declared.kind.Kind.TheVariants as kind
use Rattle.cfdp_tree.specs.declared.listing.Found.{Found}
use Rattle.cfdp_tree.specs.Found.{found_of, octets_read, with_octets}
use Rattle.cfdp_tree.proofs.OfRuns.CopiedLaws.{none_copied}
use Rattle.cfdp_c.specs.Answers.{answer_code}
use Rattle.cfdp_c.specs.declared.answer.CallAnswer.TheVariants.{Done, Nothing}
use Rattle.cfdp_c.specs.Stored.{CopiesFile, node_fields}

pub directory_found : (node : Option Node) (found : Found) → Some found ≡ option_map found_of node → found.kind ≡ kind.Directory →
    Some (record { kind = 2; checksum = found.checksum; size = found.size }) ≡ option_map node_fields node
unfolding weighed_from
directory_found None found reported is = absurd (none-some found (sym reported))
directory_found (Some Directory) found reported is = (λ k. Some (record {
  kind = 2;
  checksum = (same_Some _ _ reported k).checksum;
  size = (same_Some _ _ reported k).size;
}))
directory_found (Some (File octets)) found reported is = absurd (no_file (sym is ∙ ap (λ (f : Found). f.kind) (same_Some _ _ reported)))
  where
    no_file : kind.Directory ≡ kind.File → ⊥
    no_file e = cc

pub copied : (node : Option Node) (at count before : ℕ) (out written : List ℕ) → Some count ≡ octets_read node at out → written
    ≡ with_octets (octets_in node) at out
    → CopiesFile node at out written before count (answer_code Done)
copied None at count before out written counted octets = absurd (none-some count (sym counted))
copied (Some Directory) at count before out written counted octets = absurd (none-some count (sym counted))
copied (Some (File file)) at count before out written counted octets = ((same_Some _ _ counted, octets), refl)

pub not_copied : (node : Option Node) (at before : ℕ) (out written : List ℕ) → None ≡ octets_read node at out → written ≡ with_octets (octets_in node) at out
    → CopiesFile node at out written before before (answer_code Nothing)
not_copied None at before out written counted octets = (octets ∙ none_copied at out, refl, refl)
not_copied (Some Directory) at before out written counted octets = (octets ∙ none_copied at out, refl, refl)
not_copied (Some (File file)) at before out written counted octets = absurd (none-some _ counted)
