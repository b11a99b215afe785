-- What the program does with the Metadata of a transaction that is not in the table.
--     IsRuled W m ruling        what becomes of it: its checksum type is not supported, or else it has this verdict
--     AddsEntry W V e           one entry more, and nothing else changes
use Rattle.std.specs.Prelude.{◌≡◌, ◌&&◌, not, IsTrue, IsFalse}
use Rattle.cfdp_pdus.specs.Values.{MetadataFields}
use Rattle.cfdp_verifier.specs.Answers.{verdict_said, HasFootprint}
use Rattle.cfdp_verifier.specs.Verdict.{verdict}
use Rattle.cfdp_transactions.specs.Entry.{Entry, has_file}
use Rattle.cfdp_transactions.specs.World.{World, leases_of, spare_blocks}
use Rattle.cfdp_transactions.specs.Admission.{is_known_checksum, proposal_of, with_new}
use Rattle.cfdp_transactions.specs.declared.admission.Ruling.{Ruling}
use Rattle.cfdp_transactions.specs.declared.admission.Ruling.TheVariants.{Unsupported, Judged}

abbrev pub IsRuled : World → MetadataFields → Ruling → Type 0
IsRuled W m Unsupported = IsTrue (has_file m && not (is_known_checksum m.checksum_type))
IsRuled W m (Judged v) =
    IsFalse (has_file m && not (is_known_checksum m.checksum_type))
    × (verdict_said v ≡ verdict W.config.prefixes W.filestore (leases_of W.table) (spare_blocks W)
    (proposal_of W.config m))
    × HasFootprint v

abbrev pub AddsEntry : World → World → Entry → Type 0
AddsEntry W V e = V ≡ with_new W e
