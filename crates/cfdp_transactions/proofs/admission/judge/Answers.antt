use Rattle.std.proofs.Common.{◌≡◌, refl, sym, ◌∙◌}
use Rattle.std.specs.Prelude.{IsFalse, ◌&&◌, not, true, false}
use Rattle.cfdp_verifier.specs.Answers.{verdict_said}
use Rattle.cfdp_transactions.specs.Entry.{has_file}
use Rattle.cfdp_transactions.specs.Admission.{is_known_checksum}
use Rattle.cfdp_transactions.proofs.KeptTable.EntryGranted.{verdict_in, file_known}
use Rattle.cfdp_transactions.proofs.admission.judge.Goals as goal
use Rattle.cfdp_transactions.proofs.admission.judge.Goals.{else-names_file-via-then-names_file+else-not-is_known_checksum, else-names_file-via-else-names_file}

pub returns : goal.returns
returns g c =
    let s = g.S.Filestore.state c.args.store.now in
    let m = c.args.metadata.now in
    let known : IsFalse (has_file m && not (is_known_checksum m.checksum_type)) = elim c.else-names_file.branch [
      | else-names_file-via-then-names_file+else-not-is_known_checksum w ↦
          let returned : is_known_checksum m.checksum_type ≡ true = rw (← c.metadata.view_is) (sym w.is_known_checksum.ensures
          ∙ w.if-not-is_known_checksum.false) in
          file_known (has_file m) (is_known_checksum m.checksum_type) returned
      | else-names_file-via-else-names_file w ↦ let none : has_file m ≡ false = sym c.names_file.ensures ∙ w.if-names_file.false in rw none refl
    ] in
    record {
      ruled = (
        known,
        verdict_in s c.args.books.now c.requires.booked m (verdict_said c.in_ok-verdict.verdict) c.in_ok-verdict.ensures.verdict,
        c.in_ok-verdict.ensures.footprint,
      );
    }
