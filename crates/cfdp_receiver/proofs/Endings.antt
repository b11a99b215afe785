-- Outcomes that can be written.
use Rattle.std.proofs.Common.{◌≡◌, ℕ, ◌<◌, ◌≤◌, List, [], length, false, Option, Some, None, refl, ap, ◌∙◌, arith}
use Rattle.std.specs.Prelude.{◌&&◌, nat_le, IfSome}
use Rattle.std.specs.List.{list_all}
use Rattle.std.proofs.lemmas.Bool.{cond_both}
use Rattle.cfdp_pdus.specs.declared.header.Header.{Header}
use Rattle.cfdp_pdus.specs.Values.{FinishedFields}
use Rattle.cfdp_pdus.specs.Canonical.{IsHeader, finished_field, finished_fits, is_short_response, pdu_octets}
use Rattle.cfdp_pdus.proofs.WriteSteps.{pdu_len}
use Rattle.cfdp_sessions.specs.Sessions.{SessionFields, IsEnding}
use Rattle.cfdp_sessions.specs.declared.session.Ending.{Ending}
use Rattle.cfdp_sessions.specs.declared.session.Stage.TheVariants.{Over}
use Rattle.cfdp_transactions.proofs.FinishedPdus.Lengths.{fields_fit, octets_fit}
use Rattle.cfdp_transactions.specs.declared.outcome.Outcome.{Outcome}
use Rattle.cfdp_transactions.specs.Writable.{IsWritable, finished_octets, longest_finished}
use Rattle.cfdp_receiver.specs.Turning.{caused, ending_finished, stage_outcome}

-- of a transaction that was never in the core
pub ending_writable : (s : SessionFields) (ending : Ending) → IsHeader s.header → IsEnding s.header ending → IsWritable (stage_outcome s (Over ending))
ending_writable s ending h e = record {
  header = record {
    id_low = h.id_low;
    id_high = h.id_high;
    number_low = h.number_low;
    number_high = h.number_high;
    source = h.source;
    number = h.number;
    destination = h.destination;
  };
  sized = record { condition = e.condition; file_status = omega arith; fault = e.at_fault };
  fits = fields_fit (stage_outcome s (Over ending)).header (ending_finished ending) [] [] refl h.id_high (omega arith) tt;
  most = octets_fit (stage_outcome s (Over ending)).header (ending_finished ending) [] [] refl h.id_high (omega arith) tt h.number_high;
}

field_same : (h : Header) (f : FinishedFields) (condition : ℕ) → length (finished_field h (record f { condition = condition })) ≡ length (finished_field h f)
unfolding finished_field
field_same h f condition = refl

fits_same : (h : Header) (f : FinishedFields) (condition : ℕ) → finished_fits h (record f { condition = condition }) ≡ finished_fits h f
unfolding finished_fits
fits_same h f condition = ap (λ (n : ℕ). list_all is_short_response f.responses && nat_le n 65535) (field_same h f condition)

most_same : (h : Header) (f : FinishedFields) (condition : ℕ) →
    length (pdu_octets false h (finished_field h (record f { condition = condition }))) ≡ length (pdu_octets false h (finished_field h f))
most_same h f condition =
    omega (arith, pdu_len false h (finished_field h (record f { condition = condition })), pdu_len false h (finished_field h f), field_same h f condition)

-- with the condition code for which this entity cancelled the transaction
pub caused_writable : (o : Outcome) (why : Option ℕ) → IsWritable o → IfSome why (λ condition. condition < 16) →
    IsWritable (record o { finished = caused why o.finished })
caused_writable o None w small = w
caused_writable o (Some condition) w small = record {
  header = w.header;
  sized = record { condition = small; file_status = w.sized.file_status; fault = w.sized.fault };
  fits = fits_same o.header o.finished condition ∙ w.fits;
  most = omega (arith, most_same o.header o.finished condition, w.most);
}

pub finished_short : (o : Outcome) → IsWritable o → length (finished_octets o) ≤ longest_finished
finished_short o w = cond_both o.send _ _ (λ (octets : List ℕ). length octets ≤ longest_finished) (λ _. w.most) (λ _. omega arith)
