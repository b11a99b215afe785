use Rattle.std.proofs.Common.{◌≡◌, ℕ, List, Option, Some, None, arith}
use Rattle.std.specs.Prelude.{◌<◌, slice_index_or, IfSome, Ok}
use Rattle.cfdp_pdus.specs.Canonical.{IsHeader}
use Rattle.cfdp_pdus.specs.First.{pdu_at}
use Rattle.cfdp_pdus.specs.Values.{FileDataFields}
use Rattle.cfdp_pdus.specs.declared.header.Header.{Header}
use Rattle.cfdp_pdus.specs.declared.pdu.Pdu.TheVariants as pdus
use Rattle.cfdp_pdus.proofs.PduSteps.{pdu_takes}
use Rattle.cfdp_pdus.proofs.SoundSteps.{octets_from, pdu_sound}
use Rattle.cfdp_receiver.proofs.reading.read_data.Goals as goal

header_is : (octets : List ℕ) → ((i : ℕ) → slice_index_or octets i 0 < 256) → (came : Option (Header × FileDataFields)) →
    IfSome came (λ c. pdu_at octets ≡ Ok (pdus.FileData c.0 c.1)) → IfSome came (λ c. IsHeader c.0)
header_is octets small None is = tt
header_is octets small (Some c) is = (pdu_sound octets (pdus.FileData c.0 c.1) (octets_from octets small) (pdu_takes octets (pdus.FileData c.0 c.1) is)).0

pub returns-clause-header : goal.returns-clause-header
returns-clause-header c = header_is c.args.octets.now (λ i. omega (arith, c.type_inv.octets i)) c.read_piece.result c.read_piece.ensures.found
