use Rattle.cfdp_pdus.proofs.PduSteps.{pdu_found, pdu_only, pdu_again}
use Rattle.std.proofs.Common.{arith, sym, subst, ◌∙◌, ◌≡◌, Result, Ok}
use Rattle.cfdp_pdus.proofs.SoundSteps.{octets_from, is_sound}
use Rattle.cfdp_pdus.specs.declared.pdu.Pdu.{Pdu}
use Rattle.cfdp_pdus.specs.declared.fault.PduFault.{PduFault}
use Rattle.cfdp_pdus.specs.First.{pdu_at}
use Rattle.cfdp_pdus.specs.code.Sound.{GivesLean}
use Rattle.cfdp_pdus.proofs.read.read_pdu.Goals as goal

pub returns-clause-found : goal.returns-clause-found
returns-clause-found c = pdu_found c.args.octets.now c.read_whole.result c.read_whole.ensures.exact

pub returns-clause-only : goal.returns-clause-only
returns-clause-only c = pdu_only c.args.octets.now c.read_whole.result c.read_whole.ensures.exact

pub returns-clause-sound : goal.returns-clause-sound
returns-clause-sound c = is_sound c.args.octets.now c.read_whole.result (octets_from c.args.octets.now (λ i. omega (arith, c.type_inv.octets i)))
    (pdu_found c.args.octets.now c.read_whole.result c.read_whole.ensures.exact)

pub returns-clause-lean : goal.returns-clause-lean
returns-clause-lean c = λ pdu spelled lean.
    let read : pdu_at c.args.octets.now ≡ Ok pdu = pdu_again c.args.octets.now pdu spelled in
    c.read_whole.ensures.lean (subst (λ (r : Result Pdu PduFault). GivesLean r) (sym read) lean) ∙ read
