-- Looking for a cut field, as a loop does.
use Rattle.std.proofs.Common.{◌≡◌, List, [], ◌∷◌, Option, Some, None, Result, Ok, Err, refl, sym, ◌∙◌}
use Rattle.cfdp_pdus.specs.declared.fault.PduFault.{PduFault}
use Rattle.cfdp_pdus.specs.declared.fault.PduFault.TheVariants.{BadTlv}
use Rattle.cfdp_pdus.specs.Grammar.{Field}
use Rattle.cfdp_pdus.specs.First.{all_whole}

pub goes_on : (fields after : List (Option Field)) (field : Field) (total : Result (Unit {0}) PduFault) → fields ≡ Some field ∷ after →
    all_whole fields ≡ total → all_whole after ≡ total
unfolding all_whole
goes_on fields after field total read so_far =
    let one : all_whole fields ≡ all_whole after = rw read refl in
    sym one ∙ so_far

pub cut : (fields after : List (Option Field)) (total : Result (Unit {0}) PduFault) → fields ≡ None ∷ after → all_whole fields ≡ total → total ≡ Err BadTlv
unfolding all_whole
cut fields after total read so_far =
    let one : all_whole fields ≡ Err BadTlv = rw read refl in
    sym so_far ∙ one

pub is_done : (fields : List (Option Field)) (total : Result (Unit {0}) PduFault) → fields ≡ [] → all_whole fields ≡ total → total ≡ Ok tt
unfolding all_whole
is_done fields total none so_far =
    let one : all_whole fields ≡ Ok tt = rw none refl in
    sym so_far ∙ one
