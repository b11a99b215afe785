use Rattle.std.proofs.Common.{◌≡◌, sym, false}
use Rattle.cfdp_pdus.proofs.DirectiveSteps.{field_is_no_file_data}
use Rattle.cfdp_pdus.proofs.read.read_piece.Goals as goal

pub returns-then-not-start-clause-none : goal.returns-then-not-start-clause-none
returns-then-not-start-clause-none c =
    let other : c.in-Ok.start.file_data ≡ false = cc in
    rw (sym c.in-Ok.ensures) (field_is_no_file_data c.in-Ok.start other)
