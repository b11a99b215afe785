use Rattle.std.proofs.Common.{length, ap, sym, ◌∙◌, arith}
use Rattle.std.specs.Prelude.{slice_get}
use Rattle.cfdp_sessions.proofs.Indexes.{found_at, found_none}
use Rattle.cfdp_sessions.proofs.sessions.Sessions.find.Goals as goal

pub returns-then-index-len-clause-some : goal.returns-then-index-len-clause-some
returns-then-index-len-clause-some c = found_at c.args.self.now c.args.id ∙ ap (slice_get c.args.self.now) (sym c.index_of-index.ensures)

pub returns-else-index-len-clause-none : goal.returns-else-index-len-clause-none
returns-else-index-len-clause-none c =
    found_none c.args.self.now c.args.id (omega (arith, c.if-index-len.false, c.len.ensures, c.index_of-index.ensures, ap length c.self.view_is))
