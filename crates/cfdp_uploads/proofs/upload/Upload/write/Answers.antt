use Rattle.std.proofs.Common.{sym, arith}
use Rattle.std.proofs.lemmas.Bool.{ltb-true}
use Rattle.cfdp_uploads.proofs.Pieces.{piece_written, end_written, spelled_at}
use Rattle.cfdp_uploads.proofs.upload.Upload.write.Goals as goal

pub returns-then-number-eq0-clause-spelled : goal.returns-then-number-eq0-clause-spelled
returns-then-number-eq0-clause-spelled c = spelled_at c.self.view_is c.self.invariant c.args.number

pub returns-in-Some-clause-ok : goal.returns-in-Some-clause-ok
returns-in-Some-clause-ok c =
    piece_written c.self.view_is c.args.number c.in-Some.index.now c.deref.result.now c.piece.result c.write_piece.result c.args.out.now.items
    c.write_piece.new.out.items (omega (arith, c.if-number-eq0.false)) c.deref.ensures.value
    (ltb-true _ _ (sym c.in-Some.ensures.lookup.0)) c.in-Some.ensures.lookup.1 c.piece.ensures c.write_piece.ensures.ok

pub returns-in-Some-clause-spelled : goal.returns-in-Some-clause-spelled
returns-in-Some-clause-spelled c = spelled_at c.self.view_is c.self.invariant c.args.number

pub returns-in-None-clause-ok : goal.returns-in-None-clause-ok
returns-in-None-clause-ok c =
    end_written c.self.view_is c.args.number c.deref.result.now c.eof.result c.write_eof.result c.args.out.now.items c.write_eof.new.out.items
    (omega (arith, c.if-number-eq0.false)) c.deref.ensures.value c.in-None.ensures.lookup.3 c.requires c.eof.ensures c.write_eof.ensures.ok

pub returns-in-None-clause-spelled : goal.returns-in-None-clause-spelled
returns-in-None-clause-spelled c = spelled_at c.self.view_is c.self.invariant c.args.number
