use Rattle.std.proofs.Common.{◌≡◌, None, Ok, ap, sym, ◌∙◌}
use Rattle.cfdp_actions.specs.Filestore.{File}
use Rattle.cfdp_transactions.specs.World.{World}
use Rattle.cfdp_run.specs.Putting.{with_put, room_wrong}
use Rattle.cfdp_run.proofs.Heads.{with_put-table, with_put-staged, put_in_head}
use Rattle.cfdp_run.proofs.head.Head.put_file.Goals as goal

pub invariant_of-self-2 : goal.invariant_of-self-2
invariant_of-self-2 c =
    let W = c.args.self.now.entity in
    let put : c.put_file.new.entity ≡ with_put W c.args.path.now (File c.args.octets.now) =
    c.put_file.ensures.put (c.in_ok-wrong.was ∙ ap Ok c.in_default.is) in
    record {
      fits = c.args.self.now.fits;
      idle = ap (λ (V : World). V.table) put ∙ with_put-table W c.args.path.now (File c.args.octets.now) ∙ c.args.self.now.idle;
      staged = ap (λ (V : World). V.filestore.staged) put ∙ with_put-staged W c.args.path.now (File c.args.octets.now) ∙ c.args.self.now.staged;
    }

pub returns-clause-ok : goal.returns-clause-ok
returns-clause-ok c =
    let W = c.args.self.now.entity in
    let put : c.put_file.new.entity ≡ with_put W c.args.path.now (File c.args.octets.now) =
    c.put_file.ensures.put (c.in_ok-wrong.was ∙ ap Ok c.in_default.is) in
    let room : room_wrong W c.args.path.now (File c.args.octets.now) ≡ None = sym c.in_ok-wrong.ensures.room ∙ c.in_default.is in
    put_in_head c.args.self.now.mib W c.put_file.new.entity c.args.self.now.protected c.args.self.now.has_begun c.args.path.now
    (File c.args.octets.now) put room
