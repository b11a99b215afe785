use Rattle.std.proofs.Common.{refl, sym, ap, ◌∙◌}
use Rattle.cfdp_actions.specs.Filestore.{Directory}
use Rattle.cfdp_quota.specs.Budget.{unreserved}
use Rattle.cfdp_transactions.specs.code.Books.{world_of}
use Rattle.cfdp_transactions.proofs.Beginnings.PutThere.{can_put, no_memory}
use Rattle.cfdp_transactions.proofs.Beginnings.StartWhole.{put_booked, room_in}
use Rattle.cfdp_transactions.proofs.putting.put_directory.Goals as goal

pub returns-in-Some-clause-err : goal.returns-in-Some-clause-err
returns-in-Some-clause-err g c = λ other. sym (c.fault.ensures Directory refl) ∙ c.in-Some.is

pub returns-in-Some-clause-thrifty : goal.returns-in-Some-clause-thrifty
returns-in-Some-clause-thrifty g c = λ thrifty.
    no_memory (world_of (g.S.Filestore.state c.args.store.now) c.args.books.now) c.args.path.now Directory c.in-Some.why (sym (c.fault.ensures Directory refl)
    ∙ c.in-Some.is)

pub make_dir-requires-clause-absent : goal.make_dir-requires-clause-absent
make_dir-requires-clause-absent g c =
    (can_put (world_of (g.S.Filestore.state c.args.store.now) c.args.books.now) c.args.path.now Directory (sym (c.fault.ensures Directory refl)
    ∙ c.in_default.is)).absent

pub make_dir-requires-clause-parent : goal.make_dir-requires-clause-parent
make_dir-requires-clause-parent g c =
    (can_put (world_of (g.S.Filestore.state c.args.store.now) c.args.books.now) c.args.path.now Directory (sym (c.fault.ensures Directory refl)
    ∙ c.in_default.is)).parent

pub make_dir-requires-clause-room : goal.make_dir-requires-clause-room
make_dir-requires-clause-room g c =
    room_in (g.S.Filestore.state c.args.store.now) c.args.books.now c.args.path.now Directory c.requires.booked (sym (c.fault.ensures Directory refl)
    ∙ c.in_default.is)

pub returns-clause-ok : goal.returns-clause-ok
returns-clause-ok g c = sym (c.fault.ensures Directory refl) ∙ c.in_default.is

pub returns-clause-booked : goal.returns-clause-booked
returns-clause-booked g c =
    put_booked (g.S.Filestore.state c.args.store.now) (g.S.Filestore.state c.make_dir.new.self) c.args.books.now c.args.path.now Directory
    c.with_free-books.result
    c.requires.booked (sym (c.fault.ensures Directory refl) ∙ c.in_default.is) c.in-Ok.ensures.made
    (c.with_free-books.ensures ∙ ap (λ n. unreserved n c.free.result) c.blocks-2.ensures.value
    ∙ ap (unreserved c.args.books.now.config.blocks) c.free.ensures.value)
