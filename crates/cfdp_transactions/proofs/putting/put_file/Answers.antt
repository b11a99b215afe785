use Rattle.std.proofs.Common.{sym, ap, ◌∙◌}
use Rattle.cfdp_actions.specs.Filestore.{File}
use Rattle.cfdp_quota.specs.Budget.{unreserved}
use Rattle.cfdp_transactions.specs.code.Books.{world_of}
use Rattle.cfdp_transactions.proofs.Beginnings.PutThere.{CanPut, can_put, no_memory, file_weight, none_live}
use Rattle.cfdp_transactions.proofs.Beginnings.StartWhole.{put_booked, room_in}
use Rattle.cfdp_transactions.proofs.putting.put_file.Goals as goal

pub returns-in-Some-clause-err : goal.returns-in-Some-clause-err
returns-in-Some-clause-err g c = λ other. sym (c.fault.ensures (File c.args.octets.now)
    (file_weight c.args.octets.now c.div_ceil-blocks.result c.div_ceil-blocks.ensures)) ∙ c.in-Some.is

pub returns-in-Some-clause-thrifty : goal.returns-in-Some-clause-thrifty
returns-in-Some-clause-thrifty g c = λ thrifty.
    no_memory (world_of (g.S.Filestore.state c.args.store.now) c.args.books.now) c.args.path.now (File c.args.octets.now) c.in-Some.why
    (sym (c.fault.ensures (File c.args.octets.now) (file_weight c.args.octets.now c.div_ceil-blocks.result c.div_ceil-blocks.ensures)) ∙ c.in-Some.is)

pub write_file-requires-clause-absent : goal.write_file-requires-clause-absent
write_file-requires-clause-absent g c =
    (can_put (world_of (g.S.Filestore.state c.args.store.now) c.args.books.now) c.args.path.now (File c.args.octets.now)
    (sym (c.fault.ensures (File c.args.octets.now) (file_weight c.args.octets.now c.div_ceil-blocks.result c.div_ceil-blocks.ensures))
    ∙ c.in_default.is)).absent

pub write_file-requires-clause-parent : goal.write_file-requires-clause-parent
write_file-requires-clause-parent g c =
    (can_put (world_of (g.S.Filestore.state c.args.store.now) c.args.books.now) c.args.path.now (File c.args.octets.now)
    (sym (c.fault.ensures (File c.args.octets.now) (file_weight c.args.octets.now c.div_ceil-blocks.result c.div_ceil-blocks.ensures))
    ∙ c.in_default.is)).parent

pub write_file-requires-clause-room : goal.write_file-requires-clause-room
write_file-requires-clause-room g c =
    room_in (g.S.Filestore.state c.args.store.now) c.args.books.now c.args.path.now (File c.args.octets.now) c.requires.booked
    (sym (c.fault.ensures (File c.args.octets.now) (file_weight c.args.octets.now c.div_ceil-blocks.result c.div_ceil-blocks.ensures)) ∙ c.in_default.is)

pub returns-clause-ok : goal.returns-clause-ok
returns-clause-ok g c = sym (c.fault.ensures (File c.args.octets.now) (file_weight c.args.octets.now c.div_ceil-blocks.result c.div_ceil-blocks.ensures))
    ∙ c.in_default.is

pub returns-clause-booked : goal.returns-clause-booked
returns-clause-booked g c =
    put_booked (g.S.Filestore.state c.args.store.now) (g.S.Filestore.state c.write_file.new.store) c.args.books.now c.args.path.now
    (File c.args.octets.now) c.with_free-books.result
    c.requires.booked (sym (c.fault.ensures (File c.args.octets.now) (file_weight c.args.octets.now c.div_ceil-blocks.result c.div_ceil-blocks.ensures))
    ∙ c.in_default.is) c.in-Ok.ensures.made
    (c.with_free-books.ensures ∙ ap (λ n. unreserved n c.free.result) c.blocks-2.ensures.value
    ∙ ap (unreserved c.args.books.now.config.blocks) c.free.ensures.value)

pub write_file-requires-clause-unstaged : goal.write_file-requires-clause-unstaged
write_file-requires-clause-unstaged g c =
    let can : CanPut (world_of (g.S.Filestore.state c.args.store.now) c.args.books.now) c.args.path.now (File c.args.octets.now) =
    can_put (world_of (g.S.Filestore.state c.args.store.now) c.args.books.now) c.args.path.now (File c.args.octets.now)
    (sym (c.fault.ensures (File c.args.octets.now) (file_weight c.args.octets.now c.div_ceil-blocks.result c.div_ceil-blocks.ensures)) ∙ c.in_default.is) in
    c.requires.sound.vacant 0 (none_live (world_of (g.S.Filestore.state c.args.store.now) c.args.books.now) 0 can.idle)
