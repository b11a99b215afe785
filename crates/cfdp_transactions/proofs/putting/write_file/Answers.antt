use Rattle.cfdp_transactions.proofs.Beginnings.PutThere.{file_put, room_for_file}
use Rattle.cfdp_transactions.proofs.putting.write_file.Goals as goal

pub install-requires-clause-room : goal.install-requires-clause-room
install-requires-clause-room g c = λ absent.
    room_for_file (g.S.Filestore.state c.args.store.now) c.args.path.now c.args.octets.now (g.S.Filestore.state c.stage_extend.new.self)
    (g.S.Filestore.state c.stage_put.new.self)
    c.requires.slots c.requires.unstaged c.in_ok-stage_extend.ensures.extended c.stage_put.ensures c.requires.room

pub returns-in-Ok-clause-made : goal.returns-in-Ok-clause-made
returns-in-Ok-clause-made g c =
    file_put (g.S.Filestore.state c.args.store.now) c.args.path.now c.args.octets.now (g.S.Filestore.state c.stage_extend.new.self)
    (g.S.Filestore.state c.stage_put.new.self) (g.S.Filestore.state c.install.new.self)
    c.requires.slots c.requires.unstaged c.in_ok-stage_extend.ensures.extended c.stage_put.ensures c.in-Ok.ensures.installed
