use Rattle.std.proofs.lemmas.Result.{on_ok_weaker}
use Rattle.cfdp_commands.proofs.Handing.{heard_fits, heard_stated}
use Rattle.cfdp_commands.proofs.reply_lines.receive.Goals as goal

pub write_reply-requires : goal.write_reply-requires
write_reply-requires c =
    let stated = c.in-Ok.ensures.ok in
    heard_fits c.args.entity.now c.receive.new.self c.args.octets.now stated.0 c.in-Ok.reply stated.1 stated.3

pub returns-in-Ok : goal.returns-in-Ok
returns-in-Ok c =
    let stated = c.in-Ok.ensures.ok in
    on_ok_weaker c.write_reply.result
    (λ written. heard_stated c.args.entity.now c.receive.new.self c.args.octets.now stated.0 c.in-Ok.id c.in-Ok.reply
    c.args.text.now.items c.write_reply.new.text.items stated.1 stated.2 stated.3 written)
    c.write_reply.ensures.ok
