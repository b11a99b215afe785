use Rattle.std.proofs.Common.{ap, ◌∙◌, if◌then◌else◌}
use Rattle.std.specs.List.{insert}
use Rattle.std.specs.Option.{option_copied}
use Rattle.cfdp_paths.specs.code.Paths.{path_in}
use Rattle.cfdp_paths.proofs.InOrder.{same_index, put_at, put_between}
use Rattle.cfdp_paths.proofs.path_map.put_reserved.Goals as goal

pub returns-in-Ok-clause-put : goal.returns-in-Ok-clause-put
returns-in-Ok-clause-put g c =
    let k = c.args.path in
    let es = c.args.entries.now.items in
    put_at k c.args.value es c.in-Ok.index c.index_mut.result.now
    (same_index k (path_in (option_copied c.octets.result)) es c.deref.result.now c.in-Ok.index c.octets.ensures.path c.deref.ensures.value
    c.in-Ok.ensures.found)
    c.index_mut.ensures.value

pub returns-in-Err-clause-put : goal.returns-in-Err-clause-put
returns-in-Err-clause-put g c =
    let k = c.args.path in
    let es = c.args.entries.now.items in
    c.insert.ensures.items ∙ ap (λ b. if b then insert es c.in-Err.index (k, c.args.value) else es) (c.insert.ensures.succeeds c.requires.room)
    ∙ put_between k (path_in (option_copied c.octets.result)) c.args.value es c.deref.result.now c.in-Err.index c.octets.ensures.path c.deref.ensures.value
    c.in-Err.ensures.absent c.in-Err.ensures.index
