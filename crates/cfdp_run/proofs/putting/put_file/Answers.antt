use Rattle.std.proofs.Common.{◌≡◌, ◌+◌, ◌≤◌, Some, None, length, map, arith, ap, sym, subst, ◌∙◌}
use Rattle.cfdp_actions.specs.Filestore.{File, weight}
use Rattle.cfdp_transactions.specs.Beginning.{put_fault}
use Rattle.cfdp_transactions.specs.Restart.{CanPutAll, put_all}
use Rattle.cfdp_transactions.specs.World.{free}
use Rattle.cfdp_transactions.proofs.Beginnings.PutThere.{file_weight}
use Rattle.cfdp_run.specs.Putting.{as_directory, missing, needed}
use Rattle.cfdp_run.proofs.Puts.{puts_at, no_room, has_room, free_in}
use Rattle.cfdp_run.proofs.putting.put_file.Goals as goal

pub returns-then-from-len-clause-room : goal.returns-then-from-len-clause-room
returns-then-from-len-clause-room c =
    let W = c.args.entity.now in
    let there : c.free.result ≡ free W = free_in _ W c.store.result.now _ c.core.ensures c.store.ensures.filestore c.store.ensures.capacity
    c.free.ensures.value in
    let weighs : weight (Some (File c.args.octets.now)) ≡ 1 + c.div_ceil-blocks.result = file_weight c.args.octets.now _ c.div_ceil-blocks.ensures in
    let few : length c.in_ok-parents.parents.items ≡ length (missing W.filestore c.args.path.now) = ap length c.in_ok-parents.ensures.paths in
    sym (no_room W c.args.path.now (File c.args.octets.now) (omega (arith, there, few, weighs, c.if-from-len.true)))

pub make_directories-requires : goal.make_directories-requires
make_directories-requires c =
    let W = c.args.entity.now in
    let there : c.free.result ≡ free W = free_in _ W c.store.result.now _ c.core.ensures c.store.ensures.filestore c.store.ensures.capacity
    c.free.ensures.value in
    let weighs : weight (Some (File c.args.octets.now)) ≡ 1 + c.div_ceil-blocks.result = file_weight c.args.octets.now _ c.div_ceil-blocks.ensures in
    let few : length c.in_ok-parents.parents.items ≡ length (missing W.filestore c.args.path.now) = ap length c.in_ok-parents.ensures.paths in
    let enough : needed W.filestore c.args.path.now (File c.args.octets.now) ≤ free W = omega (arith, there, few, weighs, c.if-from-len.false) in
    let listed : c.deref.result.now ≡ missing W.filestore c.args.path.now = c.deref.ensures.value ∙ c.in_ok-parents.ensures.paths in
    subst (λ (paths : _). CanPutAll W (map as_directory paths)) (sym listed)
    (puts_at W c.args.path.now (File c.args.octets.now) c.in_ok-parents.ensures.within c.requires.idle c.requires.vacant enough).can

pub unreachable-requires : goal.unreachable-requires
unreachable-requires c =
    let W = c.args.entity.now in
    let there : c.free.result ≡ free W = free_in _ W c.store.result.now _ c.core.ensures c.store.ensures.filestore c.store.ensures.capacity
    c.free.ensures.value in
    let weighs : weight (Some (File c.args.octets.now)) ≡ 1 + c.div_ceil-blocks.result = file_weight c.args.octets.now _ c.div_ceil-blocks.ensures in
    let few : length c.in_ok-parents.parents.items ≡ length (missing W.filestore c.args.path.now) = ap length c.in_ok-parents.ensures.paths in
    let enough : needed W.filestore c.args.path.now (File c.args.octets.now) ≤ free W = omega (arith, there, few, weighs, c.if-from-len.false) in
    let listed : c.deref.result.now ≡ missing W.filestore c.args.path.now = c.deref.ensures.value ∙ c.in_ok-parents.ensures.paths in
    let last = (puts_at W c.args.path.now (File c.args.octets.now) c.in_ok-parents.ensures.within c.requires.idle c.requires.vacant enough).last in
    let made : c.make_directories.new.entity ≡ put_all W (map as_directory (missing W.filestore c.args.path.now)) =
    c.make_directories.ensures ∙ ap (λ (paths : _). put_all W (map as_directory paths)) listed in
    let none : put_fault c.make_directories.new.entity c.args.path.now (File c.args.octets.now) ≡ None =
    ap (λ (V : _). put_fault V c.args.path.now (File c.args.octets.now)) made ∙ last in
    let some = c.in_default.ensures.err in
    absurd cc

pub returns-clause-room : goal.returns-clause-room
returns-clause-room c =
    let W = c.args.entity.now in
    let there : c.free.result ≡ free W = free_in _ W c.store.result.now _ c.core.ensures c.store.ensures.filestore c.store.ensures.capacity
    c.free.ensures.value in
    let weighs : weight (Some (File c.args.octets.now)) ≡ 1 + c.div_ceil-blocks.result = file_weight c.args.octets.now _ c.div_ceil-blocks.ensures in
    let few : length c.in_ok-parents.parents.items ≡ length (missing W.filestore c.args.path.now) = ap length c.in_ok-parents.ensures.paths in
    sym (has_room W c.args.path.now (File c.args.octets.now) (omega (arith, there, few, weighs, c.if-from-len.false)))
