use Rattle.std.proofs.Common.{Some, ap, ◌∙◌}
use Rattle.std.specs.FinMap.{find, put}
use Rattle.std.specs.List.{insert}
use Rattle.std.specs.Option.{option_copied}
use Rattle.cfdp_paths.specs.Paths.{path_cmp}
use Rattle.cfdp_paths.specs.code.Paths.{path_in}
use Rattle.cfdp_paths.proofs.InOrder.{same_index, put_at, put_between, value_at, ordered-put}
use Rattle.cfdp_paths.proofs.path_map.PathMap.put.Goals as goal

pub invariant_of-self : goal.invariant_of-self
invariant_of-self g c =
    let k = c.args.path.now in
    let es = c.self.inside.entries.items in
    let at = same_index k (path_in (option_copied c.octets.result)) es c.deref.result.now c.in-Ok.index c.octets.ensures.path c.deref.ensures.value
    c.in-Ok.ensures.found in
    ordered-put k c.replace.new.dest es _ (put_at k c.replace.new.dest es c.in-Ok.index c.index_mut.result.now at c.index_mut.ensures.value) c.self.invariant

pub invariant_of-self-in-Err : goal.invariant_of-self-in-Err
invariant_of-self-in-Err g c =
    let k = c.args.path.now in
    let es = c.self.inside.entries.items in
    ordered-put k c.args.value es _
    ((c.in_ok-insert-in-Err.ensures.items ∙ ap (λ p. insert c.self.inside.entries.items c.in-Err.index (p, c.args.value)) c.in_ok-copy-in-Err.ensures)
    ∙ put_between k (path_in (option_copied c.octets.result)) c.args.value es c.deref.result.now c.in-Err.index c.octets.ensures.path c.deref.ensures.value
    c.in-Err.ensures.absent c.in-Err.ensures.index)
    c.self.invariant

pub returns-in-Ok-clause-old : goal.returns-in-Ok-clause-old
returns-in-Ok-clause-old g c =
    let k = c.args.path.now in
    let es = c.self.inside.entries.items in
    let at = same_index k (path_in (option_copied c.octets.result)) es c.deref.result.now c.in-Ok.index c.octets.ensures.path c.deref.ensures.value
    c.in-Ok.ensures.found in
    ap Some c.replace.ensures.value ∙ value_at k es c.in-Ok.index c.index_mut.result.now at c.index_mut.ensures.value ∙ ap (find path_cmp k) c.self.view_is

pub returns-in-Ok-clause-ok : goal.returns-in-Ok-clause-ok
returns-in-Ok-clause-ok g c =
    let k = c.args.path.now in
    let es = c.self.inside.entries.items in
    let at = same_index k (path_in (option_copied c.octets.result)) es c.deref.result.now c.in-Ok.index c.octets.ensures.path c.deref.ensures.value
    c.in-Ok.ensures.found in
    put_at k c.replace.new.dest es c.in-Ok.index c.index_mut.result.now at c.index_mut.ensures.value
    ∙ ap (λ v. put path_cmp k v es) c.replace.ensures.after ∙ ap (put path_cmp k c.args.value) c.self.view_is

pub returns-in_ok-insert-in-Err-clause-ok : goal.returns-in_ok-insert-in-Err-clause-ok
returns-in_ok-insert-in-Err-clause-ok g c =
    let k = c.args.path.now in
    (c.in_ok-insert-in-Err.ensures.items ∙ ap (λ p. insert c.self.inside.entries.items c.in-Err.index (p, c.args.value)) c.in_ok-copy-in-Err.ensures)
    ∙ put_between k (path_in (option_copied c.octets.result)) c.args.value c.self.inside.entries.items c.deref.result.now c.in-Err.index c.octets.ensures.path
    c.deref.ensures.value c.in-Err.ensures.absent
    c.in-Err.ensures.index
    ∙ ap (put path_cmp k c.args.value) c.self.view_is
