use Rattle.std.proofs.Common.{Some, ap, sym, subst, IfOk, ◌∙◌}
use Rattle.std.specs.FinMap.{find, put}
use Rattle.std.specs.Option.{option_copied}
use Rattle.cfdp_paths.specs.Paths.{path_cmp}
use Rattle.cfdp_paths.specs.code.Paths.{path_in}
use Rattle.cfdp_paths.specs.code.PathMaps.{IsIndexOf}
use Rattle.cfdp_paths.proofs.InOrder.{same_index, put_at, value_at, ordered-put}
use Rattle.cfdp_paths.proofs.path_map.PathMap.exchange.Goals as goal

pub invariant_of-self : goal.invariant_of-self
invariant_of-self g c =
    let k = c.args.path.now in
    let es = c.self.inside.entries.items in
    let q = path_in (option_copied c.octets.result) in
    let found = subst (λ r. IfOk r (λ index. IsIndexOf q c.deref.result.now index)) c.unwrap-index.ensures c.search.ensures.found in
    let at = same_index k q es c.deref.result.now c.unwrap-index.result c.octets.ensures.path c.deref.ensures.value found in
    ordered-put k c.replace.new.dest es _ (put_at k c.replace.new.dest es c.unwrap-index.result c.index_mut.result.now at c.index_mut.ensures.value)
    c.self.invariant

pub returns-clause-old : goal.returns-clause-old
returns-clause-old g c =
    let k = c.args.path.now in
    let es = c.self.inside.entries.items in
    let q = path_in (option_copied c.octets.result) in
    let found = subst (λ r. IfOk r (λ index. IsIndexOf q c.deref.result.now index)) c.unwrap-index.ensures c.search.ensures.found in
    let at = same_index k q es c.deref.result.now c.unwrap-index.result c.octets.ensures.path c.deref.ensures.value found in
    sym (ap Some c.replace.ensures.value ∙ value_at k es c.unwrap-index.result c.index_mut.result.now at c.index_mut.ensures.value
    ∙ ap (find path_cmp k) c.self.view_is)

pub returns-clause-put : goal.returns-clause-put
returns-clause-put g c =
    let k = c.args.path.now in
    let es = c.self.inside.entries.items in
    let q = path_in (option_copied c.octets.result) in
    let found = subst (λ r. IfOk r (λ index. IsIndexOf q c.deref.result.now index)) c.unwrap-index.ensures c.search.ensures.found in
    let at = same_index k q es c.deref.result.now c.unwrap-index.result c.octets.ensures.path c.deref.ensures.value found in
    put_at k c.replace.new.dest es c.unwrap-index.result c.index_mut.result.now at c.index_mut.ensures.value
    ∙ ap (λ v. put path_cmp k v es) c.replace.ensures.after ∙ ap (put path_cmp k c.args.value) c.self.view_is
