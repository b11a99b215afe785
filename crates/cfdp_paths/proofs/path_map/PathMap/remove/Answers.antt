use Rattle.std.proofs.Common.{ap, sym, ◌∙◌}
use Rattle.std.specs.FinMap.{find}
use Rattle.std.specs.Option.{option_copied}
use Rattle.cfdp_paths.specs.Paths.{path_cmp}
use Rattle.cfdp_paths.specs.code.Paths.{path_in}
use Rattle.cfdp_paths.specs.PathMaps.{without}
use Rattle.cfdp_paths.proofs.InOrder.{same_index, value_at, removed_at, without_none, ordered-where}
use Rattle.cfdp_paths.proofs.path_map.PathMap.remove.Goals as goal

pub returns-in_default-clause-removed : goal.returns-in_default-clause-removed
returns-in_default-clause-removed g c =
    let k = c.args.path.now in
    let same = c.deref.ensures.value ∙ c.self.view_is in
    sym (without_none k c.args.self.now (sym (ap (λ p. find path_cmp p c.deref.result.now) c.octets.ensures.path ∙ ap (find path_cmp k) same)
    ∙ c.in_default.ensures.absent))

pub invariant_of-self : goal.invariant_of-self
invariant_of-self g c =
    let k = c.args.path.now in
    let es = c.self.inside.entries.items in
    let at = same_index k (path_in (option_copied c.octets.result)) es c.deref.result.now c.in-Ok.index c.octets.ensures.path c.deref.ensures.value
    c.in-Ok.ensures.found in
    ordered-where _ es _ (c.remove-value.ensures.items ∙ removed_at k es c.in-Ok.index c.remove-value.result c.self.invariant at c.remove-value.ensures.value)
    c.self.invariant

pub returns-clause-value : goal.returns-clause-value
returns-clause-value g c =
    let k = c.args.path.now in
    let es = c.self.inside.entries.items in
    let at = same_index k (path_in (option_copied c.octets.result)) es c.deref.result.now c.in-Ok.index c.octets.ensures.path c.deref.ensures.value
    c.in-Ok.ensures.found in
    value_at k es c.in-Ok.index c.remove-value.result at c.remove-value.ensures.value ∙ ap (find path_cmp k) c.self.view_is

pub returns-clause-removed : goal.returns-clause-removed
returns-clause-removed g c =
    let k = c.args.path.now in
    let es = c.self.inside.entries.items in
    let at = same_index k (path_in (option_copied c.octets.result)) es c.deref.result.now c.in-Ok.index c.octets.ensures.path c.deref.ensures.value
    c.in-Ok.ensures.found in
    c.remove-value.ensures.items ∙ removed_at k es c.in-Ok.index c.remove-value.result c.self.invariant at c.remove-value.ensures.value
    ∙ ap (without k) c.self.view_is
