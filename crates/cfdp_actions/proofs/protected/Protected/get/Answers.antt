use Rattle.std.proofs.Common.{◌<◌, ◌≤◌, length, arith, sym, ◌∙◌, ap}
use Rattle.std.specs.List.{slice_get}
use Rattle.std.proofs.lemmas.Option.{slice_get_past}
use Rattle.cfdp_actions.proofs.PresentLaws.{present_at}
use Rattle.cfdp_actions.proofs.protected.Protected.get.Goals as goal

pub returns : goal.returns
returns c =
    let items = c.self.inside.prefixes.items in
    let found = c.in_ok-get.ensures.lookup in
    let there : c.args.index < length items = omega (arith, found.3.0, ap length c.as_slice.ensures.value) in
    let exists = present_at items c.args.index c.in_ok-get.field-0.now c.self.invariant there in
    c.as_ref.ensures.value ∙ (rw c.as_slice.ensures.value at found.1) ∙ exists ∙ ap (λ paths. slice_get paths c.args.index) c.self.view_is

pub returns-in_err-get : goal.returns-in_err-get
returns-in_err-get c =
    let items = c.self.inside.prefixes.items in
    let past : length items ≤ c.args.index = omega (arith, c.in_err-get.ensures.lookup.3, ap length c.as_slice.ensures.value) in
    let none = sym (slice_get_past _ c.args.index (omega (arith, past, c.self.invariant))) in
    rw c.from_residual.ensures (none ∙ ap (λ paths. slice_get paths c.args.index) c.self.view_is)
