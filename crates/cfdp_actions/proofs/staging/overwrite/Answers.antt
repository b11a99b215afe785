use Rattle.std.proofs.Common.{◌<◌, ap, sym, ◌∙◌, set, length, arith}
use Rattle.std.proofs.lemmas.List.{with_items_is}
use Rattle.cfdp_actions.specs.Store.{overwritten}
use Rattle.cfdp_actions.specs.Listed.{vector_octets}
use Rattle.cfdp_actions.proofs.StagedLaws.{octets_of-set, octets_of-at}
use Rattle.cfdp_actions.proofs.staging.overwrite.Goals as goal

pub returns-clause-list : goal.returns-clause-list
returns-clause-list c =
    let lists = c.args.staged.now.items in
    let slot = c.args.slot in
    let within : slot < length lists = omega (arith, c.args.staged.now.ok.0, c.requires.slot) in
    let v = c.index_mut.result.now in
    let before = octets_of-at lists slot v within c.index_mut.ensures.value in
    let after = with_items_is v c.overwrite_list.new.list (c.overwrite_list.auto.list ∙ c.as_mut_slice.ensures.len) in
    octets_of-set lists slot _ ∙ ap (set (vector_octets lists) slot) (after ∙ c.overwrite_list.ensures
    ∙ ap (λ xs. overwritten xs c.args.at c.args.octets.now) (c.as_mut_slice.ensures.value ∙ sym before))
