use Rattle.std.proofs.Common.{◌<◌, ap, sym, ◌∙◌, set, length, arith}
use Rattle.cfdp_actions.specs.Store.{extended}
use Rattle.cfdp_actions.specs.Listed.{vector_octets}
use Rattle.cfdp_paths.proofs.Results.{on_err}
use Rattle.cfdp_actions.proofs.StagedLaws.{octets_of-set, octets_of-at, octets_of-same, extended_is}
use Rattle.cfdp_actions.proofs.staging.extend.Goals as goal

pub returns-clause-ok : goal.returns-clause-ok
returns-clause-ok c =
    let lists = c.args.staged.now.items in
    let slot = c.args.slot in
    let v = c.index_mut.result.now in
    let within : slot < length lists = omega (arith, c.args.staged.now.ok.0, c.requires.slot) in
    let before = octets_of-at lists slot v within c.index_mut.ensures.value in
    let grown = extended_is v.items v.len c.args.size v.ok.0 (omega (arith, c.requires.longer, ap length before, v.ok.0)) in
    octets_of-set lists slot c.resize.new.self ∙ ap (set (vector_octets lists) slot) (c.in_ok-resize.ensures.items ∙ grown
    ∙ ap (λ xs. extended xs c.args.size) (sym before))

pub returns-in_err-resize-clause-err : goal.returns-in_err-resize-clause-err
returns-in_err-resize-clause-err c =
    let lists = c.args.staged.now.items in
    let within : c.args.slot < length lists = omega (arith, c.args.staged.now.ok.0, c.requires.slot) in
    on_err c.from_residual.result _ (octets_of-same lists c.args.slot c.index_mut.result.now c.resize.new.self within c.index_mut.ensures.value
    c.in_err-resize.ensures.items)
