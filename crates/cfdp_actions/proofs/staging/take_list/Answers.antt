use Rattle.std.proofs.Common.{ap, ◌∙◌, set, ℕ, Vec}
use Rattle.std.specs.declared.alloc.Global.{Global}
use Rattle.cfdp_actions.specs.Listed.{vector_octets}
use Rattle.cfdp_actions.proofs.StagedLaws.{octets_of-set}
use Rattle.cfdp_actions.proofs.staging.take_list.Goals as goal

pub returns-clause-emptied : goal.returns-clause-emptied
returns-clause-emptied c =
    octets_of-set c.args.staged.now.items c.args.slot c.replace.new.dest
    ∙ ap (set (vector_octets c.args.staged.now.items) c.args.slot) (ap (λ (v : Vec ℕ Global). v.items) c.replace.ensures.after ∙ c.new.ensures.items)
