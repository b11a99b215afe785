use Rattle.std.proofs.Common.{◌≡◌, ◌∙◌, ◌||◌, false, ap, ap₂}
use Rattle.clap.specs.declared.builder.arg.Arg.{Arg}
use Rattle.cfdp_command_line.proofs.Program.{files_rule_is, links_is, range_is}
use Rattle.cfdp_command_line.proofs.words.links_command.Goals as goal

-- the argument is of this command alone
local : (c : goal.In_ok-command) → c.num_args-files.result.global ≡ false
local c =
    ap (λ (a : Arg). a.global) c.num_args-files.ensures.0 ∙ ap (λ (a : Arg). a.global) c.required.ensures ∙ c.new.ensures.optional.1

pub returns-clause-shape : goal.returns-clause-shape
returns-clause-shape c =
    let range = range_is c.num_args-files.result.num_vals _ _ c.new-2.ensures.start c.new-2.ensures.end c.num_args-files.ensures.1 in
    let rule = files_rule_is _ _ _ c.new.ensures.rule c.required.ensures c.num_args-files.ensures.0 range in
    links_is _ _ _ c.new-3.ensures.app rule (c.in_ok-command.ensures.shape (local c))

pub returns-clause-local : goal.returns-clause-local
returns-clause-local c = c.in_ok-command.ensures.globals ∙ ap₂ (λ a b. a || b) c.new-3.ensures.local (local c)
