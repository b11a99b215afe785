use Rattle.std.proofs.Common.{sym, ap, ◌∙◌}
use Rattle.cfdp_actions.specs.Filestore.{octets_in}
use Rattle.cfdp_actions.proofs.ShownLaws.{found_some, found_none}
use Rattle.cfdp_actions.proofs.content.octets_at.Goals as goal

pub returns-in-Some : goal.returns-in-Some
returns-in-Some c = c.octets.ensures ∙ ap octets_in (sym (found_some c.args.path.now c.args.entries.now c.in-Some.content.now c.in-Some.ensures))

pub returns-in-None : goal.returns-in-None
returns-in-None c = ap octets_in (sym (found_none c.args.path.now c.args.entries.now c.in-None.ensures))
