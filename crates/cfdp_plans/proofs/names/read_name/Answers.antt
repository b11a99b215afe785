use Rattle.std.proofs.Common.{length, sym, ◌∙◌, eqb-true}
use Rattle.cfdp_plans.specs.Names.{name_in}
use Rattle.cfdp_plans.proofs.NamesAndLines.{octets_taken, name_finished}
use Rattle.cfdp_plans.proofs.names.read_name.Goals as goal

pub octets-preserved : goal.octets-preserved
octets-preserved c =
    octets_taken (name_in c.args.text.now) (name_in c.octets.rest.now) (name_in c.in-Some.others.now) c.octets.name.items c.push.new.self.items
    c.in-Some.octet c.octets.invariant c.in-Some.ensures.some c.in_ok-push.ensures.items

pub returns : goal.returns
returns c =
    name_finished c.octets.name.items (name_in c.args.text.now) c.octets.rest.now
    (eqb-true (length c.octets.rest.now) 0 (sym c.is_empty.ensures ∙ c.octets-test.false)) c.octets.invariant
