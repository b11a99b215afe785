use Rattle.std.proofs.Common.{rules, ◌≡◌, ◌<◌, length, subst}
use Rattle.std.specs.Prelude.{IfSome}
use Rattle.cfdp_command_line.proofs.Reading.{all_of_it}
use Rattle.cfdp_command_line.proofs.files.read_whole.Goals as goal

pub returns-in-Ok-clause-whole : goal.returns-in-Ok-clause-whole
returns-in-Ok-clause-whole g c =
    let few : length c.read_to_end.new.buf.items < c.take-limited.result.limit = search rules in
    subst (λ input. IfSome (g.I.Read.remaining input) (λ all. c.read_to_end.new.buf.items ≡ all)) c.take-limited.ensures.inner
    (all_of_it _ _ _ _ c.in-Ok.ensures.bytes c.new-octets.ensures.items few)
