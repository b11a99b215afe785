use Rattle.std.proofs.Common.{◌≡◌, refl, ap, ◌∙◌}
use Rattle.cfdp_run.specs.Scripts.{Play, heard_at, play_of}
use Rattle.cfdp_run.specs.Stages.{play_from}
use Rattle.cfdp_run_script.specs.Steps.{script_of}
use Rattle.cfdp_run_script.proofs.Steps.{written_does}
use Rattle.cfdp_run_script.proofs.script.RunScript.receive.Goals as goal

pub returns-clause-ok : goal.returns-clause-ok
returns-clause-ok c =
    let begun : play_from c.in-Some.play ≡ play_of (script_of c.args.self.now) = rw c.in-Some.is at c.in_ok-begin.ensures.state in
    written_does _ _ c.receive.new.self _ _ _ _ refl
    (c.in_ok-receive.ensures ∙ ap (λ (p : Play). heard_at p c.args.now c.args.octets.now) begun)
    c.lines.ensures
    c.in_ok-extend_from_slice.ensures.items
