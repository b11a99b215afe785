use Rattle.std.proofs.Common.{◌≡◌, arith, ap, sym, ◌∙◌}
use Rattle.std.specs.Prelude.{◌||◌, bytes_eq}
use Rattle.std.specs.List.{list_any}
use Rattle.cfdp_run.specs.Scripts.{is_written}
use Rattle.cfdp_run.proofs.play.is_among.Goals as goal

pub returns-then-eq : goal.returns-then-eq
unfolding is_written
returns-then-eq c =
    let line = c.args.line.now in
    let first : is_written c.lines.rest.now line ≡ bytes_eq c.first_line.result.0.now line || is_written c.first_line.result.1.now line =
    ap (list_any (λ one. bytes_eq one line)) c.first_line.ensures.lines in
    sym (sym c.lines.invariant.same ∙ first ∙ ap (λ b. b || is_written c.first_line.result.1.now line) (sym c.eq.ensures ∙ c.if-eq.true))

pub lines-preserved : goal.lines-preserved
unfolding is_written
lines-preserved c =
    let line = c.args.line.now in
    let first : is_written c.lines.rest.now line ≡ bytes_eq c.first_line.result.0.now line || is_written c.first_line.result.1.now line =
    ap (list_any (λ one. bytes_eq one line)) c.first_line.ensures.lines in
    record {
      same = sym (ap (λ b. b || is_written c.first_line.result.1.now line) (sym c.eq.ensures ∙ c.if-eq.false)) ∙ sym first ∙ c.lines.invariant.same;
      short = omega (arith, c.first_line.ensures.shorter, c.lines.invariant.short);
    }
