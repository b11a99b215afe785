use Rattle.std.proofs.Common.{sym, ◌∙◌, ap, ◌+◌, eqb-true, eq-eqb}
use Rattle.std.proofs.lemmas.Bool.{true≢false}
use Rattle.cfdp_paths.proofs.Below.{child_from_below, length-child, below_from_child}
use Rattle.cfdp_paths.proofs.paths.Path.is_child_of.Goals as goal

pub returns-then-is_at_or_below : goal.returns-then-is_at_or_below
returns-then-is_at_or_below c =
    let path = c.depth.ensures.within in (
      (λ h. child_from_below c.args.self.now c.args.other.now (sym c.depth.ensures.depth ∙ eqb-true _ _ h
          ∙ ap (λ n. n + 1) c.depth-then-is_at_or_below.ensures.depth) (sym c.is_at_or_below.ensures ∙ c.if-is_at_or_below.true)),
      (λ e. eq-eqb _ _ (c.depth.ensures.depth ∙ length-child c.args.self.now c.args.other.now path.some e
          ∙ ap (λ n. n + 1) (sym c.depth-then-is_at_or_below.ensures.depth))),
    )

pub returns-else-is_at_or_below : goal.returns-else-is_at_or_below
returns-else-is_at_or_below c = (
  (λ h. absurd (true≢false (sym h ∙ c.if-is_at_or_below.false))),
  (λ e. c.is_at_or_below.ensures ∙ below_from_child c.args.self.now c.args.other.now e),
)
