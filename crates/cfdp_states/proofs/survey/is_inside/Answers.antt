use Rattle.std.proofs.Common.{◌≡◌, ◌<◌, true, get_or, sym, ◌∙◌, arith, ltb-true}
use Rattle.std.proofs.lemmas.List.{get_or_default}
use Rattle.cfdp_paths.specs.Paths.{is_at_or_below}
use Rattle.cfdp_states.proofs.Surveys.{inside_earlier}
use Rattle.cfdp_states.proofs.survey.is_inside.Goals as goal

pub returns-then-earlier-index : goal.returns-then-earlier-index
returns-then-earlier-index c = λ h root is.
    let roots = c.args.roots.now in
    let first = c.index-roots-earlier.result in
    let here : root ≡ c.index-roots-index.result = is ∙ get_or_default roots c.args.index root c.index-roots-index.result c.requires.within
    ∙ sym c.index-roots-index.is in
    let there : get_or roots c.args.earlier root ≡ first = get_or_default roots c.args.earlier root first
    (omega (arith, c.if-earlier-index.true, c.requires.within)) ∙ sym c.index-roots-earlier.is in
    let below : is_at_or_below root (get_or roots c.args.earlier root) ≡ true = (λ i. is_at_or_below (here i) (there i)) ∙ sym c.is_at_or_below.ensures ∙ h in
    inside_earlier roots c.args.earlier c.args.index root c.if-earlier-index.true (omega (arith, c.requires.within)) below

pub returns-else-earlier-index : goal.returns-else-earlier-index
returns-else-earlier-index c = λ h root is.
    let less : c.args.earlier < c.args.index = ltb-true c.args.earlier c.args.index h in
    absurd (omega (arith, less, c.if-earlier-index.false))
