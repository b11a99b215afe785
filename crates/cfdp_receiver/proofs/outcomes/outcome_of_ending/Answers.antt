use Rattle.std.proofs.Common.{ap, subst, ◌∙◌}
use Rattle.cfdp_pdus.specs.Canonical.{IsHeader}
use Rattle.cfdp_sessions.specs.Sessions.{SessionFields, IsEnding}
use Rattle.cfdp_sessions.specs.code.Sessions.{IsSizedStage}
use Rattle.cfdp_sessions.specs.declared.session.Stage.{Stage}
use Rattle.cfdp_receiver.specs.State.{turned_header}
use Rattle.cfdp_receiver.proofs.Endings.{ending_writable}
use Rattle.cfdp_receiver.proofs.outcomes.outcome_of_ending.Goals as goal

pub returns-clause-writable : goal.returns-clause-writable
returns-clause-writable c =
    let s = c.args.session.now in
    let ending = c.args.ending in
    let v = c.session.view_is in
    let header : IsHeader s.header = subst (λ (x : SessionFields). IsHeader x.header) v c.session.invariant.header in
    let sized : IsEnding s.header ending =
    subst (λ (stage : Stage). IsSizedStage s.header stage) c.requires
    (subst (λ (x : SessionFields). IsSizedStage x.header x.stage) v c.session.invariant.sized) in
    let turned_of = c.turned.ensures ∙ ap (λ (x : SessionFields). turned_header x.header) v in
    rw (turned_of, c.new.ensures.items) (ending_writable s ending header sized)
