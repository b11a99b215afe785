use Rattle.std.proofs.Common.{refl}
use Rattle.cfdp_sessions.specs.Sessions.{SessionFields}
use Rattle.cfdp_sessions.specs.declared.session.Stage.TheVariants.{Waiting}
use Rattle.cfdp_sessions.proofs.Setters.{changed}
use Rattle.cfdp_sessions.proofs.sessions.Sessions.wait.Goals as goal

pub invariant_of-self : goal.invariant_of-self
invariant_of-self c =
    let kept =
    changed (λ (s : SessionFields). record s {
      stage = Waiting;
      has_changed = c.args.has_changed;
      finished = c.args.finished.items;
      timer = c.args.timer;
    }) (λ s. refl)
    c.self.inside.list.items c.args.self.now c.args.index _
    c.index_mut-session.result.now c.self.view_is c.session.view_is c.self.invariant.2 c.requires.here c.index_mut-session.ensures.value in
    (c.self.invariant.0, c.self.invariant.1, kept.0)

pub returns : goal.returns
returns c =
    let kept =
    changed (λ (s : SessionFields). record s {
      stage = Waiting;
      has_changed = c.args.has_changed;
      finished = c.args.finished.items;
      timer = c.args.timer;
    }) (λ s. refl)
    c.self.inside.list.items c.args.self.now c.args.index _
    c.index_mut-session.result.now c.self.view_is c.session.view_is c.self.invariant.2 c.requires.here c.index_mut-session.ensures.value in
    kept.1
