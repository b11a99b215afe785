use Rattle.std.proofs.Common.{◌≡◌, List, length, Some, refl, sym, ap, subst, ◌∙◌, arith}
use Rattle.cfdp_sessions.specs.Sessions.{SessionFields, IsEnding}
use Rattle.std.specs.Prelude.{slice_get}
use Rattle.std.proofs.lemmas.Option.{slice_get_read}
use Rattle.cfdp_sessions.specs.declared.session.Stage.TheVariants.{Over}
use Rattle.cfdp_sessions.proofs.Setters.{changed}
use Rattle.cfdp_sessions.proofs.sessions.Sessions.end.Goals as goal

pub invariant_of-session : goal.invariant_of-session
invariant_of-session c =
    let old = c.index_mut-session.result.now in
    let at : slice_get c.args.self.now c.args.index ≡ Some old =
    ap (λ (xs : List SessionFields). slice_get xs c.args.index) (sym c.self.view_is)
    ∙ slice_get_read c.self.inside.list.items (length c.self.inside.list.items) c.args.index old refl
    (omega (arith, c.requires.here, ap length c.self.view_is)) c.index_mut-session.ensures.value in
    record {
      header = c.session.invariant.header;
      sized = subst (λ (s : SessionFields). IsEnding s.header c.args.ending) (sym c.session.view_is) (c.requires.sized old at);
      counted = c.session.invariant.counted;
      cause = c.session.invariant.cause;
      finished = c.session.invariant.finished;
    }

pub invariant_of-self : goal.invariant_of-self
invariant_of-self c =
    let kept =
    changed (λ (s : SessionFields). record s { stage = Over c.args.ending }) (λ s. refl)
    c.self.inside.list.items c.args.self.now c.args.index _
    c.index_mut-session.result.now c.self.view_is c.session.view_is c.self.invariant.2 c.requires.here c.index_mut-session.ensures.value in
    (c.self.invariant.0, c.self.invariant.1, kept.0)

pub returns : goal.returns
returns c =
    let kept =
    changed (λ (s : SessionFields). record s { stage = Over c.args.ending }) (λ s. refl)
    c.self.inside.list.items c.args.self.now c.args.index _
    c.index_mut-session.result.now c.self.view_is c.session.view_is c.self.invariant.2 c.requires.here c.index_mut-session.ensures.value in
    kept.1
