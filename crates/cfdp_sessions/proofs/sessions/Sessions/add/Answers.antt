use Rattle.std.proofs.Common.{◌≡◌, List, length, None, sym, ap, subst, ◌∙◌, arith}
use Rattle.cfdp_sessions.specs.Sessions.{AreDistinct, SessionFields, found, session_id}
use Rattle.cfdp_sessions.proofs.Names.{added_distinct}
use Rattle.cfdp_sessions.proofs.sessions.Sessions.add.Goals as goal

pub invariant_of-self : goal.invariant_of-self
invariant_of-self c =
    let free : found c.self.inside.list.items (session_id c.args.session) ≡ None =
    ap (λ (xs : List SessionFields). found xs (session_id c.args.session)) c.self.view_is ∙ c.requires.new in (
      omega (arith, c.requires.room, c.push_reserved.ensures.len, ap length c.self.view_is),
      omega (arith, c.self.invariant.1, c.push_reserved.ensures.capacity),
      subst AreDistinct (sym c.push_reserved.ensures.items) (added_distinct c.self.inside.list.items c.args.session c.self.invariant.2 free),
    )
