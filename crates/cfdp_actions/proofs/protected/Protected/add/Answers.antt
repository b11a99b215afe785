use Rattle.std.proofs.Common.{◌≡◌, ℕ, ◌<◌, ◌≤◌, Bool, false, ◌==◌, List, [], ◌∷◌, ◌++◌, Option, Some, None, refl, ap, ◌∙◌, arith, length-append}
use Rattle.std.proofs.lemmas.Bool.Decides.{nat_tests}
use Rattle.cfdp_paths.specs.Paths.{Path}
use Rattle.cfdp_actions.specs.code.Prefixes.{present}
use Rattle.cfdp_actions.proofs.protected.Protected.add.Goals as goal

present-push : (slots : List (Option Path)) (path : Path) → present (slots ++ Some path ∷ []) ≡ present slots ++ path ∷ []
present-push [] path = refl
present-push (None ∷ slots) path = present-push slots path
present-push (Some p ∷ slots) path = ap (λ paths. p ∷ paths) (present-push slots path)

room_left : (n cap : ℕ) (b : Bool) → b ≡ (n == cap) → b ≡ false → n ≤ cap → n < cap
room_left n cap b e f h = grind (arith, nat_tests)

pub invariant_of-self : goal.invariant_of-self
invariant_of-self c =
    let before = c.self.inside.prefixes.items in
    rw (c.push.ensures.items, present-push before c.args.path, length-append (present before) (c.args.path ∷ []), length-append before (Some c.args.path ∷ []))
    (omega (arith, c.self.invariant))

pub returns-clause-ok : goal.returns-clause-ok
returns-clause-ok c = ap present c.push.ensures.items ∙ present-push c.self.inside.prefixes.items c.args.path
    ∙ ap (λ paths. paths ++ c.args.path ∷ []) c.self.view_is

pub returns-clause-few : goal.returns-clause-few
returns-clause-few c =
    let before = c.self.inside.prefixes.items in
    let room = room_left _ 8 _ c.is_full.ensures.value c.if-is_full.false c.is_full.ensures.fits in
    rw (c.push.ensures.items, present-push before c.args.path, length-append (present before) (c.args.path ∷ [])) (omega (arith, c.self.invariant, room))
