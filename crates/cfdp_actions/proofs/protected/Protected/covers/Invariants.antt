use Rattle.std.proofs.Common.{◌≡◌, drop}
use Rattle.std.specs.List.{list_any}
use Rattle.cfdp_paths.specs.Paths.{is_at_or_below}
use Rattle.cfdp_actions.specs.code.Prefixes.{present}
use Rattle.cfdp_actions.proofs.protected.Protected.covers.Given as goal

-- no prefix that was passed covers the path
abbrev pub invariant-loop-prefix : goal.invariant-loop-prefix
invariant-loop-prefix l =
    list_any (λ prefix. is_at_or_below l.path prefix) (present (drop l.prefix-index l.prefix-items))
    ≡ list_any (λ prefix. is_at_or_below l.path prefix) (present l.prefix-items)
