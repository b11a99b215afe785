use Rattle.std.proofs.Common.{sym, ◌∙◌, ap, subst, inl, length, Ok, Some}
use Rattle.cfdp_paths.specs.Paths.{IsPath, Spells, names_in}
use Rattle.cfdp_paths.proofs.Separators.{names_of-spelled}
use Rattle.cfdp_paths.proofs.Spelling.{names_in-spelled, path_of_spelled}
use Rattle.cfdp_paths.proofs.Faulty.{path_from_no_fault, spelled_from_no_fault, fault-unspelled, no_path_from_fault}
use Rattle.cfdp_paths.proofs.paths.Path.parse.Goals as goal

pub returns-in-Err-clause-only : goal.returns-in-Err-clause-only
returns-in-Err-clause-only c = λ path h. absurd (fault-unspelled c.args.octets.now path c.in-Err.fault c.in-Err.ensures h)

pub returns-in-Err-clause-path_of : goal.returns-in-Err-clause-path_of
returns-in-Err-clause-path_of c = λ _. no_path_from_fault c.args.octets.now c.in-Err.fault c.in-Err.ensures

pub invariant_of-result : goal.invariant_of-result
invariant_of-result c =
    let octets = c.args.octets.now in
    let path = path_from_no_fault octets c.in-Ok.ensures.0 in
    let same = names_of-spelled octets c.strip_slash.result.now c.in_ok-octets.octets.items path c.strip_slash.ensures c.in_ok-octets.ensures in
    (subst IsPath (sym same) path, c.in-Ok.ensures.1 ∙ ap length (sym same))

pub returns-clause-path : goal.returns-clause-path
returns-clause-path c =
    let octets = c.args.octets.now in
    let none = c.in-Ok.ensures.0 in
    subst (Spells octets) (sym (names_of-spelled octets c.strip_slash.result.now c.in_ok-octets.octets.items
    (path_from_no_fault octets none) c.strip_slash.ensures c.in_ok-octets.ensures))
    (spelled_from_no_fault octets none)

pub returns-clause-only : goal.returns-clause-only
returns-clause-only c =
    let octets = c.args.octets.now in
    let none = c.in-Ok.ensures.0 in
    let same = names_of-spelled octets c.strip_slash.result.now c.in_ok-octets.octets.items
    (path_from_no_fault octets none) c.strip_slash.ensures c.in_ok-octets.ensures in
    λ path h. inl (ap (λ p. Ok p) (same ∙ names_in-spelled octets path h))

pub returns-clause-path_of : goal.returns-clause-path_of
returns-clause-path_of c =
    let octets = c.args.octets.now in
    let none = c.in-Ok.ensures.0 in
    let same = names_of-spelled octets c.strip_slash.result.now c.in_ok-octets.octets.items
    (path_from_no_fault octets none) c.strip_slash.ensures c.in_ok-octets.ensures in
    path_of_spelled octets (names_in octets) (spelled_from_no_fault octets none) ∙ ap (λ p. Some p) (sym same)
