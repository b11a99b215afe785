use Rattle.std.proofs.Common.{◌≡◌, map, drop, cond, ◌==◌, sym, ◌∙◌, ap, subst, Some}
use Rattle.std.proofs.lemmas.List.{drop-map}
use Rattle.cfdp_paths.specs.Paths.{IsPath, names_in, slash}
use Rattle.cfdp_paths.proofs.Separators.{names_of-spelled}
use Rattle.cfdp_paths.proofs.Spelling.{path_of_spelled}
use Rattle.cfdp_paths.proofs.Faulty.{path_from_no_fault, spelled_from_no_fault}
use Rattle.cfdp_paths.proofs.lent_names.Names.lend.Goals as goal

-- the names that are lent are those between the `/`
lent : (c : goal.After-from_offset) → c.from_offset.result ≡ names_in c.args.octets.now
lent c =
    let octets = c.args.octets.now in
    let start = c.slash_len-start.result in
    let made : drop start c.replace.new.octets ≡ map (λ octet. cond (octet == slash) 0 octet) (drop start octets) =
    ap (drop start) c.replace.ensures ∙ drop-map (λ octet. cond (octet == slash) 0 octet) start octets in
    c.from_offset.ensures
    ∙ names_of-spelled octets (drop start octets) (drop start c.replace.new.octets) (path_from_no_fault octets c.requires) c.slash_len-start.ensures.rest made

pub returns-clause-names : goal.returns-clause-names
returns-clause-names c =
    let octets = c.args.octets.now in
    path_of_spelled octets (names_in octets) (spelled_from_no_fault octets c.requires) ∙ ap (λ p. Some p) (sym (lent c))

pub returns-clause-within : goal.returns-clause-within
returns-clause-within c = subst IsPath (sym (lent c)) (path_from_no_fault c.args.octets.now c.requires)
