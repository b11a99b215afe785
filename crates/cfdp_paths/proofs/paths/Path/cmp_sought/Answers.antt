use Rattle.std.proofs.Common.{sym, ◌∙◌, ap}
use Rattle.std.specs.Option.{option_copied}
use Rattle.cfdp_paths.specs.Paths.{path_cmp, names_of}
use Rattle.cfdp_paths.specs.code.Paths.{path_in}
use Rattle.cfdp_paths.proofs.Separators.{path_cmp-names_of}
use Rattle.cfdp_paths.proofs.paths.Path.cmp_sought.Goals as goal

pub returns-in-Some : goal.returns-in-Some
returns-in-Some c =
    let sought = c.in-Some.sought.now in
    c.order.ensures
    ∙ sym (path_cmp-names_of c.deref.result.now sought)
    ∙ ap (λ octets. path_cmp (names_of octets) (names_of sought)) c.deref.ensures.value
    ∙ ap (λ p. path_cmp p (names_of sought)) c.self.view_is
    ∙ ap (λ o. path_cmp c.args.self.now (path_in (option_copied o))) (sym c.in-Some.is)
