use Rattle.std.proofs.Common.{◌∙◌, ap, cond, ◌==◌, map}
use Rattle.cfdp_paths.specs.Paths.{joined, slash}
use Rattle.cfdp_paths.proofs.Separators.{text-names_of}
use Rattle.cfdp_paths.proofs.paths.Path.text.Goals as goal

pub returns : goal.returns
returns c =
    c.in_ok-octets.ensures
    ∙ ap (map (λ octet. cond (octet == 0) slash octet)) c.deref.ensures.value
    ∙ text-names_of c.self.inside.octets.items
    ∙ ap joined c.self.view_is
