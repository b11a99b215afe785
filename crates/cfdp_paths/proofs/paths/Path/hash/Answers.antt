use Rattle.std.proofs.Common.{sym, ◌∙◌, ap}
use Rattle.std.specs.Hash.FoldHasher as hasher
use Rattle.std.specs.List.{join_with_byte}
use Rattle.std.proofs.lemmas.List.Splits.{join_with_byte-slice_split}
use Rattle.cfdp_paths.proofs.paths.Path.hash.Goals as goal

pub returns : goal.returns
returns c =
    let octets = c.deref.ensures.value ∙ sym (join_with_byte-slice_split 0 c.self.inside.octets.items) ∙ ap (join_with_byte 0) c.self.view_is in
    c.finish.ensures ∙ ap hasher.finish (c.write.ensures ∙ ap (λ h. hasher.write h c.deref.result.now) c.default-hasher.ensures
    ∙ ap (hasher.write hasher.initial) octets)
