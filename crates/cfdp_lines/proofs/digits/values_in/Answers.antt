use Rattle.std.proofs.Common.{refl, sym}
use Rattle.std.proofs.lemmas.List.{map-id}
use Rattle.std.proofs.lemmas.Simd.{splat_is_map, zip2_of_maps}
use Rattle.cfdp_lines.proofs.Vectors.{greater, lesser, values_are}
use Rattle.cfdp_lines.proofs.digits.values_in.Goals as goal

pub returns : goal.returns
returns c =
    let v = c.args.octets in
    let long = c.requires.long in
    let same = sym (map-id v) in
    values_are v _ c.requires _
    (lesser _ _ _ v
    (zip2_of_maps _ _ _ v
    (greater _ _ _ v (zip2_of_maps _ _ _ v same (splat_is_map v 16 198 long)) (splat_is_map v 16 6 long))
    (splat_is_map v 16 246 long))
    (zip2_of_maps _ _ _ v
    (lesser _ _ _ v (zip2_of_maps _ _ _ v (zip2_of_maps _ _ _ v same (splat_is_map v 16 223 long)) (splat_is_map v 16 65 long)) (splat_is_map v 16 245 long))
    (splat_is_map v 16 10 long)))
    refl
