-- The octets of a path's names, with the octet 0 between each two of them, hold these names.
--     names_of-parted           the names of a path, put together and parted again
use Rattle.std.proofs.Common.{◌≡◌, ◌≢◌, ◌∙◌, ap, ℕ, ◌≤◌, false, [], ◌∷◌, length, refl, arith, All}
use Rattle.std.specs.List.{join_with_byte}
use Rattle.std.proofs.lemmas.Bool.{ne_eqb}
use Rattle.std.proofs.lemmas.List.Elements.{All-weaker, All-head, All-tail}
use Rattle.std.proofs.lemmas.List.Splits.{slice_split_none, slice_split_at}
use Rattle.cfdp_paths.specs.Paths.{Name, Path, IsName, IsPath, slash, is_separator, names_of}

lacks_separator : (n : Name) → IsName n → All (λ octet. is_separator octet ≡ false) n
lacks_separator n w = All-weaker (λ octet. (octet ≢ slash) × (octet ≢ 0)) (λ octet. is_separator octet ≡ false) (λ octet good. ne_eqb octet 0 good.1) n w.octets

parted : (p : Path) → 1 ≤ length p → All IsName p → names_of (join_with_byte 0 p) ≡ p
parted [] some good = absurd (omega arith)
parted (n ∷ []) some good = slice_split_none is_separator n (lacks_separator n (All-head IsName n [] good))
parted (n ∷ m ∷ p) some good =
    slice_split_at is_separator n 0 (join_with_byte 0 (m ∷ p)) (lacks_separator n (All-head IsName n (m ∷ p) good)) refl
    ∙ ap (λ x. n ∷ x) (parted (m ∷ p) (omega arith) (All-tail IsName n (m ∷ p) good))

pub names_of-parted : (p : Path) → IsPath p → names_of (join_with_byte 0 p) ≡ p
names_of-parted p good = parted p good.some good.names
