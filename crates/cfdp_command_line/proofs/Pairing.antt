-- Lists whose elements are paired, in order.
use Rattle.std.proofs.Common.{◌≡◌, List, [], ◌∷◌, ◌++◌, length, append-nil, ap, arith, refl, subst, suc}
use Rattle.cfdp_command_line.specs.Files.{AllPaired}

-- once nothing is left
pub paired_all : {X Y : Type 0} (P : X → Y → Type 0) (xs rest : List X) (ys : List Y)
    → ((more : List Y) → AllPaired P rest more → AllPaired P xs (ys ++ more)) → length rest ≡ 0 → AllPaired P xs ys
paired_all P xs [] ys all none = subst (λ zs. AllPaired P xs zs) (append-nil ys) (all [] tt)
paired_all P xs (r ∷ rest) ys all none = absurd (omega arith)

pub paired_length : {X Y : Type 0} (P : X → Y → Type 0) (xs : List X) (ys : List Y) → AllPaired P xs ys → length ys ≡ length xs
paired_length P [] [] all = refl
paired_length P (x ∷ xs) (y ∷ ys) all = ap suc (paired_length P xs ys all.1)
paired_length P [] (y ∷ ys) all = absurd all
paired_length P (x ∷ xs) [] all = absurd all

pub paired_through : {X Y Z : Type 0} (P : X → Y → Type 0) (Q : Y → Z → Type 0) (R : X → Z → Type 0) → ((x : X) (y : Y) (z : Z) → P x y → Q y z → R x z)
    → (xs : List X) (ys : List Y) (zs : List Z) → AllPaired P xs ys → AllPaired Q ys zs → AllPaired R xs zs
paired_through P Q R joined [] [] [] p q = tt
paired_through P Q R joined (x ∷ xs) (y ∷ ys) (z ∷ zs) p q = (joined x y z p.0 q.0, paired_through P Q R joined xs ys zs p.1 q.1)
paired_through P Q R joined [] (y ∷ ys) zs p q = absurd p
paired_through P Q R joined (x ∷ xs) [] zs p q = absurd p
paired_through P Q R joined [] [] (z ∷ zs) p q = absurd q
paired_through P Q R joined (x ∷ xs) (y ∷ ys) [] p q = absurd q
