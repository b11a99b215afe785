-- Pieces that come from the first to the last are one piece at all times.
use Rattle.std.proofs.Common.{◌≡◌, ℕ, zero, suc, ◌+◌, ◌*◌, ◌<◌, ◌≤◌, List, [], ◌∷◌, ◌++◌, length, map, take, drop, true, Some, refl, ap, sym, subst, ◌∙◌, arith, append-nil}
use Rattle.std.specs.List.{range_with_len}
use Rattle.std.proofs.lemmas.List.{length-take}
use Rattle.std.proofs.Math.Seq.{take-add}
use Rattle.cfdp_transactions.specs.Received.{Received, kept_with, pieces, pieces_from}
use Rattle.cfdp_uploads.specs.Uploads.{UploadFields, IsUpload, pieces_of}
use Rattle.cfdp_uploads.proofs.Pieces.{begins_within}
use Rattle.cfdp_completion.specs.Delivering.{kept_piece, StaysFew, InOrderStaysFew}

none_begins : (xs : List ℕ) → pieces_from true (map Some xs) ≡ 0
none_begins [] = refl
none_begins (x ∷ xs) = none_begins xs

one_piece : (xs : List ℕ) → pieces (map Some xs) ≤ 1
one_piece [] = omega arith
one_piece (x ∷ xs) = omega (arith, none_begins xs)

nothing_kept : (ys : List ℕ) → kept_with [] zero ys ≡ map Some ys
nothing_kept [] = refl
nothing_kept (y ∷ ys) = ap (λ (l : Received). Some y ∷ l) (nothing_kept ys)

kept_following : (xs ys : List ℕ) → kept_with (map Some xs) (length xs) ys ≡ map Some (xs ++ ys)
kept_following [] ys = nothing_kept ys
kept_following (x ∷ xs) [] = ap (λ (l : List ℕ). map Some (x ∷ l)) (sym (append-nil xs))
kept_following (x ∷ xs) (y ∷ ys) = ap (λ (l : Received). Some x ∷ l) (kept_following xs (y ∷ ys))

next_kept : (u : UploadFields) → IsUpload u → (n : ℕ) → n < pieces_of u
    → kept_piece u (map Some (take (u.segment * n) u.file)) n ≡ map Some (take (u.segment * (n + 1)) u.file)
next_kept u is n lt =
    let begins : u.segment * n < length u.file = begins_within (length u.file) u.segment n (omega (arith, is.some)) lt in
    let front : List ℕ = take (u.segment * n) u.file in
    let long : u.segment * n ≡ length front = omega (arith, begins, length-take (u.segment * n) u.file) in
    let more : u.segment * n + u.segment ≡ u.segment * (n + 1) = omega arith in
    ap (λ (at : ℕ). kept_with (map Some front) at (take u.segment (drop (u.segment * n) u.file))) long
    ∙ kept_following front (take u.segment (drop (u.segment * n) u.file))
    ∙ ap (λ (l : List ℕ). map Some l) (sym (take-add (u.segment * n) u.segment u.file))
    ∙ ap (λ (m : ℕ). map Some (take m u.file)) more

few_from : (u : UploadFields) → IsUpload u → (left n : ℕ) → n + left ≤ pieces_of u
    → StaysFew u (map Some (take (u.segment * n) u.file)) (range_with_len n left)
few_from u is zero n le = tt
few_from u is (suc left) n le =
    let kept = next_kept u is n (omega arith) in (
      subst (λ (rs : Received). pieces rs ≤ 32) (sym kept) (omega (arith, one_piece (take (u.segment * (n + 1)) u.file))),
      subst (λ (rs : Received). StaysFew u rs (range_with_len (n + 1) left)) (sym kept) (few_from u is left (n + 1) (omega arith)),
    )

pub in_order_few : InOrderStaysFew
in_order_few u is order =
    let none : u.segment * 0 ≡ 0 = omega arith in
    let all : StaysFew u [] (range_with_len 0 (pieces_of u)) =
    subst (λ (n : ℕ). StaysFew u (map Some (take n u.file)) (range_with_len 0 (pieces_of u))) none (few_from u is (pieces_of u) 0 (omega arith)) in
    subst (λ (indices : List ℕ). StaysFew u [] indices) (sym order) all
