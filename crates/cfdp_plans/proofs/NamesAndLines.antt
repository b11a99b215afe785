-- Names octet by octet, and lines PDU by PDU.
use Rattle.std.proofs.Common.{◌≡◌, ℕ, zero, suc, ◌<◌, List, [], ◌∷◌, ◌++◌, length, take, flat_map, Option, Some, None, refl, ap, sym, ◌∙◌, append_assoc, append-nil, arith}
use Rattle.std.specs.Prelude.{IfSome}
use Rattle.std.specs.List.{slice_get}
use Rattle.std.specs.Option.{option_map}
use Rattle.std.specs.Io.KnownBytes.{Appends}
use Rattle.cfdp_lines.specs.Words.{number_before}
use Rattle.cfdp_plans.specs.Names.{name_in}

-- an octet more
pub octet_taken : (name : List ℕ) (octet : ℕ) (more : Option (List ℕ))
    → option_map (λ (xs : List ℕ). name ++ xs) (number_before (Some octet) more) ≡ option_map (λ (xs : List ℕ). (name ++ octet ∷ []) ++ xs) more
octet_taken name octet None = refl
octet_taken name octet (Some more) = ap Some (sym (append_assoc name (octet ∷ []) more))

pub octets_taken : (text rest others : Option (List ℕ)) (name longer : List ℕ) (octet : ℕ)
    → text ≡ option_map (λ (xs : List ℕ). name ++ xs) rest → rest ≡ number_before (Some octet) others → longer ≡ name ++ octet ∷ []
    → text ≡ option_map (λ (xs : List ℕ). longer ++ xs) others
octets_taken text rest others name longer octet text_is rest_is longer_is =
    text_is ∙ ap (option_map (λ (xs : List ℕ). name ++ xs)) rest_is ∙ octet_taken name octet others
    ∙ ap (λ (front : List ℕ). option_map (λ (xs : List ℕ). front ++ xs) others) (sym longer_is)

-- no octet is left
pub name_finished : (name : List ℕ) (text : Option (List ℕ)) (rest : List ℕ) → length rest ≡ 0 → text ≡ option_map (λ (xs : List ℕ). name ++ xs) (name_in rest)
    → Some name ≡ text
unfolding name_in
name_finished name text [] none is = sym (is ∙ ap Some (append-nil name))
name_finished name text (octet ∷ rest) none is = absurd (omega (arith, none))

-- a line more
pub line_taken : {X : Type 0} (f : X → List ℕ) (xs : List X) (n : ℕ) (old new : List ℕ) → n < length xs → old ≡ []
    → IfSome (slice_get xs n) (λ x. new ≡ old ++ f x) → flat_map f (take (suc n) xs) ≡ flat_map f (take n xs) ++ new
line_taken f [] n old new lt empty stated = absurd (omega arith)
line_taken f (x ∷ xs) zero old new lt empty stated = append-nil (f x) ∙ sym (stated ∙ ap (λ (l : List ℕ). l ++ f x) empty)
line_taken f (x ∷ xs) (suc n) old new lt empty stated =
    ap (λ (l : List ℕ). f x ++ l) (line_taken f xs n old new (omega arith) empty stated)
    ∙ sym (append_assoc (f x) (flat_map f (take n xs)) new)

pub appends_more : (a b c : Option (List ℕ)) (xs ys zs : List ℕ) → Appends a b xs → Appends b c ys → zs ≡ xs ++ ys → Appends a c zs
appends_more None b c xs ys zs first next is = tt
appends_more (Some old) None c xs ys zs first next is = absurd first
appends_more (Some old) (Some middle) None xs ys zs first next is = absurd next
appends_more (Some old) (Some middle) (Some new) xs ys zs first next is =
    next ∙ ap (λ (l : List ℕ). l ++ ys) first ∙ append_assoc old xs ys ∙ ap (λ (l : List ℕ). old ++ l) (sym is)
