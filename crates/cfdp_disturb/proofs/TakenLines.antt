-- Lines that are taken one by one.
--     text_of-append        the text of lines and then of others
--     text_of_both          lines and then others after what was written
--     swapped, in_turn      what results from two lines
--     alone                 what results from a line that is not held back, and of those after it
--     taken_alone           a line that is not held back
--     finished, finished_none       the end, with and without a line that was held back
--     taken_both            a line, where one was held back
use Rattle.std.proofs.Common.{◌≡◌, sym, ◌∙◌, ap, subst, ℕ, true, false, cond, List, [], ◌∷◌, ◌++◌, append_assoc, append-nil}
use Rattle.std.specs.Prelude.{Result, Ok, Err, OnOk}
use Rattle.std.proofs.lemmas.List.Concat.{flat_map-append}
use Rattle.cfdp_disturb.specs.code.Holding.{AreHeld}
use Rattle.cfdp_disturb.specs.Disturbing.{Drawn, both, disturbed, is_held, is_pdu_line, with_newline, said, lines_text}

pub text_of-append : (xs ys : List (List ℕ)) → lines_text (xs ++ ys) ≡ lines_text xs ++ lines_text ys
unfolding lines_text
text_of-append xs ys = flat_map-append with_newline xs ys

pub text_of_both : {T E : Type 0} (r : Result T E) (old mid new : List ℕ) (xs ys whole : List (List ℕ)) → whole ≡ xs ++ ys → mid ≡ old ++ lines_text xs →
    OnOk r (new ≡ mid ++ lines_text ys) → OnOk r (new ≡ old ++ lines_text whole)
text_of_both (Ok x) old mid new xs ys whole is one two =
    two ∙ ap (λ t. t ++ lines_text ys) one ∙ append_assoc old (lines_text xs) (lines_text ys) ∙ ap (λ t. old ++ t) (sym (text_of-append xs ys))
    ∙ ap (λ w. old ++ lines_text w) (sym is)
text_of_both (Err e) old mid new xs ys whole is one two = tt

pub swapped : (a b : Drawn) → is_pdu_line b.0 ≡ true → both a b ≡ said b ++ said a
unfolding both
swapped a b pdu = ap (λ p. cond p (said b ++ said a) (said a ++ said b)) pdu

pub in_turn : (a b : Drawn) → is_pdu_line b.0 ≡ false → both a b ≡ said a ++ said b
unfolding both
in_turn a b other = ap (λ p. cond p (said b ++ said a) (said a ++ said b)) other

pub alone : (a : Drawn) (more : List Drawn) → is_held a ≡ false → disturbed (a ∷ more) ≡ said a ++ disturbed more
unfolding disturbed
alone a [] free = sym (append-nil (said a))
alone a (b ∷ rest) free = ap (λ h. cond h (both a b ++ disturbed rest) (said a ++ disturbed (b ∷ rest))) free

pair : (a b : Drawn) (more : List Drawn) → is_held a ≡ true → disturbed (a ∷ b ∷ more) ≡ both a b ++ disturbed more
unfolding disturbed
pair a b more held = ap (λ h. cond h (both a b ++ disturbed more) (said a ++ disturbed (b ∷ more))) held

moved : (old new : List ℕ) (come : List (List ℕ)) (lines more : List Drawn) → disturbed lines ≡ come ++ disturbed more → new ≡ old ++ lines_text come →
    old ++ lines_text (disturbed lines) ≡ new ++ lines_text (disturbed more)
moved old new come lines more is written =
    ap (λ t. old ++ lines_text t) is ∙ ap (λ t. old ++ t) (text_of-append come (disturbed more)) ∙ sym
    (append_assoc old (lines_text come) (lines_text (disturbed more)))
    ∙ ap (λ t. t ++ lines_text (disturbed more)) (sym written)

-- the whole script, where no line or one is held back
pub finished_none : (held : List Drawn) (old : List ℕ) → held ≡ [] → old ≡ old ++ lines_text (disturbed held)
unfolding disturbed lines_text
finished_none held old is = sym (append-nil old) ∙ ap (λ h. old ++ lines_text (disturbed h)) (sym is)

pub finished : (held : List Drawn) (old new : List ℕ) (a : Drawn) → held ≡ a ∷ [] → new ≡ old ++ lines_text (said a) → new ≡ old ++ lines_text (disturbed held)
unfolding disturbed
finished held old new a is written = written ∙ ap (λ h. old ++ lines_text (disturbed h)) (sym is)

pub taken_alone : {T E : Type 0} (r : Result T E) (held : List Drawn) (old new : List ℕ) (a : Drawn) → held ≡ [] → is_held a ≡ false →
    OnOk r (new ≡ old ++ lines_text (said a)) →
    OnOk r ((more : List Drawn) → old ++ lines_text (disturbed (a ∷ more)) ≡ new ++ lines_text (disturbed (held ++ more)))
taken_alone (Ok x) held old new a is free written = λ more.
    moved old new (said a) (a ∷ more) more (alone a more free) written ∙ ap (λ h. new ++ lines_text (disturbed (h ++ more))) (sym is)
taken_alone (Err e) held old new a is free written = tt

pub taken_both : (held : List Drawn) (old new : List ℕ) (a b : Drawn) → held ≡ a ∷ [] → AreHeld held → new ≡ old ++ lines_text (both a b) → (more : List Drawn)
    →
    old ++ lines_text (disturbed (held ++ b ∷ more)) ≡ new ++ lines_text (disturbed more)
taken_both held old new a b is are written more =
    let held_a : AreHeld (a ∷ []) = subst AreHeld is are in
    ap (λ h. old ++ lines_text (disturbed (h ++ b ∷ more))) is ∙ moved old new (both a b) (a ∷ b ∷ more) more (pair a b more held_a.0) written
