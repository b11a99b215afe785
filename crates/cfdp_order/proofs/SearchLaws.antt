-- A search that goes down a tree.
--     Reached            the part of an order to which a search has come, and the node that it found before: the first
--                        node after the wanted index is in the part, or else it is the one that was found
--     reach_right        one step to the right
--     reach_left         one step to the left
--     reach_end          at an empty part
--     first_left         the first node of a list, by that of its front
use Rattle.std.proofs.Common.{◌≡◌, ℕ, List, [], ◌∷◌, ◌++◌, Option, Some, refl, sym, ap, ◌∙◌}
use Rattle.std.specs.Prelude.{All, slice_get}
use Rattle.std.specs.Option.{option_or}
use Rattle.cfdp_order.proofs.SplitLaws.{split_right, split_left}

pub record Reached (P Q : ℕ → Type 0) (list : List ℕ) (found : Option ℕ) (after : List ℕ) : Type 0 where
  pub front : List ℕ
  pub back : List ℕ
  pub parted : list ≡ front ++ back
  pub less : All P front
  pub rest : All Q back
  pub is : option_or (slice_get back 0) found ≡ slice_get after 0

pub first_left : (l : List ℕ) (x : ℕ) (r : List ℕ) (found : Option ℕ) → option_or (slice_get l 0) (Some x) ≡ option_or (slice_get (l ++ x ∷ r) 0) found
first_left [] x r found = refl
first_left (y ∷ l) x r found = refl

pub reach_right : (P Q : ℕ → Type 0) (list l : List ℕ) (x : ℕ) (r : List ℕ) (found : Option ℕ) (after : List ℕ) → list ≡ l ++ x ∷ r → (Q x → ⊥) →
    Reached P Q list found after → Reached P Q r found after
reach_right P Q list l x r found after listed apart reached =
    let s = split_right P Q l x r reached.front reached.back (sym listed ∙ reached.parted) reached.less reached.rest apart in
    record { front = s.rest; back = reached.back; parted = s.right_is; less = s.all; rest = reached.rest; is = reached.is }

pub reach_left : (P Q : ℕ → Type 0) (list l : List ℕ) (x : ℕ) (r : List ℕ) (found : Option ℕ) (after : List ℕ) → list ≡ l ++ x ∷ r → (P x → ⊥) →
    Reached P Q list found after → Reached P Q l (Some x) after
reach_left P Q list l x r found after listed apart reached =
    let s = split_left P Q l x r reached.front reached.back (sym listed ∙ reached.parted) reached.less reached.rest apart in
    record {
      front = reached.front;
      back = s.rest;
      parted = s.left_is;
      less = reached.less;
      rest = s.all;
      is = first_left s.rest x r found ∙ ap (λ b. option_or (slice_get b 0) found) (sym s.after_is) ∙ reached.is;
    }

no_back : (front back : List ℕ) → [] ≡ front ++ back → back ≡ []
no_back [] back e = sym e
no_back (x ∷ front) back e = cc

pub reach_end : (P Q : ℕ → Type 0) (list : List ℕ) (found : Option ℕ) (after : List ℕ) → list ≡ [] → Reached P Q list found after → found ≡ slice_get after 0
reach_end P Q list found after none reached = ap (λ b. option_or (slice_get b 0) found) (sym (no_back reached.front reached.back (sym none ∙ reached.parted)))
    ∙ reached.is
