-- Where a script is cut into lines.
use Rattle.std.proofs.Common.{◌≡◌, ℕ, ◌+◌, ◌<◌, ◌≤◌, ◌==◌, Bool, true, false, List, [], ◌∷◌, ◌++◌, length, take, drop, get_or, refl, sym, ap, ◌∙◌, arith, length-append, rules}
use Rattle.std.specs.List.{slice_split, onto_first}
use Rattle.std.proofs.lemmas.List.{drop_more, take-append-drop}
use Rattle.std.proofs.lemmas.List.Splits.{slice_split_at, slice_split_none, slice_split-cons_no, slice_split-cons_yes}
use Rattle.std.proofs.lemmas.List.Elements.{All-head, All-tail, All-nil}
use Rattle.cfdp_lines.specs.Lines.{is_newline, is_overlong, line_limit, without_empty_last, lines_of, without_open_last, settled_lines, IsOneLine}
use Rattle.cfdp_lines.specs.Session.{lines_by}

-- the first of some parts begins so
pub record FirstBegins (parts : List (List ℕ)) (front : List ℕ) : Type 0 where
  pub more : List ℕ
  pub others : List (List ℕ)
  pub are : parts ≡ (front ++ more) ∷ others

-- octets before a newline are the front of the first part
parts_of : (front rest : List ℕ) → IsOneLine front → FirstBegins (slice_split is_newline (front ++ rest)) front
parts_of [] [] h = record { more = []; others = []; are = refl }
parts_of [] (octet ∷ rest) h =
    let tail = parts_of [] rest h in
    elim (is_newline octet) as (λ b. is_newline octet ≡ b → FirstBegins (slice_split is_newline (octet ∷ rest)) []) [
      | true ↦ λ e. record {
        more = [];
        others = slice_split is_newline rest;
        are = slice_split-cons_yes is_newline octet rest e;
      }
      | false ↦ λ e. record {
        more = octet ∷ tail.more;
        others = tail.others;
        are = slice_split-cons_no is_newline octet rest e ∙ ap (onto_first octet) tail.are;
      }
    ]
    refl
parts_of (octet ∷ front) rest h =
    let tail = parts_of front rest (All-tail (λ (x : ℕ). is_newline x ≡ false) octet front h) in record {
      more = tail.more;
      others = tail.others;
      are = slice_split-cons_no is_newline octet (front ++ rest) (All-head (λ (x : ℕ). is_newline x ≡ false) octet front h) ∙ ap (onto_first octet) tail.are;
    }

-- a part before others is a line
without_empty_last-parts : (part : List ℕ) (parts : List (List ℕ)) → FirstBegins parts []
    → without_empty_last (part ∷ parts) ≡ part ∷ without_empty_last parts
without_empty_last-parts part [] b = cc b.are
without_empty_last-parts part (next ∷ parts) b = refl

-- it is settled
without_open_last-parts : (part : List ℕ) (parts : List (List ℕ)) → FirstBegins parts []
    → without_open_last (part ∷ parts) ≡ part ∷ without_open_last parts
without_open_last-parts part [] b = cc b.are
without_open_last-parts part (next ∷ parts) b = refl

-- a newline ends the first line
pub lines_by-newline : (ends : Bool) (line rest : List ℕ) (octet : ℕ) → IsOneLine line → is_newline octet ≡ true
    → lines_by ends (line ++ octet ∷ rest) ≡ line ∷ lines_by ends rest
lines_by-newline true line rest octet h e =
    ap without_empty_last (slice_split_at is_newline line octet rest h e)
    ∙ without_empty_last-parts line (slice_split is_newline rest) (parts_of [] rest (All-nil (λ (x : ℕ). is_newline x ≡ false)))
lines_by-newline false line rest octet h e =
    ap without_open_last (slice_split_at is_newline line octet rest h e)
    ∙ without_open_last-parts line (slice_split is_newline rest) (parts_of [] rest (All-nil (λ (x : ℕ). is_newline x ≡ false)))

-- a part that is not empty counts, also as the last
without_empty_last-first : (part : List ℕ) (others : List (List ℕ)) → 0 < length part
    → without_empty_last (part ∷ others) ≡ part ∷ without_empty_last others
without_empty_last-first [] others n = absurd (omega arith)
without_empty_last-first (octet ∷ part) [] n = let some : (length (octet ∷ part) == 0) ≡ false = search rules in rw some refl
without_empty_last-first (octet ∷ part) (next ∷ others) n = refl

-- a last line without a newline counts
pub lines_of-last : (line : List ℕ) → IsOneLine line → 0 < length line → lines_of line ≡ line ∷ []
lines_of-last line h n =
    ap without_empty_last (slice_split_none is_newline line h) ∙ without_empty_last-first line [] n

-- a last line without a newline is not settled
pub settled_lines-none : (line : List ℕ) → IsOneLine line → length line ≤ line_limit → settled_lines line ≡ []
settled_lines-none line h n =
    let short : is_overlong line ≡ false = search rules in
    ap without_open_last (slice_split_none is_newline line h) ∙ rw short refl

-- an overlong part counts, also as the last
without_open_last-first : (part : List ℕ) (others : List (List ℕ)) → line_limit < length part
    → without_open_last (part ∷ others) ≡ part ∷ without_open_last others
without_open_last-first part [] n = let over : is_overlong part ≡ true = search rules in rw over refl
without_open_last-first part (next ∷ parts) n = refl

-- an overlong line is the front of the first line
pub lines_by-begun : (ends : Bool) (line rest : List ℕ) → IsOneLine line → line_limit < length line
    → FirstBegins (lines_by ends (line ++ rest)) line
lines_by-begun true line rest h n =
    let parts = parts_of line rest h in
    record {
      more = parts.more;
      others = without_empty_last parts.others;
      are = ap without_empty_last parts.are
          ∙ without_empty_last-first (line ++ parts.more) parts.others (omega (arith, length-append line parts.more));
    }
lines_by-begun false line rest h n =
    let parts = parts_of line rest h in
    record {
      more = parts.more;
      others = without_open_last parts.others;
      are = ap without_open_last parts.are
          ∙ without_open_last-first (line ++ parts.more) parts.others (omega (arith, length-append line parts.more));
    }

-- the first line of some octets ends at their first newline
pub lines_of-first : (octets : List ℕ) (at : ℕ) → IsOneLine (take at octets) → at < length octets → is_newline (get_or octets at 0) ≡ true
    → lines_of octets ≡ take at octets ∷ lines_of (drop (at + 1) octets)
lines_of-first octets at h within e =
    ap lines_of (sym (ap (λ (rest : List ℕ). take at octets ++ rest) (sym (drop_more octets at 0 within)) ∙ take-append-drop at octets))
    ∙ lines_by-newline true (take at octets) (drop (at + 1) octets) (get_or octets at 0) h e
