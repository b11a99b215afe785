-- The lines of PDUs, one after the other.
use Rattle.std.proofs.Common.{◌≡◌, ℕ, ◌+◌, ◌≤◌, List, [], ◌∷◌, ◌++◌, length, drop, Some, slice_get, refl, sym, ap, ◌∙◌, append_assoc, append-nil, arith}
use Rattle.std.proofs.lemmas.List.{drop_all}
use Rattle.cfdp_receiver.specs.declared.mib.Mib.{Mib}
use Rattle.cfdp_receiver.specs.Sent.{as_sent}
use Rattle.cfdp_receiver.proofs.DueTimers.{drop_next}
use Rattle.cfdp_reports.specs.Reports.{send_line, send_lines}

pub sent_next : (mib : Mib) (pdus : List (List ℕ)) (n : ℕ) (octets before text after : List ℕ) → slice_get pdus n ≡ Some octets →
    text ++ send_lines mib (drop n pdus) ≡ before → after ≡ text ++ send_line (as_sent mib octets) →
    after ++ send_lines mib (drop (n + 1) pdus) ≡ before
sent_next mib pdus n octets before text after at left grown =
    ap (λ (t : List ℕ). t ++ send_lines mib (drop (n + 1) pdus)) grown
    ∙ append_assoc text (send_line (as_sent mib octets)) (send_lines mib (drop (n + 1) pdus))
    ∙ ap (λ (rest : List (List ℕ)). text ++ send_lines mib rest) (sym (drop_next pdus n octets at)) ∙ left

pub sent_all : (mib : Mib) (pdus : List (List ℕ)) (n : ℕ) (before text : List ℕ) → length pdus ≤ n → text ++ send_lines mib (drop n pdus) ≡ before →
    text ≡ before
sent_all mib pdus n before text end left =
    sym (append-nil text) ∙ ap (λ (rest : List (List ℕ)). text ++ send_lines mib rest) (sym (drop_all n pdus end)) ∙ left

pub none_left : (pdus : List (List ℕ)) → length pdus ≤ 0 → pdus ≡ []
none_left [] none = refl
none_left (pdu ∷ pdus) none = absurd (omega (arith, none))
