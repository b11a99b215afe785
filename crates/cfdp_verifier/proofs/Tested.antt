-- The verdict's first tests: the number of requests, the names, and the leases.
--     past_tests        the verdict of a list with few requests whose names are paths
use Rattle.std.proofs.Common.{◌≡◌, sym, ◌∙◌, ap, false, cond, ℕ, ◌≤◌, List, length, replicate, Option, arith}
use Rattle.std.specs.Prelude.{nat_lt}
use Rattle.cfdp_status.specs.declared.transaction.TransactionId.{TransactionId}
use Rattle.cfdp_paths.specs.Paths.{Path}
use Rattle.cfdp_actions.specs.Filestore.{Filestore}
use Rattle.cfdp_actions.specs.Actions.{Item}
use Rattle.cfdp_leases.specs.Footprint.{Footprint, footprint_of}
use Rattle.cfdp_leases.specs.Leases.{first_conflict}
use Rattle.cfdp_verifier.specs.Verdict.{Proposal, Refuse, TooManyRequests, Good, parsed, judged_apart, verdict_of, verdict}

not_more : (n : ℕ) → n ≤ 64 → nat_lt 64 n ≡ false
not_more n le = grind arith

module _ (prefixes : List Path) (F : Filestore) (leases : List (TransactionId × Footprint)) (spare : ℕ) (P : Proposal) where
  pub past_tests : (items : List Item) (fp : Footprint) (way : Option TransactionId) → length P.requests ≤ 64 → parsed P ≡ Good items → fp
      ≡ footprint_of items → first_conflict leases fp ≡ way →
      verdict prefixes F leases spare P ≡ judged_apart prefixes F spare (replicate P.bound 0) items way
  past_tests items fp way few names is first =
      ap (λ b. cond b (Refuse TooManyRequests) (verdict_of prefixes F leases spare P (parsed P))) (not_more (length P.requests) few)
      ∙ ap (verdict_of prefixes F leases spare P) names
      ∙ ap (λ (fp : Footprint). judged_apart prefixes F spare (replicate P.bound 0) items (first_conflict leases fp)) (sym is)
      ∙ ap (judged_apart prefixes F spare (replicate P.bound 0) items) first
