-- The items of a list as it was sent: each request has its own action, and a grant is of just these items.
use Rattle.std.proofs.Common.{◌≡◌, ℕ, ◌+◌, List, [], ◌∷◌, refl, ap, sym, subst}
use Rattle.std.specs.Prelude.{⊤, Option, Some, None, nat_lt, length, replicate}
use Rattle.std.proofs.lemmas.Bool.{cond_both}
use Rattle.cfdp_status.specs.declared.action.Action.{Action}
use Rattle.cfdp_status.specs.declared.action.Action.TheVariants as action
use Rattle.cfdp_status.specs.declared.status.Status.{Status}
use Rattle.cfdp_status.specs.declared.transaction.TransactionId.{TransactionId}
use Rattle.cfdp_paths.specs.Paths.{Path, path_of}
use Rattle.cfdp_actions.specs.Filestore.{Filestore}
use Rattle.cfdp_actions.specs.Actions.{action_in, Request, Item}
use Rattle.cfdp_leases.specs.Footprint.{Footprint}
use Rattle.cfdp_states.specs.Alone.{alone, statuses_alone, need_alone, steps_alone}
use Rattle.cfdp_tlv.specs.Values.{RequestFields}
use Rattle.cfdp_verifier.specs.Verdict.{Proposal, Verdict, Grant, Parsed, Bad, Good, named, request_named, request_by, and_then_parsed, parsed_from, with_file, with_destination, parsed, first_failure, destination_allowed, judged_items, judged_apart, verdict_of, verdict}
use Rattle.cfdp_transactions.specs.Sound.{successes, all_successful}

-- actions ----------------------------------------------------------------------------

abbrev pub IsOfAction : Action → Option Request → Type 0
IsOfAction a None = ⊤
IsOfAction a (Some r) = action_in r ≡ a

pub of_action : (a : Action) (p q : Option Path) → IsOfAction a (request_named a p q)
of_action action.CreateFile None q = tt
of_action action.CreateFile (Some p) q = refl
of_action action.DeleteFile None q = tt
of_action action.DeleteFile (Some p) q = refl
of_action action.RenameFile None q = tt
of_action action.RenameFile (Some p) None = tt
of_action action.RenameFile (Some p) (Some q) = refl
of_action action.AppendFile None q = tt
of_action action.AppendFile (Some p) None = tt
of_action action.AppendFile (Some p) (Some q) = refl
of_action action.ReplaceFile None q = tt
of_action action.ReplaceFile (Some p) None = tt
of_action action.ReplaceFile (Some p) (Some q) = refl
of_action action.CreateDirectory None q = tt
of_action action.CreateDirectory (Some p) q = refl
of_action action.RemoveDirectory None q = tt
of_action action.RemoveDirectory (Some p) q = refl
of_action action.DenyFile None q = tt
of_action action.DenyFile (Some p) q = refl
of_action action.DenyDirectory None q = tt
of_action action.DenyDirectory (Some p) q = refl

-- the items' actions are the requests', in order
abbrev InOrder : List RequestFields → Parsed → Type 0
InOrder rs (Bad index) = ⊤
InOrder rs (Good items) = successes items ≡ all_successful rs

and_then_order : (f : RequestFields) (rs : List RequestFields) (r : Option Request) (i : ℕ) (rest : Parsed) → IsOfAction f.action r → InOrder rs rest →
    InOrder (f ∷ rs) (and_then_parsed r i rest)
and_then_order f rs None i rest own h = tt
and_then_order f rs (Some r) i (Bad index) own h = tt
and_then_order f rs (Some r) i (Good items) own h = rw (own, h) refl

from_order : (i : ℕ) (rs : List RequestFields) → InOrder rs (parsed_from i rs)
from_order i [] = refl
from_order i (r ∷ rs) = and_then_order r rs (request_by r) i (parsed_from (i + 1) rs) (of_action r.action (path_of r.first) (named r.second))
    (from_order (i + 1) rs)

file_order : (p : Option Path) (rs : List RequestFields) (q : Parsed) → InOrder rs q → InOrder rs (with_file p q)
file_order None rs q h = tt
file_order (Some p) rs (Bad index) h = tt
file_order (Some p) rs (Good items) h = h

destination_order : (destination : Option (List ℕ)) (rs : List RequestFields) (q : Parsed) → InOrder rs q → InOrder rs (with_destination destination q)
destination_order None rs q h = h
destination_order (Some octets) rs q h = file_order (path_of octets) rs q h

-- grants -----------------------------------------------------------------------------

module _ (prefixes : List Path) (F : Filestore) (leases : List (TransactionId × Footprint)) (spare : ℕ) (P : Proposal) where
  abbrev x : List ℕ
  x = replicate P.bound 0

  -- what is granted, if anything, are these items
  abbrev IsOfItems : List Item → Verdict → Type 0
  IsOfItems items v = (granted : List Item) (blocks steps : ℕ) → v ≡ Grant granted blocks steps → granted ≡ items

  judged_of : (items : List Item) (failure : Option (ℕ × Status)) (needed steps : ℕ) → IsOfItems items (judged_items spare items failure needed steps)
  judged_of items (Some f) needed steps = λ granted b s q. absurd cc
  judged_of items None needed steps =
      cond_both (nat_lt 65536 steps) _ _ (λ (v : Verdict). IsOfItems items v) (λ _ granted b s q. absurd cc)
      (λ _. cond_both (nat_lt spare needed) _ _ (λ (v : Verdict). IsOfItems items v) (λ _ granted b s q. absurd cc) (λ _ granted b s q. cc))

  apart_of : (items : List Item) (conflict : Option TransactionId) → IsOfItems items (judged_apart prefixes F spare x items conflict)
  apart_of items (Some id) = λ granted b s q. absurd cc
  apart_of items None =
      cond_both (destination_allowed prefixes (alone F x) items) _ _ (λ (v : Verdict). IsOfItems items v)
      (λ _. judged_of items (first_failure 0 (statuses_alone prefixes F x items)) (need_alone prefixes F x items) (steps_alone prefixes F x items))
      (λ _ granted b s q. absurd cc)

  granted_of : (q : Parsed) (items : List Item) (blocks steps : ℕ) → verdict_of prefixes F leases spare P q ≡ Grant items blocks steps → q ≡ Good items
  granted_of (Bad index) items b s h = absurd cc
  granted_of (Good there) items b s h = ap Good (sym (apart_of there _ items b s h))

  pub granted_parsed : (items : List Item) (blocks steps : ℕ) → verdict prefixes F leases spare P ≡ Grant items blocks steps → parsed P ≡ Good items
  granted_parsed items b s =
      cond_both (nat_lt 64 (length P.requests)) _ _ (λ (v : Verdict). v ≡ Grant items b s → parsed P ≡ Good items) (λ _ h. absurd cc)
      (λ _ h. granted_of (parsed P) items b s h)

  pub granted_order : (items : List Item) (blocks steps : ℕ) → verdict prefixes F leases spare P ≡ Grant items blocks steps → successes items
      ≡ all_successful P.requests
  granted_order items b s h =
      subst (InOrder P.requests) (granted_parsed items b s h) (destination_order P.destination P.requests (parsed_from 0 P.requests) (from_order 0 P.requests))
