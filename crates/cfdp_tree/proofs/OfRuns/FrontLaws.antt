-- A run whose first octets are copied, to another run or after itself, after one write of the copy.
--     front_held, front_nth     it is held, and its blocks are where they were
--     front_take                the octets that are copied are what they were
use Rattle.std.proofs.Common.{◌≡◌, ℕ, ◌≤◌, List, length, take, sym, ap, ◌∙◌, subst, inl, inr}
use Rattle.std.proofs.lemmas.Bool.{cases_eq}
use Rattle.cfdp_arena.specs.Arena.{Blocks}
use Rattle.cfdp_actions.specs.Store.{overwritten}
use Rattle.cfdp_tree.specs.declared.runs.Run.{Run}
use Rattle.cfdp_tree.specs.code.Runs.{nth, IsHeld, octets_of_run, OtherRunsStay, KeepsFront}
use Rattle.cfdp_tree.proofs.OfRuns.OctetsInLists.{take-front}
use Rattle.cfdp_tree.proofs.OfRuns.HeldLaws.{held_others, octets_others, nth_others}

module _ (old new : Blocks) (run source : Run) (at end : ℕ) (part : List ℕ) (keeps : KeepsFront run at source end) (held : IsHeld new run)
    (written : octets_of_run new run ≡ overwritten (octets_of_run old run) at part) (within : at ≤ length (octets_of_run old run))
    (sequence : (k : ℕ) → k ≤ run.count → nth new run.first k ≡ nth old run.first k) (others : OtherRunsStay old new run) (was : IsHeld old source) where
  pub front_held : IsHeld new source
  front_held = elim (cases_eq run.first source.first) [
    | inl e ↦ subst (IsHeld new) (sym (keeps e).0) held
    | inr ne ↦ held_others old new run source others (λ _ _ e. ne (sym e)) was
  ]

  pub front_nth : (k : ℕ) → k ≤ source.count → nth new source.first k ≡ nth old source.first k
  front_nth k reach = elim (cases_eq run.first source.first) [
    | inl e ↦ subst (λ (r : Run). nth new r.first k ≡ nth old r.first k) (sym (keeps e).0) (sequence k (subst (λ (r : Run). k ≤ r.count) (keeps e).0 reach))
    | inr ne ↦ nth_others old new run source others (λ _ _ e. ne (sym e)) was k reach
  ]

  pub front_take : take end (octets_of_run new source) ≡ take end (octets_of_run old source)
  front_take = elim (cases_eq run.first source.first) [
    | inl e ↦ subst (λ (r : Run). take end (octets_of_run new r) ≡ take end (octets_of_run old r)) (sym (keeps e).0)
        (ap (take end) written ∙ take-front (octets_of_run old run) part at end (keeps e).1 within)
    | inr ne ↦ ap (take end) (octets_others old new run source others (λ _ _ e. ne (sym e)) was)
  ]
