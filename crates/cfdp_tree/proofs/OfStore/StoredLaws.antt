-- What the slots and the files hold, while one of them changes.
--     stored_changed     one of them has other octets
--     spared             the runs of the others stay, and are apart from the new one
--     stored_others      the others have the octets that they had
--     apart_back         what is apart from another run, so is that one from it
use Rattle.std.proofs.Common.{◌≡◌, ◌≢◌, ℕ, ◌<◌, List, length, set, get_or, sym, ap, ◌∙◌, subst, inl, inr}
use Rattle.std.proofs.lemmas.List.{get_or-set_same, get_or-set_other}
use Rattle.std.proofs.lemmas.Bool.{cases_eq}
use Rattle.cfdp_arena.specs.Arena.{Blocks}
use Rattle.cfdp_ways.specs.declared.way.Way.{Way}
use Rattle.cfdp_tree.specs.declared.runs.Run.{Run}
use Rattle.cfdp_tree.specs.declared.contents.Contents.{Contents}
use Rattle.cfdp_tree.specs.code.Runs.{Apart, Stays, Spares}
use Rattle.cfdp_tree.specs.code.Ways.{HasWays, KeepsWays}
use Rattle.cfdp_tree.specs.code.Contents.{IsFilled, contents_in}
use Rattle.cfdp_tree.specs.code.Kept.{no_contents, IsStored}
use Rattle.cfdp_tree.proofs.OfRuns.ContentsLaws.{stays_filled, stays_contents}

pub apart_back : (a b : Run) → Apart a b → Apart b a
apart_back a b apart some other e = apart other some (sym e)

module _ (old new : Blocks) (held : List Contents) (i : ℕ) (within : i < length held) (after : Contents) {was : List Way} (stored : IsStored old was held)
    (spares : Spares old new (get_or held i no_contents).run after.run) (filled : IsFilled new after) where
  pub spared : (j : ℕ) → j ≢ i → Stays old new (get_or held j no_contents).run × Apart after.run (get_or held j no_contents).run
  spared j other = spares (get_or held j no_contents).run (stored.filled j).held (stored.apart i j (λ e. other (sym e)))

  here : get_or (set held i after) i no_contents ≡ after
  here = get_or-set_same held i after no_contents within

  there : (j : ℕ) → j ≢ i → get_or (set held i after) j no_contents ≡ get_or held j no_contents
  there j other = get_or-set_other held i j after no_contents other

  filled_at : (j : ℕ) → IsFilled new (get_or (set held i after) j no_contents)
  filled_at j = elim (cases_eq j i) [
    | inl e ↦ subst (IsFilled new) (sym (ap (λ k. get_or (set held i after) k no_contents) e ∙ here)) filled
    | inr other ↦ subst (IsFilled new) (sym (there j other)) (stays_filled old new (get_or held j no_contents) (spared j other).0 (stored.filled j))
  ]

  apart_from : (j : ℕ) → j ≢ i → Apart (get_or (set held i after) i no_contents).run (get_or (set held i after) j no_contents).run
  apart_from j other = subst (λ x. Apart x.run (get_or (set held i after) j no_contents).run) (sym here)
      (subst (λ (x : Contents). Apart after.run x.run) (sym (there j other)) (spared j other).1)

  apart_at : (j k : ℕ) → j ≢ k → Apart (get_or (set held i after) j no_contents).run (get_or (set held i after) k no_contents).run
  apart_at j k differ = elim (cases_eq j i) [
    | inl e ↦ subst (λ n. Apart (get_or (set held i after) n no_contents).run (get_or (set held i after) k no_contents).run) (sym e)
        (apart_from k (λ f. differ (e ∙ sym f)))
    | inr other ↦ elim (cases_eq k i) [
      | inl f ↦ subst (λ n. Apart (get_or (set held i after) j no_contents).run (get_or (set held i after) n no_contents).run) (sym f)
          (apart_back (get_or (set held i after) i no_contents).run (get_or (set held i after) j no_contents).run (apart_from j other))
      | inr else ↦ subst (λ (x : Contents). Apart x.run (get_or (set held i after) k no_contents).run) (sym (there j other))
          (subst (λ (x : Contents). Apart (get_or held j no_contents).run x.run) (sym (there k else)) (stored.apart j k differ))
    ]
  ]

  module _ (now : List Way) (has : HasWays new now after.run) (keeps : KeepsWays old new was now (get_or held i no_contents).run) where
    led_at : (j : ℕ) → HasWays new now (get_or (set held i after) j no_contents).run
    led_at j = elim (cases_eq j i) [
      | inl e ↦ subst (λ (x : Contents). HasWays new now x.run) (sym (ap (λ k. get_or (set held i after) k no_contents) e ∙ here)) has
      | inr other ↦ subst (λ (x : Contents). HasWays new now x.run) (sym (there j other))
          (keeps (get_or held j no_contents).run (stored.filled j).held (stored.apart i j (λ e. other (sym e))) (stored.led j))
    ]

    pub stored_changed : IsStored new now (set held i after)
    stored_changed = record { filled = filled_at; apart = apart_at; led = led_at }

  pub stored_others : (j : ℕ) → j ≢ i → contents_in new (get_or held j no_contents) ≡ contents_in old (get_or held j no_contents)
  stored_others j other = stays_contents old new (get_or held j no_contents) (spared j other).0
