-- A list of requests, run one after another on a view. What the view says of a filestore is a parameter (`Seen`), since
-- there are views of two kinds; `Next` is what it says after a request.
--     Goes            the request is answered as on the filestore, and the view after it describes the filestore after it
--     GoesOn          so far each request was successful, and the rest of the list goes from here as the list from its start
--     Counts          the view has the need and the steps that it describes
--     begins, goes, fails, ends      the first index, the next index, a request that is not successful, the last index
use Rattle.std.proofs.Common.{◌≡◌, refl, sym, ◌∙◌, ap, subst, true, false, cond, ℕ, suc, ◌+◌, ◌-◌, ◌≤◌, min, max, List, [], ◌∷◌, Some, Ok, zero, map, drop, length, get_or, Option, IfSome, ◌<◌, arith, add-zero, add-one}
use Rattle.std.proofs.Math.Seq.{drop-cons}
use Rattle.std.proofs.lemmas.List.{drop_all}
use Rattle.cfdp_status.specs.declared.status.Status.{Status}
use Rattle.cfdp_status.specs.Codes.{is_successful}
use Rattle.cfdp_paths.specs.Paths.{Path}
use Rattle.cfdp_actions.specs.Filestore.{Filestore, blocks}
use Rattle.cfdp_actions.specs.Actions.{Item, Perform, Request, Performed, Answer, row}
use Rattle.cfdp_leases.specs.Items.{performed, step_bound}
use Rattle.cfdp_states.specs.Alone.{statuses, steps, peak}
use Rattle.cfdp_states.specs.Views.{most_need, Sketch, IsViewOf, Tells}
use Rattle.cfdp_states.specs.Sparse.{IsSparseViewOf, TellsSparse}
use Rattle.cfdp_verifier.specs.Verdict.{capped, first_failure}
use Rattle.cfdp_verifier.specs.code.Judging.{EndsSo}
use Rattle.cfdp_states.proofs.Appending.{grouped}

abbrev pub Goes : (Filestore → ℕ → ℕ → ℕ → Type 0) → (Filestore → ℕ → ℕ → ℕ → Type 0) → List Path → Item → Answer → Type 0
Goes Seen Next prefixes item answer =
    (G : Filestore) (start most spent : ℕ) → Seen G start most spent →
    (answer ≡ (row prefixes G 0 item).answer)
    × Next (performed prefixes G 0 item) start (max most (blocks (performed prefixes G 0 item))) (spent + (1 + step_bound G item))

abbrev pub Counts : (Filestore → ℕ → ℕ → ℕ → Type 0) → Sketch → Type 0
Counts Seen w = (G : Filestore) (start most spent : ℕ) → Seen G start most spent → (w.need ≡ min (most - start) most_need) × (w.steps ≡ capped spent)

-- from F, where this many blocks were in use at first and at most, and this many steps are taken
pub record GoesOn (prefixes : List Path) (F : Filestore) (items : List Item) (start high taken : ℕ) (Seen : Filestore → ℕ → ℕ → ℕ → Type 0) (number : ℕ)
    (rest : List Item) : Type 0 where
  pub here : Filestore
  pub most : ℕ
  pub spent : ℕ
  pub seen : Seen here start most spent
  pub within : blocks here ≤ most
  pub failure : first_failure 0 (statuses prefixes F 0 items) ≡ first_failure number (statuses prefixes here 0 rest)
  pub peaks : max high (peak prefixes F 0 items) ≡ max most (peak prefixes here 0 rest)
  pub counts : taken + steps prefixes F 0 items ≡ spent + steps prefixes here 0 rest

-- a filestore's own blocks are at most the peak
pub low : (prefixes : List Path) (F : Filestore) (items : List Item) → blocks F ≤ peak prefixes F 0 items
unfolding peak
low prefixes F [] = omega arith
low prefixes F (item ∷ items) = omega arith

-- b blocks before an item and c after it, p at most from then on, m at most before
raised : (m b c p : ℕ) → b ≤ m → c ≤ p → max m (max b p) ≡ max (max m c) p
raised m b c p before after = omega arith

-- what is said of what an answer may be
pub some_of : {A : Type 0} (P : A → Type 0) (o : Option A) (a : A) → o ≡ Some a → IfSome o P → P a
some_of P o a is h = subst (λ o. IfSome o P) is h

-- what a view says of an item, at the list's prefixes
pub answer_at : (prefixes : List Path) (v w : Sketch) (item : Item) (answer : Answer) → v.prefixes ≡ prefixes → Tells v w item answer →
    Goes (IsViewOf v) (IsViewOf w) prefixes item answer
answer_at prefixes v w item answer same tells = subst (λ (ps : List Path). Goes (IsViewOf v) (IsViewOf w) ps item answer) same tells

pub view_counts : (w : Sketch) → Counts (IsViewOf w) w
view_counts w G start most spent seen = (seen.need, seen.steps)

pub sparse_counts : (w : Sketch) (items : List Item) → Counts (IsSparseViewOf w items) w
sparse_counts w items G start most spent c = (c.tells.need ∙ ap (λ n. min n most_need) (as_far most c.most start c.first c.peaks), c.tells.steps)
  where
    as_far : (peak most start first : ℕ) → peak + first ≡ most + start → most - first ≡ peak - start
    as_far peak most start first e = omega arith

-- the first item's answer, and then the others'
first_of_them : (prefixes : List Path) (G : Filestore) (number : ℕ) (request : Request) (rest : List Item) (status : Status) →
    Performed status ≡ (row prefixes G 0 (Perform request)).answer →
    first_failure number (statuses prefixes G 0 (Perform request ∷ rest))
    ≡ cond (is_successful status) (first_failure (number + 1) (statuses prefixes (performed prefixes G 0 (Perform request)) 0 rest)) (Some (number, status))
unfolding statuses
first_of_them prefixes G number request rest status answer =
    ap (λ a. first_failure number (a ∷ statuses prefixes (performed prefixes G 0 (Perform request)) 0 rest)) (sym answer)

-- the requests from one on
next_of_them : (requests : List Request) (number : ℕ) (request : Request) → number < length requests → request ≡ get_or requests number request →
    map Perform (drop number requests) ≡ Perform request ∷ map Perform (drop (number + 1) requests)
next_of_them requests number request more is =
    ap (map Perform) (drop-cons requests number request more)
    ∙ ap (λ (r : Request). Perform r ∷ map Perform (drop (suc number) requests)) (sym is)
    ∙ ap (λ n. Perform request ∷ map Perform (drop n requests)) (sym (add-one number))

-- where the request is successful
abbrev pub AfterSparse : Sketch → List Item → Status → Filestore → ℕ → ℕ → ℕ → Type 0
AfterSparse w items status G start most spent = is_successful status ≡ true → IsSparseViewOf w items G start most spent

-- what a view of what a list sees says of its next request
pub answer_at_sparse : (prefixes : List Path) (v w : Sketch) (requests : List Request) (number : ℕ) (request : Request) (status : Status) →
    number < length requests → request ≡ get_or requests number request → v.prefixes ≡ prefixes → TellsSparse v w request status →
    Goes (IsSparseViewOf v (map Perform (drop number requests))) (AfterSparse w (map Perform (drop (number + 1) requests)) status) prefixes
    (Perform request) (Performed status)
answer_at_sparse prefixes v w requests number request status more is same tells =
    subst (λ (items : List Item). Goes (IsSparseViewOf v items) (AfterSparse w (map Perform (drop (number + 1) requests)) status) prefixes
    (Perform request) (Performed status)) (sym (next_of_them requests number request more is))
    (subst (λ (ps : List Path). Goes (IsSparseViewOf v (Perform request ∷ map Perform (drop (number + 1) requests)))
    (AfterSparse w (map Perform (drop (number + 1) requests)) status) ps (Perform request) (Performed status)) same
    (tells (map Perform (drop (number + 1) requests))))

module _ (prefixes : List Path) (F : Filestore) (items : List Item) (start high taken : ℕ) where
  pub begins : (Seen : Filestore → ℕ → ℕ → ℕ → Type 0) → Seen F start high taken → blocks F ≤ high → GoesOn prefixes F items start high taken Seen 0 items
  begins Seen seen within = record { here = F; most = high; spent = taken; seen = seen; within = within; failure = refl; peaks = refl; counts = refl }

  pub goes : (Seen Next : Filestore → ℕ → ℕ → ℕ → Type 0) (number : ℕ) (request : Request) (rest : List Item) (status : Status) →
      Goes Seen Next prefixes (Perform request) (Performed status) → is_successful status ≡ true →
      GoesOn prefixes F items start high taken Seen number (Perform request ∷ rest) → GoesOn prefixes F items start high taken Next (number + 1) rest
  unfolding steps peak
  goes Seen Next number request rest status tells done g =
      let stated = tells g.here start g.most g.spent g.seen in
      let next = performed prefixes g.here 0 (Perform request) in
      record {
        here = next;
        most = max g.most (blocks next);
        spent = g.spent + (1 + step_bound g.here (Perform request));
        seen = stated.1;
        within = omega arith;
        failure = g.failure ∙ first_of_them prefixes g.here number request rest status stated.0
            ∙ ap (λ b. cond b (first_failure (number + 1) (statuses prefixes next 0 rest)) (Some (number, status))) done;
        peaks = g.peaks ∙ raised g.most (blocks g.here) (blocks next) (peak prefixes next 0 rest) g.within (low prefixes next rest);
        counts = g.counts ∙ grouped g.spent (1 + step_bound g.here (Perform request)) (steps prefixes next 0 rest);
      }

  pub fails : (Seen Next : Filestore → ℕ → ℕ → ℕ → Type 0) (number : ℕ) (request : Request) (rest : List Item) (status : Status) →
      Goes Seen Next prefixes (Perform request) (Performed status) → is_successful status ≡ false →
      GoesOn prefixes F items start high taken Seen number (Perform request ∷ rest) → first_failure 0 (statuses prefixes F 0 items) ≡ Some (number, status)
  fails Seen Next number request rest status tells failed g =
      let stated = tells g.here start g.most g.spent g.seen in
      let next = performed prefixes g.here 0 (Perform request) in
      g.failure ∙ first_of_them prefixes g.here number request rest status stated.0
      ∙ ap (λ b. cond b (first_failure (number + 1) (statuses prefixes next 0 rest)) (Some (number, status))) failed

  -- said in another way
  pub goes_as : (Seen Next : Filestore → ℕ → ℕ → ℕ → Type 0) (number : ℕ) (rest : List Item) →
      ((G : Filestore) (start most spent : ℕ) → Seen G start most spent → Next G start most spent) →
      GoesOn prefixes F items start high taken Seen number rest → GoesOn prefixes F items start high taken Next number rest
  goes_as Seen Next number rest said g = record {
    here = g.here;
    most = g.most;
    spent = g.spent;
    seen = said g.here start g.most g.spent g.seen;
    within = g.within;
    failure = g.failure;
    peaks = g.peaks;
    counts = g.counts;
  }

  -- the next request of a list of requests
  pub goes_on : (Seen Next : Filestore → ℕ → ℕ → ℕ → Type 0) (requests : List Request) (number : ℕ) (request : Request) (status : Status) →
      number < length requests → request ≡ get_or requests number request →
      Goes Seen Next prefixes (Perform request) (Performed status) → is_successful status ≡ true →
      GoesOn prefixes F items start high taken Seen number (map Perform (drop number requests)) →
      GoesOn prefixes F items start high taken Next (number + 1) (map Perform (drop (number + 1) requests))
  goes_on Seen Next requests number request status more is tells done g =
      goes Seen Next number request (map Perform (drop (number + 1) requests)) status tells done
      (subst (λ (rest : List Item). GoesOn prefixes F items start high taken Seen number rest) (next_of_them requests number request more is) g)

  pub fails_at : (Seen Next : Filestore → ℕ → ℕ → ℕ → Type 0) (requests : List Request) (number : ℕ) (request : Request) (status : Status) →
      number < length requests → request ≡ get_or requests number request →
      Goes Seen Next prefixes (Perform request) (Performed status) → is_successful status ≡ false →
      GoesOn prefixes F items start high taken Seen number (map Perform (drop number requests)) → first_failure 0 (statuses prefixes F 0 items)
      ≡ Some (number, status)
  fails_at Seen Next requests number request status more is tells failed g =
      fails Seen Next number request (map Perform (drop (number + 1) requests)) status tells failed
      (subst (λ (rest : List Item). GoesOn prefixes F items start high taken Seen number rest) (next_of_them requests number request more is) g)

  pub ends : {X : Type 0} (x : X) (Seen : Filestore → ℕ → ℕ → ℕ → Type 0) (w : Sketch) → Counts Seen w → (requests : List Request) (number : ℕ) →
      length requests ≤ number →
      GoesOn prefixes F items start high taken Seen number (map Perform (drop number requests)) → EndsSo {X = X} prefixes F items start high taken w (Ok x)
  unfolding statuses steps peak
  ends x Seen w counts requests number all g =
      let none = ap (map Perform) (drop_all number requests all) in
      let last = subst (λ (rest : List Item). GoesOn prefixes F items start high taken Seen number rest) none g in
      let highest : last.most ≡ max high (peak prefixes F 0 items) = omega (arith, last.peaks, last.within) in
      let stated = counts last.here start last.most last.spent last.seen in
      (last.failure, stated.0 ∙ ap (λ n. min (n - start) most_need) highest, stated.1 ∙ ap capped (sym (last.counts ∙ add-zero last.spent)))
