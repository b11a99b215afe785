-- The responses of an outcome, one after another; and the program's table, leases and quota after a transaction was forgotten.
use Rattle.std.proofs.Common.{◌≡◌, ℕ, zero, suc, ◌+◌, ◌-◌, ◌≤◌, ◌<◌, List, [], ◌∷◌, ◌++◌, length, drop, refl, ap, sym, subst, ◌∙◌, arith, append_assoc, get_or, add-one, inl, inr}
use Rattle.std.specs.Prelude.{Some, slice_get, remove, IsTrue, IsFalse}
use Rattle.std.proofs.lemmas.Bool.{both_ways, cases_lt}
use Rattle.std.proofs.Math.Seq.{drop-cons}
use Rattle.cfdp_status.specs.declared.status.Status.{Status}
use Rattle.cfdp_status.specs.declared.status.Status.TheVariants.{Successful, NotPerformed}
use Rattle.cfdp_tlv.specs.Values.{RequestFields, ResponseFields}
use Rattle.cfdp_actions.specs.Store.{Store}
use Rattle.cfdp_transactions.specs.Entry.{is_live, Entry, reserve}
use Rattle.cfdp_transactions.specs.Events.{Reply}
use Rattle.cfdp_transactions.specs.declared.outcome.Outcome.{Outcome}
use Rattle.cfdp_transactions.specs.Outcome.{answered, responses_of, outcome_of}
use Rattle.cfdp_transactions.specs.World.{World, leases_of}
use Rattle.cfdp_transactions.specs.Ending.{taken_out}
use Rattle.cfdp_transactions.specs.code.TableEntries.{TableEntryFields, entry_in, table_of}
use Rattle.cfdp_transactions.specs.code.Books.{FitsBudget, IsBooked, world_of}
use Rattle.cfdp_transactions.specs.declared.books.Books.{Books}
use Rattle.cfdp_transactions.specs.code.TakenOutcome.{statuses_of}
use Rattle.cfdp_transactions.proofs.KeptTable.Accounts.{leases_removed}
use Rattle.cfdp_transactions.proofs.KeptTable.Answering.{entry_is}
use Rattle.cfdp_transactions.proofs.Soundness.OwnChange.{reserves_total}
use Rattle.cfdp_transactions.proofs.Indexes.{before, following, remove_index, remove_others, get_same, total-remove}
use Rattle.cfdp_transactions.proofs.KeptTable.WorldOfTable.{table_entry_at, remove_in}

-- the responses ---------------------------------------------------------------------------

abbrev pub status_at : ℕ → RequestFields → Status
status_at zero r = NotPerformed r.action
status_at (suc left) r = Successful r.action

pub one_response : (left : ℕ) (r : RequestFields) (rs : List RequestFields) → responses_of (r ∷ rs) (statuses_of left (r ∷ rs))
    ≡ answered r (status_at left r) ∷ responses_of rs (statuses_of (left - 1) rs)
one_response zero r rs = refl
one_response (suc left) r rs = let e : suc left - 1 ≡ left = omega arith in rw e refl

-- where the next request has its response
pub next_answer : (r : RequestFields) (rs : List RequestFields) (performed n : ℕ) (done now total : List ResponseFields) (response : ResponseFields)
    → response ≡ answered r (status_at (performed - n) r) → now ≡ done ++ response ∷ [] → done ++ responses_of (r ∷ rs) (statuses_of (performed - n) (r ∷ rs))
    ≡ total
    → now ++ responses_of rs (statuses_of (performed - (n + 1)) rs) ≡ total
next_answer r rs performed n done now total response is pushed all =
    let less : performed - n - 1 ≡ performed - (n + 1) = omega arith in
    let one : responses_of (r ∷ rs) (statuses_of (performed - n) (r ∷ rs)) ≡ response ∷ responses_of rs (statuses_of (performed - (n + 1)) rs) =
    one_response (performed - n) r rs ∙ ap (λ (x : ResponseFields). x ∷ responses_of rs (statuses_of (performed - n - 1) rs)) (sym is)
    ∙ ap (λ (m : ℕ). response ∷ responses_of rs (statuses_of m rs)) less in
    ap (λ (xs : List ResponseFields). xs ++ responses_of rs (statuses_of (performed - (n + 1)) rs)) pushed
    ∙ append_assoc done (response ∷ []) (responses_of rs (statuses_of (performed - (n + 1)) rs)) ∙ ap (λ (xs : List ResponseFields). done ++ xs) (sym one) ∙ all

pub next_response : (requests : List RequestFields) (performed index : ℕ) (d : RequestFields) (done now total : List ResponseFields)
    (response : ResponseFields) → index < length requests
    → response ≡ answered (get_or requests index d) (status_at (performed - index) (get_or requests index d)) → now ≡ done ++ response ∷ []
    → done ++ responses_of (drop index requests) (statuses_of (performed - index) (drop index requests)) ≡ total
    → now ++ responses_of (drop (index + 1) requests) (statuses_of (performed - (index + 1)) (drop (index + 1) requests)) ≡ total
next_response requests performed index d done now total response there is pushed all =
    let r = get_or requests index d in
    let rest = drop (suc index) requests in
    let here : drop index requests ≡ r ∷ rest = drop-cons requests index d there in
    let whole : done ++ responses_of (r ∷ rest) (statuses_of (performed - index) (r ∷ rest)) ≡ total =
    ap (λ (rs : List RequestFields). done ++ responses_of rs (statuses_of (performed - index) rs)) (sym here) ∙ all in
    rw add-one (rw add-one at (next_answer r rest performed index done now total response is pushed whole))

pub status_performed : (performed index : ℕ) (r : RequestFields) → index < performed → status_at (performed - index) r ≡ Successful r.action
status_performed performed index r h = let e : performed - index ≡ suc (performed - index - 1) = omega arith in rw e refl

pub status_left : (performed index : ℕ) (r : RequestFields) → performed ≤ index → status_at (performed - index) r ≡ NotPerformed r.action
status_left performed index r h = let e : performed - index ≡ 0 = omega arith in rw e refl

pub status_of_number : (performed number : ℕ) (r : RequestFields) (status : Status) → (number < performed → status ≡ Successful r.action)
    → (performed ≤ number → status ≡ NotPerformed r.action) → status ≡ status_at (performed - number) r
status_of_number performed number r status done left = elim (cases_lt number performed) [
  | inl less ↦ done less ∙ sym (status_performed performed number r less)
  | inr past ↦ left past ∙ sym (status_left performed number r past)
]

-- the transaction at k is forgotten ---------------------------------------------------------

module _ (s : Store) (b : Books) (booked : IsBooked s b) (k : ℕ) (r : TableEntryFields) (at : slice_get b.table k ≡ Some r)
    (over : IsFalse (is_live r.phase)) where
  abbrev W : World
  W = world_of s b

  abbrev e : Entry
  e = entry_in s.filestore r

  at_k : slice_get W.table k ≡ Some e
  at_k = table_entry_at s.filestore b.table k r at

  pub taken_answer : (o : Outcome) → o ≡ outcome_of e → (f : Entry) → slice_get W.table k ≡ Some f → taken_out W k (Some f)
      ≡ (world_of s (record b { table = remove b.table k }), Reply.Taken o)
  taken_answer o is f there =
      let same : f ≡ e = entry_is s b k r at f there in
      let table : remove W.table k ≡ table_of s.filestore (remove b.table k) = sym (remove_in s.filestore b.table k) in
      rw (same, over, table, is) refl

  abbrev V : World
  V = record W { table = remove W.table k }

  fits : FitsBudget b.quota V
  fits = record {
    in_all = booked.budget.in_all;
    not_used = booked.budget.not_used;
    not_granted = let none : reserve e ≡ 0 = rw over refl in omega (
      arith,
      booked.budget.not_granted,
      reserves_total W.table,
      reserves_total (remove W.table k),
      total-remove reserve W.table k e at_k,
      none,
    );
    opened = λ j d there. booked.budget.opened (before k j) d (sym (remove_index W.table k j) ∙ there);
    closed = λ slot vacant. booked.budget.closed slot (λ j d there live. vacant (following k j) d
        (remove_others W.table k j (λ q. let same : d ≡ e = get_same W.table j k d e there at_k q in
        both_ways (is_live r.phase) over (subst (λ (x : Entry). IsTrue (is_live x.phase)) same live)) ∙ there) live);
  }

  pub taken_booked : IsBooked s (record b { table = remove b.table k })
  taken_booked =
      let table : table_of s.filestore (remove b.table k) ≡ remove W.table k = remove_in s.filestore b.table k in
      record {
        leases = booked.leases ∙ sym (leases_removed W.table k e at_k over) ∙ ap (λ (t : List Entry). leases_of t) (sym table);
        budget = rw table fits;
        capacity = booked.capacity;
        few = booked.few;
        pieces = λ j d there. booked.pieces (before k j) d (sym (remove_index b.table k j) ∙ there);
      }
