-- What is said of an outcome whose Finished PDU was written: of the entry at an index, and of a request for it.
use Rattle.std.proofs.Common.{◌≡◌, ℕ, ◌≤◌, ◌<◌, List, length, refl, sym, ap, subst, ◌∙◌}
use Rattle.std.specs.Prelude.{Bool, true, false, if◌then◌else◌, Option, Some, None, IfSome, IsFalse, Result, Ok, Err, IfOk, IfErr, OnOk, OnErr, slice_get}
use Rattle.cfdp_status.specs.declared.transaction.TransactionId.{TransactionId}
use Rattle.cfdp_actions.specs.Store.{Store}
use Rattle.cfdp_pdus.specs.BufferParts.{filled}
use Rattle.cfdp_transactions.specs.code.Books.{world_of}
use Rattle.cfdp_transactions.specs.declared.books.Books.{Books}
use Rattle.cfdp_transactions.specs.declared.finished_in_buffer.ShortBuffer.{ShortBuffer}
use Rattle.cfdp_transactions.specs.declared.finished_in_buffer.TakenFinished.{TakenFinished}
use Rattle.cfdp_transactions.specs.declared.outcome.Outcome.{Outcome}
use Rattle.cfdp_transactions.specs.Ending.{taken_out}
use Rattle.cfdp_transactions.specs.CoreFields.{outcome_in}
use Rattle.cfdp_transactions.specs.Entry.{Entry, is_live}
use Rattle.cfdp_transactions.specs.Events.{Reply, Take}
use Rattle.cfdp_transactions.specs.FinishedInBuffer.{sent, taken_by}
use Rattle.cfdp_transactions.specs.code.FinishedInBuffer.{FallsShort, Issues}
use Rattle.cfdp_transactions.specs.Next.{next}
use Rattle.cfdp_transactions.specs.Outcome.{outcome_of}
use Rattle.cfdp_transactions.specs.code.TableEntries.{kept_index}
use Rattle.cfdp_transactions.specs.Sound.{Sound}
use Rattle.cfdp_transactions.specs.World.{World, index_of}
use Rattle.cfdp_transactions.specs.Writable.{IsWritable, finished_octets}
use Rattle.cfdp_transactions.proofs.KeptTable.Following.{found_entry, index_is}

-- of an answer that hands out an outcome ----------------------------------------------

pub issues_outcome : (answer : World × Reply) (V : World) (o : Outcome) (out written : List ℕ) (condition len : ℕ) → answer ≡ (V, Reply.Taken o) →
    condition ≡ o.finished.condition → len ≡ length (finished_octets o) → written ≡ filled (finished_octets o) out → len ≤ length out →
    Issues answer V out written (Some (record { condition = condition; len = len }))
issues_outcome answer V o out written condition len is same_condition same_len octets fits =
    subst (λ (a : World × Reply). Issues a V out written (Some (record { condition = condition; len = len }))) (sym is)
    (record { world = refl; returned_is = rw (same_condition, same_len) refl; octets = octets; fits = subst (λ (n : ℕ). n ≤ length out) same_len fits })

pub short_of_outcome : (answer : World × Reply) (W V X : World) (o : Outcome) (out written : List ℕ) (short : ShortBuffer) → answer ≡ (X, Reply.Taken o) →
    short.needed ≡ length (finished_octets o) → length out < short.needed → V ≡ W → written ≡ out → FallsShort answer W V out written short
short_of_outcome answer W V X o out written short is needed less world octets =
    subst (λ (a : World × Reply). FallsShort a W V out written short) (sym is) (record { needed = needed; less = less; world = world; octets = octets })

-- of a request ------------------------------------------------------------------------

pub record Returned (answer : World × Reply) (W V : World) (out written : List ℕ) (result : Result (Option TakenFinished) ShortBuffer) : Type 0 where
  pub returned : IfOk result (λ returned. returned ≡ taken_by answer.1)
  pub world : OnOk result (V ≡ answer.0)
  pub octets : OnOk result (written ≡ filled (sent answer.1) out)
  pub fits : OnOk result (length (sent answer.1) ≤ length out)
  pub needed : IfErr result (λ short. short.needed ≡ length (sent answer.1))
  pub less : IfErr result (λ short. length out < short.needed)
  pub unchanged : OnErr result (V ≡ W)
  pub unwritten : OnErr result (written ≡ out)
  pub sound : Sound W → Sound answer.0 → Sound V

returned_of : (answer : World × Reply) (W V : World) (out written : List ℕ) (result : Result (Option TakenFinished) ShortBuffer) →
    IfOk result (λ returned. Issues answer V out written returned) → IfErr result (λ short. FallsShort answer W V out written short) →
    Returned answer W V out written result
returned_of answer W V out written (Ok returned) issues short = record {
  returned = issues.returned_is;
  world = issues.world;
  octets = issues.octets;
  fits = issues.fits;
  needed = tt;
  less = tt;
  unchanged = tt;
  unwritten = tt;
  sound = λ before after. subst Sound (sym issues.world) after;
}
returned_of answer W V out written (Err why) issues short = record {
  returned = tt;
  world = tt;
  octets = tt;
  fits = tt;
  needed = short.needed;
  less = short.less;
  unchanged = short.world;
  unwritten = short.octets;
  sound = λ before after. subst Sound (sym short.world) before;
}

-- for the entry at an index, where there is one
ok_at : (W V : World) (k : ℕ) (e : Entry) (answer : World × Reply) (out written : List ℕ) (result : Result (Option TakenFinished) ShortBuffer) →
    slice_get W.table k ≡ Some e → answer ≡ taken_out W k (Some e) →
    IfOk result (λ returned. (f : Entry) → slice_get W.table k ≡ Some f → Issues (taken_out W k (Some f)) V out written returned) →
    IfOk result (λ returned. Issues answer V out written returned)
ok_at W V k e answer out written (Ok returned) at is issues = subst (λ (a : World × Reply). Issues a V out written returned) (sym is) (issues e at)
ok_at W V k e answer out written (Err why) at is issues = tt

err_at : (W V : World) (k : ℕ) (e : Entry) (answer : World × Reply) (out written : List ℕ) (result : Result (Option TakenFinished) ShortBuffer) →
    slice_get W.table k ≡ Some e → answer ≡ taken_out W k (Some e) →
    IfErr result (λ short. (f : Entry) → slice_get W.table k ≡ Some f → FallsShort (taken_out W k (Some f)) W V out written short) →
    IfErr result (λ short. FallsShort answer W V out written short)
err_at W V k e answer out written (Ok returned) at is short = tt
err_at W V k e answer out written (Err why) at is short = subst (λ (a : World × Reply). FallsShort a W V out written why) (sym is) (short e at)

module _ (s : Store) (b : Books) (id : TransactionId) (index : ℕ) (is : index ≡ kept_index id b.table) where
  abbrev W : World
  W = world_of s b

  is_index : index_of W id ≡ index
  is_index = index_is s b id ∙ sym is

  pub returned_so : index < length b.table → (V : World) (out written : List ℕ) (result : Result (Option TakenFinished) ShortBuffer) →
      IfOk result (λ returned. (f : Entry) → slice_get W.table index ≡ Some f → Issues (taken_out W index (Some f)) V out written returned) →
      IfErr result (λ short. (f : Entry) → slice_get W.table index ≡ Some f → FallsShort (taken_out W index (Some f)) W V out written short) →
      Returned (next W (Take id)) W V out written result
  returned_so within V out written result issues short =
      let here = found_entry s b id index is within in
      let at : slice_get W.table index ≡ Some here.0 = ap (λ (k : ℕ). slice_get W.table k) (sym is_index) ∙ here.1 in
      let answer : next W (Take id) ≡ taken_out W index (Some here.0) = rw (is_index, at) refl in
      returned_of (next W (Take id)) W V out written result (ok_at W V index here.0 (next W (Take id)) out written result at answer issues)
      (err_at W V index here.0 (next W (Take id)) out written result at answer short)

  over_by : (live : Bool) (o : Outcome) → IfSome (if live then None else Some o) IsWritable → IsFalse live → IsWritable o
  over_by true o fits over = absurd cc
  over_by false o fits over = fits

  pub writable_at : IfSome (outcome_in W id) IsWritable → (e : Entry) → slice_get W.table index ≡ Some e → IsFalse (is_live e.phase) → IsWritable (outcome_of e)
  writable_at fits e at over = over_by (is_live e.phase) (outcome_of e) (rw (is_index, at) at fits) over
