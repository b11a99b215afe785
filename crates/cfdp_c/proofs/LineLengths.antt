-- How long the lines are that are written of a reply and of an answer.
--     shown_len             the line of a reply;  answer_len: of an answer
use Rattle.std.proofs.Common.{◌≡◌, ℕ, ◌≤◌, ◌<◌, List, length, refl, arith}
use Rattle.std.specs.Prelude.{◌==◌, nat_lt, Option, Some, None, IfSome}
use Rattle.std.specs.Option.{option_map, option_and_then, option_flatten}
use Rattle.std.proofs.lemmas.Bool.{cond_both, ltb-true}
use Rattle.cfdp_status.specs.Codes.{beside}
use Rattle.cfdp_status.proofs.Octets.{AllRows, beside_all}
use Rattle.cfdp_verifier.specs.declared.refusal.Refusal.{Refusal}
use Rattle.cfdp_verifier.specs.declared.refusal.Refusal.TheVariants as refusal
use Rattle.cfdp_verifier.specs.declared.refusal.Place.TheVariants as place
use Rattle.cfdp_transactions.specs.declared.reply.Reply.{Reply}
use Rattle.cfdp_transactions.specs.declared.reply.Reply.TheVariants as reply
use Rattle.cfdp_texts.proofs.Lengths.{IsNarrow, IsNarrowRefusal, reply_line_len, taken_line_len}
use Rattle.cfdp_c.specs.Calls.{transaction_named}
use Rattle.cfdp_c.specs.Shown.{HasWidths, small, status_numbered, failure_in, refusals, refusal_in, reply_table, reply_in, reply_shown, answer_lines, answer_line, longest_line}
use Rattle.cfdp_c.specs.declared.reply.ReplyFields.{ReplyFields}

-- options ----------------------------------------------------------------------------

holds : {A : Type 0} (P : A → Type 0) (o : Option A) → ((x : A) → o ≡ Some x → P x) → IfSome o P
holds P None each = tt
holds P (Some x) each = each x refl

mapped : {A B : Type 0} (P : A → Type 0) (Q : B → Type 0) (f : A → B) (o : Option A) → ((x : A) → P x → Q (f x)) → IfSome o P → IfSome (option_map f o) Q
mapped P Q f None each all = tt
mapped P Q f (Some x) each all = each x all

chained : {A B : Type 0} (P : A → Type 0) (Q : B → Type 0) (f : A → Option B) (o : Option A) → ((x : A) → P x → IfSome (f x) Q) → IfSome o P →
    IfSome (option_and_then f o) Q
chained P Q f None each all = tt
chained P Q f (Some x) each all = each x all

flattened : {A : Type 0} (P : A → Type 0) (o : Option (Option A)) → IfSome o (λ inner. IfSome inner P) → IfSome (option_flatten o) P
flattened P None all = tt
flattened P (Some inner) all = all

stated_beside : {A : Type 0} (P : A → Type 0) (rows : List (ℕ × A)) (number : ℕ) → AllRows (λ _ x. P x) rows → IfSome (beside rows number) P
stated_beside P rows number all = holds P (beside rows number) (λ x is. beside_all (λ _ y. P y) rows number x all is)

-- replies ----------------------------------------------------------------------------

small_holds : (n : ℕ) → IfSome (small n) (λ octet. octet < 256)
small_holds n = cond_both (nat_lt n 256) _ _ (λ (o : Option ℕ). IfSome o (λ octet. octet < 256)) (λ less. ltb-true n 256 less) (λ _. tt)

any : {A : Type 0} (o : Option A) → IfSome o (λ _. Unit {0})
any None = tt
any (Some x) = tt

module _ (fields : ReplyFields) (w : HasWidths fields) where
  failure_holds : IfSome (failure_in fields) IsNarrowRefusal
  failure_holds =
      chained (λ octet. octet < 256) IsNarrowRefusal (λ request. option_map (λ status. refusal.WouldFail request status) (status_numbered fields.status))
      (small fields.request)
      (λ request narrow. mapped (λ _. Unit {0}) IsNarrowRefusal (λ status. refusal.WouldFail request status) (status_numbered fields.status) (λ _ _. narrow)
      (any (status_numbered fields.status))) (small_holds fields.request)

  refusal_holds : IfSome (refusal_in fields) IsNarrowRefusal
  refusal_holds =
      let request = mapped (λ octet. octet < 256) IsNarrowRefusal (λ request. refusal.BadPath (place.Request request)) (small fields.request)
      (λ _ narrow. narrow) (small_holds fields.request) in
      flattened IsNarrowRefusal (beside (refusals fields) fields.refusal)
      (stated_beside (λ (o : Option Refusal). IfSome o IsNarrowRefusal) (refusals fields) fields.refusal
      (tt, (tt, (request, ((w.other_source, w.other_number), (tt, (failure_holds, (w.steps, ((w.blocks, w.spare), tt)))))))))

  reply_holds : IfSome (reply_in fields) IsNarrow
  reply_holds =
      let refused = mapped IsNarrowRefusal IsNarrow (λ why. reply.Refused why) (refusal_in fields) (λ _ narrow. narrow) refusal_holds in
      let faulted = mapped (λ octet. octet < 256) IsNarrow (λ condition. reply.Faulted condition) (small fields.condition) (λ _ narrow. narrow)
      (small_holds fields.condition) in
      let performed = mapped (λ _. Unit {0}) IsNarrow (λ status. reply.Performed status) (status_numbered fields.status) (λ _ _. tt)
      (any (status_numbered fields.status)) in
      flattened IsNarrow (beside (reply_table fields) fields.kind)
      (stated_beside (λ (o : Option Reply). IfSome o IsNarrow) (reply_table fields) fields.kind
      ((w.blocks, w.steps), (refused, (tt, (tt, (tt, (tt, (faulted, (performed, (tt, (tt, (tt, (tt, (tt, (tt, (tt, (tt, tt)))))))))))))))))

  pub shown_len : (octets : List ℕ) → IfSome (reply_shown fields octets) (λ line. length line ≤ longest_line (length octets))
  shown_len octets =
      let id = transaction_named fields.source fields.number in
      let fits : List ℕ → Type 0 = λ line. length line ≤ longest_line (length octets) in
      cond_both (fields.kind == 12) _ _ (λ (o : Option (List ℕ)). IfSome o fits)
      (λ _. taken_line_len id octets fields.condition w.source w.number w.condition)
      (λ _. mapped IsNarrow fits _ (reply_in fields) (λ reported narrow. omega (arith, reply_line_len id reported w.source w.number narrow)) reply_holds)

-- answers ----------------------------------------------------------------------------

pub answer_len : (answer : ℕ) → IfSome (answer_line answer) (λ line. length line ≤ 29)
answer_len answer =
    stated_beside (λ (line : List ℕ). length line ≤ 29) answer_lines answer
    (omega arith, (omega arith, (omega arith, (omega arith, (omega arith, (omega arith, (omega arith, (omega arith, tt))))))))
