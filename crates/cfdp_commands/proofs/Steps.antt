-- The steps of `run`, one after another.
use Rattle.std.proofs.Common.{◌≡◌, ◌⊎◌, inl, inr, ℕ, zero, suc, List, [], ◌∷◌, ◌++◌, Some, None, refl, sym, ap, ◌∙◌, append_assoc}
use Rattle.std.proofs.lemmas.List.{append-nil}
use Rattle.cfdp_status.specs.declared.transaction.TransactionId.{TransactionId}
use Rattle.cfdp_transactions.specs.declared.event.Event.TheVariants.{Step}
use Rattle.cfdp_transactions.specs.Events.{about}
use Rattle.cfdp_transactions.specs.Next.{next, replies, run}
use Rattle.cfdp_transactions.specs.World.{World, next_runnable}
use Rattle.cfdp_commands.specs.Replay.{steps_by, steps_from}
use Rattle.cfdp_texts.specs.Replies.{reply_line, reply_lines}

-- this many steps are left: they end and write what all of them do
pub record Steps (left : ℕ) (start W : World) (all : ℕ) (before text : List ℕ) : Type 0 where
  pub ends : run W (steps_from left W) ≡ run start (steps_from all start)
  pub writes : text ++ reply_lines (steps_from left W) (replies W (steps_from left W))
      ≡ before ++ reply_lines (steps_from all start) (replies start (steps_from all start))

unrolled : (more : ℕ) (W : World) (id : TransactionId) → next_runnable W.table ≡ Some id
    → steps_from (suc more) W ≡ Step id ∷ steps_from more (next W (Step id)).0
unfolding steps_from
unrolled more W id e = ap (λ first. steps_by first (λ id. steps_from more (next W (Step id)).0)) e

pub steps_next : (more : ℕ) (start W V : World) (all : ℕ) (id : TransactionId) (before text after : List ℕ) → Steps (suc more) start W all before text
    → next_runnable W.table ≡ Some id → V ≡ (next W (Step id)).0
    → after ≡ text ++ reply_line (about (Step id)) (next W (Step id)).1 → Steps more start V all before after
steps_next more start W V all id before text after h e v a =
    let first = unrolled more W id e in
    rw v record {
      ends = ap (run W) (sym first) ∙ h.ends;
      writes =
          ap (λ t. t ++ reply_lines (steps_from more (next W (Step id)).0) (replies (next W (Step id)).0 (steps_from more (next W (Step id)).0))) a
          ∙ append_assoc text (reply_line (about (Step id)) (next W (Step id)).1) _
          ∙ ap (λ events. text ++ reply_lines events (replies W events)) (sym first)
          ∙ h.writes;
    }

none_left : (left : ℕ) (W : World) → (left ≡ 0) ⊎ (next_runnable W.table ≡ None) → steps_from left W ≡ []
unfolding steps_from
none_left zero W h = refl
none_left (suc more) W (inl e) = cc e
none_left (suc more) W (inr e) = ap (λ first. steps_by first (λ id. steps_from more (next W (Step id)).0)) e

pub steps_end : (left : ℕ) (start W : World) (all : ℕ) (before text : List ℕ) → Steps left start W all before text
    → (left ≡ 0) ⊎ (next_runnable W.table ≡ None)
    → (W ≡ run start (steps_from all start))
    × (text ≡ before ++ reply_lines (steps_from all start) (replies start (steps_from all start)))
steps_end left start W all before text h e =
    let none = none_left left W e in (
      sym (ap (run W) none) ∙ h.ends,
      sym (append-nil text) ∙ sym (ap (λ events. text ++ reply_lines events (replies W events)) none) ∙ h.writes,
    )
