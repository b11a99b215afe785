-- A live entry that ends gives back what is staged, and its reserve.
use Rattle.std.proofs.Common.{◌≡◌, ℕ, ◌<◌, [], ◌∷◌, length, refl, arith, get_or-set_same}
use Rattle.std.specs.Prelude.{false, Some, slice_get, IsTrue}
use Rattle.cfdp_actions.specs.Filestore.{staged_in, blocks_of, blocks, Stages, changed}
use Rattle.cfdp_actions.proofs.Growth.{blocks_of-zero}
use Rattle.cfdp_actions.proofs.Weights.{blocks-stages}
use Rattle.cfdp_transactions.specs.Entry.{is_live, Entry, blocks_left}
use Rattle.cfdp_transactions.specs.World.{World}
use Rattle.cfdp_transactions.specs.Ending.{ended, ends}
use Rattle.cfdp_transactions.specs.code.LowerLaws.{LowerLaws}
use Rattle.cfdp_transactions.specs.Sound.{Sound}
use Rattle.cfdp_transactions.proofs.Balance.{spend_within, left-spend, spend-grown}
use Rattle.cfdp_transactions.proofs.Soundness.OwnChange.{MovesTo, change_moves}

-- the entry as it is when it ends: what an ending event may not have changed before
pub record IsEnding (e now : Entry) : Type 0 where
  pub header : now.header ≡ e.header
  pub metadata : now.metadata ≡ e.metadata
  pub slot : now.slot ≡ e.slot
  pub items : now.items ≡ e.items
  pub statuses : now.statuses ≡ e.statuses
  pub granted : now.blocks_granted ≡ e.blocks_granted
  pub steps_granted : now.steps_granted ≡ e.steps_granted
  pub spent : now.blocks_spent ≡ e.blocks_spent
  pub steps_spent : now.steps_spent ≡ e.steps_spent

-- nothing changed before
pub is_ending : (e : Entry) → IsEnding e e
is_ending e = record {
  header = refl;
  metadata = refl;
  slot = refl;
  items = refl;
  statuses = refl;
  granted = refl;
  steps_granted = refl;
  spent = refl;
  steps_spent = refl;
}

module _ (laws : LowerLaws) where
  pub ends_moves : (W : World) (k : ℕ) (e now : Entry) (condition : ℕ) → Sound W → slice_get W.table k ≡ Some e → IsTrue (is_live e.phase) → IsEnding e now →
      MovesTo false k e (ended W.filestore now condition) W (ends W k now condition)
  ends_moves W k e now condition s at live ending =
      let honest = s.honest k e at in
      let kept = s.live k e at live in
      let F = W.filestore in
      let ended_left = left-spend now.blocks_granted now.blocks_spent 0 (blocks_of (length (staged_in F now.slot)))
      (rw (ending.spent, ending.granted) honest.blocks) (omega arith) in
      let same_left : blocks_left now.blocks_granted now.blocks_spent ≡ blocks_left e.blocks_granted e.blocks_spent = rw (ending.spent, ending.granted) refl in
      let inside : now.slot < length F.staged = rw ending.slot kept.slot in
      let given = blocks-stages F now.slot [] inside in
      change_moves laws W s false k e (Stages now.slot [] ∷ []) (ended F now condition) (record {
        at = at;
        live = live;
        isolated = λ fp _ p _. refl;
        in_slot = (ending.slot, tt);
        slot = ending.slot;
        carried = record {
          header = ending.header;
          metadata = ending.metadata;
          items = ending.items;
          blocks_granted = ending.granted;
          steps_granted = ending.steps_granted;
          blocks_spent = rw ending.spent (spend-grown e.blocks_spent 0 (blocks_of (length (staged_in F now.slot))) (blocks F)
              (blocks (changed F (Stages now.slot []))) (omega (arith, given, blocks_of-zero)));
          steps_spent = λ _. ending.steps_spent;
          statuses = λ _. ending.statuses;
        };
        rooted = s.rooted;
        kept = λ live_now. absurd cc;
        emptied = λ _. rw ending.slot (get_or-set_same F.staged e.slot [] [] kept.slot);
        honest = record {
          blocks = spend_within now.blocks_granted now.blocks_spent 0 (blocks_of (length (staged_in F now.slot)))
              (rw (ending.spent, ending.granted) honest.blocks) (omega arith);
          steps = rw (ending.steps_spent, ending.steps_granted) honest.steps;
          limits = rw (ending.granted, ending.steps_granted, ending.metadata, ending.items) honest.limits;
          no_more = rw (ending.statuses, ending.metadata) honest.no_more;
          statuses = rw ending.statuses honest.statuses;
          in_order = rw (ending.statuses, ending.metadata) honest.in_order;
          to_come = λ counted. absurd cc;
          counted = λ counted. absurd cc;
        };
        room = rw live (omega (arith, given, blocks_of-zero, ended_left));
      })
