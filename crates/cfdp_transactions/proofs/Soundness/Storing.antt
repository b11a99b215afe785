-- Octets that come are staged, and their blocks are taken from the reserve.
use Rattle.std.proofs.Common.{◌≡◌, ℕ, ◌+◌, ◌-◌, ◌≤◌, List, [], ◌∷◌, length, refl, ap, arith, get_or-set_same, length-set}
use Rattle.std.specs.Prelude.{false, Some, slice_get, IsTrue}
use Rattle.std.proofs.lemmas.Bool.{both_ways}
use Rattle.std.proofs.lemmas.List.{set-set, set-get_or}
use Rattle.cfdp_actions.specs.Filestore.{Filestore, staged_in, blocks_of, blocks, Stages, changed}
use Rattle.cfdp_actions.proofs.RowLaws.{blocks_of-mono}
use Rattle.cfdp_actions.proofs.Weights.{blocks-stages}
use Rattle.cfdp_states.specs.Alone.{stage}
use Rattle.cfdp_states.proofs.NextItem.{blocks-le-peak}
use Rattle.cfdp_transactions.specs.Received.{Received, staged_of, pieces}
use Rattle.cfdp_transactions.specs.Entry.{is_live, Entry, rest, blocks_left}
use Rattle.cfdp_transactions.specs.World.{World}
use Rattle.cfdp_transactions.specs.Delivery.{storing, stores}
use Rattle.cfdp_transactions.specs.code.LowerLaws.{LowerLaws}
use Rattle.cfdp_transactions.specs.Sound.{longest, IsKept, Sound}
use Rattle.cfdp_transactions.proofs.Balance.{spend_within, left-spend, spend-grown}
use Rattle.cfdp_transactions.proofs.Soundness.Turning.{length-staged_of}
use Rattle.cfdp_transactions.proofs.Soundness.OwnChange.{MovesTo, change_moves}

-- what is staged over what is staged
pub stage-stage : (F : Filestore) (slot : ℕ) (x y : List ℕ) → stage (changed F (Stages slot x)) slot y ≡ stage F slot y
stage-stage F slot x y = ap (λ (staged : List (List ℕ)). record F { staged = staged }) (set-set F.staged slot x y)

-- what is staged already
pub stage-same : (F : Filestore) (slot : ℕ) (x : List ℕ) → staged_in F slot ≡ x → stage F slot x ≡ F
stage-same F slot x e = ap (λ (staged : List (List ℕ)). record F { staged = staged }) (rw (← e) (set-get_or F.staged slot []))

module _ (laws : LowerLaws) (W : World) (s : Sound W) (k : ℕ) (e : Entry) (received : Received)
    (at : slice_get W.table k ≡ Some e) (live : IsTrue (is_live e.phase)) (grown : length e.received ≤ length received)
    (fits : length received ≤ length (longest W.config (storing W.filestore e received)))
    (same : longest W.config (storing W.filestore e received) ≡ longest W.config e) (few : pieces received ≤ 32) where
  abbrev F : Filestore
  F = W.filestore

  abbrev G : Filestore
  G = changed F (Stages e.slot (staged_of received))

  abbrev new : Entry
  new = storing F e received

  kept : IsKept W.config F e
  kept = s.live k e at live

  -- the further blocks
  abbrev more : ℕ
  more = blocks_of (length received) - blocks_of (length (staged_in F e.slot))

  old_length : length (staged_in F e.slot) ≡ length e.received
  old_length = rw kept.staged (length-staged_of e.received)

  grows : blocks G ≡ blocks F + more
  grows = let m = blocks_of-mono (length (staged_in F e.slot)) (length received) (rw old_length grown) in
      omega (arith, blocks-stages F e.slot (staged_of received) kept.slot, ap blocks_of (length-staged_of received), m)

  -- the longest list that may come takes these blocks too
  pub stores_room : more ≤ blocks_left e.blocks_granted e.blocks_spent
  stores_room =
      let x = longest W.config e in
      let shorter : length received ≤ length x = rw same at fits in
      omega (
        arith,
        kept.promise.blocks,
        blocks-le-peak W.config.prefixes (stage F e.slot x) e.slot (rest e),
        blocks-stages F e.slot x kept.slot,
        blocks_of-mono (length received) (length x) shorter,
      )

  stored_kept : IsKept W.config G new
  stored_kept = record {
    slot = rw (length-set F.staged e.slot (staged_of received)) kept.slot;
    staged = get_or-set_same F.staged e.slot (staged_of received) [] kept.slot;
    fits = fits;
    nothing = λ h. rw same (kept.nothing h);
    more = kept.more;
    pieces = few;
    eof = kept.eof;
    checks = kept.checks;
    promise = record {
      succeeds = rw (same, stage-stage F e.slot (staged_of received) (longest W.config e)) kept.promise.succeeds;
      blocks = rw (same, stage-stage F e.slot (staged_of received) (longest W.config e))
          (omega (
            arith,
            kept.promise.blocks,
            grows,
            left-spend e.blocks_granted e.blocks_spent more 0 (s.honest k e at).blocks (omega (arith, stores_room)),
            stores_room,
          ));
      steps = rw (same, stage-stage F e.slot (staged_of received) (longest W.config e)) kept.promise.steps;
    };
  }

  pub stores_moves : MovesTo false k e new W (stores W k e received)
  stores_moves =
      let honest = s.honest k e at in
      change_moves laws W s false k e (Stages e.slot (staged_of received) ∷ []) new (record {
        at = at;
        live = live;
        isolated = λ fp _ p _. refl;
        in_slot = (refl, tt);
        slot = refl;
        carried = record {
          header = refl;
          metadata = refl;
          items = refl;
          blocks_granted = refl;
          steps_granted = refl;
          blocks_spent = spend-grown e.blocks_spent more 0 (blocks F) (blocks G) (omega (arith, grows));
          steps_spent = λ _. refl;
          statuses = λ _. refl;
        };
        rooted = s.rooted;
        kept = λ _. stored_kept;
        emptied = λ final. absurd (both_ways (is_live e.phase) final live);
        honest = record {
          blocks = spend_within e.blocks_granted e.blocks_spent more 0 honest.blocks (omega (arith, stores_room));
          steps = honest.steps;
          limits = honest.limits;
          no_more = honest.no_more;
          statuses = honest.statuses;
          in_order = honest.in_order;
          to_come = honest.to_come;
          counted = honest.counted;
        };
        room = rw live (omega (arith, grows, left-spend e.blocks_granted e.blocks_spent more 0 honest.blocks (omega (arith, stores_room))));
      })
