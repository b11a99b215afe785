-- The Metadata of a transaction that is not in the table keeps the world sound.
use Rattle.std.proofs.Common.{◌≡◌, ◌≢◌, ℕ, ◌<◌, List, [], length, refl, sym, ◌∙◌, arith, ◌≤◌}
use Rattle.std.specs.Prelude.{Option, Some, None, Bool, true, false, not, ◌&&◌, IsFalse, if◌then◌else◌, ◌==◌, nat_lt, nat_le, replicate}
use Rattle.std.proofs.lemmas.Bool.{cond_both, leb-false, ltb-false}
use Rattle.std.proofs.lemmas.List.{length-replicate}
use Rattle.cfdp_actions.specs.Filestore.{staged_in}
use Rattle.cfdp_actions.specs.Actions.{Item}
use Rattle.cfdp_leases.specs.Footprint.{footprint_of}
use Rattle.cfdp_states.specs.Alone.{stage, alone}
use Rattle.cfdp_transactions.specs.Config.{Config}
use Rattle.cfdp_pdus.specs.Values.{MetadataFields}
use Rattle.cfdp_pdus.specs.declared.header.Header.{Header}
use Rattle.cfdp_verifier.specs.Verdict.{Verdict, Refuse, Grant, verdict}
use Rattle.cfdp_transactions.specs.Entry.{Phase, Receiving, Refused, Ended, is_live, Entry, id_of, name_of, has_file, footprint}
use Rattle.cfdp_transactions.specs.Events.{Reply}
use Rattle.cfdp_transactions.specs.World.{World, spare_blocks, leases_of, free_slot, bound}
use Rattle.cfdp_transactions.specs.Admission.{new_entry, refused_entry, with_new, proposal_of, judged, is_known_checksum, metadata_came}
use Rattle.cfdp_transactions.specs.code.LowerLaws.{LowerLaws}
use Rattle.cfdp_transactions.specs.Sound.{Each, is_counted, successes, all_successful, Sound}
use Rattle.cfdp_transactions.proofs.Balance.{fresh_within}
use Rattle.cfdp_transactions.proofs.Soundness.LeftAlone.{succeed_same, succeed_answers}
use Rattle.cfdp_transactions.proofs.Soundness.Parsing.{granted_order}
use Rattle.cfdp_transactions.proofs.Soundness.Joining.{new_sound}
use Rattle.cfdp_transactions.proofs.FreeSlots.{free_slot_is, free_vacant}
use Rattle.cfdp_transactions.proofs.Soundness.Granted.{IsGranted, IsJust, verdict_just, none_conflicts, conflict_sym, items_length}

-- where there is no file the bound is 0
bound_without : (c : Config) (m : MetadataFields) → (proposal_of c m).destination ≡ None → bound c m ≡ 0
bound_without c m h = without (has_file m) (if m.size == 0 then c.cap else m.size) h
  where
    without : (file : Bool) (size : ℕ) → (if file then Some m.destination_name else None) ≡ None → (if file then size else 0) ≡ 0
    without true size h = absurd cc
    without false size h = refl

module _ (laws : LowerLaws) (W : World) (s : Sound W) (h : Header) (m : MetadataFields) (new_name : Each (λ d. name_of d ≢ id_of h) W.table)
    (few : length W.table < 64) (short : length m.requests ≤ 64) where
  -- an entry that never is live
  refused_sound : (phase : Phase) → IsFalse (is_live phase) → IsFalse (is_counted phase) → Sound (with_new W (refused_entry h m phase))
  refused_sound phase final uncounted = new_sound W (refused_entry h m phase) s (record {
    covered = λ live. absurd cc;
    apart = λ live. absurd cc;
    names = new_name;
    kept = λ live. absurd cc;
    honest = record {
      blocks = fresh_within 0;
      steps = omega arith;
      limits = record {
        of_blocks = omega arith;
        of_steps = omega arith;
        of_requests = short;
        of_items = omega arith;
      };
      no_more = omega arith;
      statuses = tt;
      in_order = refl;
      to_come = λ counted. absurd cc;
      counted = λ counted. absurd cc;
    };
    few = few;
    room = rw final (omega arith);
    given = omega arith;
  })

  granted_sound : (items : List Item) (blocks steps : ℕ) → IsGranted W.config.prefixes W.filestore (leases_of W.table) (spare_blocks W)
      (proposal_of W.config m) items blocks steps →
      successes items ≡ all_successful m.requests → Sound (with_new W (new_entry h m Receiving (free_slot W.table) items blocks steps))
  granted_sound items blocks steps granted order =
      let F = W.filestore in
      let slot = free_slot W.table in
      let free = free_slot_is W.table few in
      let vacant = free_vacant W.table slot free.free in
      let x : List ℕ = replicate (bound W.config m) 0 in
      let inside : slot < length F.staged = rw s.slots free.below in
      let empty : staged_in F slot ≡ [] = s.vacant slot vacant in
      let law = laws.any_slot W.config.prefixes F slot x items inside empty in
      new_sound W (new_entry h m Receiving slot items blocks steps) s (record {
        covered = λ _. laws.own_footprint items;
        apart = λ _ k d at live.
            let apart = none_conflicts W.table (footprint_of items) granted.apart k d at live in (
              record { paths = conflict_sym (footprint_of items) (footprint d) apart; slots = vacant k d at live },
              record { paths = apart; slots = λ q. vacant k d at live (sym q) },
            );
        names = new_name;
        kept = λ _. record {
          slot = inside;
          staged = empty;
          fits = omega arith;
          nothing = λ no. length-replicate {A = ℕ} (bound W.config m) 0 ∙ bound_without W.config m (granted.proposed.file no);
          more = λ no. absurd cc;
          pieces = omega arith;
          eof = λ no. absurd cc;
          checks = omega arith;
          promise = record {
            succeeds = succeed_same W.config.prefixes (alone F x) (stage F slot x) 0 slot items (sym law.0)
                (succeed_answers W.config.prefixes (alone F x) 0 items granted.succeed);
            blocks = omega (arith, law.1, granted.need);
            steps = omega (arith, law.2, granted.steps);
          };
        };
        honest = record {
          blocks = fresh_within blocks;
          steps = omega arith;
          limits = record {
            of_blocks = omega (arith, granted.room);
            of_steps = granted.short;
            of_requests = short;
            of_items = omega (arith, items_length items granted.proposed.shape, granted.proposed.count);
          };
          no_more = omega arith;
          statuses = tt;
          in_order = refl;
          to_come = λ _. order;
          counted = λ _. omega (arith, granted.proposed.count);
        };
        few = few;
        room = omega (arith, granted.room);
        given = omega (arith, granted.room);
      })

  judged_sound : (v : Verdict) → verdict W.config.prefixes W.filestore (leases_of W.table) (spare_blocks W) (proposal_of W.config m) ≡ v →
      IsJust W.config.prefixes W.filestore (leases_of W.table) (spare_blocks W) (proposal_of W.config m) v → Sound (judged W h m v).0
  judged_sound (Refuse r) is just = refused_sound Refused refl refl
  judged_sound (Grant items blocks steps) is just =
      granted_sound items blocks steps just (granted_order W.config.prefixes W.filestore (leases_of W.table) (spare_blocks W)
      (proposal_of W.config m) items blocks steps is)

module _ (laws : LowerLaws) (W : World) (s : Sound W) (h : Header) (m : MetadataFields) where
  pub metadata_sound : (found : Option Entry) → (found ≡ None → Each (λ d. name_of d ≢ id_of h) W.table) → Sound (metadata_came W h m found).0
  metadata_sound (Some e) absent = s
  metadata_sound None absent =
      cond_both (nat_le 64 (length W.table)) _ _ (λ (a : World × Reply). Sound a.0) (λ _. s)
      (λ room.
      let few : length W.table < 64 = leb-false _ _ room in
      cond_both (nat_lt 64 (length m.requests)) _ _ (λ (a : World × Reply). Sound a.0) (λ _. s)
      (λ l. let short : length m.requests ≤ 64 = ltb-false _ _ l in cond_both (has_file m && not (is_known_checksum m.checksum_type)) _ _
      (λ (a : World × Reply). Sound a.0)
      (λ _. refused_sound laws W s h m (absent refl) few short (Ended 11) refl refl)
      (λ _. judged_sound laws W s h m (absent refl) few short (verdict W.config.prefixes W.filestore (leases_of W.table) (spare_blocks W)
      (proposal_of W.config m))
      refl
      (verdict_just W.config.prefixes W.filestore (leases_of W.table) (spare_blocks W) (proposal_of W.config m)))))

  -- the filestore stays as it is
  pub metadata_keeps : (found : Option Entry) → (metadata_came W h m found).0.filestore ≡ W.filestore
  metadata_keeps (Some e) = refl
  metadata_keeps None =
      cond_both (nat_le 64 (length W.table)) _ _ (λ (a : World × Reply). a.0.filestore ≡ W.filestore) (λ _. refl)
      (λ _. cond_both (nat_lt 64 (length m.requests)) _ _ (λ (a : World × Reply). a.0.filestore ≡ W.filestore) (λ _. refl)
      (λ _. cond_both (has_file m && not (is_known_checksum m.checksum_type)) _ _ (λ (a : World × Reply). a.0.filestore ≡ W.filestore) (λ _. refl)
      (λ _. judged_keeps (verdict W.config.prefixes W.filestore (leases_of W.table) (spare_blocks W) (proposal_of W.config m)))))
    where
      judged_keeps : (v : Verdict) → (judged W h m v).0.filestore ≡ W.filestore
      judged_keeps (Refuse r) = refl
      judged_keeps (Grant items blocks steps) = refl
