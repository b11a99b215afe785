-- A list runs on what its footprint covers as it runs on the whole filestore.
--     IsCovered, covered     the answers, need and steps of a list are the same on both, and so is whether its file may be installed
use Rattle.std.proofs.Common.{◌≡◌, refl, sym, ◌∙◌, ap, cond, ℕ, List, [], ◌∷◌, None}
use Rattle.std.specs.List.{AllByRecursion}
use Rattle.cfdp_paths.specs.Paths.{Path}
use Rattle.cfdp_actions.specs.Filestore.{Filestore, node_at}
use Rattle.cfdp_actions.specs.Actions.{Item, Install, Perform, Outcome, succeeded}
use Rattle.cfdp_actions.proofs.Order.{get_kept}
use Rattle.cfdp_leases.specs.Footprint.{Footprint, footprint_of, is_covered, IsWithin}
use Rattle.cfdp_leases.specs.Laws.{IsAlike}
use Rattle.cfdp_leases.proofs.Conflict.{own_footprint}
use Rattle.cfdp_leases.proofs.ReadFrame.{frame_of_reads}
use Rattle.cfdp_leases.proofs.ChangeFrame.{own_changes}
use Rattle.cfdp_states.specs.Alone.{alone, statuses_alone, need_alone, steps_alone}
use Rattle.cfdp_states.specs.Views.{only}
use Rattle.cfdp_states.proofs.Leased.{only_leased}
use Rattle.cfdp_verifier.specs.Verdict.{destination_allowed}

-- the footprint can't distinguish the two
alike : (fp : Footprint) (F : Filestore) (x : List ℕ) → IsAlike fp 0 (alone F x) (alone (only fp F) x)
alike fp F x = record {
  kept = λ p covered. sym (get_kept F (λ q. is_covered fp q) p ∙ ap (λ b. cond b (node_at F p) None) covered);
  staged = refl;
}

allowed_alike : (prefixes : List Path) (F G : Filestore) (fp : Footprint) (items : List Item) → IsAlike fp 0 F G → AllByRecursion (IsWithin fp) items →
    destination_allowed prefixes F items ≡ destination_allowed prefixes G items
allowed_alike prefixes F G fp [] same within = refl
allowed_alike prefixes F G fp (Perform request ∷ items) same within = refl
allowed_alike prefixes F G fp (Install p ∷ items) same within = ap (λ (o : Outcome). succeeded o.answer)
    (frame_of_reads prefixes fp F G 0 (Install p) same within.0).0

pub record IsCovered (prefixes : List Path) (F G : Filestore) (x : List ℕ) (items : List Item) : Type 0 where
  pub allowed : destination_allowed prefixes (alone F x) items ≡ destination_allowed prefixes (alone G x) items
  pub statuses : statuses_alone prefixes F x items ≡ statuses_alone prefixes G x items
  pub need : need_alone prefixes F x items ≡ need_alone prefixes G x items
  pub steps : steps_alone prefixes F x items ≡ steps_alone prefixes G x items

pub covered : (prefixes : List Path) (F : Filestore) (x : List ℕ) (items : List Item) → IsCovered prefixes F (only (footprint_of items) F) x items
covered prefixes F x items =
    let fp = footprint_of items in
    let within = own_footprint items in
    let runs = only_leased frame_of_reads own_changes prefixes fp F x items within in
    record {
      allowed = allowed_alike prefixes (alone F x) (alone (only fp F) x) fp items (alike fp F x) within;
      statuses = sym runs.0;
      need = sym runs.1;
      steps = sym runs.2;
    }
