-- A live entry that is left alone stays as it is: its promise holds on every filestore that it cannot distinguish from its own.
use Rattle.std.proofs.Common.{◌≡◌, ℕ, zero, suc, ◌<◌, List, [], ◌∷◌, length, drop, sym, ◌∙◌, subst}
use Rattle.std.specs.Prelude.{IsTrue}
use Rattle.std.specs.List.{AllByRecursion}
use Rattle.cfdp_paths.specs.Paths.{Path}
use Rattle.cfdp_actions.specs.Filestore.{Filestore, IsRooted}
use Rattle.cfdp_actions.specs.Actions.{Item, Answer, succeeded}
use Rattle.cfdp_leases.specs.Items.{performed}
use Rattle.cfdp_leases.specs.Footprint.{IsWithin}
use Rattle.cfdp_leases.specs.Laws.{IsAlike}
use Rattle.cfdp_states.specs.Alone.{statuses, Succeed, stage}
use Rattle.cfdp_transactions.specs.Config.{Config}
use Rattle.cfdp_transactions.specs.Entry.{Phase, Receiving, Awaiting, Executing, Refused, Done, Ended, Entry, items_left, rest, footprint}
use Rattle.cfdp_transactions.specs.code.LowerLaws.{LowerLaws}
use Rattle.cfdp_transactions.specs.Sound.{longest, IsKept}

-- what is left is a part of all items ---------------------------------------------

pub drop_all : {X : Type 0} (P : X → Type 0) (n : ℕ) (xs : List X) → AllByRecursion P xs → AllByRecursion P (drop n xs)
drop_all P zero xs h = h
drop_all P (suc n) [] h = tt
drop_all P (suc n) (x ∷ xs) h = drop_all P n xs h.1

pub rest_all : (P : Item → Type 0) (phase : Phase) (items : List Item) → AllByRecursion P items → AllByRecursion P (items_left phase items)
rest_all P Receiving items h = h
rest_all P (Awaiting checks) items h = h
rest_all P (Executing next) items h = drop_all P next items h
rest_all P Refused items h = tt
rest_all P Done items h = tt
rest_all P (Ended condition) items h = tt

-- success is a matter of the answers ----------------------------------------------

abbrev pub AllSucceeded : List Answer → Type 0
AllSucceeded = AllByRecursion (λ a. IsTrue (succeeded a))

pub answers_succeed : (prefixes : List Path) (F : Filestore) (slot : ℕ) (items : List Item) → Succeed prefixes F slot items →
    AllSucceeded (statuses prefixes F slot items)
unfolding Succeed statuses
answers_succeed prefixes F slot [] h = tt
answers_succeed prefixes F slot (item ∷ items) h = (h.0, answers_succeed prefixes (performed prefixes F slot item) slot items h.1)

pub succeed_answers : (prefixes : List Path) (F : Filestore) (slot : ℕ) (items : List Item) → AllSucceeded (statuses prefixes F slot items) →
    Succeed prefixes F slot items
unfolding Succeed statuses
succeed_answers prefixes F slot [] h = tt
succeed_answers prefixes F slot (item ∷ items) h = (h.0, succeed_answers prefixes (performed prefixes F slot item) slot items h.1)

pub succeed_same : (prefixes : List Path) (F G : Filestore) (s t : ℕ) (items : List Item) → statuses prefixes F s items ≡ statuses prefixes G t items →
    Succeed prefixes F s items → Succeed prefixes G t items
succeed_same prefixes F G s t items e h = succeed_answers prefixes G t items (subst AllSucceeded e (answers_succeed prefixes F s items h))

module _ (laws : LowerLaws) where
  pub rest_within : (e : Entry) → AllByRecursion (IsWithin (footprint e)) (rest e)
  rest_within e = rest_all (IsWithin (footprint e)) e.phase e.items (laws.own_footprint e.items)

  -- an entry that can't distinguish F and G
  pub kept_alike : (c : Config) (F G : Filestore) (e : Entry) → IsKept c F e → IsAlike (footprint e) e.slot F G → e.slot < length G.staged → IsRooted F →
      IsRooted G → IsKept c G e
  kept_alike c F G e kept alike slot rooted_F rooted_G =
      let same = laws.foreign_change c.prefixes (footprint e) F G e.slot (longest c e) (rest e) alike rooted_F rooted_G kept.slot slot (rest_within e) in
      record {
        slot = slot;
        staged = sym alike.staged ∙ kept.staged;
        fits = kept.fits;
        nothing = kept.nothing;
        more = kept.more;
        pieces = kept.pieces;
        eof = kept.eof;
        checks = kept.checks;
        promise = record {
          succeeds = succeed_same c.prefixes (stage F e.slot (longest c e)) (stage G e.slot (longest c e)) e.slot e.slot (rest e) same.0 kept.promise.succeeds;
          blocks = rw (← same.2) kept.promise.blocks;
          steps = rw (← same.3) kept.promise.steps;
        };
      }
