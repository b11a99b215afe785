-- A receiving entity without transactions: its books say what its world says.
--     begun_booked          whatever its filestore has
--     room_in               the blocks of what can be put there are free
--     put_booked            after something was put there
--     start_whole           where it has just begun
use Rattle.std.proofs.Common.{◌≡◌, ℕ, zero, suc, ◌-◌, ◌≤◌, List, [], ◌∷◌, length, refl, ap, sym, ◌∙◌, arith}
use Rattle.std.specs.Prelude.{Bool, true, false, ◌||◌, if◌then◌else◌, nat_lt, Option, Some, None, slice_get, slice_index_or, replicate}
use Rattle.std.proofs.lemmas.Bool.Decides.{nat_tests}
use Rattle.std.proofs.lemmas.List.Folds.{sum_by-replicate}
use Rattle.std.proofs.lemmas.List.{length-map, nil_from_length}
use Rattle.cfdp_paths.specs.Paths.{Path}
use Rattle.cfdp_actions.specs.Filestore.{Node, Becomes, weight, blocks}
use Rattle.cfdp_actions.specs.Store.{Store, free_blocks, with_changes}
use Rattle.cfdp_quota.specs.Budget.{Budget, unreserved, reserve_of, spare, entry_at}
use Rattle.cfdp_transactions.specs.Config.{Config, ConfigFault, BadBlocks, config_fault}
use Rattle.cfdp_transactions.specs.World.{leases_of, reserves}
use Rattle.cfdp_transactions.specs.code.TableEntries.{TableEntryFields, entry_in, table_of}
use Rattle.cfdp_transactions.specs.code.Books.{IsBooked, world_of}
use Rattle.cfdp_transactions.specs.code.CoreFields.{IsWholeCore}
use Rattle.cfdp_transactions.specs.Beginning.{IsGoodStart, put_fault}
use Rattle.cfdp_transactions.specs.declared.books.Books.{Books}
use Rattle.cfdp_transactions.proofs.Beginnings.Starting.{good_sound}
use Rattle.cfdp_transactions.proofs.Beginnings.PutThere.{can_put}

not_large : (small large : Bool) (x : Option ConfigFault) → (if small || large then Some BadBlocks else x) ≡ None → large ≡ false
not_large true large x h = absurd cc
not_large false true x h = absurd cc
not_large false false x h = refl

few_blocks : (c : Config) → config_fault c.blocks c.cap c.checks c.journal ≡ None → c.blocks ≤ 65536
few_blocks c h = let few = not_large (nat_lt c.blocks 16) (nat_lt 65536 c.blocks) _ h in grind (arith, nat_tests)

none_in : (n i : ℕ) → slice_index_or (replicate n (let x : Option ℕ = None in x)) i None ≡ None
none_in zero i = refl
none_in (suc n) zero = refl
none_in (suc n) (suc i) = none_in n i

-- no transaction is known, and all blocks that are not in use are free
pub begun_booked : (s : Store) (b : Books) → b.table ≡ [] → b.leases ≡ [] → s.capacity ≡ b.config.blocks → b.config.blocks ≤ 65536 →
    b.quota ≡ unreserved b.config.blocks (free_blocks s) → IsBooked s b
begun_booked s b none unleased capacity few quota = record {
  leases = unleased ∙ sym (ap (λ (table_entries : List TableEntryFields). leases_of (table_of s.filestore table_entries)) none);
  budget = record {
    in_all = ap (λ (q : Budget). q.capacity) quota;
    not_used = ap (λ (q : Budget). q.free) quota ∙ ap (λ (n : ℕ). n - blocks s.filestore) capacity;
    not_granted = omega (
      arith,
      ap spare quota,
      ap (λ (table_entries : List TableEntryFields). reserves (table_of s.filestore table_entries)) none,
      capacity,
      sum_by-replicate reserve_of 64 None,
    );
    opened = λ k e at. absurd (let empty : slice_get (table_of s.filestore b.table) k
        ≡ None = ap (λ (table_entries : List TableEntryFields). slice_get (table_of s.filestore table_entries) k) none in cc);
    closed = λ slot vacant. ap (λ (q : Budget). entry_at q slot) quota ∙ none_in 64 slot;
  };
  capacity = capacity;
  few = few;
  pieces = λ k r at. absurd (let empty : slice_get b.table k ≡ None = ap (λ (table_entries : List TableEntryFields). slice_get table_entries k) none in cc);
}

pub room_in : (s : Store) (b : Books) (p : Path) (node : Node) → IsBooked s b → put_fault (world_of s b) p node ≡ None → weight (Some node) ≤ free_blocks s
room_in s b p node booked none = let can = can_put (world_of s b) p node none in omega (arith, can.room, booked.capacity)

-- what is put there takes its blocks
pub put_booked : (s t : Store) (b : Books) (p : Path) (node : Node) (q : Budget) → IsBooked s b → put_fault (world_of s b) p node ≡ None →
    t ≡ with_changes s (Becomes p (Some node) ∷ []) → q ≡ unreserved b.config.blocks (free_blocks t) → IsBooked t (record b { quota = q })
put_booked s t b p node q booked none put is =
    let idle : table_of s.filestore b.table ≡ [] = (can_put (world_of s b) p node none).idle in
    begun_booked t (record b { quota = q })
    (nil_from_length b.table (sym (length-map b.table (entry_in s.filestore)) ∙ ap length idle))
    (booked.leases ∙ ap leases_of idle)
    (ap (λ (u : Store). u.capacity) put ∙ booked.capacity)
    booked.few
    is

abbrev begun : Config → Store → Books
begun c s = record { config = c; table = []; leases = []; quota = unreserved c.blocks (free_blocks s) }

pub start_whole : (c : Config) (s : Store) → IsGoodStart c s.filestore → s.capacity ≡ c.blocks → config_fault c.blocks c.cap c.checks c.journal ≡ None →
    IsWholeCore s (begun c s)
start_whole c s good capacity limits = record {
  sound = good_sound c s.filestore good;
  booked = begun_booked s (begun c s) refl refl capacity (few_blocks c limits) refl;
}
