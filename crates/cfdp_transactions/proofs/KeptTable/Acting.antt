-- What an item that succeeds asks of the store.
use Rattle.std.proofs.Common.{◌≡◌, ℕ, ◌+◌, ◌≤◌, List, [], ◌∷◌, length, refl, arith}
use Rattle.std.specs.Prelude.{Bool, true, false, nat_le, is_none, Option, Some, None, IsTrue, if◌then◌else◌}
use Rattle.std.proofs.lemmas.Bool.Decides.{nat_tests}
use Rattle.cfdp_paths.specs.Paths.{Path}
use Rattle.cfdp_actions.specs.Filestore.{Node, Directory, File, Filestore, node_at, staged_in, blocks_of, Becomes, Stages, is_directory, octets_in, file_octets_at, parent_is_good}
use Rattle.cfdp_actions.specs.Actions.{Request, Item, Install, Perform, Answer, succeeded, Outcome, ticks, install, table, row, free_row, is_barred, denied, within, act_item}

pub record IsInstalled (F : Filestore) (free slot : ℕ) (p : Path) (o : Outcome) : Type 0 where
  pub parent : IsTrue (parent_is_good F p)
  pub kind : is_directory (node_at F p) ≡ false
  pub room : node_at F p ≡ None → 1 ≤ free
  pub answer : o.answer ≡ Answer.Installed
  pub ticks_are : ticks o ≡ (if is_none (node_at F p) then 1 else blocks_of (length (file_octets_at F p)))
  pub changes : o.changes ≡ Stages slot [] ∷ Becomes p (Some (File (staged_in F slot))) ∷ []

record Fits (free slot : ℕ) (p : Path) (octets : List ℕ) (node : Option Node) (good : Bool) (o : Outcome) : Type 0 where
  parent : good ≡ true
  kind : is_directory node ≡ false
  room : node ≡ None → 1 ≤ free
  answer : o.answer ≡ Answer.Installed
  ticks_are : ticks o ≡ (if is_none node then 1 else blocks_of (length (octets_in node)))
  changes : o.changes ≡ Stages slot [] ∷ Becomes p (Some (File octets)) ∷ []

install_fits : (free slot : ℕ) (p : Path) (octets : List ℕ) (node : Option Node) (good : Bool) → IsTrue (succeeded (install slot p octets node good).answer) →
    IsTrue (nat_le (install slot p octets node good).taken (free + (install slot p octets node good).given)) →
    Fits free slot p octets node good (install slot p octets node good)
unfolding install
install_fits free slot p octets None false good room = absurd cc
install_fits free slot p octets (Some node) false good room = absurd cc
install_fits free slot p octets (Some Directory) true good room = absurd cc
install_fits free slot p octets None true good room = record {
  parent = refl;
  kind = refl;
  room = λ _. grind (arith, nat_tests);
  answer = refl;
  ticks_are = refl;
  changes = refl;
}
install_fits free slot p octets (Some (File old)) true good room = record {
  parent = refl;
  kind = refl;
  room = λ q. absurd cc;
  answer = refl;
  ticks_are = omega arith;
  changes = refl;
}

pub record IsDone (free : ℕ) (o done : Outcome) : Type 0 where
  pub same : done ≡ o
  pub succeeds : IsTrue (succeeded o.answer)
  pub fits : IsTrue (nat_le o.taken (free + o.given))

not_denied : (item : Item) → IsTrue (succeeded (denied item).answer) → ⊥
not_denied (Install p) h = absurd cc
not_denied (Perform request) h = absurd cc

never : (b : Bool) (item : Item) → IsTrue (succeeded (if b then denied item else denied item).answer) → ⊥
never true item h = not_denied item h
never false item h = not_denied item h

within_room : (b : Bool) (free : ℕ) (item : Item) (o : Outcome) → nat_le o.taken (free + o.given) ≡ b →
    IsTrue (succeeded (if b then o else denied item).answer) →
    IsDone free o (if b then o else denied item)
within_room true free item o room h = record { same = refl; succeeds = h; fits = room }
within_room false free item o room h = absurd (not_denied item h)

not_barred : (barred : Bool) (free : ℕ) (item : Item) (o : Outcome) → IsTrue (succeeded (within free item (if barred then denied item else o)).answer) →
    IsDone free o (within free item (if barred then denied item else o))
not_barred true free item o h = absurd (never (nat_le (denied item).taken (free + (denied item).given)) item h)
not_barred false free item o h = within_room (nat_le o.taken (free + o.given)) free item o refl h

fits_installed : (F : Filestore) (free slot : ℕ) (p : Path) (o : Outcome) → Fits free slot p (staged_in F slot) (node_at F p) (parent_is_good F p) o →
    IsInstalled F free slot p o
fits_installed F free slot p o f = record { parent = f.parent; kind = f.kind; room = f.room; answer = f.answer; ticks_are = f.ticks_are; changes = f.changes }

pub is_installed : (prefixes : List Path) (F : Filestore) (free slot : ℕ) (p : Path) → IsTrue (succeeded (act_item prefixes F free slot (Install p)).answer) →
    IsInstalled F free slot p (act_item prefixes F free slot (Install p))
unfolding row free_row
is_installed prefixes F free slot p h =
    let o : Outcome = install slot p (staged_in F slot) (node_at F p) (parent_is_good F p) in
    let done = not_barred (is_barred prefixes F (Install p)) free (Install p) o h in
    let fits = install_fits free slot p (staged_in F slot) (node_at F p) (parent_is_good F p) done.succeeds done.fits in
    rw done.same (fits_installed F free slot p o fits)

-- a request that succeeds is done as the action table says
pub is_allowed : (prefixes : List Path) (F : Filestore) (free slot : ℕ) (request : Request) →
    IsTrue (succeeded (act_item prefixes F free slot (Perform request)).answer) →
    IsDone free (table F request) (act_item prefixes F free slot (Perform request))
unfolding row free_row
is_allowed prefixes F free slot request h = not_barred (is_barred prefixes F (Perform request)) free (Perform request) (table F request) h
