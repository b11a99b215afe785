-- What is put into the filestore while no transaction is known.
--     CanPut W p node       nothing is in the way: can_put, no_fault
--     no_memory             the reason that is found is never Memory
--     file_weight           the blocks of a file
--     put_good, put_sound   a filestore to begin with stays one;  an entity stays sound
--     put_keeps             an entity is sound after a call
--     file_put              a file whose octets come to its path by way of a slot
use Rattle.std.proofs.Common.{◌≡◌, ◌≢◌, ℕ, ◌+◌, ◌-◌, ◌/◌, ◌%◌, min, ◌≤◌, Bool, true, false, List, [], ◌∷◌, ◌++◌, length, set, get_or, refl, ap, sym, ◌∙◌, subst, arith}
use Rattle.std.specs.Prelude.{Option, Some, None, Result, Ok, Err, OnOk, OnErr, is_some, not, ◌==◌, nat_lt, if◌then◌else◌, replicate, slice_get}
use Rattle.std.proofs.lemmas.Bool.{true≢false, not-false, eqb-true, ltb-false, le-ltb, and_parts}
use Rattle.std.proofs.lemmas.List.{set-set, set-get_or, get_or-set_same, length-replicate, length-set, drop_all, append-nil, nil_from_length}
use Rattle.cfdp_paths.specs.Paths.{Path, parent}
use Rattle.cfdp_actions.specs.Filestore.{Node, File, Filestore, node_at, staged_in, blocks_of, weight, blocks, Becomes, Stages, changed, is_directory, is_good, parent_is_good, IsRooted}
use Rattle.cfdp_actions.specs.Store.{Store, free_blocks, with_changes, extended, overwritten}
use Rattle.cfdp_actions.proofs.ChangeLaws.{blocks-becomes}
use Rattle.cfdp_actions.proofs.Weights.{blocks-stages}
use Rattle.cfdp_leases.proofs.Rooted.{rooted_becomes}
use Rattle.cfdp_leases.proofs.Keys.{keys_after}
use Rattle.cfdp_transactions.specs.Entry.{Entry}
use Rattle.cfdp_transactions.specs.World.{World, free, reserves}
use Rattle.cfdp_transactions.specs.Sound.{Sound, IsVacant}
use Rattle.cfdp_transactions.specs.Beginning.{NotPut, HasTransactions, Exists, NoParent, NoRoom, Memory, start_with, with_node, put_fault, PutIsGood, PutIsSound}
use Rattle.cfdp_transactions.proofs.Options.{none_of, passed_over}

-- nothing is in the way --------------------------------------------------------------------

pub record CanPut (W : World) (p : Path) (node : Node) : Type 0 where
  pub idle : W.table ≡ []
  pub absent : node_at W.filestore p ≡ None
  pub parent : parent_is_good W.filestore p ≡ true
  pub room : weight (Some node) ≤ free W

pub can_put : (W : World) (p : Path) (node : Node) → put_fault W p node ≡ None → CanPut W p node
can_put W p node none =
    let one = passed_over (not (length W.table == 0)) HasTransactions _ none in
    let two = passed_over (is_some (node_at W.filestore p)) Exists _ one.1 in
    let three = passed_over (not (parent_is_good W.filestore p)) NoParent _ two.1 in
    let four = passed_over (nat_lt (free W) (weight (Some node))) NoRoom _ three.1 in
    record {
      idle = nil_from_length W.table (eqb-true (length W.table) 0 (not-false _ one.0));
      absent = none_of (node_at W.filestore p) two.0;
      parent = not-false _ three.0;
      room = ltb-false _ _ four.0;
    }

skipped : (b : Bool) (say : NotPut) (x : Option NotPut) → b ≡ false → x ≡ None → (if b then Some say else x) ≡ None
skipped true say x other none = absurd (true≢false other)
skipped false say x other none = none

pub no_fault : (W : World) (p : Path) (node : Node) → CanPut W p node → put_fault W p node ≡ None
no_fault W p node can =
    skipped _ HasTransactions _ (ap (λ (es : List Entry). not (length es == 0)) can.idle)
    (skipped _ Exists _ (ap is_some can.absent)
    (skipped _ NoParent _ (ap not can.parent)
    (skipped _ NoRoom None (le-ltb (free W) (weight (Some node)) can.room) refl)))

-- a reason that is found is never Memory
found : (b : Bool) (say : NotPut) (x : Option NotPut) (why : NotPut) → say ≢ Memory → (x ≡ Some why → why ≢ Memory) → (if b then Some say else x) ≡ Some why →
    why ≢ Memory
found true say x why other later is = λ memory. other (let same : say ≡ why = cc in same ∙ memory)
found false say x why other later is = later is

pub no_memory : (W : World) (p : Path) (node : Node) (why : NotPut) → put_fault W p node ≡ Some why → why ≢ Memory
no_memory W p node why =
    found (not (length W.table == 0)) HasTransactions _ why (λ e. cc)
    (found (is_some (node_at W.filestore p)) Exists _ why (λ e. cc)
    (found (not (parent_is_good W.filestore p)) NoParent _ why (λ e. cc)
    (found (nat_lt (free W) (weight (Some node))) NoRoom None why (λ e. cc) (λ e. absurd cc))))

-- the blocks of a file: one more where the last one is not full
pub file_weight : (octets : List ℕ) (n : ℕ) → n ≡ length octets / 120 + min 1 (length octets % 120) → weight (Some (File octets)) ≡ 1 + n
unfolding blocks_of
file_weight octets n is = omega (arith, is)

-- what is rooted stays so ------------------------------------------------------------------

pub no_root : (F : Filestore) (p : Path) → parent_is_good F p ≡ true → p ≢ []
no_root F [] good = absurd (true≢false (sym good))
no_root F (n ∷ p) good = λ e. cc

above_good : (F : Filestore) (x : Path) → parent_is_good F x ≡ true → is_good F (parent x) ≡ true
above_good F x good = (and_parts _ _ good).1

none_good : (F : Filestore) (p : Path) → p ≢ [] → node_at F p ≡ None → is_good F p ≡ true → ⊥
none_good F [] some none good = some refl
none_good F (n ∷ p) some none good = true≢false (sym good ∙ ap is_directory none)

rooted_put : (F : Filestore) (p : Path) (node : Node) → IsRooted F → node_at F p ≡ None → parent_is_good F p ≡ true →
    IsRooted (changed F (Becomes p (Some node)))
rooted_put F p node rooted none good =
    rooted_becomes F p (Some node) rooted (λ _. good)
    (λ x some above there. absurd (none_good F p (no_root F p good) none (subst (λ (a : Path). is_good F a ≡ true) above (above_good F x (rooted x there)))))

pub grown : (F : Filestore) (p : Path) (node : Node) → node_at F p ≡ None → blocks (changed F (Becomes p (Some node))) ≡ blocks F + weight (Some node)
grown F p node none = let h = blocks-becomes F p (Some node) in omega (arith, ap weight none)

pub put_good : PutIsGood
put_good c F p node good path none =
    let can = can_put (start_with c F) p node none in
    record {
      rooted = rooted_put F p node good.rooted can.absent can.parent;
      paths = keys_after F (Becomes p (Some node) ∷ []) (path, tt) good.paths;
      staged = good.staged;
      fits = omega (arith, grown F p node can.absent, can.room, good.fits);
    }

nothing_at : (W : World) (k : ℕ) (e : Entry) → W.table ≡ [] → slice_get W.table k ≡ Some e → ⊥
nothing_at W k e none at = let empty : slice_get W.table k ≡ None = ap (λ (es : List Entry). slice_get es k) none in absurd (cc)

-- so no slot is in use
pub none_live : (W : World) (slot : ℕ) → W.table ≡ [] → IsVacant W.table slot
none_live W slot none k e at live = absurd (nothing_at W k e none at)

pub put_sound : PutIsSound
put_sound W p node s none =
    let can = can_put W p node none in
    record {
      covered = s.covered;
      live = λ k e at live. absurd (nothing_at W k e can.idle at);
      apart = s.apart;
      honest = s.honest;
      names = s.names;
      few = s.few;
      slots = s.slots;
      vacant = s.vacant;
      rooted = rooted_put W.filestore p node s.rooted can.absent can.parent;
      room = omega (arith, grown W.filestore p node can.absent, can.room, s.room, ap reserves can.idle);
      given = s.given;
    }

-- calls ------------------------------------------------------------------------------------

-- put, or as before
pub put_keeps : (W V : World) (p : Path) (node : Node) (r : Result (Unit {0}) NotPut) → Sound W →
    OnOk r (put_fault W p node ≡ None) → OnOk r (V ≡ with_node W p node) → OnErr r (V ≡ W) → Sound V
put_keeps W V p node (Ok done) s none put kept = rw put (put_sound W p node s none)
put_keeps W V p node (Err why) s none put kept = rw kept s

-- a file, by way of a slot -----------------------------------------------------------------

-- its octets written over as many zeros
all_written : (octets : List ℕ) → overwritten (extended [] (length octets)) 0 octets ≡ octets
all_written octets =
    let zeros : List ℕ = replicate (length octets - 0) 0 in
    let long : length zeros ≤ 0 + length octets = omega (arith, length-replicate {A = ℕ} (length octets - 0) 0) in
    ap (λ (rest : List ℕ). octets ++ rest) (drop_all (0 + length octets) zeros long) ∙ append-nil octets

module _ (s : Store) (p : Path) (octets : List ℕ) where
  abbrev F : Filestore
  F = s.filestore

  -- the zeros are there, then the octets, and then the file
  abbrev zeroed : Store
  zeroed = with_changes s (Stages 0 (extended (staged_in F 0) (length octets)) ∷ [])

  abbrev written : Store → Store
  written u = with_changes u (Stages 0 (overwritten (staged_in u.filestore 0) 0 octets) ∷ [])

  abbrev installed : Store → Store
  installed u = with_changes u (Stages 0 [] ∷ Becomes p (Some (File (staged_in u.filestore 0))) ∷ [])

  module _ (slots : length F.staged ≡ 64) (empty : staged_in F 0 ≡ []) where
    abbrev a : List ℕ
    a = extended (staged_in F 0) (length octets)

    abbrev b : List ℕ
    b = overwritten (get_or (set F.staged 0 a) 0 []) 0 octets

    b_is : b ≡ octets
    b_is =
        ap (λ (x : List ℕ). overwritten x 0 octets) (get_or-set_same F.staged 0 a [] (omega arith))
        ∙ ap (λ (x : List ℕ). overwritten (extended x (length octets)) 0 octets) empty ∙ all_written octets

    holds : get_or (set (set F.staged 0 a) 0 b) 0 [] ≡ octets
    holds = get_or-set_same (set F.staged 0 a) 0 b [] (omega (arith, length-set F.staged 0 a)) ∙ b_is

    -- the slot is empty before, and again after
    as_before : set (set (set F.staged 0 a) 0 b) 0 [] ≡ F.staged
    as_before = set-set (set F.staged 0 a) 0 b [] ∙ set-set F.staged 0 a [] ∙ ap (set F.staged 0) (sym empty) ∙ set-get_or F.staged 0 []

    abbrev with_file : List ℕ → List (List ℕ) → Store
    with_file xs staged = record s { filestore = record { nodes = (changed F (Becomes p (Some (File xs)))).nodes; staged = staged } }

    abbrev with_staged : List (List ℕ) → Store
    with_staged staged = record s { filestore = record F { staged = staged } }

    whole : installed (written zeroed) ≡ with_changes s (Becomes p (Some (File octets)) ∷ [])
    whole = ap (λ (xs : List ℕ). with_file xs (set (set (set F.staged 0 a) 0 b) 0 [])) holds ∙ ap (with_file octets) as_before

    both_written : written zeroed ≡ with_changes s (Stages 0 octets ∷ [])
    both_written = ap with_staged (set-set F.staged 0 a b ∙ ap (set F.staged 0) b_is)

    -- there is a block left for the file itself
    room_left : weight (Some (File octets)) ≤ free_blocks s → 1 ≤ free_blocks (written zeroed)
    room_left room =
        subst (λ (u : Store). 1 ≤ free_blocks u) (sym both_written) (omega (arith, blocks-stages F 0 octets (omega arith), room))

  pub file_put : (s1 s2 t : Store) → length F.staged ≡ 64 → staged_in F 0 ≡ [] →
      s1 ≡ zeroed → s2 ≡ written s1 → t ≡ installed s2 → t ≡ with_changes s (Becomes p (Some (File octets)) ∷ [])
  file_put s1 s2 t slots empty one two three = three ∙ ap installed two ∙ ap (λ (u : Store). installed (written u)) one ∙ whole slots empty

  pub room_for_file : (s1 s2 : Store) → length F.staged ≡ 64 → staged_in F 0 ≡ [] →
      s1 ≡ zeroed → s2 ≡ written s1 → weight (Some (File octets)) ≤ free_blocks s → 1 ≤ free_blocks s2
  room_for_file s1 s2 slots empty one two room =
      subst (λ (u : Store). 1 ≤ free_blocks u) (sym (two ∙ ap written one)) (room_left slots empty room)
