-- The fields of a region in memory, and one block taken out of it, put back, or seen. Assumes `Logic`.
--     Fields, fields, word      the fields that are no ghosts, of a region, and their machine value
--     fields_are_words, fields_made, fields_open  what owning them says, that it is made of nothing, and that a `&` to them opens
--     block_out, block_in       a block out of the region, and back with other octets
--     block_seen                a block of those that a `&` reaches
--     row_append                a block after those that are there
--     front_out, front_in       the first blocks, as a slice has them, and those after them;  the two as one region again
use Rattle.cfdp_arena.proofs.Steps.{◌≡◌, ℕ, suc, zero, ◌+◌, ◌*◌, ◌^◌, ◌<◌, ◌≤◌, List, [], ◌∷◌, ◌++◌, length, get_or, set, refl, sym, ap, ◌∙◌, arith, w64, Ura, full_share, ent, sep, emp, Fml, Lft, fsep, Val, vint, vstruct, vcons, vnil, of_list, Logic, sem, ‵, ◌⊛◌, ◌$◌, ◌∵◌, !, qed, done, by, move, drop, use1, use2, split, fsplit, fsplit3, fjoin, fpick, fpack, flt_i, rewrite, peeks, Is, shows, cell_at, part_at, shared_of, shares, RattleType, Ptr, block_ptr, ptr_val, w8, lit<, fat, ty_int, ty_array, u8, owned, froom, some, pick, null_ptr}
use base.Logic.{guard}
use types.Kit.{check}
use lib.Dec.{T}
use mir.Val.{has_ty, WT}
use denote.Memory.{lone, mem}
use lib.ListN.{replicate, length-replicate, take, drop as drop_l, take-append-drop}
use borrow.Table.Elements.{at, at_mul, length-take-le, cut_app, join_app}
use borrow.Table.OneValue.{part_in, part_out}
use denote.Array.{Array, array_val, each, Array-Typed, Array-Makes}
use denote.Laws.{Typed}
use denote.Plain.{uint_Lawful, uint_Makes}
use denote.Copied.{Struct-Copied, uint_Copied}
use denote.Memory.{part_of}
use denote.Index.{others, takes, puts, place_is, place as nth, whole_in, whole_out}
use denote.Opens.{Opens}
use denote.Shadow.{makes_shadow, shadow}
use denote.Struct.Laws.{RawPtr-copy}
use denote.Struct.Struct.{Struct}
use denote.Struct.Owning.{shape}
use types.SemTy.{cells}
use Rattle.cfdp_arena.specs.Ownership.{Block, blocks_lend}
use Rattle.cfdp_arena.specs.code.Ownership.{block_type, blocks_own, rest_own, region_owns}
use Rattle.cfdp_arena.specs.contracts.region.Region as C

abbrev pub Fields : RattleType
Fields = Struct (shape C.the_type)

abbrev pub word : Ptr → ℕ → Val
word base room = vstruct (vcons (ptr_val base) (vcons (vint w64 room) vnil))

pub fields_are_words : (base : Ptr) (room : ℕ) (vs : List Val) → Is Fields (base, (room, tt)) vs → vs ≡ word base room ∷ []
fields_are_words base room vs is =
    is.1.0 ∙ ap (λ (ws : List Val). vstruct (of_list (ws ++ (is.0.1.0 ++ []))) ∷ []) is.1.1.0
    ∙ ap (λ (ws : List Val). vstruct (of_list (ptr_val base ∷ (ws ++ []))) ∷ []) is.1.1.1.0.0

pub fields_fit : (base : Ptr) (room : ℕ) (vs : List Val) → Is Fields (base, (room, tt)) vs → room < 2 ^ 64
fields_fit base room vs is = is.1.1.1.0.1

module _ {M : Type 1} {𝓤 : Ura M} (𝓛 : Logic 𝓤) where
  pub fields_made : (base : Ptr) (room : ℕ) → room < 2 ^ 64 → ent 𝓤 (emp 𝓤) (sem 𝓛 (Fields.own_val (base, (room, tt)) (word base room ∷ [])))
  fields_made base room fits = makes_shadow 𝓛 (Fields.own_val (base, (room, tt)) (word base room ∷ [])) (λ vss. (tt, (tt, ((tt, tt), tt))))
      ((ptr_val base ∷ [], (vint w64 room ∷ [], tt)), (refl, (refl, ((refl, fits), tt))))

  pub fields_open : Opens 𝓛 Fields
  fields_open = (Struct-Copied 𝓛 (shape C.the_type) (refl, (refl, tt)) (RawPtr-copy.copied M 𝓤 𝓛, (uint_Copied 𝓛 w64, tt))).opens

  module _ (b o : ℕ) (xs : List (List ℕ)) (i : ℕ) (within : i < length xs) where
    pub block_out : ent 𝓤 (sem 𝓛 (blocks_own b o xs)) (sep 𝓤 (sem 𝓛 (part_at Block full_share (get_or xs i []) b (i * 128 + o)))
        (sem 𝓛 (others (shares Block) full_share xs i b o)))
    block_out =
        qed 𝓛 (‵ (blocks_own b o xs) ∷ []) ∵
        use1 𝓛 (‵ (part_at Block full_share (get_or xs i []) b (nth 128 o i)) ⊛ ‵ (others (shares Block) full_share xs i b o))
        (takes (shares Block) full_share 𝓛 xs i [] b o within) $ split ! $
        rewrite ! 0 (λ (k : ℕ). ‵ (part_at Block full_share (get_or xs i []) b k)) (place_is 128 o i) refl $ done !

    pub block_in : (y : List ℕ) → ent 𝓤 (sep 𝓤 (sem 𝓛 (part_at Block full_share y b (i * 128 + o))) (sem 𝓛 (others (shares Block) full_share xs i b o)))
        (sem 𝓛 (blocks_own b o (set xs i y)))
    block_in y =
        qed 𝓛 (‵ (part_at Block full_share y b (i * 128 + o)) ∷ ‵ (others (shares Block) full_share xs i b o) ∷ []) ∵
        rewrite ! 0 (λ (k : ℕ). ‵ (part_at Block full_share y b k)) (sym (place_is 128 o i)) refl $
        by ! (puts (shares Block) full_share 𝓛 xs i y b o within)

  pub block_seen : (κ : Lft) (b o : ℕ) (xs : List (List ℕ)) (i : ℕ) → i < length xs → (at : ℕ) → at ≡ i * 128 + o →
      ent 𝓤 (sem 𝓛 (blocks_lend b o xs κ)) (sem 𝓛 (shared_of Block (get_or xs i []) b at κ))
  block_seen κ b o [] i within at e = absurd (omega arith)
  block_seen κ b o (x ∷ xs) zero within at e =
      let here : o ≡ at = omega arith in
      qed 𝓛 (‵ (blocks_lend b o (x ∷ xs) κ) ∷ []) ∵ fsplit ! $ move ! (1 ∷ []) $ drop ! $ rewrite ! 0
      (λ (k : ℕ). ‵ (shared_of Block x b k κ)) here refl $ done !
  block_seen κ b o (x ∷ xs) (suc i) within at e =
      qed 𝓛 (‵ (blocks_lend b o (x ∷ xs) κ) ∷ []) ∵ fsplit ! $ drop ! $ by ! (block_seen κ b (o + 128) xs i (omega arith) at (omega arith))

  pub row_append : (b o : ℕ) (xs : List (List ℕ)) (y : List ℕ) (at : ℕ) → at ≡ length xs * 128 + o
      → ent 𝓤 (sep 𝓤 (sem 𝓛 (blocks_own b o xs)) (sem 𝓛 (part_at Block full_share y b at))) (sem 𝓛 (blocks_own b o (xs ++ y ∷ [])))
  row_append b o [] y at e =
      let here : at ≡ o = omega arith in
      qed 𝓛 (‵ (blocks_own b o []) ∷ ‵ (part_at Block full_share y b at) ∷ []) ∵ rewrite ! 1 (λ (k : ℕ). ‵ (part_at Block full_share y b k)) here refl $ move !
      (1 ∷ 0 ∷ []) $ fjoin ! $ done !
  row_append b o (x ∷ xs) y at e =
      qed 𝓛 (‵ (blocks_own b o (x ∷ xs)) ∷ ‵ (part_at Block full_share y b at) ∷ []) ∵ fsplit ! $ move ! (1 ∷ 2 ∷ []) $
      use2 𝓛 (‵ (blocks_own b (o + 128) (xs ++ y ∷ []))) (row_append b (o + 128) xs y at (omega arith)) $ move ! (1 ∷ 0 ∷ []) $ fjoin ! $ done !

  pub front_out : (b o : ℕ) (xs : List (List ℕ)) (n : ℕ) → n ≤ length xs
      → ent 𝓤 (sem 𝓛 (blocks_own b o xs)) (sep 𝓤 (sem 𝓛 (cells (mem Block) (take n xs) b o)) (sem 𝓛 (cells (mem Block) (drop_l n xs) b (n * 128 + o))))
  front_out b o xs n within =
      let there : at o 128 (length (take n xs)) ≡ n * 128 + o = at_mul o 128 (length (take n xs)) ∙ ap (λ k. k * 128 + o) (length-take-le n xs within) in
      qed 𝓛 (‵ (blocks_own b o xs) ∷ []) ∵
      use1 𝓛 (‵ (cells (mem Block) xs b o)) (whole_in 𝓛 Block xs b o) $
      rewrite ! 0 (λ (l : List (List ℕ)). ‵ (cells (mem Block) l b o)) (sym (take-append-drop n xs)) refl $
      use1 𝓛 (‵ (cells (mem Block) (take n xs) b o) ⊛ ‵ (cells (mem Block) (drop_l n xs) b (at o 128 (length (take n xs)))))
      (cut_app 𝓛 (mem Block) (take n xs) (drop_l n xs) b o) $ split ! $
      rewrite ! 1 (λ (k : ℕ). ‵ (cells (mem Block) (drop_l n xs) b k)) there refl $ done !

  pub front_in : (b o : ℕ) (ws zs : List (List ℕ)) (n : ℕ) → length ws ≡ n
      → ent 𝓤 (sep 𝓤 (sem 𝓛 (cells (mem Block) ws b o)) (sem 𝓛 (cells (mem Block) zs b (n * 128 + o)))) (sem 𝓛 (blocks_own b o (ws ++ zs)))
  front_in b o ws zs n long =
      let there : at o 128 (length ws) ≡ n * 128 + o = at_mul o 128 (length ws) ∙ ap (λ k. k * 128 + o) long in
      qed 𝓛 (‵ (cells (mem Block) ws b o) ∷ ‵ (cells (mem Block) zs b (n * 128 + o)) ∷ []) ∵
      rewrite ! 1 (λ (k : ℕ). ‵ (cells (mem Block) zs b k)) (sym there) refl $
      use2 𝓛 (‵ (cells (mem Block) (ws ++ zs) b o)) (join_app 𝓛 (mem Block) ws zs b o) $ by ! (whole_out 𝓛 Block (ws ++ zs) b o)

  -- a block has 128 octets
  pub block_whole : (x : List ℕ) (b o : ℕ) → ent 𝓤 (sem 𝓛 (part_at Block full_share x b o)) (guard 𝓤 (length x ≡ 128) (sem 𝓛 (part_at Block full_share x b o)))
  unfolding part_of
  block_whole x b o =
      qed 𝓛 (‵ (part_at Block full_share x b o) ∷ []) ∵ fpick ! (λ vs. fsplit ! $ move ! (1 ∷ []) $ peeks ! Block (Is Block) (shows 𝓛 Block) x vs
      (λ stated. check ! stated.1.0.1 $
      move ! (1 ∷ 0 ∷ []) $ fjoin ! $ fpack ! (List Val) (λ us. fsep (cell_at full_share Block.mir us b o) (Block.own_val x us)) vs $ done !))

  -- a region is made of its fields in memory and of its parts
  module _ (d : C.the_row.Denot) (vs : List Val) (b o at from : ℕ) where
    abbrev pub Held : List (List ℕ) → Fml
    Held xs = fsep (blocks_own at from xs) (fsep (rest_own d.room at from (length xs))
        (fsep (Fields.own_val (d.base, (d.room, tt)) vs) (cell_at full_share Fields.mir vs b o)))

    pub closed : d.base ≡ block_ptr at from → (xs : List (List ℕ)) → length xs < d.room + 1 → d.room * 128 < 2 ^ 63
        → ent 𝓤 (sem 𝓛 (Held xs)) (sem 𝓛 (part_at C.the_row full_share (record d { blocks = xs }) b o))
    unfolding part_of
    closed e xs few small =
        qed 𝓛 (‵ (Held xs) ∷ []) ∵ fsplit ! $ move ! (1 ∷ []) $ fsplit3 ! $ move ! (3 ∷ 0 ∷ []) $ fjoin ! $
        flt_i ! (d.room * 128) (2 ^ 63) small $ flt_i ! (length xs) (d.room + 1) few $ fjoin ! $ fjoin ! $
        rewrite ! 0 (λ (p : Ptr). ‵ (region_owns p d.room xs)) (sym e) refl $ move ! (1 ∷ 0 ∷ []) $ fjoin ! $ move ! (1 ∷ 0 ∷ []) $ fjoin ! $
        fpack ! (List Val) (λ us. fsep (cell_at full_share C.the_row.mir us b o) (C.the_row.own_val (record d { blocks = xs }) us)) vs $ done !

-- a block of zeros, as the machine has it
abbrev pub blank_value : Val
blank_value = array_val (replicate 128 (vint w8 0))

each_blank : (n : ℕ) → shadow (each ℕ u8.own_val (replicate n 0) (replicate n (vint w8 0)))
each_blank zero = tt
each_blank (suc n) = ((refl, lit< tt), each_blank n)

pub blank_is : (n : ℕ) → Is (Array u8 n) (replicate n 0) (array_val (replicate n (vint w8 0)) ∷ [])
blank_is n = (replicate n (vint w8 0), ((refl, length-replicate n 0), each_blank n))

module _ {M : Type 1} {𝓤 : Ura M} (𝓛 : Logic 𝓤) where
  pub blank_typed : (n : ℕ) → Typed (ty_array (ty_int w8) n ∷ []) (array_val (replicate n (vint w8 0)) ∷ [])
  blank_typed n = Array-Typed u8 ((uint_Lawful 𝓛 w8).typed) n (replicate n 0) (array_val (replicate n (vint w8 0)) ∷ []) (blank_is n)

  -- the cell of a block of zeros is a block
  pub blank_in : (b o : ℕ) → ent 𝓤 (𝓛.H.at full_share block_type b o blank_value) (sem 𝓛 (part_at Block full_share (replicate 128 0) b o))
  blank_in b o =
      qed 𝓛 (‵ (fat full_share block_type b o blank_value) ∷ []) ∵
      owned ! Block (Is Block) (Array-Makes 𝓛 u8 (uint_Makes 𝓛 w8) 128) (replicate 128 0) (blank_value ∷ []) (blank_is 128) $ move ! (1 ∷ 0 ∷ []) $
      by ! (part_in 𝓛 Block refl full_share (replicate 128 0) b o blank_value)

  -- a region's machine value
  pub region_is_word : (d : C.the_row.Denot) (vs : List Val) → Is C.the_row d vs → vs ≡ word d.base d.room ∷ []
  region_is_word d vs is = fields_are_words d.base d.room vs is.0

  -- blocks, with the room after them, are room
  block_room : (x : List ℕ) (b o : ℕ) → ent 𝓤 (sem 𝓛 (part_at Block full_share x b o)) (𝓛.H.room block_type b o)
  block_room x b o =
      qed 𝓛 (‵ (part_at Block full_share x b o) ∷ []) ∵
      use1 𝓛 (some (λ (v : Val). ‵ (fat full_share block_type b o v) ⊛ ‵ (Block.own_val x (v ∷ [])))) (part_out 𝓛 Block refl full_share x b o) $ pick !
      (λ v. split ! $ move ! (1 ∷ []) $ drop ! $
      by ! (𝓛.laws.at_room block_type b o v))

  pub blocks_room : (b o : ℕ) (xs : List (List ℕ)) (more all at : ℕ) → all ≡ length xs + more → at ≡ length xs * 128 + o
      → ent 𝓤 (sep 𝓤 (sem 𝓛 (blocks_own b o xs)) (𝓛.H.room (ty_array block_type more) b at)) (𝓛.H.room (ty_array block_type all) b o)
  blocks_room b o [] more all at e here =
      let same : more ≡ all = omega arith in let start : at ≡ o = omega arith in
      qed 𝓛 (‵ (blocks_own b o []) ∷ ‵ (froom (ty_array block_type more) b at) ∷ []) ∵ drop ! $
      rewrite ! 0 (λ (n : ℕ). ‵ (froom (ty_array block_type n) b at)) same refl $ rewrite ! 0
      (λ (n : ℕ). ‵ (froom (ty_array block_type all) b n)) start refl $ done !
  blocks_room b o (x ∷ xs) more all at e here =
      let next : all ≡ suc (length xs + more) = omega arith in
      qed 𝓛 (‵ (blocks_own b o (x ∷ xs)) ∷ ‵ (froom (ty_array block_type more) b at) ∷ []) ∵ fsplit ! $
      use1 𝓛 (‵ (froom block_type b o)) (block_room x b o) $ move ! (1 ∷ 2 ∷ []) $
      use2 𝓛 (‵ (froom (ty_array block_type (length xs + more)) b (o + 128)))
      (blocks_room b (o + 128) xs more (length xs + more) at refl (omega arith)) $ move ! (1 ∷ 0 ∷ []) $
      use2 𝓛 (‵ (froom (ty_array block_type (suc (length xs + more))) b o)) (𝓛.laws.room_cons block_type (length xs + more) b o) $
      rewrite ! 0 (λ (n : ℕ). ‵ (froom (ty_array block_type n) b o)) (sym next) refl $ done !

pub word_good : (base : Ptr) (room : ℕ) → room < 2 ^ 64 → T (has_ty (lone Fields.mir) (word base room)) × WT (word base room)
word_good (block_ptr b o) room fits = (tt, (tt, (record { fits = fits }, tt)))
word_good null_ptr room fits = (tt, (record { fits = lit< tt }, (record { fits = fits }, tt)))
