-- `block_mut` lends the block with its number, and the region follows it. Assumes `Logic`.
use Rattle.cfdp_arena.proofs.Steps.{◌≡◌, ℕ, ◌+◌, ◌*◌, ◌^◌, ◌<◌, List, [], ◌∷◌, length, get_or, set, refl, sym, ap, arith, w64, length-set, full_share, ent, sep, never, id⊢, Fml, fsep, ftrue, flft, named, Val, vint, vptr, fact, tables, sem, ‵, raw, ◌⊛◌, later, some, given, at_ret, ◌$◌, ◌∵◌, !, qed, done, by, move, keep, use1, use2, split, split3, join, fsplit, fsplit3, fjoin, flt_l, pick, await, learn, rewrite, suffices, frame, group, whole, sub, look_in, enter, of_opd, lit, bin, addr, load, stop, fld, first, blocks, exec, returns, alloc_all, pass_all, free_all, look_at, get, through, sets, sets_last, is, env, usize, yes, no, Is, shows, mem, cell_at, part_at, shares, uint_vals, uint_Tells, owns, ptr_val, in_a_block, MutBor, MutRef, mut_vals, mut_Tells, plain, types_at, nothing, opens, heard, peeks, Stays, walk_of, stay_dropped, Goes-dropped, Goes-spent_ref, ends_at, proved, after}
use denote.Follow.{follows, Part, lends_Part}
use denote.Index.{others}
use denote.Signature.{mut_ref_to}
use Rattle.core.proofs.mem.Facts.{says_two}
use Rattle.cfdp_arena.specs.Ownership.{Block}
use Rattle.cfdp_arena.specs.code.Ownership.{blocks_own, rest_own, region_owns}
use Rattle.cfdp_arena.specs.code.Region.{with_block_octets}
use Rattle.cfdp_arena.specs.contracts.region.Region as C
use Rattle.cfdp_arena.specs.contracts.region.Region.block_mut as f
use Rattle.cfdp_arena.proofs.RegionBlocks.{Fields, fields_are_words, block_out, block_in, block_whole, closed}
use Rattle.cfdp_arena.proofs.region.Region.block_mut.Statement.{statement}
use Rattle.cfdp_arena.proofs.region.Region.block_mut.Code as code

abbrev stayed : Stays f.ended.signature.params f.ended.kept
stayed = (stay_dropped (mut_ref_to (0 ∷ []) tt (plain (λ _. C.the_row))) no, (stay_dropped (plain (λ _. usize)) yes, tt))

pub block_mut_spec : {M : Type 1} → statement M
block_mut_spec 𝓤 𝓛 𝓜 𝓡 wired =
    let c = f.clauses 𝓛 𝓜.mem 𝓡.returns in let W = walk_of 𝓛 f.ended stayed c in let 𝓣 = tables 𝓤 𝓛.H 𝓜 𝓡 𝓡.env in let R = C.the_row in
    proved 𝓛 f.ended stayed c 𝓜 𝓡 (Goes-spent_ref 𝓛 1 (0 ∷ []) tt (plain (λ _. R)), (Goes-dropped 𝓛 1 (plain (λ _. usize)) yes (λ κs x w. refl), tt))
    f.Key.name code.function (code.unfolded 𝓤 𝓛.H 𝓜 𝓡 wired)
    (λ κs. (mut_vals, (uint_vals w64, tt))) (λ κs. (mut_Tells (named 0) κs.0 R, (uint_Tells w64, tt))) (λ κs qs bounds a _ are.
    let κ = κs.0 in let q = qs.0 in let b = a.0.ref_ptr.0 in let o = a.0.ref_ptr.1 in let γ = a.0.ghost_name in let d = a.0.now in let i = a.1.0 in let x =
    get_or d.blocks i [] in
    let y : W.Ghost = ((κs, qs, bounds, a, (vptr b o ∷ [], (vint w64 i ∷ [], tt))), tt) in let new = with_block_octets d i in
    qed 𝓛 (((‵ (flft κ q) ⊛ ‵ ftrue) ⊛ ‵ (owns (types_at f.ended.signature.params κs) a y.0.4)) ∷ raw (fact 𝓤 (i < length d.blocks)) ∷ []) ∵
    move ! (1 ∷ []) $ heard ! _ (λ within. split ! $ split ! $ move ! (2 ∷ []) $ fsplit ! $ fsplit3 ! $ keep ! (1 ∷ 2 ∷ 4 ∷ []) $
    enter ! _ _ _ _ _ $ alloc_all ! (λ l. pass_all ! refl ((tt, tt), ((tt, record { fits = are.1.0.1 }), tt)) $
    opens ! tt R b o (λ vs. move ! (1 ∷ []) $ fsplit ! $ peeks ! Fields (Is Fields) (shows 𝓛 Fields) (d.base, (d.room, tt)) vs (λ stated. move ! (1 ∷ []) $
    in_a_block ! d.base (λ p. region_owns p d.room d.blocks) (id⊢ 𝓤 (never 𝓤)) (λ b' o' e. fsplit ! $ fsplit ! $ flt_l ! (λ few. flt_l ! (λ small. fsplit ! $
    let at = i * 128 + o' in let far : i * 128 < 2 ^ 64 = omega arith in
    let Others = others (shares Block) full_share d.blocks i b' o' in
    use1 𝓛 (‵ (part_at Block full_share x b' at) ⊛ ‵ Others) (block_out 𝓛 b' o' d.blocks i within) $ split ! $
    use1 𝓛 (given (length x ≡ 128) (‵ (part_at Block full_share x b' at))) (block_whole 𝓛 x b' at) $ learn ! (λ long.
    -- [the block; the other blocks; the room and the right; what the fields own; the region's cell; the open borrow, in three entries]
    let Cell = λ (ws : List Val). ‵ (cell_at full_share Fields.mir ws b o) in let word_is = fields_are_words d.base d.room vs stated in rewrite ! 4 Cell
    word_is refl $
    first ! $ blocks ! $
    sets ! (is ! (of_opd ! (load ! (through ! refl (fld ! refl (stop !))) (look_in ! 4 (sub ! 0 refl (whole !))))) (ap ptr_val e)) refl (tt, tt) $
    sets ! (bin ! (get ! refl) (lit ! tt) (record { fits = far })) refl (tt, record { fits = far }) $
    sets ! (bin ! (get ! refl) (get ! refl) tt) refl (tt, tt) $
    sets_last ! (addr ! (through ! refl (stop !))) refl (tt, tt) $
    exec ! 𝓣.C 𝓣.Λ (env code.Mir.locals l) (after 1 (code.function).body) (at_ret _ (W.post y)) $
    sets ! (of_opd ! (get ! refl)) refl (tt, tt) $ rewrite ! 4 Cell (sym word_is) refl $
    let Front : Fml = fsep (Fields.own_val (d.base, (d.room, tt)) vs) (cell_at full_share Fields.mir vs b o) in
    let Rest : Fml = fsep Others (fsep (rest_own d.room b' o' (length d.blocks)) Front) in
    let back : (w : List ℕ) → ent 𝓤 (sep 𝓤 (sem 𝓛 ((mem Block).own_at w b' at)) (sem 𝓛 Rest)) (sem 𝓛 ((mem R).own_at (new w) b o)) = λ w.
    let same = length-set d.blocks i w in
    qed 𝓛 (‵ (part_at Block full_share w b' at) ∷ ‵ Rest ∷ []) ∵ move ! (1 ∷ []) $ fsplit ! $ move ! (2 ∷ 0 ∷ []) $
    use2 𝓛 (‵ (blocks_own b' o' (set d.blocks i w))) (block_in 𝓛 b' o' d.blocks i within w) $
    rewrite ! 1 (λ (n : ℕ). ‵ (fsep (rest_own d.room b' o' n) Front)) (sym same) refl $ fjoin ! $
    by ! (closed 𝓛 d vs b o b' o' e (set d.blocks i w) (omega arith) small) in
    move ! (3 ∷ 4 ∷ []) $ fjoin ! $ move ! (3 ∷ 0 ∷ []) $ fjoin ! $ move ! (2 ∷ 0 ∷ []) $ fjoin ! $ move ! (2 ∷ 3 ∷ 4 ∷ 1 ∷ 0 ∷ []) $ group ! 5 $
    use1 𝓛 (later (some (λ (δ : ℕ). raw (Part 𝓛 R Block new (named 0) κ q b o b' at γ (sem 𝓛 Rest) back x δ))))
    (lends_Part 𝓛 R Block new (named 0) κ q b o b' at γ (sem 𝓛 Rest) back (R.coded.code d) (R.coded.code d) x) $ await ! tt $ pick ! (λ δ.
    returns ! (look_at ! 0 refl) $ free_all ! refl $ keep ! (0 ∷ []) $ let out : MutBor (List ℕ) = record { ref_ptr = (b', at); ghost_name = δ; now = x } in
    use1 𝓛 (‵ ((MutRef (named 0) κ Block).own_val out (vptr b' at ∷ [])) ⊛ ‵ (flft κ q) ⊛ ‵ (follows R Block γ δ new)) (id⊢ 𝓤 _) $ split3 ! $
    suffices ! _ (ends_at 𝓛 f.ended stayed c y (vptr b' at) out (tt, (tt, tt)) (tt, (tt, tt))) $
    nothing ! $ nothing ! $ fjoin ! $ nothing ! $ fjoin ! $ join ! $ nothing ! $ move ! (2 ∷ 0 ∷ []) $ join ! $ join ! $ frame ! $ says_two ! (
      refl,
      long,
    ) $ done !))))))))))
