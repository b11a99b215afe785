-- `append_blank` writes zeros into the first of the room that is left. Assumes `Logic`.
use Rattle.cfdp_arena.proofs.Steps.{◌≡◌, ℕ, suc, ◌+◌, ◌-◌, ◌*◌, ◌^◌, ◌<◌, List, [], ◌∷◌, ◌++◌, length, refl, sym, ap, arith, w64, full_share, never, id⊢, ftrue, flft, froom, ty_array, named, Val, vunit, vint, vptr, fact, tables, ‵, raw, ◌⊛◌, at_ret, ◌$◌, ◌∵◌, !, qed, done, move, keep, use1, use2, split, join, fsplit, fsplit3, fjoin, fjoin3, feq_i, flt_l, flt_i, rewrite, suffices, frame, whole, sub, look_in, enter, of_opd, lit, unit_lit, bin, load, init, stop, fld, assigns_last, first, blocks, exec, returns, alloc_all, pass_all, free_all, look_at, get, through, sets, is, env, usize, yes, Is, shows, cell_at, part_at, uint_vals, uint_Tells, owns, Ptr, ptr_val, in_a_block, mut_vals, mut_Tells, plain, types_at, nothing, opens, closes, heard, peeks, Stays, walk_of, stay_dropped, stay_ref, Goes-dropped, Goes-ref, ends_at, proved, after}
use lib.ListN.{replicate}
use types.Part.{rep}
use Rattle.std.proofs.Common.{length-append}
use Rattle.core.proofs.mem.Facts.{says_two}
use Rattle.cfdp_arena.specs.Blocks.{blank_block}
use Rattle.cfdp_arena.specs.Ownership.{Block}
use Rattle.cfdp_arena.specs.code.Ownership.{block_type, blocks_own, region_owns}
use Rattle.cfdp_arena.specs.contracts.region.Region as C
use Rattle.cfdp_arena.specs.contracts.region.Region.append_blank as f
use Rattle.cfdp_arena.proofs.RegionBlocks.{Fields, fields_are_words, row_append, blank_typed, blank_in}
use Rattle.cfdp_arena.proofs.region.Region.append_blank.Statement.{statement}
use Rattle.cfdp_arena.proofs.region.Region.append_blank.Code as code

abbrev stayed : Stays f.ended.signature.params f.ended.kept
stayed = (stay_ref (0 ∷ []) tt (plain (λ _. C.the_row)), (stay_dropped (plain (λ _. usize)) yes, tt))

pub append_blank_spec : {M : Type 1} → statement M
unfolding blank_block
append_blank_spec 𝓤 𝓛 𝓜 𝓡 wired =
    let c = f.clauses 𝓛 𝓜.mem 𝓡.returns in let W = walk_of 𝓛 f.ended stayed c in let 𝓣 = tables 𝓤 𝓛.H 𝓜 𝓡 𝓡.env in let R = C.the_row in
    proved 𝓛 f.ended stayed c 𝓜 𝓡 (Goes-ref 𝓛 1 0 tt (plain (λ _. R)), (Goes-dropped 𝓛 1 (plain (λ _. usize)) yes (λ κs x w. refl), tt))
    f.Key.name code.function (code.unfolded 𝓤 𝓛.H 𝓜 𝓡 wired)
    (λ κs. (mut_vals, (uint_vals w64, tt))) (λ κs. (mut_Tells (named 0) κs.0 R, (uint_Tells w64, tt))) (λ κs qs bounds a _ are.
    let κ = κs.0 in let q = qs.0 in let b = a.0.ref_ptr.0 in let o = a.0.ref_ptr.1 in let d = a.0.now in let i = a.1.0 in let count = length d.blocks in
    let xs = d.blocks ++ replicate 128 0 ∷ [] in
    let y : W.Ghost = ((κs, qs, bounds, a, (vptr b o ∷ [], (vint w64 i ∷ [], tt))), tt) in
    qed 𝓛 (((‵ (flft κ q) ⊛ ‵ ftrue) ⊛ ‵ (owns (types_at f.ended.signature.params κs) a y.0.4)) ∷ raw (fact 𝓤 (i ≡ count)) ∷ raw (fact 𝓤 (i < d.room)) ∷ []) ∵
    move ! (1 ∷ 2 ∷ []) $ heard ! _ (λ next. heard ! _ (λ more. split ! $ split ! $ move ! (2 ∷ []) $ fsplit ! $ fsplit3 ! $ keep ! (1 ∷ 2 ∷ 4 ∷ []) $
    enter ! _ _ _ _ _ $ alloc_all ! (λ l. pass_all ! refl ((tt, tt), ((tt, record { fits = are.1.0.1 }), tt)) $
    opens ! tt R b o (λ vs. move ! (1 ∷ []) $ fsplit ! $ peeks ! Fields (Is Fields) (shows 𝓛 Fields) (d.base, (d.room, tt)) vs (λ stated. move ! (1 ∷ []) $
    in_a_block ! d.base (λ p. region_owns p d.room d.blocks) (id⊢ 𝓤 (never 𝓤))
    (λ b' o' e. fsplit ! $ fsplit ! $ flt_l ! (λ few. flt_l ! (λ small. fsplit ! $ move ! (1 ∷ []) $ fsplit ! $
    let at = i * 128 + o' in let far : i * 128 < 2 ^ 64 = omega arith in let left : d.room - count ≡ suc (d.room - (i + 1)) = omega arith in
    let here : count * 128 + o' ≡ at = omega arith in
    rewrite ! 0 (λ (n : ℕ). ‵ (froom (ty_array block_type n) b' (count * 128 + o'))) left refl $ rewrite ! 0
    (λ (n : ℕ). ‵ (froom (ty_array block_type (suc (d.room - (i + 1)))) b' n)) here refl $
    use1 𝓛 (‵ (froom block_type b' at) ⊛ ‵ (froom (ty_array block_type (d.room - (i + 1))) b' (at + 128)))
    (𝓛.laws.room_uncons block_type (d.room - (i + 1)) b' at) $ split ! $
    -- [the room of one block; the room after it; the right; the blocks; what the fields own; the region's cell; the open borrow, in three entries]
    let Cell = λ (ws : List Val). ‵ (cell_at full_share Fields.mir ws b o) in let word_is = fields_are_words d.base d.room vs stated in rewrite ! 5 Cell
    word_is refl $
    first ! $ blocks ! $
    sets ! (rep ! 128 (lit ! tt)) refl (blank_typed 𝓛 128).0 $
    sets ! (is ! (of_opd ! (load ! (through ! refl (fld ! refl (stop !))) (look_in ! 5 (sub ! 0 refl (whole !))))) (ap ptr_val e)) refl (tt, tt) $
    sets ! (bin ! (get ! refl) (lit ! tt) (record { fits = far })) refl (tt, record { fits = far }) $
    sets ! (bin ! (get ! refl) (get ! refl) tt) refl (tt, tt) $
    assigns_last ! (of_opd ! (get ! refl)) (through ! refl (stop !)) (init ! 0 refl (blank_typed 𝓛 128).0) $
    exec ! 𝓣.C 𝓣.Λ (env code.Mir.locals l) (after 1 (code.function).body) (at_ret _ (W.post y)) $
    sets ! (of_opd ! (unit_lit !)) refl (tt, tt) $ rewrite ! 5 Cell (sym word_is) refl $
    use1 𝓛 (‵ (part_at Block full_share (replicate 128 0) b' at)) (blank_in 𝓛 b' at) $ move ! (3 ∷ 0 ∷ []) $
    use2 𝓛 (‵ (blocks_own b' o' xs)) (row_append 𝓛 b' o' d.blocks (replicate 128 0) at (sym here)) $
    -- [the blocks; the room; the right; what the fields own; the region's cell; the open borrow]
    let long : length xs ≡ i + 1 = omega (arith, length-append d.blocks (replicate 128 0 ∷ [])) in let there : at + 128 ≡ length xs * 128 + o' = omega arith in
    let rest : d.room - (i + 1) ≡ d.room - length xs = omega arith in
    move ! (1 ∷ 2 ∷ []) $ rewrite ! 0 (λ (n : ℕ). ‵ (froom (ty_array block_type n) b' (at + 128))) rest refl $ rewrite ! 0
    (λ (n : ℕ). ‵ (froom (ty_array block_type (d.room - length xs)) b' n)) there refl $ fjoin ! $
    move ! (1 ∷ 0 ∷ []) $ fjoin ! $ flt_i ! (d.room * 128) (2 ^ 63) small $ flt_i ! (length xs) (d.room + 1) (omega arith) $ fjoin ! $ fjoin ! $
    rewrite ! 0 (λ (p : Ptr). ‵ (region_owns p d.room xs)) (sym e) refl $ move ! (1 ∷ 0 ∷ []) $ fjoin ! $ move ! (1 ∷ 0 ∷ []) $ closes ! tt R
    (record d { blocks = xs }) vs b o $
    returns ! (look_at ! 0 refl) $ free_all ! refl $ keep ! (0 ∷ 1 ∷ 2 ∷ []) $
    suffices ! _ (ends_at 𝓛 f.ended stayed c y vunit tt (record d { blocks = xs }, (tt, tt)) (tt, (tt, tt))) $ says_two ! (refl, refl) $
    feq_i ! (List Val) (vunit ∷ []) (vunit ∷ []) refl $ move ! (1 ∷ 2 ∷ 3 ∷ 0 ∷ []) $ nothing ! $ move ! (3 ∷ 0 ∷ []) $ join ! $ frame ! $
    feq_i ! (List Val) (vptr b o ∷ []) (vptr b o ∷ []) refl $ fjoin3 ! $ nothing ! $ nothing ! $ fjoin ! $ move ! (1 ∷ 0 ∷ []) $ fjoin ! $ done !)))))))))
