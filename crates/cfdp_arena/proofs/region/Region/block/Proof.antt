-- `block` reads the base through the `&`, and shows the block with its number. Assumes `Logic`.
use Rattle.cfdp_arena.proofs.Steps.{ℕ, ◌+◌, ◌*◌, ◌^◌, ◌<◌, List, [], ◌∷◌, length, get_or, refl, sym, ap, arith, w64, never, id⊢, ftrue, flft, fhide, named, Val, vint, vptr, fact, tables, ‵, raw, ◌⊛◌, at_ret, ◌$◌, ◌∵◌, !, qed, done, move, keep, drop, use1, split, join, fsplit, fjoin, feq_i, feq_l, flt_l, rewrite, suffices, frame, whole, sub, look_in, enter, of_opd, lit, bin, addr, load, stop, fld, first, blocks, exec, returns, alloc_all, pass_all, free_all, look_at, get, through, sets, sets_last, is, env, usize, RefOf, yes, Is, shows, cell_at, shared_of, hidden_shr, hide, unhide, uint_vals, uint_Tells, owns, ptr_val, block_ptr, in_a_block, shr_vals, shr_Tells, plain, types_at, nothing, heard, peeks, looks, shuts, Stays, walk_of, stay_dropped, Goes-dropped, ends_at, proved, after}
use denote.Struct.Lending.{lent_out}
use Rattle.core.proofs.mem.Facts.{says_two}
use Rattle.cfdp_arena.specs.Ownership.{Block, region_lends}
use Rattle.cfdp_arena.specs.contracts.region.Region as C
use Rattle.cfdp_arena.specs.contracts.region.Region.block as f
use Rattle.cfdp_arena.proofs.RegionBlocks.{Fields, fields_are_words, fields_open, block_seen}
use Rattle.cfdp_arena.proofs.region.Region.block.Statement.{statement}
use Rattle.cfdp_arena.proofs.region.Region.block.Code as code

abbrev stayed : Stays f.ended.signature.params f.ended.kept
stayed = (stay_dropped (RefOf (0 ∷ []) tt (plain (λ _. C.the_row)) (λ _. tt)) yes, (stay_dropped (plain (λ _. usize)) yes, tt))

pub block_spec : {M : Type 1} → statement M
block_spec 𝓤 𝓛 𝓜 𝓡 wired =
    let c = f.clauses 𝓛 𝓜.mem 𝓡.returns in let W = walk_of 𝓛 f.ended stayed c in let 𝓣 = tables 𝓤 𝓛.H 𝓜 𝓡 𝓡.env in
    proved 𝓛 f.ended stayed c 𝓜 𝓡 (
      Goes-dropped 𝓛 1 (RefOf (0 ∷ []) tt (plain (λ _. C.the_row)) (λ _. tt)) yes (λ κs x w. refl),
      (Goes-dropped 𝓛 1 (plain (λ _. usize)) yes (λ κs x w. refl), tt),
    )
    f.Key.name code.function (code.unfolded 𝓤 𝓛.H 𝓜 𝓡 wired)
    (λ κs. (shr_vals, (uint_vals w64, tt))) (λ κs. (shr_Tells (named 0) κs.0 C.the_row, (uint_Tells w64, tt))) (λ κs qs bounds a _ are.
    let κ = κs.0 in let q = qs.0 in let b = a.0.ref_ptr.0 in let o = a.0.ref_ptr.1 in let d = a.0.now in let i = a.1.0 in let x = get_or d.blocks i [] in
    let y : W.Ghost = ((κs, qs, bounds, a, (vptr b o ∷ [], (vint w64 i ∷ [], tt))), tt) in
    qed 𝓛 (((‵ (flft κ q) ⊛ ‵ ftrue) ⊛ ‵ (owns (types_at f.ended.signature.params κs) a y.0.4)) ∷ raw (fact 𝓤 (i < length d.blocks)) ∷ []) ∵
    move ! (1 ∷ []) $ heard ! _ (λ within. split ! $ split ! $ move ! (2 ∷ []) $ fsplit ! $ fsplit ! $ drop ! $ keep ! (0 ∷ 2 ∷ []) $
    -- [what the `&` shows; the token]
    enter ! _ _ _ _ _ $ alloc_all ! (λ l. pass_all ! refl ((tt, tt), ((tt, record { fits = are.1.0.1 }), tt)) $
    use1 𝓛 (‵ (hidden_shr Fields κ (d.base, (d.room, tt)) b o) ⊛ ‵ (fhide (C.the_lent d (block_ptr b o) κ)))
    (lent_out 𝓛 C.struct C.the_codes C.the_heap C.the_lent κ d b o) $ split ! $ move ! (1 ∷ []) $
    unhide ! $ in_a_block ! d.base (λ p. region_lends p d.room d.blocks κ) (id⊢ 𝓤 (never 𝓤)) (λ b' o' e. fsplit ! $ fsplit ! $ flt_l ! (λ few. flt_l ! (λ small.
    let at = i * 128 + o' in let far : i * 128 < 2 ^ 64 = omega arith in
    use1 𝓛 (‵ (shared_of Block x b' at κ)) (block_seen 𝓛 κ b' o' d.blocks i within at refl) $
    fsplit ! $ feq_l ! (λ long. feq_i ! ℕ (length x) 128 long $ fjoin ! $ hide ! $ move ! (1 ∷ 2 ∷ []) $
    -- [what the `&` shows of the fields; the token; what it shows of the block]
    looks ! tt Fields (fields_open 𝓛) (d.base, (d.room, tt)) b o (λ q' vs.
    move ! (1 ∷ []) $ peeks ! Fields (Is Fields) (shows 𝓛 Fields) (d.base, (d.room, tt)) vs (λ stated.
    let Cell = λ (ws : List Val). ‵ (cell_at q' Fields.mir ws b o) in let word_is = fields_are_words d.base d.room vs stated in rewrite ! 1 Cell word_is refl $
    first ! $ blocks ! $
    sets ! (is ! (of_opd ! (load ! (through ! refl (fld ! refl (stop !))) (look_in ! 1 (sub ! 0 refl (whole !))))) (ap ptr_val e)) refl (tt, tt) $
    sets ! (bin ! (get ! refl) (lit ! tt) (record { fits = far })) refl (tt, record { fits = far }) $
    sets ! (bin ! (get ! refl) (get ! refl) tt) refl (tt, tt) $
    sets_last ! (addr ! (through ! refl (stop !))) refl (tt, tt) $
    exec ! 𝓣.C 𝓣.Λ (env code.Mir.locals l) (after 1 (code.function).body) (at_ret _ (W.post y)) $
    sets ! (of_opd ! (get ! refl)) refl (tt, tt) $
    rewrite ! 1 Cell (sym word_is) refl $ move ! (1 ∷ 0 ∷ 2 ∷ []) $ shuts ! tt Fields q' (d.base, (d.room, tt)) vs b o $
    -- [the token; what the `&` shows of the fields; what it shows of the block]
    returns ! (look_at ! 0 refl) $ free_all ! refl $ keep ! (0 ∷ 2 ∷ []) $
    suffices ! _ (ends_at 𝓛 f.ended stayed c y (vptr b' at) (record { ref_ptr = (b', at); now = x }) (tt, (tt, tt)) (tt, (tt, tt))) $ says_two ! (refl, long) $
    nothing ! $ move ! (1 ∷ 0 ∷ []) $ join ! $ frame ! $ feq_i ! (List Val) (vptr b' at ∷ [])
    (vptr b' at ∷ []) refl $ fjoin ! $ nothing ! $ nothing ! $ fjoin ! $ nothing ! $ fjoin ! $ done !)))))))))
