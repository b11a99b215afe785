-- `front_mut` lends the first blocks as a slice, and the region follows it. Assumes `Logic`.
use Rattle.cfdp_arena.proofs.Steps.{◌≡◌, ℕ, ◌+◌, ◌*◌, ◌^◌, ◌<◌, ◌≤◌, List, [], ◌∷◌, ◌++◌, length, refl, sym, ap, ◌∙◌, arith, w64, full_share, ent, sep, never, id⊢, Fml, fsep, ftrue, flft, named, Val, vint, vptr, fact, tables, sem, ‵, raw, ◌⊛◌, later, some, at_ret, ◌$◌, ◌∵◌, !, qed, done, by, move, keep, use1, use2, split, split3, join, fsplit, fsplit3, fjoin, flt_l, pick, await, rewrite, suffices, frame, group, whole, sub, look_in, enter, of_opd, load, stop, fld, first, blocks, exec, returns, alloc_all, pass_all, free_all, look_at, get, through, sets, sets_last, is, env, usize, yes, no, Is, shows, mem, cell_at, uint_vals, uint_Tells, owns, ptr_val, in_a_block, MutBor, mut_vals, mut_Tells, plain, types_at, nothing, opens, heard, peeks, Stays, walk_of, stay_dropped, Goes-dropped, Goes-spent_ref, ends_at, proved, after}
use lib.ListN.{take, drop as drop_l, length-append, length-drop}
use types.Part.{agg}
use types.Run.{and_then, no_more}
use types.SemTy.{cells}
use borrow.Table.Elements.{length-take-le}
use denote.Array.{Array}
use denote.Slice.{MutSlice, slice_val}
use denote.Follow.{follows}
use denote.FollowSlice.{Elements, lends_Elements}
use denote.Signature.{mut_ref_to}
use Rattle.core.proofs.mem.Facts.{says_two}
use Rattle.cfdp_arena.specs.Ownership.{Block}
use Rattle.cfdp_arena.specs.code.Ownership.{blocks_own, rest_own, region_owns}
use Rattle.cfdp_arena.specs.code.Region.{with_front}
use Rattle.cfdp_arena.specs.contracts.region.Region as C
use Rattle.cfdp_arena.specs.contracts.region.Region.front_mut as f
use Rattle.cfdp_arena.proofs.RegionBlocks.{Fields, fields_are_words, front_out, front_in, closed}
use Rattle.cfdp_arena.proofs.region.Region.front_mut.Statement.{statement}
use Rattle.cfdp_arena.proofs.region.Region.front_mut.Code as code

abbrev stayed : Stays f.ended.signature.params f.ended.kept
stayed = (stay_dropped (mut_ref_to (0 ∷ []) tt (plain (λ _. C.the_row))) no, (stay_dropped (plain (λ _. usize)) yes, tt))

pub front_mut_spec : {M : Type 1} → statement M
front_mut_spec 𝓤 𝓛 𝓜 𝓡 wired =
    let c = f.clauses 𝓛 𝓜.mem 𝓡.returns in let W = walk_of 𝓛 f.ended stayed c in let 𝓣 = tables 𝓤 𝓛.H 𝓜 𝓡 𝓡.env in let R = C.the_row in
    proved 𝓛 f.ended stayed c 𝓜 𝓡 (Goes-spent_ref 𝓛 1 (0 ∷ []) tt (plain (λ _. R)), (Goes-dropped 𝓛 1 (plain (λ _. usize)) yes (λ κs x w. refl), tt))
    f.Key.name code.function (code.unfolded 𝓤 𝓛.H 𝓜 𝓡 wired)
    (λ κs. (mut_vals, (uint_vals w64, tt))) (λ κs. (mut_Tells (named 0) κs.0 R, (uint_Tells w64, tt))) (λ κs qs bounds a _ are.
    let κ = κs.0 in let q = qs.0 in let b = a.0.ref_ptr.0 in let o = a.0.ref_ptr.1 in let γ = a.0.ghost_name in
    let d = a.0.now in let n = a.1.0 in let xs = take n d.blocks in let zs = drop_l n d.blocks in
    let y : W.Ghost = ((κs, qs, bounds, a, (vptr b o ∷ [], (vint w64 n ∷ [], tt))), tt) in let new = with_front d n in
    qed 𝓛 (((‵ (flft κ q) ⊛ ‵ ftrue) ⊛ ‵ (owns (types_at f.ended.signature.params κs) a y.0.4)) ∷ raw (fact 𝓤 (n ≤ length d.blocks)) ∷ []) ∵
    move ! (1 ∷ []) $ heard ! _ (λ within. split ! $ split ! $ move ! (2 ∷ []) $ fsplit ! $ fsplit3 ! $ keep ! (1 ∷ 2 ∷ 4 ∷ []) $
    enter ! _ _ _ _ _ $ alloc_all ! (λ l. pass_all ! refl ((tt, tt), ((tt, record { fits = are.1.0.1 }), tt)) $
    opens ! tt R b o (λ vs. move ! (1 ∷ []) $ fsplit ! $ peeks ! Fields (Is Fields) (shows 𝓛 Fields) (d.base, (d.room, tt)) vs (λ stated. move ! (1 ∷ []) $
    in_a_block ! d.base (λ p. region_owns p d.room d.blocks) (id⊢ 𝓤 (never 𝓤)) (λ b' o' e. fsplit ! $ fsplit ! $ flt_l ! (λ few. flt_l ! (λ small. fsplit ! $
    let long : length xs ≡ n = length-take-le n d.blocks within in
    let roomy : length xs < 2 ^ 64 = omega arith in let fitting : length xs * 128 < 2 ^ 63 = omega arith in
    use1 𝓛 (‵ (cells (mem Block) xs b' o') ⊛ ‵ (cells (mem Block) zs b' (n * 128 + o'))) (front_out 𝓛 b' o' d.blocks n within) $ split ! $
    -- [the first blocks; those after them; the room and the right; what the fields own; the region's cell; the open borrow, in three entries]
    let Cell = λ (ws : List Val). ‵ (cell_at full_share Fields.mir ws b o) in let word_is = fields_are_words d.base d.room vs stated in rewrite ! 4 Cell
    word_is refl $
    first ! $ blocks ! $
    sets ! (is ! (of_opd ! (load ! (through ! refl (fld ! refl (stop !))) (look_in ! 4 (sub ! 0 refl (whole !))))) (ap ptr_val e)) refl (tt, tt) $
    sets_last ! (agg ! (and_then ! (get ! refl) (and_then ! (get ! refl) (no_more !)))) refl (tt, (tt, (record { fits = are.1.0.1 }, tt))) $
    exec ! 𝓣.C 𝓣.Λ (env code.Mir.locals l) (after 1 (code.function).body) (at_ret _ (W.post y)) $
    sets ! (of_opd ! (get ! refl)) refl (tt, (tt, (record { fits = are.1.0.1 }, tt))) $ rewrite ! 4 Cell (sym word_is) refl $
    let Last : Fml = fsep (Fields.own_val (d.base, (d.room, tt)) vs) (cell_at full_share Fields.mir vs b o) in
    let Rest : Fml = fsep (cells (mem Block) zs b' (n * 128 + o')) (fsep (rest_own d.room b' o' (length d.blocks)) Last) in
    let back : (ws : List (List ℕ)) → length ws ≡ length xs
    → ent 𝓤 (sep 𝓤 (sem 𝓛 (cells (mem Block) ws b' o')) (sem 𝓛 Rest)) (sem 𝓛 ((mem R).own_at (new ws) b o)) = λ ws same.
    let all : length (ws ++ zs) ≡ length d.blocks = omega (arith, length-append ws zs, length-drop n d.blocks) in
    qed 𝓛 (‵ (cells (mem Block) ws b' o') ∷ ‵ Rest ∷ []) ∵ move ! (1 ∷ []) $ fsplit ! $ move ! (2 ∷ 0 ∷ []) $
    use2 𝓛 (‵ (blocks_own b' o' (ws ++ zs))) (front_in 𝓛 b' o' ws zs n (same ∙ long)) $
    rewrite ! 1 (λ (k : ℕ). ‵ (fsep (rest_own d.room b' o' k) Last)) (sym all) refl $ fjoin ! $
    by ! (closed 𝓛 d vs b o b' o' e (ws ++ zs) (omega arith) small) in
    move ! (3 ∷ 4 ∷ []) $ fjoin ! $ move ! (3 ∷ 0 ∷ []) $ fjoin ! $ move ! (2 ∷ 0 ∷ []) $ fjoin ! $ move ! (2 ∷ 3 ∷ 4 ∷ 1 ∷ 0 ∷ []) $ group ! 5 $
    use1 𝓛 (later (some (λ (δ : ℕ). raw (Elements 𝓛 R Block new (named 0) κ q b o b' o' γ xs (roomy, fitting) (sem 𝓛 Rest) back δ))))
    (lends_Elements 𝓛 R Block new (named 0) κ q b o b' o' γ xs (roomy, fitting) (sem 𝓛 Rest) back (R.coded.code d) (R.coded.code d)) $ await ! tt $ pick ! (λ δ.
    returns ! (look_at ! 0 refl) $ free_all ! refl $ keep ! (0 ∷ []) $
    let out : MutBor (List (List ℕ)) = record { ref_ptr = (b', o'); ghost_name = δ; now = xs } in
    let Lent = λ (k : ℕ). ‵ ((MutSlice (named 0) κ Block).own_val out (slice_val (b', o') k ∷ [])) in
    use1 𝓛 (Lent (length xs) ⊛ ‵ (flft κ q) ⊛ ‵ (follows R (Array Block 0) γ δ new)) (id⊢ 𝓤 _) $ split3 ! $ rewrite ! 0 Lent long refl $
    suffices ! _ (ends_at 𝓛 f.ended stayed c y (slice_val (b', o') n) out (tt, (tt, tt)) (tt, (tt, tt))) $
    nothing ! $ nothing ! $ fjoin ! $ nothing ! $ fjoin ! $ join ! $ nothing ! $ move ! (2 ∷ 0 ∷ []) $
    join ! $ join ! $ frame ! $ says_two ! (refl, long) $ done !)))))))))
