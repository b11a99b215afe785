-- `release` makes the blocks room again, and gives all of it back with the right to do so. Assumes `Logic`.
use Rattle.cfdp_arena.proofs.Steps.{◌≡◌, ◌+◌, ◌-◌, ◌*◌, ◌^◌, ◌<◌, List, [], ◌∷◌, length, refl, sym, ap, subst, arith, never, id⊢, ftrue, flft, froom, Val, vunit, vptr, tables, ‵, raw, ◌⊛◌, later, given, at_ret, ◌$◌, ◌∵◌, !, qed, done, move, keep, drop, use1, use2, split, join, fsplit, fjoin, feq_i, flt_l, await, learn, suffices, group, whole, sub, enter, of_opd, lit, unit_lit, bin, stop, fld, no_more, and_then, first, blocks, exec, returns, alloc_all, pass_all, free_all, look_at, get, get_in, sets, is, env, RefOf, yes, owns, ptr_val, in_a_block, shr_vals, shr_Tells, plain, types_at, nothing, Stays, walk_of, stay_dropped, Goes-dropped, ends_at, proved, after}
use lib.Dec.{T}
use mir.Syntax.{named, ty_unit}
use mir.Val.{has_ty, WT}
use types.ByLocal.{lands_last}
use denote.Triple.Call.{calls_at_last}
use denote.Triple.Table.{framed}
use Rattle.core.proofs.alloc.Calls.{Goes-blank}
use Rattle.std_heap.specs.contracts.Global as HP
use Rattle.std_heap.proofs.GlobalAllocator.deallocate.Met.{met}
use Rattle.cfdp_arena.specs.code.Ownership.{region_owns}
use Rattle.cfdp_arena.specs.contracts.region.Region as C
use Rattle.cfdp_arena.specs.contracts.region.Region.release as f
use Rattle.cfdp_arena.proofs.Heap.{region_type, region_size, Gives, at_gives, gives_goes, gives_gives}
use Rattle.cfdp_arena.proofs.RegionBlocks.{word, word_good, fields_fit, region_is_word, blocks_room}
use Rattle.cfdp_arena.proofs.region.Region.release.Statement.{statement}
use Rattle.cfdp_arena.proofs.region.Region.release.Code as code

abbrev stayed : Stays f.ended.signature.params f.ended.kept
stayed = (stay_dropped (plain (λ _. C.the_row)) yes, (stay_dropped (RefOf (0 ∷ []) tt (plain (λ _. HP.the_row)) (λ _. tt)) yes, tt))

pub release_spec : {M : Type 1} → statement M
release_spec 𝓤 𝓛 𝓜 𝓡 wired =
    let c = f.clauses 𝓛 𝓜.mem 𝓡.returns in let W = walk_of 𝓛 f.ended stayed c in let 𝓣 = tables 𝓤 𝓛.H 𝓜 𝓡 𝓡.env in
    proved 𝓛 f.ended stayed c 𝓜 𝓡 (
      Goes-blank 𝓛 1 (plain (λ _. C.the_row)) yes (λ κs x w. tt),
      (Goes-dropped 𝓛 1 (RefOf (0 ∷ []) tt (plain (λ _. HP.the_row)) (λ _. tt)) yes (λ κs x w. refl), tt),
    )
    f.Key.name code.function (code.unfolded 𝓤 𝓛.H 𝓜 𝓡 wired)
    (λ κs. ((λ d. word d.base d.room ∷ []), (shr_vals, tt))) (λ κs. (region_is_word 𝓛, (shr_Tells (named 0) κs.0 HP.the_row, tt))) (λ κs qs bounds a _ are.
    let κ = κs.0 in let q = qs.0 in let d = a.0 in let room = d.room in let p = a.1.0.ref_ptr in let τ = region_type room in let count = length d.blocks in
    let y : W.Ghost = ((κs, qs, bounds, a, (word d.base room ∷ [], (vptr p.0 p.1 ∷ [], tt))), tt) in
    qed 𝓛 (((‵ (flft κ q) ⊛ ‵ ftrue) ⊛ ‵ (owns (types_at f.ended.signature.params κs) a y.0.4)) ∷ ‵ ftrue ∷ []) ∵
    split ! $ split ! $ move ! (2 ∷ []) $ fsplit ! $ fsplit ! $ drop ! $ move ! (1 ∷ []) $ fsplit ! $ fsplit ! $ keep ! (3 ∷ 1 ∷ 4 ∷ []) $
    -- [the blocks, the room and the right; what the `&` shows of the handle; the token]
    let fits : room < 2 ^ 64 = fields_fit d.base room _ are.0.0 in
    enter ! _ _ _ _ _ $ alloc_all ! (λ l. pass_all ! refl (word_good d.base room fits, ((tt, tt), tt)) $
    in_a_block ! d.base (λ z. region_owns z room d.blocks) (id⊢ 𝓤 (never 𝓤))
    (λ b o e. fsplit ! $ fsplit ! $ flt_l ! (λ few. flt_l ! (λ small. fsplit ! $ move ! (1 ∷ []) $ fsplit ! $ move ! (2 ∷ 0 ∷ []) $
    let bytes : room * 128 < 2 ^ 64 = omega arith in let all : room ≡ count + (room - count) = omega arith in
    use2 𝓛 (‵ (froom τ b o)) (blocks_room 𝓛 b o d.blocks (room - count) room (count * 128 + o) all refl) $
    -- [the room; the right; what the `&` shows of the handle; the token]
    sets ! (is ! (of_opd ! (get_in ! (fld ! refl (stop !)) (sub ! 0 refl (whole !)))) (ap ptr_val e)) refl (tt, tt) $
    sets ! (of_opd ! (get_in ! (fld ! refl (stop !)) (sub ! 1 refl (whole !)))) refl (tt, record { fits = fits }) $
    first ! $ blocks ! $ sets ! (of_opd ! (get ! refl)) refl (tt, tt) $
    sets ! (bin ! (get ! refl) (lit ! tt) (record { fits = bytes })) refl (tt, record { fits = bytes }) $
    let G = Gives 𝓛 𝓜.mem 𝓡.returns in let z = at_gives 𝓛 𝓜.mem 𝓡.returns κ q p a.1.0.now (room * 128) τ b o in
    group ! 4 $ use1 𝓛 (raw (G.pre z)) (gives_goes 𝓛 𝓜.mem 𝓡.returns κ q p a.1.0.now (room * 128) τ b o (region_size room bytes) refl bytes) $
    calls_at_last ! (framed 𝓤 𝓛.H 𝓜 𝓣) G (met 𝓤 𝓛 𝓜 𝓡 (code.calls-std_heap::GlobalAllocator::deallocate 𝓡.env wired)) z
    (and_then ! (get ! refl) (and_then ! (get ! refl) (and_then ! (get ! refl) (and_then ! (lit ! tt) (no_more !))))) (λ v.
    use1 𝓛 (later (given (v ≡ vunit) (‵ (flft κ q)))) (gives_gives 𝓛 𝓜.mem 𝓡.returns κ q p a.1.0.now (room * 128) τ b o v) $ await ! tt $ learn ! (λ is_unit.
    lands_last ! refl (subst (λ (w : Val). T (has_ty ty_unit w) × WT w) (sym is_unit) (tt, tt)) $
    exec ! 𝓣.C 𝓣.Λ (env code.Mir.locals l) (after 3 (code.function).body) (at_ret _ (W.post y)) $
    sets ! (of_opd ! (unit_lit !)) refl (tt, tt) $ returns ! (look_at ! 0 refl) $ free_all ! refl $ keep ! (0 ∷ []) $
    suffices ! _ (ends_at 𝓛 f.ended stayed c y vunit tt (tt, (tt, tt)) (tt, (tt, tt))) $
    nothing ! $ move ! (1 ∷ 0 ∷ []) $ join ! $ feq_i ! (List Val) (vunit ∷ [])
    (vunit ∷ []) refl $ nothing ! $ nothing ! $ fjoin ! $ nothing ! $ fjoin ! $ join ! $ move ! (1 ∷ 0 ∷ []) $ join ! $
    nothing ! $ move ! (1 ∷ 0 ∷ []) $ done !)))))))
