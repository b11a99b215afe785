-- `reserve` asks the allocator for the memory, and keeps it as room with the right to give it back. Assumes `Logic`.
use Rattle.cfdp_arena.proofs.Steps.{◌≡◌, ℕ, ◌+◌, ◌-◌, ◌*◌, ◌^◌, ◌<◌, [], ◌∷◌, refl, arith, lit<, w64, ftrue, flft, froom, ty_array, vint, vptr, vstruct, vcons, vnil, fact, tables, Env, ‵, raw, ◌⊛◌, later, at_ret, ◌$◌, ◌∵◌, !, qed, done, move, keep, drop, use0, use1, use2, split, join, fsplit, fjoin, flt_i, await, rewrite, suffices, frame, whole, enter, of_opd, lit, bin, stop, fld, no_more, and_then, first, exec, returns, alloc_all, pass_all, free_all, look_at, get, get_in, sets, sets_last, lands_as, env, usize, RefOf, yes, Is, uint_vals, uint_Tells, owns, Ptr, block_ptr, shr_vals, shr_Tells, plain, types_at, nothing, owned, heard, Stays, walk_of, stay_dropped, Goes-dropped, ends_at, proved, after}
use mathlib.Core.Bool.{true, false}
use mir.Syntax.{Body, named}
use prog.Wp.{Wp, after_seq, at_return}
use types.Kit.{Post as After, any_q}
use types.Match.{live, vrt, in_variant}
use types.Part.{agg}
use types.Run.{switches_on}
use types.ByLocal.{get_tag}
use denote.RattleType.{RattleType}
use denote.Struct.Declared as Declared
use denote.Struct.Struct.{Struct, Struct-Makes}
use denote.Triple.Call.{calls_at}
use denote.Triple.Table.{framed}
use Rattle.std.specs.Prelude.{Ok, Err}
use Rattle.core.proofs.alloc.Calls.{Answer-typed}
use Rattle.core.proofs.mem.Facts.{says_two}
use Rattle.core.specs.contracts.alloc.AllocError as AE
use Rattle.core.specs.contracts.result.Result as RS
use Rattle.std_alloc.proofs.ResultValues.{ok_of, err_of}
use Rattle.std_alloc.proofs.VecSteps.Shapes.{head, arm_body}
use Rattle.std_heap.specs.contracts.Global as HP
use Rattle.std_heap.proofs.GlobalAllocator.allocate.Met.{met}
use Rattle.cfdp_arena.specs.code.Ownership.{block_type}
use Rattle.cfdp_arena.specs.contracts.region.Region as C
use Rattle.cfdp_arena.specs.contracts.region.Region.reserve as f
use Rattle.cfdp_arena.proofs.Heap.{region_type, region_size, Takes, at_takes, takes_goes, takes_gives, Answered, answers}
use Rattle.cfdp_arena.proofs.RegionBlocks.{Fields, word, fields_made}
use Rattle.cfdp_arena.proofs.region.Region.reserve.Statement.{statement}
use Rattle.cfdp_arena.proofs.region.Region.reserve.Code as code

abbrev stayed : Stays f.ended.signature.params f.ended.kept
stayed = (stay_dropped (RefOf (0 ∷ []) tt (plain (λ _. HP.the_row)) (λ _. tt)) yes, (stay_dropped (plain (λ _. usize)) yes, tt))

pub reserve_spec : {M : Type 1} → statement M
reserve_spec 𝓤 𝓛 𝓜 𝓡 wired =
    let c = f.clauses 𝓛 𝓜.mem 𝓡.returns in let W = walk_of 𝓛 f.ended stayed c in let 𝓣 = tables 𝓤 𝓛.H 𝓜 𝓡 𝓡.env in let R = C.the_row in let Out : RattleType =
    RS.the_row R AE.the_row in
    proved 𝓛 f.ended stayed c 𝓜 𝓡 (
      Goes-dropped 𝓛 1 (RefOf (0 ∷ []) tt (plain (λ _. HP.the_row)) (λ _. tt)) yes (λ κs x w. refl),
      (Goes-dropped 𝓛 1 (plain (λ _. usize)) yes (λ κs x w. refl), tt),
    )
    f.Key.name code.function (code.unfolded 𝓤 𝓛.H 𝓜 𝓡 wired)
    (λ κs. (shr_vals, (uint_vals w64, tt))) (λ κs. (shr_Tells (named 0) κs.0 HP.the_row, (uint_Tells w64, tt))) (λ κs qs bounds a _ are.
    let κ = κs.0 in let q = qs.0 in let at = a.0.ref_ptr in let room = a.1.0 in let τ = region_type room in
    let y : W.Ghost = ((κs, qs, bounds, a, (vptr at.0 at.1 ∷ [], (vint w64 room ∷ [], tt))), tt) in
    qed 𝓛 (((‵ (flft κ q) ⊛ ‵ ftrue) ⊛ ‵ (owns (types_at f.ended.signature.params κs) a y.0.4)) ∷ raw (fact 𝓤 (room * 128 < 2 ^ 63)) ∷ []) ∵
    move ! (1 ∷ []) $ heard ! _ (λ small. split ! $ split ! $ move ! (2 ∷ []) $ fsplit ! $ fsplit ! $ drop ! $ keep ! (0 ∷ 2 ∷ []) $
    let bytes : room * 128 < 2 ^ 64 = omega arith in let fits = are.1.0.1 in
    -- [what the `&` shows of the handle; the token]
    enter ! _ _ _ _ _ $ alloc_all ! (λ l. pass_all ! refl ((tt, tt), ((tt, record { fits = fits }), tt)) $
    let En : Env 𝓤 𝓛.H = env code.Mir.locals l in let body : Body = (code.function).body in let both : Body = head (after 2 body) in
    let Then : After 𝓤 𝓛.H = any_q (after_seq 𝓤 𝓛.H (Wp 𝓤 𝓛.H 𝓣.C 𝓣.Λ En (after 3 body) (at_return 𝓤 𝓛.H En (W.post y))) (at_return 𝓤 𝓛.H En (W.post y))) in
    sets ! (bin ! (get ! refl) (lit ! tt) (record { fits = bytes })) refl (tt, record { fits = bytes }) $
    let T = Takes 𝓛 𝓜.mem 𝓡.returns in let z = at_takes 𝓛 𝓜.mem 𝓡.returns κ q at a.0.now (room * 128) τ in
    use2 𝓛 (raw (T.pre z)) (takes_goes 𝓛 𝓜.mem 𝓡.returns κ q at a.0.now (room * 128) τ (region_size room bytes) refl bytes) $
    calls_at ! (framed 𝓤 𝓛.H 𝓜 𝓣) T (met 𝓤 𝓛 𝓜 𝓡 (code.calls-std_heap::GlobalAllocator::allocate 𝓡.env wired)) z
    (and_then ! (get ! refl) (and_then ! (get ! refl) (and_then ! (lit ! tt) (no_more !)))) (λ v.
    use1 𝓛 (later (raw (Answered 𝓛 𝓜.mem 𝓡.returns κ q at a.0.now (room * 128) τ v) ⊛ ‵ (flft κ q)))
    (takes_gives 𝓛 𝓜.mem 𝓡.returns κ q at a.0.now (room * 128) τ v) $ await ! tt $ split ! $
    answers ! 𝓜.mem 𝓡.returns κ q at a.0.now (room * 128) τ v
    (λ b o e.
    let p : Ptr = block_ptr b o in let region : R.Denot = record { base = p; room = room; blocks = [] } in let made = word p room in let out =
    live 0 (vcons made vnil) in
    let none : room ≡ room - 0 = omega arith in let here : o ≡ 0 * 128 + o = omega arith in
    lands_as ! e refl (Answer-typed true b o) $ first ! $ switches_on ! (get_tag ! (vrt ! refl (fld ! refl (stop !))) (whole !)) $ exec ! 𝓣.C 𝓣.Λ En
    (arm_body 0 both) Then $
    sets ! (of_opd ! (get_in ! (vrt ! refl (fld ! refl (stop !))) (in_variant ! 0 0 refl refl (whole !)))) refl (tt, tt) $ sets ! (of_opd ! (get ! refl)) refl
    (tt, tt) $
    sets ! (agg ! (and_then ! (get ! refl) (and_then ! (get ! refl) (no_more !)))) refl (tt, (tt, (record { fits = fits }, tt))) $
    sets_last ! (agg ! (and_then ! (lit ! tt) (and_then ! (get ! refl) (no_more !)))) refl (
      tt,
      (record { fits = lit< tt }, ((tt, (record { fits = fits }, tt)), tt)),
    ) $
    exec ! 𝓣.C 𝓣.Λ En (after 3 body) (at_ret En (W.post y)) $ sets ! (of_opd ! (get ! refl)) refl (
      tt,
      (record { fits = lit< tt }, ((tt, (record { fits = fits }, tt)), tt)),
    ) $
    rewrite ! 0 (λ (n : ℕ). ‵ (froom (ty_array block_type n) b o)) none refl $ rewrite ! 0
    (λ (n : ℕ). ‵ (froom (ty_array block_type (room - 0)) b n)) here refl $ fjoin ! $ nothing ! $ fjoin ! $
    flt_i ! (room * 128) (2 ^ 63) small $ flt_i ! 0 (room + 1) (omega arith) $ fjoin ! $ fjoin ! $ use0 𝓛 (‵ (Fields.own_val (p, (room, tt)) (made ∷ [])))
    (fields_made 𝓛 p room fits) $ fjoin ! $
    use1 𝓛 (‵ (Out.own_val (Ok region) (out ∷ []))) (ok_of 𝓛 R AE.the_row region made) $
    returns ! (look_at ! 0 refl) $ free_all ! refl $ keep ! (0 ∷ 1 ∷ []) $
    suffices ! _ (ends_at 𝓛 f.ended stayed c y out (Ok region) (tt, (tt, tt)) (tt, (tt, tt))) $ says_two ! (refl, refl) $
    move ! (1 ∷ []) $ nothing ! $ move ! (1 ∷ 0 ∷ []) $ join ! $ frame ! $ nothing ! $ nothing ! $ fjoin ! $ nothing ! $ fjoin ! $ done !)
    (λ e.
    let Refusal : RattleType = Struct (Declared.shape AE.the_type) in let out = live 1 (vcons (vstruct vnil) vnil) in
    lands_as ! e refl (Answer-typed false 0 0) $ first ! $ switches_on ! (get_tag ! (vrt ! refl (fld ! refl (stop !))) (whole !)) $ exec ! 𝓣.C 𝓣.Λ En
    (arm_body 1 both) Then $
    sets ! (of_opd ! (get_in ! (vrt ! refl (fld ! refl (stop !))) (in_variant ! 1 0 refl refl (whole !)))) refl (tt, tt) $
    sets_last ! (agg ! (and_then ! (lit ! tt) (and_then ! (get ! refl) (no_more !)))) refl (tt, (record { fits = lit< tt }, (tt, tt))) $
    exec ! 𝓣.C 𝓣.Λ En (after 3 body) (at_ret En (W.post y)) $ sets ! (of_opd ! (get ! refl)) refl (tt, (record { fits = lit< tt }, (tt, tt))) $
    owned ! Refusal (Is Refusal) (Struct-Makes 𝓛 (Declared.shape AE.the_type) tt) tt (vstruct vnil ∷ []) (tt, (refl, tt)) $
    use1 𝓛 (‵ (Out.own_val (Err (record {})) (out ∷ []))) (err_of 𝓛 R AE.the_row (record {}) (vstruct vnil)) $
    returns ! (look_at ! 0 refl) $ free_all ! refl $ keep ! (0 ∷ 1 ∷ []) $
    suffices ! _ (ends_at 𝓛 f.ended stayed c y out (Err (record {})) (tt, (tt, tt)) (tt, (tt, tt))) $ says_two ! (tt, tt) $
    move ! (1 ∷ []) $ nothing ! $ move ! (1 ∷ 0 ∷ []) $ join ! $ frame ! $ nothing ! $ nothing ! $ fjoin ! $ nothing ! $ fjoin ! $ done !)))))
