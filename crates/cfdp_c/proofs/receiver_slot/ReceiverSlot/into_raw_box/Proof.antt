-- `into_raw_box` gives up the pointer, and what it owns. Assumes `Logic`.
use Rattle.std.proofs.Common.{◌≡◌, List, [], ◌∷◌, ◌++◌, refl, sym, ap, ◌∙◌, subst}
use Rattle.std.specs.Prelude.{Option, Some, IsSome}
use Rattle.std_alloc.specs.Box.Ownership.{box_owns}
use Rattle.cfdp_reception.specs.Reception.{ReceptionFields}
use mir.Raw.{raw as bare}
use mir.Syntax.{impl, tnil, dnil}
use mir.Val.{Val, vptr}
use base.Logic.{SProp, ent, emp, never, id⊢, fst∗}
use types.Logic.{sem}
use prog.Wp.{WpFn}
use contract.Monad.{fact, fact_i}
use contract.Running.{tables}
use types.Kit.{‵, raw, ◌⊛◌, ◌$◌, ◌∵◌, !, qed, by, move, keep, drop, split, suffices, rewrite, use0, fsplit, fjoin}
use types.Part.{agg, sub, whole}
use types.Run.{stop, fld, of_opd, no_more, and_then, returns, enter}
use types.ByLocal.{alloc_all, pass_all, free_all, look_at, get, get_in, sets}
use denote.Memory.{lone}
use denote.RattleType.{owns}
use denote.RawPtr.{Ptr, block_ptr, null_ptr, in_a_block}
use denote.Signature.{types_at, plain}
use denote.Steps.{nothing, heard}
use denote.Triple.Entry.{alive}
use denote.Triple.Walked.{Stays, stay_dropped, walk_of}
use Rattle.core.proofs.alloc.Calls.{Goes-blank, Al, handle_tells}
use Rattle.std.proofs.raw_atomic.Walks.{proved_at, leaves}
use Rattle.std_heap.specs.contracts.Global as G
use Rattle.std_heap.specs.contracts.GlobalAllocator.TheImpl.{ghosts}
use Rattle.std_heap.proofs.Global.TheLaws as GL
use Rattle.cfdp_c.proofs.Boxes.{both, RawBox, raw_box_good, raw_box_in}
use Rattle.cfdp_reception.specs.contracts.reception.Reception as T
use Rattle.cfdp_arena.specs.code.Ownership.{freeing}
use Rattle.cfdp_c.specs.code.ReceiverOwnership.{receiver_owns}
use Rattle.cfdp_c.proofs.Values.{slot_val, slot_fields, slot_typed, content_of, content_is}
use Rattle.cfdp_c.specs.contracts.receiver_slot.ReceiverSlot as slot
use Rattle.cfdp_c.specs.contracts.receiver_slot.ReceiverSlot.into_raw_box as f
use Rattle.cfdp_c.proofs.receiver_slot.ReceiverSlot.into_raw_box.Statement.{statement}
use Rattle.cfdp_c.proofs.receiver_slot.ReceiverSlot.into_raw_box.Code as code

pub into_raw_box_spec : {M : Type 1} → statement M
into_raw_box_spec 𝓤 𝓛 𝓜 𝓡 wired =
    let c = f.clauses 𝓛 𝓜.mem 𝓡.returns in let 𝓣 = tables 𝓤 𝓛.H 𝓜 𝓡 𝓡.env in
    let hs : Stays f.ended.signature.params f.ended.kept = (
      stay_dropped (plain (λ _. slot.the_row)) f.ended.kept.0,
      (stay_dropped (plain (λ _. G.the_row)) f.ended.kept.1.0, tt),
    ) in
    let handles : Al = record { row = G.the_row; laws = GL.the_row_laws; g = ghosts; d = impl [] tnil dnil; drops = impl [] tnil dnil } in
    proved_at 𝓛 f.ended hs c 𝓜 𝓡 (
      Goes-blank 𝓛 0 (plain (λ _. slot.the_row)) f.ended.kept.0 (λ κs x w. tt),
      (Goes-blank 𝓛 0 (plain (λ _. G.the_row)) f.ended.kept.1.0 (λ κs x w. tt), tt),
    ) f.Key.name code.function (code.unfolded 𝓤 𝓛.H 𝓜 𝓡 wired) (λ z are.
    let s = z.0.3.0 in let alloc = z.0.3.1.0 in let Post : Val → SProp 𝓤 = (walk_of 𝓛 f.ended hs c).post z in let Run : List Val → SProp 𝓤 =
    λ ws. WpFn 𝓤 𝓛.H 𝓣.C 𝓣.Λ code.function ws Post in
    let reported = slot_fields s.at z.0.4.0 are.0.0 in
    qed 𝓛 ((raw (alive 𝓛 f.ended.signature z.0.0 z.0.1) ⊛ ‵ (owns (types_at f.ended.signature.params z.0.0) z.0.3 z.0.4)) ∷ raw
    (fact 𝓤 (IsSome s.receiver)) ∷ []) ∵
    move ! (1 ∷ []) $ heard ! (IsSome s.receiver) (λ has. let t = content_of s.receiver has in
    split ! $ move ! (1 ∷ []) $ fsplit ! $ fsplit ! $ drop ! $
    -- [what the pointer owns; the handle and nothing; the tokens]
    rewrite ! 0 (λ (e : Option ReceptionFields). ‵ (receiver_owns s.at e)) (content_is s.receiver has) refl $
    in_a_block ! s.at (λ p. box_owns freeing T.the_row p t) (fst∗ 𝓤 (never 𝓤) (sem 𝓛 (freeing (bare (lone (T.the_row).mir)) null_ptr))) (λ b o e.
    move ! (1 ∷ []) $ fsplit ! $ handle_tells handles ! alloc z.0.4.1.0 (λ h eh fits.
    -- [the handle; nothing; the block; the tokens]
    let x : (RawBox T.the_row G.the_row GL.the_row_laws ghosts).Denot = record { at = block_ptr b o; alloc = alloc; value = t } in
    let ws : z.0.4.0 ++ (z.0.4.1.0 ++ []) ≡ slot_val (block_ptr b o) ∷ h ∷ [] = λ i. (reported ∙ ap (λ (p : Ptr). slot_val p ∷ []) e) i ++ (eh i ++ []) in
    suffices ! (Run (slot_val (block_ptr b o) ∷ h ∷ [])) (subst (λ (us : List Val). ent 𝓤 (Run (slot_val (block_ptr b o) ∷ h ∷ [])) (Run us)) (sym ws)
    (id⊢ 𝓤 _)) $
    enter ! 𝓣.C 𝓣.Λ code.function (slot_val (block_ptr b o) ∷ h ∷ []) Post $
    alloc_all ! (λ l. pass_all ! refl (slot_typed (block_ptr b o), (fits, tt)) $
    sets ! (of_opd ! (get_in ! (fld ! refl (stop !)) (sub ! 0 refl (whole !)))) refl (tt, tt) $
    sets ! (of_opd ! (get ! refl)) refl (tt, tt) $
    sets ! (agg ! (and_then ! (get ! refl) (and_then ! (get ! refl) (no_more !)))) refl (raw_box_good T.the_row G.the_row GL.the_row_laws ghosts b o h fits) $
    returns ! (look_at ! 0 refl) $ free_all ! refl $ keep ! (2 ∷ 0 ∷ 3 ∷ []) $ raw_box_in T.the_row G.the_row GL.the_row_laws ghosts ! b o h alloc t $
    use0 𝓛 (raw (fact 𝓤 (s.receiver ≡ Some t))) (fact_i 𝓤 (s.receiver ≡ Some t) (emp 𝓤) (content_is s.receiver has)) $ nothing ! $ nothing ! $ fjoin ! $ nothing
    ! $ fjoin ! $ move ! (3 ∷ 0 ∷ 2 ∷ 1 ∷ []) $
    by ! (leaves 𝓛 f.ended hs c z (both (vptr b o) h) x (tt, (tt, tt)) (tt, (tt, tt))))))))
