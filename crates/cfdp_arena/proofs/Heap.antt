-- `allocate` and `deallocate` of `Global` at a call: what each is handed, a `&` to the handle and a token of its lifetime, and what a caller has of it.
-- Assumes `Logic`.
--     region_type               the type that the memory of a region is for.        region_size      its size
--     Takes, at_takes, takes_goes, takes_gives      `allocate`.        Answered, answers      what it answered, and the two cases
--     Gives, at_gives, gives_goes, gives_gives      `deallocate`
use Rattle.cfdp_arena.proofs.Steps.{◌≡◌, ℕ, ◌*◌, ◌^◌, ◌<◌, List, [], ◌∷◌, ◌++◌, refl, ap, ◌∙◌, lit<, w64, Ura, SProp, ent, sep, emp, never, id⊢, Fml, Lft, Share, ftrue, fsep, flft, froom, ty_array, Val, vunit, vint, vptr, of_list, fact, fact_i, Logic, sem, ‵, raw, ◌⊛◌, some, later, given, ◌$◌, ◌∵◌, !, qed, done, move, keep, drop, use0, use1, use2, split, join, fsplit, fjoin, fpick, feq_i, feq_l, flt_i, pick, learn, await, hidden_shr, nothing, unit, Ptr, block_ptr, null_ptr, ptr_val, in_a_block}
use mathlib.Core.Bool.{Bool, true, false}
use base.Logic.{ex, guard, fst∗}
use mir.Syntax.{Ty}
use prog.Capped.{capped_is}
use prog.Memory.{Memory, size, align, capped}
use prog.Routine.{Routine}
use types.Kit.{Goal, Seq, Item, check, show, updating, now as at_once}
use contract.Monad.{Fun}
use denote.RawPtr.{room_for}
use types.Match.{live}
use denote.Steps.{only}
use denote.Triple.Spec.{triple_of}
use denote.Triple.Statement.{Contract}
use Rattle.core.proofs.alloc.Calls.{Answer, answer_val}
use Rattle.core.specs.Allocator.{block_if_ok}
use Rattle.core.specs.declared.result.Result.TheVariants.{Ok, Err}
use Rattle.std_heap.specs.contracts.Global as HP
use Rattle.std_heap.specs.contracts.GlobalAllocator.TheImpl.{ghosts}
use Rattle.std_heap.specs.contracts.GlobalAllocator.allocate as AL
use Rattle.std_heap.specs.contracts.GlobalAllocator.deallocate as DE
use Rattle.cfdp_arena.specs.code.Ownership.{block_type, freeing}

abbrev pub region_type : ℕ → Ty
region_type room = ty_array block_type room

pub region_size : (room : ℕ) → room * 128 < 2 ^ 64 → capped (size (region_type room)) ≡ room * 128
region_size room fits = capped_is (room * 128) fits

abbrev pub handed : Ty → Bool → ℕ → ℕ → Fml
handed τ true b o = fsep (froom τ b o) (freeing τ (block_ptr b o))
handed τ false b o = ftrue

module _ {M : Type 1} {𝓤 : Ura M} (𝓛 : Logic 𝓤) (at_mem : Memory → SProp 𝓤) (run : Routine → Fun 𝓤) where
  open 𝓛 use {H, A}

  abbrev pub Takes : Contract 𝓤
  Takes = triple_of 𝓛 AL.signature (AL.spec 𝓛 at_mem run)

  abbrev pub Gives : Contract 𝓤
  Gives = triple_of 𝓛 DE.signature (DE.spec 𝓛 at_mem run)

  module _ (κ : Lft) (q : Share) (p : ℕ × ℕ) (a : HP.the_row.Denot) (s : ℕ) (τ : Ty) where
    abbrev pub at_takes : Takes.Ghost
    at_takes = (((κ, tt), (q, tt), tt, (record { ref_ptr = p; now = a }, (s, (1, tt))), (vptr p.0 p.1 ∷ [], (vint w64 s ∷ [], (vint w64 1 ∷ [], tt)))), τ)

    abbrev pub at_gives : ℕ → ℕ → Gives.Ghost
    at_gives b o = (
      (
        (κ, tt),
        (q, tt),
        tt,
        (record { ref_ptr = p; now = a }, (block_ptr b o, (s, (1, tt)))),
        (vptr p.0 p.1 ∷ [], (vptr b o ∷ [], (vint w64 s ∷ [], (vint w64 1 ∷ [], tt)))),
      ),
      τ,
    )

    pub takes_goes : capped (size τ) ≡ s → capped (align τ) ≡ 1 → s < 2 ^ 64 →
        ent 𝓤 (sep 𝓤 (sem 𝓛 (hidden_shr HP.the_row κ a p.0 p.1)) (A.lft κ q)) (Takes.pre at_takes)
    takes_goes es ea fits =
        qed 𝓛 (‵ (hidden_shr HP.the_row κ a p.0 p.1) ∷ ‵ (flft κ q) ∷ []) ∵
        use0 𝓛 (raw (fact 𝓤 ((capped (size τ) ≡ s) × (capped (align τ) ≡ 1)))) (fact_i 𝓤 ((capped (size τ) ≡ s) × (capped (align τ) ≡ 1)) (emp 𝓤) (es, ea)) $
        nothing ! $ flt_i ! 1 (2 ^ 64) (lit< tt) $ feq_i ! (List Val) (vint w64 1 ∷ []) (vint w64 1 ∷ []) refl $ fjoin ! $ fjoin ! $
        flt_i ! s (2 ^ 64) fits $ feq_i ! (List Val) (vint w64 s ∷ []) (vint w64 s ∷ []) refl $ fjoin ! $ fjoin ! $ move ! (2 ∷ []) $ feq_i ! (List Val)
        (vptr p.0 p.1 ∷ []) (vptr p.0 p.1 ∷ []) refl $ fjoin ! $ move ! (0 ∷ 1 ∷ []) $ fjoin ! $
        nothing ! $ move ! (3 ∷ 0 ∷ []) $ join ! $ join ! $ done !

    -- what comes with the answer: a flag, and where the memory lies
    abbrev pub Answered : Val → SProp 𝓤
    Answered v = ex 𝓤 (λ (c : Bool × (ℕ × ℕ)). guard 𝓤 (v ≡ answer_val c.0 c.1.0 c.1.1) (sem 𝓛 (handed τ c.0 c.1.0 c.1.1)))

    answered : (v : Val) (r : Answer.Denot) → ent 𝓤 (sep 𝓤 (sem 𝓛 (Answer.own_val r (v ∷ []))) (sem 𝓛 (block_if_ok (ghosts.dealloc_token a) τ r))) (Answered v)
    answered v (Ok r) =
        qed 𝓛 (‵ (Answer.own_val (Ok r) (v ∷ [])) ∷ ‵ (fsep (room_for τ r) (freeing τ r)) ∷ []) ∵
        fpick ! (λ us. fsplit ! $ feq_l ! (λ e. fpick ! (λ vss. fsplit ! $ feq_l ! (λ e'. fsplit ! $ feq_l ! (λ e''. drop ! $
        in_a_block ! r (λ z. fsep (room_for τ z) (freeing τ z)) (fst∗ 𝓤 (never 𝓤) (sem 𝓛 (freeing τ null_ptr))) (λ b o at.
        show ! (λ (c : Bool × (ℕ × ℕ)). guard 𝓤 (v ≡ answer_val c.0 c.1.0 c.1.1) (sem 𝓛 (handed τ c.0 c.1.0 c.1.1))) (true, (b, o)) $
        check ! (ap only e ∙ ap (λ (ws : List Val). live 0 (of_list ws)) (e' ∙ ap (λ (ws : List Val). ws ++ []) (e'' ∙ ap (λ (z : Ptr). ptr_val z ∷ []) at))) $
        done !))))))
    answered v (Err n) =
        qed 𝓛 (‵ (Answer.own_val (Err n) (v ∷ [])) ∷ ‵ ftrue ∷ []) ∵
        fpick ! (λ us. fsplit ! $ feq_l ! (λ e. fpick ! (λ vss. fsplit ! $ feq_l ! (λ e'. fsplit ! $ fpick ! (λ none. fsplit ! $ feq_l ! (λ e''. keep ! [] $
        show ! (λ (c : Bool × (ℕ × ℕ)). guard 𝓤 (v ≡ answer_val c.0 c.1.0 c.1.1) (sem 𝓛 (handed τ c.0 c.1.0 c.1.1))) (false, (0, 0)) $
        check ! (ap only e ∙ ap (λ (ws : List Val). live 1 (of_list ws)) (e' ∙ ap (λ (ws : List Val). ws ++ []) e'')) $ done !))))))

    pub takes_gives : (v : Val) → ent 𝓤 (Takes.post at_takes v) (H.⇛ (sep 𝓤 (Answered v) (A.lft κ q)))
    takes_gives v =
        qed 𝓛 (raw (Takes.post at_takes v) ∷ []) ∵ updating ! $
        use1 𝓛 (later (some (λ (r : Answer.Denot). ((‵ (flft κ q) ⊛ ‵ ftrue) ⊛ ‵ (Answer.own_val r (v ∷ [])))
        ⊛ some (λ (ws : Unit {0} × (Unit {0} × (Unit {0} × Unit {0}))). ‵ (fsep ftrue (fsep ftrue (fsep ftrue ftrue))) ⊛ ‵
        (block_if_ok (ghosts.dealloc_token a) τ r))))) (id⊢ 𝓤 _) $ await ! tt $ pick ! (λ r.
        split ! $ move ! (1 ∷ []) $ pick ! (λ ws. split ! $ drop ! $ move ! (1 ∷ []) $ split ! $ split ! $ keep ! (2 ∷ 3 ∷ 0 ∷ []) $
        use2 𝓛 (raw (Answered v)) (answered v r) $ at_once ! $ done !))

    pub gives_goes : (b o : ℕ) → capped (size τ) ≡ s → capped (align τ) ≡ 1 → s < 2 ^ 64
        → ent 𝓤 (sep 𝓤 (H.room τ b o) (sep 𝓤 (sem 𝓛 (freeing τ (block_ptr b o))) (sep 𝓤 (sem 𝓛 (hidden_shr HP.the_row κ a p.0 p.1)) (A.lft κ q))))
        (Gives.pre (at_gives b o))
    gives_goes b o es ea fits =
        qed 𝓛 (‵ (froom τ b o) ∷ ‵ (freeing τ (block_ptr b o)) ∷ ‵ (hidden_shr HP.the_row κ a p.0 p.1) ∷ ‵ (flft κ q) ∷ []) ∵ fjoin ! $
        use0 𝓛 (raw (fact 𝓤 ((capped (size τ) ≡ s) × (capped (align τ) ≡ 1))))
        (fact_i 𝓤 ((capped (size τ) ≡ s) × (capped (align τ) ≡ 1)) (emp 𝓤) (es, ea)) $ join ! $
        nothing ! $ flt_i ! 1 (2 ^ 64) (lit< tt) $ feq_i ! (List Val) (vint w64 1 ∷ []) (vint w64 1 ∷ []) refl $ fjoin ! $ fjoin ! $
        flt_i ! s (2 ^ 64) fits $ feq_i ! (List Val) (vint w64 s ∷ []) (vint w64 s ∷ []) refl $ fjoin ! $ fjoin ! $
        feq_i ! (List Val) (vptr b o ∷ []) (vptr b o ∷ []) refl $ fjoin ! $ move ! (2 ∷ []) $ feq_i ! (List Val) (vptr p.0 p.1 ∷ [])
        (vptr p.0 p.1 ∷ []) refl $ fjoin ! $ move ! (0 ∷ 1 ∷ []) $ fjoin ! $
        nothing ! $ move ! (3 ∷ 0 ∷ []) $ join ! $ join ! $ done !

    pub gives_gives : (b o : ℕ) (v : Val) → ent 𝓤 (Gives.post (at_gives b o) v) (H.⇛ (guard 𝓤 (v ≡ vunit) (A.lft κ q)))
    gives_gives b o v =
        qed 𝓛 (raw (Gives.post (at_gives b o) v) ∷ []) ∵ updating ! $
        use1 𝓛 (later (some (λ (r : Unit {0}). ((‵ (flft κ q) ⊛ ‵ ftrue) ⊛ ‵ (unit.own_val r (v ∷ [])))
        ⊛ some (λ (ws : Unit {0} × (Unit {0} × (Unit {0} × (Unit {0} × Unit {0})))). ‵ (fsep ftrue (fsep ftrue (fsep ftrue (fsep ftrue ftrue)))) ⊛ ‵ ftrue))))
        (id⊢ 𝓤 _) $ await ! tt $ pick ! (λ r.
        split ! $ split ! $ move ! (1 ∷ []) $ feq_l ! (λ e. split ! $ at_once ! $ check ! (ap only e) $ keep ! (0 ∷ []) $ done !))

module _ {M : Type 1} {𝓤 : Ura M} {𝓛 : Logic 𝓤} {K : Type 0} {Γ : List (Item 𝓤)} {G : Goal 𝓤 𝓛.H} where
  answers_at : (τ : Ty) (v : Val) (y : Bool) (b o : ℕ) → K → v ≡ answer_val y b o
      → ((b o : ℕ) → v ≡ answer_val true b o → Seq K 𝓛 (‵ (froom τ b o) ∷ ‵ (freeing τ (block_ptr b o)) ∷ Γ) G) → (v ≡ answer_val false 0 0 → Seq K 𝓛 Γ G) →
      Seq K 𝓛 (‵ (handed τ y b o) ∷ Γ) G
  answers_at τ v true b o t e ok none = fsplit t $ ok b o e
  answers_at τ v false b o t e ok none = drop t $ none e

  pub answers : K → (at_mem : Memory → SProp 𝓤) (run : Routine → Fun 𝓤) (κ : Lft) (q : Share) (p : ℕ × ℕ) (a : HP.the_row.Denot) (s : ℕ) (τ : Ty) (v : Val)
      → ((b o : ℕ) → v ≡ answer_val true b o → Seq K 𝓛 (‵ (froom τ b o) ∷ ‵ (freeing τ (block_ptr b o)) ∷ Γ) G) → (v ≡ answer_val false 0 0 → Seq K 𝓛 Γ G) →
      Seq K 𝓛 (raw (Answered 𝓛 at_mem run κ q p a s τ v) ∷ Γ) G
  answers t at_mem run κ q p a s τ v ok none =
      use1 𝓛 (some (λ (c : Bool × (ℕ × ℕ)). given (v ≡ answer_val c.0 c.1.0 c.1.1) (‵ (handed τ c.0 c.1.0 c.1.1))))
      (id⊢ 𝓤 (Answered 𝓛 at_mem run κ q p a s τ v)) $
      pick t (λ c. learn t (λ e. answers_at τ v c.0 c.1.0 c.1.1 t e ok none))
