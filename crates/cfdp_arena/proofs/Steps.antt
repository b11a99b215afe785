-- What the walks of the raw functions cite, from one file.
pub use Rattle.std.proofs.Common.{◌≡◌, ℕ, suc, zero, ◌+◌, ◌-◌, ◌*◌, ◌^◌, ◌<◌, ◌≤◌, List, [], ◌∷◌, ◌++◌, length, get_or, set, refl, sym, ap, ◌∙◌, subst, arith, lit<, w8, w64, MutBor, length-set}
pub use seplogic.Ra.Ura.{Ura}
pub use base.Fraction.{full_share}
pub use base.Logic.{SProp, ent, sep, never, id⊢, emp}
pub use base.Fml.{Fml, Lft, Share, GName, ftrue, fsep, fat, flft, fobs, fbor, fhide, froom}
pub use mir.Syntax.{named, ty_int, ty_array}
pub use mir.Val.{Val, vunit, vint, vptr, vstruct, vcons, vnil, of_list}
pub use contract.Monad.{fact, fact_i}
pub use contract.Running.{tables}
pub use prog.Wp.{Env, WpFn}
pub use types.Logic.{Logic, sem}
pub use types.Kit.{⋆, ‵, raw, ◌⊛◌, some, later, given, prop, at_ret, ◌$◌, ◌∵◌, !, qed, done, by, move, keep, drop, use0, use1, use2, use3, split, split3, join, fsplit, fsplit3, fjoin, fjoin3, fpick, fpack, feq_i, feq_l, flt_i, flt_l, pick, await, learn, rewrite, regoal, suffices, frame, group}
pub use types.Part.{whole, sub, look_in}
pub use types.Run.{enter, of_opd, lit, unit_lit, bin, addr, load, look, store, init, stop, fld, hop, no_more, and_then, assigns, assigns_last, first, blocks, exec, returns}
pub use types.ByLocal.{alloc_all, pass_all, free_all, look_at, get, get_in, through, sets, sets_last, lands_as, is, env}
pub use denote.Builtin.{u8, usize, unit, RefOf, RefMutOf}
pub use denote.Exit.{yes, no}
pub use denote.Laws.{Is, shows}
pub use denote.Memory.{mem, cell_at, part_at, part_of, shared_of, hidden_shr, shares}
pub use denote.Opens.{hide, unhide}
pub use denote.Plain.{uint_vals, uint_Tells}
pub use denote.RattleType.{RattleType, owns}
pub use denote.RawPtr.{Ptr, block_ptr, null_ptr, ptr_val, in_a_block}
pub use denote.Ref.{Bor, MutRef, ShrRef, mut_vals, mut_Tells, shr_vals, shr_Tells}
pub use denote.Signature.{plain, types_at}
pub use denote.Steps.{nothing, owned, opens, closes, heard, peeks, looks, shuts}
pub use denote.Triple.Walked.{Stays, walk_of, says, stay_dropped, stay_ref, Goes-dropped, Goes-ref, Goes-spent_ref, ends_at}
pub use Rattle.std.proofs.raw_atomic.Walks.{proved, leaves}
pub use Rattle.std_alloc.proofs.VecSteps.Shapes.{after}
