use Rattle.std.proofs.Common.{◌≡◌, ◌≤◌, ◌+◌, ◌*◌, ℕ, length, length-take, length-drop, length-set, take, drop, refl, sym, ap, ◌∙◌, subst, arith, Some}
use Rattle.std.proofs.lemmas.List.{drop-drop}
use Rattle.cfdp_arena.specs.Arena.{octets_at, octets_of, free_count}
use Rattle.cfdp_arena.specs.Blocks.{with_part, payload_part}
use Rattle.cfdp_arena.proofs.Laws.{free_count-written}
use Rattle.cfdp_actions.specs.Store.{overwritten}
use Rattle.cfdp_tree.specs.code.Block.{payload}
use Rattle.cfdp_tree.specs.code.Nodes.{nodes_in}
use Rattle.cfdp_tree.specs.code.Runs.{octets, octets_of_run, nth, IsHeld, OtherRunsStay}
use Rattle.cfdp_tree.proofs.OfRuns.BlockLaws.{header-part, payload-part, whole-part}
use Rattle.cfdp_tree.proofs.OfRuns.OctetsInLists.{slice_is}
use Rattle.cfdp_tree.proofs.OfRuns.RunLaws.{run_slice}
use Rattle.cfdp_tree.proofs.OfRuns.HeldLaws.{held_part, put_held, put_nth, put_others, put_octets, put_nodes}
use Rattle.cfdp_tree.proofs.runs.Run.copy_in.Goals as goal

pub copy_payload-requires : goal.copy_payload-requires
copy_payload-requires c =
    let r = c.requires in let a = c.args.arena.now in let run = c.args.self.now in let source = c.args.source.now in
    let t = c.args.to.now.cursor in let f = c.args.from.now.cursor in
    let to = held_part a run r.held t.index r.to_within t.block r.to.1 in
    let from = held_part a source r.source f.index r.from_within f.block r.from.1 in
    record {
      from_live = from.live;
      to_live = to.live;
      from_within = r.from_fits;
      to_within = r.to_fits;
    }

pub returns : goal.returns
returns c =
    let r = c.requires in let a = c.args.arena.now in let run = c.args.self.now in let source = c.args.source.now in
    let t = c.args.to.now.cursor in let f = c.args.from.now.cursor in let at = c.args.to.now.at in let from_at = c.args.from.now.at in let n = c.args.len in
    let to = held_part a run r.held t.index r.to_within t.block r.to.1 in
    let from = held_part a source r.source f.index r.from_within f.block r.from.1 in
    let old = octets_of a t.block in
    let part = payload_part (octets_of a f.block) from_at n in
    let long : length part ≡ n = omega (arith, length-take {A = ℕ}, length-drop {A = ℕ}, from.whole) in
    let fits : at + length part ≤ 120 = omega (arith, r.to_fits) in
    let new = with_part old at part in
    let whole = whole-part old at part to.whole fits in
    let same = header-part old at part to.whole in
    let start = 120 * f.index + from_at in
    let part_is : part ≡ take n (drop start (octets_of_run a source)) =
    ap (λ xs. take n xs) (sym (drop-drop from_at 8 (octets_of a f.block)))
    ∙ ap (λ b. take n (drop from_at (payload (octets (octets_at a b))))) r.from.1
    ∙ sym (run_slice a source.first 0 source.count source.first f.index from_at n start r.source.parts r.from_within r.from_fits refl) in
    let target = c.copy_payload.ensures.target in
    record {
      only = record {
        held = subst (λ x. IsHeld x run) (sym target) (put_held a run r.held t.index r.to_within t.block r.to.1 new whole same);
        sequence = (λ k le. ap (λ x. nth x run.first k) target ∙ put_nth a run r.held t.index r.to_within t.block r.to.1 new whole same k le);
        free = ap free_count target ∙ free_count-written a t.block new to.live;
        size = ap length target ∙ length-set a t.block (Some new);
        others = subst (λ x. OtherRunsStay a x run) (sym target) (put_others a run r.held t.index r.to_within t.block r.to.1 new whole same);
        nodes = ap nodes_in target ∙ put_nodes a run r.held t.index r.to_within t.block r.to.1 new whole same;
      };
      octets = ap (λ x. octets_of_run x run) target
          ∙ put_octets a run r.held t.index r.to_within t.block r.to.1 new whole same at part fits (payload-part old at part to.whole)
          ∙ ap (λ xs. overwritten (octets_of_run a run) (120 * t.index + at) xs) (part_is ∙ sym (slice_is (octets_of_run a source) start (start + n) n refl));
    }
