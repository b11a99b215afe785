-- The ways back in runs, while the arena changes.
--     ways_kept, ways_still     the run stays, and so do the ways of live blocks, or all ways
--     ways_none, same_ways      a run of no blocks, and one of the same blocks
--     on_way, found_at          a position in a run whose ways lead back, and one that was found by them
--     ways_grown                one more block after the last one, and its way
--     keeps_spared, keeps_still, keeps_then    other runs have their ways still
use Rattle.std.proofs.Common.{◌≡◌, ◌≢◌, ℕ, ◌+◌, ◌-◌, ◌<◌, ◌≤◌, List, length, None, refl, sym, ap, ◌∙◌, subst, arith}
use Rattle.cfdp_arena.specs.Arena.{Blocks, octets_at, IsLive}
use Rattle.cfdp_ways.specs.declared.way.Way.{Way}
use Rattle.cfdp_ways.specs.declared.cursor.Cursor.{Cursor}
use Rattle.cfdp_ways.specs.Ways.{way_of, LeadsBack, IsLed, IsOn}
use Rattle.cfdp_ways.proofs.WayLaws.{led_shorter}
use Rattle.cfdp_tree.specs.declared.runs.Run.{Run}
use Rattle.cfdp_tree.specs.declared.contents.Contents.{Contents}
use Rattle.cfdp_tree.specs.code.Runs.{nth, IsHeld, IsAt, Spares}
use Rattle.cfdp_tree.specs.code.Files.{SameOctets}
use Rattle.cfdp_tree.specs.code.Ways.{HasWays, WaysStay, KeepsWays}
use Rattle.cfdp_tree.proofs.OfRuns.HeldLaws.{held_part}
use Rattle.cfdp_arena.proofs.Chains.{no_live}

-- the same blocks, with the same ways
module _ (was now : List Way) (f g : ℕ → ℕ) (n : ℕ) (many : length now ≡ length was) (same : (k : ℕ) → k < n → g k ≡ f k) (stay : (k : ℕ) → k < n →
    way_of now (f k) ≡ way_of was (f k)) where
  way_same : (k : ℕ) → k < n → way_of now (g k) ≡ way_of was (f k)
  way_same k less = ap (way_of now) (same k less) ∙ stay k less

  leads_same : (k : ℕ) → k < n → LeadsBack was f k → LeadsBack now g k
  leads_same k less back =
      let e = way_same k less in
      let j = k - (way_of was (f k)).over in
      record {
        before = (λ some. ap (λ (w : Way). w.before) e ∙ back.before some ∙ sym (same (k - 1) (omega (arith, less))));
        jump = ap (λ (w : Way). w.jump) e ∙ back.jump ∙ sym (same j (omega (arith, less))) ∙ ap (λ (w : Way). g (k - w.over)) (sym e);
        some = (λ later. subst (λ (w : Way). 0 < w.over) (sym e) (back.some later));
        over = subst (λ (w : Way). w.over ≤ k) (sym e) back.over;
      }

  led_same : IsLed was f n → IsLed now g n
  led_same led = record {
    within = (λ k less. subst (λ b. b < length now) (sym (same k less)) (omega (arith, led.within k less, many)));
    each = (λ k less. leads_same k less (led.each k less));
  }

pub ways_kept : (old new : Blocks) (was now : List Way) (run : Run) → length new ≡ length old → length now ≡ length was → IsHeld old run
    → ((k : ℕ) → k < run.count → nth new run.first k ≡ nth old run.first k) → WaysStay old was now → HasWays old was run → HasWays new now run
ways_kept old new was now run long many held sequence stay has = record {
  long = many ∙ has.long ∙ sym long;
  led = led_same was now (nth old run.first) (nth new run.first) run.count many sequence
      (λ k less. stay (nth old run.first k) (held_part old run held k less (nth old run.first k) refl).live) has.led;
}

pub ways_still : (old new : Blocks) (ways : List Way) (run : Run) → length new ≡ length old →
    ((k : ℕ) → k < run.count → nth new run.first k ≡ nth old run.first k)
    → HasWays old ways run → HasWays new ways run
ways_still old new ways run long sequence has = record {
  long = has.long ∙ sym long;
  led = led_same ways ways (nth old run.first) (nth new run.first) run.count refl sequence (λ k less. refl) has.led;
}

pub ways_none : (arena : Blocks) (ways : List Way) (run : Run) → length ways ≡ length arena → run.count ≡ 0 → HasWays arena ways run
ways_none arena ways run long none = record {
  long = long;
  led = record { within = (λ k less. absurd (omega (arith, less, none))); each = (λ k less. absurd (omega (arith, less, none))) };
}

pub same_ways : (arena : Blocks) (ways : List Way) (a b : Contents) → SameOctets a b → HasWays arena ways b.run → HasWays arena ways a.run
same_ways arena ways a b same has = record {
  long = has.long;
  led = led_same ways ways (nth arena b.run.first) (nth arena a.run.first) a.run.count refl
      (λ k less. ap (λ first. nth arena first k) (same.first (omega (arith, less, same.count)))) (λ k less. refl)
      (led_shorter ways (nth arena b.run.first) b.run.count a.run.count (omega (arith, same.count)) has.led);
}

pub on_way : (arena : Blocks) (ways : List Way) (run : Run) (cursor : Cursor) → HasWays arena ways run → IsAt arena run cursor → cursor.index < run.count →
    IsOn ways cursor
on_way arena ways run cursor has at within = record {
  blocks = nth arena run.first;
  led = led_shorter ways (nth arena run.first) run.count (cursor.index + 1) (omega (arith, within)) has.led;
  there = at.1;
}

pub found_at : (arena : Blocks) (ways : List Way) (run : Run) (from found : Cursor) (index : ℕ) → HasWays arena ways run → IsAt arena run from →
    from.index < run.count → found.index ≡ index
    → ((blocks : ℕ → ℕ) → IsLed ways blocks (from.index + 1) → from.block ≡ blocks from.index → found.block ≡ blocks index) → index ≤ from.index →
    IsAt arena run found
found_at arena ways run from found index has at within same block before = (
  omega (arith, same, within, before),
  block (nth arena run.first) (led_shorter ways (nth arena run.first) run.count (from.index + 1) (omega (arith, within)) has.led) at.1
      ∙ ap (nth arena run.first) (sym same),
)

pub ways_grown : (old later : Blocks) (was now : List Way) (run after : Run) (last : Cursor) → IsHeld old run → 0 < run.count → last.block ≡ run.last →
    last.index ≡ run.count - 1 → HasWays old was run
    → length later ≡ length old → length now ≡ length was → IsHeld later after → after.count ≡ run.count + 1 →
    ((k : ℕ) → k < run.count → nth later after.first k ≡ nth old run.first k)
    → octets_at old after.last ≡ None
    → ((blocks : ℕ → ℕ) → IsLed was blocks (last.index + 1) → last.block ≡ blocks last.index → after.last ≡ blocks (last.index + 1) →
    ((k : ℕ) → k ≤ last.index → blocks k ≢ after.last)
    → IsLed now blocks (last.index + 2)) → HasWays later now after
ways_grown old later was now run after last held some block index has long many longer count sequence free led =
    let f = nth old run.first in let g = nth later after.first in
    let was_led : IsLed was g (last.index + 1) =
    led_same was was f g (last.index + 1) refl (λ k less. sequence k (omega (arith, less, index, some))) (λ k less. refl)
    (led_shorter was f run.count (last.index + 1) (omega (arith, index, some)) has.led) in
    let there : last.block ≡ g last.index = block ∙ held.last some ∙ ap f (sym index) ∙ sym (sequence last.index (omega (arith, index, some))) in
    let to_last : after.count - 1 ≡ last.index + 1 = omega (arith, count, index, some) in
    let next : after.last ≡ g (last.index + 1) = longer.last (omega (arith, count)) ∙ ap g to_last in
    let fresh : (k : ℕ) → k ≤ last.index → g k ≢ after.last = (λ k within e. (
    let less : k < run.count = omega (arith, within, index, some) in
    let live = (held_part old run held k less (f k) refl).live in
    no_live (octets_at old after.last) free (subst (IsLive old) (sym (sequence k less) ∙ e) live))) in
    let all : last.index + 2 ≡ after.count = omega (arith, count, index, some) in
    record { long = many ∙ has.long ∙ sym long; led = subst (λ n. IsLed now g n) all (led g was_led there next fresh) }

pub keeps_spared : (old new : Blocks) (was now : List Way) (before after : Run) → length new ≡ length old → length now ≡ length was →
    Spares old new before after → WaysStay old was now
    → KeepsWays old new was now before
keeps_spared old new was now before after long many spares stay other held apart has =
    let s = spares other held apart in
    ways_kept old new was now other long many held (λ k less. s.0.sequence k (omega (arith, less))) stay has

pub keeps_still : (old new : Blocks) (ways : List Way) (before after : Run) → length new ≡ length old → Spares old new before after →
    KeepsWays old new ways ways before
keeps_still old new ways before after long spares = keeps_spared old new ways ways before after long refl spares (λ block live. refl)

pub keeps_then : (first second third : Blocks) (a b c : List Way) (run after : Run) → KeepsWays first second a b run → Spares first second run after →
    KeepsWays second third b c after
    → KeepsWays first third a c run
keeps_then first second third a b c run after one spares two other held apart has =
    let s = spares other held apart in two other s.0.held s.1 (one other held apart has)
