use Rattle.std.proofs.Common.{◌≡◌, ◌+◌, ◌-◌, ◌≤◌, ap, sym, ◌∙◌, arith, length, take, length-take}
use Rattle.std.proofs.lemmas.List.{take-take}
use Rattle.cfdp_paths.specs.Paths.{names_of}
use Rattle.cfdp_paths.proofs.Marks.{last_some, last_is}
use Rattle.cfdp_paths.proofs.Separators.{some_separator, cut_last}
use Rattle.cfdp_paths.proofs.buffers.without_last.Goals as goal

pub unwrap-end-requires : goal.unwrap-end-requires
unwrap-end-requires c =
    let octets = c.args.octets.now in
    let front = take c.loop-dropped.end octets in
    last_some front c.last_separator.result c.last_separator.ensures
    (some_separator octets front (length (names_of octets) - c.loop-dropped._dropped) c.loop-dropped.invariant.names (omega (arith, c.requires)) (omega arith))

pub loop-dropped-preserved : goal.loop-dropped-preserved
loop-dropped-preserved c =
    let octets = c.args.octets.now in
    let end = c.loop-dropped.end in
    let offset = c.unwrap-end.result in
    let kept = length (names_of octets) - c.loop-dropped._dropped in
    let last = last_is (take end octets) c.last_separator.result offset c.last_separator.ensures c.unwrap-end.ensures in
    let before : offset ≤ end = omega (arith, last.within, length-take end octets) in
    let less : kept - 1 ≡ length (names_of octets) - (c.loop-dropped._dropped + 1) = omega arith in
    record {
      within = omega (arith, before, c.loop-dropped.invariant.within);
      names = ap names_of (sym (take-take offset end octets before))
          ∙ cut_last octets (take end octets) offset kept c.loop-dropped.invariant.names (omega arith) last.within last.here last.count
          ∙ ap (λ n. take n (names_of octets)) less;
    }
