use Rattle.std.proofs.Common.{◌≡◌, ℕ, ◌<◌, [], ◌∷◌, ◌++◌, Err, List, length, take, refl, arith, inl, inr, rules, false}
use Rattle.std.proofs.lemmas.Bool.{cases_lt}
use Rattle.std.proofs.lemmas.List.{nil_from_length, take_all}
use Rattle.std.proofs.lemmas.List.Elements.{All-append}
use Rattle.std.proofs.lemmas.Result.{err_from_is_err_and}
use Rattle.cfdp_lines.specs.Cutting.{ended_line}
use Rattle.cfdp_lines.specs.Lines.{is_newline, line_limit}
use Rattle.cfdp_lines.specs.declared.faults.LineFault.TheVariants.{Bad, Memory}
use Rattle.cfdp_lines.proofs.Feeding.{one_line-before, one_line-whole}
use Rattle.cfdp_lines.proofs.cutting.OpenLine.take.Goals as goal

-- what was gathered is the line
gathered : (line octets : List ℕ) (end : ℕ) → 0 < length line
    → ended_line (line ++ take end octets) octets end ≡ line ++ take end octets
gathered [] octets end some = absurd (omega (arith, some))
gathered (octet ∷ line) octets end some = refl

pub returns-in_err-gather-clause-bad : goal.returns-in_err-gather-clause-bad
returns-in_err-gather-clause-bad c = λ e.
    let p = err_from_is_err_and c.from_residual.result c.from_residual.ensures.1 in
    let same : c.gather.result ≡ Err Bad = cc (p.1, p.2, c.in_err-gather.was) in
    let all : take (length c.args.octets.now) c.args.octets.now ≡ c.args.octets.now = take_all (length c.args.octets.now) c.args.octets.now (omega arith) in
    record {
      count = length c.args.octets.now;
      goes_on = c.gather.ensures.begun;
      one_line = rw all (one_line-whole c.args.octets.now c.in_default.ensures);
      long = rw all (c.gather.ensures.bad.0 same);
    }

pub returns-in_err-gather-clause-refused : goal.returns-in_err-gather-clause-refused
returns-in_err-gather-clause-refused c = λ e none.
    let p = err_from_is_err_and c.from_residual.result c.from_residual.ensures.1 in
    let same : c.gather.result ≡ Err Memory = cc (p.1, p.2, c.in_err-gather.was) in
    record {
      one_line = one_line-whole c.args.octets.now c.in_default.ensures;
      within = elim (cases_lt line_limit (length c.args.octets.now)) [
        | inl long ↦ let bad = c.gather.ensures.bad.1 (rw none (omega (arith, long))) in absurd cc
        | inr few ↦ few
      ];
    }

pub gather-requires-then-not-is_empty : goal.gather-requires-then-not-is_empty
gather-requires-then-not-is_empty c =
    one_line-before c.args.octets.now c.in-Some.end (omega (arith, c.in-Some.ensures.0.high)) c.in-Some.ensures.0.before

pub returns-in_err-gather-2-clause-bad : goal.returns-in_err-gather-2-clause-bad
returns-in_err-gather-2-clause-bad c = λ e.
    let p = err_from_is_err_and c.from_residual-in_err-gather-2.result c.from_residual-in_err-gather-2.ensures.1 in
    let same : c.gather-then-not-is_empty.result ≡ Err Bad = cc (p.1, p.2, c.in_err-gather-2.was) in
    record {
      count = c.in-Some.end;
      goes_on = c.gather-then-not-is_empty.ensures.begun;
      one_line = one_line-before c.args.octets.now c.in-Some.end (omega (arith, c.in-Some.ensures.0.high)) c.in-Some.ensures.0.before;
      long = c.gather-then-not-is_empty.ensures.bad.0 same;
    }

pub returns-in_ok-gather-2-clause-ends : goal.returns-in_ok-gather-2-clause-ends
returns-in_ok-gather-2-clause-ends c =
    let some : 0 < length c.args.self.now = search rules in
    let front = one_line-before c.args.octets.now c.in-Some.end (omega (arith, c.in-Some.ensures.0.high)) c.in-Some.ensures.0.before in
    let all : c.gather-then-not-is_empty.new.self ≡ c.args.self.now ++ take c.in-Some.end c.args.octets.now = c.in_ok-gather-2.ensures.ok in
    rw (all, gathered c.args.self.now c.args.octets.now c.in-Some.end some)
    record {
      within = c.in-Some.ensures.0.high;
      newline = c.in-Some.ensures.1;
      one_line = All-append (λ (x : ℕ). is_newline x ≡ false) c.args.self.now (take c.in-Some.end c.args.octets.now)
          c.gather-then-not-is_empty.ensures.begun.one_line front;
      whole = refl;
    }

pub returns-else-not-is_empty-clause-ends : goal.returns-else-not-is_empty-clause-ends
returns-else-not-is_empty-clause-ends c =
    let few : length c.args.self.now ≡ 0 = search rules in
    rw (nil_from_length c.args.self.now few)
    record {
      within = c.in-Some.ensures.0.high;
      newline = c.in-Some.ensures.1;
      one_line = one_line-before c.args.octets.now c.in-Some.end (omega (arith, c.in-Some.ensures.0.high)) c.in-Some.ensures.0.before;
      whole = refl;
    }
