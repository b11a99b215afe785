use Rattle.std.proofs.Common.{◌∙◌, sym, get_or, arith}
use Rattle.std.proofs.lemmas.Bool.{eq-eqb, ne_eqb}
use Rattle.cfdp_paths.proofs.Separators.{begins_short, begins_ending, begins_going_on, ends_nothing, ends_something}
use Rattle.cfdp_paths.proofs.buffers.begins.Goals as goal

pub returns-then-octets-end : goal.returns-then-octets-end
returns-then-octets-end c = begins_short c.args.octets.now c.args.front.now (omega arith)

pub returns-in-empty : goal.returns-in-empty
returns-in-empty c =
    begins_ending c.args.octets.now c.args.front.now c.split_at.result.0.now c.split_at.result.1.now c.is_same.result
    c.is_same.ensures c.split_at.ensures.front c.split_at.ensures.back (sym (ends_nothing c.split_at.result.1.now c.in-empty.len_below))

pub returns-then-octet-eq-SEPARATOR : goal.returns-then-octet-eq-SEPARATOR
returns-then-octet-eq-SEPARATOR c =
    let rest = c.split_at.result.1.now in
    begins_ending c.args.octets.now c.args.front.now c.split_at.result.0.now rest c.is_same-then-octet-eq-SEPARATOR.result
    c.is_same-then-octet-eq-SEPARATOR.ensures c.split_at.ensures.front c.split_at.ensures.back
    (sym (ends_something rest c.in-len1-up.len_at_least) ∙ eq-eqb (get_or rest 0 0) 0 c.if-octet-eq-SEPARATOR.true)

pub returns-else-octet-eq-SEPARATOR : goal.returns-else-octet-eq-SEPARATOR
returns-else-octet-eq-SEPARATOR c =
    let rest = c.split_at.result.1.now in
    let other = ne_eqb (get_or rest 0 0) 0 c.if-octet-eq-SEPARATOR.false in
    other ∙ begins_going_on c.args.octets.now c.args.front.now rest c.split_at.ensures.back (sym (ends_something rest c.in-len1-up.len_at_least) ∙ other)
