use Rattle.std.proofs.Common.{◌≡◌, ◌⊎◌, [], ◌++◌, refl, ◌∙◌, ap, length, rules, arith, Some, None}
use Rattle.std.proofs.lemmas.Bool.{eqb-true, eqb-false}
use Rattle.cfdp_cutter.specs.Cutting.{first_pdu, pdu_len, Open}
use Rattle.cfdp_cutter.proofs.Filling.{Fixed, none_whole, fixed_short, fixed_open, whole_by, open_by}
use Rattle.cfdp_cutter.proofs.cutter.fill.Goals as goal

pub returns-in_default-clause-open : goal.returns-in_default-clause-open
returns-in_default-clause-open c =
    let f : Fixed c.args.begun.now.items c.take_up_to.new.begun.items c.take_up_to.new.octets.now (c.args.begun.now.items ++ c.args.octets.now.now) = record {
      was_open = c.requires.begun;
      going = c.requires.going;
      stream = c.take_up_to.ensures.unlost;
      old = (c.args.octets.now.now, refl);
      within = search rules;
      all = search rules;
    } in
    let none : pdu_len c.take_up_to.new.begun.items ≡ None = search rules in
    λ _. (none_whole c.args.begun.now.items c.take_up_to.new.begun.items c.take_up_to.new.octets.now (c.args.begun.now.items ++ c.args.octets.now.now) f none).0

pub returns-in_default-clause-taken : goal.returns-in_default-clause-taken
returns-in_default-clause-taken c =
    let f : Fixed c.args.begun.now.items c.take_up_to.new.begun.items c.take_up_to.new.octets.now (c.args.begun.now.items ++ c.args.octets.now.now) = record {
      was_open = c.requires.begun;
      going = c.requires.going;
      stream = c.take_up_to.ensures.unlost;
      old = (c.args.octets.now.now, refl);
      within = search rules;
      all = search rules;
    } in
    let none : pdu_len c.take_up_to.new.begun.items ≡ None = search rules in
    λ _. (none_whole c.args.begun.now.items c.take_up_to.new.begun.items c.take_up_to.new.octets.now (c.args.begun.now.items ++ c.args.octets.now.now) f none).1

pub take_up_to-requires-2 : goal.take_up_to-requires-2
take_up_to-requires-2 c =
    let f : Fixed c.args.begun.now.items c.take_up_to.new.begun.items c.take_up_to.new.octets.now (c.args.begun.now.items ++ c.args.octets.now.now) = record {
      was_open = c.requires.begun;
      going = c.requires.going;
      stream = c.take_up_to.ensures.unlost;
      old = (c.args.octets.now.now, refl);
      within = search rules;
      all = search rules;
    } in
    let len : pdu_len c.take_up_to.new.begun.items ≡ Some c.in-Some.len = search rules in
    let short = fixed_short c.args.begun.now.items c.take_up_to.new.begun.items c.take_up_to.new.octets.now (c.args.begun.now.items
    ++ c.args.octets.now.now) c.in-Some.len f len in omega (arith, short)

pub returns-in_err-take_up_to-2-clause-err : goal.returns-in_err-take_up_to-2-clause-err
returns-in_err-take_up_to-2-clause-err c =
    let f : Fixed c.args.begun.now.items c.take_up_to.new.begun.items c.take_up_to.new.octets.now (c.args.begun.now.items ++ c.args.octets.now.now) = record {
      was_open = c.requires.begun;
      going = c.requires.going;
      stream = c.take_up_to.ensures.unlost;
      old = (c.args.octets.now.now, refl);
      within = search rules;
      all = search rules;
    } in
    let len : pdu_len c.take_up_to.new.begun.items ≡ Some c.in-Some.len = search rules in
    let kept : first_pdu c.take_up_to.new.begun.items ≡ Open = fixed_open c.args.begun.now.items c.take_up_to.new.begun.items c.take_up_to.new.octets.now
    (c.args.begun.now.items ++ c.args.octets.now.now) c.in-Some.len f len in
    let same : c.take_up_to-2.new.begun.items ≡ c.take_up_to.new.begun.items = search rules in
    let there : first_pdu c.take_up_to-2.new.begun.items ≡ Open = ap first_pdu same ∙ kept in
    search (rules, there)

pub returns-clause-whole : goal.returns-clause-whole
returns-clause-whole c =
    let f : Fixed c.args.begun.now.items c.take_up_to.new.begun.items c.take_up_to.new.octets.now (c.args.begun.now.items ++ c.args.octets.now.now) = record {
      was_open = c.requires.begun;
      going = c.requires.going;
      stream = c.take_up_to.ensures.unlost;
      old = (c.args.octets.now.now, refl);
      within = search rules;
      all = search rules;
    } in
    let len : pdu_len c.take_up_to.new.begun.items ≡ Some c.in-Some.len = search rules in
    λ e.
    let equal : length c.take_up_to-2.new.begun.items ≡ c.in-Some.len = search (rules, eqb-true) in
    whole_by c.args.begun.now.items c.take_up_to.new.begun.items c.take_up_to.new.octets.now (c.args.begun.now.items
    ++ c.args.octets.now.now) c.take_up_to-2.new.begun.items c.take_up_to-2.new.octets.now c.in-Some.len f len (c.take_up_to-2.ensures.unlost
    ∙ c.take_up_to.ensures.unlost) equal

pub returns-clause-open : goal.returns-clause-open
returns-clause-open c =
    let f : Fixed c.args.begun.now.items c.take_up_to.new.begun.items c.take_up_to.new.octets.now (c.args.begun.now.items ++ c.args.octets.now.now) = record {
      was_open = c.requires.begun;
      going = c.requires.going;
      stream = c.take_up_to.ensures.unlost;
      old = (c.args.octets.now.now, refl);
      within = search rules;
      all = search rules;
    } in
    let len : pdu_len c.take_up_to.new.begun.items ≡ Some c.in-Some.len = search rules in
    λ e.
    let other : length c.take_up_to-2.new.begun.items ≡ c.in-Some.len → ⊥ = search (rules, eqb-false) in
    let all : (length c.take_up_to-2.new.begun.items ≡ c.in-Some.len) ⊎ (c.take_up_to-2.new.octets.now ≡ []) = search rules in
    (open_by c.args.begun.now.items c.take_up_to.new.begun.items c.take_up_to.new.octets.now (c.args.begun.now.items
    ++ c.args.octets.now.now) c.take_up_to-2.new.begun.items c.take_up_to-2.new.octets.now c.in-Some.len f len (c.take_up_to-2.ensures.unlost
    ∙ c.take_up_to.ensures.unlost) c.take_up_to-2.ensures.within all other).is
