use Rattle.std.proofs.Common.{sym, ◌∙◌, ap, get_or, length, ◌||◌, refl}
use Rattle.std.proofs.Math.Bool.{or-false, or-true}
use Rattle.std.proofs.lemmas.Bool.{eqb-false, eq-eqb, ne_eqb}
use Rattle.cfdp_paths.specs.Paths.{slash}
use Rattle.cfdp_paths.proofs.Scanning.{scan_start, scan_octet, scan_slash, scan_fault, scan_end, scan_all}
use Rattle.cfdp_paths.proofs.parsing.count_names.Goals as goal
use Rattle.cfdp_paths.proofs.parsing.count_names.Goals.{then-octet-eq47+in_default, else-octet-eq47+then-octet-eq0, else-octet-eq47+else-octet-eq0}

pub loop-index-init : goal.loop-index-init
loop-index-init c =
    scan_start c.args.octets.now c.strip_slash-names.result.now c.strip_slash-names.ensures
    (eqb-false (length c.strip_slash-names.result.now) 0 (sym c.is_empty.ensures ∙ c.if-is_empty.false))

pub returns-in-Some : goal.returns-in-Some
returns-in-Some c =
    let names = c.strip_slash-names.result.now in
    let l = c.loop-index in
    let x = get_or names l.index 0 in
    scan_fault c.args.octets.now names l.count l.start l.index l.holds_zero l.invariant x c.in-Some.fault c.loop-index-test.true refl
    (eq-eqb x slash c.if-octet-eq47.true) c.in-Some.ensures

pub loop-index-preserved : goal.loop-index-preserved
loop-index-preserved c =
    let octets = c.args.octets.now in
    let names = c.strip_slash-names.result.now in
    let l = c.loop-index in
    let x = get_or names l.index 0 in
    elim c.if-octet-eq47.branch [
      | then-octet-eq47+in_default w ↦
          rw (w.count-is, w.start-is, w.holds_zero-is)
          (scan_slash octets names l.count l.start l.index l.holds_zero l.invariant x c.loop-index-test.true refl (eq-eqb x slash w.if-octet-eq47.true)
          (sym (sym w.fault_at.ensures ∙ w.in_default.is)))
      | else-octet-eq47+then-octet-eq0 w ↦
          rw (w.count-is, w.start-is, w.holds_zero-is)
          (scan_octet octets names l.count l.start l.index l.holds_zero l.invariant x _ c.loop-index-test.true refl (ne_eqb x slash w.if-octet-eq47.false)
          (sym (ap (λ b. l.holds_zero || b) (eq-eqb x 0 w.if-octet-eq0.true) ∙ or-true l.holds_zero)))
      | else-octet-eq47+else-octet-eq0 w ↦
          rw (w.count-is, w.start-is, w.holds_zero-is)
          (scan_octet octets names l.count l.start l.index l.holds_zero l.invariant x _ c.loop-index-test.true refl (ne_eqb x slash w.if-octet-eq47.false)
          (sym (ap (λ b. l.holds_zero || b) (ne_eqb x 0 w.if-octet-eq0.false) ∙ or-false l.holds_zero)))
    ]

pub returns-in-Some-fault_at : goal.returns-in-Some-fault_at
returns-in-Some-fault_at c =
    let names = c.strip_slash-names.result.now in
    let l = c.loop-index in
    scan_end c.args.octets.now names l.count l.start l.index l.holds_zero l.invariant c.in-Some-fault_at.fault c.loop-index-test.false
    c.in-Some-fault_at.ensures

pub returns : goal.returns
returns c =
    let names = c.strip_slash-names.result.now in
    let l = c.loop-index in
    scan_all c.args.octets.now names l.count l.start l.index l.holds_zero l.invariant c.loop-index-test.false
    (sym (sym c.fault_at-2.ensures ∙ c.in_default-fault_at.is))
