use Rattle.std.proofs.Common.{◌≡◌, ◌≤◌, ℕ, List, length, Some, sym, ap, ◌∙◌, arith}
use Rattle.std.specs.Prelude.{slice_get}
use Rattle.cfdp_pdus.specs.declared.header.Header.{Header}
use Rattle.cfdp_directives.specs.Spelling.{nak_pdu}
use Rattle.cfdp_retransmission.specs.Naks.{SegmentRequest, naks}
use Rattle.cfdp_receiver.specs.code.StateMachine.{IsAsking}
use Rattle.cfdp_receiver.proofs.PdusByNumber.{FitsPdu, fits_pdu, nak_short, sequence_at, put_enough, put_is}
use Rattle.cfdp_receiver.proofs.answer.NakSequence.put.Goals as goal

here : (most low high number : ℕ) (slice rs requests : List SegmentRequest) (scope : SegmentRequest) → slice ≡ rs →
    slice_get (naks most low high slice) number ≡ Some (record { scope = scope; requests = requests }) →
    slice_get (naks most low high rs) number ≡ Some (record { scope = scope; requests = requests })
here most low high number slice rs requests scope e found = ap (λ (xs : List SegmentRequest). slice_get (naks most low high xs) number) (sym e) ∙ found

fits : (h : Header) (most low high number : ℕ) (slice rs requests : List SegmentRequest) (scope : SegmentRequest) → IsAsking h low high most rs → slice ≡ rs →
    slice_get (naks most low high slice) number ≡ Some (record { scope = scope; requests = requests }) →
    FitsPdu h.large (length rs) (record { scope = scope; requests = requests })
fits h most low high number slice rs requests scope asks e found =
    fits_pdu h most low high number rs requests scope asks.low asks.high asks.requests (here most low high number slice rs requests scope e found)

pub put_nak-requires-clause-count : goal.put_nak-requires-clause-count
put_nak-requires-clause-count c =
    let s = c.self.inside in
    let p = c.in-Some.part in
    let n = c.args.number in
    let found = c.in-Some.ensures in
    let fit = fits s.header s.most s.low s.high n c.deref.result.now s.requests.items p.requests.now p.scope c.self.invariant c.deref.ensures.0 found in
    let most : length c.deref.result.now ≤ 33 = c.deref.ensures.1 in
    let same = ap (λ (xs : List SegmentRequest). length xs) c.deref.ensures.0 in
    omega (arith, fit.few, most, same)

pub put_nak-requires-clause-scope : goal.put_nak-requires-clause-scope
put_nak-requires-clause-scope c =
    let s = c.self.inside in
    let p = c.in-Some.part in
    let n = c.args.number in
    let found = c.in-Some.ensures in
    (fits s.header s.most s.low s.high n c.deref.result.now s.requests.items p.requests.now p.scope c.self.invariant c.deref.ensures.0 found).scope

pub put_nak-requires-clause-sized : goal.put_nak-requires-clause-sized
put_nak-requires-clause-sized c =
    let s = c.self.inside in
    let p = c.in-Some.part in
    let n = c.args.number in
    let found = c.in-Some.ensures in
    (fits s.header s.most s.low s.high n c.deref.result.now s.requests.items p.requests.now p.scope c.self.invariant c.deref.ensures.0 found).sized

pub returns-clause-ok : goal.returns-clause-ok
returns-clause-ok c =
    let s = c.self.inside in
    let p = c.in-Some.part in
    let n = c.args.number in
    let h = here s.most s.low s.high n c.deref.result.now s.requests.items p.requests.now p.scope c.deref.ensures.0 c.in-Some.ensures in
    let is = sequence_at s.header s.most s.low s.high n s.requests.items c.args.self.now _ (sym c.self.view_is) h in
    let put = c.put_nak.ensures in
    let done = c.written.ensures in
    (put_is (nak_pdu s.header p.scope p.requests.now) c.args.out.now c.put_nak.new.out c.put_nak.result c.written.result _
    is put.fits put.len put.written put.unchanged done.ok done.err).ok

pub returns-clause-err : goal.returns-clause-err
returns-clause-err c =
    let s = c.self.inside in
    let p = c.in-Some.part in
    let n = c.args.number in
    let h = here s.most s.low s.high n c.deref.result.now s.requests.items p.requests.now p.scope c.deref.ensures.0 c.in-Some.ensures in
    let is = sequence_at s.header s.most s.low s.high n s.requests.items c.args.self.now _ (sym c.self.view_is) h in
    let put = c.put_nak.ensures in
    let done = c.written.ensures in
    (put_is (nak_pdu s.header p.scope p.requests.now) c.args.out.now c.put_nak.new.out c.put_nak.result c.written.result _
    is put.fits put.len put.written put.unchanged done.ok done.err).err

pub returns-clause-rest : goal.returns-clause-rest
returns-clause-rest c =
    let s = c.self.inside in
    let p = c.in-Some.part in
    let n = c.args.number in
    let h = here s.most s.low s.high n c.deref.result.now s.requests.items p.requests.now p.scope c.deref.ensures.0 c.in-Some.ensures in
    let is = sequence_at s.header s.most s.low s.high n s.requests.items c.args.self.now _ (sym c.self.view_is) h in
    let put = c.put_nak.ensures in
    let done = c.written.ensures in
    (put_is (nak_pdu s.header p.scope p.requests.now) c.args.out.now c.put_nak.new.out c.put_nak.result c.written.result _
    is put.fits put.len put.written put.unchanged done.ok done.err).rest

pub returns-clause-enough : goal.returns-clause-enough
returns-clause-enough c =
    let s = c.self.inside in
    let p = c.in-Some.part in
    let n = c.args.number in
    let fit = fits s.header s.most s.low s.high n c.deref.result.now s.requests.items p.requests.now p.scope c.self.invariant c.deref.ensures.0
    c.in-Some.ensures in
    let most : length c.deref.result.now ≤ 33 = c.deref.ensures.1 in
    let same = ap (λ (xs : List SegmentRequest). length xs) c.deref.ensures.0 in
    let done = c.written.ensures in
    put_enough (nak_pdu s.header p.scope p.requests.now) c.args.out.now c.put_nak.result c.written.result c.put_nak.ensures.fits done.ok done.err
    (nak_short s.header p.scope p.requests.now c.self.invariant.header (omega (arith, fit.few, most, same)))
