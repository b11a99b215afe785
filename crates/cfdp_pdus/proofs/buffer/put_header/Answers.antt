use Rattle.std.proofs.Common.{rules, arith, ◌≡◌, ◌+◌, ◌*◌, ℕ, ap, ◌∙◌, ◌∷◌, []}
use Rattle.cfdp_pdus.specs.Canonical.{first_octet}
use Rattle.cfdp_pdus.specs.BufferParts.{with_octets_at}
use Rattle.cfdp_pdus.proofs.BufferParts.{header_filled}
use Rattle.cfdp_pdus.proofs.buffer.put_header.Goals as goal

pub returns : goal.returns
returns c =
    let h = c.args.header.now in
    let first : 32 + 16 * c.from-kind.result + 8 * c.from-direction.result + 4 * c.from-mode.result + c.from.result ≡ first_octet c.args.file_data h =
    search rules in
    header_filled c.args.file_data h c.args.len c.args.out.now c.put_octets.new.out c.put_number.new.out c.put_octets-2.new.out
    c.put_number-2.new.out c.put_number-3.new.out c.put_number-4.new.out (4 + c.from-id_len.result) (4 + c.from-id_len.result + c.from-number_len.result)
    (c.put_octets.ensures ∙ ap (λ (o : ℕ). with_octets_at c.args.out.now 0 (o ∷ [])) first)
    (rw (← c.from-2.ensures) c.put_number.ensures)
    c.put_octets-2.ensures
    (rw (← c.from-id_len.ensures) c.put_number-2.ensures)
    (rw (← c.from-number_len.ensures) c.put_number-3.ensures)
    (omega (arith, c.from-id_len.ensures))
    (rw (← c.from-id_len.ensures) c.put_number-4.ensures)
    (omega (arith, c.from-id_len.ensures, c.from-number_len.ensures))
