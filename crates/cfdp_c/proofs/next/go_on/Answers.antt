use Rattle.std.proofs.Common.{refl, ap, ◌∙◌, subst, drop, inl}
use Rattle.cfdp_tree.specs.Next.{IsNextEntry}
use Rattle.cfdp_c.specs.Next.{spelled_fields}
use Rattle.cfdp_c.proofs.Reported.{next_fields}
use Rattle.cfdp_c.proofs.next.go_on.Goals as goal

pub returns : goal.returns
returns c =
    let found = c.in-Some.found in let octets = drop found.start c.next_entry.new.text in
    let is = subst (λ F. IsNextEntry F c.args.after octets found) c.store.ensures.filestore c.in-Some.ensures.next in
    inl (
      next_fields c.args.core.now.world.filestore c.args.after octets found is _ _
          (c.path_fields.ensures ∙ ap spelled_fields c.split_at.ensures.back)
          (λ i. record { kind = c.kind_number.ensures i; checksum = found.checksum; size = found.size }),
      refl,
    )
