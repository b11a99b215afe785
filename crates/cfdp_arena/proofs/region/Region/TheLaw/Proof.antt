-- A `&` to a region reaches each of its blocks. Assumes `Logic`.
use denote.Param.Shared.{copy_shared}
use denote.Struct.Field.{RawPtr-field, usize-field}
use denote.Struct.Laws.{RawPtr-copy, usize-copy}
use denote.Struct.Lending.{of_Lends}
use Rattle.cfdp_arena.specs.contracts.region.Region as C
use Rattle.cfdp_arena.proofs.region.Region.TheLaw.Statement.{statement}
use Rattle.cfdp_arena.proofs.Sharing.{region_lends_laws, Lends-region}

pub shares : statement
shares = of_Lends C.struct C.the_codes C.the_heap C.the_lent (λ d p. region_lends_laws d.base d.room d.blocks)
    (copy_shared RawPtr-field RawPtr-copy, (copy_shared usize-field usize-copy, tt)) (λ M 𝓤 𝓛 d p. Lends-region 𝓛 (C.the_row).lives d.base d.room d.blocks)
