-- A `&` to a block reads each of its bytes. Assumes `Logic`.
use mir.Syntax.{w8}
use denote.Builtin.{u8}
use denote.Plain.{uint_row_laws}
use denote.RawPtr.{block_of, count_of}
use denote.Slice.{elements_shr_laws}
use denote.Struct.Lending.{of_Lends}
use Rattle.raw_region.specs.contracts.block.Block as C
use Rattle.raw_region.proofs.block.Lending.{Lends-bytes}
use Rattle.raw_region.proofs.block.Block.TheLaw.Statement.{statement}

pub shares : statement
shares =
    of_Lends C.struct C.the_codes C.the_heap C.the_lent
    (λ d p. elements_shr_laws u8 (uint_row_laws w8) d.items (block_of d.place) (count_of d.place)) tt
    (λ M 𝓤 𝓛 d p. Lends-bytes 𝓛 (C.the_row).lives (block_of d.place) d.items (count_of d.place))
