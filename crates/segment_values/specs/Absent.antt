-- Map keys that a map lacks, as literals.
use Rattle.std.specs.Prelude.{◌≡◌, ℤ, Ok}
use Rattle.seg_types.specs.Commands.{Literal, value_of_literal}
use Rattle.seg_types.specs.{declared.kinds.Kind.TheVariants.Map, declared.kinds.ScalarKind.ScalarKind, Names.Key}
use Rattle.segment_manager.specs.{Calls.kind_at, Directory.Directory, Keeping.LacksPair}

-- the object of the key is a map that lacks the map key of the literal
pub record LacksLiteral (key : Key) (l : Literal) (d : Directory) : Type 0 where
  pub keys : ScalarKind
  pub values : ScalarKind
  pub is : kind_at d key ≡ Ok (Map keys values)
  pub number : ℤ
  pub read : value_of_literal keys l ≡ Ok number
  pub lacks : LacksPair key number d
