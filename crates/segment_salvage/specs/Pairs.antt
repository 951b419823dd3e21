-- A pair that was read of an image.
use Rattle.std.specs.Prelude.{◌≡◌, true, List, ℕ}
use Rattle.seg_types.specs.declared.kinds.ScalarKind.{ScalarKind}
use Rattle.seg_types.specs.Kinds.{is_value}
use Rattle.seg_types.specs.Values.{kind_of_scalar, value_of_scalar}
use Rattle.segment_salvage.specs.declared.nodes.Pair.{Pair}
use Rattle.segment_salvage.specs.Standing.{HasPair}

-- the pair has a key and a value of these kinds, and stands in the image
pub record IsPairOfImage (image : List ℕ) (k v : ScalarKind) (p : Pair) : Type 0 where
  pub key_kind : kind_of_scalar p.key ≡ k
  pub value_kind : kind_of_scalar p.value ≡ v
  pub key_value : is_value k (value_of_scalar p.key) ≡ true
  pub value_value : is_value v (value_of_scalar p.value) ≡ true
  pub pair : HasPair image k v (value_of_scalar p.key, value_of_scalar p.value)
