-- Numbers about memory, stored next to it.
use Rattle.std.specs.Prelude.{ℕ, List, [], Option, Some, None}
use Rattle.std.specs.declared.vec.Vec.{Vec}

-- the numbers in the room; none without room
abbrev pub numbers_in : {Z : Type 0} → Option (Vec ℕ Z) → List ℕ
numbers_in None = []
numbers_in (Some v) = v.items
