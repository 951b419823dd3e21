-- Objects in order of offset, and their blocks.
use Rattle.image_check.proofs.Common.{Extent, IsTrue, List, Rising, [], and_from, and_parts, le-leb, leb-true, map}
use Rattle.image_check.proofs.Common.{nat_le, refl, rises_from, ℕ, ◌+◌, ◌∷◌}
use Rattle.segment_manager.specs.Directory.{Object}

-- the block of an object
abbrev pub extent_of : Object → Extent
extent_of o = o.extent

-- the blocks of objects in order of offset
pub rises_from-Rising : (n : ℕ) (os : List Object) → IsTrue (rises_from n os) → Rising n (map extent_of os)
rises_from-Rising n [] h = tt
rises_from-Rising n (o ∷ os) h =
    let parts = and_parts (nat_le n o.extent.offset) (rises_from (o.extent.offset + 1) os) h in
    (leb-true n o.extent.offset parts.0, rises_from-Rising (o.extent.offset + 1) os parts.1)

-- and the objects of such blocks
pub Rising-rises_from : (n : ℕ) (os : List Object) → Rising n (map extent_of os) → IsTrue (rises_from n os)
Rising-rises_from n [] h = refl
Rising-rises_from n (o ∷ os) h =
    and_from (nat_le n o.extent.offset) (rises_from (o.extent.offset + 1) os) (le-leb n o.extent.offset h.0)
    (Rising-rises_from (o.extent.offset + 1) os h.1)
