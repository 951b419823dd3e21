-- The elements of a container at a place: calls that read and replace them, and change their number within the
-- capacity.
use Rattle.std.specs.Prelude.{◌≡◌, ℕ, ◌+◌, ◌-◌, ◌*◌, ◌<◌, ◌≤◌, None, List, [], ◌++◌, take, drop, option_to_list}
use Rattle.raw_region.specs.{Memory.WindowState, Memory.part, Memory.patched, Format.current}
use Rattle.best_fit.specs.{Exchange.ExchangesBlocks, Heap.KeepsGaps, Heap.live_of, declared.places.Place.Place}
use Rattle.best_fit.specs.Table.{BackingArray, shrunk_backing, no_backing}
use Rattle.seg_vector.specs.declared.elements.WritePos.{WritePos}
use Rattle.seg_vector.specs.Containers.{IsContainer, capacity_at, len_at, place_at}
use Rattle.seg_vector.specs.declared.elements.WritePos.TheVariants.{End, Over, Before}

-- the container has other elements, and the capacity stays; of all other blocks only its own 24 bytes change, and no
-- byte of a gap changes
pub record RewritesElements (old new : WindowState) (p : Place) (each len : ℕ) (t : BackingArray) (bytes : List ℕ) :
    Type 0 where
  pub change : ExchangesBlocks current old new (place_at p) 24 (option_to_list t.extent) (option_to_list t.extent)
  pub gaps : KeepsGaps old new
  pub stands : IsContainer new.bytes p each len t bytes

-- the bytes of all elements
abbrev pub ReadsAll : List ℕ → Place → ℕ → List ℕ → Type 0
ReadsAll b p each out = (len : ℕ) (t : BackingArray) (bytes : List ℕ) → IsContainer b p each len t bytes → out ≡ bytes

-- the bytes of the element at i
abbrev pub ReadsOne : List ℕ → Place → ℕ → ℕ → List ℕ → Type 0
ReadsOne b p each i out = (len : ℕ) (t : BackingArray) (bytes : List ℕ) → IsContainer b p each len t bytes
    → out ≡ part bytes (each * i) each

-- the element at i now has these bytes
abbrev pub Overwrites : WindowState → WindowState → Place → ℕ → ℕ → List ℕ → Type 0
Overwrites old new p each i more =
    (len : ℕ) (t : BackingArray) (bytes : List ℕ) → IsContainer old.bytes p each len t bytes
    → RewritesElements old new p each len t (patched bytes (each * i) more)

-- the first n elements remain
abbrev pub Truncates : WindowState → WindowState → Place → ℕ → ℕ → Type 0
Truncates old new p each n =
    (len : ℕ) (t : BackingArray) (bytes : List ℕ) → IsContainer old.bytes p each len t bytes
    → RewritesElements old new p each n t (take (each * n) bytes)

-- one more element, at i
abbrev pub Inserts : WindowState → WindowState → Place → ℕ → ℕ → List ℕ → Type 0
Inserts old new p each i more =
    (len : ℕ) (t : BackingArray) (bytes : List ℕ) → IsContainer old.bytes p each len t bytes
    → RewritesElements old new p each (len + 1) t (take (each * i) bytes ++ (more ++ drop (each * i) bytes))

-- the element at i is removed
abbrev pub ErasesElement : WindowState → WindowState → Place → ℕ → ℕ → Type 0
ErasesElement old new p each i =
    (len : ℕ) (t : BackingArray) (bytes : List ℕ) → IsContainer old.bytes p each len t bytes
    → RewritesElements old new p each (len - 1) t (take (each * i) bytes ++ drop (each * i + each) bytes)

-- n more elements, after the last one
abbrev pub Extends : WindowState → WindowState → Place → ℕ → ℕ → List ℕ → Type 0
Extends old new p each n more =
    (len : ℕ) (t : BackingArray) (bytes : List ℕ) → IsContainer old.bytes p each len t bytes
    → RewritesElements old new p each (len + n) t (bytes ++ more)

-- the position of a written element: after the last or before another if the capacity allows one more, or over an
-- element
abbrev pub HasSpot : List ℕ → Place → WritePos → Type 0
HasSpot b p End = len_at b p < capacity_at b p
HasSpot b p (Over i) = i < len_at b p
HasSpot b p (Before i) = (len_at b p < capacity_at b p) × (i ≤ len_at b p)

-- an element is written at the end, over another, or before one
abbrev pub PutsAt : WindowState → WindowState → Place → ℕ → WritePos → List ℕ → Type 0
PutsAt old new p each End more = Extends old new p each 1 more
PutsAt old new p each (Over i) more = Overwrites old new p each i more
PutsAt old new p each (Before i) more = Inserts old new p each i more

-- ---- fewer places

-- the container has capacity 0, and its storage is freed; without storage no byte of a gap changes
pub record FreesStorageOk (old new : WindowState) (p : Place) (each : ℕ) (t : BackingArray) : Type 0 where
  pub change : ExchangesBlocks current old new (place_at p) 24 (option_to_list t.extent) []
  pub gaps : t.extent ≡ None → KeepsGaps old new
  pub stands : IsContainer new.bytes p each 0 no_backing []

-- a container has capacity 0, and its storage is freed
abbrev pub FreesStorage : WindowState → WindowState → Place → ℕ → Type 0
FreesStorage old new p each = (len : ℕ) (t : BackingArray) (bytes : List ℕ) → IsContainer old.bytes p each len t bytes
    → FreesStorageOk old new p each t

-- the capacity becomes the length: the storage is shortened, or freed if there is no element; if the block stays as it
-- is, no byte of a gap changes
pub record ShrinksStorageOk (old new : WindowState) (p : Place) (each len : ℕ) (t : BackingArray) (bytes : List ℕ) :
    Type 0 where
  pub change : ExchangesBlocks current old new (place_at p) 24 (option_to_list t.extent)
      (option_to_list (shrunk_backing (live_of old.bytes) each len t).extent)
  pub gaps : t.extent ≡ (shrunk_backing (live_of old.bytes) each len t).extent → KeepsGaps old new
  pub stands : IsContainer new.bytes p each len (shrunk_backing (live_of old.bytes) each len t) bytes

-- the capacity of a container becomes its length
abbrev pub ShrinksStorage : WindowState → WindowState → Place → ℕ → Type 0
ShrinksStorage old new p each = (len : ℕ) (t : BackingArray) (bytes : List ℕ) → IsContainer old.bytes p each len t bytes
    → ShrinksStorageOk old new p each len t bytes
