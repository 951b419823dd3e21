-- A string at a place, and the results and effects of its calls. Its elements are bytes.
use Rattle.std.specs.Prelude.{◌≡◌, ℕ, ◌<◌, ◌≤◌, Some, Result, Ok, MatchResult, List, [], ◌++◌, length, slice_get}
use Rattle.std.specs.Prelude.{slice_set, option_to_list}
use Rattle.raw_region.specs.{Memory.WindowState, Format.current}
use Rattle.best_fit.specs.{Exchange.ExchangesBlocks, Heap.KeepsGaps, Heap.live_of, declared.places.Place.Place}
use Rattle.best_fit.specs.Table.{BackingArray, shrunk_backing, no_backing}
use Rattle.seg_types.specs.declared.refusals.Refusal.{Refusal}
use Rattle.seg_vector.specs.{Vector.capacity_for_text, Vector.grown_backing, Containers.IsContainer}
use Rattle.seg_vector.specs.{Containers.place_at, VectorCalls.RefusesIndex, VectorCalls.LacksSpace}

-- the string at a place has these bytes
abbrev pub IsText : List ℕ → Place → List ℕ → BackingArray → Type 0
IsText b p bytes t = IsContainer b p 1 (length bytes) t bytes

-- a string is at a place
abbrev pub IsSomeText : List ℕ → Place → Type 0
IsSomeText b p = (bytes : List ℕ) × ((t : BackingArray) × IsText b p bytes t)

-- The string at a place now has these bytes and this storage. Of all blocks that stay, only its own 24 bytes change,
-- and no byte of a gap changes if its storage stays in its block.
pub record ReplacesText (old new : WindowState) (p : Place) (t : BackingArray) (bytes : List ℕ) (u : BackingArray) :
    Type 0 where
  pub change : ExchangesBlocks current old new (place_at p) 24 (option_to_list t.extent) (option_to_list u.extent)
  pub gaps : t.extent ≡ u.extent → KeepsGaps old new
  pub text : IsText new.bytes p bytes u

-- the string has capacity n or more after the call
pub record GrowsTextOk (old new : WindowState) (p : Place) (t : BackingArray) (n : ℕ) (bytes : List ℕ) : Type 0 where
  pub table : BackingArray
  pub grown : grown_backing (live_of old.bytes) 1 n t ≡ Some table
  pub now : ReplacesText old new p t bytes table

-- ---- reading

-- the number is the length of the string
abbrev pub CountsBytes : List ℕ → Place → ℕ → Type 0
CountsBytes b p n = (bytes : List ℕ) (t : BackingArray) → IsText b p bytes t → n ≡ length bytes

-- the number is the capacity of the string
abbrev pub CountsByteCapacity : List ℕ → Place → ℕ → Type 0
CountsByteCapacity b p n = (bytes : List ℕ) (t : BackingArray) → IsText b p bytes t → n ≡ t.capacity

-- the slice has the bytes of the string
abbrev pub ReadsText : List ℕ → Place → List ℕ → Type 0
ReadsText b p out = (bytes : List ℕ) (t : BackingArray) → IsText b p bytes t → out ≡ bytes

-- the byte at an index of a string, or an error if the index is out of range
abbrev pub GetsByte : WindowState → Place → ℕ → Result ℕ Refusal → Type 0
GetsByte c p i result = (bytes : List ℕ) (t : BackingArray) → IsText c.bytes p bytes t
    → MatchResult result (λ x. slice_get bytes i ≡ Some x) (RefusesIndex c c (length bytes) i)

-- ---- what changes

-- an empty string with capacity 0, for any old bytes
abbrev pub StartsText : WindowState → WindowState → Place → Type 0
StartsText old new p = ReplacesText old new p no_backing [] no_backing

-- makes a string whose capacity is its length, or there is no space
abbrev pub MakesText : WindowState → WindowState → Place → List ℕ → Result (Unit {0}) Refusal → Type 0
MakesText old new p bytes result = MatchResult result (λ u. GrowsTextOk old new p no_backing (length bytes) bytes)
    (LacksSpace old new 1 (length bytes) no_backing)

-- the byte at an index is replaced, or the index is out of range
abbrev pub SetsByte : WindowState → WindowState → Place → ℕ → ℕ → Result (Unit {0}) Refusal → Type 0
SetsByte old new p i x result =
    (bytes : List ℕ) (t : BackingArray) → IsText old.bytes p bytes t
    → MatchResult result (λ u. (i < length bytes) × ReplacesText old new p t (slice_set bytes i x) t)
    (RefusesIndex old new (length bytes) i)

-- a string loses all bytes and keeps its capacity
abbrev pub ClearsText : WindowState → WindowState → Place → Type 0
ClearsText old new p = (bytes : List ℕ) (t : BackingArray) → IsText old.bytes p bytes t → ReplacesText old new p t [] t

-- a string has capacity n or more, or there is no space and nothing changes
abbrev pub ReservesBytes : WindowState → WindowState → Place → ℕ → Result (Unit {0}) Refusal → Type 0
ReservesBytes old new p n result =
    (bytes : List ℕ) (t : BackingArray) → IsText old.bytes p bytes t
    → MatchResult result (λ u. GrowsTextOk old new p t n bytes) (LacksSpace old new 1 n t)

-- if the capacity is n or more already, nothing changes
abbrev pub ReservesNoBytes : WindowState → WindowState → Place → ℕ → Result (Unit {0}) Refusal → Type 0
ReservesNoBytes old new p n result = (bytes : List ℕ) (t : BackingArray) → IsText old.bytes p bytes t → n ≤ t.capacity
    → (result ≡ Ok tt) × (new ≡ old)

-- all bytes of a string are replaced, or there is no space and nothing changes
abbrev pub AssignsText : WindowState → WindowState → Place → List ℕ → Result (Unit {0}) Refusal → Type 0
AssignsText old new p more result =
    (bytes : List ℕ) (t : BackingArray) → IsText old.bytes p bytes t
    → MatchResult result (λ u. GrowsTextOk old new p t (length more) more) (LacksSpace old new 1 (length more) t)

-- bytes are appended to a string, or there is no space and nothing changes
abbrev pub AppendsText : WindowState → WindowState → Place → List ℕ → Result (Unit {0}) Refusal → Type 0
AppendsText old new p more result =
    (bytes : List ℕ) (t : BackingArray) → IsText old.bytes p bytes t
    → let n = capacity_for_text (length (bytes ++ more)) t.capacity in
    MatchResult result (λ u. GrowsTextOk old new p t n (bytes ++ more)) (LacksSpace old new 1 n t)

-- the capacity of a string becomes its length
abbrev pub ShrinksText : WindowState → WindowState → Place → Type 0
ShrinksText old new p = (bytes : List ℕ) (t : BackingArray) → IsText old.bytes p bytes t
    → ReplacesText old new p t bytes (shrunk_backing (live_of old.bytes) 1 (length bytes) t)

-- the storage of a string is freed
abbrev pub ReleasesText : WindowState → WindowState → Place → Type 0
ReleasesText old new p = (bytes : List ℕ) (t : BackingArray) → IsText old.bytes p bytes t
    → ReplacesText old new p t [] no_backing
