-- A vector at a place, of any type with values of `size` bytes, and the results and effects of its calls.
use Rattle.std.specs.Prelude.{◌≡◌, ℕ, ◌+◌, ◌-◌, ◌<◌, ◌≤◌, ◌⊎◌, Bool, IsTrue, Some, Result, Ok, MatchResult, List, []}
use Rattle.std.specs.Prelude.{◌∷◌, ◌++◌, drop, length, take, insert, remove, slice_get, slice_set, flat_map}
use Rattle.std.specs.{Prelude.option_to_list, List.list_all}
use Rattle.raw_region.specs.{Memory.WindowState, Format.current}
use Rattle.best_fit.specs.{Exchange.ExchangesBlocks, Heap.KeepsGaps, Heap.live_of, declared.places.Place.Place}
use Rattle.best_fit.specs.Table.{BackingArray, shrunk_backing, no_backing}
use Rattle.seg_types.specs.{declared.refusals.Refusal.Refusal, declared.refusals.Refusal.TheVariants.OutOfRange}
use Rattle.seg_vector.specs.Containers.{IsContainer, place_at}
use Rattle.seg_vector.specs.Vector.{capacity_for_more, capacity_for_one, grown_backing}
pub use Rattle.seg_vector.specs.Containers.{LacksSpace}

-- the vector at a place has these values of a plain type
pub record IsVector {T : Type 0} (size : ℕ) (is_value : T → Bool) (spelling : T → List ℕ) (b : List ℕ) (p : Place)
    (xs : List T) (t : BackingArray) : Type 0 where
  pub stands : IsContainer b p size (length xs) t (flat_map spelling xs)
  pub values : IsTrue (list_all is_value xs)

-- a vector of a plain type is at a place
abbrev pub IsSomeVector : {T : Type 0} → ℕ → (T → Bool) → (T → List ℕ) → List ℕ → Place → Type 0
IsSomeVector {T} size is_value spelling b p =
    (xs : List T) × ((t : BackingArray) × IsVector size is_value spelling b p xs t)

-- The vector at a place now has these elements and this storage. Of all blocks that stay, only its own 24 bytes change,
-- and no byte of a gap changes if its storage stays in its block.
pub record ReplacesVector {T : Type 0} (size : ℕ) (is_value : T → Bool) (spelling : T
    → List ℕ) (old new : WindowState) (p : Place) (t : BackingArray) (ys : List T) (u : BackingArray) : Type 0 where
  pub change : ExchangesBlocks current old new (place_at p) 24 (option_to_list t.extent) (option_to_list u.extent)
  pub gaps : t.extent ≡ u.extent → KeepsGaps old new
  pub vector : IsVector size is_value spelling new.bytes p ys u

-- the vector has capacity n or more after the call
pub record GrowsVectorOk {T : Type 0} (size : ℕ) (is_value : T → Bool) (spelling : T → List ℕ) (old new : WindowState)
    (p : Place) (t : BackingArray) (n : ℕ) (ys : List T) : Type 0 where
  pub table : BackingArray
  pub grown : grown_backing (live_of old.bytes) size n t ≡ Some table
  pub now : ReplacesVector size is_value spelling old new p t ys table

-- ---- refusals

-- the index is at or past the end, and nothing changes
pub record RefusesIndex (old new : WindowState) (end i : ℕ) (e : Refusal) : Type 0 where
  pub refusal : e ≡ OutOfRange
  pub outside : end ≤ i
  pub same : new ≡ old

-- ---- reading

-- the number is the length of the vector
abbrev pub ReadsVectorLen : {T : Type 0} → ℕ → (T → Bool) → (T → List ℕ) → List ℕ → Place → ℕ → Type 0
ReadsVectorLen {T} size is_value spelling b p n = (xs : List T) (t : BackingArray)
    → IsVector size is_value spelling b p xs t → n ≡ length xs

-- the number is the capacity of the vector
abbrev pub CountsCapacity : {T : Type 0} → ℕ → (T → Bool) → (T → List ℕ) → List ℕ → Place → ℕ → Type 0
CountsCapacity {T} size is_value spelling b p n = (xs : List T) (t : BackingArray)
    → IsVector size is_value spelling b p xs t → n ≡ t.capacity

-- the element at an index, or an error if the index is out of range
abbrev pub Gets : {T : Type 0} → ℕ → (T → Bool) → (T → List ℕ) → WindowState → Place → ℕ → Result T Refusal → Type 0
Gets {T} size is_value spelling c p i result =
    (xs : List T) (t : BackingArray) → IsVector size is_value spelling c.bytes p xs t
    → MatchResult result (λ x. slice_get xs i ≡ Some x) (RefusesIndex c c (length xs) i)

-- ---- changes within the capacity

-- an empty vector with capacity 0, for any old bytes
abbrev pub InitsVector : {T : Type 0} → ℕ → (T → Bool) → (T → List ℕ) → WindowState → WindowState → Place → Type 0
InitsVector {T} size is_value spelling old new p =
    let none : List T = [] in ReplacesVector size is_value spelling old new p no_backing none no_backing

-- the element at an index is replaced, or the index is out of range
abbrev pub Sets : {T : Type 0}
    → ℕ → (T → Bool) → (T → List ℕ) → WindowState → WindowState → Place → ℕ → T → Result (Unit {0}) Refusal → Type 0
Sets {T} size is_value spelling old new p i x result =
    (xs : List T) (t : BackingArray) → IsVector size is_value spelling old.bytes p xs t
    → MatchResult result (λ u. (i < length xs) × ReplacesVector size is_value spelling old new p t (slice_set xs i x) t)
    (RefusesIndex old new (length xs) i)

-- the list with the elements from an index on replaced by others
abbrev pub replaced : {T : Type 0} → List T → ℕ → List T → List T
replaced old first new = take first old ++ (new ++ drop (first + length new) old)

-- the elements from an index on are replaced, or one of them is past the end and nothing changes
abbrev pub SetsAll : {T : Type 0} → ℕ → (T → Bool) → (T → List ℕ) → WindowState → WindowState → Place → ℕ → List T
    → Result (Unit {0}) Refusal → Type 0
SetsAll {T} size is_value spelling old new p first ys result =
    (xs : List T) (t : BackingArray) → IsVector size is_value spelling old.bytes p xs t
    → MatchResult result (λ u. (first + length ys ≤ length xs)
    × ReplacesVector size is_value spelling old new p t (replaced xs first ys) t)
    (RefusesIndex old new (length xs + 1) (first + length ys))

-- the last element is removed and returned, or there is none
abbrev pub Pops : {T : Type 0} → ℕ → (T → Bool) → (T → List ℕ) → WindowState → WindowState → Place
    → Result T Refusal → Type 0
Pops {T} size is_value spelling old new p result =
    (xs : List T) (t : BackingArray) → IsVector size is_value spelling old.bytes p xs t
    → MatchResult result (λ x. (slice_get xs (length xs - 1) ≡ Some x)
    × ReplacesVector size is_value spelling old new p t (take (length xs - 1) xs) t)
    (RefusesIndex old new (length xs) 0)

-- the element at an index is removed, or the index is out of range
abbrev pub ErasesFrom : {T : Type 0}
    → ℕ → (T → Bool) → (T → List ℕ) → WindowState → WindowState → Place → ℕ → Result (Unit {0}) Refusal → Type 0
ErasesFrom {T} size is_value spelling old new p i result =
    (xs : List T) (t : BackingArray) → IsVector size is_value spelling old.bytes p xs t
    → MatchResult result (λ u. (i < length xs) × ReplacesVector size is_value spelling old new p t (remove xs i) t)
    (RefusesIndex old new (length xs) i)

-- a vector loses all elements and keeps its capacity
abbrev pub Clears : {T : Type 0} → ℕ → (T → Bool) → (T → List ℕ) → WindowState → WindowState → Place → Type 0
Clears {T} size is_value spelling old new p =
    (xs : List T) (t : BackingArray) → IsVector size is_value spelling old.bytes p xs t
    → let none : List T = [] in ReplacesVector size is_value spelling old new p t none t

-- ---- changes of the capacity

-- an element is appended, or there is no space and nothing changes
abbrev pub Pushes : {T : Type 0}
    → ℕ → (T → Bool) → (T → List ℕ) → WindowState → WindowState → Place → T → Result (Unit {0}) Refusal → Type 0
Pushes {T} size is_value spelling old new p x result =
    (xs : List T) (t : BackingArray) → IsVector size is_value spelling old.bytes p xs t
    → let n = capacity_for_one (length xs) t.capacity in
    MatchResult result (λ u. GrowsVectorOk size is_value spelling old new p t n (xs ++ x ∷ []))
    (LacksSpace old new size n t)

-- an element is inserted, or the index is out of range, or there is no space; an index out of range takes precedence
abbrev pub InsertsInto : {T : Type 0} → ℕ → (T → Bool) → (T → List ℕ) → WindowState → WindowState → Place → ℕ → T
    → Result (Unit {0}) Refusal → Type 0
InsertsInto {T} size is_value spelling old new p i x result =
    (xs : List T) (t : BackingArray) → IsVector size is_value spelling old.bytes p xs t
    → let n = capacity_for_one (length xs) t.capacity in
    MatchResult result (λ u. (i ≤ length xs) × GrowsVectorOk size is_value spelling old new p t n (insert xs i x))
    (λ e. RefusesIndex old new (length xs + 1) i e ⊎ ((i ≤ length xs) × LacksSpace old new size n t e))

-- a vector has capacity n or more, or there is no space and nothing changes
abbrev pub ReservesVector : {T : Type 0}
    → ℕ → (T → Bool) → (T → List ℕ) → WindowState → WindowState → Place → ℕ → Result (Unit {0}) Refusal → Type 0
ReservesVector {T} size is_value spelling old new p n result =
    (xs : List T) (t : BackingArray) → IsVector size is_value spelling old.bytes p xs t
    → MatchResult result (λ u. GrowsVectorOk size is_value spelling old new p t n xs) (LacksSpace old new size n t)

-- if the capacity is n or more already, nothing changes
abbrev pub ReservesNothing : {T : Type 0} → ℕ → (T → Bool) → (T → List ℕ) → WindowState → WindowState → Place → ℕ
    → Result (Unit {0}) Refusal → Type 0
ReservesNothing {T} size is_value spelling old new p n result =
    (xs : List T) (t : BackingArray) → IsVector size is_value spelling old.bytes p xs t → n ≤ t.capacity
    → (result ≡ Ok tt) × (new ≡ old)

-- all elements of a vector are replaced, or there is no space and nothing changes
abbrev pub Assigns : {T : Type 0} → ℕ → (T → Bool) → (T → List ℕ) → WindowState → WindowState → Place → List T
    → Result (Unit {0}) Refusal → Type 0
Assigns {T} size is_value spelling old new p ys result =
    (xs : List T) (t : BackingArray) → IsVector size is_value spelling old.bytes p xs t
    → MatchResult result (λ u. GrowsVectorOk size is_value spelling old new p t (length ys) ys)
    (LacksSpace old new size (length ys) t)

-- values are appended, or there is no space and nothing changes
abbrev pub ExtendsBy : {T : Type 0} → ℕ → (T → Bool) → (T → List ℕ) → WindowState → WindowState → Place → List T
    → Result (Unit {0}) Refusal → Type 0
ExtendsBy {T} size is_value spelling old new p ys result =
    (xs : List T) (t : BackingArray) → IsVector size is_value spelling old.bytes p xs t
    → let n = capacity_for_more (length xs) (length ys) t.capacity in
    MatchResult result (λ u. GrowsVectorOk size is_value spelling old new p t n (xs ++ ys))
    (LacksSpace old new size n t)

-- the capacity of a vector becomes its length
abbrev pub ShrinksVector : {T : Type 0} → ℕ → (T → Bool) → (T → List ℕ) → WindowState → WindowState → Place → Type 0
ShrinksVector {T} size is_value spelling old new p =
    (xs : List T) (t : BackingArray) → IsVector size is_value spelling old.bytes p xs t
    → ReplacesVector size is_value spelling old new p t xs (shrunk_backing (live_of old.bytes) size (length xs) t)

-- the storage of a vector is freed
abbrev pub ReleasesVector : {T : Type 0} → ℕ → (T → Bool) → (T → List ℕ) → WindowState → WindowState → Place → Type 0
ReleasesVector {T} size is_value spelling old new p =
    (xs : List T) (t : BackingArray) → IsVector size is_value spelling old.bytes p xs t
    → let none : List T = [] in ReplacesVector size is_value spelling old new p t none no_backing
