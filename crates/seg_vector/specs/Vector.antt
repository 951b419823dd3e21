-- Vectors, texts and vectors of texts: their growth, and their bytes.
use Rattle.std.specs.Prelude.{◌≡◌, ℕ, ◌+◌, ◌*◌, max, ℤ, Bool, ◌&&◌, Option, Some, None, List, [], ◌∷◌, length, flat_map}
use Rattle.std.specs.Prelude.{if◌then◌else◌, nat_lt, nat_le, ⊤, option_map}
use Rattle.std.specs.List.{AllByRecursion, list_all}
use Rattle.raw_region.specs.Memory.{Memory, HasBytesAt, word_at}
use Rattle.offset_link.specs.Link.{link_at}
use Rattle.block_tags.specs.declared.tile.Role.TheVariants.{Storage}
use Rattle.best_fit.specs.{Extents.Extent, Extents.LiveSet, Extents.handle, Fit.regrow}
use Rattle.best_fit.specs.Table.{BackingArray, has_backing, table_link}
use Rattle.seg_types.specs.{declared.kinds.ScalarKind.ScalarKind, Kinds.spelling}

-- the capacity of a vector after one element is appended
abbrev pub capacity_for_one : ℕ → ℕ → ℕ
capacity_for_one len capacity = if nat_lt len capacity then capacity else max 4 (2 * capacity)

-- the capacity of a vector of this many elements after others are appended
abbrev pub capacity_for_more : ℕ → ℕ → ℕ → ℕ
capacity_for_more len more capacity =
    if nat_le (len + more) capacity then capacity else max (max 4 (2 * capacity)) (len + more)

-- the capacity of a text that must hold len bytes
abbrev pub capacity_for_text : ℕ → ℕ → ℕ
capacity_for_text len capacity = if nat_le len capacity then capacity else max (max 16 (2 * capacity)) len

-- the storage with this capacity: unchanged if it suffices, otherwise its block regrown
unfoldable pub grown_backing : LiveSet → ℕ → ℕ → BackingArray → Option BackingArray
unfolding regrow
grown_backing live each n t =
    if nat_le n t.capacity then Some t
    else option_map (λ x. let u : BackingArray = record { capacity = n; extent = Some x } in u)
    (regrow live t.extent (each * n))

-- the encodings of the numbers, one after another
abbrev pub spelled : ScalarKind → List ℤ → List ℕ
spelled k = flat_map (spelling k)

-- The block begins with these bytes; without a block there are no bytes. So a null link with length 1 and capacity 0 is
-- no vector of one number.
abbrev pub IsStorage : Memory → BackingArray → List ℕ → Type 0
IsStorage m t bytes = elim t.extent [ None ↦ bytes ≡ [] | Some x ↦ HasBytesAt m (handle x) bytes ]

-- the container at an offset has these bytes, which encode len elements
pub record IsContainerAt (m : Memory) (at len : ℕ) (t : BackingArray) (bytes : List ℕ) : Type 0 where
  pub link : link_at m at ≡ table_link t
  pub len_word : word_at m (at + 8) ≡ len
  pub capacity : word_at m (at + 16) ≡ t.capacity
  pub storage : IsStorage m t bytes

-- the vector at an offset, of elements of any type
abbrev pub IsVectorOf : {T : Type 0} → (T → List ℕ) → Memory → ℕ → List T → BackingArray → Type 0
IsVectorOf spelling_of m at items t = IsContainerAt m at (length items) t (flat_map spelling_of items)

-- whether there are at most as many elements as the capacity of this many bytes each, and each is a value of its type
abbrev pub is_vector : {T : Type 0} → ℕ → (T → Bool) → List T → BackingArray → Bool
is_vector size is_value items t =
    nat_le (length items) t.capacity && has_backing Storage size t && list_all is_value items

-- the vector at an offset, of numbers of a scalar kind
abbrev pub IsVectorAt : Memory → ℕ → ScalarKind → List ℤ → BackingArray → Type 0
IsVectorAt m at k items t = IsVectorOf (spelling k) m at items t

-- the string at an offset
abbrev pub IsTextAt : Memory → ℕ → List ℕ → BackingArray → Type 0
IsTextAt m at bytes t = IsContainerAt m at (length bytes) t bytes

-- a text in a vector: its bytes, and their block; an empty text has no block
pub record OwnedText : Type 0 where
  pub bytes : List ℕ
  pub extent : Option Extent

-- elements of 16 bytes, one after another from an offset on: a link to the block of the text, and its length
abbrev pub AreTextLinks : Memory → ℕ → List OwnedText → Type 0
AreTextLinks m at [] = ⊤
AreTextLinks m at (p ∷ ps) =
    (link_at m at ≡ option_map handle p.extent) × (word_at m (at + 8) ≡ length p.bytes) × AreTextLinks m (at + 16) ps

-- the block of a text begins with its bytes; an empty text has no block
abbrev pub IsOwnedText : Memory → OwnedText → Type 0
IsOwnedText m p = elim p.extent [ None ↦ p.bytes ≡ [] | Some x ↦ HasBytesAt m (handle x) p.bytes ]

-- the block of the array begins with links to these texts
abbrev pub AreInArray : Memory → BackingArray → List OwnedText → Type 0
AreInArray m t ps = elim t.extent [ None ↦ ps ≡ [] | Some x ↦ AreTextLinks m (handle x) ps ]

-- the vector of texts at an offset: its array has the elements, and each text that is not empty has a block of its own
pub record IsTextsAt (m : Memory) (at : ℕ) (ps : List OwnedText) (t : BackingArray) : Type 0 where
  pub link : link_at m at ≡ table_link t
  pub len_word : word_at m (at + 8) ≡ length ps
  pub capacity : word_at m (at + 16) ≡ t.capacity
  pub array : AreInArray m t ps
  pub texts : AllByRecursion (IsOwnedText m) ps
