-- A vector of texts at a place: an array of links and lengths, and a block for each text that is not empty. New blocks
-- are allocated before the blocks that they replace are freed.
use Rattle.std.specs.Prelude.{◌≡◌, ◌≢◌, ℕ, ◌+◌, ◌-◌, ◌*◌, ◌%◌, ◌<◌, ◌≤◌, ◌⊎◌, ⊤, ◌==◌, nat_lt, if◌then◌else◌, IsTrue}
use Rattle.std.specs.Prelude.{Option, Some, None, Result, Ok, MatchResult, List, [], ◌∷◌, ◌++◌, length, insert, remove}
use Rattle.std.specs.Prelude.{flat_map, slice_get, slice_set, option_map, option_to_list}
use Rattle.std.specs.List.{AllByRecursion}
use denote.Ref.{Bor}
use Rattle.raw_region.specs.{Memory.WindowState, Memory.bytes_of, Memory.word_at, Format.current}
use Rattle.block_tags.specs.declared.tile.Role.TheVariants.{Storage}
use Rattle.offset_link.specs.Link.{link_at}
use Rattle.best_fit.specs.{Exchange.ExchangesBlocks, Exchange.KeepsLiveSet, Extents.Extent, Extents.LiveSet}
use Rattle.best_fit.specs.{Extents.handle, Fit.place, Fit.resized, declared.places.Place.Place}
use Rattle.best_fit.specs.Heap.{IsHeap, KeepsGaps, extent_at, has_room, live_of}
use Rattle.best_fit.specs.Table.{BackingArray, shrunk_backing, has_backing, no_backing, serves}
use Rattle.seg_types.specs.{declared.refusals.Refusal.Refusal, declared.refusals.Refusal.TheVariants.NoSpace}
use Rattle.seg_vector.specs.{Containers.IsStorageBlock, Containers.place_at, VectorCalls.RefusesIndex}
use Rattle.seg_vector.specs.Vector.{IsOwnedText, IsTextsAt, OwnedText, capacity_for_one, grown_backing}

-- the blocks of texts
abbrev pub text_blocks : List OwnedText → List Extent
text_blocks ps = flat_map (λ (q : OwnedText). option_to_list q.extent) ps

-- the block of a text is in use and holds it; an empty text has no block
abbrev pub IsHeldText : LiveSet → OwnedText → Type 0
IsHeldText live q = elim q.extent [
  | None ↦ q.bytes ≡ []
  | Some x ↦ (extent_at live (handle x) ≡ Some x)
      × (0 < length q.bytes) × IsTrue (serves x Storage (length q.bytes))
]

-- all extents of the list are different blocks
abbrev pub AreDistinct : List Extent → Type 0
AreDistinct [] = ⊤
AreDistinct (x ∷ xs) = AllByRecursion (λ (y : Extent). handle x ≢ handle y) xs × AreDistinct xs

-- the vector at a place has these texts, each in a block of its own
pub record IsTexts (b : List ℕ) (p : Place) (ps : List OwnedText) (t : BackingArray) : Type 0 where
  pub heap : IsHeap current b
  pub words : IsTextsAt (bytes_of b) (place_at p) ps t
  pub aligned : p.at % 8 ≡ 0
  pub room : IsTrue (has_room (live_of b) p.handle (p.at + 24))
  pub table : IsTrue (has_backing Storage 16 t)
  pub fits : length ps ≤ t.capacity
  pub own : IsStorageBlock (live_of b) p.handle t.extent
  pub held : AllByRecursion (IsHeldText (live_of b)) ps
  pub apart : AllByRecursion (λ (x : Extent). handle x ≢ p.handle) (text_blocks ps)
  pub others : AreDistinct (option_to_list t.extent ++ text_blocks ps)

-- a vector of strings is at a place
abbrev pub IsTextsContainer : List ℕ → Place → Type 0
IsTextsContainer b p = (ps : List OwnedText) × ((t : BackingArray) × IsTexts b p ps t)

-- The vector has these texts and this array. Some blocks are freed and others allocated. Of the blocks that stay, the
-- blocks of other texts among them, only the 24 bytes of the vector change. No byte of a gap changes if all blocks
-- stay.
pub record ReplacesTexts (old new : WindowState) (p : Place) (gone come : List Extent) (ps : List OwnedText)
    (t : BackingArray) : Type 0 where
  pub change : ExchangesBlocks current old new (place_at p) 24 gone come
  pub gaps : gone ≡ come → KeepsGaps old new
  pub texts : IsTexts new.bytes p ps t

-- ---- requests

-- the live set in which the texts are placed: the old array is in use, and the new one too if it is another block
abbrev pub with_array : LiveSet → BackingArray → BackingArray → LiveSet
with_array live t u =
    if nat_lt t.capacity u.capacity then elim u.extent [ None ↦ live | Some x ↦ resized live x ] else live

-- a text and its new block; an empty text has no block
abbrev pub placed_text : LiveSet → List ℕ → Option OwnedText
placed_text live bytes =
    if length bytes == 0 then Some (record { bytes = bytes; extent = None })
    else option_map (λ (x : Extent). let q : OwnedText = record { bytes = bytes; extent = Some x } in q)
    (place live (length bytes) Storage)

-- the live set with the block of a text, if it has one
abbrev pub with_text : LiveSet → OwnedText → LiveSet
with_text live q = elim q.extent [ None ↦ live | Some x ↦ resized live x ]

-- the new blocks of several texts, one after another
abbrev pub placed_texts : LiveSet → List (List ℕ) → Option (List OwnedText)
placed_texts live [] = Some []
placed_texts live (bytes ∷ more) = elim (placed_text live bytes) [
  | None ↦ None
  | Some q ↦ option_map (λ qs. q ∷ qs) (placed_texts (with_text live q) more)
]

-- an array of this many places, in a new block
abbrev pub new_array : LiveSet → ℕ → Option BackingArray
new_array live n = if n == 0 then Some no_backing else option_map
    (λ (x : Extent). let u : BackingArray = record { capacity = n; extent = Some x } in u) (place live (16 * n) Storage)

-- ---- what calls answer and do

-- the number is the length of the vector of strings
abbrev pub ReadsTextsLen : List ℕ → Place → ℕ → Type 0
ReadsTextsLen b p n = (ps : List OwnedText) (t : BackingArray) → IsTexts b p ps t → n ≡ length ps

-- the number is the capacity of the vector of strings
abbrev pub ReadsTextsCapacity : List ℕ → Place → ℕ → Type 0
ReadsTextsCapacity b p n = (ps : List OwnedText) (t : BackingArray) → IsTexts b p ps t → n ≡ t.capacity

-- an empty vector with capacity 0, for any old bytes
abbrev pub InitsTexts : WindowState → WindowState → Place → Type 0
InitsTexts old new p = ReplacesTexts old new p [] [] [] no_backing

-- the text at an index, or an error if the index is out of range
abbrev pub GetsText : WindowState → Place → ℕ → Result (Bor (List ℕ)) Refusal → Type 0
GetsText c p i result =
    (ps : List OwnedText) (t : BackingArray) → IsTexts c.bytes p ps t
    → MatchResult result (λ (r : Bor (List ℕ)). option_map (λ (q : OwnedText). q.bytes) (slice_get ps i) ≡ Some r.now)
    (RefusesIndex c c (length ps) i)

-- the 16 bytes at an offset in a block are the element of a text
pub record IsTextElement (b : List ℕ) (array at : ℕ) (q : OwnedText) : Type 0 where
  pub heap : IsHeap current b
  pub aligned : at % 8 ≡ 0
  pub room : IsTrue (has_room (live_of b) array (at + 16))
  pub link : link_at (bytes_of b) (array + at) ≡ option_map handle q.extent
  pub len_word : word_at (bytes_of b) (array + at + 8) ≡ length q.bytes
  pub owned : IsOwnedText (bytes_of b) q
  pub held : IsHeldText (live_of b) q

-- there is no space for the one block that the call needs, and nothing changes
pub record LacksFit {A : Type 0} (old new : WindowState) (met : Option A) (e : Refusal) : Type 0 where
  pub refusal : e ≡ NoSpace
  pub none : met ≡ None
  pub same : new ≡ old

-- One of several blocks has no space. The blocks allocated before it are freed, and an array that was lengthened is
-- shortened: the same blocks are in use, with the same bytes.
pub record UndoesRequests {A : Type 0} (old new : WindowState) (met : Option A) (e : Refusal) : Type 0 where
  pub refusal : e ≡ NoSpace
  pub none : met ≡ None
  pub restored : KeepsLiveSet current old new

-- a text is inserted at i: the call allocates the array first, and then the text's block
pub record InsertsTextOk (old new : WindowState) (p : Place) (ps : List OwnedText) (t : BackingArray) (i : ℕ)
    (bytes : List ℕ) : Type 0 where
  pub table : BackingArray
  pub grown : grown_backing (live_of old.bytes) 16 (capacity_for_one (length ps) t.capacity) t ≡ Some table
  pub text : OwnedText
  pub placed : placed_text (with_array (live_of old.bytes) t table) bytes ≡ Some text
  pub now : ReplacesTexts old new p (option_to_list t.extent) (option_to_list table.extent
      ++ option_to_list text.extent) (insert ps i text) table

abbrev pub requested_text : LiveSet → List OwnedText → BackingArray → List ℕ → Option OwnedText
requested_text live ps t bytes = elim (grown_backing live 16 (capacity_for_one (length ps) t.capacity) t) [
  | None ↦ None
  | Some u ↦ placed_text (with_array live t u) bytes
]

-- If the first allocation fails, nothing changes. The first allocation is that of the text if the capacity allows one
-- more, and otherwise that of the array.
pub record RefusesFirstBlock (old new : WindowState) (ps : List OwnedText) (t : BackingArray) (bytes : List ℕ) :
    Type 0 where
  pub text : length ps < t.capacity → placed_text (live_of old.bytes) bytes ≡ None → new ≡ old
  pub array : grown_backing (live_of old.bytes) 16 (capacity_for_one (length ps) t.capacity) t ≡ None → new ≡ old

-- if the first allocation fails, nothing changes
abbrev pub UnchangedIfFirstRefused : WindowState → WindowState → Place → List ℕ → Type 0
UnchangedIfFirstRefused old new p bytes = (ps : List OwnedText) (t : BackingArray) → IsTexts old.bytes p ps t
    → RefusesFirstBlock old new ps t bytes

-- a text is appended, or there is no space
abbrev pub PushesText : WindowState → WindowState → Place → List ℕ → Result (Unit {0}) Refusal → Type 0
PushesText old new p bytes result =
    (ps : List OwnedText) (t : BackingArray) → IsTexts old.bytes p ps t
    → MatchResult result (λ u. InsertsTextOk old new p ps t (length ps) bytes)
    (UndoesRequests old new (requested_text (live_of old.bytes) ps t bytes))

-- a text is inserted before an index, or the index is out of range, or there is no space
abbrev pub InsertsText : WindowState → WindowState → Place → ℕ → List ℕ → Result (Unit {0}) Refusal → Type 0
InsertsText old new p i bytes result =
    (ps : List OwnedText) (t : BackingArray) → IsTexts old.bytes p ps t
    → MatchResult result (λ u. (i ≤ length ps) × InsertsTextOk old new p ps t i bytes)
    (λ e. RefusesIndex old new (length ps + 1) i e ⊎
    ((i ≤ length ps) × UndoesRequests old new (requested_text (live_of old.bytes) ps t bytes) e))

-- a text replaces another, whose block is freed after the new one is allocated
pub record SetsTextOk (old new : WindowState) (p : Place) (ps : List OwnedText) (t : BackingArray) (i : ℕ)
    (bytes : List ℕ) : Type 0 where
  pub before : OwnedText
  pub found : slice_get ps i ≡ Some before
  pub text : OwnedText
  pub placed : placed_text (live_of old.bytes) bytes ≡ Some text
  pub now : ReplacesTexts old new p (option_to_list t.extent ++ option_to_list before.extent)
      (option_to_list t.extent ++ option_to_list text.extent) (slice_set ps i text) t

-- the text at an index is replaced, or the index is out of range, or there is no space
abbrev pub SetsText : WindowState → WindowState → Place → ℕ → List ℕ → Result (Unit {0}) Refusal → Type 0
SetsText old new p i bytes result =
    (ps : List OwnedText) (t : BackingArray) → IsTexts old.bytes p ps t
    → MatchResult result (λ u. SetsTextOk old new p ps t i bytes) (λ e. RefusesIndex old new (length ps) i e ⊎
    ((i < length ps) × LacksFit old new (placed_text (live_of old.bytes) bytes) e))

-- a text is removed, and its block is freed; the capacity stays
pub record ErasesTextOk (old new : WindowState) (p : Place) (ps : List OwnedText) (t : BackingArray) (i : ℕ) : Type
    0 where
  pub before : OwnedText
  pub found : slice_get ps i ≡ Some before
  pub now : ReplacesTexts old new p (option_to_list t.extent ++ option_to_list before.extent) (option_to_list t.extent)
      (remove ps i) t

-- the text at an index is removed and its block freed, or the index is out of range
abbrev pub ErasesText : WindowState → WindowState → Place → ℕ → Result (Unit {0}) Refusal → Type 0
ErasesText old new p i result =
    (ps : List OwnedText) (t : BackingArray) → IsTexts old.bytes p ps t
    → MatchResult result (λ u. ErasesTextOk old new p ps t i) (RefusesIndex old new (length ps) i)

-- the last text is removed and its block freed, or there is none
abbrev pub PopsText : WindowState → WindowState → Place → Result (Unit {0}) Refusal → Type 0
PopsText old new p result =
    (ps : List OwnedText) (t : BackingArray) → IsTexts old.bytes p ps t
    → MatchResult result (λ u. ErasesTextOk old new p ps t (length ps - 1)) (RefusesIndex old new (length ps) 0)

-- a vector of strings has capacity n or more, or there is no space and nothing changes
abbrev pub ReservesTexts : WindowState → WindowState → Place → ℕ → Result (Unit {0}) Refusal → Type 0
ReservesTexts old new p n result =
    (ps : List OwnedText) (t : BackingArray) → IsTexts old.bytes p ps t
    → MatchResult result (λ u. (w : BackingArray) × (grown_backing (live_of old.bytes) 16 n t ≡ Some w)
    × ReplacesTexts old new p (option_to_list t.extent) (option_to_list w.extent) ps w)
    (LacksFit old new (grown_backing (live_of old.bytes) 16 n t))

-- if the capacity is n or more already, nothing changes
abbrev pub ReservesNoTexts : WindowState → WindowState → Place → ℕ → Result (Unit {0}) Refusal → Type 0
ReservesNoTexts old new p n result = (ps : List OwnedText) (t : BackingArray)
    → IsTexts old.bytes p ps t → n ≤ t.capacity → (result ≡ Ok tt) × (new ≡ old)

-- the capacity of a vector of strings becomes its length
abbrev pub ShrinksTexts : WindowState → WindowState → Place → Type 0
ShrinksTexts old new p =
    (ps : List OwnedText) (t : BackingArray) → IsTexts old.bytes p ps t
    → let u = shrunk_backing (live_of old.bytes) 16 (length ps) t in
    ReplacesTexts old new p (option_to_list t.extent) (option_to_list u.extent) ps u

-- all texts are removed and their blocks freed; the capacity stays
abbrev pub ClearsTexts : WindowState → WindowState → Place → Type 0
ClearsTexts old new p =
    (ps : List OwnedText) (t : BackingArray) → IsTexts old.bytes p ps t
    → ReplacesTexts old new p (option_to_list t.extent ++ text_blocks ps) (option_to_list t.extent) [] t

-- all blocks of a vector of strings are freed
abbrev pub ReleasesTexts : WindowState → WindowState → Place → Type 0
ReleasesTexts old new p =
    (ps : List OwnedText) (t : BackingArray) → IsTexts old.bytes p ps t
    → ReplacesTexts old new p (option_to_list t.extent ++ text_blocks ps) [] [] no_backing

-- one or more texts replace the old ones: an array for exactly these and then their blocks are allocated, and then the
-- old blocks are freed
pub record AssignsTextsOk (old new : WindowState) (p : Place) (ps : List OwnedText) (t : BackingArray)
    (more : List (List ℕ)) : Type 0 where
  pub table : BackingArray
  pub array : new_array (live_of old.bytes) (length more) ≡ Some table
  pub texts : List OwnedText
  pub placed : placed_texts (elim table.extent [
    | None ↦ live_of old.bytes
    | Some x ↦ resized (live_of old.bytes) x
  ]) more ≡ Some texts
  pub now : ReplacesTexts old new p (option_to_list t.extent ++ text_blocks ps)
      (option_to_list table.extent ++ text_blocks texts) texts table

abbrev pub requested_texts : LiveSet → List (List ℕ) → Option (List OwnedText)
requested_texts live more = elim (new_array live (length more)) [
  | None ↦ None
  | Some u ↦ placed_texts (elim u.extent [ None ↦ live | Some x ↦ resized live x ]) more
]

-- all texts of a vector are replaced, or there is no space
abbrev pub AssignsTexts : WindowState → WindowState → Place → List (List ℕ) → Result (Unit {0}) Refusal → Type 0
AssignsTexts old new p [] result = (result ≡ Ok tt) × ClearsTexts old new p
AssignsTexts old new p (bytes ∷ more) result =
    (ps : List OwnedText) (t : BackingArray) → IsTexts old.bytes p ps t
    → MatchResult result (λ u. AssignsTextsOk old new p ps t (bytes ∷ more))
    (UndoesRequests old new (requested_texts (live_of old.bytes) (bytes ∷ more)))

-- makes a vector of texts whose capacity is its length, or frees what it allocated
abbrev pub MakesTexts : WindowState → WindowState → Place → List (List ℕ) → Result (Unit {0}) Refusal → Type 0
MakesTexts old new p [] result = (result ≡ Ok tt) × InitsTexts old new p
MakesTexts old new p (bytes ∷ more) result = MatchResult result
    (λ u. AssignsTextsOk old new p [] no_backing (bytes ∷ more))
    (UndoesRequests old new (requested_texts (live_of old.bytes) (bytes ∷ more)))
