-- The parts of calls on a vector of texts: elements of an array, and the blocks of texts.
use Rattle.std.specs.Prelude.{◌≡◌, ◌≢◌, ℕ, ◌+◌, ◌-◌, ◌*◌, ◌%◌, ◌<◌, ◌≤◌, ◌⊎◌, IsTrue, IfSome, Option, Some, None, List}
use Rattle.std.specs.Prelude.{[], ◌∷◌, insert, length, option_map, option_to_list, Result, MatchResult}
use Rattle.std.specs.List.{AllByRecursion}
use Rattle.raw_region.specs.{Memory.Memory, Memory.WindowState, Memory.bytes_of, Memory.word_at, Format.current}
use Rattle.offset_link.specs.Link.{link_at}
use Rattle.best_fit.specs.Exchange.{ExchangesBlocks, KeepsLiveSet, WidensBlock}
use Rattle.best_fit.specs.{Fit.place, Fit.regrow, Extents.Extent, Extents.handle, declared.places.Place.Place}
use Rattle.best_fit.specs.Table.{BackingArray, has_backing, serves}
use Rattle.best_fit.specs.Heap.{AllocatesOk, ChangesBytes, IsHeap, KeepsGaps, SameBlock, extent_at, has_room, live_of}
use Rattle.block_tags.specs.declared.tile.Role.TheVariants.{Storage}
use Rattle.seg_types.specs.{declared.refusals.Refusal.Refusal, declared.refusals.Refusal.TheVariants.NoSpace}
use Rattle.seg_vector.specs.{Containers.place_at, TextsCalls.requested_text, TextsCalls.placed_text}
use Rattle.seg_vector.specs.{TextsCalls.text_blocks}
use Rattle.seg_vector.specs.Vector.{AreTextLinks, IsOwnedText, OwnedText, capacity_for_one, grown_backing}
use Rattle.seg_vector.specs.TextsCalls.{AreDistinct, RefusesFirstBlock, LacksFit, InsertsTextOk, IsTexts, ReplacesTexts}

-- some blocks are freed and others allocated, and nothing in the other blocks changes
abbrev pub SwapsBlocks : WindowState → WindowState → List Extent → List Extent → Type 0
SwapsBlocks old new gone come = ExchangesBlocks current old new 0 0 gone come

-- these blocks are freed, and nothing in the other blocks changes; if the list is empty, nothing changes
pub record FreesBlocks (old new : WindowState) (xs : List Extent) : Type 0 where
  pub change : SwapsBlocks old new xs []
  pub same : xs ≡ [] → new ≡ old

-- each of these extents is in use
abbrev pub AreLive : List ℕ → List Extent → Type 0
AreLive b xs = AllByRecursion (λ (x : Extent). extent_at (live_of b) (handle x) ≡ Some x) xs

-- the 16 bytes at an offset in a block begin with a text's link: to its block, which is in use, or null if it has none
pub record IsHeldElement (b : List ℕ) (array at : ℕ) (q : OwnedText) : Type 0 where
  pub heap : IsHeap current b
  pub aligned : at % 8 ≡ 0
  pub room : IsTrue (has_room (live_of b) array (at + 16))
  pub link : link_at (bytes_of b) (array + at) ≡ option_map handle q.extent
  pub live : AreLive b (option_to_list q.extent)

-- one block holds the elements of n texts; the blocks of these texts are in use, and all blocks are distinct
pub record AreHeldElements (b : List ℕ) (array n : ℕ) (ps : List OwnedText) : Type 0 where
  pub heap : IsHeap current b
  pub room : IsTrue (has_room (live_of b) array (16 * n))
  pub long : length ps ≡ n
  pub links : AreTextLinks (bytes_of b) array ps
  pub live : AreLive b (text_blocks ps)
  pub apart : AllByRecursion (λ (x : Extent). handle x ≢ array) (text_blocks ps)
  pub others : AreDistinct (text_blocks ps)

-- each of n links, at a distance of 16 bytes, is null or leads to a multiple of 16
abbrev pub AreEvenLinks : Memory → ℕ → ℕ → Type 0
AreEvenLinks m at n = (j : ℕ) → j < n → IfSome (link_at m (at + 16 * j)) (λ target. target % 16 ≡ 0)

-- the 16 bytes at an offset in a block can be an element of an array: a link and a length
pub record HasElement (b : List ℕ) (array at : ℕ) : Type 0 where
  pub whole : at % 8 ≡ 0
  pub room : IsTrue (has_room (live_of b) array (at + 16))

-- a block has room for an element at an offset, and the element's link is null or leads to a multiple of 16
pub record HasElementRoom (b : List ℕ) (array at : ℕ) (text : Option ℕ) : Type 0 where
  pub heap : IsHeap current b
  pub whole : at % 8 ≡ 0
  pub room : IsTrue (has_room (live_of b) array (at + 16))
  pub target : IfSome text (λ target. target % 16 ≡ 0)

-- the element at an offset now has this link and this length
pub record PutsElement (old new : WindowState) (at : ℕ) (text : Option ℕ) (len : ℕ) : Type 0 where
  pub change : ChangesBytes current old new at 16
  pub link : link_at (bytes_of new.bytes) at ≡ text
  pub len_word : word_at (bytes_of new.bytes) (at + 8) ≡ len

-- the new element at b is the old element at a
pub record SameElement (m m' : Memory) (a b : ℕ) : Type 0 where
  pub link : link_at m' b ≡ link_at m a
  pub len_word : word_at m' (b + 8) ≡ word_at m (a + 8)

-- n elements of an array are equal to n elements of another
abbrev pub SameElements : Memory → Memory → ℕ → ℕ → ℕ → Type 0
SameElements m m' a b n = (j : ℕ) → j < n → SameElement m m' (a + 16 * j) (b + 16 * j)

-- the n elements at b become equal to the old elements at a, and nothing else changes
pub record CarriesElements (old new : WindowState) (a b n : ℕ) : Type 0 where
  pub change : ChangesBytes current old new b (16 * n)
  pub carried : SameElements (bytes_of old.bytes) (bytes_of new.bytes) a b n

-- a block has n elements; a target in a block has room for them, and begins at or below them or after their end
pub record CanCarryDown (b : List ℕ) (from from_at to to_at n : ℕ) : Type 0 where
  pub heap : IsHeap current b
  pub from_whole : from_at % 8 ≡ 0
  pub to_whole : to_at % 8 ≡ 0
  pub source : IsTrue (has_room (live_of b) from (from_at + 16 * n))
  pub target : IsTrue (has_room (live_of b) to (to_at + 16 * n))
  pub even : AreEvenLinks (bytes_of b) (from + from_at) n
  pub apart : (to + to_at ≤ from + from_at) ⊎ (from + from_at + 16 * n ≤ to + to_at)

-- a block has n elements, and room for one more after them
pub record CanCarryUp (b : List ℕ) (array at n : ℕ) : Type 0 where
  pub heap : IsHeap current b
  pub whole : at % 8 ≡ 0
  pub room : IsTrue (has_room (live_of b) array (at + 16 * n + 16))
  pub even : AreEvenLinks (bytes_of b) (array + at) n

-- a block of storage is allocated, or there is no space and nothing changes
abbrev pub TakesStorage : WindowState → WindowState → ℕ → Result ℕ Refusal → Type 0
TakesStorage old new n result = MatchResult result (AllocatesOk current old new n Storage)
    (LacksFit old new (place (live_of old.bytes) n Storage))

-- ---- the block of a text

-- a text has a block that serves it, or is empty and has none
abbrev pub IsServed : OwnedText → Type 0
IsServed q = elim q.extent [
  | None ↦ q.bytes ≡ []
  | Some x ↦ (0 < length q.bytes) × IsTrue (serves x Storage (length q.bytes))
]

-- a block is allocated and holds the text; an empty text needs no block, and nothing changes
pub record PlacesTextOk (old new : WindowState) (bytes : List ℕ) (block : Option ℕ) : Type 0 where
  pub text : OwnedText
  pub placed : placed_text (live_of old.bytes) bytes ≡ Some text
  pub same : text.bytes ≡ bytes
  pub at : block ≡ option_map handle text.extent
  pub change : SwapsBlocks old new [] (option_to_list text.extent)
  pub nothing : text.extent ≡ None → new ≡ old
  pub owned : IsOwnedText (bytes_of new.bytes) text
  pub served : IsServed text

-- a text is stored in a new block, or there is no space; an empty text needs no block
abbrev pub PlacesText : WindowState → WindowState → List ℕ → Result (Option ℕ) Refusal → Type 0
PlacesText old new bytes result = MatchResult result (PlacesTextOk old new bytes)
    (LacksFit old new (placed_text (live_of old.bytes) bytes))

-- ---- an array of larger capacity

-- The old array is long enough, or is lengthened in place; or a new block is allocated while the old array is in use.
pub data ReservesArray (old new : WindowState) (o : Option Extent) (n g : ℕ) : Type 0 where
  widened : (w : WidensBlock current old new g n) → o ≡ Some w.before → ReservesArray old new o n g
  taken : (a : AllocatesOk current old new n Storage g) → regrow (live_of old.bytes) o n ≡ Some a.extent
      → ReservesArray old new o n g

-- an array for this many texts is reserved, or there is no space and nothing changes
abbrev pub AsksArray : WindowState → WindowState → Place → ℕ → Result ℕ Refusal → Type 0
AsksArray old new p n result =
    (ps : List OwnedText) (t : BackingArray) → IsTexts old.bytes p ps t
    → MatchResult result (ReservesArray old new t.extent (16 * n))
    (LacksFit old new (regrow (live_of old.bytes) t.extent (16 * n)))

-- the link and the capacity at a place are set
pub record SetsStorage (old new : WindowState) (p : Place) (g n : ℕ) : Type 0 where
  pub change : ChangesBytes current old new (place_at p) 24
  pub link : link_at (bytes_of new.bytes) (place_at p) ≡ Some g
  pub len_word : word_at (bytes_of new.bytes) (place_at p + 8) ≡ word_at (bytes_of old.bytes) (place_at p + 8)
  pub capacity : word_at (bytes_of new.bytes) (place_at p + 16) ≡ n

-- all three words at a place are set: the link, and the length and the capacity, which are equal
pub record SetsWords (old new : WindowState) (p : Place) (storage : Option ℕ) (n : ℕ) : Type 0 where
  pub change : ChangesBytes current old new (place_at p) 24
  pub link : link_at (bytes_of new.bytes) (place_at p) ≡ storage
  pub len_word : word_at (bytes_of new.bytes) (place_at p + 8) ≡ n
  pub capacity : word_at (bytes_of new.bytes) (place_at p + 16) ≡ n

-- An array was reserved, and other blocks were allocated since; the vector is still unchanged.
pub record IsArrayReserved (now : WindowState) (p : Place) (g n : ℕ) : Type 0 where
  pub first : WindowState
  pub mid : WindowState
  pub ps : List OwnedText
  pub t : BackingArray
  pub loose : List Extent
  pub texts : IsTexts first.bytes p ps t
  pub more : t.capacity < n
  pub asked : ReservesArray first mid t.extent (16 * n) g
  pub since : SwapsBlocks mid now [] loose
  pub still : loose ≡ [] → now ≡ mid

-- The vector has the reserved array and capacity n. Its elements are the same, and the blocks allocated since stay. If
-- the array is the old block and no other block was allocated, no byte of a gap changed.
pub record AdoptsOk (first old new : WindowState) (p : Place) (ps : List OwnedText) (t : BackingArray) (g n : ℕ)
    (loose : List Extent) : Type 0 where
  pub array : Extent
  pub at : g ≡ handle array
  pub grown : grown_backing (live_of first.bytes) 16 n t ≡ Some (record { capacity = n; extent = Some array })
  pub serves : IsTrue (serves array Storage (16 * n))
  pub change : ExchangesBlocks current first new (place_at p) 24 (option_to_list t.extent) (array ∷ loose)
  pub gaps : option_to_list t.extent ≡ array ∷ loose → KeepsGaps first new
  pub link : link_at (bytes_of new.bytes) (place_at p) ≡ Some g
  pub len_word : word_at (bytes_of new.bytes) (place_at p + 8) ≡ length ps
  pub capacity : word_at (bytes_of new.bytes) (place_at p + 16) ≡ n
  pub links : AreTextLinks (bytes_of new.bytes) g ps
  pub stay : AllByRecursion (SameBlock (bytes_of old.bytes) (bytes_of new.bytes)) loose

-- the vector of strings installs a reserved array
abbrev pub Adopts : WindowState → WindowState → Place → ℕ → ℕ → Type 0
Adopts old new p g n = (r : IsArrayReserved old p g n) → AdoptsOk r.first old new p r.ps r.t g n r.loose

-- ---- one text more

-- Since the state `first` the vector got the array y, with capacity m, and the text z got its block. The vector has its
-- old texts: z is not inserted yet.
pub record PreparesPut (first now : WindowState) (p : Place) (ps : List OwnedText) (t : BackingArray) (y : Extent)
    (m : ℕ) (z : OwnedText) : Type 0 where
  pub texts : IsTexts first.bytes p ps t
  pub table : IsTrue (has_backing Storage 16 (record { capacity = m; extent = Some y }))
  pub space : length ps < m
  pub change : ExchangesBlocks current first now (place_at p) 24 (option_to_list t.extent) (y ∷ option_to_list z.extent)
  pub gaps : option_to_list t.extent ≡ y ∷ option_to_list z.extent → KeepsGaps first now
  pub link : link_at (bytes_of now.bytes) (place_at p) ≡ Some (handle y)
  pub len_word : word_at (bytes_of now.bytes) (place_at p + 8) ≡ length ps
  pub capacity : word_at (bytes_of now.bytes) (place_at p + 16) ≡ m
  pub links : AreTextLinks (bytes_of now.bytes) (handle y) ps
  pub owned : IsOwnedText (bytes_of now.bytes) z
  pub served : IsServed z

-- the conditions for inserting this text's element at i
pub record IsPutAsked (now : WindowState) (p : Place) (i : ℕ) (block : Option ℕ) (len : ℕ) : Type 0 where
  pub first : WindowState
  pub ps : List OwnedText
  pub t : BackingArray
  pub y : Extent
  pub m : ℕ
  pub z : OwnedText
  pub ready : PreparesPut first now p ps t y m z
  pub inside : i ≤ length ps
  pub at : block ≡ option_map handle z.extent

-- a link and a length are inserted into the array, and the vector has one more text
abbrev pub InsertsElement : WindowState → WindowState → Place → ℕ → Option ℕ → ℕ → Type 0
InsertsElement old new p i block len =
    (first : WindowState) (ps : List OwnedText) (t : BackingArray) (y : Extent) (m : ℕ) (z : OwnedText)
    → PreparesPut first old p ps t y m z → i ≤ length ps → block ≡ option_map handle z.extent → len ≡ length z.bytes
    → ReplacesTexts first new p (option_to_list t.extent) (y ∷ option_to_list z.extent) (insert ps i z)
    (record { capacity = m; extent = Some y })

-- ---- a reservation that is undone

-- the length of an array's payload: 0 without a block
abbrev pub room_of : Option Extent → ℕ
room_of o = elim o [ None ↦ 0 | Some x ↦ x.len - 16 ]

-- the number is the payload length of the vector's array
abbrev pub HasArrayRoom : List ℕ → Place → ℕ → Type 0
HasArrayRoom b p room = (ps : List OwnedText) (t : BackingArray) → IsTexts b p ps t → room ≡ room_of t.extent

-- an array was reserved, and no block was allocated since
pub record IsToBeGivenUp (now : WindowState) (p : Place) (g room : ℕ) : Type 0 where
  pub first : WindowState
  pub ps : List OwnedText
  pub t : BackingArray
  pub n : ℕ
  pub texts : IsTexts first.bytes p ps t
  pub asked : ReservesArray first now t.extent (16 * n) g
  pub was : room ≡ room_of t.extent

-- a reservation is undone: the blocks in use and their bytes are as before it
abbrev pub GivesUp : WindowState → WindowState → Place → ℕ → ℕ → Type 0
GivesUp old new p g room =
    (first : WindowState) (ps : List OwnedText) (t : BackingArray) (n : ℕ) → IsTexts first.bytes p ps t
    → ReservesArray first old t.extent (16 * n) g → room ≡ room_of t.extent → KeepsLiveSet current first new

-- ---- a text inserted at an index within the length

-- there is no space for the text, and the reservation is undone
pub record RefusesPut (old new : WindowState) (ps : List OwnedText) (t : BackingArray) (bytes : List ℕ)
    (e : Refusal) : Type 0 where
  pub refusal : e ≡ NoSpace
  pub none : requested_text (live_of old.bytes) ps t bytes ≡ None
  pub restored : KeepsLiveSet current old new
  pub first : RefusesFirstBlock old new ps t bytes

-- a text is inserted into a vector of strings, or there is no space
abbrev pub PutsInto : WindowState → WindowState → Place → List OwnedText → BackingArray → ℕ → List ℕ
    → Result (Unit {0}) Refusal → Type 0
PutsInto old new p ps t i bytes result = MatchResult result (λ u. InsertsTextOk old new p ps t i bytes)
    (RefusesPut old new ps t bytes)

-- the capacity allows one more text
pub record HasSpareCapacity (b : List ℕ) (p : Place) (i : ℕ) : Type 0 where
  pub ps : List OwnedText
  pub t : BackingArray
  pub texts : IsTexts b p ps t
  pub inside : i ≤ length ps
  pub space : length ps < t.capacity

-- a text is inserted into a vector of strings whose capacity allows it, or there is no space
abbrev pub InsertsWithin : WindowState → WindowState → Place → ℕ → List ℕ → Result (Unit {0}) Refusal → Type 0
InsertsWithin old new p i bytes result = (ps : List OwnedText) (t : BackingArray)
    → IsTexts old.bytes p ps t → i ≤ length ps → length ps < t.capacity → PutsInto old new p ps t i bytes result

-- the length of a vector of texts is its capacity, and n is the capacity for one text more
pub record IsFullVector (b : List ℕ) (p : Place) (i n : ℕ) : Type 0 where
  pub ps : List OwnedText
  pub t : BackingArray
  pub texts : IsTexts b p ps t
  pub inside : i ≤ length ps
  pub full : t.capacity ≤ length ps
  pub wanted : n ≡ capacity_for_one (length ps) t.capacity

-- a text is inserted into a full vector of strings, with a larger array, or there is no space
abbrev pub InsertsGrowing : WindowState → WindowState → Place → ℕ → List ℕ → ℕ → Result (Unit {0}) Refusal → Type 0
InsertsGrowing old new p i bytes n result =
    (ps : List OwnedText) (t : BackingArray) → IsTexts old.bytes p ps t → i ≤ length ps → t.capacity ≤ length ps
    → n ≡ capacity_for_one (length ps) t.capacity → PutsInto old new p ps t i bytes result
