-- The construction of an object whose numbers come one by one: its blocks are allocated, it is filled, and then its
-- entry is added, or its blocks are freed.
use Rattle.seg_types.specs.Names as names
use Rattle.std.specs.Prelude.{◌≡◌, ℕ, ◌<◌, ◌*◌, ◌+◌, ◌⊎◌, ⊤, ℤ, Option, Some, None, Result, Ok, Err, MatchResult, List}
use Rattle.std.specs.Prelude.{[], insert, length, map, IsTrue}
use Rattle.std.specs.{List.list_all, Iterator.Yields, Iterator.YieldsThen}
use Rattle.raw_region.specs.{Format.current, Memory.WindowState, Memory.HasBytesAt, Memory.bytes_of}
use Rattle.block_tags.specs.declared.tile.Role.TheVariants.{Object as ObjectRole}
use Rattle.best_fit.specs.Heap.{AllocatesOk, ChangesBytes, AllocatesNoSpace, EncodesLiveSet}
use Rattle.best_fit.specs.Table.{BackingArray}
use Rattle.seg_types.specs.{declared.kinds.ScalarKind.ScalarKind, declared.kinds.Class.Class, declared.kinds.Kind.Kind}
use Rattle.seg_types.specs.{declared.refusals.Refusal.Refusal, Kinds.is_value, Kinds.size_of, Kinds.spelling}
use Rattle.seg_types.specs.declared.kinds.Class.TheVariants.{Anonymous}
use Rattle.seg_types.specs.declared.refusals.Refusal.TheVariants.{Exists, NoSpace, OutOfRange}
use Rattle.seg_index.specs.{declared.index.Index.Index, declared.keys.Entry.Entry, Held.IsIndexOf, Held.index_at}
use Rattle.seg_index.specs.{Lookups.FindsPosition, Sorted.CanAdd}
use Rattle.seg_index.specs.declared.keys.Lookup.TheVariants.{Absent, Found}
use Rattle.seg_index.specs.Growth.{AddKeeps, AddsEntry, CanGrow, grown_live}
use Rattle.seg_vector.specs.Vector.{spelled}
use Rattle.segment_manager.specs.declared.objects.pending_object.PendingObject.{PendingObject}
use Rattle.segment_manager.specs.declared.objects.pending_object.PendingEntry.{PendingEntry}
use Rattle.segment_manager.specs.{Directory.padded, indexes.Indexed.class_of_index, Layout.head_len}
use Rattle.segment_manager.specs.objects.NewObjects.{IsNewKeyOf, RequestsBlocksOk, RestoresBlocks, RequestsBlocksErr}
use Rattle.segment_manager.specs.objects.Standing.{IsHeadAt, room_for}

-- ---- pending

-- the key is absent from the index, and belongs at this place
abbrev pub IsAbsentAt : WindowState → Index → Entry → ℕ → Type 0
IsAbsentAt c i e at =
    (t : BackingArray) (hs : List ℕ) → IsIndexOf c (index_at i) t hs → FindsPosition (bytes_of c.bytes) e hs (Absent at)

-- the index has the key at this place
abbrev pub IsFoundAt : WindowState → Index → Entry → ℕ → Type 0
IsFoundAt c i e at =
    (t : BackingArray) (hs : List ℕ) → IsIndexOf c (index_at i) t hs → FindsPosition (bytes_of c.bytes) e hs (Found at)

-- A head is written in an allocated block, and the elements follow it.
pub record WritesObjectHeader (taken new : WindowState) (kind : Kind) (class : Class) (name : List ℕ)
    (count h at : ℕ) : Type 0 where
  pub start : at ≡ head_len + padded (length name)
  pub change : ChangesBytes current taken new h (head_len + padded (length name))
  pub head : IsHeadAt (bytes_of new.bytes) h kind count class name

-- an object is pending whose key gets an entry, with this many bytes for its value
pub record BeginsEntryOk (old new : WindowState) (key : names.Key) (kind : Kind) (count body h at : ℕ)
    (e : PendingEntry) : Type 0 where
  pub entry : Entry
  pub name : List ℕ
  pub is : IsNewKeyOf e.index entry key name kind
  pub absent : IsAbsentAt old e.index entry e.place
  pub taken : WindowState
  pub requested : RequestsBlocksOk old taken (index_at e.index) (room_for name body) e.growth.block h
  pub headed : WritesObjectHeader taken new kind (class_of_index e.index) name count h at

-- an anonymous object is pending
pub record BeginsAnonymous (old new : WindowState) (key : names.Key) (kind : Kind) (count body h at : ℕ) : Type 0 where
  pub is : key ≡ names.NoKey
  pub taken : WindowState
  pub takes : AllocatesOk current old taken (room_for [] body) ObjectRole h
  pub headed : WritesObjectHeader taken new kind Anonymous [] count h at

-- an object is pending: with an entry to add, or anonymous
abbrev pub BeginsObjectOk : WindowState → WindowState → names.Key → Kind → ℕ → ℕ → ℕ → ℕ → Option PendingEntry → Type 0
BeginsObjectOk old new key kind count body h at None = BeginsAnonymous old new key kind count body h at
BeginsObjectOk old new key kind count body h at (Some e) = BeginsEntryOk old new key kind count body h at e

-- an object already has the key
pub record RefusesKey (old new : WindowState) (key : names.Key) (kind : Kind) : Type 0 where
  pub index : Index
  pub entry : Entry
  pub name : List ℕ
  pub is : IsNewKeyOf index entry key name kind
  pub place : ℕ
  pub found : IsFoundAt old index entry place
  pub same : new ≡ old

-- one of the two blocks has no fit
pub record BeginsEntryErr (old new : WindowState) (key : names.Key) (kind : Kind) (body : ℕ) : Type 0 where
  pub index : Index
  pub entry : Entry
  pub name : List ℕ
  pub is : IsNewKeyOf index entry key name kind
  pub place : ℕ
  pub absent : IsAbsentAt old index entry place
  pub unmet : RequestsBlocksErr old new (index_at index) (room_for name body)

-- no object is pending: its key is in use, or a block has no fit
abbrev pub BeginsObjectErr : WindowState → WindowState → names.Key → Kind → ℕ → Refusal → Type 0
BeginsObjectErr old new key kind body Exists = RefusesKey old new key kind
BeginsObjectErr old new key kind body NoSpace =
    ((key ≡ names.NoKey) × AllocatesNoSpace old new (room_for [] body) ObjectRole)
    ⊎ BeginsEntryErr old new key kind body
BeginsObjectErr old new key kind body why = ⊥

-- the blocks of a new object are allocated and its head is written, or the call fails
abbrev pub BeginsObject : WindowState → WindowState → names.Key → Kind → ℕ → ℕ → Result PendingObject Refusal → Type 0
BeginsObject old new key kind count body result =
    MatchResult result (λ b. BeginsObjectOk old new key kind count body b.handle b.at b.entry)
    (BeginsObjectErr old new key kind body)

-- an object is pending under a key that no object has, whose entry belongs at this place
abbrev pub BeginsEntry : WindowState → WindowState → Index → ℕ → Entry → names.Key → List ℕ → Kind → ℕ → ℕ
    → Result PendingObject Refusal → Type 0
BeginsEntry old new i place e key name kind count body result =
    IsNewKeyOf i e key name kind → IsAbsentAt old i e place → BeginsObject old new key kind count body result

-- ---- filled

-- an item was taken, and its encoding is written
pub record WritesItem {S A : Type 0} (gives : S → Option A → S → Type 0) (whole : A → ℤ) (old new : WindowState)
    (k : ScalarKind) (from : ℕ) (before after : S) : Type 0 where
  pub item : A
  pub step : gives before (Some item) after
  pub value : IsTrue (is_value k (whole item))
  pub change : ChangesBytes current old new from (size_of k)
  pub content : HasBytesAt (bytes_of new.bytes) from (spelling k (whole item))

-- the next item is taken and written, or there was none
abbrev pub WritesNext : {S A : Type 0} → (S → Option A → S → Type 0)
    → (A → ℤ) → WindowState → WindowState → ScalarKind → ℕ → S → S → Result (Unit {0}) Refusal → Type 0
WritesNext gives whole old new k from before after wrote =
    MatchResult wrote (λ u. WritesItem gives whole old new k from before after)
    (λ why. (why ≡ OutOfRange) × (new ≡ old) × gives before None after)

-- the next item, if there is one, has the kind
abbrev pub IsNextOfKind : {S A : Type 0} → (S → Option A → S → Type 0) → (A → ScalarKind) → S → ScalarKind → Type 0
IsNextOfKind {S} {A} gives kind before k = (item : A) (after : S) → gives before (Some item) after → kind item ≡ k

-- Items were taken and written one after another: as many as `count`, or fewer if no more came.
pub record Fills {S A : Type 0} (gives : S → Option A → S → Type 0) (whole : A
    → ℤ) (old new : WindowState) (k : ScalarKind)
    (from count : ℕ) (before after : S) (filled : Result (Unit {0}) Refusal) : Type 0 where
  pub items : List A
  pub taken : MatchResult filled (λ u. Yields gives before items after × (length items ≡ count))
      (λ why. (why ≡ OutOfRange) × YieldsThen gives before items None after × (length items < count))
  pub values : IsTrue (list_all (is_value k) (map whole items))
  pub change : ChangesBytes current old new from (size_of k * length items)
  pub content : HasBytesAt (bytes_of new.bytes) from (spelled k (map whole items))

-- ---- finished

-- the block is allocated and written, and no entry leads to it yet
pub record WritesUnindexedForEntry (old now : WindowState) (h : ℕ) (e : PendingEntry) : Type 0 where
  pub len : ℕ
  pub taken : WindowState
  pub requested : RequestsBlocksOk old taken (index_at e.index) len e.growth.block h
  pub change : ChangesBytes current taken now h len

-- an anonymous object is written
pub record WritesUnindexedAlone (old now : WindowState) (h : ℕ) : Type 0 where
  pub len : ℕ
  pub taken : WindowState
  pub takes : AllocatesOk current old taken len ObjectRole h
  pub change : ChangesBytes current taken now h len

-- a block is allocated and written, and no entry leads to it yet
abbrev pub WritesUnindexedObject : WindowState → WindowState → ℕ → Option PendingEntry → Type 0
WritesUnindexedObject old now h None = WritesUnindexedAlone old now h
WritesUnindexedObject old now h (Some e) = WritesUnindexedForEntry old now h e

-- an index is ready for an entry that leads to an object: its key belongs at the place
pub record IsReadyForEntry (now : WindowState) (h : ℕ) (e : PendingEntry) : Type 0 where
  pub entry : CanAdd now e.index e.place h
  pub growth : CanGrow now (index_at e.index) e.growth.block

-- the index is ready for the object's entry, if it is to have one
abbrev pub IsReadyFor : WindowState → ℕ → Option PendingEntry → Type 0
IsReadyFor now h None = ⊤
IsReadyFor now h (Some e) = IsReadyForEntry now h e

-- the entry leads to the object
pub record AddsPendingEntry (now new : WindowState) (h : ℕ) (e : PendingEntry) : Type 0 where
  pub adds : (t : BackingArray) (hs : List ℕ) → IsIndexOf now (index_at e.index) t hs
      → AddsEntry now new (index_at e.index) t (insert hs e.place h) e.growth.block
  pub live : EncodesLiveSet current new.bytes (grown_live now (index_at e.index) e.growth.block)
  pub keeps : (t : BackingArray) (hs : List ℕ) → IsIndexOf now (index_at e.index) t hs
      → AddKeeps now new (index_at e.index) t e.growth.block

-- the entry leads to the object, if it is to have one
abbrev pub LeadsThere : WindowState → WindowState → ℕ → Option PendingEntry → Type 0
LeadsThere now new h None = new ≡ now
LeadsThere now new h (Some e) = AddsPendingEntry now new h e

-- all blocks allocated for the object are freed
abbrev pub GivesAllBack : WindowState → WindowState → ℕ → Option PendingEntry → Type 0
GivesAllBack now new h entry = (old : WindowState) → WritesUnindexedObject old now h entry → RestoresBlocks old new

-- ---- filled or not, with the blocks of its contents

-- a pending object is finished: if it was filled, an entry can lead to it; otherwise only its own block and the larger
-- block of its index are allocated
abbrev pub IsEnding : WindowState → ℕ → Option PendingEntry → Result (Unit {0}) Refusal → Type 0
IsEnding now h entry filled =
    MatchResult filled (λ u. IsReadyFor now h entry) (λ why. (old : WindowState)
    × WritesUnindexedObject old now h entry)

-- the entry is added, or all blocks are freed
abbrev pub Ends : WindowState → WindowState → ℕ → Option PendingEntry → Result (Unit {0}) Refusal → Result ℕ Refusal
    → Type 0
Ends now new h entry filled result =
    MatchResult filled (λ u. (result ≡ Ok h) × LeadsThere now new h entry)
    (λ why. (result ≡ Err why) × GivesAllBack now new h entry)
