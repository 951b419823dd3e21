-- The promises of the calls that build a segment from a dump, if its objects lack nothing.
use Rattle.std.specs.Prelude.{◌≡◌, ◌<◌, ◌≤◌, ◌+◌, ◌^◌, ⊤, ℕ, Bool, true, List, [], ◌∷◌, ◌++◌, codes, decimal, Option}
use Rattle.std.specs.Prelude.{Some, None, Result, Ok, length, IfOk, MatchResult}
use Rattle.std.specs.List.{AllByRecursion}
use Rattle.best_fit.specs.{Ends.EndsAt, Extents.free_bytes}
use Rattle.raw_region.specs.Memory.{cut_at}
use Rattle.seg_types.specs.declared.kinds.Class.{Class}
use Rattle.seg_types.specs.declared.kinds.Class.TheVariants.{Anonymous, Named, Unique}
use Rattle.segment_lang.specs.{Tokens.next_token, Lexing.Bare}
use Rattle.segment_manager.specs.{declared.modes.Mode.TheVariants.Write, Directory.Directory, Directory.empty}
use Rattle.segment_manager.specs.{Directory.live, blocks.Resized.shrunk, State.SegmentState, State.DenotesCurrent}
use Rattle.segment_dump.specs.{declared.counting.Count.Count, declared.counting.DumpPrefix.DumpPrefix}
use Rattle.segment_dump.specs.{declared.faults.LoadRefused.LoadRefused, Builders.AreLeft, Filling.StandsBuilt}
use Rattle.segment_dump.specs.{Items.DumpItem, Items.Items, Items.portable, Lines.IsShortLine, Loading.IsRequestedSize}
use Rattle.segment_dump.specs.{Loading.HasIndexes, Loading.HasNoSpareSlots}
use Rattle.segment_dump.specs.{Loading.asked_of, Loading.refusal_for, Order.all_items}
use Rattle.segment_dump.specs.{Reads.HasNoEnd, Reads.ended}
use Rattle.segment_dump.specs.{Texts.dump_text, Texts.end_text, Texts.items_text}
use Rattle.segment_dump.specs.Building.{AreExact, AreSortedItems, Site, kind_less, name_less}
use Rattle.segment_dump.specs.Need.{all_needs, prefix_room, item_needs, items_needs}

-- ---- the first lines

-- a line that begins with the word is read up to after it
pub record ReadsLead {E : Type 0} (token text rest : List ℕ) (result : Result (List ℕ) E) : Type 0 where
  pub reads : (line tail a : List ℕ) → HasNoEnd line → IsShortLine line → next_token line ≡ Some (Bare token, tail)
      → text ≡ ended line ++ a → (result ≡ Ok tail) × (rest ≡ a)

-- whatever is said of this in front is read, and what follows is left
pub record Takes {X E : Type 0} (say : X → List ℕ) (IsSaid : X
    → Type 0) (text rest : List ℕ) (result : Result X E) : Type 0 where
  pub takes : (x : X) (a : List ℕ) → IsSaid x → text ≡ say x ++ a → (result ≡ Ok x) × (rest ≡ a)

abbrev pub version_line : List ℕ
version_line = codes "segment dump 1"

-- the words of the line of the size
abbrev pub size_line : ℕ → List ℕ
size_line n = codes "size " ++ decimal n

abbrev pub entries_line : ℕ × ℕ → List ℕ
entries_line p = codes "indexes " ++ decimal p.0 ++ 0x20 ∷ decimal p.1

-- the line of the version
abbrev pub version_said : Unit {0} → List ℕ
version_said u = ended version_line

-- the line of the size
abbrev pub size_said : ℕ → List ℕ
size_said n = ended (size_line n)

-- the line of the entries
abbrev pub entries_said : ℕ × ℕ → List ℕ
entries_said p = ended (entries_line p)

-- the number is below 2^64
abbrev pub IsNumber : ℕ → Type 0
IsNumber n = n < 2 ^ 64

-- the rest of a text after the first two lines of a dump
pub record LeavesThird (text : List ℕ) (left : ℕ) : Type 0 where
  pub leaves : (n : ℕ) (rest : List ℕ) → IsNumber n → text ≡ version_said tt ++ (size_said n ++ rest)
      → left ≡ length rest

-- both numbers are below 2^64
abbrev pub AreNumbers : ℕ × ℕ → Type 0
AreNumbers p = IsNumber p.0 × IsNumber p.1

-- ---- the objects

abbrev pub site_of : DumpPrefix → ℕ → Site
site_of prefix size = record { named = prefix.named; unique = prefix.unique; size = size }

-- all of them, in a segment with nothing in it that is long enough
pub record MakesObjects {E : Type 0} (old new : SegmentState) (prefix : DumpPrefix) (text : List ℕ) (most room : ℕ)
    (result : Result (Unit {0}) E) : Type 0 where
  pub makes : (size : ℕ) (items : List DumpItem) → DenotesCurrent old.cut.bytes (empty size)
      → old.mode ≡ Write → prefix_room prefix.named prefix.unique + (all_needs item_needs items).room ≤ size
      → AreLeft (site_of prefix size) room [] items → text ≡ items_text items ++ end_text
      → length text ≤ most → (result ≡ Ok tt) × StandsBuilt new (site_of prefix size) items 0

-- ---- the test of the built segment

-- all items are of one class
abbrev pub AreOf : Class → List DumpItem → Type 0
AreOf c = AllByRecursion (λ (i : DumpItem). i.class ≡ c)

-- as they are of a directory
pub record AreOrderedItems (items : Items) : Type 0 where
  pub named : AreOf Named items.named
  pub unique : AreOf Unique items.unique
  pub anonymous : AreOf Anonymous items.anonymous
  pub by_name : AreSortedItems name_less items.named
  pub by_kind : AreSortedItems kind_less items.unique

-- the result is `Ok`
abbrev pub IsOk : {A E : Type 0} → Result A E → Type 0
IsOk result = MatchResult result (λ a. ⊤) (λ e. ⊥)

-- the requested size, or no free bytes if none is requested
abbrev pub HasRequestedSize : Directory → Option ℕ → Type 0
HasRequestedSize d None = free_bytes (live d) ≡ 0
HasRequestedSize d (Some size) = d.size ≡ size

-- the test succeeds for a segment of the requested size
pub record Sizes (s : SegmentState) (size : Option ℕ) (result : Bool) : Type 0 where
  pub sizes : (d : Directory) → DenotesCurrent s.cut.bytes d → HasRequestedSize d size → result ≡ true

-- a segment with just the items of a dump is found right
pub record JudgesDump (s : SegmentState) (text : List ℕ) (said : ℕ) (size : Option ℕ)
    (result : Result SegmentState LoadRefused) : Type 0 where
  pub judges : (site : Site) (items : Items) → StandsBuilt s site (all_items items) 0 → AreOrderedItems items
      → IsRequestedSize size site.size → text ≡ dump_text said items → IsOk result

-- ---- all of it

-- Whatever segment the text is the dump of, a load gives one if nothing is lacking for its objects.
pub record Succeeds (text : List ℕ) (capacity base : ℕ) (size : Option ℕ) (room : ℕ)
    (result : Result SegmentState LoadRefused) : Type 0 where
  pub succeeds : (b : List ℕ) (d : Directory) (n : ℕ) → DenotesCurrent b d → n < 2 ^ 64
      → text ≡ dump_text n (portable d)
      → refusal_for capacity base size room (record { size = n; needs = items_needs (portable d) }) ≡ None → IsOk result

-- a load of counted objects succeeds
pub record SucceedsOf (text : List ℕ) (capacity base : ℕ) (size : Option ℕ) (room : ℕ) (counted : Result Count ℕ)
    (result : Result SegmentState LoadRefused) : Type 0 where
  pub succeeds : (b : List ℕ) (d : Directory) (n : ℕ) → DenotesCurrent b d → n < 2 ^ 64
      → text ≡ dump_text n (portable d) → counted ≡ Ok (record { size = n; needs = items_needs (portable d) })
      → refusal_for capacity base size room (record { size = n; needs = items_needs (portable d) }) ≡ None → IsOk result

-- a load of counted objects lies in the region, as `LiesIn` says, if nothing is lacking
pub record LiesOf (text region : List ℕ) (base : ℕ) (size : Option ℕ) (room : ℕ) (counted : Result Count ℕ)
    (result : Result SegmentState LoadRefused) : Type 0 where
  pub lies : (b : List ℕ) (d : Directory) (n : ℕ) → DenotesCurrent b d → n < 2 ^ 64 → text ≡ dump_text n (portable d)
      → counted ≡ Ok (record { size = n; needs = items_needs (portable d) })
      → refusal_for (length region) base size room (record { size = n; needs = items_needs (portable d) }) ≡ None
      → IfOk result (λ s. EndsAt (cut_at region base (asked_of size n)) s.cut (length s.cut.bytes))

-- the indexes of a load of counted objects have as many places as entries, if nothing is lacking
pub record IndexesOf (text : List ℕ) (capacity base : ℕ) (size : Option ℕ) (room : ℕ) (counted : Result Count ℕ)
    (result : Result SegmentState LoadRefused) : Type 0 where
  pub indexes : (b : List ℕ) (d : Directory) (n : ℕ) → DenotesCurrent b d → n < 2 ^ 64
      → text ≡ dump_text n (portable d) → counted ≡ Ok (record { size = n; needs = items_needs (portable d) })
      → refusal_for capacity base size room (record { size = n; needs = items_needs (portable d) }) ≡ None
      → IfOk result (HasIndexes (length (portable d).named) (length (portable d).unique))

-- the segment of a load of counted objects has no spare slots, if nothing is lacking
pub record CapacitiesOf (text : List ℕ) (capacity base : ℕ) (size : Option ℕ) (room : ℕ) (counted : Result Count ℕ)
    (result : Result SegmentState LoadRefused) : Type 0 where
  pub exact : (b : List ℕ) (d : Directory) (n : ℕ) → DenotesCurrent b d → n < 2 ^ 64
      → text ≡ dump_text n (portable d) → counted ≡ Ok (record { size = n; needs = items_needs (portable d) })
      → refusal_for capacity base size room (record { size = n; needs = items_needs (portable d) }) ≡ None
      → IfOk result HasNoSpareSlots

-- the indexes of a segment keep their capacities
pub record KeepsIndexes (s : SegmentState) (result : Result SegmentState LoadRefused) : Type 0 where
  pub keeps : (d : Directory) → DenotesCurrent s.cut.bytes d
      → IfOk result (HasIndexes d.named.capacity d.unique.capacity)

-- a segment without spare slots gets none
pub record KeepsCapacities (s : SegmentState) (result : Result SegmentState LoadRefused) : Type 0 where
  pub keeps : (d : Directory) → DenotesCurrent s.cut.bytes d → AreExact d.objects → IfOk result HasNoSpareSlots

-- without the gap at the end, if no size is requested
abbrev pub trimmed : Directory → Option ℕ → Directory
trimmed d None = shrunk d
trimmed d (Some size) = d

-- without a size, the segment ends after its last block
pub record Trims (old new : SegmentState) (size : Option ℕ) : Type 0 where
  pub mode : new.mode ≡ Write
  pub trims : (d : Directory) → DenotesCurrent old.cut.bytes d → DenotesCurrent new.cut.bytes (trimmed d size)
