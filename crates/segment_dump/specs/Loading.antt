-- What loading a dump owes.
use Rattle.std.specs.Prelude.{◌≡◌, ◌+◌, ◌^◌, ◌<◌, ◌≤◌, ⊤, ℕ, false, Option, Some, None, Result, Ok, Err, List, length}
use Rattle.std.specs.Prelude.{take, IfErr, IsTrue, not, nat_lt, if◌then◌else◌}
use Rattle.block_tags.specs.Format.{is_legal_size}
use Rattle.best_fit.specs.{Ends.EndsAt, Extents.free_bytes}
use Rattle.raw_region.specs.Memory.{cut_at}
use Rattle.segment_manager.specs.declared.modes.Mode.TheVariants.{Write}
use Rattle.segment_manager.specs.{Directory.Directory, Directory.live, State.SegmentState, State.DenotesCurrent}
use Rattle.segment_dump.specs.{Items.portable, Texts.dump_text, Need.items_needs, Comparing.IsDumpOf}
use Rattle.segment_dump.specs.{Places.line_column_behind, declared.counting.Count.Count, Counting.CountsDump}
use Rattle.segment_dump.specs.{Building.AreExact, Lines.BeginsWithPrefix}
use Rattle.segment_dump.specs.{Counting.IsCounted, declared.faults.BadDump.BadDump, declared.faults.LoadError.LoadError}
use Rattle.segment_dump.specs.{declared.faults.LoadRefused.LoadRefused, declared.faults.LoadError.TheVariants.LongText}
use Rattle.segment_dump.specs.declared.faults.LoadError.TheVariants.{BadDump as Bad, BadSize, RegionTooSmall, NoSpace}

-- the segment has the size that was asked for, or, if none was, nothing in it is free
abbrev pub HasSize : SegmentState → Option ℕ → Type 0
HasSize s None = (d : Directory) → DenotesCurrent s.cut.bytes d → free_bytes (live d) ≡ 0
HasSize s (Some size) = (d : Directory) → DenotesCurrent s.cut.bytes d → d.size ≡ size

-- a segment was made of which the text is the dump, for a size that it says itself, open for writing
pub record IsJudged (text : List ℕ) (size : Option ℕ) (s : SegmentState) : Type 0 where
  pub said : ℕ
  pub is : IsDumpOf s said text
  pub mode : s.mode ≡ Write
  pub size_is : HasSize s size

-- whatever directory the text is the dump of, that of the segment has the same objects: names, classes, kinds and
-- values
pub record HasObjectsOf (text : List ℕ) (s : SegmentState) : Type 0 where
  pub same : (b : List ℕ) (d : Directory) (n : ℕ) → DenotesCurrent b d → text ≡ dump_text n (portable d)
      → (e : Directory) → DenotesCurrent s.cut.bytes e → portable e ≡ portable d

-- the text is the dump of the segment, which has its objects and the size that was asked for
pub record IsLoaded (text : List ℕ) (size : Option ℕ) (s : SegmentState) : Type 0 where
  pub judged : IsJudged text size s
  pub objects : HasObjectsOf text s

-- the size that was asked for, or otherwise that of the text
abbrev pub asked_of : Option ℕ → ℕ → ℕ
asked_of None said = said
asked_of (Some size) said = size

-- Whatever segment the text is the dump of, the loaded one lies in the region from the base on. It was given the size
-- that was asked for, and may end before that. What lies before and after what it was given is as before.
pub record LiesIn (text region : List ℕ) (base : ℕ) (size : Option ℕ) (s : SegmentState) : Type 0 where
  pub lies : (b : List ℕ) (d : Directory) (n : ℕ) → DenotesCurrent b d → n < 2 ^ 64 → text ≡ dump_text n (portable d)
      → EndsAt (cut_at region base (asked_of size n)) s.cut (length s.cut.bytes)

-- the bytes denote a directory whose indexes have these capacities
pub record HasIndexes (named unique : ℕ) (s : SegmentState) : Type 0 where
  pub directory : Directory
  pub stands : DenotesCurrent s.cut.bytes directory
  pub named_is : directory.named.capacity ≡ named
  pub unique_is : directory.unique.capacity ≡ unique

-- Whatever segment the text is the dump of, each index of the loaded one has as many places as entries.
pub record HasExactIndexes (text : List ℕ) (s : SegmentState) : Type 0 where
  pub exact : (b : List ℕ) (d : Directory) (n : ℕ) → DenotesCurrent b d → n < 2 ^ 64 → text ≡ dump_text n (portable d)
      → HasIndexes (length (portable d).named) (length (portable d).unique) s

-- the bytes denote a directory whose vectors, strings and vectors of strings have as many slots as elements
pub record HasNoSpareSlots (s : SegmentState) : Type 0 where
  pub directory : Directory
  pub stands : DenotesCurrent s.cut.bytes directory
  pub exact : AreExact directory.objects

-- Whatever segment the text is the dump of, no vector, string or vector of strings of the loaded one has spare slots.
pub record HasExactCapacities (text : List ℕ) (s : SegmentState) : Type 0 where
  pub exact : (b : List ℕ) (d : Directory) (n : ℕ) → DenotesCurrent b d → n < 2 ^ 64 → text ≡ dump_text n (portable d)
      → HasNoSpareSlots s

-- ---- no segment is made

-- some place of the text
pub record IsTextPosition (text : List ℕ) (bad : BadDump) : Type 0 where
  pub at : ℕ
  pub inside : at ≤ length text
  pub place : (bad.line, bad.column) ≡ line_column_behind (take at text)

-- the size that was asked for, or otherwise that of the text
abbrev pub IsRequestedSize : Option ℕ → ℕ → Type 0
IsRequestedSize None n = ⊤
IsRequestedSize (Some size) n = n ≡ size

-- For every segment with this dump: its objects need more bytes than the size, and its own size is larger. So no such
-- segment has at most this size.
pub record HasNoSpace (text : List ℕ) (size : Option ℕ) : Type 0 where
  pub needed : (b : List ℕ) (d : Directory) (n : ℕ) → DenotesCurrent b d → n < 2 ^ 64
      → text ≡ dump_text n (portable d) → asked_of size n < (items_needs (portable d)).room
  pub longer : (b : List ℕ) (d : Directory) (n : ℕ) → DenotesCurrent b d → n < 2 ^ 64
      → text ≡ dump_text n (portable d) → asked_of size n < d.size

-- whatever segment the text is the dump of, it has a vector of strings with a text of more bytes than the room
pub record HasLongText (text : List ℕ) (room : ℕ) : Type 0 where
  pub longer : (b : List ℕ) (d : Directory) (n : ℕ) → DenotesCurrent b d → n < 2 ^ 64
      → text ≡ dump_text n (portable d) → room < (items_needs (portable d)).longest

-- why not: where the text is wrong, or what is wrong with the size or the room
abbrev pub IsLoadCause : List ℕ → List ℕ → ℕ → Option ℕ → ℕ → LoadError → Type 0
IsLoadCause text region base size room (Bad bad) = IsTextPosition text bad
IsLoadCause text region base size room BadSize = (n : ℕ) × IsRequestedSize size n × (is_legal_size n ≡ false)
IsLoadCause text region base size room RegionTooSmall = (n : ℕ) × IsRequestedSize size n × IsTrue (is_legal_size n)
    × (length region < base + n)
IsLoadCause text region base size room NoSpace = HasNoSpace text size
IsLoadCause text region base size room LongText = HasLongText text room

-- the text is wrong, at some place
abbrev pub IsWrong : List ℕ → LoadError → Type 0
IsWrong text (Bad bad) = IsTextPosition text bad
IsWrong text BadSize = ⊥
IsWrong text RegionTooSmall = ⊥
IsWrong text NoSpace = ⊥
IsWrong text LongText = ⊥

-- why no segment is begun for the objects of a dump, if anything is lacking
abbrev pub refusal_for : ℕ → ℕ → Option ℕ → ℕ → Count → Option LoadError
refusal_for capacity base size room count =
    let asked = asked_of size count.size in
    if not (is_legal_size asked) then Some BadSize
    else if nat_lt capacity (base + asked) then Some RegionTooSmall
    else if nat_lt asked count.needs.room then Some NoSpace
    else if nat_lt room count.needs.longest then Some LongText
    else None

-- why no segment is begun for objects that were counted
abbrev pub IsRefusalOf : ℕ → ℕ → Option ℕ → ℕ → Result Count ℕ → Option LoadError → Type 0
IsRefusalOf capacity base size room (Ok count) cause = cause ≡ refusal_for capacity base size room count
IsRefusalOf capacity base size room (Err left) cause = cause ≡ None

-- why a load is refused, but for a place of the text
abbrev pub cause_but_bad : LoadError → Option LoadError
cause_but_bad (Bad bad) = None
cause_but_bad BadSize = Some BadSize
cause_but_bad RegionTooSmall = Some RegionTooSmall
cause_but_bad NoSpace = Some NoSpace
cause_but_bad LongText = Some LongText

-- the cause, if it is no place
abbrev pub cause_in : Result SegmentState LoadRefused → Option LoadError
cause_in (Ok s) = None
cause_in (Err refused) = cause_but_bad refused.cause

-- Whatever segment the text is the dump of, but for a place of the text a load is refused exactly if something is
-- lacking for its objects, and for that.
pub record IsExact (text : List ℕ) (capacity base : ℕ) (size : Option ℕ) (room : ℕ) (cause : Option LoadError) :
    Type 0 where
  pub exact : (b : List ℕ) (d : Directory) (n : ℕ) → DenotesCurrent b d → n < 2 ^ 64 → text ≡ dump_text n (portable d)
      → cause ≡ refusal_for capacity base size room (record { size = n; needs = items_needs (portable d) })

-- if nothing is lacking, or the objects were not counted, only a place of the text is a reason
abbrev pub LoadsUnlessLacking : ℕ → ℕ → Option ℕ → ℕ → Result Count ℕ → Option LoadError → Type 0
LoadsUnlessLacking capacity base size room (Ok count) cause = refusal_for capacity base size room count ≡ None
    → cause ≡ None
LoadsUnlessLacking capacity base size room (Err left) cause = cause ≡ None

-- Of any text, a cause that is no place of it is what is lacking for objects that were counted: the text begins as a
-- dump does, and whatever segment it is the dump of, these are its needs.
pub record IsLacking (text : List ℕ) (capacity base : ℕ) (size : Option ℕ) (room : ℕ) (cause : LoadError) : Type 0 where
  pub count : Count
  pub counted : IsCounted text count
  pub counts : CountsDump text (Ok count)
  pub lacks : refusal_for capacity base size room count ≡ Some cause

-- the region comes back as it was, but that it may be let go if the text is wrong
abbrev pub IsBack : LoadError → List ℕ → Option (List ℕ) → Type 0
IsBack (Bad bad) region None = ⊤
IsBack (Bad bad) region (Some back) = back ≡ region
IsBack BadSize region back = back ≡ Some region
IsBack RegionTooSmall region back = back ≡ Some region
IsBack NoSpace region back = back ≡ Some region
IsBack LongText region back = back ≡ Some region

-- no segment is made of a dump, for this cause, and its region comes back
pub record IsNotLoaded (text region : List ℕ) (base : ℕ) (size : Option ℕ) (room : ℕ) (refused : LoadRefused) : Type
    0 where
  pub why : IsLoadCause text region base size room refused.cause
  pub back : IsBack refused.cause region refused.region

-- a segment was begun, and its region is let go: the text is wrong
pub record IsLetGo (text : List ℕ) (refused : LoadRefused) : Type 0 where
  pub why : IsWrong text refused.cause
  pub gone : refused.region ≡ None

-- a refused load lets its region go only if the first three lines of the text are as a dump has them
abbrev pub LetsGoOfDumps : List ℕ → Result SegmentState LoadRefused → Type 0
LetsGoOfDumps text result = IfErr result (λ refused. refused.region ≡ None → BeginsWithPrefix text)
