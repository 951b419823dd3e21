-- How a segment is made of a dump, in a file that is not there: what the disk is asked, in order, and how it ends.
use Rattle.std.specs.Prelude.{◌≡◌, ◌≢◌, ◌⊎◌, ◌^◌, ◌<◌, ◌≤◌, ⊤, ℕ, true, false, List, [], ◌∷◌, Option, Some, None}
use Rattle.std.specs.Prelude.{Result, Ok, Err, MatchResult, length, min}
use Rattle.raw_region.specs.Device.{ReaderHistory, ReadDelta, read_delta}
use Rattle.raw_region.specs.Refusals.{out_of_memory_of}
use Rattle.block_tags.specs.Format.{is_legal_size}
use Rattle.segment_manager.specs.Directory.{Directory}
use Rattle.segment_manager.specs.State.{SegmentState, DenotesCurrent}
use Rattle.segment_scripts.specs.RunOutcome.{MeetsEndOnce}
use Rattle.segment_dump.specs.Counting.{AreCountable, BeginsWithSize}
use Rattle.segment_dump.specs.Items.{Items, portable}
use Rattle.segment_dump.specs.Loading.{IsLoaded, IsLoadCause, asked_of}
use Rattle.segment_dump.specs.Need.{items_needs}
use Rattle.segment_dump.specs.Notes.{without_notes}
use Rattle.segment_dump.specs.Texts.{dump_text}
use Rattle.segment_dump.specs.declared.faults.LoadError.{LoadError}
use Rattle.segment_dump.specs.declared.faults.LoadError.TheVariants as load
use Rattle.image_check.specs.declared.errors.MemoryFault.TheVariants.{BlockMap, Bytes}
use Rattle.segment_cli.specs.declared.faults.SessionFault.{SessionFault}
use Rattle.segment_cli.specs.declared.faults.SessionFault.TheVariants.{Image as Refused, BadSize, RegionTooSmall}
use Rattle.segment_cli.specs.declared.faults.SessionFault.TheVariants.{OutOfMemory, ReadFault, WriteFault}
use Rattle.segment_cli.specs.declared.faults.SessionFault.TheVariants.{ScriptTooLong}
use Rattle.segment_commands.specs.declared.command_faults.CommandFault.{CommandFault}
use Rattle.segment_commands.specs.declared.command_faults.CommandFault.TheVariants.{BadDump, NoSpace, Exists, InUse}
use Rattle.segment_commands.specs.declared.command_faults.CommandFault.TheVariants.{Session}
use Rattle.segment_commands.specs.Faults.{IsNoMemory, region_refused}
use Rattle.segment_disk.specs.declared.presence.Presence.TheVariants.{There}
use Rattle.segment_disk.specs.Events.{CreateMode, New, Replacement, Event, Looked, After}
use Rattle.segment_file.specs.SegmentFiles.{IsBehindLook}
use Rattle.segment_commands.specs.{Commands.RefusesFor, Commands.WritesMade, Holding.HoldsLock}

-- ---- a text that is read whole

-- the most bytes that a dump may have
abbrev pub dump_limit : ℕ
dump_limit = 17179869184

-- the text is all that was given, to the end, no more than a dump may have, and no read failed
pub record IsReadWhole (given : ReadDelta) (text : List ℕ) : Type 0 where
  pub bytes : given.bytes ≡ text
  pub within : length text ≤ dump_limit
  pub ended : given.ended ≡ true
  pub sound : given.failed ≡ false

-- more was given than a dump may have
pub record IsAboveDumpLimit (given : ReadDelta) : Type 0 where
  pub long : dump_limit < length given.bytes
  pub sound : given.failed ≡ false

-- why it was not read whole
abbrev pub IsWhyUnread : ReadDelta → SessionFault → Type 0
IsWhyUnread given (Refused c) = ⊥
IsWhyUnread given BadSize = ⊥
IsWhyUnread given RegionTooSmall = ⊥
IsWhyUnread given (OutOfMemory (Bytes refusal)) =
    (given.failed ≡ false) × (refusal ≡ out_of_memory_of (length given.bytes))
IsWhyUnread given (OutOfMemory (BlockMap refusal)) = ⊥
IsWhyUnread given ReadFault = given.failed ≡ true
IsWhyUnread given WriteFault = ⊥
IsWhyUnread given ScriptTooLong = IsAboveDumpLimit given

-- ---- a segment that is made of it, but for the notes at its end

-- why a load is refused, as the program answers it
abbrev pub load_fault : ℕ → LoadError → CommandFault
load_fault needed (load.BadDump bad) = BadDump bad
load_fault needed load.BadSize = Session BadSize
load_fault needed load.RegionTooSmall = Session RegionTooSmall
load_fault needed load.NoSpace = NoSpace needed
load_fault needed load.LongText = NoSpace needed

-- whatever objects the text is the dump of, they need this many bytes
pub record NeedsRoom (text : List ℕ) (needed : ℕ) : Type 0 where
  pub needs : (n : ℕ) (items : Items) → n < 2 ^ 64 → AreCountable items → without_notes text ≡ dump_text n items
      → needed ≡ (items_needs items).room

-- the region has room for a segment of the size that was asked for
abbrev pub HasRoomForSize : Option ℕ → List ℕ → Type 0
HasRoomForSize None region = ⊤
HasRoomForSize (Some size) region = min size 1073741824 ≤ length region

-- a load in a region with room for the size, and with room for each text, was refused
pub record IsLoadRefused (text : List ℕ) (size : Option ℕ) (fault : CommandFault) : Type 0 where
  pub region : List ℕ
  pub roomy : HasRoomForSize size region
  pub room : ℕ
  pub wide : min (length text) 1073741824 ≤ room
  pub cause : LoadError
  pub why : IsLoadCause (without_notes text) region 0 size room cause
  pub needed : ℕ
  pub needs : NeedsRoom text needed
  pub fault_is : fault ≡ load_fault needed cause

-- the size is the requested one, or otherwise the one in the second line of the text, or 0 if the text has none
abbrev pub IsRequestedOrWritten : List ℕ → Option ℕ → ℕ → Type 0
IsRequestedOrWritten text None wanted = BeginsWithSize text wanted ⊎ (wanted ≡ 0)
IsRequestedOrWritten text (Some size) wanted = wanted ≡ size

-- for the dump of a segment, the size is the requested one, or otherwise the size of that segment
abbrev pub IsWantedSize : List ℕ → Option ℕ → ℕ → Type 0
IsWantedSize text size wanted = (n : ℕ) (items : Items) → n < 2 ^ 64 → without_notes text ≡ dump_text n items
    → wanted ≡ asked_of size n

-- memory was refused: for a buffer as long as the text, or for a region of the size that the segment gets
pub record IsLoadUnallocated (text : List ℕ) (size : Option ℕ) (fault : CommandFault) : Type 0 where
  pub asked : ℕ
  pub request : (asked ≡ length text) ⊎ (IsRequestedOrWritten text size asked × IsWantedSize text size asked)
  pub refused : fault ≡ Session (region_refused asked)

-- the text is the dump of the segment, or there is none: for a reason of the load, or since memory was refused
abbrev pub LoadsSegment : List ℕ → Option ℕ → Result SegmentState CommandFault → Type 0
LoadsSegment text size result =
    MatchResult result (IsLoaded (without_notes text) size)
    (λ fault. IsLoadRefused text size fault ⊎ IsLoadUnallocated text size fault)

-- the text is the dump of a segment, and a segment of the size that is wanted can have its objects
pub record IsFitting (text : List ℕ) (size : Option ℕ) : Type 0 where
  pub bytes : List ℕ
  pub directory : Directory
  pub stands : DenotesCurrent bytes directory
  pub said : ℕ
  pub small : said < 2 ^ 64
  pub dump : without_notes text ≡ dump_text said (portable directory)
  pub legal : is_legal_size (asked_of size said) ≡ true
  pub room : (items_needs (portable directory)).room ≤ asked_of size said

-- a segment is made, if memory is given
abbrev pub IsMadeIfGiven : Result SegmentState CommandFault → Type 0
IsMadeIfGiven result = MatchResult result (λ segment. ⊤) IsNoMemory

-- a segment may have the size that was asked for, if one was
abbrev pub IsSizeFit : Option ℕ → Type 0
IsSizeFit None = ⊤
IsSizeFit (Some size) = is_legal_size size ≡ true

module _ (size : Option ℕ) (script script' : ReaderHistory) (result : Result SegmentState CommandFault) where
  -- no segment has the size that was asked for, and nothing was read
  pub record LoadsDumpBadSize : Type 0 where
    pub asked : ℕ
    pub asks : size ≡ Some asked
    pub illegal : is_legal_size asked ≡ false
    pub unasked : script' ≡ script
    pub refused : result ≡ Err (Session BadSize)

  -- the dump was not read whole
  pub record LoadsDumpUnread : Type 0 where
    pub fit : IsSizeFit size
    pub fault : SessionFault
    pub why : IsWhyUnread (read_delta script script') fault
    pub refused : result ≡ Err (Session fault)

  -- the dump was read whole, and a segment was made of it or not
  pub record LoadsDumpRead : Type 0 where
    pub fit : IsSizeFit size
    pub text : List ℕ
    pub read : IsReadWhole (read_delta script script') text
    pub loads : LoadsSegment text size result
    pub makes : IsFitting text size → IsMadeIfGiven result

  -- an illegal size, and nothing is read; a dump that was not read whole; or one that was
  abbrev pub LoadsDump : Type 0
  LoadsDump = LoadsDumpBadSize ⊎ (LoadsDumpUnread ⊎ LoadsDumpRead)

-- ---- the end that the reader of a dump met

-- the reader of the dump met its end in this call, once, if the dump has ended; a load reads nothing if no segment has
-- the size, if something is at the path, or if another has the lock
abbrev pub MeetsDumpEnd : Option ℕ → Result (Unit {0}) CommandFault → ReaderHistory → ReaderHistory → Type 0
MeetsDumpEnd size result old new =
    IsSizeFit size → result ≢ Err Exists → result ≢ Err InUse → MeetsEndOnce old new

-- ---- `load`

module _ {D : Type 0} (step : D → Event → D → Type 0) (old new : D) (path : List ℕ) (size : Option ℕ)
    (script script' : ReaderHistory) (result : Result (Unit {0}) CommandFault) where
  -- the image of the segment of a dump was written, or that failed
  abbrev pub LoadsOk : CreateMode → Type 0
  LoadsOk how = WritesMade step old new path how (λ s. LoadsDump size script script' (Ok s)) result

  -- there is no segment, and the disk was not asked for anything; or its image was written
  abbrev pub LoadsInto : CreateMode → Type 0
  LoadsInto how = RefusesFor old new (λ fault. fault) (λ fault. LoadsDump size script script' (Err fault)) result
      ⊎ LoadsOk how

module _ {D : Type 0} (step : D → Event → D → Type 0) (old new : D) (path : List ℕ) (size : Option ℕ)
    (script script' : ReaderHistory) (result : Result (Unit {0}) CommandFault) where
  -- something is there under the path, and nothing else was asked for
  pub record LoadsNothing : Type 0 where
    pub asked : After step old (Looked path There ∷ []) new
    pub unasked : script' ≡ script
    pub refused : result ≡ Err Exists

  -- `load`: something is there; no segment and no file; or its image is in a new file
  abbrev pub RunsLoad : Type 0
  RunsLoad = LoadsNothing ⊎ IsBehindLook step old path (λ found. found ≢ There) (λ looked.
      LoadsInto step looked new path size script script' result New)

  -- If a dump was read that fits, of whatever segment, and with whatever notes, its segment is in the file, but for
  -- something that is there, memory that is not given, or a file that cannot be written.
  pub record LoadsWhatFits : Type 0 where
    pub loads : (text : List ℕ) → IsReadWhole (read_delta script script') text → IsFitting text size
        → LoadsNothing ⊎ (((fault : CommandFault) × IsNoMemory fault × (result ≡ Err fault))
        ⊎ IsBehindLook step old path (λ found. found ≢ There) (λ looked.
        LoadsOk step looked new path size script script' result New))

-- `load --replace`: a new file, if nothing is there or that can't be known; and otherwise the image takes the place of
-- the file, whose right is taken first
abbrev pub RunsLoadOver : {D : Type 0} → (D → Event → D → Type 0) → D → D → List ℕ → Option ℕ → ReaderHistory
    → ReaderHistory → Result (Unit {0}) CommandFault → Type 0
RunsLoadOver step old new path size script script' result =
    IsBehindLook step old path (λ found. found ≢ There) (λ looked.
    RunsLoad step looked new path size script script' result)
    ⊎ IsBehindLook step old path (λ found. found ≡ There) (λ looked.
    HoldsLock step looked new path (script' ≡ script) (λ held done.
    LoadsInto step held done path size script script' result Replacement) result)
