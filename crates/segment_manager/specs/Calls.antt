-- What the calls of a segment ensure beyond steps of the directory machine.
use Rattle.std.specs.Prelude.{◌≡◌, ◌<◌, ◌≤◌, ℕ, ◌+◌, ◌-◌, ◌%◌, false, Some, None, Result, Ok, Err, MatchResult, Option}
use Rattle.std.specs.Prelude.{option_map, slice_get, List, length, IsTrue}
use Rattle.std.specs.List.{AllByRecursion}
use Rattle.raw_region.specs.Format.{current}
use Rattle.raw_region.specs.Memory.{AreZero, SameSurroundings, bytes_of, cut_at, word_at}
use Rattle.block_tags.specs.{declared.tile.Tile.Tile, Format.is_legal_size, Tiles.tiles_of}
use Rattle.best_fit.specs.Extents.{Gap, Span as LiveSpan, gaps, spans}
use Rattle.best_fit.specs.FreeTree.{gap_head, span as span_of}
use Rattle.seg_types.specs.{declared.kinds.ScalarKind.ScalarKind, declared.kinds.ScalarKind.TheVariants.U8}
use Rattle.seg_types.specs.{declared.kinds.Kind.Kind, declared.refusals.Refusal.Refusal, Names.Key, Commands.Command}
use Rattle.seg_types.specs.declared.kinds.Kind.TheVariants.{Scalar, String, Vector, Map, Strings}
use Rattle.seg_types.specs.declared.refusals.Refusal.TheVariants.{NotFound, WrongKind}
use Rattle.segment_manager.specs.{declared.modes.Mode.Mode, declared.errors.CreateError.CreateError}
use Rattle.segment_manager.specs.{declared.errors.CreateRefused.CreateRefused, declared.blocks.tiles.TileInfo.TileInfo}
use Rattle.segment_manager.specs.{Layout.header_len, Answers.Answer, Answers.Refused, Step.step}
use Rattle.segment_manager.specs.declared.errors.CreateError.TheVariants.{BadSize, RegionTooSmall}
use Rattle.segment_manager.specs.Directory.{Object, Directory, empty, kind_of, live, object_at}
use Rattle.segment_manager.specs.State.{AnswersWith, SegmentState, DenotesCurrent}

-- An empty segment in the window of the size at the base. Its bytes are 0, except the front of the header, the tags,
-- and the links of the one gap. The header has the size, the free tree, and two indexes with capacity 0.
pub record CreatesOk (region : List ℕ) (base size : ℕ) (how : Mode) (s : SegmentState) : Type 0 where
  pub legal : IsTrue (is_legal_size size)
  pub fits : base + size ≤ length region
  pub mode : s.mode ≡ how
  pub place : SameSurroundings (cut_at region base size) s.cut
  pub stands : DenotesCurrent s.cut.bytes (empty size)
  -- the words before the gap's free bytes are null links
  pub links : (at : ℕ) → at % 8 ≡ 0 → 144 ≤ at → at < header_len + gap_head current → at < size - 16
      → word_at (bytes_of s.cut.bytes) at ≡ 1
  pub zeros : AreZero (bytes_of s.cut.bytes) (header_len + gap_head current) (size - 16)

-- the reason why no segment of the size can be created
abbrev pub IsWhy : List ℕ → ℕ → ℕ → CreateError → Type 0
IsWhy region base size BadSize = is_legal_size size ≡ false
IsWhy region base size RegionTooSmall = IsTrue (is_legal_size size) × (length region < base + size)

-- no segment is created, and the region is returned unchanged
pub record CreatesErr (region : List ℕ) (base size : ℕ) (refused : CreateRefused) : Type 0 where
  pub why : IsWhy region base size refused.cause
  pub region_same : refused.region ≡ region

-- an empty segment is created in a region, or the region is returned unchanged
abbrev pub Creates : List ℕ → ℕ → ℕ → Mode → Result SegmentState CreateRefused → Type 0
Creates region base size mode result =
    MatchResult result (CreatesOk region base size mode) (CreatesErr region base size)

-- a property of the object of a key, or `NotFound`
abbrev pub told_at : {A : Type 0} → Directory → Key → (Object → A) → Result A Refusal
told_at d key say = elim (object_at d key) [ None ↦ Err NotFound | Some o ↦ Ok (say o) ]

-- the kind of an object
abbrev pub kind_at : Directory → Key → Result Kind Refusal
kind_at d key = told_at d key (λ (o : Object). kind_of o.value)

-- the kind of the elements of objects of a kind
abbrev pub elements_of : Kind → Result ScalarKind Refusal
elements_of (Scalar k) = Ok k
elements_of String = Ok U8
elements_of (Vector k) = Ok k
elements_of (Map k v) = Err WrongKind
elements_of Strings = Err WrongKind

-- the kind of the elements of a key's object
abbrev pub elements_at : Directory → Key → Result ScalarKind Refusal
elements_at d key = elim (object_at d key) [ None ↦ Err NotFound | Some o ↦ elements_of (kind_of o.value) ]

-- the answer of a command for an object whose elements are scalars, or its error for another object
abbrev pub scalar_reply : Mode → Directory → Key → Command → Answer
scalar_reply mode d key c = elim (elements_at d key) [ Err r ↦ Refused r | Ok k ↦ (step mode d c).0 ]

-- an extent or a gap, as a call returns it
abbrev pub as_span : TileInfo → LiveSpan
as_span s = record { offset = s.offset; len = s.len; use_of = s.use_of }

-- the result is the block or gap at an index of the directory, or none if there are fewer
pub record IsTileOfIndex (s : SegmentState) (index : ℕ) (result : Option Tile) : Type 0 where
  pub tile : result ≡ slice_get (tiles_of (bytes_of s.cut.bytes) (length s.cut.bytes)) index
  pub span : AnswersWith s (λ d. slice_get (spans (live d)) index) (option_map span_of result)

-- in each gap all bytes after its tag and its links are 0
pub record HasZeroGaps (s : SegmentState) : Type 0 where
  pub zeros : (d : Directory) → DenotesCurrent s.cut.bytes d
      → AllByRecursion (λ (g : Gap). AreZero (bytes_of s.cut.bytes) (g.offset + gap_head current) (g.offset + g.len))
      (gaps (live d))
