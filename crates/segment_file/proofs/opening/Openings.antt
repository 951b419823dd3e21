-- What is answered of an image that a region has room for.
use Rattle.std.specs.Prelude.{IfErr}
use Rattle.std.proofs.Common.{◌≡◌, ◌<◌, ◌≤◌, ◌+◌, ℕ, inl, inr, List, [], ◌++◌, length, drop, take, max}
use Rattle.std.proofs.Common.{Result, Ok, Err, false, refl, sym, ap, subst, ◌∙◌, arith}
use Rattle.std.proofs.Math.Nat.{le-max_right}
use Rattle.std.proofs.lemmas.Bool.{cases_lt, le-ltb, lt-ltb}
use Rattle.std.proofs.lemmas.List.{append-nil, append_assoc, drop_at, length-take, take_at}
use Rattle.raw_region.specs.Device.{AppendsBytes, ReaderHistory, ReadDelta, read_delta}
use Rattle.segment_manager.specs.declared.modes.Mode.{Mode}
use Rattle.segment_manager.specs.State.{SegmentState}
use Rattle.image_check.specs.declared.errors.MemoryFault.TheVariants.{BlockMap, Bytes}
use Rattle.image_check.specs.declared.errors.OpenError.{OpenError}
use Rattle.image_check.specs.declared.errors.OpenError.TheVariants.{Image, OutOfMemory, ReadFault, RegionTooSmall}
use Rattle.image_check.specs.declared.errors.OpenRefused.{OpenRefused}
use Rattle.image_check.specs.declared.versions.AcceptedVersions.{AcceptedVersions}
use Rattle.image_check.specs.Causes.{IsShown}
use Rattle.image_check.specs.EarlyTests.{size_word}
use Rattle.image_check.specs.Formats.{format_in}
use Rattle.image_check.specs.Opening.{IsTooSmallFor, IsOpenCause, Opens, cause_of}
use Rattle.image_check.proofs.Facts.{all_decided}
use Rattle.grow_shrink.specs.LargerRegion.{region_len}
use Rattle.segment_disk.specs.Events.{nothing_given}
use Rattle.segment_file.specs.Opening.{IsOpenedBy, IsUnopened, OpensIn, OpensReader, largest_request}
use Rattle.segment_file.specs.ReadingOn.{IsReadUpTo, replayed, said_by}
use Rattle.segment_file.proofs.opening.Fronts.{few-undecided, image-said, image-size, said-is, said-most, said-says}
use Rattle.segment_file.proofs.opening.Fronts.{said-stays, too-small-says}
use Rattle.segment_file.proofs.opening.Rooms.{region-holds}

-- ---- the answers of image_check

module _ (versions : AcceptedVersions) (image : ReadDelta) (region : List ℕ) (mode : Mode) where
  abbrev format : ℕ
  format = format_in versions image.bytes

  roomless : IsTooSmallFor format image 0 (length region) → said_by versions image.bytes ≤ length region → ⊥
  roomless t room =
      let says = too-small-says format image (length region) t in
      let said = said-is versions image.bytes says.long says.front in
      let small = t.small in omega (arith, said, small, room)

  unopened-by : (why : OpenError) → IsOpenCause format image 0 (length region) why
      → IsShown format image.bytes why → said_by versions image.bytes ≤ length region
      → (most : ℕ) → IsUnopened format most image why
  unopened-by (Image v) w s room most = record { unfit = w; shown = s }
  unopened-by RegionTooSmall w s room most = absurd (roomless w room)
  unopened-by (OutOfMemory (Bytes refusal)) w s room most = absurd w.1
  unopened-by (OutOfMemory (BlockMap refusal)) w s room most = record { unfit = w; shown = tt }
  unopened-by ReadFault w s room most = record { unfit = w; shown = tt }

  -- the answer for an image that the region has room for
  pub opens-in : (result : Result SegmentState OpenRefused) → Opens format image region 0 mode result
      → IfErr result (λ refused. IsShown format image.bytes refused.cause)
      → said_by versions image.bytes ≤ length region → OpensIn versions image region mode (cause_of result)
  opens-in (Ok s) o shown room = o.answers
  opens-in (Err refused) o shown room = unopened-by refused.cause o.answers.why shown room

-- ---- a front that is given again

module _ (format : ℕ) (image : ReadDelta) (capacity : ℕ) (few : length image.bytes < 24) (open_still : image.ended
    ≡ false) (sound : image.failed ≡ false) where
  yet-by : (why : OpenError) → IsOpenCause format image 0 capacity why → ⊥
  yet-by (Image v) w = elim w.right [
    | inl d ↦ (let ended = d.0 in cc)
    | inr d ↦ (all_decided format image.bytes).none (few-undecided format image.bytes (omega (arith, few))) v.class d
  ]
  yet-by RegionTooSmall w = let long = w.read in omega (arith, few, long)
  yet-by (OutOfMemory m) w = let ended = w.0.read.ended in cc
  yet-by ReadFault w = let failed = w.failed in cc

  -- of fewer than 24 bytes with no end and no fault nothing is answered
  nothing-yet : (region : List ℕ) (mode : Mode) (result : Result SegmentState OpenRefused) → length region ≡ capacity
      → Opens format image region 0 mode result → ⊥
  nothing-yet region mode (Ok s) e o = let ended = o.answers.read.ended in cc
  nothing-yet region mode (Err refused) e o =
      yet-by refused.cause (subst (λ (n : ℕ). IsOpenCause format image 0 n refused.cause) e o.answers.why)

module _ (front front' : List ℕ) (given : ℕ) (inner inner' : ReaderHistory) (long : length front
    ≡ 24) (long' : length front' ≡ 24) (sound : inner.failures ≡ 0) where
  abbrev before : ReaderHistory
  before = record inner { bytes = replayed 0 front inner.bytes }

  abbrev after : ReaderHistory
  after = record inner' { bytes = replayed given front' inner'.bytes }

  abbrev image : ReadDelta
  image = read_delta before after

  first-length : length (front ++ []) ≡ 24
  first-length = rw append-nil long

  -- the front stays
  pub front-kept : AppendsBytes before.bytes after.bytes → front' ≡ front
  front-kept grows =
      sym (take_at front' _ 24 long') ∙ (ap (λ (b : List ℕ). take 24 b) grows
      ∙ (ap (λ (b : List ℕ). take 24 b) (append_assoc front [] _) ∙ take_at front _ 24 long))

  -- what the reader gave begins with the front
  pub contents-kept : AppendsBytes before.bytes after.bytes → AppendsBytes front' inner'.bytes
      → AppendsBytes front inner'.bytes
  contents-kept grows contents = subst (λ (b : List ℕ). AppendsBytes b inner'.bytes) (front-kept grows) contents

  module _ (versions : AcceptedVersions) (region : List ℕ) (mode : Mode) (result : Result SegmentState OpenRefused)
      (unread : given < 24 → IsReadUpTo inner' front' false) (contents : AppendsBytes front' inner'.bytes)
      (grows : AppendsBytes before.bytes after.bytes)
      (opens : Opens (format_in versions image.bytes) image region 0 mode result)
      (shown : IfErr result (λ refused. IsShown (format_in versions image.bytes) image.bytes refused.cause))
      (room : said_by versions front ≤ length region) where
    again-bytes : (b : List ℕ) → drop (length (front ++ [])) (front' ++ b) ≡ b
    again-bytes b = drop_at front' b (length (front ++ [])) (long' ∙ sym first-length)

    in-front : given < 24 → ⊥
    in-front few =
        let at = unread few in
        let bytes : image.bytes ≡ take given front' = rw lt-ltb (again-bytes (take given front')) in
        let count = length-take given front' in
        let sized = ap length bytes in
        nothing-yet (format_in versions image.bytes) image (length region) (omega (arith, few, count, sized)) at.end_is
        (let same = at.sound in rw (sound, same) refl) region mode result refl opens

    behind : 24 ≤ given → OpensIn versions (read_delta nothing_given inner') region mode (cause_of result)
    behind many =
        let bytes : image.bytes ≡ inner'.bytes = rw le-ltb (again-bytes inner'.bytes) in
        let same : image ≡ read_delta nothing_given inner' = rw (bytes, sound) refl in
        let said : said_by versions inner'.bytes ≡ said_by versions front =
        said-stays front inner'.bytes (contents-kept grows contents) (omega (arith, long)) versions in
        subst (λ (i : ReadDelta). OpensIn versions i region mode (cause_of result)) same
        (opens-in versions image region mode result opens shown
        (subst (λ (b : List ℕ). said_by versions b ≤ length region) (sym bytes) (omega (arith, said, room))))

    -- the answer for an image whose front is given again
    pub replay-opens : OpensIn versions (read_delta nothing_given inner') region mode (cause_of result)
    replay-opens = elim (cases_lt given 24) [ inl few ↦ absurd (in-front few) | inr many ↦ behind many ]

-- ---- the answers of a file

-- there is room for what a front says
pub has-room : (versions : AcceptedVersions) (len more : ℕ) (b region : List ℕ)
    → length region ≡ region_len (max len (said_by versions b) + more) → said_by versions b ≤ length region
has-room versions len more b region room = elim (cases_lt 0 (said_by versions b)) [
  | inl some ↦
      (let says = said-says versions b some in
      let most = said-most (format_in versions b) b (said_by versions b) says in
      let told = le-max_right len (said_by versions b) in
      let holds = region-holds (said_by versions b) (max len (said_by versions b) + more) most (omega (arith, told)) in
      omega (arith, holds, room))
  | inr none ↦ omega (arith, none)
]

module _ (versions : AcceptedVersions) (len more : ℕ) (mode : Mode) (image : ReadDelta) (text region : List ℕ)
    (room : length region ≡ region_len (max len (said_by versions text) + more))
    (says : said_by versions image.bytes ≡ said_by versions text) where
  -- the answer for a reader, in a region with room for what its front says
  pub opens-reader : (result : Result SegmentState OpenError) → OpensIn versions image region mode result
      → OpensReader versions more mode len image result
  opens-reader (Ok s) o = record {
    region = region;
    room = room ∙ ap (λ (n : ℕ). region_len (max len n + more)) (sym says ∙ image-said versions image.bytes o.denotes);
    opened = o;
  }
  opens-reader (Err why) o = o (largest_request len more image.bytes)

-- an opened segment is as long as its image says
pub as-long : (image : ReadDelta) (region : List ℕ) (mode : Mode) (s : SegmentState) (versions : AcceptedVersions)
    → IsOpenedBy versions image region mode s → length s.cut.bytes ≡ size_word image.bytes
as-long image region mode s versions o =
    o.renewed.size ∙ sym (image-size (format_in versions image.bytes) image.bytes o.denotes)
