-- A call that finds no room has read the first 24 bytes, and no more: nothing else that stops it is want of room.
use Rattle.image_check.proofs.Common.{Err, IfErr, IsShort, IsWhyRefused, List, Mode, Ok, OpenError}
use Rattle.image_check.proofs.Common.{OpenRefused, OpensWindow, ReadsPastEnd, Result, SegmentState, WindowState}
use Rattle.image_check.proofs.Common.{failed_reads, refl, ℕ, ◌≡◌}
use Rattle.std.proofs.Common.{Bool}
use Rattle.image_check.specs.declared.errors.OpenError.TheVariants.{Image, OutOfMemory, ReadFault, RegionTooSmall}
use Rattle.raw_region.specs.Device.{ReaderHistory}
use Rattle.image_check.specs.Opening.{ReadsFrontAlone, cause_of}
use Rattle.image_check.proofs.reading.Stops.{rise}

-- a reader that gives too few bytes
pub short-roomy : (ended : Bool) (cause : OpenError) → IsShort ended cause → cause ≡ RegionTooSmall → ⊥
short-roomy ended (Image v) e t = cc
short-roomy ended RegionTooSmall e t = absurd e
short-roomy ended (OutOfMemory refusal) e t = cc
short-roomy ended ReadFault e t = cc

-- or the image is longer
goes-roomy : (old new : List ℕ) (cause : OpenError) → ReadsPastEnd old new cause → cause ≡ RegionTooSmall → ⊥
goes-roomy old new (Image v) e t = cc
goes-roomy old new RegionTooSmall e t = absurd e
goes-roomy old new (OutOfMemory refusal) e t = cc
goes-roomy old new ReadFault e t = cc

-- an image that was read to its end had room
pub end-roomy : (old new : List ℕ) (r : Result (Unit {0}) OpenError) → IfErr r (ReadsPastEnd old new)
    → IfErr r (λ cause. cause ≡ RegionTooSmall → ⊥)
end-roomy old new (Ok u) h = tt
end-roomy old new (Err cause) h = goes-roomy old new cause h

-- and so is the check of the bytes read
pub check-roomy : (format : ℕ) (b : List ℕ) (why : OpenError) → IsWhyRefused format b why → why ≡ RegionTooSmall → ⊥
check-roomy format b (Image v) x t = cc
check-roomy format b RegionTooSmall x t = absurd x
check-roomy format b (OutOfMemory refusal) x t = cc
check-roomy format b ReadFault x t = absurd x

-- the opening of a window reads nothing and finds room
check-reads : (format : ℕ) (b : List ℕ) (why : OpenError) → IsWhyRefused format b why → rise why ≡ 0
check-reads format b (Image v) x = refl
check-reads format b RegionTooSmall x = absurd x
check-reads format b (OutOfMemory refusal) x = refl
check-reads format b ReadFault x = absurd x

module _ (format : ℕ) (w : WindowState) (mode : Mode) where
  -- The opening of a window counts no failed read.
  pub opened-reads : (r : Result SegmentState OpenRefused) → OpensWindow format w mode r → failed_reads (cause_of r) ≡ 0
  opened-reads (Ok s) o = refl
  opened-reads (Err e) o = check-reads format w.bytes e.cause o.why

  -- The opening of a window never wants room.
  pub opened-roomy : (r : Result SegmentState OpenRefused) (old new : ReaderHistory) → OpensWindow format w mode r
      → ReadsFrontAlone old new (cause_of r)
  opened-roomy (Ok s) old new o = tt
  opened-roomy (Err e) old new o = λ t. absurd (check-roomy format w.bytes e.cause o.why t)
