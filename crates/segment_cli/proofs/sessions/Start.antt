-- The segment that a session begins with, or why it has none. Both follow from the result of the call that creates or
-- opens the segment.
use Rattle.std.proofs.Common.{◌≡◌, ℕ, List, length, false, true, IsTrue, Result, Ok, Err, refl, sym, ap, subst, ◌∙◌}
use Rattle.std.proofs.Common.{arith}
use Rattle.raw_region.specs.{Device.ReadDelta, Format.current, Memory.SameSurroundings, Memory.cut_at}
use Rattle.block_tags.specs.Format.{is_legal_size}
use Rattle.segment_manager.specs.declared.errors.CreateError.TheVariants.{BadSize as NoSize, RegionTooSmall as NoRoom}
use Rattle.segment_manager.specs.declared.errors.CreateRefused.{CreateRefused}
use Rattle.segment_manager.specs.{declared.modes.Mode.Mode, declared.errors.CreateError.CreateError, Directory.empty}
use Rattle.segment_manager.specs.{State.SegmentState, State.DenotesCurrent, Calls.Creates, Calls.CreatesOk, Calls.IsWhy}
use Rattle.image_check.specs.declared.errors.OpenError.TheVariants.{Image as NoImage, RegionTooSmall as NoRoomForImage}
use Rattle.image_check.specs.declared.errors.OpenError.TheVariants.{OutOfMemory as NoMemory, ReadFault as NotRead}
use Rattle.image_check.specs.Opening.{OpensOk, IsOpenCause, IsTooSmallFor, Opens, IsUntouched}
use Rattle.image_check.specs.{declared.errors.OpenError.OpenError, declared.errors.OpenRefused.OpenRefused}
use Rattle.segment_cli.specs.declared.faults.Start.TheVariants.{Fresh, Image}
use Rattle.segment_cli.specs.declared.faults.SessionFault.{SessionFault}
use Rattle.segment_cli.specs.Beginning.{BeginsSession, IsWhyNotBegun, created_fault, opened_fault}
use Rattle.segment_cli.proofs.sessions.ZeroGaps.{created_zeros, zeros_read}

illegal : (size : ℕ) → is_legal_size size ≡ false → IsTrue (is_legal_size size) → ⊥
illegal size refused legal =
    let same : false ≡ true = sym refused ∙ legal in
    cc

not_created : (region : List ℕ) (base size : ℕ) (mode : Mode) (image : ReadDelta) (cause : CreateError)
    → IsWhy region base
    size cause → IsUntouched image
    → BeginsSession (Fresh size) mode base (length region) image (Err (created_fault cause))
not_created region base size mode image NoSize why untouched = record {
  answers = why;
  left = untouched;
  bad_size = λ p. refl;
  too_small = λ p. absurd (illegal size why p.0);
}
not_created region base size mode image NoRoom why untouched = record {
  answers = why;
  left = untouched;
  bad_size = λ p. absurd (illegal size p why.0);
  too_small = λ p. refl;
}

-- an empty segment was made
created : (region : List ℕ) (base size : ℕ) (mode : Mode) (image : ReadDelta) (s : SegmentState)
    → CreatesOk region base size mode s → IsUntouched image
    → BeginsSession (Fresh size) mode base (length region) image (Ok s)
created region base size mode image s h untouched = record {
  answers = record {
    from = empty size;
    begins = (h.legal, refl);
    mode = h.mode;
    stands = h.stands;
    zeros = λ began. created_zeros region base size mode s h;
    read = untouched.failed;
  };
  left = untouched;
  bad_size = λ p. absurd (illegal size p h.legal);
  too_small = λ p. absurd (let fits = h.fits in let short = p.1 in omega arith);
}

-- the same, from the result of the call that creates a segment
module _ (region : List ℕ) (base size : ℕ) (mode : Mode) (image : ReadDelta)
    (result : Result SegmentState CreateRefused)
    (made : Creates region base size mode result) (untouched : IsUntouched image) where
  -- a session begins with the segment that was created
  pub created_by : (s : SegmentState) → result ≡ Ok s
      → BeginsSession (Fresh size) mode base (length region) image (Ok s)
  created_by s is =
      let h = subst (λ (r : Result SegmentState CreateRefused). Creates region base size mode r) is made in
      created region base size mode image s h untouched

  -- the segment is in the `size` bytes of the region from `base` on
  pub placed_by : (s : SegmentState) → result ≡ Ok s → SameSurroundings (cut_at region base size) s.cut
  placed_by s is =
      let h : CreatesOk region base size mode s =
      subst (λ (r : Result SegmentState CreateRefused). Creates region base size mode r) is made in
      h.place

  -- a session has no segment if none was created
  pub not_created_by : (refused : CreateRefused) → result ≡ Err refused
      → BeginsSession (Fresh size) mode base (length region) image (Err (created_fault refused.cause))
  not_created_by refused is =
      let h = subst (λ (r : Result SegmentState CreateRefused). Creates region base size mode r) is made in
      not_created region base size mode image refused.cause h.why untouched

-- the image was opened
opened : (region : List ℕ) (base : ℕ) (mode : Mode) (image : ReadDelta) (s : SegmentState)
    → OpensOk current image region base mode s → (IsTooSmallFor current image base (length region) → ⊥)
    → BeginsSession Image mode base (length region) image (Ok s)
opened region base mode image s h small =
    let d = h.denotes.0 in let stands : DenotesCurrent image.bytes d = record { denotes = h.denotes.1 } in
    record {
      answers = record {
        from = d;
        begins = (h.read.ended, stands);
        mode = h.mode;
        stands = subst (λ (b : List ℕ). DenotesCurrent b d) (sym (h.renewed.same refl)) stands;
        zeros = λ began. zeros_read s image.bytes (h.renewed.same refl) began;
        read = h.read.failed;
      };
      left = tt;
      bad_size = λ p. absurd p;
      too_small = λ p. absurd (small p);
    }

why_not_begun : (image : ReadDelta) (base capacity : ℕ) (cause : OpenError)
    → IsOpenCause current image base capacity cause
    → IsWhyNotBegun Image image base capacity (opened_fault cause)
why_not_begun image base capacity (NoImage v) why = (refl, why)
why_not_begun image base capacity NoRoomForImage why = why
why_not_begun image base capacity (NoMemory refusal) why = (refl, why)
why_not_begun image base capacity NotRead why = (refl, why)

abbrev no_segment : OpenError → Result SegmentState SessionFault
no_segment cause = Err (opened_fault cause)

not_opened : (image : ReadDelta) (base capacity : ℕ) (mode : Mode) (cause : OpenError)
    → IsOpenCause current image base capacity cause
    → (IsTooSmallFor current image base capacity → cause ≡ NoRoomForImage)
    → BeginsSession Image mode base capacity image (Err (opened_fault cause))
not_opened image base capacity mode cause why small = record {
  answers = why_not_begun image base capacity cause why;
  left = tt;
  bad_size = λ p. absurd p;
  too_small = λ p. ap no_segment (small p);
}

-- the same, from the result of the call that opens an image
module _ (region : List ℕ) (base : ℕ) (mode : Mode) (image : ReadDelta) (result : Result SegmentState OpenRefused)
    (o : Opens current image region base mode result) where
  -- a session begins with the segment that was opened
  pub opened_by : (s : SegmentState) → result ≡ Ok s → BeginsSession Image mode base (length region) image (Ok s)
  opened_by s is =
      let h = subst (λ (r : Result SegmentState OpenRefused). Opens current image region base mode r) is o in
      opened region base mode image s h.answers h.too_small

  -- the segment is in the region from `base` on, in as many bytes as the image has
  pub opened_in : (s : SegmentState) → result ≡ Ok s → SameSurroundings (cut_at region base (length image.bytes)) s.cut
  opened_in s is =
      let h = subst (λ (r : Result SegmentState OpenRefused). Opens current image region base mode r) is o in
      let opened : OpensOk current image region base mode s = h.answers in
      opened.place

  -- a session has no segment if none was opened
  pub not_opened_by : (refused : OpenRefused) → result ≡ Err refused
      → BeginsSession Image mode base (length region) image (Err (opened_fault refused.cause))
  not_opened_by refused is =
      let h = subst (λ (r : Result SegmentState OpenRefused). Opens current image region base mode r) is o in
      not_opened image base (length region) mode refused.cause h.answers.why h.too_small
