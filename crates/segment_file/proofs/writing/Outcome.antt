-- What became of a file that an image was written to, by the answers of the disk.
use Rattle.std.proofs.Common.{◌≡◌, ◌≢◌, ◌⊎◌, ℕ, Bool, true, false, inl, inr, List, [], ◌++◌, length, take, drop, Result}
use Rattle.std.proofs.Common.{Ok, Err, MatchResult, is_ok, refl, sym, ap₂, subst, arith}
use Rattle.std.proofs.lemmas.List.{take-append-drop, length-drop}
use Rattle.raw_region.specs.Device.{WriterHistory, WriteDelta, Writes, write_delta, IsProperPrefix}
use Rattle.raw_region.specs.Answers.{AppendsProperPrefix}
use Rattle.raw_region.proofs.Laws.{added}
use Rattle.segment_manager.specs.Directory.{Directory}
use Rattle.segment_manager.specs.State.{DenotesCurrent}
use Rattle.image_check.specs.Saving.{IsSaved}
use Rattle.segment_disk.specs.declared.presence.SaveMode.{SaveMode}
use Rattle.segment_disk.specs.declared.presence.SaveMode.TheVariants.{InPlace, Replacing}
use Rattle.segment_disk.specs.declared.presence.Comparison.{Comparison}
use Rattle.segment_disk.specs.declared.presence.Comparison.TheVariants.{Other, Different, Equal}
use Rattle.segment_disk.specs.Events.{CreateMode, New, Truncate, Replacement, create_mode_of}
use Rattle.segment_disk.specs.Events.{Event, Compared, Made, Wrote, Discarded, After, nothing_taken}
use Rattle.segment_file.specs.Files.{WriteOutcome, Overtaken, Unchanged, NotMade, Closed, Offered, IsPartialWrite}
use Rattle.segment_file.specs.Files.{IsUnwritten, HasImage, FillsFile, MakesImage, WritesImage, all_of}
use Rattle.segment_file.specs.Files.{compare_events, make_events, place_events, whole_outcome}

front_taken : (new image : List ℕ) → AppendsProperPrefix [] new image
    → IsProperPrefix (drop (length nothing_taken.bytes) new) image
front_taken new image h =
    let parts : image ≡ take h.count image ++ drop h.count image = sym (take-append-drop h.count image) in (
      drop h.count image,
      rw (added [] new (take h.count image) h.added) parts,
      let more = length-drop h.count image
          in omega (arith, h.fewer),
    )

-- ---- a file that is filled

module _ {D E : Type 0} (step : D → Event → D → Type 0) (old new : D) (image : List ℕ) (good : (d : Directory)
    → DenotesCurrent image d → IsSaved image d) (took : WriterHistory) where
  -- a write that was cut leaves a front
  pub cut : (lasts : Bool) (e : E) → step old (Wrote (write_delta nothing_taken took) lasts) new
      → Writes {A = Unit {0}} {E = E} nothing_taken took (Err e) image
      → FillsFile {E = E} step old new image (Err e)
  cut lasts e closed h = record {
    taken = write_delta nothing_taken took;
    lasts = lasts;
    asked = closed;
    fate = inl (record { part = front_taken took.bytes image h.err; failed = rw h.counted refl });
    accepted = good;
  }

-- ---- what became of it

abbrev Fate : {E : Type 0} → CreateMode → List ℕ → WriteOutcome → Result (Unit {0}) E → Type 0
Fate how image written result =
    MatchResult result (λ u. written ≡ whole_outcome how image) (λ e. IsUnwritten how image written)

written-fate : {E : Type 0} (how : CreateMode) (image : List ℕ) (written : WriteOutcome) (result : Result (Unit {0}) E)
    → Fate how image written result
    → MatchResult result (λ u. HasImage how image written) (λ e. IsUnwritten how image written)
written-fate how image written (Ok u) e = inl e
written-fate how image written (Err e) h = h

abbrev Filling : {E : Type 0} → List ℕ → WriteDelta → Bool → Result (Unit {0}) E → Type 0
Filling image taken lasts result =
    MatchResult result (λ u. (taken ≡ all_of image) × (lasts ≡ true)) (λ e. IsPartialWrite image taken
    ⊎ ((taken ≡ all_of image) × (lasts ≡ false)))

unwritten : (how : CreateMode) (image : List ℕ) (taken : WriteDelta) (lasts : Bool)
    → IsPartialWrite image taken ⊎ ((taken ≡ all_of image) × (lasts ≡ false))
    → IsUnwritten how image (Closed taken lasts)
unwritten how image taken lasts (inl p) =
    inr (inr (inl (record { taken = taken; lasts = lasts; closed = refl; is_part = p })))
unwritten how image taken lasts (inr e) = inr (inr (inr (inl (ap₂ Closed e.0 e.1))))

module _ {E : Type 0} (image : List ℕ) (taken : WriteDelta) (lasts : Bool) where
  fate-new : (result : Result (Unit {0}) E) → Filling image taken lasts result
      → Fate New image (Closed taken lasts) result
  fate-new (Ok u) e = ap₂ Closed e.0 e.1
  fate-new (Err e) h = unwritten New image taken lasts h

  fate-emptied : (result : Result (Unit {0}) E) → Filling image taken lasts result
      → Fate Truncate image (Closed taken lasts) result
  fate-emptied (Ok u) e = ap₂ Closed e.0 e.1
  fate-emptied (Err e) h = unwritten Truncate image taken lasts h

module _ {D E : Type 0} (step : D → Event → D → Type 0) (old made new : D) (path image : List ℕ) where
  pub not_made : (how : CreateMode) (e : E) → step old (Made how path false) new
      → MakesImage {E = E} step old new how path image (Err e)
  not_made how e asked = record {
    written = NotMade;
    found = refl;
    asked = (new, asked, refl);
    fate = inr (inl refl);
    accepted = λ n. absurd n;
  }

  -- a file is emptied, and written in its place
  pub written_here : step old (Made Truncate path true) made → (result : Result (Unit {0}) E)
      → FillsFile step made new image result → MakesImage step old new Truncate path image result
  written_here asked result f = record {
    written = Closed f.taken f.lasts;
    found = refl;
    asked = (made, asked, (new, f.asked, refl));
    fate = fate-emptied image f.taken f.lasts result f.fate;
    accepted = λ m. f.accepted;
  }

  -- a file is made, and written
  pub written_new : step old (Made New path true) made → (result : Result (Unit {0}) E)
      → FillsFile step made new image result → WritesImage step old new New path image result
  written_new asked result f = record {
    written = Closed f.taken f.lasts;
    asked = (made, asked, (new, f.asked, refl));
    fate = written-fate New image (Closed f.taken f.lasts) result (fate-new image f.taken f.lasts result f.fate);
    accepted = λ m. f.accepted;
  }

  -- it is not made
  pub not_made_new : (e : E) → step old (Made New path false) new
      → WritesImage {E = E} step old new New path image (Err e)
  not_made_new e asked = record {
    written = NotMade;
    asked = (new, asked, refl);
    fate = inr (inl refl);
    accepted = λ n. absurd n;
  }

  module _ (asked : step old (Made Replacement path true) made) (filled : D) where
    -- the file took not all of the image, or need not last
    pub dropped : (e e' : E) → FillsFile {E = E} step made filled image (Err e) → step filled (Discarded path) new
        → MakesImage {E = E} step old new Replacement path image (Err e')
    dropped e e' f gone = record {
      written = Closed f.taken f.lasts;
      found = refl;
      asked = (made, asked, (filled, f.asked, (new, gone, refl)));
      fate = unwritten Replacement image f.taken f.lasts f.fate;
      accepted = λ m. f.accepted;
    }

    fate-placed : (placed : Result (Unit {0}) E) → Fate Replacement image (Offered image (is_ok placed)) placed
    fate-placed (Ok u) = refl
    fate-placed (Err e) = inr (inr (inr (inr (record { beside = refl; offered = refl }))))

    -- a file that was filled is placed
    pub placed : FillsFile {E = E} step made filled image (Ok tt) → (result : Result (Unit {0}) E)
        → After step filled (place_events path (is_ok result)) new
        → MakesImage {E = E} step old new Replacement path image result
    placed f result put = record {
      written = Offered image (is_ok result);
      found = refl;
      asked = (
        made,
        asked,
        (
          filled,
          subst (λ (t : WriteDelta). step made (Wrote t true) filled) f.fate.0
              (subst (λ (l : Bool). step made (Wrote f.taken l) filled) f.fate.1 f.asked),
          put,
        ),
      );
      fate = fate-placed result;
      accepted = λ m. f.accepted;
    }

-- ---- a file that is compared before

-- one that is there is not new
pub is_over : (how : SaveMode) → create_mode_of how ≢ New
is_over InPlace e = cc
is_over Replacing e = cc

with_comparison : {D : Type 0} (step : D → Event → D → Type 0) (old same new : D) (path image : List ℕ)
    (how : CreateMode) → how ≢ New → (found : Comparison) (events : List Event)
    → step old (Compared path image found) same → After step same events new
    → After step old (compare_events how path image found events) new
with_comparison step old same new path image New n found events asked rest = absurd (n refl)
with_comparison step old same new path image Truncate n found events asked rest = (same, asked, rest)
with_comparison step old same new path image Replacement n found events asked rest = (same, asked, rest)

module _ {D E : Type 0} (step : D → Event → D → Type 0) (old same new : D) (path image : List ℕ) where
  -- it is the same, with other bytes
  pub made_over : (how : CreateMode) → how ≢ New → (result : Result (Unit {0}) E)
      → step old (Compared path image Different) same → MakesImage {E = E} step same new how path image result
      → WritesImage {E = E} step old new how path image result
  made_over how n result asked m = record {
    written = m.written;
    asked = subst (λ (found : Comparison).
        After step old (compare_events how path image found (make_events how path m.written)) new)
        (sym m.found)
        (with_comparison step old same new path image how n Different (make_events how path m.written) asked m.asked);
    fate = written-fate how image m.written result m.fate;
    accepted = m.accepted;
  }

-- it has the image
pub left_over : {D E : Type 0} (step : D → Event → D
    → Type 0) (old new : D) (path image : List ℕ) (how : CreateMode) → how ≢ New
    → step old (Compared path image Equal) new → ((d : Directory) → DenotesCurrent image d → IsSaved image d)
    → WritesImage {E = E} step old new how path image (Ok tt)
left_over step old new path image how n asked good = record {
  written = Unchanged;
  asked = with_comparison step old new new path image how n Equal [] asked refl;
  fate = inr (record { old = n; left = refl });
  accepted = λ m. good;
}

-- another has its name
pub overtaken : {D E : Type 0} (step : D → Event → D
    → Type 0) (old new : D) (path image : List ℕ) (how : CreateMode) → how ≢ New → (e : E)
    → step old (Compared path image Other) new
    → WritesImage {E = E} step old new how path image (Err e)
overtaken {E = E} step old new path image how n e asked = record {
  written = Overtaken;
  asked = with_comparison step old new new path image how n Other [] asked refl;
  fate = inl (record { old = n; left = refl });
  accepted = λ m. absurd m;
}
