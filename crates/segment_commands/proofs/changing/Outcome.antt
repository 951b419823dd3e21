-- What was written and said, as a command answers it.
use Rattle.std.proofs.Common.{◌≡◌, ℕ, Bool, inl, inr, List, Result, Ok, Err, MatchResult, refl}
use Rattle.raw_region.specs.Device.{WriterHistory}
use Rattle.segment_manager.specs.State.{SegmentState}
use Rattle.segment_disk.specs.Events.{CreateMode, Event}
use Rattle.segment_file.specs.Files.{WritesImage}
use Rattle.segment_cli.specs.declared.faults.SessionFault.TheVariants.{WriteFault}
use Rattle.segment_commands.specs.declared.command_faults.CommandFault.{CommandFault}
use Rattle.segment_commands.specs.declared.command_faults.CommandFault.TheVariants.{Session}
use Rattle.segment_commands.specs.{Commands.WritesMade, Commands.written_as, Resizing.TellsAndWrites}

module _ {A B D : Type 0} (step : D → Event → D → Type 0) (old new : D) (how : CreateMode) (path image : List ℕ) where
  -- an image that was written whole is so whatever the error's type
  pub written_whole : WritesImage {E = A} step old new how path image (Ok tt)
      → WritesImage {E = B} step old new how path image (Ok tt)
  written_whole w = record { written = w.written; asked = w.asked; fate = w.fate; accepted = w.accepted }

  -- an image that was not written whole is so whatever the error is
  pub not_written : (a : A) (b : B) → WritesImage {E = A} step old new how path image (Err a)
      → WritesImage {E = B} step old new how path image (Err b)
  not_written a b w = record { written = w.written; asked = w.asked; fate = w.fate; accepted = w.accepted }

module _ {A D : Type 0} (step : D → Event → D → Type 0) (old new : D) (how : CreateMode) (path image : List ℕ) where
  -- an image was written or not, as the command answers it
  pub image_written : (answer : Result (Unit {0}) A) → WritesImage step old new how path image answer
      → WritesImage step old new how path image (written_as answer)
  image_written (Ok done) w = written_whole step old new how path image w
  image_written (Err a) w = not_written step old new how path image a _ w

is_no_error : {A : Type 0} (a : A) → let answer : Result (Unit {0}) A = Ok tt in answer ≡ Err a → ⊥
is_no_error a e = cc

-- two answers with a fault have one fault
same_fault : {A : Type 0} (a b : A) → let answer : Result (Unit {0}) A = Err a in answer ≡ Err b → b ≡ a
same_fault a b e = cc

module _ {A : Type 0} where
  -- the command fails as what writes does
  pub write_fault : (answer : Result (Unit {0}) A) (fault : CommandFault) → written_as answer ≡ Err fault
      → fault ≡ Session WriteFault
  write_fault (Ok done) fault e = absurd (is_no_error fault e)
  write_fault (Err a) fault e = same_fault _ fault e

  -- a text was said or not, as the command answers it
  pub told : (T F : Type 0) (answer : Result (Unit {0}) A) → MatchResult answer (λ u. T) (λ a. F)
      → MatchResult (written_as answer) (λ u. T) (λ fault. F)
  told T F (Ok done) t = t
  told T F (Err a) f = f

-- the image of a segment that was made was written or not, as the command answers it
pub segment_written : {A D : Type 0} (step : D → Event → D → Type 0) (old new : D) (path : List ℕ) (how : CreateMode)
    (IsMade : SegmentState → Type 0) (s : SegmentState) → IsMade s → (answer : Result (Unit {0}) A)
    → WritesImage step old new how path s.cut.bytes answer
    → WritesMade step old new path how IsMade (written_as answer)
segment_written step old new path how IsMade s made answer w = record {
  segment = s;
  made = made;
  writes = image_written step old new how path s.cut.bytes answer w;
  answer = write_fault answer;
}

module _ {A B D O : Type 0} (step : D → Event → D
    → Type 0) (old new : D) (path : List ℕ) (how : CreateMode) (history : O → WriterHistory) (flushes : O → Bool → O
    → Type 0) (out out' : O) (s : SegmentState) where
  resized : TellsAndWrites step old new path how history flushes out out' {E = A} s (Ok tt)
      → TellsAndWrites step old new path how history flushes out out' {E = B} s (Ok tt)
  resized (inl u) = absurd (is_no_error u.fault u.refused)
  resized (inr t) = inr (record {
    tells = record { size = t.tells.size; reply = t.tells.reply; tells = t.tells.tells };
    writes = written_whole step old new how path s.cut.bytes t.writes;
  })

  not_resized : (a : A) (b : B)
      → TellsAndWrites step old new path how history flushes out out' {E = A} s (Err a)
      → TellsAndWrites step old new path how history flushes out out' {E = B} s (Err b)
  not_resized a b (inl u) = inl (record {
    fault = b;
    refused = refl;
    tells = record { size = u.tells.size; reply = u.tells.reply; tells = u.tells.tells };
    asked = u.asked;
  })
  not_resized a b (inr t) = inr (record {
    tells = record { size = t.tells.size; reply = t.tells.reply; tells = t.tells.tells };
    writes = not_written step old new how path s.cut.bytes a b t.writes;
  })

module _ {A D O : Type 0} (step : D → Event → D
    → Type 0) (old new : D) (path : List ℕ) (how : CreateMode) (history : O → WriterHistory) (flushes : O → Bool → O
    → Type 0) (out out' : O) (s : SegmentState) where
  -- a file was resized or not, as the command answers it
  pub file_resized : (answer : Result (Unit {0}) A)
      → TellsAndWrites step old new path how history flushes out out' s answer
      → TellsAndWrites step old new path how history flushes out out' s (written_as answer)
  file_resized (Ok done) t = resized step old new path how history flushes out out' s t
  file_resized (Err a) t = not_resized step old new path how history flushes out out' s a _ t
