-- A listing, line by line: what has gone out of it, for each directory that the segment stands for.
use Rattle.std.proofs.Common.{◌≡◌, ℕ, ◌+◌, ◌<◌, ◌≤◌, List, [], ◌∷◌, ◌++◌, length, Result, Ok, Err, refl, sym, ap, subst}
use Rattle.std.proofs.Common.{◌∙◌, append_assoc, arith}
use Rattle.std.specs.Prelude.{codes, slice_get}
use Rattle.std.specs.List.{flat_map}
use Rattle.std.specs.Result.{IsErr}
use Rattle.std.proofs.lemmas.List.{take_all}
use Rattle.raw_region.specs.Device.{WriterHistory, Writes}
use Rattle.raw_region.proofs.Laws.{writes-cut, writes-then}
use Rattle.segment_manager.specs.Directory.{Directory}
use Rattle.segment_manager.specs.State.{SegmentState, DenotesCurrent}
use Rattle.segment_manager.proofs.PartLaws.{parts-all, parts-taken, well}
use Rattle.segment_scripts.specs.Answer.{line, listing}
use Rattle.segment_scripts.specs.Parts.{part_of, parts_until}
use Rattle.segment_scripts.specs.Writing.{WritesFor}
use Rattle.segment_scripts.proofs.listing.Output.{of-cut_in, of-more, writes_owed}

-- the line of what is at a place in a list
abbrev pub line_part : {A : Type 0} → (A → List (List ℕ)) → List A → ℕ → List ℕ
line_part tokens xs i = part_of (λ x. line (tokens x)) (slice_get xs i)

abbrev last_line : List ℕ
last_line = line (codes "end" ∷ [])

listing-lines : {A : Type 0} (tokens : A → List (List ℕ)) (xs : List A)
    → listing tokens xs ≡ flat_map (λ x. line (tokens x)) xs ++ last_line
listing-lines tokens [] = refl
listing-lines tokens (x ∷ xs) =
    ap (λ l. line (tokens x) ++ l) (listing-lines tokens xs)
    ∙ sym (append_assoc (line (tokens x)) (flat_map (λ x. line (tokens x)) xs) last_line)

-- a text that is cut is so whatever was to be written after it
cut-more : {B F : Type 0} (old new : WriterHistory) (result : Result B F) (a b : List ℕ) → IsErr result
    → Writes old new result a → Writes old new result (a ++ b)
cut-more old new (Ok y) a b h w = absurd (cc h)
cut-more old new (Err x) a b h w = writes-cut old new x (Err x) a b h w

-- this many lines have gone out
module _ {A : Type 0} (s : SegmentState) (tokens : A → List (List ℕ)) (items : Directory
    → List A) {old mid : WriterHistory} (i : ℕ)
    (before : WritesFor old mid well (DenotesCurrent s.cut.bytes) (λ d.
    parts_until (line_part tokens (items d)) i)) where
  module _ {text : List ℕ} (same : (d : Directory) → DenotesCurrent s.cut.bytes d
      → text ≡ line_part tokens (items d) i) where
    -- one line more
    pub listing-more : {B F : Type 0} {new : WriterHistory} {y : B} → Writes {E = F} mid new (Ok y) text
        → WritesFor old new well (DenotesCurrent s.cut.bytes) (λ d. parts_until (line_part tokens (items d)) (i + 1))
    listing-more {new = new} {y = y} w =
        of-more (λ d. line_part tokens (items d)) before
        (writes_owed w same)

    -- it is cut
    pub listing-cut : {B C F G : Type 0} {new : WriterHistory} {x : F} {result : Result C G}
        → ((d : Directory) → DenotesCurrent s.cut.bytes d → i < length (items d))
        → Writes {A = B} mid new (Err x) text → IsErr result
        → WritesFor old new result (DenotesCurrent s.cut.bytes) (λ d. listing tokens (items d))
    listing-cut {new = new} {x = x} {result = result} within w failed =
        let cut : WritesFor old new result (DenotesCurrent s.cut.bytes) (λ d.
        parts_until (line_part tokens (items d)) (length (items d))) =
        of-cut_in (λ d. line_part tokens (items d)) (λ d. length (items d)) before within
        (writes_owed w same) failed in
        record {
          writes = λ d k.
              subst (Writes old new result) (ap (λ l. l ++ last_line) (parts-all (λ x. line (tokens x)) (items d))
              ∙ sym (listing-lines tokens (items d)))
              (cut-more old new result (parts_until (line_part tokens (items d)) (length (items d))) last_line failed
              (cut.writes d k));
          counted = cut.counted;
        }

  -- these are all, and the last line goes out after them
  pub listing-done : {C G : Type 0} {new : WriterHistory} {result : Result C G}
      → ((d : Directory) → DenotesCurrent s.cut.bytes d → length (items d) ≤ i) → Writes mid new result last_line
      → WritesFor old new result (DenotesCurrent s.cut.bytes) (λ d. listing tokens (items d))
  listing-done {new = new} {result = result} all w = record {
    writes = λ d k.
        subst (Writes old new result)
        (ap (λ l. l ++ last_line) (parts-taken (λ x. line (tokens x)) (items d) i
        ∙ ap (flat_map (λ x. line (tokens x))) (take_all i (items d) (all d k))) ∙ sym (listing-lines tokens (items d)))
        (writes-then old mid new 0 result (parts_until (line_part tokens (items d)) i) last_line (before.writes d k) w);
    counted = omega (arith, before.counted, w.counted);
  }
