-- Whether the gaps are zero of a segment that a session begins with, and of an image that it saves.
use Rattle.std.proofs.Common.{◌≡◌, ℕ, ◌+◌, ◌-◌, List, [], ◌∷◌, nat_lt, refl, sym, ap, subst, ◌∙◌, arith}
use Rattle.std.proofs.lemmas.Bool.{cond_both}
use Rattle.std.specs.List.{AllByRecursion}
use Rattle.raw_region.specs.{Memory.AreZero, Memory.bytes_of, Format.current}
use Rattle.best_fit.specs.{Extents.Gap, Extents.gaps, Extents.gap_between, FreeTree.gap_head}
use Rattle.best_fit.proofs.Laws.{lay_out_one}
use Rattle.segment_manager.specs.{declared.modes.Mode.Mode, Directory.Directory, Directory.empty, Directory.live}
use Rattle.segment_manager.specs.{State.SegmentState, State.DenotesCurrent, Calls.HasZeroGaps, Calls.CreatesOk}
use Rattle.segment_cli.specs.Session.{HasZeroGapsIn}

-- ---- bytes

-- gaps are zero by the bytes alone
pub zeros_saved : (s : SegmentState) (image : List ℕ) → image ≡ s.cut.bytes → HasZeroGaps s → HasZeroGapsIn image
zeros_saved s image e h = subst HasZeroGapsIn (sym e) (record { zeros = h.zeros })

-- the gaps of an opened segment are those of its image
pub zeros_read : (s : SegmentState) (image : List ℕ) → s.cut.bytes ≡ image → HasZeroGapsIn image → HasZeroGaps s
zeros_read s image e h = let z = subst HasZeroGapsIn (sym e) h in record { zeros = z.zeros }

-- ---- a fresh segment

-- bytes stand for directories with the same blocks
one_live : (b : List ℕ) (d e : Directory) → DenotesCurrent b d → DenotesCurrent b e → live d ≡ live e
one_live b d e h k = sym (lay_out_one current b (live d) h.denotes.heap) ∙ lay_out_one current b (live e) k.denotes.heap

-- the gap between the front and the end tag
empty_gaps : (size : ℕ) → gaps (live (empty size)) ≡ gap_between 128 (size - 16)
unfolding gaps live
empty_gaps size = refl

abbrev Zero : List ℕ → List Gap → Type 0
Zero b = AllByRecursion (λ (g : Gap). AreZero (bytes_of b) (g.offset + gap_head current) (g.offset + g.len))

-- the gaps of a new segment are zero
pub created_zeros : (region : List ℕ) (base size : ℕ) (mode : Mode) (s : SegmentState)
    → CreatesOk region base size mode s
    → HasZeroGaps s
created_zeros region base size mode s h =
    let one : Zero s.cut.bytes (gap_between 128 (size - 16)) = cond_both (nat_lt 128 (size - 16))
    (record { offset = 128; len = size - 16 - 128 } ∷ []) [] (Zero s.cut.bytes)
    (λ _. (record { at = λ k low high. h.zeros.at k low (omega arith) }, tt)) (λ _. tt) in
    record {
      zeros = λ d k. subst (Zero s.cut.bytes)
          (sym (ap gaps (one_live s.cut.bytes d (empty size) k h.stands) ∙ empty_gaps size)) one;
    }
