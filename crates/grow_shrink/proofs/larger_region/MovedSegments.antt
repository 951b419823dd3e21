-- Where a segment stands that grew at the front of a region.
use Rattle.std.proofs.Common.{◌≡◌, sym, ap, ◌∙◌, ℕ, ◌+◌, ◌-◌, List, length, drop, arith}
use Rattle.std.proofs.lemmas.List.{drop-drop}
use Rattle.raw_region.specs.Memory.{SameSurroundings, WindowState, cut_at}
use Rattle.best_fit.specs.Ends.{EndsAt}
use Rattle.segment_manager.specs.{Directory.Directory, State.DenotesCurrent, State.IsSegment}
use Rattle.segment_manager.specs.blocks.Resized.{grown}
use Rattle.grow_shrink.proofs.resizing.Refusals.{stands-size}

-- it has this many bytes more
pub grown-len : (old new : List ℕ) (extra : ℕ) → IsSegment old
    → ((d : Directory) → DenotesCurrent old d → DenotesCurrent new (grown d extra)) → length new ≡ length old + extra
grown-len old new extra (d, st) h =
    sym (stands-size new (grown d extra) (h d st)) ∙ ap (λ (n : ℕ). n + extra) (stands-size old d st)

-- what lies around a copy is of the region, and so it is of the copy that grew
pub still-around : (region : List ℕ) (copy new : WindowState) (extra : ℕ)
    → SameSurroundings (cut_at region 0 (length copy.bytes)) copy → EndsAt copy new (length new.bytes)
    → length new.bytes ≡ length copy.bytes + extra → SameSurroundings (cut_at region 0 (length new.bytes)) new
still-around region copy new extra p q longer =
    let a = length copy.bytes in let b = length new.bytes in
    let none : 0 ≡ a - b = omega (arith, longer) in
    let all : 0 + a + (b - a) ≡ 0 + b = omega (arith, longer) in
    record {
      before = q.before ∙ p.before;
      after = ap (λ (k : ℕ). drop k new.after) none ∙ q.after ∙ ap (λ (l : List ℕ). drop (b - a) l) p.after
          ∙ drop-drop (b - a) (0 + a) region ∙ ap (λ (k : ℕ). drop k region) all;
    }
