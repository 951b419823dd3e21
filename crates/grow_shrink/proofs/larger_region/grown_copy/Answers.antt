-- The copy has the bytes and the mode of the segment, and then grows.
use Rattle.std.proofs.Common.{◌≡◌, sym, ◌∙◌, ap, subst, ℕ, ◌+◌, List, inr, length}
use Rattle.std.specs.List.{AllByRecursion}
use Rattle.raw_region.specs.Memory.{SameSurroundings, bytes_of, cut_at, zeros}
use Rattle.best_fit.specs.Heap.{SameBlock, live_of}
use Rattle.segment_manager.specs.{Directory.Directory, State.DenotesCurrent, blocks.Resized.grown}
use Rattle.grow_shrink.specs.LargerRegion.{region_len}
use Rattle.grow_shrink.proofs.larger_region.MovedSegments.{grown-len, still-around}
use Rattle.grow_shrink.proofs.larger_region.grown_copy.Goals as goal

pub returns-clause-changes : goal.returns-clause-changes
returns-clause-changes c =
    let copy = c.copy_into-copy.ensures in let end = c.extend_end.ensures in
    let old = c.args.segment.now.cut.bytes in let new = c.extend_end.new.segment.cut in
    let was = c.copy_into-copy.result.cut in
    let denotes : (d : Directory) → DenotesCurrent old d → DenotesCurrent new.bytes (grown d c.args.extra) =
    λ d x. end.denotes d (subst (λ (b : List ℕ). DenotesCurrent b d) (sym copy.bytes) x) in
    let longer = grown-len old new.bytes c.args.extra c.requires.denotation denotes in
    let same : length was.bytes ≡ length old = ap (λ (l : List ℕ). length l) copy.bytes in
    let size : c.args.size + c.args.extra ≡ length new.bytes =
    ap (λ (n : ℕ). n + c.args.extra) c.requires.size ∙ sym longer in
    record {
      may = c.requires.max_len.may;
      mode = end.mode ∙ copy.mode;
      denotes = denotes;
      place = inr (record {
        short = c.requires.max_len.short;
        place = subst (λ (l : List ℕ). SameSurroundings (cut_at l 0 (length new.bytes)) new)
            (c.in_ok-region.ensures.bytes ∙ ap (λ (n : ℕ). zeros (region_len n)) size)
            (still-around c.in_ok-region.region was new c.args.extra
            (subst (λ (n : ℕ). SameSurroundings (cut_at c.in_ok-region.region 0 n) was) (sym same) copy.place)
            end.place (longer ∙ ap (λ (n : ℕ). n + c.args.extra) (sym same)));
        blocks = subst (λ (b : List ℕ).
            AllByRecursion (SameBlock (bytes_of b) (bytes_of new.bytes)) (live_of b).extents) copy.bytes end.blocks;
      });
    }
