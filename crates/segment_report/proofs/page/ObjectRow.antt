-- A row of a page's table says what its object is.
use Rattle.std.proofs.Common.{◌≡◌, ℕ, List, Some, slice_get, sym}
use Rattle.segment_manager.specs.declared.objects.instance_info.Instance.{Instance}
use Rattle.segment_manager.specs.Directory.{Directory, Object}
use Rattle.segment_manager.specs.objects.Instances.{IsInstance, SaysAt}
use Rattle.segment_manager.specs.State.{SegmentState, DenotesCurrent}
use Rattle.segment_report.specs.Page.{instance_row, object_row, row_text}

row-same : (o : Object) (said : Instance) → IsInstance o said → object_row o ≡ instance_row said
row-same o said is = sym (λ i. row_text (is.class i) (is.name i) (is.kind i) (is.count i) (is.at i))

-- the next object of a walk, and its row
pub row-next : (s : SegmentState) (i : ℕ) (said : Instance) → SaysAt s (λ (d : Directory). d.objects) i said
    → (d : Directory) → DenotesCurrent s.cut.bytes d → (o : Object) × (Some o ≡ slice_get d.objects i)
    × (object_row o ≡ instance_row said)
row-next s i said at d k = let o = at.says d k in (o.0, sym o.1, row-same o.0 said o.2)
