-- Where elements stand, as it goes out.
use Rattle.std.proofs.Common.{◌≡◌, refl, sym, subst, ◌+◌, ◌*◌, ◌%◌, ◌≤◌, ◌∙◌, ap, length, ℕ, List, []}
use Rattle.std.proofs.Common.{Err, None, Ok, Option, Result, Some}
use Rattle.std.specs.Prelude.{IfOk}
use Rattle.raw_region.specs.Memory.{HasBytesAt, bytes_of}
use Rattle.seg_types.specs.declared.kinds.ScalarKind.TheVariants.{Bool as BoolKind, U8, I32, I64, U64}
use Rattle.seg_types.specs.{Kinds.scalar_code, Kinds.scalar_of_code, Kinds.size_of, Names.Key}
use Rattle.seg_types.specs.declared.kinds.ScalarKind.{ScalarKind}
use Rattle.seg_types.specs.{declared.refusals.Refusal.Refusal, declared.refusals.Refusal.TheVariants.NotFound}
use Rattle.segment_manager.specs.containers.ElementRuns.{IsRunOf, run_of, spelled_at, spelled_in}
use Rattle.segment_manager.specs.{Directory.Object, declared.objects.object_ref.Object.Object as Located}
use Rattle.segment_manager.specs.{objects.BoundObjects.key_of, objects.Located.IsLocated}
use Rattle.segment_manager.proofs.Laws.{same-object}
use Rattle.segment_manager.specs.{declared.containers.element_runs.ElementRun.ElementRun, State.SegmentState}
use Rattle.segment_c.specs.{declared.views.CView.CView, Passed.scalar_kind_in, Views.HasView, Views.IsView}

-- a kind is the one that its code says
code-back : (k : ScalarKind) → scalar_kind_in (scalar_code k) ≡ k
unfolding scalar_of_code
code-back BoolKind = refl
code-back U8 = refl
code-back I32 = refl
code-back I64 = refl
code-back U64 = refl

-- the view of elements is their place
pub has-view : (s : SegmentState) (key : Key) (run : ElementRun) (v : CView) → IsRunOf s key run → IsView v run
    → HasView s key v
has-view s key run v r e =
    let kind : scalar_kind_in v.kind ≡ run.kind = ap scalar_kind_in e.2 ∙ code-back run.kind in
    record {
      inside = subst (λ n. n ≤ length s.cut.bytes)
          (λ i. sym e.0 i + size_of (sym kind i) * sym e.1 i) r.inside;
      aligned = subst (λ n. n % 8 ≡ 0) (sym e.0) r.aligned;
      spells = λ d l. subst (λ n. HasBytesAt (bytes_of s.cut.bytes) n (spelled_at d key)) (sym e.0) (r.spells d l);
    }

-- the run of an object that there may be
abbrev pub run_told : Option Object → Result ElementRun Refusal
run_told r = elim r as (λ _. Result ElementRun Refusal) [ None ↦ Err NotFound | Some o ↦ run_of o ]

-- the run of a located object is the run of its key
pub run-by_key : (s : SegmentState) (key : Key) (o : Located) → IsLocated s key o → (r : Result ElementRun Refusal)
    → IfOk r (λ run. IsRunOf s (key_of o) run) → IfOk r (IsRunOf s key)
run-by_key s key o l (Err why) h = h
run-by_key s key o l (Ok run) h = record {
  inside = h.inside;
  aligned = h.aligned;
  spells = λ d st. subst (λ (r : Option Object). HasBytesAt (bytes_of s.cut.bytes) run.offset
      (elim r as (λ _. List ℕ) [ None ↦ [] | Some o ↦ spelled_in o.value ])) (sym (same-object s key o l d st))
      (h.spells d st);
}
