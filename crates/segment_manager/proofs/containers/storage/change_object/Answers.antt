-- The container of the located object is changed by the call for its kind.
use Rattle.segment_manager.proofs.containers.storage.change_object.Goals as goal
use Rattle.segment_manager.proofs.Common.{ByHandle, Located, SegmentState, StringsKind, ap, command_of, done_answer}
use Rattle.segment_manager.proofs.Common.{has_storage, inl, inr, refl, subst, sym}
use Rattle.segment_manager.proofs.bound.ByKey.{container-here, container-there}
use Rattle.segment_manager.proofs.containers.{ItemSteps.change-other, Safely.Answered, Safely.answered}
use Rattle.segment_manager.proofs.containers.{KeptContainers.texts-kept, RangeCalls.has_storage-left}
use Rattle.segment_manager.proofs.containers.ElementRuns.{elements-changed, elements-kept, some-elements}
use Rattle.segment_manager.proofs.containers.TextListCalls.{texts-changed, texts-standing}
use Rattle.segment_manager.proofs.objects.Locating.{enough-by_key, kind-by_key, located-changes}
use Rattle.segment_manager.specs.containers.Stored.{ChangesElements, IsElements, each_of}
use Rattle.segment_manager.specs.objects.{BoundObjects.key_of, Located.IsLocated, Located.IsObject}
use Rattle.segment_manager.proofs.containers.storage.change_object.Goals.{After-change_elements, After-change_texts}

-- the object is located by its handle
located : {s : SegmentState} {o : Located} → IsObject o s → IsLocated s (key_of o) o
located there = record { at = there; here = there }

-- the effect of the call on a vector of strings, and on elements of one length, in each goal after it
texts-done : (c : After-change_texts)
    → Answered done_answer (record { cut = c.segment.inside.heap; mode = c.segment.inside.mode })
    c.args.segment.now c.change_texts.new.heap (ByHandle c.args.object.handle) StringsKind
    (command_of c.args.change (ByHandle c.args.object.handle)) c.change_texts.result
texts-done c =
    answered _ _ c.segment.view_is c.segment.invariant _ _ _ _ _
    (texts-changed c.segment.view_is c.segment.invariant (record {
      writing = c.requires.writing;
      at = container-here (record { there = c.requires.object; of_kind = c.in-Strings.is })
          c.own_container-place.ensures;
    }) _ c.args.change _ c.change_texts.ensures)

elements-said : (c : After-change_elements)
    → ChangesElements c.args.change c.segment.inside.heap c.change_elements.new.heap c.own_container-place.result
    (each_of c.args.object.kind) c.change_elements.result
elements-said c = subst (λ n. ChangesElements c.args.change c.segment.inside.heap c.change_elements.new.heap
    c.own_container-place.result n c.change_elements.result) c.element_len.ensures c.change_elements.ensures

elements-done : (c : After-change_elements)
    → Answered done_answer (record { cut = c.segment.inside.heap; mode = c.segment.inside.mode })
    c.args.segment.now c.change_elements.new.heap (ByHandle c.args.object.handle) c.args.object.kind
    (command_of c.args.change (ByHandle c.args.object.handle)) c.change_elements.result
elements-done c = answered _ _ c.segment.view_is c.segment.invariant _ _ _ _ _
    (elements-changed c.segment.view_is _ _ _ c.segment.invariant (container-there c.requires.object
    c.own_container-place.ensures) (has_storage-left _ c.in_default.not-Scalar c.in_default.not-Map)
    c.in_default.not-Strings _ c.requires.writing c.args.change _
    (elements-said c))

pub returns-in-Scalar-clause-step : goal.returns-in-Scalar-clause-step
returns-in-Scalar-clause-step c = change-other c.args.change c.args.segment.now _ c.args.object.kind
    c.requires.writing (elim c.in-Scalar.is
    [ inl a ↦ ap has_storage a.1 | inr a ↦ ap has_storage a.2 ]) (kind-by_key _ _ _ (located c.requires.object))

pub change_texts-requires : goal.change_texts-requires
change_texts-requires c = texts-standing c.segment.view_is (ByHandle c.args.object.handle) _ c.segment.invariant
    (container-here (record { there = c.requires.object; of_kind = c.in-Strings.is })
    c.own_container-place.ensures)

pub invariant_of-segment : goal.invariant_of-segment
invariant_of-segment c = (texts-done (goal.at.invariant_of-segment c).After-change_texts).segment

pub returns-in-Strings : goal.returns-in-Strings
returns-in-Strings c =
    let done = texts-done (goal.at.returns-in-Strings c).After-change_texts in
    record {
      step = located-changes _ _ _ (located c.requires.object) c.args.change _ StringsKind _ c.in-Strings.is done.step;
      refused = done.refused;
      noop = enough-by_key _ _ _ (located c.requires.object) c.args.change _
          (texts-kept c.segment.view_is _ (container-here (record {
            there = c.requires.object;
            of_kind = c.in-Strings.is;
          }) c.own_container-place.ensures) _ c.args.change _ c.change_texts.ensures);
    }

pub change_elements-requires : goal.change_elements-requires
change_elements-requires c = subst (IsElements c.segment.inside.heap.bytes c.own_container-place.result)
    (sym c.element_len.ensures) (some-elements c.segment.view_is (ByHandle c.args.object.handle) _ _
    c.segment.invariant (container-there c.requires.object c.own_container-place.ensures)
    (has_storage-left _ c.in_default.not-Scalar c.in_default.not-Map) c.in_default.not-Strings)

pub invariant_of-segment-in_default : goal.invariant_of-segment-in_default
invariant_of-segment-in_default c =
    (elements-done (goal.at.invariant_of-segment-in_default c).After-change_elements).segment

pub returns-in_default : goal.returns-in_default
returns-in_default c =
    let there = (goal.at.returns-in_default c).After-change_elements in
    record {
      step = located-changes _ _ _ (located c.requires.object) c.args.change _ _ _ refl (elements-done there).step;
      refused = (elements-done there).refused;
      noop = enough-by_key _ _ _ (located c.requires.object) c.args.change _ (elements-kept c.segment.view_is _ _ _
          c.segment.invariant (container-there c.requires.object c.own_container-place.ensures)
          (has_storage-left _ c.in_default.not-Scalar c.in_default.not-Map) c.in_default.not-Strings _
          c.args.change _ (elements-said there));
    }
