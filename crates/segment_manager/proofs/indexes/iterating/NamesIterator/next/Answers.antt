-- The result of the iterator over the objects has the name.
use Rattle.segment_manager.proofs.indexes.iterating.NamesIterator.next.Goals as goal
use Rattle.std.specs.Borrow.{Bor}
use Rattle.segment_manager.proofs.Common.{AnswersWith, DenotesCurrent, Directory, Instance, List, Named, None, Object}
use Rattle.segment_manager.proofs.Common.{Option, SaysAt, SegmentState, Some, ap, length, named_objects, objects_of}
use Rattle.segment_manager.proofs.Common.{option_map, refl, slice_get, slice_get-map, slice_get_past, subst, sym, ℕ}
use Rattle.segment_manager.proofs.Common.{◌∙◌, ◌≡◌, ◌≤◌}
use Rattle.segment_manager.specs.indexes.Iterating.{GoesOnNames, NameWalk, Walk, YieldsInstance, names_of}

-- the name of an object at a place of the list of named objects; after the last there is none
name-said : {s : SegmentState} {at : ℕ} {said : Instance} → SaysAt s named_objects at said
    → AnswersWith s (λ d. slice_get (names_of d) at) (Some said.name.now)
name-said {at} h = record {
  answers = λ d k.
      let one = h.says d k in
      ap (λ (name : List ℕ). Some name) one.2.name ∙ sym (slice_get-map (λ (o : Object). o.name) (named_objects d) at
      ∙ ap (option_map (λ (o : Object). o.name)) one.1);
}

name-past : {s : SegmentState} (at : ℕ)
    → ((d : Directory) → DenotesCurrent s.cut.bytes d → length (named_objects d) ≤ at)
    → AnswersWith s (λ d. slice_get (names_of d) at) None
name-past at h = record {
  answers = λ d k. sym (slice_get-map (λ (o : Object). o.name) (named_objects d) at
      ∙ ap (option_map (λ (o : Object). o.name)) (slice_get_past (named_objects d) at (h d k)));
}

-- an iterator over the named objects gives their names
abbrev names_walk : Walk → NameWalk
names_walk w = record { segment = w.segment; at = w.at }

-- the walk over names is at its end
names-end : {A : Type 0} (seen : A → List ℕ) (old new : Walk) → old.index ≡ Named → YieldsInstance old None new
    → GoesOnNames seen (names_walk old) None (names_walk new)
names-end seen old new e g = record {
  segment = g.segment;
  place = g.place;
  says = name-past old.at (λ d k. subst (λ i. length (objects_of i d) ≤ old.at) e (g.says d k));
}

-- the walk over names continues with the next one
names-go_on : {A : Type 0} {seen : A → List ℕ} {name : A} (old new : Walk) (said : Instance)
    → seen name ≡ said.name.now → old.index ≡ Named → YieldsInstance old (Some said) new
    → GoesOnNames seen (names_walk old) (Some name) (names_walk new)
names-go_on old new said f e g = record {
  segment = g.segment;
  place = g.place;
  says = subst (λ bytes. AnswersWith old.segment (λ d. slice_get (names_of d) old.at) (Some bytes)) (sym f)
      (name-said (subst (λ i. SaysAt old.segment (objects_of i) old.at said) e g.says));
}

abbrev bytes : Bor (List ℕ) → List ℕ
bytes name = name.now

pub returns-in_err-said-clause-steps : goal.returns-in_err-said-clause-steps
returns-in_err-said-clause-steps c =
    let old = c.self.inside.instances in let new = c.next.new.self in
    let none = names-end bytes old new c.self.invariant
    (subst (λ (r : Option Instance). YieldsInstance old r new) c.in_err-said.was c.next.ensures.steps) in
    subst (λ (t : NameWalk). GoesOnNames bytes t c.from_residual.result (names_walk new)) c.self.view_is
    (subst (λ (r : Option (Bor (List ℕ))). GoesOnNames bytes (names_walk old) r (names_walk new))
    (sym c.from_residual.ensures) none)

pub returns-clause-steps : goal.returns-clause-steps
returns-clause-steps c =
    let old = c.self.inside.instances in let new = c.next.new.self in
    subst (λ (t : NameWalk). GoesOnNames bytes t (Some c.in_ok-said.said.name) (names_walk new)) c.self.view_is
    (names-go_on old new c.in_ok-said.said refl c.self.invariant
    (subst (λ (r : Option Instance). YieldsInstance old r new) c.in_ok-said.was c.next.ensures.steps))
