-- What calls on vectors of strings leave to the last byte.
use Rattle.segment_manager.proofs.Common.{AnswersWith, Change, DenotesCurrent, Directory, Err, HasCapacity, HasEnough}
use Rattle.segment_manager.proofs.Common.{Key, None, NotFound, Object, Ok, Option, Place, Refusal, Reserve, Result}
use Rattle.segment_manager.proofs.Common.{SegmentState, Some, StringsKind, UnchangedWhere, WindowState, ap}
use Rattle.segment_manager.proofs.Common.{container_at, object_at, sizes_of, subst, sym, ℕ, ◌∙◌, ◌≡◌, ◌≤◌}
use Rattle.segment_manager.proofs.containers.{MapSteps.HoldsTexts, MapSteps.holds-texts, ToChange.seen-found}
use Rattle.segment_manager.specs.containers.Stored.{ChangesTexts}

-- the window is as it was, and so is the segment
pub keeps-cut : (s t : SegmentState) (view : s ≡ t) (new : WindowState) (P : Directory → Type 0)
    → ((d : Directory) → DenotesCurrent s.cut.bytes d → P d → new ≡ s.cut) → UnchangedWhere t (record s { cut = new }) P
keeps-cut s t view new P each = subst (λ (u : SegmentState). UnchangedWhere u (record s { cut = new }) P) view
    (λ d l has. let e = each d l has in λ j. record s { cut = e j })

-- ---- places

abbrev places_in : Result (ℕ × ℕ) Refusal → ℕ
places_in (Ok (len, capacity)) = capacity
places_in (Err r) = 0

-- the length and the capacity of the key's object
pub enough-places : (d : Directory) (key : Key) (o : Object) (n len capacity : ℕ) → object_at d key ≡ Some o
    → sizes_of o.value ≡ Ok (len, capacity) → HasCapacity key n d → n ≤ capacity
enough-places d key o n len capacity is sizes has =
    let same : Ok (has.len, has.capacity) ≡ Ok (len, capacity) = sym has.says ∙ ap (λ (r : Option Object). elim r as
    (λ _. Result (ℕ × ℕ) Refusal) [ None ↦ Err NotFound | Some p ↦ sizes_of p.value ]) is ∙ sizes in
    subst (λ m. n ≤ m) (ap places_in same) has.enough

-- a refused change of a vector of strings leaves the segment
pub texts-kept : {s t : SegmentState} (view : s ≡ t) (key : Key) {p : Place}
    → AnswersWith t (λ d. container_at d key StringsKind)
    (Ok p) → (new : WindowState) (change : Change) (r : Result (Unit {0}) Refusal) → ChangesTexts change s.cut new p r
    → UnchangedWhere t (record s { cut = new }) (HasEnough change key)
texts-kept {s} {t} view key {p} found new change r each =
    keeps-cut s t view new (HasEnough change key) (λ d l has. same change each d l has)
  where
    same : (change : Change) → ChangesTexts change s.cut new p r → (d : Directory) → DenotesCurrent s.cut.bytes d
        → HasEnough change key d → new ≡ s.cut
    same (Reserve n) each d l has =
        let h : HoldsTexts s.cut.bytes d key p =
        holds-texts s.cut.bytes d key p l.denotes ((seen-found s t view key StringsKind p found).answers d l) in
        (each.1 h.texts h.table h.stand
        (enough-places d key h.object n _ h.table.capacity h.is (ap sizes_of h.value) has)).1
    same change each d l has = absurd has
