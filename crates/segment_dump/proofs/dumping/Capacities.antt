-- The notes of a segment's capacities are those of its directory.
use Rattle.segment_dump.proofs.Common.{◌≡◌, ℕ, ◌-◌, ◌≤◌, true, List, [], ◌∷◌, ◌++◌, length, map, Option, Some, None}
use Rattle.segment_dump.proofs.Common.{refl, sym, ap, ◌∙◌, arith, append_assoc, append-nil, option_to_list, flat_map}
use Rattle.segment_dump.proofs.Common.{nat_tests, and_parts, flat_map-append, is_legal_size, is_proper, proper_from}
use Rattle.segment_dump.proofs.Common.{bytes_of, word_at, Scalar, ScalarKind, ByHandle, Instance, sizes_at, sizes_of}
use Rattle.segment_dump.proofs.Common.{Value, Numbers, Elements, Bytes, Pairs, Texts, Directory, Object, kind_of, live}
use Rattle.segment_dump.proofs.Common.{named_objects, unique_objects, SaysOf, IsLocated, AnswersWith, SegmentState}
use Rattle.segment_dump.proofs.Common.{DenotesCurrent, said-at, Capacity, Holds, Kinds, Names, all_notes, capacities}
use Rattle.segment_dump.proofs.Common.{capacities_text, capacity_note, index_notes, measured_slots, slots_at}
use Rattle.segment_dump.proofs.{Common.anonymous_objects, Common.part_of, dumping.ObjectParts.sizes_of_object}
use Rattle.seg_types.specs.declared.kinds.Kind.TheVariants.{Map}
use Rattle.segment_manager.specs.{declared.objects.object_ref.Object.Object as Located, State.IsSegment}
use Rattle.segment_dump.specs.Capacities.{notes_at, notes_of, object_capacities, object_notes, slots_in, slots_of}

-- ---- the places of the two indexes

legal-least : (n : ℕ) → is_legal_size n ≡ true → 144 ≤ n
legal-least n e = grind (arith, nat_tests)

-- the words of both stand in the header
pub header-inside : (b : List ℕ) → IsSegment b → 144 ≤ length b
unfolding is_proper
header-inside b (d, k) =
    let legal = and_parts (is_legal_size (live d).size) (proper_from 128 (live d).extents ((live d).size - 16))
    k.denotes.directory.proper in
    omega (arith, legal-least (live d).size legal.0, k.denotes.heap.size)

-- the capacity of the index of names is the directory's
pub named-slots : (b : List ℕ) (d : Directory) → DenotesCurrent b d → word_at (bytes_of b) 48 ≡ d.named.capacity
named-slots b d k = k.denotes.named.capacity

-- the capacity of the index of kinds is the directory's
pub unique-slots : (b : List ℕ) (d : Directory) → DenotesCurrent b d → word_at (bytes_of b) 72 ≡ d.unique.capacity
unique-slots b d k = k.denotes.unique.capacity

-- ---- the places of an object

scalars-none : (k : ScalarKind) (v : Value) → kind_of v ≡ Scalar k → slots_of v ≡ None
scalars-none k (Numbers l zs) e = refl
scalars-none k (Pairs l m ps) e = refl
scalars-none k v e = absurd (cc)

map-none : (k w : ScalarKind) (v : Value) → kind_of v ≡ Map k w → slots_of v ≡ None
map-none k w (Numbers l zs) e = refl
map-none k w (Pairs l m ps) e = refl
map-none k w v e = absurd (cc)

measured : (v : Value) → ((k : ScalarKind) → kind_of v ≡ Scalar k → ⊥)
    → ((k w : ScalarKind) → kind_of v ≡ Map k w → ⊥) → measured_slots (sizes_of v) ≡ slots_of v
measured (Numbers k zs) n m = absurd (n k refl)
measured (Elements k zs t) n m = refl
measured (Bytes bs t) n m = refl
measured (Pairs k v ps) n m = absurd (m k v refl)
measured (Texts ps t) n m = refl

module _ (s : SegmentState) (o : Located) (l : IsLocated s (ByHandle o.handle) o) where
  kind-said : (d : Directory) (st : DenotesCurrent s.cut.bytes d)
      → o.kind ≡ kind_of (said-at s (ByHandle o.handle) o l d st).object.value
  kind-said d st = ap (λ (q : Located). q.kind) (said-at s (ByHandle o.handle) o l d st).said

  -- an array has no capacity
  pub scalars-without : (k : ScalarKind) → o.kind ≡ Scalar k → AnswersWith s (λ d. slots_at d (ByHandle o.handle)) None
  scalars-without k e = record {
    answers = λ d st.
        let f = said-at s (ByHandle o.handle) o l d st in
        sym (ap slots_in f.is ∙ scalars-none k f.object.value (sym (kind-said d st) ∙ e));
  }

  -- a map has no capacity
  pub map-without : (k w : ScalarKind) → o.kind ≡ Map k w → AnswersWith s (λ d. slots_at d (ByHandle o.handle)) None
  map-without k w e = record {
    answers = λ d st.
        let f = said-at s (ByHandle o.handle) o l d st in
        sym (ap slots_in f.is ∙ map-none k w f.object.value (sym (kind-said d st) ∙ e));
  }

  -- another object has the capacity that was measured
  pub others-measured : (r : Option ℕ) → ((k : ScalarKind) → o.kind ≡ Scalar k → ⊥)
      → ((k w : ScalarKind) → o.kind ≡ Map k w → ⊥)
      → AnswersWith s (λ d. measured_slots (sizes_at d (ByHandle o.handle))) r
      → AnswersWith s (λ d. slots_at d (ByHandle o.handle)) r
  others-measured r no_scalar no_map a = record {
    answers = λ d st.
        let f = said-at s (ByHandle o.handle) o l d st in
        a.answers d st ∙ ap (λ r. measured_slots (sizes_of_object r)) f.is
        ∙ measured f.object.value (λ k e. no_scalar k (kind-said d st ∙ e)) (λ k w e. no_map k w (kind-said d st ∙ e))
        ∙ sym (ap slots_in f.is);
  }

-- ---- its note

module _ (s : SegmentState) (said : Instance) (h : SaysOf s (ByHandle said.handle) said) where
  told : (r : Option ℕ) → AnswersWith s (λ d. slots_at d (ByHandle said.handle)) r
      → (d : Directory) (st : DenotesCurrent s.cut.bytes d)
      → capacities_text (map (λ n. record { holder = Holds said.class said.name.now said.kind; slots = n })
      (option_to_list r)) ≡ notes_at d (ByHandle said.handle)
  told r a d st =
      let f = h.says d st in
      let slots : r ≡ slots_of f.0.value = a.answers d st ∙ ap slots_in f.1 in
      (λ i. capacities_text (map (λ n. record {
        holder = Holds (f.2.class i) (f.2.name i) (f.2.kind i);
        slots = n;
      }) (option_to_list (slots i)))) ∙ sym (ap (part_of object_notes) f.1)

  -- the note of a capacity is the directory's
  pub note-told : (n : ℕ) → AnswersWith s (λ d. slots_at d (ByHandle said.handle)) (Some n) → (d : Directory)
      → DenotesCurrent s.cut.bytes d
      → capacity_note (record { holder = Holds said.class said.name.now said.kind; slots = n })
      ≡ notes_at d (ByHandle said.handle)
  note-told n a d st =
      sym (append-nil (capacity_note (record { holder = Holds said.class said.name.now said.kind; slots = n })))
      ∙ told (Some n) a d st

  -- an object without a capacity has no note
  pub none-told : AnswersWith s (λ d. slots_at d (ByHandle said.handle)) None → (d : Directory)
      → DenotesCurrent s.cut.bytes d → notes_at d (ByHandle said.handle) ≡ []
  none-told a d st = sym (told None a d st)

-- ---- all of them

objects-notes : (os : List Object) → capacities_text (flat_map object_capacities os) ≡ notes_of os
objects-notes [] = refl
objects-notes (o ∷ os) = flat_map-append capacity_note (object_capacities o) (flat_map object_capacities os)
    ∙ ap (λ l. object_notes o ++ l) (objects-notes os)

two-notes : (a b : List Capacity) (x y : List ℕ) → capacities_text a ≡ x → capacities_text b ≡ y
    → capacities_text (a ++ b) ≡ x ++ y
two-notes a b x y e f = flat_map-append capacity_note a b ∙ (λ i. e i ++ f i)

-- the notes of all capacities are the directory's
pub capacity-parts : (d : Directory)
    → index_notes d.named.capacity d.unique.capacity ++ all_notes d ≡ capacities_text (capacities d)
capacity-parts d =
    let named = flat_map object_capacities (named_objects d) in
    let unique = flat_map object_capacities (unique_objects d) in
    let anonymous = flat_map object_capacities (anonymous_objects d) in
    let others = two-notes unique anonymous _ _ (objects-notes (unique_objects d))
    (objects-notes (anonymous_objects d)) in
    let all = two-notes named (unique ++ anonymous) _ _ (objects-notes (named_objects d)) others in
    let names = capacity_note (record { holder = Names; slots = d.named.capacity }) in
    let kinds = capacity_note (record { holder = Kinds; slots = d.unique.capacity }) in
    append_assoc names kinds (all_notes d) ∙ ap (λ l. names ++ (kinds ++ l)) (sym all)
