-- What is counted of the objects of a segment, one more at a time.
use Rattle.std.proofs.Common.{◌≡◌, ℕ, ◌+◌, ◌^◌, ◌<◌, ◌≤◌, Bool, true, false, List, [], ◌∷◌, ◌++◌, length, map, take}
use Rattle.std.proofs.Common.{Some, slice_get, refl, sym, ap, subst, ◌∙◌, arith, length-take, if◌then◌else◌}
use Rattle.std.specs.Prelude.{count_by, slice_index, ◌==◌}
use Rattle.std.proofs.lemmas.List.{take_all, take_more}
use Rattle.std.proofs.lemmas.List.Sums.{count_by-le-length, sum_by_push}
use Rattle.std.proofs.lemmas.Option.{get_or_from_slice_get, slice_get_within}
use Rattle.seg_types.specs.declared.kinds.ScalarKind.TheVariants.{Bool as BoolKind, U8, I32, I64, U64}
use Rattle.seg_types.specs.declared.kinds.Kind.{Kind}
use Rattle.seg_types.specs.declared.kinds.Kind.TheVariants.{Scalar, String, Vector, Map, Strings}
use Rattle.seg_types.specs.declared.kinds.Class.{Class}
use Rattle.seg_types.specs.declared.kinds.Class.TheVariants.{Anonymous, Named, Unique}
use Rattle.seg_types.specs.Kinds.{class_code, kinds, same_kind}
use Rattle.segment_manager.specs.declared.objects.instance_info.Instance.{Instance}
use Rattle.segment_manager.specs.Directory.{Directory, Object, is_class, kind_of}
use Rattle.segment_manager.specs.objects.Instances.{IsInstance, SaysAt}
use Rattle.segment_manager.specs.State.{IsSegment, SegmentState, DenotesCurrent}
use Rattle.segment_manager.proofs.Laws.{objects-few}
use Rattle.segment_report.specs.declared.objects.ObjectTally.{ObjectTally}
use Rattle.segment_report.specs.Objects.{CanTally, count_of_kind, is_of_kind, kind_index, object_counted}
use Rattle.segment_report.specs.Objects.{object_tally_of, objects_tally, one_more_at}

-- ---- one object more

count-if : {X : Type 0} (p : X → Bool) (xs : List X) (x : X) (b : Bool) → p x ≡ b
    → count_by p (xs ++ x ∷ []) ≡ (if b then count_by p xs + 1 else count_by p xs)
count-if p xs x true e = sum_by_push (λ y. if p y then 1 else 0) xs x
    ∙ ap (λ (b : Bool). count_by p xs + (if b then 1 else 0)) e
count-if p xs x false e = sum_by_push (λ y. if p y then 1 else 0) xs x
    ∙ ap (λ (b : Bool). count_by p xs + (if b then 1 else 0)) e ∙ omega arith

count-more : {X : Type 0} (p : X → Bool) (xs : List X) (x : X)
    → count_by p (xs ++ x ∷ []) ≡ (if p x then count_by p xs + 1 else count_by p xs)
count-more p xs x = count-if p xs x (p x) refl

map-same : (f g : Kind → ℕ) (ks : List Kind) → ((k : Kind) → f k ≡ g k) → map f ks ≡ map g ks
map-same f g [] h = refl
map-same f g (k ∷ ks) h = λ i. h k i ∷ map-same f g ks h i

-- the count of its kind is one more, and no other is
kinds-at : (f : Kind → ℕ) (k : Kind)
    → map (λ l. if same_kind l k then f l + 1 else f l) kinds ≡ one_more_at (map f kinds) (kind_index k)
kinds-at f (Scalar BoolKind) = refl
kinds-at f (Scalar U8) = refl
kinds-at f (Scalar I32) = refl
kinds-at f (Scalar I64) = refl
kinds-at f (Scalar U64) = refl
kinds-at f String = refl
kinds-at f Strings = refl
kinds-at f (Vector BoolKind) = refl
kinds-at f (Vector U8) = refl
kinds-at f (Vector I32) = refl
kinds-at f (Vector I64) = refl
kinds-at f (Vector U64) = refl
kinds-at f (Map BoolKind BoolKind) = refl
kinds-at f (Map BoolKind U8) = refl
kinds-at f (Map BoolKind I32) = refl
kinds-at f (Map BoolKind I64) = refl
kinds-at f (Map BoolKind U64) = refl
kinds-at f (Map U8 BoolKind) = refl
kinds-at f (Map U8 U8) = refl
kinds-at f (Map U8 I32) = refl
kinds-at f (Map U8 I64) = refl
kinds-at f (Map U8 U64) = refl
kinds-at f (Map I32 BoolKind) = refl
kinds-at f (Map I32 U8) = refl
kinds-at f (Map I32 I32) = refl
kinds-at f (Map I32 I64) = refl
kinds-at f (Map I32 U64) = refl
kinds-at f (Map I64 BoolKind) = refl
kinds-at f (Map I64 U8) = refl
kinds-at f (Map I64 I32) = refl
kinds-at f (Map I64 I64) = refl
kinds-at f (Map I64 U64) = refl
kinds-at f (Map U64 BoolKind) = refl
kinds-at f (Map U64 U8) = refl
kinds-at f (Map U64 I32) = refl
kinds-at f (Map U64 I64) = refl
kinds-at f (Map U64 U64) = refl

-- what is counted of a kind stands at its place
pub kind-there : (f : Kind → ℕ) (k : Kind) → slice_index (map f kinds) (kind_index k) ≡ f k
kind-there f (Scalar BoolKind) = refl
kind-there f (Scalar U8) = refl
kind-there f (Scalar I32) = refl
kind-there f (Scalar I64) = refl
kind-there f (Scalar U64) = refl
kind-there f String = refl
kind-there f Strings = refl
kind-there f (Vector BoolKind) = refl
kind-there f (Vector U8) = refl
kind-there f (Vector I32) = refl
kind-there f (Vector I64) = refl
kind-there f (Vector U64) = refl
kind-there f (Map BoolKind BoolKind) = refl
kind-there f (Map BoolKind U8) = refl
kind-there f (Map BoolKind I32) = refl
kind-there f (Map BoolKind I64) = refl
kind-there f (Map BoolKind U64) = refl
kind-there f (Map U8 BoolKind) = refl
kind-there f (Map U8 U8) = refl
kind-there f (Map U8 I32) = refl
kind-there f (Map U8 I64) = refl
kind-there f (Map U8 U64) = refl
kind-there f (Map I32 BoolKind) = refl
kind-there f (Map I32 U8) = refl
kind-there f (Map I32 I32) = refl
kind-there f (Map I32 I64) = refl
kind-there f (Map I32 U64) = refl
kind-there f (Map I64 BoolKind) = refl
kind-there f (Map I64 U8) = refl
kind-there f (Map I64 I32) = refl
kind-there f (Map I64 I64) = refl
kind-there f (Map I64 U64) = refl
kind-there f (Map U64 BoolKind) = refl
kind-there f (Map U64 U8) = refl
kind-there f (Map U64 I32) = refl
kind-there f (Map U64 I64) = refl
kind-there f (Map U64 U64) = refl

kinds-more : (os : List Object) (o : Object)
    → map (count_of_kind (os ++ o ∷ [])) kinds
    ≡ one_more_at (map (count_of_kind os) kinds) (kind_index (kind_of o.value))
kinds-more os o =
    map-same (count_of_kind (os ++ o ∷ [])) (λ k.
    if same_kind k (kind_of o.value) then count_of_kind os k + 1 else count_of_kind os k) kinds (λ k.
    count-more (is_of_kind k) os o)
    ∙ kinds-at (count_of_kind os) (kind_of o.value)

class-yes : (c : Class) (os : List Object) (o : Object) → is_class c o ≡ true
    → count_by (is_class c) (os ++ o ∷ []) ≡ count_by (is_class c) os + 1
class-yes c os o e = count-if (is_class c) os o true e

class-no : (c : Class) (os : List Object) (o : Object) → is_class c o ≡ false
    → count_by (is_class c) (os ++ o ∷ []) ≡ count_by (is_class c) os
class-no c os o e = count-if (is_class c) os o false e

object-more : (os : List Object) (o : Object) (c : Class) → o.class ≡ c
    → objects_tally (os ++ o ∷ []) ≡ object_counted (objects_tally os) c (kind_of o.value)
object-more os o Named e = λ i. record {
  named = class-yes Named os o (ap (λ (c : Class). class_code Named == class_code c) e) i;
  unique = class-no Unique os o (ap (λ (c : Class). class_code Unique == class_code c) e) i;
  anonymous = class-no Anonymous os o (ap (λ (c : Class). class_code Anonymous == class_code c) e) i;
  kinds = kinds-more os o i;
}
object-more os o Unique e = λ i. record {
  named = class-no Named os o (ap (λ (c : Class). class_code Named == class_code c) e) i;
  unique = class-yes Unique os o (ap (λ (c : Class). class_code Unique == class_code c) e) i;
  anonymous = class-no Anonymous os o (ap (λ (c : Class). class_code Anonymous == class_code c) e) i;
  kinds = kinds-more os o i;
}
object-more os o Anonymous e = λ i. record {
  named = class-no Named os o (ap (λ (c : Class). class_code Named == class_code c) e) i;
  unique = class-no Unique os o (ap (λ (c : Class). class_code Unique == class_code c) e) i;
  anonymous = class-yes Anonymous os o (ap (λ (c : Class). class_code Anonymous == class_code c) e) i;
  kinds = kinds-more os o i;
}

-- ---- a walk over all objects

-- what was counted of the objects before a place
pub record AreCounted (b : List ℕ) (t : ObjectTally) (i : ℕ) : Type 0 where
  pub told : (d : Directory) → DenotesCurrent b d → t ≡ objects_tally (take i d.objects)

-- before the first object nothing is counted
pub no_objects : (b : List ℕ) → AreCounted b (objects_tally []) 0
no_objects b = record { told = λ d k. refl }

take-few : {X : Type 0} (xs : List X) (i : ℕ) → length (take i xs) ≤ i
take-few xs i = omega (arith, length-take i xs)

room-for : (os : List Object) (i : ℕ) → length os ≤ i → CanTally (objects_tally os) i
room-for os i h = record {
  named = omega (arith, count_by-le-length (is_class Named) os);
  unique = omega (arith, count_by-le-length (is_class Unique) os);
  anonymous = omega (arith, count_by-le-length (is_class Anonymous) os);
  kinds = λ k. let e = kind-there (count_of_kind os) k in omega (arith, e, count_by-le-length (is_of_kind k) os);
}

taken : (os : List Object) (i : ℕ) (o : Object) → slice_get os i ≡ Some o → take (i + 1) os ≡ take i os ++ o ∷ []
taken os i o e =
    take_more os i o (slice_get_within os i o e) ∙ ap (λ t. take i os ++ t ∷ []) (get_or_from_slice_get os i o o e)

tally-more : (os : List Object) (i : ℕ) (o : Object) (said : Instance) → slice_get os i ≡ Some o → IsInstance o said
    → object_counted (objects_tally (take i os)) said.class said.kind ≡ objects_tally (take (i + 1) os)
tally-more os i o said e is =
    (λ j. object_counted (objects_tally (take i os)) (is.class j) (is.kind j))
    ∙ sym (object-more (take i os) o o.class refl) ∙ ap objects_tally (sym (taken os i o e))

module _ (s : SegmentState) (t : ObjectTally) (i : ℕ) (was : AreCounted s.cut.bytes t i) (said : Instance)
    (at : SaysAt s (λ (d : Directory). d.objects) i said) where
  -- there is room for one object more in the count
  pub objects-room : IsSegment s.cut.bytes → (n : ℕ) × CanTally t n × (n < 2 ^ 63)
  objects-room g =
      let os : List Object = g.0.objects in
      let o = at.says g.0 g.1 in
      let within : i < length os = slice_get_within os i o.0 o.1 in (
        i,
        subst (λ (u : ObjectTally). CanTally u i) (sym (was.told g.0 g.1))
            (room-for (take i os) i (take-few os i)),
        omega (arith, within, objects-few s.cut.bytes g),
      )

  -- one object more is counted
  pub objects-more : (new : ObjectTally) → new ≡ object_counted t said.class said.kind
      → AreCounted s.cut.bytes new (i + 1)
  objects-more new h = record {
    told = λ d k.
        let o = at.says d k in
        h ∙ ap (λ (u : ObjectTally). object_counted u said.class said.kind) (was.told d k)
        ∙ tally-more d.objects i o.0 said o.1 o.2;
  }

-- all objects are counted
pub objects-all : (b : List ℕ) (t : ObjectTally) (i : ℕ) → AreCounted b t i
    → ((d : Directory) → DenotesCurrent b d → length d.objects ≤ i) → (d : Directory) → DenotesCurrent b d
    → t ≡ object_tally_of d
objects-all b t i was end d k = was.told d k ∙ ap objects_tally (take_all i d.objects (end d k))
