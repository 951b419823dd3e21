-- The objects of the lists of a directory: each is found by its handle.
use Rattle.segment_dump.proofs.Common.{◌≡◌, refl, sym, ap, subst, ◌∙◌, ℕ, ◌+◌, ◌≤◌, zero, suc, true, false, Some, List}
use Rattle.segment_dump.proofs.Common.{[], ◌∷◌, cond, arith, IsTrue, filter, find, nat_le, slice_get, AllByRecursion}
use Rattle.segment_dump.proofs.Common.{and_parts, eq-eqb, leb-true, ne_eqb, handle, Class, Named, Unique, ByHandle}
use Rattle.segment_dump.proofs.Common.{Instance, Object, Directory, by_kind, by_name, has_key, is_class, named_objects}
use Rattle.segment_dump.proofs.Common.{object_at, rises_from, unique_objects, SaysAt, SaysOf, SegmentState}
use Rattle.segment_dump.proofs.Common.{DenotesCurrent, all-ordered, part_of}
use Rattle.std.proofs.lemmas.Option.{same_Some}
use Rattle.segment_manager.specs.objects.Instances.{IsInstance}
use Rattle.segment_dump.proofs.{texts.AllElements.all-kept, texts.Options.none-some}

-- ---- a list that rises by offset has each handle once

-- the first stands at n or after it, and the others after the first
rises-prefix : (n : ℕ) (o : Object) (os : List Object) → IsTrue (rises_from n (o ∷ os)) → n ≤ o.extent.offset
rises-prefix n o os h = leb-true n o.extent.offset
    (and_parts (nat_le n o.extent.offset) (rises_from (o.extent.offset + 1) os) h).0

rises-rest : (n : ℕ) (o : Object) (os : List Object) → IsTrue (rises_from n (o ∷ os))
    → IsTrue (rises_from (o.extent.offset + 1) os)
rises-rest n o os h = (and_parts (nat_le n o.extent.offset) (rises_from (o.extent.offset + 1) os) h).1

rises-at : (n : ℕ) (os : List Object) (j : ℕ) (o : Object) → IsTrue (rises_from n os) → slice_get os j ≡ Some o
    → n ≤ o.extent.offset
rises-at n [] j o h e = absurd (none-some o e)
rises-at n (p ∷ ps) zero o h e = subst (λ (q : Object). n ≤ q.extent.offset) (same_Some p o e) (rises-prefix n p ps h)
rises-at n (p ∷ ps) (suc j) o h e =
    let first = rises-prefix n p ps h in
    let more = rises-at (p.extent.offset + 1) ps j o (rises-rest n p ps h) e in
    omega arith

-- the object at a place is found by its handle
found-at : (n : ℕ) (os : List Object) (j : ℕ) (o : Object) → IsTrue (rises_from n os) → slice_get os j ≡ Some o
    → find (has_key (ByHandle (handle o.extent))) os ≡ Some o
found-at n [] j o h e = absurd (none-some o e)
found-at n (p ∷ ps) zero o h e =
    let same : p ≡ o = same_Some p o e in
    let test : has_key (ByHandle (handle o.extent)) p ≡ true =
    eq-eqb (handle o.extent) (handle p.extent) (ap (λ (q : Object). handle q.extent) (sym same)) in
    ap (λ b. cond b (Some p) (find (has_key (ByHandle (handle o.extent))) ps)) test ∙ e
found-at n (p ∷ ps) (suc j) o h e =
    let rest : IsTrue (rises_from (p.extent.offset + 1) ps) = rises-rest n p ps h in
    let more : p.extent.offset + 1 ≤ o.extent.offset = rises-at (p.extent.offset + 1) ps j o rest e in
    let test : has_key (ByHandle (handle o.extent)) p ≡ false =
    ne_eqb (handle o.extent) (handle p.extent) (λ same. omega arith) in
    ap (λ b. cond b (Some p) (find (has_key (ByHandle (handle o.extent))) ps)) test
    ∙ found-at (p.extent.offset + 1) ps j o rest e

-- ---- what holds of each object

pub at-place : (P : Object → Type 0) (os : List Object) (j : ℕ) (o : Object) → AllByRecursion P os
    → slice_get os j ≡ Some o → P o
at-place P [] j o a e = absurd (none-some o e)
at-place P (p ∷ ps) zero o a e = subst P (same_Some p o e) a.0
at-place P (p ∷ ps) (suc j) o a e = at-place P ps j o a.1 e

from-slots : (P : Object → Type 0) (os : List Object) → ((j : ℕ) (o : Object) → slice_get os j ≡ Some o → P o)
    → AllByRecursion P os
from-slots P [] h = tt
from-slots P (p ∷ ps) h = (h zero p refl, from-slots P ps (λ j o e. h (suc j) o e))

-- ---- the three lists

-- the directory has the object under its handle
abbrev pub IsFoundIn : Directory → Object → Type 0
IsFoundIn d o = object_at d (ByHandle (handle o.extent)) ≡ Some o

module _ (b : List ℕ) (d : Directory) (st : DenotesCurrent b d) where
  -- each object is found by its handle
  pub all-objects : AllByRecursion (IsFoundIn d) d.objects
  all-objects = from-slots (IsFoundIn d) d.objects (λ j o e. found-at 0 d.objects j o st.denotes.directory.by_offset e)

  all-of-class : (c : Class) → AllByRecursion (IsFoundIn d) (filter (is_class c) d.objects)
  all-of-class c = all-kept (IsFoundIn d) (IsFoundIn d) (is_class c) (λ o e f. f) d.objects all-objects

  -- each named object is found by its handle
  pub all-named : AllByRecursion (IsFoundIn d) (named_objects d)
  all-named = all-ordered (IsFoundIn d) Named by_name d.objects (all-of-class Named)

  -- each unique object is found by its handle
  pub all-unique : AllByRecursion (IsFoundIn d) (unique_objects d)
  all-unique = all-ordered (IsFoundIn d) Unique by_kind d.objects (all-of-class Unique)

-- ---- what is said of an object at a place of a list is said of the object of its handle

record IsSaidOf (d : Directory) (said : Instance) (o : Object) : Type 0 where
  found : object_at d (ByHandle said.handle) ≡ Some o
  is : IsInstance o said

said-if : (d : Directory) (said : Instance) (o : Object) → IsFoundIn d o → IsInstance o said → IsSaidOf d said o
said-if d said o f is = record { found = ap (λ h. object_at d (ByHandle h)) is.at ∙ f; is = is }

module _ (s : SegmentState) (objects : Directory → List Object) (i : ℕ) (said : Instance) (at : SaysAt s objects i said)
    (each : (d : Directory) → DenotesCurrent s.cut.bytes d → AllByRecursion (IsFoundIn d) (objects d)) where
  member : (d : Directory) (st : DenotesCurrent s.cut.bytes d) → IsSaidOf d said (at.says d st).0
  member d st =
      let o = at.says d st in
      said-if d said o.0 (at-place (IsFoundIn d) (objects d) i o.0 (each d st) o.1) o.2

  -- the calls say the object of the handle
  pub said-of : SaysOf s (ByHandle said.handle) said
  said-of = record { says = λ d st. let o = at.says d st in let m = member d st in (o.0, m.found, o.2) }

  -- its text is the part of the list's text
  pub text-of : (text : Object → List ℕ) (d : Directory) → DenotesCurrent s.cut.bytes d
      → part_of text (object_at d (ByHandle said.handle)) ≡ part_of text (slice_get (objects d) i)
  text-of text d st =
      let o = at.says d st in
      let m = member d st in
      ap (part_of text) m.found ∙ sym (ap (part_of text) o.1)
