-- The steps by which an object is made: if its head and contents stand in an image, so do all objects after the step.
use Rattle.seg_types.specs.Commands as asked
use Rattle.std.proofs.Common.{◌≡◌, ℕ, ◌+◌, ℤ, Bool, true, false, ◌&&◌, List, [], ◌∷◌}
use Rattle.std.proofs.Common.{length, map, take, Option, Some, None, if◌then◌else◌, refl, sym, ap}
use Rattle.std.proofs.Common.{subst}
use Rattle.std.proofs.Common.{◌∙◌, arith, replicate}
use Rattle.std.proofs.lemmas.List.{take_all}
use Rattle.std.specs.{List.AllByRecursion, Prelude.⊤, Prelude.nat_lt, Prelude.nat_le, Prelude.pos, Prelude.◌==◌}
use Rattle.best_fit.specs.{Extents.Extent, Extents.LiveSet, Extents.handle, Fit.resized}
use Rattle.best_fit.specs.Table.{BackingArray, no_backing}
use Rattle.seg_types.specs.declared.kinds.{Class.Class, ScalarKind.ScalarKind}
use Rattle.seg_types.specs.declared.kinds.Kind.TheVariants as kinds
use Rattle.seg_types.specs.Kinds.{code_of, size_of}
use Rattle.block_tags.specs.declared.tile.Role.TheVariants.{Object as ObjectRole}
use Rattle.seg_types.specs.declared.kinds.Class.TheVariants.{Anonymous, Named, Unique}
use Rattle.seg_types.specs.declared.refusals.Refusal.TheVariants.{Exists, NoSpace, OutOfRange, ReadOnly}
use Rattle.seg_types.specs.Names.{Key}
use Rattle.seg_types.specs.Commands.{Command, Construct, ConstructIt, Content, is_changing}
use Rattle.seg_vector.specs.Vector.{OwnedText, spelled}
use Rattle.segment_manager.specs.Directory.{Directory, Object, Value, Numbers, Elements, Bytes, Pairs, Texts, kind_of}
use Rattle.segment_manager.specs.Directory.{live}
use Rattle.segment_manager.specs.Directory.{named_objects, padded, object_at, object_len, put_object, unique_objects}
use Rattle.segment_manager.specs.Directory.{with_object}
use Rattle.segment_manager.specs.declared.modes.Mode.{Mode}
use Rattle.segment_manager.specs.Answers.{Answer, Made, Refused}
use Rattle.segment_manager.specs.Plan.{New, Plan, Refuse, Reply, Request, bare, class_of, met, name_of, perform}
use Rattle.segment_manager.specs.Plan.{with_entry, with_new_object, with_owned_text, with_owned_texts}
use Rattle.segment_manager.specs.Plan.{with_spare_entry, with_storage, with_value}
use Rattle.segment_manager.specs.Step.{effect, is_read_only, plan, step}
use Rattle.segment_manager.specs.State.{SegmentState, TakesStep}
use Rattle.segment_values.specs.Contents.{ValueContent, Scalars, Vector, String, Map, Strings, bytes_in, content_of}
use Rattle.segment_salvage.specs.Standing.{AllStand, HasContent, HasPart, Salvages, StandsIn}
use Rattle.segment_salvage.specs.Steps.{IsHead}

-- ---- plans

-- each directory that a plan can end in has the property
abbrev pub AllEnds : (Directory → Type 0) → Plan → Type 0
AllEnds P (Refuse r) = ⊤
AllEnds P (Reply answer after) = P after
AllEnds P (Request need next) = (x : Extent) → AllEnds P (next x)

-- a plan leads to one of its ends
pub perform-ends : (P : Directory → Type 0) (d : Directory) (l : LiveSet) (p : Plan) → P d → AllEnds P p
    → P (perform d l p).1
perform-ends P d l (Refuse r) h e = h
perform-ends P d l (Reply answer after) h e = e
perform-ends P d l (Request need next) h e =
    elim (met l need) as (λ (r : Option Extent).
    P (elim r as (λ _. Answer × Directory) [
      | None ↦ (Refused NoSpace, d)
      | Some x ↦ perform d (resized l x) (next x)
    ]).1) [ None ↦ h | Some x ↦ perform-ends P d (resized l x) (next x) h (e x) ]

-- the ends of a choice
pub if-ends : (P : Directory → Type 0) (b : Bool) (p q : Plan) → AllEnds P p → AllEnds P q
    → AllEnds P (if b then p else q)
if-ends P true p q x y = x
if-ends P false p q x y = y

place-ends : (P : Directory → Type 0) (t : BackingArray) (count : ℕ) (next : BackingArray → Plan)
    → ((u : BackingArray) → AllEnds P (next u)) → AllEnds P (with_spare_entry t count next)
place-ends P t count next h = if-ends P (nat_lt count t.capacity) _ _ (h t) (λ x. h _)

entry-ends : (P : Directory → Type 0) (d : Directory) (c : Class) (next : Directory → Plan)
    → ((e : Directory) → e.objects ≡ d.objects → AllEnds P (next e)) → AllEnds P (with_entry d c next)
entry-ends P d Anonymous next h = h d refl
entry-ends P d Named next h = place-ends P d.named (length (named_objects d)) (λ t. next (record d { named = t }))
    (λ t. h (record d { named = t }) refl)
entry-ends P d Unique next h = place-ends P d.unique (length (unique_objects d)) (λ t. next (record d { unique = t }))
    (λ t. h (record d { unique = t }) refl)

storage-ends : (P : Directory → Type 0) (each n : ℕ) (next : BackingArray → Plan)
    → ((t : BackingArray) → AllEnds P (next t)) → AllEnds P (with_storage each n next)
storage-ends P each n next h = if-ends P (n == 0) _ _ (h no_backing) (λ x. h _)

text-ends : (P : Directory → Type 0) (bs : List ℕ) (next : OwnedText → Plan)
    → ((p : OwnedText) → p.bytes ≡ bs → AllEnds P (next p)) → AllEnds P (with_owned_text bs next)
text-ends P bs next h = if-ends P (length bs == 0) _ _ (h _ refl) (λ x. h _ refl)

both-same : (b c : List ℕ) (bs cs : List (List ℕ)) → b ≡ c → bs ≡ cs → b ∷ bs ≡ c ∷ cs
both-same b c bs cs e f = ap (λ x. x ∷ bs) e ∙ ap (λ l. c ∷ l) f

texts-ends : (P : Directory → Type 0) (bss : List (List ℕ)) (next : List OwnedText → Plan)
    → ((ps : List OwnedText) → map bytes_in ps ≡ bss → AllEnds P (next ps)) → AllEnds P (with_owned_texts bss next)
texts-ends P [] next h = h [] refl
texts-ends P (bs ∷ bss) next h =
    text-ends P bs (λ p. with_owned_texts bss (λ ps. next (p ∷ ps))) (λ p e.
    texts-ends P bss (λ ps. next (p ∷ ps)) (λ ps es. h (p ∷ ps) (both-same p.bytes bs (map bytes_in ps) bss e es)))

-- the contents that a command gives to an object
abbrev pub given : Content → ValueContent
given (asked.Numbers k zs) = Scalars k zs
given (asked.Elements k zs) = Vector k zs
given (asked.Bytes bs) = String bs
given (asked.NoPairs k v) = Map k v []
given (asked.Strings bss) = Strings bss

-- a value has the contents, and their kind
pub record IsGiven (content : Content) (v : Value) : Type 0 where
  pub kind : kind_of v ≡ kind_of (bare content)
  pub content_is : content_of v ≡ given content

value-ends : (P : Directory → Type 0) (content : Content) (next : Value → Plan)
    → ((v : Value) → IsGiven content v → AllEnds P (next v)) → AllEnds P (with_value content next)
value-ends P (asked.Numbers k zs) next h = h (Numbers k zs) (record { kind = refl; content_is = refl })
value-ends P (asked.Elements k zs) next h =
    storage-ends P (size_of k) (length zs) (λ t. next (Elements k zs t))
    (λ t. h (Elements k zs t) (record { kind = refl; content_is = refl }))
value-ends P (asked.Bytes bs) next h =
    storage-ends P 1 (length bs) (λ t. next (Bytes bs t))
    (λ t. h (Bytes bs t) (record { kind = refl; content_is = refl }))
value-ends P (asked.NoPairs k v) next h = h (Pairs k v []) (record { kind = refl; content_is = refl })
value-ends P (asked.Strings bss) next h =
    storage-ends P 16 (length bss) (λ t. with_owned_texts bss (λ ps. next (Texts ps t)))
    (λ t. texts-ends P bss (λ ps. next (Texts ps t))
    (λ ps e. h (Texts ps t) (record { kind = refl; content_is = ap Strings e })))

-- ---- a new object

put-all : (Q : Object → Type 0) (o : Object) (os : List Object) → Q o → AllByRecursion Q os
    → AllByRecursion Q (put_object o os)
put-all Q o [] x t = (x, tt)
put-all Q o (p ∷ ps) x t =
    elim (nat_lt o.extent.offset p.extent.offset) as (λ (b : Bool).
    AllByRecursion Q (if b then o ∷ p ∷ ps else p ∷ put_object o ps)) [
      | true ↦ (x, t)
      | false ↦ (t.0, put-all Q o ps x t.1)
    ]

module _ (image : List ℕ) (at value : ℕ) (key : Key) (content : Content)
    (head : IsHead image at (kind_of (bare content)) key value) (has : HasContent image value (given content)) where
  abbrev object_of : Extent → Value → Object
  object_of x v = record { class = class_of key; name = name_of key; value = v; extent = x }

  stands : (x : Extent) (v : Value) → IsGiven content v → StandsIn image (object_of x v)
  stands x v g = record {
    at = at;
    kind = head.kind_is ∙ ap code_of (sym g.kind);
    class = head.class;
    name = head.name;
    content = subst (HasContent image (at + 16 + padded (length (name_of key)))) (sym g.content_is)
        (subst (λ n. HasContent image n (given content)) head.value_at has);
  }

  pub made-ends : (d : Directory) → AllStand image d → (next : Object → Directory → Plan)
      → ((o : Object) (e : Directory) → AllStand image e → AllEnds (AllStand image) (next o e))
      → AllEnds (AllStand image) (with_new_object d key content next)
  made-ends d all next h =
      entry-ends (AllStand image) d (class_of key)
      (λ e. Request (New ObjectRole (object_len (name_of key) (bare content))) (λ x. with_value content (λ v.
      next (object_of x v) (with_object e (object_of x v))))) (λ e same x.
      value-ends (AllStand image) content (λ v. next (object_of x v) (with_object e (object_of x v))) (λ v g.
      h (object_of x v) (with_object e (object_of x v))
      (put-all (StandsIn image) (object_of x v) e.objects (stands x v g)
      (subst (AllByRecursion (StandsIn image)) (sym same) all))))

-- a plan that makes an object and keeps the directory all the same
kept-ends : (image : List ℕ) (d : Directory) (key : Key) (content : Content) → AllStand image d
    → AllEnds (AllStand image) (with_new_object d key content (λ o e. Reply (Refused OutOfRange) d))
kept-ends image d key content all =
    entry-ends (AllStand image) d (class_of key)
    (λ e. Request (New ObjectRole (object_len (name_of key) (bare content))) (λ x. with_value content (λ v.
    Reply (Refused OutOfRange) d))) (λ e same x.
    value-ends (AllStand image) content (λ v. Reply (Refused OutOfRange) d) (λ v g. all))

-- ---- commands

step-plan : (mode : Mode) (d : Directory) (c : Command) → step mode d c ≡ perform d (live d) (plan mode d c)
unfolding step
step-plan mode d c = refl

-- a step keeps that all objects stand in the image if each end of its plan has it
pub step-stands : (image : List ℕ) (old new : SegmentState) (c : Command) (answer : Answer) → TakesStep old new c answer
    → ((d : Directory) → AllStand image d → AllEnds (AllStand image) (effect d c)) → Salvages image old new
step-stands image old new c answer t ends = record {
  keeps = λ s.
      let d = s.directory in
      record {
        directory = (step old.mode d c).1;
        denotes = t.denotes d s.denotes;
        all = subst (λ (r : Answer × Directory). AllStand image r.1) (sym (step-plan old.mode d c))
            (perform-ends (AllStand image) d (live d) (plan old.mode d c) s.all
            (if-ends (AllStand image) (is_read_only old.mode && is_changing c) (Refuse ReadOnly) (effect d c) tt
            (ends d s.all)));
      };
}

-- a call that changes nothing
pub same_salvages : (image : List ℕ) (s : SegmentState) → Salvages image s s
same_salvages image s = record { keeps = λ i. i }

-- two calls, one after another
pub then_salvages : (image : List ℕ) (old mid new : SegmentState) → Salvages image old mid → Salvages image mid new
    → Salvages image old new
then_salvages image old mid new a b = record { keeps = λ i. b.keeps (a.keeps i) }

-- an object whose head and contents stand in the image is made
pub construct-stands : (image : List ℕ) (old new : SegmentState) (at value : ℕ) (key : Key) (content : Content)
    (answer : Answer) → TakesStep old new (Construct key content) answer
    → IsHead image at (kind_of (bare content)) key value → HasContent image value (given content)
    → Salvages image old new
construct-stands image old new at value key content answer t head has =
    step-stands image old new (Construct key content) answer t (λ d all.
    elim (object_at d key) as (λ (r : Option Object). AllEnds (AllStand image)
    (elim r as (λ _. Plan) [
      | Some o ↦ Refuse Exists
      | None ↦ with_new_object d key content (λ o e. Reply (Made (handle o.extent)) e)
    ])) [
      | Some o ↦ tt
      | None ↦ made-ends image at value key content head has d all (λ o e. Reply (Made (handle o.extent)) e)
          (λ o e h. h)
    ])

-- an array is made of the next items of an iterator, which stand in the image
pub array-stands : (image : List ℕ) (old new : SegmentState) (at value n : ℕ) (key : Key) (k : ScalarKind)
    (zs : List ℤ) (answer : Answer) → TakesStep old new (ConstructIt key k n zs) answer
    → IsHead image at (kinds.Scalar k) key value → HasPart image value (spelled k zs) → length zs ≡ n
    → Salvages image old new
array-stands image old new at value n key k zs answer t head has len =
    step-stands image old new (ConstructIt key k n zs) answer t (λ d all.
    elim (object_at d key) as (λ (r : Option Object). AllEnds (AllStand image)
    (elim r as (λ _. Plan) [
      | Some o ↦ Refuse Exists
      | None ↦ if nat_lt (length zs) n
          then with_new_object d key (asked.Numbers k (replicate n (pos 0))) (λ o e. Reply (Refused OutOfRange) d)
          else with_new_object d key (asked.Numbers k (take n zs)) (λ o e. Reply (Made (handle o.extent)) e)
    ])) [
      | Some o ↦ tt
      | None ↦ if-ends (AllStand image) (nat_lt (length zs) n) _ _
          (kept-ends image d key (asked.Numbers k (replicate n (pos 0))) all)
          (made-ends image at value key (asked.Numbers k (take n zs)) head
          (subst (λ l. HasPart image value (spelled k l)) (sym (take_all n zs (omega (arith, len)))) has) d all
          (λ o e. Reply (Made (handle o.extent)) e) (λ o e h. h))
    ])

-- the capacity of an index grows
pub reserve_named-stands : (image : List ℕ) (old new : SegmentState) (n : ℕ) (answer : Answer)
    → TakesStep old new (asked.ReserveNamed n) answer → Salvages image old new
reserve_named-stands image old new n answer t =
    step-stands image old new (asked.ReserveNamed n) answer t
    (λ d all. if-ends (AllStand image) (nat_le n d.named.capacity) _ _ all (λ x. all))

-- the capacity of the index of kinds grows
pub reserve_unique-stands : (image : List ℕ) (old new : SegmentState) (n : ℕ) (answer : Answer)
    → TakesStep old new (asked.ReserveUnique n) answer → Salvages image old new
reserve_unique-stands image old new n answer t =
    step-stands image old new (asked.ReserveUnique n) answer t
    (λ d all. if-ends (AllStand image) (nat_le n d.unique.capacity) _ _ all (λ x. all))
