-- A located object: it is the key's object, and a command for its handle is the command for the key.
use Rattle.segment_manager.proofs.Common as common
use Rattle.seg_types.specs.Names as names
use Rattle.seg_index.specs.declared.index.Index.TheVariants as index
use Rattle.seg_types.specs.declared.kinds.Class.TheVariants as class
use Rattle.seg_index.specs.declared.keys.Entry.TheVariants as entry
use Rattle.seg_types.specs.Commands as asked
use Rattle.segment_manager.proofs.indexes.Bridge.{by-handle, lookup-absent, own-kind, own-name}
use Rattle.segment_manager.proofs.objects.Destroys.{ForIndex, IsHere, IsReadAt, handle-answers, has-object, here}
use Rattle.segment_manager.proofs.objects.Destroys.{of-directory, seen-handle}
use Rattle.segment_manager.proofs.{containers.ItemSteps.of_kind-steps, directory.AnyDirectory.moves-same}
use Rattle.segment_manager.specs.Laws.{HandlesMeanObjects, KeysMeanObjects, KeysOfKindMeanObjects, at_key}
use Rattle.segment_manager.specs.objects.Located.{located_at}
use Rattle.segment_manager.{proofs.objects.Standings.alike, specs.objects.Located.located}
use common.{Absent, Answer, AnswersQueryOfKind, AnswersWith, ByHandle, Change, Class, Clear, Command, DenotesCurrent}
use common.{Directory, Entry, Err, FindsPosition, HasCapacity, HasEnough, HasEntries, HasIndexEntry, HasObject, Head}
use common.{Index, IsAnonymousAt, IsLocated, IsObjectInBlock, IsSegment, Key, Kind, LeadsOnOfKind, List, Located, None}
use common.{NotFound, Object, Ok, Option, Plan, ReadOnly, Refusal, Refuse, Reserve, Result, SegmentState, Shrink, Some}
use common.{TakesStep, TakesStepOfKind, UnchangedWhere, WrongKind, ap, bytes_of, class_code, code_of, command_of}
use common.{effect, false, handle, handle_at, if◌then◌else◌, is_changing, is_class, is_object_at, is_read_only, is_some}
use common.{kind_at, kind_of, live, none-some, object_at, option_map, perform, refl, refusal_of, same_Some, same_kind}
use common.{sizes_of, step, step_of_kind, subst, sym, true, with, ℕ, ◌&&◌, ◌==◌, ◌∙◌, ◌≡◌}

-- ---- the object

-- the object of the key has these properties
pub record IsSaidAt (d : Directory) (key : Key) (o : Located) : Type 0 where
  pub object : Object
  pub is : object_at d key ≡ Some object
  pub said : o ≡ located object

said-if : {d : Directory} {key : Key} {o : Located} (r : Option Object) → object_at d key ≡ r
    → Some o ≡ option_map located r → IsSaidAt d key o
said-if None e f = absurd (cc)
said-if {o} (Some p) e f = record { object = p; is = e; said = same_Some o (located p) f }

located-said : (d : Directory) (key : Key) {o : Located} → Some o ≡ located_at d key → IsSaidAt d key o
located-said d key e = said-if (object_at d key) refl e

-- the object is located by its handle
pub locates : {s : SegmentState} {key : Key} {o : Located} → AnswersWith s (λ d. located_at d key) (Some o)
    → IsLocated s key o
locates {s} {key} {o} a = record {
  at = a;
  here = record {
    answers = λ d k.
        let p = located-said d key (a.answers d k) in
        ap Some p.said ∙ sym (ap (λ (q : Located). option_map located (object_at d (ByHandle q.handle))) p.said
        ∙ ap (option_map located) (by-handle key k.denotes.directory p.is));
  };
}

-- its handle is that of the key
pub handle-located : {s : SegmentState} (key : Key) {o : Located} → AnswersWith s (λ d. located_at d key) (Some o)
    → AnswersWith s (λ d. handle_at d key) (Some o.handle)
handle-located key a = record {
  answers = λ d k.
      let p = located-said d key (a.answers d k) in
      ap (λ (q : Located). Some q.handle) p.said ∙ sym (ap (option_map (λ (o : Object). handle o.extent)) p.is);
}

-- the head of the object at the handle gives the located object, for the view before the call
pub head-located : {s t : SegmentState} (view : s ≡ t) (key : Key) {h : ℕ} {q : Located}
    → AnswersWith t (λ d. handle_at d key) (Some h) → ((o : Object) → IsObjectInBlock s.cut.bytes h o → q ≡ located o)
    → AnswersWith t (λ d. located_at d key) (Some q)
head-located {s} {t} view key {h} {q} a each =
    subst (λ (u : SegmentState). AnswersWith u (λ d. located_at d key) (Some q)) view (record {
      answers = λ d k.
          let o = here s.cut.bytes d key h k.denotes ((seen-handle s t view key (Some h) a).answers d k) in
          ap Some (each o.object o.stands) ∙ sym (ap (option_map located) o.is);
    })

-- and this holds for each object at that handle
pub located-there : {s t : SegmentState} (view : s ≡ t) (key : Key) {q : Located} → IsSegment s.cut.bytes
    → AnswersWith t (λ d. located_at d key) (Some q) → (o : Object) → IsObjectInBlock s.cut.bytes q.handle o
    → q ≡ located o
located-there {s} {t} view key {q} g a o stands =
    let b = subst (λ (u : SegmentState). AnswersWith u (λ d. located_at d key) (Some q)) (sym view) a in
    let p = located-said g.0 key (b.answers g.0 g.1) in
    let there = here s.cut.bytes g.0 key q.handle g.1.denotes ((handle-located key b).answers g.0 g.1) in
    p.said ∙ ap located (same_Some p.object there.object (sym p.is ∙ there.is)) ∙ alike there.stands stands

-- the located object has the properties in the directory
pub said-at : (s : SegmentState) (key : Key) (o : Located)
    → IsLocated s key o → (d : Directory) → DenotesCurrent s.cut.bytes d → IsSaidAt d key o
said-at s key o l d k = said-if (object_at d key) refl (l.at.answers d k)

-- law: handles mean objects
pub same-object : HandlesMeanObjects
same-object s key o l d k =
    let p = said-at s key o l d k in
    p.is ∙ sym (ap (λ (q : Located). object_at d (ByHandle q.handle)) p.said ∙ by-handle key k.denotes.directory p.is)

-- ---- two keys of one object

abbrev going_on : (Object → Plan) → Option Object → Plan
going_on next r = with (elim r as (λ _. Result Object Refusal) [ None ↦ Err NotFound | Some o ↦ Ok o ]) next

effect-same : (d : Directory) (key other : Key) (c : Command) → object_at d key ≡ object_at d other
    → effect d (at_key key c) ≡ effect d (at_key other c)
effect-same d key other (asked.Show old) e = ap (going_on _) e
effect-same d key other (asked.Info old) e = ap (going_on _) e
effect-same d key other (asked.Get old i) e = ap (going_on _) e
effect-same d key other (asked.Set old i l) e = ap (going_on _) e
effect-same d key other (asked.Push old l) e = ap (going_on _) e
effect-same d key other (asked.Pop old) e = ap (going_on _) e
effect-same d key other (asked.Insert old i l) e = ap (going_on _) e
effect-same d key other (asked.Erase old i) e = ap (going_on _) e
effect-same d key other (asked.Reserve old n) e = ap (going_on _) e
effect-same d key other (asked.Shrink old) e = ap (going_on _) e
effect-same d key other (asked.Clear old) e = ap (going_on _) e
effect-same d key other (asked.Assign old ls) e = ap (going_on _) e
effect-same d key other (asked.Append old bs) e = ap (going_on _) e
effect-same d key other (asked.Put old l m) e = ap (going_on _) e
effect-same d key other (asked.Lookup old l) e = ap (going_on _) e
effect-same d key other (asked.Remove old l) e = ap (going_on _) e
effect-same d key other c e = refl

changing-same : (key other : Key) (c : Command) → is_changing (at_key key c) ≡ is_changing (at_key other c)
changing-same key other (asked.Show old) = refl
changing-same key other c = refl

-- law: keys mean objects
pub keys-same : KeysMeanObjects
unfolding step
keys-same mode d key other c e = λ i. perform d (live d)
    (if is_read_only mode && changing-same key other c i then Refuse ReadOnly else effect-same d key other c e i)

-- law: keys of a kind mean objects
pub keys_of_kind-same : KeysOfKindMeanObjects
unfolding step_of_kind
keys_of_kind-same mode d key other kind c e =
    λ i. perform d (live d) (if is_read_only mode && changing-same key other c i then Refuse ReadOnly else
    going_on (λ o. if same_kind kind (kind_of o.value) then effect-same d key other c e i else Refuse WrongKind) (e i))

-- ---- a call for the handle is a call for the key

module _ (old : SegmentState) (key : Key) (o : Located) (l : IsLocated old key o) where
  abbrev same : (d : Directory) → DenotesCurrent old.cut.bytes d → object_at d (ByHandle o.handle) ≡ object_at d key
  same d k = sym (same-object old key o l d k)

  -- the object is located by its handle too
  pub located-here : IsLocated old (ByHandle o.handle) o
  located-here = record {
    at = record { answers = λ d k. l.at.answers d k ∙ sym (ap (option_map located) (same d k)) };
    here = l.here;
  }

  -- a function of the object
  pub told-by_key : {A : Type 0} (say : Directory → Option Object → A) (r : A)
      → AnswersWith old (λ d. say d (object_at d (ByHandle o.handle))) r
      → AnswersWith old (λ d. say d (object_at d key)) r
  told-by_key say r a = record { answers = λ d k. a.answers d k ∙ ap (say d) (same d k) }

  -- the kind under the key is the located object's
  pub kind-by_key : AnswersWith old (λ d. kind_at d key) (Ok o.kind)
  kind-by_key = record {
    answers = λ d k.
        let p = said-at old key o l d k in
        ap (λ (q : Located). Ok q.kind) p.said ∙ sym (ap (λ (r : Option Object).
        elim r as (λ _. Result Kind Refusal) [ None ↦ Err NotFound | Some q ↦ Ok (kind_of q.value) ]) p.is);
  }

  -- a step for the handle is a step for the key, in each directory
  pub step-same : (c : Command) (d : Directory) → DenotesCurrent old.cut.bytes d
      → step old.mode d (at_key (ByHandle o.handle) c) ≡ step old.mode d (at_key key c)
  step-same c d k = keys-same old.mode d (ByHandle o.handle) key c (same d k)

  -- a step for the handle is a step for the key
  pub step-by_key : (new : SegmentState) (c : Command) (answer : Answer)
      → TakesStep old new (at_key (ByHandle o.handle) c) answer → TakesStep old new (at_key key c) answer
  step-by_key new c answer m = moves-same old new answer (λ d. step old.mode d (at_key (ByHandle o.handle) c))
      (λ d. step old.mode d (at_key key c)) (step-same c) m

  -- a step of a kind for the handle is a step for the key
  pub step_of_kind-by_key : (new : SegmentState) (kind : Kind) (c : Command) (answer : Answer)
      → TakesStepOfKind old new (ByHandle o.handle) kind (at_key (ByHandle o.handle) c) answer
      → TakesStepOfKind old new key kind (at_key key c) answer
  step_of_kind-by_key new kind c answer m = moves-same old new answer (λ d. step_of_kind old.mode d (ByHandle o.handle)
      kind (at_key (ByHandle o.handle) c)) (λ d. step_of_kind old.mode d key kind (at_key key c))
      (λ d k. keys_of_kind-same old.mode d (ByHandle o.handle) key kind c (same d k)) m

  -- the same for a call that answers less
  pub leads_on-by_key : (new : SegmentState) (kind : Kind) (c : Command) (why : Option Refusal)
      → LeadsOnOfKind old new (ByHandle o.handle) kind (at_key (ByHandle o.handle) c) why
      → LeadsOnOfKind old new key kind (at_key key c) why
  leads_on-by_key new kind c why m = moves-same old new why _ _ (λ d k.
      ap (λ (n : Answer × Directory). (refusal_of n.0, n.1))
      (keys_of_kind-same old.mode d (ByHandle o.handle) key kind c (same d k))) m

  -- an answer of a kind for the handle is an answer for the key
  pub reply_of_kind-by_key : (kind : Kind) (c : Command) (answer : Answer)
      → AnswersQueryOfKind old (ByHandle o.handle) kind
      (at_key (ByHandle o.handle) c) answer → AnswersQueryOfKind old key kind (at_key key c) answer
  reply_of_kind-by_key kind c answer a = record {
    answers = λ d k. a.answers d k ∙ ap (λ (n : Answer × Directory). n.0)
        (keys_of_kind-same old.mode d (ByHandle o.handle) key kind c (same d k));
  }

  -- ---- the kind of the located object

  -- a step for the handle is a step of the located object
  pub located-steps : (new : SegmentState) (kind : Kind) (c : Command) (answer : Answer) → o.kind ≡ kind
      → TakesStepOfKind old new
      (ByHandle o.handle) kind (at_key (ByHandle o.handle) c) answer → TakesStep old new (at_key key c) answer
  located-steps new kind c answer is m = of_kind-steps old new key kind (at_key key c) answer
      (subst (λ (n : Kind). AnswersWith old (λ d. kind_at d key) (Ok n)) is kind-by_key)
      (step_of_kind-by_key new kind c answer m)

  -- nothing changes if the capacity suffices
  places-by_key : {new : SegmentState} (n : ℕ) → UnchangedWhere old new (HasCapacity (ByHandle o.handle) n)
      → UnchangedWhere old new (HasCapacity key n)
  places-by_key n m = λ d k p. m d k (record {
    len = p.len;
    capacity = p.capacity;
    says = ap (λ (r : Option Object).
        elim r as (λ _. Result (ℕ × ℕ) Refusal) [ None ↦ Err NotFound | Some q ↦ sizes_of q.value ]) (same d k)
        ∙ p.says;
    enough = p.enough;
  })

  -- ---- the same for each change of storage

  -- a change of storage for the handle is a change of the located object
  pub located-changes : (change : Change) (new : SegmentState) (kind : Kind) (answer : Answer) → o.kind ≡ kind
      → TakesStepOfKind old new (ByHandle o.handle) kind (command_of change (ByHandle o.handle)) answer
      → TakesStep old new (command_of change key) answer
  located-changes (Reserve n) new kind answer is m = located-steps new kind (asked.Reserve key n) answer is m
  located-changes Shrink new kind answer is m = located-steps new kind (asked.Shrink key) answer is m
  located-changes Clear new kind answer is m = located-steps new kind (asked.Clear key) answer is m

  -- a change of storage for the handle is a change for the key
  pub change-by_key : (change : Change) (new : SegmentState) (answer : Answer)
      → TakesStep old new (command_of change (ByHandle o.handle)) answer
      → TakesStep old new (command_of change key) answer
  change-by_key (Reserve n) new answer m = step-by_key new (asked.Reserve key n) answer m
  change-by_key Shrink new answer m = step-by_key new (asked.Shrink key) answer m
  change-by_key Clear new answer m = step-by_key new (asked.Clear key) answer m

  -- a capacity that suffices under the handle suffices under the key
  pub enough-by_key : (change : Change) (new : SegmentState)
      → UnchangedWhere old new (HasEnough change (ByHandle o.handle)) → UnchangedWhere old new (HasEnough change key)
  enough-by_key (Reserve n) new m = places-by_key n m
  enough-by_key Shrink new m = λ d k e. absurd e
  enough-by_key Clear new m = λ d k e. absurd e

-- The object of a handle, and the entry that it has.

-- ---- the object of a handle

-- the handle means itself
itself : {s : SegmentState} {h : ℕ} → AnswersWith s (λ d. is_object_at d h) true
    → AnswersWith s (λ d. handle_at d (names.ByHandle h)) (Some h)
itself {h} a = handle-answers h a

pub object-here : {s : SegmentState} {h : ℕ} → AnswersWith s (λ d. is_object_at d h) true → (d : Directory)
    → DenotesCurrent s.cut.bytes d → IsHere s.cut.bytes d (names.ByHandle h) h
object-here {s} {h} a d k = here s.cut.bytes d (names.ByHandle h) h k.denotes ((itself a).answers d k)

-- as the view before the call names the segment
pub seen-there : {s t : SegmentState} (view : s ≡ t) (h : ℕ) → AnswersWith t (λ d. is_object_at d h) true
    → AnswersWith s (λ d. is_object_at d h) true
seen-there view h = subst (λ (u : SegmentState). AnswersWith u (λ d. is_object_at d h) true) (sym view)

-- the object of a handle exists
pub has-own_object : {s t : SegmentState} (view : s ≡ t) (h : ℕ) → IsSegment s.cut.bytes
    → AnswersWith t (λ d. is_object_at d h) true → HasObject s.cut.bytes h
has-own_object view h i a = has-object (names.ByHandle h) i (itself (seen-there view h a))

none-if : (r : Option Object) → false ≡ is_some r → r ≡ None
none-if None e = refl
none-if (Some o) e = absurd (cc)

-- or no object has it
pub no-object : {s : SegmentState} (h : ℕ) → AnswersWith s (λ d. is_object_at d h) false → (d : Directory)
    → DenotesCurrent s.cut.bytes d → object_at d (names.ByHandle h) ≡ None
no-object h a d k = none-if (object_at d (names.ByHandle h)) (a.answers d k)

-- ---- the entry of an object, by its head

own-class : {c : Class} (o : Object) → o.class ≡ c → (class_code c == class_code c) ≡ true → is_class c o ≡ true
own-class {c} o e f = ap (λ b. class_code c == class_code b) e ∙ f

by-own_handle : (d : Directory) {h : ℕ} {o : Object} → h ≡ handle o.extent → object_at d (names.ByHandle h) ≡ Some o
    → object_at d (names.ByHandle (handle o.extent)) ≡ Some o
by-own_handle d {o} e f = subst (λ g. object_at d (names.ByHandle g) ≡ Some o) e f

-- the entry is looked up by this name
abbrev pub IsNamed : Entry → List ℕ → Type 0
IsNamed (entry.Name bytes) name = bytes.now ≡ name
IsNamed (entry.Code n) name = ⊥

module _ {s t : SegmentState} (view : s ≡ t) {h : ℕ} {head : Head} (a : AnswersWith t (λ d. is_object_at d h) true)
    (r : IsReadAt s.cut.bytes h head) where
  here-in : (d : Directory) → DenotesCurrent s.cut.bytes d → IsHere s.cut.bytes d (names.ByHandle h) h
  here-in = object-here (seen-there view h a)

  -- the object is anonymous
  pub listed-none : head.class ≡ class.Anonymous → IsAnonymousAt t h
  listed-none e = subst (λ (u : SegmentState). IsAnonymousAt u h) view (λ d k.
      let o = here-in d k in
      (o.object, o.is, sym (r o.object o.stands).class ∙ e))

  -- the object has a name
  pub listed-name : (e : Entry) → head.class ≡ class.Named
      → ((o : Object) → IsObjectInBlock s.cut.bytes h o → IsNamed e o.name) → HasEntries t index.Named e h
  listed-name (entry.Name bytes) e n =
      subst (λ (u : SegmentState). HasEntries u index.Named (entry.Name bytes) h) view (λ d k.
      let o = here-in d k in
      record {
        object = o.object;
        is = o.is;
        key = names.ByName o.object.name;
        seeks = n o.object o.stands;
        found = own-name k.denotes.directory (by-own_handle d o.stands.at o.is)
            (own-class o.object (sym (r o.object o.stands).class ∙ e) refl);
      })
  listed-name (entry.Code n) e m = subst (λ (u : SegmentState). HasEntries u index.Named (entry.Code n) h) view
      (λ d k. absurd (m (here-in d k).object (here-in d k).stands))

  -- the object is unique
  pub listed-kind : {n : ℕ} → head.class ≡ class.Unique → n ≡ code_of head.kind
      → HasEntries t index.Unique (entry.Code n) h
  listed-kind {n} e f = subst (λ (u : SegmentState). HasEntries u index.Unique (entry.Code n) h) view (λ d k.
      let o = here-in d k in let said = r o.object o.stands in
      record {
        object = o.object;
        is = o.is;
        key = names.ByKind (kind_of o.object.value);
        seeks = f ∙ ap code_of said.kind;
        found = own-kind k.denotes.directory (by-own_handle d o.stands.at o.is)
            (own-class o.object (sym said.class ∙ e) refl);
      })

-- an entry that an object has is found
pub listed-found : {s t : SegmentState} (view : s ≡ t) (i : Index) (e : Entry) (h at : ℕ)
    → ForIndex s.cut i (λ hs. FindsPosition (bytes_of s.cut.bytes) e hs (Absent at)) → HasEntries t i e h
    → IsAnonymousAt t h
listed-found {s} view i e h at f each = subst (λ (u : SegmentState). IsAnonymousAt u h) view (λ d k.
    let x : HasIndexEntry i e d h = subst (λ (u : SegmentState). HasEntries u i e h) (sym view) each d k in
    absurd (none-some x.object (sym (lookup-absent i s.cut e x.key k.denotes x.seeks
    (of-directory s i (λ hs. FindsPosition (bytes_of s.cut.bytes) e hs (Absent at)) k f)).none ∙ x.found)))
