-- An array made of items: the call takes all of them, or none.
use Rattle.segment_manager.proofs.Common as common
use Rattle.seg_types.specs.Commands as asked
use Rattle.byteorder.specs.Endian.{little_number}
use Rattle.link_tree.specs.Tree.{IsTree}
use Rattle.raw_region.proofs.Facts.{first, second}
use Rattle.seg_map.specs.Changing.{InitsMap}
use Rattle.seg_types.specs.declared.kinds.Class.TheVariants.{Named, Unique}
use Rattle.seg_types.{proofs.Laws.all_spell_one, specs.Kinds.is_spelling, specs.Kinds.value_of, specs.Values.SpelledBy}
use Rattle.seg_vector.proofs.storage.TypedVectors.{all-at, has-element}
use Rattle.segment_manager.proofs.containers.ElementRuns.{HasRun, IsElementAt, element-in, has-if}
use Rattle.segment_manager.proofs.containers.RangeCalls.{range_with, replaced-length, slice_in}
use Rattle.segment_manager.proofs.directory.AnyDirectory.{IsAnother, Leaves, by_answer, by_change, by_other, by_refusal}
use Rattle.segment_manager.proofs.directory.AnyDirectory.{by_request, extended-leaves, plan-leaves, plan_of_kind-leaves}
use Rattle.segment_manager.proofs.directory.AnyDirectory.{with-found}
use Rattle.segment_manager.proofs.objects.Destroys.{handle-if, here, object-passes, standing}
use Rattle.segment_manager.proofs.objects.{Slices.HasBytesAt-element, Slices.repeated-spelled, Standings.alike}
use Rattle.segment_manager.proofs.{blocks.Blocks.spelling-length, containers.Changeable.answered-reads}
use Rattle.segment_manager.proofs.{containers.TextAnswers.byte-value, directory.Frame.object-roomy}
use Rattle.segment_manager.proofs.{indexes.Bridge.by-handle, objects.Constructed.equal-good}
use Rattle.segment_manager.specs.Staying.{KeepsObjects, ObjectsStay}
use Rattle.segment_manager.specs.containers.ElementRuns.{IsRunOf, run_at, run_in, run_of, spelled_in, storage_offset}
use Rattle.segment_manager.specs.containers.Ranges.{ExtendsVector, WritesRange, extended, is_slice, range_at, range_in}
use Rattle.segment_manager.specs.containers.Ranges.{replaced as replaced_range, with_range, written, written_if}
use Rattle.segment_manager.specs.declared.containers.element_runs.ElementRun.{ElementRun}
use Rattle.segment_manager.specs.declared.modes.Mode.TheVariants.{CopyOnWrite, ReadOnly}
use Rattle.segment_manager.specs.objects.Located.{located, located_at}
use Rattle.segment_manager.specs.objects.{ElementLists.numbers_in, Items.KeepsUnasked, Items.TakesUntil}
use Rattle.segment_manager.specs.{Calls.scalar_reply, State.UnchangedIfRefused, State.scalar_answer}
use Rattle.std.specs.{Iterator.YieldsFirst, Iterator.YieldsThen, Option.ok_or}
use Rattle.std.{proofs.lemmas.List.append-nil, proofs.lemmas.List.length-append, specs.Bool.then_some}
use common.{AllByRecursion, Anonymous, Answer, AnswersWith, BackingArray, Bool, ByHandle, Bytes, ChangesBytes, Class}
use common.{Command, ConstructsFromItems, Content, Denotes, DenotesCurrent, Directory, Element, Elements}
use common.{EncodesLiveSet, Err, ExchangesBlocks, Exists, Extent, HasBytesAt, IfErr, IsDirectory, IsSegment, IsTrue}
use common.{Key, Kind, LeadsOnOfKind, List, LiveSet, Located, Made, MakesValueOk, MatchResult, Memory, Mode, Need, New}
use common.{NoSpace, None, NotFound, Numbers, Object, ObjectRole, Ok, Option, OutOfRange, OwnedText, Pairs, Place}
use common.{Plain, Plan, ReadOnly, Refusal, Refuse, Refused, Reply, Request, Result, SameBlockExcept, ScalarKind}
use common.{ScalarValue, SegmentState, Some, TakesStep, Texts, Transitions, Tree, U8, Value, WindowState, Write}
use common.{WrongKind, Yields, [], ap, arith, bytes_of, cells_of, changed, class_of, cond, count_of, current, drop}
use common.{elements_of, eq-eqb, false, false≢true, find, flat_map, fork, get, handle, handle_answer, handle_at}
use common.{has_key, head_len, if◌then◌else◌, is_elementwise, is_good_value, is_object_at, is_read_only, is_some}
use common.{is_untouched, is_value, kind_of, laid-heap, le-ltb, leaf, leb-true, length, length-map, length-replicate}
use common.{list_all, live, live_of, lt-ltb, ltb-true, map, met, name_of, named_objects, nat_le, nat_lt, nodes_of, not}
use common.{object_at, object_len, option_map, padded, perform, place_at, plan, pos, put_object, read, refl, repeated}
use common.{replace_object, replicate, resized, same_Some, size_of, slice_get, slice_get-map, slice_get_past, spelled}
use common.{spelling, step, step_of_kind, subst, sym, take, take_all, true, unique_objects, with, with_entry}
use common.{with_items, with_new_object, with_object, with_owned_text, with_owned_texts, with_spare_entry, with_storage}
use common.{with_value, ℕ, ℤ, ◌&&◌, ◌*◌, ◌++◌, ◌+◌, ◌<◌, ◌==◌, ◌∙◌, ◌∷◌, ◌≡◌, ◌≤◌}

-- ---- the items

no_more : {A : Type 0} (xs : List A) → length xs ≡ 0 → xs ≡ []
no_more [] e = refl
no_more (x ∷ xs) e = absurd (omega arith)

module _ {S A : Type 0} (items : S → List A) where
  -- the items taken are the front of the items that there were
  pub taken-front : (w t : S) (xs : List A) → Yields (YieldsFirst items) w xs t → items w ≡ xs ++ items t
  taken-front w t [] h = ap items h
  taken-front w t (x ∷ xs) h = h.1 ∙ ap (λ l. x ∷ l) (taken-front h.0 t xs h.2)

  -- if as many items are taken as there are, all are
  taken-all : (w t : S) {xs : List A} → Yields (YieldsFirst items) w xs t → length xs ≡ length (items w) → xs ≡ items w
  taken-all w t {xs} h long =
      let parts = taken-front w t xs h in
      let both : length (items w) ≡ length xs + length (items t) = ap length parts ∙ length-append xs (items t) in
      sym (parts ∙ ap (λ l. xs ++ l) (no_more (items t) (omega arith)) ∙ append-nil xs)

  -- if no more items come, all were taken
  taken-until : (w t : S) (xs : List A) → YieldsThen (YieldsFirst items) w xs None t → length xs ≡ length (items w)
  taken-until w t xs h = ap length (sym ((taken-front w h.0 xs h.1) ∙ ap (λ l. xs ++ l) h.2.0 ∙ append-nil xs))

-- the plan if there are too few items, or enough
abbrev pub by-items : Directory → Key → ScalarKind → ℕ → List ℤ → Bool → Plan
by-items d key k count zs few =
    if few then with_new_object d key (asked.Numbers k (replicate count (pos 0))) (λ o e. Reply (Refused OutOfRange) d)
    else with_new_object d key (asked.Numbers k (take count zs)) (λ o e. Reply (Made (handle o.extent)) e)

-- the plan that constructs an array of items
abbrev pub from-items : Directory → Key → ScalarKind → ℕ → List ℤ → Option Object → Plan
from-items d key k count zs found =
    elim found as (λ _. Plan) [ Some o ↦ Refuse Exists | None ↦ by-items d key k count zs (nat_lt (length zs) count) ]

-- ---- a call that fails before items are taken fails for any items

module _ (r : Refusal) (other : r ≡ OutOfRange → ⊥) where
  -- if one step fails with this error, so does the other
  abbrev IsSame : Answer × Directory → Answer × Directory → Type 0
  IsSame p q = Refused r ≡ p.0 → q ≡ p

  abbrev requested : Directory → LiveSet → (Extent → Plan) → Option Extent → Answer × Directory
  requested d l f x =
      elim x as (λ _. Answer × Directory) [ None ↦ (Refused NoSpace, d) | Some x ↦ perform d (resized l x) (f x) ]

  request-if : (d : Directory) (l : LiveSet) (f g : Extent → Plan) (x : Option Extent)
      → ((x : Extent) → IsSame (perform d (resized l x) (f x)) (perform d (resized l x) (g x)))
      → IsSame (requested d l f x) (requested d l g x)
  request-if d l f g None h e = refl
  request-if d l f g (Some x) h e = h x e

  request-same : (d : Directory) (l : LiveSet) (need : Need) (f g : Extent → Plan)
      → ((x : Extent) → IsSame (perform d (resized l x) (f x)) (perform d (resized l x) (g x)))
      → IsSame (perform d l (Request need f)) (perform d l (Request need g))
  request-same d l need f g h = request-if d l f g (met l need) h

  place-if : (d : Directory) (l : LiveSet) (b : Bool) (need : Need) (now later : Plan) (f g : Extent → Plan)
      → IsSame (perform d l now) (perform d l later)
      → ((x : Extent) → IsSame (perform d (resized l x) (f x)) (perform d (resized l x) (g x)))
      → IsSame (perform d l (if b then now else Request need f)) (perform d l (if b then later else Request need g))
  place-if d l true need now later f g h k = h
  place-if d l false need now later f g h k = request-same d l need f g k

  entry-same : (d : Directory) (l : LiveSet) (class : Class) (f g : Directory → Plan)
      → ((e : Directory) (l : LiveSet) → IsSame (perform d l (f e)) (perform d l (g e)))
      → IsSame (perform d l (with_entry d class f)) (perform d l (with_entry d class g))
  entry-same d l Anonymous f g h = h d l
  entry-same d l Named f g h =
      place-if d l (nat_lt (length (named_objects d)) d.named.capacity) _ _ _ _ _ (h _ l) (λ x. h _ (resized l x))
  entry-same d l Unique f g h =
      place-if d l (nat_lt (length (unique_objects d)) d.unique.capacity) _ _ _ _ _ (h _ l) (λ x. h _ (resized l x))

  -- as many numbers ask for as much
  object-same : (d : Directory) (l : LiveSet) (key : Key) (k : ScalarKind) (zs ws : List ℤ) (f g : Extent → Plan)
      → length ws ≡ length zs → ((x : Extent) → IsSame (perform d (resized l x) (f x)) (perform d (resized l x) (g x)))
      → IsSame (perform d l (Request (New ObjectRole (object_len (name_of key) (Numbers k zs))) f))
      (perform d l (Request (New ObjectRole (object_len (name_of key) (Numbers k ws))) g))
  object-same d l key k zs ws f g long h refused = ap (λ n. perform d l (Request (New ObjectRole n) g))
      (ap (λ n. head_len + padded (length (name_of key)) + size_of k * n) long)
      ∙ request-same d l (New ObjectRole (object_len (name_of key) (Numbers k zs))) f g h refused

  new-same : (d : Directory) (l : LiveSet) (key : Key) (k : ScalarKind) (zs ws : List ℤ) → length ws ≡ length zs
      → IsSame (perform d l (with_new_object d key (asked.Numbers k zs) (λ o e. Reply (Refused OutOfRange) d)))
      (perform d l (with_new_object d key (asked.Numbers k ws) (λ o e. Reply (Made (handle o.extent)) e)))
  new-same d l key k zs ws long = entry-same d l (class_of key) _ _ (λ e m. object-same d m key k zs ws
      (λ x. Reply (Refused OutOfRange) d) (λ x. Reply (Made (handle x)) (with_object e
      (record { class = class_of key; name = name_of key; value = Numbers k ws; extent = x }))) long (λ x refused.
      absurd (other (cc))))

  items-same : (d : Directory) (l : LiveSet) (key : Key) (k : ScalarKind) {n : ℕ} (zs : List ℤ) (found : Option Object)
      → 1 ≤ n → length zs ≡ n → IsSame (perform d l (from-items d key k n [] found))
      (perform d l (from-items d key k n zs found))
  items-same d l key k zs (Some o) some long refused = refl
  items-same d l key k {n} zs None some long refused =
      let few = lt-ltb 0 n some in let told = refused ∙ ap (λ b. (perform d l (by-items d key k n [] b)).0) few in
      ap (λ b. perform d l (by-items d key k n zs b)) (le-ltb (length zs) n (omega arith))
      ∙ ap (λ ws. perform d l (with_new_object d key (asked.Numbers k ws) (λ o e. Reply (Made (handle o.extent))
      e))) (take_all n zs (omega arith)) ∙ new-same d l key k (replicate n (pos 0)) zs (long
      ∙ sym (length-replicate n (pos 0))) told ∙ ap (λ b. perform d l (by-items d key k n [] b)) (sym few)

  step-same : (mode : Mode) (d : Directory) (key : Key) (k : ScalarKind) (n : ℕ) (zs : List ℤ) → 1 ≤ n → length zs ≡ n
      → IsSame (step mode d (asked.ConstructIt key k n [])) (step mode d (asked.ConstructIt key k n zs))
  unfolding step
  step-same Write d key k n zs some long refused = items-same d (live d) key k zs (object_at d key) some long refused
  step-same ReadOnly d key k n zs some long refused = refl
  step-same CopyOnWrite d key k n zs some long refused =
      items-same d (live d) key k zs (object_at d key) some long refused

  refused-array : {old new : SegmentState} (key : Key) (k : ScalarKind) {n : ℕ} (zs : List ℤ) → 1 ≤ n → length zs ≡ n
      → TakesStep old new (asked.ConstructIt key k n []) (Refused r)
      → TakesStep old new (asked.ConstructIt key k n zs) (Refused r)
  refused-array {old} {new} key k {n} zs some long h = record {
    stays = h.stays;
    answers = λ d st. h.answers d st ∙ ap (λ (p : Answer × Directory). p.0)
        (sym (step-same old.mode d key k n zs some long (h.answers d st)));
    denotes = λ d st. subst (λ (p : Answer × Directory). DenotesCurrent new.cut.bytes p.1)
        (sym (step-same old.mode d key k n zs some long (h.answers d st))) (h.denotes d st);
  }

-- ---- the call takes all items, or none

module _ {S A : Type 0} (items : S → List A) {whole : A
    → ℤ} {old new : SegmentState} {key : Key} {k : ScalarKind} {n : ℕ}
    {w t : S} {result : Result ℕ Refusal}
    (takes : ConstructsFromItems (YieldsFirst items) whole old new key k n w t result)
    (long : length (items w) ≡ n) where
  -- the call fails before an item is taken
  early : {xs : List A} (r : Refusal) → (r ≡ OutOfRange → ⊥) → TakesUntil (YieldsFirst items) n w xs t r → xs ≡ []
  early OutOfRange other h = absurd (other refl)
  early r other h = h.0

  kept : (r : Refusal) → (r ≡ OutOfRange → ⊥) → KeepsUnasked old new r → is_untouched (Refused r) ≡ true → new ≡ old
  kept OutOfRange other h e = absurd (other refl)
  kept NoSpace other h e = absurd (cc)
  kept r other h e = h

  -- there are enough items
  enough : (xs : List A) (r : Refusal) → TakesUntil (YieldsFirst items) n w xs t r → r ≡ OutOfRange → ⊥
  enough xs r h e =
      let until : TakesUntil (YieldsFirst items) n w xs t OutOfRange =
      subst (TakesUntil (YieldsFirst items) n w xs t) e h in
      let all = taken-until items w t xs until.0 in let fewer = until.1 in
      omega arith

  abbrev IsTaken : List A → Result ℕ Refusal → Type 0
  IsTaken xs q =
      MatchResult q (λ h. Yields (YieldsFirst items) w xs t × (length xs ≡ n)) (TakesUntil (YieldsFirst items) n w xs t)

  step-of : {numbers : List ℤ} → map whole (items w) ≡ numbers → 1 ≤ n → (xs : List A) (q : Result ℕ Refusal)
      → IsTaken xs q → TakesStep old new (asked.ConstructIt key k n (map whole xs)) (handle_answer q)
      → TakesStep old new (asked.ConstructIt key k n numbers) (handle_answer q)
  step-of are some xs (Ok h) taken step = subst (λ (zs : List ℤ). TakesStep old new (asked.ConstructIt key k n zs)
      (Made h)) (ap (map whole) (taken-all items w t taken.0 (taken.1 ∙ sym long)) ∙ are) step
  step-of {numbers} are some xs (Err r) taken step =
      let other = enough xs r taken in let none : map whole xs ≡ [] = ap (map whole) (early r other taken) in
      refused-array r other key k numbers some (ap length (sym are) ∙ length-map (items w) whole ∙ long)
      (subst (λ (zs : List ℤ). TakesStep old new (asked.ConstructIt key k n zs) (Refused r)) none step)

  -- a constructed array is the step of the directory
  pub array-step : {numbers : List ℤ} → map whole (items w) ≡ numbers → 1 ≤ n
      → TakesStep old new (asked.ConstructIt key k n numbers) (handle_answer result)
  array-step {numbers} are some = step-of are some takes.items result takes.taken takes.step

  refused-of : (xs : List A) (q : Result ℕ Refusal) → IsTaken xs q → IfErr q (KeepsUnasked old new)
      → UnchangedIfRefused old new q
  refused-of xs (Ok h) taken same = tt
  refused-of xs (Err r) taken same = kept r (enough xs r taken) same

  -- a refused array leaves the segment
  pub array-refused : UnchangedIfRefused old new result
  array-refused = refused-of takes.items result takes.taken takes.unchanged

-- The object of a handle that a construction returns exists.

-- a handle that is answered is that of an object of the directory that is left
abbrev IsMadeHere : Answer → Directory → Type 0
IsMadeHere a d = (h : ℕ) → a ≡ Made h → is_object_at d h ≡ true

-- the same for each reply of a plan
data MakesHere : Plan → Type 0 where
  of_refusal : {r : Refusal} → MakesHere (Refuse r)
  of_request : {need : Need} {next : Extent → Plan} → ((x : Extent) → MakesHere (next x))
      → MakesHere (Request need next)
  of_reply : {a : Answer} {d : Directory} → IsMadeHere a d → MakesHere (Reply a d)

refused-here : {r : Refusal} (d : Directory) → IsMadeHere (Refused r) d
refused-here d h e = absurd (cc)

asked-here : (d : Directory) (o : Option Extent) (after : Extent → Answer × Directory)
    → ((x : Extent) → IsMadeHere (after x).0 (after x).1)
    → IsMadeHere (elim o as (λ _. Answer × Directory) [ None ↦ (Refused NoSpace, d) | Some x ↦ after x ]).0
    (elim o as (λ _. Answer × Directory) [ None ↦ (Refused NoSpace, d) | Some x ↦ after x ]).1
asked-here d None after k = refused-here d
asked-here d (Some x) after k = k x

perform-here : (d : Directory) (l : LiveSet) (p : Plan) → MakesHere p → IsMadeHere (perform d l p).0 (perform d l p).1
perform-here d l p of_refusal = refused-here d
perform-here d l p (of_reply k) = k
perform-here d l p (of_request {need = need} {next = next} k) = asked-here d (met l need)
    (λ x. perform d (resized l x) (next x)) (λ x. perform-here d (resized l x) (next x) (k x))

-- ---- the parts of the plan

if-here : (b : Bool) (p q : Plan) → MakesHere p → MakesHere q → MakesHere (if b then p else q)
if-here true p q h k = h
if-here false p q h k = k

place-here : (t : BackingArray) (count : ℕ) (next : BackingArray → Plan) → ((u : BackingArray) → MakesHere (next u))
    → MakesHere (with_spare_entry t count next)
place-here t count next k = if-here (nat_lt count t.capacity) _ _ (k t) (of_request (λ x. k _))

entry-here : (d : Directory) (c : Class) (next : Directory → Plan) → ((e : Directory) → MakesHere (next e))
    → MakesHere (with_entry d c next)
entry-here d Anonymous next k = k d
entry-here d Named next k = place-here d.named _ _ (λ t. k (record d { named = t }))
entry-here d Unique next k = place-here d.unique _ _ (λ t. k (record d { unique = t }))

storage-here : (each n : ℕ) (next : BackingArray → Plan) → ((t : BackingArray) → MakesHere (next t))
    → MakesHere (with_storage each n next)
storage-here each n next k = if-here (n == 0) _ _ (k _) (of_request (λ x. k _))

owned-here : (bs : List ℕ) (next : OwnedText → Plan) → ((p : OwnedText) → MakesHere (next p))
    → MakesHere (with_owned_text bs next)
owned-here bs next k = if-here (length bs == 0) _ _ (k _) (of_request (λ x. k _))

all_owned-here : (bss : List (List ℕ)) (next : List OwnedText → Plan) → ((ps : List OwnedText) → MakesHere (next ps))
    → MakesHere (with_owned_texts bss next)
all_owned-here [] next k = k []
all_owned-here (bs ∷ bss) next k = owned-here bs _ (λ p. all_owned-here bss _ (λ ps. k (p ∷ ps)))

value-here : (c : Content) (next : Value → Plan) → ((v : Value) → MakesHere (next v)) → MakesHere (with_value c next)
value-here (asked.Elements k zs) next here = storage-here (size_of k) (length zs) _ (λ t. here (Elements k zs t))
value-here (asked.Bytes bs) next here = storage-here 1 (length bs) _ (λ t. here (Bytes bs t))
value-here (asked.Strings bss) next here =
    storage-here 16 (length bss) _ (λ t. all_owned-here bss _ (λ ps. here (Texts ps t)))
value-here v next here = here _

-- ---- the object

found-behind : (b : Bool) (p : Object) (rest : Option Object) → is_some rest ≡ true
    → is_some (cond b (Some p) rest) ≡ true
found-behind true p rest k = refl
found-behind false p rest k = k

found-if : (h : ℕ) (b : Bool) (o p : Object) (ps qs : List Object) → h ≡ handle o.extent
    → is_some (find (has_key (ByHandle h)) qs) ≡ true
    → is_some (find (has_key (ByHandle h)) (if b then o ∷ p ∷ ps else p ∷ qs)) ≡ true
found-if h true o p ps qs e k =
    ap (λ b. is_some (cond b (Some o) (find (has_key (ByHandle h)) (p ∷ ps)))) (eq-eqb h (handle o.extent) e)
found-if h false o p ps qs e k = found-behind (h == handle p.extent) p (find (has_key (ByHandle h)) qs) k

found-put : (h : ℕ) (o : Object) (ps : List Object) → h ≡ handle o.extent
    → is_some (find (has_key (ByHandle h)) (put_object o ps)) ≡ true
found-put h o [] e = ap (λ b. is_some (cond b (Some o) None)) (eq-eqb h (handle o.extent) e)
found-put h o (p ∷ ps) e =
    found-if h (nat_lt o.extent.offset p.extent.offset) o p ps (put_object o ps) e (found-put h o ps e)

new-here : (d : Directory) (key : Key) (c : Content)
    → MakesHere (with_new_object d key c (λ o e. Reply (Made (handle o.extent)) e))
new-here d key c = entry-here d (class_of key) _ (λ e. of_request (λ x. value-here c _ (λ v. of_reply (λ h same.
    let o : Object = record { class = class_of key; name = name_of key; value = v; extent = x } in
    let is : h ≡ handle x = cc in
    found-put h o e.objects is))))

effect-here : (d : Directory) (key : Key) (c : Content) (o : Option Object) → MakesHere (elim o as (λ _. Plan) [
  | Some p ↦ Refuse Exists
  | None ↦ with_new_object d key c (λ o e. Reply (Made (handle o.extent)) e)
])
effect-here d key c None = new-here d key c
effect-here d key c (Some p) = of_refusal

step-here : (mode : Mode) (d : Directory) (key : Key) (c : Content)
    → IsMadeHere (step mode d (asked.Construct key c)).0 (step mode d (asked.Construct key c)).1
unfolding step
step-here mode d key c = perform-here d (live d) (plan mode d (asked.Construct key c))
    (if-here (is_read_only mode && true) _ _ of_refusal (effect-here d key c (object_at d key)))

-- an object that was constructed exists
pub made-here : {old new : SegmentState} (key : Key) (c : Content) (h : ℕ) → IsSegment old.cut.bytes
    → TakesStep old new (asked.Construct key c) (Made h) → AnswersWith new (λ d. is_object_at d h) true
made-here {old} key c h g m = record {
  answers = λ e k. sym (object-passes h k.denotes ∙ sym (object-passes h (m.denotes g.0 g.1).denotes)
      ∙ step-here old.mode g.0 key c h (sym (m.answers g.0 g.1)));
}

-- A command that destroys no object keeps the properties of each.

-- ---- an object of another value

-- the located object of a handle in a list
abbrev said : ℕ → List Object → Option Located
said h os = option_map located (find (has_key (ByHandle h)) os)

said-first : (b : Bool) (o : Object) (rest : Option Object)
    → option_map located (cond b (Some o) rest) ≡ cond b (Some (located o)) (option_map located rest)
said-first true o rest = refl
said-first false o rest = refl

replaced : (h : ℕ) (o p r : Object) (rs : List Object) (b : Bool) → (handle o.extent == handle r.extent) ≡ b
    → located o ≡ located p → cond b (Some r) (find (has_key (ByHandle (handle o.extent))) rs) ≡ Some p
    → (find (has_key (ByHandle (handle o.extent))) rs ≡ Some p → said h (replace_object o rs) ≡ said h rs)
    → said h (if b then o ∷ rs else r ∷ replace_object o rs) ≡ said h (r ∷ rs)
replaced h o p r rs true e same f k =
    let first : r ≡ p = same_Some r p f in let alike : located o ≡ located r = same ∙ sym (ap located first) in
    said-first (h == handle o.extent) o (find (has_key (ByHandle h)) rs)
    ∙ ap (λ (q : Located). cond (h == q.handle) (Some q) (said h rs)) alike
    ∙ sym (said-first (h == handle r.extent) r (find (has_key (ByHandle h)) rs))
replaced h o p r rs false e same f k =
    said-first (h == handle r.extent) r (find (has_key (ByHandle h)) (replace_object o rs))
    ∙ ap (cond (h == handle r.extent) (Some (located r))) (k f)
    ∙ sym (said-first (h == handle r.extent) r (find (has_key (ByHandle h)) rs))

replace-says : (h : ℕ) (o p : Object) (rs : List Object) → located o ≡ located p
    → find (has_key (ByHandle (handle o.extent))) rs ≡ Some p → said h (replace_object o rs) ≡ said h rs
replace-says h o p [] same f = refl
replace-says h o p (r ∷ rs) same f =
    replaced h o p r rs (handle o.extent == handle r.extent) refl same f (replace-says h o p rs same)

-- ---- plans

asked-keeps : (d : Directory) (h : ℕ) (q : Located) (o : Option Extent) (after : Extent → Answer × Directory)
    → located_at d (ByHandle h) ≡ Some q → ((x : Extent) → located_at (after x).1 (ByHandle h) ≡ Some q)
    → located_at (elim o as (λ _. Answer × Directory) [ None ↦ (Refused NoSpace, d) | Some x ↦ after x ]).1 (ByHandle h)
    ≡ Some q
asked-keeps d h q None after here k = here
asked-keeps d h q (Some x) after here k = k x

module _ {format : ℕ} (d : Directory) (is : IsDirectory format d) (h : ℕ) (q : Located)
    (here : located_at d (ByHandle h) ≡ Some q) where
  change-keeps : (o : Object) → IsAnother d o → said h (replace_object o d.objects) ≡ Some q
  change-keeps o a = replace-says h o a.was d.objects a.same
      (ap (λ (p : Located). object_at d (ByHandle p.handle)) a.same ∙ by-handle a.key is a.is) ∙ here

  -- a plan that keeps the directory, or changes the value of one of its objects, keeps the properties of each object
  perform-keeps : (changing : Bool) {other : Bool} → other ≡ false → (l : LiveSet) (p : Plan)
      → Leaves d changing other p → located_at (perform d l p).1 (ByHandle h) ≡ Some q
  perform-keeps changing e l p by_refusal = here
  perform-keeps changing e l p by_answer = here
  perform-keeps changing e l p (by_change o a k) = change-keeps o a
  perform-keeps changing e l p (by_other k) = absurd (false≢true (sym e))
  perform-keeps changing e l p (by_request {need = need} {next = next} k) = asked-keeps d h q (met l need)
      (λ x. perform d (resized l x) (next x)) here (λ x. perform-keeps changing e (resized l x) (next x) (k x))

  step-keeps : (mode : Mode) (c : Command) → is_elementwise c ≡ true
      → located_at (step mode d c).1 (ByHandle h) ≡ Some q
  unfolding step
  step-keeps mode c e = perform-keeps _ (ap not e) (live d) (plan mode d c) (plan-leaves mode d c)

  step_of_kind-keeps : (mode : Mode) (key : Key) (kind : Kind) (c : Command) → is_elementwise c ≡ true
      → located_at (step_of_kind mode d key kind c).1 (ByHandle h) ≡ Some q
  unfolding step_of_kind
  step_of_kind-keeps mode key kind c e = perform-keeps _ (ap not e) (live d) _ (plan_of_kind-leaves mode d key kind c)

  -- ---- ranges

  -- values that are appended to a vector
  extended-keeps : (mode : Mode) (key : Key) (k : ScalarKind) (more : List ℤ)
      → located_at (extended mode d key k more).1 (ByHandle h) ≡ Some q
  extended-keeps mode key k more = perform-keeps true refl (live d) _ (extended-leaves mode d key k more)

  -- elements that are written over
  module _ (key : Key) (first : ℕ) (zs : List ℤ) where
    abbrev over : Value → Value
    over v = with_items v (replaced_range (numbers_in v) first zs)

    over-kind : (v : Value) → kind_of (over v) ≡ kind_of v
    over-kind (Numbers k ns) = refl
    over-kind v = refl

    over-count : (v : Value) → first + length zs ≤ length (numbers_in v) → count_of (over v) ≡ count_of v
    over-count (Numbers k ns) f = replaced-length ns first zs f
    over-count v f = refl

    over-keeps : (o : Object) → object_at d key ≡ Some o → first + length zs ≤ length (numbers_in o.value)
        → located_at (changed d o (over o.value)) (ByHandle h) ≡ Some q
    over-keeps o is fits = change-keeps (record o { value = over o.value }) (record {
      key = key;
      was = o;
      is = is;
      same = λ i. record {
        handle = handle o.extent;
        kind = over-kind o.value i;
        name_len = length o.name;
        count = over-count o.value fits i;
      };
    })

    range-keeps : (k : ScalarKind) (r : Option Object) → object_at d key ≡ r
        → located_at (written_if (range_in (slice_in k r) first (length zs)) d (range_with d first zs r)).1 (ByHandle h)
        ≡ Some q
    range-keeps k None e = here
    range-keeps k (Some o) e = series-if (is_slice k (kind_of o.value))
      where
        fits-if : (b : Bool) → nat_le (first + length zs) (length (numbers_in o.value)) ≡ b
            → located_at (written_if (if b then Ok (take (length zs) (drop first (numbers_in o.value)))
            else Err OutOfRange) d (changed d o (over o.value))).1 (ByHandle h) ≡ Some q
        fits-if true f = over-keeps o e (leb-true (first + length zs) (length (numbers_in o.value)) f)
        fits-if false f = here

        series-if : (b : Bool) → located_at (written_if (range_in (if b then Ok (numbers_in o.value) else Err WrongKind)
            first (length zs)) d (changed d o (over o.value))).1 (ByHandle h) ≡ Some q
        series-if true = fits-if (nat_le (first + length zs) (length (numbers_in o.value))) refl
        series-if false = here

    written-keeps : (mode : Mode) (k : ScalarKind) → located_at (written mode d key k first zs).1 (ByHandle h) ≡ Some q
    written-keeps mode k = reading-if (is_read_only mode)
      where
        reading-if : (b : Bool) → located_at (if b then (Refused ReadOnly, d)
            else written_if (range_at d key k first (length zs)) d (with_range d key first zs)).1 (ByHandle h) ≡ Some q
        reading-if true = here
        reading-if false = range-keeps k (object_at d key) refl

-- ---- segments

-- an object has the handle
is-some : (r : Option Object) (q : Located) → option_map located r ≡ Some q → is_some r ≡ true
is-some None q e = absurd (cc)
is-some (Some o) q e = refl

own-handle : (d : Directory) (h : ℕ) → is_object_at d h ≡ true → Some h ≡ handle_at d (ByHandle h)
own-handle d h e = ap (λ (b : Bool). then_some b h) (sym e) ∙ handle-if h d (object_at d (ByHandle h)) refl

-- two directories of the same bytes agree on the object
one-said : {b : List ℕ} {d e : Directory} (h : ℕ) (q : Located) → Denotes current b d → Denotes current b e
    → located_at d (ByHandle h) ≡ Some q → located_at e (ByHandle h) ≡ Some q
one-said {b} {d} {e} h q k l f =
    let there : is_object_at d h ≡ true = is-some (object_at d (ByHandle h)) q f in
    let o = here b d (ByHandle h) h k (own-handle d h there) in
    let p = here b e (ByHandle h) h l (own-handle e h (object-passes h l ∙ sym (object-passes h k) ∙ there)) in
    ap (option_map located) p.is ∙ ap Some (alike p.stands o.stands) ∙ sym (ap (option_map located) o.is) ∙ f

moved-keeps : {A : Type 0} {old new : SegmentState} {answer : A} {next : Directory → A × Directory}
    → IsSegment old.cut.bytes
    → Transitions old new answer next → ((d : Directory) → IsDirectory current d → (h : ℕ) (q : Located)
    → located_at d (ByHandle h) ≡ Some q → located_at (next d).1 (ByHandle h) ≡ Some q) → KeepsObjects old new
moved-keeps g m keeps q is = record {
  answers = λ e k. sym (one-said q.handle q (m.denotes g.0 g.1).denotes k.denotes
      (keeps g.0 g.1.denotes.directory q.handle q (sym (is.answers g.0 g.1))));
}

-- law: objects stay
pub objects_stay : ObjectsStay
objects_stay = record {
  any = λ old new c answer g e m. moved-keeps g m (λ d is h q here. step-keeps d is h q here old.mode c e);
  of_kind = λ old new key kind c answer g e m. moved-keeps g m
      (λ d is h q here. step_of_kind-keeps d is h q here old.mode key kind c e);
}

-- the same for a call that returns less than the machine's answer
pub leads_on-stay : (old new : SegmentState) (key : Key) (kind : Kind) (c : Command) (why : Option Refusal)
    → IsSegment old.cut.bytes → is_elementwise c ≡ true → LeadsOnOfKind old new key kind c why → KeepsObjects old new
leads_on-stay old new key kind c why g e m =
    moved-keeps g m (λ d is h q here. step_of_kind-keeps d is h q here old.mode key kind c e)

-- and of calls on a range of elements
pub extends-stay : (old new : SegmentState) (key : Key) (k : ScalarKind) (more : List ℤ) (answer : Answer)
    → IsSegment old.cut.bytes → ExtendsVector old new key k more answer → KeepsObjects old new
extends-stay old new key k more answer g m =
    moved-keeps g m (λ d is h q here. extended-keeps d is h q here old.mode key k more)

-- writing a range keeps the objects
pub writes-stay : (old new : SegmentState) (key : Key) (k : ScalarKind) (first : ℕ) (zs : List ℤ) (answer : Answer)
    → IsSegment old.cut.bytes → WritesRange old new key k first zs answer → KeepsObjects old new
writes-stay old new key k first zs answer g m =
    moved-keeps g m (λ d is h q here. written-keeps d is h q here key first zs old.mode k)

-- One element of an object is read in the run of its elements.

-- ---- one element in memory

-- the bytes there encode the number
record IsSpelledAt (m : Memory) (at : ℕ) (k : ScalarKind) (z : ℤ) : Type 0 where
  good : is_spelling k (read m at (size_of k)) ≡ true
  value : value_of k (little_number (size_of k) (read m at (size_of k))) ≡ z

number-spelled : (m : Memory) (at : ℕ) (k : ScalarKind) (z : ℤ) → IsElementAt m at k z → IsSpelledAt m at k z
number-spelled m at k z e =
    let one = all_spell_one k z e.value in
    record {
      good = ap (is_spelling k) e.spelled_there ∙ one.is_one;
      value = ap (λ (bs : List ℕ). value_of k (little_number (size_of k) bs)) e.spelled_there ∙ one.reads;
    }

singles : (bs : List ℕ) → flat_map (λ (b : ℕ). b ∷ []) bs ≡ bs
singles [] = refl
singles (b ∷ bs) = ap (λ (rest : List ℕ). b ∷ rest) (singles bs)

byte-spelled : (m : Memory) (at : ℕ) (bs : List ℕ) (i : ℕ) {z : ℤ} → IsTrue (list_all (λ b. nat_lt b 256) bs)
    → HasBytesAt m at bs → slice_get (map pos bs) i ≡ Some z → IsSpelledAt m (at + 1 * i) U8 z
byte-spelled m at bs i {z} good h e = byte-if (slice_get bs i) refl (sym (slice_get-map pos bs i) ∙ e)
  where
    byte-if : (r : Option ℕ) → slice_get bs i ≡ r → option_map pos r ≡ Some z → IsSpelledAt m (at + 1 * i) U8 z
    byte-if None f g = absurd (cc)
    byte-if (Some b) f g =
        let same : pos b ≡ z = cc in
        let there : read m (at + 1 * i) 1 ≡ b ∷ [] =
        HasBytesAt-element (λ (b : ℕ). b ∷ []) {n = 1} (λ b. refl) m at bs i
        (subst (HasBytesAt m at) (sym (singles bs)) h) f in
        let small : b < 256 = ltb-true b 256 (all-at (λ b. nat_lt b 256) bs i good f) in
        let number : little_number 1 (b ∷ []) ≡ b = omega arith in
        record {
          good = ap (is_spelling U8) there ∙ ap (λ n. is_value U8 (pos n)) number ∙ byte-value b small;
          value = ap (λ (bs : List ℕ). pos (little_number 1 bs)) there ∙ ap pos number ∙ same;
        }

-- ---- the elements of a value with a run

-- the plan for an element, if it exists or not
abbrev value_read : Directory → ScalarKind → Option ℤ → Plan
value_read d k r = with (elim r as (λ _. Result ℤ Refusal) [ None ↦ Err OutOfRange | Some z ↦ Ok z ]) (λ z.
    Reply (Element k z) d)

record HasItems (v : Value) (run : ElementRun) : Type 0 where
  items : List ℤ
  many : length items ≡ run.count
  has : elements_of (kind_of v) ≡ Ok run.kind
  gets : (d : Directory) (i : ℕ) → get d v i ≡ value_read d run.kind (slice_get items i)
  spells : (m : Memory) (i : ℕ) {z : ℤ} → IsTrue (is_good_value v) → HasBytesAt m run.offset (spelled_in v)
      → slice_get items i ≡ Some z → IsSpelledAt m (run.offset + size_of run.kind * i) run.kind z

items-if : (at : ℕ) (v : Value) {run : ElementRun} → run_in at v ≡ Ok run → HasItems v run
items-if at (Numbers k zs) {run} e =
    let r : ElementRun = record { offset = at; count = length zs; kind = k } in
    let same : r ≡ run = cc in
    subst (HasItems (Numbers k zs)) same (record {
      items = zs;
      many = refl;
      has = refl;
      gets = λ d i. refl;
      spells = λ m i {z} good h f.
          number-spelled m (at + size_of k * i) k z (element-in m at k zs i (second _ _ good) h f);
    })
items-if at (Elements k zs t) {run} e =
    let r : ElementRun = record { offset = storage_offset t; count = length zs; kind = k } in
    let same : r ≡ run = cc in
    subst (HasItems (Elements k zs t)) same (record {
      items = zs;
      many = refl;
      has = refl;
      gets = λ d i. refl;
      spells = λ m i {z} good h f. number-spelled m (storage_offset t + size_of k * i) k z
          (element-in m (storage_offset t) k zs i (second _ _ good) h f);
    })
items-if at (Bytes bs t) {run} e =
    let r : ElementRun = record { offset = storage_offset t; count = length bs; kind = U8 } in
    let same : r ≡ run = cc in
    subst (HasItems (Bytes bs t)) same (record {
      items = map pos bs;
      many = length-map bs pos;
      has = refl;
      gets = λ d i. refl;
      spells = λ m i {z} good h f. byte-spelled m (storage_offset t) bs i (second _ _ good) h f;
    })
items-if at (Pairs k v ps) e = absurd (cc)
items-if at (Texts ps t) e = absurd (cc)

-- ---- the object of a key

abbrev elements_in : Option Object → Result ScalarKind Refusal
elements_in r =
    elim r as (λ _. Result ScalarKind Refusal) [ None ↦ Err NotFound | Some o ↦ elements_of (kind_of o.value) ]

abbrev run_if : Option Object → Result ElementRun Refusal
run_if r = elim r as (λ _. Result ElementRun Refusal) [ None ↦ Err NotFound | Some o ↦ run_of o ]

abbrev reply_of : Mode → Directory → Command → Result ScalarKind Refusal → Answer
reply_of mode d c q = elim q as (λ _. Answer) [ Err r ↦ Refused r | Ok k ↦ (step mode d c).0 ]

no-elements : (at : ℕ) (v : Value) {why : Refusal} → Err why ≡ run_in at v → Err why ≡ elements_of (kind_of v)
no-elements at (Numbers k zs) e = absurd (cc)
no-elements at (Elements k zs t) e = absurd (cc)
no-elements at (Bytes bs t) e = absurd (cc)
no-elements at (Pairs k v ps) {why} e = let same : why ≡ WrongKind = cc in ap Err same
no-elements at (Texts ps t) {why} e = let same : why ≡ WrongKind = cc in ap Err same

refused-if : (r : Option Object) {why : Refusal} → Err why ≡ run_if r → Err why ≡ elements_in r
refused-if None {why} e = let same : why ≡ NotFound = cc in ap Err same
refused-if (Some o) e = no-elements (handle o.extent + head_len + padded (length o.name)) o.value e

read-if : (k : ScalarKind) (bytes : List ℕ) {z : ℤ} (r : Option ScalarValue) → SpelledBy k bytes r
    → is_spelling k bytes ≡ true → value_of k (little_number (size_of k) bytes) ≡ z
    → scalar_answer (ok_or r WrongKind) ≡ Element k z
read-if k bytes (Some v) (good, kind, value) is same = λ j. Element (kind j) ((value ∙ same) j)
read-if k bytes None bad is same = absurd (cc)

module _ (s : SegmentState) (key : Key) (i : ℕ) where
  -- an object without a run has no such element
  pub run-refused : (why : Refusal) → AnswersWith s (λ d. run_at d key) (Err why)
      → AnswersWith s (λ d. scalar_reply s.mode d key (asked.Get key i)) (Refused why)
  run-refused why a = record {
    answers = λ d l. ap (reply_of s.mode d (asked.Get key i)) (refused-if (object_at d key) (a.answers d l));
  }

  module _ (run : ElementRun) (a : AnswersWith s (λ d. run_at d key) (Ok run)) where
    the-object : (d : Directory) → DenotesCurrent s.cut.bytes d → HasRun d key run
    the-object d l = has-if (object_at d key) refl (a.answers d l)

    its : (d : Directory) (l : DenotesCurrent s.cut.bytes d) → HasItems (the-object d l).object.value run
    its d l = items-if _ (the-object d l).object.value (the-object d l).run_is

    replies : (d : Directory) (l : DenotesCurrent s.cut.bytes d) (q : Option ℤ) → slice_get (its d l).items i ≡ q
        → scalar_reply s.mode d key (asked.Get key i) ≡ (perform d (live d) (value_read d run.kind q)).0
    replies d l q e =
        let o = the-object d l in
        ap (reply_of s.mode d (asked.Get key i)) (ap elements_in o.is ∙ (its d l).has)
        ∙ answered-reads s.mode d (asked.Get key i) refl
        ∙ ap (λ (p : Plan). (perform d (live d) p).0) (with-found d key o.object (λ o. get d o.value i) o.is
        ∙ (its d l).gets d i ∙ ap (value_read d run.kind) e)

    -- an index that is not below the length is outside
    pub run-past : run.count ≤ i → AnswersWith s (λ d. scalar_reply s.mode d key (asked.Get key i)) (Refused OutOfRange)
    run-past past = record {
      answers = λ d l.
          let many = (its d l).many in
          sym (replies d l None (slice_get_past (its d l).items i (omega (arith, many, past))));
    }

    -- the element is read from its bytes
    pub run-reads : IsRunOf s key run → i < run.count → (bytes : List ℕ)
        → bytes ≡ read (bytes_of s.cut.bytes) (run.offset + size_of run.kind * i) (size_of run.kind)
        → (r : Option ScalarValue) → SpelledBy run.kind bytes r
        → AnswersWith s (λ d. scalar_reply s.mode d key (asked.Get key i)) (scalar_answer (ok_or r WrongKind))
    run-reads lies within bytes is r spelled = record {
      answers = λ d l.
          let o = the-object d l in
          let many = (its d l).many in
          let one = has-element (its d l).items i (omega (arith, many, within)) in
          let good : IsTrue (is_good_value o.object.value) =
          (object-roomy current o.object (standing s.cut.bytes d key o.object l.denotes o.is).good).value in
          let there = (its d l).spells (bytes_of s.cut.bytes) i good (subst (HasBytesAt (bytes_of s.cut.bytes)
          run.offset) (ap (λ (q : Option Object). elim q as (λ _. List ℕ) [ None ↦ [] | Some p ↦ spelled_in p.value ])
          o.is) (lies.spells d l)) one.1 in
          read-if run.kind bytes r spelled (ap (is_spelling run.kind) is ∙ there.good)
          (ap (λ (bs : List ℕ). value_of run.kind (little_number (size_of run.kind) bs)) is ∙ there.value)
          ∙ sym (replies d l (Some one.0) one.1);
    }

-- Numbers as the value of a new object, and a map without pairs: they ask for no block but the object's own.

all-stay : (m : Memory) (from n : ℕ) (xs : List Extent) → AllByRecursion (SameBlockExcept m m from n) xs
all-stay m from n [] = tt
all-stay m from n (x ∷ xs) = (record { payload = λ k f g h. refl; colour = refl }, all-stay m from n xs)

-- no block is allocated
nothing-exchanged : {c : WindowState} {from n : ℕ} → EncodesLiveSet current c.bytes (live_of c.bytes)
    → ExchangesBlocks current c c from n [] []
nothing-exchanged {c} {from} {n} laid = record {
  live = laid;
  place = record { before = refl; after = refl };
  front = record { at = λ i a b. refl };
  behind = record { at = λ i a b. refl };
  blocks = all-stay (bytes_of c.bytes) from n (live_of c.bytes).extents;
}

-- ---- numbers

-- they are written
pub numbers-made : (k : ScalarKind) (zs : List ℤ) {old new : WindowState} {p : Place}
    → IsTrue (is_good_value (Numbers k zs)) → ChangesBytes current old new (place_at p) (size_of k * length zs)
    → HasBytesAt (bytes_of new.bytes) (place_at p) (spelled k zs) → MakesValueOk (asked.Numbers k zs) old new p
numbers-made k zs {old} {new} good change says = record {
  empty = new;
  change = change;
  value = Numbers k zs;
  is_kind = refl;
  len = refl;
  count = refl;
  good = good;
  left = live_of new.bytes;
  given = λ d. record { met = λ next. refl };
  storage = nothing-exchanged (laid-heap new.bytes (live_of old.bytes) change.live);
  said = says;
}

-- the spelling of one number, this many times
pub equal-made : (k : ScalarKind) (count : ℕ) (z : ℤ) (old new : WindowState) (p : Place) (bytes : List ℕ) → 1 ≤ count
    → count ≤ 1048576 → IsTrue (is_value k z) → bytes ≡ spelling k z → ChangesBytes current old new (place_at p)
    (length bytes * count) → HasBytesAt (bytes_of new.bytes) (place_at p) (repeated count bytes)
    → MakesValueOk (asked.Numbers k (replicate count z)) old new p
equal-made k count z old new p bytes low high value spelt change says =
    let size : length bytes ≡ size_of k = ap (λ (bs : List ℕ). length bs) spelt ∙ spelling-length k z in
    numbers-made k (replicate count z) (equal-good k count z low high value)
    (subst (ChangesBytes current old new (place_at p)) (λ j. size j * sym (length-replicate count z) j) change)
    (subst (HasBytesAt (bytes_of new.bytes) (place_at p)) (ap (repeated count) spelt ∙ repeated-spelled k count z) says)

-- ---- a map without pairs

no-root : (m : Memory) {o : Option ℕ} (t : Tree) → IsTree (cells_of m) o t → nodes_of t ≡ [] → o ≡ None
no-root m leaf k e = k.root
no-root m (fork red left n right) k e = absurd (not-empty (nodes_of left) n (nodes_of right) e)
  where
    not-empty : (xs : List ℕ) (n : ℕ) (ys : List ℕ) → xs ++ n ∷ ys ≡ [] → ⊥
    not-empty [] n ys f = cc
    not-empty (x ∷ xs) n ys f = cc

-- an empty map is a map of any types
pub map-made : {K V : Type 0} (k v : ScalarKind) (kp : Plain K) (vp : Plain V) {old new : WindowState} {p : Place}
    → InitsMap kp vp old new p.handle p.at → MakesValueOk (asked.NoPairs k v) old new p
map-made k v kp vp {new} r =
    let s = r.map in
    record {
      empty = new;
      change = r.change;
      value = Pairs k v [];
      is_kind = refl;
      len = refl;
      count = refl;
      good = refl;
      left = live_of new.bytes;
      given = λ d. record { met = λ next. refl };
      storage = nothing-exchanged s.heap;
      said = record {
        count = s.map.count;
        third = s.map.third;
        tree = record {
          tree = leaf;
          linked = record {
            root = no-root (bytes_of new.bytes) s.map.tree.tree s.map.tree.linked s.map.tree.lists;
            holds = tt;
          };
          red_black = record { root = refl; no_red_pair = refl; black = (0, refl) };
          lists = refl;
        };
        pairs = tt;
      };
    }
