-- The calls on any object with storage: failures, reserve, shrink and clear; and calls that read.
use Rattle.segment_manager.proofs.Common as common
use Rattle.std.proofs.lemmas.Bool.{leb-false}
use Rattle.raw_region.proofs.Facts.{first, no_more, second}
use Rattle.seg_vector.specs.Vector.{capacity_for_more}
use Rattle.segment_manager.proofs.{blocks.Blocks.spelled-length, objects.RankedPairs.key-found}
use Rattle.segment_manager.proofs.containers.ContentPlans.{clear-plan, reserve-plan, shrink-plan}
use Rattle.segment_manager.proofs.containers.MapBlocks.{BlocksInUse, blocks-in_use}
use Rattle.segment_manager.proofs.containers.Safely.{Performed, done-so, stays}
use Rattle.segment_manager.proofs.directory.{AnyDirectory.with-found, AnyDirectory.with-not_found, Frame.object-roomy}
use Rattle.segment_manager.proofs.directory.AnyDirectory.{IsMove, IsOpenFor, by_no_change, by_no_change_of_kind}
use Rattle.segment_manager.proofs.directory.AnyDirectory.{by_same, by_step_of_kind, denotes-heap, denotes-live}
use Rattle.segment_manager.proofs.directory.AnyDirectory.{moves-same, open-writing, step-effect, step_of_kind-found}
use Rattle.segment_manager.proofs.directory.AnyDirectory.{step_of_kind-not_found, step_of_kind-other, step_of_kind-step}
use Rattle.segment_manager.proofs.directory.LiveSet.{Differs, IsFoundIn, IsIn}
use Rattle.segment_manager.proofs.objects.{Destroys.standing, KindCodes.code-read}
use Rattle.segment_manager.proofs.objects.{Rewritten.value_start, Rewritten.with_value, Standings.standing-room}
use Rattle.segment_manager.proofs.objects.Exchanged.{Exchange, between, denotes-container}
use Rattle.segment_manager.specs.containers.Ranges.{ExtendsVector, extend, extended}
use common.{AllByRecursion, Answer, AnswersQueryOfKind, AnswersWith, BackingArray, Bool, Bytes, Change, Clear, Command}
use common.{Contents, Denotes, DenotesCurrent, Directory, Done, Elements, Err, ExchangesBlocks, Extent, IsContainer}
use common.{IsContainerAt, IsMissing, IsObjectInBlock, IsSegment, IsStorageBlock, IsTrue, IsValueAt, Key, Kind}
use common.{LacksSpace, List, LiveSet, MatchResult, Memory, Mode, NoSpace, None, NotFound, Numbers, Object, ObjectRole}
use common.{Ok, Option, OutOfRange, Pairs, Place, Plan, ReadOnly, RefillsContainer, Refusal, Refuse, Refused}
use common.{RefusesIndex, RegrownNeed, Reply, Request, Reserve, Result, ScalarKind, SegmentState, Shrink, Some}
use common.{StepsSafely, Storage, TakesStep, TakesStepOfKind, Value, Vector, WindowState, WrongKind, [], and_from, ap}
use common.{append-nil, arith, bytes_of, changed, code_of, command_of, container_at, container_place, contents_of}
use common.{count_of, current, effect, eq-eqb, eqb-true, extent_at, false, found_at, grown_backing, handle, has_backing}
use common.{has_good_name, has_storage, has_values, if◌then◌else◌, is_changing, is_good_value, is_kind_of, is_object}
use common.{is_read_only, kind_at, kind_of, kind_of_code, le-leb, le-ltb, length, live, live_of, lt-ltb, met, nat_le}
use common.{object_at, option_map, option_to_list, padded, perform, place_at, plan, refl, regrow, resized, same_Some}
use common.{same_kind, serves, size_of, spelled, step, step_of_kind, storage_of, subst, sym, true, value_extents}
use common.{value_len, with, with_array, with_capacity, ℕ, ℤ, ◌&&◌, ◌*◌, ◌++◌, ◌+◌, ◌<◌, ◌∙◌, ◌∷◌, ◌≡◌, ◌≤◌}

-- ---- refusals

-- a value of a kind without storage has none
pub no-storage : (v : Value) → has_storage (kind_of v) ≡ false → storage_of v ≡ Err WrongKind
no-storage (Numbers k zs) h = refl
no-storage (Pairs k v ps) h = refl
no-storage v h = absurd (cc)

-- a change of storage of an object without storage is refused
pub change-refused : (change : Change) (d : Directory) (key : Key) (o : Object) → object_at d key ≡ Some o
    → storage_of o.value ≡ Err WrongKind → effect d (command_of change key) ≡ Refuse WrongKind
change-refused (Reserve n) d key o e f = reserve-plan d key o e (Err WrongKind) f n
change-refused Shrink d key o e f = shrink-plan d key o e (Err WrongKind) f
change-refused Clear d key o e f = clear-plan d key o e (Err WrongKind) f

-- no object has the key
pub change-nowhere : (change : Change) (d : Directory) (key : Key) → object_at d key ≡ None
    → effect d (command_of change key) ≡ Refuse NotFound
change-nowhere (Reserve n) d key e = with-not_found d key _ e
change-nowhere Shrink d key e = with-not_found d key _ e
change-nowhere Clear d key e = with-not_found d key _ e

-- a segment that is open for reading refuses each
pub change-changes : (change : Change) (key : Key) → is_changing (command_of change key) ≡ true
change-changes (Reserve n) key = refl
change-changes Shrink key = refl
change-changes Clear key = refl

-- ---- calls that read

-- a step that leaves the segment is the machine's answer
pub step_of_kind-reply : (s : SegmentState) (key : Key) (kind : Kind) (c : Command) (answer : Answer)
    → TakesStepOfKind s s key kind c answer → AnswersQueryOfKind s key kind c answer
step_of_kind-reply s key kind c answer r = record { answers = r.answers }

-- the same in the segment, for its view before the call
pub seen-reply : (s t : SegmentState) (view : s ≡ t) (key : Key) (kind : Kind) (c : Command) (answer : Answer)
    → TakesStepOfKind s s key kind c answer → AnswersQueryOfKind t key kind c answer
seen-reply s t view key kind c answer r =
    subst (λ (u : SegmentState). AnswersQueryOfKind u key kind c answer) view (step_of_kind-reply s key kind c answer r)

-- A vector or text as the value of an object: its place for the calls of seg_vector, and the effect of these calls on
-- the object.

-- ---- the value

-- the properties of a good value
pub record Fits (v : Value) (c : Contents) : Type 0 where
  pub table : IsTrue (has_backing Storage c.each c.table)
  pub fits : c.len ≤ c.table.capacity
  pub long : length c.bytes ≡ c.each * c.len
  pub values : IsTrue (has_values v)

-- and of any
pub record Shape (v : Value) (c : Contents) : Type 0 where
  pub extents : value_extents v ≡ option_to_list c.table.extent
  pub len : value_len v ≡ 24
  pub count : count_of v ≡ 1

abbrev elements_in : ScalarKind → List ℤ → BackingArray → Contents
elements_in k zs t = record { each = size_of k; len = length zs; table = t; bytes = spelled k zs }

abbrev bytes_in : List ℕ → BackingArray → Contents
bytes_in bs t = record { each = 1; len = length bs; table = t; bytes = bs }

-- a property of vectors of numbers and of texts holds for each value with contents
pub of-contents : (P : Value → Contents → Type 0)
    → ((k : ScalarKind) (zs : List ℤ) (t : BackingArray) → P (Elements k zs t) (elements_in k zs t))
    → ((bs : List ℕ) (t : BackingArray) → P (Bytes bs t) (bytes_in bs t))
    → (v : Value) (c : Contents) → contents_of v ≡ Some c → P v c
of-contents P f g (Elements k zs t) c e = subst (P (Elements k zs t)) (same_Some (elements_in k zs t) c e) (f k zs t)
of-contents P f g (Bytes bs t) c e = subst (P (Bytes bs t)) (same_Some (bytes_in bs t) c e) (g bs t)
of-contents P f g v c e = absurd (cc)

-- a value is good if its length is at most its capacity, its storage has room, and its elements are values
good-contents : (v : Value) (c : Contents) → contents_of v ≡ Some c
    → is_good_value v ≡ (nat_le c.len c.table.capacity && has_backing Storage c.each c.table && has_values v)
good-contents = of-contents (λ v c.
    is_good_value v ≡ (nat_le c.len c.table.capacity && has_backing Storage c.each c.table
    && has_values v)) (λ k zs t. refl) (λ bs t. refl)

-- the contents of a good value fit its storage
pub contents-fit : (v : Value) (c : Contents) → contents_of v ≡ Some c → IsTrue (is_good_value v) → Fits v c
contents-fit v c e h =
    let many : Bool = nat_le c.len c.table.capacity in let serves : Bool = has_backing Storage c.each c.table in
    let all : IsTrue (many && serves && has_values v) = subst (λ (t : Bool). IsTrue t) (good-contents v c e) h in
    let front : IsTrue (many && serves) = first (many && serves) (has_values v) all in
    record {
      table = second many serves front;
      fits = no_more c.len c.table.capacity (first many serves front);
      long = (of-contents (λ v c. length c.bytes ≡ c.each * c.len) (λ k zs t. spelled-length k zs) (λ bs t. omega
          arith)) v c e;
      values = second (many && serves) (has_values v) all;
    }

-- the contents of a value have its shape
pub contents-shape : (v : Value) (c : Contents) → contents_of v ≡ Some c → Shape v c
contents-shape = of-contents Shape (λ k zs t. record { extents = refl; len = refl; count = refl })
    (λ bs t. record { extents = refl; len = refl; count = refl })

-- the converse: elements within their capacity form a good value
pub contents-good : (v : Value) (c : Contents) → contents_of v ≡ Some c → c.len ≤ c.table.capacity
    → IsTrue (has_backing Storage c.each c.table) → IsTrue (has_values v) → IsTrue (is_good_value v)
contents-good v c e f t h = subst (λ (b : Bool). IsTrue b) (sym (good-contents v c e))
    (and_from (nat_le c.len c.table.capacity && has_backing Storage c.each c.table) (has_values v)
    (and_from (nat_le c.len c.table.capacity) (has_backing Storage c.each c.table) (le-leb c.len c.table.capacity f)
    t) h)

-- memory has the value if it has its contents
pub value-said : (m : Memory) (at : ℕ) (v : Value) (c : Contents) → contents_of v ≡ Some c
    → IsContainerAt m at c.len c.table c.bytes → IsValueAt m at v
value-said m at =
    of-contents (λ v c. IsContainerAt m at c.len c.table c.bytes → IsValueAt m at v) (λ k zs t h. h) (λ bs t h. h)

-- ---- the object

-- the object stays good with another value of its kind and length
pub good-with : (format : ℕ) (o : Object) (w : Value) → IsTrue (is_object format o) → kind_of w ≡ kind_of o.value
    → value_len w ≡ value_len o.value → IsTrue (is_good_value w) → IsTrue (is_object format (with_value o w))
good-with format o w h kind len good =
    let serving : ℕ → Bool = λ n. serves o.extent ObjectRole (16 + padded (length o.name) + n) in
    let named : Bool = has_good_name format o in
    let front : IsTrue (named && is_kind_of format (kind_of o.value) && is_good_value o.value) =
    first (named && is_kind_of format (kind_of o.value) && is_good_value o.value) (serving (value_len o.value)) h in
    let room : IsTrue (serving (value_len w)) = subst (λ n. IsTrue (serving n)) (sym len)
    (second (named && is_kind_of format (kind_of o.value) && is_good_value o.value) (serving (value_len o.value)) h) in
    let kinds : IsTrue (named && is_kind_of format (kind_of w)) = subst (λ k. IsTrue (named && is_kind_of format k))
    (sym kind) (first (named && is_kind_of format (kind_of o.value)) (is_good_value o.value) front) in
    and_from (named && is_kind_of format (kind_of w) && is_good_value w) (serving (value_len w))
    (and_from (named && is_kind_of format (kind_of w)) (is_good_value w) kinds good) room

-- a block of its value is in use, and is not its own
own-some : (format : ℕ) (b : List ℕ) (d : Directory) (o : Object) (x : Extent) → Denotes format b d → IsIn d o
    → value_extents o.value ≡ x ∷ [] → IsStorageBlock (live_of b) (handle o.extent) (Some x)
own-some format b d o x k f e =
    let u : BlocksInUse d o = blocks-in_use d o k.directory.proper f in (
      ap (λ (l : LiveSet). extent_at l (handle x)) (denotes-live format b d k)
          ∙ (subst (AllByRecursion (IsFoundIn (live d).extents)) e u.value).0,
      λ g. (subst (Differs o.extent) e u.own_apart).0 (omega (arith, g)),
    )

own-block : (format : ℕ) (b : List ℕ) (d : Directory) (o : Object) (t : Option Extent) → Denotes format b d → IsIn d o
    → value_extents o.value ≡ option_to_list t → IsStorageBlock (live_of b) (handle o.extent) t
own-block format b d o None k f e = tt
own-block format b d o (Some x) k f e = own-some format b d o x k f e

-- a container is at the beginning of its object's value
pub start-place : (o : Object) → value_start o ≡ place_at (container_place o)
start-place o = omega arith

-- the object's vector or text is at its place
pub contents-stand : (b : List ℕ) (d : Directory) (key : Key) (o : Object) (c : Contents) → Denotes current b d
    → object_at d key ≡ Some o → contents_of o.value ≡ Some c
    → IsContainer b (container_place o) c.each c.len c.table c.bytes
contents-stand b d key o c k e h =
    let s : IsObjectInBlock b (handle o.extent) o = standing b d key o k e in
    let f : IsIn d o = key-found current d key o k.directory e in
    let good : Fits o.value c = contents-fit o.value c h (object-roomy current o s.good).value in
    let shape : Shape o.value c = contents-shape o.value c h in let len = shape.len in
    record {
      heap = denotes-heap current b d k;
      words = subst (λ at. IsContainerAt (bytes_of b) at c.len c.table c.bytes) (start-place o)
          ((of-contents (λ v c. IsValueAt (bytes_of b) (value_start o) v → IsContainerAt (bytes_of b) (value_start o)
          c.len c.table c.bytes) (λ k zs t h. h) (λ bs t h. h)) o.value c h s.said.value);
      aligned = omega arith;
      room = standing-room b (handle o.extent) (16 + padded (length o.name) + 24) o s (omega (arith, len));
      table = good.table;
      fits = good.fits;
      long = good.long;
      own = own-block current b d o c.table.extent k f shape.extents;
    }

-- And a change at this place gives the directory with the other value.
pub contents-changed : (old new : WindowState) (d : Directory) (key : Key) (o : Object) (w : Value) (c c' : Contents)
    → Denotes current old.bytes d → object_at d key ≡ Some o
    → contents_of o.value ≡ Some c → contents_of w ≡ Some c' → kind_of w ≡ kind_of o.value → IsTrue (has_values w)
    → RefillsContainer old new (container_place o) c c' → Denotes current new.bytes (changed d o w)
contents-changed old new d key o w c c' k e h h' kind values r =
    let s : IsObjectInBlock old.bytes (handle o.extent) o = standing old.bytes d key o k e in
    let f : IsIn d o = key-found current d key o k.directory e in
    let was : Shape o.value c = contents-shape o.value c h in let is : Shape w c' = contents-shape w c' h' in
    let good : IsTrue (is_object current (with_value o w)) = good-with current o w s.good kind (is.len ∙ sym was.len)
    (contents-good w c' h' r.stands.fits r.stands.table values) in
    let x : Exchange o (with_value o w) (option_to_list c.table.extent) (option_to_list c'.table.extent) =
    between o (with_value o w) [] (option_to_list c.table.extent) (option_to_list c'.table.extent) []
    (was.extents ∙ sym (append-nil (option_to_list c.table.extent))) (is.extents
    ∙ sym (append-nil (option_to_list c'.table.extent))) in
    let change : ExchangesBlocks current old new (value_start o) 24 (option_to_list c.table.extent)
    (option_to_list c'.table.extent) =
    subst (λ at. ExchangesBlocks current old new at 24 (option_to_list c.table.extent)
    (option_to_list c'.table.extent)) (sym (start-place o)) r.change in
    denotes-container current old new d o w (option_to_list c.table.extent) (option_to_list c'.table.extent) k f x kind
    (is.count ∙ sym was.count) was.len s.good good change (subst (λ at. IsValueAt (bytes_of new.bytes) at w)
    (sym (start-place o)) (value-said (bytes_of new.bytes) (place_at (container_place o)) w c' h' r.stands.words))

-- A call that changes a vector or text of an object is one step of the directory machine.

-- ---- a plan that allocates a block

-- the result of continuing with the block, if it was allocated; otherwise `NoSpace`
abbrev pub then_by : {A : Type 0} → (A → LiveSet) → Directory → (A → Plan) → Option A → Answer × Directory
then_by beside d next None = (Refused NoSpace, d)
then_by beside d next (Some a) = perform d (beside a) (next a)

-- an allocation that succeeds continues with its block
pub asked-met : {A : Type 0} (beside : A → LiveSet) (made : Extent → A) (d : Directory) (l : LiveSet) (next : A → Plan)
    → ((x : Extent) → resized l x ≡ beside (made x)) → (r : Option Extent) → elim r as (λ _. Answer × Directory)
    [ None ↦ (Refused NoSpace, d) | Some x ↦ perform d (resized l x) (next (made x)) ]
    ≡ then_by beside d next (option_map made r)
asked-met beside made d l next e None = refl
asked-met beside made d l next e (Some x) = ap (λ (m : LiveSet). perform d m (next (made x))) (e x)

-- the storage of this many places in a block
abbrev pub of_places : ℕ → Extent → BackingArray
of_places n x = record { capacity = n; extent = Some x }

-- a table with this many places or more
abbrev pub then_room : Directory → LiveSet → BackingArray → (BackingArray → Plan) → Option BackingArray
    → Answer × Directory
then_room d l t = then_by (with_array l t) d

abbrev grown_set : LiveSet → BackingArray → Bool → LiveSet
grown_set l u b = if b then elim u.extent as (λ _. LiveSet) [ None ↦ l | Some x ↦ resized l x ] else l

room-if : (d : Directory) (l : LiveSet) (each : ℕ) (t : BackingArray) (n : ℕ) (next : BackingArray → Plan) (b : Bool)
    → nat_le n t.capacity ≡ b
    → perform d l (if b then next t else Request (RegrownNeed t.extent (each * n)) (λ x. next (of_places n x)))
    ≡ then_room d l t next (if b then Some t else option_map (of_places n) (regrow l t.extent (each * n)))
room-if d l each t n next true h =
    ap (λ (b : Bool). perform d (grown_set l t b) (next t)) (sym (le-ltb t.capacity t.capacity (omega arith)))
room-if d l each t n next false h = asked-met (with_array l t) (of_places n) d l next (λ x i. grown_set l
    (of_places n x) (sym (lt-ltb t.capacity n (leb-false n t.capacity h)) i)) (regrow l t.extent (each * n))

-- a plan for a larger capacity, by the new storage
pub room-grown : (d : Directory) (l : LiveSet) (each : ℕ) (t : BackingArray) (n : ℕ) (next : BackingArray → Plan)
    → perform d l (with_capacity each n t next) ≡ then_room d l t next (grown_backing l each n t)
unfolding grown_backing
room-grown d l each t n next = room-if d l each t n next (nat_le n t.capacity) refl

-- ---- a directory

-- For a directory of the old bytes: the object of the key, its next value, the change of its blocks, and the result of
-- the command's plan.
pub record Refill (old new : WindowState) (d : Directory) (key : Key) (c : Command) (answer : Answer) : Type 0 where
  pub object : Object
  pub is : object_at d key ≡ Some object
  pub value : Value
  pub kind : kind_of value ≡ kind_of object.value
  pub was : Contents
  pub held : contents_of object.value ≡ Some was
  pub next : Contents
  pub holds : contents_of value ≡ Some next
  pub values : IsTrue (has_values value)
  pub change : RefillsContainer old new (container_place object) was next
  pub outcome : perform d (live d) (effect d c) ≡ (answer, changed d object value)

-- the plan allocates storage, and there is space or not
pub room-asked : (format : ℕ) (b : List ℕ) (d : Directory) (c : Command) (each n : ℕ) (t : BackingArray)
    (r : Option BackingArray)
    (next : BackingArray → Plan) → Denotes format b d → effect d c ≡ with_capacity each n t next
    → grown_backing (live_of b) each n t ≡ r → perform d (live d) (effect d c) ≡ then_room d (live d) t next r
room-asked format b d c each n t r next k e g = ap (perform d (live d)) e ∙ room-grown d (live d) each t n next
    ∙ ap (then_room d (live d) t next) (ap (λ l. grown_backing l each n t) (sym (denotes-live format b d k)) ∙ g)

-- the new bytes denote the directory with the next value
pub refill-moves : (s : SegmentState) (new : WindowState) (d : Directory) (key : Key) (c : Command) (answer : Answer)
    (next : Answer × Directory) → DenotesCurrent s.cut.bytes d → (r : Refill s.cut new d key c answer)
    → next ≡ perform d (live d) (effect d c) → IsMove (record s { cut = new }) answer next
refill-moves s new d key c answer next k r e = record {
  after = changed d r.object r.value;
  is = e ∙ r.outcome;
  stands = record {
    denotes = contents-changed s.cut new d key r.object r.value r.was r.next k.denotes r.is r.held r.holds r.kind
        r.values r.change;
  };
}

-- a plan that ends with an error
pub refused-steps : (s : SegmentState) (c : Command) (r : Refusal) → is_read_only s.mode ≡ false → ((d : Directory)
    → DenotesCurrent s.cut.bytes d → perform d (live d) (effect d c) ≡ (Refused r, d)) → TakesStep s s c (Refused r)
refused-steps s c r writing each =
    by_no_change s c (Refused r) (λ d k. step-effect s.mode d c (open-writing s.mode c writing) ∙ each d k)

-- ---- the search

-- the cases of a key: no object, an object of another kind, or an object of the kind
pub by-kind : (d : Directory) (key : Key) (kind : Kind) {P : Type 0} → (object_at d key ≡ None → P)
    → ((o : Object) → object_at d key ≡ Some o → same_kind kind (kind_of o.value) ≡ false → P)
    → ((o : Object) → object_at d key ≡ Some o → same_kind kind (kind_of o.value) ≡ true → P) → P
by-kind d key kind {P} none other of-kind = found (object_at d key) refl
  where
    is : (o : Object) (b : Bool) → object_at d key ≡ Some o → same_kind kind (kind_of o.value) ≡ b → P
    is o true e f = of-kind o e f
    is o false e f = other o e f

    found : (r : Option Object) → object_at d key ≡ r → P
    found None e = none e
    found (Some o) e = is o (same_kind kind (kind_of o.value)) e refl

-- a function of the object if it has the kind
abbrev pub told_if : {A : Type 0} → Directory → Key → Kind → (Object → Result A Refusal) → Result A Refusal
told_if {A} d key kind say = elim (object_at d key) as (λ _. Result A Refusal) [
  | None ↦ Err NotFound
  | Some o ↦ if same_kind kind (kind_of o.value) then say o else Err WrongKind
]

-- a function of an object that does not exist fails
pub told-none : {A : Type 0} (d : Directory) (key : Key) (kind : Kind) (say : Object → Result A Refusal)
    → object_at d key ≡ None → told_if d key kind say ≡ Err NotFound
told-none {A} d key kind say e = ap (λ (r : Option Object). elim r as (λ _. Result A Refusal) [
  | None ↦ Err NotFound
  | Some o ↦ if same_kind kind (kind_of o.value) then say o else Err WrongKind
]) e

-- a function of an object of the kind
pub told-some : {A : Type 0} (d : Directory) (key : Key) (kind : Kind) (say : Object → Result A Refusal) (o : Object)
    (b : Bool) → object_at d key ≡ Some o → same_kind kind (kind_of o.value) ≡ b
    → told_if d key kind say ≡ (if b then say o else Err WrongKind)
told-some {A} d key kind say o b e f = ap (λ (r : Option Object). elim r as (λ _. Result A Refusal) [
  | None ↦ Err NotFound
  | Some o ↦ if same_kind kind (kind_of o.value) then say o else Err WrongKind
]) e ∙ ap (λ (t : Bool). let r : Result A Refusal = if t then say o else Err WrongKind in r) f

-- equal errors have equal reasons
pub same_Err : {A : Type 0} (x y : Refusal) → (let r : Result A Refusal = Err x in r) ≡ Err y → x ≡ y
same_Err x y e = cc

-- a success is no error
pub not-Err : {A P : Type 0} (a : A) (x : Refusal) → (let r : Result A Refusal = Ok a in r) ≡ Err x → P
not-Err a x e = absurd (cc)

-- the object of the key is at the place, and has the kind
pub record HoldsAt (d : Directory) (key : Key) (kind : Kind) (p : Place) : Type 0 where
  pub object : Object
  pub is : object_at d key ≡ Some object
  pub same : same_kind kind (kind_of object.value) ≡ true
  pub at : container_place object ≡ p

-- the place of an object's container, or an error
abbrev pub placed : Object → Result Place Refusal
placed o = Ok (container_place o)

-- the object at the place is of the kind
pub holds-at : (d : Directory) (key : Key) (kind : Kind) (p : Place) → Ok p ≡ container_at d key kind
    → HoldsAt d key kind p
holds-at d key kind p e = by-kind d key kind (λ f. not-Err p NotFound (e ∙ told-none d key kind placed f))
    (λ o f g. not-Err p WrongKind (e ∙ told-some d key kind placed o false f g)) (λ o f g. let h : Ok p ≡ placed o = e
    ∙ told-some d key kind placed o true f g in record { object = o; is = f; same = g; at = cc })

-- and why every call for the kind is refused
pub finds-no_container : (s : SegmentState) (key : Key) (kind : Kind) (c : Command) (r : Refusal) → IsOpenFor s.mode c
    → AnswersWith s (λ d. container_at d key kind) (Err r) → TakesStepOfKind s s key kind c (Refused r)
finds-no_container s key kind c r w a = by_no_change_of_kind s key kind c (Refused r) (λ d l. by-kind d key kind
    (λ f. step_of_kind-not_found s.mode d key kind c w f
    ∙ (λ i. (Refused (sym (same_Err r NotFound (a.answers d l ∙ told-none d key kind placed f)) i), d)))
    (λ o f g. step_of_kind-other s.mode d key kind c o w f g
    ∙ (λ i. (Refused (sym (same_Err r WrongKind (a.answers d l ∙ told-some d key kind placed o false f g)) i), d)))
    (λ o f g. not-Err (container_place o) r (sym (a.answers d l ∙ told-some d key kind placed o true f g))))

-- ---- the call

-- a call for objects of one kind is the step, if it changes the key's object in this way
pub refill-steps_of_kind : (s : SegmentState) (new : WindowState) (key : Key) (kind : Kind) (p : Place)
    → AnswersWith s (λ d. container_at d key kind) (Ok p) → (c : Command) (answer : Answer) → is_read_only s.mode
    ≡ false → IsSegment s.cut.bytes → ((d : Directory) → DenotesCurrent s.cut.bytes d → Refill s.cut new d key c answer)
    → TakesStepOfKind s (record s { cut = new }) key kind c answer
refill-steps_of_kind s new key kind p found c answer writing b each = by_step_of_kind s (record s { cut = new }) key
    kind c answer (record { mode = refl; place = (each b.0 b.1).change.change.place }) (λ d l.
    let r : Refill s.cut new d key c answer = each d l in
    let h : HoldsAt d key kind p = holds-at d key kind p (found.answers d l) in
    let same : h.object ≡ r.object = same_Some h.object r.object (sym h.is ∙ r.is) in
    refill-moves s new d key c answer (step_of_kind s.mode d key kind c) l r
    (step_of_kind-found s.mode d key kind c r.object (open-writing s.mode c writing) r.is
    (ap (λ (o : Object). same_kind kind (kind_of o.value)) (sym same) ∙ h.same)))

-- ---- two commands with one plan

same-step : (mode : Mode) (d : Directory) (c c' : Command) → is_changing c ≡ is_changing c' → effect d c ≡ effect d c'
    → step mode d c ≡ step mode d c'
unfolding step
same-step mode d c c' e f = λ i. perform d (live d) (if is_read_only mode && e i then Refuse ReadOnly else f i)

-- a step of one command is a step of the other
pub same_plan-steps : (old new : SegmentState) (c c' : Command) (answer : Answer) → is_changing c ≡ is_changing c'
    → ((d : Directory) → DenotesCurrent old.cut.bytes d → effect d c ≡ effect d c')
    → TakesStep old new c' answer → TakesStep old new c answer
same_plan-steps old new c c' answer e each = moves-same old new answer (λ d. step old.mode d c')
    (λ d. step old.mode d c) (λ d l. sym (same-step old.mode d c c' e (each d l)))

-- A call on a vector of numbers or on a text is one step: the contracts of seg_vector for the elements at its place
-- give the next directory.

-- ---- values of the kind of a vector

-- a code is of one kind
pub one-kind : (a b : Kind) → same_kind a b ≡ true → a ≡ b
one-kind a b e = same_Some a b (sym (code-read a) ∙ ap kind_of_code (eqb-true (code_of a) (code_of b) e) ∙ code-read b)

vector-if : (k : ScalarKind) (v : Value) → Vector k ≡ kind_of v
    → (zs : List ℤ) × ((t : BackingArray) × (v ≡ Elements k zs t))
vector-if k (Elements l zs t) e = let same : l ≡ k = cc in (zs, (t, λ i. Elements (same i) zs t))
vector-if k v e = absurd (cc)

-- the value is a vector of such numbers
pub vector-only : (k : ScalarKind) (v : Value) → same_kind (Vector k) (kind_of v) ≡ true
    → (zs : List ℤ) × ((t : BackingArray) × (v ≡ Elements k zs t))
vector-only k v e = vector-if k v (one-kind (Vector k) (kind_of v) e)

-- ---- values that are elements in storage

-- A kind of list: the kind of its elements, their length, their encoding, the good lists, and the other definitions for
-- such a value.
pub record Listing (A : Type 0) : Type 0 where
  pub kind : Kind
  pub each : ℕ
  pub spell : List A → List ℕ
  pub good : List A → Bool
  pub value : List A → BackingArray → Value
  pub only : (v : Value) → same_kind kind (kind_of v) ≡ true → IsTrue (is_good_value v)
      → (xs : List A) × ((t : BackingArray) × (v ≡ value xs t))
  pub of_kind : (xs : List A) (t : BackingArray) → kind_of (value xs t) ≡ kind
  pub held : (xs : List A) (t : BackingArray)
      → contents_of (value xs t) ≡ Some (record { each = each; len = length xs; table = t; bytes = spell xs })
  pub values : (xs : List A) (t : BackingArray) → has_values (value xs t) ≡ good xs

-- the object of the key is such a value, at this place
pub record HoldsItems {A : Type 0} (L : Listing A) (b : List ℕ) (d : Directory) (key : Key) (p : Place) : Type 0 where
  pub object : Object
  pub is : object_at d key ≡ Some object
  pub items : List A
  pub table : BackingArray
  pub value : object.value ≡ L.value items table
  pub at : container_place object ≡ p
  pub stands : IsContainer b p L.each (length items) table (L.spell items)
  pub values : IsTrue (L.good items)

-- these elements with the table u replace those with the table t
pub record ListedNow {A : Type 0} (L : Listing A) (old new : WindowState) (p : Place) (t : BackingArray) (xs : List A)
    (u : BackingArray) : Type 0 where
  pub change : ExchangesBlocks current old new (place_at p) 24 (option_to_list t.extent) (option_to_list u.extent)
  pub stands : IsContainer new.bytes p L.each (length xs) u (L.spell xs)
  pub values : IsTrue (L.good xs)

-- they have n places, or more
pub record ListedGrown {A : Type 0} (L : Listing A) (old new : WindowState) (p : Place) (t : BackingArray) (n : ℕ)
    (xs : List A) : Type 0 where
  pub table : BackingArray
  pub grown : grown_backing (live_of old.bytes) L.each n t ≡ Some table
  pub now : ListedNow L old new p t xs table

module _ {A : Type 0} (L : Listing A) where
  abbrev items_in : List A → BackingArray → Contents
  items_in xs t = record { each = L.each; len = length xs; table = t; bytes = L.spell xs }

  -- the object that the search found
  pub holds-items : (b : List ℕ) (d : Directory) (key : Key) (p : Place) → Denotes current b d
      → Ok p ≡ container_at d key L.kind → HoldsItems L b d key p
  holds-items b d key p den e =
      let h : HoldsAt d key L.kind p = holds-at d key L.kind p e in let o : Object = h.object in
      let s : IsObjectInBlock b _ o = standing b d key o den h.is in
      let good : IsTrue (is_good_value o.value) = (object-roomy current o s.good).value in
      let v : (xs : List A) × ((t : BackingArray) × (o.value ≡ L.value xs t)) = L.only o.value h.same good in
      let held : contents_of o.value ≡ Some (items_in v.0 v.1.0) = ap contents_of v.1.1 ∙ L.held v.0 v.1.0 in
      let fits : IsTrue (has_values o.value) = (contents-fit o.value (items_in v.0 v.1.0) held good).values in
      record {
        object = o;
        is = h.is;
        items = v.0;
        table = v.1.0;
        value = v.1.1;
        at = h.at;
        stands = subst (λ q. IsContainer b q L.each (length v.0) v.1.0 (L.spell v.0)) h.at
            (contents-stand b d key o (items_in v.0 v.1.0) den h.is held);
        values = subst (λ (g : Bool). IsTrue g) (ap has_values v.1.1 ∙ L.values v.0 v.1.0) fits;
      }

-- ---- one directory

module _ {A : Type 0} {L : Listing A} (old new : WindowState) {d : Directory} {key : Key} {p : Place}
    (den : Denotes current old.bytes d) (h : HoldsItems L old.bytes d key p) where
  -- the directory with other elements and places in the object
  abbrev pub with_elements : List A → BackingArray → Directory
  with_elements xs t = changed d h.object (L.value xs t)

  -- the bytes denote it
  pub items-denote : (xs : List A) (u : BackingArray) → ListedNow L old new p h.table xs u
      → Denotes current new.bytes (with_elements xs u)
  items-denote xs u now = contents-changed old new d key h.object (L.value xs u) (items_in L h.items h.table)
      (items_in L xs u) den h.is (ap contents_of h.value ∙ L.held h.items h.table) (L.held xs u)
      (L.of_kind xs u ∙ sym (ap kind_of h.value ∙ L.of_kind h.items h.table))
      (subst (λ (g : Bool). IsTrue g) (sym (L.values xs u)) now.values)
      (subst (λ q. RefillsContainer old new q (items_in L h.items h.table) (items_in L xs u)) (sym h.at)
      (record { change = now.change; stands = now.stands }))

  -- the object has others now
  items-refill : (xs : List A) (u : BackingArray) (c : Command) (answer : Answer) → perform d (live d) (effect d c)
      ≡ (answer, with_elements xs u) → ListedNow L old new p h.table xs u → Refill old new d key c answer
  items-refill xs u c answer outcome now = record {
    object = h.object;
    is = h.is;
    value = L.value xs u;
    kind = L.of_kind xs u ∙ sym (ap kind_of h.value ∙ L.of_kind h.items h.table);
    was = items_in L h.items h.table;
    held = ap contents_of h.value ∙ L.held h.items h.table;
    next = items_in L xs u;
    holds = L.held xs u;
    values = subst (λ (g : Bool). IsTrue g) (sym (L.values xs u)) now.values;
    change = subst (λ q. RefillsContainer old new q (items_in L h.items h.table) (items_in L xs u)) (sym h.at)
        (record { change = now.change; stands = now.stands });
    outcome = outcome;
  }

  -- the elements within the capacity, or fewer
  pub items-now : (xs : List A) (u : BackingArray) (c : Command) (answer : Answer) → effect d c
      ≡ Reply answer (with_elements xs u) → ListedNow L old new p h.table xs u → Refill old new d key c answer
  items-now xs u c answer e now = items-refill xs u c answer (ap (perform d (live d)) e) now

  -- in n places, or more
  pub items-grown : (xs : List A) (n : ℕ) (c : Command) (answer : Answer) → effect d c ≡ with_capacity L.each n h.table
      (λ u. Reply answer (with_elements xs u)) → ListedGrown L old new p h.table n xs → Refill old new d key c answer
  items-grown xs n c answer e r = items-refill xs r.table c answer (room-asked current old.bytes d c L.each n h.table
      (Some r.table) (λ u. Reply answer (with_elements xs u)) den e r.grown) r.now

-- ---- all directories

module _ {A : Type 0} (L : Listing A) (s : SegmentState) (key : Key) (p : Place) (b : IsSegment s.cut.bytes)
    (found : AnswersWith s (λ d. container_at d key L.kind) (Ok p)) where
  abbrev Held : Directory → Type 0
  Held d = HoldsItems L s.cut.bytes d key p

  -- the items of the object are the items in the bytes
  pub found-items : (d : Directory) → DenotesCurrent s.cut.bytes d → Held d
  found-items d l = holds-items L s.cut.bytes d key p l.denotes (found.answers d l)

  -- there are items at the place
  pub some-items : Held b.0
  some-items = found-items b.0 b.1

  -- The call is the step, if it changes the object in this way for each directory.
  pub items-steps : (new : WindowState) (c : Command) (answer : Answer) → is_read_only s.mode ≡ false
      → ((d : Directory) → Denotes current s.cut.bytes d → Held d → Refill s.cut new d key c answer)
      → TakesStepOfKind s (record s { cut = new }) key L.kind c answer
  items-steps new c answer writing each =
      refill-steps_of_kind s new key L.kind p found c answer writing b (λ d l. each d l.denotes (found-items d l))

  -- the call has this answer, and nothing changes
  pub items-stay : (c : Command) (answer : Answer) → (is_read_only s.mode && is_changing c) ≡ false
      → ((d : Directory) → Denotes current s.cut.bytes d → Held d → perform d (live d) (effect d c) ≡ (answer, d))
      → TakesStepOfKind s s key L.kind c answer
  items-stay c answer may each = by_no_change_of_kind s key L.kind c answer (λ d l.
      let h : HoldsAt d key L.kind p = holds-at d key L.kind p (found.answers d l) in
      step_of_kind-found s.mode d key L.kind c h.object may h.is h.same ∙ each d l.denotes (found-items d l))

  module _ (new : WindowState) (writing : is_read_only s.mode ≡ false) where
    -- the call fails, and nothing has changed
    pub items-refused : (c : Command) (e why : Refusal) → e ≡ why → new ≡ s.cut
        → ((d : Directory) → Denotes current s.cut.bytes d → Held d
        → perform d (live d) (effect d c) ≡ (Refused why, d)) → StepsSafely s new key L.kind c (Err e)
    items-refused c e why is same each =
        stays s new key L.kind c e why is same (items-stay c (Refused why) (open-writing s.mode c writing) each)

    -- there is no space for a capacity of n
    pub items-full : (c : Command) (n : ℕ) (xs : List A) (d : Directory) → Denotes current s.cut.bytes d → (h : Held d)
        → effect d c ≡ with_capacity L.each n h.table (λ u. Reply Done (changed d h.object (L.value xs u)))
        → grown_backing (live_of s.cut.bytes) L.each n h.table ≡ None
        → perform d (live d) (effect d c) ≡ (Refused NoSpace, d)
    items-full c n xs d den h e none = room-asked current s.cut.bytes d c L.each n h.table None
        (λ u. Reply Done (changed d h.object (L.value xs u))) den e none

    -- a call on the element at an index, within the capacity
    pub changes-safely : (c : Command) (i : ℕ) (ys : List A → List A) (r : Result (Unit {0}) Refusal)
        → ((d : Directory) (h : Held d) → i < length h.items → effect d c ≡ Reply Done (changed d h.object
        (L.value (ys h.items) h.table))) → ((d : Directory) (h : Held d) → length h.items ≤ i → effect d c ≡ Refuse
        OutOfRange) → ((d : Directory) (h : Held d) → MatchResult r (λ u. (i < length h.items) × ListedNow L s.cut new p
        h.table (ys h.items) h.table) (RefusesIndex s.cut new (length h.items) i)) → StepsSafely s new key L.kind c r
    changes-safely c i ys (Ok u) met past each = done-so (items-steps new c Done writing
        (λ d den h. items-now s.cut new den h (ys h.items) h.table c Done (met d h (each d h).0) (each d h).1))
    changes-safely c i ys (Err e) met past each = items-refused c e OutOfRange (each b.0 some-items).refusal
        (each b.0 some-items).same (λ d den h. ap (perform d (live d)) (past d h (each d h).outside))

    -- a call that wants places
    pub grows-safely : (c : Command) (n : List A → BackingArray → ℕ) (ys : List A
        → List A) (r : Result (Unit {0}) Refusal)
        → ((d : Directory) (h : Held d) → effect d c ≡ with_capacity L.each (n h.items h.table) h.table
        (λ u. Reply Done (changed d h.object (L.value (ys h.items) u)))) → ((d : Directory) (h : Held d)
        → MatchResult r (λ u. ListedGrown L s.cut new p h.table (n h.items h.table) (ys h.items))
        (LacksSpace s.cut new L.each (n h.items h.table) h.table)) → StepsSafely s new key L.kind c r
    grows-safely c n ys (Ok u) plan each = done-so (items-steps new c Done writing
        (λ d den h. items-grown s.cut new den h (ys h.items) (n h.items h.table) c Done (plan d h) (each d h)))
    grows-safely c n ys (Err e) plan each =
        items-refused c e NoSpace (each b.0 some-items).refusal (each b.0 some-items).same
        (λ d den h. items-full c (n h.items h.table) (ys h.items) d den h (plan d h) (each d h).none)

-- a property after a success, in other words
pub so-too : (P Q : Type 0) (F : Refusal → Type 0) (r : Result (Unit {0}) Refusal) → MatchResult r (λ u. P) F → (P → Q)
    → MatchResult r (λ u. Q) F
so-too P Q F (Ok u) m f = f m
so-too P Q F (Err e) m f = m

-- A call on any object with storage: the kind of the key's object decides which call it is.

-- the object of the key, which is of the kind
pub record IsOfKindAt (d : Directory) (key : Key) (kind : Kind) : Type 0 where
  pub object : Object
  pub is : object_at d key ≡ Some object
  pub kind_is : kind_of object.value ≡ kind

told-if : (d : Directory) (key : Key) (kind : Kind) (r : Option Object) → object_at d key ≡ r → Ok kind ≡ elim r as
    (λ _. Result Kind Refusal) [ None ↦ Err NotFound | Some o ↦ Ok (kind_of o.value) ] → IsOfKindAt d key kind
told-if d key kind None e f = absurd (cc)
told-if d key kind (Some o) e f =
    let same : kind_of o.value ≡ kind = cc in record { object = o; is = e; kind_is = same }

-- the kind in the result is the object's
pub kind-told : (d : Directory) (key : Key) (kind : Kind) → Ok kind ≡ kind_at d key → IsOfKindAt d key kind
kind-told d key kind e = told-if d key kind (object_at d key) refl e

-- no object has the key: then the call is refused as the command is
pub nowhere-steps : (s : SegmentState) (key : Key) (why : Refusal) (c : Command) → is_read_only s.mode ≡ false
    → IsMissing s key why
    → ((d : Directory) → object_at d key ≡ None → effect d c ≡ Refuse NotFound) → TakesStep s s c (Refused why)
nowhere-steps s key why c writing m none = refused-steps s c why writing
    (λ d l. ap (perform d (live d)) (none d (m.missing d l)) ∙ (λ i. (Refused (sym m.is i), d)))

-- the step of the kind is the command's
pub of_kind-same : (mode : Mode) (d : Directory) (key : Key) (kind : Kind) (c : Command) → IsOfKindAt d key kind
    → step_of_kind mode d key kind c ≡ step mode d c
of_kind-same mode d key kind c e = step_of_kind-step mode d key kind c e.object e.is
    (eq-eqb (code_of kind) (code_of (kind_of e.object.value)) (ap code_of (sym e.kind_is)))

-- a step of the object's kind is a step of the command
pub of_kind-steps : (old new : SegmentState) (key : Key) (kind : Kind) (c : Command) (answer : Answer)
    → AnswersWith old (λ d. kind_at d key) (Ok kind) → TakesStepOfKind old new key kind c answer
    → TakesStep old new c answer
of_kind-steps old new key kind c answer a r = moves-same old new answer (λ d. step_of_kind old.mode d key kind c)
    (λ d. step old.mode d c) (λ d k. of_kind-same old.mode d key kind c (kind-told d key kind (a.answers d k))) r

-- the object has no storage
pub change-other : (change : Change) (s : SegmentState) (key : Key) (kind : Kind) → is_read_only s.mode ≡ false
    → has_storage kind ≡ false → AnswersWith s (λ d. kind_at d key) (Ok kind)
    → TakesStep s s (command_of change key) (Refused WrongKind)
change-other change s key kind writing h a = refused-steps s (command_of change key) WrongKind writing (λ d l.
    let e : IsOfKindAt d key kind = kind-told d key kind (a.answers d l) in
    ap (perform d (live d))
    (change-refused change d key e.object e.is (no-storage e.object.value (ap has_storage e.kind_is ∙ h))))

-- Elements that one call appends to a vector: the result in each directory.

-- ---- the plan

-- the plan for the object of a key
abbrev pub of_object : Directory → ScalarKind → List ℤ → Object → Plan
of_object d k more o = if same_kind (Vector k) (kind_of o.value) then extend d o o.value more else Refuse WrongKind

module _ (mode : Mode) (d : Directory) (key : Key) (k : ScalarKind) (more : List ℤ) where
  -- extending a vector of a segment that is only read is refused
  pub extended-reading : is_read_only mode ≡ true → extended mode d key k more ≡ (Refused ReadOnly, d)
  extended-reading e =
      ap (λ b. perform d (live d) (if b then Refuse ReadOnly else with (found_at d key) (of_object d k more))) e

  module _ (e : is_read_only mode ≡ false) where
    plan-is : {p : Plan} → with (found_at d key) (of_object d k more) ≡ p
        → extended mode d key k more ≡ perform d (live d) p
    plan-is f = λ i. perform d (live d) (if e i then Refuse ReadOnly else f i)

    of-kind : (o : Object) (b : Bool) → object_at d key ≡ Some o → same_kind (Vector k) (kind_of o.value) ≡ b
        → extended mode d key k more ≡ perform d (live d) (if b then extend d o o.value more else Refuse WrongKind)
    of-kind o b f g = plan-is (with-found d key o (of_object d k more) f
        ∙ ap (λ c. if c then extend d o o.value more else Refuse WrongKind) g)

    -- a vector of the kind
    pub extended-found : (o : Object) → object_at d key ≡ Some o → (ns : List ℤ) (t : BackingArray)
        → o.value ≡ Elements k ns t → extended mode d key k more ≡ perform d (live d) (with_capacity (size_of k)
        (capacity_for_more (length ns) (length more) t.capacity) t
        (λ u. Reply Done (changed d o (Elements k (ns ++ more) u))))
    extended-found o f ns t value = of-kind o true f
        (ap (λ v. same_kind (Vector k) (kind_of v)) value ∙ eq-eqb (code_of (Vector k)) (code_of (Vector k)) refl)
        ∙ ap (λ v. perform d (live d) (extend d o v more)) value

    -- or there is no such vector
    pub extended-missing : (why : Refusal) → Err why ≡ container_at d key (Vector k)
        → extended mode d key k more ≡ (Refused why, d)
    extended-missing why a = by-kind d key (Vector k) (λ f. plan-is (with-not_found d key (of_object d k more) f)
        ∙ (λ i. (Refused (sym (same_Err why NotFound (a ∙ told-none d key (Vector k) placed f)) i), d)))
        (λ o f g. of-kind o false f g
        ∙ (λ i. (Refused (sym (same_Err why WrongKind (a ∙ told-some d key (Vector k) placed o false f g)) i), d)))
        (λ o f g. not-Err (common.container_place o) why (sym (a ∙ told-some d key (Vector k) placed o true f g)))

-- its places
pub extended-room : {b : List ℕ} (d : Directory) → Denotes current b d → (k : ScalarKind) (n : ℕ) (t : BackingArray)
    (next : BackingArray → Plan) (r : Option BackingArray) → grown_backing (live_of b) (size_of k) n t ≡ r
    → perform d (live d) (with_capacity (size_of k) n t next) ≡ then_room d (live d) t next r
extended-room {b} d den k n t next r g = room-grown d (live d) (size_of k) t n next ∙ ap (then_room d (live d) t next)
    (ap (λ l. grown_backing l (size_of k) n t) (sym (denotes-live current b d den)) ∙ g)

-- ---- the segment

-- the effect of the call
abbrev pub VectorExtended : SegmentState → SegmentState → WindowState → Key → ScalarKind → List ℤ
    → Result (Unit {0}) Refusal → Type 0
VectorExtended s t new key k more r = Performed s t new (λ mode d. extended mode d key k more) r

-- a refused extension leaves the segment
pub extended-stays : (s : SegmentState) (key : Key) (k : ScalarKind) (more : List ℤ) (why : Refusal)
    → ((d : Directory) → DenotesCurrent s.cut.bytes d → extended s.mode d key k more ≡ (Refused why, d))
    → ExtendsVector s s key k more (Refused why)
extended-stays s key k more why each = by_same (λ d. extended s.mode d key k more) each
