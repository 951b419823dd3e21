-- The key of a new object that gets an entry.
use Rattle.segment_manager.proofs.Common as common
use Rattle.seg_types.specs.Names as names
use Rattle.seg_index.specs.declared.index.Index.TheVariants as index
use Rattle.seg_types.specs.Commands as asked
use Rattle.best_fit.proofs.Laws.{AllByRecursion-insert}
use Rattle.seg_index.proofs.Laws.{ObjectStays, belongs-at, keeps-sorted, place_behind, place_small, stays-trans}
use Rattle.seg_index.specs.{Growth.grown_live, Sorted.BelongsAt, Sorted.IsKeyOf}
use Rattle.segment_manager.proofs.directory.AnyDirectory.{denotes-kept, denotes-live, perform-new, perform-no_space}
use Rattle.segment_manager.proofs.directory.LiveSet.{adding, live-rises, resized-fresh, rising-insert}
use Rattle.segment_manager.proofs.indexes.Bridge.{denotes-index, denotes-sorted, entry-added, lookup-absent, seeks-sort}
use Rattle.segment_manager.proofs.indexes.OtherTables.{IsEntered, entered-denotes, entered-none, entered-some}
use Rattle.segment_manager.proofs.indexes.OtherTables.{grown_into, key_in, same-table}
use Rattle.segment_manager.proofs.objects.Exchanged.{IsMade, IsTaken, empty-taken, growth-index, growth-stays, made-key}
use Rattle.segment_manager.proofs.objects.Exchanged.{made-object, made-stays, made-taken, placed-next, restored-taken}
use Rattle.segment_manager.proofs.objects.Exchanged.{taken-growth, taken-index}
use Rattle.segment_manager.proofs.objects.{Heads.name-short, Heads.object-entry, KindCodes.known-kind}
use Rattle.segment_manager.proofs.{blocks.NewBlocks.allocated-serves, directory.Frame.denotes-with}
use Rattle.segment_manager.proofs.{directory.Frame.handles-length, indexes.Indexes.same-itself}
use Rattle.segment_manager.specs.objects.PendingObjects.{AddsPendingEntry, BeginsAnonymous, BeginsEntryOk, GivesAllBack}
use Rattle.segment_manager.specs.objects.PendingObjects.{IsReadyFor, IsReadyForEntry}
use Rattle.segment_manager.specs.{containers.Filled.IsDenied, containers.Filled.IsGiven, objects.NewObjects.FindsNone}
use common.{Absent, AddKeeps, AddsEntry, AllocatesOk, Anonymous, BackingArray, BeginsObjectOk, Bool, ChangesBytes}
use common.{Class, Code, Content, Denotes, DenotesCurrent, Directory, EncodesLiveSet, Entry, Extent, FindsPosition}
use common.{Index, IndexRole, IsAbsentAt, IsEntry, IsIndexOf, IsNewKeyOf, IsSegment, IsTrue, KeepsBlocks, Kind}
use common.{LeadsThere, List, LiveSet, MakesValueErr, MakesValueOk, Memory, Name, Named, New, NoSpace, None, Numbers}
use common.{Object, ObjectRole, Option, PendingEntry, Plan, PreparesOk, Refusal, Refused, Request, RequestsBlocksOk}
use common.{RestoresBlocks, Role, SameSurroundings, SameSurroundings-trans, Scalar, ScalarKind, Seeks, Some, Unique}
use common.{Value, WindowState, WritesObjectHeader, WritesUnindexedObject, [], added, allocated-live, and_from, ap}
use common.{arith, bare, bytes_of, class_of, class_of_index, code_of, count_of, current, entries_of, entry_count}
use common.{eq-eqb, extents_of, find, grown_bytes, grown_capacity, handle, has_good_name, has_key, head_len}
use common.{if◌then◌else◌, index_at, inl, inr, insert, is_good_value, is_kind_of, is_name, is_object, is_proper}
use common.{is_text_name, is_value, keeps-trans, kind_of, laid-heap, le-leb, le-ltb, length, length-replicate, list_all}
use common.{live, live_of, lt-ltb, name_of, nat_le, object_at, object_len, objects_of, padded, perform, place}
use common.{placed_is_proper, prepared, refl, replicate, resized, room_for, same_bytes, serves, subst, suc, sym}
use common.{table_of, true, value_extents, value_len, with_entry, with_new_index, with_new_object, with_object}
use common.{with_spare_entry, with_table_of, with_value, zero, ℕ, ℤ, ◌&&◌, ◌*◌, ◌+◌, ◌<◌, ◌==◌, ◌∙◌, ◌∷◌, ◌≡◌, ◌≤◌}

-- ---- numbers

-- equal numbers pass a test alike
all-replicate : (t : ℤ → Bool) (n : ℕ) (z : ℤ) → IsTrue (t z) → IsTrue (list_all t (replicate n z))
all-replicate t zero z h = refl
all-replicate t (suc n) z h = and_from (t z) (list_all t (replicate n z)) h (all-replicate t n z h)

-- as many numbers of the kind as an object can have
pub numbers-value : (k : ScalarKind) (zs : List ℤ) → 1 ≤ length zs → length zs ≤ 1048576
    → IsTrue (list_all (is_value k) zs) → IsTrue (is_good_value (Numbers k zs))
numbers-value k zs low high all = and_from (nat_le 1 (length zs) && nat_le (length zs) 1048576) (list_all (is_value k)
    zs) (and_from (nat_le 1 (length zs)) (nat_le (length zs) 1048576) (le-leb 1 (length zs) low) (le-leb (length zs)
    1048576 high)) all

-- this many equal values are a good value
pub equal-good : (k : ScalarKind) (n : ℕ) (z : ℤ) → 1 ≤ n → n ≤ 1048576 → IsTrue (is_value k z)
    → IsTrue (is_good_value (Numbers k (replicate n z)))
equal-good k n z low high h =
    let long = length-replicate n z in
    numbers-value k (replicate n z) (omega (arith, long)) (omega (arith, long)) (all-replicate (is_value k) n z h)

-- the names in keys are names of the format
pub text-is_name : (name : List ℕ) → is_text_name name ≡ true → IsTrue (is_name current name)
unfolding current
text-is_name name h = h

-- ---- the parts of a key

-- an object of a value under a name, of the class of an index
abbrev pub object_of : Index → List ℕ → Value → Extent → Object
object_of i name v x = record { class = class_of_index i; name = name; value = v; extent = x }

-- the class of a new key is its index's
pub key-class : (i : Index) (e : Entry) (key : names.Key) (name : List ℕ) (kind : Kind) → IsNewKeyOf i e key name kind
    → class_of key ≡ class_of_index i
key-class Named (Name s) (names.ByName n) name kind h = refl
key-class Unique (Code c) (names.ByKind u) name kind h = refl
key-class i e key name kind h = absurd h

-- the name of a new key is the entry's
pub key-name : (i : Index) (e : Entry) (key : names.Key) {name : List ℕ} (kind : Kind) → IsNewKeyOf i e key name kind
    → name_of key ≡ name
key-name Named (Name s) (names.ByName n) kind h = sym h.1
key-name Unique (Code c) (names.ByKind u) kind h = sym h.1
key-name i e key kind h = absurd h

-- a new key is searched for in its index
pub key-seeks : (i : Index) (e : Entry) (key : names.Key) (name : List ℕ) (kind : Kind) → IsNewKeyOf i e key name kind
    → Seeks i e key
key-seeks Named (Name s) (names.ByName n) name kind h = h.0
key-seeks Unique (Code c) (names.ByKind u) name kind h = h.0
key-seeks i e key name kind h = absurd h

-- an object of the name and the kind has the sort key
pub key-of : (i : Index) (e : Entry) (key : names.Key) {m : Memory} (name : List ℕ) (o : Object)
    → IsNewKeyOf i e key name (kind_of o.value) → o.name ≡ name → IsEntry m o → IsKeyOf e m (handle o.extent)
key-of Named (Name s) (names.ByName n) name o h is a = a.name ∙ is ∙ h.1 ∙ sym h.0
key-of Unique (Code c) (names.ByKind u) name o h is a = a.code ∙ sym (h.0 ∙ ap code_of h.2)
key-of i e key name o h is a = absurd h

-- its name is short
pub key-short : (i : Index) (e : Entry) (key : names.Key) (name : List ℕ) (kind : Kind) → IsNewKeyOf i e key name kind
    → length name ≤ 255
key-short Named (Name s) (names.ByName n) name kind h =
    name-short current name (subst (λ bs. IsTrue (is_name current bs)) (sym h.1) h.2)
key-short Unique (Code c) (names.ByKind u) name kind h =
    let l : length name ≡ 0 = ap (λ (bs : List ℕ). length bs) h.1 in omega arith
key-short i e key name kind h = absurd h

-- an object with the key
pub key-has : (i : Index) (e : Entry) (key : names.Key) (name : List ℕ) (v : Value) (x : Extent)
    → IsNewKeyOf i e key name (kind_of v) → has_key key (object_of i name v x) ≡ true
key-has Named (Name s) (names.ByName n) name v x h = ap (same_bytes n) h.1 ∙ same-itself n
key-has Unique (Code c) (names.ByKind u) name v x h = eq-eqb (code_of u) (code_of (kind_of v)) (ap code_of h.2)
key-has i e key name v x h = absurd h

-- a new key is its object's own
pub key-own : (i : Index) (e : Entry) (key : names.Key) (name : List ℕ) (v : Value) (d : Directory) (x : Extent)
    → IsNewKeyOf i e key name (kind_of v) → object_at d key ≡ None
    → object_at d (key_in i (object_of i name v x)) ≡ None
key-own Named (Name s) (names.ByName n) name v d x h none = ap (λ bs. object_at d (names.ByName bs)) h.1 ∙ none
key-own Unique (Code c) (names.ByKind u) name v d x h none =
    ap (λ (w : Kind). object_at d (names.ByKind w)) (sym h.2) ∙ none
key-own i e key name v d x h none = absurd h

key-good_name : (i : Index) (e : Entry) (key : names.Key) (name : List ℕ) (v : Value) (x : Extent)
    → IsNewKeyOf i e key name (kind_of v) → IsTrue (has_good_name current (object_of i name v x))
key-good_name Named (Name s) (names.ByName n) name v x h = subst (λ bs. IsTrue (is_name current bs)) (sym h.1) h.2
key-good_name Unique (Code c) (names.ByKind u) name v x h = ap (λ (bs : List ℕ). length bs == 0) h.1
key-good_name i e key name v x h = absurd h

-- a good value in a block with room for it
pub key-object : (i : Index) (e : Entry) (key : names.Key) (name : List ℕ) (v : Value) (x : Extent)
    → IsNewKeyOf i e key name (kind_of v) → IsTrue (is_kind_of current (kind_of v)) → IsTrue (is_good_value v)
    → IsTrue (serves x ObjectRole (object_len name v)) → IsTrue (is_object current (object_of i name v x))
key-object i e key name v x h kind good s =
    let o = object_of i name v x in
    and_from (has_good_name current o && is_kind_of current (kind_of v) && is_good_value v) (serves x ObjectRole
    (object_len name v)) (and_from (has_good_name current o && is_kind_of current (kind_of v)) (is_good_value v)
    (and_from (has_good_name current o) (is_kind_of current (kind_of v)) (key-good_name i e key name v x h) kind)
    good) s

-- An object constructed under a key with an entry: the directory of the bytes, and the step of the machine.

-- ---- a place in an index

abbrev with_table : Index → Directory → (Directory → Plan) → Plan
with_table i d next = with_spare_entry (table_of i d) (length (objects_of i d)) (λ t. next (with_table_of i d t))

entry-of : (i : Index) (d : Directory) (next : Directory → Plan)
    → with_entry d (class_of_index i) next ≡ with_table i d next
entry-of index.Named d next = refl
entry-of index.Unique d next = refl

-- the request for a block of its own that a full index makes
abbrev grows : Index → Directory → (Directory → Plan) → Plan
grows i d next = with_new_index (grown_capacity (table_of i d).capacity) (λ t. next (with_table_of i d t))

entry-full : (i : Index) (d : Directory) (next : Directory → Plan) → (table_of i d).capacity ≤ length (objects_of i d)
    → with_entry d (class_of_index i) next ≡ grows i d next
entry-full i d next h = entry-of i d next ∙ ap (λ b. if b then next (with_table_of i d (table_of i d)) else grows i d
    next) (le-ltb (length (objects_of i d)) (table_of i d).capacity h)

-- a new block adds to the live set
placed-added : (l : LiveSet) (n : ℕ) (role : Role) {x : Extent} → IsTrue (is_proper l) → place l n role ≡ Some x
    → resized l x ≡ added l x
placed-added l n role {x} h e =
    resized-fresh l x (rising-insert 128 x l.extents (live-rises (added l x) (placed_is_proper l n role x h e))).differs

-- the number of bytes that a full index allocates
abbrev growth_bytes : Index → Directory → ℕ
growth_bytes i d = 8 * grown_capacity (table_of i d).capacity

-- the index is full, and there is space for its larger block
entry-grows : (i : Index) (d : Directory) (next : Directory → Plan) {x : Extent} → IsTrue (is_proper (live d))
    → (table_of i d).capacity ≤ length (objects_of i d) → place (live d) (growth_bytes i d) IndexRole ≡ Some x
    → perform d (live d) (with_entry d (class_of_index i) next) ≡ perform d (added (live d) x)
    (next (with_table_of i d (grown_into i d x)))
entry-grows i d next {x} h full e = ap (perform d (live d)) (entry-full i d next full)
    ∙ perform-new d (live d) IndexRole (growth_bytes i d) (λ x. next (with_table_of i d (grown_into i d x))) x e
    ∙ ap (λ l. perform d l (next (with_table_of i d (grown_into i d x))))
    (placed-added (live d) (growth_bytes i d) IndexRole h e)

-- or it is not
entry-refused : (i : Index) (d : Directory) (next : Directory → Plan)
    → (table_of i d).capacity ≤ length (objects_of i d) → place (live d) (growth_bytes i d) IndexRole ≡ None
    → perform d (live d) (with_entry d (class_of_index i) next) ≡ (Refused NoSpace, d)
entry-refused i d next full e = ap (perform d (live d)) (entry-full i d next full)
    ∙ perform-no_space d (live d) IndexRole (growth_bytes i d) (λ x. next (with_table_of i d (grown_into i d x))) e

-- the new object is in a directory that the new bytes denote, and the machine continues with it
pub record IsNewObject (new : WindowState) (d : Directory) (key : names.Key) (content : Content) (h : ℕ) : Type 0 where
  pub object : Object
  pub after : Directory
  pub left : LiveSet
  pub at : h ≡ handle object.extent
  pub count : count_of object.value ≡ count_of (bare content)
  pub met : (next : Object → Directory → Plan)
      → perform d (live d) (with_new_object d key content next) ≡ perform d left (next object after)
  pub denotes : Denotes current new.bytes after

-- a request is refused, and so the machine refuses
pub record IsNoObject (new : WindowState) (d : Directory) (key : names.Key) (content : Content) : Type 0 where
  pub refused : (next : Object → Directory → Plan)
      → perform d (live d) (with_new_object d key content next) ≡ (Refused NoSpace, d)
  pub denotes : Denotes current new.bytes d

-- the requests for such an object are met
pub record IsMet (d : Directory) (key : names.Key) (content : Content) : Type 0 where
  pub object : Object
  pub after : Directory
  pub left : LiveSet
  pub met : (next : Object → Directory → Plan)
      → perform d (live d) (with_new_object d key content next) ≡ perform d left (next object after)

-- the same blocks are in use with the same bytes, so the bytes denote the same directory
pub restored-denotes : (a c : WindowState) (d : Directory) → Denotes current a.bytes d → RestoresBlocks a c
    → Denotes current c.bytes d
restored-denotes a c d said r =
    denotes-kept a c said (subst (EncodesLiveSet current c.bytes) (denotes-live current a.bytes d
    said) r.laid) (subst (λ (l : LiveSet). KeepsBlocks a c l.extents) (denotes-live current a.bytes d said) r.keeps)

-- ---- the index grows, or not

-- the directory after its index grew
abbrev pub grown : (i : Index) (d : Directory) (a b : WindowState) (g : Option ℕ) → PreparesOk a b (index_at i) g
    → Directory
grown i d a b None h = d
grown i d a b (Some g) h = with_table_of i d (grown_into i d h.1.extent)

count-is : (i : Index) {a : WindowState} (d : Directory) → IsIndexOf a (index_at i) (table_of i d) (entries_of i d)
    → entry_count a (index_at i) ≡ length (objects_of i d)
count-is i d x = x.stands.count ∙ handles-length (objects_of i d)

pub grows-performs : (i : Index) (a b : WindowState) {d : Directory} (g : Option ℕ) (next : Directory → Plan)
    → Denotes current a.bytes d → (h : PreparesOk a b (index_at i) g)
    → perform d (live d) (with_entry d (class_of_index i) next) ≡ perform d (live_of b.bytes) (next (grown i d a b g h))
grows-performs i a b {d} None next k h =
    let x = denotes-index i a k in
    let room : length (objects_of i d) < (table_of i d).capacity =
    omega (arith, h.0, count-is i d x, x.stands.capacity) in
    ap (perform d (live d)) (entry-of i d next ∙ ap (λ b. if b then next (with_table_of i d (table_of i d)) else grows i
    d next) (lt-ltb (length (objects_of i d)) (table_of i d).capacity room) ∙ ap next (same-table i)) ∙ ap (λ l. perform
    d l (next d)) (sym (denotes-live current a.bytes d k) ∙ ap (λ (c : WindowState). live_of c.bytes) (sym h.1))
grows-performs i a b {d} (Some g) next k h =
    let x = denotes-index i a k in
    let full : (table_of i d).capacity ≤ length (objects_of i d) =
    omega (arith, h.0, count-is i d x, x.stands.capacity) in
    entry-grows i d next k.directory.proper full
    (sym (λ j. place (denotes-live current a.bytes d k j) (8 * grown_capacity (x.stands.capacity j)) IndexRole)
    ∙ h.1.placed) ∙ ap (λ l. perform d l (next (with_table_of i d (grown_into i d h.1.extent))))
    (ap (λ l. added l h.1.extent) (sym (denotes-live current a.bytes d k))
    ∙ sym (allocated-live current a b (grown_bytes a (index_at i)) IndexRole g h.1))

-- the blocks of the directory stay while the index gets its block and the object is made
pub keeps-front : (b c : WindowState) (x : Extent) (l : LiveSet) → KeepsBlocks b c (added l x).extents
    → KeepsBlocks b c l.extents
keeps-front b c x l k = record {
  place = k.place;
  front = k.front;
  behind = k.behind;
  blocks = AllByRecursion-insert _ x l.extents k.blocks;
}

pub grows-keeps : (i : Index) (a b c : WindowState) {d : Directory} (g : Option ℕ) → Denotes current a.bytes d
    → PreparesOk a b (index_at i) g → KeepsBlocks b c (live_of b.bytes).extents → KeepsBlocks a c (live d).extents
grows-keeps i a b c {d} None k h keeps =
    subst (λ (l : LiveSet). KeepsBlocks a c l.extents) (denotes-live current a.bytes d k)
    (subst (λ (x : WindowState). KeepsBlocks x c (live_of x.bytes).extents) h.1 keeps)
grows-keeps i a b c {d} (Some g) k h keeps =
    subst (λ (l : LiveSet). KeepsBlocks a c l.extents) (denotes-live current a.bytes
    d k) (keeps-trans a b c (live_of a.bytes).extents h.1.keeps (keeps-front b c h.1.extent (live_of a.bytes)
    (subst (λ (l : LiveSet). KeepsBlocks b c l.extents)
    (allocated-live current a b (grown_bytes a (index_at i)) IndexRole g h.1) keeps)))

-- ---- the entry is added

-- the table that the index has then
abbrev table_then : (i : Index) (d : Directory) (a b : WindowState) (g : Option ℕ) → PreparesOk a b (index_at i) g
    → BackingArray
table_then i d a b None h = table_of i d
table_then i d a b (Some g) h = grown_into i d h.1.extent

grown-is : (i : Index) (d : Directory) (a b : WindowState) (g : Option ℕ) (h : PreparesOk a b (index_at i) g)
    → grown i d a b g h ≡ with_table_of i d (table_then i d a b g h)
grown-is i d a b None h = sym (same-table i)
grown-is i d a b (Some g) h = refl

entered : {i : Index} (a b : WindowState) {c : WindowState} {e : WindowState} {d : Directory} {o : Object} (at : ℕ)
    (g : Option ℕ) → Denotes current a.bytes d
    → (h : PreparesOk a b (index_at i) g) → IsMade b c o → IsIndexOf c (index_at i) (table_of i d) (entries_of i d)
    → insert (entries_of i d) at (handle o.extent) ≡ entries_of i (with_object d o)
    → AddsEntry c e (index_at i) (table_of i d) (insert (entries_of i d) at (handle o.extent)) g
    → EncodesLiveSet current e.bytes (grown_live c (index_at i) g)
    → AddKeeps c e (index_at i) (table_of i d) g → IsEntered i c e d (table_then i d a b g h) o
entered a b {c} {o} at None k h made x same adds laid keeps =
    entered-none a at k (subst (λ (s : WindowState). IsMade s c o) h.1 made) x same adds laid keeps
entered a b at (Some g) k h made x same adds laid keeps = entered-some at k h.1 made x same adds laid keeps

-- ---- the step of the machine

-- the value, and then the object in its block
abbrev value_plan : Index → List ℕ → Content → (Object → Directory → Plan) → Directory → Extent → Plan
value_plan i name content next e x =
    with_value content (λ v. next (object_of i name v x) (with_object e (object_of i name v x)))

-- the object's block is allocated after the index has capacity
abbrev object_plan : Index → List ℕ → Content → (Object → Directory → Plan) → Directory → Plan
object_plan i name content next e =
    Request (New ObjectRole (object_len name (bare content))) (value_plan i name content next e)

-- the plan of an object under a key of an index
content-plan : (i : Index) (d : Directory) (key : names.Key) {name : List ℕ} (content : Content) (next : Object
    → Directory → Plan) → class_of key ≡ class_of_index i → name_of key ≡ name
    → with_new_object d key content next ≡ with_entry d (class_of_index i) (object_plan i name content next)
content-plan i d key {name} content next e f = λ j.
    with_entry d (e j) (λ dir. Request (New ObjectRole (object_len (f j) (bare content))) (λ x.
    with_value content (λ v. let o : Object = record { class = e j; name = f j; value = v; extent = x } in
    next o (with_object dir o))))

-- ---- both together

-- an entry that leads to a handle was added to an index
pub record IsLed (i : Index) (w c : WindowState) (at h : ℕ) (g : Option ℕ) : Type 0 where
  pub adds : (t : BackingArray) (hs : List ℕ) → IsIndexOf w (index_at i) t hs
      → AddsEntry w c (index_at i) t (insert hs at h) g
  pub live : EncodesLiveSet current c.bytes (grown_live w (index_at i) g)
  pub keeps : (t : BackingArray) (hs : List ℕ) → IsIndexOf w (index_at i) t hs → AddKeeps w c (index_at i) t g

module _ (i : Index) (a : WindowState) (d : Directory) (e : Entry) (key : names.Key) (name : List ℕ) (kind : Kind)
    (content : Content) (said : Denotes current a.bytes d) (new : IsNewKeyOf i e key name kind) where
  abbrev plan-of : (next : Object → Directory → Plan)
      → with_new_object d key content next ≡ with_entry d (class_of_index i) (object_plan i name content next)
  plan-of next = content-plan i d key content next (key-class i e key name kind new) (key-name i e key kind new)

  -- the requests are met
  pub content-met : (b : WindowState) {x : Extent} (v : Value) (left : LiveSet) (g : Option ℕ)
      → (grows : PreparesOk a b (index_at i) g) → place (live_of b.bytes) (object_len name (bare content))
      ObjectRole ≡ Some x → IsGiven d (resized (live_of b.bytes) x) content v left → (next : Object → Directory → Plan)
      → perform d (live d) (with_new_object d key content next) ≡ perform d left
      (next (object_of i name v x) (with_object (grown i d a b g grows) (object_of i name v x)))
  content-met b {x} v left g grows placed given next =
      let led = grown i d a b g grows in
      ap (perform d (live d)) (plan-of next) ∙ grows-performs i a b g (object_plan i name content next) said grows
      ∙ perform-new d (live_of b.bytes) ObjectRole (object_len name (bare content)) (value_plan i name content next
      led) x placed ∙ given.met (λ v. next (object_of i name v x) (with_object led (object_of i name v x)))

  -- the value's are refused
  pub content-denied : (b : WindowState) {x : Extent} (g : Option ℕ) → (grows : PreparesOk a b (index_at i) g)
      → place (live_of b.bytes) (object_len name (bare content)) ObjectRole ≡ Some x
      → IsDenied d (resized (live_of b.bytes) x) content → (next : Object → Directory → Plan)
      → perform d (live d) (with_new_object d key content next) ≡ (Refused NoSpace, d)
  content-denied b {x} g grows placed denied next =
      let led = grown i d a b g grows in
      ap (perform d (live d)) (plan-of next) ∙ grows-performs i a b g (object_plan i name content next) said grows
      ∙ perform-new d (live_of b.bytes) ObjectRole (object_len name (bare content)) (value_plan i name content next
      led) x placed ∙ denied (λ v. next (object_of i name v x) (with_object led (object_of i name v x)))

  -- the index's or the object's are
  pub content-none : (next : Object → Directory → Plan) (n : ℕ) → n ≡ object_len name (bare content)
      → FindsNone a (index_at i) n → perform d (live d) (with_new_object d key content next) ≡ (Refused NoSpace, d)
  content-none next n len (inl full) =
      let x = denotes-index i a said in
      ap (perform d (live d)) (plan-of next) ∙ entry-refused i d (object_plan i name content next)
      (omega (arith, full.0, count-is i d x, x.stands.capacity)) (sym (λ j. place (denotes-live current a.bytes d
      said j) (8 * grown_capacity (x.stands.capacity j)) IndexRole) ∙ full.1)
  content-none next n len (inr r) = ap (perform d (live d)) (plan-of next) ∙ grows-performs i a r.1 r.0 (object_plan i
      name content next) said r.2 ∙ perform-no_space d (live_of r.1.bytes) ObjectRole (object_len name (bare content))
      (value_plan i name content next (grown i d a r.1 r.0 r.2)) (ap (λ m. place (live_of r.1.bytes) m ObjectRole)
      (sym len) ∙ r.3)

  -- the object is made, and its entry is added
  pub content-entered : (b w : WindowState) {c : WindowState} {x : Extent} {v : Value} {left : LiveSet} (at : ℕ)
      {h : ℕ} (g : Option ℕ)
      → PreparesOk a b (index_at i) g → place (live_of b.bytes) (object_len name (bare content)) ObjectRole ≡ Some x
      → IsGiven d (resized (live_of b.bytes) x) content v left → kind_of v ≡ kind → count_of v ≡ count_of (bare content)
      → IsMade b w (object_of i name v x) → h ≡ handle x
      → FindsPosition (bytes_of a.bytes) e (entries_of i d) (Absent at)
      → IsLed i w c at h g → IsNewObject c d key content h
  content-entered b w {c} {x} {v} {left} at g grows placed given is_kind counts made is away led =
      let o = object_of i name v x in
      let new' : IsNewKeyOf i e key name (kind_of v) = subst (IsNewKeyOf i e key name) (sym is_kind) new in
      let index = taken-index (extents_of o) made.taken (place_behind i) (place_small i)
      (growth-index i g grows (denotes-index i a said)) in
      let there = entered a b at g said grows made index
      (entry-added i a e key at o said (key-seeks i e key name kind new) away (key-has i e key name v x new'))
      (subst (λ n. AddsEntry w c (index_at i) (table_of i d) (insert (entries_of i d) at n) g) is
      (led.adds (table_of i d) (entries_of i d) index)) led.live (led.keeps (table_of i d) (entries_of i d) index) in
      let none = (lookup-absent i a e key said (key-seeks i e key name kind new) away).none in
      record {
        object = o;
        after = with_object (with_table_of i d (table_then i d a b g grows)) o;
        left = left;
        at = is;
        count = counts;
        met = λ next. content-met b v left g grows placed given next
            ∙ ap (λ dir. perform d left (next o (with_object dir o))) (grown-is i d a b g grows);
        denotes = entered-denotes a said (grows-keeps i a b w g said grows made.taken.keeps) made.good made.at refl
            (key-own i e key name v d x new' none) there;
      }

-- ---- numbers

module _ (i : Index) {a : WindowState} {d : Directory} (e : Entry) {key : names.Key} (name : List ℕ) (k : ScalarKind)
    (zs : List ℤ) (said : Denotes current a.bytes d) (new : IsNewKeyOf i e key name (Scalar k)) where
  -- its requests are met
  pub numbers-met : {m : WindowState} {n h : ℕ} {g : Option ℕ} → n ≡ object_len name (Numbers k zs)
      → RequestsBlocksOk a m (index_at i) n g h → IsMet d key (asked.Numbers k zs)
  numbers-met {g} len r =
      let x : Extent = r.takes.extent in
      record {
        object = object_of i name (Numbers k zs) x;
        after = with_object (grown i d a r.between g r.grows) (object_of i name (Numbers k zs) x);
        left = resized (live_of r.between.bytes) x;
        met = content-met i a d e key name (Scalar k) (asked.Numbers k zs) said new r.between (Numbers k zs)
            (resized (live_of r.between.bytes) x) g r.grows (ap (λ j. place (live_of r.between.bytes) j ObjectRole)
            (sym len) ∙ r.takes.placed) (record { met = λ next. refl });
      }

-- An object made under a key whose value takes blocks of its own, whatever it is, as a step of the machine: its
-- requests are met in order, or one is refused and all is given back.

-- ---- places

growth-place : {a b : WindowState} (at : ℕ) (g : Option ℕ) → PreparesOk a b at g → SameSurroundings a b
growth-place {a} at None h = subst (SameSurroundings a) (sym h.1) (record { before = refl; after = refl })
growth-place at (Some g) h = h.1.keeps.place

keeps-place : {a b : WindowState} (at : ℕ) (t : BackingArray) (g : Option ℕ) → AddKeeps a b at t g
    → SameSurroundings a b
keeps-place at t None k = k.place
keeps-place at t (Some g) k = k.place

-- no object has no key
pub no_key-none : (os : List Object) → find (has_key names.NoKey) os ≡ None
no_key-none [] = refl
no_key-none (o ∷ os) = no_key-none os

-- a look-up that finds no entry, for each directory
pub away-in : (i : Index) {a : WindowState} {d : Directory} (e : Entry) (at : ℕ)
    → Denotes current a.bytes d → IsAbsentAt a i e at → FindsPosition (bytes_of a.bytes) e (entries_of i d) (Absent at)
away-in i {a} {d} e at said away = away (table_of i d) (entries_of i d) (denotes-index i a said)

-- ---- all directories

-- the object exists, for each directory of the old bytes
pub record IsMadeNow (a c : WindowState) (key : names.Key) (content : Content) (h : ℕ) : Type 0 where
  pub place : SameSurroundings a c
  pub each : (d : Directory) → DenotesCurrent a.bytes d → (object_at d key ≡ None) × IsNewObject c d key content h

-- or it is refused for each
pub record IsMadeNever (a c : WindowState) (key : names.Key) (content : Content) : Type 0 where
  pub place : SameSurroundings a c
  pub each : (d : Directory) → DenotesCurrent a.bytes d → (object_at d key ≡ None) × IsNoObject c d key content

unchanged : {w : WindowState} (l : LiveSet) {from n : ℕ} → EncodesLiveSet current w.bytes l
    → ChangesBytes current w w from n
unchanged {w} l laid = record {
  place = record { before = refl; after = refl };
  live = laid-heap w.bytes l laid;
  rest = record { at = λ k h. refl };
}

module _ (content : Content) where
  abbrev kind : Kind
  kind = kind_of (bare content)

  abbrev many : ℕ
  many = count_of (bare content)

  abbrev long : ℕ
  long = value_len (bare content)

  -- ---- the value in its object's block

  module _ (a t m w : WindowState) (class : Class) (name : List ℕ) (h at : ℕ)
      (take : AllocatesOk current a t (room_for name long) ObjectRole h)
      (headed : WritesObjectHeader t m kind class name many h
      at) (r : MakesValueOk content m w (record { handle = h; at = at })) where
    block : AllocatesOk current a r.empty (room_for name long) ObjectRole h
    block = empty-taken take headed r.change

    abbrev own : Object
    own = record { class = class; name = name; value = r.value; extent = block.extent }

    both-taken : IsTaken a w (extents_of own)
    both-taken = made-taken name block headed.start r.storage

    serving : IsTrue (serves block.extent ObjectRole (object_len name r.value))
    serving = subst (λ n. IsTrue (serves block.extent ObjectRole n))
        (ap (λ n. head_len + padded (length name) + n) (sym r.len)) (allocated-serves block)

    made-in : IsTrue (is_object current own) → IsMade a w own
    made-in good =
        let headed' : WritesObjectHeader t m (kind_of r.value) class name (count_of r.value) h at =
        subst (λ n. WritesObjectHeader t m (kind_of r.value) class name n h at) (sym r.count)
        (subst (λ k. WritesObjectHeader t m k class name many h at) (sym r.is_kind) headed) in
        record {
          good = good;
          taken = both-taken;
          at = made-object r.value block headed' r.change r.storage r.said;
        }

    placed-at : place (live_of a.bytes) (object_len name (bare content)) ObjectRole ≡ Some block.extent
    placed-at = block.placed

    given-in : {d : Directory} → IsGiven d (resized (live_of a.bytes) block.extent) content r.value r.left
    given-in {d} = subst (λ l. IsGiven d l content r.value r.left) (sym (placed-next block)) (r.given d)

  -- ---- the directory, under a key with an entry

  module _ {a m : WindowState} {key : names.Key} {h at : ℕ} {e : PendingEntry}
      (g : BeginsEntryOk a m key kind many long h at e) {d : Directory} (said : Denotes current a.bytes d) where
    absent : object_at d key ≡ None
    absent = (lookup-absent e.index a g.entry key said (key-seeks e.index g.entry key g.name kind g.is)
        (away-in e.index g.entry e.place said g.absent)).none

    entry-new : {w c : WindowState} → MakesValueOk content m w (record { handle = h; at = at })
        → AddsPendingEntry w c h e
        → IsNewObject c d key content h
    entry-new {w} {c} r added =
        let b : WindowState = g.requested.between in let class = class_of_index e.index in
        let took = block b g.taken m w class g.name h at g.requested.takes g.headed r in
        content-entered e.index a d g.entry key g.name kind content said g.is b w e.place e.growth.block
        g.requested.grows (placed-at b g.taken m w class g.name h at g.requested.takes g.headed r)
        (given-in b g.taken m w class g.name h at g.requested.takes g.headed r) r.is_kind r.count (made-in b g.taken
        m w class g.name h at g.requested.takes g.headed r (key-object e.index g.entry key g.name r.value
        took.extent (subst (IsNewKeyOf e.index g.entry key g.name) (sym r.is_kind) g.is)
        (known-kind (kind_of r.value)) r.good (serving b g.taken m w class g.name h at g.requested.takes g.headed
        r))) took.at (away-in e.index g.entry e.place said g.absent)
        (record { adds = added.adds; live = added.live; keeps = added.keeps })

    entry-denied : {w c : WindowState} {why : Refusal} → MakesValueErr content m w (record { handle = h; at = at }) why
        → RestoresBlocks a c → IsNoObject c d key content
    entry-denied {c} r back =
        let took = empty-taken g.requested.takes g.headed r.change in
        record {
          refused =
              content-denied e.index a d g.entry key g.name kind content said g.is g.requested.between e.growth.block
              g.requested.grows took.placed (subst (λ l. IsDenied d l content) (sym (placed-next took)) (r.denied d));
          denotes = restored-denotes a c d said back;
        }

  -- ---- without one

  module _ (a m : WindowState) (h at : ℕ) (g : BeginsAnonymous a m names.NoKey kind many long h at) (d : Directory)
      (said : Denotes current a.bytes d) where
    abbrev alone_in : Extent → Value → Object
    alone_in x w = record { class = Anonymous; name = []; value = w; extent = x }

    abbrev alone_plan : (Object → Directory → Plan) → Extent → Plan
    alone_plan next x = with_value content (λ w. next (alone_in x w) (with_object d (alone_in x w)))

    alone-new : {w : WindowState} → MakesValueOk content m w (record { handle = h; at = at })
        → IsNewObject w d names.NoKey content h
    alone-new {w} r =
        let took = block a g.taken m w Anonymous [] h at g.takes g.headed r in let x : Extent = took.extent in
        let o = alone_in x r.value in let same = denotes-live current a.bytes d said in
        let made = made-in a g.taken m w Anonymous [] h at g.takes g.headed r (and_from (true && is_kind_of current
        (kind_of r.value) && is_good_value r.value) (serves x ObjectRole (object_len [] r.value)) (and_from (true &&
        is_kind_of current (kind_of r.value)) (is_good_value r.value) (and_from true (is_kind_of current (kind_of
        r.value)) refl (known-kind (kind_of r.value))) r.good) (serving a g.taken m w Anonymous [] h at g.takes
        g.headed r)) in
        record {
          object = o;
          after = with_object d o;
          left = r.left;
          at = took.at;
          count = r.count;
          met = λ next. perform-new d (live d) ObjectRole (object_len [] (bare content)) (alone_plan next) x
              (ap (λ l. place l (object_len [] (bare content)) ObjectRole) (sym same) ∙ placed-at a g.taken m w
              Anonymous [] h at g.takes g.headed r) ∙ (subst (λ l. IsGiven d (resized l x) content r.value r.left) same
              (given-in a g.taken m w Anonymous [] h at g.takes g.headed r)).met (λ w. next (alone_in x w)
              (with_object d (alone_in x w)));
          denotes = denotes-with a w said made.good refl
              (subst (λ l. EncodesLiveSet current w.bytes (adding l (extents_of o)))
              same made.taken.live) (subst (λ (l : LiveSet). KeepsBlocks a w l.extents) same made.taken.keeps) made.at;
        }

    alone-denied : {w c : WindowState} {why : Refusal} → MakesValueErr content m w (record { handle = h; at = at }) why
        → RestoresBlocks a c → IsNoObject c d names.NoKey content
    alone-denied {w} {c} r back =
        let took = empty-taken g.takes g.headed r.change in let x : Extent = took.extent in
        let same = denotes-live current a.bytes d said in
        record {
          refused = λ next. perform-new d (live d) ObjectRole (object_len [] (bare content)) (alone_plan next) x
              (ap (λ l. place l (object_len [] (bare content)) ObjectRole) (sym same) ∙ took.placed)
              ∙ (subst (λ l. IsDenied d (resized l x) content) same (subst (λ l. IsDenied d l content)
              (sym (placed-next took)) (r.denied d))) (λ w. next (alone_in x w) (with_object d (alone_in x w)));
          denotes = restored-denotes a c d said back;
        }

  -- ---- an entry is added, or all blocks are freed

  module _ (a : WindowState) {m : WindowState} (b : IsSegment a.bytes) (key : names.Key) (h at : ℕ) where
    entry-taken : {w : WindowState} {e : PendingEntry} → (g : BeginsEntryOk a m key kind many long h at e)
        → (r : MakesValueOk content m w (record { handle = h; at = at })) → IsTaken g.requested.between w
        ((block g.requested.between g.taken m w (class_of_index e.index) g.name h at g.requested.takes g.headed
        r).extent ∷ value_extents r.value)
    entry-taken {w} {e} g r =
        both-taken g.requested.between g.taken m w (class_of_index e.index) g.name h at g.requested.takes g.headed r

    -- the conditions for adding the entry hold
    entry-wanted : {w : WindowState} {e : PendingEntry} → BeginsEntryOk a m key kind many long h at e
        → MakesValueOk content m w (record { handle = h; at = at }) → IsReadyForEntry w h e
    entry-wanted {w} {e} g r =
        let i : Index = e.index in let mid : WindowState = g.requested.between in
        let d : Directory = b.0 in let t = table_of i d in
        let hs = entries_of i d in let x = denotes-index i a b.1.denotes in
        let took = block mid g.taken m w (class_of_index i) g.name h at g.requested.takes g.headed r in
        let taken = entry-taken g r in
        let grown =
        prepared a mid (index_at i) e.growth.block t hs x g.requested.grows (place_behind i) (place_small i) in
        let index : IsIndexOf w (index_at i) t hs =
        taken-index _ taken (place_behind i) (place_small i) (growth-index i e.growth.block g.requested.grows x) in
        let stay : (n : ℕ) → ObjectStays a w n = stays-trans {b = mid} (growth-stays (index_at i) e.growth.block
        g.requested.grows) (made-stays _ taken) in
        let sorted = denotes-sorted i a b.1.denotes in
        let new = subst (IsNewKeyOf i g.entry key g.name) (sym r.is_kind) g.is in
        let o = object_of i g.name r.value took.extent in
        let made : IsMade mid w o = made-in mid g.taken m w (class_of_index i) g.name h at g.requested.takes g.headed r
        (key-object i g.entry key g.name r.value took.extent new (known-kind (kind_of r.value)) r.good
        (serving mid g.taken m w (class_of_index i) g.name h at g.requested.takes g.headed r)) in
        let short = key-short i g.entry key g.name (kind_of r.value) new in
        let belongs = belongs-at {a = a} {b = w} g.entry e.place (handle took.extent)
        (seeks-sort i g.entry key (key-seeks i g.entry key g.name (kind_of r.value) new)) sorted stay (made-key i made)
        (key-of i g.entry key {m = bytes_of w.bytes} g.name o new refl
        (object-entry (bytes_of w.bytes) o short made.at)) (g.absent t hs x) in
        record {
          entry = record {
            table = t;
            handles = hs;
            index = record { index = index; sorted = keeps-sorted stay i hs sorted };
            belongs = subst (BelongsAt w i hs e.place) (sym took.at) belongs;
          };
          growth = taken-growth mid w _ (index_at i) e.growth.block taken (place_behind i) (place_small i) grown;
        }

    -- a made value: the object is ready
    pub value-ready : (entry : Option PendingEntry) {w : WindowState} → BeginsObjectOk a m key kind many long h at entry
        → MakesValueOk content m w (record { handle = h; at = at }) → IsReadyFor w h entry
    value-ready None g r = tt
    value-ready (Some e) g r = entry-wanted g r

    -- a value that was not made: the object has no entry
    pub value-loose : (entry : Option PendingEntry) (w : WindowState) (why : Refusal)
        → BeginsObjectOk a m key kind many long h at entry
        → MakesValueErr content m w (record { handle = h; at = at }) why → WritesUnindexedObject a w h entry
    value-loose None w why g r = record {
      len = room_for [] long;
      taken = w;
      takes = restored-taken (empty-taken g.takes g.headed r.change) r.restored;
      change = unchanged (live_of r.empty.bytes) r.restored.laid;
    }
    value-loose (Some e) w why g r = record {
      len = room_for g.name long;
      taken = w;
      requested = record {
        between = g.requested.between;
        grows = g.requested.grows;
        takes = restored-taken (empty-taken g.requested.takes g.headed r.change) r.restored;
      };
      change = unchanged (live_of r.empty.bytes) r.restored.laid;
    }

    -- ---- all directories

    module _ {w c : WindowState} {e : PendingEntry} (g : BeginsEntryOk a m key kind many long h at e) where
      entry-place : (r : MakesValueOk content m w (record { handle = h; at = at })) → AddsPendingEntry w c h e
          → SameSurroundings a c
      entry-place r added =
          let i : Index = e.index in let mid : WindowState = g.requested.between in
          let q = (entry-wanted g r).entry in
          SameSurroundings-trans a mid c (growth-place (index_at i) e.growth.block g.requested.grows)
          (SameSurroundings-trans mid w c (entry-taken g r).keeps.place
          (keeps-place (index_at i) q.table e.growth.block (added.keeps q.table q.handles q.index.index)))

      -- the value is made
      value-made : MakesValueOk content m w (record { handle = h; at = at }) → AddsPendingEntry w c h e
          → IsMadeNow a c key content h
      value-made r added = record {
        place = entry-place r added;
        each = λ d st. (absent g st.denotes, entry-new g st.denotes r added);
      }

      value-refused : {why : Refusal} → MakesValueErr content m w (record { handle = h; at = at }) why
          → RestoresBlocks a c → IsMadeNever a c key content
      value-refused r back = record {
        place = back.keeps.place;
        each = λ d st. (absent g st.denotes, entry-denied g st.denotes r back);
      }

  -- the same for an anonymous object
  module _ {a m : WindowState} (h at : ℕ) (g : BeginsAnonymous a m names.NoKey kind many long h at) where
    alone-made : {w : WindowState} → MakesValueOk content m w (record { handle = h; at = at })
        → IsMadeNow a w names.NoKey content h
    alone-made {w} r = record {
      place = (both-taken a g.taken m w Anonymous [] h at g.takes g.headed r).keeps.place;
      each = λ d st. (no_key-none d.objects, alone-new a m h at g d st.denotes r);
    }

    alone-refused : {w c : WindowState} {why : Refusal} → MakesValueErr content m w (record { handle = h; at = at }) why
        → RestoresBlocks a c → IsMadeNever a c names.NoKey content
    alone-refused r back = record {
      place = back.keeps.place;
      each = λ d st. (no_key-none d.objects, alone-denied a m h at g d st.denotes r back);
    }

  -- the same for each key
  module _ {a m : WindowState} (b : IsSegment a.bytes) {key : names.Key} (h at : ℕ) where
    -- a made value: the object is constructed
    pub value-built : (entry : Option PendingEntry) {w : WindowState} {c : WindowState}
        → BeginsObjectOk a m key kind many long h at entry
        → MakesValueOk content m w (record { handle = h; at = at }) → LeadsThere w c h entry
        → IsMadeNow a c key content h
    value-built None {c} g r same = subst (λ (q : names.Key). IsMadeNow a c q content h) (sym g.is)
        (subst (λ (s : WindowState). IsMadeNow a s names.NoKey content h) (sym same)
        (alone-made h at (record { is = refl; taken = g.taken; takes = g.takes; headed = g.headed }) r))
    value-built (Some e) g r added = value-made a b key h at g r added

    -- a value that was not made: the object is not constructed
    pub value-not_built : (entry : Option PendingEntry) {w : WindowState} {c : WindowState} {why : Refusal}
        → BeginsObjectOk a m key kind many long h at entry
        → MakesValueErr content m w (record { handle = h; at = at }) why
        → GivesAllBack w c h entry → IsMadeNever a c key content
    value-not_built None {w} {c} {why} g r gives =
        let back = gives a (value-loose a b key h at None w why g r) in
        subst (λ (q : names.Key). IsMadeNever a c q content) (sym g.is)
        (alone-refused h at (record { is = refl; taken = g.taken; takes = g.takes; headed = g.headed }) r back)
    value-not_built (Some e) {w} {why} g r gives =
        value-refused a b key h at g r (gives a (value-loose a b key h at (Some e) w why g r))
