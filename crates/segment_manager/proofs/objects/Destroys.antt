-- The object of a handle and its own entry, and the destruction of an object.
use Rattle.segment_manager.proofs.Common as common
use Rattle.seg_types.specs.declared.kinds.Class.TheVariants as class
use Rattle.seg_types.specs.Names as names
use Rattle.seg_types.specs.Commands as asked
use Rattle.seg_index.specs.declared.index.Index.TheVariants as index
use Rattle.std.specs.Bool.{then_some}
use denote.Enum.Bare.{sameb}
use Rattle.block_tags.specs.contracts.tile.Role.{the_type}
use Rattle.seg_index.specs.declared.keys.Lookup.{Lookup}
use Rattle.segment_manager.proofs.{containers.Safely.Stepped, containers.Safely.stepped, objects.Rewritten.with_value}
use Rattle.segment_manager.proofs.blocks.OwnBlocks.{handle-is-object, or-none}
use Rattle.segment_manager.proofs.containers.Emptied.{changed-entries, changed-in, changed-others, emptied-is}
use Rattle.segment_manager.proofs.directory.AnyDirectory.{IsOpenFor, by_no_change, by_step, denotes-live}
use Rattle.segment_manager.proofs.directory.AnyDirectory.{denotes-released, lands, object-at, object-live, object-room}
use Rattle.segment_manager.proofs.directory.AnyDirectory.{open-reading, open-writing, step-refuse, step-reply}
use Rattle.segment_manager.proofs.directory.AnyDirectory.{with-found, with-not_found}
use Rattle.segment_manager.proofs.directory.Frame.{handles-length, object-roomy}
use Rattle.segment_manager.proofs.directory.LiveSet.{IsIn, Rising, live-rises}
use Rattle.segment_manager.proofs.indexes.Bridge.{IsEntryFor, all-at, at-handle, denotes-index, entry-removed}
use Rattle.segment_manager.proofs.indexes.Bridge.{in-handles, lookup-absent, lookup-found, of-class, stands-at}
use Rattle.segment_manager.proofs.indexes.OtherTables.{IsGone, IsLeft, removed-denotes}
use Rattle.segment_manager.proofs.objects.RankedPairs.{all-found, all-ordered, each-true, found-handle, key-found}
use Rattle.segment_manager.specs.{Answers.Absent, Calls.told_at, indexes.Listed.IsEntryAt, objects.Found.IsBelow}
use Rattle.segment_manager.specs.objects.Destroyed.{HoldsEntry, RemovesAnonymous, RemovesEntry}
use common.{Absent, Answer, AnswersQuery, AnswersWith, BackingArray, Becomes, Bool, Boolean, ByHandle, Class, Command}
use common.{Deallocates, Denotes, DenotesCurrent, Directory, Empties, EncodesLiveSet, Entry, Err, Extent, FindsPosition}
use common.{Found, HasIndex, HasObject, Head, HoldsObject, Index, Instance, IsAnonymousAt, IsHeadOf, IsIndexOf}
use common.{IsInstance, IsObjectInBlock, IsSegment, IsTrue, KeepsOutsideIndex, Key, Kind, List, Mode, Named, None}
use common.{NotFound, Number, Object, ObjectRole, Ok, Option, Plan, Refusal, Refuse, Refused, Reply, Result, Role}
use common.{SameSurroundings-trans, SaysAt, SaysOf, Seeks, SegmentState, Some, TakesStep, Unique, WindowState}
use common.{WrongKind, [], ap, arith, beside_table, bytes_of, changed, class_code, class_of_index, cond, count_of}
use common.{current, effect, emptied, entries_of, entry_count, eqb-true, extent_at, false, find, found}
use common.{found_object_answer, handle, handle_at, has_key, has_room, if◌then◌else◌, index_at, is_class, is_live_in}
use common.{is_object, is_object_at, is_read_only, is_some, kind_of, lay_out_one, le-leb, length, list_any, live}
use common.{live_of, named_objects, ne_eqb, none-some, object_at, object_len, objects_of, option_map, order_of}
use common.{pair_of_kind, refl, remove, same_Some, same_kind, same_role, slice_get, slice_get_within, step, subst, sym}
use common.{table_of, true, unique_objects, without_object, ℕ, ◌&&◌, ◌+◌, ◌<◌, ◌==◌, ◌||◌, ◌∙◌, ◌∷◌, ◌≡◌}
use names.{NoKey}

-- ---- an object with an entry

class-is : (i : Index) (c : Class) → (class_code (class_of_index i) == class_code c) ≡ true → c ≡ class_of_index i
class-is index.Named class.Named e = refl
class-is index.Unique class.Unique e = refl
class-is i c e = absurd (cc)

entry-class : (i : Index) (d : Directory) (at : ℕ) {o : Object} → slice_get (objects_of i d) at ≡ Some o
    → o.class ≡ class_of_index i
entry-class i d at {o} e = class-is i o.class (all-at (λ p. is_class (class_of_index i) p ≡ true) (objects_of i d) at
    (all-ordered (λ p. is_class (class_of_index i) p ≡ true) (class_of_index i) (order_of i) d.objects
    (of-class (class_of_index i) d.objects)) e)

-- the index is in the heap with the other entries
pub entry-index : {c : WindowState} {i : Index} {at : ℕ} → HoldsEntry c.bytes i at → HasIndex c (index_at i)
entry-index {c} {i} x = record {
  table = table_of i x.directory;
  handles = entries_of i x.directory;
  index = denotes-index i c x.stands.denotes;
}

-- an entry is below the count
pub entry-below : (c : WindowState) {i : Index} {at : ℕ} → HoldsEntry c.bytes i at → at < entry_count c (index_at i)
entry-below c {i} {at} x =
    let d : Directory = x.directory in
    omega (
      arith,
      slice_get_within (entries_of i d) at (handle x.object.extent) (at-handle (objects_of i d) at x.is),
      (denotes-index i c x.stands.denotes).stands.count,
    )

-- the handle of the entry
abbrev pub LeadsTo : WindowState → Index → ℕ → ℕ → Type 0
LeadsTo c i at h = (t : BackingArray) (hs : List ℕ) → IsIndexOf c (index_at i) t hs → slice_get hs at ≡ Some h

module _ {a : WindowState} (i : Index) (at : ℕ) {h : ℕ} (leads : LeadsTo a i at h) where
  entry-found : {d : Directory} {o : Object} → Denotes current a.bytes d → slice_get (objects_of i d) at ≡ Some o
      → object_at d (names.ByHandle h) ≡ Some o
  entry-found {d} {o} k e = subst (λ g. object_at d (names.ByHandle g) ≡ Some o) (sym (same_Some h (handle o.extent)
      (sym (leads (table_of i d) (entries_of i d) (denotes-index i a k)) ∙ at-handle (objects_of i d) at e)))
      (all-at (λ (p : Object). object_at d (names.ByHandle (handle p.extent)) ≡ Some p) (objects_of i d) at
      (in-handles i k.directory) e)

  -- the object of an entry exists
  pub entry-object : HoldsEntry a.bytes i at → HoldsObject a.bytes h
  entry-object x = record {
    directory = x.directory;
    stands = x.stands;
    object = x.object;
    is = entry-found x.stands.denotes x.is;
  }

-- The entry at a place was removed. Its block stays, and so does all else.
pub record IsUnlisted (i : Index) (old new : WindowState) (at : ℕ) : Type 0 where
  pub removes : (t : BackingArray) (hs : List ℕ) → IsIndexOf old (index_at i) t hs
      → IsIndexOf new (index_at i) t (remove hs at)
  pub live : EncodesLiveSet current new.bytes (live_of old.bytes)
  pub keeps : (t : BackingArray) (hs : List ℕ) → IsIndexOf old (index_at i) t hs
      → KeepsOutsideIndex old new (index_at i) (beside_table t (live_of old.bytes).extents)

-- ---- once its contents are released

-- an object of a handle, and the directory with its value emptied, which the bytes denote then
module _ {a b : WindowState} (h : ℕ) (empties : Empties a b h) {d : Directory} {o : Object}
    (k : DenotesCurrent a.bytes d) (e : object_at d (names.ByHandle h) ≡ Some o) where
  abbrev emptied_object : Object
  emptied_object = with_value o (emptied o.value)

  abbrev emptied_directory : Directory
  emptied_directory = changed d o (emptied o.value)

  is-in : IsIn d o
  is-in = key-found current d (names.ByHandle h) o k.denotes.directory e

  emptied-in : IsIn emptied_directory emptied_object
  emptied-in = changed-in d o is-in (emptied o.value)

  emptied-denotes : Denotes current b.bytes emptied_directory
  emptied-denotes = (empties d o k e).denotes

  -- its own block is still in use
  pub still-live : is_live_in (live_of b.bytes) h ≡ true
  still-live =
      let at = found-handle h d.objects o (record { is = e }) in
      (λ j. is_live_in (denotes-live current b.bytes emptied_directory emptied-denotes j) (at j))
      ∙ object-live emptied_directory emptied_object emptied-in emptied-denotes.directory.proper

  -- an index has the entries that it had
  emptied-index : (i : Index) → IsIndexOf b (index_at i) (table_of i emptied_directory) (entries_of i d)
  emptied-index i = subst (IsIndexOf b (index_at i) (table_of i emptied_directory))
      (changed-entries d o is-in i (emptied o.value) (emptied-is o.value).kind) (denotes-index i b emptied-denotes)

  -- only the object's own block was freed, and it is anonymous
  pub anonymous-gone : {c : WindowState} → o.class ≡ class.Anonymous → Deallocates current b c h
      → Becomes a c (without_object d o)
  anonymous-gone {c} is r = record {
    place = SameSurroundings-trans a b c (empties d o k e).place r.keeps.place;
    denotes = subst (Denotes current c.bytes) (changed-others d o is-in (emptied o.value))
        (denotes-released emptied_object emptied-denotes emptied-in is (emptied-is o.value).alone
        (subst (Deallocates current b c) (found-handle h d.objects o (record { is = e })) r));
  }

  -- the object's entry was removed, and then its own block was freed
  entry-gone : {c f : WindowState} {i : Index} {at : ℕ} → slice_get (objects_of i d) at ≡ Some o → IsUnlisted i b c at
      → Deallocates current c f h → Becomes a f (without_object d o)
  entry-gone {c} {f} {i} {at} there u r =
      let t = table_of i emptied_directory in
      let released : Deallocates current c f (handle o.extent) =
      subst (Deallocates current c f) (found-handle h d.objects o (record { is = e })) r in
      let rest = changed-others d o is-in (emptied o.value) in let before = emptied-index i in
      let less = entry-removed i at k.denotes.directory there ∙ ap (entries_of i) (sym rest) in
      let left : IsLeft i b c t (entries_of i (without_object emptied_directory emptied_object)) = record {
        live = u.live;
        stands = subst (IsIndexOf c (index_at i) t) less (u.removes t (entries_of i d) before);
        keeps = u.keeps t (entries_of i d) before;
      } in
      let none : IsGone c f (o.extent ∷ []) = record { live = released.live; keeps = released.keeps } in
      record {
        place = SameSurroundings-trans a b f (empties d o k e).place
            (SameSurroundings-trans b c f (u.keeps t (entries_of i d) before).place r.keeps.place);
        denotes = subst (Denotes current f.bytes) rest
            (removed-denotes emptied_object emptied-denotes emptied-in (entry-class i d at there) left
            (subst (IsGone c f) (ap (λ xs. o.extent ∷ xs) (sym (emptied-is o.value).alone)) none));
      }

-- the same for the object of an entry
module _ {a b : WindowState} {i : Index} {at h : ℕ} (leads : LeadsTo a i at h) (empties : Empties a b h) where
  module _ (x : HoldsEntry a.bytes i at) where
    abbrev held : object_at x.directory (names.ByHandle h) ≡ Some x.object
    held = entry-found i at leads x.stands.denotes x.is

    -- the index stays
    pub index-still : HasIndex b (index_at i)
    index-still = record {
      table = table_of i (changed x.directory x.object (emptied x.object.value));
      handles = entries_of i x.directory;
      index = emptied-index h empties x.stands held i;
    }

    -- the entry is still below the count
    pub below-still : at < entry_count b (index_at i)
    below-still = omega (
      arith,
      (slice_get_within (entries_of i x.directory) at (handle x.object.extent)
          (at-handle (objects_of i x.directory) at x.is)),
      (emptied-index h empties x.stands held i).stands.count,
    )

    -- its block is in use, also where the entry is removed
    pub block-still : (c : WindowState) → EncodesLiveSet current c.bytes (live_of b.bytes)
        → is_live_in (live_of c.bytes) h ≡ true
    block-still c l =
        ap (λ s. is_live_in s h) (lay_out_one current c.bytes (live_of b.bytes) l) ∙ still-live h empties x.stands held

  -- an unlisted object that is deallocated is destroyed
  pub removes-entry : {c f : WindowState} → IsUnlisted i b c at → Deallocates current c f h → RemovesEntry a f i at
  removes-entry u r d o k there = entry-gone h empties k (entry-found i at leads k.denotes there) there u r

-- ---- destroying by a key with an entry

-- the result of a look-up in the index of a heap
abbrev pub Ends : WindowState → Index → Entry → Lookup → Type 0
Ends c i e r = (t : BackingArray) (hs : List ℕ) → IsIndexOf c (index_at i) t hs
    → FindsPosition (bytes_of c.bytes) e hs r

found-for : (c : WindowState) {i : Index} (e : Entry) {key : names.Key} {at : ℕ} {d : Directory}
    → Denotes current c.bytes d → Seeks i e key → Ends c i e (Found at) → IsEntryFor i d key at
found-for c {i} e {key} {at} {d} k q p =
    lookup-found i c e key k q at (p (table_of i d) (entries_of i d) (denotes-index i c k))

-- the entry that was found is an object's
pub found-entry : (c : WindowState) (b : IsSegment c.bytes) (i : Index) (e : Entry) (key : names.Key) (at : ℕ)
    → Seeks i e key → Ends c i e (Found at) → HoldsEntry c.bytes i at
found-entry c b i e key at q p =
    let there = found-for c e b.1.denotes q p in
    record { directory = b.0; stands = b.1; object = there.object; is = there.stands }

-- the look-up found its entry
pub destroys-entered : {s t : SegmentState} (view : s ≡ t) (b : IsSegment s.cut.bytes) {c : WindowState} (i : Index)
    (e : Entry) (key : names.Key) (at : ℕ) → is_read_only t.mode ≡ false → Seeks i e key
    → Ends s.cut i e (Found at) → RemovesEntry s.cut c i at → Stepped s t c (asked.Destroy key) (Boolean true)
destroys-entered {s} {t} view b {c} i e key at may q p r =
    stepped s t view b c (asked.Destroy key) (Boolean true) may (λ writing. by_step (asked.Destroy key) (record {
      mode = refl;
      place = let x = found-entry s.cut b i e key at q p in
          (r x.directory x.object x.stands x.is).place;
    }) (λ d k.
    let there = found-for s.cut e k.denotes q p in
    lands (without_object d there.object) (record {
      is = step-reply s.mode d (asked.Destroy key) (Boolean true) (without_object d there.object)
          (open-writing s.mode (asked.Destroy key) writing) (ap (λ (r : Option Object).
          elim r as (λ _. Plan) [ None ↦ Reply (Boolean false) d | Some o ↦ Reply (Boolean true) (without_object d o) ])
          there.is);
      denotes = (r d there.object k there.stands).denotes;
    })))

-- or there is no such object
pub destroys-none : {s t : SegmentState} (view : s ≡ t) (i : Index) (e : Entry) (key : names.Key) (at : ℕ)
    → is_read_only t.mode
    ≡ false → Seeks i e key → Ends s.cut i e (Absent at) → TakesStep t t (asked.Destroy key) (Boolean false)
destroys-none {s} view i e key at may q p =
    let writing : is_read_only s.mode ≡ false =
    subst (λ (u : SegmentState). is_read_only u.mode ≡ false) (sym view) may in
    subst (λ (u : SegmentState). TakesStep u u (asked.Destroy key) (Boolean false)) view
    (by_no_change s (asked.Destroy key)
    (Boolean false) (λ d k. step-reply s.mode d (asked.Destroy key) (Boolean false) d (open-writing s.mode
    (asked.Destroy key) writing) (ap (λ (r : Option Object).
    elim r as (λ _. Plan) [ None ↦ Reply (Boolean false) d | Some o ↦ Reply (Boolean true) (without_object d o) ])
    (lookup-absent i s.cut e key k.denotes q
    (p (table_of i d) (entries_of i d) (denotes-index i s.cut k.denotes))).none)))

-- ---- destroying by a handle

-- the object of the handle is gone from each directory
destroys-object : {s : SegmentState} (c : WindowState) (h : ℕ) → is_read_only s.mode ≡ false → IsSegment s.cut.bytes
    → ((d : Directory) → DenotesCurrent s.cut.bytes d → (o : Object) × ((object_at d (names.ByHandle h) ≡ Some o)
    × Becomes s.cut c (without_object d o))) → TakesStep s (record s { cut = c }) (asked.DestroyPtr h) (Boolean true)
destroys-object {s} c h writing b each =
    by_step (asked.DestroyPtr h) (record { mode = refl; place = (each b.0 b.1).1.1.place }) (λ d k.
    let x = each d k in
    lands (without_object d x.0) (record {
      is = step-reply s.mode d (asked.DestroyPtr h) (Boolean true) (without_object d x.0)
          (open-writing s.mode (asked.DestroyPtr h) writing)
          (with-found d (names.ByHandle h) x.0 (λ o. Reply (Boolean true) (without_object d o)) x.1.0);
      denotes = x.1.1.denotes;
    }))

module _ {s t : SegmentState} (view : s ≡ t) {h : ℕ} {i : Index} {at : ℕ} where
  -- the entry of the object is found
  seen-entry : IsEntryAt t h i at → IsEntryAt s h i at
  seen-entry = subst (λ (u : SegmentState). IsEntryAt u h i at) (sym view)

  -- the entry of an object is the index's
  pub own-entry : (b : IsSegment s.cut.bytes) → IsEntryAt t h i at → HoldsEntry s.cut.bytes i at
  own-entry b listed =
      let l = seen-entry listed in
      let x = l.leads b.0 b.1 in found-entry s.cut b i l.entry x.key at x.seeks l.found

  -- the object was removed with its entry
  pub destroys-ptr : (b : IsSegment s.cut.bytes) {c : WindowState} → is_read_only t.mode ≡ false → IsEntryAt t h i at
      → RemovesEntry s.cut c i at → Stepped s t c (asked.DestroyPtr h) (Boolean true)
  destroys-ptr b {c} may listed r =
      let l = seen-entry listed in
      stepped s t view b c (asked.DestroyPtr h) (Boolean true) may (λ writing. destroys-object c h writing b (λ d k.
      let x = l.leads d k in let there = found-for s.cut l.entry k.denotes x.seeks l.found in
      let same = same_Some there.object x.object (sym there.is ∙ x.found) in
      (x.object, (x.is, subst (λ o. Becomes s.cut c (without_object d o)) same (r d there.object k there.stands)))))

-- or it had no key
pub destroys-anonymous : {s t : SegmentState} (view : s ≡ t) (b : IsSegment s.cut.bytes) {c : WindowState} (h : ℕ)
    → is_read_only t.mode ≡ false → IsAnonymousAt t h → RemovesAnonymous s.cut c h
    → Stepped s t c (asked.DestroyPtr h) (Boolean true)
destroys-anonymous {s} {t} view b {c} h may listed r =
    let each : IsAnonymousAt s h = subst (λ (u : SegmentState). IsAnonymousAt u h) (sym view) listed in
    stepped s t view b c (asked.DestroyPtr h) (Boolean true) may (λ writing.
    destroys-object c h writing b (λ d k. let x = each d k in (x.0, (x.1, r d x.0 k x.1 x.2))))

-- no object has the handle
pub destroys-no_ptr : {s : SegmentState} (h : ℕ) → is_read_only s.mode ≡ false
    → ((d : Directory) → DenotesCurrent s.cut.bytes d
    → object_at d (names.ByHandle h) ≡ None) → TakesStep s s (asked.DestroyPtr h) (Refused NotFound)
destroys-no_ptr {s} h writing each = by_no_change s (asked.DestroyPtr h) (Refused NotFound) (λ d k.
    step-refuse s.mode d (asked.DestroyPtr h) NotFound (open-writing s.mode (asked.DestroyPtr h) writing)
    (with-not_found d (names.ByHandle h) (λ o. Reply (Boolean true) (without_object d o)) (each d k)))

-- The object of a key in its block, and functions of it.

-- ---- the object of a key

-- the object is in its block
pub standing : (b : List ℕ) (d : Directory) (key : Key) (o : Object) → Denotes current b d → object_at d key ≡ Some o
    → IsObjectInBlock b (handle o.extent) o
standing b d key o k e =
    let f = key-found current d key o k.directory e in
    let good = all-found (λ p. IsTrue (is_object current p)) (has_key key) d.objects o
    (each-true (is_object current) d.objects k.directory.objects) e in
    let n = object_len o.name o.value in
    record {
      at = refl;
      good = good;
      room = subst (λ l. IsTrue (has_room l (handle o.extent) n)) (sym (denotes-live current b d k))
          (object-room d o n f k.directory.proper (le-leb (n + 16) o.extent.len (object-roomy current o good).room));
      said = object-at current b d (handle o.extent) o k f;
    }

-- a head was read of each object at a handle
abbrev pub IsReadAt : List ℕ → ℕ → Head → Type 0
IsReadAt b h head = (o : Object) → IsObjectInBlock b h o → IsHeadOf o head

-- the object that has the handle which a key means
pub record IsHere (b : List ℕ) (d : Directory) (key : Key) (h : ℕ) : Type 0 where
  pub object : Object
  pub is : object_at d key ≡ Some object
  pub stands : IsObjectInBlock b h object

here-if : {b : List ℕ} {d : Directory} {key : Key} {h : ℕ} (r : Option Object) → Denotes current b d
    → object_at d key ≡ r → Some h ≡ option_map (λ (o : Object). handle o.extent) r → IsHere b d key h
here-if None k e f = absurd (cc)
here-if {b} {d} {key} {h} (Some o) k e f =
    let same : handle o.extent ≡ h = cc in
    record { object = o; is = e; stands = subst (λ g. IsObjectInBlock b g o) same (standing b d key o k e) }

-- the object of a handle exists
pub here : (b : List ℕ) (d : Directory) (key : Key) (h : ℕ) → Denotes current b d → Some h ≡ handle_at d key
    → IsHere b d key h
here b d key h k e = here-if (object_at d key) k refl e

-- no object has the key
pub nothing-if : (r : Option Object) → None ≡ option_map (λ (o : Object). handle o.extent) r → r ≡ None
nothing-if None e = refl
nothing-if (Some o) e = absurd (cc)

-- there is an object at the handle that was found
pub has-object : {s : SegmentState} (key : Key) {h : ℕ}
    → IsSegment s.cut.bytes → AnswersWith s (λ d. handle_at d key) (Some h) → HasObject s.cut.bytes h
has-object {s} key {h} i a =
    let o = here s.cut.bytes i.0 key h i.1.denotes (a.answers i.0 i.1) in
    (o.object, o.stands)

-- a function of each object in the block is the function of the key's object
pub tells : {A : Type 0} {s : SegmentState} (key : Key) {h : ℕ} (say : Object → A) {x : A}
    → AnswersWith s (λ d. handle_at d key) (Some h)
    → ((o : Object) → IsObjectInBlock s.cut.bytes h o → x ≡ say o) → AnswersWith s (λ d. told_at d key say) (Ok x)
tells {A} {s} key {h} say a each = record {
  answers = λ d k.
      let o = here s.cut.bytes d key h k.denotes (a.answers d k) in
      ap Ok (each o.object o.stands) ∙ sym (ap (λ (r : Option Object).
      elim r as (λ _. Result A Refusal) [ None ↦ Err NotFound | Some p ↦ Ok (say p) ]) o.is);
}

-- ---- the same, as the view of the segment is named

-- the result of a look-up is its result in the view
pub seen-handle : (s t : SegmentState) (view : s ≡ t) (key : Key) (r : Option ℕ)
    → AnswersWith t (λ d. handle_at d key) r → AnswersWith s (λ d. handle_at d key) r
seen-handle s t view key r = subst (λ (u : SegmentState). AnswersWith u (λ d. handle_at d key) r) (sym view)

-- the object of a handle in a result is in its block
pub seen-object : (s t : SegmentState) (view : s ≡ t) (key : Key) (h : ℕ) → IsSegment s.cut.bytes
    → AnswersWith t (λ d. handle_at d key) (Some h) → HasObject s.cut.bytes h
seen-object s t view key h i a = has-object key i (seen-handle s t view key (Some h) a)

-- a function of the handle's object is the directory's
pub seen-tells : {A : Type 0} {s t : SegmentState} (view : s ≡ t) (key : Key) {h : ℕ} (say : Object → A) {x : A}
    → AnswersWith t (λ d. handle_at d key) (Some h) → ((o : Object) → IsObjectInBlock s.cut.bytes h o → x ≡ say o)
    → AnswersWith t (λ d. told_at d key say) (Ok x)
seen-tells {A} {s} {t} view key {h} say {x} a each =
    subst (λ (u : SegmentState). AnswersWith u (λ d. told_at d key say) (Ok x))
    view (tells key say (seen-handle s t view key (Some h) a) each)

-- The results of calls that look a key up, for each directory that the bytes denote.

-- ---- a handle from outside

-- whether a block passes the test, if there is one
abbrev pub passes : (Extent → Bool) → Option Extent → Bool
passes t None = false
passes t (Some x) = t x

-- the extent that is found by its handle
abbrev first_of : ℕ → List Extent → Option Extent
first_of h xs = find (λ (x : Extent). handle x == h) xs

none-behind : (t : Extent → Bool) (h n : ℕ) (xs : List Extent) → h < n + 16 → Rising n xs
    → list_any (λ (x : Extent). (handle x == h) && t x) xs ≡ false
none-behind t h n [] l r = refl
none-behind t h n (x ∷ xs) l r = ap (λ b. (b && t x) || list_any (λ (x : Extent). (handle x == h) && t x) xs)
    (ne_eqb (handle x) h (λ e. omega (arith, r.0, e))) ∙ none-behind t h (x.offset + 1) xs (omega (arith, r.0)) r.1

any-first-if : (t : Extent → Bool) (h : ℕ) (x : Extent) (xs : List Extent) (b : Bool) → (handle x == h) ≡ b
    → Rising (x.offset + 1) xs → list_any (λ (x : Extent). (handle x == h) && t x) xs ≡ passes t (first_of h xs)
    → ((b && t x) || list_any (λ (x : Extent). (handle x == h) && t x) xs) ≡ passes t (cond b (Some x) (first_of h xs))
any-first-if t h x xs true e r k = or-none (t x) (list_any (λ (x : Extent). (handle x == h) && t x) xs)
    (none-behind t h (x.offset + 1) xs (omega (arith, eqb-true (handle x) h e)) r)
any-first-if t h x xs false e r k = k

-- the first of rising extents with a handle is the only one
any-first : (t : Extent → Bool) (h n : ℕ) (xs : List Extent) → Rising n xs
    → list_any (λ (x : Extent). (handle x == h) && t x) xs ≡ passes t (first_of h xs)
any-first t h n [] r = refl
any-first t h n (x ∷ xs) r = any-first-if t h x xs (handle x == h) refl r.1 (any-first t h (x.offset + 1) xs r.1)

none-of-if : (h : ℕ) (x : Extent) (xs : List Extent) (b : Bool)
    → (list_any (λ (x : Extent). handle x == h) xs ≡ false → first_of h xs ≡ None)
    → (b || list_any (λ (x : Extent). handle x == h) xs) ≡ false → cond b (Some x) (first_of h xs) ≡ None
none-of-if h x xs true k e = absurd (cc)
none-of-if h x xs false k e = k e

none-first : (h : ℕ) (xs : List Extent) → list_any (λ (x : Extent). handle x == h) xs ≡ false → first_of h xs ≡ None
none-first h [] e = refl
none-first h (x ∷ xs) e = none-of-if h x xs (handle x == h) (none-first h xs) e

-- a block for an object
abbrev for_object : Extent → Bool
for_object x = same_role x.role ObjectRole

-- an object has the handle where its block is for one
pub object-passes : {b : List ℕ} {d : Directory} (h : ℕ) → Denotes current b d
    → is_object_at d h ≡ passes for_object (extent_at (live_of b) h)
object-passes {b} {d} h k = sym (handle-is-object h k.directory)
    ∙ any-first for_object h 128 (live d).extents (live-rises (live d) k.directory.proper)
    ∙ ap (λ l. passes for_object (extent_at l h)) (sym (denotes-live current b d k))

-- whether a role is that of objects, by both tests
pub same-test : (r : Role) → sameb the_type r ObjectRole ≡ same_role r ObjectRole
same-test ObjectRole = refl
same-test role = refl

of-role : (o : Option Extent) {r : Role} → option_map (λ (x : Extent). x.role) o ≡ Some r
    → passes for_object o ≡ same_role r ObjectRole
of-role None {r} e = absurd (none-some r e)
of-role (Some x) {r} e = ap (λ role. same_role role ObjectRole) (same_Some x.role r e)

-- the answer of the two tests, for a block in use of this role
pub role-answers : {s : SegmentState} (h : ℕ) {r : Role} {b : Bool} → option_map (λ (x : Extent). x.role)
    (extent_at (live_of s.cut.bytes) h) ≡ Some r → b ≡ sameb the_type r ObjectRole
    → AnswersWith s (λ d. is_object_at d h) b
role-answers {s} h {r} e f = record {
  answers =
      λ d k. f ∙ same-test r ∙ sym (of-role (extent_at (live_of s.cut.bytes) h) e) ∙ sym (object-passes h k.denotes);
}

-- and where no block is in use
pub dead-answers : {s : SegmentState} (h : ℕ) {b : Bool} → b ≡ is_live_in (live_of s.cut.bytes) h → b ≡ false
    → AnswersWith s (λ d. is_object_at d h) b
dead-answers {s} h e f = record {
  answers = λ d k. f ∙ sym (object-passes h k.denotes
      ∙ ap (passes for_object) (none-first h (live_of s.cut.bytes).extents (sym e ∙ f)));
}

-- ---- an entry of an index

-- a segment has an index
pub segment-index : {c : WindowState} (i : Index) → IsSegment c.bytes → HasIndex c (index_at i)
segment-index {c} i s =
    record { table = table_of i s.0; handles = entries_of i s.0; index = denotes-index i c s.1.denotes }

-- a property of each table and handles of an index
abbrev pub ForIndex : WindowState → Index → (List ℕ → Type 0) → Type 0
ForIndex c i P = (t : BackingArray) (hs : List ℕ) → IsIndexOf c (index_at i) t hs → P hs

-- a property of an index holds for the directory's entries
pub of-directory : (s : SegmentState) (i : Index) (P : List ℕ → Type 0) {d : Directory} → DenotesCurrent s.cut.bytes d
    → ForIndex s.cut i P → P (entries_of i d)
of-directory s i P {d} k f = f (table_of i d) (entries_of i d) (denotes-index i s.cut k.denotes)

-- an entry that was found is an entry of the index
pub place-below : {c : WindowState} (i : Index) (e : Entry) (place : ℕ) → IsSegment c.bytes
    → ForIndex c i (λ hs. FindsPosition (bytes_of c.bytes) e hs (Found place)) → place < entry_count c (index_at i)
place-below {c} i e place s f =
    let stands = denotes-index i c s.1.denotes in let at = f (table_of i s.0) (entries_of i s.0) stands in
    omega (arith, slice_get_within (entries_of i s.0) place at.0 at.1, stands.stands.count)

-- the object's handle is the entry's
pub found-answers : (s : SegmentState) (i : Index) (e : Entry) (place : ℕ) {h : ℕ}
    → ForIndex s.cut i (λ hs. FindsPosition
    (bytes_of s.cut.bytes) e hs (Found place)) → ForIndex s.cut i (λ hs. slice_get hs place ≡ Some h) → (key : Key)
    → Seeks i e key → AnswersWith s (λ d. handle_at d key) (Some h)
found-answers s i e place {h} f g key q = record {
  answers = λ d k.
      let there = lookup-found i s.cut e key k.denotes q place
      (of-directory s i (λ hs. FindsPosition (bytes_of s.cut.bytes) e hs (Found place)) k f) in
      sym (of-directory s i (λ hs. slice_get hs place ≡ Some h) k g) ∙ there.leads
      ∙ sym (ap (option_map (λ (o : Object). handle o.extent)) there.is);
}

-- or no object has the key
pub absent-answers : {s : SegmentState} (i : Index) (e : Entry) (place : ℕ) → ForIndex s.cut i (λ hs. FindsPosition
    (bytes_of s.cut.bytes) e hs (Absent place)) → (key : Key) → Seeks i e key
    → AnswersWith s (λ d. handle_at d key) None
absent-answers {s} i e place f key q = record {
  answers = λ d k. sym (ap (option_map (λ (o : Object). handle o.extent)) (lookup-absent i s.cut e key k.denotes q
      (of-directory s i (λ hs. FindsPosition (bytes_of s.cut.bytes) e hs (Absent place)) k f)).none);
}

-- ---- any key

-- the handle of an object, if it exists
pub handle-if : (h : ℕ) (d : Directory) (r : Option Object) → object_at d (ByHandle h) ≡ r
    → then_some (is_some r) h ≡ option_map (λ (o : Object). handle o.extent) r
handle-if h d None e = refl
handle-if h d (Some o) e = ap Some (found-handle h d.objects o (record { is = e }))

-- a handle stands for itself if it is an object's
pub handle-answers : {s : SegmentState} (h : ℕ) {b : Bool} → AnswersWith s (λ d. is_object_at d h) b
    → AnswersWith s (λ d. handle_at d (ByHandle h)) (then_some b h)
handle-answers h a = record {
  answers = λ d k. ap (λ t. then_some t h) (a.answers d k) ∙ handle-if h d (object_at d (ByHandle h)) refl;
}

no-key : (os : List Object) → find (has_key NoKey) os ≡ None
no-key [] = refl
no-key (o ∷ os) = no-key os

-- no object is found without a key
pub anonymous-answers : {s : SegmentState} → AnswersWith s (λ d. handle_at d NoKey) None
anonymous-answers = record {
  answers = λ d k. sym (ap (option_map (λ (o : Object). handle o.extent)) (no-key d.objects));
}

-- ---- an object of a kind

-- the plan after a look-up
abbrev finds : Directory → Kind → Option Object → Plan
finds d kind r =
    elim r as (λ _. Plan) [
      | None ↦ Reply Absent d
      | Some o ↦ if same_kind kind (kind_of o.value) then Reply (found o) d else Refuse WrongKind
    ]

-- nothing has the key
pub find-absent : {s : SegmentState} (key : Key) (kind : Kind) → AnswersWith s (λ d. handle_at d key) None
    → AnswersQuery s (asked.Find key kind) Absent
find-absent {s} key kind a = record {
  answers = λ d k. sym (ap (λ (r : Answer × Directory). r.0)
      (step-reply s.mode d (asked.Find key kind) Absent d (open-reading s.mode (asked.Find key kind) refl)
      (ap (finds d kind) (nothing-if (object_at d key) (a.answers d k)))));
}

-- A command that asks for the kind of an object: the object has the kind, or another kind.
kind-if : (mode : Mode) (d : Directory) (c : Command) (o : Object) (b : Bool) → IsOpenFor mode c
    → effect d c ≡ (if b then Reply (found o) d else Refuse WrongKind)
    → step mode d c ≡ (found_object_answer (if b then Ok (handle o.extent, count_of o.value) else Err WrongKind), d)
kind-if mode d c o true may e = step-reply mode d c (found o) d may e
kind-if mode d c o false may e = step-refuse mode d c WrongKind may e

-- the step of a command on an object, by its kind
pub kind-step : (mode : Mode) (d : Directory) (c : Command) (o : Object) (kind : Kind) → IsOpenFor mode c
    → effect d c ≡ (if same_kind kind (kind_of o.value) then Reply (found o) d else Refuse WrongKind)
    → step mode d c ≡ (found_object_answer (pair_of_kind o kind), d)
kind-step mode d c o kind may e = kind-if mode d c o (same_kind kind (kind_of o.value)) may e

-- an object has it, of the kind or of another
pub find-there : {s t : SegmentState} (view : s ≡ t) (key : Key) (kind : Kind) {h : ℕ} {r : Result (ℕ × ℕ) Refusal}
    → AnswersWith t (λ d. handle_at d key) (Some h)
    → ((o : Object) → IsObjectInBlock s.cut.bytes h o → r ≡ pair_of_kind o kind)
    → AnswersQuery t (asked.Find key kind) (found_object_answer r)
find-there {t} view key kind {h} a each = record {
  answers = λ d k.
      let o = here t.cut.bytes d key h k.denotes (a.answers d k) in
      ap found_object_answer (each o.object (subst (λ (u : SegmentState).
      IsObjectInBlock u.cut.bytes h o.object) (sym view) o.stands))
      ∙ sym (ap (λ (q : Answer × Directory). q.0) (kind-step t.mode d (asked.Find key kind) o.object kind
      (open-reading t.mode (asked.Find key kind) refl) (ap (finds d kind) o.is)));
}

-- ---- the entries of the indexes

-- the number of objects of an index
pub index-counts : (s : SegmentState) (i : Index) {n : ℕ} → ForIndex s.cut i (λ hs. n ≡ length hs) → (d : Directory)
    → DenotesCurrent s.cut.bytes d → n ≡ length (objects_of i d)
index-counts s i {n} f d k = of-directory s i (λ hs. n ≡ length hs) k f ∙ handles-length (objects_of i d)

-- the command that returns this number
abbrev num_command : Index → Command
num_command Named = asked.NumNamed
num_command Unique = asked.NumUnique

num-step : (mode : Mode) (i : Index) (d : Directory)
    → step mode d (num_command i) ≡ (Number (length (objects_of i d)), d)
num-step mode Named d = step-reply mode d asked.NumNamed (Number (length (objects_of Named d))) d
    (open-reading mode asked.NumNamed refl) refl
num-step mode Unique d = step-reply mode d asked.NumUnique (Number (length (objects_of Unique d))) d
    (open-reading mode asked.NumUnique refl) refl

-- the number of entries is the directory's
pub num-replies : {s : SegmentState} (i : Index) (n : ℕ) → ForIndex s.cut i (λ hs. n ≡ length hs)
    → AnswersQuery s (num_command i) (Number n)
num-replies {s} i n f = record {
  answers =
      λ d k. ap Number (index-counts s i f d k) ∙ sym (ap (λ (r : Answer × Directory). r.0) (num-step s.mode i d));
}

-- a number below their count is a place
pub below-count : {s t : SegmentState} (view : s ≡ t) (i : Index) {n : ℕ} → IsSegment s.cut.bytes
    → IsBelow t (λ d. length (objects_of i d)) n → n < entry_count s.cut (index_at i)
below-count {s} view i {n} g b =
    let stands = denotes-index i s.cut g.1.denotes in
    let below = subst (λ (u : SegmentState). IsBelow u (λ d. length (objects_of i d)) n) (sym view) b in
    omega (arith, below.below g.0 g.1, stands.stands.count, handles-length (objects_of i g.0))

-- the entry that is read is an entry of the directory
pub at-answers : {s t : SegmentState} (view : s ≡ t) (i : Index) (n : ℕ) {h : ℕ}
    → ForIndex s.cut i (λ hs. slice_get hs n ≡ Some h) → AnswersWith t (λ d. slice_get (entries_of i d) n) (Some h)
at-answers {s} view i n {h} f =
    subst (λ (u : SegmentState). AnswersWith u (λ d. slice_get (entries_of i d) n) (Some h)) view
    (record { answers = λ d k. sym (of-directory s i (λ hs. slice_get hs n ≡ Some h) k f) })

-- ---- an index below that number

below-number : {s : SegmentState} (i : Index) (n : ℕ) {at : ℕ} → AnswersQuery s (num_command i) (Number n) → at < n
    → IsBelow s (λ d. length (objects_of i d)) at
below-number {s} i n {at} h l = record {
  below = λ d st.
      let e = h.answers d st ∙ ap (λ (r : Answer × Directory). r.0) (num-step s.mode i d) in
      let same : n ≡ length (objects_of i d) = cc in subst (λ m. at < m) same l;
}

-- an index below the number of names is a name's
pub named-below : (s : SegmentState) (n i : ℕ) → AnswersQuery s asked.NumNamed (Number n) → i < n
    → IsBelow s (λ d. length (named_objects d)) i
named-below s n i h l = below-number Named n h l

-- an index below the number of unique objects is the place of one
pub unique-below : (s : SegmentState) (n i : ℕ) → AnswersQuery s asked.NumUnique (Number n) → i < n
    → IsBelow s (λ d. length (unique_objects d)) i
unique-below s n i h l = below-number Unique n h l

-- the object at a place of an index, in its block
pub record IsEntered (s : SegmentState) (d : Directory) (i : Index) (n h : ℕ) : Type 0 where
  pub object : Object
  pub is : slice_get (objects_of i d) n ≡ Some object
  pub stands : IsObjectInBlock s.cut.bytes h object

pub entered : (s : SegmentState) {i : Index} {n h : ℕ} → ForIndex s.cut i (λ hs. slice_get hs n ≡ Some h)
    → {d : Directory} → DenotesCurrent s.cut.bytes d → IsEntered s d i n h
entered s {i} {n} {h} f {d} k =
    let at = stands-at (objects_of i d) n (of-directory s i (λ hs. slice_get hs n ≡ Some h) k f) in let o = at.object in
    record {
      object = o;
      is = at.is;
      stands = subst (λ x. IsObjectInBlock s.cut.bytes x o) (sym at.handle) (standing s.cut.bytes d
          (ByHandle (handle o.extent)) o k.denotes (all-at (λ (p : Object). object_at d (ByHandle (handle p.extent))
          ≡ Some p) (objects_of i d) n (in-handles i k.denotes.directory) at.is));
    }

-- there is an object in the block
pub entered-object : (s : SegmentState) (i : Index) (n h : ℕ) → IsSegment s.cut.bytes
    → ForIndex s.cut i (λ hs. slice_get hs n ≡ Some h) → HasObject s.cut.bytes h
entered-object s i n h g f = let o = entered s f g.1 in (o.object, o.stands)

-- the instance has the properties of the entry's object
pub entered-says : {s : SegmentState} (i : Index) {n h : ℕ} {said : Instance}
    → ForIndex s.cut i (λ hs. slice_get hs n ≡ Some
    h) → ((o : Object) → IsObjectInBlock s.cut.bytes h o → IsInstance o said) → SaysAt s (objects_of i) n said
entered-says {s} i {n} {h} f each = record {
  says = λ d k. let o = entered s f k in (o.object, o.is, each o.object o.stands);
}

-- the same for the object of a key
pub key-says : {s : SegmentState} {key : Key} {h : ℕ} {said : Instance} → AnswersWith s (λ d. handle_at d key) (Some h)
    → ((o : Object) → IsObjectInBlock s.cut.bytes h o → IsInstance o said) → SaysOf s key said
key-says {s} {key} {h} a each = record {
  says = λ d k. let o = here s.cut.bytes d key h k.denotes (a.answers d k) in (o.object, o.is, each o.object o.stands);
}
