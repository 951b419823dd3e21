-- An object found under a key, or constructed if there is none, as a step of the machine.
use Rattle.seg_types.specs.Commands as asked
use Rattle.seg_types.specs.Names as names
use Rattle.segment_manager.proofs.Common as common
use Rattle.segment_manager.proofs.directory.AnyDirectory.{by_no_change, by_step, denotes-live, lands, open-writing}
use Rattle.segment_manager.proofs.directory.AnyDirectory.{perform-new, perform-no_space, refuses-read_only, step-plan}
use Rattle.segment_manager.proofs.directory.AnyDirectory.{step-refuse, step-segment}
use Rattle.segment_manager.proofs.indexes.Bridge.{denotes-index, lookup-absent, lookup-found}
use Rattle.segment_manager.proofs.objects.{Constructed.value-ready, Destroys.here, Destroys.kind-step}
use Rattle.segment_manager.proofs.objects.ArrayItems.{by-items, from-items, numbers-made}
use Rattle.segment_manager.proofs.objects.Constructed.{IsMadeNever, IsMadeNow, IsMet, IsNewObject, IsNoObject, away-in}
use Rattle.segment_manager.proofs.objects.Constructed.{content-none, key-seeks, no_key-none, numbers-met, numbers-value}
use Rattle.segment_manager.proofs.objects.Constructed.{restored-denotes, value-built, value-loose, value-not_built}
use Rattle.segment_manager.proofs.objects.Exchanged.{headed-change}
use Rattle.segment_manager.specs.{Answers.Found, declared.objects.pending_object.PendingObject.PendingObject}
use Rattle.segment_manager.specs.{declared.containers.fillings.ObjectShape.ObjectShape, objects.Found.found_object}
use Rattle.segment_manager.specs.containers.Filled.{BeginsObjectFor, FillsObject, HasBegun, IsShapeOf, numbers_shape}
use Rattle.segment_manager.specs.objects.{Items.FindsOrTakesIn, Items.TakesItemsIn, PendingObjects.RefusesKey}
use Rattle.segment_manager.specs.objects.PendingObjects.{BeginsEntryErr, BeginsObjectErr, Ends, Fills, IsEnding}
use common.{AllocatesNoSpace, AllocatesOk, Anonymous, Answer, AnswersWith, BeginsObject, BeginsObjectOk, Bool}
use common.{ChangesBytes, Command, Constructs, ConstructsFromItems, Content, Denotes, DenotesCurrent, Directory, Entry}
use common.{Err, Exists, Extent, FindsOrConstructs, IfErr, Index, IsAbsentAt, IsNewKeyOf, IsObjectInBlock, IsSegment}
use common.{IsTrue, Key, Kind, LeadsThere, List, Made, MakesValue, MakesValueOk, Mode, NoSpace, None, Numbers, Object}
use common.{ObjectRole, Ok, Option, OutOfRange, PendingEntry, Plan, ReadOnly, Refusal, Refuse, Refused, Reply}
use common.{RestoresBlocks, Result, SameSurroundings, Scalar, ScalarKind, SegmentState, Some, TakesStep, WindowState}
use common.{Write, WritesUnindexedObject, WrongKind, [], answer_of, ap, arith, bare, count_of, current, effect}
use common.{entries_of, false, false≢true, found, found_object_answer, handle, handle_answer, handle_at, head_len}
use common.{if◌then◌else◌, inl, inr, is_good_value, is_read_only, is_untouched, is_value, kind_of, le-ltb, length}
use common.{length-map, length-replicate, list_all, live, lt-ltb, map, mul-le-mul_left, nat_lt, none-some, object_at}
use common.{object_len, option_map, padded, pair_of_kind, perform, place, pos, refl, replicate, resized, room_for}
use common.{same_kind, size_of, step, subst, sym, table_of, take, take_all, true, value_len, with_count}
use common.{with_new_object, with_object, with_value, ℕ, ℤ, ◌*◌, ◌+◌, ◌<◌, ◌∙◌, ◌≡◌, ◌≤◌}

-- ---- an object that is constructed

-- the plan after a look-up: the plan of a new object, or an error because one exists
abbrev pub made_for : Directory → Key → Content → Option Object → Plan
made_for d key content r =
    elim r as (λ _. Plan) [
      | Some o ↦ Refuse Exists
      | None ↦ with_new_object d key content (λ o e. Reply (Made (handle o.extent)) e)
    ]

module _ {old : SegmentState} {new : WindowState} {key : Key} {content : Content} (c : Command) (say : Object → Answer)
    (writing : is_read_only old.mode ≡ false) (place : SameSurroundings old.cut new) (asks : ((d : Directory)
    → object_at d key ≡ None → effect d c ≡ with_new_object d key content (λ o e. Reply (say o) e))) where
  -- A command that makes a new object if no object has the key: the object is made.
  pub makes : {h : ℕ} {answer : Answer} → ((d : Directory) → (n : IsNewObject new d key content h)
      → say n.object ≡ answer) → ((d : Directory) → DenotesCurrent old.cut.bytes d → (object_at d key ≡ None)
      × IsNewObject new d key content h) → TakesStep old (record old { cut = new }) c answer
  makes {h} said each = by_step c (record { mode = refl; place = place }) (λ d k.
      let n : IsNewObject new d key content h = (each d k).1 in
      lands n.after (record {
        is = step-plan old.mode d c (open-writing old.mode c writing) (asks d (each d k).0)
            ∙ n.met (λ o e. Reply (say o) e) ∙ ap (λ (a : Answer). (a, n.after)) (said d n);
        denotes = n.denotes;
      }))

  -- or a request is refused
  pub makes-nothing : ((d : Directory) → DenotesCurrent old.cut.bytes d → (object_at d key ≡ None)
      × IsNoObject new d key content) → TakesStep old (record old { cut = new }) c (Refused NoSpace)
  makes-nothing each = by_step c (record { mode = refl; place = place }) (λ d k. lands d (record {
    is = step-plan old.mode d c (open-writing old.mode c writing) (asks d (each d k).0)
        ∙ (each d k).1.refused (λ o e. Reply (say o) e);
    denotes = (each d k).1.denotes;
  }))

-- the answer with the handle of a constructed object
abbrev pub made_handle : Object → Answer
made_handle o = Made (handle o.extent)

-- an object has the key
pub constructs-exists : {s : SegmentState} (key : Key) (content : Content) → is_read_only s.mode ≡ false
    → ((d : Directory) → DenotesCurrent s.cut.bytes d → (o : Object) × (object_at d key ≡ Some o))
    → TakesStep s s (asked.Construct key content) (Refused Exists)
constructs-exists {s} key content writing each = by_no_change s (asked.Construct key content) (Refused Exists) (λ d k.
    step-refuse s.mode d (asked.Construct key content) Exists
    (open-writing s.mode (asked.Construct key content) writing) (ap (made_for d key content) (each d k).1))

-- the plan after a look-up
abbrev pub finds : Directory → Key → Content → Option Object → Plan
finds d key content r = elim r as (λ _. Plan) [
  | None ↦ with_new_object d key content (λ o e. Reply (found o) e)
  | Some o ↦ if same_kind (kind_of (bare content)) (kind_of o.value) then Reply (found o) d else Refuse WrongKind
]

-- ---- an object has the key

-- the object is returned if it has the kind
pub found-there : {s : SegmentState} (key : Key) (content : Content) {h : ℕ} {result : Result (ℕ × ℕ) Refusal}
    → is_read_only s.mode ≡ false → AnswersWith s (λ d. handle_at d key) (Some h)
    → ((o : Object) → IsObjectInBlock s.cut.bytes h o → result ≡ pair_of_kind o (kind_of (bare content)))
    → TakesStep s s (asked.FindOrConstruct key content) (found_object_answer result)
found-there {s} key content {h} {result} writing a each =
    by_no_change s (asked.FindOrConstruct key content) (found_object_answer result) (λ d st.
    let o = here s.cut.bytes d key h st.denotes (a.answers d st) in
    kind-step s.mode d (asked.FindOrConstruct key content) o.object (kind_of (bare content))
    (open-writing s.mode (asked.FindOrConstruct key content) writing) (ap (finds d key content) o.is)
    ∙ ap (λ (r : Result (ℕ × ℕ) Refusal). (found_object_answer r, d)) (sym (each o.object o.stands)))

-- An object that is not pending: the error, and the directory after it.

-- ---- it is not begun

module _ {a : WindowState} (key : names.Key) (content : Content) where
  -- an object has the key
  pub key-taken : {c : WindowState} → (t : RefusesKey a c key (kind_of (bare content)))
      → (d : Directory) → DenotesCurrent a.bytes d → (o : Object) × (object_at d key ≡ Some o)
  key-taken t d st =
      let f = lookup-found t.index a t.entry key st.denotes
      (key-seeks t.index t.entry key t.name (kind_of (bare content)) t.is) t.place
      (t.found (table_of t.index d) (entries_of t.index d) (denotes-index t.index a st.denotes)) in
      (f.object, f.is)

  none-alone : {c : WindowState} → AllocatesNoSpace a c (room_for [] (value_len (bare content))) ObjectRole
      → IsMadeNever a c names.NoKey content
  none-alone r = record {
    place = subst (SameSurroundings a) (sym r.same) (record { before = refl; after = refl });
    each = λ d st. (
      no_key-none d.objects,
      record {
        refused = λ next. perform-no_space d (live d) ObjectRole (object_len [] (bare content)) (λ x. with_value content
            (λ w. let o : Object = record { class = Anonymous; name = []; value = w; extent = x } in
            next o (with_object d o))) (ap (λ l. place l (object_len [] (bare content)) ObjectRole)
            (sym (denotes-live current a.bytes d st.denotes)) ∙ r.none);
        denotes = subst (λ (u : WindowState). Denotes current u.bytes d) (sym r.same) st.denotes;
      },
    );
  }

  none-entry : {c : WindowState} → BeginsEntryErr a c key (kind_of (bare content)) (value_len (bare content))
      → IsMadeNever a c key content
  none-entry {c} u = record {
    place = u.unmet.restored.keeps.place;
    each = λ d st. (
      (lookup-absent u.index a u.entry key st.denotes
          (key-seeks u.index u.entry key u.name (kind_of (bare content)) u.is)
          (away-in u.index u.entry u.place st.denotes u.absent)).none,
      record {
        refused = λ next. content-none u.index a d u.entry key u.name (kind_of (bare content)) content st.denotes u.is
            next (room_for u.name (value_len (bare content))) refl u.unmet.none;
        denotes = restored-denotes a c d st.denotes u.unmet.restored;
      },
    );
  }

  -- a block is refused
  pub value-not_begun : {c : WindowState}
      → BeginsObjectErr a c key (kind_of (bare content)) (value_len (bare content)) NoSpace
      → IsMadeNever a c key content
  value-not_begun {c} (inl r) = subst (λ (q : names.Key). IsMadeNever a c q content) (sym r.0) (none-alone r.1)
  value-not_begun (inr u) = none-entry u

-- Calls that construct an object from its contents or from items, as in the code.

-- ---- begun

-- the shape of a pending object is the shape of its contents
pub begun-for : (old new : WindowState) (key : names.Key) {content : Content} {s : ObjectShape}
    (r : Result PendingObject Refusal) → IsShapeOf content s → BeginsObject old new key s.kind s.count s.len r
    → BeginsObject old new key (kind_of (bare content)) (count_of (bare content)) (value_len (bare content)) r
begun-for old new key {content} {s} r is g = subst (λ (k : Kind). BeginsObject old new key k (count_of (bare content))
    (value_len (bare content)) r) is.kind (subst (λ n. BeginsObject old new key s.kind n (value_len (bare content)) r)
    is.count (subst (λ n. BeginsObject old new key s.kind s.count n r) is.len g))

-- an object that was begun has the shape of its content
pub has-begun : (old new : WindowState) (key : names.Key) {content : Content} {s : ObjectShape} (r : PendingObject)
    → IsSegment old.bytes → IsShapeOf content s
    → BeginsObject old new key s.kind s.count s.len (Ok r) → HasBegun new content r.handle r.at r.entry
has-begun old new key r b is g = (old, (b, (key, begun-for old new key (Ok r) is g)))

-- ---- filled

module _ (content : Content) where
  -- the conditions of the end for a value that was made, or whose blocks had no space
  pub ending : (a m : WindowState) (b : IsSegment a.bytes) (key : names.Key) (h at : ℕ)
      (entry : Option PendingEntry) (w : WindowState)
      (r : Result (Unit {0}) Refusal) → BeginsObjectFor a m key content h at entry
      → MakesValue content m w (record { handle = h; at = at }) r → IsEnding w h entry r
  ending a m b key h at entry w (Ok u) g r = value-ready content a b key h at entry g r
  ending a m b key h at entry w (Err why) g r = (a, value-loose content a b key h at entry w why g r)

  -- the value is made, and then the object gets its entry; or all blocks are freed
  pub builds : (m w c : WindowState) (h at : ℕ) (entry : Option PendingEntry) (filled : Result (Unit {0}) Refusal)
      (result : Result ℕ Refusal) → MakesValue content m w (record { handle = h; at = at }) filled
      → Ends w c h entry filled result → FillsObject m c h at entry content result
  builds m w c h at entry (Ok u) result made e =
      subst (FillsObject m c h at entry content) (sym e.0) (record { made = w; value = made; is = refl; entered = e.1 })
  builds m w c h at entry (Err why) result made e =
      subst (FillsObject m c h at entry content) (sym e.0) (record { left = w; none = made; back = e.1 })

-- ---- the steps

module _ {a : WindowState} (b : IsSegment a.bytes) (key : names.Key) (content : Content) where
  no-space : {A : Type 0} (f : A → Answer) {command : Command} (say : Object → Answer)
      → ((d : Directory) → object_at d key ≡ None
      → effect d command ≡ with_new_object d key content (λ o e. Reply (say o) e)) → (c : WindowState) (why : Refusal)
      → why ≡ NoSpace → IsMadeNever a c key content → Constructs a c command (answer_of f) (Err why)
  no-space f {command} say asks c why e d = record {
    step = λ mode writing.
        subst (λ (r : Refusal). TakesStep (record { cut = a; mode = mode }) (record { cut = c; mode = mode }) command
        (Refused r)) (sym e) (makes-nothing command say writing d.place asks d.each);
    refused = λ t. absurd (false≢true (sym (ap (λ (r : Refusal). is_untouched (Refused r)) e) ∙ t));
  }

  none-constructed : (c : WindowState) (why : Refusal) → why ≡ NoSpace → IsMadeNever a c key content
      → Constructs a c (asked.Construct key content) handle_answer (Err why)
  none-constructed = no-space Made made_handle (λ d e. ap (made_for d key content) e)

  none-found : (c : WindowState) (why : Refusal) → why ≡ NoSpace → IsMadeNever a c key content
      → Constructs a c (asked.FindOrConstruct key content) found_object_answer (Err why)
  none-found = no-space found_object found (λ d e. ap (finds d key content) e)

  module _ (entry : Option PendingEntry) (m : WindowState) {c : WindowState} (h at : ℕ) where
    made-now : {n : ℕ} → BeginsObjectFor a m key content h at entry
        → FillsObject m c h at entry content (let r = Ok n in r)
        → IsMadeNow a c key content n
    made-now {n} g r =
        subst (λ (n : ℕ). IsMadeNow a c key content n) (sym r.is) (value-built content b h at entry g r.value r.entered)

    made-never : (why : Refusal) → BeginsObjectFor a m key content h at entry
        → FillsObject m c h at entry content (let r = Err why in r) → IsMadeNever a c key content
    made-never why g r = value-not_built content b h at entry g r.none r.back

    -- a pending object is built, or its blocks had no space
    pub construct-built : (r : Result ℕ Refusal) → BeginsObjectFor a m key content h at entry
        → FillsObject m c h at entry content r → Constructs a c (asked.Construct key content) handle_answer r
    construct-built (Ok n) g r =
        let d = made-now g r in
        record {
          step = λ mode writing. makes (asked.Construct key content) made_handle writing d.place
              (λ d e. ap (made_for d key content) e) (λ d n. ap Made (sym n.at)) d.each;
          refused = tt;
        }
    construct-built (Err why) g r = none-constructed c why r.none.refusal (made-never why g r)

    -- an object that was begun and filled is constructed
    pub found-built : (r : Result ℕ Refusal) → BeginsObjectFor a m key content h at entry
        → FillsObject m c h at entry content r
        → Constructs a c (asked.FindOrConstruct key content) found_object_answer
        (with_count (count_of (bare content)) r)
    found-built (Ok n) g r =
        let d = made-now g r in
        record {
          step = λ mode writing. makes (asked.FindOrConstruct key content) found writing d.place
              (λ d e. ap (finds d key content) e) (λ d n. λ j. Found (sym n.at j) (n.count j)) d.each;
          refused = tt;
        }
    found-built (Err why) g r = none-found c why r.none.refusal (made-never why g r)

  -- the object is not pending
  pub construct-not_begun : (why : Refusal) (c : WindowState) → BeginsObjectErr a c key (kind_of (bare content))
      (value_len (bare content)) why → Constructs a c (asked.Construct key content) handle_answer (Err why)
  construct-not_begun Exists c t = record {
    step = λ mode writing. subst (λ (u : WindowState). TakesStep (record { cut = a; mode = mode })
        (record { cut = u; mode = mode }) (asked.Construct key content) (Refused Exists)) (sym t.same)
        (constructs-exists key content writing (key-taken key content t));
    refused = λ e. t.same;
  }
  construct-not_begun NoSpace c t = none-constructed c NoSpace refl (value-not_begun key content t)
  construct-not_begun why c t = absurd t

  -- the case in which no object has the key
  pub found-not_begun : (why : Refusal) {c : WindowState} → object_at b.0 key ≡ None
      → BeginsObjectErr a c key (kind_of (bare content)) (value_len (bare content)) why
      → Constructs a c (asked.FindOrConstruct key content) found_object_answer (Err why)
  found-not_begun Exists none t = absurd (let o = key-taken key content t b.0 b.1 in none-some o.0 (sym none ∙ o.1))
  found-not_begun NoSpace {c} none t = none-found c NoSpace refl (value-not_begun key content t)
  found-not_begun why none t = absurd t

  -- an object has the key, and stays as it is
  pub found-all : {h : ℕ} {r : Result (ℕ × ℕ) Refusal} → ((mode : Mode) → AnswersWith (record { cut = a; mode = mode })
      (λ d. handle_at d key) (Some h)) → ((o : Object) → IsObjectInBlock a.bytes h o → r ≡ pair_of_kind o
      (kind_of (bare content))) → FindsOrConstructs a a key content r
  found-all {r} there each = record {
    constructs = record {
      step = λ mode writing. found-there key content writing (there mode) each;
      refused = unchanged r;
    };
    found = λ d st has. refl;
  }
    where
      unchanged : (r : Result (ℕ × ℕ) Refusal) → IfErr r (λ why. is_untouched (Refused why) ≡ true → a ≡ a)
      unchanged (Ok v) = tt
      unchanged (Err why) = λ t. refl

-- ---- under an entry

-- a look-up finds no object
pub no-object : {a : WindowState} (b : IsSegment a.bytes) (i : Index) (e : Entry) (at : ℕ) (key : names.Key)
    (name : List ℕ) (kind : Kind) → IsNewKeyOf i e key name kind → IsAbsentAt a i e at → object_at b.0 key ≡ None
no-object {a} b i e at key name kind new away =
    (lookup-absent i a e key b.1.denotes (key-seeks i e key name kind new) (away-in i e at b.1.denotes away)).none

-- and so there is no object
pub found-absent : {a c : WindowState} (i : Index) (e : Entry) (at : ℕ) {key : names.Key} (name : List ℕ) (kind : Kind)
    {content : Content} {r : Result (ℕ × ℕ) Refusal} → IsNewKeyOf i e key name kind → IsAbsentAt a i e at
    → Constructs a c (asked.FindOrConstruct key content) found_object_answer r → FindsOrConstructs a c key content r
found-absent {a} i e at {key} name kind new away done = record {
  constructs = done;
  found = λ d st has. absurd (none-some has.0 (sym (lookup-absent i a e key st.denotes (key-seeks i e key name kind new)
      (away-in i e at st.denotes away)).none ∙ has.1));
}

-- ---- the segment afterwards, as its view before the call is named

module _ {A : Type 0} {s t : SegmentState} (view : s ≡ t) {c : WindowState} {command : Command}
    {answer : Result A Refusal → Answer} {r : Result A Refusal} (done : Constructs s.cut c command answer r) where
  -- the constructed object is the step of the directory
  pub made-step : is_read_only t.mode ≡ false → TakesStep t (record s { cut = c }) command (answer r)
  made-step writing = subst (λ (u : SegmentState). TakesStep u (record s { cut = c }) command (answer r)) view
      (done.step s.mode (ap (λ (u : SegmentState). is_read_only u.mode) view ∙ writing))

  -- a segment with the object is a segment
  pub made-segment : is_read_only t.mode ≡ false → IsSegment s.cut.bytes → IsSegment c.bytes
  made-segment writing b = step-segment s (record s { cut = c }) command (answer r)
      (done.step s.mode (ap (λ (u : SegmentState). is_read_only u.mode) view ∙ writing)) b

-- Calls that construct an array of numbers from items, as in the code.

-- the numbers for which the machine allocates blocks: the items taken, or zeros if there are too few
abbrev pub asked_for : ℕ → List ℤ → List ℤ
asked_for count zs = if nat_lt (length zs) count then replicate count (pos 0) else take count zs

module _ (old : SegmentState) (key : names.Key) (k : ScalarKind) (count : ℕ) (zs : List ℤ)
    (writing : is_read_only old.mode ≡ false) where
  abbrev c : Command
  c = asked.ConstructIt key k count zs

  plan-of : (d : Directory) {few : Bool} → object_at d key ≡ None → nat_lt (length zs) count ≡ few
      → effect d c ≡ by-items d key k count zs few
  plan-of d e f = ap (from-items d key k count zs) e ∙ ap (by-items d key k count zs) f

  -- an object has the key, and no item is taken
  pub items-exists : ((d : Directory) → DenotesCurrent old.cut.bytes d → (o : Object) × (object_at d key ≡ Some o))
      → TakesStep old old c (Refused Exists)
  items-exists each = by_no_change old c (Refused Exists) (λ d st. step-refuse old.mode d c Exists (open-writing
      old.mode c writing) (ap (from-items d key k count zs) (each d st).1))

  -- there are enough items, and the object is made of them
  pub items-made : {new : WindowState} (h : ℕ) → SameSurroundings old.cut new → count ≤ length zs
      → ((d : Directory) → DenotesCurrent old.cut.bytes d → (object_at d key ≡ None)
      × IsNewObject new d key (asked.Numbers k (take count zs)) h) → TakesStep old (record old { cut = new }) c (Made h)
  items-made h place enough each = makes c made_handle writing place
      (λ d e. plan-of d e (le-ltb (length zs) count enough)) (λ d n. ap Made (sym n.at)) each

  -- there are too few items, and all blocks are freed
  pub items-few : {new : WindowState} → SameSurroundings old.cut new → length zs < count
      → ((d : Directory) → DenotesCurrent old.cut.bytes d
      → (object_at d key ≡ None) × IsMet d key (asked.Numbers k (replicate count (pos 0)))
      × Denotes current new.bytes d) → TakesStep old (record old { cut = new }) c (Refused OutOfRange)
  items-few {new} place few each = by_step c (record { mode = refl; place = place }) (λ d st.
      let all = each d st in
      lands d (record {
        is = step-plan old.mode d c (open-writing old.mode c writing) (plan-of d all.0 (lt-ltb (length zs) count few))
            ∙ all.1.met (λ o e. Reply (Refused OutOfRange) d);
        denotes = all.2;
      }))

  none-if : (d : Directory) (few : Bool) → object_at d key ≡ None → nat_lt (length zs) count ≡ few
      → ((next : Object → Directory → Plan) → perform d (live d) (with_new_object d key
      (asked.Numbers k (if few then replicate count (pos 0) else take count zs)) next) ≡ (Refused NoSpace, d))
      → step old.mode d c ≡ (Refused NoSpace, d)
  none-if d true e f none = step-plan old.mode d c (open-writing old.mode c writing) (plan-of d e f)
      ∙ none (λ o e. Reply (Refused OutOfRange) d)
  none-if d false e f none = step-plan old.mode d c (open-writing old.mode c writing) (plan-of d e f)
      ∙ none (λ o e. Reply (Made (handle o.extent)) e)

  -- an allocation fails, and no item is taken
  pub items-none : {new : WindowState} → SameSurroundings old.cut new
      → ((d : Directory) → DenotesCurrent old.cut.bytes d
      → (object_at d key ≡ None) × IsNoObject new d key (asked.Numbers k (asked_for count zs)))
      → TakesStep old (record old { cut = new }) c (Refused NoSpace)
  items-none {new} place each = by_step c (record { mode = refl; place = place }) (λ d st.
      let both = each d st in
      lands d
      (record { is = none-if d (nat_lt (length zs) count) both.0 refl both.1.refused; denotes = both.1.denotes }))

-- this many equal numbers need as many bytes as in the machine
equal-len : (k : ScalarKind) (name : List ℕ) (count : ℕ) (z : ℤ)
    → room_for name (size_of k * count) ≡ object_len name (Numbers k (replicate count z))
equal-len k name count z = ap (λ m. head_len + padded (length name) + size_of k * m) (sym (length-replicate count z))

-- if no item was taken, the machine allocates for zeros
asked-long : {count : ℕ} → 1 ≤ count → length (asked_for count []) ≡ count
asked-long {count} low = ap (λ (b : Bool). length (if b then replicate count (pos 0) else take count []))
    (lt-ltb 0 count low) ∙ length-replicate count (pos 0)

-- ---- without a key

abbrev numbers_in : ScalarKind → List ℤ → Extent → Object
numbers_in k zs x = record { class = Anonymous; name = []; value = Numbers k zs; extent = x }

anonymous-met : {a m : WindowState} {d : Directory} (k : ScalarKind) (zs : List ℤ) {n h : ℕ} → Denotes current a.bytes d
    → n ≡ object_len [] (Numbers k zs) → AllocatesOk current a m n ObjectRole h
    → IsMet d names.NoKey (asked.Numbers k zs)
anonymous-met {a} {d} k zs said len took =
    let x : Extent = took.extent in
    record {
      object = numbers_in k zs x;
      after = with_object d (numbers_in k zs x);
      left = resized (live d) x;
      met = λ next. perform-new d (live d) ObjectRole (object_len [] (Numbers k zs))
          (λ y. next (numbers_in k zs y) (with_object d (numbers_in k zs y))) x
          (sym (λ j. place (denotes-live current a.bytes d said j) (len j) ObjectRole) ∙ took.placed);
    }

-- ---- the calls

module _ (S : Type 0) {A : Type 0} (gives : S → Option A → S → Type 0) (whole : A → ℤ) (s : SegmentState)
    (b : IsSegment s.cut.bytes) (key : names.Key) (k : ScalarKind) (count : ℕ) (writing : is_read_only s.mode ≡ false)
    (low : 1 ≤ count) (high : count ≤ 1048576) (before after : S) where
  many : (xs : List A) → length xs ≡ count → length (map whole xs) ≡ count
  many xs e = length-map xs whole ∙ e

  whole-list : (xs : List A) → length xs ≡ count → take count (map whole xs) ≡ map whole xs
  whole-list xs e = let l = many xs e in take_all count (map whole xs) (omega arith)

  good-items : (xs : List A) → length xs ≡ count → IsTrue (list_all (is_value k) (map whole xs))
      → IsTrue (is_good_value (Numbers k (map whole xs)))
  good-items xs e all = let l = many xs e in numbers-value k (map whole xs) (omega arith) (omega arith) all

  -- the value is that of the items
  made-items : {m w : WindowState} (h at : ℕ) → (f : Fills gives whole m w k (h + at) count before after (Ok tt))
      → MakesValueOk (asked.Numbers k (map whole f.items)) m w (record { handle = h; at = at })
  made-items {m} {w} h at f =
      numbers-made k (map whole f.items) (good-items f.items f.taken.1 f.values) (subst (λ n. ChangesBytes current m w
      (h + at) (size_of k * n)) (sym (length-map f.items whole)) f.change) f.content

  begun-items : (entry : Option PendingEntry) (m : WindowState) (h at : ℕ) (xs : List A) → length xs ≡ count
      → BeginsObjectOk s.cut m key (Scalar k) count (size_of k * count) h at entry
      → BeginsObjectOk s.cut m key (Scalar k) (length (map whole xs)) (size_of k * length (map whole xs)) h at entry
  begun-items entry m h at xs e g =
      subst (λ n. BeginsObjectOk s.cut m key (Scalar k) n (size_of k * n) h at entry) (sym (many xs e)) g

  -- the object is made of the items
  steps-made : (entry : Option PendingEntry) {m w : WindowState} (c : WindowState) (h at : ℕ)
      → BeginsObjectOk s.cut m key (Scalar k) count (size_of k * count) h at entry
      → (f : Fills gives whole m w k (h + at) count before after (Ok tt)) → LeadsThere w c h entry
      → TakesStep s (record s { cut = c }) (asked.ConstructIt key k count (map whole f.items)) (Made h)
  steps-made entry {m} {w} c h at g f led =
      let zs = map whole f.items in let long = many f.items f.taken.1 in
      let now = value-built (asked.Numbers k zs) b h at entry (begun-items entry m h at f.items f.taken.1 g)
      (made-items h at f) led in
      items-made s key k count zs writing h now.place (omega arith) (λ d st.
      let both = now.each d st in
      (both.0, subst (λ ys. IsNewObject c d key (asked.Numbers k ys) h) (sym (whole-list f.items f.taken.1)) both.1))

  -- no object had the key, and the requests for zeros are met
  begun-met : (entry : Option PendingEntry) (m : WindowState) (h at : ℕ)
      → BeginsObjectOk s.cut m key (Scalar k) count (size_of k * count) h at entry → {d : Directory}
      → DenotesCurrent s.cut.bytes d
      → (object_at d key ≡ None) × IsMet d key (asked.Numbers k (replicate count (pos 0)))
  begun-met None m h at g {d} st =
      subst (λ (q : names.Key). (object_at d q ≡ None) × IsMet d q (asked.Numbers k (replicate count (pos 0))))
      (sym g.is) (
        no_key-none d.objects,
        anonymous-met k (replicate count (pos 0)) st.denotes (equal-len k [] count (pos 0)) g.takes,
      )
  begun-met (Some e) m h at g st = (
    (lookup-absent e.index s.cut g.entry key st.denotes (key-seeks e.index g.entry key g.name (Scalar k) g.is)
        (away-in e.index g.entry e.place st.denotes g.absent)).none,
    numbers-met e.index g.entry g.name k (replicate count (pos 0)) st.denotes g.is
        (equal-len k g.name count (pos 0)) g.requested,
  )

  -- its blocks are freed
  steps-few : (entry : Option PendingEntry) {why : Refusal} {m w c : WindowState} (h at : ℕ)
      → BeginsObjectOk s.cut m key (Scalar k) count (size_of k * count) h at entry
      → (f : Fills gives whole m w k (h + at) count before after (Err why)) → RestoresBlocks s.cut c
      → TakesStep s (record s { cut = c }) (asked.ConstructIt key k count (map whole f.items)) (Refused OutOfRange)
  steps-few entry {m} {c} h at g f back =
      items-few s key k count (map whole f.items) writing back.keeps.place (let l = length-map f.items whole in
      let few = f.taken.2 in omega arith)
      (λ d st. let met = begun-met entry m h at g st in (met.0, met.1, restored-denotes s.cut c d st.denotes back))

  -- ---- the pending object

  most : (filled : Result (Unit {0}) Refusal) {m w : WindowState} {from : ℕ}
      → (f : Fills gives whole m w k from count before after filled) → size_of k * length f.items ≤ size_of k * count
  most (Ok u) f =
      let e : size_of k * length f.items ≡ size_of k * count = ap (λ j. size_of k * j) f.taken.1 in omega arith
  most (Err why) f = mul-le-mul_left (size_of k) (let few = f.taken.2 in omega arith)

  loose : (entry : Option PendingEntry) (filled : Result (Unit {0}) Refusal) (m w : WindowState) (h at : ℕ)
      → BeginsObjectOk s.cut m key (Scalar k) count (size_of k * count) h at entry
      → Fills gives whole m w k (h + at) count before after filled → WritesUnindexedObject s.cut w h entry
  loose None filled m w h at g f = record {
    len = room_for [] (size_of k * count);
    taken = g.taken;
    takes = g.takes;
    change = headed-change (size_of k * count) g.headed f.change (most filled f);
  }
  loose (Some e) filled m w h at g f = record {
    len = room_for g.name (size_of k * count);
    taken = g.taken;
    requested = g.requested;
    change = headed-change (size_of k * count) g.headed f.change (most filled f);
  }

  -- ---- all together

  -- if the object is filled an entry can lead to it, and if not its blocks can be freed
  pub fills-ending : (entry : Option PendingEntry) (filled : Result (Unit {0}) Refusal) {m w : WindowState} (h at : ℕ)
      → BeginsObjectOk s.cut m key (Scalar k) count (size_of k * count) h at entry
      → Fills gives whole m w k (h + at) count before after filled → IsEnding w h entry filled
  fills-ending entry (Ok tt) {m} {w} h at g f = value-ready (asked.Numbers k (map whole f.items)) s.cut b key h at entry
      (begun-items entry m h at f.items f.taken.1 g) (made-items h at f)
  fills-ending entry (Err why) {m} {w} h at g f = (s.cut, loose entry (Err why) m w h at g f)

  -- the object is filled, and then its entry is added or its blocks are freed
  pub takes : (entry : Option PendingEntry) (filled : Result (Unit {0}) Refusal) (m w c : WindowState) (h at : ℕ)
      (result : Result ℕ Refusal) → BeginsObjectOk s.cut m key (Scalar k) count (size_of k * count) h at entry
      → Fills gives whole m w k (h + at) count before after filled → Ends w c h entry filled result
      → ConstructsFromItems gives whole s (record s { cut = c }) key k count before after result
  takes entry (Ok tt) m w c h at result g f fin = subst (λ (r : Result ℕ Refusal). ConstructsFromItems gives whole s
      (record s { cut = c }) key k count before after r) (sym fin.0)
      (record { items = f.items; step = steps-made entry c h at g f fin.1; taken = f.taken; unchanged = tt })
  takes entry (Err why) m w c h at result g f fin = subst (λ (r : Result ℕ Refusal). ConstructsFromItems gives whole s
      (record s { cut = c }) key k count before after r) (sym (fin.0 ∙ ap Err f.taken.0)) (record {
        items = f.items;
        step = steps-few entry h at g f (fin.1 s.cut (loose entry (Err why) m w h at g f));
        taken = (f.taken.1, f.taken.2);
        unchanged = tt;
      })

-- ---- the call fails before an item is taken

module _ (S : Type 0) {A : Type 0} (gives : S → Option A → S → Type 0) (whole : A
    → ℤ) {s : SegmentState} (key : names.Key) (k : ScalarKind) (count : ℕ) (at : S) where
  -- a segment that is only read takes no items
  pub takes-nothing : is_read_only s.mode ≡ true → ConstructsFromItems gives whole s s key k count at at (Err ReadOnly)
  takes-nothing e = record {
    items = [];
    step = refuses-read_only s (asked.ConstructIt key k count []) e refl;
    taken = (refl, refl);
    unchanged = refl;
  }

  exists-step : {c : WindowState} → is_read_only s.mode ≡ false → RefusesKey s.cut c key (Scalar k)
      → TakesStep s (record s { cut = c }) (asked.ConstructIt key k count []) (Refused Exists)
  exists-step writing t = subst (λ (u : WindowState).
      TakesStep s (record s { cut = u }) (asked.ConstructIt key k count [])
      (Refused Exists)) (sym t.same) (items-exists s key k count [] writing (key-taken key (asked.Numbers k []) t))

  none-step : (c : WindowState) → is_read_only s.mode ≡ false → 1 ≤ count → BeginsObjectErr s.cut c key (Scalar k)
      (size_of k * count) NoSpace → TakesStep s (record s { cut = c }) (asked.ConstructIt key k count [])
      (Refused NoSpace)
  none-step c writing low t =
      let never = value-not_begun key (asked.Numbers k (asked_for count []))
      (subst (λ n. BeginsObjectErr s.cut c key (Scalar k) (size_of k * n) NoSpace) (sym (asked-long low)) t) in
      items-none s key k count [] writing never.place never.each

  pub takes-none : (why : Refusal) (c : WindowState) → is_read_only s.mode ≡ false → 1 ≤ count
      → BeginsObjectErr s.cut c key
      (Scalar k) (size_of k * count) why
      → ConstructsFromItems gives whole s (record s { cut = c }) key k count at at (Err why)
  takes-none Exists c writing low t = record {
    items = [];
    step = exists-step writing t;
    taken = (refl, refl);
    unchanged = ap (λ (u : WindowState). let r : SegmentState = record s { cut = u } in r) t.same;
  }
  takes-none NoSpace c writing low t = record {
    items = [];
    step = none-step c writing low t;
    taken = (refl, refl);
    unchanged = tt;
  }
  takes-none why c writing low t = absurd t

-- a shape of this many numbers
pub begun-numbers : (a m : WindowState) (key : names.Key) {k : ScalarKind} {count : ℕ} (h at : ℕ)
    (entry : Option PendingEntry) {shape : ObjectShape}
    → shape ≡ numbers_shape k count → BeginsObjectOk a m key shape.kind shape.count shape.len h at entry
    → BeginsObjectOk a m key (Scalar k) count (size_of k * count) h at entry
begun-numbers a m key h at entry same begun =
    subst (λ (j : ObjectShape). BeginsObjectOk a m key j.kind j.count j.len h at entry) same begun

-- ---- the same, as the segment is named before the call, and its shape is made for it

module _ (S : Type 0) {A : Type 0} (gives : S → Option A → S → Type 0) (whole : A
    → ℤ) {s t : SegmentState} (view : s ≡ t)
    (b : IsSegment s.cut.bytes) (key : names.Key) (k : ScalarKind) (count : ℕ) {shape : ObjectShape}
    (same : shape ≡ numbers_shape k count) (writing : is_read_only t.mode ≡ false) (low : 1 ≤ count) (before : S) where
  writes : is_read_only s.mode ≡ false
  writes = subst (λ (u : SegmentState). is_read_only u.mode ≡ false) (sym view) writing

  none-taken : {why : Refusal} (c : WindowState) → BeginsObjectErr s.cut c key shape.kind shape.len why
      → ConstructsFromItems gives whole s (record s { cut = c }) key k count before before (Err why)
  none-taken {why} c not = takes-none S gives whole key k count before why c writes low
      (subst (λ (j : ObjectShape). BeginsObjectErr s.cut c key j.kind j.len why) same not)

  -- a refused construction leaves a segment
  pub refused-segment : (why : Refusal) (c : WindowState) → BeginsObjectErr s.cut c key shape.kind shape.len why
      → IsSegment c.bytes
  refused-segment why c not = step-segment s (record s { cut = c }) _ _ (none-taken c not).step b

  -- a refused construction takes no items
  pub refused-items : {why : Refusal} (c : WindowState) {r : Result ℕ Refusal} → r ≡ Err why
      → BeginsObjectErr s.cut c key shape.kind
      shape.len why → ConstructsFromItems gives whole t (record s { cut = c }) key k count before before r
  refused-items {why} c is not =
      subst (λ (q : Result ℕ Refusal). ConstructsFromItems gives whole t (record s { cut = c }) key k
      count before before q) (sym is) (subst (λ (u : SegmentState).
      ConstructsFromItems gives whole u (record s { cut = c }) key k count
      before before (Err why)) view (none-taken c not))

  module _ (m : WindowState) (h at : ℕ) (entry : Option PendingEntry)
      (begun : BeginsObjectOk s.cut m key shape.kind shape.count shape.len h at entry) where
    -- the array was begun
    pub begun-so : BeginsObjectOk s.cut m key (Scalar k) count (size_of k * count) h at entry
    begun-so = begun-numbers s.cut m key h at entry same begun

    module _ {after : S} (c : WindowState) (result : Result ℕ Refusal) (done : (old : WindowState) (q : names.Key)
        → IsSegment old.bytes → BeginsObjectOk old m q (Scalar k) count (size_of k * count) h at entry
        → TakesItemsIn gives whole old c q k count before after result) where
      finished : ConstructsFromItems gives whole s (record s { cut = c }) key k count before after result
      finished = done s.cut key b begun-so s.mode writes

      pub items-segment : IsSegment c.bytes
      items-segment = step-segment s (record s { cut = c }) _ _ finished.step b

-- ---- found, or made of items

module _ (S : Type 0) {A : Type 0} (gives : S → Option A → S → Type 0) (whole : A
    → ℤ) {a : WindowState} (key : names.Key) (k : ScalarKind) (count : ℕ) (before : S) where
  -- an object has the key
  pub found-items : {h : ℕ} {r : Result (ℕ × ℕ) Refusal}
      → ((mode : Mode) → AnswersWith (record { cut = a; mode = mode })
      (λ d. handle_at d key) (Some h)) → ((o : Object) → IsObjectInBlock a.bytes h o → r ≡ pair_of_kind o (Scalar k))
      → FindsOrTakesIn gives whole a a key k count before before r
  found-items {h} there each mode writing = inr (inl (record {
    writing = writing;
    is = record {
      answers = λ d st.
          let o = here a.bytes d key h st.denotes ((there mode).answers d st) in
          ap (λ q. Some q) (each o.object o.stands)
          ∙ sym (ap (option_map (λ (p : Object). pair_of_kind p (Scalar k))) o.is);
    };
    stays = record { segment = refl; items = refl };
  }))

  -- no object has the key: one is made, or the call fails
  pub made-items_or_none : {c : WindowState} {after : S} (r : Result ℕ Refusal)
      → ((d : Directory) → DenotesCurrent a.bytes d
      → object_at d key ≡ None) → TakesItemsIn gives whole a c key k count before after r
      → FindsOrTakesIn gives whole a c key k count before after (with_count count r)
  made-items_or_none (Ok h) none done mode writing =
      inr (inr (record { writing = writing; missing = none; takes = done mode writing; counted = refl }))
  made-items_or_none (Err why) none done mode writing =
      inr (inr (record { writing = writing; missing = none; takes = done mode writing; counted = tt }))

  -- the object is not pending, with the shape of this many numbers
  pub none-items : {c : WindowState} {shape : ObjectShape} {j : ScalarKind} {why : Refusal}
      → shape ≡ numbers_shape j count → j ≡ k → 1 ≤ count
      → BeginsObjectErr a c key shape.kind shape.len why
      → TakesItemsIn gives whole a c key k count before before (Err why)
  none-items {c} {why = why} same is low not mode writing =
      takes-none S gives whole key k count before why c writing low
      (subst (λ (l : ScalarKind). BeginsObjectErr a c key (Scalar l) (size_of l * count) why) is
      (subst (λ (q : ObjectShape). BeginsObjectErr a c key q.kind q.len why) same not))

-- the key of an entry suits it
pub shaped-key : (i : Index) (e : Entry) (key : names.Key) (name : List ℕ) {shape : ObjectShape} {j k : ScalarKind}
    {count : ℕ}
    → shape ≡ numbers_shape j count → j ≡ k → IsNewKeyOf i e key name (Scalar k) → IsNewKeyOf i e key name shape.kind
shaped-key i e key name same is new =
    subst (IsNewKeyOf i e key name) (sym (ap (λ (q : ObjectShape). q.kind) same ∙ ap Scalar is)) new

-- no object has the key of an entry that does not exist
pub no-objects : {a : WindowState} (i : Index) (e : Entry) (at : ℕ) (key : names.Key) (name : List ℕ) (kind : Kind)
    → IsNewKeyOf i e key name kind → IsAbsentAt a i e at → (d : Directory) → DenotesCurrent a.bytes d
    → object_at d key ≡ None
no-objects {a} i e at key name kind new away d st =
    (lookup-absent i a e key st.denotes (key-seeks i e key name kind new) (away-in i e at st.denotes away)).none

-- ---- the segment afterwards

-- a segment in which the object was found or constructed
pub found-segment : {S A : Type 0} {gives : S → Option A → S → Type 0} {whole : A
    → ℤ} {a c : WindowState} {key : names.Key}
    {k : ScalarKind} {count : ℕ} {before after : S} {r : Result (ℕ × ℕ) Refusal} → IsSegment a.bytes
    → FindsOrTakesIn gives whole a c key k count before after r → IsSegment c.bytes
found-segment b done = elim (done Write refl) [
  | inl o ↦ subst (λ (u : SegmentState). IsSegment u.cut.bytes) (sym o.stays.segment) b
  | inr m ↦ elim m [
    | inl o ↦ subst (λ (u : SegmentState). IsSegment u.cut.bytes) (sym o.stays.segment) b
    | inr o ↦ step-segment _ _ _ _ o.takes.step b
  ]
]
