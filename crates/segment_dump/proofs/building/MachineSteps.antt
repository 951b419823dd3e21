-- The steps of the directory machine by which a segment is built, and what each leads to.
use Rattle.segment_dump.proofs.Common.{◌≡◌, ℕ, ◌+◌, ◌<◌, ◌≤◌, ◌==◌, ◌&&◌, Bool, true, false, nat_le, nat_lt, cond, List}
use Rattle.segment_dump.proofs.Common.{[], ◌∷◌, ◌++◌, Option, Some, None, Result, Ok, Err, if◌then◌else◌, refl, sym, ap}
use Rattle.segment_dump.proofs.Common.{subst, ◌∙◌, arith, append_assoc, find, flat_map, AllByRecursion, and_parts}
use Rattle.segment_dump.proofs.Common.{eq-eqb, nat_tests, flat_map-append, append-nil, Extent, end_of, handle, place}
use Rattle.segment_dump.proofs.Common.{room, current, Kind, Refusal, NotFound, WrongKind, Command, code_of, same_kind}
use Rattle.segment_dump.proofs.Common.{Key, ByHandle, Write, Directory, IsDirectory, Object, Value, extents_of, has_key}
use Rattle.segment_dump.proofs.Common.{kind_of, live, object_at, rises_from, table_extents, value_extents, Plan}
use Rattle.segment_dump.proofs.Common.{perform, with, changed, effect, found_at, step, step_of_kind, EndBy}
use Rattle.segment_dump.proofs.Common.{HasExactRoom, Head, IsFilling, Site, all_extents, total, DumpItem}
use Rattle.segment_manager.specs.Directory.{put_object, replace_object}
use Rattle.segment_dump.proofs.space.OneGap.{IsRest, IsTaken, room-taken, room-with}

-- ---- a step in a segment that is open for writing

-- a step of a segment that is written is its plan performed
pub writes : (d : Directory) (c : Command) → step Write d c ≡ perform d (live d) (effect d c)
unfolding step
writes d c = refl

-- a step for the object's kind is the step
pub of-kind : (d : Directory) (key : Key) (kind : Kind) (c : Command) (o : Object) → object_at d key ≡ Some o
    → kind_of o.value ≡ kind → step_of_kind Write d key kind c ≡ perform d (live d) (effect d c)
unfolding step_of_kind
of-kind d key kind c o e k =
    let same : same_kind kind (kind_of o.value) ≡ true =
    eq-eqb (code_of kind) (code_of (kind_of o.value)) (ap code_of (sym k)) in
    ap (λ (r : Option Object). perform d (live d)
    (with (elim r as (λ _. Result Object Refusal) [ None ↦ Err NotFound | Some o ↦ Ok o ]) (λ o.
    if same_kind kind (kind_of o.value) then effect d c else Plan.Refuse WrongKind))) e
    ∙ ap (λ b. perform d (live d) (if b then effect d c else Plan.Refuse WrongKind)) same

-- on the object of a key
pub at-object : (d : Directory) (key : Key) (o : Object) (f : Object → Plan) → object_at d key ≡ Some o
    → with (found_at d key) f ≡ f o
at-object d key o f e = ap (λ (r : Option Object).
    with (elim r as (λ _. Result Object Refusal) [ None ↦ Err NotFound | Some o ↦ Ok o ]) f) e

-- ---- the last of some objects

abbrev pub AreBefore : Object → List Object → Type 0
AreBefore o = AllByRecursion (λ (p : Object). p.extent.offset < o.extent.offset)

le-parts : (n m : ℕ) (b : Bool) → (nat_le n m && b) ≡ true → (n ≤ m) × (b ≡ true)
le-parts n m b e = let p = and_parts (nat_le n m) b e in (let l : n ≤ m = grind (arith, nat_tests) in l, p.1)

last-rises : (n : ℕ) (os : List Object) (o : Object) → rises_from n (os ++ o ∷ []) ≡ true → n ≤ o.extent.offset
last-rises n [] o e = (le-parts n o.extent.offset true e).0
last-rises n (p ∷ os) o e = let q = le-parts n p.extent.offset (rises_from (p.extent.offset + 1) (os ++ o ∷ [])) e
    in omega (arith, q.0, last-rises (p.extent.offset + 1) os o q.1)

are-before : (n : ℕ) (os : List Object) (o : Object) → rises_from n (os ++ o ∷ []) ≡ true → AreBefore o os
are-before n [] o e = tt
are-before n (p ∷ os) o e =
    let q = le-parts n p.extent.offset (rises_from (p.extent.offset + 1) (os ++ o ∷ [])) e in
    (omega (arith, last-rises (p.extent.offset + 1) os o q.1), are-before (p.extent.offset + 1) os o q.1)

other-handle : (h : ℕ) (p o : Object) → h ≡ handle o.extent → p.extent.offset < o.extent.offset
    → (h == handle p.extent) ≡ false
other-handle h p o e l = grind (arith, nat_tests)

find-last : (h : ℕ) (os : List Object) (o : Object) → h ≡ handle o.extent → AreBefore o os
    → find (has_key (ByHandle h)) (os ++ o ∷ []) ≡ Some o
find-last h [] o e a = ap (λ b. cond b (Some o) None) (eq-eqb h (handle o.extent) e)
find-last h (p ∷ os) o e a = ap (λ b. cond b (Some p) (find (has_key (ByHandle h)) (os ++ o ∷ [])))
    (other-handle h p o e a.0) ∙ find-last h os o e a.1

replace-last : (new : Object) (os : List Object) (o : Object) → handle new.extent ≡ handle o.extent → AreBefore o os
    → replace_object new (os ++ o ∷ []) ≡ os ++ new ∷ []
replace-last new [] o e a = ap (λ b. if b then new ∷ [] else o ∷ []) (eq-eqb (handle new.extent) (handle o.extent) e)
replace-last new (p ∷ os) o e a =
    ap (λ b. if b then new ∷ (os ++ o ∷ []) else p ∷ replace_object new (os ++ o ∷ []))
    (other-handle (handle new.extent) p o e a.0) ∙ ap (λ l. p ∷ l) (replace-last new os o e a.1)

behind-test : (m n : ℕ) → m ≤ n → nat_lt n m ≡ false
behind-test m n h = grind (arith, nat_tests)

-- an object after all others is the last
pub put-last : (o : Object) (os : List Object)
    → AllByRecursion (λ (p : Object). p.extent.offset ≤ o.extent.offset) os → put_object o os ≡ os ++ o ∷ []
put-last o [] a = refl
put-last o (p ∷ os) a = ap (λ b.
    if b then o ∷ p ∷ os else p ∷ put_object o os) (behind-test p.extent.offset o.extent.offset a.0)
    ∙ ap (λ l. p ∷ l) (put-last o os a.1)

-- ---- the object that is being filled

module _ (d : Directory) (site : Site) (done : List DumpItem) (head : Head) (v : Value) (rest : ℕ)
    (i : IsDirectory current d) (f : IsFilling d site done head v rest) where
  before-it : AreBefore f.object f.before
  before-it = are-before 0 f.before f.object (subst (λ os. rises_from 0 os ≡ true) f.objects i.by_offset)

  -- the object that is being filled is there
  pub filled-at : object_at d (ByHandle head.handle) ≡ Some f.object
  filled-at = ap (find (has_key (ByHandle head.handle))) f.objects
      ∙ find-last head.handle f.before f.object f.handle_is before-it

  -- the object that is being filled is of its kind
  pub filled-kind : (kind : Kind) → kind_of v ≡ kind → kind_of f.object.value ≡ kind
  filled-kind kind e = ap kind_of f.value_is ∙ e

  -- the same object with another value
  abbrev renewed : Value → Object
  renewed w = record f.object { value = w }

  changed-objects : (w : Value) → (changed d f.object w).objects ≡ f.before ++ renewed w ∷ []
  changed-objects w = ap (replace_object (renewed w)) f.objects
      ∙ replace-last (renewed w) f.before f.object refl before-it

  pub filled-changed : (w : Value) (more : ℕ) → HasExactRoom (all_extents (changed d f.object w)) d.size more
      → IsFilling (changed d f.object w) site done head w more
  filled-changed w more r = record {
    size_is = f.size_is;
    named = f.named;
    unique = f.unique;
    before = f.before;
    object = renewed w;
    objects = changed-objects w;
    items = f.items;
    exact = f.exact;
    class_is = f.class_is;
    name_is = f.name_is;
    handle_is = f.handle_is;
    value_is = refl;
    room = r;
  }

  -- the blocks in front of those of the value, and those after
  abbrev lead_extents : List Extent
  lead_extents = flat_map extents_of f.before

  abbrev tables : List Extent
  tables = table_extents d.named ++ table_extents d.unique

  abbrev with_extents : List Extent → List Extent
  with_extents xs = (lead_extents ++ f.object.extent ∷ xs) ++ tables

  last-extents : (o : Object) → flat_map extents_of (f.before ++ o ∷ []) ++ tables ≡ (lead_extents ++ extents_of o)
      ++ tables
  last-extents o = ap (λ l. l ++ tables) (flat_map-append extents_of f.before (o ∷ [])
      ∙ ap (λ l. lead_extents ++ l) (append-nil (extents_of o)))

  extents-now : all_extents d ≡ with_extents (value_extents v)
  extents-now = ap (λ os. flat_map extents_of os ++ tables) f.objects ∙ last-extents f.object
      ∙ ap (λ w. with_extents (value_extents w)) f.value_is

  extents-then : (w : Value) → with_extents (value_extents w) ≡ all_extents (changed d f.object w)
  extents-then w = sym (ap (λ os. flat_map extents_of os ++ tables) (changed-objects w) ∙ last-extents (renewed w))

  -- no block more
  pub same-blocks : (w : Value) → value_extents w ≡ value_extents v
      → IsFilling (changed d f.object w) site done head w rest
  same-blocks w e = filled-changed w rest (subst (λ xs. HasExactRoom xs d.size rest) (extents-now
      ∙ ap with_extents (sym e) ∙ extents-then w) f.room)

  -- the room as it is now
  abbrev room_now : HasExactRoom (with_extents (value_extents v)) d.size rest
  room_now = record {
    end = f.room.end;
    start = f.room.start;
    below = subst (EndBy f.room.end) extents-now f.room.below;
    full = subst (λ xs. f.room.end ≤ 128 + total xs) extents-now f.room.full;
    room = f.room.room;
  }

  one-more : (xs : List Extent) (x : Extent)
      → (lead_extents ++ f.object.extent ∷ xs) ++ x ∷ tables ≡ with_extents (xs ++ x ∷ [])
  one-more xs x = sym (append_assoc (lead_extents ++ f.object.extent ∷ xs) (x ∷ []) tables)
      ∙ ap (λ l. l ++ tables) (append_assoc lead_extents (f.object.extent ∷ xs) (x ∷ []))

  -- one block more, from the front of the gap
  pub block-more : (w : Value) (x : Extent) (less : ℕ) → value_extents w ≡ value_extents v ++ x ∷ []
      → x.offset ≡ f.room.end → end_of x + 16 + less ≤ d.size → IsFilling (changed d f.object w) site done head w less
  block-more w x less e prefix fits =
      let more : HasExactRoom ((lead_extents ++ f.object.extent ∷ value_extents v) ++ x ∷ tables) d.size less =
      room-with (lead_extents ++ f.object.extent ∷ value_extents v) tables x d.size rest less room_now prefix fits in
      filled-changed w less (subst (λ xs. HasExactRoom xs d.size less) (one-more (value_extents v) x
      ∙ ap with_extents (sym e) ∙ extents-then w) more)

  -- a request for it
  pub requested : (n : ℕ) (role : _) (less : ℕ) → rest ≡ room n + less → IsRest less
      → IsTaken (place (live d) n role) f.room.end less d.size
  requested n role less e r =
      let h : HasExactRoom (all_extents d) d.size (room n + less) =
      record {
        end = f.room.end;
        start = f.room.start;
        below = f.room.below;
        full = f.room.full;
        room = subst (λ m. f.room.end + 16 + m ≤ d.size) e f.room.room;
      } in
      room-taken d n role less i.proper h r
