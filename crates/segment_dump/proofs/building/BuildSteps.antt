-- What the steps lead to by which an object comes to be, and how the objects of a segment are those of a dump in the
-- end.
use Rattle.seg_types.specs.Commands as asked
use Rattle.segment_dump.proofs.Common.{◌≡◌, ℕ, ◌+◌, ◌*◌, ◌<◌, ◌≤◌, ◌==◌, ℤ, Bool, true, false, nat_lt, List, [], ◌∷◌}
use Rattle.segment_dump.proofs.Common.{◌++◌, length, map, Option, Some, None, if◌then◌else◌, refl, sym, ap, subst, ◌∙◌}
use Rattle.segment_dump.proofs.Common.{arith, append_assoc, flat_map, ⊤, AllByRecursion, nat_tests, flat_map-append}
use Rattle.segment_dump.proofs.Common.{append-nil, map-append, Index, Extent, end_of, handle, room, BackingArray}
use Rattle.segment_dump.proofs.Common.{no_backing, nat_le, Command, current, Class, Anonymous, Named, Unique}
use Rattle.segment_dump.proofs.Common.{ScalarKind, Key, Write, Answer, Done, Made, Directory, IsDirectory, Object}
use Rattle.segment_dump.proofs.Common.{Value, empty, extents_of, live, named_objects, object_at, object_len}
use Rattle.segment_dump.proofs.Common.{table_extents, unique_objects, value_extents, Plan, Reply, Request, New, bare}
use Rattle.segment_dump.proofs.Common.{class_of, name_of, perform, effect, step, AllByRecursion-behind}
use Rattle.segment_dump.proofs.Common.{AllByRecursion-front, EndBy, HasExactRoom, Head, HasBuiltItems, IsFilling, Site}
use Rattle.segment_dump.proofs.Common.{all_extents, total, DumpItem, content_of, item_of_object, block_room, le-leb}
use Rattle.segment_dump.proofs.{Common.lt-leb, Common.lt-ltb, building.MachineSteps.put-last}
use Rattle.segment_dump.proofs.{building.MachineSteps.writes, texts.AllElements.AllByRecursion-append}
use Rattle.segment_dump.specs.Building.{AreExact, HasExactCapacity}
use Rattle.block_tags.specs.declared.tile.Role.TheVariants.{Object as ObjectRole}
use Rattle.seg_types.specs.declared.refusals.Refusal.TheVariants.{Exists}
use Rattle.segment_manager.specs.{Directory.with_object, Plan.with_entry, Plan.with_new_object, Plan.with_value}
use Rattle.segment_dump.proofs.filling.FillSteps.{StepsTo, met-perform, no-bytes}
use Rattle.segment_dump.proofs.space.OneGap.{IsRest, block-some, room-taken, room-with}

-- ---- an object is made

-- a content without storage
pub record IsPlain (content : asked.Content) : Type 0 where
  pub alone : value_extents (bare content) ≡ []
  pub plain : (next : Value → Plan) → with_value content next ≡ next (bare content)

-- numbers are plain content
pub numbers-plain : (k : ScalarKind) (zs : List ℤ) → IsPlain (asked.Numbers k zs)
numbers-plain k zs = record { alone = refl; plain = λ next. refl }

-- an empty vector is plain content
pub vector-plain : (k : ScalarKind) → IsPlain (asked.Elements k [])
vector-plain k = record { alone = refl; plain = λ next. refl }

-- an empty string is plain content
pub string-plain : IsPlain (asked.Bytes [])
string-plain = record { alone = refl; plain = λ next. refl }

-- an empty map is plain content
pub map-plain : (k v : ScalarKind) → IsPlain (asked.NoPairs k v)
map-plain k v = record { alone = refl; plain = λ next. refl }

-- an empty vector of strings is plain content
pub texts-plain : IsPlain (asked.Strings [])
texts-plain = record { alone = refl; plain = λ next. refl }

-- the index of the class has a place
abbrev pub HasEntry : Directory → Class → Type 0
HasEntry d Anonymous = ⊤
HasEntry d Named = length (named_objects d) < d.named.capacity
HasEntry d Unique = length (unique_objects d) < d.unique.capacity

if-true : (b : Bool) (x y : Plan) → b ≡ true → (if b then x else y) ≡ x
if-true b x y e = ap (λ c. if c then x else y) e

entry-there : (d : Directory) (c : Class) (next : Directory → Plan) → HasEntry d c → with_entry d c next ≡ next d
entry-there d Anonymous next h = refl
entry-there d Named next h = if-true (nat_lt (length (named_objects d)) d.named.capacity) (next d) _
    (lt-ltb (length (named_objects d)) d.named.capacity h)
entry-there d Unique next h = if-true (nat_lt (length (unique_objects d)) d.unique.capacity) (next d) _
    (lt-ltb (length (unique_objects d)) d.unique.capacity h)

all-by : (e : ℕ) (os : List Object) → EndBy e (flat_map extents_of os)
    → AllByRecursion (λ (p : Object). p.extent.offset ≤ e) os
all-by e [] h = tt
all-by e (p ∷ os) h =
    let own = AllByRecursion-front (λ (x : Extent). end_of x ≤ e) (extents_of p) (flat_map extents_of os) h in (
      omega (arith, own.0),
      all-by e os (AllByRecursion-behind (λ (x : Extent).
          end_of x ≤ e) (extents_of p) (flat_map extents_of os) h),
    )

-- a handle is answered, and the object of it is there, with nothing in it
pub record IsMade (outcome : Answer
    × Directory) (site : Site) (done : List DumpItem) (class : Class) (name : List ℕ) (v : Value) (rest : ℕ) : Type
    0 where
  pub handle : ℕ
  pub next : Directory
  pub is : outcome ≡ (Made handle, next)
  pub filling : IsFilling next site done (record { class = class; name = name; handle = handle }) v rest

module _ (d : Directory) (site : Site) (done : List DumpItem) (key : Key) (content : asked.Content) (rest : ℕ)
    (i : IsDirectory current d) (none : object_at d key ≡ None) (entry : HasEntry d (class_of key))
    (p : IsPlain content) where
  abbrev len : ℕ
  len = object_len (name_of key) (bare content)

  abbrev object_of : Extent → Value → Object
  object_of x v = record { class = class_of key; name = name_of key; value = v; extent = x }

  abbrev reply_with : Object → Directory → Plan
  reply_with o e = Reply (Made (handle o.extent)) e

  abbrev with_object_in : Directory → Extent → Value → Plan
  with_object_in e x v = reply_with (object_of x v) (with_object e (object_of x v))

  abbrev object_plan : Directory → Plan
  object_plan e = Request (New ObjectRole len) (λ x. with_value content (with_object_in e x))

  asks : effect d (asked.Construct key content) ≡ object_plan d
  asks =
      ap (λ (r : Option Object). elim r as (λ _. Plan) [
        | Some o ↦ Plan.Refuse Exists
        | None ↦ with_new_object d key content reply_with
      ]) none
      ∙ entry-there d (class_of key) object_plan entry

  -- an object that is made has its site in the directory
  pub made : 0 < len → HasBuiltItems d site done (block_room len + rest) → IsRest rest
      → IsMade (step Write d (asked.Construct key content)) site done (class_of key) (name_of key) (bare content) rest
  made long b r =
      let h = b.room in
      let h' : HasExactRoom (all_extents d) d.size (room len + rest) =
      record {
        end = h.end;
        start = h.start;
        below = h.below;
        full = h.full;
        room = subst (λ m. h.end + 16 + (m + rest) ≤ d.size) (block-some len long) h.room;
      } in
      let taken = room-taken d len ObjectRole rest i.proper h' r in
      let x = taken.extent in
      let o : Object = object_of x (bare content) in
      let prefixes : List Extent = flat_map extents_of d.objects in
      let tables : List Extent = table_extents d.named ++ table_extents d.unique in
      let before : AllByRecursion (λ (p : Object). p.extent.offset ≤ o.extent.offset) d.objects =
      subst (λ n. AllByRecursion (λ (p : Object). p.extent.offset ≤ n) d.objects) (sym taken.prefix)
      (all-by h.end d.objects (AllByRecursion-front (λ (y : Extent). end_of y ≤ h.end) prefixes tables h.below)) in
      let objects : (with_object d o).objects ≡ d.objects ++ o ∷ [] = put-last o d.objects before in
      let alone : extents_of o ++ [] ≡ x ∷ [] = append-nil (extents_of o) ∙ ap (λ l. x ∷ l) p.alone in
      let all : prefixes ++ x ∷ tables ≡ all_extents (with_object d o) =
      sym (ap (λ os. flat_map extents_of os ++ tables) objects
      ∙ ap (λ l. l ++ tables) (flat_map-append extents_of d.objects (o ∷ []) ∙ ap (λ l. prefixes ++ l) alone)
      ∙ append_assoc prefixes (x ∷ []) tables) in
      record {
        handle = handle x;
        next = with_object d o;
        is = writes d (asked.Construct key content) ∙ ap (perform d (live d)) asks
            ∙ met-perform d len ObjectRole x (λ x. with_value content (with_object_in d x)) (Made (handle x))
            (with_object d o) taken.is (p.plain (with_object_in d x));
        filling = record {
          size_is = b.size_is;
          named = b.named;
          unique = b.unique;
          before = d.objects;
          object = o;
          objects = objects;
          items = b.items;
          exact = b.exact;
          class_is = refl;
          name_is = refl;
          handle_is = refl;
          value_is = refl;
          room = subst (λ xs. HasExactRoom xs d.size rest) all
              (room-with prefixes tables x d.size (room len + rest) rest h' taken.prefix taken.fits);
        };
      }

-- ---- an object is done

-- an object that is full, and has no spare slots, is one more of those built
pub built : (d : Directory) (site : Site) (done : List DumpItem) (head : Head) (v : Value) (rest : ℕ)
    → IsFilling d site done head v rest → HasExactCapacity v
    → HasBuiltItems d site (done ++ record { class = head.class; name = head.name; content = content_of v } ∷ []) rest
built d site done head v rest f e = record {
  size_is = f.size_is;
  named = f.named;
  unique = f.unique;
  items = ap (map item_of_object) f.objects ∙ map-append item_of_object f.before (f.object ∷ [])
      ∙ (λ i. f.items i ++ record { class = f.class_is i; name = f.name_is i; content = content_of (f.value_is i) }
      ∷ []);
  exact = subst AreExact (sym f.objects) (AllByRecursion-append (λ (o : Object). HasExactCapacity o.value) f.before
      (f.object ∷ []) f.exact (subst HasExactCapacity (sym f.value_is) e, tt));
  room = f.room;
}

-- ---- the indexes

-- an empty segment has built nothing
pub empty-built : (size rest : ℕ) → 144 + rest ≤ size
    → HasBuiltItems (empty size) (record { named = 0; unique = 0; size = size }) [] rest
unfolding total
empty-built size rest h = record {
  size_is = refl;
  named = omega arith;
  unique = omega arith;
  items = refl;
  exact = tt;
  room = record { end = 128; start = omega arith; below = tt; full = omega arith; room = omega arith };
}

-- no objects, and an index of names
abbrev pub fronted : ℕ → BackingArray → Directory
fronted size t = record { size = size; objects = []; named = t; unique = no_backing }

abbrev table_of : ℕ → Extent → BackingArray
table_of n x = record { capacity = n; extent = Some x }

-- a segment whose indexes are reserved
pub record IsFronted (size n rest : ℕ) (e : Directory) : Type 0 where
  pub table : BackingArray
  pub is : e ≡ fronted size table
  pub built : HasBuiltItems (fronted size table) (record { named = n; unique = 0; size = size }) [] rest

-- the same room, for what is left of it
abbrev room_for : (d : Directory) (n rest : ℕ) → 0 < n
    → (h : HasExactRoom (all_extents d) d.size (block_room (8 * n) + rest))
    → HasExactRoom (all_extents d) d.size (room (8 * n) + rest)
room_for d n rest l h = record {
  end = h.end;
  start = h.start;
  below = h.below;
  full = h.full;
  room = subst (λ m. h.end + 16 + (m + rest) ≤ d.size) (block-some (8 * n) (omega arith)) h.room;
}

-- an index has room in what is left
module _ (d : Directory) (n rest : ℕ) (i : IsDirectory current d)
    (b : HasExactRoom (all_extents d) d.size (block_room (8 * n) + rest)) (r : IsRest rest)
    (made : BackingArray → Directory) (c : Command) (Next : Directory → Type 0)
    (asks : effect d c ≡ (if nat_le n 0 then Reply Done d else Request (New Index (8 * n)) (λ x.
    Reply Done (made (table_of n x))))) (none : n ≡ 0 → HasExactRoom (all_extents d) d.size rest → Next d)
    (some : (x : Extent) (h : HasExactRoom (all_extents d) d.size (room (8 * n) + rest)) → x.offset ≡ h.end
    → end_of x + 16 + rest ≤ d.size → Next (made (table_of n x))) where
  index-asks : (x : Bool) → nat_le n 0 ≡ x → step Write d c ≡ perform d (live d) (if x then Reply Done d else Request
      (New Index (8 * n)) (λ x. Reply Done (made (table_of n x))))
  index-asks x e = writes d c ∙ ap (perform d (live d)) asks
      ∙ ap (λ y. perform d (live d) (if y then Reply Done d else Request (New Index (8 * n)) (λ x.
      Reply Done (made (table_of n x))))) e

  index-by : (x : Bool) → (n == 0) ≡ x → StepsTo (step Write d c) Done Next
  index-by true e =
      let z : n ≡ 0 = grind (arith, nat_tests) in
      record {
        next = d;
        is = index-asks true (le-leb n 0 (omega (arith, z)));
        holds = none z
            (subst (λ m. HasExactRoom (all_extents d) d.size m) (no-bytes (8 * n) rest (omega (arith, z))) b);
      }
  index-by false e =
      let l : 0 < n = grind (arith, nat_tests) in
      let h = room_for d n rest l b in
      let taken = room-taken d (8 * n) Index rest i.proper h r in
      record {
        next = made (table_of n taken.extent);
        is = index-asks false (lt-leb n 0 l) ∙ met-perform d (8 * n) Index taken.extent (λ x.
            Reply Done (made (table_of n x))) Done (made (table_of n taken.extent)) taken.is refl;
        holds = some taken.extent h taken.prefix taken.fits;
      }

-- law: the index of names is reserved
pub named-reserved : (size n rest : ℕ) → IsDirectory current (empty size)
    → HasBuiltItems (empty size) (record { named = 0; unique = 0; size = size }) [] (block_room (8 * n) + rest)
    → IsRest rest → StepsTo (step Write (empty size) (asked.ReserveNamed n)) Done (IsFronted size n rest)
named-reserved size n rest i b r =
    let fronted-so : (t : BackingArray) → t.capacity ≡ n → HasExactRoom (all_extents (fronted size t)) size rest
    → IsFronted size n rest (fronted size t) = λ t l room. record {
      table = t;
      is = refl;
      built = record { size_is = refl; named = l; unique = omega arith; items = refl; exact = tt; room = room };
    } in
    index-by (empty size) n rest i b.room r (fronted size) (asked.ReserveNamed n) (IsFronted size n rest) refl
    (λ z room. fronted-so no_backing (omega (arith, z)) room) (λ x h prefix fits. fronted-so (table_of n x)
    (omega arith)
    (room-with [] [] x size (room (8 * n) + rest) rest h prefix fits)) (n == 0) refl

-- law: the index of kinds is reserved
pub unique-reserved : (size named n rest : ℕ) (t : BackingArray) → IsDirectory current (fronted size t)
    → HasBuiltItems (fronted size t) (record { named = named; unique = 0; size = size }) [] (block_room (8 * n) + rest)
    → IsRest rest → StepsTo (step Write (fronted size t) (asked.ReserveUnique n)) Done (λ e.
    HasBuiltItems e (record { named = named; unique = n; size = size }) [] rest)
unique-reserved size named n rest t i b r =
    index-by (fronted size t) n rest i b.room r (λ u. record { size = size; objects = []; named = t; unique = u })
    (asked.ReserveUnique n) (λ e. HasBuiltItems e (record { named = named; unique = n; size = size }) [] rest) refl
    (λ z room. record {
      size_is = refl;
      named = b.named;
      unique = omega (arith, z);
      items = refl;
      exact = tt;
      room = room;
    })
    (λ x h prefix fits. record {
      size_is = refl;
      named = b.named;
      unique = omega arith;
      items = refl;
      exact = tt;
      room = room-with (table_extents t) [] x size (room (8 * n) + rest) rest h prefix fits;
    }) (n == 0) refl
