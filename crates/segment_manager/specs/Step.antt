-- The step of each command: an answer, and the directory after it.
use Rattle.seg_types.specs.Commands as asked
use Rattle.std.specs.Prelude.{ℕ, ◌-◌, ℤ, pos, nat_abs, Bool, true, false, ◌&&◌, Some, None, Result, Ok, Err, List, []}
use Rattle.std.specs.Prelude.{◌∷◌, ◌++◌, length, map, insert, remove, slice_get, slice_set, take, replicate, ◌==◌}
use Rattle.std.specs.Prelude.{nat_lt, nat_le, int_lt, if◌then◌else◌}
use Rattle.block_tags.specs.declared.tile.Role.TheVariants.{Node}
use Rattle.best_fit.specs.{Extents.handle, Extents.spans, Extents.free_bytes, Fit.place, Fit.regrow}
use Rattle.best_fit.specs.Table.{BackingArray, shrunk_backing}
use Rattle.seg_types.specs.{declared.kinds.ScalarKind.ScalarKind, declared.kinds.Kind.Kind}
use Rattle.seg_types.specs.{declared.refusals.Refusal.Refusal, declared.kinds.ScalarKind.TheVariants.U8, Kinds.size_of}
use Rattle.seg_types.specs.{Kinds.same_kind, Names.Key, Names.ByHandle, Literals.pair_values, Literals.values_of}
use Rattle.seg_types.specs.declared.refusals.Refusal.TheVariants.{ReadOnly, Exists, NotFound, WrongKind, OutOfRange}
use Rattle.seg_types.specs.Commands.{Command, Literal, value_of_literal, is_changing}
use Rattle.seg_vector.specs.Vector.{OwnedText, capacity_for_one, capacity_for_text}
use Rattle.seg_map.specs.{Map.pair_at, Map.put_pair, Map.remove_pair, Map.node_len, Numbers.NumberPair}
use Rattle.segment_manager.specs.{declared.modes.Mode.Mode, Directory.unique_objects}
use Rattle.segment_manager.specs.declared.modes.Mode.TheVariants.{Write, ReadOnly as ReadOnlyMode, CopyOnWrite}
use Rattle.segment_manager.specs.Directory.{Value, Numbers, Elements, Bytes, Pairs, Texts, Object, Directory, live}
use Rattle.segment_manager.specs.Directory.{object_at, kind_of, count_of, with_changed, without_object, named_objects}
use Rattle.segment_manager.specs.Plan.{Plan, New, Refuse, Request, Reply, perform, with, with_new_index, with_storage}
use Rattle.segment_manager.specs.Plan.{with_capacity, bare, with_owned_text, with_owned_texts, with_new_object}
use Rattle.segment_manager.specs.Answers.{Answer, Done, Absent, Boolean, Number, Made, Found, Element, TextElement}
use Rattle.segment_manager.specs.Answers.{Shown, Told, Names, Kinds, Blocks, Refused}

-- ---- the parts of a value

abbrev pub items_of : Value → Result (ScalarKind × List ℤ) Refusal
items_of (Numbers k zs) = Ok (k, zs)
items_of (Elements k zs t) = Ok (k, zs)
items_of (Bytes bs t) = Ok (U8, map pos bs)
items_of (Pairs k v ps) = Err WrongKind
items_of (Texts ps t) = Err WrongKind

abbrev pub with_items : Value → List ℤ → Value
with_items (Numbers k old) zs = Numbers k zs
with_items (Elements k old t) zs = Elements k zs t
with_items (Bytes old t) zs = Bytes (map nat_abs zs) t
with_items (Pairs k v ps) zs = Pairs k v ps
with_items (Texts ps t) zs = Texts [] t

-- the length of an element, the number of elements, and the storage of a vector or text
abbrev pub storage_of : Value → Result (ℕ × ℕ × BackingArray) Refusal
storage_of (Numbers k zs) = Err WrongKind
storage_of (Elements k zs t) = Ok (size_of k, length zs, t)
storage_of (Bytes bs t) = Ok (1, length bs, t)
storage_of (Pairs k v ps) = Err WrongKind
storage_of (Texts ps t) = Ok (16, length ps, t)

abbrev pub with_table : Value → BackingArray → Value
with_table (Numbers k zs) u = Numbers k zs
with_table (Elements k zs t) u = Elements k zs u
with_table (Bytes bs t) u = Bytes bs u
with_table (Pairs k v ps) u = Pairs k v ps
with_table (Texts ps t) u = Texts ps u

abbrev pub vector_of : Value → Result (ScalarKind × List ℤ × BackingArray) Refusal
vector_of (Numbers k zs) = Err WrongKind
vector_of (Elements k zs t) = Ok (k, zs, t)
vector_of (Bytes bs t) = Err WrongKind
vector_of (Pairs k v ps) = Err WrongKind
vector_of (Texts ps t) = Err WrongKind

-- the bytes and the storage of a string
abbrev pub text_of : Value → Result (List ℕ × BackingArray) Refusal
text_of (Numbers k zs) = Err WrongKind
text_of (Elements k zs t) = Err WrongKind
text_of (Bytes bs t) = Ok (bs, t)
text_of (Pairs k v ps) = Err WrongKind
text_of (Texts ps t) = Err WrongKind

abbrev pub map_of : Value → Result (ScalarKind × ScalarKind × List NumberPair) Refusal
map_of (Numbers k zs) = Err WrongKind
map_of (Elements k zs t) = Err WrongKind
map_of (Bytes bs t) = Err WrongKind
map_of (Pairs k v ps) = Ok (k, v, ps)
map_of (Texts ps t) = Err WrongKind

abbrev pub element_at : List ℤ → ℕ → Result ℤ Refusal
element_at zs i = elim (slice_get zs i) [ None ↦ Err OutOfRange | Some z ↦ Ok z ]

-- the one text among literals that can be assigned to a text
abbrev pub text_among : List Literal → Result (List ℕ) Refusal
text_among (asked.Quoted bs ∷ []) = Ok bs
text_among ls = Err WrongKind

-- ---- the commands

abbrev pub found_at : Directory → Key → Result Object Refusal
found_at d key = elim (object_at d key) [ None ↦ Err NotFound | Some o ↦ Ok o ]

-- the directory with the value of an object replaced
abbrev pub changed : Directory → Object → Value → Directory
changed d o v = with_changed d (record o { value = v })

-- the handle and the count of an object, as an answer
abbrev pub found : Object → Answer
found o = Found (handle o.extent) (count_of o.value)

-- the bytes of a text literal
abbrev pub text_of_literal : Literal → Result (List ℕ) Refusal
text_of_literal (asked.Quoted bs) = Ok bs
text_of_literal l = Err WrongKind

-- the texts of literals
abbrev pub texts_of : List Literal → Result (List (List ℕ)) Refusal
texts_of [] = Ok []
texts_of (asked.Quoted bs ∷ ls) = elim (texts_of ls) [ Ok bss ↦ Ok (bs ∷ bss) | Err r ↦ Err r ]
texts_of (l ∷ ls) = Err WrongKind

abbrev pub owned_text_at : List OwnedText → ℕ → Result OwnedText Refusal
owned_text_at ps i = elim (slice_get ps i) [ None ↦ Err OutOfRange | Some p ↦ Ok p ]

-- the plan of assigning to a vector or string: the capacity grows to the length if it is less; a vector of texts always
-- gets a new array of exactly the length, unless the length is 0
abbrev pub assign : Directory → Object → Value → List Literal → Plan
assign d o (Elements k zs t) ls =
    with (values_of k ls) (λ new. with_capacity (size_of k) (length new) t
    (λ u. Reply Done (changed d o (Elements k new u))))
assign d o (Bytes bs t) ls =
    with (text_among ls) (λ new. with_capacity 1 (length new) t (λ u. Reply Done (changed d o (Bytes new u))))
assign d o (Texts ps t) [] = Reply Done (changed d o (Texts [] t))
assign d o (Texts ps t) (l ∷ ls) =
    with (texts_of (l ∷ ls)) (λ bss. with_storage 16 (length bss)
    (λ u. with_owned_texts bss (λ qs. Reply Done (changed d o (Texts qs u)))))
assign d o v ls = Refuse WrongKind

-- the plan of reading the element or text at an index
abbrev pub get : Directory → Value → ℕ → Plan
get d (Texts ps t) i = with (owned_text_at ps i) (λ p. Reply (TextElement p.bytes) d)
get d v i = with (items_of v) (λ (k, zs). with (element_at zs i) (λ z. Reply (Element k z) d))

abbrev pub set : Directory → Object → Value → ℕ → Literal → Plan
set d o (Texts ps t) i l =
    with (text_of_literal l) (λ bs. with (owned_text_at ps i)
    (λ old. with_owned_text bs (λ p. Reply Done (changed d o (Texts (slice_set ps i p) t)))))
set d o v i l =
    with (items_of v) (λ (k, zs). with (value_of_literal k l)
    (λ z. with (element_at zs i) (λ old. Reply Done (changed d o (with_items v (slice_set zs i z))))))

abbrev pub push : Directory → Object → Value → Literal → Plan
push d o (Texts ps t) l =
    with (text_of_literal l) (λ bs. with_capacity 16 (capacity_for_one (length ps) t.capacity) t
    (λ u. with_owned_text bs (λ p.
    Reply Done (changed d o (Texts (ps ++ p ∷ []) u)))))
push d o v l =
    with (vector_of v) (λ (k, zs, t). with (value_of_literal k l) (λ z.
    with_capacity (size_of k) (capacity_for_one (length zs) t.capacity) t (λ u.
    Reply Done (changed d o (Elements k (zs ++ z ∷ []) u)))))

abbrev pub pop : Directory → Object → Value → Plan
pop d o (Texts ps t) =
    with (owned_text_at ps (length ps - 1))
    (λ p. Reply (TextElement p.bytes) (changed d o (Texts (take (length ps - 1) ps) t)))
pop d o v =
    with (vector_of v) (λ (k, zs, t). with (element_at zs (length zs - 1)) (λ z.
    Reply (Element k z) (changed d o (Elements k (take (length zs - 1) zs) t))))

abbrev pub insert_at : Directory → Object → Value → ℕ → Literal → Plan
insert_at d o (Texts ps t) i l =
    with (text_of_literal l) (λ bs. if nat_lt (length ps) i then Refuse OutOfRange else
    with_capacity 16 (capacity_for_one (length ps) t.capacity) t (λ u. with_owned_text bs (λ p.
    Reply Done (changed d o (Texts (insert ps i p) u)))))
insert_at d o v i l =
    with (vector_of v) (λ (k, zs, t). with (value_of_literal k l) (λ z.
    if nat_lt (length zs) i then Refuse OutOfRange else
    with_capacity (size_of k) (capacity_for_one (length zs) t.capacity) t (λ u.
    Reply Done (changed d o (Elements k (insert zs i z) u)))))

abbrev pub erase : Directory → Object → Value → ℕ → Plan
erase d o (Texts ps t) i = with (owned_text_at ps i) (λ p. Reply Done (changed d o (Texts (remove ps i) t)))
erase d o v i =
    with (vector_of v) (λ (k, zs, t). with (element_at zs i)
    (λ z. Reply Done (changed d o (Elements k (remove zs i) t))))

-- the plan of putting a pair into a map, from the numbers of key and value
abbrev pub put : Directory → Object → ScalarKind → ScalarKind → List NumberPair → List ℤ → Plan
put d o k v ps (x ∷ y ∷ []) = elim (pair_at int_lt ps x) [
  | Some p ↦ Reply (Boolean false) (changed d o (Pairs k v (put_pair int_lt (record p { value = y }) ps)))
  | None ↦ Request (New Node (node_len (size_of k) (size_of v))) (λ n.
      Reply (Boolean true) (changed d o (Pairs k v (put_pair int_lt (record { key = x; value = y; node = n }) ps))))
]
put d o k v ps other = Refuse WrongKind

abbrev pub shrunk_indexes : Directory → Directory
shrunk_indexes d =
    let e : Directory = record d { named = shrunk_backing (live d) 8 (length (named_objects d)) d.named } in
    record e { unique = shrunk_backing (live e) 8 (length (unique_objects e)) e.unique }

-- what a command does to a directory, unless the mode refuses it
abbrev pub effect : Directory → Command → Plan
effect d (asked.Construct key content) = elim (object_at d key) [
  | Some o ↦ Refuse Exists
  | None ↦ with_new_object d key content (λ o e. Reply (Made (handle o.extent)) e)
]
-- it takes items only after every allocation
effect d (asked.ConstructIt key k count zs) = elim (object_at d key) [
  | Some o ↦ Refuse Exists
  | None ↦ if nat_lt (length zs) count
      then with_new_object d key (asked.Numbers k (replicate count (pos 0))) (λ o e. Reply (Refused OutOfRange) d)
      else with_new_object d key (asked.Numbers k (take count zs)) (λ o e. Reply (Made (handle o.extent)) e)
]
effect d (asked.Find key kind) = elim (object_at d key) [
  | None ↦ Reply Absent d
  | Some o ↦ if same_kind kind (kind_of o.value) then Reply (found o) d else Refuse WrongKind
]
effect d (asked.FindOrConstruct key content) = elim (object_at d key) [
  | None ↦ with_new_object d key content (λ o e. Reply (found o) e)
  | Some o ↦ if same_kind (kind_of (bare content)) (kind_of o.value) then Reply (found o) d else Refuse WrongKind
]
effect d (asked.Destroy key) = elim (object_at d key) [
  | None ↦ Reply (Boolean false) d
  | Some o ↦ Reply (Boolean true) (without_object d o)
]
effect d (asked.DestroyPtr h) = with (found_at d (ByHandle h)) (λ o. Reply (Boolean true) (without_object d o))
effect d (asked.Show key) = with (found_at d key) (λ o. Reply (Shown o.value) d)
effect d (asked.Info key) = with (found_at d key) (λ o. Reply (Told o) d)
effect d (asked.Get key i) = with (found_at d key) (λ o. get d o.value i)
effect d (asked.Set key i l) = with (found_at d key) (λ o. set d o o.value i l)
effect d (asked.Push key l) = with (found_at d key) (λ o. push d o o.value l)
effect d (asked.Pop key) = with (found_at d key) (λ o. pop d o o.value)
effect d (asked.Insert key i l) = with (found_at d key) (λ o. insert_at d o o.value i l)
effect d (asked.Erase key i) = with (found_at d key) (λ o. erase d o o.value i)
effect d (asked.Reserve key n) =
    with (found_at d key) (λ o. with (storage_of o.value) (λ (each, len, t). with_capacity each n t (λ u.
    Reply Done (changed d o (with_table o.value u)))))
effect d (asked.Shrink key) =
    with (found_at d key) (λ o. with (storage_of o.value) (λ (each, len, t).
    Reply Done (changed d o (with_table o.value (shrunk_backing (live d) each len t)))))
effect d (asked.Clear key) =
    with (found_at d key) (λ o. with (storage_of o.value) (λ s. Reply Done (changed d o (with_items o.value []))))
effect d (asked.Assign key ls) = with (found_at d key) (λ o. assign d o o.value ls)
effect d (asked.Append key more) =
    with (found_at d key) (λ o. with (text_of o.value) (λ (bs, t).
    with_capacity 1 (capacity_for_text (length (bs ++ more)) t.capacity) t (λ u.
    Reply Done (changed d o (Bytes (bs ++ more) u)))))
effect d (asked.Put key l m) =
    with (found_at d key) (λ o. with (map_of o.value)
    (λ (k, v, ps). with (pair_values k v l m) (λ new. put d o k v ps new)))
effect d (asked.Lookup key l) =
    with (found_at d key) (λ o. with (map_of o.value) (λ (k, v, ps). with (value_of_literal k l) (λ x.
    elim (pair_at int_lt ps x) [ None ↦ Reply Absent d | Some p ↦ Reply (Element v p.value) d ])))
effect d (asked.Remove key l) =
    with (found_at d key) (λ o. with (map_of o.value) (λ (k, v, ps). with (value_of_literal k l) (λ x.
    elim (pair_at int_lt ps x) [
      | None ↦ Reply (Boolean false) d
      | Some p ↦ Reply (Boolean true)
          (changed d o (Pairs k v (remove_pair int_lt ps x)))
    ])))
effect d asked.ListNames = Reply (Names (named_objects d)) d
effect d asked.ListKinds = Reply (Kinds (unique_objects d)) d
effect d asked.ListBlocks = Reply (Blocks (spans (live d))) d
effect d asked.Size = Reply (Number d.size) d
effect d asked.Free = Reply (Number (free_bytes (live d))) d
effect d asked.NumNamed = Reply (Number (length (named_objects d))) d
effect d asked.NumUnique = Reply (Number (length (unique_objects d))) d
effect d (asked.ReserveNamed n) =
    if nat_le n d.named.capacity then Reply Done d else with_new_index n (λ t. Reply Done (record d { named = t }))
effect d (asked.ReserveUnique n) =
    if nat_le n d.unique.capacity then Reply Done d else with_new_index n (λ t. Reply Done (record d { unique = t }))
effect d asked.ShrinkIndexes = Reply Done (shrunk_indexes d)
-- the bytes that it changes belong to no object
effect d asked.ZeroFree = Reply Done d
effect d asked.Sanity = Reply (Boolean true) d
effect d asked.AllDeallocated = Reply (Boolean (length (live d).extents == 0)) d

-- whether the mode refuses changes
abbrev pub is_read_only : Mode → Bool
is_read_only Write = false
is_read_only ReadOnlyMode = true
is_read_only CopyOnWrite = false

-- the plan of a command, after the test for ReadOnly
abbrev pub plan : Mode → Directory → Command → Plan
plan mode d c = if is_read_only mode && is_changing c then Refuse ReadOnly else effect d c

-- the answer to a command, and the next directory
unfoldable pub step : Mode → Directory → Command → Answer × Directory
unfolding live place regrow shrunk_backing free_bytes
step mode d c = perform d (live d) (plan mode d c)

-- The step of a call for objects of one kind. It fails for objects of other kinds.
unfoldable pub step_of_kind : Mode → Directory → Key → Kind → Command → Answer × Directory
unfolding live place regrow shrunk_backing free_bytes
step_of_kind mode d key kind c =
    perform d (live d) (if is_read_only mode && is_changing c then Refuse ReadOnly else
    with (found_at d key) (λ o. if same_kind kind (kind_of o.value) then effect d c else Refuse WrongKind))
