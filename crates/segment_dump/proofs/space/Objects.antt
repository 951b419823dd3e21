-- The bytes that a directory's objects need, in the blocks that they have.
use Rattle.segment_dump.proofs.Common.{◌≡◌, ℕ, ◌+◌, ◌-◌, ◌*◌, ◌≤◌, Bool, true, false, ◌&&◌, ◌==◌, nat_le, nat_lt, List}
use Rattle.segment_dump.proofs.Common.{[], ◌∷◌, ◌++◌, length, map, Option, Some, None, if◌then◌else◌, cond, refl, sym}
use Rattle.segment_dump.proofs.Common.{ap, subst, ◌∙◌, arith, flat_map, filter, fold, option_to_list, int_lt, IsTrue}
use Rattle.segment_dump.proofs.Common.{AllByRecursion, list_all, mul-le-mul_left, mul-zero, suc-mul, zero-mul}
use Rattle.segment_dump.proofs.Common.{and_parts, leb-true, length-map, nat_tests, Role, Index, Node, Storage}
use Rattle.segment_dump.proofs.Common.{is_legal_size, Extent, holds, is_proper, proper_from, room, BackingArray}
use Rattle.segment_dump.proofs.Common.{has_backing, serves, current, Class, Anonymous, Named, Unique, ScalarKind}
use Rattle.segment_dump.proofs.Common.{class_code, is_kind_of, is_value, size_of, is_rising, node_len, NumberPair}
use Rattle.segment_dump.proofs.Common.{is_number_pair, item_of, OwnedText, Bytes, Directory, Elements, Numbers, Object}
use Rattle.segment_dump.proofs.Common.{Pairs, Texts, Value, by_kind, by_name, extents_of, has_good_name, has_own_block}
use Rattle.segment_dump.proofs.Common.{insert_by, is_class, is_good_value, is_object, is_owned_text, kind_of, live}
use Rattle.segment_dump.proofs.Common.{named_objects, object_len, padded, sorted, table_extents, unique_objects}
use Rattle.segment_dump.proofs.Common.{value_extents, value_len, head_len, AllByRecursion-behind, AllByRecursion-front}
use Rattle.segment_dump.proofs.Common.{index-parts, live-extents, live-size, bytes_in, content_of, count_of_content}
use Rattle.segment_dump.proofs.Common.{item_of_object, kind_of_content, all_needs, block_room, body_len, elements_room}
use Rattle.segment_dump.proofs.Common.{prefix_room, item_needs, object_room, text_needs, texts_needs}
use Rattle.std.proofs.Math.Nat.{one-mul}
use Rattle.block_tags.specs.declared.tile.Role.TheVariants.{Object as ObjectRole}
use Rattle.best_fit.specs.Table.{same_role}
use Rattle.segment_manager.specs.Directory.{is_index}
use Rattle.segment_manager.proofs.Laws.{all_of-sorted, tables_of}
use Rattle.segment_dump.specs.Laws.{SegmentsHaveRoom}
use Rattle.segment_dump.proofs.space.Blocks.{IsLong, held-fits, proper-long, proper-total, total, total-append}
use Rattle.segment_dump.proofs.space.Blocks.{total-sorted}

-- ---- one block

abbrev AreLong : List Extent → Type 0
AreLong = AllByRecursion IsLong

room-if : (b : Bool) (n len : ℕ) → room n ≤ len → (if b then 0 else room n) ≤ len
room-if true n len h = omega arith
room-if false n len h = h

block-holds : (x : Extent) (n : ℕ) → IsLong x → holds x n ≡ true → block_room n ≤ x.len
unfolding block_room
block-holds x n l e = room-if (n == 0) n x.len (held-fits x n l e)

holds-less : (x : Extent) (m n : ℕ) → m ≤ n → holds x n ≡ true → holds x m ≡ true
holds-less x m n l e = grind (arith, nat_tests)

block-serves : (x : Extent) (role : Role) (m n : ℕ) → IsLong x → m ≤ n → serves x role n ≡ true → block_room m ≤ x.len
block-serves x role m n l h e =
    block-holds x m l (holds-less x m n h (and_parts (same_role x.role role) (holds x n) e).1)

none-needed : block_room 0 ≡ 0
unfolding block_room
none-needed = refl

-- ---- a table

no-slots : (each n capacity : ℕ) → n ≤ capacity → (capacity == 0) ≡ true → each * n ≡ 0
no-slots each n capacity h e = let z : n ≡ 0 = grind (arith, nat_tests) in ap (λ k. each * k) z ∙ mul-zero each

abbrev of_slots : ℕ → Option Extent → BackingArray
of_slots n o = record { capacity = n; extent = o }

slots-room : (role : Role) (each n capacity : ℕ) (o : Option Extent) → has_backing role each (of_slots capacity o)
    ≡ true → n ≤ capacity → AreLong (option_to_list o) → block_room (each * n) ≤ total (option_to_list o)
unfolding total
slots-room role each n capacity None e h l = omega (arith, ap block_room (no-slots each n capacity h e), none-needed)
slots-room role each n capacity (Some x) e h l =
    omega (
      arith,
      block-serves x role (each * n) (each * capacity) l.0 (mul-le-mul_left each h)
          (and_parts (nat_lt 0 capacity) (serves x role (each * capacity)) e).1,
    )

table-room : (role : Role) (each n : ℕ) (t : BackingArray) → has_backing role each t ≡ true → n ≤ t.capacity
    → AreLong (table_extents t) → block_room (each * n) ≤ total (table_extents t)
table-room role each n t e h l = slots-room role each n t.capacity t.extent e h l

-- ---- a text in a block of its own

own-room : (bs : List ℕ) (o : Option Extent) → has_own_block (record { bytes = bs; extent = o }) ≡ true
    → AreLong (option_to_list o) → block_room (length bs) ≤ total (option_to_list o)
unfolding total
own-room bs None e l = let z : length bs ≡ 0 = grind (arith, nat_tests) in omega (arith, ap block_room z, none-needed)
own-room bs (Some x) e l =
    omega (
      arith,
      block-serves x Storage (length bs) (length bs) l.0 (omega arith)
          (and_parts (nat_lt 0 (length bs)) (serves x Storage (length bs)) e).1,
    )

abbrev block_list : OwnedText → List Extent
block_list p = option_to_list p.extent

texts-room : (ps : List OwnedText) → list_all is_owned_text ps ≡ true → AreLong (flat_map block_list ps)
    → (all_needs text_needs (map bytes_in ps)).room ≤ total (flat_map block_list ps)
unfolding total
texts-room [] e l = omega arith
texts-room (p ∷ ps) e l =
    let q = and_parts (is_owned_text p) (list_all is_owned_text ps) e in
    let own = and_parts (has_own_block p) (list_all (λ b. nat_lt b 256) p.bytes) q.0 in
    omega (
      arith,
      total-append (block_list p) (flat_map block_list ps),
      own-room p.bytes p.extent own.0 (AllByRecursion-front IsLong (block_list p) (flat_map block_list ps) l),
      texts-room ps q.1 (AllByRecursion-behind IsLong (block_list p) (flat_map block_list ps) l),
    )

-- ---- the nodes of a map

abbrev node_of : NumberPair → Extent
node_of p = p.node

pairs-room : (k v : ScalarKind) (ps : List NumberPair) → list_all (is_number_pair k v) ps ≡ true
    → AreLong (map node_of ps)
    → length (map item_of ps) * block_room (node_len (size_of k) (size_of v)) ≤ total (map node_of ps)
unfolding total
pairs-room k v [] e l = omega (arith, zero-mul (block_room (node_len (size_of k) (size_of v))))
pairs-room k v (p ∷ ps) e l =
    let q = and_parts (is_number_pair k v p) (list_all (is_number_pair k v) ps) e in
    let r = and_parts (is_value k p.key
    && is_value v p.value) (serves p.node Node (node_len (size_of k) (size_of v))) q.0 in
    omega (
      arith,
      suc-mul (length (map item_of ps)) (block_room (node_len (size_of k) (size_of v))),
      block-serves p.node Node (node_len (size_of k) (size_of v)) (node_len (size_of k) (size_of v)) l.0
          (omega arith) r.1,
      pairs-room k v ps q.1 l.1,
    )

-- ---- a value

value-room : (v : Value) → is_good_value v ≡ true → AreLong (value_extents v)
    → elements_room (kind_of_content (content_of v)) (count_of_content (content_of v))
    + (texts_needs (content_of v)).room ≤ total (value_extents v)
unfolding total
value-room (Numbers k zs) e l = omega arith
value-room (Elements k zs t) e l =
    let p = and_parts (nat_le (length zs) t.capacity && has_backing Storage (size_of k) t)
    (list_all (is_value k) zs) e in
    let q = and_parts (nat_le (length zs) t.capacity) (has_backing Storage (size_of k) t) p.0 in
    omega (arith, table-room Storage (size_of k) (length zs) t q.1 (leb-true (length zs) t.capacity q.0) l)
value-room (Bytes bs t) e l =
    let p = and_parts (nat_le (length bs) t.capacity && has_backing Storage 1 t) (list_all (λ b. nat_lt b 256) bs) e in
    let q = and_parts (nat_le (length bs) t.capacity) (has_backing Storage 1 t) p.0 in
    omega (
      arith,
      ap block_room (one-mul (length bs)),
      table-room Storage 1 (length bs) t q.1
          (leb-true (length bs) t.capacity q.0) l,
    )
value-room (Pairs k v ps) e l =
    let p = and_parts (is_rising int_lt ps) (list_all (is_number_pair k v) ps) e in
    omega (arith, pairs-room k v ps p.1 l)
value-room (Texts ps t) e l =
    let p = and_parts (nat_le (length ps) t.capacity && has_backing Storage 16 t) (list_all is_owned_text ps) e in
    let q = and_parts (nat_le (length ps) t.capacity) (has_backing Storage 16 t) p.0 in
    omega (
      arith,
      ap (λ n. block_room (16 * n)) (length-map ps bytes_in),
      total-append (table_extents t) (flat_map block_list ps),
      table-room Storage 16 (length ps) t q.1 (leb-true (length ps) t.capacity q.0)
          (AllByRecursion-front IsLong (table_extents t) (flat_map block_list ps) l),
      texts-room ps p.1 (AllByRecursion-behind IsLong (table_extents t) (flat_map block_list ps) l),
    )

-- ---- an object

body-is : (v : Value) → body_len (kind_of_content (content_of v)) (count_of_content (content_of v)) ≡ value_len v
body-is (Numbers k zs) = refl
body-is v = refl

own-block-room : (o : Object) → IsLong o.extent → serves o.extent ObjectRole (object_len o.name o.value) ≡ true
    → block_room (head_len + padded (length o.name)
    + body_len (kind_of_content (content_of o.value)) (count_of_content (content_of o.value))) ≤ o.extent.len
own-block-room o l e =
    subst (λ n. block_room (head_len + padded (length o.name) + n) ≤ o.extent.len) (sym (body-is o.value))
    (block-serves o.extent ObjectRole (object_len o.name o.value) (object_len o.name o.value) l (omega arith) e)

object-room : (format : ℕ) (o : Object) → is_object format o ≡ true → AreLong (extents_of o)
    → (item_needs (item_of_object o)).room ≤ total (extents_of o)
unfolding total object_room
object-room format o e l =
    let p = and_parts (has_good_name format o && is_kind_of format (kind_of o.value)
    && is_good_value o.value) (serves o.extent ObjectRole (object_len o.name o.value)) e in
    let q = and_parts (has_good_name format o && is_kind_of format (kind_of o.value)) (is_good_value o.value) p.0 in
    let own = own-block-room o l.0 p.1 in
    let parts = value-room o.value q.1 l.1 in
    omega arith

-- ---- objects

abbrev room_of : List Object → ℕ
room_of os = (all_needs item_needs (map item_of_object os)).room

objects-room : (format : ℕ) (os : List Object) → list_all (is_object format) os ≡ true
    → AreLong (flat_map extents_of os) → room_of os ≤ total (flat_map extents_of os)
unfolding total
objects-room format [] e l = omega arith
objects-room format (o ∷ os) e l =
    let p = and_parts (is_object format o) (list_all (is_object format) os) e in
    omega (
      arith,
      total-append (extents_of o) (flat_map extents_of os),
      object-room format o p.0 (AllByRecursion-front IsLong (extents_of o) (flat_map extents_of os) l),
      objects-room format os p.1 (AllByRecursion-behind IsLong (extents_of o) (flat_map extents_of os) l),
    )

-- in any order
room-insert-if : (b : Bool) (o p : Object) (ps qs : List Object) → room_of qs ≡ room_of (o ∷ ps)
    → room_of (if b then o ∷ p ∷ ps else p ∷ qs) ≡ room_of (o ∷ p ∷ ps)
room-insert-if true o p ps qs e = refl
room-insert-if false o p ps qs e = omega (arith, e)

room-insert : (lt : Object → Object → Bool) (o : Object) (ps : List Object)
    → room_of (insert_by lt o ps) ≡ room_of (o ∷ ps)
room-insert lt o [] = refl
room-insert lt o (p ∷ ps) = room-insert-if (lt o p) o p ps (insert_by lt o ps) (room-insert lt o ps)

room-ordered : (lt : Object → Object → Bool) (acc os : List Object)
    → room_of (fold (λ ps o. insert_by lt o ps) acc os) ≡ room_of acc + room_of os
room-ordered lt acc [] = omega arith
room-ordered lt acc (o ∷ os) = omega (arith, room-ordered lt (insert_by lt o acc) os, room-insert lt o acc)

-- by class
abbrev put_if : Bool → Object → List Object → List Object
put_if b o os = cond b (o ∷ os) os

class-room : (c : Class) (o : Object) (xs ys zs : List Object)
    → room_of (put_if (class_code Named == class_code c) o xs)
    + room_of (put_if (class_code Unique == class_code c) o ys)
    + room_of (put_if (class_code Anonymous == class_code c) o zs)
    ≡ (item_needs (item_of_object o)).room + (room_of xs + room_of ys + room_of zs)
class-room Named o xs ys zs = omega arith
class-room Unique o xs ys zs = omega arith
class-room Anonymous o xs ys zs = omega arith

classes-room : (os : List Object) → room_of (filter (is_class Named) os)
    + room_of (filter (is_class Unique) os) + room_of (filter (is_class Anonymous) os) ≡ room_of os
classes-room [] = refl
classes-room (o ∷ os) =
    class-room o.class o (filter (is_class Named) os) (filter (is_class Unique) os) (filter (is_class Anonymous) os)
    ∙ ap (λ n. (item_needs (item_of_object o)).room + n) (classes-room os)

-- ---- a whole segment

index-room : (t : BackingArray) (os : List Object) (lt : Object → Object → Bool) → IsTrue (is_index t os lt)
    → AreLong (table_extents t) → block_room (8 * length (map item_of_object os)) ≤ total (table_extents t)
index-room t os lt h l =
    let p = index-parts t os lt h in
    omega (
      arith,
      ap (λ n. block_room (8 * n)) (length-map os item_of_object),
      table-room Index 8 (length os) t p.0 p.1 l,
    )

abbrev all_extents : Directory → List Extent
all_extents d = flat_map extents_of d.objects ++ tables_of d

proper-room : (d : Directory) → IsTrue (is_proper (live d))
    → (AreLong (all_extents d)) × (144 + total (all_extents d) ≤ d.size)
unfolding is_proper
proper-room d h =
    let p = and_parts (is_legal_size (live d).size) (proper_from 128 (live d).extents ((live d).size - 16)) h in
    let long : AreLong (sorted (all_extents d)) =
    subst AreLong (live-extents d) (proper-long 128 (live d).extents ((live d).size - 16) p.1) in
    let fits = proper-total 128 (live d).extents ((live d).size - 16) p.1 in (
      all_of-sorted IsLong (all_extents d) long,
      omega (arith, fits, ap total (live-extents d), total-sorted (all_extents d), live-size d),
    )

-- law: a segment has room for the objects of its dump
pub segments-have-room : SegmentsHaveRoom
unfolding prefix_room
segments-have-room b d s =
    let h = s.denotes.directory in
    let p = proper-room d h.proper in
    let objects = flat_map extents_of d.objects in
    let tables : AreLong (tables_of d) = AllByRecursion-behind IsLong objects (tables_of d) p.0 in
    let all = objects-room current d.objects h.objects (AllByRecursion-front IsLong objects (tables_of d) p.0) in
    let named = index-room d.named (named_objects d) by_name h.named
    (AllByRecursion-front IsLong (table_extents d.named) (table_extents d.unique) tables) in
    let unique = index-room d.unique (unique_objects d) by_kind h.unique
    (AllByRecursion-behind IsLong (table_extents d.named) (table_extents d.unique) tables) in
    let names = room-ordered by_name [] (filter (is_class Named) d.objects) in
    let kinds = room-ordered by_kind [] (filter (is_class Unique) d.objects) in
    let classes = classes-room d.objects in
    let one = total-append objects (tables_of d) in
    let two = total-append (table_extents d.named) (table_extents d.unique) in
    omega (arith, p.1)
