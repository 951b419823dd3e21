-- The handles of objects; the own blocks of objects in a live set are the blocks of the directory's objects, in its
-- order.
use Rattle.segment_manager.proofs.Common as common
use Rattle.std.proofs.{Common.add-one, lemmas.List.Elements.filter-append, lemmas.List.Folds.list_any-append}
use Rattle.raw_region.proofs.Facts.{AllByRecursion-append, AllByRecursion-filter, first, none_more, second}
use Rattle.block_tags.specs.{Tiles.role_bits, Tiles.tile_at, Tiles.tiles_from, declared.tile.Role.TheVariants.Index}
use Rattle.best_fit.proofs.Laws.{changed-header_blocks, ends-then, proper_from-IsFirst, proper_from-reaches}
use Rattle.best_fit.specs.{Extents.Span, Extents.Span as LiveSpan, Extents.span_between, Extents.spans_from, Fit.insert}
use Rattle.best_fit.specs.Ends.{EndsAt, MovesEnd, least_size, of_size}
use Rattle.segment_manager.proofs.{blocks.Blocks.own-block, directory.LiveSet.spread-cons, directory.LiveSet.tables_of}
use Rattle.segment_manager.proofs.directory.{AnyDirectory.denotes-live, Frame.any_objects-same, Frame.index-stays}
use Rattle.segment_manager.proofs.directory.LiveSet.{all-sorted, inserted, live-extents, live-size, of_each, spread}
use Rattle.segment_manager.proofs.indexes.{Bridge.all-at, Bridge.each-by_handle, Indexes.rises-above}
use Rattle.segment_manager.proofs.objects.RankedPairs.{rises-front, rises-rest}
use Rattle.segment_manager.specs.{Calls.as_span, declared.blocks.tiles.TileInfo.TileInfo}
use Rattle.segment_manager.specs.indexes.Iterating.{GoesOnOwn, GoesOnTiles, HasPassed, IsObjectTile, TileWalk, is_own}
use Rattle.segment_manager.specs.indexes.Iterating.{is_own_span, own_before, own_count, own_spans}
use common.{AllByRecursion, AnswersWith, BackingArray, Bool, ByHandle, Bytes, ChangesBytes, Denotes, DenotesCurrent}
use common.{Directory, Elements, EncodesLiveSet, Extent, Instance, IsDirectory, IsHeader, IsInstance, IsSegment, IsTrue}
use common.{List, LiveSet, Memory, Node, None, NumberPair, Numbers, Object, ObjectRole, Option, OwnedText, Pairs}
use common.{Resizes, SameBlock, SameBytes, SameBytes-part, SameBytes-word, SaysAt, SaysOf, ScalarKind, SegmentState}
use common.{Some, Storage, Texts, Tile, Value, WindowState, [], and_right, ap, arith, blocks-trans, by_kind, by_name}
use common.{bytes_of, cond, current, end_of, eq-eqb, eqb-false, eqb-true, extents_of, false, filter, find, flat_map}
use common.{grown, handle, has_backing, has_good_name, has_key, has_own_block, holds, if◌then◌else◌, inl, inr, int_lt}
use common.{is_good_value, is_index, is_kind_of, is_legal_size, is_number_pair, is_object, is_object_at, is_owned_text}
use common.{is_proper, is_rising, is_some, is_value, kind_of, lay_out_one, legal_size, length, length-map, list_all}
use common.{list_any, live, live_of, ltb-false, map, named_objects, nat_le, nat_lt, ne_eqb, node_len, none-some}
use common.{object_at, object_len, option_map, option_to_list, proper_from, refl, rises, rises_from, same_Some}
use common.{same_role, serves, shrunk, size_of, slice_get, slice_get_within, sorted, spans, subst, suc, sym}
use common.{table_extents, take, tiles_of, true, unique_objects, value_extents, word_at, zero, ℕ, ◌&&◌, ◌*◌, ◌++◌, ◌+◌}
use common.{◌-◌, ◌/◌, ◌<◌, ◌==◌, ◌||◌, ◌∙◌, ◌∷◌, ◌≡◌, ◌≤◌}

-- ---- some extent of a live set passes a test

or-swap : (a b c : Bool) → (a || (b || c)) ≡ (b || (a || c))
or-swap true true c = refl
or-swap true false c = refl
or-swap false true c = refl
or-swap false false c = refl

-- a choice with a test that fails
pub or-none : (a b : Bool) → b ≡ false → (a || b) ≡ a
or-none true b e = refl
or-none false b e = e

and_same : (a : Bool) → (a && true) ≡ a
and_same true = refl
and_same false = refl

any-insert-if : (t : Extent → Bool) (b : Bool) (x z : Extent) (zs ws : List Extent) → list_any t ws ≡ (t x || list_any t
    zs) → list_any t (if b then x ∷ z ∷ zs else z ∷ ws) ≡ (t x || list_any t (z ∷ zs))
any-insert-if t true x z zs ws e = refl
any-insert-if t false x z zs ws e = ap (λ b. t z || b) e ∙ or-swap (t z) (t x) (list_any t zs)

any_of-insert : (t : Extent → Bool) (x : Extent) (zs : List Extent) → list_any t (insert x zs) ≡ (t x || list_any t zs)
any_of-insert t x [] = refl
any_of-insert t x (z ∷ zs) = any-insert-if t (nat_lt x.offset z.offset) x z zs (insert x zs) (any_of-insert t x zs)

-- sorting does not change whether one passes
pub any_of-sorted : (t : Extent → Bool) (xs : List Extent) → list_any t (sorted xs) ≡ list_any t xs
any_of-sorted t [] = refl
any_of-sorted t (x ∷ xs) = any_of-insert t x (sorted xs) ∙ ap (λ b. t x || b) (any_of-sorted t xs)

-- ---- where only objects' own extents can pass

-- none of the extents passes the test
abbrev pub NonePasses : (Extent → Bool) → List Extent → Type 0
NonePasses t = AllByRecursion (λ x. t x ≡ false)

none-any : (t : Extent → Bool) (xs : List Extent) → NonePasses t xs → list_any t xs ≡ false
none-any t [] h = refl
none-any t (x ∷ xs) h = ap (λ b. b || list_any t xs) h.0 ∙ none-any t xs h.1

-- no block of two lists passes the test
pub none-append : (t : Extent → Bool) (xs ys : List Extent) → NonePasses t xs → NonePasses t ys
    → NonePasses t (xs ++ ys)
none-append t xs ys h k = AllByRecursion-append (λ x. t x ≡ false) xs ys h k

-- the object's own extent passes exactly if it has the handle, and no extent of its value passes
pub record IsTold (t : Extent → Bool) (h : ℕ) (o : Object) : Type 0 where
  pub own : t o.extent ≡ (h == handle o.extent)
  pub value : NonePasses t (value_extents o.value)

find-some : (b : Bool) (o : Object) (rest : Option Object) → is_some (cond b (Some o) rest) ≡ (b || is_some rest)
find-some true o rest = refl
find-some false o rest = refl

any-objects : (t : Extent → Bool) (h : ℕ) (os : List Object) → AllByRecursion (IsTold t h) os
    → list_any t (flat_map extents_of os) ≡ is_some (find (has_key (ByHandle h)) os)
any-objects t h [] a = refl
any-objects t h (o ∷ os) a = list_any-append t (extents_of o) (flat_map extents_of os)
    ∙ ap (λ b. (t o.extent || b) || list_any t (flat_map extents_of os)) (none-any t (value_extents o.value) a.0.value)
    ∙ ap (λ b. b || list_any t (flat_map extents_of os)) (or-none (t o.extent) false refl)
    ∙ (λ i. a.0.own i || any-objects t h os a.1 i)
    ∙ sym (find-some (h == handle o.extent) o (find (has_key (ByHandle h)) os))

-- then an extent of the live set passes exactly if there is an object of the handle
pub any-live : (t : Extent → Bool) (h : ℕ) (d : Directory) → AllByRecursion (IsTold t h) d.objects
    → NonePasses t (tables_of d) → list_any t (live d).extents ≡ is_some (object_at d (ByHandle h))
any-live t h d a b = ap (list_any t) (live-extents d) ∙ any_of-sorted t (flat_map extents_of d.objects ++ tables_of d)
    ∙ list_any-append t (flat_map extents_of d.objects) (tables_of d)
    ∙ or-none (list_any t (flat_map extents_of d.objects)) (list_any t (tables_of d)) (none-any t (tables_of d) b)
    ∙ any-objects t h d.objects a

eq-swap-if : (a b : ℕ) (x : Bool) → (a == b) ≡ x → (b == a) ≡ x
eq-swap-if a b true e = eq-eqb b a (sym (eqb-true a b e))
eq-swap-if a b false e = ne_eqb b a (λ f. eqb-false a b e (sym f))

-- ---- by the roles

-- whether the extent is an object's own block with this handle
abbrev pub is_object_block : ℕ → Extent → Bool
is_object_block h x = (handle x == h) && same_role x.role ObjectRole

other-role : (n k : ℕ) → (n == suc k) ≡ true → (n == 0) ≡ false
other-role n k e = ne_eqb n 0 (λ f. omega (arith, eqb-true n (suc k) e, f))

not-object : (h : ℕ) (x : Extent) (k : ℕ) → (role_bits x.role == suc k) ≡ true → is_object_block h x ≡ false
not-object h x k e = and_right (handle x == h) (same_role x.role ObjectRole) (other-role (role_bits x.role) k e)

storage-none : (h each c : ℕ) (o : Option Extent)
    → IsTrue (has_backing Storage each (record { capacity = c; extent = o }))
    → NonePasses (is_object_block h) (option_to_list o)
storage-none h each c None e = tt
storage-none h each c (Some x) e = (
  not-object h x 7 (first (same_role x.role Storage) (holds x (each * c))
      (second (nat_lt 0 c) (serves x Storage (each * c)) e)),
  tt,
)

-- the block of an index is no object's
pub index-none : (h each c : ℕ) (o : Option Extent)
    → IsTrue (has_backing Index each (record { capacity = c; extent = o }))
    → NonePasses (is_object_block h) (option_to_list o)
index-none h each c None e = tt
index-none h each c (Some x) e = (
  not-object h x 3 (first (same_role x.role Index) (holds x (each * c))
      (second (nat_lt 0 c) (serves x Index (each * c)) e)),
  tt,
)

owned-none : (h : ℕ) (bytes : List ℕ) (o : Option Extent)
    → IsTrue (has_own_block (record { bytes = bytes; extent = o })) → NonePasses (is_object_block h) (option_to_list o)
owned-none h bytes None e = tt
owned-none h bytes (Some x) e = (
  not-object h x 7 (first (same_role x.role Storage) (holds x (length bytes))
      (second (nat_lt 0 (length bytes)) (serves x Storage (length bytes)) e)),
  tt,
)

all_owned-none : (h : ℕ) (ps : List OwnedText) → IsTrue (list_all is_owned_text ps)
    → NonePasses (is_object_block h) (flat_map (λ (p : OwnedText). option_to_list p.extent) ps)
all_owned-none h [] e = tt
all_owned-none h (p ∷ ps) e = none-append (is_object_block h) (option_to_list p.extent) (flat_map (λ (p : OwnedText).
    option_to_list p.extent) ps) (owned-none h p.bytes p.extent (own-block p (first (is_owned_text p)
    (list_all is_owned_text ps) e))) (all_owned-none h ps (second (is_owned_text p) (list_all is_owned_text ps) e))

nodes-none : (h : ℕ) (k v : ScalarKind) (ps : List NumberPair) → IsTrue (list_all (is_number_pair k v) ps)
    → NonePasses (is_object_block h) (map (λ (p : NumberPair). p.node) ps)
nodes-none h k v [] e = tt
nodes-none h k v (p ∷ ps) e =
    let node = second (is_value k p.key && is_value v p.value) (serves p.node Node (node_len (size_of k) (size_of v)))
    (first (is_number_pair k v p) (list_all (is_number_pair k v) ps) e) in (
      not-object h p.node 11 (first (same_role p.node.role Node)
          (holds p.node (node_len (size_of k) (size_of v))) node),
      nodes-none h k v ps (second (is_number_pair k v p) (list_all (is_number_pair k v) ps) e),
    )

value-none : (h : ℕ) (v : Value) → IsTrue (is_good_value v) → NonePasses (is_object_block h) (value_extents v)
value-none h (Numbers k zs) e = tt
value-none h (Elements k zs t) e = storage-none h (size_of k) t.capacity t.extent
    (second (nat_le (length zs) t.capacity) (has_backing Storage (size_of k) t)
    (first (nat_le (length zs) t.capacity && has_backing Storage (size_of k) t) (list_all (is_value k) zs) e))
value-none h (Bytes bs t) e =
    storage-none h 1 t.capacity t.extent (second (nat_le (length bs) t.capacity) (has_backing Storage 1 t)
    (first (nat_le (length bs) t.capacity && has_backing Storage 1 t) (list_all (λ b. nat_lt b 256) bs) e))
value-none h (Pairs k v ps) e = nodes-none h k v ps (second (is_rising int_lt ps) (list_all (is_number_pair k v) ps) e)
value-none h (Texts ps t) e = none-append (is_object_block h) (table_extents t) (flat_map (λ (p : OwnedText).
    option_to_list p.extent) ps) (storage-none h 16 t.capacity t.extent (second (nat_le (length ps) t.capacity)
    (has_backing Storage 16 t) (first (nat_le (length ps) t.capacity
    && has_backing Storage 16 t) (list_all is_owned_text ps)
    e))) (all_owned-none h ps (second (nat_le (length ps) t.capacity
    && has_backing Storage 16 t) (list_all is_owned_text ps) e))

-- the handle of an object's own block distinguishes it from other blocks
pub object-told : (format h : ℕ) (o : Object) → IsTrue (is_object format o) → IsTold (is_object_block h) h o
object-told format h o e =
    let serving = serves o.extent ObjectRole (object_len o.name o.value) in
    let before = has_good_name format o && is_kind_of format (kind_of o.value) in
    let role = first (same_role o.extent.role ObjectRole) (holds o.extent (object_len o.name o.value))
    (second (before && is_good_value o.value) serving e) in
    record {
      own = ap (λ b. (handle o.extent == h) && b) role ∙ and_same (handle o.extent == h)
          ∙ sym (eq-swap-if (handle o.extent) h (handle o.extent == h) refl);
      value = value-none h o.value (second before (is_good_value o.value)
          (first (before && is_good_value o.value) serving e));
    }

objects-told : (format h : ℕ) (os : List Object) → IsTrue (list_all (is_object format) os)
    → AllByRecursion (IsTold (is_object_block h) h) os
objects-told format h [] e = tt
objects-told format h (o ∷ os) e = (
  object-told format h o (first (is_object format o) (list_all (is_object format) os) e),
  objects-told format h os (second (is_object format o) (list_all (is_object format) os) e),
)

-- an index has the block that its capacity needs
pub table-of : (t : BackingArray) (os : List Object) (lt : Object → Object → Bool) → IsTrue (is_index t os lt)
    → IsTrue (has_backing Index 8 t)
table-of t os lt e = first (has_backing Index 8 t) (nat_le (length os) t.capacity)
    (first (has_backing Index 8 t && nat_le (length os) t.capacity) (rises lt os) e)

-- the handle is an object's exactly if an object's own block with it is in use
pub handle-is-object : {format : ℕ} {d : Directory} (h : ℕ) → IsDirectory format d
    → list_any (is_object_block h) (live d).extents ≡ is_some (object_at d (ByHandle h))
handle-is-object {format} {d} h k = any-live (is_object_block h) h d (objects-told format h d.objects k.objects)
    (none-append (is_object_block h) (table_extents d.named) (table_extents d.unique)
    (index-none h 8 d.named.capacity d.named.extent (table-of d.named (named_objects d) by_name k.named))
    (index-none h 8 d.unique.capacity d.unique.extent (table-of d.unique (unique_objects d) by_kind k.unique)))

-- The blocks of objects among all blocks and gaps.

-- ---- a filter of extents that are inserted by offset

filter-none : {X : Type 0} (p : X → Bool) (xs : List X) → AllByRecursion (λ x. p x ≡ false) xs → filter p xs ≡ []
filter-none p [] h = refl
filter-none p (x ∷ xs) h = ap (λ b. cond b (x ∷ filter p xs) (filter p xs)) h.0 ∙ filter-none p xs h.1

filter-first : {X : Type 0} (p : X → Bool) (x : X) (xs : List X) → p x ≡ true → filter p (x ∷ xs) ≡ x ∷ filter p xs
filter-first p x xs e = ap (λ b. cond b (x ∷ filter p xs) (filter p xs)) e

filter-past : {X : Type 0} (p : X → Bool) (x : X) (xs : List X) → p x ≡ false → filter p (x ∷ xs) ≡ filter p xs
filter-past p x xs e = ap (λ b. cond b (x ∷ filter p xs) (filter p xs)) e

skip-if : (p : Extent → Bool) (b : Bool) (x z : Extent) (zs ws : List Extent) → p x ≡ false → filter p ws ≡ filter p zs
    → filter p (if b then x ∷ z ∷ zs else z ∷ ws) ≡ filter p (z ∷ zs)
skip-if p true x z zs ws e f = filter-past p x (z ∷ zs) e
skip-if p false x z zs ws e f = ap (λ (os : List Extent). cond (p z) (z ∷ os) os) f

-- an extent that fails the test makes no difference
filter-skip : (p : Extent → Bool) (x : Extent) (zs : List Extent) → p x ≡ false → filter p (insert x zs) ≡ filter p zs
filter-skip p x [] e = filter-past p x [] e
filter-skip p x (z ∷ zs) e = skip-if p (nat_lt x.offset z.offset) x z zs (insert x zs) e (filter-skip p x zs e)

filter-skips : (p : Extent → Bool) (xs zs : List Extent) → NonePasses p xs → filter p (inserted xs zs) ≡ filter p zs
filter-skips p [] zs h = refl
filter-skips p (x ∷ xs) zs h = filter-skip p x (inserted xs zs) h.0 ∙ filter-skips p xs zs h.1

-- each extent that passes is after this one
abbrev AreBehind : (Extent → Bool) → Extent → List Extent → Type 0
AreBehind p x = AllByRecursion (λ (z : Extent). p z ≡ true → x.offset < z.offset)

-- an extent that is not after this one fails
past-if : (p : Extent → Bool) (b : Bool) (x z : Extent) (zs ws : List Extent) → p z ≡ b
    → (b ≡ true → x.offset < z.offset) → z.offset ≤ x.offset → filter p ws ≡ x ∷ filter p zs
    → filter p (z ∷ ws) ≡ x ∷ filter p (z ∷ zs)
past-if p true x z zs ws e a l f = absurd (omega (arith, a refl, l))
past-if p false x z zs ws e a l f =
    filter-past p z ws e ∙ f ∙ ap (λ (os : List Extent). x ∷ os) (sym (filter-past p z zs e))

front-if : (p : Extent → Bool) (b : Bool) (x z : Extent) (zs ws : List Extent) → nat_lt x.offset z.offset ≡ b
    → p x ≡ true → (p z ≡ true → x.offset < z.offset) → filter p ws ≡ x ∷ filter p zs
    → filter p (if b then x ∷ z ∷ zs else z ∷ ws) ≡ x ∷ filter p (z ∷ zs)
front-if p true x z zs ws t e a f = filter-first p x (z ∷ zs) e
front-if p false x z zs ws t e a f = past-if p (p z) x z zs ws refl a (ltb-false x.offset z.offset t) f

-- an extent that passes and precedes all others that do is the first
filter-front : (p : Extent → Bool) (x : Extent) (zs : List Extent) → p x ≡ true → AreBehind p x zs
    → filter p (insert x zs) ≡ x ∷ filter p zs
filter-front p x [] e a = filter-first p x [] e
filter-front p x (z ∷ zs) e a =
    front-if p (nat_lt x.offset z.offset) x z zs (insert x zs) refl e a.0 (filter-front p x zs e a.1)

-- a property of the extents that pass
kept-if : {X : Type 0} (Q : X → Type 0) (p : X → Bool) (b : Bool) (x : X) (xs : List X) → p x ≡ b
    → AllByRecursion Q (cond b (x ∷ xs) xs) → (p x ≡ true → Q x) × AllByRecursion Q xs
kept-if Q p true x xs e h = ((λ f. h.0), h.1)
kept-if Q p false x xs e h = ((λ f. absurd (cc)), h)

of-filter : {X : Type 0} (Q : X → Type 0) (p : X → Bool) (xs : List X) → AllByRecursion Q (filter p xs)
    → AllByRecursion (λ x. p x ≡ true → Q x) xs
of-filter Q p [] h = tt
of-filter Q p (x ∷ xs) h = let both = kept-if Q p (p x) x (filter p xs) refl h in (both.0, of-filter Q p xs both.1)

-- ---- the extents of objects

-- the object's own block passes, and no block of its value
record IsTaken (p : Extent → Bool) (o : Object) : Type 0 where
  own : p o.extent ≡ true
  value : NonePasses p (value_extents o.value)

-- the blocks of a list of objects
abbrev pub blocks : List Object → List Extent
blocks = map (λ (o : Object). o.extent)

behind-blocks : (n : ℕ) (os : List Object) → AllByRecursion (λ (q : Object). n + 1 ≤ q.extent.offset) os
    → AllByRecursion (λ (z : Extent). n < z.offset) (blocks os)
behind-blocks n [] h = tt
behind-blocks n (o ∷ os) h = (omega (arith, h.0), behind-blocks n os h.1)

own-spread : (p : Extent → Bool) (n : ℕ) (os : List Object) (t : List Extent) → IsTrue (rises_from n os)
    → AllByRecursion (IsTaken p) os → NonePasses p t → filter p (spread os t) ≡ blocks os
own-spread p n [] t r a h = filter-none p (sorted t) (all-sorted (λ x. p x ≡ false) t h)
own-spread p n (o ∷ os) t r a h =
    let rest = own-spread p (o.extent.offset + 1) os t (rises-rest n o os r) a.1 h in
    let values = filter-skips p (value_extents o.value) (spread os t) a.0.value ∙ rest in
    let behind = behind-blocks o.extent.offset os (rises-above (o.extent.offset + 1) os (rises-rest n o os r)) in
    ap (filter p) (spread-cons o os t) ∙ filter-front p o.extent (inserted (value_extents o.value) (spread os t))
    a.0.own (of-filter (λ (z : Extent). o.extent.offset < z.offset) p (inserted (value_extents o.value)
    (spread os t)) (subst (AllByRecursion (λ (z : Extent). o.extent.offset < z.offset)) (sym values) behind))
    ∙ ap (λ (xs : List Extent). o.extent ∷ xs) values

-- ---- by the roles

none-own : (xs : List Extent) → ((h : ℕ) → NonePasses (is_object_block h) xs) → NonePasses is_own xs
none-own [] h = tt
none-own (x ∷ xs) h = (
  sym (ap (λ b. b && is_own x) (eq-eqb (handle x) (handle x) refl)) ∙ (h (handle x)).0,
  none-own xs (λ n. (h n).1),
)

object-taken : (format : ℕ) (o : Object) → IsTrue (is_object format o) → IsTaken is_own o
object-taken format o e = record {
  own = (let same : (handle o.extent == handle o.extent) ≡ true = eq-eqb (handle o.extent) (handle o.extent) refl in
      sym (ap (λ b. b && is_own o.extent) same) ∙ (object-told format (handle o.extent) o e).own ∙ same);
  value = none-own (value_extents o.value) (λ h. (object-told format h o e).value);
}

objects-taken : (format : ℕ) (os : List Object) → IsTrue (list_all (is_object format) os)
    → AllByRecursion (IsTaken is_own) os
objects-taken format [] e = tt
objects-taken format (o ∷ os) e = (
  object-taken format o (first (is_object format o) (list_all (is_object format) os) e),
  objects-taken format os (second (is_object format o) (list_all (is_object format) os) e),
)

tables-none : {format : ℕ} {d : Directory} → IsDirectory format d → NonePasses is_own (tables_of d)
tables-none {d} k = none-own (tables_of d) (λ h. none-append (is_object_block h) (table_extents d.named) (table_extents
    d.unique) (index-none h 8 d.named.capacity d.named.extent (table-of d.named (named_objects d) by_name k.named))
    (index-none h 8 d.unique.capacity d.unique.extent (table-of d.unique (unique_objects d) by_kind k.unique)))

-- the blocks of objects are theirs, in their order
pub own-blocks : {format : ℕ} {d : Directory} → IsDirectory format d → filter is_own (live d).extents ≡ blocks d.objects
own-blocks {format} {d} k = ap (filter is_own) (live-extents d)
    ∙ own-spread is_own 0 d.objects (tables_of d) k.by_offset (objects-taken format d.objects k.objects) (tables-none k)

-- ---- among the blocks and gaps

-- a block in use as a span
abbrev pub as_used : Extent → Span
as_used x = record { offset = x.offset; len = x.len; use_of = Some x.role }

gap-if : (b : Bool) (s : Span) → is_own_span s ≡ false → filter is_own_span (if b then s ∷ [] else []) ≡ []
gap-if true s e = filter-past is_own_span s [] e
gap-if false s e = refl

used-if : (b : Bool) (x : Extent) (xs : List Extent) {ss : List Span} → ss ≡ map as_used xs
    → cond b (as_used x ∷ ss) ss ≡ map as_used (cond b (x ∷ xs) xs)
used-if true x xs e = ap (λ (rest : List Span). as_used x ∷ rest) e
used-if false x xs e = e

spans-own : (from : ℕ) (xs : List Extent) (to : ℕ)
    → filter is_own_span (spans_from from xs to) ≡ map as_used (filter is_own xs)
spans-own from [] to = gap-if (nat_lt from to) (record { offset = from; len = to - from; use_of = None }) refl
spans-own from (x ∷ xs) to = (filter-append is_own_span (span_between from x.offset) (as_used x ∷ spans_from (end_of x)
    xs to) ∙ ap (λ (gone : List Span). gone ++ filter is_own_span (as_used x ∷ spans_from (end_of x) xs to)) (gap-if
    (nat_lt from x.offset) (record { offset = from; len = x.offset - from; use_of = None }) refl))
    ∙ used-if (is_own x) x (filter is_own xs) (spans-own (end_of x) xs to)

-- the spans that objects own are their blocks
pub all-own_spans : {format : ℕ} {d : Directory} → IsDirectory format d → own_spans d ≡ map as_used (blocks d.objects)
all-own_spans {d} k = spans-own 128 (live d).extents ((live d).size - 16) ∙ ap (map as_used) (own-blocks k)

-- The walk over the blocks and gaps that stops at objects' own blocks, for each directory that the bytes denote.

-- ---- places among the elements that pass

-- ---- a list, and its elements that pass

past-one : {X : Type 0} (b : Bool) (x : X) (ys zs : List X) → length ys ≡ length zs
    → length (cond b (x ∷ ys) ys) ≡ length (cond b (x ∷ zs) zs)
past-one true x ys zs e = ap suc e
past-one false x ys zs e = e

-- an element that fails
pub none-more : {X : Type 0} (p : X → Bool) (xs : List X) (i : ℕ) {x : X} → slice_get xs i ≡ Some x → p x ≡ false
    → length (filter p (take (suc i) xs)) ≡ length (filter p (take i xs))
none-more p [] i {x} e f = absurd (none-some x e)
none-more p (y ∷ ys) zero {x} e f = ap (λ b. length (cond b (y ∷ []) [])) (ap p (same_Some y x e) ∙ f)
none-more p (y ∷ ys) (suc i) e f =
    past-one (p y) y (filter p (take (suc i) ys)) (filter p (take i ys)) (none-more p ys i e f)

one-behind : {X : Type 0} (b : Bool) (x : X) (ys zs : List X) → length ys ≡ suc (length zs)
    → length (cond b (x ∷ ys) ys) ≡ suc (length (cond b (x ∷ zs) zs))
one-behind true x ys zs e = ap suc e
one-behind false x ys zs e = e

-- an element that passes
pub one-more : {X : Type 0} (p : X → Bool) (xs : List X) (i : ℕ) {x : X} → slice_get xs i ≡ Some x → p x ≡ true
    → length (filter p (take (suc i) xs)) ≡ suc (length (filter p (take i xs)))
one-more p [] i {x} e f = absurd (none-some x e)
one-more p (y ∷ ys) zero {x} e f = ap (λ b. length (cond b (y ∷ []) [])) (ap p (same_Some y x e) ∙ f)
one-more p (y ∷ ys) (suc i) e f =
    one-behind (p y) y (filter p (take (suc i) ys)) (filter p (take i ys)) (one-more p ys i e f)

there-if : {X : Type 0} (b : Bool) (y : X) {x : X} (ys zs : List X) → slice_get ys (length zs) ≡ Some x
    → slice_get (cond b (y ∷ ys) ys) (length (cond b (y ∷ zs) zs)) ≡ Some x
there-if true y ys zs e = e
there-if false y ys zs e = e

-- the element's place is the number of earlier elements that pass
pub passes-there : {X : Type 0} (p : X → Bool) (xs : List X) (i : ℕ) {x : X} → slice_get xs i ≡ Some x → p x ≡ true
    → slice_get (filter p xs) (length (filter p (take i xs))) ≡ Some x
passes-there p [] i {x} e f = absurd (none-some x e)
passes-there p (y ∷ ys) zero {x} e f =
    ap (λ b. slice_get (cond b (y ∷ filter p ys) (filter p ys)) 0) (ap p (same_Some y x e) ∙ f) ∙ e
passes-there p (y ∷ ys) (suc i) e f = there-if (p y) y (filter p ys) (filter p (take i ys)) (passes-there p ys i e f)

end-if : {X : Type 0} (b : Bool) (y : X) (ys zs : List X) → slice_get ys (length zs) ≡ None
    → slice_get (cond b (y ∷ ys) ys) (length (cond b (y ∷ zs) zs)) ≡ None
end-if true y ys zs e = e
end-if false y ys zs e = e

-- after the end no element passes
pub passes-none : {X : Type 0} (p : X → Bool) (xs : List X) (i : ℕ) → slice_get xs i ≡ None
    → slice_get (filter p xs) (length (filter p (take i xs))) ≡ None
passes-none p [] i e = refl
passes-none p (y ∷ ys) zero e = absurd (none-some y (sym e))
passes-none p (y ∷ ys) (suc i) e = end-if (p y) y (filter p ys) (filter p (take i ys)) (passes-none p ys i e)

-- ---- the number of tiles

tile-more : (b : Bool) (m : Memory) (at end n : ℕ) → length (tiles_from n m (at + (tile_at m at).len) end) ≤ n
    → length (elim b as (λ _. List Tile) [
      | false ↦ []
      | true ↦ tile_at m at ∷ tiles_from n m (at + (tile_at m at).len) end
    ]) ≤ suc n
tile-more false m at end n l = omega arith
tile-more true m at end n l = omega arith

-- this many are read off at most
pub tiles-bounded : (n : ℕ) (m : Memory) (at end : ℕ) → length (tiles_from n m at end) ≤ n
tiles-bounded zero m at end = omega arith
tiles-bounded (suc n) m at end = tile-more (nat_lt at end) m at end n (tiles-bounded n m (at + (tile_at m at).len) end)

-- a segment has no more than 2 ^ 30 bytes
pub segment-short : (b : List ℕ) → IsSegment b → length b ≤ 1073741824
unfolding is_proper
segment-short b g =
    let l = live g.0 in
    let legal : IsTrue (is_legal_size l.size) =
    first (is_legal_size l.size) (proper_from 128 l.extents _) g.1.denotes.directory.proper in
    omega (arith, (legal_size l.size legal).high, g.1.denotes.heap.size)

-- and so 64 bits count the tiles
pub tile-few : (b : List ℕ) (at : ℕ) → IsSegment b → at < length (tiles_of (bytes_of b) (length b))
    → at + 1 ≤ 1073741824
tile-few b at g l = omega (arith, segment-short b g, tiles-bounded (length b / 32) (bytes_of b) 128 (length b - 16))

-- ---- one turn of the walk

-- the walk continued, and passed no block of an object
pub record IsStill (old new : TileWalk) : Type 0 where
  pub segment : new.segment ≡ old.segment
  pub count : (d : Directory) → DenotesCurrent old.segment.cut.bytes d → own_before d new.at ≡ own_before d old.at

module _ {old cur : TileWalk} (new : TileWalk) (s : IsStill old cur) where
  same-bytes : {d : Directory} → DenotesCurrent old.segment.cut.bytes d → DenotesCurrent cur.segment.cut.bytes d
  same-bytes {d} k = subst (λ (t : SegmentState). DenotesCurrent t.cut.bytes d) (sym s.segment) k

  -- past another block or a gap
  pub own-past : {span : TileInfo} → GoesOnTiles cur (Some span) new → is_own_span (as_span span) ≡ false
      → IsStill old new
  own-past g e = record {
    segment = g.segment ∙ s.segment;
    count = λ d k. ap (own_before d) (g.place ∙ add-one cur.at)
        ∙ none-more is_own_span (spans (live d)) cur.at (sym (g.says.answers d (same-bytes k))) e ∙ s.count d k;
  }

  -- up to one of an object
  pub own-found : {span : TileInfo} → GoesOnTiles cur (Some span) new → is_own_span (as_span span) ≡ true
      → GoesOnOwn old (Some span) new
  own-found g e = record {
    segment = g.segment ∙ s.segment;
    says = λ d k. sym (ap (slice_get (own_spans d)) (sym (s.count d k))
        ∙ passes-there is_own_span (spans (live d)) cur.at (sym (g.says.answers d (same-bytes k))) e);
    count = λ d k. ap (own_before d) (g.place ∙ add-one cur.at) ∙ one-more is_own_span (spans (live d)) cur.at
        (sym (g.says.answers d (same-bytes k))) e ∙ ap suc (s.count d k) ∙ sym (add-one (own_before d old.at));
  }

  -- or to the end
  pub own-end : GoesOnTiles cur None new → GoesOnOwn old None new
  own-end g = record {
    segment = g.segment ∙ s.segment;
    says = λ d k. sym (ap (slice_get (own_spans d)) (sym (s.count d k))
        ∙ passes-none is_own_span (spans (live d)) cur.at (sym (g.says.answers d (same-bytes k))));
    count = λ d k. ap (own_before d) g.place ∙ s.count d k;
  }

-- ---- the object at a place

none-mapped : {X Y : Type 0} (f : X → Y) (xs : List X) (i : ℕ) → slice_get (map f xs) i ≡ None → slice_get xs i ≡ None
none-mapped f [] i e = refl
none-mapped f (x ∷ xs) zero e = absurd (none-some (f x) (sym e))
none-mapped f (x ∷ xs) (suc i) e = none-mapped f xs i e

-- all objects were returned
pub objects-end : (s : SegmentState) (at : ℕ) {d : Directory}
    → DenotesCurrent s.cut.bytes d → None ≡ slice_get (own_spans d) at → length d.objects ≤ at
objects-end s at {d} k e = none_more d.objects at (none-mapped (λ (o : Object). o.extent) d.objects at
    (none-mapped as_used (blocks d.objects) at
    (ap (λ ss. slice_get ss at) (sym (all-own_spans k.denotes.directory)) ∙ sym e)))

-- the object whose own block is at a place among the objects' own blocks
pub record IsOwner (d : Directory) (at : ℕ) (span : TileInfo) : Type 0 where
  pub object : Object
  pub is : slice_get d.objects at ≡ Some object
  pub offset : span.offset ≡ object.extent.offset

owner-in : (os : List Object) (at : ℕ) {span : LiveSpan} → slice_get (map as_used (blocks os)) at ≡ Some span
    → (o : Object) × (slice_get os at ≡ Some o) × (span.offset ≡ o.extent.offset)
owner-in [] at {span} e = absurd (none-some span e)
owner-in (o ∷ os) zero {span} e = (o, refl, ap (λ (s : LiveSpan). s.offset) (sym (same_Some (as_used o.extent) span e)))
owner-in (o ∷ os) (suc at) e = owner-in os at e

-- an object's own block at a place among the blocks and gaps belongs to the object of its handle
pub tile-here : {s : SegmentState} (i : ℕ) (span : LiveSpan) → ((d : Directory) → DenotesCurrent s.cut.bytes d
    → Some span ≡ slice_get (spans (live d)) i) → is_own_span span ≡ true
    → AnswersWith s (λ d. is_object_at d (span.offset + 16)) true
tile-here {s} i span next own = record {
  answers = λ d k.
      let at = own_before d i in
      let there = passes-there is_own_span (spans (live d)) i (sym (next d k)) own in
      let o = owner-in d.objects at (ap (λ ss. slice_get ss at) (sym (all-own_spans k.denotes.directory)) ∙ there) in
      sym (ap is_some (ap (λ n. object_at d (ByHandle (n + 16))) o.2
      ∙ all-at (λ (p : Object). object_at d (ByHandle (handle p.extent)) ≡ Some p) d.objects at
      (each-by_handle 0 d.objects k.denotes.directory.by_offset) o.1));
}

-- ---- the bounds of the numbers

all-within : (from : ℕ) (xs : List Extent) (to : ℕ) → IsTrue (proper_from from xs to)
    → AllByRecursion (λ (x : Extent). end_of x ≤ to) xs
all-within from [] to p = tt
all-within from (x ∷ xs) to p =
    let f = proper_from-IsFirst from x xs to p in
    (proper_from-reaches (end_of x) xs to f.rest, all-within (end_of x) xs to f.rest)

all-blocks : (P : Extent → Type 0) (os : List Object) → AllByRecursion P (blocks os)
    → AllByRecursion (λ (o : Object). P o.extent) os
all-blocks P [] h = tt
all-blocks P (o ∷ os) h = (h.0, all-blocks P os h.1)

live-within : (d : Directory) → IsTrue (is_proper (live d))
    → AllByRecursion (λ (x : Extent). end_of x ≤ (live d).size - 16) (live d).extents
unfolding is_proper
live-within d h = all-within 128 (live d).extents ((live d).size - 16)
    (second (is_legal_size (live d).size) (proper_from 128 (live d).extents ((live d).size - 16)) h)

-- the own blocks of objects lie within the segment
own-within : {b : List ℕ} {d : Directory} → DenotesCurrent b d
    → AllByRecursion (λ (o : Object). end_of o.extent ≤ (live d).size - 16) d.objects
own-within {d} k = all-blocks (λ (x : Extent). end_of x ≤ (live d).size - 16) d.objects
    (subst (AllByRecursion (λ (x : Extent). end_of x ≤ (live d).size - 16)) (own-blocks k.denotes.directory)
    (AllByRecursion-filter (λ (x : Extent). end_of x ≤ (live d).size - 16) is_own (live d).extents
    (live-within d k.denotes.directory.proper)))

-- the number of rising objects is at most the number of offsets
rises-few : (n m : ℕ) (os : List Object) → n ≤ m + 1 → IsTrue (rises_from n os)
    → AllByRecursion (λ (o : Object). end_of o.extent ≤ m) os → n + length os ≤ m + 1
rises-few n m [] l r a = omega (arith, l)
rises-few n m (o ∷ os) l r a =
    let rest = rises-few (o.extent.offset + 1) m os (omega (arith, a.0)) (rises-rest n o os r) a.1 in
    omega (arith, (rises-front n o os r), rest)

-- a segment has at most 2^30 + 1 objects
pub objects-few : (b : List ℕ) (g : IsSegment b) → length g.0.objects ≤ 1073741825
objects-few b g = omega (
  arith,
  rises-few 0 ((live g.0).size - 16) g.0.objects (omega arith) g.1.denotes.directory.by_offset (own-within g.1),
  segment-short b g,
  g.1.denotes.heap.size,
)

-- the number of objects, by the tags
pub counts-own : {b : List ℕ} {d : Directory} → DenotesCurrent b d → own_count b ≡ length d.objects
counts-own {b} {d} k = ap (λ (l : LiveSet). length (filter is_own l.extents)) (denotes-live current b d k.denotes)
    ∙ ap length (own-blocks k.denotes.directory) ∙ length-map d.objects (λ o. o.extent)

-- ---- a call of the iterator

module _ {s : SegmentState} {at : ℕ} {span : TileInfo} (own : IsObjectTile s at span) where
  owner : {d : Directory} → DenotesCurrent s.cut.bytes d → IsOwner d at span
  owner {d} k =
      let o = owner-in d.objects at
      (ap (λ ss. slice_get ss at) (sym (all-own_spans k.denotes.directory)) ∙ sym (own.stands d k)) in
      record { object = o.0; is = o.1; offset = o.2 }

  -- the object is found by its handle
  owner-found : {d : Directory} (k : DenotesCurrent s.cut.bytes d) {h : ℕ} → h ≡ span.offset + 16
      → object_at d (ByHandle h) ≡ Some (owner k).object
  owner-found {d} k e =
      let o = owner k in
      ap (λ n. object_at d (ByHandle n)) (e ∙ ap (λ n. n + 16) o.offset)
      ∙ all-at (λ (p : Object). object_at d (ByHandle (handle p.extent)) ≡ Some p) d.objects at
      (each-by_handle 0 d.objects k.denotes.directory.by_offset) o.is

  -- an object has the handle
  pub owner-here : (h : ℕ) → h ≡ span.offset + 16 → AnswersWith s (λ d. is_object_at d h) true
  owner-here h e = record { answers = λ d k. sym (ap is_some (owner-found k e)) }

  -- the properties of the block's object are those of the object at the place
  pub owner-says : (h : ℕ) {said : Instance} → h ≡ span.offset + 16 → SaysOf s (ByHandle h) said
      → SaysAt s (λ d. d.objects) at said
  owner-says h {said} e f = record {
    says = λ d k.
        let o = owner k in let p = f.says d k in
        let same = same_Some p.0 o.object (sym p.1 ∙ owner-found k e) in
        (o.object, o.is, subst (λ (q : Object). IsInstance q said) same p.2);
  }

  -- the place is below the number of objects in the tags
  pub owner-counts : IsSegment s.cut.bytes → at < own_count s.cut.bytes
  owner-counts g =
      subst (λ n. at < n) (sym (counts-own g.1)) (slice_get_within g.0.objects at (owner g.1).object (owner g.1).is)

  -- and so 64 bits count it and its block's end
  pub owner-few : IsSegment s.cut.bytes → at + 1 ≤ 1073741825
  owner-few g = omega (arith, owner-counts g, counts-own g.1, objects-few s.cut.bytes g)

  -- the span of an owner lies below 1 GiB
  pub owner-short : IsSegment s.cut.bytes → span.offset ≤ 1073741824
  owner-short g =
      let d : Directory = g.0 in let o = owner g.1 in
      let within = all-at (λ (p : Object). end_of p.extent ≤ (live d).size - 16) d.objects at (own-within g.1) o.is in
      omega (arith, within, o.offset, segment-short s.cut.bytes g, g.1.denotes.heap.size)

module _ {s : SegmentState} {old new : TileWalk} {at : ℕ} {r : Option TileInfo} (h : HasPassed s old at)
    (g : GoesOnOwn old r new) where
  at-own : {d : Directory} → DenotesCurrent s.cut.bytes d → option_map as_span r ≡ slice_get (own_spans d) at
  at-own {d} k = g.says d (subst (λ (t : SegmentState). DenotesCurrent t.cut.bytes d) (sym h.segment) k)
      ∙ ap (slice_get (own_spans d)) (sym (h.count.answers d k))

  -- a block was returned
  pub block-at : {span : TileInfo} → r ≡ Some span → IsObjectTile s at span
  block-at e = record { stands = λ d k. ap (option_map as_span) (sym e) ∙ at-own k }

  -- no object is left of the walk
  pub none-left : r ≡ None → (d : Directory) → DenotesCurrent s.cut.bytes d → length d.objects ≤ at
  none-left e d k = objects-end s at k (ap (option_map as_span) (sym e) ∙ at-own k)

-- The directory of the bytes after the end of the heap moves and the size is written.

-- the live set of a directory of another size
live-of_size : (d : Directory) (n : ℕ) → of_size (live d) n ≡ live (record d { size = n })
unfolding live
live-of_size d n = refl

module _ (old mid new : WindowState) (n : ℕ) (moved : MovesEnd current old mid n)
    (change : ChangesBytes current mid new 16 8) (word : word_at (bytes_of new.bytes) 16 ≡ n) where
  mid_live : live_of mid.bytes ≡ of_size (live_of old.bytes) n
  mid_live = lay_out_one current mid.bytes (of_size (live_of old.bytes) n) moved.live

  pub alike : AllByRecursion (SameBlock (bytes_of old.bytes) (bytes_of new.bytes)) (live_of old.bytes).extents
  alike = blocks-trans (bytes_of old.bytes) (bytes_of mid.bytes) (bytes_of new.bytes) (live_of old.bytes).extents
      moved.keeps.blocks (subst (λ (l : LiveSet). AllByRecursion (SameBlock (bytes_of mid.bytes) (bytes_of new.bytes))
      l.extents) mid_live (changed-header_blocks current mid new 16 8 change (omega arith)))

  front : SameBytes (bytes_of old.bytes) (bytes_of new.bytes) 0 16
  front = record { at = λ k low high. change.rest.at k (inl (omega arith)) ∙ moved.keeps.front.at k low (omega arith) }

  behind : SameBytes (bytes_of old.bytes) (bytes_of new.bytes) 32 128
  behind = record { at = λ k low high. change.rest.at k (inr (omega arith)) ∙ moved.keeps.behind.at k low high }

  laid : {d : Directory} → Denotes current old.bytes d → EncodesLiveSet current new.bytes (live (record d { size = n }))
  laid {d} h = subst (EncodesLiveSet current new.bytes)
      (mid_live ∙ ap (λ (l : LiveSet). of_size l n) (denotes-live current old.bytes d h) ∙ live-of_size d n) change.live

  header : (d : Directory) → Denotes current old.bytes d → IsHeader current (bytes_of new.bytes) n
  header d h = record {
    magic =
        SameBytes-word (bytes_of old.bytes) (bytes_of new.bytes) 0 16 0 front (omega arith) (omega arith)
        ∙ h.header.magic;
    version =
        SameBytes-word (bytes_of old.bytes) (bytes_of new.bytes) 0 16 8 front (omega arith) (omega arith)
        ∙ h.header.version;
    size_word = word;
    zeros = record { at = λ k a b. behind.at k (omega arith) (omega arith) ∙ h.header.zeros.at k a b };
  }

  pub denotes-resized : {d : Directory} → Denotes current old.bytes d
      → Denotes current new.bytes (record d { size = n })
  denotes-resized {d} h =
      let each = of_each (SameBlock (bytes_of old.bytes) (bytes_of new.bytes))
      (subst (λ (l : LiveSet). AllByRecursion (SameBlock (bytes_of old.bytes) (bytes_of new.bytes)) l.extents)
      (denotes-live current old.bytes d h) alike) in
      record {
        directory = record {
          proper = (laid h).proper;
          objects = h.directory.objects;
          by_offset = h.directory.by_offset;
          named = h.directory.named;
          unique = h.directory.unique;
        };
        header = header d h;
        heap = laid h;
        named = index-stays (named_objects d) by_name h.directory.named (SameBytes-part (bytes_of old.bytes)
            (bytes_of new.bytes) 32 128 32 56 behind (omega arith) (omega arith)) each.named h.named;
        unique = index-stays (unique_objects d) by_kind h.directory.unique (SameBytes-part (bytes_of old.bytes)
            (bytes_of new.bytes) 32 128 56 80 behind (omega arith) (omega arith)) each.unique h.unique;
        objects = any_objects-same current (bytes_of old.bytes)
            (bytes_of new.bytes) d.objects h.directory.objects each.objects h.objects;
      }

  size_mid : length new.bytes ≡ length mid.bytes
  size_mid = change.live.size ∙ ap (λ (l : LiveSet). l.size) mid_live ∙ sym moved.live.size

  pub place-resized : EndsAt old new (length new.bytes)
  place-resized =
      let e : n ≡ length new.bytes = sym (size_mid ∙ moved.live.size) in
      subst (λ k. EndsAt old new k) e (ends-then old mid new n moved.keeps.place change.place size_mid)

-- ---- each directory becomes the next

-- a directory's size is that of its bytes
pub stands-size : {b : List ℕ} {d : Directory} → DenotesCurrent b d → d.size ≡ length b
stands-size {d} h = sym (h.denotes.heap.size ∙ live-size d)

pub resizes : {old new : SegmentState} {mid : WindowState} {n : ℕ} {next : Directory → Directory} → new.mode ≡ old.mode
    → MovesEnd current old.cut mid n → ChangesBytes current mid new.cut 16 8 → word_at (bytes_of new.cut.bytes) 16 ≡ n
    → ((d : Directory) → DenotesCurrent old.cut.bytes d → record d { size = n } ≡ next d) → Resizes old new next
resizes {old} {new} {mid} {n} mode moved change word is = record {
  mode = mode;
  place = place-resized old.cut mid new.cut n moved change word;
  blocks = alike old.cut mid new.cut n moved change word;
  denotes = λ d h. subst (DenotesCurrent new.cut.bytes) (is d h)
      (record { denotes = denotes-resized old.cut mid new.cut n moved change word h.denotes });
}

-- with this many bytes more
pub grows : {old new : SegmentState} {mid : WindowState} (extra : ℕ) → new.mode ≡ old.mode
    → MovesEnd current old.cut mid (length old.cut.bytes + extra) → ChangesBytes current mid new.cut 16 8
    → word_at (bytes_of new.cut.bytes) 16 ≡ length mid.bytes → Resizes old new (λ d. grown d extra)
grows extra mode moved change word = resizes mode moved change (word ∙ moved.live.size)
    (λ d h. ap (λ n. let e : Directory = record d { size = n + extra } in e) (sym (stands-size h)))

-- as far as the last extent
pub shrinks : {old new : SegmentState} {mid : WindowState} → new.mode ≡ old.mode
    → MovesEnd current old.cut mid (least_size (live_of old.cut.bytes)) → ChangesBytes current mid new.cut 16 8
    → word_at (bytes_of new.cut.bytes) 16 ≡ length mid.bytes → Resizes old new (λ d. shrunk d)
shrinks {old} mode moved change word = resizes mode moved change (word ∙ moved.live.size)
    (λ d h. ap (λ (l : LiveSet). let e : Directory = record d { size = least_size l } in
    e) (denotes-live current old.cut.bytes d h.denotes))

-- and the new bytes are still a segment
pub resized-segment : {old new : SegmentState} {next : Directory → Directory}
    → Resizes old new next → IsSegment old.cut.bytes → IsSegment new.cut.bytes
resized-segment {next} r s = (next s.0, r.denotes s.0 s.1)

-- ---- the conditions of the heap's call

-- the size is that of each directory
pub fits-small : {b : List ℕ} (extra : ℕ) → IsSegment b
    → ((d : Directory) → DenotesCurrent b d → d.size + extra ≤ 1073741824) → length b + extra ≤ 1073741824
fits-small extra s h = let l = h s.0 s.1 in let e = stands-size s.1 in omega arith
