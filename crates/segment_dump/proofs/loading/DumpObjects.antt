-- The objects of a directory are such as a dump tells and a load makes, but for how many elements they have.
use Rattle.segment_dump.proofs.Common.{◌≡◌, ◌≢◌, ℕ, ◌-◌, ◌<◌, ◌^◌, Bool, true, false, ◌&&◌, ◌==◌, cond, List, [], ◌∷◌}
use Rattle.segment_dump.proofs.Common.{length, map, refl, sym, ap, subst, ◌∙◌, arith, if◌then◌else◌, ◌⊎◌, inl, inr, ◌+◌}
use Rattle.segment_dump.proofs.Common.{◌*◌, ◌/◌, ◌≤◌, ℤ, nat_le, nat_lt, filter, int_lt, AllByRecursion, list_all}
use Rattle.segment_dump.proofs.Common.{and_parts, ltb-true, leb-true, nat_tests, current, Node, Storage, is_legal_size}
use Rattle.segment_dump.proofs.Common.{is_proper, proper_from, has_backing, serves, Class, Anonymous, Named, Unique}
use Rattle.segment_dump.proofs.Common.{ScalarKind, class_code, is_kind_of, is_value, size_of, is_name, is_rising}
use Rattle.segment_dump.proofs.Common.{node_len, NumberPair, is_number_pair, item_of, Bytes, Directory, Elements}
use Rattle.segment_dump.proofs.Common.{Numbers, Object, Pairs, Texts, Value, by_kind, by_name, has_good_name, is_class}
use Rattle.segment_dump.proofs.Common.{is_good_value, is_object, kind_of, live, named_objects, object_len}
use Rattle.segment_dump.proofs.Common.{unique_objects, has_own_block, is_owned_text, DenotesCurrent, all-ordered}
use Rattle.segment_dump.proofs.Common.{live-size, anonymous_objects, content_of, item_of_object, portable, ValueContent}
use Rattle.segment_dump.proofs.Common.{DumpItem, Map, Scalars, String, Strings, Vector, bytes_in, count_of_content}
use Rattle.segment_dump.proofs.Common.{kind_of_content, IsTypedPair, IsByteList, AreRising, AreValues}
use Rattle.segment_dump.proofs.Common.{IsBuildableContent, IsNameIn, ints, OwnedText, all_needs, elements_room}
use Rattle.segment_dump.proofs.Common.{item_needs, items_needs, object_room, text_needs, texts_needs, AreOf}
use Rattle.block_tags.specs.declared.tile.Role.TheVariants.{Object as ObjectRole}
use Rattle.seg_types.specs.Names.{is_text_name}
use Rattle.segment_dump.specs.Laws.{DumpsTellObjects, DumpsTellSizes}
use Rattle.std.specs.Str.{is_utf8}
use Rattle.std.proofs.lemmas.Str.{IsUtf8-from_is_utf8}
use lib.Dec.{ltb}
use lib.Utf8.{encode, encodes, next, scalar, scalars, scalar_cases}
use Rattle.segment_dump.proofs.{texts.Objects.IsGoodItem, texts.Dumps.AreItems, texts.Dumps.dumps-read}
use Rattle.segment_dump.proofs.{texts.Dumps.sizes-read}
use Rattle.segment_dump.proofs.{counting.Sums.block-least, counting.Sums.node-least, counting.Sums.size-least}
use Rattle.segment_dump.proofs.{space.Objects.segments-have-room}
use Rattle.segment_dump.proofs.texts.AllElements.{AllByRecursion-append, all-by, all-kept, all-mapped, all-tested}

-- ---- names

encode-by : (a b d : Bool) (c : ℕ) → ltb c 128 ≡ a → ltb c 2048 ≡ b → ltb c 65536 ≡ d → c < 1114112
    → IsByteList (cond a (c ∷ []) (cond b ((192 + c / 64) ∷ next c ∷ [])
    (cond d ((224 + c / 4096) ∷ next (c / 64) ∷ next c ∷ []) ((240 + c / 262144) ∷ next (c / 4096) ∷ next (c / 64)
    ∷ next c ∷ []))))
encode-by true b d c e f g l = (omega (arith, ltb-true c 128 e), tt)
encode-by false true d c e f g l = (omega (arith, ltb-true c 2048 f), (omega arith, tt))
encode-by false false true c e f g l = (omega (arith, ltb-true c 65536 g), (omega arith, (omega arith, tt)))
encode-by false false false c e f g l = (omega (arith, l), (omega arith, (omega arith, (omega arith, tt))))

scalar-most : (c : ℕ) → (c < 55296) ⊎ ((57344 ≤ c) × (c < 1114112)) → c < 1114112
scalar-most c (inl h) = omega (arith, h)
scalar-most c (inr h) = h.1

encode-bytes : (c : ℕ) → scalar c ≡ true → IsByteList (encode c)
unfolding encode
encode-bytes c e = encode-by (ltb c 128) (ltb c 2048) (ltb c 65536) c refl refl refl (scalar-most c (scalar_cases c e))

encodes-bytes : (cs : List ℕ) → scalars cs ≡ true → IsByteList (encodes cs)
encodes-bytes [] e = tt
encodes-bytes (c ∷ cs) e = let p = and_parts (scalar c) (scalars cs) e in AllByRecursion-append (λ b. b < 256)
    (encode c) (encodes cs) (encode-bytes c p.0) (encodes-bytes cs p.1)

utf8-bytes : (bs : List ℕ) → is_utf8 bs ≡ true → IsByteList bs
utf8-bytes bs e = let u = IsUtf8-from_is_utf8 bs e in subst IsByteList u.1.1 (encodes-bytes u.0 u.1.0)

text-name : (name : List ℕ) → is_text_name name ≡ true → IsByteList name × (length name ≤ 255)
unfolding is_text_name
text-name name e =
    let p = and_parts (nat_le 1 (length name) && nat_le (length name) 255 && is_utf8 name) _ e in
    let q = and_parts (nat_le 1 (length name) && nat_le (length name) 255) (is_utf8 name) p.0 in
    let r = and_parts (nat_le 1 (length name)) (nat_le (length name) 255) q.0 in
    (utf8-bytes name q.1, leb-true (length name) 255 r.1)

good-name : (name : List ℕ) → is_name current name ≡ true → IsByteList name × (length name ≤ 255)
unfolding current
good-name name e = text-name name e

no-bytes : (name : List ℕ) → (length name == 0) ≡ true → name ≡ []
no-bytes [] e = refl
no-bytes (b ∷ bs) e = absurd (grind (arith, nat_tests))

name-in : (c : Class) (name : List ℕ)
    → (if class_code Named == class_code c then is_name current name else length name == 0) ≡ true → IsNameIn c name
name-in Named name e = let g = good-name name e in (e, g.0, g.1)
name-in Unique name e = no-bytes name e
name-in Anonymous name e = no-bytes name e

-- ---- values, but for how many there are

abbrev IsHalfContent : ValueContent → Type 0
IsHalfContent (Scalars k zs) = (1 ≤ length zs) × (length zs ≤ 1048576) × AreValues k zs
IsHalfContent (Vector k zs) = AreValues k zs
IsHalfContent (String bs) = IsByteList bs
IsHalfContent (Map k v ps) = AllByRecursion (IsTypedPair k v) ps × AreRising ps
IsHalfContent (Strings ts) = AllByRecursion IsByteList ts

all-values : (k : ScalarKind) (zs : List ℤ) → list_all (is_value k) zs ≡ true → AreValues k zs
all-values k zs e = all-tested (is_value k) (λ z. is_value k z ≡ true) (λ z t. t) zs e

all-bytes : (bs : List ℕ) → list_all (λ b. nat_lt b 256) bs ≡ true → IsByteList bs
all-bytes bs e = all-tested (λ b. nat_lt b 256) (λ b. b < 256) (λ b t. ltb-true b 256 t) bs e

pair-of : (k v : ScalarKind) (p : NumberPair) → is_number_pair k v p ≡ true → IsTypedPair k v (item_of p)
pair-of k v p e =
    let q = and_parts (is_value k p.key
    && is_value v p.value) (serves p.node Node (node_len (size_of k) (size_of v))) e in
    let r = and_parts (is_value k p.key) (is_value v p.value) q.0 in
    (r.0, r.1)

all-pairs : (k v : ScalarKind) (ps : List NumberPair) → list_all (is_number_pair k v) ps ≡ true
    → AllByRecursion (IsTypedPair k v) (map item_of ps)
all-pairs k v ps e = all-mapped (IsTypedPair k v) item_of ps
    (all-tested (is_number_pair k v) (λ p. IsTypedPair k v (item_of p)) (pair-of k v) ps e)

int-trans : (x y z : ℤ) → int_lt x y ≡ true → int_lt y z ≡ true → int_lt x z ≡ true
int-trans x y z e f = grind (arith, ints)

below-pairs : (x : ℤ) (p : NumberPair) (ps : List NumberPair) → int_lt x p.key ≡ true
    → is_rising int_lt (p ∷ ps) ≡ true → AllByRecursion (λ (q : ℤ × ℤ). int_lt x q.0 ≡ true) (map item_of (p ∷ ps))
below-pairs x p [] l e = (l, tt)
below-pairs x p (q ∷ ps) l e =
    let r = and_parts (int_lt p.key q.key) (is_rising int_lt (q ∷ ps)) e in
    (l, below-pairs x q ps (int-trans x p.key q.key l r.0) r.1)

all-rising : (ps : List NumberPair) → is_rising int_lt ps ≡ true → AreRising (map item_of ps)
all-rising [] e = tt
all-rising (p ∷ []) e = (tt, tt)
all-rising (p ∷ q ∷ ps) e =
    let r = and_parts (int_lt p.key q.key) (is_rising int_lt (q ∷ ps)) e in
    (below-pairs p.key q ps r.0 r.1, all-rising (q ∷ ps) r.1)

owned-bytes : (p : OwnedText) → is_owned_text p ≡ true → IsByteList (bytes_in p)
owned-bytes p e = all-bytes p.bytes (and_parts (has_own_block p) (list_all (λ b. nat_lt b 256) p.bytes) e).1

all-texts : (ps : List OwnedText) → list_all is_owned_text ps ≡ true → AllByRecursion IsByteList (map bytes_in ps)
all-texts ps e = all-mapped IsByteList bytes_in ps (all-tested is_owned_text (λ p.
    IsByteList (bytes_in p)) owned-bytes ps e)

value-half : (v : Value) → is_good_value v ≡ true → IsHalfContent (content_of v)
value-half (Numbers k zs) e =
    let p = and_parts (nat_le 1 (length zs) && nat_le (length zs) 1048576) (list_all (is_value k) zs) e in
    let q = and_parts (nat_le 1 (length zs)) (nat_le (length zs) 1048576) p.0 in
    (leb-true 1 (length zs) q.0, leb-true (length zs) 1048576 q.1, all-values k zs p.1)
value-half (Elements k zs t) e =
    all-values k zs (and_parts (nat_le (length zs) t.capacity && has_backing Storage (size_of k) t)
    (list_all (is_value k) zs) e).1
value-half (Bytes bs t) e = all-bytes bs
    (and_parts (nat_le (length bs) t.capacity && has_backing Storage 1 t) (list_all (λ b. nat_lt b 256) bs) e).1
value-half (Pairs k v ps) e = let p = and_parts (is_rising int_lt ps) (list_all (is_number_pair k v) ps) e
    in (all-pairs k v ps p.1, all-rising ps p.0)
value-half (Texts ps t) e = all-texts ps
    (and_parts (nat_le (length ps) t.capacity && has_backing Storage 16 t) (list_all is_owned_text ps) e).1

-- ---- an object of a class

class-is : (c d : Class) → (class_code c == class_code d) ≡ true → d ≡ c
class-is Anonymous Anonymous e = refl
class-is Named Named e = refl
class-is Unique Unique e = refl
class-is c d e = absurd (cc)

record IsHalf (c : Class) (i : DumpItem) : Type 0 where
  class : i.class ≡ c
  name : IsNameIn i.class i.name
  content : IsHalfContent i.content

abbrev HasHalf : Class → Object → Type 0
HasHalf c o = IsHalf c (item_of_object o)

object-half : (c : Class) (o : Object) → is_class c o ≡ true → is_object current o ≡ true → HasHalf c o
object-half c o f e =
    let p = and_parts (has_good_name current o && is_kind_of current (kind_of o.value)
    && is_good_value o.value) (serves o.extent ObjectRole (object_len o.name o.value)) e in
    let q = and_parts (has_good_name current o && is_kind_of current (kind_of o.value)) (is_good_value o.value) p.0 in
    let r = and_parts (has_good_name current o) (is_kind_of current (kind_of o.value)) q.0 in
    record { class = class-is c o.class f; name = name-in o.class o.name r.0; content = value-half o.value q.1 }

-- ---- how many there are

own-part : (i : DumpItem) → elements_room (kind_of_content i.content) (count_of_content i.content)
    + (texts_needs i.content).room ≤ (item_needs i).room
unfolding object_room
own-part i = omega arith

texts-counted : (ts : List (List ℕ)) → AllByRecursion IsByteList ts → (all_needs text_needs ts).room ≤ 1073741824
    → AllByRecursion (λ (bs : List ℕ). (length bs < 2 ^ 64) × IsByteList bs) ts
texts-counted [] a h = tt
texts-counted (t ∷ ts) a h = ((omega (arith, block-least (length t), h), a.0), texts-counted ts a.1 (omega (arith, h)))

content-counted : (c : ValueContent) → IsHalfContent c
    → elements_room (kind_of_content c) (count_of_content c) + (texts_needs c).room ≤ 1073741824 → IsBuildableContent c
content-counted (Scalars k zs) h l = h
content-counted (Vector k zs) h l = (omega (arith, l, block-least (size_of k * length zs), size-least k (length zs)), h)
content-counted (String bs) h l = (omega (arith, l, block-least (length bs)), h)
content-counted (Map k v ps) h l = (omega (arith, l, node-least k v (length ps)), h.0, h.1)
content-counted (Strings ts) h l =
    (omega (arith, l, block-least (16 * length ts)), texts-counted ts h (omega (arith, l)))

nameless : (c d : Class) (name : List ℕ) → d ≡ c → c ≢ Named → IsNameIn d name → name ≡ []
nameless c Named name e n h = absurd (n (sym e))
nameless c Unique name e n h = h
nameless c Anonymous name e n h = h

half-good : (c : Class) (i : DumpItem) → IsHalf c i → (item_needs i).room ≤ 1073741824 → IsGoodItem c i
half-good c i h l = record {
  class = h.class;
  name = h.name;
  nameless = λ n. nameless c i.class i.name h.class n h.name;
  content = content-counted i.content h.content (omega (arith, own-part i, l));
}

good-items : (c : Class) (is : List DumpItem)
    → AllByRecursion (IsHalf c) is → (all_needs item_needs is).room ≤ 1073741824 → AllByRecursion (IsGoodItem c) is
good-items c [] a l = tt
good-items c (i ∷ is) a l = (half-good c i a.0 (omega (arith, l)), good-items c is a.1 (omega (arith, l)))

legal-most : (n : ℕ) → is_legal_size n ≡ true → n ≤ 1073741824
legal-most n e = grind (arith, nat_tests)

-- the size of a segment is at most 1 GiB
pub size-most : (b : List ℕ) (d : Directory) → DenotesCurrent b d → d.size ≤ 1073741824
unfolding is_proper
size-most b d s =
    let legal = and_parts (is_legal_size (live d).size) (proper_from 128 (live d).extents ((live d).size - 16))
    s.denotes.directory.proper in
    legal-most d.size (ap is_legal_size (sym (live-size d)) ∙ legal.0)

-- what is portable of a directory
pub portable-told : (b : List ℕ) (d : Directory) → DenotesCurrent b d → AreItems (portable d)
portable-told b d s =
    let good : AllByRecursion (λ o. is_object current o ≡ true) d.objects =
    all-tested (is_object current) (λ o. is_object current o ≡ true) (λ o t. t) d.objects s.denotes.directory.objects in
    let all : (c : Class) → AllByRecursion (HasHalf c) (filter (is_class c) d.objects) =
    λ c. all-kept (λ o. is_object current o ≡ true) (HasHalf c) (is_class c) (object-half c) d.objects good in
    let named = all-mapped (IsHalf Named) item_of_object (named_objects d)
    (all-ordered (HasHalf Named) Named by_name d.objects (all Named)) in
    let unique = all-mapped (IsHalf Unique) item_of_object (unique_objects d)
    (all-ordered (HasHalf Unique) Unique by_kind d.objects (all Unique)) in
    let anonymous = all-mapped (IsHalf Anonymous) item_of_object (anonymous_objects d) (all Anonymous) in
    let small : (items_needs (portable d)).room ≤ 1073741824 = omega (arith, segments-have-room b d s, size-most b d s)
    in
    record {
      named = good-items Named (portable d).named named (omega (arith, small));
      unique = good-items Unique (portable d).unique unique (omega (arith, small));
      anonymous = good-items Anonymous (portable d).anonymous anonymous (omega (arith, small));
    }

-- objects that are good for a class are of it
pub each-of : (c : Class) (is : List DumpItem) → AllByRecursion (IsGoodItem c) is → AreOf c is
each-of c is a = all-by (IsGoodItem c) (λ i. i.class ≡ c) is a (λ i h. h.class)

-- law: dumps tell objects
pub dumps-tell-objects : DumpsTellObjects
dumps-tell-objects b c d e m n s t same =
    dumps-read m n (portable d) (portable e) (portable-told b d s) (portable-told c e t) same

-- law: dumps tell sizes
pub dumps-tell-sizes : DumpsTellSizes
dumps-tell-sizes b c d e s t same = sizes-read d.size e.size (portable d) (portable e) (omega (arith, size-most b d s))
    (omega (arith, size-most c e t)) same
