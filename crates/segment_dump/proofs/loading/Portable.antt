-- What is portable of a directory can be made, in the order of a dump.
use Rattle.segment_dump.proofs.Common.{◌≡◌, ℕ, suc, ◌+◌, ◌≤◌, ◌==◌, ◌&&◌, Bool, true, false, nat_lt, cond, nat_eq, List}
use Rattle.segment_dump.proofs.Common.{[], ◌∷◌, ◌++◌, length, map, refl, sym, ap, subst, ◌∙◌, arith, append_assoc}
use Rattle.segment_dump.proofs.Common.{append-nil, length-append, max, AllByRecursion, and_parts, eqb-true, false≢true}
use Rattle.segment_dump.proofs.Common.{nat_tests, Node, Class, Anonymous, Named, Unique, U8, class_code, code_of}
use Rattle.segment_dump.proofs.Common.{same_kind, Kind, Directory, Numbers, Object, by_kind, by_name, named_objects}
use Rattle.segment_dump.proofs.Common.{unique_objects, DenotesCurrent, IsStrict, by_kind-strict, by_name-strict}
use Rattle.segment_dump.proofs.Common.{index-parts, Needs, AreLeft, AreSortedItems, count_class, has_item_key, item_key}
use Rattle.segment_dump.proofs.Common.{key_in, kind_less, name_less, of_class, DumpItem, Items, item_of_object}
use Rattle.segment_dump.proofs.Common.{kind_of_content, portable, all_items, all_needs, both, prefix_room, item_needs}
use Rattle.segment_dump.proofs.{Common.items_needs, Common.AreOf, texts.Objects.IsGoodItem, counting.Sums.all-append}
use Rattle.segment_dump.proofs.{loading.DumpObjects.each-of}
use Rattle.segment_dump.proofs.{loading.DumpObjects.portable-told, texts.AllElements.AllByRecursion-append}
use Rattle.segment_dump.proofs.{texts.AllElements.all-any, texts.AllElements.all-by}
use Rattle.std.specs.{Cmp.Lexicographic.slice_cmp, Ordering.nat_cmp, Ordering.is_lt}
use Rattle.segment_manager.specs.Directory.{rises, same_bytes}
use Rattle.segment_dump.specs.{Building.AreNew, Filling.IsBuildable}
use Rattle.segment_dump.proofs.building.ObjectOrder.{Tells, kinds-tell, LessThan, heads-less, none-of, of-both}
use Rattle.segment_dump.proofs.building.ObjectOrder.{tails-less}

-- ---- in order

below-all : (said : DumpItem → DumpItem → Bool) (lt : Object → Object → Bool) → Tells said lt → IsStrict lt
    → (o p : Object) (ps : List Object) → lt o p ≡ true → rises lt (p ∷ ps) ≡ true
    → AllByRecursion (λ j. said (item_of_object o) j ≡ true) (map item_of_object (p ∷ ps))
below-all said lt t s o p [] l e = (sym (t o p) ∙ l, tt)
below-all said lt t s o p (q ∷ ps) l e =
    let r = and_parts (lt p q) (rises lt (q ∷ ps)) e in
    (sym (t o p) ∙ l, below-all said lt t s o q ps (s.trans o p q l r.0) r.1)

in-order : (said : DumpItem → DumpItem → Bool) (lt : Object → Object → Bool) → Tells said lt → IsStrict lt
    → (os : List Object) → rises lt os ≡ true → AreSortedItems said (map item_of_object os)
in-order said lt t s [] e = tt
in-order said lt t s (o ∷ []) e = (tt, tt)
in-order said lt t s (o ∷ p ∷ ps) e = let r = and_parts (lt o p) (rises lt (p ∷ ps)) e
    in (below-all said lt t s o p ps r.0 r.1, in-order said lt t s (p ∷ ps) r.1)

-- the named objects of a dump stand in order
pub named-in_order : (b : List ℕ) (d : Directory) → DenotesCurrent b d → AreSortedItems name_less (portable d).named
named-in_order b d s = in-order name_less by_name (λ o p.
    refl) by_name-strict (named_objects d) (index-parts d.named (named_objects d) by_name s.denotes.directory.named).2

-- the unique objects of a dump stand in order
pub unique-in_order : (b : List ℕ) (d : Directory) → DenotesCurrent b d → AreSortedItems kind_less (portable d).unique
unique-in_order b d s = in-order kind_less by_kind kinds-tell by_kind-strict (unique_objects d)
    (index-parts d.unique (unique_objects d) by_kind s.denotes.directory.unique).2

-- ---- new keys

-- a name is not before itself
asym-false : (t : Bool) (u : Bool) → t ≡ u → (t ≡ true → t ≡ false) → t ≡ false
asym-false true u e f = f refl
asym-false false u e f = refl

abbrev object_named : List ℕ → Object
object_named a = record {
  class = Named;
  name = a;
  value = Numbers U8 [];
  extent = record { offset = 0; len = 0; role = Node };
}

self-less : (a : List ℕ) → is_lt (slice_cmp nat_cmp a a) ≡ false
self-less a = asym-false (is_lt (slice_cmp nat_cmp a a)) (is_lt (slice_cmp nat_cmp a a)) refl (λ e.
    by_name-strict.asym (object_named a) (object_named a) e)

same-is : (a b : List ℕ) → same_bytes a b ≡ true → a ≡ b
same-is [] [] e = refl
same-is [] (y ∷ b) e = absurd (cc)
same-is (x ∷ a) [] e = absurd (cc)
same-is (x ∷ a) (y ∷ b) e =
    let p = and_parts (nat_eq x y) (same_bytes a b) e in
    let one : x ≡ y = eqb-true x y p.0 in
    let more = same-is a b p.1 in
    λ i. one i ∷ more i

differ-by : (t : Bool) (a b : List ℕ) → same_bytes a b ≡ t → is_lt (slice_cmp nat_cmp b a) ≡ true → t ≡ false
differ-by true a b e f = absurd (false≢true (sym (self-less a)
    ∙ ap (λ c. is_lt (slice_cmp nat_cmp c a)) (same-is a b e) ∙ f))
differ-by false a b e f = refl

names-differ : (a b : List ℕ) → is_lt (slice_cmp nat_cmp b a) ≡ true → same_bytes a b ≡ false
names-differ a b e = differ-by (same_bytes a b) a b refl e

kinds-differ : (k l : Kind) → nat_lt (code_of l) (code_of k) ≡ true → same_kind k l ≡ false
kinds-differ k l e = grind (arith, nat_tests)

and-false : (a b : Bool) → b ≡ false → (a && b) ≡ false
and-false true b e = e
and-false false b e = refl

-- one after all that are less
named-key : (i j : DumpItem) → i.class ≡ Named → name_less j i ≡ true → has_item_key (item_key i) j ≡ false
named-key i j e l =
    ap (λ c. has_item_key (key_in c i.name (kind_of_content i.content)) j) e
    ∙ and-false (class_code Named == class_code j.class) (same_bytes i.name j.name) (names-differ i.name j.name l)

unique-key : (i j : DumpItem) → i.class ≡ Unique → kind_less j i ≡ true → has_item_key (item_key i) j ≡ false
unique-key i j e l =
    ap (λ c. has_item_key (key_in c i.name (kind_of_content i.content)) j) e
    ∙ and-false (class_code Unique == class_code j.class)
    (same_kind (kind_of_content i.content) (kind_of_content j.content))
    (kinds-differ (kind_of_content i.content) (kind_of_content j.content) l)

unique-no_name : (i j : DumpItem) → i.class ≡ Unique → j.class ≡ Named → has_item_key (item_key i) j ≡ false
unique-no_name i j e f =
    ap (λ c. has_item_key (key_in c i.name (kind_of_content i.content)) j) e
    ∙ ap (λ c. (class_code Unique == class_code c)
    && same_kind (kind_of_content i.content) (kind_of_content j.content)) f

anonymous-key : (i j : DumpItem) → i.class ≡ Anonymous → has_item_key (item_key i) j ≡ false
anonymous-key i j e = ap (λ c. has_item_key (key_in c i.name (kind_of_content i.content)) j) e

new-named : (done is rest : List DumpItem) → AllByRecursion (LessThan name_less is) done
    → AreSortedItems name_less is → AreOf Named is → AreNew (done ++ is) rest → AreNew done (is ++ rest)
new-named done [] rest a o c n = subst (λ l. AreNew l rest) (append-nil done) n
new-named done (i ∷ is) rest a o c n = (
  all-by (λ j. name_less j i ≡ true) (λ j.
      has_item_key (item_key i) j ≡ false) done (heads-less name_less i is done a) (λ j h. named-key i j c.0 h),
  new-named (done ++ i ∷ []) is rest (tails-less name_less i is done a o.0) o.1 c.1
      (subst (λ l. AreNew l rest) (sym (append_assoc done (i ∷ []) is)) n),
)

new-unique : (names done is rest : List DumpItem) → AreOf Named names → AllByRecursion (LessThan kind_less is) done
    → AreSortedItems kind_less is → AreOf Unique is → AreNew (names ++ (done ++ is)) rest
    → AreNew (names ++ done) (is ++ rest)
new-unique names done [] rest m a o c n = subst (λ l. AreNew (names ++ l) rest) (append-nil done) n
new-unique names done (i ∷ is) rest m a o c n = (
  AllByRecursion-append (λ j. has_item_key (item_key i) j ≡ false) names done
      (all-by (λ j. j.class ≡ Named) (λ j. has_item_key (item_key i) j ≡ false) names m
      (λ j h. unique-no_name i j c.0 h)) (all-by (λ j. kind_less j i ≡ true) (λ j.
      has_item_key (item_key i) j ≡ false) done (heads-less kind_less i is done a) (λ j h. unique-key i j c.0 h)),
  subst (λ l. AreNew l (is ++ rest)) (sym (append_assoc names done (i ∷ [])))
      (new-unique names (done ++ i ∷ []) is rest m (tails-less kind_less i is done a o.0) o.1 c.1
      (subst (λ l. AreNew (names ++ l) rest) (sym (append_assoc done (i ∷ []) is)) n)),
)

new-anonymous : (done is : List DumpItem) → AreOf Anonymous is → AreNew done is
new-anonymous done [] c = tt
new-anonymous done (i ∷ is) c = (
  all-any (λ j. has_item_key (item_key i) j ≡ false) (λ j. anonymous-key i j c.0) done,
  new-anonymous (done ++ i ∷ []) is c.1,
)

pub portable-new : (b : List ℕ) (d : Directory) → DenotesCurrent b d → AreNew [] (all_items (portable d))
portable-new b d s =
    let t = portable-told b d s in
    let p = portable d in
    new-named [] p.named (p.unique ++ p.anonymous) tt (named-in_order b d s) (each-of Named p.named t.named)
    (subst (λ l. AreNew l (p.unique ++ p.anonymous)) (append-nil p.named)
    (new-unique p.named [] p.unique p.anonymous (each-of Named p.named t.named) tt (unique-in_order b d s)
    (each-of Unique p.unique t.unique) (new-anonymous (p.named ++ ([] ++ p.unique)) p.anonymous
    (each-of Anonymous p.anonymous t.anonymous))))

-- ---- how many of a class

count-most-if : (b : Bool) (x : DumpItem) (xs is : List DumpItem) → length xs ≤ length is
    → length (cond b (x ∷ xs) xs) ≤ suc (length is)
count-most-if true x xs is h = omega arith
count-most-if false x xs is h = omega arith

of-append : (c : Class) (xs ys : List DumpItem) → count_class c (xs ++ ys) ≡ count_class c xs + count_class c ys
of-append c xs ys = ap length (of-both c xs ys) ∙ length-append (of_class c xs) (of_class c ys)

count-most : (c : Class) (is : List DumpItem) → count_class c is ≤ length is
count-most c [] = omega arith
count-most c (i ∷ is) = count-most-if (class_code c == class_code i.class) i (of_class c is) is (count-most c is)

count-none : (c d : Class) (is : List DumpItem) → (class_code c == class_code d) ≡ false → AreOf d is
    → count_class c is ≡ 0
count-none c d is e a = ap length (none-of c d is e a)

pub portable-named : (b : List ℕ) (d : Directory) → DenotesCurrent b d
    → count_class Named (all_items (portable d)) ≤ length (portable d).named
portable-named b d s =
    let t = portable-told b d s in
    let p = portable d in
    omega (
      arith,
      of-append Named p.named (p.unique ++ p.anonymous),
      of-append Named p.unique p.anonymous,
      count-most Named p.named,
      count-none Named Unique p.unique refl (each-of Unique p.unique t.unique),
      count-none Named Anonymous p.anonymous refl (each-of Anonymous p.anonymous t.anonymous),
    )

pub portable-unique : (b : List ℕ) (d : Directory) → DenotesCurrent b d
    → count_class Unique (all_items (portable d)) ≤ length (portable d).unique
portable-unique b d s =
    let t = portable-told b d s in
    let p = portable d in
    omega (
      arith,
      of-append Unique p.named (p.unique ++ p.anonymous),
      of-append Unique p.unique p.anonymous,
      count-most Unique p.unique,
      count-none Unique Named p.named refl (each-of Named p.named t.named),
      count-none Unique Anonymous p.anonymous refl (each-of Anonymous p.anonymous t.anonymous),
    )

-- ---- all of it

all-rooms : (items : Items) → (all_needs item_needs (all_items items)).room ≡ (all_needs item_needs items.named).room
    + ((all_needs item_needs items.unique).room + (all_needs item_needs items.anonymous).room)
all-rooms items =
    ap (λ (n : Needs). n.room) (all-append item_needs items.named (items.unique ++ items.anonymous)
    ∙ ap (both (all_needs item_needs items.named)) (all-append item_needs items.unique items.anonymous))

all-longest : (items : Items) → (all_needs item_needs (all_items items)).longest
    ≡ max (all_needs item_needs items.named).longest
    (max (all_needs item_needs items.unique).longest (all_needs item_needs items.anonymous).longest)
all-longest items =
    ap (λ (n : Needs). n.longest) (all-append item_needs items.named (items.unique ++ items.anonymous)
    ∙ ap (both (all_needs item_needs items.named)) (all-append item_needs items.unique items.anonymous))

-- the needs of a dump are those of its front and its objects
pub needs-all : (items : Items) → (items_needs items).room
    ≡ prefix_room (length items.named) (length items.unique) + (all_needs item_needs (all_items items)).room
needs-all items = omega (arith, all-rooms items)

buildables : (c : Class) (is : List DumpItem) → AllByRecursion (IsGoodItem c) is → AllByRecursion IsBuildable is
buildables c is a = all-by (IsGoodItem c) IsBuildable is a (λ i h. record { name = h.name; content = h.content })

-- the objects of a dump that are left to be built
pub portable-left : (b : List ℕ) (d : Directory) → DenotesCurrent b d → (size room : ℕ)
    → (items_needs (portable d)).longest ≤ room
    → AreLeft (record { named = length (portable d).named; unique = length (portable d).unique; size = size }) room
    [] (all_items (portable d))
portable-left b d s size room l =
    let p = portable d in
    let t = portable-told b d s in
    record {
      good = AllByRecursion-append IsBuildable p.named (p.unique ++ p.anonymous) (buildables Named p.named t.named)
          (AllByRecursion-append IsBuildable p.unique p.anonymous (buildables Unique p.unique t.unique)
          (buildables Anonymous p.anonymous t.anonymous));
      new = portable-new b d s;
      named = portable-named b d s;
      unique = portable-unique b d s;
      longest = omega (arith, all-longest p, l);
    }
