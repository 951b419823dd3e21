-- The objects of a segment, class by class and in order, are those of a dump where they were made in its order.
use Rattle.segment_dump.proofs.Common.{◌≡◌, ℕ, suc, ◌+◌, ◌==◌, ◌&&◌, Bool, true, false, nat_lt, cond, List, [], ◌∷◌}
use Rattle.segment_dump.proofs.Common.{◌++◌, length, map, Some, None, if◌then◌else◌, refl, sym, ap, subst, ◌∙◌, arith}
use Rattle.segment_dump.proofs.Common.{append_assoc, filter, find, fold, ⊤, AllByRecursion, append-nil, map-append}
use Rattle.segment_dump.proofs.Common.{Class, Anonymous, Named, Unique, class_code, code_of, same_kind, Key, ByHandle}
use Rattle.segment_dump.proofs.Common.{ByKind, ByName, NoKey, Directory, Numbers, Object, Value, by_kind, by_name}
use Rattle.segment_dump.proofs.Common.{has_key, insert_by, is_class, kind_of, named_objects, object_at, unique_objects}
use Rattle.segment_dump.proofs.Common.{IsStrict, AreSortedItems, count_class, has_item_key, item_key, kind_less}
use Rattle.segment_dump.proofs.Common.{of_class, DumpItem, content_of, item_of_object, kind_of_content, AreOf}
use Rattle.segment_dump.proofs.texts.AllElements.{AllByRecursion-append, all-by}

-- ---- what items say of objects

-- the kind of a value's content is the value's
pub kind-made : (v : Value) → kind_of_content (content_of v) ≡ kind_of v
kind-made (Numbers k zs) = refl
kind-made v = refl

key-said : (key : Key) (o : Object) → ((h : ℕ) → key ≡ ByHandle h → ⊥)
    → has_key key o ≡ has_item_key key (item_of_object o)
key-said (ByName name) o n = refl
key-said (ByKind k) o n = ap (λ l. (class_code Unique == class_code o.class) && same_kind k l) (sym (kind-made o.value))
key-said (ByHandle h) o n = absurd (n h refl)
key-said NoKey o n = refl

pub none-there : (key : Key) (os : List Object) → ((h : ℕ) → key ≡ ByHandle h → ⊥)
    → AllByRecursion (λ i. has_item_key key i ≡ false) (map item_of_object os) → find (has_key key) os ≡ None
none-there key [] n a = refl
none-there key (o ∷ os) n a = ap (λ b. cond b (Some o) (find (has_key key) os)) (key-said key o n ∙ a.0)
    ∙ none-there key os n a.1

no-handle : (i : DumpItem) (c : Class) (h : ℕ) → i.class ≡ c → item_key i ≡ ByHandle h → ⊥
no-handle i Named h e f = cc (ap (λ c. item_key (record i { class = c })) (sym e) ∙ f)
no-handle i Unique h e f = cc (ap (λ c. item_key (record i { class = c })) (sym e) ∙ f)
no-handle i Anonymous h e f = cc (ap (λ c. item_key (record i { class = c })) (sym e) ∙ f)

-- a new item has no object yet
pub new-none : (d : Directory) (done : List DumpItem) (i : DumpItem) → map item_of_object d.objects ≡ done
    → AllByRecursion (λ j. has_item_key (item_key i) j ≡ false) done → object_at d (item_key i) ≡ None
new-none d done i e a = none-there (item_key i) d.objects (λ h f.
    no-handle i i.class h refl f) (subst (AllByRecursion (λ j. has_item_key (item_key i) j ≡ false)) (sym e) a)

-- ---- by class

both-if : (b : Bool) (x : DumpItem) (zs xs ys : List DumpItem) → zs ≡ xs ++ ys
    → cond b (x ∷ zs) zs ≡ cond b (x ∷ xs) xs ++ ys
both-if true x zs xs ys e = ap (λ l. x ∷ l) e
both-if false x zs xs ys e = e

-- the objects of a class of two lists
pub of-both : (c : Class) (xs ys : List DumpItem) → of_class c (xs ++ ys) ≡ of_class c xs ++ of_class c ys
of-both c [] ys = refl
of-both c (x ∷ xs) ys = both-if (class_code c == class_code x.class) x (of_class c (xs ++ ys)) (of_class c xs)
    (of_class c ys) (of-both c xs ys)

-- a list of another class has no object of the class
pub none-of : (c d : Class) (is : List DumpItem) → (class_code c == class_code d) ≡ false → AreOf d is
    → of_class c is ≡ []
none-of c d [] e a = refl
none-of c d (i ∷ is) e a = ap (λ b. cond b (i ∷ of_class c is) (of_class c is))
    (ap (λ x. class_code c == class_code x) a.0 ∙ e) ∙ none-of c d is e a.1

filter-if : (b : Bool) (o : Object) (os : List Object) (is : List DumpItem) → map item_of_object os ≡ is
    → map item_of_object (cond b (o ∷ os) os) ≡ cond b (item_of_object o ∷ is) is
filter-if true o os is e = ap (λ l. item_of_object o ∷ l) e
filter-if false o os is e = e

-- the objects of a class, as a dump has them
pub class-items : (c : Class) (os : List Object) → map item_of_object (filter (is_class c) os) ≡ of_class c
    (map item_of_object os)
class-items c [] = refl
class-items c (o ∷ os) = filter-if (is_class c o) o (filter (is_class c) os) (of_class c (map item_of_object os))
    (class-items c os)

insert-len-if : (b : Bool) (o p : Object) (ps qs : List Object) → length qs ≡ suc (length ps)
    → length (if b then o ∷ p ∷ ps else p ∷ qs) ≡ suc (suc (length ps))
insert-len-if true o p ps qs e = refl
insert-len-if false o p ps qs e = ap suc e

insert-len : (lt : Object → Object → Bool) (o : Object) (ps : List Object)
    → length (insert_by lt o ps) ≡ suc (length ps)
insert-len lt o [] = refl
insert-len lt o (p ∷ ps) = insert-len-if (lt o p) o p ps (insert_by lt o ps) (insert-len lt o ps)

ordered-len : (lt : Object → Object → Bool) (acc os : List Object)
    → length (fold (λ ps o. insert_by lt o ps) acc os) ≡ length acc + length os
ordered-len lt acc [] = omega arith
ordered-len lt acc (o ∷ os) = omega (arith, ordered-len lt (insert_by lt o acc) os, insert-len lt o acc)

map-len : (os : List Object) → length (map item_of_object os) ≡ length os
map-len [] = refl
map-len (o ∷ os) = ap suc (map-len os)

class-len : (c : Class) (os : List Object) (done : List DumpItem) → map item_of_object os ≡ done
    → length (filter (is_class c) os) ≡ count_class c done
class-len c os done e = sym (map-len (filter (is_class c) os)) ∙ ap length (class-items c os ∙ ap (of_class c) e)

-- as many names as objects of the class were built
pub named-len : (d : Directory) (done : List DumpItem) → map item_of_object d.objects ≡ done
    → length (named_objects d) ≡ count_class Named done
named-len d done e = let l : length (named_objects d) ≡ 0 + length (filter (is_class Named) d.objects) =
    ordered-len by_name [] (filter (is_class Named) d.objects) in omega (arith, l, class-len Named d.objects done e)

-- as many unique objects as objects of the class were built
pub unique-len : (d : Directory) (done : List DumpItem) → map item_of_object d.objects ≡ done
    → length (unique_objects d) ≡ count_class Unique done
unique-len d done e = let l : length (unique_objects d) ≡ 0 + length (filter (is_class Unique) d.objects) =
    ordered-len by_kind [] (filter (is_class Unique) d.objects) in omega (arith, l, class-len Unique d.objects done e)

-- ---- objects that are in order already

-- all before all
abbrev AllLess : (Object → Object → Bool) → Object → List Object → Type 0
AllLess lt o = AllByRecursion (λ (p : Object). lt p o ≡ true)

insert-last : (lt : Object → Object → Bool) → IsStrict lt → (o : Object) (ps : List Object) → AllLess lt o ps
    → insert_by lt o ps ≡ ps ++ o ∷ []
insert-last lt s o [] a = refl
insert-last lt s o (p ∷ ps) a = ap (λ b. if b then o ∷ p ∷ ps else p ∷ insert_by lt o ps) (s.asym p o a.0)
    ∙ ap (λ l. p ∷ l) (insert-last lt s o ps a.1)

-- each is after all before it
abbrev AreOrdered : (Object → Object → Bool) → List Object → List Object → Type 0
AreOrdered lt acc [] = ⊤
AreOrdered lt acc (o ∷ os) = AllLess lt o acc × AreOrdered lt (acc ++ o ∷ []) os

ordered-same : (lt : Object → Object → Bool) → IsStrict lt → (acc os : List Object) → AreOrdered lt acc os
    → fold (λ ps o. insert_by lt o ps) acc os ≡ acc ++ os
ordered-same lt s acc [] a = sym (append-nil acc)
ordered-same lt s acc (o ∷ os) a =
    ap (λ l. fold (λ ps o. insert_by lt o ps) l os) (insert-last lt s o acc a.0)
    ∙ ordered-same lt s (acc ++ o ∷ []) os a.1 ∙ append_assoc acc (o ∷ []) os

-- the same said of items
abbrev pub LessAll : (DumpItem → DumpItem → Bool) → DumpItem → List DumpItem → Type 0
LessAll lt i = AllByRecursion (λ j. lt j i ≡ true)

abbrev AreItemsOrdered : (DumpItem → DumpItem → Bool) → List DumpItem → List DumpItem → Type 0
AreItemsOrdered lt acc [] = ⊤
AreItemsOrdered lt acc (i ∷ is) = LessAll lt i acc × AreItemsOrdered lt (acc ++ i ∷ []) is

-- an object is less than each of a list
abbrev pub LessThan : (DumpItem → DumpItem → Bool) → List DumpItem → DumpItem → Type 0
LessThan lt is j = AllByRecursion (λ k. lt j k ≡ true) is

-- the first object is after those before it
pub heads-less : (lt : DumpItem → DumpItem → Bool) (i : DumpItem) (is acc : List DumpItem)
    → AllByRecursion (LessThan lt (i ∷ is)) acc → LessAll lt i acc
heads-less lt i is acc a = all-by (LessThan lt (i ∷ is)) (λ j. lt j i ≡ true) acc a (λ j h. h.0)

-- the other objects are after those before them
pub tails-less : (lt : DumpItem → DumpItem → Bool) (i : DumpItem) (is acc : List DumpItem)
    → AllByRecursion (LessThan lt (i ∷ is)) acc → LessThan lt is i → AllByRecursion (LessThan lt is) (acc ++ i ∷ [])
tails-less lt i is acc a h = AllByRecursion-append (LessThan lt is) acc (i ∷ [])
    (all-by (LessThan lt (i ∷ is)) (LessThan lt is) acc a (λ j h. h.1)) (h, tt)

items-ordered : (lt : DumpItem → DumpItem → Bool) (acc is : List DumpItem)
    → AllByRecursion (λ j. AllByRecursion (λ k. lt j k ≡ true) is) acc → AreSortedItems lt is
    → AreItemsOrdered lt acc is
items-ordered lt acc [] a h = tt
items-ordered lt acc (i ∷ is) a h = (
  heads-less lt i is acc a,
  items-ordered lt (acc ++ i ∷ []) is
      (tails-less lt i is acc a h.0) h.1,
)

-- an order of objects that their items tell
abbrev pub Tells : (DumpItem → DumpItem → Bool) → (Object → Object → Bool) → Type 0
Tells said lt = (o p : Object) → lt o p ≡ said (item_of_object o) (item_of_object p)

objects-less : (said : DumpItem → DumpItem → Bool) (lt : Object → Object → Bool) → Tells said lt
    → (o : Object) (acc : List Object) → LessAll said (item_of_object o) (map item_of_object acc) → AllLess lt o acc
objects-less said lt t o [] a = tt
objects-less said lt t o (p ∷ acc) a = (t p o ∙ a.0, objects-less said lt t o acc a.1)

objects-ordered : (said : DumpItem → DumpItem → Bool) (lt : Object → Object → Bool) → Tells said lt
    → (acc os : List Object) → AreItemsOrdered said (map item_of_object acc) (map item_of_object os)
    → AreOrdered lt acc os
objects-ordered said lt t acc [] a = tt
objects-ordered said lt t acc (o ∷ os) a = (
  objects-less said lt t o acc a.0,
  objects-ordered said lt t (acc ++ o ∷ []) os
      (subst (λ l. AreItemsOrdered said l (map item_of_object os)) (sym (map-append item_of_object acc (o ∷ []))) a.1),
)

-- the order by kinds is told by the kinds alone
pub kinds-tell : Tells kind_less by_kind
kinds-tell o p = λ i. nat_lt (code_of (sym (kind-made o.value) i)) (code_of (sym (kind-made p.value) i))

-- objects of a class, by the order of their items
pub class-ordered : (said : DumpItem → DumpItem → Bool) (lt : Object → Object → Bool) → Tells said lt → IsStrict lt
    → (os : List Object) (is : List DumpItem) → map item_of_object os ≡ is → AreSortedItems said is
    → map item_of_object (fold (λ ps o. insert_by lt o ps) [] os) ≡ is
class-ordered said lt t s os is e h =
    let h' : AreItemsOrdered said [] (map item_of_object os) =
    subst (AreItemsOrdered said []) (sym e) (items-ordered said [] is tt h) in
    ap (map item_of_object) (ordered-same lt s [] os (objects-ordered said lt t [] os h')) ∙ e
