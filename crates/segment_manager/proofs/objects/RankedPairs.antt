-- A property of each object of a list after one is inserted, removed or replaced.
use Rattle.segment_manager.proofs.Common as common
use Rattle.raw_region.proofs.Facts.{AllByRecursion-behind, first, no_more, second}
use Rattle.segment_manager.proofs.directory.{IndexedParts.ordered, LiveSet.remove-behind, LiveSet.remove-here}
use Rattle.segment_manager.proofs.directory.LiveSet.{Differs, IsFound, Place, behind, found-nothing, found-place, here}
use common.{AllByRecursion, Bool, ByHandle, Class, Directory, Extent, IsDirectory, IsTrue, Key, List, Object, Option}
use common.{Some, [], and_from, ap, arith, cond, eq-eqb, eqb-true, extents_of, false, filter, find, flat_map, fold}
use common.{handle, has_key, if◌then◌else◌, insert_by, is_class, le-leb, length, list_all, ltb-false, ltb-true, nat_le}
use common.{nat_lt, ne_eqb, object_at, put_object, refl, remove_object, replace_object, rises, rises_from, subst, suc}
use common.{sym, true, value_extents, ℕ, ◌&&◌, ◌+◌, ◌==◌, ◌∙◌, ◌∷◌, ◌≡◌, ◌≢◌, ◌≤◌}

-- ---- facts of each

-- by whether the new object comes first
pub put-if : (P : Object → Type 0) (b : Bool) (o p : Object) (ps qs : List Object) → P o → AllByRecursion P (p ∷ ps)
    → AllByRecursion P qs → AllByRecursion P (if b then o ∷ p ∷ ps else p ∷ qs)
put-if P true o p ps qs h a k = (h, a)
put-if P false o p ps qs h a k = (a.0, k)

-- a property of each object and of the new one
pub all-put : (P : Object → Type 0) (o : Object) (os : List Object) → P o → AllByRecursion P os
    → AllByRecursion P (put_object o os)
all-put P o [] h a = (h, tt)
all-put P o (p ∷ ps) h a =
    put-if P (nat_lt o.extent.offset p.extent.offset) o p ps (put_object o ps) h a (all-put P o ps h a.1)

remove-if : (P : Object → Type 0) (b : Bool) (p : Object) (ps qs : List Object) → AllByRecursion P (p ∷ ps)
    → AllByRecursion P qs → AllByRecursion P (if b then ps else p ∷ qs)
remove-if P true p ps qs a k = a.1
remove-if P false p ps qs a k = (a.0, k)

-- a property of each object holds for the others
pub all-remove : (P : Object → Type 0) (h : ℕ) (os : List Object) → AllByRecursion P os
    → AllByRecursion P (remove_object h os)
all-remove P h [] a = tt
all-remove P h (p ∷ ps) a = remove-if P (h == handle p.extent) p ps (remove_object h ps) a (all-remove P h ps a.1)

replace-if : (P : Object → Type 0) (b : Bool) (o p : Object) (ps qs rs : List Object) → P o
    → (AllByRecursion P rs → AllByRecursion P qs) → AllByRecursion P (if b then ps else p ∷ rs)
    → AllByRecursion P (if b then o ∷ ps else p ∷ qs)
replace-if P true o p ps qs rs h k a = (h, a)
replace-if P false o p ps qs rs h k a = (a.0, k a.1)

-- a property of the others and of the new one
pub all-replace : (P : Object → Type 0) (o : Object) (os : List Object) → P o
    → AllByRecursion P (remove_object (handle o.extent) os) → AllByRecursion P (replace_object o os)
all-replace P o [] h a = tt
all-replace P o (p ∷ ps) h a = replace-if P (handle o.extent == handle p.extent) o p ps (replace_object o ps)
    (remove_object (handle o.extent) ps) h (all-replace P o ps h) a

-- ---- tests of each

-- a test of all is a test of each
pub each-true : (t : Object → Bool) (os : List Object) → IsTrue (list_all t os) → AllByRecursion (λ o. IsTrue (t o)) os
each-true t [] h = tt
each-true t (o ∷ os) h = (first (t o) (list_all t os) h, each-true t os (second (t o) (list_all t os) h))

-- and conversely
pub true-each : (t : Object → Bool) (os : List Object) → AllByRecursion (λ o. IsTrue (t o)) os → IsTrue (list_all t os)
true-each t [] h = refl
true-each t (o ∷ os) h = and_from (t o) (list_all t os) h.0 (true-each t os h.1)

-- all pass, and the new one
pub list_all-put : (t : Object → Bool) (o : Object) (os : List Object) → IsTrue (t o) → IsTrue (list_all t os)
    → IsTrue (list_all t (put_object o os))
list_all-put t o os h a = true-each t (put_object o os) (all-put (λ o. IsTrue (t o)) o os h (each-true t os a))

-- all pass, so the others do
pub list_all-remove : (t : Object → Bool) (h : ℕ) (os : List Object) → IsTrue (list_all t os)
    → IsTrue (list_all t (remove_object h os))
list_all-remove t h os a = true-each t (remove_object h os) (all-remove (λ o. IsTrue (t o)) h os (each-true t os a))

-- all pass, and the one in the place of another
pub list_all-replace : (t : Object → Bool) (o : Object) (os : List Object) → IsTrue (t o) → IsTrue (list_all t os)
    → IsTrue (list_all t (replace_object o os))
list_all-replace t o os h a = true-each t (replace_object o os)
    (all-replace (λ o. IsTrue (t o)) o os h (all-remove (λ o. IsTrue (t o)) (handle o.extent) os (each-true t os a)))

-- ---- the order

-- no object of the list begins at this object's offset
abbrev pub StandsApart : Object → List Object → Type 0
StandsApart o = AllByRecursion (λ (p : Object). o.extent.offset ≢ p.extent.offset)

-- an extent apart from all extents is apart from the objects
pub stands_apart : (o : Object) (os : List Object) → Differs o.extent (flat_map extents_of os) → StandsApart o os
stands_apart o [] h = tt
stands_apart o (p ∷ ps) h = (
  h.0,
  stands_apart o ps (AllByRecursion-behind (λ (y : Extent). o.extent.offset ≢ y.offset) (value_extents p.value)
      (flat_map extents_of ps) h.1),
)

rises-parts : (n : ℕ) (o : Object) (os : List Object) → n ≤ o.extent.offset
    → IsTrue (rises_from (o.extent.offset + 1) os) → IsTrue (rises_from n (o ∷ os))
rises-parts n o os f h =
    and_from (nat_le n o.extent.offset) (rises_from (o.extent.offset + 1) os) (le-leb n o.extent.offset f) h

-- the first begins at n or after
pub rises-front : (n : ℕ) (o : Object) (os : List Object) → IsTrue (rises_from n (o ∷ os)) → n ≤ o.extent.offset
rises-front n o os h =
    no_more n o.extent.offset (first (nat_le n o.extent.offset) (rises_from (o.extent.offset + 1) os) h)

-- the others begin after the first
pub rises-rest : (n : ℕ) (o : Object) (os : List Object) → IsTrue (rises_from n (o ∷ os))
    → IsTrue (rises_from (o.extent.offset + 1) os)
rises-rest n o os h = second (nat_le n o.extent.offset) (rises_from (o.extent.offset + 1) os) h

-- all are after a lesser offset
pub rises-weak : (m n : ℕ) (os : List Object) → m ≤ n → IsTrue (rises_from n os) → IsTrue (rises_from m os)
rises-weak m n [] f h = refl
rises-weak m n (o ∷ os) f h = let g = rises-front n o os h in rises-parts m o os (omega arith) (rises-rest n o os h)

put-rises-if : (n : ℕ) (b : Bool) (o p : Object) (ps qs : List Object) → nat_lt o.extent.offset p.extent.offset ≡ b
    → n ≤ o.extent.offset → o.extent.offset ≢ p.extent.offset → IsTrue (rises_from n (p ∷ ps))
    → (p.extent.offset + 1 ≤ o.extent.offset → IsTrue (rises_from (p.extent.offset + 1) qs))
    → IsTrue (rises_from n (if b then o ∷ p ∷ ps else p ∷ qs))
put-rises-if n true o p ps qs e f d h k = rises-parts n o (p ∷ ps) f (rises-parts (o.extent.offset + 1) p ps
    (omega (arith, ltb-true o.extent.offset p.extent.offset e)) (rises-rest n p ps h))
put-rises-if n false o p ps qs e f d h k =
    rises-parts n p qs (rises-front n p ps h) (k (omega (arith, ltb-false o.extent.offset p.extent.offset e)))

-- objects in order stay so with one more
pub put-rises : (n : ℕ) (o : Object) (os : List Object) → n ≤ o.extent.offset → StandsApart o os
    → IsTrue (rises_from n os) → IsTrue (rises_from n (put_object o os))
put-rises n o [] f d h = rises-parts n o [] f refl
put-rises n o (p ∷ ps) f d h = put-rises-if n (nat_lt o.extent.offset p.extent.offset) o p ps (put_object o ps) refl f
    d.0 h (λ g. put-rises (p.extent.offset + 1) o ps g d.1 (rises-rest n p ps h))

remove-rises-if : (n : ℕ) (b : Bool) (p : Object) (ps qs : List Object) → IsTrue (rises_from n (p ∷ ps))
    → IsTrue (rises_from (p.extent.offset + 1) qs) → IsTrue (rises_from n (if b then ps else p ∷ qs))
remove-rises-if n true p ps qs h k =
    let f = rises-front n p ps h in
    rises-weak n (p.extent.offset + 1) ps (omega arith) (rises-rest n p ps h)
remove-rises-if n false p ps qs h k = rises-parts n p qs (rises-front n p ps h) k

-- and with one less
pub remove-rises : (n h : ℕ) (os : List Object) → IsTrue (rises_from n os) → IsTrue (rises_from n (remove_object h os))
remove-rises n h [] r = r
remove-rises n h (p ∷ ps) r = remove-rises-if n (h == handle p.extent) p ps (remove_object h ps) r
    (remove-rises (p.extent.offset + 1) h ps (rises-rest n p ps r))

-- ---- an object that is found

-- a property of each object holds for the one that is found
all-found-if : (P : Object → Type 0) (b : Bool) (p : Object) {o : Object} {rest : Option Object} → P p
    → (rest ≡ Some o → P o) → cond b (Some p) rest ≡ Some o → P o
all-found-if P true p {o} h k e = let same : p ≡ o = cc in subst P same h
all-found-if P false p h k e = k e

-- a property of each object holds for one that is found
pub all-found : (P : Object → Type 0) (key : Object → Bool) (os : List Object) (o : Object) → AllByRecursion P os
    → find key os ≡ Some o → P o
all-found P key [] o a e = absurd (let f : find key [] ≡ Some o = e in cc)
all-found P key (p ∷ ps) o a e = all-found-if P (key p) p a.0 (all-found P key ps o a.1) e

-- the object that is found has the handle
pub found-handle : (h : ℕ) (os : List Object) (o : Object) → IsFound h os o → h ≡ handle o.extent
found-handle h [] o f = absurd (found-nothing h o f)
found-handle h (p ∷ ps) o f =
    handle-if h (h == handle p.extent) p ps o refl f.is (λ e. found-handle h ps o (record { is = e }))
  where
    handle-if : (h : ℕ) (b : Bool) (p : Object) (ps : List Object) (o : Object) → (h == handle p.extent) ≡ b
        → cond b (Some p) (find (has_key (ByHandle h)) ps) ≡ Some o
        → (find (has_key (ByHandle h)) ps ≡ Some o → h ≡ handle o.extent) → h ≡ handle o.extent
    handle-if h true p ps o e f k =
        let same : p ≡ o = cc in eqb-true h (handle p.extent) e ∙ ap (λ (q : Object). handle q.extent) same
    handle-if h false p ps o e f k = k f

-- an object that is found by any key is found by its handle
pub record IsFoundFrom (n : ℕ) (os : List Object) (o : Object) : Type 0 where
  pub from : n ≤ o.extent.offset
  pub found : IsFound (handle o.extent) os o

by_handle-if : {n : ℕ} (b : Bool) (p : Object) {ps : List Object} {o : Object} {rest : Option Object}
    → IsTrue (rises_from n (p ∷ ps)) → cond b (Some p) rest ≡ Some o
    → (rest ≡ Some o → IsFoundFrom (p.extent.offset + 1) ps o) → IsFoundFrom n (p ∷ ps) o
by_handle-if {n} true p {ps} {o} r e k =
    let same : p ≡ o = cc in
    let here : IsFound (handle p.extent) (p ∷ ps) p = record {
      is = ap (λ b. cond b (Some p) (find (has_key (ByHandle (handle p.extent))) ps))
          (eq-eqb (handle p.extent) (handle p.extent) refl);
    } in
    subst (λ (q : Object). IsFoundFrom n (p ∷ ps) q) same (record { from = (rises-front n p ps r); found = here })
by_handle-if {n} false p {ps} {o} r e k =
    let below = k e in let f = rises-front n p ps r in
    let g : p.extent.offset + 1 ≤ o.extent.offset = below.from in
    record {
      from = omega arith;
      found = record {
        is = ap (λ b. cond b (Some p) (find (has_key (ByHandle (handle o.extent))) ps))
            (ne_eqb (handle o.extent) (handle p.extent) (λ h. omega arith)) ∙ below.found.is;
      };
    }

-- for each key by which it is found
pub found-by_handle : (n : ℕ) (key : Object → Bool) (os : List Object) {o : Object} → IsTrue (rises_from n os)
    → find key os ≡ Some o → IsFoundFrom n os o
found-by_handle n key [] {o} r e = absurd (let f : find key [] ≡ Some o = e in cc)
found-by_handle n key (p ∷ ps) r e =
    by_handle-if (key p) p r e (found-by_handle (p.extent.offset + 1) key ps (rises-rest n p ps r))

-- in a directory
pub key-found : (format : ℕ) (d : Directory) (key : Key) (o : Object) → IsDirectory format d → object_at d key ≡ Some o
    → IsFound (handle o.extent) d.objects o
key-found format d key o h e = (found-by_handle 0 (has_key key) d.objects h.by_offset e).found

-- Objects inserted by an order: the order of insertions does not matter if each two objects have an order.

-- an order that is strict
pub record IsStrict (lt : Object → Object → Bool) : Type 0 where
  pub trans : (o p q : Object) → lt o p ≡ true → lt p q ≡ true → lt o q ≡ true
  pub asym : (o p : Object) → lt o p ≡ true → lt p o ≡ false

-- one of the two objects precedes the other
pub data IsRanked (lt : Object → Object → Bool) (o p : Object) : Type 0 where
  -- an object before another is ranked
  before : lt o p ≡ true → lt p o ≡ false → IsRanked lt o p
  -- an object after another is ranked
  after : lt p o ≡ true → lt o p ≡ false → IsRanked lt o p

-- two objects are ranked in either order
pub ranked-sym : (lt : Object → Object → Bool) (o p : Object) → IsRanked lt o p → IsRanked lt p o
ranked-sym lt o p (before e f) = after e f
ranked-sym lt o p (after e f) = before e f

-- the object is ranked with each of the list
abbrev pub AllRanked : (Object → Object → Bool) → Object → List Object → Type 0
AllRanked lt o = AllByRecursion (IsRanked lt o)

-- ---- one insertion

-- an object before the first is inserted at the front
pub insert_by-front : (lt : Object → Object → Bool) (o p : Object) (ps : List Object) → lt o p ≡ true
    → insert_by lt o (p ∷ ps) ≡ o ∷ p ∷ ps
insert_by-front lt o p ps e = ap (λ b. if b then o ∷ p ∷ ps else p ∷ insert_by lt o ps) e

-- an object not before the first is inserted after it
pub insert_by-behind : (lt : Object → Object → Bool) (o p : Object) (ps : List Object) → lt o p ≡ false
    → insert_by lt o (p ∷ ps) ≡ p ∷ insert_by lt o ps
insert_by-behind lt o p ps e = ap (λ b. if b then o ∷ p ∷ ps else p ∷ insert_by lt o ps) e

-- ---- two insertions

abbrev Commute : (Object → Object → Bool) → Object → Object → List Object → Type 0
Commute lt a b zs = insert_by lt a (insert_by lt b zs) ≡ insert_by lt b (insert_by lt a zs)

comm-step : (lt : Object → Object → Bool) → IsStrict lt → (a b : Object) → lt a b ≡ true → lt b a ≡ false
    → (z : Object) (zs : List Object) → Commute lt a b zs → (x : Bool) → lt b z ≡ x → (y : Bool) → lt a z ≡ y
    → Commute lt a b (z ∷ zs)
comm-step lt s a b ab ba z zs ih true e y f = ap (insert_by lt a) (insert_by-front lt b z zs e) ∙ insert_by-front lt a b
    (z ∷ zs) ab ∙ ap (λ ws. a ∷ ws) (sym (insert_by-front lt b z zs e)) ∙ sym (insert_by-behind lt b a (z ∷ zs) ba)
    ∙ ap (insert_by lt b) (sym (insert_by-front lt a z zs (s.trans a b z ab e)))
comm-step lt s a b ab ba z zs ih false e true f = ap (insert_by lt a) (insert_by-behind lt b z zs e)
    ∙ insert_by-front lt a z (insert_by lt b zs) f ∙ ap (λ ws. a ∷ ws) (sym (insert_by-behind lt b z zs e))
    ∙ sym (insert_by-behind lt b a (z ∷ zs) ba) ∙ ap (insert_by lt b) (sym (insert_by-front lt a z zs f))
comm-step lt s a b ab ba z zs ih false e false f = ap (insert_by lt a) (insert_by-behind lt b z zs e)
    ∙ insert_by-behind lt a z (insert_by lt b zs) f ∙ ap (λ ws. z ∷ ws) ih
    ∙ sym (insert_by-behind lt b z (insert_by lt a zs) e) ∙ ap (insert_by lt b) (sym (insert_by-behind lt a z zs f))

comm-before : (lt : Object → Object → Bool) → IsStrict lt → (a b : Object) → lt a b ≡ true → lt b a ≡ false
    → (zs : List Object) → Commute lt a b zs
comm-before lt s a b ab ba [] = insert_by-front lt a b [] ab ∙ sym (insert_by-behind lt b a [] ba)
comm-before lt s a b ab ba (z ∷ zs) =
    comm-step lt s a b ab ba z zs (comm-before lt s a b ab ba zs) (lt b z) refl (lt a z) refl

-- two objects that are ranked, in either order
pub insert_by-comm : {lt : Object → Object → Bool} → IsStrict lt → {a b : Object} → IsRanked lt a b → (zs : List Object)
    → Commute lt a b zs
insert_by-comm {lt} s {a} {b} (before e f) zs = comm-before lt s a b e f zs
insert_by-comm {lt} s {a} {b} (after e f) zs = sym (comm-before lt s b a e f zs)

-- ---- all insertions

-- all of a list put into another
abbrev pub put_all : (Object → Object → Bool) → List Object → List Object → List Object
put_all lt acc os = fold (λ os o. insert_by lt o os) acc os

put_all-comm : (lt : Object → Object → Bool) → IsStrict lt → (o : Object) (acc os : List Object) → AllRanked lt o os
    → put_all lt (insert_by lt o acc) os ≡ insert_by lt o (put_all lt acc os)
put_all-comm lt s o acc [] r = refl
put_all-comm lt s o acc (p ∷ ps) r =
    ap (λ ws. put_all lt ws ps) (sym (insert_by-comm s r.0 acc)) ∙ put_all-comm lt s o (insert_by lt p acc) ps r.1

-- lists of which the first has one more, o
abbrev HasMore : (Object → Object → Bool) → Object → List Object → List Object → Type 0
HasMore lt o xs ys = (acc : List Object) → put_all lt acc xs ≡ insert_by lt o (put_all lt acc ys)

more-behind : (lt : Object → Object → Bool) (o : Object) (b : Bool) (p : Object) (xs ys : List Object)
    → HasMore lt o xs ys → HasMore lt o (cond b (p ∷ xs) xs) (cond b (p ∷ ys) ys)
more-behind lt o true p xs ys k acc = k (insert_by lt p acc)
more-behind lt o false p xs ys k acc = k acc

more-here : (lt : Object → Object → Bool) → IsStrict lt → (o : Object) {b : Bool} (ys : List Object) → b ≡ true
    → AllRanked lt o ys → HasMore lt o (cond b (o ∷ ys) ys) ys
more-here lt s o ys e r acc = ap (λ c. put_all lt acc (cond c (o ∷ ys) ys)) e ∙ put_all-comm lt s o acc ys r

ranked-rest : (lt : Object → Object → Bool) (o : Object) (b : Bool) (p : Object) (ys : List Object)
    → AllRanked lt o (cond b (p ∷ ys) ys) → AllRanked lt o ys
ranked-rest lt o true p ys r = r.1
ranked-rest lt o false p ys r = r

put-more-if : (lt : Object → Object → Bool) → IsStrict lt → (c : Class) (o p : Object) (ps qs : List Object)
    → is_class c o ≡ true → AllRanked lt o (filter (is_class c) (p ∷ ps)) → (b : Bool)
    → HasMore lt o (filter (is_class c) qs) (filter (is_class c) ps)
    → HasMore lt o (filter (is_class c) (if b then o ∷ p ∷ ps else p ∷ qs)) (filter (is_class c) (p ∷ ps))
put-more-if lt s c o p ps qs e r true k = more-here lt s o (filter (is_class c) (p ∷ ps)) e r
put-more-if lt s c o p ps qs e r false k =
    more-behind lt o (is_class c p) p (filter (is_class c) qs) (filter (is_class c) ps) k

put-more : (lt : Object → Object → Bool) → IsStrict lt → (c : Class) (o : Object) (os : List Object)
    → is_class c o ≡ true → AllRanked lt o (filter (is_class c) os)
    → HasMore lt o (filter (is_class c) (put_object o os)) (filter (is_class c) os)
put-more lt s c o [] e r = more-here lt s o [] e tt
put-more lt s c o (p ∷ ps) e r = put-more-if lt s c o p ps (put_object o ps) e r (nat_lt o.extent.offset
    p.extent.offset) (put-more lt s c o ps e (ranked-rest lt o (is_class c p) p (filter (is_class c) ps) r))

-- an object that is inserted among the others is in the order of its class
pub ordered-put : (c : Class) (lt : Object → Object → Bool) → IsStrict lt → (o : Object) (os : List Object)
    → is_class c o ≡ true → AllRanked lt o (filter (is_class c) os)
    → ordered c lt (put_object o os) ≡ insert_by lt o (ordered c lt os)
ordered-put c lt s o os e r = put-more lt s c o os e r []

remove-more-place : (lt : Object → Object → Bool) → IsStrict lt → (c : Class) {h : ℕ} {p : Object} {ps : List Object}
    {o : Object} → Place h p ps o → is_class c o ≡ true → AllRanked lt o (filter (is_class c) (remove_object h
    (p ∷ ps))) → (IsFound h ps o → AllRanked lt o (filter (is_class c) (remove_object h ps))
    → HasMore lt o (filter (is_class c) ps) (filter (is_class c) (remove_object h ps)))
    → HasMore lt o (filter (is_class c) (p ∷ ps)) (filter (is_class c) (remove_object h (p ∷ ps)))
remove-more-place lt s c {h} {p} {ps} {o} (here e f) g r k =
    let same = remove-here h p ps e in
    subst (λ qs. HasMore lt o (filter (is_class c) (p ∷ ps)) (filter (is_class c) qs)) (sym same)
    (subst (λ q. HasMore lt o (filter (is_class c) (q ∷ ps)) (filter (is_class c) ps)) (sym f)
    (more-here lt s o (filter (is_class c) ps) g (subst (λ qs. AllRanked lt o (filter (is_class c) qs)) same r)))
remove-more-place lt s c {h} {p} {ps} {o} (behind e f) g r k =
    let same = remove-behind h p ps e in
    subst (λ qs. HasMore lt o (filter (is_class c) (p ∷ ps)) (filter (is_class c) qs)) (sym same)
    (more-behind lt o (is_class c p) p (filter (is_class c) ps) (filter (is_class c) (remove_object h ps))
    (k f (ranked-rest lt o (is_class c p) p (filter (is_class c) (remove_object h ps))
    (subst (λ qs. AllRanked lt o (filter (is_class c) qs)) same r))))

-- the order of a class is the order of the others with one inserted, into any list
pub remove-more : (lt : Object → Object → Bool) → IsStrict lt → (c : Class) (h : ℕ) (os : List Object) (o : Object)
    → IsFound h os o → is_class c o ≡ true → AllRanked lt o (filter (is_class c) (remove_object h os))
    → HasMore lt o (filter (is_class c) os) (filter (is_class c) (remove_object h os))
remove-more lt s c h [] o f g r = absurd (found-nothing h o f)
remove-more lt s c h (p ∷ ps) o f g r =
    remove-more-place lt s c (found-place h p ps o f) g r (λ f' r'. remove-more lt s c h ps o f' g r')

-- ---- properties of each object

-- a property of an object and of each of the others
pub all-insert_by : (P : Object → Type 0) (lt : Object → Object → Bool) (o : Object) (ps : List Object) → P o
    → AllByRecursion P ps → AllByRecursion P (insert_by lt o ps)
all-insert_by P lt o [] h a = (h, tt)
all-insert_by P lt o (p ∷ ps) h a = put-if P (lt o p) o p ps (insert_by lt o ps) h a (all-insert_by P lt o ps h a.1)

all_of-insert_by-if : (P : Object → Type 0) (b : Bool) (o p : Object) (ps qs : List Object) → (AllByRecursion P qs → P o
    × AllByRecursion P ps) → AllByRecursion P (if b then o ∷ p ∷ ps else p ∷ qs) → P o × AllByRecursion P (p ∷ ps)
all_of-insert_by-if P true o p ps qs k a = (a.0, a.1)
all_of-insert_by-if P false o p ps qs k a = ((k a.1).0, (a.0, (k a.1).1))

-- and conversely
pub all_of-insert_by : (P : Object → Type 0) (lt : Object → Object → Bool) (o : Object) (ps : List Object)
    → AllByRecursion P (insert_by lt o ps) → P o × AllByRecursion P ps
all_of-insert_by P lt o [] a = a
all_of-insert_by P lt o (p ∷ ps) a =
    all_of-insert_by-if P (lt o p) o p ps (insert_by lt o ps) (all_of-insert_by P lt o ps) a

all-put_all : (P : Object → Type 0) (lt : Object → Object → Bool) (acc os : List Object) → AllByRecursion P acc
    → AllByRecursion P os → AllByRecursion P (put_all lt acc os)
all-put_all P lt acc [] a b = a
all-put_all P lt acc (o ∷ os) a b = all-put_all P lt (insert_by lt o acc) os (all-insert_by P lt o acc b.0 a) b.1

-- a property of each object of a class holds for each in its order
pub all-ordered : (P : Object → Type 0) (c : Class) (lt : Object → Object → Bool) (os : List Object)
    → AllByRecursion P (filter (is_class c) os) → AllByRecursion P (ordered c lt os)
all-ordered P c lt os a = all-put_all P lt [] (filter (is_class c) os) tt a

-- Lists in which each two objects are ranked: rising lists, with one object more or less.

-- ---- in a rising list each two objects are ranked

-- each two are ranked
abbrev pub Pairwise : (Object → Object → Bool) → List Object → Type 0
Pairwise lt [] = Unit {0}
Pairwise lt (o ∷ os) = AllRanked lt o os × Pairwise lt os

below-rising : (lt : Object → Object → Bool) → IsStrict lt → (o p : Object) (ps : List Object) → lt o p ≡ true
    → IsTrue (rises lt (p ∷ ps)) → AllRanked lt o (p ∷ ps)
below-rising lt s o p [] e h = (before e (s.asym o p e), tt)
below-rising lt s o p (q ∷ qs) e h = (
  before e (s.asym o p e),
  below-rising lt s o q qs (s.trans o p q e (first (lt p q) (rises lt (q ∷ qs)) h))
      (second (lt p q) (rises lt (q ∷ qs)) h),
)

-- objects in order are ranked, each two
pub rises-pairwise : (lt : Object → Object → Bool) → IsStrict lt → (os : List Object) → IsTrue (rises lt os)
    → Pairwise lt os
rises-pairwise lt s [] h = tt
rises-pairwise lt s (o ∷ []) h = (tt, tt)
rises-pairwise lt s (o ∷ p ∷ ps) h = (
  below-rising lt s o p ps (first (lt o p) (rises lt (p ∷ ps)) h) (second (lt o p) (rises lt (p ∷ ps)) h),
  rises-pairwise lt s (p ∷ ps) (second (lt o p) (rises lt (p ∷ ps)) h),
)

pairwise-insert_by-if : {lt : Object → Object → Bool} (b : Bool) {o p : Object} (ps qs : List Object)
    → (AllRanked lt p qs → IsRanked lt p o × AllRanked lt p ps) → (Pairwise lt qs → AllRanked lt o ps × Pairwise lt ps)
    → Pairwise lt (if b then o ∷ p ∷ ps else p ∷ qs) → AllRanked lt o (p ∷ ps) × Pairwise lt (p ∷ ps)
pairwise-insert_by-if true ps qs f k h = h
pairwise-insert_by-if {lt} false {o} {p} ps qs f k h =
    ((ranked-sym lt p o (f h.0).0, (k h.1).0), ((f h.0).1, (k h.1).1))

pairwise-insert_by : (lt : Object → Object → Bool) (o : Object) (ps : List Object) → Pairwise lt (insert_by lt o ps)
    → AllRanked lt o ps × Pairwise lt ps
pairwise-insert_by lt o [] h = (tt, tt)
pairwise-insert_by lt o (p ∷ ps) h = pairwise-insert_by-if (lt o p) ps (insert_by lt o ps)
    (all_of-insert_by (IsRanked lt p) lt o ps) (pairwise-insert_by lt o ps) h

-- each object of one list is ranked with each of another
pub record Across (lt : Object → Object → Bool) (acc os : List Object) : Type 0 where
  pub front : Pairwise lt acc
  pub rest : Pairwise lt os
  pub across : AllByRecursion (λ o. AllRanked lt o acc) os

across-parts : (lt : Object → Object → Bool) (o : Object) (acc os : List Object) → AllByRecursion (λ p. AllRanked lt p
    (insert_by lt o acc)) os → AllRanked lt o os × AllByRecursion (λ p. AllRanked lt p acc) os
across-parts lt o acc [] h = (tt, tt)
across-parts lt o acc (p ∷ ps) h =
    let both = all_of-insert_by (IsRanked lt p) lt o acc h.0 in let below = across-parts lt o acc ps h.1 in
    ((ranked-sym lt p o both.0, below.0), (both.1, below.1))

pairwise-put_all : {lt : Object → Object → Bool} {acc : List Object} (os : List Object)
    → Pairwise lt (put_all lt acc os) → Across lt acc os
pairwise-put_all [] h = record { front = h; rest = tt; across = tt }
pairwise-put_all {lt} {acc} (o ∷ os) h =
    let below = pairwise-put_all os h in let front = pairwise-insert_by lt o acc below.front in
    let parts = across-parts lt o acc os below.across in
    record { front = front.1; rest = (parts.0, below.rest); across = (front.0, parts.1) }

-- the objects of a class whose order rises are ranked, each two
pub ordered-pairwise : (c : Class) (lt : Object → Object → Bool) → IsStrict lt → (os : List Object)
    → IsTrue (rises lt (ordered c lt os)) → Pairwise lt (filter (is_class c) os)
ordered-pairwise c lt s os h =
    (pairwise-put_all (filter (is_class c) os) (rises-pairwise lt s (ordered c lt os) h)).rest

-- ---- one is ranked among the others

found-filter-if : (P : Object → Type 0) (b : Bool) (p : Object) (ps : List Object)
    → AllByRecursion P (cond b (p ∷ ps) ps) → AllByRecursion P ps
found-filter-if P true p ps a = a.1
found-filter-if P false p ps a = a

filter-first : (P : Object → Type 0) {b : Bool} (p : Object) (ps : List Object) → b ≡ true
    → AllByRecursion P (cond b (p ∷ ps) ps) → P p
filter-first P p ps e a = (subst (λ c. AllByRecursion P (cond c (p ∷ ps) ps)) e a).0

found-filter-place : (P : Object → Type 0) (c : Class) {h : ℕ} {p : Object} {ps : List Object} {o : Object}
    → Place h p ps o → is_class c o ≡ true → (IsFound h ps o → AllByRecursion P (filter (is_class c) ps) → P o)
    → AllByRecursion P (filter (is_class c) (p ∷ ps)) → P o
found-filter-place P c {p} {ps} (here e f) g k a =
    subst P f (filter-first P p (filter (is_class c) ps) (ap (is_class c) f ∙ g) a)
found-filter-place P c {p} {ps} (behind e f) g k a = k f (found-filter-if P (is_class c p) p (filter (is_class c) ps) a)

-- a property of each object of the class holds for one of the class that is found
pub found-filter : (P : Object → Type 0) (c : Class) (h : ℕ) (os : List Object) (o : Object) → IsFound h os o
    → is_class c o ≡ true → AllByRecursion P (filter (is_class c) os) → P o
found-filter P c h [] o f g a = absurd (found-nothing h o f)
found-filter P c h (p ∷ ps) o f g a =
    found-filter-place P c (found-place h p ps o f) g (λ f' a'. found-filter P c h ps o f' g a') a

pairwise-behind : {lt : Object → Object → Bool} {o : Object} (b : Bool) {p : Object} (ps qs : List Object)
    → (AllRanked lt p ps → IsRanked lt p o) → (Pairwise lt ps → AllRanked lt o qs) → Pairwise lt (cond b (p ∷ ps) ps)
    → AllRanked lt o (cond b (p ∷ qs) qs)
pairwise-behind {lt} {o} true {p} ps qs f k h = (ranked-sym lt p o (f h.0), k h.1)
pairwise-behind false ps qs f k h = k h

pairwise-place : (lt : Object → Object → Bool) (c : Class) {h : ℕ} {p : Object} {ps : List Object} {o : Object}
    → Place h p ps o → is_class c o ≡ true → (IsFound h ps o → Pairwise lt (filter (is_class c) ps)
    → AllRanked lt o (filter (is_class c) (remove_object h ps))) → Pairwise lt (filter (is_class c) (p ∷ ps))
    → AllRanked lt o (filter (is_class c) (remove_object h (p ∷ ps)))
pairwise-place lt c {h} {p} {ps} {o} (here e f) g k w = subst (λ qs. AllRanked lt o (filter (is_class c) qs))
    (sym (remove-here h p ps e)) (subst (λ q. AllRanked lt q (filter (is_class c) ps)) f
    (subst (λ t. Pairwise lt (cond t (p ∷ filter (is_class c) ps) (filter (is_class c) ps))) (ap (is_class c) f
    ∙ g) w).0)
pairwise-place lt c {h} {p} {ps} {o} (behind e f) g k w = subst (λ qs. AllRanked lt o (filter (is_class c) qs))
    (sym (remove-behind h p ps e)) (pairwise-behind (is_class c p) (filter (is_class c) ps) (filter (is_class c)
    (remove_object h ps)) (found-filter (IsRanked lt p) c h ps o f g) (k f) w)

-- an object that is found is ranked with each of the others
pub pairwise-remove : (lt : Object → Object → Bool) (c : Class) (h : ℕ) (os : List Object) (o : Object) → IsFound h os o
    → is_class c o ≡ true → Pairwise lt (filter (is_class c) os)
    → AllRanked lt o (filter (is_class c) (remove_object h os))
pairwise-remove lt c h [] o f g w = absurd (found-nothing h o f)
pairwise-remove lt c h (p ∷ ps) o f g w =
    pairwise-place lt c (found-place h p ps o f) g (λ f' w'. pairwise-remove lt c h ps o f' g w') w

-- ---- rising, with one more or less

more-rises-if : {lt : Object → Object → Bool} (q : Object) {o p : Object} (ps qs : List Object) → lt q o ≡ true
    → IsRanked lt o p → IsTrue (rises lt (q ∷ p ∷ ps)) → (lt p o ≡ true → IsTrue (rises lt (p ∷ qs))) → (b : Bool)
    → lt o p ≡ b → IsTrue (rises lt (q ∷ (if b then o ∷ p ∷ ps else p ∷ qs)))
more-rises-if {lt} q {o} {p} ps qs e r h k true f = and_from (lt q o) (lt o p && rises lt (p ∷ ps)) e
    (and_from (lt o p) (rises lt (p ∷ ps)) f (second (lt q p) (rises lt (p ∷ ps)) h))
more-rises-if q ps qs e (before g g') h k false f = cc
more-rises-if {lt} q {p} ps qs e (after g g') h k false f =
    and_from (lt q p) (rises lt (p ∷ qs)) (first (lt q p) (rises lt (p ∷ ps)) h) (k g)

more-rises : (lt : Object → Object → Bool) (q o : Object) (os : List Object) → lt q o ≡ true → AllRanked lt o os
    → IsTrue (rises lt (q ∷ os)) → IsTrue (rises lt (q ∷ insert_by lt o os))
more-rises lt q o [] e r h = and_from (lt q o) true e refl
more-rises lt q o (p ∷ ps) e r h = more-rises-if q ps (insert_by lt o ps) e r.0 h
    (λ g. more-rises lt p o ps g r.1 (second (lt q p) (rises lt (p ∷ ps)) h)) (lt o p) refl

rises-first-if : {lt : Object → Object → Bool} {o p : Object} (ps qs : List Object) → IsRanked lt o p
    → IsTrue (rises lt (p ∷ ps)) → (lt p o ≡ true → IsTrue (rises lt (p ∷ qs))) → (b : Bool) → lt o p ≡ b
    → IsTrue (rises lt (if b then o ∷ p ∷ ps else p ∷ qs))
rises-first-if {lt} {o} {p} ps qs r h k true f = and_from (lt o p) (rises lt (p ∷ ps)) f h
rises-first-if ps qs (before g g') h k false f = cc
rises-first-if ps qs (after g g') h k false f = k g

module _ (lt : Object → Object → Bool) where
  -- a rising list rises with one more object
  pub insert_by-rises : (o : Object) (os : List Object) → AllRanked lt o os → IsTrue (rises lt os)
      → IsTrue (rises lt (insert_by lt o os))
  insert_by-rises o [] r h = refl
  insert_by-rises o (p ∷ ps) r h =
      rises-first-if ps (insert_by lt o ps) r.0 h (λ g. more-rises lt p o ps g r.1 h) (lt o p) refl

  -- the rest of a list that rises rises
  pub rises-tail : (p : Object) (ps : List Object) → IsTrue (rises lt (p ∷ ps)) → IsTrue (rises lt ps)
  rises-tail p [] h = refl
  rises-tail p (q ∷ qs) h = second (lt p q) (rises lt (q ∷ qs)) h

  less-rises-if : IsStrict lt → (q o p : Object) (ps qs : List Object)
      → (IsTrue (rises lt (p ∷ qs)) → IsTrue (rises lt (p ∷ ps))) → (b : Bool)
      → IsTrue (rises lt (q ∷ (if b then o ∷ p ∷ ps else p ∷ qs))) → IsTrue (rises lt (q ∷ p ∷ ps))
  less-rises-if s q o p ps qs k true h =
      let back = second (lt q o) (lt o p && rises lt (p ∷ ps)) h in
      and_from (lt q p) (rises lt (p ∷ ps)) (s.trans q o p (first (lt q o) (lt o p && rises lt (p ∷ ps)) h)
      (first (lt o p) (rises lt (p ∷ ps)) back)) (second (lt o p) (rises lt (p ∷ ps)) back)
  less-rises-if s q o p ps qs k false h = and_from (lt q p) (rises lt (p ∷ ps)) (first (lt q p) (rises lt (p ∷ qs)) h)
      (k (second (lt q p) (rises lt (p ∷ qs)) h))

  less-rises : IsStrict lt → (q o : Object) (os : List Object) → IsTrue (rises lt (q ∷ insert_by lt o os))
      → IsTrue (rises lt (q ∷ os))
  less-rises s q o [] h = refl
  less-rises s q o (p ∷ ps) h = less-rises-if s q o p ps (insert_by lt o ps) (less-rises s p o ps) (lt o p) h

  less-first-if : (o p : Object) (ps qs : List Object) → (IsTrue (rises lt (p ∷ qs)) → IsTrue (rises lt (p ∷ ps)))
      → (b : Bool) → IsTrue (rises lt (if b then o ∷ p ∷ ps else p ∷ qs)) → IsTrue (rises lt (p ∷ ps))
  less-first-if o p ps qs k true h = second (lt o p) (rises lt (p ∷ ps)) h
  less-first-if o p ps qs k false h = k h

  -- and with one less
  pub without-rises : IsStrict lt → (o : Object) (os : List Object) → IsTrue (rises lt (insert_by lt o os))
      → IsTrue (rises lt os)
  without-rises s o [] h = refl
  without-rises s o (p ∷ ps) h = less-first-if o p ps (insert_by lt o ps) (less-rises s p o ps) (lt o p) h

insert_by-length-if : (b : Bool) (o p : Object) (ps qs : List Object) → length qs ≡ suc (length ps)
    → length (if b then o ∷ p ∷ ps else p ∷ qs) ≡ suc (length (p ∷ ps))
insert_by-length-if true o p ps qs e = refl
insert_by-length-if false o p ps qs e = ap suc e

-- the list is longer by one
pub insert_by-length : (lt : Object → Object → Bool) (o : Object) (os : List Object)
    → length (insert_by lt o os) ≡ suc (length os)
insert_by-length lt o [] = refl
insert_by-length lt o (p ∷ ps) = insert_by-length-if (lt o p) o p ps (insert_by lt o ps) (insert_by-length lt o ps)
