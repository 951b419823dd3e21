-- Extents inserted by offset: a sorted list of them, and removing an inserted extent.
use Rattle.segment_manager.proofs.Common as common
pub use Rattle.best_fit.proofs.Laws.{IsFresh, all_of-insert, all_of-inserted, apart-inserted, insert-inserted}
pub use Rattle.best_fit.proofs.Laws.{inserted-comm, live-rises, rising-insert, rising-inserted, rising-weak}
pub use Rattle.best_fit.proofs.Laws.{without-inserted}
unfoldable pub use Rattle.best_fit.proofs.Laws.{Differs, Rising}
pub use Rattle.best_fit.specs.Exchange.{inserted, without_all}
use Rattle.best_fit.proofs.Laws.{AllByRecursion-insert_from, others-here, others-past}
use Rattle.best_fit.specs.Fit.{insert}
use Rattle.raw_region.proofs.Facts.{AllByRecursion-append, AllByRecursion-behind, AllByRecursion-front}
use common.{AllByRecursion, Bool, ByHandle, Directory, Extent, IsTrue, List, LiveSet, Object, Some, [], added, ap}
use common.{append_assoc, arith, cond, cond-false, cond-true, eq-eqb, eqb-true, extents_of, false, find, flat_map}
use common.{handle, has_key, if◌then◌else◌, is_proper, live, nat_lt, ne_eqb, others, put_object, refl, remove_object}
use common.{replace_object, resized, sorted, subst, sym, table_extents, true, with_changed, with_object, without_object}
use common.{ℕ, ◌++◌, ◌+◌, ◌<◌, ◌==◌, ◌∙◌, ◌∷◌, ◌≡◌, ◌≢◌}

-- no two extents begin at one offset
abbrev pub Apart : List Extent → List Extent → Type 0
Apart xs ys = AllByRecursion (λ x. Differs x ys) xs

-- sorting two lists inserts the first into the sorted second
pub sorted-append : (xs ys : List Extent) → sorted (xs ++ ys) ≡ inserted xs (sorted ys)
sorted-append [] ys = refl
sorted-append (x ∷ xs) ys = ap (insert x) (sorted-append xs ys)

-- a property of each element of a sorted list
pub all_of-sorted : (P : Extent → Type 0) (xs : List Extent) → AllByRecursion P (sorted xs) → AllByRecursion P xs
all_of-sorted P [] h = tt
all_of-sorted P (x ∷ xs) h =
    let both = all_of-insert P x (sorted xs) h in
    (both.0, all_of-sorted P xs both.1)

-- a property of each element holds for each element of the sorted list
pub all-sorted : (P : Extent → Type 0) (xs : List Extent) → AllByRecursion P xs → AllByRecursion P (sorted xs)
all-sorted P [] h = tt
all-sorted P (x ∷ xs) h = AllByRecursion-insert_from P x (sorted xs) h.0 (all-sorted P xs h.1)

-- ---- found by handle

-- an extent is found by its handle in a list
abbrev pub IsFoundIn : List Extent → Extent → Type 0
IsFoundIn zs x = find (λ (y : Extent). handle y == handle x) zs ≡ Some x

found-behind : (z : Extent) (zs : List Extent) (n : ℕ) (xs : List Extent) → Rising n xs → z.offset < n
    → AllByRecursion (IsFoundIn zs) xs → AllByRecursion (IsFoundIn (z ∷ zs)) xs
found-behind z zs n [] r l a = tt
found-behind z zs n (x ∷ xs) r l a = (
  cond-false (handle z == handle x) (Some z) (find (λ (y : Extent). handle y == handle x) zs)
      (ne_eqb (handle z) (handle x) (λ e. omega (arith, r.0, e, l))) ∙ a.0,
  found-behind z zs (x.offset + 1) xs r.1 (omega (arith, r.0, l)) a.1,
)

-- each extent of a rising list is found in it
pub found-each : (n : ℕ) (zs : List Extent) → Rising n zs → AllByRecursion (IsFoundIn zs) zs
found-each n [] r = tt
found-each n (z ∷ zs) r = (
  cond-true (handle z == handle z) (Some z) (find (λ (y : Extent). handle y == handle z) zs)
      (eq-eqb (handle z) (handle z) refl),
  found-behind z zs (z.offset + 1) zs r.1 (omega arith) (found-each (z.offset + 1) zs r.1),
)

-- ---- taking out

others-if : (b : Bool) (x z : Extent) {zs : List Extent} (ws : List Extent) → x.offset ≢ z.offset
    → others (handle x) ws ≡ zs → others (handle x) (if b then x ∷ z ∷ zs else z ∷ ws) ≡ z ∷ zs
others-if true x z {zs} ws n e = others-here (handle x) x (z ∷ zs) refl
others-if false x z ws n e = others-past (handle x) z ws (λ f. n (omega (arith, f))) ∙ ap (λ vs. z ∷ vs) e

-- the inserted extent is the one that is removed
pub others-insert : (x : Extent) (zs : List Extent) → Differs x zs → others (handle x) (insert x zs) ≡ zs
others-insert x [] n = others-here (handle x) x [] refl
others-insert x (z ∷ zs) n = others-if (nat_lt x.offset z.offset) x z (insert x zs) n.0 (others-insert x zs n.1)

-- an extent that begins nowhere else is added as it is resized to
pub others-none : (h : ℕ) (zs : List Extent) → AllByRecursion (λ (z : Extent). handle z ≢ h) zs → others h zs ≡ zs
others-none h [] n = refl
others-none h (z ∷ zs) n = others-past h z zs n.0 ∙ ap (λ vs. z ∷ vs) (others-none h zs n.1)

differs-handles : (x : Extent) (zs : List Extent) → Differs x zs
    → AllByRecursion (λ (z : Extent). handle z ≢ handle x) zs
differs-handles x [] n = tt
differs-handles x (z ∷ zs) n = ((λ e. n.0 (omega (arith, e))), differs-handles x zs n.1)

-- a new block is one more
pub resized-fresh : (l : LiveSet) (x : Extent) → Differs x l.extents → resized l x ≡ added l x
resized-fresh l x n = ap (λ xs. let l' : LiveSet = record l { extents = insert x xs } in
    l') (others-none (handle x) l.extents (differs-handles x l.extents n))

-- What the live set is after a change of the directory.

-- the extents of these objects, and of the tables t, by offset
abbrev pub spread : List Object → List Extent → List Extent
spread os t = sorted (flat_map extents_of os ++ t)

-- the blocks of the two indexes
abbrev pub tables_of : Directory → List Extent
tables_of d = table_extents d.named ++ table_extents d.unique

-- one object's extents are inserted among the others
pub spread-cons : (o : Object) (os : List Object) (t : List Extent)
    → spread (o ∷ os) t ≡ inserted (extents_of o) (spread os t)
spread-cons o os t = ap sorted (append_assoc (extents_of o) (flat_map extents_of os) t)
    ∙ sorted-append (extents_of o) (flat_map extents_of os ++ t)

-- ---- one more

put-if : (b : Bool) (o p : Object) (ps qs : List Object) (t : List Extent) → Apart (extents_of o) (extents_of p)
    → spread qs t ≡ inserted (extents_of o) (spread ps t)
    → spread (if b then o ∷ p ∷ ps else p ∷ qs) t ≡ inserted (extents_of o) (spread (p ∷ ps) t)
put-if true o p ps qs t a e = spread-cons o (p ∷ ps) t
put-if false o p ps qs t a e = spread-cons p qs t ∙ ap (inserted (extents_of p)) e ∙ sym (inserted-comm (extents_of o)
    (extents_of p) (spread ps t) a) ∙ ap (inserted (extents_of o)) (sym (spread-cons p ps t))

-- the extents of an object that is put among the others
pub spread-put : (n : ℕ) (o : Object) (os : List Object) (t : List Extent) → Rising n (inserted (extents_of o)
    (spread os t)) → spread (put_object o os) t ≡ inserted (extents_of o) (spread os t)
spread-put n o [] t h = spread-cons o [] t
spread-put n o (p ∷ ps) t h =
    let h1 : Rising n (inserted (extents_of o) (inserted (extents_of p) (spread ps t))) =
    subst (λ xs. Rising n (inserted (extents_of o) xs)) (spread-cons p ps t) h in
    let a = apart-inserted n (extents_of o) (extents_of p) (spread ps t) h1 in
    put-if (nat_lt o.extent.offset p.extent.offset) o p ps (put_object o ps) t a
    (spread-put n o ps t (rising-inserted n (extents_of p) (inserted (extents_of o) (spread ps t))
    (subst (Rising n) (inserted-comm (extents_of o) (extents_of p) (spread ps t) a) h1)).0)

-- a live set with these extents more
abbrev pub adding : LiveSet → List Extent → LiveSet
adding l xs = record l { extents = inserted xs l.extents }

-- the size of a live set is that of the directory
pub live-size : (d : Directory) → (live d).size ≡ d.size
unfolding live
live-size d = refl

-- the extents of a directory are the extents of its objects and tables
pub live-extents : (d : Directory) → (live d).extents ≡ spread d.objects (tables_of d)
unfolding live
live-extents d = refl

-- an object with all its extents
pub live-put : (d : Directory) (o : Object) → IsTrue (is_proper (adding (live d) (extents_of o)))
    → live (with_object d o) ≡ adding (live d) (extents_of o)
unfolding live
live-put d o h = ap (λ (xs : List Extent). let l : LiveSet = record { size = d.size; extents = xs } in l)
    (spread-put 128 o d.objects (tables_of d) (live-rises (adding (live d) (extents_of o)) h))

-- ---- one less

-- o is the first object of this handle
pub record IsFound (h : ℕ) (os : List Object) (o : Object) : Type 0 where
  pub is : find (has_key (ByHandle h)) os ≡ Some o

-- the object is the first of the list, or comes after the first
pub data Place (h : ℕ) (p : Object) (ps : List Object) (o : Object) : Type 0 where
  -- an object that is the first of the list
  here : h ≡ handle p.extent → p ≡ o → Place h p ps o
  -- an object after the first of the list
  behind : h ≢ handle p.extent → IsFound h ps o → Place h p ps o

place-if : {h : ℕ} {p : Object} {ps : List Object} {o : Object} → (b : Bool) → (h == handle p.extent) ≡ b
    → cond b (Some p) (find (has_key (ByHandle h)) ps) ≡ Some o → Place h p ps o
place-if {h} {p} true e f = here (eqb-true h (handle p.extent) e) (cc)
place-if {h} {p} false e f = behind (λ g. cc (eq-eqb h (handle p.extent) g)) (record { is = f })

-- an object that is found is the first or comes after it
pub found-place : (h : ℕ) (p : Object) (ps : List Object) (o : Object) → IsFound h (p ∷ ps) o → Place h p ps o
found-place h p ps o f = place-if (h == handle p.extent) refl f.is

-- nothing is found in no list
pub found-nothing : (h : ℕ) (o : Object) → IsFound h [] o → ⊥
found-nothing h o f = let e : find (has_key (ByHandle h)) [] ≡ Some o = f.is in cc

-- the one to take out is the first
pub remove-here : (h : ℕ) (p : Object) (ps : List Object) → h ≡ handle p.extent → remove_object h (p ∷ ps) ≡ ps
remove-here h p ps e = ap (λ b. if b then ps else p ∷ remove_object h ps) (eq-eqb h (handle p.extent) e)

-- the object to remove comes after the first
pub remove-behind : (h : ℕ) (p : Object) (ps : List Object) → h ≢ handle p.extent
    → remove_object h (p ∷ ps) ≡ p ∷ remove_object h ps
remove-behind h p ps n = ap (λ b. if b then ps else p ∷ remove_object h ps) (ne_eqb h (handle p.extent) n)

-- the one to replace is the first
pub replace-here : (o p : Object) (ps : List Object) → handle o.extent ≡ handle p.extent
    → replace_object o (p ∷ ps) ≡ o ∷ ps
replace-here o p ps e =
    ap (λ b. if b then o ∷ ps else p ∷ replace_object o ps) (eq-eqb (handle o.extent) (handle p.extent) e)

-- the object comes after the first
pub replace-behind : (o p : Object) (ps : List Object) → handle o.extent ≢ handle p.extent
    → replace_object o (p ∷ ps) ≡ p ∷ replace_object o ps
replace-behind o p ps n =
    ap (λ b. if b then o ∷ ps else p ∷ replace_object o ps) (ne_eqb (handle o.extent) (handle p.extent) n)

remove-place : (n : ℕ) {h : ℕ} {p : Object} {ps : List Object} {o : Object} (t : List Extent) → Place h p ps o
    → Rising n (spread (p ∷ ps) t) → (IsFound h ps o → Rising n (spread ps t) → spread ps t ≡ inserted (extents_of o)
    (spread (remove_object h ps) t)) → spread (p ∷ ps) t ≡ inserted (extents_of o) (spread (remove_object h (p ∷ ps)) t)
remove-place n {h} {p} {ps} {o} t (here e f) r k = spread-cons p ps t ∙ ap (λ (q : Object). inserted (extents_of q)
    (spread ps t)) f ∙ ap (λ qs. inserted (extents_of o) (spread qs t)) (sym (remove-here h p ps e))
remove-place n {h} {p} {ps} {o} t (behind e f) r k =
    let rest = spread (remove_object h ps) t in
    let r1 : Rising n (inserted (extents_of p) (spread ps t)) = subst (Rising n) (spread-cons p ps t) r in
    let below = k f (rising-inserted n (extents_of p) (spread ps t) r1).0 in
    spread-cons p ps t ∙ ap (inserted (extents_of p)) below ∙ inserted-comm (extents_of p) (extents_of o) rest
    (apart-inserted n (extents_of p) (extents_of o) rest (subst (λ xs. Rising n (inserted (extents_of p) xs)) below r1))
    ∙ ap (inserted (extents_of o)) (sym (spread-cons p (remove_object h ps) t))
    ∙ ap (λ qs. inserted (extents_of o) (spread qs t)) (sym (remove-behind h p ps e))

-- all extents are the extents of one object and of the others
pub spread-remove : (n h : ℕ) (os : List Object) (o : Object) (t : List Extent) → IsFound h os o
    → Rising n (spread os t) → spread os t ≡ inserted (extents_of o) (spread (remove_object h os) t)
spread-remove n h [] o t f r = absurd (found-nothing h o f)
spread-remove n h (p ∷ ps) o t f r = remove-place n t (found-place h p ps o f) r (spread-remove n h ps o t)

-- the live set without these
abbrev pub removing : LiveSet → List Extent → LiveSet
removing l xs = record l { extents = without_all xs l.extents }

-- the directory has this object, by its handle
abbrev pub IsIn : Directory → Object → Type 0
IsIn d o = IsFound (handle o.extent) d.objects o

-- all extents are the extents of an object and of the others
pub live-split : (d : Directory) (o : Object) → IsIn d o → IsTrue (is_proper (live d))
    → live d ≡ adding (live (without_object d o)) (extents_of o)
unfolding live
live-split d o f h = ap (λ (xs : List Extent). let l : LiveSet = record { size = d.size; extents = xs } in l)
    (spread-remove 128 (handle o.extent) d.objects o (tables_of d) f (live-rises (live d) h))

-- without an object: all its extents are released
pub live-without : (d : Directory) (o : Object) → IsIn d o → IsTrue (is_proper (live d))
    → live (without_object d o) ≡ removing (live d) (extents_of o)
live-without d o f h =
    let whole = live-split d o f h in
    ap (λ (xs : List Extent). let l : LiveSet = record { size = (live (without_object d o)).size; extents = xs } in l)
    (sym (without-inserted 128 (extents_of o) (live (without_object d o)).extents
    (live-rises (adding (live (without_object d o)) (extents_of o)) (subst (λ l. IsTrue (is_proper l)) whole h))))
    ∙ ap (λ l. removing l (extents_of o)) (sym whole)

-- ---- one changed

change-place : (n : ℕ) {p : Object} {ps : List Object} {o : Object} (o' : Object) (t : List Extent)
    → Place (handle o'.extent) p ps o → Rising n (inserted (extents_of o') (spread (remove_object (handle o'.extent)
    (p ∷ ps)) t)) → (IsFound (handle o'.extent) ps o → Rising n (inserted (extents_of o')
    (spread (remove_object (handle o'.extent) ps) t)) → spread (replace_object o' ps) t ≡ inserted (extents_of o')
    (spread (remove_object (handle o'.extent) ps) t)) → spread (replace_object o' (p ∷ ps)) t ≡ inserted (extents_of o')
    (spread (remove_object (handle o'.extent) (p ∷ ps)) t)
change-place n {p} {ps} o' t (here e f) r k = ap (λ qs. spread qs t) (replace-here o' p ps e) ∙ spread-cons o' ps t
    ∙ ap (λ qs. inserted (extents_of o') (spread qs t)) (sym (remove-here (handle o'.extent) p ps e))
change-place n {p} {ps} o' t (behind e f) r k =
    let rest = spread (remove_object (handle o'.extent) ps) t in
    let r1 : Rising n (inserted (extents_of o') (inserted (extents_of p) rest)) =
    subst (λ xs. Rising n (inserted (extents_of o') xs)) (spread-cons p (remove_object (handle o'.extent) ps) t)
    (subst (λ qs. Rising n (inserted (extents_of o') (spread qs t))) (remove-behind (handle o'.extent) p ps e) r) in
    let a =
    inserted-comm (extents_of o') (extents_of p) rest (apart-inserted n (extents_of o') (extents_of p) rest r1) in
    let below = k f (rising-inserted n (extents_of p) (inserted (extents_of o') rest) (subst (Rising n) a r1)).0 in
    ap (λ qs. spread qs t) (replace-behind o' p ps e) ∙ spread-cons p (replace_object o' ps) t
    ∙ ap (inserted (extents_of p)) below ∙ sym a
    ∙ ap (inserted (extents_of o')) (sym (spread-cons p (remove_object (handle o'.extent) ps) t))
    ∙ ap (λ qs. inserted (extents_of o') (spread qs t)) (sym (remove-behind (handle o'.extent) p ps e))

-- the extents of an object replaced by those of another
pub spread-change : (n : ℕ) (os : List Object) (o o' : Object) (t : List Extent) → IsFound (handle o'.extent) os o
    → Rising n (inserted (extents_of o') (spread (remove_object (handle o'.extent) os) t))
    → spread (replace_object o' os) t ≡ inserted (extents_of o') (spread (remove_object (handle o'.extent) os) t)
spread-change n [] o o' t f r = absurd (found-nothing (handle o'.extent) o f)
spread-change n (p ∷ ps) o o' t f r =
    change-place n o' t (found-place (handle o'.extent) p ps o f) r (spread-change n ps o o' t)

-- an object in the place of another: the others' extents, and all of its own
pub live-changed : (d : Directory) (o o' : Object) → IsFound (handle o'.extent) d.objects o
    → IsTrue (is_proper (adding (live (without_object d o')) (extents_of o')))
    → live (with_changed d o') ≡ adding (live (without_object d o')) (extents_of o')
unfolding live
live-changed d o o' f h = ap (λ (xs : List Extent). let l : LiveSet = record { size = d.size; extents = xs } in l)
    (spread-change 128 d.objects o o' (tables_of d) f
    (live-rises (adding (live (without_object d o')) (extents_of o')) h))

-- ---- properties of each block in use

-- each extent of an object, and each of the tables
pub record OfEach (P : Extent → Type 0) (d : Directory) : Type 0 where
  pub objects : AllByRecursion P (flat_map extents_of d.objects)
  pub named : AllByRecursion P (table_extents d.named)
  pub unique : AllByRecursion P (table_extents d.unique)

-- a property of each extent of the live set holds for each of these extents
pub of_each : (P : Extent → Type 0) {d : Directory} → AllByRecursion P (live d).extents → OfEach P d
unfolding live
of_each P {d} h =
    let all = all_of-sorted P (flat_map extents_of d.objects ++ tables_of d) h in
    let tables = AllByRecursion-behind P (flat_map extents_of d.objects) (tables_of d) all in
    record {
      objects = AllByRecursion-front P (flat_map extents_of d.objects) (tables_of d) all;
      named = AllByRecursion-front P (table_extents d.named) (table_extents d.unique) tables;
      unique = AllByRecursion-behind P (table_extents d.named) (table_extents d.unique) tables;
    }

less-if : (P : Extent → Type 0) (b : Bool) (p : Object) (ps qs : List Object)
    → AllByRecursion P (flat_map extents_of (p ∷ ps)) → AllByRecursion P (flat_map extents_of qs)
    → AllByRecursion P (flat_map extents_of (if b then ps else p ∷ qs))
less-if P true p ps qs a k = AllByRecursion-behind P (extents_of p) (flat_map extents_of ps) a
less-if P false p ps qs a k = AllByRecursion-append P (extents_of p) (flat_map extents_of qs)
    (AllByRecursion-front P (extents_of p) (flat_map extents_of ps) a) k

-- a property of the blocks of all objects holds for the blocks of the others
pub all-less : (P : Extent → Type 0) (h : ℕ) (os : List Object) → AllByRecursion P (flat_map extents_of os)
    → AllByRecursion P (flat_map extents_of (remove_object h os))
all-less P h [] a = a
all-less P h (p ∷ ps) a = less-if P (h == handle p.extent) p ps (remove_object h ps) a
    (all-less P h ps (AllByRecursion-behind P (extents_of p) (flat_map extents_of ps) a))
