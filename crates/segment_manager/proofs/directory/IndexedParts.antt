-- What the indexes see of objects: class, name, kind and place. What keeps these keeps the indexes.
use Rattle.segment_manager.proofs.Common as common
use common.{◌≡◌, nat_lt, nat_le, code_of, Numbers, Elements, kind_of, is_class, by_name, by_kind, is_index, handles}
use common.{refl, sym, ◌∙◌, ◌+◌, Bool, true, ◌&&◌, ◌==◌, List, [], ◌∷◌, map, cond, fold, Kind, Map, ap, length-map}
use common.{no_backing, has_backing, Anonymous, class_code, Directory, put_object, insert_by, rises_from, ℕ}
use common.{if◌then◌else◌, StringsKind, remove_object, replace_object, with_object, with_changed, without_object, false}
use common.{filter, handle, BackingArray, Class, Scalar, String, Vector, Value, Bytes, Pairs, Texts, Object, rises}
use Rattle.segment_manager.proofs.directory.LiveSet.{IsFound, Place, here, behind, found-place, found-nothing}
use Rattle.segment_manager.proofs.directory.LiveSet.{remove-here, remove-behind, replace-here, replace-behind}
use Rattle.block_tags.specs.declared.tile.Role.TheVariants.{Index}
use Rattle.seg_types.specs.declared.kinds.Class.TheVariants.{Named, Unique}

-- ---- faces

-- a value of the kind, with nothing in it
pub bare_of : Kind → Value
bare_of (Scalar k) = Numbers k []
bare_of String = Bytes [] no_backing
bare_of (Vector k) = Elements k [] no_backing
bare_of (Map k v) = Pairs k v []
bare_of StringsKind = Texts [] no_backing

bare_of-kind : (k : Kind) → kind_of (bare_of k) ≡ k
unfolding bare_of
bare_of-kind (Scalar k) = refl
bare_of-kind k = refl

-- an object without its value
abbrev face : Object → Object
face o = record { class = o.class; name = o.name; value = bare_of (kind_of o.value); extent = o.extent }

abbrev faces : List Object → List Object
faces = map face

-- the two objects have the same class, name, kind and block
pub record IsLike (o p : Object) : Type 0 where
  pub extent : p.extent ≡ o.extent
  pub name : p.name ≡ o.name
  pub class : p.class ≡ o.class
  pub kind : kind_of p.value ≡ kind_of o.value

face-like : {o p : Object} → IsLike o p → face p ≡ face o
face-like h = λ i. record { class = h.class i; name = h.name i; value = bare_of (h.kind i); extent = h.extent i }

-- an order that depends only on class, name, kind and block
abbrev pub IsByFace : (Object → Object → Bool) → Type 0
IsByFace lt = (o p : Object) → lt (face o) (face p) ≡ lt o p

-- the order by names sees the faces of objects alone
pub by_name-face : IsByFace by_name
by_name-face o p = refl

-- the order by kinds sees the faces of objects alone
pub by_kind-face : IsByFace by_kind
by_kind-face o p = λ i. nat_lt (code_of (bare_of-kind (kind_of o.value) i)) (code_of (bare_of-kind (kind_of p.value) i))

-- ---- an index, in order

-- the objects of a class, in an order
abbrev pub ordered : Class → (Object → Object → Bool) → List Object → List Object
ordered c lt os = fold (λ os o. insert_by lt o os) [] (filter (is_class c) os)

faces-if : (b : Bool) (xs ys : List Object) → faces (if b then xs else ys) ≡ (if b then faces xs else faces ys)
faces-if true xs ys = refl
faces-if false xs ys = refl

faces-insert : (lt : Object → Object → Bool) → IsByFace lt → (o : Object) (ps : List Object)
    → faces (insert_by lt o ps) ≡ insert_by lt (face o) (faces ps)
faces-insert lt e o [] = refl
faces-insert lt e o (p ∷ ps) = faces-if (lt o p) (o ∷ p ∷ ps) (p ∷ insert_by lt o ps)
    ∙ (λ i. if sym (e o p) i then face o ∷ face p ∷ faces ps else face p ∷ faces-insert lt e o ps i)

faces-fold : (lt : Object → Object → Bool) → IsByFace lt → (acc os : List Object)
    → faces (fold (λ os o. insert_by lt o os) acc os) ≡ fold (λ os o. insert_by lt o os) (faces acc) (faces os)
faces-fold lt e acc [] = refl
faces-fold lt e acc (o ∷ os) = faces-fold lt e (insert_by lt o acc) os
    ∙ ap (λ ps. fold (λ os o. insert_by lt o os) ps (faces os)) (faces-insert lt e o acc)

filter-if : (b : Bool) (o : Object) (xs : List Object) {ys : List Object} → faces xs ≡ ys
    → faces (cond b (o ∷ xs) xs) ≡ cond b (face o ∷ ys) ys
filter-if true o xs e = ap (λ zs. face o ∷ zs) e
filter-if false o xs e = e

faces-filter : (c : Class) (os : List Object) → faces (filter (is_class c) os) ≡ filter (is_class c) (faces os)
faces-filter c [] = refl
faces-filter c (o ∷ os) = filter-if (is_class c o) o (filter (is_class c) os) (faces-filter c os)

faces-ordered : (c : Class) (lt : Object → Object → Bool) → IsByFace lt → (os : List Object)
    → faces (ordered c lt os) ≡ ordered c lt (faces os)
faces-ordered c lt e os =
    faces-fold lt e [] (filter (is_class c) os) ∙ ap (fold (λ os o. insert_by lt o os) []) (faces-filter c os)

-- ---- properties that depend only on class, name, kind and block

handles-faces : (os : List Object) → handles (faces os) ≡ handles os
handles-faces [] = refl
handles-faces (o ∷ os) = ap (λ hs. handle o.extent ∷ hs) (handles-faces os)

rises-faces : (lt : Object → Object → Bool) → IsByFace lt → (os : List Object) → rises lt (faces os) ≡ rises lt os
rises-faces lt e [] = refl
rises-faces lt e (o ∷ []) = refl
rises-faces lt e (o ∷ p ∷ ps) = λ i. e o p i && rises-faces lt e (p ∷ ps) i

rises_from-faces : (n : ℕ) (os : List Object) → rises_from n (faces os) ≡ rises_from n os
rises_from-faces n [] = refl
rises_from-faces n (o ∷ os) = ap (λ b. nat_le n o.extent.offset && b) (rises_from-faces (o.extent.offset + 1) os)

-- the entries of an index, and its legality, are the same
pub record SameIndex (lt : Object → Object → Bool) (os ps : List Object) : Type 0 where
  pub entries : handles ps ≡ handles os
  pub index : (t : BackingArray) → is_index t ps lt ≡ is_index t os lt

index-faces : (lt : Object → Object → Bool) → IsByFace lt → (os : List Object) (t : BackingArray)
    → is_index t (faces os) lt ≡ is_index t os lt
index-faces lt e os t = λ i. has_backing Index 8 t && nat_le (length-map os face i) t.capacity && rises-faces lt e os i

index-alike : {lt : Object → Object → Bool} → IsByFace lt → {os ps : List Object} → faces ps ≡ faces os
    → SameIndex lt os ps
index-alike {lt} e {os} {ps} f = record {
  entries = sym (handles-faces ps) ∙ ap handles f ∙ handles-faces os;
  index = λ t. sym (index-faces lt e ps t) ∙ ap (λ qs. is_index t qs lt) f ∙ index-faces lt e os t;
}

-- ---- an object in the place of one like it

replace-place : {p : Object} {ps : List Object} {o : Object} (o' : Object) → Place (handle o'.extent) p ps o
    → face o' ≡ face o → (IsFound (handle o'.extent) ps o → faces (replace_object o' ps) ≡ faces ps)
    → faces (replace_object o' (p ∷ ps)) ≡ faces (p ∷ ps)
replace-place {p} {ps} o' (here e f) g k =
    ap faces (replace-here o' p ps e) ∙ ap (λ q. q ∷ faces ps) (g ∙ ap face (sym f))
replace-place {p} {ps} o' (behind e f) g k = ap faces (replace-behind o' p ps e) ∙ ap (λ qs. face p ∷ qs) (k f)

faces-replace : (os : List Object) (o o' : Object) → IsFound (handle o'.extent) os o → face o' ≡ face o
    → faces (replace_object o' os) ≡ faces os
faces-replace [] o o' f g = absurd (found-nothing (handle o'.extent) o f)
faces-replace (p ∷ ps) o o' f g =
    replace-place o' (found-place (handle o'.extent) p ps o f) g (λ f'. faces-replace ps o o' f' g)

-- the order by offset stays
pub replace-rises : (n : ℕ) (os : List Object) {o o' : Object} → IsFound (handle o'.extent) os o → IsLike o o'
    → rises_from n (replace_object o' os) ≡ rises_from n os
replace-rises n os {o} {o'} f h = sym (rises_from-faces n (replace_object o' os))
    ∙ ap (rises_from n) (faces-replace os o o' f (face-like h)) ∙ rises_from-faces n os

-- and so is an index whose order depends only on these, as both orders do
pub ordered-changed : (c : Class) (lt : Object → Object → Bool) → IsByFace lt → (d : Directory) (o o' : Object)
    → IsFound (handle o'.extent) d.objects o → IsLike o o'
    → SameIndex lt (ordered c lt d.objects) (ordered c lt (with_changed d o').objects)
ordered-changed c lt e d o o' f h = index-alike e
    (faces-ordered c lt e (replace_object o' d.objects) ∙ ap (ordered c lt) (faces-replace d.objects o o' f (face-like
    h)) ∙ sym (faces-ordered c lt e d.objects))

-- ---- an object that is not of the class

put-filter : (c : Class) (b : Bool) (o p : Object) (ps qs : List Object) → is_class c o ≡ false → filter (is_class c) qs
    ≡ filter (is_class c) ps → filter (is_class c) (if b then o ∷ p ∷ ps else p ∷ qs) ≡ filter (is_class c) (p ∷ ps)
put-filter c true o p ps qs e f = ap (λ b. cond b (o ∷ filter (is_class c) (p ∷ ps)) (filter (is_class c) (p ∷ ps))) e
put-filter c false o p ps qs e f = ap (λ rs. cond (is_class c p) (p ∷ rs) rs) f

filter-put : (c : Class) (o : Object) (os : List Object) → is_class c o ≡ false
    → filter (is_class c) (put_object o os) ≡ filter (is_class c) os
filter-put c o [] e = ap (λ b. cond b (o ∷ []) []) e
filter-put c o (p ∷ ps) e =
    put-filter c (nat_lt o.extent.offset p.extent.offset) o p ps (put_object o ps) e (filter-put c o ps e)

remove-filter : (c : Class) {h : ℕ} {p : Object} {ps : List Object} {o : Object} → Place h p ps o → is_class c o ≡ false
    → (IsFound h ps o → filter (is_class c) (remove_object h ps) ≡ filter (is_class c) ps)
    → filter (is_class c) (remove_object h (p ∷ ps)) ≡ filter (is_class c) (p ∷ ps)
remove-filter c {h} {p} {ps} (here e f) g k = ap (filter (is_class c)) (remove-here h p ps e)
    ∙ ap (λ b. cond b (p ∷ filter (is_class c) ps) (filter (is_class c) ps)) (sym g ∙ ap (is_class c) (sym f))
remove-filter c {h} {p} {ps} (behind e f) g k =
    ap (filter (is_class c)) (remove-behind h p ps e) ∙ ap (λ rs. cond (is_class c p) (p ∷ rs) rs) (k f)

filter-remove : (c : Class) (h : ℕ) (os : List Object) (o : Object) → IsFound h os o → is_class c o ≡ false
    → filter (is_class c) (remove_object h os) ≡ filter (is_class c) os
filter-remove c h [] o f e = absurd (found-nothing h o f)
filter-remove c h (p ∷ ps) o f e = remove-filter c (found-place h p ps o f) e (λ g. filter-remove c h ps o g e)

-- an object of another class does not change the order when it is inserted
pub ordered-with : (c : Class) (lt : Object → Object → Bool) (d : Directory) (o : Object) → is_class c o ≡ false
    → ordered c lt (with_object d o).objects ≡ ordered c lt d.objects
ordered-with c lt d o e = ap (fold (λ os o. insert_by lt o os) []) (filter-put c o d.objects e)

-- an object of another class does not change the order when it is removed
pub ordered-without : (c : Class) (lt : Object → Object → Bool) (d : Directory) (o : Object) → IsFound (handle o.extent)
    d.objects o → is_class c o ≡ false → ordered c lt (without_object d o).objects ≡ ordered c lt d.objects
ordered-without c lt d o f e =
    ap (fold (λ os o. insert_by lt o os) []) (filter-remove c (handle o.extent) d.objects o f e)

-- an anonymous object is in no index
pub anonymous-named : (o : Object) → o.class ≡ Anonymous → is_class Named o ≡ false
anonymous-named o e = ap (λ c. class_code Named == class_code c) e

-- nor in that of kinds
pub anonymous-unique : (o : Object) → o.class ≡ Anonymous → is_class Unique o ≡ false
anonymous-unique o e = ap (λ c. class_code Unique == class_code c) e
