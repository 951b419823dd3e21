-- The blocks of a vector of texts (its array and its texts' blocks) among the other blocks of a heap, through the steps
-- of a call.
use Rattle.seg_vector.proofs.Common as W
use W.{in_use-all, take-append-drop, length-take, length-drop, ◌≡◌, ◌≢◌, sym, ap, subst, ◌∙◌, ℕ, ◌+◌, ◌%◌, ◌≤◌, Option}
use W.{Some, None, List, ◌∷◌, ◌++◌, ◌==◌, append_assoc, length, arith, inl, inr, refl, zero, suc, ◌-◌, ◌*◌, ◌<◌, take}
use W.{drop, Bool, true, false, cond, ◌⊎◌, IsTrue, find, option_to_list, option_map, slice_get, IfSome, AllByRecursion}
use W.{list_any, flat_map-append, take-take, slice_get_within, or_left, or_right, Memory, WindowState, bytes_of}
use W.{word_at, SameBytesExcept, HasBytesAt, current, Storage, link_at, target_of, inserted, without_all}
use W.{ExchangesBlocks, SameBlockExcept, Extent, LiveSet, handle, end_of, IsHeap, extent_at, live_of, SameBlock}
use W.{ChangesBytes, has_room, is_live_in, payload_at, Deallocates, BackingArray, has_backing, no_backing, IsFound}
use W.{IsNone, Rising, SameSpread, all-found-in, all-in-use, found-inserted, found-none, found-room, live-rises}
use W.{middle-first, rising-others, roomy, spread-behind, all_of-inserted, but-apart, exchanged-live, found-without}
use W.{inserted-append, laid-heap, without-inserted, kept, kept-found, word-same, block_payload, room_block}
use W.{exchange-next, exchange-released, exchange-same, spread-refl, IsSound, live-sound, HasBytesAt-same}
use W.{SameBytesExcept-word, read-part, SameBytesExcept-link, Place, place_at, IsContainer, IsServed, FreesBlocks}
use W.{KeepsGaps, SwapsBlocks, AreHeldElements, IsHeldElement, SameElements, SameElement, AreEvenLinks, IsHeldText}
use W.{IsTexts, text_blocks, ReplacesTexts, IsTextElement, AreInArray, IsOwnedText, OwnedText, AreTextLinks, []}
use Rattle.seg_vector.proofs.storage.HeadAndBlock.{AreHeadWords, IsHead, IsRun, changed-both, none-some, same-some}
use Rattle.seg_vector.proofs.storage.HeadAndBlock.{came-found}
use Rattle.seg_vector.proofs.storage.HeadAndBlock.{room-head, own-facts, facts-own, serves-full, table, table-full}
use Rattle.seg_vector.proofs.{storage.Storage.live-if, storage.TypedVectors.has-element}
use Rattle.best_fit.specs.Extents.{is_proper}

-- ---- the blocks of a vector of texts among the other blocks of a heap

-- the blocks of a vector of strings: its array and its strings' blocks
abbrev pub own_blocks : List OwnedText → BackingArray → List Extent
own_blocks ps t = option_to_list t.extent ++ text_blocks ps

-- one block, if there is one
pub no-extent : {o : Option Extent} → option_to_list o ≡ [] → o ≡ None
no-extent {o = None} e = refl
no-extent {o = Some x} e = absurd (cc)

-- blocks that are equal as lists are equal
pub same-extent : {o q : Option Extent} → option_to_list o ≡ option_to_list q → o ≡ q
same-extent {o = None} {q = None} e = refl
same-extent {o = None} {q = Some y} e = absurd (cc)
same-extent {o = Some x} {q = None} e = absurd (cc)
same-extent {o = Some x} {q = Some y} e = cc

-- a list of which no block is a member is empty
pub fresh-none : (xs : List Extent) → AllByRecursion (λ (x : Extent). IsNone (handle x) xs) xs → xs ≡ []
fresh-none [] d = refl
fresh-none (x ∷ xs) d = absurd (d.0.0 refl)

-- the block of an array, and others after it
pub behind-array : (o : Option Extent) {xs ys : List Extent} → option_to_list o ++ xs ≡ option_to_list o ++ ys → xs ≡ ys
behind-array None e = e
behind-array (Some x) e = cc

-- ---- lists in parts

-- a property of a list holds for both its parts
pub all-split : {A : Type 0} → (P : A → Type 0) (xs ys : List A) → AllByRecursion P (xs ++ ys)
    → AllByRecursion P xs × AllByRecursion P ys
all-split P [] ys a = (tt, a)
all-split P (x ∷ xs) ys a = let both = all-split P xs ys a.1 in ((a.0, both.0), both.1)

-- a property of two lists holds for both together
pub all-join : {A : Type 0} → (P : A → Type 0) (xs ys : List A) → AllByRecursion P xs → AllByRecursion P ys
    → AllByRecursion P (xs ++ ys)
all-join P [] ys a b = b
all-join P (x ∷ xs) ys a b = (a.0, all-join P xs ys a.1 b)

-- ---- all of them are in use

found-head : (l : LiveSet) (bytes : List ℕ) (o : Option Extent) (xs : List Extent)
    → IsHeldText l (record { bytes = bytes; extent = o }) → AllByRecursion (IsFound l.extents) xs
    → AllByRecursion (IsFound l.extents) (option_to_list o ++ xs)
found-head l bytes None xs h f = f
found-head l bytes (Some x) xs h f = (h.0, f)

-- the blocks of strings that are held are in use
pub found-texts : (l : LiveSet) (ps : List OwnedText) → AllByRecursion (IsHeldText l) ps
    → AllByRecursion (IsFound l.extents) (text_blocks ps)
found-texts l [] h = tt
found-texts l (q ∷ qs) h = found-head l q.bytes q.extent (text_blocks qs) h.0 (found-texts l qs h.1)

-- a handle that differs from each of a list is not in it
pub none-of : (h : ℕ) (xs : List Extent) → AllByRecursion (λ (x : Extent). handle x ≢ h) xs → IsNone h xs
none-of h [] n = tt
none-of h (x ∷ xs) n = ((λ e. n.0 (sym e)), none-of h xs n.1)

-- The block that contains the vector's words is not one of its own blocks; its own blocks are inserted among the
-- others.
pub record AreOwn (c : WindowState) (p : Place) (own : List Extent) : Type 0 where
  pub head : IsHead c p
  pub none : IsNone p.handle own
  pub is : (live_of c.bytes).extents ≡ inserted own (without_all own (live_of c.bytes).extents)

-- the blocks of a vector of strings are its own
pub texts-own : (c : WindowState) {p : Place} {ps : List OwnedText} {t : BackingArray} → IsTexts c.bytes p ps t
    → AreOwn c p (own_blocks ps t)
texts-own c {p} {ps} {t} s =
    let l = live_of c.bytes in let arr = option_to_list t.extent in let tb = text_blocks ps in
    let facts = own-facts l p.handle t.extent s.own in
    let found = all-join (IsFound l.extents) arr tb facts.1 (found-texts l ps s.held) in
    record {
      head = room-head c p s.heap s.room;
      none = all-join (λ (z : Extent). p.handle ≢ handle z) arr tb facts.2 (none-of p.handle tb s.apart);
      is = (all-in-use (own_blocks ps t) l.extents (live-rises l s.heap.proper) s.others found).is;
    }

-- ---- a vector of texts out of its parts

held-head : (l : LiveSet) (bytes : List ℕ) (o : Option Extent) (xs : List Extent)
    → IsServed (record { bytes = bytes; extent = o }) → AllByRecursion (IsFound l.extents) (option_to_list o ++ xs)
    → IsHeldText l (record { bytes = bytes; extent = o }) × AllByRecursion (IsFound l.extents) xs
held-head l bytes None xs s f = (s, f)
held-head l bytes (Some x) xs s f = ((f.0, s.0, s.1), f.1)

-- blocks in use with room for strings hold them
pub held-texts : (l : LiveSet) (ps : List OwnedText) → AllByRecursion IsServed ps
    → AllByRecursion (IsFound l.extents) (text_blocks ps) → AllByRecursion (IsHeldText l) ps
held-texts l [] s f = tt
held-texts l (q ∷ qs) s f = let both = held-head l q.bytes q.extent (text_blocks qs) s.0 f in
    (both.0, held-texts l qs s.1 both.1)

-- a handle that is not in a list differs from each of it
pub of-none : (h : ℕ) (xs : List Extent) → IsNone h xs → AllByRecursion (λ (x : Extent). handle x ≢ h) xs
of-none h [] n = tt
of-none h (x ∷ xs) n = ((λ e. n.0 (sym e)), of-none h xs n.1)

pub texts-made : (b : List ℕ) (p : Place) (ps : List OwnedText) {t : BackingArray} {head : Extent} (rest : List Extent)
    → IsHeap current b → (live_of b).extents ≡ inserted (own_blocks ps t) rest → find (λ (w : Extent). handle w ==
    p.handle) rest ≡ Some head → p.at + 24 + 16 ≤ head.len → p.at % 8 ≡ 0 → IsTrue (has_backing Storage 16 t)
    → length ps ≤ t.capacity → AreHeadWords (bytes_of b) (place_at p) (length ps) t → AreInArray (bytes_of b) t ps
    → AllByRecursion (IsOwnedText (bytes_of b)) ps → AllByRecursion IsServed ps → IsTexts b p ps t
texts-made b p ps {t} {head} rest heap is found big even table fits words array texts served =
    let l = live_of b in let own = own_blocks ps t in
    let up : Rising 128 (inserted own rest) = subst (Rising 128) is (live-rises l heap.proper) in
    let all : AllByRecursion (IsFound l.extents) own = subst (λ (zs : List Extent). AllByRecursion (IsFound zs) own)
    (sym is) (all-found-in own rest up) in
    let arr = option_to_list t.extent in let tb = text_blocks ps in
    let founds = all-split (IsFound l.extents) arr tb all in let none = found-none p.handle head own rest up found in
    let nones = all-split (λ (z : Extent). p.handle ≢ handle z) arr tb none in
    let there : extent_at l p.handle ≡ Some head = ap (λ (zs : List Extent). find (λ (w : Extent). handle w == p.handle)
    zs) is ∙ found-inserted p.handle head own rest none found in
    record {
      heap = heap;
      words = record
          { link = words.link; len_word = words.len_word; capacity = words.capacity; array = array; texts = texts };
      aligned = even;
      room = found-room l p.handle (p.at + 24) head there big;
      table = table;
      fits = fits;
      own = facts-own l p.handle t.extent founds.0 nones.0;
      held = held-texts l ps served founds.1;
      apart = of-none p.handle tb nones.1;
      others = rising-others own rest up;
    }

-- ---- texts between others

blocks-append : (xs ys : List OwnedText) → text_blocks (xs ++ ys) ≡ text_blocks xs ++ text_blocks ys
blocks-append xs ys = flat_map-append (λ (q : OwnedText). option_to_list q.extent) xs ys

-- the blocks of strings in three parts
pub blocks-three : (xs ys ws : List OwnedText) → text_blocks (xs ++ (ys ++ ws)) ≡ text_blocks xs
    ++ (text_blocks ys ++ text_blocks ws)
blocks-three xs ys ws = blocks-append xs (ys ++ ws) ∙ ap (λ zs. text_blocks xs ++ zs) (blocks-append ys ws)

-- the blocks of an array and of texts between others come first
pub own-between : (a m b : List OwnedText) (t : BackingArray) → SameSpread (own_blocks (a ++ (m ++ b)) t)
    ((option_to_list t.extent ++ text_blocks m) ++ (text_blocks a ++ text_blocks b))
own-between a m b t =
    let arr = option_to_list t.extent in let ta = text_blocks a in let tm = text_blocks m in
    let tb = text_blocks b in let p = spread-behind arr _ _ (middle-first ta tm tb) in
    subst (SameSpread (own_blocks (a ++ (m ++ b)) t)) (sym (append_assoc arr tm (ta ++ tb)))
    (subst (λ (xs : List Extent). SameSpread (arr ++ xs) (arr ++ (tm ++ (ta ++ tb)))) (sym (blocks-three a m b)) p)

-- the converse
pub between-own : (a m b : List OwnedText) (t : BackingArray) → SameSpread ((option_to_list t.extent ++ text_blocks m)
    ++ (text_blocks a ++ text_blocks b)) (own_blocks (a ++ (m ++ b)) t)
between-own a m b t =
    let arr = option_to_list t.extent in let ta = text_blocks a in let tm = text_blocks m in
    let tb = text_blocks b in let p = spread-behind arr _ _ (middle-first tm ta tb) in
    subst (λ (xs : List Extent). SameSpread xs (own_blocks (a ++ (m ++ b)) t)) (sym (append_assoc arr tm (ta ++ tb)))
    (subst (λ (xs : List Extent). SameSpread (arr ++ (tm ++ (ta ++ tb))) (arr ++ xs)) (sym (blocks-three a m b)) p)

-- ---- the texts that stay

served-head : (l : LiveSet) (bytes : List ℕ) (o : Option Extent) → IsHeldText l (record { bytes = bytes; extent = o })
    → IsServed (record { bytes = bytes; extent = o })
served-head l bytes None h = h
served-head l bytes (Some x) h = (h.1, h.2)

-- strings that are held are served by their blocks
pub served-texts : (l : LiveSet) (qs : List OwnedText) → AllByRecursion (IsHeldText l) qs → AllByRecursion IsServed qs
served-texts l [] h = tt
served-texts l (q ∷ qs) h = (served-head l q.bytes q.extent h.0, served-texts l qs h.1)

-- a text stays where its block does
pub same-loose : (m m' : Memory) (bytes : List ℕ) (o : Option Extent)
    → AllByRecursion (SameBlock m m') (option_to_list o) → IsServed (record { bytes = bytes; extent = o })
    → IsOwnedText m (record { bytes = bytes; extent = o }) → IsOwnedText m' (record { bytes = bytes; extent = o })
same-loose m m' bytes None k s w = w
same-loose m m' bytes (Some x) k s w =
    let full = serves-full x (length bytes) s.1 in
    HasBytesAt-same m m' _ _ (handle x) bytes k.0.payload (omega arith) (omega (arith, full)) w

-- strings stay where their blocks do
pub owned-same : (m m' : Memory) (qs : List OwnedText) → AllByRecursion (SameBlock m m') (text_blocks qs)
    → AllByRecursion IsServed qs → AllByRecursion (IsOwnedText m) qs → AllByRecursion (IsOwnedText m') qs
owned-same m m' [] k s w = tt
owned-same m m' (q ∷ qs) k s w =
    let both = all-split (SameBlock m m') (option_to_list q.extent) (text_blocks qs) k in
    (same-loose m m' q.bytes q.extent both.0 s.0 w.0, owned-same m m' qs both.1 s.1 w.1)

-- blocks stay where the words of the vector are written
all-apart : {old : WindowState} (new : WindowState) {p : Place} (xs : List Extent) → IsHeap current old.bytes
    → IsHead old p
    → AllByRecursion (IsFound (live_of old.bytes).extents) xs → AllByRecursion (λ (x : Extent). handle x ≢ p.handle) xs
    → AllByRecursion (SameBlockExcept (bytes_of old.bytes) (bytes_of new.bytes) (place_at p) 24) xs
    → AllByRecursion (SameBlock (bytes_of old.bytes) (bytes_of new.bytes)) xs
all-apart new [] heap o f n s = tt
all-apart {old} new {p} (x ∷ xs) heap o f n s = (
  but-apart (live_of old.bytes) _ _ _ 24 p.handle (handle x) _ x heap.proper o.found (omega (arith, o.here))
      (omega (arith, o.here, o.big)) (λ e. n.0 (sym e)) f.0 s.0,
  all-apart new xs heap o f.1 n.1 s.1,
)

-- the array and some texts among the others
pub own-parts : (c : WindowState) {p : Place} (a m b : List OwnedText) {t : BackingArray}
    → IsTexts c.bytes p (a ++ (m ++ b)) t
    → (live_of c.bytes).extents ≡ inserted (option_to_list t.extent ++ text_blocks m)
    (inserted (text_blocks a ++ text_blocks b) (without_all (own_blocks (a ++ (m ++ b)) t) (live_of c.bytes).extents))
own-parts c {p} a m b {t} s =
    let own = own_blocks (a ++ (m ++ b)) t in let w = texts-own c s in
    let rest = without_all own (live_of c.bytes).extents in
    w.is ∙ (own-between a m b t).same rest (subst (Rising 128) w.is (live-rises (live_of c.bytes) s.heap.proper))
    ∙ inserted-append (option_to_list t.extent ++ text_blocks m) (text_blocks a ++ text_blocks b) rest

-- ---- the vector after all steps

-- strings in the middle are exchanged for others
pub texts-between : {old new : WindowState} {p : Place} {ps : List OwnedText} (qs a m m' b : List OwnedText)
    {t u : BackingArray} {gone come : List Extent} → ps ≡ a ++ (m ++ b) → qs ≡ a ++ (m' ++ b)
    → gone ≡ option_to_list t.extent ++ text_blocks m → come ≡ option_to_list u.extent ++ text_blocks m'
    → IsTexts old.bytes p ps t → ExchangesBlocks current old new (place_at p) 24 gone come
    → IsTrue (has_backing Storage 16 u) → length qs ≤ u.capacity → AreHeadWords (bytes_of new.bytes) (place_at p)
    (length qs) u → AreInArray (bytes_of new.bytes) u qs → AllByRecursion (IsOwnedText (bytes_of new.bytes)) m'
    → AllByRecursion IsServed m' → (gone ≡ come → KeepsGaps old new) → ReplacesTexts old new p gone come qs u
texts-between {old} {new} {p} qs a m m' b {t} {u} {gone} e f g h before change table fits words array texts served k =
    let l = live_of old.bytes in let M = bytes_of old.bytes in let M' = bytes_of new.bytes in
    let out : List Extent = option_to_list t.extent ++ text_blocks m in
    let into : List Extent = option_to_list u.extent ++ text_blocks m' in
    let same : List Extent = text_blocks a ++ text_blocks b in
    let s = subst (λ (xs : List OwnedText). IsTexts old.bytes p xs t) e before in
    let x : ExchangesBlocks current old new (place_at p) 24 out into =
    subst (λ (xs : List Extent). ExchangesBlocks current old
    new (place_at p) 24 xs into) g (subst (ExchangesBlocks current old new (place_at p) 24 gone) h change) in
    let own = own_blocks (a ++ (m ++ b)) t in let w = texts-own old s in let rest = without_all own l.extents in
    let parts = own-parts old a m b s in
    let stay : without_all out l.extents ≡ inserted same rest = ap (without_all out) parts ∙ without-inserted 128
    out (inserted same rest) (subst (Rising 128) parts (live-rises l s.heap.proper)) in
    let heap = laid-heap _ _ x.live in
    let now : (live_of new.bytes).extents ≡ inserted (into ++ same) rest = ap (λ (k : LiveSet). k.extents)
    (exchanged-live old new _ 24 out into _ x) ∙ ap (inserted into) stay ∙ sym (inserted-append into same rest) in
    let is : (live_of new.bytes).extents ≡ inserted (own_blocks (a ++ (m' ++ b)) u) rest =
    now ∙ (between-own a m' b u).same rest (subst (Rising 128) now (live-rises (live_of new.bytes) heap.proper)) in
    let blocks = all-split (SameBlockExcept M M' (place_at p) 24) (text_blocks a) (text_blocks b)
    (all_of-inserted (SameBlockExcept M M' (place_at p) 24) same rest
    (subst (AllByRecursion (SameBlockExcept M M' (place_at p) 24)) stay x.blocks)).0 in
    let held = all-split (IsHeldText l) a (m ++ b) s.held in let held_b = (all-split (IsHeldText l) m b held.1).1 in
    let owned = all-split (IsOwnedText M) a (m ++ b) s.words.texts in
    let owned_b = (all-split (IsOwnedText M) m b owned.1).1 in
    let apart = all-split (λ (z : Extent). handle z ≢ p.handle) (text_blocks a) (text_blocks m ++ text_blocks b)
    (subst (AllByRecursion (λ (z : Extent). handle z ≢ p.handle)) (blocks-three a m b) s.apart) in
    let apart_b = (all-split (λ (z : Extent). handle z ≢ p.handle) (text_blocks m) (text_blocks b) apart.1).1 in
    let sa = served-texts l a held.0 in let sb = served-texts l b held_b in
    let ta = owned-same M M' a (all-apart new (text_blocks a) s.heap w.head (found-texts l a held.0) apart.0 blocks.0)
    sa owned.0 in
    let tb = owned-same M M' b (all-apart new (text_blocks b) s.heap w.head (found-texts l b held_b) apart_b blocks.1)
    sb owned_b in
    let all = all-join (IsOwnedText M') a (m' ++ b) ta (all-join (IsOwnedText M') m' b texts tb) in
    let good = all-join IsServed a (m' ++ b) sa (all-join IsServed m' b served sb) in
    record {
      change = change;
      gaps = k;
      texts = texts-made new.bytes p qs rest heap (is ∙ ap (λ (xs : List OwnedText). inserted (own_blocks xs u) rest)
          (sym f)) (found-without p.handle _ own l.extents w.none w.head.found) w.head.big s.aligned table fits words
          array (subst (AllByRecursion (IsOwnedText M')) (sym f) all) (subst (AllByRecursion IsServed) (sym f) good);
    }

-- ---- without a place

-- an empty container is a vector of no strings
pub none-stands : {b : List ℕ} {p : Place} → IsContainer b p 16 0 no_backing [] → IsTexts b p [] no_backing
none-stands s = record {
  heap = s.heap;
  words = record
      { link = s.words.link; len_word = s.words.len_word; capacity = s.words.capacity; array = refl; texts = tt };
  aligned = s.aligned;
  room = s.room;
  table = s.table;
  fits = s.fits;
  own = tt;
  held = tt;
  apart = tt;
  others = tt;
}

-- ---- one of many

pub each-at : (P : OwnedText → Type 0) (ps : List OwnedText) (i : ℕ) {q : OwnedText} → AllByRecursion P ps
    → slice_get ps i ≡ Some q → P q
each-at P [] i a e = absurd (cc)
each-at P (x ∷ xs) zero {q} a e = let same : x ≡ q = cc in subst P same a.0
each-at P (x ∷ xs) (suc i) a e = each-at P xs i a.1 e

-- the list from an index on begins with the string there
pub drop-at : (ps : List OwnedText) (i : ℕ) {q : OwnedText} → slice_get ps i ≡ Some q → drop i ps ≡ q ∷ drop (suc i) ps
drop-at [] i e = absurd (cc)
drop-at (x ∷ xs) zero {q} e = let same : x ≡ q = cc in ap (λ (y : OwnedText). y ∷ xs) same
drop-at (x ∷ xs) (suc i) e = drop-at xs i e

pub links-split : (m : Memory) (at : ℕ) (xs ys : List OwnedText) → AreTextLinks m at (xs ++ ys)
    → AreTextLinks m at xs × AreTextLinks m (at + 16 * length xs) ys
links-split m at [] ys l = let e : at ≡ at + 16 * 0 = omega arith in (tt, subst (λ k. AreTextLinks m k ys) e l)
links-split m at (x ∷ xs) ys l =
    let r = links-split m (at + 16) xs ys l.2 in
    let e : at + 16 + 16 * length xs ≡ at + 16 * suc (length xs) = omega arith in
    ((l.0, l.1, r.0), subst (λ k. AreTextLinks m k ys) e r.1)

-- the link and the length of a string are in the array
pub links-at : (m : Memory) (at : ℕ) (ps : List OwnedText) (i : ℕ) {q : OwnedText} → AreTextLinks m at ps
    → slice_get ps i ≡ Some q
    → (link_at m (at + 16 * i) ≡ option_map handle q.extent) × (word_at m (at + 16 * i + 8) ≡ length q.bytes)
links-at m at ps i {q} a e =
    let below = slice_get_within ps i q e in
    let here : at + 16 * length (take i ps) ≡ at + 16 * i = omega (arith, length-take i ps, below) in
    let parts = links-split m at (take i ps) (drop i ps) (subst (AreTextLinks m at) (sym (take-append-drop i ps)) a) in
    let first = subst (AreTextLinks m (at + 16 * i)) (drop-at ps i e)
    (subst (λ k. AreTextLinks m k (drop i ps)) here parts.1) in (first.0, first.1)

-- ---- the element of a text

-- the string at an index: its link and length in the array
pub element-of : (c : WindowState) {p : Place} {ps : List OwnedText} {k g : ℕ} (i : ℕ) {o : Option Extent}
    {q : OwnedText}
    → IsTexts c.bytes p ps (record { capacity = k; extent = o }) → link_at (bytes_of c.bytes) (place_at p) ≡ Some g
    → slice_get ps i ≡ Some q → IsTextElement c.bytes g (16 * i) q
element-of c i {o = None} s link e = none-some s.words.link link
element-of c {ps} {k} i {o = Some x} {q} s link e =
    let g_is = same-some (sym s.words.link ∙ link) in let full = table-full 16 k x s.table in
    let below = slice_get_within ps i q e in let r = links-at (bytes_of c.bytes) (handle x) ps i s.words.array e in
    record {
      heap = s.heap;
      aligned = omega arith;
      room = subst (λ h. IsTrue (has_room (live_of c.bytes) h (16 * i + 16))) g_is
          (found-room (live_of c.bytes) (handle x) (16 * i + 16) x s.own.0 (omega (arith, full, below, s.fits)));
      link = subst (λ h. link_at (bytes_of c.bytes) (h + 16 * i) ≡ option_map handle q.extent) g_is r.0;
      len_word = subst (λ h. word_at (bytes_of c.bytes) (h + 16 * i + 8) ≡ length q.bytes) g_is r.1;
      owned = each-at (IsOwnedText (bytes_of c.bytes)) ps i s.words.texts e;
      held = each-at (IsHeldText (live_of c.bytes)) ps i s.held e;
    }

-- texts have an array
pub no-array : (c : WindowState) {p : Place} {ps : List OwnedText} {k : ℕ} {o : Option Extent} → IsTexts c.bytes p ps
    (record { capacity = k; extent = o }) → link_at (bytes_of c.bytes) (place_at p) ≡ None → length ps ≡ 0
no-array c {o = None} s link = ap length s.words.array
no-array c {o = Some x} s link = none-some link s.words.link

-- ---- its bytes

-- a string without a block is empty
pub empty-text : {b : List ℕ} {array at : ℕ} {bytes : List ℕ} {o : Option Extent} → IsTextElement b array at
    (record { bytes = bytes; extent = o }) → link_at (bytes_of b) (array + at) ≡ None → bytes ≡ []
empty-text {o = None} s link = s.owned
empty-text {o = Some x} s link = none-some link s.link

-- the block of a text has room for it, and begins with it
pub record IsTextBlock (b : List ℕ) (g : ℕ) (bytes : List ℕ) : Type 0 where
  pub room : IsTrue (has_room (live_of b) g (length bytes))
  pub content : HasBytesAt (bytes_of b) g bytes

-- a string with a block: the block holds it
pub text-block : {b : List ℕ} {array at g : ℕ} {bytes : List ℕ} {o : Option Extent} → IsTextElement b array at
    (record { bytes = bytes; extent = o }) → link_at (bytes_of b) (array + at) ≡ Some g → IsTextBlock b g bytes
text-block {o = None} s link = none-some s.link link
text-block {b} {bytes} {o = Some x} s link =
    let g_is = same-some (sym s.link ∙ link) in let full = serves-full x (length bytes) s.held.2 in
    subst (λ h. IsTextBlock b h bytes) g_is
    (record { room = found-room (live_of b) (handle x) (length bytes) x s.held.0 full; content = s.owned })

-- the block of a string is in use
pub block-live : {b : List ℕ} {g : ℕ} {bytes : List ℕ} → IsTextBlock b g bytes → IsTrue (is_live_in (live_of b) g)
block-live {b} {g} {bytes} t = live-if g (length bytes) (live_of b).extents t.room

-- the bytes that are read from the block begin with the string
pub block-front : (c : WindowState) {g : ℕ} {bytes : List ℕ} (out : List ℕ) → IsHeap current c.bytes
    → IsTextBlock c.bytes g bytes → out ≡ payload_at c.bytes (live_of c.bytes) g → take (length bytes) out ≡ bytes
block-front c {g} {bytes} out heap t e =
    let n = length bytes in let r = room_block c g n heap t.room in
    ap (take n) (e ∙ block_payload c g r.block) ∙ take-take n (r.block.tile.len - 16) (drop g c.bytes)
    (omega (arith, r.enough)) ∙ sym (read-part c.bytes g n (omega (arith, r.enough, r.block.inside, r.block.at)))
    ∙ t.content

-- ---- one

found-live-if : (h : ℕ) {x : Extent} (z : Extent) (zs : List Extent)
    → (find (λ (w : Extent). handle w == h) zs ≡ Some x → IsTrue (list_any (λ (w : Extent). handle w == h) zs))
    → (b : Bool) → (handle z == h) ≡ b → cond b (Some z) (find (λ (w : Extent). handle w == h) zs) ≡ Some x
    → IsTrue (list_any (λ (w : Extent). handle w == h) (z ∷ zs))
found-live-if h z zs k true e f = or_left (handle z == h) (list_any (λ (w : Extent). handle w == h) zs) e
found-live-if h z zs k false e f = or_right (handle z == h) (list_any (λ (w : Extent). handle w == h) zs) (k f)

-- a block that is found is in use
pub found-live : (h : ℕ) {x : Extent} (zs : List Extent) → find (λ (w : Extent). handle w == h) zs ≡ Some x
    → IsTrue (list_any (λ (w : Extent). handle w == h) zs)
found-live h [] e = absurd (cc)
found-live h {x} (z ∷ zs) e = found-live-if h z zs (found-live h {x = x} zs) (handle z == h) refl e

-- the block of an element is in use
pub element-live : {b : List ℕ} {array at g : ℕ} {bytes : List ℕ} {o : Option Extent}
    → IsHeldElement b array at (record { bytes = bytes; extent = o }) → link_at (bytes_of b) (array + at) ≡ Some g
    → IsTrue (is_live_in (live_of b) g)
element-live {o = None} s link = none-some s.link link
element-live {b} {o = Some x} s link =
    let g_is = same-some (sym s.link ∙ link) in
    subst (λ k. IsTrue (is_live_in (live_of b) k)) g_is (found-live (handle x) (live_of b).extents s.live.0)

-- an element with a block: the block is released
pub released-some : {old new : WindowState} {array at g : ℕ} {bytes : List ℕ} {o : Option Extent}
    → IsHeldElement old.bytes
    array at (record { bytes = bytes; extent = o }) → link_at (bytes_of old.bytes) (array + at) ≡ Some g
    → Deallocates current old new g → FreesBlocks old new (option_to_list o)
released-some {o = None} s link r = none-some s.link link
released-some {old} {new} {o = Some x} s link r =
    let g_is = same-some (sym link ∙ s.link) in
    record {
      change = exchange-released current old new x 0 0 (subst (Deallocates current old new) g_is r);
      same = λ e. absurd (cc);
    }

-- nothing is exchanged
pub swapped-none : (c : WindowState) → IsHeap current c.bytes → SwapsBlocks c c [] []
swapped-none c heap = exchange-same _ c 0 0 [] (live_of c.bytes).extents heap refl

-- an element without a block has nothing to release
pub released-none : (old : WindowState) {array at : ℕ} {bytes : List ℕ} {o : Option Extent}
    → IsHeldElement old.bytes array at (record { bytes = bytes; extent = o })
    → link_at (bytes_of old.bytes) (array + at) ≡ None → FreesBlocks old old (option_to_list o)
released-none old {o = None} s link = record { change = swapped-none old s.heap; same = λ e. refl }
released-none old {o = Some x} s link = none-some link s.link

-- a property of all blocks of texts holds for the block of one
pub one-of : (P : Extent → Type 0) (ps : List OwnedText) (i : ℕ) {q : OwnedText} → AllByRecursion P (text_blocks ps)
    → slice_get ps i ≡ Some q → AllByRecursion P (option_to_list q.extent)
one-of P [] i a e = absurd (cc)
one-of P (y ∷ ys) zero {q} a e =
    let same : y ≡ q = cc in
    subst (λ (z : OwnedText). AllByRecursion P (option_to_list z.extent)) same
    (all-split P (option_to_list y.extent) (text_blocks ys) a).0
one-of P (y ∷ ys) (suc i) a e = one-of P ys i (all-split P (option_to_list y.extent) (text_blocks ys) a).1 e

-- ---- one after another

-- before the first release nothing is swapped
pub releases-begin : (c : WindowState) {array n : ℕ} {ps : List OwnedText} → AreHeldElements c.bytes array n ps
    → SwapsBlocks c c (text_blocks ps) (text_blocks ps)
releases-begin c {ps} s =
    let i = all-in-use (text_blocks ps) (live_of c.bytes).extents (live-rises (live_of c.bytes) s.heap.proper) s.others
    s.live in
    exchange-same _ c 0 0 (text_blocks ps) (without_all (text_blocks ps) (live_of c.bytes).extents) s.heap i.is

-- an element that was not released yet is still held
pub element-left : {old now : WindowState} {array n : ℕ} (i : ℕ) {ps : List OwnedText} {q : OwnedText}
    → AreHeldElements old.bytes array n ps → slice_get ps i ≡ Some q
    → SwapsBlocks old now (text_blocks ps) (text_blocks (drop i ps)) → IsHeldElement now.bytes array (16 * i) q
element-left {old} {now} {array} {n} i {ps} {q} s e x =
    let gone = text_blocks ps in let come = text_blocks (drop i ps) in let none = none-of array gone s.apart in
    let r = roomy old array (16 * n) s.heap s.room in let at = r.at in let big = r.room in
    let below = slice_get_within ps i q e in let within : i < n = omega (arith, below, s.long) in
    let stays = kept old now array _ gone come _ s.heap x r.found none in
    let first = subst (λ (xs : List OwnedText). AllByRecursion (IsFound (live_of now.bytes).extents) (text_blocks xs))
    (drop-at ps i e) (came-found x) in
    record {
      heap = laid-heap _ _ x.live;
      aligned = omega arith;
      room = found-room (live_of now.bytes) array (16 * i + 16) _
          (kept-found old now 0 0 array _ gone come _ x r.found none) (omega (arith, big, within));
      link = ap (target_of (array + 16 * i)) (word-same _ _ _ _ (array + 16 * i) stays.payload (omega (arith, at))
          (omega (arith, at, big, within))) ∙ (links-at (bytes_of old.bytes) array ps i s.links e).0;
      live = (all-split (IsFound (live_of now.bytes).extents) (option_to_list q.extent) (text_blocks (drop (suc i) ps))
          first).0;
    }

-- one more element is freed
pub releases-next : {old now new : WindowState} (i : ℕ) (ps : List OwnedText) {q : OwnedText} → slice_get ps i ≡ Some q
    → SwapsBlocks old now (text_blocks ps) (text_blocks (drop i ps)) → SwapsBlocks now new (option_to_list q.extent) []
    → SwapsBlocks old new (text_blocks ps) (text_blocks (drop (i + 1) ps))
releases-next {old} {now} {new} i ps {q} e x y =
    let count : suc i ≡ i + 1 = omega arith in let left = text_blocks (drop (suc i) ps) in
    let spread = subst (λ (xs : List OwnedText). SameSpread (text_blocks xs) (option_to_list q.extent ++ left))
    (sym (drop-at ps i e)) (spread-refl (option_to_list q.extent ++ left)) in
    subst (λ k. SwapsBlocks old new (text_blocks ps) (text_blocks (drop k ps))) count
    (exchange-next _ old now new 0 0 _ _ _ left [] spread x y)

-- so far no text has a block, and nothing has changed
pub released-nothing-next : {old now new : WindowState} (ps : List OwnedText) (i : ℕ) {q : OwnedText}
    → slice_get ps i ≡ Some q → text_blocks ps ≡ [] → now ≡ old → (option_to_list q.extent ≡ [] → new ≡ now) → new ≡ old
released-nothing-next ps i {q} e none so_far next =
    let all = subst (AllByRecursion (λ (x : Extent). ⊥)) (sym none) tt in
    next (nothing-of q.extent (one-of (λ (x : Extent). ⊥) ps i all e)) ∙ so_far
  where
    nothing-of : (o : Option Extent) → AllByRecursion (λ (x : Extent). ⊥) (option_to_list o) → option_to_list o ≡ []
    nothing-of None d = refl
    nothing-of (Some x) d = absurd (d.0)

-- ---- the elements of the array of a vector of texts, as a list: in parts, and put elsewhere

-- an element in a block that stays is the same
pub element-in : {m m' : Memory} {x : Extent} (at : ℕ) → SameBlock m m' x → handle x ≤ at → at + 16 ≤ end_of x
    → SameElement m m' at at
element-in {m} {m'} at s f g = record {
  link = ap (target_of at) (word-same m m' _ _ at s.payload f (omega (arith, g)));
  len_word = word-same m m' _ _ (at + 8) s.payload (omega (arith, f)) (omega (arith, g));
}

same-at : {m m' : Memory} {a b at to : ℕ} → a ≡ at → b ≡ to → SameElement m m' a b → SameElement m m' at to
same-at {m} {m'} {a} {b} {at} {to} e f s = subst (λ k. SameElement m m' k to) e (subst (SameElement m m' a) f s)

later : (m m' : Memory) (a b n : ℕ) → SameElements m m' a b (suc n) → SameElements m m' (a + 16) (b + 16) n
later m m' a b n s j f = same-at (omega arith) (omega arith) (s (suc j) (omega arith))

-- elements that are put elsewhere
pub links-moved : (m m' : Memory) (a b : ℕ) (ps : List OwnedText) → AreTextLinks m a ps
    → SameElements m m' a b (length ps) → AreTextLinks m' b ps
links-moved m m' a b [] l s = tt
links-moved m m' a b (q ∷ qs) l s =
    let e : SameElement m m' a b = same-at (omega arith) (omega arith) (s 0 (omega arith)) in
    (e.link ∙ l.0, e.len_word ∙ l.1, links-moved m m' (a + 16) (b + 16) qs l.2 (later m m' a b (length qs) s))

-- the links of two runs of strings follow each other
pub links-join : (m : Memory) (at : ℕ) (xs ys : List OwnedText) → AreTextLinks m at xs
    → AreTextLinks m (at + 16 * length xs) ys → AreTextLinks m at (xs ++ ys)
links-join m at [] ys l r = let e : at + 16 * 0 ≡ at = omega arith in subst (λ k. AreTextLinks m k ys) e r
links-join m at (x ∷ xs) ys l r =
    let e : at + 16 * suc (length xs) ≡ at + 16 + 16 * length xs = omega arith in
    (l.0, l.1, links-join m (at + 16) xs ys l.2 (subst (λ k. AreTextLinks m k ys) e r))

-- the elements between the first i and those from j on are replaced
pub links-edited : {m m' : Memory} (g : ℕ) {at to n : ℕ} (ps : List OwnedText) (i j : ℕ) (zs : List OwnedText)
    → i ≤ length ps → j ≤ length ps → at ≡ g + 16 * j → to ≡ g + 16 * i + 16 * length zs → n ≡ length ps - j
    → AreTextLinks m g ps → SameElements m m' g g i → AreTextLinks m' (g + 16 * i) zs → SameElements m m' at to n
    → AreTextLinks m' g (take i ps ++ (zs ++ drop j ps))
links-edited {m} {m'} g {at} {to} {n} ps i j zs f h a b c l front mid back =
    let fl : length (take i ps) ≡ i = omega (arith, length-take i ps, f) in
    let bl : n ≡ length (drop j ps) = omega (arith, length-drop j ps, c) in
    let here : g + 16 * length (take j ps) ≡ at = omega (arith, length-take j ps, h, a) in
    let parts = λ (k : ℕ). links-split m g (take k ps) (drop k ps)
    (subst (AreTextLinks m g) (sym (take-append-drop k ps)) l) in
    let first = links-moved m m' g g (take i ps) (parts i).0 (subst (SameElements m m' g g) (sym fl) front) in
    let behind : AreTextLinks m at (drop j ps) = subst (λ k. AreTextLinks m k (drop j ps)) here (parts j).1 in
    let last = links-moved m m' at to (drop j ps) behind (subst (SameElements m m' at to) bl back) in
    links-join m' g (take i ps) (zs ++ drop j ps) first (subst (λ k. AreTextLinks m' (g + 16 * k) (zs ++ drop j ps))
    (sym fl) (links-join m' (g + 16 * i) zs (drop j ps) mid (subst (λ k. AreTextLinks m' k (drop j ps)) b last)))

-- ---- it begins

-- a vector of strings, whose middle strings will be exchanged
pub run-begin : (c : WindowState) {p : Place} {ps : List OwnedText} (a m b : List OwnedText) {t : BackingArray}
    → ps ≡ a ++ (m ++ b) → IsTexts c.bytes p ps t
    → IsRun c c p (option_to_list t.extent ++ text_blocks m) (option_to_list t.extent ++ text_blocks m) (length ps) t
run-begin c {p} a m b {t} e s =
    let v : IsTexts c.bytes p (a ++ (m ++ b)) t = subst (λ (xs : List OwnedText). IsTexts c.bytes p xs t) e s in
    record {
      change = exchange-same _ c (place_at p) 24 (option_to_list t.extent ++ text_blocks m)
          (inserted (text_blocks a ++ text_blocks b)
          (without_all (own_blocks (a ++ (m ++ b)) t) (live_of c.bytes).extents)) s.heap (own-parts c a m b v);
      heap = s.heap;
      head = room-head c p s.heap s.room;
      words = record { link = s.words.link; len_word = s.words.len_word; capacity = s.words.capacity };
    }

-- ---- the block of an array, and the targets of its links

-- an element of a run that is held is held
pub held-element : (c : WindowState) {array n : ℕ} (i : ℕ) {ps : List OwnedText} {q : OwnedText}
    → AreHeldElements c.bytes array n ps → slice_get ps i ≡ Some q → IsHeldElement c.bytes array (16 * i) q
held-element c {array} {n} i {ps} {q} s e =
    let r = roomy c array (16 * n) s.heap s.room in let big = r.room in let below = slice_get_within ps i q e in
    record {
      heap = s.heap;
      aligned = omega arith;
      room = found-room (live_of c.bytes) array (16 * i + 16) _ r.found (omega (arith, big, below, s.long));
      link = (links-at (bytes_of c.bytes) array ps i s.links e).0;
      live = one-of (IsFound (live_of c.bytes).extents) ps i s.live e;
    }

-- ---- links lead to multiples of 16

-- a block begins at a multiple of 16
pub even-block : (l : LiveSet) (o : Option Extent) → IsTrue (is_proper l)
    → AllByRecursion (IsFound l.extents) (option_to_list o) → IfSome (option_map handle o) (λ target. target % 16 ≡ 0)
even-block l None p f = tt
even-block l (Some x) p f =
    let s = (in_use-all IsSound l (handle x) x p f.0 (live-sound l p)).0 in omega (arith, s.aligned)

-- the links of elements that are held are multiples of 16
pub even-held : (c : WindowState) {array n : ℕ} {ps : List OwnedText} → AreHeldElements c.bytes array n ps
    → AreEvenLinks (bytes_of c.bytes) array n
even-held c {array} {ps} s j f =
    let q = has-element ps j (omega (arith, f, s.long)) in
    subst (λ o. IfSome o (λ target. target % 16 ≡ 0)) (sym (links-at (bytes_of c.bytes) array ps j s.links q.1).0)
    (even-block (live_of c.bytes) q.0.extent s.heap.proper (one-of (IsFound (live_of c.bytes).extents) ps j s.live q.1))

-- a part of links that are multiples of 16
pub even-from : (m : Memory) (a b i k n : ℕ) → AreEvenLinks m a n → b ≡ a + 16 * i → i + k ≤ n → AreEvenLinks m b k
even-from m a b i k n e is f j g =
    let at : a + 16 * (i + j) ≡ b + 16 * j = omega (arith, is) in
    subst (λ w. IfSome (link_at m w) (λ target. target % 16 ≡ 0)) at (e (i + j) (omega arith))

-- ---- the array, once other blocks are exchanged

-- the array is in use, with room for its elements
pub record IsArrayLeft (c : WindowState) (array n : ℕ) : Type 0 where
  pub heap : IsHeap current c.bytes
  pub room : IsTrue (has_room (live_of c.bytes) array (16 * n))
  pub even : AreEvenLinks (bytes_of c.bytes) array n

-- the array stays after other blocks were exchanged
pub array-left : {old new : WindowState} {array n : ℕ} {ps : List OwnedText} {gone come : List Extent}
    → AreHeldElements old.bytes array n ps → SwapsBlocks old new gone come → IsNone array gone → IsArrayLeft new array n
array-left {old} {new} {array} {n} {gone} {come} s x none =
    let r = roomy old array (16 * n) s.heap s.room in
    let stays = kept old new array _ gone come _ s.heap x r.found none in let even = even-held old s in
    record {
      heap = laid-heap _ _ x.live;
      room = found-room (live_of new.bytes) array (16 * n) _
          (kept-found old new 0 0 array _ gone come _ x r.found none) r.room;
      even = λ j f. subst (λ o. IfSome o (λ target. target % 16 ≡ 0)) (sym (element-in (array + 16 * j) stays
          (omega (arith, r.at)) (omega (arith, r.at, r.room, f))).link) (even j f);
    }

-- ---- elements of the array of a vector of texts, put elsewhere one after another

-- an element outside a write
pub element-beside : {m m' : Memory} {from n : ℕ} (at : ℕ)
    → SameBytesExcept m m' from n → (at + 16 ≤ from) ⊎ (from + n ≤ at) → SameElement m m' at at
element-beside {m} {m'} {from} {n} at s (inl f) = record {
  link = SameBytesExcept-link m m' from n at s (inl (omega arith));
  len_word = SameBytesExcept-word m m' from n (at + 8) s (inl (omega arith));
}
element-beside {m} {m'} {from} {n} at s (inr f) = record {
  link = SameBytesExcept-link m m' from n at s (inr (omega arith));
  len_word = SameBytesExcept-word m m' from n (at + 8) s (inr (omega arith));
}

-- an element that is moved twice is moved
pub element-trans : {m m' m'' : Memory} {a b c : ℕ} → SameElement m m' a b → SameElement m' m'' b c
    → SameElement m m'' a c
element-trans p q = record { link = q.link ∙ p.link; len_word = q.len_word ∙ p.len_word }

-- ---- the first one first

-- an element that is not moved yet is unchanged
pub source-stays : {old now : WindowState} (a : ℕ) {b : ℕ} (i n : ℕ) → ChangesBytes current old now b (16 * i) → (b ≤ a)
    ⊎ (a + 16 * n ≤ b) → i < n → SameElement (bytes_of old.bytes) (bytes_of now.bytes) (a + 16 * i) (a + 16 * i)
source-stays a i n c (inl f) below = element-beside (a + 16 * i) c.rest (inr (omega arith))
source-stays a i n c (inr f) below = element-beside (a + 16 * i) c.rest (inl (omega arith))

-- one more element is moved down: the bytes that changed
pub carried-changed : {old now new : WindowState} {b to : ℕ} (i : ℕ) → ChangesBytes current old now b (16 * i)
    → to ≡ b + 16 * i → ChangesBytes current now new to 16 → ChangesBytes current old new b (16 * (i + 1))
carried-changed {b} i c e d =
    changed-both b (16 * (i + 1)) c d (omega arith) (omega arith) (omega (arith, e)) (omega (arith, e))

-- one more element is copied to its place
one-more : {m m' m'' : Memory} {at to : ℕ} (a b k j : ℕ)
    → (j ≢ k → SameElement m m' (a + 16 * j) (b + 16 * j)) → SameBytesExcept m' m'' to 16 → SameElement m m'' at to
    → at ≡ a + 16 * k → to ≡ b + 16 * k → (j < k) ⊎ ((k < j) ⊎ (j ≡ k)) → SameElement m m'' (a + 16 * j) (b + 16 * j)
one-more a b k j s d e from is (inl f) = element-trans (s (λ g. omega (arith, f, g)))
    (element-beside (b + 16 * j) d (inl (omega (arith, f, is))))
one-more a b k j s d e from is (inr (inl f)) = element-trans (s (λ g. omega (arith, f, g)))
    (element-beside (b + 16 * j) d (inr (omega (arith, f, is))))
one-more a b k j s d e from is (inr (inr f)) = same-at (omega (arith, f, from)) (omega (arith, f, is)) e

sides : (j k : ℕ) → (j < k) ⊎ ((k < j) ⊎ (j ≡ k))
sides j k = grind arith

-- one more element is moved down: the elements are equal
pub carried-next : {old now new : WindowState} {at to : ℕ} (a : ℕ) {b : ℕ} (i n : ℕ) → SameElements (bytes_of old.bytes)
    (bytes_of now.bytes) a b i → ChangesBytes current old now b (16 * i) → (b ≤ a) ⊎ (a + 16 * n ≤ b) → i < n
    → at ≡ a + 16 * i → to ≡ b + 16 * i → ChangesBytes current now new to 16 → SameElement (bytes_of now.bytes)
    (bytes_of new.bytes) at to → SameElements (bytes_of old.bytes) (bytes_of new.bytes) a b (i + 1)
carried-next a {b} i n s c apart below from is d e j under = one-more a b i j (λ g. s j (omega (arith, g, under)))
    d.rest (element-trans (same-at (sym from) (sym from) (source-stays a i n c apart below)) e) from is (sides j i)

-- an element that stays has an even link still
pub even-now : {m m' : Memory} (a n i : ℕ) → AreEvenLinks m a n → i < n → SameElement m m' (a + 16 * i) (a + 16 * i)
    → IfSome (link_at m' (a + 16 * i)) (λ target. target % 16 ≡ 0)
even-now a n i e f s = subst (λ o. IfSome o (λ target. target % 16 ≡ 0)) (sym s.link) (e i f)

-- ---- the last one first

-- the elements from k on have moved up
abbrev pub AreUp : Memory → Memory → ℕ → ℕ → ℕ → Type 0
AreUp m m' a k n = (j : ℕ) → k ≤ j → j < n → SameElement m m' (a + 16 * j) (a + 16 + 16 * j)

-- an element that is not moved up yet is unchanged
pub up-source : {old now : WindowState} (a k i n : ℕ) → k + (i + 1) ≡ n
    → ChangesBytes current old now (a + 16 + 16 * (n - i))
    (16 * i) → SameElement (bytes_of old.bytes) (bytes_of now.bytes) (a + 16 * k) (a + 16 * k)
up-source a k i n e c = element-beside (a + 16 * k) c.rest (inl (omega arith))

-- one more element is moved up: the bytes that changed
pub up-changed : {old now new : WindowState} {to : ℕ} (a k i n : ℕ) → k + (i + 1) ≡ n
    → ChangesBytes current old now (a + 16 + 16 * (n - i)) (16 * i) → to ≡ a + 16 + 16 * k
    → ChangesBytes current now new to 16 → ChangesBytes current old new (a + 16 + 16 * (n - (i + 1))) (16 * (i + 1))
up-changed a k i n e c is d = changed-both (a + 16 + 16 * (n - (i + 1))) (16 * (i + 1)) c d (omega arith) (omega arith)
    (omega (arith, e, is)) (omega (arith, e, is))

-- one more element is moved up: the elements are equal
pub up-next : {old now new : WindowState} {at to : ℕ} (a k i n : ℕ) → k + (i + 1) ≡ n → AreUp (bytes_of old.bytes)
    (bytes_of now.bytes) a (n - i) n → ChangesBytes current old now (a + 16 + 16 * (n - i)) (16 * i) → at ≡ a + 16 * k
    → to ≡ a + 16 + 16 * k → ChangesBytes current now new to 16
    → SameElement (bytes_of now.bytes) (bytes_of new.bytes)
    at to → AreUp (bytes_of old.bytes) (bytes_of new.bytes) a (n - (i + 1)) n
up-next a k i n is s c from to d e j low below = one-more a (a + 16) k j (λ g. s j (omega (arith, g, is, low)) below)
    d.rest (element-trans (same-at (sym from) (sym from) (up-source a k i n is c)) e) from to (sides j k)
