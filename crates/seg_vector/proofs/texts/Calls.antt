-- A vector of texts without texts, with one less or another one, or cut; and a text in a block of its own.
use Rattle.seg_vector.proofs.Common as W
use W.{◌≡◌, bytes_of, target_of, ChangesBytes, SameBlock, laid-heap, word-same, SwapsBlocks, AreDistinct, IsStorage}
use W.{OwnedText, ◌≢◌, refl, sym, Some, None, List, ◌++◌, arith, take, drop, zero, SameBytes, read, BackingArray, kept}
use W.{place, Place, IsContainer, ap, ◌∙◌, ℕ, ◌+◌, ◌*◌, ◌∷◌, inl, inr, ◌⊎◌, suc, ◌-◌, ◌<◌, ◌≤◌, ◌%◌, ⊤, WindowState}
use W.{HasBytesAt, [], subst, option_map, slice_set, SameSpread, found-room, last-first, kept-found, IsStorageBlock}
use W.{ReplacesTexts, AreInArray, Option, take-append-drop, slice_get_within, shorter-IsShorter, still_allocated}
use W.{SameBlock-trans, AreHeldElements, append-nil, slice_get, length-take, AllocatesOk, spread-refl, FreesStorageOk}
use W.{text_blocks, placed_text, IsOwnedText, length, IsTrue, remove, IfSome, eq-eqb, ne_eqb, Memory, Extent, handle}
use W.{end_of, IsHeap, IsNone, shorter, IsTexts, length-append, option_to_list, AllByRecursion, allocated-room}
use W.{exchange-taken, SameElements, nil_from_length, if◌then◌else◌, append_assoc, length-drop, exchange-next}
use W.{place-serves, IsHeldElement, PlacesTextOk, AreTextLinks, word_at, FreesBlocks, KeepsGaps, ExchangesBlocks}
use W.{exchanged-live, gaps-payload, gaps-then, gaps-trans, current, link_at, LiveSet, live_of, no_backing, has_backing}
use W.{IsFound, Storage, ShrinksStorageOk, place_at, IsServed}
use Rattle.seg_vector.proofs.storage.HeadAndBlock.{AreHeadWords, IsHead, IsRun, beside-head, block-written, head-kept}
use Rattle.seg_vector.proofs.storage.HeadAndBlock.{head-room}
use Rattle.seg_vector.proofs.storage.HeadAndBlock.{head-wider, len-written, none-some, room-head, run-found, run-headed}
use Rattle.seg_vector.proofs.storage.HeadAndBlock.{run-swapped}
use Rattle.seg_vector.proofs.storage.HeadAndBlock.{head-gaps, same-some, table, table-full, words-kept, all-as}
use Rattle.seg_vector.proofs.storage.HeadAndBlock.{came-found, came-others}
use Rattle.seg_vector.proofs.storage.HeadAndBlock.{all-kept, all-found-kept, none-of-none, spread-nil}
use Rattle.seg_vector.proofs.texts.Blocks.{none-stands, IsArrayLeft, all-split, array-left, drop-at, element-beside}
use Rattle.seg_vector.proofs.texts.Blocks.{element-in, element-trans, even-block, found-texts, held-element}
use Rattle.seg_vector.proofs.texts.Blocks.{links-edited}
use Rattle.seg_vector.proofs.texts.Blocks.{links-moved, no-array, none-of, of-none, one-of, run-begin, swapped-none}
use Rattle.seg_vector.proofs.texts.Blocks.{behind-array, fresh-none, no-extent, same-extent, texts-between, held-texts}
use Rattle.seg_vector.proofs.texts.Blocks.{served-texts, owned-same, same-loose}
use Rattle.seg_vector.proofs.{storage.Shrinking.cut-some, storage.TypedVectors.set-pieces}
use Rattle.raw_region.proofs.Bytes.{length-read}
use Rattle.best_fit.specs.Table.{shrunk_backing}

-- ---- the elements of the array

-- the elements of a vector of strings are held by its array
pub held-elements : {b : List ℕ} {p : Place} {ps : List OwnedText} {c g : ℕ} (n : ℕ) {o : Option Extent}
    → IsTexts b p ps (table c o) → link_at (bytes_of b) (place_at p) ≡ Some g → n ≡ length ps → AreHeldElements b g n ps
held-elements n {o = None} s link e = none-some s.words.link link
held-elements {b} {ps} {c} n {o = Some x} s link e =
    let g_is = same-some (sym s.words.link ∙ link) in let full = table-full 16 c x s.table in
    subst (λ h. AreHeldElements b h n ps) g_is (record {
      heap = s.heap;
      room = found-room (live_of b) (handle x) (16 * n) x s.own.0 (omega (arith, full, s.fits, e));
      long = sym e;
      links = s.words.array;
      live = found-texts (live_of b) ps s.held;
      apart = of-none (handle x) (text_blocks ps) s.others.0;
      others = s.others.1;
    })

-- a vector without storage has no strings to release
pub released-nothing : (c : WindowState) {p : Place} {ps : List OwnedText} {t : BackingArray} → IsTexts c.bytes p ps t
    → link_at (bytes_of c.bytes) (place_at p) ≡ None → FreesBlocks c c (text_blocks ps)
released-nothing c {ps} s link =
    let none = nil_from_length ps (no-array c s link) in
    subst (λ (qs : List OwnedText). FreesBlocks c c (text_blocks qs)) (sym none)
    (record { change = swapped-none c s.heap; same = λ e. refl })

-- ---- no text

pub no-links : (m : Memory) (c : ℕ) (o : Option Extent) → AreInArray m (table c o) []
no-links m c None = refl
no-links m c (Some x) = tt

-- strings released and the length made 0: the vector is empty
pub cleared : {old mid new : WindowState} {p : Place} {ps : List OwnedText} {t : BackingArray}
    → IsTexts old.bytes p ps t → FreesBlocks old mid (text_blocks ps)
    → ChangesBytes current mid new (p.handle + (p.at + 8)) 8 → word_at (bytes_of new.bytes) (p.handle + (p.at + 8)) ≡ 0
    → ReplacesTexts old new p (option_to_list t.extent ++ text_blocks ps) (option_to_list t.extent) [] t
cleared {old} {mid} {new} {p} {ps} {t} s r c word =
    let x = r.change in let wide = head-wider p c (omega arith) (omega arith) in let arr = option_to_list t.extent
    in let tb = text_blocks ps in
    let r0 = run-begin old [] ps [] (sym (append-nil ps)) s in
    let r1 = run-swapped arr (last-first arr tb) r0 x (none-of p.handle tb s.apart) in
    let r2 = run-headed r1 wide (len-written 0 (omega arith) c.rest word r1.words) in
    texts-between [] [] ps [] [] (sym (append-nil ps)) refl refl (sym (append-nil arr)) s r2.change s.table
    (omega arith) r2.words (no-links (bytes_of new.bytes) t.capacity t.extent) tt tt (λ e. subst (λ (c : WindowState).
    KeepsGaps c new) (r.same (behind-array t.extent (e ∙ sym (append-nil arr)))) (head-gaps p (head-room r1.head) wide))

-- ---- no array

given-up-gaps : {old mid new : WindowState} {p : Place} (o : Option Extent) (blocks : List Extent) {c : ℕ}
    → ReplacesTexts old mid p (option_to_list o ++ blocks) (option_to_list o) [] (table c o)
    → FreesStorageOk mid new p 16 (table c o) → option_to_list o ++ blocks ≡ [] → KeepsGaps old new
given-up-gaps {old} {mid} {new} {p} None blocks x g e =
    let change = subst (λ (xs : List Extent). ExchangesBlocks current old mid (place_at p) 24 xs []) e x.change in
    gaps-trans old mid new (exchanged-live old mid (place_at p) 24 [] [] current change) (x.gaps e) (g.gaps refl)
given-up-gaps (Some y) blocks x g e = absurd (cc)

-- strings and storage released: the vector has nothing
pub given-up-all : {old mid new : WindowState} {p : Place} {o : Option Extent} (blocks : List Extent) {c : ℕ}
    → ReplacesTexts old mid p (option_to_list o ++ blocks) (option_to_list o) [] (table c o)
    → FreesStorageOk mid new p 16 (table c o) → ReplacesTexts old new p (option_to_list o ++ blocks) [] [] no_backing
given-up-all {old} {mid} {new} {o = o} blocks x g =
    let arr = option_to_list o in let gone = arr ++ blocks in
    record {
      change = exchange-next _ old mid new _ 24 gone arr arr [] [] (spread-nil arr) x.change g.change;
      gaps = given-up-gaps o blocks x g;
      texts = none-stands g.stands;
    }

-- ---- the word

-- the head of the vector stays while its strings are released
pub head-after : {old mid : WindowState} {p : Place} {ps : List OwnedText} {t : BackingArray} → IsTexts old.bytes p ps t
    → SwapsBlocks old mid (text_blocks ps) [] → IsHead mid p
head-after {old} {p} {ps} {t} s x =
    head-kept (room-head old p s.heap s.room) x (none-of p.handle (text_blocks ps) s.apart)

-- ---- the list around one text

pub around : (ps : List OwnedText) (i : ℕ) {q : OwnedText} → slice_get ps i ≡ Some q
    → ps ≡ take i ps ++ (q ∷ drop (suc i) ps)
around ps i e = sym (take-append-drop i ps) ∙ ap (λ (ys : List OwnedText). take i ps ++ ys) (drop-at ps i e)

-- its block is not the array's, nor that of the head
pub record IsApartFrom (p : Place) (x : Extent) (q : OwnedText) : Type 0 where
  pub array : IsNone (handle x) (option_to_list q.extent)
  pub head : IsNone p.handle (option_to_list q.extent)

pub text-apart : {b : List ℕ} {p : Place} {ps : List OwnedText} {c : ℕ} (i : ℕ) {x : Extent} {q : OwnedText}
    → IsTexts b p ps (table c (Some x)) → slice_get ps i ≡ Some q → IsApartFrom p x q
text-apart {p} {ps} i {x} s e = record {
  array = one-of (λ (y : Extent). handle x ≢ handle y) ps i s.others.0 e;
  head = one-of (λ (y : Extent). p.handle ≢ handle y) ps i (none-of p.handle (text_blocks ps) s.apart) e;
}

-- ---- the elements afterwards

-- three steps: of the first and the last the array is kept, and in the second elements move from `a` to `b`
pub elements-through : {m0 m1 m2 m3 : Memory} {x : Extent} (a b n : ℕ) → SameBlock m0 m1 x
    → SameElements m1 m2 a b n → SameBlock m2 m3 x → handle x ≤ a → a + 16 * n ≤ end_of x → handle x ≤ b
    → b + 16 * n ≤ end_of x → SameElements m0 m3 a b n
elements-through a b n k1 s k2 f1 f2 g1 g2 j h = element-trans
    (element-trans (element-in (a + 16 * j) k1 (omega (arith, f1)) (omega (arith, f2, h))) (s j h))
    (element-in (b + 16 * j) k2 (omega (arith, g1)) (omega (arith, g2, h)))

-- elements outside a range that is written stay
pub elements-beside : {old new : WindowState} {from k : ℕ} (a n : ℕ) → ChangesBytes current old new from k
    → (a + 16 * n ≤ from) ⊎ (from + k ≤ a) → SameElements (bytes_of old.bytes) (bytes_of new.bytes) a a n
elements-beside a n c (inl f) j h = element-beside (a + 16 * j) c.rest (inl (omega (arith, f, h)))
elements-beside a n c (inr f) j h = element-beside (a + 16 * j) c.rest (inr (omega (arith, f)))

-- ---- the vector afterwards

pub removed-length : (ps : List OwnedText) (i : ℕ) {q : OwnedText} → slice_get ps i ≡ Some q
    → length (remove ps i) ≡ length ps - 1
removed-length ps i {q} e = let below : i < length ps = slice_get_within ps i q e in omega
    (arith, length-append (take i ps) (drop (suc i) ps), length-take i ps, length-drop (suc i) ps, below)

-- a string released and the others moved down: it is erased
pub erased-by : {s0 s1 s2 s3 : WindowState} {p : Place} {ps : List OwnedText} {c g : ℕ} (i n : ℕ) {o : Option Extent}
    {q : OwnedText} → IsTexts s0.bytes p ps (table c o) → slice_get ps i ≡ Some q
    → link_at (bytes_of s0.bytes) (place_at p) ≡ Some g → n ≡ length ps
    → FreesBlocks s0 s1 (option_to_list q.extent) → ChangesBytes current s1 s2 (g + 16 * i) (16 * (n - i - 1))
    → SameElements (bytes_of s1.bytes) (bytes_of s2.bytes) (g + (16 * i + 16)) (g + 16 * i) (n - i - 1)
    → ChangesBytes current s2 s3 (p.handle + (p.at + 8)) 8 → word_at (bytes_of s3.bytes) (p.handle + (p.at + 8)) ≡ n - 1
    → ReplacesTexts s0 s3 p (option_to_list o ++ option_to_list q.extent) (option_to_list o) (remove ps i) (table c o)
erased-by i n {o = None} s e link n_is y c2 m2 c3 word = none-some s.words.link link
erased-by {s0} {s1} {s2} {s3} {p} {ps} {c} {g} i n {o = Some x} {q} s e link n_is y c2 m2 c3 word =
    let x1 = y.change in let t = table c (Some x) in let eq = option_to_list q.extent in
    let g_is = same-some (sym link ∙ s.words.link) in let below = slice_get_within ps i q e in
    let fits = s.fits in let full = table-full 16 c x s.table in let apart = text-apart i s e in
    let one = append-nil eq in
    let r0 = subst (λ (xs : List Extent). IsRun s0 s0 p (x ∷ xs) (x ∷ xs) (length ps) t) one
    (run-begin s0 (take i ps) (q ∷ []) (drop (suc i) ps) (around ps i e) s) in
    let r1 = run-swapped (x ∷ []) (last-first (x ∷ []) eq) r0 x1 apart.head in
    let x2 = block-written (16 * c) r1.heap (run-found r1).0 c2 (omega (arith, g_is))
    (omega (arith, g_is, n_is, below, fits)) full in
    let other : p.handle ≢ handle x = λ f. s.own.1 (sym f) in
    let r2 = run-swapped [] (spread-refl (x ∷ [])) r1 x2 (other, tt) in
    let c3' = head-wider p c3 (omega arith) (omega arith) in
    let r3 = run-headed r2 c3' (len-written (n - 1) (omega arith) c3.rest word r2.words) in
    let k1 = kept s0 s1 (handle x) x eq [] _ s.heap x1 s.own.0 apart.array in
    let k3 = beside-head (handle x) r2.heap r2.head c3' (run-found r2).0 other in
    let front = elements-through g g i k1 (elements-beside g i c2 (inl (omega arith))) k3 (omega (arith, g_is))
    (omega (arith, g_is, full, fits, below)) (omega (arith, g_is)) (omega (arith, g_is, full, fits, below)) in
    let back = elements-through (g + (16 * i + 16)) (g + 16 * i) (n - i - 1) k1 m2 k3 (omega (arith, g_is))
    (omega (arith, g_is, n_is, full, fits, below)) (omega (arith, g_is))
    (omega (arith, g_is, n_is, full, fits, below)) in
    let links = links-edited g ps i (suc i) [] (omega (arith, below)) (omega (arith, below)) (omega arith)
    (omega arith) (omega (arith, n_is)) (subst (λ h. AreTextLinks (bytes_of s0.bytes) h ps) (sym g_is) s.words.array)
    front tt back in
    let len : n - 1 ≡ length (remove ps i) = omega (arith, n_is, removed-length ps i e) in
    texts-between (remove ps i) (take i ps) (q ∷ []) [] (drop (suc i) ps) {u = t} (around ps i e) refl
    (ap (λ (xs : List Extent). x ∷ xs) (sym one)) refl s r3.change s.table (omega (arith, len, n_is, fits))
    (subst (λ k. AreHeadWords (bytes_of s3.bytes) (place_at p) k t) len r3.words)
    (subst (λ h. AreTextLinks (bytes_of s3.bytes) h (remove ps i)) g_is links) tt tt (λ f. subst (λ (c : WindowState).
    KeepsGaps c s3) (y.same (behind-array (Some x) (f ∙ sym (append-nil (x ∷ []))))) (gaps-then s1 s2 s3 (g + 16 * i)
    (16 * (n - i - 1)) c2 (gaps-payload s1 s2 (handle x) (16 * c) (g + 16 * i) (16 * (n - i - 1)) c2
    (found-room (live_of s1.bytes) (handle x) (16 * c) x (run-found r1).0 full) (omega (arith, g_is))
    (omega (arith, g_is, n_is, below, fits))) (head-gaps p (head-room r2.head) c3')))

-- ---- once the block of the text is released

pub record IsLeft (s0 s1 : WindowState) (p : Place) (ps : List OwnedText) (g i : ℕ) (q : OwnedText) : Type 0 where
  pub found : slice_get ps i ≡ Some q
  pub element : IsHeldElement s0.bytes g (16 * i) q
  pub after : SwapsBlocks s0 s1 (option_to_list q.extent) [] → IsArrayLeft s1 g (length ps) × IsHead s1 p

-- the vector after the string's block is freed
pub left : (s0 s1 : WindowState) {p : Place} {ps : List OwnedText} {c g : ℕ} (i : ℕ) {o : Option Extent} {q : OwnedText}
    → IsTexts s0.bytes p ps (table c o) → slice_get ps i ≡ Some q → link_at (bytes_of s0.bytes) (place_at p) ≡ Some g
    → IsLeft s0 s1 p ps g i q
left s0 s1 i {o = None} s e link = none-some s.words.link link
left s0 s1 {p} {ps} {g} i {o = Some x} {q} s e link =
    let g_is = same-some (sym s.words.link ∙ link) in let apart = text-apart i s e in
    let held = held-elements (length ps) s link refl in
    record {
      found = e;
      element = held-element s0 i held e;
      after = λ y. (
        array-left held y (subst (λ k. IsNone k (option_to_list q.extent)) g_is apart.array),
        head-kept (room-head s0 p s.heap s.room) y apart.head,
      );
    }

-- ---- the array as bytes

-- the bytes of the array of a vector of strings
abbrev pub raw : Memory → ℕ → Option Extent → List ℕ
raw m n None = []
raw m n (Some x) = read m (handle x) (16 * n)

raw-storage : (m : Memory) (n c : ℕ) (o : Option Extent) → IsStorage m (table c o) (raw m n o)
raw-storage m n c None = refl
raw-storage m n c (Some x) = ap (read m (handle x)) (length-read m (handle x) (16 * n))

raw-long : (m : Memory) (c : ℕ) (o : Option Extent) (ps : List OwnedText) → AreInArray m (table c o) ps
    → length (raw m (length ps) o) ≡ 16 * length ps
raw-long m c None ps a = let none : length ps ≡ 0 = ap length a in omega (arith, none)
raw-long m c (Some x) ps a = length-read m (handle x) (16 * length ps)

-- a vector of strings is a container of 16 bytes each
pub texts-stand : {b : List ℕ} {p : Place} {ps : List OwnedText} {t : BackingArray} → IsTexts b p ps t
    → IsContainer b p 16 (length ps) t (raw (bytes_of b) (length ps) t.extent)
texts-stand {b} {ps} {t} s = record {
  heap = s.heap;
  words = record {
    link = s.words.link;
    len_word = s.words.len_word;
    capacity = s.words.capacity;
    storage = raw-storage (bytes_of b) (length ps) t.capacity t.extent;
  };
  aligned = s.aligned;
  room = s.room;
  table = s.table;
  fits = s.fits;
  long = raw-long (bytes_of b) t.capacity t.extent ps s.words.array;
  own = s.own;
}

raw-none : (m : Memory) (o : Option Extent) → raw m 0 o ≡ []
raw-none m None = refl
raw-none m (Some x) = refl

-- a vector of no strings is an empty container
pub stands-none : {b : List ℕ} {p : Place} {t : BackingArray} → IsTexts b p [] t → IsContainer b p 16 0 t []
stands-none {b} {p} {t} s = subst (λ (xs : List ℕ). IsContainer b p 16 0 t xs) (raw-none (bytes_of b) t.extent)
    (texts-stand s)

-- ---- the same bytes are the same elements

read-at : (m m' : Memory) (at n j : ℕ) → read m' at n ≡ read m at n → j < n → m' (at + j) ≡ m (at + j)
read-at m m' at zero j e f = absurd (omega arith)
read-at m m' at (suc n) zero e f =
    let here : at ≡ at + 0 = omega arith in let first : m' at ≡ m at = cc in
    subst (λ k. m' k ≡ m k) here first
read-at m m' at (suc n) (suc j) e f =
    let there : at + 1 + j ≡ at + suc j = omega arith in let rest : read m' (at + 1) n ≡ read m (at + 1) n = cc in
    subst (λ k. m' k ≡ m k) there (read-at m m' (at + 1) n j rest (omega arith))

read-spread : (m m' : Memory) (at n : ℕ) → read m' at n ≡ read m at n → SameBytes m m' at (at + n)
read-spread m m' at n e = record {
  at = λ k f g. let is : at + (k - at) ≡ k = omega arith in subst (λ w. m' w ≡ m w) is
      (read-at m m' at n (k - at) e (omega arith));
}

pub same-elements : {m m' : Memory} {at : ℕ} (n : ℕ) → SameBytes m m' at (at + 16 * n) → SameElements m m' at at n
same-elements {m} {m'} {at} n s j f = record {
  link = ap (target_of (at + 16 * j)) (word-same m m' at _ (at + 16 * j) s (omega arith) (omega arith));
  len_word = word-same m m' at _ (at + 16 * j + 8) s (omega arith) (omega arith);
}

-- ---- the vector afterwards

cut-links : (l : LiveSet) (m m' : Memory) (ps : List OwnedText) (c : ℕ) (o : Option Extent)
    → AreInArray m (table c o) ps → IsStorage m' (shrunk_backing l 16 (length ps) (table c o)) (raw m (length ps) o)
    → AreInArray m' (shrunk_backing l 16 (length ps) (table c o)) ps
cut-links l m m' [] c o a h = let u : BackingArray = shrunk_backing l 16 0 (table c o)
    in no-links m' u.capacity u.extent
cut-links l m m' (q ∷ qs) c None a h = absurd (cc)
cut-links l m m' (q ∷ qs) c (Some x) a h =
    let n = length (q ∷ qs) in let y = shorter l x (16 * n) in let cut = cut-some l 16 n c x (omega arith) in
    let begins : handle y ≡ handle x = ap (λ (z : Extent). handle z) (shorter-IsShorter l x (16 * n)).same in
    let has = subst (λ (u : BackingArray). IsStorage m' u (read m (handle x) (16 * n))) cut h in
    let is : read m' (handle x) (16 * n) ≡ read m (handle x) (16 * n) = ap (read m' (handle x))
    (sym (length-read m (handle x) (16 * n))) ∙ subst (λ k. HasBytesAt m' k (read m (handle x) (16 * n))) begins has in
    let links = links-moved m m' (handle x) (handle x) (q ∷ qs) a
    (same-elements n (read-spread m m' (handle x) (16 * n) is)) in
    subst (λ (u : BackingArray). AreInArray m' u (q ∷ qs)) (sym cut)
    (subst (λ k. AreInArray m' (table n (Some (record y { offset = k }))) (q ∷ qs))
    (sym (ap (λ (z : Extent). z.offset) (shorter-IsShorter l x (16 * n)).same)) links)

-- a vector whose storage is shortened holds its strings
pub shrunk : {old new : WindowState} {p : Place} {ps : List OwnedText} {t : BackingArray} → IsTexts old.bytes p ps t
    → ShrinksStorageOk old new p 16 (length ps) t (raw (bytes_of old.bytes) (length ps) t.extent)
    → ReplacesTexts old new p
    (option_to_list t.extent) (option_to_list (shrunk_backing (live_of old.bytes) 16 (length ps) t).extent) ps
    (shrunk_backing (live_of old.bytes) 16 (length ps) t)
shrunk {old} {new} {ps} {t} s f =
    let u = shrunk_backing (live_of old.bytes) 16 (length ps) t in
    let arr = option_to_list t.extent in let arr' = option_to_list u.extent in let w = f.stands in
    texts-between ps [] [] [] ps {u = u} refl refl (sym (append-nil arr)) (sym (append-nil arr')) s f.change w.table
    w.fits (record { link = w.words.link; len_word = w.words.len_word; capacity = w.words.capacity })
    (cut-links (live_of old.bytes) (bytes_of old.bytes) (bytes_of new.bytes) ps t.capacity t.extent s.words.array
    w.words.storage) tt tt (λ e. f.gaps (same-extent e))

-- ---- allocations

-- an empty text is placed without a block
pub empty-placed : (l : LiveSet) (bytes : List ℕ) → length bytes ≡ 0
    → placed_text l bytes ≡ Some (record { bytes = bytes; extent = None })
empty-placed l bytes e = ap (λ b. if b then Some (let q : OwnedText = record { bytes = bytes; extent = None } in q) else
    option_map (λ (x : Extent). let q : OwnedText = record { bytes = bytes; extent = Some x } in q)
    (place l (length bytes) Storage)) (eq-eqb (length bytes) 0 e)

-- another text takes a block
pub some-placed : (l : LiveSet) (bytes : List ℕ) → 0 < length bytes → placed_text l bytes ≡ option_map (λ (x : Extent).
    let q : OwnedText = record { bytes = bytes; extent = Some x } in q) (place l (length bytes) Storage)
some-placed l bytes f = ap (λ b. if b then Some (let q : OwnedText = record { bytes = bytes; extent = None } in q) else
    option_map (λ (x : Extent). let q : OwnedText = record { bytes = bytes; extent = Some x } in q)
    (place l (length bytes) Storage)) (ne_eqb (length bytes) 0 (λ e. omega (arith, e, f)))

-- an empty string is placed without a block
pub placed-empty : (c : WindowState) (bytes : List ℕ) → IsHeap current c.bytes → length bytes ≡ 0
    → PlacesTextOk c c bytes None
placed-empty c bytes heap e = record {
  text = record { bytes = bytes; extent = None };
  placed = empty-placed (live_of c.bytes) bytes e;
  same = refl;
  at = refl;
  change = swapped-none c heap;
  nothing = λ none. refl;
  owned = nil_from_length bytes e;
  served = nil_from_length bytes e;
}

-- a string that is written into a new block is placed
pub placed-some : {old mid new : WindowState} (bytes : List ℕ) {h : ℕ} → 0 < length bytes
    → (a : AllocatesOk current old mid (length bytes) Storage h) → ChangesBytes current mid new (h + 0) (length bytes)
    → HasBytesAt (bytes_of new.bytes) (h + 0) bytes → PlacesTextOk old new bytes (Some h)
placed-some {old} {mid} {new} bytes {h} f a c has =
    let zero_at : h + 0 ≡ h = omega arith in
    let b = still_allocated _ old mid new _ _ h 0 _ a c
    (allocated-room _ old mid _ _ h (0 + length bytes) a (omega arith)) in
    let at = b.at in
    record {
      text = record { bytes = bytes; extent = Some b.extent };
      placed = some-placed (live_of old.bytes) bytes f ∙ ap (option_map (λ (x : Extent). let q : OwnedText = record
          { bytes = bytes; extent = Some x } in q)) b.placed;
      same = refl;
      at = ap (λ k. Some k) at;
      change = exchange-taken _ old new _ _ h 0 0 b;
      nothing = λ none. absurd (cc);
      owned = subst (λ k. HasBytesAt (bytes_of new.bytes) k bytes) (zero_at ∙ at) has;
      served = (f, place-serves (live_of old.bytes) (length bytes) Storage b.extent b.placed);
    }

-- ---- the vector while another is built

-- an array has room for its places
abbrev IfFull : ℕ → Option Extent → Type 0
IfFull c None = ⊤
IfFull c (Some x) = 16 * c + 16 ≤ x.len

full-table : (c : ℕ) (o : Option Extent) → IsTrue (has_backing Storage 16 (table c o)) → IfFull c o
full-table c None t = tt
full-table c (Some x) t = table-full 16 c x t

still-array : {a b : WindowState} (h c : ℕ) (o : Option Extent) (ps : List OwnedText) {come : List Extent}
    → IsHeap current a.bytes → SwapsBlocks a b [] come → IsStorageBlock (live_of a.bytes) h o → IfFull c o
    → length ps ≤ c
    → AreInArray (bytes_of a.bytes) (table c o) ps → AreInArray (bytes_of b.bytes) (table c o) ps × IsStorageBlock
    (live_of b.bytes) h o
still-array h c None ps heap x own full fits l = (l, tt)
still-array {a} {b} h c (Some y) ps {come} heap x own full fits l =
    let s = kept a b (handle y) y [] come _ heap x own.0 tt in
    let same : SameElements (bytes_of a.bytes) (bytes_of b.bytes) (handle y) (handle y) (length ps) =
    λ j f. element-in (handle y + 16 * j) s (omega arith) (omega (arith, f, fits, full)) in (
      links-moved (bytes_of a.bytes) (bytes_of b.bytes) (handle y) (handle y) ps l same,
      (kept-found a b 0 0 (handle y) y [] come _ x own.0 tt, own.1),
    )

-- a vector of strings stays while blocks are allocated
pub texts-still : {a b : WindowState} {p : Place} {ps : List OwnedText} {t : BackingArray} {come : List Extent}
    → IsTexts a.bytes p ps t → SwapsBlocks a b [] come → IsTexts b.bytes p ps t
texts-still {a} {b} {p} {ps} {t} s x =
    let w = room-head a p s.heap s.room in
    let words = words-kept {n = (length ps)} {t = t} s.heap w x tt
    (record { link = s.words.link; len_word = s.words.len_word; capacity = s.words.capacity }) in
    let arr = still-array p.handle t.capacity t.extent ps s.heap x s.own (full-table t.capacity t.extent s.table)
    s.fits s.words.array in
    let tb = text_blocks ps in let found = found-texts (live_of a.bytes) ps s.held in
    let served = served-texts (live_of a.bytes) ps s.held in
    record {
      heap = laid-heap _ _ x.live;
      words = record {
        link = words.link;
        len_word = words.len_word;
        capacity = words.capacity;
        array = arr.0;
        texts = owned-same (bytes_of a.bytes) (bytes_of b.bytes) ps
            (all-kept tb s.heap x found (none-of-none tb)) served s.words.texts;
      };
      aligned = s.aligned;
      room = head-room (head-kept w x tt);
      table = s.table;
      fits = s.fits;
      own = arr.1;
      held = held-texts (live_of b.bytes) ps served (all-found-kept tb x found (none-of-none tb));
      apart = s.apart;
      others = s.others;
    }

-- the block of a text begins at a multiple of 16
pub come-even : {a b : WindowState} (o : Option Extent) → SwapsBlocks a b [] (option_to_list o)
    → IfSome (option_map handle o) (λ target. target % 16 ≡ 0)
come-even {a} {b} o x = let heap = laid-heap _ _ x.live in even-block (live_of b.bytes) o heap.proper (came-found x)

-- ---- a text replaces another: its block is allocated before the other is freed

-- the allocated blocks are all different
pub run-others : {old now : WindowState} {p : Place} {gone come : List Extent} {n : ℕ} {t : BackingArray}
    → IsRun old now p gone come n t → AreDistinct come
run-others r = came-others r.change

-- ---- the text that was placed

-- a string in a block of its own stays while others are swapped
pub loose-kept : {a b : WindowState} (bytes : List ℕ) (o : Option Extent) {gone come : List Extent}
    → IsHeap current a.bytes
    → SwapsBlocks a b gone come → AllByRecursion (IsFound (live_of a.bytes).extents) (option_to_list o)
    → AllByRecursion (λ (y : Extent). AllByRecursion (λ (z : Extent). handle y ≢ handle z) gone) (option_to_list o)
    → IsServed (record { bytes = bytes; extent = o }) → IsOwnedText (bytes_of a.bytes)
    (record { bytes = bytes; extent = o }) → IsOwnedText (bytes_of b.bytes) (record { bytes = bytes; extent = o })
    × AllByRecursion (IsFound (live_of b.bytes).extents) (option_to_list o)
loose-kept {a} {b} bytes o heap x f n s w = (
  same-loose (bytes_of a.bytes) (bytes_of b.bytes) bytes o (all-kept (option_to_list o) heap x f n) s w,
  all-found-kept (option_to_list o) x f n,
)

-- its block is not among those after it
pub others-front : (o : Option Extent) (xs : List Extent) → AreDistinct (option_to_list o ++ xs)
    → AllByRecursion (λ (y : Extent). AllByRecursion (λ (z : Extent). handle y ≢ handle z) xs) (option_to_list o)
others-front None xs d = tt
others-front (Some y) xs d = (d.0, tt)

-- ---- the vector afterwards

-- a string is replaced by another
pub text-set : {s0 s1 mid s3 : WindowState} {p : Place} {ps : List OwnedText} {c len g : ℕ} {o : Option Extent}
    {q : OwnedText} {bytes : List ℕ} {block : Option ℕ} (i : ℕ) → IsTexts s0.bytes p ps (table c o)
    → slice_get ps i ≡ Some q → (pl : PlacesTextOk s0 s1 bytes block) → link_at (bytes_of s1.bytes) (place_at p)
    ≡ Some g → FreesBlocks s1 mid (option_to_list q.extent) → ChangesBytes current mid s3 (g + 16 * i) 16
    → link_at (bytes_of s3.bytes) (g + 16 * i) ≡ block → word_at (bytes_of s3.bytes) (g + 16 * i + 8) ≡ len
    → len ≡ length bytes → ReplacesTexts s0 s3 p (option_to_list o ++ option_to_list q.extent)
    (option_to_list o ++ option_to_list pl.text.extent) (slice_set ps i pl.text) (table c o)
text-set {o = None} i s e pl at r written link_is word_is len_is = none-some (texts-still s pl.change).words.link at
text-set {s0} {s1} {mid} {s3} {p} {ps} {c} {len} {o = Some x} {q} {block = block} i s e pl at r written link_is word_is
    len_is =
    let y = r.change in let g_is = same-some (sym at ∙ (texts-still s pl.change).words.link) in let t =
    table c (Some x) in
    let z = pl.text in let n = length ps in let eb = option_to_list q.extent in let ez = option_to_list z.extent in
    let gone : List Extent = x ∷ eb in
    let below = slice_get_within ps i q e in let fits = s.fits in let full = table-full 16 c x s.table in
    let apart = text-apart i s e in let other : p.handle ≢ handle x = λ f. s.own.1 (sym f) in
    let one = append-nil eb in
    let r0 : IsRun s0 s0 p gone gone n t = subst (λ (xs : List Extent). IsRun s0 s0 p (x ∷ xs) (x ∷ xs) n t) one
    (run-begin s0 (take i ps) (q ∷ []) (drop (suc i) ps) (around ps i e) s) in
    let r1 = run-swapped gone (spread-refl gone) r0 pl.change tt in
    let spread = subst (λ (xs : List Extent). SameSpread xs (eb ++ (ez ++ (x ∷ [])))) (append_assoc ez (x ∷ []) eb)
    (last-first (ez ++ (x ∷ [])) eb) in
    let r2 = run-swapped (ez ++ (x ∷ [])) spread r1 y apart.head in
    let found1 = (all-split (IsFound (live_of s1.bytes).extents) ez gone (run-found r1)) in
    let found2 = (all-split (IsFound (live_of mid.bytes).extents) ez (x ∷ []) (run-found r2)) in
    let c3 = subst (λ k. ChangesBytes current mid s3 (k + 16 * i) 16) g_is written in
    let w3 = block-written (16 * c) r2.heap found2.1.0 c3 (omega arith) (omega (arith, below, fits)) full in
    let r3 = run-swapped ez (last-first ez (x ∷ [])) r2 w3 (other, tt) in
    let k1 = kept s0 s1 (handle x) x [] ez _ s.heap pl.change s.own.0 tt in
    let k2 = kept s1 mid (handle x) x eb [] _ r1.heap y found1.1.0 apart.array in
    let k = SameBlock-trans _ _ _ x k1 k2 in
    let front : SameElements (bytes_of s0.bytes) (bytes_of s3.bytes) (handle x) (handle x) i = λ j f.
    element-trans (element-in (handle x + 16 * j) k (omega arith) (omega (arith, f, below, fits, full)))
    (element-beside (handle x + 16 * j) c3.rest (inl (omega (arith, f)))) in
    let back : SameElements (bytes_of s0.bytes) (bytes_of s3.bytes) (handle x + 16 * i + 16)
    (handle x + 16 * i + 16) (n - i - 1) = λ j f.
    element-trans (element-in (handle x + 16 * i + 16 + 16 * j) k (omega arith) (omega (arith, f, below, fits, full)))
    (element-beside (handle x + 16 * i + 16 + 16 * j) c3.rest (inr (omega arith))) in
    let link = subst (λ k. link_at (bytes_of s3.bytes) (k + 16 * i) ≡ block) g_is link_is ∙ pl.at in
    let word = subst (λ k. word_at (bytes_of s3.bytes) (k + 16 * i + 8) ≡ len) g_is word_is
    ∙ len_is ∙ ap (λ (bs : List ℕ). length bs) (sym pl.same) in
    let qs_is = set-pieces ps i z below in
    let links = links-edited (handle x) ps i (suc i) (z ∷ []) (omega (arith, below)) (omega (arith, below))
    (omega arith) (omega arith) (omega arith) s.words.array front (link, word, tt) back in
    let len_qs : length (take i ps ++ (z ∷ drop (suc i) ps)) ≡ n = omega (
      arith,
      length-append (take i ps) (z ∷ drop (suc i) ps),
      length-take i ps,
      length-drop (suc i) ps,
      below,
    ) in
    let len_set : length (slice_set ps i z) ≡ n = ap (λ (xs : List OwnedText). length xs) qs_is ∙ len_qs in
    let apart1 = others-front z.extent gone (run-others r1) in let from_gone = λ (y : Extent). IsNone (handle y) gone in
    let from_text = all-as from_gone (λ (y : Extent). IsNone (handle y) eb) (λ y d. d.1) ez apart1 in
    let from_array = all-as from_gone (λ (y : Extent). IsNone (handle y) (x ∷ [])) (λ y d. (d.0, tt)) ez apart1 in
    let t2 = loose-kept z.bytes z.extent r1.heap y found1.0 from_text pl.served pl.owned in
    let t3 = loose-kept z.bytes z.extent r2.heap w3 found2.0 from_array pl.served t2.0 in
    texts-between (slice_set ps i z) (take i ps) (q ∷ []) (z ∷ []) (drop (suc i) ps) {u = t} (around ps i e) qs_is
    (ap (λ (xs : List Extent). x ∷ xs) (sym one))
    (ap (λ (xs : List Extent). x ∷ xs) (sym (append-nil ez))) s r3.change s.table (omega (arith, len_set, fits))
    (subst (λ w. AreHeadWords (bytes_of s3.bytes) (place_at p) w t) (sym len_set) r3.words)
    (subst (AreTextLinks (bytes_of s3.bytes) (handle x)) (sym qs_is) links) (t3.0, tt) (pl.served, tt) (λ f.
    let same : eb ≡ ez = behind-array (Some x) f in
    let fresh = subst (λ (xs : List Extent). AllByRecursion (λ (y : Extent). IsNone (handle y) xs) ez) same from_text in
    let none = fresh-none ez fresh in let is = r.same (same ∙ none) ∙ pl.nothing (no-extent none) in
    subst (λ (c : WindowState). KeepsGaps c s3) is (gaps-payload mid s3 (handle x) (16 * c) (handle x + 16 * i) 16 c3
    (found-room (live_of mid.bytes) (handle x) (16 * c) x found2.1.0 full) (omega arith) (omega (arith, below, fits))))

-- ---- the element is written once the old text is released
