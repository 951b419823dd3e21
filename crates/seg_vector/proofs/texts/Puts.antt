-- A text put into a vector of texts, with a place for it or in an array with more places; and an array given up.
use Rattle.seg_vector.proofs.Common as W
use Rattle.best_fit.specs.Fit as fit
use W.{◌≡◌, length-take, ShrinksInPlace, spread-refl, LacksFit, AreEvenLinks, RefusesPut, PlacesTextOk, AreTextLinks}
use W.{◌≢◌, sym, None, List, arith, take, drop, Bool, true, false, handle, others, IsHeap, BackingArray, IsNone, Place}
use W.{taken, refl, last-first, live-rises, found-room, taken-back, keeps-refl, IsPutAsked, PreparesPut, ReplacesTexts}
use W.{with_array, ap, word_at, current, link_at, LiveSet, resized, Refusal, live_of, IsFound, Differs, ReservesArray}
use W.{PutsInto, requested_text, subst, if◌then◌else◌, length-append, exchange-taken, widened-back, rising-insert}
use W.{RefusesFirstBlock, exchanged-live, ◌∙◌, ℕ, ◌+◌, ◌*◌, ◌<◌, ◌≤◌, ◌∷◌, inl, inr, ◌%◌, ◌-◌, max, Ok, Err}
use W.{WindowState, [], Option, eqb-true, bytes_of, exchanged, ChangesBytes, has_room, laid-heap, place_at, AdoptsOk}
use W.{SwapsBlocks, OwnedText, ExchangesBlocks, KeepsGaps, gaps-payload, gaps-refl, gaps-then, gaps-trans, Some, length}
use W.{IsTrue, Result, IfSome, nat_lt, insert, lt-ltb, le-ltb, Extent, widened, room_of, IsTexts, NoSpace, append-nil}
use W.{option_map, KeepsLiveSet, Deallocates, is_live_in, lay_out_one, others-past, InsertsTextOk, placed_text}
use W.{option_to_list, AllByRecursion, length-drop, take-append-drop, exchange-order, SameElements, capacity_for_one}
use Rattle.seg_vector.proofs.storage.HeadAndBlock.{AreHeadWords, IsHead, IsRun, beside-head, block-written, head-kept}
use Rattle.seg_vector.proofs.storage.HeadAndBlock.{head-wider}
use Rattle.seg_vector.proofs.storage.HeadAndBlock.{len-written, none-some, own-facts, run-found, run-headed}
use Rattle.seg_vector.proofs.storage.HeadAndBlock.{run-swapped, room-head}
use Rattle.seg_vector.proofs.storage.HeadAndBlock.{head-gaps, head-room, stands-none-of, same-some, table, table-full}
use Rattle.seg_vector.proofs.texts.Blocks.{element-beside, element-in, element-trans, even-block, found-live}
use Rattle.seg_vector.proofs.texts.Blocks.{found-texts}
use Rattle.seg_vector.proofs.texts.Blocks.{behind-array, no-extent, links-at, links-edited, one-of, run-begin}
use Rattle.seg_vector.proofs.texts.Blocks.{texts-between, same-loose}
use Rattle.seg_vector.proofs.texts.Growth.{grown-to, not-grown, all-beside-head, new-other, IsReadyRun, ready-in}
use Rattle.seg_vector.proofs.{texts.Growth.asked-alone, texts.Growth.new-table, storage.TypedVectors.has-element}
use Rattle.seg_vector.proofs.texts.Calls.{loose-kept, run-others, texts-stand, texts-still}
use Rattle.seg_vector.proofs.storage.Storage.{capacity-bytes, room-small, grown-same, same-storage}
use Rattle.best_fit.specs.Fit.{regrow}
use Rattle.seg_vector.specs.Vector.{grown_backing}

-- ---- before it is put

pub none-array : (b : WindowState) {p : Place} {ps : List OwnedText} {t : BackingArray} → IsTexts b.bytes p ps t
    → IsNone p.handle (option_to_list t.extent)
none-array b {p} {t} s = (own-facts (live_of b.bytes) p.handle t.extent s.own).2

-- the blocks of a vector and of one string more
pub put-run : {first now : WindowState} {p : Place} {ps : List OwnedText} {t : BackingArray} {y : Extent} {m : ℕ}
    {z : OwnedText} → PreparesPut first now p ps t y m z
    → IsRun first now p (option_to_list t.extent) (y ∷ option_to_list z.extent) (length ps) (table m (Some y))
put-run {first} {t} {y} {z} r = record {
  change = r.change;
  heap = laid-heap _ _ r.change.live;
  head = head-kept (room-head first _ r.texts.heap r.texts.room) r.change (none-array first r.texts);
  words = record { link = r.link; len_word = r.len_word; capacity = r.capacity };
}

pub put-big : {first now : WindowState} {p : Place} {ps : List OwnedText} {t : BackingArray} {y : Extent} {m : ℕ}
    {z : OwnedText} → PreparesPut first now p ps t y m z → 16 * m + 16 ≤ y.len
put-big {y} {m} r = table-full 16 m y r.table

-- ---- the text

-- a block that differs from all differs from each
pub flip-each : (y : Extent) (xs : List Extent) → AllByRecursion (λ (w : Extent). handle y ≢ handle w) xs
    → AllByRecursion (λ (w : Extent). AllByRecursion (λ (v : Extent). handle w ≢ handle v) (y ∷ [])) xs
flip-each y [] d = tt
flip-each y (x ∷ xs) d = (((λ f. d.0 (sym f)), tt), flip-each y xs d.1)

-- ---- the vector afterwards

-- with its own blocks in use
same-blocks : {old mid : WindowState} {p : Place} {ps : List OwnedText} {t : BackingArray} {from n : ℕ}
    {come : List Extent} → IsTexts old.bytes p ps t → option_to_list t.extent ≡ come
    → ExchangesBlocks current old mid from n (option_to_list t.extent) come → live_of mid.bytes ≡ live_of old.bytes
same-blocks {old} {mid} {t} {from} {n} s e x = same-storage (texts-stand s)
    (subst (ExchangesBlocks current old mid from n (option_to_list t.extent)) (sym e) x)

-- a string is put between others: the vector with it
pub put-by : {first now b1 b2 new : WindowState} {p : Place} {ps : List OwnedText} {t : BackingArray} {y : Extent}
    {m : ℕ} {z : OwnedText} (i : ℕ) {g : ℕ} (n len : ℕ) (block : Option ℕ)
    → PreparesPut first now p ps t y m z → i ≤ length ps
    → block ≡ option_map handle z.extent → len ≡ length z.bytes → link_at (bytes_of now.bytes) (place_at p) ≡ Some g
    → n ≡ word_at (bytes_of now.bytes) (place_at p + 8) → ChangesBytes current now b1 (g + 16 * i + 16) (16 * (n - i))
    → SameElements (bytes_of now.bytes) (bytes_of b1.bytes) (g + 16 * i) (g + 16 * i + 16) (n - i)
    → ChangesBytes current b1 b2 (g + 16 * i) 16 → link_at (bytes_of b2.bytes) (g + 16 * i) ≡ block
    → word_at (bytes_of b2.bytes) (g + 16 * i + 8) ≡ len → ChangesBytes current b2 new (p.handle + (p.at + 8)) 8
    → word_at (bytes_of new.bytes) (p.handle + (p.at + 8)) ≡ n + 1
    → ReplacesTexts first new p (option_to_list t.extent) (y ∷ option_to_list z.extent) (insert ps i z)
    (table m (Some y))
put-by {first} {now} {b1} {b2} {new} {p} {ps} {t} {y} {m} {z} i {g} n len block r inside at_is len_is leads n_is c1 m1
    c2 link word c3 last =
    let u = table m (Some y) in let gone = option_to_list t.extent in let ez = option_to_list z.extent in
    let come : List Extent = y ∷ ez in
    let g_is = same-some (sym leads ∙ r.link) in let k_is : n ≡ length ps = n_is ∙ r.len_word in
    let space = r.space in let big = put-big r in let r0 = put-run r in
    let none = stands-none-of (texts-stand r.texts) r0 in let found0 = run-found r0 in
    let x1 = block-written (16 * m) r0.heap found0.0 c1 (omega (arith, g_is)) (omega (arith, g_is, k_is, inside, space))
    big in
    let r1 = run-swapped ez (spread-refl come) r0 x1 (none.0, tt) in
    let x2 = block-written (16 * m) r1.heap (run-found r1).0 c2 (omega (arith, g_is))
    (omega (arith, g_is, inside, space)) big in
    let r2 = run-swapped ez (spread-refl come) r1 x2 (none.0, tt) in let found2 = run-found r2 in
    let c3' = head-wider p c3 (omega arith) (omega arith) in
    let r3 = run-headed r2 c3' (len-written (n + 1) (omega arith) c3.rest last r2.words) in
    let y3 = beside-head (handle y) r2.heap r2.head c3' found2.0 none.0 in
    let front : SameElements (bytes_of now.bytes) (bytes_of new.bytes) g g i = λ j f.
    element-trans (element-trans (element-beside (g + 16 * j) c1.rest (inl (omega (arith, f))))
    (element-beside (g + 16 * j) c2.rest (inl (omega (arith, f)))))
    (element-in (g + 16 * j) y3 (omega (arith, g_is)) (omega (arith, g_is, f, inside, space, big))) in
    let back : SameElements (bytes_of now.bytes) (bytes_of new.bytes) (g + 16 * i) (g + 16 * i + 16) (n - i) = λ j f.
    element-trans (element-trans (m1 j f) (element-beside (g + 16 * i + 16 + 16 * j) c2.rest (inr (omega arith))))
    (element-in (g + 16 * i + 16 + 16 * j) y3 (omega (arith, g_is))
    (omega (arith, g_is, k_is, f, inside, space, big))) in
    let own = element-in (g + 16 * i) y3 (omega (arith, g_is)) (omega (arith, g_is, inside, space, big)) in
    let links = links-edited g ps i i (z ∷ []) inside inside refl (omega arith) (omega (arith, k_is))
    (subst (λ h. AreTextLinks (bytes_of now.bytes) h ps) (sym g_is) r.links) front
    (own.link ∙ link ∙ at_is, own.len_word ∙ word ∙ len_is, tt) back in
    let apart = flip-each y ez (run-others r0).0 in
    let t1 = loose-kept z.bytes z.extent r0.heap x1 found0.1 apart r.served r.owned in
    let t2 = loose-kept z.bytes z.extent r1.heap x2 t1.1 apart r.served t1.0 in
    let t3 = same-loose (bytes_of b2.bytes) (bytes_of new.bytes) z.bytes z.extent
    (all-beside-head ez r2.heap r2.head c3' found2.1 none.1) r.served t2.0 in
    let long : length (insert ps i z) ≡ n + 1 =
    omega (arith, length-append (take i ps) (z ∷ drop i ps), length-take i ps, length-drop i ps, inside, k_is) in
    texts-between (insert ps i z) (take i ps) [] (z ∷ []) (drop i ps) {u = u} (sym (take-append-drop i ps)) refl
    (sym (append-nil gone)) (ap (λ (xs : List Extent). y ∷ xs) (sym (append-nil ez))) r.texts r3.change r.table
    (omega (arith, long, k_is, space)) (subst (λ w. AreHeadWords (bytes_of new.bytes) (place_at p) w u) (sym long)
    r3.words) (subst (λ h. AreTextLinks (bytes_of new.bytes) h (insert ps i z)) g_is links) (t3, tt) (r.served, tt)
    (λ e. gaps-trans first now new (same-blocks r.texts e r.change) (r.gaps e) (gaps-then now b1 new (g + 16 * i + 16)
    (16 * (n - i)) c1 (gaps-payload now b1 (handle y) (16 * m) (g + 16 * i + 16) (16 * (n - i)) c1
    (found-room (live_of now.bytes) (handle y) (16 * m) y found0.0 big) (omega (arith, g_is))
    (omega (arith, g_is, k_is, inside, space))) (gaps-then b1 b2 new (g + 16 * i) 16 c2 (gaps-payload b1 b2 (handle y)
    (16 * m) (g + 16 * i) 16 c2 (found-room (live_of b1.bytes) (handle y) (16 * m) y (run-found r1).0 big)
    (omega (arith, g_is)) (omega (arith, g_is, inside, space))) (head-gaps p (head-room r2.head) c3'))))

-- ---- conditions of the calls of an insertion

pub record IsPutPlace (now : WindowState) (p : Place) (g i k : ℕ) : Type 0 where
  pub heap : IsHeap current now.bytes
  pub head : IsHead now p
  pub inside : i ≤ k
  pub room : IsTrue (has_room (live_of now.bytes) g (16 * k + 16))
  pub small : 16 * k + 16 < 1073741824
  pub even : AreEvenLinks (bytes_of now.bytes) g k
  pub count : word_at (bytes_of now.bytes) (place_at p + 8) ≡ k

-- the array has a place for the string
pub put-place : {now : WindowState} {p : Place} {g i : ℕ} {block : Option ℕ} {len : ℕ}
    → (r : IsPutAsked now p i block len)
    → link_at (bytes_of now.bytes) (place_at p) ≡ Some g → IsPutPlace now p g i (length r.ps)
put-place {now} {p} {g} r leads =
    let w = r.ready in let y = r.y in let k = length r.ps in let g_is = same-some (sym w.link ∙ leads) in
    let space = w.space in let big = put-big w in let q = put-run w in
    let room = subst (λ h. IsTrue (has_room (live_of now.bytes) h (16 * k + 16))) g_is
    (found-room (live_of now.bytes) (handle y) (16 * k + 16) y (run-found q).0 (omega (arith, big, space))) in
    record {
      heap = q.heap;
      head = q.head;
      inside = r.inside;
      room = room;
      small = room-small now g (16 * k + 16) q.heap room;
      even = λ j f.
          let e = has-element r.ps j f in
          subst (λ o. IfSome o (λ target. target % 16 ≡ 0))
          (sym (links-at (bytes_of now.bytes) g r.ps j (subst (λ h. AreTextLinks (bytes_of now.bytes) h r.ps) g_is
          w.links) e.1).0) (even-block (live_of r.first.bytes) e.0.extent w.texts.heap.proper
          (one-of (IsFound (live_of r.first.bytes).extents) r.ps j
          (found-texts (live_of r.first.bytes) r.ps w.texts.held) e.1));
      count = w.len_word;
    }

-- the block of the string begins at a multiple of 16
pub put-even : {now : WindowState} {p : Place} {i : ℕ} {block : Option ℕ} {len : ℕ} → IsPutAsked now p i block len
    → IfSome block (λ target. target % 16 ≡ 0)
put-even {now} {p} r =
    let q = put-run r.ready in
    subst (λ o. IfSome o (λ target. target % 16 ≡ 0)) (sym r.at)
    (even-block (live_of now.bytes) r.z.extent q.heap.proper (run-found q).1)

-- ---- a reserved array is freed

module _ {first mid : WindowState} {p : Place} {ps : List OwnedText} {t : BackingArray} {g : ℕ} (n : ℕ)
    (s : IsTexts first.bytes p ps t) (a : ReservesArray first mid t.extent (16 * n) g) where
  -- the reserved array is ready
  pub asked-run : IsReadyRun first mid p ps t g n
  asked-run = ready-in n s a (asked-alone a) (λ e. refl)

  -- the vector's link is as before
  pub asked-link : link_at (bytes_of first.bytes) (place_at p) ≡ link_at (bytes_of mid.bytes) (place_at p)
  asked-link = s.words.link ∙ sym asked-run.run.words.link

  -- the reserved array is in use
  pub asked-live : IsTrue (is_live_in (live_of mid.bytes) g)
  asked-live = subst (λ k. IsTrue (is_live_in (live_of mid.bytes) k)) (sym asked-run.at)
      (found-live (handle asked-run.array) (live_of mid.bytes).extents asked-run.found)

-- a vector without storage gives the reserved array back
pub undone-none : {first mid new : WindowState} {p : Place} {ps : List OwnedText} {c g n : ℕ} {o : Option Extent}
    → IsTexts first.bytes p ps (table c o) → ReservesArray first mid o n g → link_at (bytes_of first.bytes) (place_at p)
    ≡ None → Deallocates current mid new g → KeepsLiveSet current first new
undone-none {o = Some x} s a was r = none-some was s.words.link
undone-none {o = None} s (widened w is) was r = absurd (cc)
undone-none {mid} {new} {g} {n} {o = None} s (taken a e) was r = taken-back _ mid new n g _ a r

-- a reserved array that is a new block is freed
pub undone-other : {first mid new : WindowState} {p : Place} {ps : List OwnedText} {c g h n : ℕ} {o : Option Extent}
    → IsTexts first.bytes p ps (table c o) → ReservesArray first mid o n g → link_at (bytes_of first.bytes) (place_at p)
    ≡ Some h → h ≢ g → Deallocates current mid new g → KeepsLiveSet current first new
undone-other {o = None} s a was differ r = none-some s.words.link was
undone-other {o = Some x} s (widened w is) was differ r =
    let h_is = same-some (sym s.words.link ∙ was) in
    absurd (differ (sym h_is ∙ ap (λ (z : Extent). handle z) (same-some is) ∙ w.at))
undone-other {mid} {new} {g} {n} {o = Some x} s (taken a e) was differ r = taken-back _ mid new n g _ a r

-- the array is cut to the length that it had
pub undone-same : {first mid new : WindowState} {p : Place} {ps : List OwnedText} {c g n room : ℕ} {o : Option Extent}
    → IsTexts first.bytes p ps (table c o) → ReservesArray first mid o n g → link_at (bytes_of first.bytes) (place_at p)
    ≡ Some g → room ≡ room_of o → ShrinksInPlace current mid new g room → KeepsLiveSet current first new
undone-same {o = None} s a was e r = none-some s.words.link was
undone-same {mid} {new} {g} {n} {room} {o = Some x} s (widened w is) was e r =
    widened-back _ mid new g n room s.heap w (e ∙ ap (λ (z : Extent). z.len - 16) (same-some is)) r
undone-same {o = Some x} s (taken a e') was e r =
    let g_is = same-some (sym s.words.link ∙ was) in absurd (new-other (handle x) a s.own.0 (g_is ∙ a.at))

-- ---- with a place for it

pub record IsWithin (first now : WindowState) (p : Place) (ps : List OwnedText) (t : BackingArray) (z : OwnedText) :
    Type 0 where
  pub array : Extent
  pub extent : t.extent ≡ Some array
  -- the string can be put into the array
  pub ready : PreparesPut first now p ps t array t.capacity z

-- a string in a block of its own, with a place for it in the array
pub within : {s0 s1 : WindowState} {p : Place} {ps : List OwnedText} {c : ℕ} {o : Option Extent} {bytes : List ℕ}
    {block : Option ℕ} → IsTexts s0.bytes p ps (table c o) → length ps < c → (pl : PlacesTextOk s0 s1 bytes block)
    → IsWithin s0 s1 p ps (table c o) pl.text
within {c} {o = None} s space pl = let none : c ≡ 0 = eqb-true c 0 s.table in absurd (omega arith)
within {s0} {s1} {p} {ps} {c} {o = Some x} s space pl =
    let ez = option_to_list pl.text.extent in let r0 = run-begin s0 [] [] ps refl s in
    let r1 = run-swapped (x ∷ []) (spread-refl (x ∷ [])) r0 pl.change tt in let still = texts-still s pl.change in
    record {
      array = x;
      extent = refl;
      ready = record {
        texts = s;
        table = s.table;
        space = space;
        change = exchange-order _ s0 s1 _ 24 _ _ _ (last-first ez (x ∷ [])) r1.change;
        gaps = λ e. subst (λ (c : WindowState). KeepsGaps s0 c) (sym (pl.nothing (no-extent (sym (behind-array (Some x)
            {xs = []} e))))) (gaps-refl s0);
        link = still.words.link;
        len_word = still.words.len_word;
        capacity = still.words.capacity;
        links = still.words.array;
        owned = pl.owned;
        served = pl.served;
      };
    }

wanted-same : (k c : ℕ) → k < c → capacity_for_one k c ≡ c
wanted-same k c f = ap (λ b. if b then c else max 4 (2 * c)) (lt-ltb k c f)

same-grown-one : (l : LiveSet) (ps : List OwnedText) (t : BackingArray) → length ps < t.capacity
    → grown_backing l 16 (capacity_for_one (length ps) t.capacity) t ≡ Some t
same-grown-one l ps t f = ap (λ n. grown_backing l 16 n t) (wanted-same (length ps) t.capacity f) ∙ grown-same l 16
    t.capacity t (omega arith)

array-is : (l : LiveSet) (t : BackingArray) → with_array l t t ≡ l
array-is l t = ap (λ b. if b then (elim t.extent as (λ _. LiveSet) [ None ↦ l | Some x ↦ resized l x ]) else l)
    (le-ltb t.capacity t.capacity (omega arith))

-- the string is put within the capacity
pub within-ok : {s0 s1 new : WindowState} {p : Place} (ps : List OwnedText) {c : ℕ} (i : ℕ) (o : Option Extent)
    {bytes : List ℕ} {block : Option ℕ} → length ps < c → (pl : PlacesTextOk s0 s1 bytes block) → {y : Extent}
    → o ≡ Some y → ReplacesTexts s0 new p (option_to_list o) (y ∷ option_to_list pl.text.extent) (insert ps i pl.text)
    (table c (Some y)) → InsertsTextOk s0 new p ps (table c o) i bytes
within-ok ps i None space pl e now = absurd (cc)
within-ok {s0} {new} {p} ps {c} i (Some x) {bytes} space pl {y} e now =
    let t = table c (Some x) in let same : x ≡ y = cc in
    record {
      table = t;
      grown = same-grown-one (live_of s0.bytes) ps t space;
      text = pl.text;
      placed = ap (λ l. placed_text l bytes) (array-is (live_of s0.bytes) t) ∙ pl.placed;
      now = subst (λ (w : Extent). ReplacesTexts s0 new p (x ∷ []) (w ∷ option_to_list pl.text.extent)
          (insert ps i pl.text) (table c (Some w))) (sym same) now;
    }

abbrev after : LiveSet → BackingArray → List ℕ → Option BackingArray → Option OwnedText
after l t bytes o = elim o [ None ↦ None | Some u ↦ placed_text (with_array l t u) bytes ]

-- if nothing changes, the first step changes nothing
refused-same : {s0 s1 : WindowState} {ps : List OwnedText} {t : BackingArray} {bytes : List ℕ} {e : Refusal}
    → IsHeap current s0.bytes
    → e ≡ NoSpace → requested_text (live_of s0.bytes) ps t bytes ≡ None → s1 ≡ s0 → RefusesPut s0 s1 ps t bytes e
refused-same {s0} heap refusal none same = record {
  refusal = refusal;
  none = none;
  restored = subst (KeepsLiveSet current s0) (sym same)
      (record { laid = heap; keeps = keeps-refl s0 (live_of s0.bytes).extents });
  first = record { text = λ f g. same; array = λ g. same };
}

-- no space for the string: nothing changes
pub within-err : {s0 s1 : WindowState} {p : Place} {ps : List OwnedText} {t : BackingArray} {bytes : List ℕ}
    {e : Refusal} → IsTexts s0.bytes p ps t
    → length ps < t.capacity → LacksFit s0 s1 (placed_text (live_of s0.bytes) bytes) e → RefusesPut s0 s1 ps t bytes e
within-err {s0} {ps = ps} {t} {bytes} s space r = refused-same s.heap r.refusal
    (ap (after (live_of s0.bytes) t bytes) (same-grown-one (live_of s0.bytes) ps t space)
    ∙ ap (λ l. placed_text l bytes) (array-is (live_of s0.bytes) t) ∙ r.none) r.same

-- ---- the first allocation

-- a text that is inserted had both blocks
first-put : {old new : WindowState} {p : Place} {ps : List OwnedText} {t : BackingArray} {i : ℕ} {bytes : List ℕ}
    → InsertsTextOk old new p ps t i bytes → RefusesFirstBlock old new ps t bytes
first-put {old} {ps} {t} {bytes} w =
    let l = live_of old.bytes in
    record {
      text = λ f none.
          let tables : Some t ≡ Some w.table = sym (same-grown-one l ps t f) ∙ w.grown in let same : t ≡ w.table = cc in
          let placed : placed_text l bytes ≡ Some w.text = ap (λ s. placed_text s bytes) (sym (array-is l t))
          ∙ ap (λ (u : BackingArray). placed_text (with_array l t u) bytes) same ∙ w.placed in
          let both = sym placed ∙ none in
          absurd (cc);
      array = λ none. let both = sym w.grown ∙ none in absurd (cc);
    }

-- the result of the first allocation for a string
pub first-answered : (old new : WindowState) (p : Place) (ps : List OwnedText) (t : BackingArray) (i : ℕ)
    (bytes : List ℕ)
    (r : Result (Unit {0}) Refusal) → PutsInto old new p ps t i bytes r → RefusesFirstBlock old new ps t bytes
first-answered old new p ps t i bytes (Ok u) h = first-put h
first-answered old new p ps t i bytes (Err e) h = h.first

-- ---- in an array with more places

-- the string can be put into the larger array
pub growing-ready : {s0 s1 s2 s3 : WindowState} {p : Place} {ps : List OwnedText} {t : BackingArray} {g n : ℕ}
    {bytes : List ℕ}
    {block : Option ℕ} → IsTexts s0.bytes p ps t → length ps < n → (pl : PlacesTextOk s1 s2 bytes block)
    → (ad : AdoptsOk s0 s2 s3 p ps t g n (option_to_list pl.text.extent)) → PreparesPut s0 s3 p ps t ad.array n pl.text
growing-ready {s2} {s3} {ps} {n} s space pl ad = record {
  texts = s;
  table = new-table n ad.array (omega (arith, space)) ad.serves;
  space = space;
  change = ad.change;
  gaps = ad.gaps;
  link = ad.link ∙ ap (λ k. Some k) ad.at;
  len_word = ad.len_word;
  capacity = ad.capacity;
  links = subst (λ k. AreTextLinks (bytes_of s3.bytes) k ps) ad.at ad.links;
  owned = same-loose (bytes_of s2.bytes) (bytes_of s3.bytes) pl.text.bytes pl.text.extent ad.stay pl.served pl.owned;
  served = pl.served;
}

others-none : (y : Extent) (zs : List Extent) → Differs y zs → others (handle y) zs ≡ zs
others-none y [] d = refl
others-none y (z ∷ zs) d = others-past (handle y) z zs (λ e. d.0 (omega (arith, e)))
    ∙ ap (λ (ws : List Extent). z ∷ ws) (others-none y zs d.1)

-- a new block is inserted among the others
pub came-alone : {a b : WindowState} {x : Extent} → SwapsBlocks a b [] (x ∷ [])
    → live_of b.bytes ≡ resized (live_of a.bytes) x
came-alone {a} {b} {x} s =
    let l = live_of a.bytes in
    let f = rising-insert 128 x l.extents (live-rises (exchanged l [] (x ∷ [])) s.live.proper) in
    exchanged-live a b 0 0 [] _ _ s ∙ ap (λ (zs : List Extent). let k : LiveSet = record l { extents = fit.insert x zs }
    in k) (sym (others-none x l.extents f.differs))

pub record IsAskedExtent (first mid : WindowState) (o : Option Extent) (n : ℕ) : Type 0 where
  pub extent : Extent
  pub regrown : regrow (live_of first.bytes) o n ≡ Some extent
  pub live : live_of mid.bytes ≡ resized (live_of first.bytes) extent

pub asked-extent : {first mid : WindowState} {o : Option Extent} {n g : ℕ} → ReservesArray first mid o n g
    → IsAskedExtent first mid o n
asked-extent {first} {mid} {n} (widened w is) = record {
  extent = w.after;
  regrown = ap (λ q. regrow (live_of first.bytes) q n) is ∙ w.regrown;
  live = lay_out_one current mid.bytes (resized (live_of first.bytes) w.after) w.change.live;
}
asked-extent {first} {mid} (taken a e) =
    record { extent = a.extent; regrown = e; live = came-alone (exchange-taken _ first mid _ _ _ 0 0 a) }

more-array : (l : LiveSet) (t : BackingArray) (n : ℕ) (y : Extent) → t.capacity < n
    → with_array l t (table n (Some y)) ≡ resized l y
more-array l t n y f = ap (λ b. if b then resized l y else l) (lt-ltb t.capacity n f)

same-block : {n : ℕ} {a b : Extent} → Some (table n (Some a)) ≡ Some (table n (Some b)) → a ≡ b
same-block e = same-some (ap (λ (t : BackingArray). t.extent) (same-some e))

-- the string is put into the larger array
pub growing-ok : {s0 s1 s2 s3 new : WindowState} {p : Place} {ps : List OwnedText} {t : BackingArray} {g n : ℕ}
    (i : ℕ) {bytes : List
    ℕ} {block : Option ℕ} → t.capacity < n → n ≡ capacity_for_one (length ps) t.capacity → ReservesArray s0 s1 t.extent
    (16 * n) g → (pl : PlacesTextOk s1 s2 bytes block) → (ad : AdoptsOk s0 s2 s3 p ps t g n (option_to_list
    pl.text.extent)) → ReplacesTexts s0 new p (option_to_list t.extent) (ad.array ∷ option_to_list pl.text.extent)
    (insert ps i pl.text) (table n (Some ad.array)) → InsertsTextOk s0 new p ps t i bytes
growing-ok {s0} {s1} {t} {n} i {bytes} more wanted a pl ad now =
    let l = live_of s0.bytes in let x = asked-extent a in
    let same = same-block (sym (grown-to l n t more x.regrown) ∙ ad.grown) in
    let live : with_array l t (table n (Some ad.array)) ≡ live_of s1.bytes = more-array l t n ad.array more
    ∙ ap (λ (y : Extent). resized l y) (sym same) ∙ sym x.live in
    record {
      table = table n (Some ad.array);
      grown = subst (λ k. grown_backing l 16 k t ≡ Some (table n (Some ad.array))) wanted ad.grown;
      text = pl.text;
      placed = ap (λ (s : LiveSet). placed_text s bytes) live ∙ pl.placed;
      now = now;
    }

-- no space for the larger array: nothing changes
pub growing-none : {s0 s1 : WindowState} {p : Place} {ps : List OwnedText} {t : BackingArray} (n : ℕ)
    (bytes : List ℕ) {e : Refusal}
    → IsTexts s0.bytes p ps t → t.capacity < n → n ≡ capacity_for_one (length ps) t.capacity
    → LacksFit s0 s1 (regrow (live_of s0.bytes) t.extent (16 * n)) e → RefusesPut s0 s1 ps t bytes e
growing-none {s0} {t = t} n bytes s more wanted r = refused-same s.heap r.refusal
    (ap (after (live_of s0.bytes) t bytes) (ap (λ k. grown_backing (live_of s0.bytes) 16 k t) (sym wanted)
    ∙ not-grown (live_of s0.bytes) n t more r.none)) r.same

-- without space for the string, the array is freed
pub growing-err : {s0 s1 s2 new : WindowState} (ps : List OwnedText) (t : BackingArray) {g : ℕ} (n : ℕ)
    {bytes : List ℕ} {e : Refusal} → t.capacity < n → n ≡ capacity_for_one (length ps) t.capacity → t.capacity
    ≤ length ps → ReservesArray s0 s1 t.extent (16 * n) g → LacksFit s1 s2 (placed_text (live_of s1.bytes) bytes) e
    → KeepsLiveSet current s0 new → RefusesPut s0 new ps t bytes e
growing-err {s0} {s1} ps t n {bytes} more wanted full a r back =
    let l = live_of s0.bytes in let x = asked-extent a in
    record {
      refusal = r.refusal;
      none = ap (after l t bytes) (ap (λ k. grown_backing l 16 k t) (sym wanted) ∙ grown-to l n t more x.regrown)
          ∙ ap (λ (s : LiveSet). placed_text s bytes) (more-array l t n x.extent more ∙ sym x.live) ∙ r.none;
      restored = back;
      first = record {
        text = λ f none. absurd (omega (arith, f, full));
        array = λ none. let both = sym (ap (λ k. grown_backing l 16 k t) (sym wanted) ∙ grown-to l n t more x.regrown)
            ∙ none in absurd (cc);
      };
    }

full-if : (k c : ℕ) (b : Bool) → nat_lt k c ≡ b → c ≤ k → (if b then c else max 4 (2 * c)) ≡ max 4 (2 * c)
full-if k c true e f = absurd (grind arith)
full-if k c false e f = refl

-- a larger capacity than before
pub wanted-more : (n k c : ℕ) → c ≤ k → n ≡ capacity_for_one k c → n ≡ max 4 (2 * c)
wanted-more n k c f e = e ∙ full-if k c (nat_lt k c) refl f

-- ---- conditions of the calls

-- an array has fewer than 2^30 bytes
pub few_places : (c : WindowState) {p : Place} {ps : List OwnedText} {t : BackingArray} → IsTexts c.bytes p ps t
    → 16 * t.capacity < 1073741824
few_places c s = capacity-bytes c s.heap (texts-stand s)

-- the larger capacity is larger, and has a place
pub more-places : (c : WindowState) {p : Place} {ps : List OwnedText} {t : BackingArray} (n : ℕ)
    → IsTexts c.bytes p ps t
    → t.capacity ≤ length ps → n ≡ capacity_for_one (length ps) t.capacity → (t.capacity < n) × (length ps < n)
more-places c {ps} {t} n s f e =
    let is = wanted-more n (length ps) t.capacity f e in (omega (arith, f, is), omega (arith, f, is, s.fits))

-- the larger capacity does not overflow
pub small-wanted : (c : WindowState) {p : Place} {ps : List OwnedText} {t : BackingArray} (n : ℕ)
    → IsTexts c.bytes p ps t
    → t.capacity ≤ length ps → n ≡ capacity_for_one (length ps) t.capacity → 16 * n < 18446744073709551616
small-wanted c {ps} {t} n s f e = let few : 16 * t.capacity < 1073741824 = few_places c s in let is : n ≡ max 4
    (2 * t.capacity) = wanted-more n (length ps) t.capacity f e in omega (arith, few, is)
