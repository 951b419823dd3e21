-- The three words of a container are written, and its storage is freed or shortened to its elements.
use Rattle.seg_vector.proofs.Common.{◌≡◌, refl, sym, ap, subst, ◌∙◌, inl, ℕ, ◌+◌, ◌%◌, ◌≤◌, Option, Some, None, List}
use Rattle.seg_vector.proofs.Common.{arith, ◌≢◌, ◌*◌, min, ◌∷◌, length, ◌==◌, IsTrue, option_map, option_to_list}
use Rattle.seg_vector.proofs.Common.{nat_lt}
use Rattle.seg_vector.proofs.Common.{and_from, cond-false, cond-true, eq-eqb, le-leb, leb-true, lt-ltb, ne_eqb}
use Rattle.seg_vector.proofs.Common.{WindowState, bytes_of, word_at, HasBytesAt, current, SameBytesExcept-word, link_at}
use Rattle.seg_vector.proofs.Common.{SameBytesExcept-link, ExchangesBlocks, Extent, LiveSet, handle, holds, shorter}
use Rattle.seg_vector.proofs.Common.{ChangesBytes, Deallocates, extent_at, has_room, live_of, ResizesBlock}
use Rattle.seg_vector.proofs.Common.{ShrinksInPlace, BackingArray, no_backing, same_role, serves, changed-live}
use Rattle.seg_vector.proofs.Common.{laid-heap, read-same, shorter-IsShorter, spread-refl, exchange-released}
use Rattle.seg_vector.proofs.Common.{exchange-resized, Role, Storage, Place, FreesStorageOk, ShrinksStorageOk}
use Rattle.seg_vector.proofs.Common.{IsContainer, place_at, [], nil_from_length, KeepsGaps, SetsWords}
use Rattle.seg_vector.proofs.storage.HeadAndBlock.{AreHeadWords, IsRun, beside-head, head-gaps, head-wider, none-some}
use Rattle.seg_vector.proofs.storage.HeadAndBlock.{room-head}
use Rattle.seg_vector.proofs.storage.HeadAndBlock.{run-headed, run-stands, run-swapped, same-some, stands-run, table}
use Rattle.seg_vector.proofs.storage.HeadAndBlock.{table-full}
use Rattle.seg_vector.proofs.storage.Storage.{storage-role}
use Rattle.raw_region.proofs.Bytes.{more-times}
use Rattle.best_fit.specs.Table.{shrunk_backing}

-- ---- a container without a place

-- a container whose three words are written is empty
pub started : {old new : WindowState} (p : Place) (each : ℕ) → p.at % 8 ≡ 0
    → IsTrue (has_room (live_of old.bytes) p.handle (p.at + 24)) → SetsWords old new p None 0
    → IsContainer new.bytes p each 0 no_backing []
started {old} {new} p each a r w = record {
  heap = laid-heap _ _ w.change.live;
  words = record { link = w.link; len_word = w.len_word; capacity = w.capacity; storage = refl };
  aligned = a;
  room = subst (λ l. IsTrue (has_room l p.handle (p.at + 24))) (sym (changed-live _ old new _ 24 w.change)) r;
  table = refl;
  fits = omega arith;
  long = omega arith;
  own = tt;
}

-- ---- the storage is freed

-- the words are an empty container with capacity 0
emptied : {old mid : WindowState} {p : Place} {each len : ℕ} {t : BackingArray} {bytes : List ℕ}
    → IsContainer old.bytes p each len t bytes
    → ChangesBytes current old mid (place_at p) 24 → IsContainer mid.bytes p each 0 no_backing []
    → IsRun old mid p (option_to_list t.extent) (option_to_list t.extent) 0 no_backing
emptied {old} s c1 e = run-headed {k = 0} {u = no_backing} (stands-run old s) c1
    (record { link = e.words.link; len_word = e.words.len_word; capacity = e.words.capacity })

-- the storage of a container is freed, and its words have none
pub given-back : {old mid new : WindowState} {p : Place} {each len c g : ℕ} {o : Option Extent} {bytes : List ℕ}
    → IsContainer old.bytes p each len (table c o) bytes → link_at (bytes_of old.bytes) (place_at p) ≡ Some g
    → ChangesBytes current old mid (place_at p) 24 → IsContainer mid.bytes p each 0 no_backing []
    → Deallocates current mid new g → FreesStorageOk old new p each (table c o)
given-back {o = None} s link c1 e r = none-some s.words.link link
given-back {old} {mid} {new} {o = Some x} s link c1 e r =
    let g_is = same-some (sym link ∙ s.words.link) in
    let gone = exchange-released current mid new x 0 0 (subst (Deallocates current mid new) g_is r) in
    let run = run-swapped [] (spread-refl (x ∷ [])) (emptied s c1 e) gone ((λ f. s.own.1 (sym f)), tt) in
    record {
      change = run.change;
      gaps = λ e. none-some e refl;
      stands = run-stands [] s run refl (omega arith) (omega arith) refl;
    }

-- a container without storage has nothing to free
pub given-nothing : {old new : WindowState} {p : Place} {each len c : ℕ} {o : Option Extent} {bytes : List ℕ}
    → IsContainer old.bytes p each len (table c o) bytes → link_at (bytes_of old.bytes) (place_at p) ≡ None
    → ChangesBytes current old new (place_at p) 24 → IsContainer new.bytes p each 0 no_backing []
    → FreesStorageOk old new p each (table c o)
given-nothing {p} {o = None} s link c1 e =
    record { change = (emptied s c1 e).change; gaps = λ same. head-gaps p s.room c1; stands = e }
given-nothing {o = Some x} s link c1 e = none-some link s.words.link

-- an option that is never some is none
pub none-left : (o : Option ℕ) → ((x : ℕ) → o ≡ Some x → ⊥) → o ≡ None
none-left None n = refl
none-left (Some x) n = absurd (n x refl)

-- ---- the storage after the cut

cut-none : (l : LiveSet) (each n : ℕ) (t : BackingArray) → n ≡ 0 → shrunk_backing l each n t ≡ no_backing
unfolding shrunk_backing
cut-none l each n t e = cond-true (n == 0) no_backing
    (record { capacity = n; extent = option_map (λ (x : Extent). shorter l x (each * n)) t.extent }) (eq-eqb n 0 e)

-- the storage that is left after a cut to `n` elements
pub cut-some : (l : LiveSet) (each n c : ℕ) (x : Extent) → 1 ≤ n → shrunk_backing l each n (table c (Some x)) ≡ table n
    (Some (shorter l x (each * n)))
unfolding shrunk_backing
cut-some l each n c x f = cond-false (n == 0) no_backing (table n (Some (shorter l x (each * n))))
    (ne_eqb n 0 (λ e. omega (arith, e, f)))

-- ---- without elements

-- fitting an empty container gives its storage back
pub fits-nothing : {old new : WindowState} {p : Place} {each len : ℕ} {t : BackingArray} {bytes : List ℕ}
    → IsContainer old.bytes p each len t bytes → len ≡ 0 → FreesStorageOk old new p each t
    → ShrinksStorageOk old new p each len t bytes
fits-nothing {old} {new} {p} {each} {len} {t} {bytes} s e r =
    let cut = cut-none (live_of old.bytes) each len t e in
    let none : each * len ≡ 0 = ap (λ k. each * k) e ∙ (let z : each * 0 ≡ 0 = omega arith in z) in
    let empty = nil_from_length bytes (s.long ∙ none) in
    subst (λ (bs : List ℕ). ShrinksStorageOk old new p each len t bs) (sym empty) (record {
      change = subst (λ (u : BackingArray). ExchangesBlocks current old new (place_at p) 24 (option_to_list t.extent)
          (option_to_list u.extent)) (sym cut) r.change;
      gaps = λ same. r.gaps (same ∙ ap (λ (u : BackingArray). u.extent) cut);
      stands = subst (λ (u : BackingArray). IsContainer new.bytes p each len u []) (sym cut)
          (subst (λ k. IsContainer new.bytes p each k no_backing []) (sym e) r.stands);
    })

-- ---- with elements

-- the block is the shorter one of its own
resized-here : {b e : WindowState} (l : LiveSet) {x : Extent} {g n : ℕ} → live_of b.bytes ≡ l → extent_at l g ≡ Some x
    → ShrinksInPlace current b e g n → ResizesBlock current b e x (shorter l x n)
resized-here {b} {e} l {x} {g} {n} live found s =
    let same = same-some (sym s.found ∙ ap (λ (k : LiveSet). extent_at k g) live ∙ found) in
    subst (λ (k : LiveSet). ResizesBlock current b e x (shorter k x n)) live
    (subst (λ (y : Extent). ResizesBlock current b e y (shorter (live_of b.bytes) y n)) same s.shortened)

-- the case in which the shorter block is the block itself
unshortened : {b e : WindowState} (l : LiveSet) {x : Extent} {g n : ℕ} → live_of b.bytes ≡ l → extent_at l g ≡ Some x
    → (s : ShrinksInPlace current b e g n) → shorter l x n ≡ x → shorter (live_of b.bytes) s.extent n ≡ s.extent
unshortened {b} l {x} {g} {n} live found s is =
    let same = same-some (sym s.found ∙ ap (λ (k : LiveSet). extent_at k g) live ∙ found) in
    (λ i. shorter (live i) (same i) n) ∙ is ∙ sym same

-- the shorter block
record Short (x y : Extent) (n : ℕ) : Type 0 where
  begins : handle y ≡ handle x
  less : y.len ≤ x.len
  long : n + 16 ≤ y.len
  serves_it : IsTrue (serves y Storage n)

short : (l : LiveSet) (x : Extent) (n : ℕ) → IsTrue (same_role x.role Storage) → n + 16 ≤ x.len
    → Short x (shorter l x n) n
short l x n role big =
    let y = shorter l x n in let sh = shorter-IsShorter l x n in let enough = sh.holds (le-leb (n + 16) x.len big) in
    record {
      begins = ap (λ (z : Extent). handle z) sh.same;
      less = sh.less;
      long = leb-true (n + 16) y.len enough;
      serves_it = and_from (same_role y.role Storage) (holds y n)
          (subst (λ (r : Role). IsTrue (same_role r Storage)) (sym (ap (λ (z : Extent). z.role) sh.same)) role) enough;
    }

-- storage that is shortened to its elements: the container has them
pub fitted : {old mid new : WindowState} {p : Place} {each len c g : ℕ} {o : Option Extent} {bytes : List ℕ}
    → 1 ≤ len → IsContainer old.bytes p each len (table c o) bytes → link_at (bytes_of old.bytes) (place_at p) ≡ Some g
    → ChangesBytes current old mid (p.handle + (p.at + 16)) 8 → word_at (bytes_of mid.bytes) (p.handle + (p.at + 16))
    ≡ len → ShrinksInPlace current mid new g (each * len) → ShrinksStorageOk old new p each len (table c o) bytes
fitted {o = None} some s link c1 word sh = none-some s.words.link link
fitted {old} {mid} {new} {p} {each} {len} {c} {g} {o = Some x} {bytes} some s link c1 word sh =
    let l = live_of old.bytes in let m = bytes_of old.bytes in let mi = bytes_of mid.bytes in
    let m' = bytes_of new.bytes in let at = place_at p in let n : ℕ = each * len in
    let y = shorter l x n in let g_is = same-some (sym link ∙ s.words.link) in
    let other : p.handle ≢ handle x = λ e. s.own.1 (sym e) in
    let full = table-full each c x s.table in let less = more-times each len c s.fits in
    let q = short l x n (storage-role each c (Some x) s.table) (omega (arith, full, less)) in
    let wide = head-wider p c1 (omega arith) (omega arith) in
    let one = run-headed {k = len} {u = table len (Some x)} (stands-run old s) wide (record {
      link = SameBytesExcept-link m mi _ 8 at c1.rest (inl (omega arith)) ∙ s.words.link;
      len_word = SameBytesExcept-word m mi _ 8 (at + 8) c1.rest (inl (omega arith)) ∙ s.words.len_word;
      capacity = ap (word_at mi) (omega arith) ∙ word;
    }) in
    let r = resized-here {b = mid} {e = new} l {g = handle x} {n = n} (changed-live current old mid at 24 wide) s.own.0
    (subst (λ k. ShrinksInPlace current mid new k n) g_is sh) in
    let two = run-swapped [] (spread-refl (x ∷ [])) one (exchange-resized current mid new x y 0 0 q.begins r)
    (other, tt) in
    let words : AreHeadWords m' at len (table len (Some y)) = record {
      link = two.words.link ∙ ap (λ k. Some k) (sym q.begins);
      len_word = two.words.len_word;
      capacity = two.words.capacity;
    } in
    let three : IsRun old new p (x ∷ []) (y ∷ []) len (table len (Some y)) =
    record { change = two.change; heap = two.heap; head = two.head; words = words } in
    let k1 = beside-head (handle x) s.heap (room-head old p s.heap s.room) wide s.own.0 other in let total = s.long in
    let least : min x.len y.len ≡ y.len = omega (arith, q.less) in
    let stored : HasBytesAt mi (handle x) bytes = read-same m mi _ _ (handle x) (length bytes) k1.payload (omega arith)
    (omega (arith, full, less, total)) ∙ s.words.storage in
    let carried : HasBytesAt m' (handle x) bytes =
    read-same mi m' _ _ (handle x) (length bytes) r.still.payload (omega arith)
    (omega (arith, least, q.long, total)) ∙ stored in
    let serving = and_from (nat_lt 0 len) (serves y Storage n) (lt-ltb 0 len (omega (arith, some))) q.serves_it in
    let stands = run-stands bytes s three serving (omega arith) s.long
    (subst (λ k. HasBytesAt m' k bytes) (sym q.begins) carried) in
    let cut = cut-some l each len c x some in
    record {
      change = subst (λ (u : BackingArray).
          ExchangesBlocks current old new at 24 (x ∷ []) (option_to_list u.extent)) (sym cut)
          three.change;
      gaps = λ same. subst (λ (v : WindowState). KeepsGaps old v) (sym (sh.same (unshortened l {x = x} {g = g} {n = n}
          (changed-live current old mid at 24 wide) (subst (λ k. extent_at l k ≡ Some x) (sym g_is) s.own.0) sh
          (same-some (sym (same ∙ ap (λ (u : BackingArray). u.extent) cut)))))) (head-gaps p s.room wide);
      stands = subst (λ (u : BackingArray). IsContainer new.bytes p each len u bytes) (sym cut) stands;
    }
