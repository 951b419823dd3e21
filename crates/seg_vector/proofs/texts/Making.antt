-- A text and a vector of texts, made with their contents: their blocks are allocated first, and then the three words
-- are written over any old bytes.
use Rattle.seg_vector.proofs.Common as W
use W.{◌≡◌, refl, sym, ap, subst, ◌∙◌, ℕ, zero, suc, ◌+◌, ◌*◌, ◌<◌, ◌%◌, Option, Some, None, List, [], ◌∷◌, length}
use W.{arith, IsTrue, option_map, option_to_list, AllByRecursion, nat_lt, and_from, eq-eqb, lt-ltb, Memory, WindowState}
use W.{bytes_of, Storage, current, ExchangesBlocks, Extent, LiveSet, handle, place, serves, IsHeap, IsNone, has_room}
use W.{live_of, BackingArray, has_backing, no_backing, laid-heap, exchange-next, exchange-wide, place-serves, Place}
use W.{IsContainer, place_at, IsStorage, IsOwnedText, IsServed, OwnedText, PlacesTextOk, SetsWords, SwapsBlocks}
use W.{GrowsTextOk, LacksFit, LacksSpace, Refusal, AssignsTextsOk, IsTexts, ReplacesTexts, StoresArrayOk, placed_text}
use W.{ChangesBytes, SameBlock, text_blocks, Ok}
use Rattle.seg_vector.proofs.storage.HeadAndBlock.{IsRun, came-found, came-others, facts-own, head-changed}
use Rattle.seg_vector.proofs.storage.HeadAndBlock.{head-exchanged, head-gaps, head-kept, head-room, none-of-none}
use Rattle.seg_vector.proofs.storage.HeadAndBlock.{room-head, run-found, run-none, serves-full, table}
use Rattle.seg_vector.proofs.storage.Storage.{grown-more, grown-same, regrow-new}
use Rattle.seg_vector.proofs.texts.Blocks.{element-in, held-texts, links-moved, of-none, owned-same, same-loose}
use Rattle.seg_vector.proofs.texts.Calls.{empty-placed, some-placed}
use Rattle.seg_vector.proofs.texts.LayOut.{all-beside, new-array}
use Rattle.seg_vector.proofs.texts.Growth.{new-table}
use Rattle.best_fit.specs.Fit.{regrow}
use Rattle.seg_vector.specs.{TextsCalls.MakesTexts, Vector.grown_backing}

-- ---- the blocks are allocated, and then the words are written

pub record IsMade (old mid new : WindowState) (p : Place) (come : List Extent) (n : ℕ) (u : BackingArray) :
    Type 0 where
  pub run : IsRun old new p [] come n u
  pub none : IsNone p.handle come
  pub stay : AllByRecursion (SameBlock (bytes_of mid.bytes) (bytes_of new.bytes)) come

pub made : {old mid new : WindowState} {p : Place} {come : List Extent} {storage : Option ℕ} {n : ℕ} (o : Option Extent)
    → IsHeap current old.bytes → IsTrue (has_room (live_of old.bytes) p.handle (p.at + 24))
    → SwapsBlocks old mid [] come → SetsWords mid new p storage n → storage ≡ option_map handle o
    → IsMade old mid new p come n (table n o)
made {old} {mid} {new} {p} {come} {n = n} o heap room x q e =
    let there = head-kept (room-head old p heap room) x tt in let still = laid-heap _ _ x.live in
    let written = head-exchanged p still (head-room there) q.change in
    let run : IsRun old new p [] come n (table n o) = record {
      change = exchange-next _ old mid new _ 24 [] come [] come [] (record { same = λ zs r. refl })
          (exchange-wide _ old mid (place_at p) 24 [] come x) written;
      heap = laid-heap _ _ q.change.live;
      head = head-changed there q.change;
      words = record { link = q.link ∙ e; len_word = q.len_word; capacity = q.capacity };
    } in
    let none = run-none (room-head old p heap room) tt run in
    let stay = all-beside come still there written (came-found x) none (none-of-none come) in
    record { run = run; none = none; stay = stay }

-- the head still has its room after the blocks are allocated
pub head-still : {old mid : WindowState} (p : Place) {come : List Extent} → IsHeap current old.bytes
    → IsTrue (has_room (live_of old.bytes) p.handle (p.at + 24)) → SwapsBlocks old mid [] come
    → IsTrue (has_room (live_of mid.bytes) p.handle (p.at + 24))
head-still {old} p heap room x = head-room (head-kept (room-head old p heap room) x tt)

-- ---- a text

-- the storage of a text is the block in which it was placed
fused : (n : ℕ) (bytes : List ℕ) (r : Option Extent)
    → option_map (λ (x : Extent). table n (Some x)) r ≡ option_map (λ (q : OwnedText). table n q.extent)
    (option_map (λ (x : Extent). let q : OwnedText = record { bytes = bytes; extent = Some x } in q) r)
fused n bytes None = refl
fused n bytes (Some x) = refl

asked-new : (l : LiveSet) (n : ℕ) → regrow l None (1 * n) ≡ place l n Storage
asked-new l n = regrow-new l (1 * n) ∙ ap (λ k. place l k Storage) (omega arith)

text-asked : (l : LiveSet) (bytes : List ℕ) → grown_backing l 1 (length bytes) no_backing
    ≡ option_map (λ (q : OwnedText). table (length bytes) q.extent) (placed_text l bytes)
text-asked l bytes = by (length bytes) refl
  where
    by : (k : ℕ) → length bytes ≡ k → grown_backing l 1 (length bytes) no_backing
        ≡ option_map (λ (q : OwnedText). table (length bytes) q.extent) (placed_text l bytes)
    by zero e = grown-same l 1 (length bytes) no_backing (omega (arith, e)) ∙ ap (λ k. Some (table k None)) (sym e)
        ∙ sym (ap (option_map (λ (q : OwnedText). table (length bytes) q.extent)) (empty-placed l bytes e))
    by (suc k) e = grown-more l 1 (length bytes) no_backing (omega (arith, e))
        ∙ ap (option_map (λ (x : Extent). table (length bytes) (Some x))) (asked-new l (length bytes))
        ∙ fused (length bytes) bytes (place l (length bytes) Storage)
        ∙ sym (ap (option_map (λ (q : OwnedText). table (length bytes) q.extent))
        (some-placed l bytes (omega (arith, e))))

text-table : (bytes : List ℕ) (o : Option Extent) → IsServed (record { bytes = bytes; extent = o })
    → IsTrue (has_backing Storage 1 (table (length bytes) o))
text-table bytes None s = eq-eqb (length bytes) 0 (ap length s)
text-table bytes (Some x) s = and_from (nat_lt 0 (length bytes)) (serves x Storage (1 * length bytes))
    (lt-ltb 0 (length bytes) s.0) (subst (λ k. IsTrue (serves x Storage k)) (omega arith) s.1)

owned-storage : (m : Memory) (n : ℕ) (bytes : List ℕ) (o : Option Extent)
    → IsOwnedText m (record { bytes = bytes; extent = o }) → IsStorage m (table n o) bytes
owned-storage m n bytes None h = h
owned-storage m n bytes (Some x) h = h

-- a text that was placed, and then the words were written
pub made-text : {old mid new : WindowState} {p : Place} {bytes : List ℕ} {storage : Option ℕ} → IsHeap current old.bytes
    → p.at % 8 ≡ 0 → IsTrue (has_room (live_of old.bytes) p.handle (p.at + 24)) → PlacesTextOk old mid bytes storage
    → SetsWords mid new p storage (length bytes) → GrowsTextOk old new p no_backing (length bytes) bytes
made-text {old} {mid} {new} {p} {bytes} heap whole room pl q =
    let o = pl.text.extent in let n = length bytes in let m = made o heap room pl.change q pl.at in let r = m.run in
    let serving = subst (λ bs. IsServed (record { bytes = bs; extent = o })) pl.same pl.served in
    let owned = same-loose (bytes_of mid.bytes) (bytes_of new.bytes) pl.text.bytes o m.stay pl.served pl.owned in
    record {
      table = table n o;
      grown = text-asked (live_of old.bytes) bytes
          ∙ ap (option_map (λ (q : OwnedText). table n q.extent)) pl.placed;
      now = record {
        change = r.change;
        gaps = λ same. head-gaps p room (subst (λ (c : WindowState). ChangesBytes current c new (place_at p) 24)
            (pl.nothing (sym same)) q.change);
        text = record {
          heap = r.heap;
          words = record {
            link = r.words.link;
            len_word = r.words.len_word;
            capacity = r.words.capacity;
            storage = owned-storage (bytes_of new.bytes) n bytes o
                (subst (λ bs. IsOwnedText (bytes_of new.bytes) (record { bytes = bs; extent = o })) pl.same owned);
          };
          aligned = whole;
          room = head-room r.head;
          table = text-table bytes o serving;
          fits = omega arith;
          long = omega arith;
          own = facts-own (live_of new.bytes) p.handle o (run-found r) m.none;
        };
      };
    }

-- there is no space for the text
pub text-lacks : {old new : WindowState} (bytes : List ℕ) {why : Refusal}
    → LacksFit old new (placed_text (live_of old.bytes) bytes) why → LacksSpace old new 1 (length bytes) no_backing why
text-lacks {old} bytes f = record {
  refusal = f.refusal;
  none = text-asked (live_of old.bytes) bytes
      ∙ ap (option_map (λ (q : OwnedText). table (length bytes) q.extent)) f.none;
  same = f.same;
}

-- ---- a vector of texts

-- the array and the texts were stored, and then the words were written
pub made-texts : {old mid new : WindowState} {p : Place} {g : ℕ} (n : ℕ) {more : List (List ℕ)}
    → IsHeap current old.bytes → p.at % 8 ≡ 0 → IsTrue (has_room (live_of old.bytes) p.handle (p.at + 24))
    → StoresArrayOk old mid more g → n ≡ length more → 0 < n → SetsWords mid new p (Some g) n
    → AssignsTextsOk old new p [] no_backing more
made-texts {old} {mid} {new} {p} n {more} heap whole room w e some q =
    let y = w.block in let qs = w.texts in let come : List Extent = y ∷ text_blocks qs in
    let u = table n (Some y) in let m = made (Some y) heap room w.change q (ap (λ k. Some k) w.at) in let r = m.run in
    let serves_all = place-serves (live_of old.bytes) (16 * n) Storage y
    (subst (λ k. place (live_of old.bytes) (16 * k) Storage ≡ Some y) (sym e) w.fit) in
    let big = serves-full y (16 * n) serves_all in let long : n ≡ length qs = e ∙ sym w.long in
    let found = run-found r in
    let texts : IsTexts new.bytes p qs u = record {
      heap = r.heap;
      words = record {
        link = r.words.link;
        len_word = r.words.len_word ∙ long;
        capacity = r.words.capacity;
        array = links-moved (bytes_of mid.bytes) (bytes_of new.bytes) (handle y) (handle y) qs w.links
            (λ j f. element-in (handle y + 16 * j) m.stay.0 (omega arith) (omega (arith, f, long, big)));
        texts = owned-same (bytes_of mid.bytes) (bytes_of new.bytes) qs m.stay.1 w.served w.owned;
      };
      aligned = whole;
      room = head-room r.head;
      table = new-table n y some serves_all;
      fits = omega (arith, long);
      own = facts-own (live_of new.bytes) p.handle (Some y) (found.0, tt) (m.none.0, tt);
      held = held-texts (live_of new.bytes) qs w.served found.1;
      apart = of-none p.handle (text_blocks qs) m.none.1;
      others = came-others r.change;
    } in
    record {
      table = table (length more) (Some y);
      array = new-array (live_of old.bytes) (length more) (omega (arith, e, some))
          ∙ ap (option_map (λ (x : Extent). table (length more) (Some x))) w.fit;
      texts = qs;
      placed = w.placed;
      now = subst (λ k. ReplacesTexts old new p [] come qs (table k (Some y))) e
          (record { change = r.change; gaps = λ same. absurd (cc); texts = texts });
    }

-- at least one text was requested
pub makes-some : (old new : WindowState) (p : Place) (more : List (List ℕ)) → 0 < length more
    → AssignsTextsOk old new p [] no_backing more → MakesTexts old new p more (Ok tt)
makes-some old new p [] f a = absurd (omega (arith, f))
makes-some old new p (x ∷ xs) f a = a
