-- A segment with nothing in it: bytes that are 0, then the tags of a heap with no block, then the header.
use Rattle.segment_manager.proofs.Common.{◌≡◌, SameSurroundings, bytes_of, gap_head, no_backing, IsIndexAt, IsHeader}
use Rattle.segment_manager.proofs.Common.{DenotesCurrent, refl, subst, List, arith, true, false, Memory, SameBytes}
use Rattle.segment_manager.proofs.Common.{gaps, Mode, empty, live, sym, ap, ◌∙◌, ℕ, ◌+◌, ◌-◌, ◌%◌, ◌<◌, ◌≤◌, ◌⊎◌, inl}
use Rattle.segment_manager.proofs.Common.{inr, [], ◌∷◌, WindowState, length, IsTrue, nat_lt, AreZero, SameBytesExcept}
use Rattle.segment_manager.proofs.Common.{word_at, current, EncodesLiveSet, live_of, AllByRecursion, cond-true}
use Rattle.segment_manager.proofs.Common.{ltb-false, is_legal_size, lay_out_one, legal_size}
use Rattle.std.proofs.lemmas.Bool.{cases_Bool}
use Rattle.raw_region.specs.{Memory.cut_at, Memory.zeros, Regions.with_bytes}
use Rattle.raw_region.proofs.Laws.{SameBytesExcept-word_above, SameBytesExcept-word_below, zeros-AreZero, word_moved}
use Rattle.offset_link.specs.Link.{target_of}
use Rattle.best_fit.specs.{Extents.gap_between, Heap.HasNullLinks, Heap.FormatsHeap, Heap.no_blocks}
use Rattle.segment_manager.specs.{Denotes.magic_number, Calls.CreatesOk}

-- ---- zeros

no_bytes : Memory
no_bytes k = 0

no_word : word_at no_bytes 0 ≡ 0
unfolding word_at no_bytes
no_word = refl

-- a word of zeros is 0
pub zero-word : {m : Memory} {a b : ℕ} (at : ℕ) → AreZero m a b → a ≤ at → at + 8 ≤ b → word_at m at ≡ 0
unfolding no_bytes
zero-word {m} at z f g = word_moved no_bytes m 0 at (λ k i j h e l. z.at i (omega arith) (omega arith)) ∙ no_word

zero-same : {m m' : Memory} {from n : ℕ} {a b : ℕ}
    → (b ≤ from) ⊎ (from + n ≤ a) → SameBytesExcept m m' from n → AreZero m a b → AreZero m' a b
zero-same (inl h) s z = record { at = λ k f g. s.at k (inl (omega arith)) ∙ z.at k f g }
zero-same (inr h) s z = record { at = λ k f g. s.at k (inr (omega arith)) ∙ z.at k f g }

word-same : {m m' : Memory} {from n : ℕ} (at : ℕ) → (at + 8 ≤ from) ⊎ (from + n ≤ at) → SameBytesExcept m m' from n
    → word_at m' at ≡ word_at m at
word-same {m} {m'} {from} {n} at (inl h) s = SameBytesExcept-word_below m m' from n at s h
word-same {m} {m'} {from} {n} at (inr h) s = SameBytesExcept-word_above m m' from n at s h

-- ---- the header's words

-- an index without a place: the null link, and two words that are 0
pub no_index : {m : Memory} {at : ℕ} → word_at m at ≡ 1 → AreZero m (at + 8) (at + 24) → IsIndexAt m at no_backing []
no_index {at} e z = record {
  link = ap (target_of at) e;
  count = zero-word (at + 8) z (omega arith) (omega arith);
  capacity = zero-word (at + 16) z (omega arith) (omega arith);
  entries = refl;
}

-- five words that are written one after another
module _ {m a b c d e : Memory} (size : ℕ) (zeros : AreZero m 32 128) (s : SameBytesExcept m a 0 8)
    (t : SameBytesExcept a b 8 8)
    (u : SameBytesExcept b c 16 8) (v : SameBytesExcept c d 32 8) (w : SameBytesExcept d e 56 8) where
  kept : {from to : ℕ} → 32 ≤ from → to ≤ 128 → (to ≤ 32) ⊎ (40 ≤ from) → (to ≤ 56) ⊎ (64 ≤ from) → AreZero e from to
  kept low high beside beside' =
      zero-same beside' w (zero-same beside v (zero-same (inr (omega arith)) u (zero-same (inr (omega arith)) t
      (zero-same (inr (omega arith)) s (record { at = λ k f g. zeros.at k (omega arith) (omega arith) })))))

  -- the header that was written is that of its size
  pub header-written : word_at a 0 ≡ magic_number → word_at b 8 ≡ current → word_at c 16 ≡ size
      → IsHeader current e size
  header-written magic version long = record {
    magic = word-same 0 (inl (omega arith)) w ∙ word-same 0 (inl (omega arith)) v ∙ word-same 0 (inl (omega arith)) u
        ∙ word-same 0 (inl (omega arith)) t ∙ magic;
    version = word-same 8 (inl (omega arith)) w ∙ word-same 8 (inl (omega arith)) v ∙ word-same 8 (inl (omega arith)) u
        ∙ version;
    size_word = word-same 16 (inl (omega arith)) w ∙ word-same 16 (inl (omega arith)) v ∙ long;
    zeros = kept (omega arith) (omega arith) (inr (omega arith)) (inr (omega arith));
  }

  -- the index of names that was written is empty
  pub named-written : word_at d 32 ≡ 1 → IsIndexAt e 32 no_backing []
  named-written null = no_index (word-same 32 (inl (omega arith)) w ∙ null)
      (kept (omega arith) (omega arith) (inr (omega arith)) (inl (omega arith)))

  -- the index of kinds that was written is empty
  pub unique-written : word_at e 56 ≡ 1 → IsIndexAt e 56 no_backing []
  unique-written null = no_index null (kept (omega arith) (omega arith) (inr (omega arith)) (inr (omega arith)))

-- ---- the empty directory

-- bytes with such a header whose heap has no block
pub stands-empty : (old : List ℕ) {new : List ℕ} {size : ℕ}
    → EncodesLiveSet current old (record { size = size; extents = [] })
    → EncodesLiveSet current new (live_of old) → IsHeader current (bytes_of new) size
    → IsIndexAt (bytes_of new) 32 no_backing []
    → IsIndexAt (bytes_of new) 56 no_backing [] → DenotesCurrent new (empty size)
unfolding live
stands-empty old {new} {size} l h header named unique =
    let heap : EncodesLiveSet current new (live (empty size)) =
    subst (EncodesLiveSet current new) (lay_out_one current old (record { size = size; extents = [] }) l) h in
    record {
      denotes = record {
        directory = record { proper = heap.proper; objects = refl; by_offset = refl; named = refl; unique = refl };
        header = header;
        heap = heap;
        named = named;
        unique = unique;
        objects = tt;
      };
    }

-- ---- the window of a segment, from the region on

-- the one gap, if there is one, has null links
null-links : (m : Memory) (size : ℕ) → AllByRecursion (HasNullLinks current m) (gaps (no_blocks size)) → (at : ℕ)
    → at % 8 ≡ 0 → 144 ≤ at → at < 128 + gap_head current → at < size - 16 → word_at m at ≡ 1
unfolding gaps
null-links m size all at even low high below = by_test (cases_Bool (nat_lt 128 (size - 16))) all
  where
    by_test : (nat_lt 128 (size - 16) ≡ true) ⊎ (nat_lt 128 (size - 16) ≡ false)
        → AllByRecursion (HasNullLinks current m) (gap_between 128 (size - 16)) → word_at m at ≡ 1
    by_test (inl e) h =
        let one : AllByRecursion (HasNullLinks current m) (record { offset = 128; len = size - 16 - 128 } ∷ []) =
        subst (AllByRecursion (HasNullLinks current m))
        (cond-true (nat_lt 128 (size - 16)) (record { offset = 128; len = size - 16 - 128 } ∷ []) [] e) h in
        one.0 at even low high
    by_test (inr e) h = let l = ltb-false 128 (size - 16) e in absurd (omega arith)

-- a window of zeros that was laid out
module _ (region : List ℕ) (base : ℕ) {size : ℕ} {window fresh : WindowState}
    (is_window : window ≡ with_bytes (cut_at region base size) (zeros size)) (long : length window.bytes ≡ size)
    (f : FormatsHeap current window fresh) where
  cleared : AreZero (bytes_of window.bytes) 0 size
  cleared = subst (λ (c : WindowState). AreZero (bytes_of c.bytes) 0 size) (sym is_window) (zeros-AreZero size)

  -- each byte of the gap's free bytes is still 0
  zero-gap : AreZero (bytes_of fresh.bytes) (128 + gap_head current) (size - 16)
  zero-gap =
      let rest : SameBytes (bytes_of window.bytes) (bytes_of fresh.bytes) (128 + gap_head current) (size - 16) =
      subst (λ n. SameBytes (bytes_of window.bytes) (bytes_of fresh.bytes) (128 + gap_head current) (n - 16)) long
      f.rest in
      record { at = λ k low high. rest.at k low high ∙ cleared.at k (omega arith) (omega arith) }

  -- as the header is after the link to the free tree
  pub zero-header : IsTrue (is_legal_size size) → AreZero (bytes_of fresh.bytes) 32 128
  zero-header legal = record {
    at = λ k low high. f.behind.at k low high ∙ cleared.at k (omega arith) (omega (arith, (legal_size size legal).low));
  }

  null-gap : (at : ℕ) → at % 8 ≡ 0 → 144 ≤ at → at < 128 + gap_head current → at < size - 16
      → word_at (bytes_of fresh.bytes) at ≡ 1
  null-gap = null-links (bytes_of fresh.bytes) size
      (subst (λ n. AllByRecursion (HasNullLinks current (bytes_of fresh.bytes)) (gaps (no_blocks n))) long f.links)

-- and then given a header
module _ (region : List ℕ) (base : ℕ) {size : ℕ} {window fresh done : WindowState}
    (is_window : window ≡ with_bytes (cut_at region base size) (zeros size)) (long : length window.bytes ≡ size)
    (f : FormatsHeap current window fresh) (live : EncodesLiveSet current done.bytes (live_of fresh.bytes))
    (header : IsHeader current (bytes_of done.bytes) size) (named : IsIndexAt (bytes_of done.bytes) 32 no_backing [])
    (unique : IsIndexAt (bytes_of done.bytes) 56 no_backing []) (place : SameSurroundings fresh done)
    (rest : SameBytesExcept (bytes_of fresh.bytes) (bytes_of done.bytes) 0 80) where
  -- the new segment denotes the empty directory
  pub created-stands : DenotesCurrent done.bytes (empty size)
  created-stands = stands-empty fresh.bytes (subst (λ n. EncodesLiveSet current fresh.bytes
      (record { size = n; extents = [] })) long f.live) live header named unique

  -- the segment meets the contract of `create`
  pub created : {mode : Mode} → IsTrue (is_legal_size size) → base + size ≤ length region
      → CreatesOk region base size mode (record { cut = done; mode = mode })
  created legal fits = record {
    legal = legal;
    fits = fits;
    mode = refl;
    place = record {
      before = place.before ∙ f.place.before ∙ ap (λ (c : WindowState). c.before) is_window;
      after = place.after ∙ f.place.after ∙ ap (λ (c : WindowState). c.after) is_window;
    };
    stands = created-stands;
    links = λ at even low high below.
        word-same at (inr (omega arith)) rest ∙ null-gap region base is_window long f at even low high below;
    zeros = record {
      at = λ k low high. rest.at k (inr (omega arith)) ∙ (zero-gap region base is_window long f).at k low high;
    };
  }
