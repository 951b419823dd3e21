-- What the crates above rest on: a word that was written is read back, words and parts elsewhere stay, and moved bytes
-- arrive.
use Rattle.std.proofs.Common.{◌≡◌, ℕ, zero, suc, ◌+◌, ◌-◌, ◌^◌, ◌<◌, ◌≤◌, ◌⊎◌, inl, inr, List, [], ◌∷◌, ◌++◌, length}
use Rattle.std.proofs.Common.{take, drop, slice_index, replicate, refl, sym, ap, ap₂, ◌∙◌, arith, length-append}
use Rattle.std.proofs.lemmas.List.{append-nil, append_assoc, drop_at, length-take, length-replicate, get_or-replicate}
use Rattle.std.proofs.lemmas.List.{get_or-append_right}
use Rattle.std.proofs.lemmas.List.{take_at as take_front}
use Rattle.byteorder.specs.Endian.{little_number, little_bytes}
use Rattle.byteorder.specs.Numbers.{little_number-reads_back}
use Rattle.raw_region.specs.Memory.{Memory, bytes_of, read, HasBytesAt, word_bytes, half_word_bytes, word_at}
use Rattle.raw_region.specs.Memory.{half_word_at, zeros, part, patched, WindowState, SameBytes, SameBytesExcept}
use Rattle.raw_region.specs.Memory.{AreZero, SameSurroundings}
use Rattle.raw_region.specs.Regions.{with_bytes}
use Rattle.raw_region.proofs.words.Patches.{length-part, part-at, length-patched, patched-before, patched-inside}
use Rattle.raw_region.proofs.words.Patches.{patched-after, patched-outside, patched-at, same_bytes, read-part}
use Rattle.raw_region.proofs.words.Patches.{length-word}

-- ---- bytes read off at two places, or from two memories
pub read_moved : (m m' : Memory) (from to n : ℕ) → ((k a c : ℕ) → k < n → a ≡ to + k → c ≡ from + k → m' a ≡ m c)
    → read m' to n ≡ read m from n
read_moved m m' from to zero h = refl
read_moved m m' from to (suc n) h =
    ap₂ (λ (x : ℕ) (l : List ℕ). x ∷ l) (h 0 to from (omega arith) (omega arith) (omega arith))
    (read_moved m m' (from + 1) (to + 1) n (λ k a c l e f. h (suc k) a c (omega arith) (omega arith) (omega arith)))

-- a word of which each byte was moved is the same word
pub word_moved : (m m' : Memory) (from to : ℕ) → ((k a c : ℕ) → k < 8 → a ≡ to + k → c ≡ from + k → m' a ≡ m c)
    → word_at m' to ≡ word_at m from
unfolding word_at
word_moved m m' from to h = ap (λ (l : List ℕ). little_number 8 l) (read_moved m m' from to 8 h)

pub half_word_moved : (m m' : Memory) (from to : ℕ) → ((k a c : ℕ) → k < 4 → a ≡ to + k → c ≡ from + k → m' a ≡ m c)
    → half_word_at m' to ≡ half_word_at m from
unfolding half_word_at
half_word_moved m m' from to h = ap (λ (l : List ℕ). little_number 4 l) (read_moved m m' from to 4 h)

-- ---- where memory stays
module _ (m m' : Memory) where
  -- a reading within a range that stays reads the same
  pub SameBytes-read : (from to at n : ℕ) → SameBytes m m' from to → from ≤ at → at + n ≤ to
      → read m' at n ≡ read m at n
  SameBytes-read from to at n s h l =
      read_moved m m' at at n (λ k a c i e f. ap m' (e ∙ sym f) ∙ s.at c (omega arith) (omega arith))

  -- a word within a range that stays is the same
  pub SameBytes-word : (from to at : ℕ) → SameBytes m m' from to → from ≤ at → at + 8 ≤ to
      → word_at m' at ≡ word_at m at
  SameBytes-word from to at s h l =
      word_moved m m' at at (λ k a c i e f. ap m' (e ∙ sym f) ∙ s.at c (omega arith) (omega arith))

  -- a half word within a range that stays is the same
  pub SameBytes-half_word : (from to at : ℕ) → SameBytes m m' from to → from ≤ at → at + 4 ≤ to
      → half_word_at m' at ≡ half_word_at m at
  SameBytes-half_word from to at s h l =
      half_word_moved m m' at at (λ k a c i e f. ap m' (e ∙ sym f) ∙ s.at c (omega arith) (omega arith))

  -- a part of a range that stays stays
  pub SameBytes-part : (from to from' to' : ℕ) → SameBytes m m' from to → from ≤ from' → to' ≤ to
      → SameBytes m m' from' to'
  SameBytes-part from to from' to' s h l = record { at = λ k a b. s.at k (omega arith) (omega arith) }

  pub SameBytesExcept-below : (from n to : ℕ) → SameBytesExcept m m' from n → to ≤ from → SameBytes m m' 0 to
  SameBytesExcept-below from n to s h = record { at = λ k a b. s.at k (inl (omega arith)) }

  pub SameBytesExcept-above : (from n above to : ℕ) → SameBytesExcept m m' from n → from + n ≤ above
      → SameBytes m m' above to
  SameBytesExcept-above from n above to s h = record { at = λ k a b. s.at k (inr (omega arith)) }

  -- a word below the bytes that may change stays
  pub SameBytesExcept-word_below : (from n at : ℕ) → SameBytesExcept m m' from n → at + 8 ≤ from
      → word_at m' at ≡ word_at m at
  SameBytesExcept-word_below from n at s h =
      SameBytes-word 0 from at (SameBytesExcept-below from n from s (omega arith)) (omega arith) h

  -- a word above the bytes that may change stays
  pub SameBytesExcept-word_above : (from n at : ℕ) → SameBytesExcept m m' from n → from + n ≤ at
      → word_at m' at ≡ word_at m at
  SameBytesExcept-word_above from n at s h =
      SameBytes-word at (at + 8) at (SameBytesExcept-above from n at (at + 8) s h) (omega arith) (omega arith)

  -- all stays but a range: so it does but a wider range
  pub SameBytesExcept-wider : (from n from' n' : ℕ) → SameBytesExcept m m' from n → from' ≤ from
      → from + n ≤ from' + n' → SameBytesExcept m m' from' n'
  SameBytesExcept-wider from n from' n' s h l = record { at = λ k o. s.at k (moved k o) }
    where
      moved : (k : ℕ) → (k < from') ⊎ (from' + n' ≤ k) → (k < from) ⊎ (from + n ≤ k)
      moved k (inl o) = inl (omega arith)
      moved k (inr o) = inr (omega arith)

-- memory that does not change stays
pub SameBytes-refl : (m : Memory) (from to : ℕ) → SameBytes m m from to
SameBytes-refl m from to = record { at = λ k a b. refl }

-- a range that stays in two changes stays in both together
pub SameBytes-trans : (m m' m'' : Memory) (from to : ℕ) → SameBytes m m' from to → SameBytes m' m'' from to
    → SameBytes m m'' from to
SameBytes-trans m m' m'' from to s t = record { at = λ k a b. t.at k a b ∙ s.at k a b }

-- two changes of one range are a change of that range
pub SameBytesExcept-trans : (m m' m'' : Memory) (from n : ℕ) → SameBytesExcept m m' from n
    → SameBytesExcept m' m'' from n → SameBytesExcept m m'' from n
SameBytesExcept-trans m m' m'' from n s t = record { at = λ k o. t.at k o ∙ s.at k o }

-- a range outside of the bytes that may change
pub SameBytesExcept-SameBytes : (m m' : Memory) (from n low high : ℕ) → SameBytesExcept m m' from n
    → (high ≤ from) ⊎ (from + n ≤ low) → SameBytes m m' low high
SameBytesExcept-SameBytes m m' from n low high s (inl l) = record { at = λ k a b. s.at k (inl (omega arith)) }
SameBytesExcept-SameBytes m m' from n low high s (inr l) = record { at = λ k a b. s.at k (inr (omega arith)) }

-- a word outside of the bytes that may change
pub SameBytesExcept-word : (m m' : Memory) (from n at : ℕ) → SameBytesExcept m m' from n
    → (at + 8 ≤ from) ⊎ (from + n ≤ at) → word_at m' at ≡ word_at m at
SameBytesExcept-word m m' from n at s beside =
    SameBytes-word m m' at (at + 8) at (SameBytesExcept-SameBytes m m' from n at (at + 8) s beside) (omega arith)
    (omega arith)

-- a half word outside of the bytes that may change
pub SameBytesExcept-half_word : (m m' : Memory) (from n at : ℕ) → SameBytesExcept m m' from n
    → (at + 4 ≤ from) ⊎ (from + n ≤ at) → half_word_at m' at ≡ half_word_at m at
SameBytesExcept-half_word m m' from n at s beside =
    SameBytes-half_word m m' at (at + 4) at (SameBytesExcept-SameBytes m m' from n at (at + 4) s beside)
    (omega arith) (omega arith)

-- bytes that lie in what stays
pub HasBytesAt-same : (m m' : Memory) (from to at : ℕ) (bytes : List ℕ) → SameBytes m m' from to → from ≤ at
    → at + length bytes ≤ to → HasBytesAt m at bytes → HasBytesAt m' at bytes
HasBytesAt-same m m' from to at bytes s low high h = SameBytes-read m m' from to at (length bytes) s low high ∙ h

-- ---- what a word is
pub HasBytesAt-word : (m : Memory) (at x : ℕ) → x < 2 ^ 64 → HasBytesAt m at (word_bytes x) → word_at m at ≡ x
unfolding word_at word_bytes
HasBytesAt-word m at x h e = ap (λ (l : List ℕ). little_number 8 l) (e ∙ sym (append-nil (little_bytes 8 x)))
    ∙ little_number-reads_back 8 x [] h

pub HasBytesAt-half_word : (m : Memory) (at x : ℕ) → x < 2 ^ 32 → HasBytesAt m at (half_word_bytes x)
    → half_word_at m at ≡ x
unfolding half_word_at half_word_bytes
HasBytesAt-half_word m at x h e = ap (λ (l : List ℕ). little_number 4 l) (e ∙ sym (append-nil (little_bytes 4 x)))
    ∙ little_number-reads_back 4 x [] h

-- ---- a list with a part rewritten
module _ (b : List ℕ) (from : ℕ) (ws : List ℕ) (within : from + length ws ≤ length b) where
  pub part-own : part (patched b from ws) from (length ws) ≡ ws
  part-own =
      let D = drop (from + length ws) b in
      ap (λ (l : List ℕ). take (length ws) (drop from l)) (append_assoc (take from b) ws D)
      ∙ ap (λ (l : List ℕ). take (length ws) l)
      (drop_at (take from b) (ws ++ D) from (omega (arith, length-take from b)))
      ∙ take_front ws D (length ws) refl

  -- memory has the bytes that were written
  pub patched-HasBytesAt : HasBytesAt (bytes_of (patched b from ws)) from ws
  patched-HasBytesAt = read-part (patched b from ws) from (length ws) (omega (
    arith,
    length-patched b from ws within,
  )) ∙ part-own

  -- a patch changes no other byte
  pub patched-SameBytesExcept : SameBytesExcept (bytes_of b) (bytes_of (patched b from ws)) from (length ws)
  patched-SameBytesExcept = record { at = λ k o. patched-outside b from ws within k o }

  pub part-before : (at n : ℕ) → at + n ≤ from → part (patched b from ws) at n ≡ part b at n
  part-before at n h = same_bytes _ _ (omega (
    arith,
    length-part (patched b from ws) at n (omega (arith, length-patched b from ws within)),
    length-part b at n (omega arith),
  ))
      (λ k l. let l' : k < n = omega (
        arith,
        length-part (patched b from ws) at n (omega (arith, length-patched b from ws within)),
      ) in
      part-at (patched b from ws) at n k l' ∙ patched-before b from ws within (at + k) (omega arith)
      ∙ sym (part-at b at n k l'))

  pub part-after : (at n : ℕ) → from + length ws ≤ at → at + n ≤ length b → part (patched b from ws) at n ≡ part b at n
  part-after at n h r = same_bytes _ _ (omega (
    arith,
    length-part (patched b from ws) at n (omega (arith, length-patched b from ws within)),
    length-part b at n r,
  ))
      (λ k l. let l' : k < n = omega (
        arith,
        length-part (patched b from ws) at n (omega (arith, length-patched b from ws within)),
      ) in
      part-at (patched b from ws) at n k l' ∙ patched-after b from ws within (at + k) (omega arith)
      ∙ sym (part-at b at n k l'))

  -- a word in front of a patch stays
  pub word-before : (at : ℕ) → at + 8 ≤ from → word_at (bytes_of (patched b from ws)) at ≡ word_at (bytes_of b) at
  word-before at h = SameBytesExcept-word_below (bytes_of b) (bytes_of (patched b from ws)) from (length ws) at
      patched-SameBytesExcept h

  -- a word after a patch stays
  pub word-after : (at : ℕ) → from + length ws ≤ at
      → word_at (bytes_of (patched b from ws)) at ≡ word_at (bytes_of b) at
  word-after at h = SameBytesExcept-word_above (bytes_of b) (bytes_of (patched b from ws)) from (length ws) at
      patched-SameBytesExcept h

-- a word is read back as it was written
pub word-own : (b : List ℕ) (at x : ℕ) → at + 8 ≤ length b → x < 2 ^ 64
    → word_at (bytes_of (patched b at (word_bytes x))) at ≡ x
word-own b at x h l = HasBytesAt-word (bytes_of (patched b at (word_bytes x))) at x l
    (patched-HasBytesAt b at (word_bytes x) (omega (arith, length-word x)))

pub word-below : (b : List ℕ) (from x at : ℕ) → from + 8 ≤ length b → at + 8 ≤ from
    → word_at (bytes_of (patched b from (word_bytes x))) at ≡ word_at (bytes_of b) at
word-below b from x at h l = word-before b from (word_bytes x) (omega (arith, length-word x)) at l

pub word-above : (b : List ℕ) (from x at : ℕ) → from + 8 ≤ length b → from + 8 ≤ at
    → word_at (bytes_of (patched b from (word_bytes x))) at ≡ word_at (bytes_of b) at
word-above b from x at h l = word-after b from (word_bytes x) (omega (arith, length-word x)) at (omega (
  arith,
  length-word x,
))

-- a list in which a word is written is as long as before
pub length-word_written : (b : List ℕ) (at x : ℕ) → at + 8 ≤ length b → length (patched b at (word_bytes x)) ≡ length b
length-word_written b at x h = length-patched b at (word_bytes x) (omega (arith, length-word x))

-- a word that is written changes its 8 bytes alone
pub word_written-SameBytesExcept : (b : List ℕ) (at x : ℕ) → at + 8 ≤ length b
    → SameBytesExcept (bytes_of b) (bytes_of (patched b at (word_bytes x))) at 8
word_written-SameBytesExcept b at x h =
    let s = patched-SameBytesExcept b at (word_bytes x) (omega (arith, length-word x)) in
    SameBytesExcept-wider (bytes_of b) (bytes_of (patched b at (word_bytes x))) at (length (word_bytes x)) at 8 s
    (omega arith) (omega (arith, length-word x))

-- ---- words in a list of bytes that is written
pub word-inside : (b : List ℕ) (from : ℕ) (ws : List ℕ) → from + length ws ≤ length b → (k : ℕ) → k + 8 ≤ length ws
    → word_at (bytes_of (patched b from ws)) (from + k) ≡ word_at (bytes_of ws) k
word-inside b from ws within k h = word_moved (bytes_of ws) (bytes_of (patched b from ws)) k (from + k) (λ i a c l e f.
    patched-at b from ws within a (k + i) (omega arith) (omega arith) ∙ ap (λ (j : ℕ). slice_index ws j) (sym f))

-- the word at the front of a list is read back
pub word-first : (x : ℕ) (rest : List ℕ) → x < 2 ^ 64 → word_at (bytes_of (word_bytes x ++ rest)) 0 ≡ x
word-first x rest h =
    let ws = word_bytes x in
    let own : HasBytesAt (bytes_of (ws ++ rest)) 0 ws =
    read-part (ws ++ rest) 0 (length ws) (omega (arith, length-append ws rest)) ∙ take_front ws rest (length ws) refl in
    HasBytesAt-word (bytes_of (ws ++ rest)) 0 x h own

-- a word after a front is the word of the rest
pub word-behind : (ws rest : List ℕ) (n at k : ℕ) → length ws ≡ n → at ≡ n + k
    → word_at (bytes_of (ws ++ rest)) at ≡ word_at (bytes_of rest) k
word-behind ws rest n at k long e = word_moved (bytes_of rest) (bytes_of (ws ++ rest)) k at (λ i a c l f g.
    get_or-append_right ws rest n a 0 long (omega arith)
    ∙ ap (λ (j : ℕ). slice_index rest j) (behind n at k i a c e f g))
  where
    behind : (n at k i a c : ℕ) → at ≡ n + k → a ≡ at + i → c ≡ k + i → a - n ≡ c
    behind n at k i a c e f g = omega arith

-- ---- moved bytes arrive
module _ (b : List ℕ) (from to len : ℕ) (source : from + len ≤ length b) (target : to + len ≤ length b) where
  abbrev Moved : List ℕ
  Moved = patched b to (part b from len)

  fits : to + length (part b from len) ≤ length b
  fits = omega (arith, length-part b from len source)

  pub moved-byte : (k : ℕ) → k < len → slice_index Moved (to + k) ≡ slice_index b (from + k)
  moved-byte k h = patched-inside b to (part b from len) fits k (omega (arith, length-part b from len source))
      ∙ part-at b from len k h

  pub moved-word : (k : ℕ) → k + 8 ≤ len → word_at (bytes_of Moved) (to + k) ≡ word_at (bytes_of b) (from + k)
  moved-word k h = word_moved (bytes_of b) (bytes_of Moved) (from + k) (to + k) (λ i a c l e f.
      ap (λ (j : ℕ). slice_index Moved j) (e ∙ assoc to k i) ∙ moved-byte (k + i) (omega arith)
      ∙ ap (λ (j : ℕ). slice_index b j) (sym (f ∙ assoc from k i)))
    where
      assoc : (x y z : ℕ) → x + y + z ≡ x + (y + z)
      assoc x y z = omega arith

  pub moved-part : part Moved to len ≡ part b from len
  moved-part = ap (λ (n : ℕ). part Moved to n) (sym (length-part b from len source))
      ∙ part-own b to (part b from len) fits

  pub moved-SameBytesExcept : SameBytesExcept (bytes_of b) (bytes_of Moved) to len
  moved-SameBytesExcept =
      SameBytesExcept-wider (bytes_of b) (bytes_of Moved) to (length (part b from len)) to len
      (patched-SameBytesExcept b to (part b from len) fits) (omega arith) (omega (arith, length-part b from len source))

-- ---- zeros
pub length-zeros : (n : ℕ) → length (zeros n) ≡ n
unfolding zeros
length-zeros n = length-replicate n 0

-- a list of zeros is zero
pub zeros-AreZero : (n : ℕ) → AreZero (bytes_of (zeros n)) 0 n
unfolding zeros
zeros-AreZero n = record { at = λ k a b. get_or-replicate n k 0 0 b }

-- a part filled with zeros is zero
pub filled-AreZero : (b : List ℕ) (from len : ℕ) → from + len ≤ length b
    → AreZero (bytes_of (patched b from (replicate len 0))) from (from + len)
filled-AreZero b from len h = record {
  at = λ k a l.
      patched-at b from (replicate len 0) (omega (arith, length-replicate {A = ℕ} len 0)) k (k - from) (omega arith)
      (omega (arith, length-replicate {A = ℕ} len 0)) ∙ get_or-replicate len (k - from) 0 0 (omega arith);
}

-- a part that is filled changes nothing else
pub filled-SameBytesExcept : (b : List ℕ) (from len x : ℕ) → from + len ≤ length b
    → SameBytesExcept (bytes_of b) (bytes_of (patched b from (replicate len x))) from len
filled-SameBytesExcept b from len x h =
    let fits : from + length (replicate len x) ≤ length b = omega (arith, length-replicate {A = ℕ} len x) in
    SameBytesExcept-wider (bytes_of b) (bytes_of (patched b from (replicate len x))) from (length (replicate len x))
    from len (patched-SameBytesExcept b from (replicate len x) fits) (omega arith) (omega (
      arith,
      length-replicate {A = ℕ} len x,
    ))

-- ---- a window keeps its place
pub SameSurroundings-trans : (a b c : WindowState) → SameSurroundings a b → SameSurroundings b c → SameSurroundings a c
SameSurroundings-trans a b c p q = record { before = q.before ∙ p.before; after = q.after ∙ p.after }

-- other bytes in a window change nothing around it
pub with_bytes-SameSurroundings : (c : WindowState) (bytes : List ℕ) → SameSurroundings c (with_bytes c bytes)
with_bytes-SameSurroundings c bytes = record { before = refl; after = refl }

-- for `#[tactic(auto, using(raw_region::proofs::words::Words::words))]`: words that were written, and words elsewhere
pub ruleset words = (
  word-own,
  word-below,
  word-above,
  word-before,
  word-after,
  length-word,
  length-word_written,
  length-patched,
)
