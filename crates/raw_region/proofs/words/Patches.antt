-- Lists of bytes with a part rewritten: their length, and each of their bytes.
use Rattle.std.proofs.Common.{◌≡◌, ℕ, zero, suc, ◌+◌, ◌-◌, ◌<◌, ◌≤◌, ◌⊎◌, inl, inr, List, [], ◌∷◌, ◌++◌, length, take}
use Rattle.std.proofs.Common.{drop, slice_index, refl, sym, ap, ◌∙◌, arith, length-append}
use Rattle.std.proofs.lemmas.List.{length-take, length-drop, get_or-take, get_or-drop, get_or_append_left}
use Rattle.std.proofs.lemmas.List.{get_or-append_right, ext_get_or}
use Rattle.std.proofs.lemmas.List.{take_at as take_front, drop_at, drop_all, drop-drop, drop-take, take-take}
use Rattle.std.proofs.lemmas.List.{take-append-le, drop-append-le, take-append-drop, append-nil, append_assoc}
use Rattle.std.proofs.lemmas.List.{drop_more}
use Rattle.std.proofs.Math.Seq.{take-append-add}
use borrow.Rule.Slice.PartMut.{put_mid}
use Rattle.std.specs.List.{refill}
use Rattle.byteorder.specs.Endian.{little_number, little_bytes}
use Rattle.byteorder.specs.Numbers.{length-bytes_low_first}
use Rattle.raw_region.specs.Memory.{part, patched, read, bytes_of, word_at, word_bytes, whole, cut_at}
use Rattle.raw_region.specs.Regions.{with_bytes, AreDisjoint}

-- a part has the requested length
pub length-part : (b : List ℕ) (from len : ℕ) → from + len ≤ length b → length (part b from len) ≡ len
length-part b from len within = omega (arith, length-take len (drop from b), length-drop from b)

-- a byte of a part is the byte of the whole at its place
pub part-at : (b : List ℕ) (from len k : ℕ) → k < len → slice_index (part b from len) k ≡ slice_index b (from + k)
part-at b from len k h = get_or-take len (drop from b) k 0 h ∙ get_or-drop from b k 0

module _ (b : List ℕ) (from : ℕ) (ws : List ℕ) (within : from + length ws ≤ length b) where
  front : List ℕ
  front = take from b ++ ws

  long_front : length (take from b ++ ws) ≡ from + length ws
  long_front = omega (arith, length-append (take from b) ws, length-take from b)

  -- a patched list is as long as before
  pub length-patched : length (patched b from ws) ≡ length b
  length-patched = omega (
    arith,
    length-append (take from b ++ ws) (drop (from + length ws) b),
    long_front,
    length-drop (from + length ws) b,
  )

  -- a byte in front of the part stays
  pub patched-before : (k : ℕ) → k < from → slice_index (patched b from ws) k ≡ slice_index b k
  patched-before k h =
      get_or_append_left (take from b ++ ws) (drop (from + length ws) b) 0 k (omega (arith, long_front))
      ∙ get_or_append_left (take from b) ws 0 k (omega (arith, length-take from b)) ∙ get_or-take from b k 0 h

  -- a byte inside the part is the new one
  pub patched-inside : (k : ℕ) → k < length ws → slice_index (patched b from ws) (from + k) ≡ slice_index ws k
  patched-inside k h =
      let at_k : from + k - from ≡ k = omega arith in
      get_or_append_left (take from b ++ ws) (drop (from + length ws) b) 0 (from + k) (omega (arith, long_front))
      ∙ get_or-append_right (take from b) ws from (from + k) 0 (omega (arith, length-take from b)) (omega arith)
      ∙ ap (λ (i : ℕ). slice_index ws i) at_k

  -- a byte after the part stays
  pub patched-after : (k : ℕ) → from + length ws ≤ k → slice_index (patched b from ws) k ≡ slice_index b k
  patched-after k h =
      let at_k : from + length ws + (k - (from + length ws)) ≡ k = omega arith in
      get_or-append_right (take from b ++ ws) (drop (from + length ws) b) (from + length ws) k 0 long_front h
      ∙ get_or-drop (from + length ws) b (k - (from + length ws)) 0 ∙ ap (λ (i : ℕ). slice_index b i) at_k

-- two lists of one length with the same bytes
pub same_bytes : (xs ys : List ℕ) → length xs ≡ length ys
    → ((k : ℕ) → k < length xs → slice_index xs k ≡ slice_index ys k) → xs ≡ ys
same_bytes xs ys e h = ext_get_or 0 xs ys e h

-- after a loan of a part, if as many bytes are written as were lent
pub refill-all : (n : ℕ) (xs ws : List ℕ) → length ws ≡ n → refill n xs ws ≡ ws
refill-all n xs ws e = take_front ws (drop (length ws) xs) n e

-- a patch of the whole list is the new list
pub patched-all : (b ws : List ℕ) → length ws ≡ length b → patched b 0 ws ≡ ws
patched-all b ws e = let none_left : length b ≤ 0 + length ws = omega arith
    in ap (λ (l : List ℕ). ws ++ l) (drop_all (0 + length ws) b none_left) ∙ append-nil ws

-- bytes read off one by one are a part
pub read-part : (b : List ℕ) (at n : ℕ) → at + n ≤ length b → read (bytes_of b) at n ≡ part b at n
read-part b at zero h = refl
read-part b at (suc n) h =
    let here : at < length b = omega arith in let rest : at + 1 + n ≤ length b = omega arith in
    ap (λ (l : List ℕ). slice_index b at ∷ l) (read-part b (at + 1) n rest)
    ∙ sym (ap (λ (l : List ℕ). take (suc n) l) (drop_more b at 0 here))

pub word-part : (b : List ℕ) (at : ℕ) → at + 8 ≤ length b → little_number 8 (part b at 8) ≡ word_at (bytes_of b) at
unfolding word_at
word-part b at h = ap (λ (l : List ℕ). little_number 8 l) (sym (read-part b at 8 h))

-- a word has 8 bytes
pub length-word : (x : ℕ) → length (word_bytes x) ≡ 8
unfolding word_bytes
length-word x = length-bytes_low_first 0 8 x

pub word-written : (b : List ℕ) (at x : ℕ) → at + 8 ≤ length b
    → patched b at (refill 8 (part b at 8) (little_bytes 8 x ++ drop 8 (part b at 8))) ≡ patched b at (word_bytes x)
unfolding word_bytes
word-written b at x h =
    let long : length (part b at 8) ≡ 8 = length-part b at 8 h in
    let none_left : drop 8 (part b at 8) ≡ [] = drop_all 8 (part b at 8) (omega (arith, long)) in
    let all : little_bytes 8 x ++ drop 8 (part b at 8) ≡ little_bytes 8 x =
    ap (λ (l : List ℕ). little_bytes 8 x ++ l) none_left ∙ append-nil (little_bytes 8 x) in
    ap (λ (l : List ℕ). patched b at l) (ap (λ (l : List ℕ). refill 8 (part b at 8) l) all
    ∙ refill-all 8 (part b at 8) (little_bytes 8 x) refl)

-- the rules of parts that are words
pub ruleset words = (word-part, word-written, length-word)

-- a rewritten part, seen from a cut of the list
module _ (b : List ℕ) (from : ℕ) (ws : List ℕ) (within : from + length ws ≤ length b) where
  long_rewritten : length (take from b ++ ws) ≡ from + length ws
  long_rewritten = omega (arith, length-append (take from b) ws, length-take from b)

  pub take-patched : (m : ℕ) → m ≤ from → take m (patched b from ws) ≡ take m b
  take-patched m h =
      take-append-le m (take from b ++ ws) (drop (from + length ws) b) (omega (arith, long_rewritten))
      ∙ take-append-le m (take from b) ws (omega (arith, length-take from b)) ∙ take-take m from b h

  -- the bytes after a patch stay
  pub drop-patched : (m : ℕ) → from + length ws ≤ m → drop m (patched b from ws) ≡ drop m b
  drop-patched m h =
      let n = from + length ws in let e : m ≡ n + (m - n) = omega arith in
      ap (λ (k : ℕ). drop k (patched b from ws)) e ∙ sym (drop-drop (m - n) n (patched b from ws))
      ∙ ap (λ (l : List ℕ). drop (m - n) l) (drop_at (take from b ++ ws) (drop n b) n long_rewritten)
      ∙ drop-drop (m - n) n b ∙ ap (λ (k : ℕ). drop k b) (sym e)

  -- a front that holds the patch is the patched front
  pub front-patched : (m : ℕ) → from + length ws ≤ m → take m (patched b from ws) ≡ patched (take m b) from ws
  front-patched m h =
      let n = from + length ws in let j = m - n in let P = take from b ++ ws in
      let e : m ≡ length P + j = omega (arith, long_rewritten) in let e' : n + j ≡ m = omega arith in
      ap (λ (k : ℕ). take k (P ++ drop n b)) e ∙ take-append-add P (drop n b) j
      ∙ ap (λ (l : List ℕ). P ++ l) (sym (drop-take n j b) ∙ ap (λ (k : ℕ). drop n (take k b)) e')
      ∙ ap (λ (l : List ℕ). (l ++ ws) ++ drop n (take m b)) (sym (take-take from m b (omega arith)))

-- the same bytes, at a distance from the base
pub behind-patched : (b : List ℕ) (base from : ℕ) (ws : List ℕ) → base + from + length ws ≤ length b
    → drop base (patched b (base + from) ws) ≡ patched (drop base b) from ws
behind-patched b base from ws within =
    let D = drop (base + from + length ws) b in let F = take (base + from) b in
    let e : base + from + length ws ≡ base + (from + length ws) = omega arith in
    drop-append-le base (F ++ ws) D (omega (arith, length-append F ws, length-take (base + from) b))
    ∙ ap (λ (l : List ℕ). l ++ D) (drop-append-le base F ws (omega (arith, length-take (base + from) b))
    ∙ ap (λ (l : List ℕ). l ++ ws) (drop-take base from b))
    ∙ ap (λ (l : List ℕ). (take from (drop base b) ++ ws) ++ l) (ap (λ (k : ℕ). drop k b) e
    ∙ sym (drop-drop (from + length ws) base b))

pub part-patched : (b : List ℕ) (base size from : ℕ) (ws : List ℕ) → base + size ≤ length b → from + length ws ≤ size
    → part (patched b (base + from) ws) base size ≡ patched (part b base size) from ws
part-patched b base size from ws h k =
    ap (λ (l : List ℕ). take size l) (behind-patched b base from ws (omega arith))
    ∙ front-patched (drop base b) from ws (omega (arith, length-drop base b)) size k

-- a part of a part is a part of the whole
pub part-part : (b : List ℕ) (base size from len : ℕ) → from + len ≤ size
    → part (part b base size) from len ≡ part b (base + from) len
part-part b base size from len h =
    let e : size ≡ from + (size - from) = omega arith in
    ap (λ (k : ℕ). take len (drop from (take k (drop base b)))) e
    ∙ ap (λ (l : List ℕ). take len l) (drop-take from (size - from) (drop base b)
    ∙ ap (λ (l : List ℕ). take (size - from) l) (drop-drop from base b))
    ∙ take-take len (size - from) (drop (base + from) b) (omega arith)

-- ---- a window is a cut of its region
pub whole-cut_at : (b : List ℕ) (base size : ℕ) → whole (cut_at b base size) ≡ b
whole-cut_at b base size =
    append_assoc (take base b) (part b base size) (drop (base + size) b)
    ∙ ap (λ (l : List ℕ). take base b ++ l)
    (ap (λ (l : List ℕ). part b base size ++ l) (sym (drop-drop size base b)) ∙ take-append-drop size (drop base b))
    ∙ take-append-drop base b

-- a patch inside a window is a patch of the window's bytes
pub cut_at-patched : (b : List ℕ) (base size from : ℕ) (ws : List ℕ) → base + size ≤ length b → from + length ws ≤ size
    → cut_at (patched b (base + from) ws) base size
    ≡ with_bytes (cut_at b base size) (patched (part b base size) from ws)
cut_at-patched b base size from ws h k =
    let before = take-patched b (base + from) ws (omega arith) base (omega arith) in
    let after = drop-patched b (base + from) ws (omega arith) (base + size) (omega arith) in
    let bytes = part-patched b base size from ws h k in
    λ i. record { before = before i; bytes = bytes i; after = after i }

-- ---- two parts that have no byte in common
-- where an offset lies, as seen from a part
pub data Place (k from n : ℕ) : Type 0 where
  before : k < from → Place k from n
  inside : (j : ℕ) → k ≡ from + j → j < n → Place k from n
  after : from + n ≤ k → Place k from n

pub lt_or_le : (a b : ℕ) → (a < b) ⊎ (b ≤ a)
lt_or_le zero zero = inr (omega arith)
lt_or_le zero (suc b) = inl (omega arith)
lt_or_le (suc a) zero = inr (omega arith)
lt_or_le (suc a) (suc b) = elim (lt_or_le a b) [ inl h ↦ inl (omega arith) | inr h ↦ inr (omega arith) ]

pub place_of : (k from n : ℕ) → Place k from n
place_of k from n =
    elim (lt_or_le k from) [
      | inl h ↦ before h
      | inr h ↦ elim (lt_or_le k (from + n)) [ inl l ↦ inside (k - from) (omega arith) (omega arith) | inr l ↦ after l ]
    ]

-- a byte inside the part, by its place in the whole
pub patched-at : (b : List ℕ) (from : ℕ) (ws : List ℕ) → from + length ws ≤ length b → (k j : ℕ) → k ≡ from + j
    → j < length ws → slice_index (patched b from ws) k ≡ slice_index ws j
patched-at b from ws within k j e h =
    ap (λ (i : ℕ). slice_index (patched b from ws) i) e ∙ patched-inside b from ws within j h

abbrev pub Outside : ℕ → ℕ → ℕ → Type 0
Outside k from n = (k < from) ⊎ (from + n ≤ k)

-- a byte outside of the part stays
pub patched-outside : (b : List ℕ) (from : ℕ) (ws : List ℕ) → from + length ws ≤ length b → (k : ℕ)
    → Outside k from (length ws) → slice_index (patched b from ws) k ≡ slice_index b k
patched-outside b from ws within k (inl h) = patched-before b from ws within k h
patched-outside b from ws within k (inr h) = patched-after b from ws within k h

away : (from n from' n' k j : ℕ) → AreDisjoint from n from' n' → k ≡ from + j → j < n → Outside k from' n'
away from n from' n' k j (inl h) e l = inl (omega arith)
away from n from' n' k j (inr (inl h)) e l = elim (lt_or_le k from') [ inl o ↦ inl o | inr o ↦ inr (omega arith) ]
away from n from' n' k j (inr (inr (inl h))) e l = inl (omega arith)
away from n from' n' k j (inr (inr (inr h))) e l = inr (omega arith)

module _ (b : List ℕ) (from : ℕ) (ws : List ℕ) (within : from + length ws ≤ length b) (from' : ℕ) (ws' : List ℕ)
    (within' : from' + length ws' ≤ length b) where
  abbrev One : List ℕ
  One = patched b from ws

  abbrev Other : List ℕ
  Other = patched b from' ws'

  one_in : from' + length ws' ≤ length One
  one_in = omega (arith, length-patched b from ws within)

  other_in : from + length ws ≤ length Other
  other_in = omega (arith, length-patched b from' ws' within')

  abbrev Agree : ℕ → Type 0
  Agree k = slice_index (patched One from' ws') k ≡ slice_index (patched Other from ws) k

  not_first : (k : ℕ) → Outside k from (length ws) → Place k from' (length ws') → Agree k
  not_first k o (inside j e h) =
      patched-at One from' ws' one_in k j e h
      ∙ sym (patched-outside Other from ws other_in k o ∙ patched-at b from' ws' within' k j e h)
  not_first k o (before h) =
      patched-outside One from' ws' one_in k (inl h) ∙ patched-outside b from ws within k o
      ∙ sym (patched-outside Other from ws other_in k o ∙ patched-outside b from' ws' within' k (inl h))
  not_first k o (after h) =
      patched-outside One from' ws' one_in k (inr h) ∙ patched-outside b from ws within k o
      ∙ sym (patched-outside Other from ws other_in k o ∙ patched-outside b from' ws' within' k (inr h))

  commutes-at : AreDisjoint from (length ws) from' (length ws') → (k : ℕ) → Place k from (length ws) → Agree k
  commutes-at apart k (inside j e h) =
      patched-outside One from' ws' one_in k (away from (length ws) from' (length ws') k j apart e h)
      ∙ patched-at b from ws within k j e h ∙ sym (patched-at Other from ws other_in k j e h)
  commutes-at apart k (before h) = not_first k (inl h) (place_of k from' (length ws'))
  commutes-at apart k (after h) = not_first k (inr h) (place_of k from' (length ws'))

  -- two disjoint patches can be written in either order
  pub patched-commutes : AreDisjoint from (length ws) from' (length ws')
      → patched (patched b from ws) from' ws' ≡ patched (patched b from' ws') from ws
  patched-commutes apart =
      same_bytes _ _ (omega (
        arith,
        length-patched One from' ws' one_in,
        length-patched b from ws within,
        length-patched Other from ws other_in,
        length-patched b from' ws' within',
      ))
      (λ k h. commutes-at apart k (place_of k from (length ws)))

-- ---- two writes side by side are one
pub patched-prepend : (b : List ℕ) (from : ℕ) (ws ts : List ℕ) → from + length ws + length ts ≤ length b
    → patched (patched b (from + length ws) ts) from ws ≡ patched b from (ws ++ ts)
patched-prepend b from ws ts within =
    let g = from + length ws in let D = drop (g + length ts) b in
    let front_is = take-patched b g ts within from (omega arith) in
    let back_is : drop g (patched b g ts) ≡ ts ++ D = ap (λ (l : List ℕ). drop g l) (append_assoc (take g b) ts D)
    ∙ drop_at (take g b) (ts ++ D) g (omega (arith, length-take g b)) in
    let end : g + length ts ≡ from + length (ws ++ ts) = omega (arith, length-append ws ts) in
    (λ i. (front_is i ++ ws) ++ back_is i) ∙ sym (append_assoc (take from b ++ ws) ts D)
    ∙ ap (λ (l : List ℕ). l ++ D) (append_assoc (take from b) ws ts)
    ∙ ap (λ (k : ℕ). (take from b ++ (ws ++ ts)) ++ drop k b) end

-- two patches, the second right after the first, are one
pub patched-append : (b : List ℕ) (from : ℕ) (ws ts : List ℕ) → from + length ws + length ts ≤ length b
    → patched (patched b from ws) (from + length ws) ts ≡ patched b from (ws ++ ts)
patched-append b from ws ts within =
    let g = from + length ws in let room : g ≤ length b = omega arith in
    let front_is : take g (patched b from ws) ≡ take from b ++ ws =
    take_front (take from b ++ ws) (drop g b) g (omega (arith, length-append (take from b) ws, length-take from b)) in
    let back_is = drop-patched b from ws room (g + length ts) (omega arith) in
    let end : g + length ts ≡ from + length (ws ++ ts) = omega (arith, length-append ws ts) in
    (λ i. (front_is i ++ ts) ++ back_is i)
    ∙ ap (λ (l : List ℕ). l ++ drop (g + length ts) b) (append_assoc (take from b) ws ts)
    ∙ ap (λ (k : ℕ). (take from b ++ (ws ++ ts)) ++ drop k b) end

-- a word written through `&mut bytes[at..at + 8]`
pub word-put : (b : List ℕ) (at x : ℕ) (ys : List ℕ)
    → ys ≡ little_bytes 8 x ++ drop 8 (take (at + 8 - at) (drop at b))
    → put_mid at (at + 8 - at) b ys ≡ patched b at (word_bytes x)
unfolding word_bytes
word-put b at x ys e =
    let L = little_bytes 8 x in let eight : at + 8 - at ≡ 8 = omega arith in
    let none_left : drop 8 (take (at + 8 - at) (drop at b)) ≡ [] =
    drop_all 8 (take (at + 8 - at) (drop at b)) (omega (arith, length-take (at + 8 - at) (drop at b))) in
    let all : ys ≡ L = e ∙ ap (λ (l : List ℕ). L ++ l) none_left ∙ append-nil L in
    (λ i. take at b ++ (all i ++ drop (eight i) (drop at b)))
    ∙ ap (λ (l : List ℕ). take at b ++ (L ++ l)) (drop-drop 8 at b) ∙ sym (append_assoc (take at b) L (drop (at + 8) b))

-- the rule of the length of a part
pub ruleset parts = (length-part)
