-- Words that move together: one more, from the front or from the back; and links that do, and where all of them lead.
use Rattle.std.proofs.Common.{◌≡◌, ◌≢◌, ℕ, zero, suc, ◌+◌, ◌-◌, ◌*◌, ◌%◌, ◌^◌, ◌<◌, ◌≤◌, Bool, true, false, ◌==◌, List}
use Rattle.std.proofs.Common.{◌++◌, ◌⊎◌, inl, inr, length, take, drop, refl, sym, ap, ap₂, subst, ◌∙◌, arith}
use Rattle.std.proofs.Common.{length-append, bit_or}
use Rattle.std.proofs.Common.{max}
use Rattle.std.specs.Prelude.{Option, Some, None, IfSome, if◌then◌else◌, slice_index}
use Rattle.std.proofs.lemmas.List.{append-nil, append_assoc, take-append-drop, take_all}
use Rattle.std.specs.List.{refill}
use Rattle.std.proofs.lemmas.Option.{none-some}
use Rattle.std.proofs.lemmas.Nat.Bits.{bit_at_lowest, bit_at_or}
use Rattle.std.proofs.lemmas.Bool.{cases_eq, cases_lt, cond-false, cond-true, eq-eqb, eqb-false, eqb-true, ne_eqb}
use Rattle.raw_region.specs.Memory.{Memory, bytes_of, part, patched, read, word_at, word_bytes}
use Rattle.raw_region.proofs.Laws.{length-patched, length-word, patched-all, patched-append, patched-inside}
use Rattle.raw_region.proofs.Laws.{patched-outside}
use Rattle.raw_region.proofs.Laws.{patched-prepend, refill-all, same_bytes, word-after, word-before, word-behind}
use Rattle.raw_region.proofs.Laws.{word-first}
use Rattle.raw_region.proofs.Laws.{word-inside}
use Rattle.offset_link.specs.Link.{target_of, link_at, link_word, link}
use Rattle.offset_link.specs.Relinked.{word_by_distance, word_by_target, relinked, reworded, unless_null}
use Rattle.offset_link.specs.Relinked.{AllLinksLead, BothEven, AreValidLinks, KeepTargets, HasNoNullLink}
use Rattle.offset_link.proofs.link.Targets.{link_word-fits, null_word, target_of-link_word}

-- ---- words that f computes from the old words
module _ (f : ℕ → ℕ → ℕ → ℕ) where
  abbrev one : Memory → ℕ → ℕ → List ℕ
  one m at to = word_bytes (f at to (word_at m at))

  pub length-reworded : (m : Memory) (at to n : ℕ) → length (reworded f m at to n) ≡ 8 * n
  length-reworded m at to zero = refl
  length-reworded m at to (suc n) =
      let w = f at to (word_at m at) in let R = reworded f m (at + 8) (to + 8) n in
      omega (arith, length-append (word_bytes w) R, length-word w, length-reworded m (at + 8) (to + 8) n)

  pub reworded-last : (m : Memory) (at to n : ℕ)
      → reworded f m at to n ++ one m (at + 8 * n) (to + 8 * n) ≡ reworded f m at to (suc n)
  reworded-last m at to zero =
      let e : to + 8 * 0 ≡ to = omega arith in let g : at + 8 * 0 ≡ at = omega arith in
      ap₂ (λ (t a : ℕ). one m a t) e g ∙ sym (append-nil (one m at to))
  reworded-last m at to (suc n) =
      let L = one m at to in let R = reworded f m (at + 8) (to + 8) n in
      let e : to + 8 * suc n ≡ to + 8 + 8 * n = omega arith in let g : at + 8 * suc n ≡ at + 8 + 8 * n = omega arith in
      append_assoc L R (one m (at + 8 * suc n) (to + 8 * suc n)) ∙ ap₂ (λ (t a : ℕ). L ++ (R ++ one m a t)) e g
      ∙ ap (λ (l : List ℕ). L ++ l) (reworded-last m (at + 8) (to + 8) n)

  -- words followed by more words
  pub reworded-append : (m : Memory) (at to r n : ℕ)
      → reworded f m at to r ++ reworded f m (at + 8 * r) (to + 8 * r) n ≡ reworded f m at to (r + n)
  reworded-append m at to zero n =
      let e : at + 8 * 0 ≡ at = omega arith in let t : to + 8 * 0 ≡ to = omega arith in
      let g : n ≡ 0 + n = omega arith
      in ap₂ (λ (a u : ℕ). reworded f m a u n) e t ∙ ap (λ (k : ℕ). reworded f m at to k) g
  reworded-append m at to (suc r) n =
      let L = one m at to in let R = reworded f m (at + 8) (to + 8) r in let g : suc (r + n) ≡ suc r + n =
      omega arith in
      let e : at + 8 * suc r ≡ at + 8 + 8 * r = omega arith in let t : to + 8 * suc r ≡ to + 8 + 8 * r = omega arith in
      append_assoc L R (reworded f m (at + 8 * suc r) (to + 8 * suc r) n)
      ∙ ap₂ (λ (a u : ℕ). L ++ (R ++ reworded f m a u n)) e t
      ∙ ap (λ (l : List ℕ). L ++ l) (reworded-append m (at + 8) (to + 8) r n) ∙ ap (λ (k : ℕ). reworded f m at to k) g

  -- equal words give equal results
  pub reworded-same : (m m' : Memory) (at to n : ℕ)
      → ((a : ℕ) → at ≤ a → a + 8 ≤ at + 8 * n → word_at m' a ≡ word_at m a)
      → reworded f m' at to n ≡ reworded f m at to n
  reworded-same m m' at to zero same = refl
  reworded-same m m' at to (suc n) same =
      ap₂ (λ (w : ℕ) (l : List ℕ). word_bytes (f at to w) ++ l) (same at (omega arith) (omega arith))
      (reworded-same m m' (at + 8) (to + 8) n (λ a low high. same a (omega (arith, low)) (omega (arith, high))))

  pub reworded-word : ((a t w : ℕ) → f a t w < 2 ^ 64) → (m : Memory) (at to n k : ℕ) → k < n
      → word_at (bytes_of (reworded f m at to n)) (8 * k) ≡ f (at + 8 * k) (to + 8 * k) (word_at m (at + 8 * k))
  reworded-word fits m at to zero k h = absurd (omega arith)
  reworded-word fits m at to (suc n) zero h =
      let e : to ≡ to + 8 * 0 = omega arith in let g : at ≡ at + 8 * 0 = omega arith in
      word-first (f at to (word_at m at)) (reworded f m (at + 8) (to + 8) n) (fits at to (word_at m at))
      ∙ ap₂ (λ (t a : ℕ). f a t (word_at m a)) e g
  reworded-word fits m at to (suc n) (suc k) h =
      let e : to + 8 + 8 * k ≡ to + 8 * suc k = omega arith in let g : at + 8 + 8 * k ≡ at + 8 * suc k = omega arith in
      let w = f at to (word_at m at) in
      word-behind (word_bytes w) (reworded f m (at + 8) (to + 8) n) 8 (8 * suc k) (8 * k) (length-word w) (omega arith)
      ∙ reworded-word fits m (at + 8) (to + 8) n k (omega arith) ∙ ap₂ (λ (t a : ℕ). f a t (word_at m a)) e g

  module _ (b cur : List ℕ) (to n source : ℕ) (within : to + 8 * n ≤ length b)
      (e : cur ≡ patched b to (reworded f (bytes_of b) source to n)) where
    abbrev T : List ℕ
    T = reworded f (bytes_of b) source to n

    -- the words before the words that moved towards the end are unchanged
    pub words-before : (from r : ℕ) → from + 8 * r ≤ to → (a : ℕ) → from ≤ a → a + 8 ≤ from + 8 * r
        → word_at (bytes_of cur) a ≡ word_at (bytes_of b) a
    words-before from r below a low high =
        ap (λ (l : List ℕ). word_at (bytes_of l) a) e
        ∙ word-before b to T (omega (arith, length-reworded (bytes_of b) source to n)) a (omega (arith, below, high))

    -- and so are those after words that moved towards the start
    pub words-after : (from r : ℕ) → to + 8 * n ≤ from → from + 8 * r ≤ length b → (a : ℕ) → from ≤ a
        → a + 8 ≤ from + 8 * r → word_at (bytes_of cur) a ≡ word_at (bytes_of b) a
    words-after from r above inside a low high =
        let long = length-reworded (bytes_of b) source to n in
        ap (λ (l : List ℕ). word_at (bytes_of l) a) e
        ∙ word-after b to T (omega (arith, long, above, low, high, inside)) a (omega (arith, long, above, low))

  module _ (b cur new : List ℕ) where
    abbrev m : Memory
    m = bytes_of b

    -- the word before the words that moved towards the end
    pub one_before : (from to n : ℕ) → to + 8 + 8 * n ≤ length b → from ≤ to
        → cur ≡ patched b (to + 8) (reworded f m (from + 8) (to + 8) n)
        → new ≡ patched cur to (one (bytes_of cur) from to) → new ≡ patched b to (reworded f m from to (suc n))
    one_before from to n within below e g =
        let T = reworded f m (from + 8) (to + 8) n in let long = length-reworded m (from + 8) (to + 8) n in
        let L = one m from to in let eight = length-word (f from to (word_at m from)) in
        let same : word_at (bytes_of cur) from ≡ word_at m from =
        words-before b cur (to + 8) n (from + 8) within e from 1 (omega arith) from (omega arith) (omega arith) in
        let start : to + 8 ≡ to + length L = omega (arith, eight) in
        g ∙ ap₂ (λ (l : List ℕ) (w : ℕ). patched l to (word_bytes (f from to w))) e same
        ∙ ap (λ (k : ℕ). patched (patched b k T) to L) start
        ∙ patched-prepend b to L T (omega (arith, within, long, eight))

    -- the word after the words that moved towards the start
    pub one_after : (from to n : ℕ) → from + 8 * n + 8 ≤ length b → to ≤ from
        → cur ≡ patched b to (reworded f m from to n)
        → new ≡ patched cur (to + 8 * n) (one (bytes_of cur) (from + 8 * n) (to + 8 * n))
        → new ≡ patched b to (reworded f m from to (suc n))
    one_after from to n within above e g =
        let T = reworded f m from to n in let long = length-reworded m from to n in
        let L = one m (from + 8 * n) (to + 8 * n) in let eight =
        length-word (f (from + 8 * n) (to + 8 * n) (word_at m (from + 8 * n))) in
        let same : word_at (bytes_of cur) (from + 8 * n) ≡ word_at m (from + 8 * n) =
        words-after b cur to n from (omega arith) e (from + 8 * n) 1 (omega arith) (omega arith) (from + 8 * n)
        (omega arith) (omega arith) in
        let start : to + 8 * n ≡ to + length T = omega (arith, long) in
        g ∙ ap₂ (λ (l : List ℕ) (w : ℕ). patched l (to + 8 * n) (word_bytes (f (from + 8 * n) (to + 8 * n) w))) e same
        ∙ ap (λ (k : ℕ). patched (patched b to T) k L) start
        ∙ patched-append b to T L (omega (arith, within, above, long, eight))
        ∙ ap (λ (l : List ℕ). patched b to l) (reworded-last m from to n)

    -- a run of words before the words that moved towards the end
    pub run_before : (from to r n : ℕ) → to + 8 * r + 8 * n ≤ length b → from ≤ to
        → cur ≡ patched b (to + 8 * r) (reworded f m (from + 8 * r) (to + 8 * r) n)
        → new ≡ patched cur to (reworded f (bytes_of cur) from to r) → new ≡ patched b to (reworded f m from to (r + n))
    run_before from to r n within below e g =
        let T = reworded f m (from + 8 * r) (to + 8 * r) n in let long =
        length-reworded m (from + 8 * r) (to + 8 * r) n in
        let L = reworded f m from to r in let front = length-reworded m from to r in
        let same : reworded f (bytes_of cur) from to r ≡ L =
        reworded-same m (bytes_of cur) from to r
        (words-before b cur (to + 8 * r) n (from + 8 * r) within e from r (omega arith)) in
        let start : to + 8 * r ≡ to + length L = omega (arith, front) in
        g ∙ ap₂ (λ (l ws : List ℕ). patched l to ws) e same ∙ ap (λ (k : ℕ). patched (patched b k T) to L) start
        ∙ patched-prepend b to L T (omega (arith, within, long, front))
        ∙ ap (λ (l : List ℕ). patched b to l) (reworded-append m from to r n)

    -- a run of words after the words that moved towards the start
    pub run_after : (from to n r : ℕ) → from + 8 * n + 8 * r ≤ length b → to ≤ from
        → cur ≡ patched b to (reworded f m from to n)
        → new ≡ patched cur (to + 8 * n) (reworded f (bytes_of cur) (from + 8 * n) (to + 8 * n) r)
        → new ≡ patched b to (reworded f m from to (n + r))
    run_after from to n r within above e g =
        let T = reworded f m from to n in let long = length-reworded m from to n in
        let L = reworded f m (from + 8 * n) (to + 8 * n) r in let back =
        length-reworded m (from + 8 * n) (to + 8 * n) r in
        let same : reworded f (bytes_of cur) (from + 8 * n) (to + 8 * n) r ≡ L =
        reworded-same m (bytes_of cur) (from + 8 * n) (to + 8 * n) r
        (words-after b cur to n from (omega arith) e (from + 8 * n) r (omega arith) within) in
        let start : to + 8 * n ≡ to + length T = omega (arith, long) in
        g ∙ ap₂ (λ (l ws : List ℕ). patched l (to + 8 * n) ws) e same
        ∙ ap (λ (k : ℕ). patched (patched b to T) k L) start
        ∙ patched-append b to T L (omega (arith, within, above, long, back))
        ∙ ap (λ (l : List ℕ). patched b to l) (reworded-append m from to n r)

  -- ---- words that are read before one is written
  pub put_first : (m : Memory) (b new : List ℕ) (from to w : ℕ) → new ≡ patched b to (word_bytes w)
      → w ≡ f from to (word_at m from) → new ≡ patched b to (reworded f m from to 1)
  put_first m b new from to w e g =
      e ∙ ap (λ (x : ℕ). patched b to (word_bytes x)) g
      ∙ ap (λ (l : List ℕ). patched b to l) (sym (append-nil (one m from to)))

  -- one word more is written after the others
  pub put_next : (m : Memory) (b cur new : List ℕ) (from to k w : ℕ) → to + 8 * k + 8 ≤ length b
      → cur ≡ patched b to (reworded f m from to k)
      → new ≡ patched cur (to + 8 * k) (word_bytes w) → w ≡ f (from + 8 * k) (to + 8 * k) (word_at m (from + 8 * k))
      → new ≡ patched b to (reworded f m from to (suc k))
  put_next m b cur new from to k w within e g same =
      let T = reworded f m from to k in let long = length-reworded m from to k in
      let L = one m (from + 8 * k) (to + 8 * k) in let eight =
      length-word (f (from + 8 * k) (to + 8 * k) (word_at m (from + 8 * k))) in
      let start : to + 8 * k ≡ to + length T = omega (arith, long) in
      g ∙ ap₂ (λ (l : List ℕ) (x : ℕ). patched l (to + 8 * k) (word_bytes x)) e same
      ∙ ap (λ (j : ℕ). patched (patched b to T) j L) start
      ∙ patched-append b to T L (omega (arith, within, long, eight))
      ∙ ap (λ (l : List ℕ). patched b to l) (reworded-last m from to k)

-- no word
pub no_links : (b : List ℕ) (to at n : ℕ)
    → b ≡ patched b (to + 64 * n) (reworded word_by_distance (bytes_of b) (at + 64 * n) (to + 64 * n) (8 * (n - n)))
no_links b to at n =
    let k = to + 64 * n in let e : 0 ≡ 8 * (n - n) = omega arith in let f : k ≡ k + 0 = omega arith in
    sym (take-append-drop k b) ∙ ap₂ (λ (l : List ℕ) (j : ℕ). l ++ drop j b) (sym (append-nil (take k b))) f
    ∙ ap (λ (j : ℕ). patched b k (reworded word_by_distance (bytes_of b) (at + 64 * n) k j)) e

-- links that are moved have 8 bytes each
pub length-relinked : (m : Memory) (at to n : ℕ) → length (relinked m at to n) ≡ 8 * n
length-relinked m at to n = length-reworded word_by_target m at to n

-- ---- links that lead to multiples of 16
pub all_lead-links : (m : Memory) (at n : ℕ) → AllLinksLead m at n → AreValidLinks m at n
all_lead-links m at n all = record {
  each = λ k h. let lead = all.each k h in subst (λ (o : Option ℕ). IfSome o (λ t. t % 16 ≡ 0)) (sym lead.1) lead.2;
}

-- links that all lead somewhere are not null
pub all_lead-non_null : (m : Memory) (at n : ℕ) → AllLinksLead m at n → HasNoNullLink m at n
all_lead-non_null m at n all =
    record { each = λ k h null. let lead = all.each k h in none-some lead.0 (sym null ∙ lead.1) }

-- ---- links that are seen not to be null
pub or_even : (a b : ℕ) → bit_or a b % 2 ≡ 0 → (a % 2 ≡ 0) × (b % 2 ≡ 0)
or_even a b even =
    let lowest : max (a % 2) (b % 2) ≡ 0 =
    ap₂ (λ (x y : ℕ). max x y) (sym (bit_at_lowest a)) (sym (bit_at_lowest b)) ∙ sym (bit_at_or a b 0)
    ∙ bit_at_lowest (bit_or a b) ∙ even in
    (omega (arith, lowest), omega (arith, lowest))

-- an even word is not null
even_leads : (at w : ℕ) → w % 2 ≡ 0 → target_of at w ≢ None
even_leads at w even null = by_word (w == 1) refl
  where
    by_word : (one : Bool) → (w == 1) ≡ one → ⊥
    by_word true e = let is : w ≡ 1 = eqb-true w 1 e in omega (arith, is, even)
    by_word false e = none-some ((at + w) % 2 ^ 64) (sym null
        ∙ ap (λ (b : Bool). if b then None else Some ((at + w) % 2 ^ 64)) e)

-- a word that is even where it was moved by an even distance was even
plain_even : (at to w : ℕ) → at < 2 ^ 64 → to < 2 ^ 64 → at % 8 ≡ to % 8 → word_by_distance at to w % 2 ≡ 0 → w % 2 ≡ 0
plain_even at to w small here slots even = omega (arith, small, here, slots, even)

-- the bits of four words, joined to the bits of one before
five_even : (s a c e g : ℕ) → bit_or (bit_or (bit_or (bit_or s a) c) e) g % 2 ≡ 0
    → (s % 2 ≡ 0) × ((a % 2 ≡ 0) × ((c % 2 ≡ 0) × ((e % 2 ≡ 0) × (g % 2 ≡ 0))))
five_even s a c e g even =
    let x = or_even (bit_or (bit_or (bit_or s a) c) e) g even in let y = or_even (bit_or (bit_or s a) c) e x.0 in
    let z = or_even (bit_or s a) c y.0 in let u = or_even s a z.0 in (u.0, (u.1, (z.1, (y.1, x.1))))

-- numbers of which the disjunction is even are even
pub even_of : (a b : ℕ) → (bit_or a b % 2 == 1) ≡ false → BothEven a b
even_of a b none = or_even a b (omega (arith, eqb-false (bit_or a b % 2) 1 none))

-- ---- links that were seen not to be null, as they moved
module _ (m : Memory) (at to : ℕ) (small : at + 64 < 2 ^ 64) (here : to + 64 < 2 ^ 64) (slots : at % 8 ≡ to % 8) where
  leads_from : (k w : ℕ) → k < 8 → w ≡ word_by_distance (at + 8 * k) (to + 8 * k) (word_at m (at + 8 * k))
      → w % 2 ≡ 0 → link_at m (at + 8 * k) ≢ None
  leads_from k w few e even =
      even_leads (at + 8 * k) (word_at m (at + 8 * k))
      (plain_even (at + 8 * k) (to + 8 * k) (word_at m (at + 8 * k)) (omega arith) (omega arith) (omega arith)
      (ap (λ (x : ℕ). x % 2) (sym e) ∙ even))

  module _ (a b c d e f g h : ℕ) (ea : a ≡ word_by_distance at to (word_at m at)) (eb : b
      ≡ word_by_distance (at + 8) (to + 8) (word_at m (at + 8)))
      (ec : c ≡ word_by_distance (at + 16) (to + 16) (word_at m (at + 16))) (ed : d
      ≡ word_by_distance (at + 24) (to + 24) (word_at m (at + 24)))
      (ee : e ≡ word_by_distance (at + 32) (to + 32) (word_at m (at + 32))) (ef : f
      ≡ word_by_distance (at + 40) (to + 40) (word_at m (at + 40)))
      (eg : g ≡ word_by_distance (at + 48) (to + 48) (word_at m (at + 48))) (eh : h
      ≡ word_by_distance (at + 56) (to + 56) (word_at m (at + 56))) where
    leads_at : ((a % 2 ≡ 0) × ((c % 2 ≡ 0) × ((e % 2 ≡ 0) × (g % 2 ≡ 0))))
        → ((b % 2 ≡ 0) × ((d % 2 ≡ 0) × ((f % 2 ≡ 0) × (h % 2 ≡ 0))))
        → (k : ℕ) → k < 8 → link_at m (at + 8 * k) ≢ None
    leads_at first second zero few =
        let x : at + 8 * 0 ≡ at = omega arith in let y : to + 8 * 0 ≡ to = omega arith in
        leads_from 0 a few (ea ∙ sym (ap₂ (λ (i j : ℕ). word_by_distance i j (word_at m i)) x y)) first.0
    leads_at first second (suc zero) few = leads_from 1 b few eb second.0
    leads_at first second (suc (suc zero)) few = leads_from 2 c few ec first.1.0
    leads_at first second (suc (suc (suc zero))) few = leads_from 3 d few ed second.1.0
    leads_at first second (suc (suc (suc (suc zero)))) few = leads_from 4 e few ee first.1.1.0
    leads_at first second (suc (suc (suc (suc (suc zero))))) few = leads_from 5 f few ef second.1.1.0
    leads_at first second (suc (suc (suc (suc (suc (suc zero)))))) few = leads_from 6 g few eg first.1.1.1
    leads_at first second (suc (suc (suc (suc (suc (suc (suc zero))))))) few = leads_from 7 h few eh second.1.1.1
    leads_at first second (suc (suc (suc (suc (suc (suc (suc (suc k)))))))) few = absurd (omega (arith, few))

    -- eight words more of which no one is odd: no null link among them
    pub eight_seen : (s t : ℕ) → BothEven (bit_or (bit_or (bit_or (bit_or s a) c) e) g)
        (bit_or (bit_or (bit_or (bit_or t b) d) f) h) → BothEven s t × HasNoNullLink m at 8
    eight_seen s t even =
        let x = five_even s a c e g even.0 in let y = five_even t b d f h even.1 in
        ((x.0, y.0), record { each = leads_at x.1 y.1 })

-- ---- links that are not null, where their words stay
pub non_null-same : (m m' : Memory) (at n : ℕ)
    → ((a : ℕ) → at ≤ a → a + 8 ≤ at + 8 * n → word_at m' a ≡ word_at m a) → HasNoNullLink m at n
    → HasNoNullLink m' at n
non_null-same m m' at n same set = record {
  each = λ k h null. set.each k h (ap (target_of (at + 8 * k)) (sym (same (at + 8 * k) (omega arith) (omega arith)))
      ∙ null);
}

-- a part of links that are not null
pub non_null-part : (m : Memory) (at n from i r : ℕ) → from ≡ at + 8 * i → i + r ≤ n → HasNoNullLink m at n
    → HasNoNullLink m from r
non_null-part m at n from i r e few set = record {
  each = λ k h null.
      let f : from + 8 * k ≡ at + 8 * (i + k) = omega arith in
      set.each (i + k) (omega arith) (subst (λ (a : ℕ). link_at m a ≡ None) f null);
}

-- two runs of links that are not null, one after the other
pub non_null-join : (m : Memory) (at r n : ℕ) → HasNoNullLink m at r → HasNoNullLink m (at + 8 * r) n
    → HasNoNullLink m at (r + n)
non_null-join m at r n front back = record { each = λ k h. by_place k h (cases_lt k r) }
  where
    by_place : (k : ℕ) → k < r + n → (k < r) ⊎ (r ≤ k) → link_at m (at + 8 * k) ≢ None
    by_place k h (inl few) = front.each k few
    by_place k h (inr many) =
        let e : at + 8 * k ≡ at + 8 * r + 8 * (k - r) = omega arith in
        λ null. back.each (k - r) (omega arith) (subst (λ (a : ℕ). link_at m a ≡ None) e null)

-- ---- links that move by the distance, and the repair of null links
word_fits : (m : Memory) (at : ℕ) → ((k : ℕ) → m k < 256) → word_at m at < 2 ^ 64
unfolding word_at
word_fits m at small =
    omega (
      arith,
      small at,
      small (at + 1),
      small (at + 1 + 1),
      small (at + 1 + 1 + 1),
      small (at + 1 + 1 + 1 + 1),
      small (at + 1 + 1 + 1 + 1 + 1),
      small (at + 1 + 1 + 1 + 1 + 1 + 1),
      small (at + 1 + 1 + 1 + 1 + 1 + 1 + 1),
    )

word_by_distance-fits : (at to w : ℕ) → word_by_distance at to w < 2 ^ 64
word_by_distance-fits at to w = link_word-fits to (Some ((at + w) % 2 ^ 64))

-- the words of links that are not null
not_null : (at to w : ℕ) → (target_of at w ≡ None → ⊥) → word_by_distance at to w ≡ word_by_target at to w
not_null at to w set = by_word (w == 1) refl
  where
    by_word : (one : Bool) → (w == 1) ≡ one → word_by_distance at to w ≡ word_by_target at to w
    by_word true e = absurd (set (ap (λ (b : Bool). if b then None else Some ((at + w) % 2 ^ 64)) e))
    by_word false e = sym (ap (λ (b : Bool). link_word to (if b then None else Some ((at + w) % 2 ^ 64))) e)

pub none_null : (m : Memory) (at to n : ℕ) → HasNoNullLink m at n
    → reworded word_by_distance m at to n ≡ relinked m at to n
none_null m at to zero set = refl
none_null m at to (suc n) set =
    let e : at + 8 * 0 ≡ at = omega arith in
    ap₂ (λ (w : ℕ) (l : List ℕ). word_bytes w ++ l)
    (not_null at to (word_at m at) (λ null. set.each 0 (omega arith) (ap (λ (a : ℕ). link_at m a) e ∙ null)))
    (none_null m (at + 8) (to + 8) n (non_null-part m at (suc n) (at + 8) 1 n (omega arith) (omega arith) set))

same_distance : (at to k : ℕ) → at + 8 * k + 8 ≤ 2 ^ 64 → to + 8 * k + 8 ≤ 2 ^ 64
    → word_by_distance at to 1 ≡ word_by_distance (at + 8 * k) (to + 8 * k) 1
same_distance at to k small here = omega (arith, small, here)

only_null : (at to w : ℕ) → at < 2 ^ 64 → to < 2 ^ 64 → w < 2 ^ 64
    → word_by_distance at to w ≡ word_by_distance at to 1 → w ≡ 1
only_null at to w small here fits e = omega (arith, small, here, fits, e)

-- a word that was moved, null again where it was
right_word : (gone at to w : ℕ) → gone ≡ word_by_distance at to 1 → at < 2 ^ 64 → to < 2 ^ 64 → w < 2 ^ 64
    → (if word_by_distance at to w == gone then 1 else word_by_distance at to w) ≡ word_by_target at to w
right_word gone at to w e small here fits = by_case (cases_eq w 1)
  where
    by_case : (w ≡ 1) ⊎ (w ≡ 1 → ⊥)
        → (if word_by_distance at to w == gone then 1 else word_by_distance at to w) ≡ word_by_target at to w
    by_case (inl one) =
        let null : word_by_distance at to w ≡ gone = ap (word_by_distance at to) one ∙ sym e in
        cond-true (word_by_distance at to w == gone) 1 (word_by_distance at to w)
        (eq-eqb (word_by_distance at to w) gone null) ∙ sym (ap (word_by_target at to) one)
    by_case (inr ne) =
        cond-false (word_by_distance at to w == gone) 1 (word_by_distance at to w)
        (ne_eqb (word_by_distance at to w) gone (λ null. ne (only_null at to w small here fits (null ∙ e))))
        ∙ not_null at to w (λ null. ne (null_word at w null))

further : (at k : ℕ) → at + 8 * suc k ≡ at + 8 + 8 * k
further at k = omega arith

right_words : (gone : ℕ) (m m' : Memory) (at to n : ℕ) → at + 8 * n ≤ 2 ^ 64 → to + 8 * n ≤ 2 ^ 64
    → ((k : ℕ) → k < n → gone ≡ word_by_distance (at + 8 * k) (to + 8 * k) 1) → ((a : ℕ) → word_at m a < 2 ^ 64)
    → ((k : ℕ) → k < n → word_at m' (to + 8 * k) ≡ word_by_distance (at + 8 * k) (to + 8 * k) (word_at m (at + 8 * k)))
    → reworded (λ here there w. if w == gone then 1 else w) m' to to n ≡ relinked m at to n
right_words gone m m' at to zero small here e fits moved = refl
right_words gone m m' at to (suc n) small here e fits moved =
    let a : at + 8 * 0 ≡ at = omega arith in let t : to + 8 * 0 ≡ to = omega arith in
    let word : word_at m' to ≡ word_by_distance at to (word_at m at) =
    ap (λ (i : ℕ). word_at m' i) (sym t) ∙ moved 0 (omega arith)
    ∙ ap₂ (λ (i j : ℕ). word_by_distance i j (word_at m i)) a t in
    let null : gone ≡ word_by_distance at to 1 = e 0 (omega arith) ∙ ap₂ (λ (i j : ℕ). word_by_distance i j 1) a t in
    ap₂ (λ (w : ℕ) (l : List ℕ). word_bytes w ++ l)
    (ap (λ (w : ℕ). if w == gone then 1 else w) word
    ∙ right_word gone at to (word_at m at) null (omega arith) (omega arith) (fits at))
    (right_words gone m m' (at + 8) (to + 8) n (omega (arith, small)) (omega (arith, here))
    (λ k h. e (suc k) (omega (arith, h)) ∙ ap₂ (λ (i j : ℕ). word_by_distance i j 1) (further at k) (further to k)) fits
    (λ k h. ap (λ (i : ℕ). word_at m' i) (sym (further to k)) ∙ moved (suc k) (omega (arith, h))
    ∙ ap₂ (λ (i j : ℕ). word_by_distance i j (word_at m i)) (further at k) (further to k)))

-- a write over a former write
patched-again : (b ws ts : List ℕ) (from : ℕ) → from + length ts ≤ length b → length ws ≡ length ts
    → patched (patched b from ws) from ts ≡ patched b from ts
patched-again b ws ts from within long =
    let once : from + length ws ≤ length b = omega (arith, within, long) in
    let mid = patched b from ws in let mid_long = length-patched b from ws once in
    let twice : from + length ts ≤ length mid = omega (arith, within, mid_long) in
    same_bytes (patched mid from ts) (patched b from ts)
    (length-patched mid from ts twice ∙ mid_long ∙ sym (length-patched b from ts within))
    (λ k h. by_place k (cases_lt k from) (cases_lt k (from + length ts)))
  where
    outside : (k : ℕ) → (k < from) ⊎ (from + length ts ≤ k)
        → slice_index (patched (patched b from ws) from ts) k ≡ slice_index (patched b from ts) k
    outside k beside =
        let once : from + length ws ≤ length b = omega (arith, within, long) in
        let mid_long = length-patched b from ws once in
        patched-outside (patched b from ws) from ts (omega (arith, within, mid_long)) k beside
        ∙ patched-outside b from ws once k (subst (λ (n : ℕ). (k < from) ⊎ (from + n ≤ k)) (sym long) beside)
        ∙ sym (patched-outside b from ts within k beside)

    by_place : (k : ℕ) → (k < from) ⊎ (from ≤ k) → (k < from + length ts) ⊎ (from + length ts ≤ k)
        → slice_index (patched (patched b from ws) from ts) k ≡ slice_index (patched b from ts) k
    by_place k (inl low) other = outside k (inl low)
    by_place k (inr high) (inr behind) = outside k (inr behind)
    by_place k (inr high) (inl inside) =
        let e : from + (k - from) ≡ k = omega (arith, high) in
        let once : from + length ws ≤ length b = omega (arith, within, long) in
        let mid_long = length-patched b from ws once in
        ap (slice_index (patched (patched b from ws) from ts)) (sym e)
        ∙ patched-inside (patched b from ws) from ts (omega (arith, within, mid_long)) (k - from) (omega (
          arith,
          high,
          inside,
        ))
        ∙ sym (patched-inside b from ts within (k - from) (omega (arith, high, inside)))
        ∙ ap (slice_index (patched b from ts)) e

module _ (b mid new : List ℕ) (at to n : ℕ) (inside : at + 8 * n ≤ 2 ^ 64) (here : to + 8 * n ≤ 2 ^ 64)
    (within : to + 8 * n ≤ length b) (e : mid ≡ patched b to (reworded word_by_distance (bytes_of b) at to n)) where
  -- a run with no null link, moved by a sum alone
  pub straight : HasNoNullLink (bytes_of b) at n → mid ≡ patched b to (relinked (bytes_of b) at to n)
  straight set = e ∙ ap (λ (l : List ℕ). patched b to l) (none_null (bytes_of b) at to n set)

  -- null links that were moved are made null again
  pub put_right : ((k : ℕ) → slice_index b k < 256)
      → new ≡ patched mid to (reworded (unless_null at to) (bytes_of mid) to to n)
      → new ≡ patched b to (relinked (bytes_of b) at to n)
  put_right small f =
      let m = bytes_of b in let P = reworded word_by_distance m at to n in let long =
      length-reworded word_by_distance m at to n in
      let moved = reworded-word word_by_distance word_by_distance-fits m at to n in
      let words : (k : ℕ) → k < n → word_at (bytes_of mid) (to + 8 * k)
      ≡ word_by_distance (at + 8 * k) (to + 8 * k) (word_at m (at + 8 * k)) =
      λ k h. ap (λ (l : List ℕ). word_at (bytes_of l) (to + 8 * k)) e
      ∙ word-inside b to P (omega (arith, within, long)) (8 * k) (omega (arith, h, long)) ∙ moved k h in
      let Q = relinked m at to n in let as_long = length-relinked m at to n in
      f ∙ ap₂ (λ (l ws : List ℕ). patched l to ws) e
      (right_words (word_by_distance at to 1) m (bytes_of mid) at to n inside here
      (λ k h. same_distance at to k (omega (arith, h, inside)) (omega (arith, h, here))) (λ a.
      word_fits m a small) words)
      ∙ patched-again b P Q to (omega (arith, within, as_long)) (long ∙ sym as_long)

-- ---- where they lead
some_fits : (null : Bool) (t : ℕ) → t < 2 ^ 64 → IfSome (if null then None else Some t) (λ u. u < 2 ^ 64)
some_fits true t h = tt
some_fits false t h = h

target_fits : (at w : ℕ) → IfSome (target_of at w) (λ t. t < 2 ^ 64)
target_fits at w = some_fits (w == 1) ((at + w) % 2 ^ 64) (omega arith)

leads_again : (to : ℕ) (target : Option ℕ) → IfSome target (λ t. t < 2 ^ 64) → IfSome target (λ t. t % 16 ≡ 0)
    → to < 2 ^ 64 → to % 8 ≡ 0 → target_of to (link_word to target) ≡ target
leads_again to None fits even small aligned = refl
leads_again to (Some t) fits even small aligned = target_of-link_word to t small fits aligned even

pub keep_targets : (b : List ℕ) (at to n : ℕ) → to + 8 * n ≤ length b → length b < 2 ^ 64 → to % 8 ≡ 0
    → AreValidLinks (bytes_of b) at n
    → KeepTargets (bytes_of b) (bytes_of (patched b to (relinked (bytes_of b) at to n))) at to n
keep_targets b at to n within small aligned links = record {
  each = λ k h.
      let m = bytes_of b in let R = relinked m at to n in let long = length-relinked m at to n in let target =
      link_at m (at + 8 * k) in
      ap (λ (w : ℕ). target_of (to + 8 * k) w)
      (word-inside b to R (omega (arith, long)) (8 * k) (omega (arith, long))
      ∙ reworded-word word_by_target (λ a t w. link_word-fits t (target_of a w)) m at to n k h)
      ∙ leads_again (to + 8 * k) target (target_fits (at + 8 * k) (word_at m (at + 8 * k))) (links.each k h)
      (omega arith) (omega arith);
}

-- the window's bytes, lent whole
pub lent_whole : (b old : List ℕ) (size : ℕ) → size ≡ length b → old ≡ part b 0 size → old ≡ b
lent_whole b old size long e = e ∙ take_all size b (omega arith)

-- and after they were lent to a move
pub lent_leads : (b old new : List ℕ) (size at to n : ℕ) → size ≡ length b → size < 2 ^ 64 → old ≡ part b 0 size
    → new ≡ patched old to (relinked (bytes_of old) at to n)
    → to + 8 * n ≤ length b → to % 8 ≡ 0 → AreValidLinks (bytes_of b) at n
    → KeepTargets (bytes_of b) (bytes_of (patched b 0 (refill size (part b 0 size) new))) at to n
lent_leads b old new size at to n long small e f within aligned links =
    let whole = lent_whole b old size long e in
    let moved : new ≡ patched b to (relinked (bytes_of b) at to n) =
    f ∙ ap (λ (l : List ℕ). patched l to (relinked (bytes_of l) at to n)) whole in
    let new_long : length new ≡ length b =
    ap (λ (l : List ℕ). length l) moved
    ∙ length-patched b to (relinked (bytes_of b) at to n) (omega (arith, length-relinked (bytes_of b) at to n)) in
    let all : patched b 0 (refill size (part b 0 size) new) ≡ patched b to (relinked (bytes_of b) at to n) =
    ap (λ (l : List ℕ). patched b 0 l) (refill-all size (part b 0 size) new (omega arith))
    ∙ patched-all b new new_long ∙ moved in
    let kept = keep_targets b at to n within (omega arith) aligned links in
    record { each = λ k h. ap (λ (l : List ℕ). link_at (bytes_of l) (to + 8 * k)) all ∙ kept.each k h }
