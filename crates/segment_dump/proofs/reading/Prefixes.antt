-- What a reader finds at the front of a text: lines, words, numbers, kinds, quoted bytes and names.
use Rattle.segment_dump.proofs.Common.{◌≡◌, ◌≢◌, ℕ, suc, ◌+◌, ◌-◌, ◌<◌, ◌≤◌, List, [], ◌∷◌, ◌++◌, length, take, drop}
use Rattle.segment_dump.proofs.Common.{get_or, refl, sym, ap, subst, ◌∙◌, arith, append_assoc, ◌^◌, Option, Some, None}
use Rattle.segment_dump.proofs.Common.{decimal, flat_map, option_map, take_all, AllByRecursion, kind_text, name_text}
use Rattle.segment_dump.proofs.Common.{IsSmall, closed_text, Any, AreLines, Breaks, HasNoEnd, IsToken, ParsesPrefix}
use Rattle.segment_dump.proofs.Common.{Skips, ended, itself, lines_text, seen, seen_rest, current, Kind, whole_language}
use Rattle.segment_dump.proofs.Common.{NumbersAreDecimals, kind_named, number_text, number_of}
use Rattle.std.specs.Borrow.{Bor}
use Rattle.seg_types.specs.Texts.{item_text}
use Rattle.segment_dump.proofs.{texts.OneReading.heads, texts.OneReading.tails, texts.OneReading.tokens-read}
use Rattle.segment_dump.proofs.{texts.LineTokens.decimal-token}
use Rattle.segment_dump.proofs.texts.KindTokens.{kind-named, kind-token}
use Rattle.segment_dump.proofs.texts.QuotedTexts.{IsName, bare, item-is, item-opens, name-is, quoted}

-- ---- equal results

module _ {X Y : Type 0} (say : X → List ℕ) (IsSaid : X → Type 0) (Follows : List ℕ → Type 0) (value : X
    → Y) (text : List ℕ) where
  -- if one of two equal results parses the prefix, so does the other
  pub as-seen : (o p : Option (Y × Bor (List ℕ))) → o ≡ p → ParsesPrefix say IsSaid Follows value text (seen o)
      → ParsesPrefix say IsSaid Follows value text (seen p)
  as-seen o p e h = subst (λ (q : Option (Y × Bor (List ℕ))). ParsesPrefix say IsSaid Follows value text (seen q)) e h

-- ---- a line

-- `rest` is what is left of a line, and then `a`
abbrev pub LineLeft : List ℕ → List ℕ → Type 0
LineLeft rest a = (left : List ℕ) × HasNoEnd left × (rest ≡ ended left ++ a)

-- for every line with which `text` can begin, `rest` is what is left of that line, and then what follows the line
pub record InLine (text rest : List ℕ) : Type 0 where
  pub left : (line a : List ℕ) → HasNoEnd line → text ≡ ended line ++ a → LineLeft rest a

-- a byte that ends the line
pub line-ends : (f : ℕ) (tail left a : List ℕ) → f ≡ 0x0A → HasNoEnd left → f ∷ tail ≡ ended left ++ a → tail ≡ a
line-ends f tail [] a n h e = tails e
line-ends f tail (c ∷ cs) a n h e = absurd (h.0 (sym (heads e) ∙ n))

-- a byte that ends no line
pub line-goes : (f : ℕ) (tail left a : List ℕ) → f ≢ 0x0A → HasNoEnd left → f ∷ tail ≡ ended left ++ a → LineLeft tail a
line-goes f tail [] a n h e = absurd (n (heads e))
line-goes f tail (c ∷ cs) a n h e = (cs, h.1, tails e)

-- ---- a word

-- the bytes of `text` before `rest` are bytes of a word
pub record InToken (text rest : List ℕ) : Type 0 where
  pub token : List ℕ
  pub high : IsToken token
  pub whole : text ≡ token ++ rest

token-append : (w : List ℕ) (c : ℕ) → IsToken w → 0x20 < c → IsToken (w ++ c ∷ [])
token-append [] c h l = (l, tt)
token-append (d ∷ w) c h l = (h.0, token-append w c h.1 l)

-- taking one byte less than the whole length takes all of the tail
pub tail-all : (c : ℕ) (tail : List ℕ) → take (length (c ∷ tail) - 1) tail ≡ tail
tail-all c tail = take_all (length (c ∷ tail) - 1) tail (omega arith)

-- a byte that ends no word
pub token-goes : (text rest : List ℕ) → 1 ≤ length rest → 0x20 < get_or rest 0 0 → InToken text rest
    → InToken text (take (length rest - 1) (drop 1 rest))
token-goes text [] l g h = absurd (omega arith)
token-goes text (c ∷ tail) l g h =
    subst (InToken text) (sym (tail-all c tail))
    (record {
      token = h.token ++ c ∷ [];
      high = token-append h.token c h.high g;
      whole = h.whole ∙ sym (append_assoc h.token (c ∷ []) tail);
    })

-- ---- numbers

-- `text` begins with a word, and the word ends before `rest`
pub record IsSplit (text token rest : List ℕ) : Type 0 where
  pub whole : text ≡ token ++ rest
  pub high : IsToken token
  pub breaks : Breaks rest

pub split-read : (text w rest v a : List ℕ) → IsSplit text w rest → IsToken v → Breaks a → text ≡ v ++ a
    → (w ≡ v) × (rest ≡ a)
split-read text w rest v a s h b e = tokens-read w v rest a s.high h s.breaks b (sym s.whole ∙ e)

abbrev pub NumberReads : List ℕ → Option (ℕ × List ℕ) → Type 0
NumberReads = ParsesPrefix number_text (λ n. n < 2 ^ 64) Breaks itself

-- reading a word that spells a number gives that number
pub number-reads : NumbersAreDecimals → (text w rest : List ℕ) (o : Option ℕ) → o ≡ number_of w
    → IsSplit text w rest → NumberReads text (option_map (λ n. (n, rest)) o)
number-reads law text w rest o f s = record {
  reads = λ n a small b e.
      let r = split-read text w rest (decimal n) a s (decimal-token n) b e in
      let said : number_of (decimal n) ≡ Some n = (law (decimal n) n).1 (small, refl) in
      let found : o ≡ Some n = f ∙ ap number_of r.0 ∙ said in
      ap (option_map (λ m. (m, rest))) found ∙ ap (λ l. Some (n, l)) r.1;
}

-- the text begins with the spelling of the number that was read
pub number-whole_language : NumbersAreDecimals → (text w rest : List ℕ) (n : ℕ) → number_of w ≡ Some n
    → text ≡ w ++ rest
    → text ≡ number_text n ++ rest
number-whole_language law text w rest n e s = s ∙ ap (λ v. v ++ rest) ((law w n).0 e).1

-- ---- kinds

abbrev pub KindReads : List ℕ → Option (Kind × List ℕ) → Type 0
KindReads = ParsesPrefix kind_text Any Breaks itself

-- reading a word that spells a kind gives that kind
pub kind-reads : (text w rest : List ℕ) (o : Option Kind) → o ≡ kind_named (whole_language current) w
    → IsSplit text w rest
    → KindReads text (option_map (λ k. (k, rest)) o)
kind-reads text w rest o f s = record {
  reads = λ k a said b e.
      let r = split-read text w rest (kind_text k) a s (kind-token k) b e in
      let found : o ≡ Some k = f ∙ ap (kind_named (whole_language current)) r.0 ∙ kind-named k in
      ap (option_map (λ j. (j, rest))) found ∙ ap (λ l. Some (k, l)) r.1;
}

-- ---- lines

-- `rest` is `n` lines, and then `a`
pub record LinesLeft (rest : List ℕ) (n : ℕ) (a : List ℕ) : Type 0 where
  pub lines : List (List ℕ)
  pub good : AllByRecursion HasNoEnd lines
  pub many : length lines ≡ n
  pub whole : rest ≡ lines_text lines ++ a

-- the lines skipped so far, and the text that is left
pub record InLines (text rest : List ℕ) (count counter : ℕ) : Type 0 where
  pub left : (lines : List (List ℕ)) (a : List ℕ) → AreLines count lines → text ≡ lines_text lines ++ a
      → LinesLeft rest (count - counter) a

-- before the first line the whole text is left
pub lines-start : (text : List ℕ) (count : ℕ) → InLines text text count 0
lines-start text count = record {
  left = λ lines a h e.
      record { lines = lines; good = h.0; many = omega arith; whole = e };
}

no-lines : (rest a : List ℕ) (lines : List (List ℕ)) → rest ≡ lines_text lines ++ a → length lines ≡ 0 → rest ≡ a
no-lines rest a [] e f = e
no-lines rest a (l ∷ ls) e f = absurd (omega arith)

-- all lines are skipped
pub lines-end : (text rest : List ℕ) (count counter : ℕ) → count ≤ counter → InLines text rest count counter
    → Skips lines_text (AreLines count) text (Some rest)
lines-end text rest count counter l h = record {
  skips = λ lines a g e. let f = h.left lines a g e
      in ap Some (no-lines rest a f.lines f.whole (omega (arith, f.many)));
}

-- skipping the first line leaves one line less
first-line : (rest : List ℕ) (n : ℕ) (a : List ℕ) (lines : List (List ℕ)) (o : Option (List ℕ))
    → AllByRecursion HasNoEnd lines → length lines ≡ suc n → rest ≡ lines_text lines ++ a → Skips ended HasNoEnd rest o
    → (new : List ℕ) × (o ≡ Some new) × LinesLeft new n a
first-line rest n a [] o g m e h = absurd (omega arith)
first-line rest n a (l ∷ ls) o g m e h = (
  lines_text ls ++ a,
  h.skips l (lines_text ls ++ a) g.0 (e ∙ append_assoc (ended l) (lines_text ls) a),
  record { lines = ls; good = g.1; many = omega arith; whole = refl },
)

-- one line more is skipped
pub lines-more : (text rest : List ℕ) (count counter : ℕ) (o : Option (Bor (List ℕ))) (new : Bor (List ℕ))
    → counter < count → InLines text rest count counter → Skips ended HasNoEnd rest (seen_rest o) → o ≡ Some new
    → InLines text new.now count (counter + 1)
lines-more text rest count counter o new l h s f = record {
  left = λ lines a g e.
      let k = h.left lines a g e in
      let r = first-line rest (count - (counter + 1)) a k.lines (seen_rest o) k.good (omega (arith, k.many)) k.whole
      s in
      let same : Some new.now ≡ Some r.0 = sym (ap seen_rest f) ∙ r.1 in
      let is : new.now ≡ r.0 = cc in
      subst (λ t. LinesLeft t (count - (counter + 1)) a) (sym is) r.2;
}

-- no line is left: the skipping fails
pub lines-cut : (text rest : List ℕ) (count counter : ℕ) (o : Option (Bor (List ℕ))) → counter < count
    → InLines text rest count counter → Skips ended HasNoEnd rest (seen_rest o) → o ≡ None
    → Skips lines_text (AreLines count) text None
lines-cut text rest count counter o l h s f = record {
  skips = λ lines a g e.
      let k = h.left lines a g e in
      let r = first-line rest (count - (counter + 1)) a k.lines (seen_rest o) k.good (omega (arith, k.many)) k.whole
      s in
      let none : None ≡ Some r.0 = sym (ap seen_rest f) ∙ r.1 in
      absurd (cc);
}

-- ---- bytes in quotes

pub record QuotesLeft (rest : List ℕ) (len n : ℕ) (a : List ℕ) : Type 0 where
  pub bytes : List ℕ
  pub many : len + length bytes ≡ n
  pub whole : rest ≡ closed_text bytes ++ a

-- a name is short enough
abbrev pub IsShort : List ℕ → Type 0
IsShort bs = IsSmall (length bs)

-- `len` bytes of a quoted text are read, and `rest` is the text that is left
pub record InQuotes (text rest : List ℕ) (len : ℕ) : Type 0 where
  pub left : (bs a : List ℕ) → IsShort bs → text ≡ closed_text bs ++ a → QuotesLeft rest len (length bs) a

abbrev pub QuotedReads : List ℕ → Option (ℕ × List ℕ) → Type 0
QuotedReads = ParsesPrefix closed_text IsShort Any length

-- before the first byte the whole text is left
pub quotes-start : (text : List ℕ) → InQuotes text text 0
quotes-start text = record { left = λ bs a s e. record { bytes = bs; many = omega arith; whole = e } }

closed-first : (c : ℕ) (cs a : List ℕ) → closed_text (c ∷ cs) ++ a ≡ item_text c ++ (closed_text cs ++ a)
closed-first c cs a = ap (λ l. l ++ a) (append_assoc (item_text c) (flat_map item_text cs) (0x22 ∷ []))
    ∙ append_assoc (item_text c) (closed_text cs) a

quote-here : (rest x : List ℕ) (len n : ℕ) (a bytes : List ℕ) → rest ≡ 0x22 ∷ x → len + length bytes ≡ n
    → rest ≡ closed_text bytes ++ a → (len ≡ n) × (x ≡ a)
quote-here rest x len n a [] q m e = (omega arith, tails (sym q ∙ e))
quote-here rest x len n a (c ∷ cs) q m e =
    absurd (item-opens c (item_text c) (closed_text cs ++ a) x (item-is c) (sym (closed-first c cs a) ∙ sym e ∙ q))

-- the closing quote: the text is read
pub quotes-end : (text rest x : List ℕ) (len : ℕ) → rest ≡ 0x22 ∷ x → InQuotes text rest len
    → QuotedReads text (Some (len, x))
quotes-end text rest x len q h = record {
  reads = λ bs a s f e.
      let k = h.left bs a s e in
      let r = quote-here rest x len (length bs) a k.bytes q k.many k.whole in
      λ i. Some (r.0 i, r.1 i);
}

first-byte : (rest : List ℕ) (len n : ℕ) (a bytes : List ℕ) (o : Option (List ℕ)) → ((x : List ℕ) → rest ≢ 0x22 ∷ x)
    → len + length bytes ≡ n → rest ≡ closed_text bytes ++ a → Skips item_text Any rest o
    → (new : List ℕ) × (o ≡ Some new) × QuotesLeft new (len + 1) n a
first-byte rest len n a [] o q m e h = absurd (q a e)
first-byte rest len n a (c ∷ cs) o q m e h = (
  closed_text cs ++ a,
  h.skips c (closed_text cs ++ a) tt (e ∙ closed-first c cs a),
  record { bytes = cs; many = omega arith; whole = refl },
)

-- one byte more is read
pub quotes-more : (text rest : List ℕ) (len : ℕ) (o : Option (Bor (List ℕ))) (new : Bor (List ℕ))
    → ((x : List ℕ) → rest ≢ 0x22 ∷ x) → InQuotes text rest len → Skips item_text Any rest (seen_rest o)
    → o ≡ Some new → InQuotes text new.now (len + 1)
quotes-more text rest len o new q h s f = record {
  left = λ bs a g e.
      let k = h.left bs a g e in
      let r = first-byte rest len (length bs) a k.bytes (seen_rest o) q k.many k.whole s in
      let same : Some new.now ≡ Some r.0 = sym (ap seen_rest f) ∙ r.1 in
      let is : new.now ≡ r.0 = cc in
      subst (λ t. QuotesLeft t (len + 1) (length bs) a) (sym is) r.2;
}

-- no byte is left: the reading fails
pub quotes-cut : (text rest : List ℕ) (len : ℕ) (o : Option (Bor (List ℕ))) → ((x : List ℕ) → rest ≢ 0x22 ∷ x)
    → InQuotes text rest len → Skips item_text Any rest (seen_rest o) → o ≡ None → QuotedReads text None
quotes-cut text rest len o q h s f = record {
  reads = λ bs a g w e.
      let k = h.left bs a g e in
      let r = first-byte rest len (length bs) a k.bytes (seen_rest o) q k.many k.whole s in
      let none : None ≡ Some r.0 = sym (ap seen_rest f) ∙ r.1 in
      absurd (cc);
}

-- ---- names

abbrev pub NameReads : List ℕ → Option (ℕ × List ℕ) → Type 0
NameReads = ParsesPrefix name_text IsShort Breaks length

name-token : (text w rest name a t : List ℕ) → ((x : List ℕ) → text ≢ 0x22 ∷ x) → IsSplit text w rest → Breaks a
    → IsName name t → text ≡ t ++ a → (w ≡ name) × (rest ≡ a)
name-token text w rest name a t q s b (bare c cs f n h g) e =
    split-read text w rest name a s h b (e ∙ ap (λ l. l ++ a) g)
name-token text w rest name a t q s b (quoted g) e = absurd (q (closed_text name ++ a) (e ∙ ap (λ l. l ++ a) g))

-- a name without quotes is a word
pub name-bare : (text w rest : List ℕ) → ((x : List ℕ) → text ≢ 0x22 ∷ x) → IsSplit text w rest
    → NameReads text (Some (length w, rest))
name-bare text w rest q s = record {
  reads = λ name a g b e. let r = name-token text w rest name a (name_text name) q s b (name-is name) e
      in λ i. Some (length (r.0 i), r.1 i);
}

-- a word that is too long is no name
pub name-long : (text w rest : List ℕ) → ((x : List ℕ) → text ≢ 0x22 ∷ x) → IsSplit text w rest
    → 1073741824 < length w → NameReads text None
name-long text w rest q s l = record {
  reads = λ name a g b e. let r = name-token text w rest name a (name_text name) q s b (name-is name) e
      in absurd (omega (arith, ap length r.0));
}
