-- What is counted of texts, contents and objects.
use Rattle.seg_types.specs.declared.kinds.Kind.TheVariants as kinds
use Rattle.segment_dump.proofs.Common.{◌≡◌, ℕ, suc, ◌+◌, ◌-◌, ◌<◌, ◌≤◌, List, [], ◌∷◌, ◌++◌, length, Option, Some, None}
use Rattle.segment_dump.proofs.Common.{refl, sym, ap, subst, ◌∙◌, arith, append_assoc, ⊤, flat_map, option_map, Kind}
use Rattle.segment_dump.proofs.Common.{number_text, Needs, AreTexts, HasContentShape, ValueContent, Scalars, Vector}
use Rattle.segment_dump.proofs.Common.{String, Map, Strings, kind_of_content, count_of_content, IsSmall, all_needs}
use Rattle.segment_dump.proofs.Common.{block_room, both, nothing, only_room, text_needs, texts_needs, Any, AreLines}
use Rattle.segment_dump.proofs.Common.{Breaks, ParsesPrefix, Skips, itself, lines_text, content_text, pieces_in}
use Rattle.segment_dump.proofs.Common.{pieces_text, text_lines}
use Rattle.segment_dump.proofs.{texts.OneReading.tails, texts.Options.none-some, texts.Options.some-pair}
use Rattle.segment_dump.proofs.{texts.Pieces.pieces-break}
use Rattle.segment_dump.proofs.texts.Elements.{IsLines, element-lines, pair-lines, piece-lines}
use Rattle.segment_dump.proofs.counting.Sums.{IsPart, block-least, part-end, part-more, part-small, part-start}

-- ---- a text

-- a text is short enough to be counted
abbrev pub IsShort : List ℕ → Type 0
IsShort bs = IsSmall (length bs)

abbrev pub CountReads : List ℕ → Option (ℕ × List ℕ) → Type 0
CountReads = ParsesPrefix number_text IsSmall Breaks itself

abbrev pub TextReads : List ℕ → Option (ℕ × List ℕ) → Type 0
TextReads = ParsesPrefix text_lines IsShort Any length

text-behind : (text x bs a : List ℕ) → text ≡ 0x20 ∷ 0x20 ∷ x → text ≡ text_lines bs ++ a
    → x ≡ number_text (length bs) ++ (pieces_text bs ++ a)
text-behind text x bs a e f = tails (tails (sym e ∙ f)) ∙ append_assoc (number_text (length bs)) (pieces_text bs) a

-- a text that does not begin with a number is none
pub text-none : (text x : List ℕ) → text ≡ 0x20 ∷ 0x20 ∷ x → CountReads x None → TextReads text None
text-none text x e h = record {
  reads = λ bs a s g f.
      absurd (none-some (length bs, pieces_text bs ++ a)
      (h.reads (length bs) (pieces_text bs ++ a) s (pieces-break bs a) (text-behind text x bs a e f)));
}

-- a text that begins with a number and its lines
pub text-some : (text x : List ℕ) (n : ℕ) (rest : List ℕ) (k : ℕ) (o : Option (List ℕ)) → text ≡ 0x20 ∷ 0x20 ∷ x
    → CountReads x (Some (n, rest)) → k ≡ pieces_in n → Skips lines_text (AreLines k) rest o
    → TextReads text (option_map (λ l. (n, l)) o)
text-some text x n rest k o e h m s = record {
  reads = λ bs a g w f.
      let some = some-pair n (length bs) rest (pieces_text bs ++ a)
      (h.reads (length bs) (pieces_text bs ++ a) g (pieces-break bs a) (text-behind text x bs a e f)) in
      let lines = piece-lines bs in
      let many : length lines.lines ≡ k = lines.are.1 ∙ sym (ap pieces_in some.0) ∙ sym m in
      let found : o ≡ Some a = s.skips lines.lines a (lines.are.0, many) (some.1 ∙ ap (λ l. l ++ a) lines.whole) in
      ap (option_map (λ l. (n, l))) found ∙ ap (λ j. Some (j, a)) some.0;
}

-- ---- texts

-- what is left of this many texts, and what was counted of them
pub record TextsLeft (rest : List ℕ) (counted whole : Needs) (n : ℕ) (a : List ℕ) : Type 0 where
  pub texts : List (List ℕ)
  pub many : length texts ≡ n
  pub part : IsPart counted (all_needs text_needs texts) whole
  pub small : IsSmall whole.room
  pub is : rest ≡ flat_map text_lines texts ++ a

-- the strings counted so far, and the text that is left
pub record InTexts (text rest : List ℕ) (counted : Needs) (count counter : ℕ) : Type 0 where
  pub left : (ts : List (List ℕ)) (a : List ℕ) → AreTexts count ts → text ≡ flat_map text_lines ts ++ a
      → TextsLeft rest counted (all_needs text_needs ts) (count - counter) a

abbrev pub TextsRead : ℕ → List ℕ → Option (Needs × List ℕ) → Type 0
TextsRead count = ParsesPrefix (flat_map text_lines) (AreTexts count) Any (all_needs text_needs)

-- before the first string the whole text is left
pub texts-start : (text : List ℕ) (count : ℕ) (none : Needs) → none ≡ nothing → InTexts text text none count 0
texts-start text count none z = record {
  left = λ ts a h e. record {
    texts = ts;
    many = omega (arith, h.many);
    part = subst (λ n. IsPart n (all_needs text_needs ts) (all_needs text_needs ts)) (sym z)
        (part-start (all_needs text_needs ts));
    small = h.small;
    is = e;
  };
}

no-texts : (rest a : List ℕ) (counted whole : Needs) (ts : List (List ℕ)) → length ts ≡ 0
    → IsPart counted (all_needs text_needs ts) whole → rest ≡ flat_map text_lines ts ++ a
    → (counted ≡ whole) × (rest ≡ a)
no-texts rest a counted whole [] m p e = (part-end counted whole p, e)
no-texts rest a counted whole (t ∷ ts) m p e = absurd (omega arith)

-- all strings are counted
pub texts-end : (text rest : List ℕ) (counted : Needs) (count counter : ℕ) → count ≤ counter
    → InTexts text rest counted count counter → TextsRead count text (Some (counted, rest))
texts-end text rest counted count counter l h = record {
  reads = λ ts a g w e.
      let f = h.left ts a g e in
      let r = no-texts rest a counted (all_needs text_needs ts) f.texts (omega (arith, f.many)) f.part f.is in
      λ i. Some (r.0 i, r.1 i);
}

short-first : (counted whole : Needs) (t : List ℕ) (ts : List (List ℕ))
    → IsPart counted (all_needs text_needs (t ∷ ts)) whole → IsSmall whole.room → IsShort t
short-first counted whole t ts p s =
    omega (arith, part-small counted (all_needs text_needs (t ∷ ts)) whole p, block-least (length t))

first-text : (rest a : List ℕ) (counted whole : Needs) (n : ℕ) (ts : List (List ℕ)) (o : Option (ℕ × List ℕ))
    → length ts ≡ suc n → IsPart counted (all_needs text_needs ts) whole → IsSmall whole.room
    → rest ≡ flat_map text_lines ts ++ a
    → TextReads rest o → (t : List ℕ) × (ys : List (List ℕ)) × (o ≡ Some (length t, flat_map text_lines ys ++ a))
    × (length ys ≡ n) × IsPart counted (both (text_needs t) (all_needs text_needs ys)) whole
first-text rest a counted whole n [] o m p s e h = absurd (omega arith)
first-text rest a counted whole n (t ∷ ts) o m p s e h = (
  t,
  ts,
  h.reads t (flat_map text_lines ts ++ a) (short-first counted whole t ts p s) tt (e
      ∙ append_assoc (text_lines t) (flat_map text_lines ts) a),
  omega arith,
  p,
)

abbrev AddsText : Needs → ℕ → Needs → Type 0
AddsText counted len sum = counted.room + block_room len < 18446744073709551616
    → sum ≡ both counted (record { room = block_room len; longest = len })

-- one string more is counted
pub texts-more : (text rest : List ℕ) (counted sum : Needs) (count counter len : ℕ) (new : List ℕ) → counter < count
    → InTexts text rest counted count counter → TextReads rest (Some (len, new)) → AddsText counted len sum
    → InTexts text new sum count (counter + 1)
texts-more text rest counted sum count counter len new l h s f = record {
  left = λ ts a g e.
      let k = h.left ts a g e in
      let r = first-text rest a counted (all_needs text_needs ts) (count - (counter + 1)) k.texts (Some (len, new))
      (omega (arith, k.many)) k.part k.small k.is s in
      let same = some-pair len (length r.0) new (flat_map text_lines r.1 ++ a) r.2 in
      record {
        texts = r.1;
        many = r.3;
        part = part-more counted (text_needs r.0) (all_needs text_needs r.1) (all_needs text_needs ts) sum k.small
            r.4 (subst (λ n. AddsText counted n sum) same.0 f);
        small = k.small;
        is = same.1;
      };
}

-- a string that was not read: the count fails
pub texts-cut : (text rest : List ℕ) (counted : Needs) (count counter : ℕ) → counter < count
    → InTexts text rest counted count counter → TextReads rest None → TextsRead count text None
texts-cut text rest counted count counter l h s = record {
  reads = λ ts a g w e.
      let k = h.left ts a g e in
      let r = first-text rest a counted (all_needs text_needs ts) (count - (counter + 1)) k.texts None
      (omega (arith, k.many)) k.part k.small k.is s in
      absurd (none-some (length r.0, flat_map text_lines r.1 ++ a) r.2);
}

-- ---- a content

-- what the content of a kind is read as
abbrev pub ContentReads : Kind → ℕ → List ℕ → Option (Needs × List ℕ) → Type 0
ContentReads kind count = ParsesPrefix content_text (HasContentShape kind count) Any texts_needs

-- each element is a line
abbrev pub IsLined : Kind → Type 0
IsLined (kinds.Scalar k) = ⊤
IsLined kinds.String = ⊥
IsLined (kinds.Vector k) = ⊤
IsLined (kinds.Map k v) = ⊤
IsLined kinds.Strings = ⊥

lined-by : (c : ValueContent) (kind : Kind) → kind_of_content c ≡ kind → IsLined kind
    → IsLines (count_of_content c) (content_text c) × (texts_needs c ≡ nothing)
lined-by (Scalars k zs) kind e h = (element-lines k zs, refl)
lined-by (Vector k zs) kind e h = (element-lines k zs, refl)
lined-by (String bs) kind e h = absurd (subst IsLined (sym e) h)
lined-by (Map k v ps) kind e h = (pair-lines k v ps, refl)
lined-by (Strings ts) kind e h = absurd (subst IsLined (sym e) h)

-- the content of a kind that has a line for each element
pub content-lined : (kind : Kind) (count : ℕ) (text : List ℕ) (o : Option (Needs × List ℕ)) → IsLined kind
    → ParsesPrefix lines_text (AreLines count) Any (λ lines. nothing) text o → ContentReads kind count text o
content-lined kind count text o l h = record {
  reads = λ c a g w e.
      let r = lined-by c kind g.kind_is l in
      h.reads r.0.lines a (r.0.are.0, r.0.are.1 ∙ g.many) tt (e ∙ ap (λ t. t ++ a) r.0.whole)
      ∙ ap (λ n. Some (n, a)) (sym r.1);
}

string-by : (c : ValueContent) (text : List ℕ) (o : Option (Needs × List ℕ)) (a : List ℕ)
    → kind_of_content c ≡ kinds.String → IsSmall (texts_needs c).room → text ≡ content_text c ++ a
    → ParsesPrefix text_lines IsShort Any (λ bs. only_room (block_room (length bs))) text o
    → o ≡ Some (texts_needs c, a)
string-by (String bs) text o a k s e h = h.reads bs a (omega (arith, block-least (length bs))) tt e
string-by (Scalars k zs) text o a e s f h = absurd (cc)
string-by (Vector k zs) text o a e s f h = absurd (cc)
string-by (Map k v ps) text o a e s f h = absurd (cc)
string-by (Strings ts) text o a e s f h = absurd (cc)

-- the content of a string
pub content-string : (kind : Kind) (count : ℕ) (text : List ℕ) (o : Option (Needs × List ℕ)) → kind ≡ kinds.String
    → ParsesPrefix text_lines IsShort Any (λ bs. only_room (block_room (length bs))) text o
    → ContentReads kind count text o
content-string kind count text o k h = record { reads = λ c a g w e. string-by c text o a (g.kind_is ∙ k) g.small e h }
