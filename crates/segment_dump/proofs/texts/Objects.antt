-- The lines of an object tell its name, its kind and its elements.
use Rattle.segment_dump.proofs.Common.{◌≡◌, ◌≢◌, ℕ, ◌≤◌, ℤ, true, List, [], ◌∷◌, ◌++◌, drop, refl, sym, ap, subst, ◌∙◌}
use Rattle.segment_dump.proofs.Common.{arith, append_assoc, ◌<◌, ◌^◌, length, decimal, AllByRecursion, flat_map, Class}
use Rattle.segment_dump.proofs.Common.{Anonymous, Named, Unique, Kind, ScalarKind, is_value, kind_text, name_text}
use Rattle.segment_dump.proofs.Common.{value_text, ValueContent, Scalars, Vector, String, Map, Strings, DumpItem}
use Rattle.segment_dump.proofs.Common.{count_of_content, kind_of_content, content_text, element_line, head_line}
use Rattle.segment_dump.proofs.Common.{item_text, kind_and_count_text, pair_line, text_lines, IsByteList}
use Rattle.segment_dump.proofs.Common.{IsBuildableContent}
use Rattle.segment_dump.proofs.{Common.IsNameIn, Common.IsTypedPair, texts.QuotedTexts.Any}
use Rattle.segment_dump.proofs.{texts.QuotedTexts.names-read}
use Rattle.segment_dump.proofs.{texts.Pieces.texts-read, texts.LineTokens.decimal-token, texts.LineTokens.values-read}
use Rattle.segment_dump.proofs.{texts.KindTokens.kinds-read}
use Rattle.segment_dump.proofs.texts.OneReading.{Breaks, IsRow, Stops, heads, row-reads, tails, tokens-read}

-- ---- what a text begins with

-- a text begins with this letter
pub record IsFirst (c : ℕ) (a : List ℕ) : Type 0 where
  pub more : List ℕ
  pub is : a ≡ c ∷ more

-- a text does not begin with two letters
pub never-first : (c d : ℕ) (a : List ℕ) → c ≢ d → IsFirst c a → IsFirst d a → ⊥
never-first c d a n f g = n (heads (sym f.is ∙ g.is))

-- no line of an element
pub record IsNoLine (a : List ℕ) : Type 0 where
  pub other : IsFirst 0x20 a → ⊥

-- a text that begins with a letter is no line of an element
pub first-no_line : (c : ℕ) (a : List ℕ) → c ≢ 0x20 → IsFirst c a → IsNoLine a
first-no_line c a n f = record { other = λ g. never-first c 0x20 a n f g }

low-breaks : (c : ℕ) (a : List ℕ) → c ≤ 0x20 → Breaks (c ∷ a)
low-breaks c a l = record { low = λ d ds e. omega (arith, heads e) }

-- a line end breaks a word
pub ends-line : (a : List ℕ) → Breaks (0x0A ∷ a)
ends-line a = low-breaks 0x0A a (omega arith)

-- a blank breaks a word
pub parts-token : (a : List ℕ) → Breaks (0x20 ∷ a)
parts-token a = low-breaks 0x20 a (omega arith)

-- ---- lines of elements

abbrev pub IsValueOf : ScalarKind → ℤ → Type 0
IsValueOf k z = is_value k z ≡ true

elements-row : (k : ScalarKind) → IsRow (element_line k) (IsValueOf k) Any (IsFirst 0x20)
elements-row k = record {
  code = record {
    reads = λ y z a b p q f g e.
        let r = values-read k y z (0x0A ∷ a) (0x0A ∷ b) p q (ends-line a) (ends-line b)
        (sym (append_assoc (value_text k y) (0x0A ∷ []) a) ∙ ap (drop 2) e
        ∙ append_assoc (value_text k z) (0x0A ∷ []) b) in
        (r.0, tails r.1);
  };
  begins = λ z a p. record { more = drop 1 (element_line k z ++ a); is = refl };
  follows = λ z a p. tt;
}

pair-apart : (x y a : List ℕ) → x ++ 0x20 ∷ y ++ 0x0A ∷ [] ++ a ≡ x ++ 0x20 ∷ (y ++ 0x0A ∷ a)
pair-apart x y a = append_assoc (x ++ 0x20 ∷ y) (0x0A ∷ []) a ∙ append_assoc x (0x20 ∷ y) (0x0A ∷ a)

pairs-read : (k v : ScalarKind) (p q : ℤ × ℤ) (a b : List ℕ) → IsTypedPair k v p → IsTypedPair k v q
    → pair_line k v p ++ a ≡ pair_line k v q ++ b → (p ≡ q) × (a ≡ b)
pairs-read k v (x, y) (z, w) a b p q e =
    let r = values-read k x z (0x20 ∷ (value_text v y ++ 0x0A ∷ a)) (0x20 ∷ (value_text v w ++ 0x0A ∷ b)) p.0 q.0
    (parts-token (value_text v y ++ 0x0A ∷ a)) (parts-token (value_text v w ++ 0x0A ∷ b))
    (sym (pair-apart (value_text k x) (value_text v y) a) ∙ ap (drop 2) e
    ∙ pair-apart (value_text k z) (value_text v w) b) in
    let s = values-read v y w (0x0A ∷ a) (0x0A ∷ b) p.1 q.1 (ends-line a) (ends-line b) (tails r.1) in
    (λ i. (r.0 i, s.0 i), tails s.1)

pairs-row : (k v : ScalarKind) → IsRow (pair_line k v) (IsTypedPair k v) Any (IsFirst 0x20)
pairs-row k v = record {
  code = record { reads = λ p q a b h g f n e. pairs-read k v p q a b h g e };
  begins = λ p a h. record { more = drop 1 (pair_line k v p ++ a); is = refl };
  follows = λ p a h. tt;
}

abbrev IsText : List ℕ → Type 0
IsText bs = (length bs < 2 ^ 64) × IsByteList bs

texts-row : IsRow text_lines IsText Any (IsFirst 0x20)
texts-row = record {
  code = record { reads = λ bs cs a b p q f g e. texts-read bs cs a b p.0 q.0 e };
  begins = λ bs a p. record { more = drop 1 (text_lines bs ++ a); is = refl };
  follows = λ bs a p. tt;
}

-- ---- the elements of an object

line-stops : (a : List ℕ) → IsNoLine a → Stops Any (IsFirst 0x20) a
line-stops a n = record { follows = tt; none = n.other }

-- two rows of elements of the same kind
elements-read : (k l : ScalarKind) (ys zs : List ℤ) (a b : List ℕ) → k ≡ l → AllByRecursion (IsValueOf k) ys
    → AllByRecursion (IsValueOf l) zs → IsNoLine a → IsNoLine b
    → flat_map (element_line k) ys ++ a ≡ flat_map (element_line l) zs ++ b → (ys ≡ zs) × (a ≡ b)
elements-read k l ys zs a b h p q f g e =
    row-reads (element_line l) (IsValueOf l) Any (IsFirst 0x20) (elements-row l) ys zs a b
    (subst (λ k. AllByRecursion (IsValueOf k) ys) h p) q (line-stops a f) (line-stops b g)
    (ap (λ k. flat_map (element_line k) ys ++ a) (sym h) ∙ e)

maps-read : (k l v w : ScalarKind) (ps qs : List (ℤ × ℤ)) (a b : List ℕ) → k ≡ l → v ≡ w
    → AllByRecursion (IsTypedPair k v) ps → AllByRecursion (IsTypedPair l w) qs → IsNoLine a → IsNoLine b
    → flat_map (pair_line k v) ps ++ a ≡ flat_map (pair_line l w) qs ++ b → (ps ≡ qs) × (a ≡ b)
maps-read k l v w ps qs a b h i p q f g e =
    row-reads (pair_line l w) (IsTypedPair l w) Any (IsFirst 0x20) (pairs-row l w) ps qs a b
    (subst (λ k. AllByRecursion (IsTypedPair k w) ps) h (subst (λ v. AllByRecursion (IsTypedPair k v) ps) i p)) q
    (line-stops a f) (line-stops b g)
    (ap (λ k. flat_map (pair_line k w) ps ++ a) (sym h) ∙ ap (λ v. flat_map (pair_line k v) ps ++ a) (sym i) ∙ e)

strings-read : (ss ts : List (List ℕ)) (a b : List ℕ) → AllByRecursion IsText ss → AllByRecursion IsText ts
    → IsNoLine a → IsNoLine b → flat_map text_lines ss ++ a ≡ flat_map text_lines ts ++ b → (ss ≡ ts) × (a ≡ b)
strings-read ss ts a b p q f g e = row-reads text_lines IsText Any (IsFirst 0x20) texts-row ss ts a b p q
    (line-stops a f) (line-stops b g) e

contents-read : (c d : ValueContent) (a b : List ℕ) → IsBuildableContent c → IsBuildableContent d → kind_of_content c
    ≡ kind_of_content d → IsNoLine a → IsNoLine b → content_text c ++ a ≡ content_text d ++ b → (c ≡ d) × (a ≡ b)
contents-read (Scalars k ys) (Scalars l zs) a b p q h f g e =
    let same : k ≡ l = cc in let r = elements-read k l ys zs a b same p.2 q.2 f g e in
    (λ i. Scalars (same i) (r.0 i), r.1)
contents-read (Vector k ys) (Vector l zs) a b p q h f g e =
    let same : k ≡ l = cc in let r = elements-read k l ys zs a b same p.1 q.1 f g e in
    (λ i. Vector (same i) (r.0 i), r.1)
contents-read (String bs) (String cs) a b p q h f g e = let r = texts-read bs cs a b p.0 q.0 e in (ap String r.0, r.1)
contents-read (Map k v ps) (Map l w qs) a b p q h f g e =
    let keys : k ≡ l = cc in let values : v ≡ w = cc in
    let r = maps-read k l v w ps qs a b keys values p.1 q.1 f g e in (λ i. Map (keys i) (values i) (r.0 i), r.1)
contents-read (Strings ss) (Strings ts) a b p q h f g e = let r = strings-read ss ts a b p.1 q.1 f g e in
    (ap Strings r.0, r.1)
contents-read c d a b p q h f g e = absurd (cc)

-- ---- kind and count

measure-apart : (k n a : List ℕ) → k ++ 0x20 ∷ n ++ 0x0A ∷ [] ++ a ≡ k ++ 0x20 ∷ (n ++ 0x0A ∷ a)
measure-apart = pair-apart

measures-read : (k l : Kind) (m n : ℕ) (a b : List ℕ) → kind_and_count_text k m ++ a ≡ kind_and_count_text l n ++ b
    → (k ≡ l) × (a ≡ b)
measures-read k l m n a b e =
    let r = kinds-read k l (0x20 ∷ (decimal m ++ 0x0A ∷ a)) (0x20 ∷ (decimal n ++ 0x0A ∷ b))
    (parts-token (decimal m ++ 0x0A ∷ a)) (parts-token (decimal n ++ 0x0A ∷ b))
    (sym (measure-apart (kind_text k) (decimal m) a) ∙ e ∙ measure-apart (kind_text l) (decimal n) b) in
    let s = tokens-read (decimal m) (decimal n) (0x0A ∷ a) (0x0A ∷ b) (decimal-token m) (decimal-token n) (ends-line a)
    (ends-line b) (tails r.1) in
    (r.0, tails s.1)

-- ---- an object

-- it is of a class, only named ones have names, and it can be made
pub record IsGoodItem (c : Class) (i : DumpItem) : Type 0 where
  pub class : i.class ≡ c
  pub name : IsNameIn i.class i.name
  pub nameless : c ≢ Named → i.name ≡ []
  pub content : IsBuildableContent i.content

-- its own line, its class as it is
abbrev head_as : Class → DumpItem → List ℕ
head_as c i = head_line c i.name (kind_of_content i.content) (count_of_content i.content)

abbrev text_as : Class → DumpItem → List ℕ
text_as c i = head_as c i ++ content_text i.content

as-class : (c : Class) (i : DumpItem) → i.class ≡ c → item_text i ≡ text_as c i
as-class c i h = ap (λ c. text_as c i) h

abbrev measure_in : ValueContent → List ℕ
measure_in c = kind_and_count_text (kind_of_content c) (count_of_content c)

bodies-read : (c d : ValueContent) (a b : List ℕ) → IsBuildableContent c → IsBuildableContent d → IsNoLine a
    → IsNoLine b → measure_in c ++ content_text c ++ a ≡ measure_in d ++ content_text d ++ b → (c ≡ d) × (a ≡ b)
bodies-read c d a b p q f g e =
    let r = measures-read (kind_of_content c) (kind_of_content d) (count_of_content c) (count_of_content d)
    (content_text c ++ a) (content_text d ++ b)
    (sym (append_assoc (measure_in c) (content_text c) a) ∙ e ∙ append_assoc (measure_in d) (content_text d) b) in
    contents-read c d a b p q r.0 f g r.1

named-apart : (n m c a : List ℕ) → n ++ 0x20 ∷ m ++ c ++ a ≡ n ++ 0x20 ∷ (m ++ c ++ a)
named-apart n m c a = append_assoc (n ++ 0x20 ∷ m) c a ∙ append_assoc n (0x20 ∷ m) (c ++ a)
    ∙ ap (λ l. n ++ 0x20 ∷ l) (sym (append_assoc m c a))

-- what a line tells, by its class
record IsTold (c : Class) (i j : DumpItem) (a b : List ℕ) : Type 0 where
  name : c ≡ Named → i.name ≡ j.name
  content : i.content ≡ j.content
  more : a ≡ b

texts-told : (c : Class) (i j : DumpItem) (a b : List ℕ) → IsBuildableContent i.content → IsBuildableContent j.content
    → IsNoLine a → IsNoLine b → text_as c i ++ a ≡ text_as c j ++ b → IsTold c i j a b
texts-told Named i j a b p q f g e =
    let r = names-read i.name j.name (0x20 ∷ (measure_in i.content ++ content_text i.content ++ a))
    (0x20 ∷ (measure_in j.content ++ content_text j.content ++ b))
    (parts-token (measure_in i.content ++ content_text i.content ++ a))
    (parts-token (measure_in j.content ++ content_text j.content ++ b))
    (sym (named-apart (name_text i.name) (measure_in i.content) (content_text i.content) a) ∙ ap (drop 6) e
    ∙ named-apart (name_text j.name) (measure_in j.content) (content_text j.content) b) in
    let s = bodies-read i.content j.content a b p q f g (tails r.1) in
    record { name = λ n. r.0; content = s.0; more = s.1 }
texts-told Unique i j a b p q f g e =
    let s = bodies-read i.content j.content a b p q f g (ap (drop 7) e) in
    record { name = λ n. absurd (cc); content = s.0; more = s.1 }
texts-told Anonymous i j a b p q f g e =
    let s = bodies-read i.content j.content a b p q f g (ap (drop 10) e) in
    record { name = λ n. absurd (cc); content = s.0; more = s.1 }

same-name : (c : Class) (i j : DumpItem) (a b : List ℕ) → IsGoodItem c i → IsGoodItem c j → IsTold c i j a b
    → i.name ≡ j.name
same-name Named i j a b p q t = t.name refl
same-name Unique i j a b p q t = p.nameless (λ e. cc) ∙ sym (q.nameless (λ e. cc))
same-name Anonymous i j a b p q t = p.nameless (λ e. cc) ∙ sym (q.nameless (λ e. cc))

-- the letter that its line begins with
abbrev pub letter : Class → ℕ
letter Named = 0x6E
letter Unique = 0x75
letter Anonymous = 0x61

text-first : (c : Class) (i : DumpItem) (a : List ℕ) → IsFirst (letter c) (text_as c i ++ a)
text-first Named i a = record { more = drop 1 (text_as Named i ++ a); is = refl }
text-first Unique i a = record { more = drop 1 (text_as Unique i ++ a); is = refl }
text-first Anonymous i a = record { more = drop 1 (text_as Anonymous i ++ a); is = refl }

-- the text of an object begins with the letter of its class
pub item-first : (c : Class) (i : DumpItem) (a : List ℕ) → i.class ≡ c → IsFirst (letter c) (item_text i ++ a)
item-first c i a h = subst (λ t. IsFirst (letter c) (t ++ a)) (sym (as-class c i h)) (text-first c i a)

letter-high : (c : Class) → letter c ≢ 0x20
letter-high Named = λ e. omega arith
letter-high Unique = λ e. omega arith
letter-high Anonymous = λ e. omega arith

item-reads : (c : Class) (i j : DumpItem) (a b : List ℕ) → IsGoodItem c i → IsGoodItem c j → IsNoLine a → IsNoLine b
    → item_text i ++ a ≡ item_text j ++ b → (i ≡ j) × (a ≡ b)
item-reads c i j a b p q f g e =
    let t = texts-told c i j a b p.content q.content f g (ap (λ t. t ++ a) (sym (as-class c i p.class)) ∙ e
    ∙ ap (λ t. t ++ b) (as-class c j q.class)) in
    let class : i.class ≡ j.class = p.class ∙ sym q.class in
    let name : i.name ≡ j.name = same-name c i j a b p q t in
    (λ x. record { class = class x; name = name x; content = t.content x }, t.more)

-- the texts of objects are a row
pub items-row : (c : Class) → IsRow item_text (IsGoodItem c) IsNoLine (IsFirst (letter c))
items-row c = record {
  code = record { reads = λ i j a b p q f g e. item-reads c i j a b p q f g e };
  begins = λ i a p. item-first c i a p.class;
  follows = λ i a p. first-no_line (letter c) (item_text i ++ a) (letter-high c) (item-first c i a p.class);
}
