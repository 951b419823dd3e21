-- A dump tells its objects.
use Rattle.segment_dump.proofs.Common.{◌≡◌, ◌≢◌, ◌⊎◌, inl, inr, ℕ, ◌<◌, ◌^◌, List, [], ◌∷◌, ◌++◌, drop, length, refl}
use Rattle.segment_dump.proofs.Common.{sym, ap, subst, ◌∙◌, arith, append_assoc, codes, decimal, AllByRecursion}
use Rattle.segment_dump.proofs.Common.{decimal_injective, Class, Anonymous, Named, Unique, DumpItem, Items, dump_text}
use Rattle.segment_dump.proofs.Common.{end_text, prefix_text, item_text, items_text}
use Rattle.segment_dump.proofs.{texts.OneReading.Stops, texts.OneReading.row-reads, texts.OneReading.tails}
use Rattle.segment_dump.proofs.{texts.OneReading.tokens-read, texts.LineTokens.decimal-token}
use Rattle.segment_dump.proofs.texts.Objects.{IsFirst, IsGoodItem, IsNoLine, ends-line, first-no_line, item-first}
use Rattle.segment_dump.proofs.texts.Objects.{items-row, letter, never-first, parts-token}

-- ---- the first lines

prefix-apart : (s i p q l x : List ℕ) → s ++ i ++ p ++ q ++ l ++ x ≡ s ++ (i ++ (p ++ (q ++ (l ++ x))))
prefix-apart s i p q l x = simp append_assoc

prefixes-read : (s t p q m n : ℕ) (a b : List ℕ) → prefix_text s p m ++ a ≡ prefix_text t q n ++ b
    → (decimal s ≡ decimal t) × (a ≡ b)
prefixes-read s t p q m n a b e =
    let indexes : List ℕ = 0x0A ∷ codes "indexes " in
    let x : List ℕ = 0x20 ∷ (decimal m ++ 0x0A ∷ a) in
    let y : List ℕ = 0x20 ∷ (decimal n ++ 0x0A ∷ b) in
    let sizes = tokens-read (decimal s) (decimal t) (indexes ++ (decimal p ++ x)) (indexes ++ (decimal q ++ y))
    (decimal-token s) (decimal-token t)
    (ends-line (codes "indexes " ++ (decimal p ++ x))) (ends-line (codes "indexes " ++ (decimal q ++ y)))
    (sym (prefix-apart (decimal s) indexes (decimal p) (0x20 ∷ decimal m) (0x0A ∷ []) a) ∙ ap (drop 20) e
    ∙ prefix-apart (decimal t) indexes (decimal q) (0x20 ∷ decimal n) (0x0A ∷ []) b) in
    let named = tokens-read (decimal p) (decimal q) x y (decimal-token p) (decimal-token q)
    (parts-token (decimal m ++ 0x0A ∷ a)) (parts-token (decimal n ++ 0x0A ∷ b)) (ap (drop 9) sizes.1) in
    let unique = tokens-read (decimal m) (decimal n) (0x0A ∷ a) (0x0A ∷ b) (decimal-token m) (decimal-token n)
    (ends-line a) (ends-line b) (tails named.1) in
    (sizes.0, tails unique.1)

-- ---- the objects of a class, and what follows

-- what follows begins with another letter than an object of the class
record IsBehind (c : Class) (a : List ℕ) : Type 0 where
  first : ℕ
  is : IsFirst first a
  high : 0x20 < first
  other : first ≢ letter c

behind-stops : (c : Class) (a : List ℕ) → IsBehind c a → Stops IsNoLine (IsFirst (letter c)) a
behind-stops c a h =
    let no_blank : h.first ≢ 0x20 = λ e. omega (arith, h.high) in
    record {
      follows = first-no_line h.first a no_blank h.is;
      none = λ f. never-first h.first (letter c) a h.other h.is f;
    }

abbrev AreGood : Class → List DumpItem → Type 0
AreGood c = AllByRecursion (IsGoodItem c)

class-read : (c : Class) (is js : List DumpItem) (a b : List ℕ) → AreGood c is → AreGood c js → IsBehind c a
    → IsBehind c b → items_text is ++ a ≡ items_text js ++ b → (is ≡ js) × (a ≡ b)
class-read c is js a b p q f g e =
    row-reads item_text (IsGoodItem c) IsNoLine (IsFirst (letter c)) (items-row c) is js a b p q
    (behind-stops c a f) (behind-stops c b g) e

-- the letter of the line `end`, of an anonymous object or, up to 0, of a unique one
abbrev IsAmong : ℕ → ℕ → Type 0
IsAmong low late = (late ≡ 0x65) ⊎ ((late ≡ 0x61) ⊎ ((late ≡ 0x75) × (low ≡ 0)))

record IsLate (low : ℕ) (a : List ℕ) : Type 0 where
  late : ℕ
  is : IsFirst late a
  among : IsAmong low late

end-late : (low : ℕ) → IsLate low end_text
end-late low = record { late = 0x65; is = record { more = drop 1 end_text; is = refl }; among = inl refl }

anonymous-late : (low : ℕ) (is : List DumpItem) → AreGood Anonymous is → IsLate low (items_text is ++ end_text)
anonymous-late low [] p = end-late low
anonymous-late low (i ∷ is) p =
    let more : List ℕ = items_text is ++ end_text in
    record {
      late = 0x61;
      is = subst (IsFirst 0x61) (sym (append_assoc (item_text i) (items_text is) end_text))
          (item-first Anonymous i more p.0.class);
      among = inr (inl refl);
    }

unique-late : (us is : List DumpItem) → AreGood Unique us → AreGood Anonymous is
    → IsLate 0 (items_text us ++ (items_text is ++ end_text))
unique-late [] is p q = anonymous-late 0 is q
unique-late (u ∷ us) is p q =
    let more : List ℕ = items_text us ++ (items_text is ++ end_text) in
    record {
      late = 0x75;
      is = subst (IsFirst 0x75) (sym (append_assoc (item_text u) (items_text us) (items_text is ++ end_text)))
          (item-first Unique u more p.0.class);
      among = inr (inr (refl, refl));
    }

end-behind : IsBehind Anonymous end_text
end-behind = record {
  first = 0x65;
  is = record { more = drop 1 end_text; is = refl };
  high = omega arith;
  other = λ e. omega arith;
}

late-high : (low late : ℕ) → IsAmong low late → 0x20 < late
late-high low late (inl e) = omega arith
late-high low late (inr (inl e)) = omega arith
late-high low late (inr (inr e)) = omega arith

late-no_unique : (late : ℕ) → IsAmong 1 late → late ≢ 0x75
late-no_unique late (inl e) = λ f. omega arith
late-no_unique late (inr (inl e)) = λ f. omega arith
late-no_unique late (inr (inr e)) = λ f. omega arith

late-no_named : (low late : ℕ) → IsAmong low late → late ≢ 0x6E
late-no_named low late (inl e) = λ f. omega arith
late-no_named low late (inr (inl e)) = λ f. omega arith
late-no_named low late (inr (inr e)) = λ f. omega arith

unique-behind : (a : List ℕ) → IsLate 1 a → IsBehind Unique a
unique-behind a l = record {
  first = l.late;
  is = l.is;
  high = late-high 1 l.late l.among;
  other = late-no_unique l.late l.among;
}

named-behind : (a : List ℕ) → IsLate 0 a → IsBehind Named a
named-behind a l = record {
  first = l.late;
  is = l.is;
  high = late-high 0 l.late l.among;
  other = late-no_named 0 l.late l.among;
}

-- ---- all objects

-- each is of its class
pub record AreItems (items : Items) : Type 0 where
  pub named : AreGood Named items.named
  pub unique : AreGood Unique items.unique
  pub anonymous : AreGood Anonymous items.anonymous

-- two dumps that are equal have the same objects
pub dumps-read : (m n : ℕ) (is js : Items) → AreItems is → AreItems js → dump_text m is ≡ dump_text n js → is ≡ js
dumps-read m n is js p q e =
    let x : List ℕ = items_text is.anonymous ++ end_text in
    let y : List ℕ = items_text js.anonymous ++ end_text in
    let prefix : items_text is.named ++ (items_text is.unique ++ x)
    ≡ items_text js.named ++ (items_text js.unique ++ y) =
    (prefixes-read m n (length is.named) (length js.named) (length is.unique) (length js.unique) _ _ e).1 in
    let named = class-read Named is.named js.named (items_text is.unique ++ x) (items_text js.unique ++ y) p.named
    q.named (named-behind (items_text is.unique ++ x) (unique-late is.unique is.anonymous p.unique p.anonymous))
    (named-behind (items_text js.unique ++ y) (unique-late js.unique js.anonymous q.unique q.anonymous)) prefix in
    let unique = class-read Unique is.unique js.unique x y p.unique q.unique
    (unique-behind x (anonymous-late 1 is.anonymous p.anonymous))
    (unique-behind y (anonymous-late 1 js.anonymous q.anonymous)) named.1 in
    let anonymous = class-read Anonymous is.anonymous js.anonymous end_text end_text p.anonymous q.anonymous
    end-behind end-behind unique.1 in
    (λ i. record { named = named.0 i; unique = unique.0 i; anonymous = anonymous.0 i })

-- and the size that is said
pub sizes-read : (m n : ℕ) (is js : Items) → m < 2 ^ 64 → n < 2 ^ 64 → dump_text m is ≡ dump_text n js → m ≡ n
sizes-read m n is js p q e = decimal_injective m n p q
    (prefixes-read m n (length is.named) (length js.named) (length is.unique) (length js.unique) _ _ e).0
