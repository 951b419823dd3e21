-- A text in quotes, and a name, bare or in quotes, tell their bytes.
use Rattle.segment_dump.proofs.Common.{◌≡◌, ◌≢◌, ℕ, ◌/◌, ◌%◌, ◌<◌, Bool, true, false, ◌||◌, ◌==◌, cond, List, [], ◌∷◌}
use Rattle.segment_dump.proofs.Common.{◌++◌, refl, sym, ap, ◌∙◌, arith, append_assoc, ⊤, flat_map, list_all, and_parts}
use Rattle.segment_dump.proofs.Common.{nat_tests, between, digit_text, escape_text, is_bare_name, is_letter}
use Rattle.segment_dump.proofs.Common.{is_name_byte, name_text, quoted_text}
use Rattle.seg_types.specs.Texts.{item_text}
use Rattle.segment_dump.proofs.texts.OneReading.{Breaks, IsRow, IsToken, Stops, heads, row-reads, tails, tokens-read}
use Rattle.segment_dump.proofs.texts.AllElements.{all-any, all-tested}

-- ---- a byte in quotes

-- after a backslash, as it is, or by its two digits
abbrev pub code_text : ℕ → List ℕ
code_text c = 0x5C ∷ 0x78 ∷ digit_text (c / 16) ∷ digit_text (c % 16) ∷ []

pub data IsItem (c : ℕ) (t : List ℕ) : Type 0 where
  escaped : c ≢ 0x78 → t ≡ 0x5C ∷ c ∷ [] → IsItem c t
  plain : c ≢ 0x22 → c ≢ 0x5C → t ≡ c ∷ [] → IsItem c t
  coded : t ≡ code_text c → IsItem c t

quote-no_x : (c : ℕ) → ((c == 0x22) || (c == 0x5C)) ≡ true → c ≢ 0x78
quote-no_x c e f = grind (arith, nat_tests)

no-quote : (c : ℕ) → ((c == 0x22) || (c == 0x5C)) ≡ false → (c ≢ 0x22) × (c ≢ 0x5C)
no-quote c e = (λ f. grind (arith, nat_tests), λ f. grind (arith, nat_tests))

item-by : (c : ℕ) (q p : Bool) → ((c == 0x22) || (c == 0x5C)) ≡ q
    → IsItem c (cond q (0x5C ∷ c ∷ []) (cond p (c ∷ []) (escape_text c)))
item-by c true p e = escaped (quote-no_x c e) refl
item-by c false true e = let n = no-quote c e in plain n.0 n.1 refl
item-by c false false e = coded refl

-- the text of a byte is one
pub item-is : (c : ℕ) → IsItem c (item_text c)
item-is c = item-by c ((c == 0x22) || (c == 0x5C)) (between 0x20 0x7E c) refl

digits-same : (d e : ℕ) → digit_text d ≡ digit_text e → d ≡ e
digits-same d e h = grind (arith, nat_tests)

coded-same : (c d : ℕ) → digit_text (c / 16) ≡ digit_text (d / 16) → digit_text (c % 16) ≡ digit_text (d % 16) → c ≡ d
coded-same c d h l = omega (arith, digits-same (c / 16) (d / 16) h, digits-same (c % 16) (d % 16) l)

-- the items as they stand in front of what follows
abbrev Behind : List ℕ → List ℕ → List ℕ → List ℕ → Type 0
Behind s t a b = s ++ a ≡ t ++ b

as-is : (s s' t t' a b : List ℕ) → s ≡ s' → t ≡ t' → Behind s t a b → Behind s' t' a b
as-is s s' t t' a b f g e = ap (λ l. l ++ a) (sym f) ∙ e ∙ ap (λ l. l ++ b) g

items-read : (c d : ℕ) (s t a b : List ℕ) → IsItem c s → IsItem d t → Behind s t a b → (c ≡ d) × (a ≡ b)
items-read c d s t a b (escaped n f) (escaped m g) e = let h = as-is s (0x5C ∷ c ∷ []) t (0x5C ∷ d ∷ []) a b f g e
    in (heads (tails h), tails (tails h))
items-read c d s t a b (escaped n f) (plain m k g) e = let h = as-is s (0x5C ∷ c ∷ []) t (d ∷ []) a b f g e
    in absurd (k (sym (heads h)))
items-read c d s t a b (escaped n f) (coded g) e = let h = as-is s (0x5C ∷ c ∷ []) t (code_text d) a b f g e
    in absurd (n (heads (tails h)))
items-read c d s t a b (plain n k f) (escaped m g) e = let h = as-is s (c ∷ []) t (0x5C ∷ d ∷ []) a b f g e
    in absurd (k (heads h))
items-read c d s t a b (plain n k f) (plain m l g) e = let h = as-is s (c ∷ []) t (d ∷ []) a b f g e
    in (heads h, tails h)
items-read c d s t a b (plain n k f) (coded g) e = let h = as-is s (c ∷ []) t (code_text d) a b f g e
    in absurd (k (heads h))
items-read c d s t a b (coded f) (escaped m g) e = let h = as-is s (code_text c) t (0x5C ∷ d ∷ []) a b f g e
    in absurd (m (sym (heads (tails h))))
items-read c d s t a b (coded f) (plain m k g) e = let h = as-is s (code_text c) t (d ∷ []) a b f g e
    in absurd (k (sym (heads h)))
items-read c d s t a b (coded f) (coded g) e =
    let h = as-is s (code_text c) t (code_text d) a b f g e in
    (coded-same c d (heads (tails (tails h))) (heads (tails (tails (tails h)))), tails (tails (tails (tails h))))

-- the text of a byte opens no quote
pub item-opens : (c : ℕ) (t a y : List ℕ) → IsItem c t → t ++ a ≡ 0x22 ∷ y → ⊥
item-opens c t a y (escaped n f) e = omega (arith, heads (ap (λ l. l ++ a) (sym f) ∙ e))
item-opens c t a y (plain n k f) e = n (heads (ap (λ l. l ++ a) (sym f) ∙ e))
item-opens c t a y (coded f) e = omega (arith, heads (ap (λ l. l ++ a) (sym f) ∙ e))

-- ---- a text in quotes

-- any text
abbrev pub Any : List ℕ → Type 0
Any a = ⊤

abbrev AnyByte : ℕ → Type 0
AnyByte c = ⊤

-- the closing quote is not here
record IsOpen (l : List ℕ) : Type 0 where
  not_closed : (y : List ℕ) → l ≡ 0x22 ∷ y → ⊥

items-row : IsRow item_text AnyByte Any IsOpen
items-row = record {
  code = record {
    reads = λ c d a b p q f g e.
        items-read c d (item_text c) (item_text d) a b (item-is c) (item-is d) e;
  };
  begins = λ c a p. record { not_closed = λ y e. item-opens c (item_text c) a y (item-is c) e };
  follows = λ c a p. tt;
}

closes : (a : List ℕ) → Stops Any IsOpen (0x22 ∷ a)
closes a = record { follows = tt; none = λ o. o.not_closed a refl }

-- two quoted texts that begin equal texts are one
pub quoted-read : (bs cs a b : List ℕ) → quoted_text bs ++ a ≡ quoted_text cs ++ b → (bs ≡ cs) × (a ≡ b)
quoted-read bs cs a b e =
    let same : flat_map item_text bs ++ 0x22 ∷ a ≡ flat_map item_text cs ++ 0x22 ∷ b =
    sym (append_assoc (flat_map item_text bs) (0x22 ∷ []) a) ∙ tails e
    ∙ append_assoc (flat_map item_text cs) (0x22 ∷ []) b in
    let r = row-reads item_text AnyByte Any IsOpen items-row bs cs (0x22 ∷ a) (0x22 ∷ b) (all-any AnyByte (λ c. tt) bs)
    (all-any AnyByte (λ c. tt) cs) (closes a) (closes b) same in
    (r.0, tails r.1)

-- ---- a name

-- a text is a name, bare or in quotes
pub data IsName (name t : List ℕ) : Type 0 where
  -- a name that is a word
  bare : (c : ℕ) (cs : List ℕ) → name ≡ c ∷ cs → c ≢ 0x22 → IsToken name → t ≡ name → IsName name t
  -- a name in quotes
  quoted : t ≡ quoted_text name → IsName name t

name-byte : (c : ℕ) → is_name_byte c ≡ true → 0x20 < c
name-byte c e = grind (arith, nat_tests)

first-byte : (c : ℕ) → (is_letter c || (c == 0x5F)) ≡ true → (0x20 < c) × (c ≢ 0x22)
first-byte c e = (grind (arith, nat_tests), λ f. grind (arith, nat_tests))

name-by : (name : List ℕ) (b : Bool) → is_bare_name name ≡ b → IsName name (cond b name (quoted_text name))
name-by [] true e = absurd (cc)
name-by (c ∷ cs) true e =
    let p = and_parts (is_letter c || (c == 0x5F)) (list_all is_name_byte cs) e in
    let f = first-byte c p.0 in
    bare c cs refl f.1 (f.0, all-tested is_name_byte (λ c. 0x20 < c) name-byte cs p.1) refl
name-by name false e = quoted refl

-- the text of a name is one
pub name-is : (name : List ℕ) → IsName name (name_text name)
name-is name = name-by name (is_bare_name name) refl

names-read-by : (n m s t a b : List ℕ) → IsName n s → IsName m t → Breaks a → Breaks b → s ++ a ≡ t ++ b
    → (n ≡ m) × (a ≡ b)
names-read-by n m s t a b (bare c cs h k w f) (bare d ds i l v g) p q e =
    tokens-read n m a b w v p q (ap (λ u. u ++ a) (sym f) ∙ e ∙ ap (λ u. u ++ b) g)
names-read-by n m s t a b (bare c cs h k w f) (quoted g) p q e =
    absurd (k (heads (ap (λ u. u ++ a) (sym (f ∙ h)) ∙ e ∙ ap (λ u. u ++ b) g)))
names-read-by n m s t a b (quoted f) (bare d ds i l v g) p q e =
    absurd (l (sym (heads (ap (λ u. u ++ a) (sym f) ∙ e ∙ ap (λ u. u ++ b) (g ∙ i)))))
names-read-by n m s t a b (quoted f) (quoted g) p q e =
    quoted-read n m a b (ap (λ u. u ++ a) (sym f) ∙ e ∙ ap (λ u. u ++ b) g)

-- two names that begin equal texts are one
pub names-read : (n m a b : List ℕ) → Breaks a → Breaks b → name_text n ++ a ≡ name_text m ++ b → (n ≡ m) × (a ≡ b)
names-read n m a b p q e = names-read-by n m (name_text n) (name_text m) a b (name-is n) (name-is m) p q e
