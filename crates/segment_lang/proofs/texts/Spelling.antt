-- Texts by their spelling.
use Rattle.std.proofs.Common.{◌≡◌, ℕ, ◌+◌, ◌*◌, ◌/◌, ◌%◌, ◌≤◌, ◌<◌, ◌||◌, ◌==◌, ◌⊎◌, inl, inr, Bool, true, false, cond}
use Rattle.std.proofs.Common.{List, [], ◌∷◌, ◌++◌, Option, Some, None, arith, refl, sym, ap, subst, ◌∙◌, append_assoc}
use Rattle.std.proofs.Common.{length, length-append}
use Rattle.std.specs.Prelude.{flat_map}
use Rattle.std.specs.Option.{option_map}
use Rattle.std.specs.List.{AllByRecursion}
use Rattle.std.proofs.lemmas.Bool.Decides.{nat_tests}
use Rattle.std.proofs.lemmas.Option.{some_pair_parts}
use Rattle.segment_lang.specs.Lexing.{Token, Text, is_plain, byte_of_digits, digit_of, between}
use Rattle.segment_lang.specs.Texts.{digit_text, item_text, quoted_text}
use Rattle.segment_lang.specs.Tokens.{digits_at, ends_token, escape_at, item_at, longer, next_token, quote_at, text_at}
use Rattle.segment_lang.specs.Tokens.{token_at}
use Rattle.segment_lang.specs.Laws.{IsItem, Spells, TextsAreSpelled, PrintedTextsAreRead}
use Rattle.segment_lang.proofs.texts.Items.{no_backslash, plain_item, text_at-end, text_at-item}
use Rattle.segment_lang.proofs.tokens.AllTokens.{tokens_some}

-- ---- an item that is read is spelled so

abbrev Took : List ℕ → ℕ → List ℕ → Type 0
Took bytes b rest = (item : List ℕ) × IsItem item b × (bytes ≡ item ++ rest)

digits_took : (o : Option ℕ) (h l b : ℕ) (cs r : List ℕ) → byte_of_digits h l ≡ o
    → option_map {U = ℕ × List ℕ} (λ c. (c, cs)) o ≡ Some (b, r) → Took (0x5C ∷ 0x78 ∷ h ∷ l ∷ cs) b r
digits_took None h l b cs r e k = cc
digits_took (Some x) h l b cs r e k =
    let p : (x ≡ b) × (cs ≡ r) = some_pair_parts x b cs r k in
    (0x5C ∷ 0x78 ∷ h ∷ l ∷ [], inr (inr (h, l, e ∙ ap (λ x. Some x) p.0, refl)), ap (λ r. 0x5C ∷ 0x78 ∷ h ∷ l ∷ r) p.1)

two_digits : (cs r : List ℕ) (b : ℕ) → digits_at cs ≡ Some (b, r) → Took (0x5C ∷ 0x78 ∷ cs) b r
unfolding digits_at
two_digits [] r b h = cc
two_digits (c ∷ []) r b h = cc
two_digits (c ∷ l ∷ cs) r b h = digits_took (byte_of_digits c l) c l b cs r refl h

escape_took : (q x : Bool) (c b : ℕ) (cs r : List ℕ) → (q ≡ true → (c ≡ 0x22) ⊎ (c ≡ 0x5C)) → (x ≡ true → c ≡ 0x78)
    → cond q (Some (c, cs)) (cond x (digits_at cs) None) ≡ Some (b, r) → Took (0x5C ∷ c ∷ cs) b r
escape_took true x c b cs r f g h =
    let p : (c ≡ b) × (cs ≡ r) = some_pair_parts c b cs r h in
    (0x5C ∷ b ∷ [], inr (inl (subst (λ c. (c ≡ 0x22) ⊎ (c ≡ 0x5C)) p.0 (f refl), refl)), cc (p.0, p.1))
escape_took false true c b cs r f g h = subst (λ x. Took (0x5C ∷ x ∷ cs) b r) (sym (g refl)) (two_digits cs r b h)
escape_took false false c b cs r f g h = cc

is_quoted : (c : ℕ) → ((c == 0x22) || (c == 0x5C)) ≡ true → (c ≡ 0x22) ⊎ (c ≡ 0x5C)
is_quoted c h = grind (arith, nat_tests)

is_byte : (c d : ℕ) → (c == d) ≡ true → c ≡ d
is_byte c d h = grind (arith, nat_tests)

an_escape : (cs r : List ℕ) (b : ℕ) → escape_at cs ≡ Some (b, r) → Took (0x5C ∷ cs) b r
unfolding escape_at
an_escape [] r b h = cc
an_escape (c ∷ cs) r b h = escape_took ((c == 0x22) || (c == 0x5C)) (c == 0x78) c b cs r (is_quoted c) (is_byte c 0x78)
    h

item_took : (e p : Bool) (c b : ℕ) (cs r : List ℕ) → (e ≡ true → c ≡ 0x5C) → is_plain c ≡ p
    → cond e (escape_at cs) (cond p (Some (c, cs)) None) ≡ Some (b, r) → Took (c ∷ cs) b r
item_took true p c b cs r f g h = subst (λ x. Took (x ∷ cs) b r) (sym (f refl)) (an_escape cs r b h)
item_took false true c b cs r f g h =
    let q : (c ≡ b) × (cs ≡ r) = some_pair_parts c b cs r h in
    (c ∷ [], inl (sym (ap is_plain q.0) ∙ g, ap (λ c. c ∷ []) q.0), ap (λ r. c ∷ r) q.1)
item_took false false c b cs r f g h = cc

took : (bytes r : List ℕ) (b : ℕ) → item_at bytes ≡ Some (b, r) → Took bytes b r
unfolding item_at
took [] r b h = cc
took (c ∷ cs) r b h = item_took (c == 0x5C) (is_plain c) c b cs r (is_byte c 0x5C) refl h

-- ---- an item that is spelled so is read

quoted : (c : ℕ) → (c ≡ 0x22) ⊎ (c ≡ 0x5C) → ((c == 0x22) || (c == 0x5C)) ≡ true
quoted c h = grind (arith, nat_tests)

quoted_item : (q : Bool) (c : ℕ) (cs : List ℕ) (x : Option (ℕ × List ℕ)) → q ≡ true
    → cond q (Some (c, cs)) x ≡ Some (c, cs)
quoted_item true c cs x h = refl
quoted_item false c cs x h = cc

item_again : (item rest : List ℕ) (b : ℕ) → IsItem item b → item_at (item ++ rest) ≡ Some (b, rest)
unfolding item_at escape_at digits_at
item_again item rest b (inl p) = ap (λ item. item_at (item ++ rest)) p.1 ∙ plain_item (b == 0x5C) (is_plain b) b rest
    (escape_at rest) (no_backslash b p.0) p.0
item_again item rest b (inr (inl p)) = ap (λ item. item_at (item ++ rest)) p.1
    ∙ quoted_item ((b == 0x22) || (b == 0x5C)) b rest _ (quoted b p.0)
item_again item rest b (inr (inr (h, l, d, e))) = ap (λ item. item_at (item ++ rest)) e
    ∙ ap (option_map {U = ℕ × List ℕ} (λ c. (c, rest))) d

-- ---- texts

abbrev IsSpelled : List ℕ → List ℕ → List ℕ → Type 0
IsSpelled bytes bs rest = (items : List ℕ) × Spells items bs × (bytes ≡ items ++ 0x22 ∷ rest) × (ends_token rest ≡ true)

abbrev no_bytes : List ℕ → Option (List ℕ × List ℕ)
no_bytes cs = Some ([], cs)

closed : (q e : Bool) (c : ℕ) (cs bs rest : List ℕ) → (q ≡ true → c ≡ 0x22) → ends_token cs ≡ e
    → cond q (cond e (no_bytes cs) None) None ≡ Some (bs, rest) → (bs ≡ []) × IsSpelled (c ∷ cs) [] rest
closed true true c cs bs rest f g h =
    let p : ([] ≡ bs) × (cs ≡ rest) = some_pair_parts [] bs cs rest h in
    (sym p.0, ([], refl, cc (f refl, p.1), sym (ap ends_token p.1) ∙ g))
closed true false c cs bs rest f g h = cc
closed false e c cs bs rest f g h = cc

quote_spelled : (bytes bs rest : List ℕ) → quote_at bytes ≡ Some (bs, rest) → (bs ≡ []) × IsSpelled bytes [] rest
quote_spelled [] bs rest h = cc
quote_spelled (c ∷ cs) bs rest h = closed (c == 0x22) (ends_token cs) c cs bs rest (is_byte c 0x22) refl h

-- a byte in front, and a text after it
longer_parts : (b : ℕ) (t : Option (List ℕ × List ℕ)) (bs rest : List ℕ) → longer b t ≡ Some (bs, rest)
    → (more : List ℕ) × (bs ≡ b ∷ more) × (t ≡ Some (more, rest))
longer_parts b None bs rest h = cc
longer_parts b (Some (more, r)) bs rest h =
    let p : (b ∷ more ≡ bs) × (r ≡ rest) = some_pair_parts (b ∷ more) bs r rest h in
    (more, sym p.0, ap (λ r. Some (more, r)) p.1)

joined : (bytes item items r rest : List ℕ) → bytes ≡ item ++ r → r ≡ items ++ 0x22 ∷ rest
    → bytes ≡ (item ++ items) ++ 0x22 ∷ rest
joined bytes item items r rest h k = h ∙ ap (λ r. item ++ r) k ∙ sym (append_assoc item items (0x22 ∷ rest))

spelled_none : (bytes rest : List ℕ) (o : Option (ℕ × List ℕ)) → item_at bytes ≡ o → text_at bytes ≡ Some ([], rest)
    → IsSpelled bytes [] rest
spelled_none bytes rest None e h = (quote_spelled bytes [] rest (sym (text_at-end bytes e) ∙ h)).1
spelled_none bytes rest (Some (b, r)) e h =
    let p = longer_parts b (text_at r) [] rest (sym (text_at-item bytes r b e) ∙ h) in
    let no : [] ≡ b ∷ p.0 = p.1 in
    cc

spelled_more : (bytes bs rest : List ℕ) (b : ℕ) (o : Option (ℕ × List ℕ)) → item_at bytes ≡ o
    → text_at bytes ≡ Some (b ∷ bs, rest) → ((r : List ℕ) → text_at r ≡ Some (bs, rest) → IsSpelled r bs rest)
    → IsSpelled bytes (b ∷ bs) rest
spelled_more bytes bs rest b None e h f =
    let no : b ∷ bs ≡ [] = (quote_spelled bytes (b ∷ bs) rest (sym (text_at-end bytes e) ∙ h)).0 in
    cc
spelled_more bytes bs rest b (Some (x, r)) e h f =
    let p = longer_parts x (text_at r) (b ∷ bs) rest (sym (text_at-item bytes r x e) ∙ h) in
    let q : (b ≡ x) × (bs ≡ p.0) = (cc (p.1), cc (p.1)) in
    let t = took bytes r x e in
    let s = f r (p.2 ∙ ap (λ bs. Some (bs, rest)) (sym q.1)) in
    (t.0 ++ s.0, (t.0, s.0, subst (IsItem t.0) (sym q.0) t.1, s.1, refl), joined bytes t.0 s.0 r rest t.2 s.2, s.3)

spelled : (bytes bs rest : List ℕ) → text_at bytes ≡ Some (bs, rest) → IsSpelled bytes bs rest
spelled bytes [] rest h = spelled_none bytes rest (item_at bytes) refl h
spelled bytes (b ∷ bs) rest h = spelled_more bytes bs rest b (item_at bytes) refl h (λ r. spelled r bs rest)

read_closed : (rest : List ℕ) → ends_token rest ≡ true → text_at (0x22 ∷ rest) ≡ Some ([], rest)
unfolding text_at
read_closed rest h = rw h refl

read_again : (items bs rest : List ℕ) → Spells items bs → ends_token rest ≡ true
    → text_at (items ++ 0x22 ∷ rest) ≡ Some (bs, rest)
read_again items [] rest s h = ap (λ items. text_at (items ++ 0x22 ∷ rest)) s ∙ read_closed rest h
read_again items (b ∷ bs) rest (item, more, i, s, e) h =
    let shape : items ++ 0x22 ∷ rest ≡ item ++ (more ++ 0x22 ∷ rest) = ap (λ items. items ++ 0x22 ∷ rest) e
    ∙ append_assoc item more (0x22 ∷ rest) in
    ap text_at shape ∙ text_at-item (item ++ (more ++ 0x22 ∷ rest)) (more ++ 0x22 ∷ rest) b
    (item_again item (more ++ 0x22 ∷ rest) b i) ∙ ap (longer b) (read_again more bs rest s h)

-- law: texts are spelled
pub texts_are_spelled : TextsAreSpelled
texts_are_spelled bytes bs rest = (
  spelled bytes bs rest,
  λ (p : IsSpelled bytes bs rest). ap text_at p.2
      ∙ read_again p.0 bs rest p.1 p.3,
)

-- ---- texts that are printed

digit_again : (d : ℕ) → d < 16 → digit_of (digit_text d) ≡ Some d
digit_again d h = grind (arith, nat_tests)

two_again : (high low : ℕ) → high < 16 → low < 16
    → byte_of_digits (digit_text high) (digit_text low) ≡ Some (16 * high + low)
two_again high low h l = rw (digit_again high h, digit_again low l) refl

byte_again : (c : ℕ) → c < 256 → byte_of_digits (digit_text (c / 16)) (digit_text (c % 16)) ≡ Some c
byte_again c h =
    let low : c % 16 < 16 = omega arith in
    let high : c / 16 < 16 = omega arith in
    let whole : 16 * (c / 16) + c % 16 ≡ c = omega arith in
    two_again (c / 16) (c % 16) high low ∙ ap (λ c. Some c) whole

plain_text : (c : ℕ) → ((c == 0x22) || (c == 0x5C)) ≡ false → between 0x20 0x7E c ≡ true → is_plain c ≡ true
plain_text c h k = grind (arith, nat_tests)

printed_item : (q p : Bool) (c : ℕ) → c < 256 → ((c == 0x22) || (c == 0x5C)) ≡ q → between 0x20 0x7E c ≡ p
    → IsItem (cond q (0x5C ∷ c ∷ []) (cond p (c ∷ []) (0x5C ∷ 0x78 ∷ digit_text (c / 16) ∷ digit_text (c % 16) ∷ []))) c
printed_item true p c small h k = inr (inl (is_quoted c h, refl))
printed_item false true c small h k = inl (plain_text c h k, refl)
printed_item false false c small h k = inr (inr (digit_text (c / 16), digit_text (c % 16), byte_again c small, refl))

printed_text : (bs : List ℕ) → AllByRecursion (λ b. b < 256) bs → Spells (flat_map item_text bs) bs
printed_text [] h = refl
printed_text (b ∷ bs) h = (
  item_text b,
  flat_map item_text bs,
  printed_item ((b == 0x22) || (b == 0x5C))
      (between 0x20 0x7E b) b h.0 refl refl,
  printed_text bs h.1,
  refl,
)

quote_first : (text : List ℕ) → next_token (0x22 ∷ text) ≡ option_map (λ (bs, rest). (Text bs, rest)) (text_at text)
unfolding next_token token_at
quote_first text = refl

next_printed : (bs : List ℕ) → AllByRecursion (λ b. b < 256) bs → next_token (quoted_text bs) ≡ Some (Text bs, [])
next_printed bs h = quote_first (flat_map item_text bs ++ 0x22 ∷ [])
    ∙ ap (option_map {U = Token × List ℕ} (λ (bs, rest). (Text bs, rest)))
    (read_again (flat_map item_text bs) bs [] (printed_text bs h) refl)

-- law: printed texts are read
pub printed_texts_are_read : PrintedTextsAreRead
printed_texts_are_read bs h = tokens_some (quoted_text bs) [] (Text bs) (next_printed bs h)

-- ---- a text is longer than what it stands for

item_length : (item : List ℕ) (b : ℕ) → IsItem item b → 1 ≤ length item
item_length item b (inl p) = omega (arith, ap length p.1)
item_length item b (inr (inl p)) = omega (arith, ap length p.1)
item_length item b (inr (inr (h, l, d, e))) = omega (arith, ap length e)

items_length : (items bs : List ℕ) → Spells items bs → length bs ≤ length items
items_length items [] s = omega arith
items_length items (b ∷ bs) (item, more, i, s, e) =
    let one = item_length item b i in
    let others = items_length more bs s in
    omega (arith, ap length e, length-append item more)

-- a text has fewer bytes than its spelling
pub text_length : (bytes bs rest : List ℕ) → text_at bytes ≡ Some (bs, rest) → length bs < length bytes
text_length bytes bs rest h =
    let p = spelled bytes bs rest h in
    let n = items_length p.0 bs p.1 in
    omega (arith, ap length p.2, length-append p.0 (0x22 ∷ rest))
