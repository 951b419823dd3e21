-- The elements of an object are lines, of which none has an end in it.
use Rattle.segment_dump.proofs.Common.{◌≡◌, ◌≢◌, ℕ, zero, suc, ◌/◌, ◌%◌, ℤ, Bool, true, false, ◌||◌, ◌==◌, cond, List}
use Rattle.segment_dump.proofs.Common.{[], ◌∷◌, ◌++◌, length, map, refl, sym, ap, ◌∙◌, arith, append_assoc, append-nil}
use Rattle.segment_dump.proofs.Common.{length-append, ◌<◌, nat_lt, flat_map, codes, AllByRecursion, list_all, nat_tests}
use Rattle.segment_dump.proofs.Common.{flat_map-append, length-map, ScalarKind, between, digit_text, escape_text}
use Rattle.segment_dump.proofs.Common.{quoted_text, value_text, parts_until, AreLines, HasNoEnd, IsToken, lines_text}
use Rattle.segment_dump.proofs.Common.{element_line, pair_line, piece_lead, piece_line, piece_of, pieces_in}
use Rattle.segment_dump.proofs.{Common.pieces_text, Common.ltb-true, texts.LineTokens.value-token}
use Rattle.seg_types.specs.Texts.{item_text}
use Rattle.segment_dump.proofs.texts.AllElements.{AllByRecursion-append, all-any, all-by, all-mapped, all-tested}

-- ---- no end

abbrev no_end : ℕ → Type 0
no_end c = c ≢ 0x0A

-- a text that passes the test has no line end
pub no_end-test : (w : List ℕ) → list_all (λ c. nat_lt 10 c) w ≡ true → HasNoEnd w
no_end-test w e = all-tested (λ c. nat_lt 10 c) no_end (λ c t k. omega (arith, ltb-true 10 c t, k)) w e

-- two texts with no line end have none together
pub no_end-both : (a b : List ℕ) → HasNoEnd a → HasNoEnd b → HasNoEnd (a ++ b)
no_end-both a b p q = AllByRecursion-append no_end a b p q

-- a word has no line end
pub token-no_end : (w : List ℕ) → IsToken w → HasNoEnd w
token-no_end w h = all-by (λ c. 0x20 < c) no_end w h (λ c l e. omega (arith, l))

quote-no_end : (c : ℕ) → ((c == 0x22) || (c == 0x5C)) ≡ true → c ≢ 0x0A
quote-no_end c e f = grind (arith, nat_tests)

plain-no_end : (c : ℕ) → between 0x20 0x7E c ≡ true → c ≢ 0x0A
plain-no_end c e f = grind (arith, nat_tests)

digit-no_end : (d : ℕ) → digit_text d ≢ 0x0A
digit-no_end d f = grind (arith, nat_tests)

byte-by : (c : ℕ) (q p : Bool) → ((c == 0x22) || (c == 0x5C)) ≡ q → between 0x20 0x7E c ≡ p
    → HasNoEnd (cond q (0x5C ∷ c ∷ []) (cond p (c ∷ []) (escape_text c)))
byte-by c true p e f = ((λ g. omega arith), (quote-no_end c e, tt))
byte-by c false true e f = (plain-no_end c f, tt)
byte-by c false false e f = (
  (λ g. omega arith),
  ((λ g. omega arith), (digit-no_end (c / 16), (digit-no_end (c % 16), tt))),
)

bytes-no_end : (bs : List ℕ) → HasNoEnd (flat_map item_text bs)
bytes-no_end [] = tt
bytes-no_end (b ∷ bs) = no_end-both (item_text b) (flat_map item_text bs)
    (byte-by b ((b == 0x22) || (b == 0x5C)) (between 0x20 0x7E b) refl refl) (bytes-no_end bs)

-- a quoted text has no line end
pub quoted-no_end : (bs : List ℕ) → HasNoEnd (quoted_text bs)
quoted-no_end bs = (
  (λ e. omega arith),
  no_end-both (flat_map item_text bs) (0x22 ∷ []) (bytes-no_end bs) ((λ e. omega arith), tt),
)

-- a line after two blanks has no line end
pub blanks-no_end : (l : List ℕ) → HasNoEnd l → HasNoEnd (0x20 ∷ 0x20 ∷ l)
blanks-no_end l h = ((λ e. omega arith), ((λ e. omega arith), h))

-- ---- elements

-- a text is this many lines
pub record IsLines (n : ℕ) (text : List ℕ) : Type 0 where
  pub lines : List (List ℕ)
  pub are : AreLines n lines
  pub whole : text ≡ lines_text lines

module _ {X : Type 0} (say line : X → List ℕ) (good : (x : X) → HasNoEnd (line x)) (is : (x : X)
    → say x ≡ line x ++ 0x0A ∷ []) where
  all-are : (xs : List X) → flat_map say xs ≡ lines_text (map line xs)
  all-are [] = refl
  all-are (x ∷ xs) = ap (λ l. l ++ flat_map say xs) (is x) ∙ ap (λ l. (line x ++ 0x0A ∷ []) ++ l) (all-are xs)

  pub each-line : (xs : List X) → IsLines (length xs) (flat_map say xs)
  each-line xs = record {
    lines = map line xs;
    are = (
      all-mapped HasNoEnd line xs
          (all-any (λ x. HasNoEnd (line x)) good xs),
      length-map xs line,
    );
    whole = all-are xs;
  }

-- the elements of an array or a vector are lines
pub element-lines : (k : ScalarKind) (zs : List ℤ) → IsLines (length zs) (flat_map (element_line k) zs)
element-lines k zs =
    each-line (element_line k) (λ z. 0x20 ∷ 0x20 ∷ value_text k z) (λ z.
    blanks-no_end (value_text k z) (token-no_end (value_text k z) (value-token k z))) (λ z. refl) zs

-- the line of a pair, without its end
abbrev pub pair_prefix : ScalarKind → ScalarKind → ℤ × ℤ → List ℕ
pair_prefix k v p = 0x20 ∷ 0x20 ∷ value_text k p.0 ++ 0x20 ∷ value_text v p.1

-- the line of a pair has no line end
pub pair-no_end : (k v : ScalarKind) (p : ℤ × ℤ) → HasNoEnd (pair_prefix k v p)
pair-no_end k v p =
    no_end-both (0x20 ∷ 0x20 ∷ value_text k p.0) (0x20 ∷ value_text v p.1)
    (blanks-no_end (value_text k p.0) (token-no_end (value_text k p.0) (value-token k p.0)))
    ((λ e. omega arith), token-no_end (value_text v p.1) (value-token v p.1))

-- the pairs of a map are lines
pub pair-lines : (k v : ScalarKind) (ps : List (ℤ × ℤ)) → IsLines (length ps) (flat_map (pair_line k v) ps)
pair-lines k v ps = each-line (pair_line k v) (pair_prefix k v) (pair-no_end k v) (λ p. refl) ps

-- ---- pieces of a text

-- the lead of a piece has no line end
pub lead-no_end : (i : ℕ) → HasNoEnd (piece_lead i)
lead-no_end zero = no_end-test (codes " ") refl
lead-no_end (suc i) = no_end-test (codes "    ") refl

-- the line of a piece, without its end
abbrev pub piece_prefix : List ℕ → ℕ → List ℕ
piece_prefix bs i = piece_lead i ++ quoted_text (piece_of bs i)

abbrev piece_prefixes : List ℕ → ℕ → List (List ℕ)
piece_prefixes bs zero = []
piece_prefixes bs (suc n) = piece_prefixes bs n ++ piece_prefix bs n ∷ []

prefixes-good : (bs : List ℕ) (n : ℕ) → AllByRecursion HasNoEnd (piece_prefixes bs n)
prefixes-good bs zero = tt
prefixes-good bs (suc n) =
    AllByRecursion-append HasNoEnd (piece_prefixes bs n) (piece_prefix bs n ∷ []) (prefixes-good bs n)
    (no_end-both (piece_lead n) (quoted_text (piece_of bs n)) (lead-no_end n) (quoted-no_end (piece_of bs n)), tt)

prefixes-many : (bs : List ℕ) (n : ℕ) → length (piece_prefixes bs n) ≡ n
prefixes-many bs zero = refl
prefixes-many bs (suc n) = omega (
  arith,
  length-append (piece_prefixes bs n) (piece_prefix bs n ∷ []),
  prefixes-many bs n,
)

last-line : (l : List ℕ) → lines_text (l ∷ []) ≡ l ++ 0x0A ∷ []
last-line l = append-nil (l ++ 0x0A ∷ [])

prefixes-whole : (bs : List ℕ) (n : ℕ) → parts_until (piece_line bs) n ≡ lines_text (piece_prefixes bs n)
prefixes-whole bs zero = refl
prefixes-whole bs (suc n) =
    ap (λ l. l ++ piece_line bs n) (prefixes-whole bs n) ∙ ap (λ l. lines_text (piece_prefixes bs n) ++ l)
    (sym (append_assoc (piece_lead n) (quoted_text (piece_of bs n)) (0x0A ∷ [])) ∙ sym (last-line (piece_prefix bs n)))
    ∙ sym (flat_map-append (λ l. l ++ 0x0A ∷ []) (piece_prefixes bs n) (piece_prefix bs n ∷ []))

-- the pieces of a string are lines
pub piece-lines : (bs : List ℕ) → IsLines (pieces_in (length bs)) (pieces_text bs)
piece-lines bs =
    let n = pieces_in (length bs) in
    record { lines = piece_prefixes bs n; are = (prefixes-good bs n, prefixes-many bs n); whole = prefixes-whole bs n }
