-- The notes at the end of a text are cut off line by line.
use Rattle.segment_dump.proofs.Common.{◌≡◌, ◌<◌, ◌≤◌, ℕ, zero, suc, ◌+◌, ◌-◌, Bool, true, false, ◌&&◌, ◌==◌, not, cond}
use Rattle.segment_dump.proofs.Common.{List, [], ◌∷◌, ◌++◌, length, take, drop, get_or, refl, sym, ap, ◌∙◌, arith}
use Rattle.segment_dump.proofs.Common.{nat_tests, and_parts, take-append-drop, take_more, length-drop, are_notes}
use Rattle.segment_dump.proofs.Common.{before_notes, ends_line, is_line, without_notes}
use Rattle.std.proofs.Common.{ap₂}
use Rattle.segment_dump.specs.Notes.{IsLastLine}

-- ---- notes after whole lines

no-start : (c : ℕ) (b : Bool) → (c == 0x23) ≡ true → (c == 0x0A) ≡ b → b ≡ false
no-start c b e f = grind (arith, nat_tests)

behind-if : (c : ℕ) (cs l : List ℕ) (b : Bool) → (c == 0x23) ≡ b → ends_line (c == 0x0A) cs ≡ true
    → (ends_line false cs ≡ true → are_notes false (cs ++ l) ≡ (are_notes false cs && are_notes true l))
    → (b && are_notes false (cs ++ l)) ≡ ((b && are_notes false cs) && are_notes true l)
behind-if c cs l true e h f = f (ap (λ b. ends_line b cs) (sym (no-start c (c == 0x0A) e refl)) ∙ h)
behind-if c cs l false e h f = refl

-- lines, and what follows, are notes where both are
pub notes-behind : (start : Bool) (lines l : List ℕ) → ends_line start lines ≡ true
    → are_notes start (lines ++ l) ≡ (are_notes start lines && are_notes true l)
notes-behind true [] l h = refl
notes-behind false [] l h = absurd (cc)
notes-behind true (c ∷ cs) l h = behind-if c cs l (c == 0x23) refl h (notes-behind false cs l)
notes-behind false (c ∷ cs) l h = notes-behind (c == 0x0A) cs l h

and-false : (b d : Bool) → d ≡ false → (b && d) ≡ false
and-false true d e = e
and-false false d e = refl

and-true : (b d : Bool) → d ≡ true → (b && d) ≡ b
and-true true d e = e
and-true false d e = refl

-- ---- notes at the end are cut off

all-cut : (notes : List ℕ) → are_notes true notes ≡ true → before_notes true notes ≡ []
all-cut [] h = refl
all-cut (c ∷ cs) h = ap (λ b. cond b [] (c ∷ before_notes (c == 0x0A) cs)) h

-- lines with notes after them: the notes are cut off
pub cut-notes : (start : Bool) (lines notes : List ℕ) → ends_line start lines ≡ true → are_notes true notes ≡ true
    → before_notes start (lines ++ notes) ≡ before_notes start lines
cut-notes true [] notes h n = all-cut notes n
cut-notes false [] notes h n = absurd (cc)
cut-notes true (c ∷ cs) notes h n =
    let same : are_notes true ((c ∷ cs) ++ notes) ≡ are_notes true (c ∷ cs) =
    notes-behind true (c ∷ cs) notes h ∙ and-true (are_notes true (c ∷ cs)) (are_notes true notes) n in
    ap₂ (λ b l. cond b [] (c ∷ l)) same (cut-notes (c == 0x0A) cs notes h n)
cut-notes false (c ∷ cs) notes h n = ap (λ l. c ∷ l) (cut-notes (c == 0x0A) cs notes h n)

-- ---- a last line that is no note is kept, and with it all that stands in front

not-true : (b : Bool) → not b ≡ true → b ≡ false
not-true true e = absurd (cc)
not-true false e = refl

line-kept : (c : ℕ) (cs : List ℕ) → is_line (c ∷ cs) ≡ true → before_notes (c == 0x0A) cs ≡ cs
line-kept c [] h = refl
line-kept c (d ∷ ds) h =
    let p = and_parts (not (c == 0x0A)) (is_line (d ∷ ds)) h in
    ap (λ b. before_notes b (d ∷ ds)) (not-true (c == 0x0A) p.0) ∙ ap (λ l. d ∷ l) (line-kept d ds p.1)

last-kept : (last : List ℕ) → is_line last ≡ true → are_notes true last ≡ false → before_notes true last ≡ last
last-kept [] l h = refl
last-kept (c ∷ cs) l h = ap (λ b. cond b [] (c ∷ before_notes (c == 0x0A) cs)) h ∙ ap (λ l. c ∷ l) (line-kept c cs l)

-- a last line that is no note is kept
pub kept : (start : Bool) (lines last : List ℕ) → ends_line start lines ≡ true → is_line last ≡ true
    → are_notes true last ≡ false → before_notes start (lines ++ last) ≡ lines ++ last
kept true [] last h l n = last-kept last l n
kept false [] last h l n = absurd (cc)
kept true (c ∷ cs) last h l n =
    let none : are_notes true ((c ∷ cs) ++ last) ≡ false =
    notes-behind true (c ∷ cs) last h ∙ and-false (are_notes true (c ∷ cs)) (are_notes true last) n in
    ap₂ (λ b l. cond b [] (c ∷ l)) none (kept (c == 0x0A) cs last h l n)
kept false (c ∷ cs) last h l n = ap (λ l. c ∷ l) (kept (c == 0x0A) cs last h l n)

-- ---- whether a line is a note

line-ends : (c : ℕ) (cs : List ℕ) → is_line (c ∷ cs) ≡ true
    → are_notes false (c ∷ cs) ≡ (get_or (c ∷ cs) (length cs) 0 == 0x0A)
line-ends c [] h = refl
line-ends c (d ∷ ds) h =
    let p = and_parts (not (c == 0x0A)) (is_line (d ∷ ds)) h in
    ap (λ b. are_notes b (d ∷ ds)) (not-true (c == 0x0A) p.0) ∙ line-ends d ds p.1

note-ends : (c : ℕ) (cs : List ℕ) → is_line (c ∷ cs) ≡ true → (c == 0x23) ≡ true
    → are_notes false cs ≡ (get_or (c ∷ cs) (length cs) 0 == 0x0A)
note-ends c [] h e = sym (no-start c (c == 0x0A) e refl)
note-ends c (d ∷ ds) h e = line-ends d ds (and_parts (not (c == 0x0A)) (is_line (d ∷ ds)) h).1

-- whether a line is a note, by its first and last byte
pub note-told : (l : List ℕ) (b : Bool) → is_line l ≡ true → (get_or l 0 0 == 0x23) ≡ true
    → (get_or l (length l - 1) 0 == 0x0A) ≡ b → are_notes true l ≡ b
note-told [] b h e f = absurd (cc)
note-told (c ∷ cs) b h e f =
    let at : length (c ∷ cs) - 1 ≡ length cs = omega arith in
    ap (λ b. b && are_notes false cs) e ∙ note-ends c cs h e ∙ ap (λ i. get_or (c ∷ cs) i 0 == 0x0A) (sym at) ∙ f

-- ---- where the last line starts

-- whether two texts end with a line end, one after the other
pub ends-behind : (start : Bool) (a b : List ℕ) → ends_line start (a ++ b) ≡ ends_line (ends_line start a) b
ends-behind start [] b = refl
ends-behind start (c ∷ cs) b = ends-behind (c == 0x0A) cs b

-- a text with a line end after it ends with one
pub ends-last : (start : Bool) (a : List ℕ) → ends_line start (a ++ 0x0A ∷ []) ≡ true
ends-last start a = ends-behind start a (0x0A ∷ [])

one-line : (l : List ℕ) → length l ≤ 1 → is_line l ≡ true
one-line [] h = refl
one-line (c ∷ []) h = refl
one-line (c ∷ d ∷ ds) h = absurd (omega arith)

-- the last byte of a text is its last line
pub last-byte : (text : List ℕ) (at : ℕ) → at ≡ length text - 1 → is_line (drop at text) ≡ true
last-byte text at e = one-line (drop at text) (omega (arith, length-drop at text))

byte-is : (c : ℕ) → (c == 0x0A) ≡ true → c ≡ 0x0A
byte-is c e = grind (arith, nat_tests)

-- a line begins at the front, or after a line end
pub starts-at : (text : List ℕ) (at : ℕ) → at ≤ length text → (0 < at → (get_or text (at - 1) 0 == 0x0A) ≡ true)
    → ends_line true (take at text) ≡ true
starts-at text zero h e = refl
starts-at text (suc at) h e =
    let before : suc at - 1 ≡ at = omega arith in
    let byte : get_or text at 0 ≡ 0x0A =
    byte-is (get_or text at 0) (ap (λ i. get_or text i 0 == 0x0A) (sym before) ∙ e (omega arith)) in
    let one : take (at + 1) text ≡ take at text ++ get_or text at 0 ∷ [] = take_more text at 0 (omega arith) in
    let more : suc at ≡ at + 1 = omega arith in
    ap (λ i. ends_line true (take i text)) more ∙ ap (ends_line true) (one ∙ ap (λ b. take at text ++ b ∷ []) byte)
    ∙ ends-last true (take at text)

-- ---- one step

module _ (text : List ℕ) (at : ℕ) (h : IsLastLine text at) where
  whole : take at text ++ drop at text ≡ text
  whole = take-append-drop at text

  kept-if : (l : List ℕ) → l ≡ text → (0 < length text → are_notes true (drop at text) ≡ false)
      → without_notes text ≡ text
  kept-if [] e n = ap without_notes (sym e) ∙ e
  kept-if (c ∷ cs) e n =
      let some : 0 < length text = omega (arith, ap length e) in
      ap without_notes (sym whole) ∙ kept true (take at text) (drop at text) h.starts h.line (n some) ∙ whole

  -- the last line is no note
  pub kept-whole : (0 < length text → are_notes true (drop at text) ≡ false) → without_notes text ≡ text
  kept-whole n = kept-if text refl n

  -- the last line is one
  pub cut-last : (prefix last : List ℕ) → prefix ≡ take at text → last ≡ drop at text → are_notes true last ≡ true
      → without_notes prefix ≡ without_notes text
  cut-last prefix last e f n =
      ap without_notes e ∙ sym (cut-notes true (take at text) (drop at text) h.starts (ap (are_notes true) (sym f)
      ∙ n)) ∙ ap without_notes whole
