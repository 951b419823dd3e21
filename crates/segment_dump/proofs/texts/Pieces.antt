-- The lines of a text, its length and its pieces, tell its bytes.
use Rattle.segment_dump.proofs.Common.{◌≡◌, ℕ, zero, suc, ◌+◌, ◌*◌, ◌≤◌, List, [], ◌∷◌, ◌++◌, length, take, drop, refl}
use Rattle.segment_dump.proofs.Common.{sym, ap, ◌∙◌, arith, append_assoc, ◌<◌, ◌^◌, take-add, take_all, quoted_text}
use Rattle.segment_dump.proofs.Common.{number_text, parts_until, piece_line, piece_of, pieces_in, pieces_text}
use Rattle.segment_dump.proofs.{Common.text_lines, Common.decimal_injective, texts.OneReading.Breaks}
use Rattle.segment_dump.proofs.{texts.OneReading.heads, texts.OneReading.tails}
use Rattle.segment_dump.proofs.{texts.OneReading.tokens-read, texts.QuotedTexts.quoted-read}
use Rattle.segment_dump.proofs.{texts.LineTokens.decimal-token}
use Rattle.segment_dump.proofs.{texts.Parts.split}

-- ---- the pieces of a text are its bytes

pieces-taken : (bs : List ℕ) (n : ℕ) → parts_until (piece_of bs) n ≡ take (n * 1000) bs
pieces-taken bs zero = refl
pieces-taken bs (suc n) =
    let more : n * 1000 + 1000 ≡ suc n * 1000 = omega arith in
    ap (λ l. l ++ piece_of bs n) (pieces-taken bs n) ∙ sym (take-add (n * 1000) 1000 bs) ∙ ap (λ m. take m bs) more

enough : (n : ℕ) → n ≤ pieces_in n * 1000
enough n = omega arith

pieces-all : (bs : List ℕ) → parts_until (piece_of bs) (pieces_in (length bs)) ≡ bs
pieces-all bs = pieces-taken bs (pieces_in (length bs))
    ∙ take_all (pieces_in (length bs) * 1000) bs (enough (length bs))

-- ---- as many lines of pieces

closed-read : (s t a b : List ℕ) → (quoted_text s ++ 0x0A ∷ []) ++ a ≡ (quoted_text t ++ 0x0A ∷ []) ++ b
    → (s ≡ t) × (a ≡ b)
closed-read s t a b e =
    let r = quoted-read s t (0x0A ∷ a) (0x0A ∷ b) (sym (append_assoc (quoted_text s) (0x0A ∷ []) a) ∙ e
    ∙ append_assoc (quoted_text t) (0x0A ∷ []) b) in
    (r.0, tails r.1)

piece-read : (i : ℕ) (bs cs a b : List ℕ) → piece_line bs i ++ a ≡ piece_line cs i ++ b
    → (piece_of bs i ≡ piece_of cs i) × (a ≡ b)
piece-read zero bs cs a b e = closed-read (piece_of bs 0) (piece_of cs 0) a b (ap (drop 1) e)
piece-read (suc i) bs cs a b e = closed-read (piece_of bs (suc i)) (piece_of cs (suc i)) a b (ap (drop 4) e)

same-read : (bs cs : List ℕ) (n : ℕ) (a b : List ℕ) → parts_until (piece_line bs) n
    ++ a ≡ parts_until (piece_line cs) n ++ b → (parts_until (piece_of bs) n ≡ parts_until (piece_of cs) n) × (a ≡ b)
same-read bs cs zero a b e = (refl, e)
same-read bs cs (suc n) a b e =
    let r = same-read bs cs n (piece_line bs n ++ a) (piece_line cs n ++ b)
    (sym (append_assoc (parts_until (piece_line bs) n) (piece_line bs n) a) ∙ e
    ∙ append_assoc (parts_until (piece_line cs) n) (piece_line cs n) b) in
    let p = piece-read n bs cs a b r.1 in
    (λ i. r.0 i ++ p.0 i, p.1)

pieces-read : (bs cs a b : List ℕ) → length bs ≡ length cs → pieces_text bs ++ a ≡ pieces_text cs ++ b
    → (bs ≡ cs) × (a ≡ b)
pieces-read bs cs a b h e =
    let same : pieces_in (length bs) ≡ pieces_in (length cs) = ap pieces_in h in
    let r = same-read bs cs (pieces_in (length cs)) a b (ap (λ n. parts_until (piece_line bs) n ++ a) (sym same) ∙ e) in
    (sym (pieces-all bs) ∙ ap (parts_until (piece_of bs)) same ∙ r.0 ∙ pieces-all cs, r.1)

-- ---- with the length in front

-- the first piece stands after a blank
pub pieces-break : (bs a : List ℕ) → Breaks (pieces_text bs ++ a)
pieces-break bs a =
    let s = split (piece_line bs) 0 (pieces_in (length bs)) (omega arith) in
    let first : pieces_text bs ++ a ≡ 0x20 ∷ ((quoted_text (piece_of bs 0) ++ 0x0A ∷ []) ++ s.more ++ a) = ap
    (λ l. l ++ a) s.parts in
    record { low = λ c cs e. omega (arith, heads (sym first ∙ e)) }

-- two strings that begin equal texts are one
pub texts-read : (bs cs a b : List ℕ) → length bs < 2 ^ 64 → length cs < 2 ^ 64
    → text_lines bs ++ a ≡ text_lines cs ++ b → (bs ≡ cs) × (a ≡ b)
texts-read bs cs a b p q e =
    let r = tokens-read (number_text (length bs)) (number_text (length cs)) (pieces_text bs ++ a) (pieces_text cs
    ++ b) (decimal-token (length bs)) (decimal-token (length cs)) (pieces-break bs a) (pieces-break cs b)
    (sym (append_assoc (number_text (length bs)) (pieces_text bs) a) ∙ ap (drop 2) e
    ∙ append_assoc (number_text (length cs)) (pieces_text cs) b) in
    pieces-read bs cs a b (decimal_injective (length bs) (length cs) p q r.0) r.1
