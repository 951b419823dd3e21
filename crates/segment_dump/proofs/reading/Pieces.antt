-- The lines of a text are read, and its pieces come one after another.
use Rattle.segment_dump.proofs.Common.{◌≡◌, ℕ, zero, suc, ◌+◌, ◌-◌, ◌*◌, ◌/◌, ◌^◌, ◌<◌, ◌≤◌, List, [], ◌∷◌, ◌++◌}
use Rattle.segment_dump.proofs.Common.{length, take, drop, Some, Result, Ok, Err, refl, sym, ap, subst, ◌∙◌, arith}
use Rattle.segment_dump.proofs.Common.{append_assoc, append-nil, decimal, take-add, length-append, length-take}
use Rattle.segment_dump.proofs.Common.{take_all, quoted_text, NumbersAreDecimals, TextsAreSpelled, number, next_token}
use Rattle.segment_dump.proofs.Common.{Bare, Text, Collects, PiecesLeft, ReadsLength, ReadsPiece, IsByteList, ReadsEnd}
use Rattle.segment_dump.proofs.Common.{ReadsLine, ReadsToken, quoted_token, parts_until, ended, length_text, piece_lead}
use Rattle.segment_dump.proofs.Common.{piece_line, piece_of, pieces_in, pieces_text, text_lines}
use Rattle.std.proofs.lemmas.List.{append_cancel_left}
use Rattle.segment_dump.specs.Builders.{CopiesPiece}
use Rattle.segment_dump.proofs.texts.Elements.{piece_prefix}
use Rattle.segment_dump.proofs.{texts.Options.never-ok, texts.Options.ok-same, texts.Lines.piece-short}
use Rattle.segment_dump.proofs.{texts.Parts.split}
use Rattle.segment_dump.proofs.texts.Lines.{first-no_end, first-short, first_prefix, piece-ended, piece-no_end}
use Rattle.segment_dump.proofs.reading.NextTokens.{blank-next, decimal-number, number-next, text-next}

-- ---- the bytes of a piece

all-drop : (n : ℕ) (bs : List ℕ) → IsByteList bs → IsByteList (drop n bs)
all-drop zero bs a = a
all-drop (suc n) [] a = tt
all-drop (suc n) (b ∷ bs) a = all-drop n bs a.1

all-take : (n : ℕ) (bs : List ℕ) → IsByteList bs → IsByteList (take n bs)
all-take zero bs a = tt
all-take (suc n) [] a = tt
all-take (suc n) (b ∷ bs) a = (a.0, all-take n bs a.1)

-- the bytes of a piece are bytes
pub piece-bytes : (bs : List ℕ) (i : ℕ) → IsByteList bs → IsByteList (piece_of bs i)
piece-bytes bs i a = all-take 1000 (drop (i * 1000) bs) (all-drop (i * 1000) bs a)

-- ---- a piece alone in a line

lead-next : (i : ℕ) (l : List ℕ) → next_token (piece_lead i ++ l) ≡ next_token l
lead-next zero l = blank-next l
lead-next (suc i) l = blank-next (0x20 ∷ 0x20 ∷ 0x20 ∷ l) ∙ blank-next (0x20 ∷ 0x20 ∷ l) ∙ blank-next (0x20 ∷ l)
    ∙ blank-next l

piece-token : TextsAreSpelled → (i : ℕ) (bs : List ℕ) → IsByteList bs
    → next_token (piece_lead i ++ quoted_text bs) ≡ Some (Text bs, [])
piece-token law i bs a = lead-next i (quoted_text bs) ∙ ap next_token (sym (append-nil (quoted_text bs)))
    ∙ text-next law bs [] a refl

module _ {E : Type 0} (law : TextsAreSpelled) (tokens left : List ℕ) where
  piece-there : (r : Result (List ℕ) E) → ReadsToken quoted_token tokens left r → (i : ℕ) (bs : List ℕ) → IsByteList bs
      → tokens ≡ piece_lead i ++ quoted_text bs → (r ≡ Ok bs) × (left ≡ [])
  piece-there r h i bs a e = h.reads (Text bs) [] bs (ap next_token e ∙ piece-token law i bs a) refl

  -- no quoted text: no piece is read
  pub piece-unread : (e : E) (result : Result (List ℕ) E) → ReadsToken quoted_token tokens left (Err e)
      → ReadsPiece tokens result
  piece-unread e result h = record { reads = λ i bs a t. absurd (never-ok e bs (piece-there (Err e) h i bs a t).0) }

  -- more after the text: no piece is read
  pub piece-more : (p : List ℕ) (e : E) (result : Result (List ℕ) E)
      → ReadsToken {E = E} quoted_token tokens left (Ok p) → ReadsEnd left (Err e) → ReadsPiece tokens result
  piece-more p e result h f = record {
    reads = λ i bs a t.
        absurd (never-ok {X = Unit {0}} e tt (f.reads (piece-there (Ok p) h i bs a t).1));
  }

  -- a quoted text: a piece is read
  pub piece-some : (p : List ℕ) → ReadsToken {E = E} quoted_token tokens left (Ok p) → ReadsPiece {E = E} tokens (Ok p)
  piece-some p h = record { reads = λ i bs a t. (piece-there (Ok p) h i bs a t).0 }

-- ---- one piece after another

pub record NextPiece (bs a : List ℕ) (n : ℕ) (rest : List ℕ) : Type 0 where
  pub more : List ℕ
  pub is : rest ≡ piece_line bs n ++ more
  pub left : PiecesLeft bs a (suc n) more

pub next-piece : (bs a : List ℕ) (n : ℕ) (rest : List ℕ) → n < pieces_in (length bs) → PiecesLeft bs a n rest
    → NextPiece bs a n rest
next-piece bs a n rest l e =
    let part = piece_line bs in
    let s = split part n (pieces_in (length bs)) l in
    let whole : parts_until part n ++ rest ≡ parts_until part n ++ (part n ++ (s.more ++ a)) =
    e ∙ ap (λ t. t ++ a) s.parts ∙ append_assoc (parts_until part n) (part n ++ s.more) a
    ∙ ap (λ t. parts_until part n ++ t) (append_assoc (part n) s.more a) in
    let is : rest ≡ part n ++ (s.more ++ a) =
    append_cancel_left (parts_until part n) rest (part n ++ (s.more ++ a)) whole in
    record {
      more = s.more ++ a;
      is = is;
      left = append_assoc (parts_until part n) (part n) (s.more ++ a)
          ∙ ap (λ t. parts_until part n ++ t) (sym is) ∙ e;
    }

-- after the last piece the rest is left
pub none-left : (bs a : List ℕ) (n : ℕ) (rest : List ℕ) → n ≡ pieces_in (length bs) → PiecesLeft bs a n rest → rest ≡ a
none-left bs a n rest l e = append_cancel_left (pieces_text bs) rest a
    (ap (λ m. parts_until (piece_line bs) m ++ rest) (sym l) ∙ e)

-- its line is read
pub piece-line : {E : Type 0} (bs a : List ℕ) (n : ℕ) (text rest : List ℕ) (r : Result (List ℕ) E)
    → n < pieces_in (length bs) → PiecesLeft bs a n text → ReadsLine text rest r → (r ≡ Ok (piece_prefix bs n))
    × PiecesLeft bs a (suc n) rest
piece-line bs a n text rest r l e h =
    let p = next-piece bs a n text l e in
    let read = h.reads (piece_prefix bs n) p.more (piece-no_end bs n) (piece-short bs n) (p.is
    ∙ piece-ended bs n p.more) in
    (read.0, subst (PiecesLeft bs a (suc n)) (sym read.1) p.left)

-- ---- the first line

first-ended : (bs a rest : List ℕ) → pieces_text bs ++ a ≡ piece_line bs 0 ++ rest
    → text_lines bs ++ a ≡ ended (first_prefix bs) ++ rest
first-ended bs a rest e =
    append_assoc (length_text (length bs)) (pieces_text bs) a
    ∙ ap (λ t. length_text (length bs) ++ t) (e ∙ piece-ended bs 0 rest)
    ∙ sym (append_assoc (length_text (length bs)) (ended (piece_prefix bs 0)) rest)
    ∙ ap (λ t. t ++ rest) (sym (append_assoc (length_text (length bs)) (piece_prefix bs 0) (0x0A ∷ [])))

length-token : (bs : List ℕ) → next_token (first_prefix bs) ≡ Some (Bare (decimal (length bs)), piece_prefix bs 0)
length-token bs =
    blank-next (0x20 ∷ (decimal (length bs) ++ piece_prefix bs 0)) ∙ blank-next (decimal (length bs) ++
    piece_prefix bs 0)
    ∙ number-next (length bs) (piece_prefix bs 0) refl

module _ {E : Type 0} (law : NumbersAreDecimals) (text rest : List ℕ) where
  first-there : (r : Result (List ℕ) E) → ReadsLine text rest r → (bs a : List ℕ) → text ≡ text_lines bs ++ a
      → (r ≡ Ok (first_prefix bs)) × PiecesLeft bs a 1 rest
  first-there r h bs a e =
      let p = next-piece bs a 0 (pieces_text bs ++ a) (omega arith) refl in
      let read = h.reads (first_prefix bs) p.more (first-no_end bs) (first-short bs) (e
      ∙ first-ended bs a p.more p.is) in
      (read.0, subst (PiecesLeft bs a 1) (sym read.1) p.left)

  -- no line: no length is read
  pub first-no_line : (e : E) (result : Result (List ℕ × ℕ) E) → ReadsLine text rest (Err e)
      → ReadsLength text rest result
  first-no_line e result h = record {
    reads = λ bs a c t.
        absurd (never-ok e (first_prefix bs) (first-there (Err e) h bs a t).0);
  }

  number-there : (line left : List ℕ) (r : Result ℕ E) → ReadsLine {E = E} text rest (Ok line)
      → ReadsToken number line left r → (bs a : List ℕ) → length bs < 2 ^ 64 → text ≡ text_lines bs ++ a
      → (r ≡ Ok (length bs)) × (left ≡ piece_prefix bs 0)
  number-there line left r h w bs a c t =
      let is : line ≡ first_prefix bs = ok-same {E = E} line (first_prefix bs) (first-there (Ok line) h bs a t).0 in
      w.reads (Bare (decimal (length bs))) (piece_prefix bs 0) (length bs) (ap next_token is ∙ length-token bs)
      (decimal-number law (length bs) c)

  -- no number: no length is read
  pub first-no_number : (line left : List ℕ) (e : E) (result : Result (List ℕ × ℕ) E)
      → ReadsLine {E = E} text rest (Ok line) → ReadsToken number line left (Err e) → ReadsLength text rest result
  first-no_number line left e result h w =
      record { reads = λ bs a c t. absurd (never-ok e (length bs) (number-there line left (Err e) h w bs a c t).0) }

  -- a number: the length is read
  pub first-some : (line left : List ℕ) (n : ℕ) → ReadsLine {E = E} text rest (Ok line)
      → ReadsToken {E = E} number line left (Ok n) → ReadsLength {E = E} text rest (Ok (left, n))
  first-some line left n h w = record {
    reads = λ bs a c t.
        let q = number-there line left (Ok n) h w bs a c t in
        let same : n ≡ length bs = ok-same {E = E} n (length bs) q.0 in
        ((λ i. Ok (q.1 i, same i)), (first-there (Ok line) h bs a t).1);
  }

-- ---- pieces in the room

-- a piece that was not read: nothing is copied
pub piece-unread_copied : {E F : Type 0} (tokens old new : List ℕ) (from : ℕ) (e : E) (result : Result ℕ F)
    → ReadsPiece tokens (Err e) → CopiesPiece tokens old new from result
piece-unread_copied tokens old new from e result h =
    record { copies = λ i bs a t l. absurd (never-ok e bs (h.reads i bs a t)) }

-- all bytes of the pieces before this one
abbrev pub prefix_bytes : List ℕ → ℕ → List ℕ
prefix_bytes bs n = take (n * 1000) bs

-- the bytes of one piece more
pub prefix-more : (bs : List ℕ) (n : ℕ) → prefix_bytes bs (suc n) ≡ prefix_bytes bs n ++ piece_of bs n
prefix-more bs n = let more : suc n * 1000 ≡ n * 1000 + 1000 = omega arith
    in ap (λ m. take m bs) more ∙ take-add (n * 1000) 1000 bs

-- the bytes of all pieces are the string
pub prefix-all : (bs : List ℕ) (n : ℕ) → n ≡ pieces_in (length bs) → prefix_bytes bs n ≡ bs
prefix-all bs n e = take_all (n * 1000) bs (omega arith)

-- the bytes so far are at most all
pub prefix-few : (bs : List ℕ) (n : ℕ) → length (prefix_bytes bs n) ≤ length bs
prefix-few bs n = omega (arith, length-take (n * 1000) bs)

-- what was collected so far
pub record Collected (bs a rest now : List ℕ) (filled n : ℕ) : Type 0 where
  pub left : PiecesLeft bs a n rest
  pub filled_is : filled ≡ length (prefix_bytes bs n)
  pub prefix : take filled now ≡ prefix_bytes bs n
  pub inside : n ≤ pieces_in (length bs)

-- the pieces copied so far, and the text that is left
pub record InPieces (text old rest now : List ℕ) (len filled counter : ℕ) : Type 0 where
  pub left : (bs a : List ℕ) → IsByteList bs → length bs < 2 ^ 64 → length bs ≤ length old
      → text ≡ text_lines bs ++ a → (len ≡ length bs) × Collected bs a rest now filled (suc counter)

-- the first piece is no longer than the string
pub first-fits : (bs : List ℕ) → length (piece_of bs 0) ≤ length bs
first-fits bs = omega (arith, length-take 1000 bs)

module _ {E F : Type 0} (text rest old : List ℕ) where
  -- no length: nothing is collected
  pub collect-no_first : (e : E) (new : List ℕ) (result : Result ℕ F) → ReadsLength text rest (Err e)
      → (last : List ℕ) → Collects text last old new result
  collect-no_first e new result h last =
      record {
        collects = λ bs a g c l t.
            absurd (never-ok e (piece_lead 0 ++ quoted_text (piece_of bs 0), length bs) (h.reads bs a c t).0);
      }

  first-copied : (tokens : List ℕ) (len : ℕ) (new : List ℕ) (r : Result ℕ F)
      → ReadsLength {E = E} text rest (Ok (tokens, len)) → CopiesPiece tokens old new 0 r
      → (bs a : List ℕ) → IsByteList bs → length bs < 2 ^ 64 → length bs ≤ length old → text ≡ text_lines bs ++ a
      → (r ≡ Ok (0 + length (piece_of bs 0))) × (take (0 + length (piece_of bs 0)) new ≡ take 0 old ++ piece_of bs 0)
      × (len ≡ length bs) × PiecesLeft bs a 1 rest
  first-copied tokens len new r h k bs a g c l t =
      let q = h.reads bs a c t in
      let both : ◌≡◌ {A = List ℕ × ℕ} (tokens, len) (piece_lead 0 ++ quoted_text (piece_of bs 0), length bs) =
      ok-same {E = E} (tokens, len) (piece_lead 0 ++ quoted_text (piece_of bs 0), length bs) q.0 in
      let p = k.copies 0 (piece_of bs 0) (piece-bytes bs 0 g) (ap (λ (b : List ℕ × ℕ). b.0) both) (omega (
        arith,
        first-fits bs,
      )) in
      (p.0, p.1, ap (λ (b : List ℕ × ℕ). b.1) both, q.1)

  -- the first piece was not copied: nothing is collected
  pub collect-no_copy : (tokens : List ℕ) (len : ℕ) (new : List ℕ) (e : F) (result : Result ℕ F)
      → ReadsLength {E = E} text rest (Ok (tokens, len)) → CopiesPiece tokens old new 0 (Err e) → (last : List ℕ)
      → Collects text last old new result
  collect-no_copy tokens len new e result h k last =
      record {
        collects = λ bs a g c l t.
            absurd (never-ok e (0 + length (piece_of bs 0)) (first-copied tokens len new (Err e) h k bs a g c l t).0);
      }

  -- the first piece is copied
  pub collect-start : (tokens : List ℕ) (len : ℕ) (new : List ℕ) (filled : ℕ)
      → ReadsLength {E = E} text rest (Ok (tokens, len)) → CopiesPiece {E = F} tokens old new 0 (Ok filled)
      → InPieces text old rest new len filled 0
  collect-start tokens len new filled h k = record {
    left = λ bs a g c l t.
        let p = first-copied tokens len new (Ok filled) h k bs a g c l t in
        let one : filled ≡ 0 + length (piece_of bs 0) = ok-same {E = F} filled (0 + length (piece_of bs 0)) p.0 in (
          p.2,
          record {
            left = p.3;
            filled_is = omega (arith, one);
            prefix = ap (λ n. take n new) one ∙ p.1;
            inside = omega arith;
          },
        );
  }

-- the bytes of a piece were copied to their place
pub was-copied : {E F : Type 0} (tokens old new bytes p : List ℕ) (from : ℕ) → ReadsPiece {E = E} tokens (Ok p)
    → bytes ≡ p → take (from + length bytes) new ≡ take from old ++ bytes
    → CopiesPiece {E = F} tokens old new from (Ok (from + length bytes))
was-copied {E} {F} tokens old new bytes p from h e t = record {
  copies = λ i bs a w l.
      let is : bytes ≡ bs = e ∙ ok-same {E = E} p bs (h.reads i bs a w) in
      (ap (λ (b : List ℕ). Ok (from + length b)) is, subst (λ b. take (from + length b) new ≡ take from old ++ b) is t);
}

-- one piece more
module _ {E : Type 0} (text old rest now : List ℕ) (len filled counter : ℕ)
    (h : InPieces text old rest now len filled counter) (l : counter < (len - 1) / 1000) where
  next-copied : (rest' : List ℕ) (r : Result (List ℕ) E) → ReadsLine rest rest' r → (bs a : List ℕ) → IsByteList bs
      → length bs < 2 ^ 64 → length bs ≤ length old → text ≡ text_lines bs ++ a
      → (r ≡ Ok (piece_prefix bs (suc counter))) × PiecesLeft bs a (suc (suc counter)) rest'
  next-copied rest' r k bs a g c o t =
      let f = h.left bs a g c o t in
      piece-line bs a (suc counter) rest rest' r (omega (arith, l, f.0)) f.1.left k

module _ {E F : Type 0} (text old rest now : List ℕ) (len filled counter : ℕ)
    (h : InPieces text old rest now len filled counter) (l : counter < (len - 1) / 1000) where
  -- no line: the collecting fails
  pub more-no_line : (rest' : List ℕ) (e : E) (new : List ℕ) (result : Result ℕ F) → ReadsLine rest rest' (Err e)
      → (last : List ℕ) → Collects text last old new result
  more-no_line rest' e new result k last =
      record {
        collects = λ bs a g c o t.
            absurd (never-ok e (piece_prefix bs (suc counter))
            (next-copied text old rest now len filled counter h l rest' (Err e) k bs a g c o t).0);
      }

  copied-there : (rest' tokens now' : List ℕ) (r : Result ℕ F) → length now ≡ length old
      → ReadsLine {E = E} rest rest' (Ok tokens) → CopiesPiece tokens now now' filled r → (bs a : List ℕ)
      → IsByteList bs → length bs < 2 ^ 64 → length bs ≤ length old
      → text ≡ text_lines bs ++ a → (r ≡ Ok (filled + length (piece_of bs (suc counter))))
      × (take (filled + length (piece_of bs (suc counter))) now' ≡ take filled now ++ piece_of bs (suc counter))
      × PiecesLeft bs a (suc (suc counter)) rest'
  copied-there rest' tokens now' r same k q bs a g c o t =
      let n = suc counter in
      let f = h.left bs a g c o t in
      let read = next-copied {E = E} text old rest now len filled counter h l rest' (Ok tokens) k bs a g c o t in
      let is : tokens ≡ piece_prefix bs n = ok-same {E = E} tokens (piece_prefix bs n) read.0 in
      let fits : filled + length (piece_of bs n) ≤ length now =
      omega (
        arith,
        f.1.filled_is,
        length-append (prefix_bytes bs n) (piece_of bs n),
        ap length (prefix-more bs n),
        prefix-few bs (suc n),
        same,
        o,
      ) in
      let p = q.copies n (piece_of bs n) (piece-bytes bs n g) is fits in
      (p.0, p.1, read.1)

  -- a piece that was not copied: the collecting fails
  pub more-no_copy : (rest' tokens now' : List ℕ) (e : F) (result : Result ℕ F) → length now ≡ length old
      → ReadsLine {E = E} rest rest' (Ok tokens) → CopiesPiece tokens now now' filled (Err e) → (last new : List ℕ)
      → Collects text last old new result
  more-no_copy rest' tokens now' e result same k q last new =
      record {
        collects = λ bs a g c o t.
            absurd (never-ok e (filled + length (piece_of bs (suc counter)))
            (copied-there rest' tokens now' (Err e) same k q bs a g c o t).0);
      }

  -- one piece more is copied
  pub pieces-more : (rest' tokens now' : List ℕ) (filled' : ℕ) → length now ≡ length old
      → ReadsLine {E = E} rest rest' (Ok tokens) → CopiesPiece {E = F} tokens now now' filled (Ok filled')
      → InPieces text old rest' now' len filled' (counter + 1)
  pieces-more rest' tokens now' filled' same k q = record {
    left = λ bs a g c o t.
        let n = suc counter in
        let f = h.left bs a g c o t in
        let p = copied-there rest' tokens now' (Ok filled') same k q bs a g c o t in
        let piece = piece_of bs n in
        let is : filled' ≡ filled + length piece = ok-same {E = F} filled' (filled + length piece) p.0 in
        let next : suc n ≡ suc (counter + 1) = omega arith in
        let new : Collected bs a rest' now' filled' (suc n) = record {
          left = p.2;
          filled_is = omega (
            arith,
            is,
            f.1.filled_is,
            length-append (prefix_bytes bs n) piece,
            ap length (prefix-more bs n),
          );
          prefix = ap (λ m. take m now') is ∙ p.1 ∙ ap (λ l. l ++ piece) f.1.prefix ∙ sym (prefix-more bs n);
          inside = omega (arith, l, f.0);
        } in
        (f.0, subst (Collected bs a rest' now' filled') next new);
  }

-- all pieces are copied
pub pieces-end : {F : Type 0} (text old rest now : List ℕ) (len filled counter : ℕ)
    → InPieces text old rest now len filled counter → (len - 1) / 1000 ≤ counter
    → Collects {E = F} text rest old now (Ok filled)
pieces-end {F} text old rest now len filled counter h l = record {
  collects = λ bs a g c o t.
      let f = h.left bs a g c o t in
      let n : suc counter ≡ pieces_in (length bs) = omega (arith, f.1.inside, f.0, l) in
      let all : prefix_bytes bs (suc counter) ≡ bs = prefix-all bs (suc counter) n in
      let is : filled ≡ length bs = f.1.filled_is ∙ ap length all in
      (ap Ok is, ap (λ m. take m now) (sym is) ∙ f.1.prefix ∙ all, none-left bs a (suc counter) rest n f.1.left);
}
