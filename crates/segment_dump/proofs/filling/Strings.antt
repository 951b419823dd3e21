-- A string is filled, piece by piece.
use Rattle.seg_types.specs.declared.kinds.Kind.TheVariants as kinds
use Rattle.seg_types.specs.Commands as asked
use Rattle.segment_dump.proofs.Common.{◌≡◌, ℕ, suc, ◌+◌, ◌-◌, ◌*◌, ◌/◌, ◌^◌, ◌<◌, ◌≤◌, List, [], ◌++◌, length, Result}
use Rattle.segment_dump.proofs.Common.{Ok, Err, refl, sym, ap, subst, ◌∙◌, arith, BackingArray, no_backing, Refusal}
use Rattle.segment_dump.proofs.Common.{ByHandle, Done, Bytes, Value, bare, TakesStep, TakesStepOfKind, SegmentState}
use Rattle.segment_dump.proofs.Common.{done_answer, step, FillsNew, IsEmptyObject, IsFillable, PiecesLeft, ReadsLength}
use Rattle.segment_dump.proofs.Common.{ReadsPiece, content_need, first_content, Head, IsByteList, FillState}
use Rattle.segment_dump.proofs.Common.{IsBuildableContent, StandsFilling, head_of, ValueContent, String}
use Rattle.segment_dump.proofs.Common.{count_of_content, kind_of_content, ReadsLine, block_room, content_text, piece_of}
use Rattle.segment_dump.proofs.{texts.Options.never-ok, texts.Options.ok-same, filling.Addition.string-of}
use Rattle.segment_dump.proofs.texts.Options.{no-ok, ok-is}
use Rattle.segment_dump.proofs.{filling.Addition.was-done, texts.Elements.piece_prefix}
use Rattle.segment_dump.proofs.{Common.pieces_in, Common.text_lines, reading.Pieces.piece-bytes}
use Rattle.segment_dump.proofs.{reading.Pieces.piece-line}
use Rattle.segment_dump.specs.Builders.{AppendsPiece}
use Rattle.segment_dump.proofs.filling.OneElement.{filled-so, led, led-of_kind, stands-filling}
use Rattle.segment_dump.proofs.filling.FillSteps.{HasTable, appended, none, reserved, some, string-stored, table_of}
use Rattle.segment_dump.proofs.reading.Pieces.{first-fits, prefix-all, prefix-few, prefix-more, prefix_bytes, none-left}

-- ---- one piece

-- a piece that was not read: nothing is appended
pub piece-unappended : {E F : Type 0} (old new : SegmentState) (h : ℕ) (tokens : List ℕ) (e : E)
    (result : Result (Unit {0}) F) → ReadsPiece tokens (Err e) → AppendsPiece old new h tokens result
piece-unappended old new h tokens e result r =
    record { appends = λ site done class name prefix t rest i bs s a w l. absurd (never-ok e bs (r.reads i bs a w)) }

-- a piece that was read is appended
pub piece-appended : {E F : Type 0} (old new : SegmentState) (h : ℕ) (tokens p bytes : List ℕ)
    (called : Result (Unit {0}) Refusal) (result : Result (Unit {0}) F) → ReadsPiece {E = E} tokens (Ok p) → bytes ≡ p
    → TakesStepOfKind old new (ByHandle h) kinds.String (asked.Append (ByHandle h) bytes) (done_answer called)
    → (called ≡ Ok tt → result ≡ Ok tt) → AppendsPiece old new h tokens result
piece-appended {E} {F} old new h tokens p bytes called result r e step ok = record {
  appends = λ site done class name prefix t rest i bs s a w l.
      let head : Head = record { class = class; name = name; handle = h } in
      let is : bytes ≡ bs = e ∙ ok-same {E = E} p bs (r.reads i bs a w) in
      let step' : TakesStepOfKind old new (ByHandle h) kinds.String (asked.Append (ByHandle h) bs)
      (done_answer called) = subst (λ b.
      TakesStepOfKind old new (ByHandle h) kinds.String (asked.Append (ByHandle h) b) (done_answer called)) is step in
      let done' = appended s.directory site done head prefix t rest bs s.stands.denotes.directory s.filling l in
      let u = led-of_kind s.stands s.mode _ _ _ step' done' in (
        ok (was-done called u.given_is),
        stands-filling u.stands u.mode u.holds,
      );
}

-- ---- all of them

-- this many pieces are there
pub record StringAt (s : SegmentState) (text : List ℕ) (p : FillState) (h n : ℕ) (bs : List ℕ) : Type 0 where
  pub table : BackingArray
  pub slots : table.capacity ≡ length bs
  pub stands : StandsFilling s p.site p.done (head_of p h) (Bytes (prefix_bytes bs n) table) p.more
  pub left : PiecesLeft bs p.after n text
  pub inside : n ≤ pieces_in (length bs)

-- the pieces appended so far, and the text that is left
pub record InString (old now : SegmentState) (h : ℕ) (text rest : List ℕ) (room len counter : ℕ) : Type 0 where
  pub at : (p : FillState) → IsFillable p kinds.String room → IsEmptyObject old text p h → (bs : List ℕ)
      × (p.content ≡ String bs) × (len ≡ length bs) × IsByteList bs × StringAt now rest p h (suc counter) bs

table-string : (bs : List ℕ) (w : Value) → HasTable (Bytes [] no_backing) (length bs) w
    → (t : BackingArray) × (w ≡ Bytes [] t) × (t.capacity ≡ length bs)
table-string bs w (none e) = (no_backing, refl, sym e)
table-string bs w (some x) = (table_of (length bs) x, refl, refl)

-- the bytes of a begun string, and its lines
record Begun (old : SegmentState) (text : List ℕ) (p : FillState) (h : ℕ) : Type 0 where
  bytes : List ℕ
  is : p.content ≡ String bytes
  counted : length bytes < 2 ^ 64
  good : IsByteList bytes
  stands : StandsFilling old p.site p.done (head_of p h) (Bytes [] no_backing) (block_room (1 * length bytes) + p.more)
  lines : text ≡ text_lines bytes ++ p.after

begun : (old : SegmentState) (text : List ℕ) (p : FillState) (h room : ℕ) → IsFillable p kinds.String room
    → IsEmptyObject old text p h → Begun old text p h
begun old text p h room f b =
    let q = string-of p.content f.kind_is in
    let good = subst IsBuildableContent q.1 f.good in
    let s = subst (λ (c : ValueContent).
    StandsFilling old p.site p.done (head_of p h) (bare (first_content (kind_of_content c) (count_of_content c)))
    (content_need c + p.more)) q.1 b.stands in
    let one : 1 * length q.0 ≡ length q.0 = omega arith in
    let needs : content_need (String q.0) + p.more ≡ block_room (1 * length q.0) + p.more =
    omega (arith, ap block_room one) in
    record {
      bytes = q.0;
      is = q.1;
      counted = good.0;
      good = good.1;
      stands = subst (StandsFilling old p.site p.done (head_of p h) (Bytes [] no_backing)) needs s;
      lines = b.text_is ∙ ap (λ (c : ValueContent). content_text c ++ p.after) q.1;
    }

module _ (old mid : SegmentState) (h room : ℕ) (text rest tokens : List ℕ) (len : ℕ) (called : Result (Unit {0})
    Refusal)
    (moved : TakesStep old mid (asked.Reserve (ByHandle h) len) (done_answer called)) where
  -- the places are there
  record Placed (p : FillState) : Type 0 where
    bytes : List ℕ
    is : p.content ≡ String bytes
    many : len ≡ length bytes
    good : IsByteList bytes
    was : done_answer called ≡ Done
    table : BackingArray
    slots : table.capacity ≡ length bytes
    stands : StandsFilling mid p.site p.done (head_of p h) (Bytes [] table) p.more
    tokens_are : tokens ≡ piece_prefix bytes 0
    left : PiecesLeft bytes p.after 1 rest

  placed : {E : Type 0} → ReadsLength {E = E} text rest (Ok (tokens, len)) → (p : FillState)
      → IsFillable p kinds.String room → IsEmptyObject old text p h → Placed p
  placed {E} r p f b =
      let g = begun old text p h room f b in
      let bs = g.bytes in
      let q = r.reads bs p.after g.counted g.lines in
      let both : ◌≡◌ {A = List ℕ × ℕ} (tokens, len) (piece_prefix bs 0, length bs) =
      ok-same {E = E} (tokens, len) (piece_prefix bs 0, length bs) q.0 in
      let many : len ≡ length bs = ap (λ (b : List ℕ × ℕ). b.1) both in
      let moved' : TakesStep old mid (asked.Reserve (ByHandle h) (length bs)) (done_answer called) =
      subst (λ n. TakesStep old mid (asked.Reserve (ByHandle h) n) (done_answer called)) many moved in
      let done' = reserved g.stands.directory p.site p.done (head_of p h) (Bytes [] no_backing) 1 (length bs) p.more
      g.stands.stands.denotes.directory string-stored (omega arith) g.stands.filling f.rest in
      let u = led g.stands.stands g.stands.mode _ moved' done' in
      let t = table-string bs u.holds.value u.holds.table in
      record {
        bytes = bs;
        is = g.is;
        many = many;
        good = g.good;
        was = u.given_is;
        table = t.0;
        slots = t.2;
        stands = subst (λ w. StandsFilling mid p.site p.done (head_of p h) w p.more) t.1
            (stands-filling u.stands u.mode u.holds.filling);
        tokens_are = ap (λ (b : List ℕ × ℕ). b.0) both;
        left = q.1;
      }

  -- no storage: the string is not filled
  pub string-refused : {E F : Type 0} {new : SegmentState} {rest' : List ℕ} {why : Refusal}
      {result : Result (Unit {0}) F} → ReadsLength {E = E} text rest (Ok (tokens, len)) → called ≡ Err why
      → FillsNew old new h kinds.String 1 text rest' room result
  string-refused r e =
      record { fills = λ p f c b. let ok : called ≡ Ok tt = was-done called (placed r p f b).was in absurd (cc) }

  first-appended : {E F : Type 0} {new : SegmentState} {r' : Result (Unit {0}) F}
      → ReadsLength {E = E} text rest (Ok (tokens, len)) → AppendsPiece mid new h tokens r'
      → (p : FillState) (f : IsFillable p kinds.String room) (b : IsEmptyObject old text p h) → (r' ≡ Ok tt)
      × ((bs : List ℕ) × (p.content ≡ String bs) × (len ≡ length bs) × IsByteList bs × StringAt new rest p h 1 bs)
  first-appended {new = new} r a p f b =
      let g = placed r p f b in
      let bs = g.bytes in
      let one = a.appends p.site p.done p.class p.name [] g.table p.more 0 (piece_of bs 0) g.stands
      (piece-bytes bs 0 g.good) g.tokens_are (omega (arith, first-fits bs, g.slots)) in
      let prefix : piece_of bs 0 ≡ prefix_bytes bs 1 = sym (prefix-more bs 0) in (
        one.0,
        (
          bs,
          g.is,
          g.many,
          g.good,
          record {
            table = g.table;
            slots = g.slots;
            stands = subst (λ w. StandsFilling new p.site p.done (head_of p h) (Bytes w g.table) p.more) prefix one.1;
            left = g.left;
            inside = omega arith;
          },
        ),
      )

  -- the first piece was not appended: the string is not filled
  pub string-no_piece : {E F : Type 0} {new : SegmentState} {rest' : List ℕ} {e : F} {result : Result (Unit {0}) F}
      → ReadsLength {E = E} text rest (Ok (tokens, len)) → AppendsPiece mid new h tokens (Err e)
      → FillsNew old new h kinds.String 1 text rest' room result
  string-no_piece r a = record { fills = λ p f c b. absurd (no-ok (first-appended r a p f b).0) }

  -- the first piece is appended
  pub string-start : {E F : Type 0} {new : SegmentState} {u : Unit {0}}
      → ReadsLength {E = E} text rest (Ok (tokens, len)) → AppendsPiece {E = F} mid new h tokens (Ok u)
      → InString old new h text rest room len 0
  string-start r a = record { at = λ p f b. (first-appended r a p f b).1 }

-- no length: the string is not filled
pub string-no_first : {E F : Type 0} {old new : SegmentState} {h room : ℕ} {text rest rest' : List ℕ} {e : E}
    {result : Result (Unit {0}) F} → ReadsLength text rest (Err e)
    → FillsNew old new h kinds.String 1 text rest' room result
string-no_first {old = old} {h = h} {room} {text} r = record {
  fills = λ p f c b. let g = begun old text p h room f b in
      absurd (no-ok (r.reads g.bytes p.after g.counted g.lines).0);
}

-- one piece more
module _ {old now : SegmentState} {h room : ℕ} {text rest : List ℕ} {len counter : ℕ}
    (i : InString old now h text rest room len counter) (l : counter < (len - 1) / 1000) where
  line-there : {E : Type 0} {rest' : List ℕ} {r : Result (List ℕ) E} → ReadsLine rest rest' r
      → (p : FillState) (f : IsFillable p kinds.String room) (b : IsEmptyObject old text p h)
      → (r ≡ Ok (piece_prefix (i.at p f b).0 (suc counter)))
      × PiecesLeft (i.at p f b).0 p.after (suc (suc counter)) rest'
  line-there {rest' = rest'} {r} k p f b = let q = i.at p f b
      in piece-line q.0 p.after (suc counter) rest rest' r (omega (arith, l, q.2)) q.4.left k

  -- no line: the string is not filled
  pub string-no_line : {E F : Type 0} {new : SegmentState} {rest' final : List ℕ} {e : E}
      {result : Result (Unit {0}) F} → ReadsLine rest rest' (Err e)
      → FillsNew old new h kinds.String 1 text final room result
  string-no_line k = record { fills = λ p f c b. absurd (no-ok (line-there k p f b).0) }

  more-appended : {E F : Type 0} {new : SegmentState} {rest' tokens : List ℕ} {r : Result (Unit {0}) F}
      → ReadsLine {E = E} rest rest' (Ok tokens) → AppendsPiece now new h tokens r
      → (p : FillState) (f : IsFillable p kinds.String room) (b : IsEmptyObject old text p h)
      → (r ≡ Ok tt) × StringAt new rest' p h (suc (suc counter)) (i.at p f b).0
  more-appended {E} {new = new} k a p f b =
      let q = i.at p f b in
      let bs = q.0 in
      let n = suc counter in
      let at = q.4 in
      let read = line-there k p f b in
      let fits : length (prefix_bytes bs n ++ piece_of bs n) ≤ at.table.capacity =
      omega (arith, ap length (prefix-more bs n), prefix-few bs (suc n), at.slots) in
      let one = a.appends p.site p.done p.class p.name (prefix_bytes bs n) at.table p.more n (piece_of bs n)
      at.stands (piece-bytes bs n q.3) (ok-is {E = E} read.0) fits in (
        one.0,
        record {
          table = at.table;
          slots = at.slots;
          stands = subst (λ w. StandsFilling new p.site p.done (head_of p h) (Bytes w at.table) p.more)
              (sym (prefix-more bs n)) one.1;
          left = read.1;
          inside = omega (arith, l, q.2);
        },
      )

  -- a piece that was not appended: the string is not filled
  pub string-no_more : {E F : Type 0} {new : SegmentState} {rest' tokens final : List ℕ} {e : F}
      {result : Result (Unit {0}) F} → ReadsLine {E = E} rest rest' (Ok tokens)
      → AppendsPiece now new h tokens (Err e) → FillsNew old new h kinds.String 1 text final room result
  string-no_more k a = record { fills = λ p f c b. absurd (no-ok (more-appended k a p f b).0) }

  -- one piece more is appended
  pub string-more : {E F : Type 0} {new : SegmentState} {rest' tokens : List ℕ} {u : Unit {0}}
      → ReadsLine {E = E} rest rest' (Ok tokens) → AppendsPiece {E = F} now new h tokens (Ok u)
      → InString old new h text rest' room len (counter + 1)
  string-more {new = new} {rest'} k a = record {
    at = λ p f b.
        let q = i.at p f b in
        let next : suc (suc counter) ≡ suc (counter + 1) = omega arith in
        (q.0, q.1, q.2, q.3, subst (λ n. StringAt new rest' p h n q.0) next (more-appended k a p f b).1);
  }

-- all pieces are appended
pub string-end : {F : Type 0} {old now : SegmentState} {h room : ℕ} {text rest : List ℕ} {len counter : ℕ}
    → InString old now h text rest room len counter → (len - 1) / 1000 ≤ counter
    → FillsNew {E = F} old now h kinds.String 1 text rest room (Ok tt)
string-end {now = now} {h} {rest = rest} {len} {counter} i l = record {
  fills = λ p f c b.
      let q = i.at p f b in
      let bs = q.0 in
      let at = q.4 in
      let n : suc counter ≡ pieces_in (length bs) = omega (arith, at.inside, q.2, l) in
      let all : prefix_bytes bs (suc counter) ≡ bs = prefix-all bs (suc counter) n in
      let stands = subst (λ w. StandsFilling now p.site p.done (head_of p h) (Bytes w at.table) p.more) all
      at.stands in (
        refl,
        record {
          stands = filled-so p h (Bytes bs at.table) p.more (sym q.1) at.slots stands;
          text_is = none-left bs p.after (suc counter) rest n at.left;
        },
      );
}
