-- What the lines of a text ask for, put together from part to part.
use Rattle.segment_dump.proofs.Common.{◌≡◌, ℕ, ◌+◌, ◌-◌, ◌≤◌, List, [], ◌∷◌, ◌++◌, length, take, drop, get_or, refl}
use Rattle.segment_dump.proofs.Common.{sym, ap, ◌∙◌, arith, append_assoc, append-nil, length-append, flat_map-append}
use Rattle.segment_dump.proofs.Common.{length-drop, length-take, take-append-drop, take_all, flat_map, Kind, Needs}
use Rattle.segment_dump.proofs.Common.{number_text, both, nothing, object_room, only_room, subst, ◌≢◌, HasNoEnd, Skips}
use Rattle.segment_dump.proofs.{Common.Some, Common.ended, Common.lines_text, texts.AllElements.AllByRecursion-append}
use Rattle.segment_dump.proofs.{reading.Prefixes.InLine, reading.Prefixes.line-ends, reading.Prefixes.line-goes}
use Rattle.segment_dump.proofs.{counting.Sums.all-append}
use Rattle.segment_dump.specs.Asked.{AreAtMost, AskTogether, Asking, AsksContent, AsksObject, Begins, CanName, IsLined}
use Rattle.segment_dump.specs.{Asked.IsMeasured, Asked.IsDumpText, Asked.NamesKind, Texts.length_text, Texts.pieces_in}

-- ---- bytes in front, one after another

pub joined : (text a b mid rest : List ℕ) → text ≡ a ++ mid → mid ≡ b ++ rest → text ≡ (a ++ b) ++ rest
joined text a b mid rest e f = e ∙ ap (λ l. a ++ l) f ∙ sym (append_assoc a b rest)

-- two parts that name objects name them together
pub can-name-more : (text mid rest : List ℕ) (m n : ℕ) → Begins CanName text m mid → Begins CanName mid n rest
    → Begins CanName text (m + n) rest
can-name-more text mid rest m n f g = record {
  bytes = f.bytes ++ g.bytes;
  is = joined text f.bytes g.bytes mid rest f.is g.is;
  says = let a = f.says in let b = g.says in omega (arith, a, b, length-append f.bytes g.bytes);
}

-- fewer can be those of a name too
pub can-name-fewer : (text rest : List ℕ) (m n : ℕ) → m ≤ n → Begins CanName text n rest → Begins CanName text m rest
can-name-fewer text rest m n l f = record { bytes = f.bytes; is = f.is; says = let a = f.says in omega (arith, a, l) }

-- these bytes, whatever they are
pub can-name-here : (text lead rest : List ℕ) → text ≡ lead ++ rest → Begins CanName text (length lead) rest
can-name-here text lead rest e = record { bytes = lead; is = e; says = omega arith }

-- between other bytes
pub can-name-between : (text lead end r0 r1 rest : List ℕ) (len : ℕ) → text ≡ lead ++ r0 → Begins CanName r0 len r1
    → r1 ≡ end ++ rest → Begins CanName text len rest
can-name-between text lead end r0 r1 rest len e f g = record {
  bytes = lead ++ (f.bytes ++ end);
  is = joined text lead (f.bytes ++ end) r0 rest e (joined r0 f.bytes end r1 rest f.is g);
  says = let a = f.says in omega (arith, a, length-append lead (f.bytes ++ end), length-append f.bytes end);
}

-- an empty part names nothing
pub can-name-none : (text : List ℕ) → Begins CanName text 0 text
can-name-none text = record { bytes = []; is = refl; says = omega arith }

-- the first bytes of a text, as many as there are at the least
pub can-name-first : (k : ℕ) (text : List ℕ) → 1 ≤ k → k ≤ length text
    → Begins CanName text 1 (take (length text - k) (drop k text))
can-name-first k text l h =
    let whole : take (length text - k) (drop k text) ≡ drop k text =
    take_all (length text - k) (drop k text) (omega (arith, length-drop k text)) in
    record {
      bytes = take k text;
      is = sym (take-append-drop k text) ∙ ap (λ r. take k text ++ r) (sym whole);
      says = omega (arith, length-take k text, h, l);
    }

-- ---- lines

lined-both : (a b : List ℕ) (m n : ℕ) → IsLined a m → IsLined b n → IsLined (a ++ b) (m + n)
lined-both a b m n f g = record {
  lines = f.lines ++ g.lines;
  are = (
    AllByRecursion-append HasNoEnd f.lines g.lines f.are.0 g.are.0,
    length-append f.lines g.lines
        ∙ ap (λ k. k + length g.lines) f.are.1 ∙ ap (λ k. m + k) g.are.1,
  );
  is = ap (λ l. l ++ b) f.is ∙ ap (λ l. lines_text f.lines ++ l) g.is ∙ sym (flat_map-append ended f.lines g.lines);
}

-- two parts of lines are lines together
pub lined-more : (text mid rest : List ℕ) (m n : ℕ) → Begins IsLined text m mid → Begins IsLined mid n rest
    → Begins IsLined text (m + n) rest
lined-more text mid rest m n f g = record {
  bytes = f.bytes ++ g.bytes;
  is = joined text f.bytes g.bytes mid rest f.is g.is;
  says = lined-both f.bytes g.bytes m n f.says g.says;
}

-- an empty part has no line
pub lined-none : (text : List ℕ) → Begins IsLined text 0 text
lined-none text = record { bytes = []; is = refl; says = record { lines = []; are = (tt, refl); is = refl } }

-- a line so far
pub record InFirst (text rest : List ℕ) : Type 0 where
  pub line : List ℕ
  pub good : HasNoEnd line
  pub is : text ≡ line ++ rest

-- the first line of a text begins there
pub first-starts : (text : List ℕ) → InFirst text text
first-starts text = record { line = []; good = tt; is = refl }

first-of : (rest : List ℕ) → 1 ≤ length rest → rest ≡ get_or rest 0 0 ∷ take (length rest - 1) (drop 1 rest)
first-of [] l = absurd (omega arith)
first-of (c ∷ cs) l = ap (λ t. c ∷ t) (sym (take_all (length (c ∷ cs) - 1) cs (omega arith)))

-- a byte that ends no line is skipped
pub skip-goes : (text rest : List ℕ) → 1 ≤ length rest → get_or rest 0 0 ≢ 0x0A → InLine text rest
    → InLine text (take (length rest - 1) (drop 1 rest))
skip-goes text rest l n h = record {
  left = λ line a g e.
      let k = h.left line a g e in
      line-goes (get_or rest 0 0) (take (length rest - 1) (drop 1 rest)) k.0 a n k.1 (sym (first-of rest l) ∙ k.2);
}

-- a byte that ends the line: the rest is what follows
pub skip-ends : (text rest : List ℕ) → 1 ≤ length rest → get_or rest 0 0 ≡ 0x0A → InLine text rest
    → Skips ended HasNoEnd text (Some (take (length rest - 1) (drop 1 rest)))
skip-ends text rest l n h = record {
  skips = λ line a g e.
      let k = h.left line a g e in
      ap Some (line-ends (get_or rest 0 0) (take (length rest - 1) (drop 1 rest)) k.0 a n k.1 (sym (first-of rest l)
      ∙ k.2));
}

-- a byte of the first line is skipped
pub first-goes : (text rest : List ℕ) → 1 ≤ length rest → get_or rest 0 0 ≢ 0x0A → InFirst text rest
    → InFirst text (take (length rest - 1) (drop 1 rest))
first-goes text rest l n h = record {
  line = h.line ++ get_or rest 0 0 ∷ [];
  good = AllByRecursion-append (λ c. c ≢ 0x0A) h.line (get_or rest 0 0 ∷ []) h.good (n, tt);
  is = joined text h.line (get_or rest 0 0 ∷ []) rest (take (length rest - 1) (drop 1 rest)) h.is (first-of rest l);
}

-- a byte that ends the first line: the rest is what follows
pub first-ends : (text rest : List ℕ) → 1 ≤ length rest → get_or rest 0 0 ≡ 0x0A → InFirst text rest
    → Begins IsLined text 1 (take (length rest - 1) (drop 1 rest))
first-ends text rest l e h =
    let tail = take (length rest - 1) (drop 1 rest) in
    record {
      bytes = ended h.line;
      is = joined text h.line (0x0A ∷ []) rest tail h.is (first-of rest l ∙ ap (λ c. c ∷ tail) e);
      says = record { lines = h.line ∷ []; are = ((h.good, tt), refl); is = sym (append-nil (ended h.line)) };
    }

-- ---- a kind and a count

-- a kind and a count measure an object
pub measured-by : (text r0 r1 r2 rest : List ℕ) (kind : Kind) (count : ℕ) → Begins NamesKind text kind r0
    → r0 ≡ 0x20 ∷ r1 → r1 ≡ number_text count ++ r2 → r2 ≡ 0x0A ∷ rest → Begins IsMeasured text (kind, count) rest
measured-by text r0 r1 r2 rest kind count k e f g = record {
  bytes = k.bytes ++ 0x20 ∷ (number_text count ++ 0x0A ∷ []);
  is = joined text k.bytes (0x20 ∷ (number_text count ++ 0x0A ∷ [])) r0 rest k.is
      (e ∙ ap (λ l. 0x20 ∷ l) (f ∙ ap (λ l. number_text count ++ l) g
      ∙ sym (append_assoc (number_text count) (0x0A ∷ []) rest)));
  says = record { token = k.bytes; kind_is = k.says; is = refl };
}

-- ---- a text

-- a string has as many lines as pieces
pub text-by : (text r0 r1 rest : List ℕ) (len count : ℕ) → text ≡ 0x20 ∷ 0x20 ∷ r0 → r0 ≡ number_text len ++ r1
    → count ≡ pieces_in len → Begins IsLined r1 count rest → Begins IsDumpText text len rest
text-by text r0 r1 rest len count e f m l = record {
  bytes = length_text len ++ l.bytes;
  is = joined text (length_text len) l.bytes r1 rest (e ∙ ap (λ t. 0x20 ∷ 0x20 ∷ t) f) l.is;
  says = record { behind = l.bytes; is = refl; lined = subst (IsLined l.bytes) m l.says };
}

-- ---- what asks, one after another

pub at-most : (n m : Needs) → n ≡ m → AreAtMost n m
at-most n m e = record {
  room = omega (arith, ap (λ (k : Needs). k.room) e);
  longest = omega (arith, ap (λ (k : Needs). k.longest) e);
}

module _ (Asks : List ℕ → Needs → Type 0) where
  -- an empty part asks for nothing
  pub none-asks : (text : List ℕ) (needs : Needs) → needs ≡ nothing → Begins (AskTogether Asks 0) text needs text
  none-asks text needs e = record {
    bytes = [];
    is = refl;
    says = record { parts = []; many = refl; each = tt; is = refl; most = at-most needs nothing e };
  }

  more-together : (count : ℕ) (bytes one : List ℕ) (needs more sum : Needs) → AskTogether Asks count bytes needs
      → Asks one more → AreAtMost sum (both needs more) → AskTogether Asks (count + 1) (bytes ++ one) sum
  more-together count bytes one needs more sum t a s =
      let p : Asking = record { bytes = one; needs = more } in
      let spelled : Asking → List ℕ = λ q. q.bytes in
      let asked : Asking → Needs = λ q. q.needs in
      let all = all-append asked t.parts (p ∷ []) in
      let least = t.most in
      record {
        parts = t.parts ++ p ∷ [];
        many = omega (arith, length-append t.parts (p ∷ []), t.many);
        each = AllByRecursion-append (λ (q : Asking). Asks q.bytes q.needs) t.parts (p ∷ []) t.each (a, tt);
        is = ap (λ l. l ++ one) t.is ∙ ap (λ l. flat_map spelled t.parts ++ l) (sym (append-nil one))
            ∙ sym (flat_map-append spelled t.parts (p ∷ []));
        most = record {
          room = omega (arith, s.room, least.room, ap (λ (k : Needs). k.room) all);
          longest = omega (arith, s.longest, least.longest, ap (λ (k : Needs). k.longest) all);
        };
      }

  -- two parts ask together for what both need
  pub more-asks : (text mid rest : List ℕ) (count : ℕ) (needs more sum : Needs)
      → Begins (AskTogether Asks count) text needs mid → Begins Asks mid more rest → AreAtMost sum (both needs more)
      → Begins (AskTogether Asks (count + 1)) text sum rest
  more-asks text mid rest count needs more sum f g s = record {
    bytes = f.bytes ++ g.bytes;
    is = joined text f.bytes g.bytes mid rest f.is g.is;
    says = more-together count f.bytes g.bytes needs more sum f.says g.says s;
  }

-- ---- an object

-- a name, a measure and elements ask for an object
pub object-asks : (text r0 r1 rest : List ℕ) (len : ℕ) (kind : Kind) (count : ℕ) (elements needs : Needs)
    → Begins CanName text len r0 → Begins IsMeasured r0 (kind, count) r1
    → Begins (AsksContent kind count) r1 elements rest
    → AreAtMost needs (both (only_room (object_room len kind count)) elements) → Begins AsksObject text needs rest
object-asks text r0 r1 rest len kind count elements needs f g h m = record {
  bytes = f.bytes ++ (g.bytes ++ h.bytes);
  is = joined text f.bytes (g.bytes ++ h.bytes) r0 rest f.is (joined r0 g.bytes h.bytes r1 rest g.is h.is);
  says = record {
    lead = f.bytes;
    len = len;
    named = f.says;
    line = g.bytes;
    measure = (kind, count);
    measured = g.says;
    content = h.bytes;
    elements = elements;
    asks = h.says;
    is = refl;
    most = m;
  };
}
