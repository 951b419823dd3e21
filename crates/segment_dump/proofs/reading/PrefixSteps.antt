-- The first three lines of a dump are read, line by line.
use Rattle.segment_dump.proofs.Common.{◌≡◌, ℕ, ◌^◌, ◌<◌, List, [], ◌∷◌, ◌++◌, Some, Result, Ok, Err, refl, sym, ap, ◌∙◌}
use Rattle.segment_dump.proofs.Common.{arith, append-nil, append_assoc, codes, decimal, length-append}
use Rattle.segment_dump.proofs.Common.{NumbersAreDecimals, number, next_token, Bare, DumpPrefix, IsDumpPrefix, fronted}
use Rattle.segment_dump.proofs.Common.{IsShortLine, ReadsEnd, ReadsLine, ReadsThis, ReadsToken, Any, HasNoEnd, Takes}
use Rattle.segment_dump.specs.Succeeding.{AreNumbers, IsNumber, ReadsLead, entries_line, entries_said, size_line}
use Rattle.segment_dump.specs.Succeeding.{size_said, version_line, version_said}
use Rattle.segment_dump.proofs.texts.Elements.{no_end-both, token-no_end, no_end-test}
use Rattle.segment_dump.proofs.{texts.Options.no-ok, texts.Options.ok-is, texts.Lines.decimal-short}
use Rattle.segment_dump.proofs.texts.LineTokens.{decimal-token, bare-test}
use Rattle.segment_dump.proofs.reading.NextTokens.{bare-long, blank-next, decimal-number, number-next}

-- ---- the first word

module _ {E : Type 0} {token text left : List ℕ} where
  -- no line: no lead is read
  pub lead-none : {e : E} {result : Result (List ℕ) E} → ReadsLine text left (Err e) → ReadsLead token text left result
  lead-none h = record { reads = λ line tail a n s w t. absurd (no-ok (h.reads line a n s t).0) }

  -- another word: no lead is read
  pub lead-other : {tokens last : List ℕ} {e : E} {result : Result (List ℕ) E}
      → ReadsLine {E = E} text left (Ok tokens) → ReadsThis token tokens last (Err e) → ReadsLead token text left result
  lead-other h f = record {
    reads = λ line tail a n s w t. let q = h.reads line a n s t in
        absurd (no-ok (f.reads tail (ap next_token (ok-is {E = E} q.0) ∙ w)).0);
  }

  -- the word that was wanted: the lead is read
  pub lead-some : {tokens last : List ℕ} → ReadsLine {E = E} text left (Ok tokens)
      → ReadsThis {E = E} token tokens last (Ok tt) → ReadsLead {E = E} token text left (Ok last)
  lead-some h f = record {
    reads = λ line tail a n s w t. let q = h.reads line a n s t in
        (ap Ok (f.reads tail (ap next_token (ok-is {E = E} q.0) ∙ w)).1, q.1);
  }

-- ---- segment dump 1

version-next : next_token version_line ≡ Some (Bare (codes "segment"), codes " dump 1")
version-next = bare-long (codes "segment") (codes " dump 1") (omega arith) (bare-test (codes "segment") refl) refl

dump-next : next_token (codes " dump 1") ≡ Some (Bare (codes "dump"), codes " 1")
dump-next = blank-next (codes "dump 1")
    ∙ bare-long (codes "dump") (codes " 1") (omega arith) (bare-test (codes "dump") refl) refl

one-next : next_token (codes " 1") ≡ Some (Bare (codes "1"), [])
one-next = blank-next (codes "1") ∙ bare-long (codes "1") [] (omega arith) (bare-test (codes "1") refl) refl

module _ {E : Type 0} {text left : List ℕ} where
  version-lead : {r : Result (List ℕ) E} → ReadsLead (codes "segment") text left r → (a : List ℕ)
      → text ≡ version_said tt ++ a → (r ≡ Ok (codes " dump 1")) × (left ≡ a)
  version-lead h a t = h.reads version_line (codes " dump 1") a (no_end-test version_line refl) (omega arith)
      version-next t

  -- no lead: no version is read
  pub version-none : {e : E} {result : Result (Unit {0}) E} → ReadsLead (codes "segment") text left (Err e)
      → Takes version_said Any text left result
  version-none h = record { takes = λ u a g t. absurd (no-ok (version-lead h a t).0) }

  -- no word `dump`: no version is read
  pub version-no_dump : {tokens last : List ℕ} {e : E} {result : Result (Unit {0}) E}
      → ReadsLead {E = E} (codes "segment") text left (Ok tokens) → ReadsThis (codes "dump") tokens last (Err e)
      → Takes version_said Any text left result
  version-no_dump h f = record {
    takes = λ u a g t.
        absurd (no-ok (f.reads (codes " 1") (ap next_token (ok-is {E = E} (version-lead h a t).0) ∙ dump-next)).0);
  }

  version-dump : {tokens mid : List ℕ} → ReadsLead {E = E} (codes "segment") text left (Ok tokens)
      → ReadsThis {E = E} (codes "dump") tokens mid (Ok tt) → (a : List ℕ) → text ≡ version_said tt ++ a
      → (mid ≡ codes " 1") × (left ≡ a)
  version-dump h f a t =
      let q = version-lead h a t in
      ((f.reads (codes " 1") (ap next_token (ok-is {E = E} q.0) ∙ dump-next)).1, q.1)

  -- another version: none is read
  pub version-no_one : {tokens mid last : List ℕ} {e : E} {result : Result (Unit {0}) E}
      → ReadsLead {E = E} (codes "segment") text left (Ok tokens) → ReadsThis {E = E} (codes "dump") tokens mid (Ok tt)
      → ReadsThis (codes "1") mid last (Err e) → Takes version_said Any text left result
  version-no_one h f g = record {
    takes = λ u a k t. absurd (no-ok (g.reads [] (ap next_token (version-dump h f a t).0 ∙ one-next)).0);
  }

  -- the version is read
  pub version-some : {tokens mid last : List ℕ} {result : Result (Unit {0}) E}
      → ReadsLead {E = E} (codes "segment") text left (Ok tokens) → ReadsThis {E = E} (codes "dump") tokens mid (Ok tt)
      → ReadsThis {E = E} (codes "1") mid last (Ok tt) → ReadsEnd last result → Takes version_said Any text left result
  version-some h f g k = record {
    takes = λ u a z t. let q = version-dump h f a t in
        (k.reads (g.reads [] (ap next_token q.0 ∙ one-next)).1, q.1);
  }

-- ---- a number after a blank

number-there : (n : ℕ) → next_token (0x20 ∷ decimal n) ≡ Some (Bare (decimal n), [])
number-there n = blank-next (decimal n) ∙ ap next_token (sym (append-nil (decimal n))) ∙ number-next n [] refl

number-before : (n : ℕ) (a : List ℕ) → next_token (0x20 ∷ (decimal n ++ 0x20 ∷ a)) ≡ Some (Bare (decimal n), 0x20 ∷ a)
number-before n a = blank-next (decimal n ++ 0x20 ∷ a) ∙ number-next n (0x20 ∷ a) refl

-- ---- size

size-next : (n : ℕ) → next_token (size_line n) ≡ Some (Bare (codes "size"), 0x20 ∷ decimal n)
size-next n = bare-long (codes "size") (0x20 ∷ decimal n) (omega arith) (bare-test (codes "size") refl) refl

size-no_end : (n : ℕ) → HasNoEnd (size_line n)
size-no_end n = no_end-both (codes "size ") (decimal n) (no_end-test (codes "size ") refl)
    (token-no_end (decimal n) (decimal-token n))

size-short : (n : ℕ) → IsShortLine (size_line n)
size-short n = omega (arith, decimal-short n)

module _ {E : Type 0} (law : NumbersAreDecimals) {text left : List ℕ} where
  size-lead : {r : Result (List ℕ) E} → ReadsLead (codes "size") text left r → (n : ℕ) (a : List ℕ)
      → text ≡ size_said n ++ a → (r ≡ Ok (0x20 ∷ decimal n)) × (left ≡ a)
  size-lead h n a t = h.reads (size_line n) (0x20 ∷ decimal n) a (size-no_end n) (size-short n) (size-next n) t

  -- no lead: no size is read
  pub size-none : {e : E} {result : Result ℕ E} → ReadsLead (codes "size") text left (Err e)
      → Takes size_said IsNumber text left result
  size-none h = record { takes = λ n a g t. absurd (no-ok (size-lead h n a t).0) }

  size-number : {tokens last : List ℕ} {r : Result ℕ E} → ReadsLead {E = E} (codes "size") text left (Ok tokens)
      → ReadsToken number tokens last r → (n : ℕ) (a : List ℕ) → n < 2 ^ 64 → text ≡ size_said n ++ a
      → (r ≡ Ok n) × (last ≡ []) × (left ≡ a)
  size-number h f n a l t =
      let q = size-lead h n a t in
      let u = f.reads (Bare (decimal n)) [] n (ap next_token (ok-is {E = E} q.0) ∙ number-there n)
      (decimal-number law n l) in
      (u.0, u.1, q.1)

  -- no number: no size is read
  pub size-no_number : {tokens last : List ℕ} {e : E} {result : Result ℕ E}
      → ReadsLead {E = E} (codes "size") text left (Ok tokens) → ReadsToken number tokens last (Err e)
      → Takes size_said IsNumber text left result
  size-no_number h f = record { takes = λ n a g t. absurd (no-ok (size-number h f n a g t).0) }

  -- more after the size: none is read
  pub size-more : {tokens last : List ℕ} {m : ℕ} {e : E} {result : Result ℕ E}
      → ReadsLead {E = E} (codes "size") text left (Ok tokens) → ReadsToken {E = E} number tokens last (Ok m)
      → ReadsEnd last (Err e) → Takes size_said IsNumber text left result
  size-more h f k = record { takes = λ n a g t. absurd (no-ok (k.reads (size-number h f n a g t).1)) }

  -- the size is read
  pub size-some : {tokens last : List ℕ} {m : ℕ} → ReadsLead {E = E} (codes "size") text left (Ok tokens)
      → ReadsToken {E = E} number tokens last (Ok m) → Takes {E = E} size_said IsNumber text left (Ok m)
  size-some h f = record {
    takes = λ n a g t. let q = size-number h f n a g t in (ap Ok (ok-is {E = E} q.0), q.2);
  }

-- ---- indexes

entries-next : (p : ℕ × ℕ) → next_token (entries_line p) ≡ Some (
  Bare (codes "indexes"),
  0x20 ∷ (decimal p.0 ++ 0x20 ∷ decimal p.1),
)
entries-next p = bare-long (codes "indexes") (0x20 ∷ (decimal p.0 ++ 0x20 ∷ decimal p.1)) (omega arith)
    (bare-test (codes "indexes") refl) refl

entries-no_end : (p : ℕ × ℕ) → HasNoEnd (entries_line p)
entries-no_end p =
    no_end-both (codes "indexes ") (decimal p.0 ++ 0x20 ∷ decimal p.1) (no_end-test (codes "indexes ") refl)
    (no_end-both (decimal p.0) (0x20 ∷ decimal p.1) (token-no_end (decimal p.0) (decimal-token p.0))
    ((λ e. omega arith), token-no_end (decimal p.1) (decimal-token p.1)))

entries-short : (p : ℕ × ℕ) → IsShortLine (entries_line p)
entries-short p = omega (arith, decimal-short p.0, decimal-short p.1, length-append (decimal p.0) (0x20 ∷ decimal p.1))

module _ {E : Type 0} (law : NumbersAreDecimals) {text left : List ℕ} where
  entries-lead : {r : Result (List ℕ) E} → ReadsLead (codes "indexes") text left r → (p : ℕ × ℕ) (a : List ℕ)
      → text ≡ entries_said p ++ a → (r ≡ Ok (0x20 ∷ (decimal p.0 ++ 0x20 ∷ decimal p.1))) × (left ≡ a)
  entries-lead h p a t = h.reads (entries_line p) (0x20 ∷ (decimal p.0 ++ 0x20 ∷ decimal p.1)) a
      (entries-no_end p) (entries-short p) (entries-next p) t

  -- no lead: no numbers of entries are read
  pub entries-none : {e : E} {result : Result (ℕ × ℕ) E} → ReadsLead (codes "indexes") text left (Err e)
      → Takes entries_said AreNumbers text left result
  entries-none h = record { takes = λ p a g t. absurd (no-ok (entries-lead h p a t).0) }

  entries-named : {tokens mid : List ℕ} {r : Result ℕ E} → ReadsLead {E = E} (codes "indexes") text left (Ok tokens)
      → ReadsToken number tokens mid r → (p : ℕ × ℕ) (a : List ℕ) → AreNumbers p → text ≡ entries_said p ++ a
      → (r ≡ Ok p.0) × (mid ≡ 0x20 ∷ decimal p.1) × (left ≡ a)
  entries-named h f p a l t =
      let q = entries-lead h p a t in
      let u = f.reads (Bare (decimal p.0)) (0x20 ∷ decimal p.1) p.0 (ap next_token (ok-is {E = E} q.0)
      ∙ number-before p.0 (decimal p.1)) (decimal-number law p.0 l.0) in
      (u.0, u.1, q.1)

  -- no first number: none are read
  pub entries-no_named : {tokens mid : List ℕ} {e : E} {result : Result (ℕ × ℕ) E}
      → ReadsLead {E = E} (codes "indexes") text left (Ok tokens) → ReadsToken number tokens mid (Err e)
      → Takes entries_said AreNumbers text left result
  entries-no_named h f = record { takes = λ p a g t. absurd (no-ok (entries-named h f p a g t).0) }

  entries-unique : {tokens mid last : List ℕ} {n : ℕ} {r : Result ℕ E}
      → ReadsLead {E = E} (codes "indexes") text left (Ok tokens) → ReadsToken {E = E} number tokens mid (Ok n)
      → ReadsToken number mid last r → (p : ℕ × ℕ) (a : List ℕ) → AreNumbers p → text ≡ entries_said p ++ a
      → (n ≡ p.0) × (r ≡ Ok p.1) × (last ≡ []) × (left ≡ a)
  entries-unique h f g p a l t =
      let q = entries-named h f p a l t in
      let u = g.reads (Bare (decimal p.1)) [] p.1 (ap next_token q.1 ∙ number-there p.1) (decimal-number law p.1 l.1) in
      (ok-is {E = E} q.0, u.0, u.1, q.2)

  -- no second number: none are read
  pub entries-no_unique : {tokens mid last : List ℕ} {n : ℕ} {e : E} {result : Result (ℕ × ℕ) E}
      → ReadsLead {E = E} (codes "indexes") text left (Ok tokens) → ReadsToken {E = E} number tokens mid (Ok n)
      → ReadsToken number mid last (Err e) → Takes entries_said AreNumbers text left result
  entries-no_unique h f g = record { takes = λ p a l t. absurd (no-ok (entries-unique h f g p a l t).1) }

  -- more after the numbers: none are read
  pub entries-more : {tokens mid last : List ℕ} {n m : ℕ} {e : E} {result : Result (ℕ × ℕ) E}
      → ReadsLead {E = E} (codes "indexes") text left (Ok tokens) → ReadsToken {E = E} number tokens mid (Ok n)
      → ReadsToken {E = E} number mid last (Ok m) → ReadsEnd last (Err e)
      → Takes entries_said AreNumbers text left result
  entries-more h f g k = record { takes = λ p a l t. absurd (no-ok (k.reads (entries-unique h f g p a l t).2)) }

  -- the numbers of entries are read
  pub entries-some : {tokens mid last : List ℕ} {n m : ℕ} → ReadsLead {E = E} (codes "indexes") text left (Ok tokens)
      → ReadsToken {E = E} number tokens mid (Ok n) → ReadsToken {E = E} number mid last (Ok m)
      → Takes {E = E} entries_said AreNumbers text left (Ok (n, m))
  entries-some h f g = record {
    takes = λ p a l t.
        let q = entries-unique h f g p a l t in
        let same = ok-is {E = E} q.1 in
        ((λ i. Ok (q.0 i, same i)), q.3);
  }

-- ---- all three

lines-apart : (v e s p i q r a : List ℕ)
    → v ++ (e ++ s) ++ p ++ (e ++ i) ++ q ++ r ++ e ++ a ≡ (v ++ e) ++ (((s ++ p) ++ e) ++ (((i ++ q ++ r) ++ e) ++ a))
lines-apart v e s p i q r a = simp append_assoc

prefix-lines : (f : DumpPrefix) (a : List ℕ)
    → fronted f ++ a ≡ version_said tt ++ (size_said f.size ++ (entries_said (f.named, f.unique) ++ a))
prefix-lines f a = lines-apart version_line (0x0A ∷ []) (codes "size ") (decimal f.size) (codes "indexes ")
    (decimal f.named) (0x20 ∷ decimal f.unique) a

module _ {E : Type 0} {text left : List ℕ} where
  -- no version: no front is read
  pub prefix-version : {e : E} {result : Result DumpPrefix E} {last : List ℕ} → Takes version_said Any text left (Err e)
      → Takes fronted IsDumpPrefix text last result
  prefix-version h = record { takes = λ f a g t. absurd (no-ok (h.takes tt _ tt (t ∙ prefix-lines f a)).0) }

  prefix-left : Takes {E = E} version_said Any text left (Ok tt) → (f : DumpPrefix) (a : List ℕ) → text ≡ fronted f ++ a
      → left ≡ size_said f.size ++ (entries_said (f.named, f.unique) ++ a)
  prefix-left h f a t = (h.takes tt _ tt (t ∙ prefix-lines f a)).1

  -- no size: no front is read
  pub prefix-size : {mid last : List ℕ} {e : E} {result : Result DumpPrefix E}
      → Takes {E = E} version_said Any text left (Ok tt) → Takes size_said IsNumber left mid (Err e)
      → Takes fronted IsDumpPrefix text last result
  prefix-size h k = record { takes = λ f a g t. absurd (no-ok (k.takes f.size _ g.size (prefix-left h f a t)).0) }

  prefix-mid : {mid : List ℕ} {n : ℕ} → Takes {E = E} version_said Any text left (Ok tt)
      → Takes {E = E} size_said IsNumber left mid (Ok n) → (f : DumpPrefix) (a : List ℕ) → IsDumpPrefix f
      → text ≡ fronted f ++ a → (n ≡ f.size) × (mid ≡ entries_said (f.named, f.unique) ++ a)
  prefix-mid h k f a g t = let q = k.takes f.size _ g.size (prefix-left h f a t) in (ok-is {E = E} q.0, q.1)

  -- no numbers of entries: no front is read
  pub prefix-entries : {mid last : List ℕ} {n : ℕ} {e : E} {result : Result DumpPrefix E}
      → Takes {E = E} version_said Any text left (Ok tt) → Takes {E = E} size_said IsNumber left mid (Ok n)
      → Takes entries_said AreNumbers mid last (Err e) → Takes fronted IsDumpPrefix text last result
  prefix-entries h k z = record {
    takes = λ f a g t. absurd (no-ok (z.takes (f.named, f.unique) a
        (omega (arith, g.named), omega (arith, g.unique)) (prefix-mid h k f a g t).1).0);
  }

  -- version, size and numbers: the front is read
  pub prefix-all : {mid last : List ℕ} {n : ℕ} {p : ℕ × ℕ} → Takes {E = E} version_said Any text left (Ok tt)
      → Takes {E = E} size_said IsNumber left mid (Ok n) → Takes {E = E} entries_said AreNumbers mid last (Ok p)
      → Takes {E = E} fronted IsDumpPrefix text last (Ok (record { size = n; named = p.0; unique = p.1 }))
  prefix-all h k z = record {
    takes = λ f a g t.
        let q = prefix-mid h k f a g t in
        let r = z.takes (f.named, f.unique) a (omega (arith, g.named), omega (arith, g.unique)) q.1 in
        let same = ok-is {E = E} r.0 in
        ((λ i. Ok (record { size = q.0 i; named = (same i).0; unique = (same i).1 })), r.1);
  }
