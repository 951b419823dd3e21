-- The first lines of a dump are read.
use Rattle.segment_dump.proofs.Common.{◌≡◌, ℕ, ◌<◌, ◌^◌, List, [], ◌∷◌, ◌++◌, Option, Some, None, sym, ap, ◌∙◌}
use Rattle.segment_dump.proofs.Common.{append_assoc, codes, decimal, drop, number_text, DumpPrefix, IsDumpPrefix}
use Rattle.segment_dump.proofs.Common.{fronted}
use Rattle.segment_dump.proofs.Common.{entries_text, Any, Breaks, ParsesPrefix, itself, prefix_text}
use Rattle.segment_dump.specs.Leads.{AreEntryCounts}
use Rattle.segment_dump.proofs.{texts.Objects.ends-line, texts.Options.none-some, texts.Options.some-pair}

-- the text before the size
abbrev pub before_size : List ℕ
before_size = codes "segment dump 1" ++ 0x0A ∷ codes "size "

-- the text before the numbers of entries
abbrev pub before_entries : List ℕ
before_entries = 0x0A ∷ codes "indexes "

prefix-apart : (s i p q l x : List ℕ) → s ++ i ++ p ++ q ++ l ++ x ≡ s ++ (i ++ (p ++ q ++ l ++ x))
prefix-apart s i p q l x = simp append_assoc

prefix-behind : (text x : List ℕ) (s n u : ℕ) (a : List ℕ) → text ≡ before_size ++ x → text ≡ prefix_text s n u ++ a
    → x ≡ number_text s ++ (before_entries ++ (entries_text (n, u) ++ a))
prefix-behind text x s n u a e f =
    ap (drop 20) (sym e ∙ f) ∙ prefix-apart (decimal s) before_entries (decimal n) (0x20 ∷ decimal u) (0x0A ∷ []) a

-- what a number at the front of a text is read as
abbrev pub NumberReads : List ℕ → Option (ℕ × List ℕ) → Type 0
NumberReads = ParsesPrefix number_text (λ n. n < 2 ^ 64) Breaks itself

abbrev pub EntriesRead : List ℕ → Option ((ℕ × ℕ) × List ℕ) → Type 0
EntriesRead = ParsesPrefix entries_text AreEntryCounts Any itself

-- what the front of a dump is read as
abbrev pub PrefixReads : List ℕ → Option (DumpPrefix × List ℕ) → Type 0
PrefixReads = ParsesPrefix fronted IsDumpPrefix Any itself

-- a number that begins a text is the one that was written
pub number-said : (text x : List ℕ) (o : Option (ℕ × List ℕ)) (s n u : ℕ) (a : List ℕ) → text ≡ before_size ++ x
    → NumberReads x o → s < 2 ^ 64 → text ≡ prefix_text s n u ++ a
    → o ≡ Some (s, before_entries ++ (entries_text (n, u) ++ a))
number-said text x o s n u a e h l w =
    h.reads s (before_entries ++ (entries_text (n, u) ++ a)) l
    (ends-line (codes "indexes " ++ (entries_text (n, u) ++ a))) (prefix-behind text x s n u a e w)

number-prefix : (text x : List ℕ) (o : Option (ℕ × List ℕ)) (f : DumpPrefix) (a : List ℕ) → text ≡ before_size ++ x
    → NumberReads x o → IsDumpPrefix f → text ≡ fronted f ++ a
    → o ≡ Some (f.size, before_entries ++ (entries_text (f.named, f.unique) ++ a))
number-prefix text x o f a e h g w = number-said text x o f.size f.named f.unique a e h g.size w

-- a text that does not begin as a dump has no front
pub prefix-none : (text : List ℕ) → ((y : List ℕ) → text ≡ before_size ++ y → ⊥) → PrefixReads text None
prefix-none text n = record { reads = λ f a g w k. absurd (n (drop 20 (fronted f ++ a)) k) }

prefix-entries : (text x : List ℕ) (n : ℕ) (rest y : List ℕ) (o : Option ((ℕ × ℕ) × List ℕ)) (f : DumpPrefix) (a
    : List ℕ)
    → text ≡ before_size ++ x → NumberReads x (Some (n, rest)) → rest ≡ before_entries ++ y
    → EntriesRead y o → IsDumpPrefix f → text ≡ fronted f ++ a → (n ≡ f.size) × (o ≡ Some ((f.named, f.unique), a))
prefix-entries text x n rest y o f a e h z k g w =
    let r = some-pair n f.size rest (before_entries ++ (entries_text (f.named, f.unique) ++ a))
    (number-prefix text x (Some (n, rest)) f a e h g w) in
    (r.0, k.reads (f.named, f.unique) a (g.named, g.unique) tt (ap (drop 9) (sym z ∙ r.1)))

-- a text without the numbers of entries has no front
pub prefix-no_entries : (text x : List ℕ) (n : ℕ) (rest y : List ℕ) → text ≡ before_size ++ x
    → NumberReads x (Some (n, rest)) → rest ≡ before_entries ++ y → EntriesRead y None → PrefixReads text None
prefix-no_entries text x n rest y e h z k = record {
  reads = λ f a g w m. absurd (none-some ((f.named, f.unique), a)
      (prefix-entries text x n rest y None f a e h z k g m).1);
}

-- a text with size and numbers has a front
pub prefix-some : (text x : List ℕ) (n : ℕ) (rest y : List ℕ) (named unique : ℕ) (last : List ℕ) → text ≡ before_size
    ++ x → NumberReads x (Some (n, rest)) → rest ≡ before_entries ++ y → EntriesRead y (Some ((named, unique), last))
    → PrefixReads text (Some (record { size = n; named = named; unique = unique }, last))
prefix-some text x n rest y named unique last e h z k = record {
  reads = λ f a g w m.
      let r = prefix-entries text x n rest y (Some ((named, unique), last)) f a e h z k g m in
      let s = some-pair (named, unique) (f.named, f.unique) last a r.1 in
      λ i. Some (record { size = r.0 i; named = (s.0 i).0; unique = (s.0 i).1 }, s.1 i);
}

-- the parts of a front are its text
pub prefix-whole : (text x : List ℕ) (n : ℕ) (rest y : List ℕ) (named unique : ℕ) (last : List ℕ) → text ≡ before_size
    ++ x → x ≡ number_text n ++ rest → rest ≡ before_entries ++ y → y ≡ entries_text (named, unique) ++ last
    → text ≡ fronted (record { size = n; named = named; unique = unique }) ++ last
prefix-whole text x n rest y named unique last e f g h =
    let apart =
    prefix-apart (number_text n) before_entries (number_text named) (0x20 ∷ number_text unique) (0x0A ∷ []) last in
    e ∙ ap (λ l. before_size ++ l) (f ∙ ap (λ l. number_text n ++ l) (g ∙ ap (λ l. before_entries ++ l) h))
    ∙ ap (λ l. before_size ++ l) (sym apart)
