-- Which of the first lines of a dump is wrong.
use Rattle.segment_dump.proofs.Common.{◌≡◌, ◌≢◌, ℕ, List, [], ◌∷◌, ◌++◌, Option, Some, None, sym, ap, ◌∙◌, append_assoc}
use Rattle.segment_dump.proofs.Common.{codes, decimal, drop, length, number_text, Skips, seen_rest}
use Rattle.std.specs.{Borrow.Bor, Prelude.MatchOption}
use Rattle.segment_dump.specs.Succeeding.{IsNumber, LeavesThird, size_said}
use Rattle.segment_dump.proofs.{reading.PrefixLines.NumberReads, texts.Objects.ends-line, texts.Options.none-some}
use Rattle.segment_dump.proofs.{texts.Options.some-pair}

size-behind : (text x : List ℕ) (n : ℕ) (a : List ℕ) → text ≡ codes "size " ++ x → text ≡ size_said n ++ a
    → x ≡ number_text n ++ 0x0A ∷ a
size-behind text x n a e f = ap (drop 5) (sym e ∙ f) ∙ append_assoc (decimal n) (0x0A ∷ []) a

-- the line of the size is wrong
pub size-none : (text : List ℕ) → ((y : List ℕ) → text ≡ codes "size " ++ y → ⊥) → Skips size_said IsNumber text None
size-none text none = record { skips = λ n a g w. absurd (none (drop 5 (size_said n ++ a)) w) }

pub size-no_number : (text x : List ℕ) → text ≡ codes "size " ++ x → NumberReads x None
    → Skips size_said IsNumber text None
size-no_number text x e h = record {
  skips = λ n a g w. absurd (none-some (
    n,
    0x0A ∷ a,
  ) (h.reads n (0x0A ∷ a) g (ends-line a) (size-behind text x n a e w)));
}

line-left : (rest : List ℕ) (o : Option (Bor (List ℕ))) (a : List ℕ) → rest ≡ 0x0A ∷ a
    → MatchOption o ((y : List ℕ) → rest ≢ codes "\n" ++ y) (λ y. rest ≡ codes "\n" ++ y.now) → seen_rest o ≡ Some a
line-left rest None a e k = absurd (k a e)
line-left rest (Some y) a e k = ap Some (ap (drop 1) (sym k ∙ e))

-- the line of the size is right, and what follows
pub size-skipped : (text x rest : List ℕ) (n : ℕ) (o : Option (Bor (List ℕ))) → text ≡ codes "size " ++ x
    → NumberReads x (Some (n, rest))
    → MatchOption o ((y : List ℕ) → rest ≢ codes "\n" ++ y) (λ y. rest ≡ codes "\n" ++ y.now)
    → Skips size_said IsNumber text (seen_rest o)
size-skipped text x rest n o e h ended = record {
  skips = λ m a g w.
      let q = h.reads m (0x0A ∷ a) g (ends-line a) (size-behind text x m a e w) in
      line-left rest o a (some-pair n m rest (0x0A ∷ a) q).1 ended;
}

-- the first line is wrong: the third was not reached
pub third-none : (text : List ℕ) (left : ℕ) → ((y : List ℕ) → text ≡ codes "segment dump 1\n" ++ y → ⊥)
    → LeavesThird text left
third-none text left none = record { leaves = λ n a g w. absurd (none (size_said n ++ a) w) }

-- what is left at the third line
pub third-left : (text sized : List ℕ) (o : Option (Bor (List ℕ))) (left : ℕ) → text ≡ codes "segment dump 1\n" ++ sized
    → Skips size_said IsNumber sized (seen_rest o) → ((a : List ℕ) → seen_rest o ≡ Some a → left ≡ length a)
    → LeavesThird text left
third-left text sized o left e h k = record {
  leaves = λ n a g w. k a (h.skips n a g (ap (drop 15) (sym e ∙ w)));
}
