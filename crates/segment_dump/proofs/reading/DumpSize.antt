-- The size that a dump says, with notes after it or not.
use Rattle.segment_dump.proofs.Common.{◌≡◌, ◌≢◌, ℕ, ◌^◌, ◌<◌, List, ◌++◌, length, Option, Some, None, ap, ◌∙◌}
use Rattle.segment_dump.proofs.Common.{append_assoc, drop, Items, entries_text, without_notes, dump_text, end_text}
use Rattle.segment_dump.proofs.Common.{prefix_text, items_text}
use Rattle.segment_dump.specs.Counting.{SaysSize}
use Rattle.segment_dump.proofs.reading.PrefixLines.{NumberReads, before_entries, before_size, number-said}
use Rattle.segment_dump.proofs.{reading.Notes.notes-are-cut, texts.Options.none-some, texts.Options.some-pair}

-- what stands after the first lines
abbrev objects_of : Items → List ℕ
objects_of items = items_text items.named ++ (items_text items.unique ++ (items_text items.anonymous ++ end_text))

-- with its notes a text begins as it does without them
fronted : (text : List ℕ) (n : ℕ) (items : Items) → without_notes text ≡ dump_text n items
    → text ≡ prefix_text n (length items.named) (length items.unique) ++ (objects_of items ++ (notes-are-cut
    text).notes)
fronted text n items e =
    let cut = notes-are-cut text in
    cut.whole ∙ ap (λ l. l ++ cut.notes) e
    ∙ append_assoc (prefix_text n (length items.named) (length items.unique)) (objects_of items) cut.notes

-- a text that does not begin as a dump says no size
pub no-lead : (text : List ℕ) (o : Option ℕ) → ((rest : List ℕ) → text ≢ before_size ++ rest)
    → SaysSize (without_notes text) o
no-lead text o h = record {
  says = λ n items l e.
      let behind = objects_of items ++ (notes-are-cut text).notes in
      absurd (h (drop 20 (prefix_text n (length items.named) (length items.unique) ++ behind)) (fronted text n
      items e));
}

module _ (text x : List ℕ) (lead : text ≡ before_size ++ x) where
  read : (o : Option (ℕ × List ℕ))
      → NumberReads x o → (n : ℕ) (items : Items) → n < 2 ^ 64 → without_notes text ≡ dump_text n items → o ≡ Some (
        n,
        before_entries ++ (entries_text (length items.named, length items.unique)
            ++ (objects_of items ++ (notes-are-cut text).notes)),
      )
  read o h n items l e = number-said text x o n (length items.named) (length items.unique) (objects_of items
      ++ (notes-are-cut text).notes) lead h l (fronted text n items e)

  -- a text without a number says no size
  pub no-number : (o : Option ℕ) → NumberReads x None → SaysSize (without_notes text) o
  no-number o h = record { says = λ n items l e. absurd (none-some _ (read None h n items l e)) }

  -- the size that a dump says
  pub said : (size : ℕ) (rest : List ℕ) → NumberReads x (Some (size, rest)) → SaysSize (without_notes text) (Some size)
  said size rest h = record {
    says = λ n items l e.
        ap Some (some-pair size n rest _ (read (Some (size, rest)) h n items l e)).0;
  }
