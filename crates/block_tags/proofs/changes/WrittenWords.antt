-- A word that is put: it is read back, and what is beside it stays.
use Rattle.std.proofs.Common.{◌≡◌, ℕ, ◌+◌, ◌^◌, ◌<◌, ◌≤◌, ◌⊎◌, length, sym, subst}
use Rattle.raw_region.specs.Memory.{WindowState, SameBytes, patched, bytes_of, word_at, word_bytes}
use Rattle.raw_region.specs.Regions.{with_bytes}
use Rattle.raw_region.proofs.Laws.{SameBytesExcept-SameBytes, SameBytesExcept-word, length-word_written}
use Rattle.raw_region.proofs.Laws.{with_bytes-SameSurroundings, word-own, word_written-SameBytesExcept}
use Rattle.block_tags.specs.Windows.{WritesWord}

-- the contract of `write_u64`
pub put : (old new : WindowState) (at x : ℕ) → at + 8 ≤ length old.bytes → x < 2 ^ 64
    → new ≡ with_bytes old (patched old.bytes at (word_bytes x)) → WritesWord old new at x
put old new at x h small e =
    let P : WindowState → Type 0 = λ (c : WindowState). WritesWord old c at x in
    subst P (sym e) (record {
      place = with_bytes-SameSurroundings old (patched old.bytes at (word_bytes x));
      size = length-word_written old.bytes at x h;
      word = word-own old.bytes at x h small;
      rest = word_written-SameBytesExcept old.bytes at x h;
    })

-- the bytes outside a word that is written stay
pub put-SameBytes : (old new : WindowState) (at x : ℕ) → WritesWord old new at x → (from to : ℕ)
    → (to ≤ at) ⊎ (at + 8 ≤ from) → SameBytes (bytes_of old.bytes) (bytes_of new.bytes) from to
put-SameBytes old new at x p from to beside =
    SameBytesExcept-SameBytes (bytes_of old.bytes) (bytes_of new.bytes) at 8 from to p.rest beside

-- and another word
pub put-word : (old new : WindowState) (at x : ℕ) → WritesWord old new at x → (k : ℕ) → (k + 8 ≤ at) ⊎ (at + 8 ≤ k)
    → word_at (bytes_of new.bytes) k ≡ word_at (bytes_of old.bytes) k
put-word old new at x p k beside = SameBytesExcept-word (bytes_of old.bytes) (bytes_of new.bytes) at 8 k p.rest beside
