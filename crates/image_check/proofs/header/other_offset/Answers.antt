use Rattle.image_check.proofs.Common.{List, [], ap, arith, bytes_of, codes, eq-eqb, has_magic, little_number}
use Rattle.image_check.proofs.Common.{magic_number, read, slice_index, sym, true, true≢false, ℕ, ◌<◌, ◌∙◌, ◌∷◌, ◌≡◌}
use Rattle.raw_region.specs.Memory.{word_at}
use Rattle.image_check.proofs.header.other_offset.Goals as goal

magic-bytes : (b : List ℕ) → ((i : ℕ) → i < 8 → slice_index b i ≡ slice_index (codes "MSEGFILE") i)
    → read (bytes_of b) 0 8 ≡ codes "MSEGFILE"
magic-bytes b h = λ j.
    h 0 (omega arith) j ∷ h 1 (omega arith) j ∷ h 2 (omega arith) j ∷ h 3 (omega arith) j ∷ h 4 (omega arith) j ∷ h 5
    (omega arith) j ∷ h 6 (omega arith) j ∷ h 7 (omega arith) j ∷ []

all-magic : (b : List ℕ) → ((i : ℕ) → i < 8 → slice_index b i ≡ slice_index (codes "MSEGFILE") i)
    → has_magic b ≡ true
unfolding word_at
all-magic b h = eq-eqb (word_at (bytes_of b) 0) magic_number (ap (little_number 8) (magic-bytes b h))

pub returns : goal.returns
returns c = absurd (true≢false (sym (all-magic c.args.front.now (λ i lt. c.bytes.invariant.same i (omega
    (arith, c.bytes-test.false, lt)))) ∙ c.requires.magic))
