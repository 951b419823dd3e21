-- Entries of an access list in its bytes.
use Rattle.std.proofs.Common.{◌≡◌, ◌≤◌, ◌+◌, ◌-◌, ◌*◌, ℕ, sym, arith, List, ◌∷◌, length, take, drop, get_or}
use Rattle.std.proofs.lemmas.List.{take_rest}
use Rattle.file_rights.specs.declared.rights.Rights.{Rights}
use Rattle.file_rights.specs.Rights.{rights_of}
use Rattle.file_rights.specs.AccessLists.{entries_of}

-- the bytes of an entry, as numbers
pub record IsFirst (bytes : List ℕ) (t u p a b c d : ℕ) (r : Rights) : Type 0 where
  pub tag : t ≡ get_or bytes 0 0
  pub tag_high : u ≡ get_or bytes 1 0
  pub perm : p ≡ get_or bytes 2 0
  pub rights : r ≡ rights_of p
  pub first : a ≡ get_or bytes 4 0
  pub second : b ≡ get_or bytes 5 0
  pub third : c ≡ get_or bytes 6 0
  pub fourth : d ≡ get_or bytes 7 0

-- the first entry, and those behind it
pub first_entry : (bytes : List ℕ) (t u p a b c d : ℕ) (r : Rights) → 8 ≤ length bytes → IsFirst bytes t u p a b c d r
    → entries_of bytes
    ≡ record { tag = t + u * 256; rights = r; number = a + b * 256 + c * 65_536 + d * 16_777_216 }
    ∷ entries_of (take (length bytes - 8) (drop 8 bytes))
first_entry (x0 ∷ x1 ∷ x2 ∷ x3 ∷ x4 ∷ x5 ∷ x6 ∷ x7 ∷ bytes) t u p a b c d r long is =
    let all : List ℕ = x0 ∷ x1 ∷ x2 ∷ x3 ∷ x4 ∷ x5 ∷ x6 ∷ x7 ∷ bytes in
    let rest : take (length all - 8) (drop 8 all) ≡ bytes = take_rest all 8 in
    let rights : r ≡ rights_of x2 = cc (is.rights, is.perm) in
    λ i. record {
      tag = sym is.tag i + sym is.tag_high i * 256;
      rights = sym rights i;
      number = sym is.first i + sym is.second i * 256 + sym is.third i * 65_536 + sym is.fourth i * 16_777_216;
    } ∷ entries_of (sym rest i)
first_entry _ t u p a b c d r long is = absurd (omega arith)
