-- Rights and classes are read back from their bits.
use Rattle.std.proofs.Common.{◌≡◌, ◌<◌, ◌+◌, ◌*◌, ◌/◌, ◌%◌, inl, inr, ℕ, sym, ◌∙◌, ap, arith}
use Rattle.std.proofs.Common.{Bool, true, false, ◌==◌}
use Rattle.std.proofs.lemmas.Bool.{cases_eq, eq-eqb, ne_eqb}
use Rattle.file_rights.specs.declared.classes.Classes.{Classes}
use Rattle.file_rights.specs.declared.rights.Rights.{Rights}
use Rattle.file_rights.specs.Rights.{bit, bits_of, rights_of}
use Rattle.file_rights.specs.Modes.{classes_of, mode_of}

bit_below : (b : Bool) → bit b < 2
bit_below true = omega arith
bit_below false = omega arith

-- three bits are below 8
pub bits_below : (r : Rights) → bits_of r < 8
bits_below r = omega (arith, bit_below r.read, bit_below r.write, bit_below r.execute)

-- nine bits are below 512
pub mode_below : (c : Classes) → mode_of c < 512
mode_below c = omega (arith, bits_below c.owner, bits_below c.group, bits_below c.other)

bit_is : (n : ℕ) (b : Bool) → n ≡ bit b → (n == 1) ≡ b
bit_is n true is = eq-eqb _ _ (omega arith)
bit_is n false is = ne_eqb _ _ (λ h. omega arith)

-- rights are read back from the lowest three bits
pub rights_back : (n k : ℕ) (r : Rights) → n ≡ k * 8 + bits_of r → rights_of n ≡ r
rights_back n k r is =
    let read : (n / 4 % 2 == 1) ≡ r.read =
    bit_is (n / 4 % 2) r.read (omega (arith, bit_below r.read, bit_below r.write, bit_below r.execute)) in
    let write : (n / 2 % 2 == 1) ≡ r.write =
    bit_is (n / 2 % 2) r.write (omega (arith, bit_below r.read, bit_below r.write, bit_below r.execute)) in
    let execute : (n % 2 == 1) ≡ r.execute =
    bit_is (n % 2) r.execute (omega (arith, bit_below r.read, bit_below r.write, bit_below r.execute)) in
    λ i. record { read = read i; write = write i; execute = execute i }

-- the classes are read back from a mode, whatever bits are above
pub classes_back : (n above : ℕ) (c : Classes) → n ≡ above * 512 + mode_of c → classes_of n ≡ c
classes_back n above c is =
    let owner : rights_of (n / 64) ≡ c.owner =
    rights_back (n / 64) above c.owner
    (omega (arith, bits_below c.owner, bits_below c.group, bits_below c.other)) in
    let group : rights_of (n / 8) ≡ c.group =
    rights_back (n / 8) (above * 8 + bits_of c.owner) c.group
    (omega (arith, bits_below c.owner, bits_below c.group, bits_below c.other)) in
    let other : rights_of n ≡ c.other =
    rights_back n (above * 64 + bits_of c.owner * 8 + bits_of c.group) c.other (omega arith) in
    λ i. record { owner = owner i; group = group i; other = other i }

bit_of : (n : ℕ) → bit (n % 2 == 1) ≡ n % 2
bit_of n = elim (cases_eq (n % 2) 1) [
  | inl one ↦ ap bit (eq-eqb _ _ one) ∙ sym one
  | inr other ↦ ap bit (ne_eqb _ _ other) ∙ omega arith
]

-- the lowest three bits are read back from rights
pub bits_back : (n : ℕ) → bits_of (rights_of n) ≡ n % 8
bits_back n = omega (arith, bit_of (n / 4), bit_of (n / 2), bit_of n)

-- the lowest nine bits are read back from the classes
pub mode_back : (n : ℕ) → mode_of (classes_of n) ≡ n % 512
mode_back n = omega (arith, bits_back (n / 64), bits_back (n / 8), bits_back n)
