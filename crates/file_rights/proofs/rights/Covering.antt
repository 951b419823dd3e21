-- Rights that cover others.
use Rattle.std.proofs.Common.{◌≡◌, refl, Bool, true, false, not, ◌&&◌, ◌||◌}
use Rattle.std.proofs.lemmas.Bool.{and_parts, and_from}
use Rattle.file_rights.specs.declared.rights.Rights.{Rights}
use Rattle.file_rights.specs.Rights.{no_rights, common, covers}

-- ---- a bit

bit_left : (w x y : Bool) → (not w || (x && y)) ≡ true → (not w || x) ≡ true
bit_left false x y is = refl
bit_left true true y is = refl
bit_left true false y is = is

bit_right : (w x y : Bool) → (not w || (x && y)) ≡ true → (not w || y) ≡ true
bit_right false x y is = refl
bit_right true true y is = is
bit_right true false y is = absurd (cc is)

bit_both : (w x y : Bool) → (not w || x) ≡ true → (not w || y) ≡ true → (not w || (x && y)) ≡ true
bit_both false x y a b = refl
bit_both true true y a b = b
bit_both true false y a b = a

bit_trans : (w v x : Bool) → (not v || x) ≡ true → (not w || v) ≡ true → (not w || x) ≡ true
bit_trans false v x a b = refl
bit_trans true true x a b = a
bit_trans true false x a b = absurd (cc b)

bit_self : (w : Bool) → (not w || w) ≡ true
bit_self true = refl
bit_self false = refl

bit_none : (w x : Bool) → (not w || false) ≡ true → (not w || x) ≡ true
bit_none false x is = refl
bit_none true x is = absurd (cc is)

-- ---- three of them

record Bits (r w : Rights) : Type 0 where
  pub read : (not w.read || r.read) ≡ true
  pub write : (not w.write || r.write) ≡ true
  pub execute : (not w.execute || r.execute) ≡ true

bits : (r w : Rights) → covers r w ≡ true → Bits r w
bits r w is =
    let first =
    and_parts (not w.read || r.read) ((not w.write || r.write) && (not w.execute || r.execute)) is in
    let second = and_parts (not w.write || r.write) (not w.execute || r.execute) first.1 in
    record { read = first.0; write = second.0; execute = second.1 }

from_bits : (r w : Rights) → Bits r w → covers r w ≡ true
from_bits r w b =
    and_from (not w.read || r.read) ((not w.write || r.write) && (not w.execute || r.execute)) b.read
    (and_from (not w.write || r.write) (not w.execute || r.execute) b.write b.execute)

-- what two grant together the first grants
pub covers_left : (a b w : Rights) → covers (common a b) w ≡ true → covers a w ≡ true
covers_left a b w is =
    let c = bits (common a b) w is in
    from_bits a w (record {
      read = bit_left w.read a.read b.read c.read;
      write = bit_left w.write a.write b.write c.write;
      execute = bit_left w.execute a.execute b.execute c.execute;
    })

-- and so does the second
pub covers_right : (a b w : Rights) → covers (common a b) w ≡ true → covers b w ≡ true
covers_right a b w is =
    let c = bits (common a b) w is in
    from_bits b w (record {
      read = bit_right w.read a.read b.read c.read;
      write = bit_right w.write a.write b.write c.write;
      execute = bit_right w.execute a.execute b.execute c.execute;
    })

-- what both grant they grant together
pub covers_both : (a b w : Rights) → covers a w ≡ true → covers b w ≡ true → covers (common a b) w ≡ true
covers_both a b w in_a in_b =
    let p = bits a w in_a in
    let q = bits b w in_b in
    from_bits (common a b) w (record {
      read = bit_both w.read a.read b.read p.read q.read;
      write = bit_both w.write a.write b.write p.write q.write;
      execute = bit_both w.execute a.execute b.execute p.execute q.execute;
    })

-- rights that cover others cover what these cover
pub covers_trans : (a b w : Rights) → covers a b ≡ true → covers b w ≡ true → covers a w ≡ true
covers_trans a b w above below =
    let p = bits a b above in
    let q = bits b w below in
    from_bits a w (record {
      read = bit_trans w.read b.read a.read p.read q.read;
      write = bit_trans w.write b.write a.write p.write q.write;
      execute = bit_trans w.execute b.execute a.execute p.execute q.execute;
    })

-- rights cover themselves
pub covers_self : (w : Rights) → covers w w ≡ true
covers_self w =
    from_bits w w (record { read = bit_self w.read; write = bit_self w.write; execute = bit_self w.execute })

-- who wants nothing gets it from each
pub covers_nothing : (a w : Rights) → covers no_rights w ≡ true → covers a w ≡ true
covers_nothing a w is =
    let p = bits no_rights w is in
    from_bits a w (record {
      read = bit_none w.read a.read p.read;
      write = bit_none w.write a.write p.write;
      execute = bit_none w.execute a.execute p.execute;
    })

-- ---- what three grant together

and_assoc : (x y z : Bool) → ((x && y) && z) ≡ (x && (y && z))
and_assoc true y z = refl
and_assoc false y z = refl

-- it does not matter which two are taken first
pub common_assoc : (a b c : Rights) → common (common a b) c ≡ common a (common b c)
common_assoc a b c = λ i. record {
  read = and_assoc a.read b.read c.read i;
  write = and_assoc a.write b.write c.write i;
  execute = and_assoc a.execute b.execute c.execute i;
}
