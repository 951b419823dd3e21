-- The test of one object, part by part.
use Rattle.image_check.proofs.Common.{Kind, Memory, None, Option, Scalar, Some, Vector, and_from}
use Rattle.image_check.proofs.Common.{and_parts, ap, are_spellings, arith, cond, count_at, false, has_name, has_padding}
use Rattle.image_check.proofs.Common.{is_indexed, is_value_in, kind_at, le-leb, leb-true, nat_le, refl, size_of, sym}
use Rattle.image_check.proofs.Common.{true, value_offset, ℕ, ◌&&◌, ◌*◌, ◌+◌, ◌==◌, ◌∙◌, ◌≡◌, ◌≤◌}
use Rattle.std.proofs.Common.{Bool}
use Rattle.image_check.specs.ObjectPasses.{is_spelled, is_value_room}
use Rattle.image_check.specs.ObjectPasses.{has_value, is_object_at}

-- ---- a value

if-and : (x y : Bool) → cond x y false ≡ (x && y)
if-and true y = refl
if-and false y = refl

and-true : (x : Bool) → (x && true) ≡ x
and-true true = refl
and-true false = refl

-- a value is right where its count and its place are, and it is spelled
pub value-parts : (m : Memory) (k : Kind) (count at end : ℕ)
    → is_value_in m k count at end ≡ (is_value_room k count at end && is_spelled m k count at)
value-parts m (Scalar k) count at end =
    if-and (nat_le 1 count && nat_le count 1048576 && nat_le (at + size_of k * count) end) (are_spellings m k at count)
value-parts m (Vector k) count at end = sym (and-true ((count == 1) && nat_le (at + 24) end))
value-parts m other count at end = sym (and-true ((count == 1) && nat_le (at + 24) end))

-- the end of a value is at or after its start
pub record HasRoom (start end : ℕ) : Type 0 where
  pub behind : start ≤ end

container-room : (count start end : ℕ) → ((count == 1) && nat_le (start + 24) end) ≡ true → HasRoom start end
container-room count start end h =
    let room = leb-true (start + 24) end (and_parts (count == 1) (nat_le (start + 24) end) h).1 in
    record { behind = omega arith }

-- a value with room as a test has it
pub room-said : (k : Kind) (count start end : ℕ) → is_value_room k count start end ≡ true → HasRoom start end
room-said (Scalar k) count start end h =
    let room = leb-true (start + size_of k * count) end
    (and_parts (nat_le 1 count && nat_le count 1048576) (nat_le (start + size_of k * count) end) h).1 in
    record { behind = omega arith }
room-said (Vector k) count start end h = container-room count start end h
room-said other count start end h = container-room count start end h

-- and has it before a later end
room-later : (count start end later : ℕ) → ((count == 1) && nat_le (start + 24) end) ≡ true → end ≤ later
    → ((count == 1) && nat_le (start + 24) later) ≡ true
room-later count start end later h l =
    let p = and_parts (count == 1) (nat_le (start + 24) end) h in
    let room = leb-true (start + 24) end p.1 in
    and_from (count == 1) (nat_le (start + 24) later) p.0 (le-leb (start + 24) later (omega arith))

-- a value with room has it in a wider range
pub room-wider : (k : Kind) (count start end later : ℕ) → is_value_room k count start end ≡ true → end ≤ later
    → is_value_room k count start later ≡ true
room-wider (Scalar k) count start end later h l =
    let p = and_parts (nat_le 1 count && nat_le count 1048576) (nat_le (start + size_of k * count) end) h in
    let room = leb-true (start + size_of k * count) end p.1 in
    and_from (nat_le 1 count && nat_le count 1048576) (nat_le (start + size_of k * count) later) p.0
    (le-leb (start + size_of k * count) later (omega arith))
room-wider (Vector k) count start end later h l = room-later count start end later h l
room-wider other count start end later h l = room-later count start end later h l

-- ---- an object

-- the test of an object, by the tests of its parts
abbrev four : Bool → Bool → Bool → Bool → Bool
four name value padding indexed = cond name (value && padding && indexed) false

four-value : (n v p i : Bool) → v ≡ false → false ≡ four n v p i
four-value true v p i e = ap (λ x. x && p && i) (sym e)
four-value false v p i e = refl

module _ (format : ℕ) (m : Memory) (at end : ℕ) where
  module _ (k : Kind) (is : Some k ≡ kind_at format m at) (count start : ℕ) (c : count ≡ count_at m at) (s : start
      ≡ value_offset m at) where
    value-is : has_value format m at end ≡ (is_value_room k count start end && is_spelled m k count start)
    value-is =
        ap (λ (o : Option Kind). elim o [
          | None ↦ false
          | Some k ↦ is_value_in m k (count_at m at) (value_offset m at) end
        ]) (sym is)
        ∙ (λ j. is_value_in m k (sym c j) (sym s j) end) ∙ value-parts m k count start end

    -- a value without room fails the object's test
    pub no-room : is_value_room k count start end ≡ false → false ≡ is_object_at format m at end
    no-room e = four-value (has_name format m at) (has_value format m at end) (has_padding m at) (is_indexed m at)
        (value-is ∙ ap (λ b. b && is_spelled m k count start) e)
