-- The room of a region, and whether a copy is put into it.
use Rattle.std.proofs.Common.{◌≡◌, sym, ap, ◌∙◌, ℕ, ◌+◌, ◌-◌, ◌<◌, ◌≤◌, ◌++◌, Bool, true, false}
use Rattle.std.proofs.Common.{length, length-append, nat_le, arith, if◌then◌else◌}
use Rattle.std.proofs.lemmas.Bool.{lt-leb}
use Rattle.raw_region.specs.Memory.{WindowState, whole}
use Rattle.grow_shrink.specs.Resized.{room_of}

region-len : (c : WindowState) → length (whole c) ≡ length c.before + length c.bytes + length c.after
region-len c =
    length-append (c.before ++ c.bytes) c.after ∙ ap (λ n. n + length c.after) (length-append c.before c.bytes)

-- ---- the code

module _ (c : WindowState) {size len copied beyond left : ℕ} (s : size ≡ length c.bytes) (l : len ≡ copied)
    (b : beyond ≡ len - size) (e : left ≡ length (whole c) - (length c.before + length c.bytes)) where
  -- what is longer than the segment by no more than stands after it has room
  pub fits : beyond ≤ left → copied ≤ room_of c
  fits h = omega (arith, region-len c, s, l, b, e, h)

  -- and nothing else
  pub misses : left < beyond → nat_le copied (room_of c) ≡ false
  misses h = lt-leb copied (room_of c) (omega (arith, region-len c, s, l, b, e, h))

abbrev code_of : Bool → Bool → ℕ
code_of reading fits = if reading then 4 else if fits then 0 else 27

-- a region that is not read and has room takes the copy
pub put-back : {reading fits : Bool} → reading ≡ false → fits ≡ true → 0 ≡ code_of reading fits
put-back p q = sym (λ i. code_of (p i) (q i))

-- a region without room takes no copy
pub no-room : {reading fits : Bool} → reading ≡ false → fits ≡ false → 27 ≡ code_of reading fits
no-room p q = sym (λ i. code_of (p i) (q i))
