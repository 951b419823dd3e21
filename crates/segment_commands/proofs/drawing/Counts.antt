-- A segment has more objects than a number, or no more, by an iterator over them.
use Rattle.std.proofs.Common.{◌≡◌, ◌≤◌, ◌<◌, ℕ, true, false, length, arith}
use Rattle.std.proofs.lemmas.Bool.Decides.{nat_tests}
use Rattle.std.proofs.lemmas.Option.{slice_get_within}
use Rattle.std.specs.Prelude.{nat_lt}
use Rattle.segment_manager.specs.declared.objects.instance_info.Instance.{Instance}
use Rattle.segment_manager.specs.Directory.{Directory}
use Rattle.segment_manager.specs.objects.Instances.{SaysAt}
use Rattle.segment_manager.specs.State.{SegmentState, DenotesCurrent}

module _ (s : SegmentState) (at most : ℕ) where
  -- an object after the most is one more
  pub more : (said : Instance) → SaysAt s (λ (d : Directory). d.objects) at said → at ≡ most
      → (d : Directory) → DenotesCurrent s.cut.bytes d → true ≡ nat_lt most (length d.objects)
  more said h e d stands =
      let found = h.says d stands in
      let within = slice_get_within d.objects at found.0 found.1 in
      grind (arith, nat_tests)

  -- no object comes after at most the most
  pub no_more : ((d : Directory) → DenotesCurrent s.cut.bytes d → length d.objects ≤ at) → at ≤ most
      → (d : Directory) → DenotesCurrent s.cut.bytes d → false ≡ nat_lt most (length d.objects)
  no_more h e d stands = let end = h d stands in grind (arith, nat_tests)

-- more than 10000, as a test tells
pub are_many : (n : ℕ) → true ≡ nat_lt 10000 n → 10000 < n
are_many n e = grind (arith, nat_tests)

-- no more than 10000, as a test tells
pub are_few : (n : ℕ) → false ≡ nat_lt 10000 n → n ≤ 10000
are_few n e = grind (arith, nat_tests)
