-- Segments that become longer, in a larger region if their own has no room: what the call owes.
use Rattle.std.specs.Prelude.{◌≡◌, ◌⊎◌, ℕ, None}
use Rattle.segment_manager.specs.{Directory.Directory, State.SegmentState}
use Rattle.grow_shrink.specs.{LargerRegion.IsTooLongFor, LargerRegion.growth_reason}
use Rattle.segment_c.specs.Resizing.{size_code}

-- the code is that of the refusal, if there is one in a region with room; or the segment's region has none, and there
-- was no memory for a larger one
abbrev pub IsGrowthCode : SegmentState → ℕ → ℕ → Directory → Type 0
IsGrowthCode s extra code d =
    (code ≡ size_code (growth_reason s.mode d.size extra))
    ⊎ ((code ≡ 26) × (growth_reason s.mode d.size extra ≡ None) × IsTooLongFor s extra)
