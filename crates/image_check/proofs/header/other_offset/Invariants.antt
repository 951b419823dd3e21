use Rattle.image_check.proofs.Common.{codes, slice_index, ℕ, ◌<◌, ◌≡◌}
use Rattle.image_check.proofs.header.other_offset.Given as goal

abbrev pub invariant-bytes : goal.invariant-bytes
invariant-bytes l = record { same : (i : ℕ) → i < l.at → slice_index l.front i ≡ slice_index (codes "MSEGFILE") i }
