use Rattle.image_check.proofs.Common.{slice_index, ℕ, ◌<◌, ◌≡◌, ◌≤◌}
use Rattle.image_check.proofs.image_window.first_nonzero.Given as goal

abbrev pub invariant-bytes : goal.invariant-bytes
invariant-bytes l = record { zeros : (i : ℕ) → l.fn.from ≤ i → i < l.at → slice_index l.bytes i ≡ 0 }
