use Rattle.std.proofs.Common.{◌≡◌, ℕ, ◌<◌, ◌≤◌}
use Rattle.std.specs.Prelude.{slice_index}
use Rattle.segment_disk.proofs.sparse.are_zeros.Given as goal

abbrev pub invariant-bytes : goal.invariant-bytes
invariant-bytes l = record {
  below : (i : ℕ) → i < l.at → slice_index l.bytes i ≤ l.largest;
  zero : ((i : ℕ) → i < l.at → slice_index l.bytes i ≡ 0) → l.largest ≡ 0;
}
