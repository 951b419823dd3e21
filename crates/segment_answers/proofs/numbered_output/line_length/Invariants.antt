use Rattle.std.proofs.Common.{◌≡◌, ◌≤◌, ◌<◌, ◌-◌, ℕ, true, length, take}
use Rattle.segment_answers.specs.Numbers.{is_in_text}
use Rattle.segment_answers.proofs.numbered_output.line_length.Given as goal

abbrev pub invariant-bytes : goal.invariant-bytes
invariant-bytes l = record {
  at : l.is_inside ≡ is_in_text true (take l.count l.bytes);
  count : l.count ≤ length l.bytes;
  before : (k : ℕ) → k < l.count → is_in_text true (take k l.bytes) ≡ true;
}

abbrev pub decreases-bytes : goal.decreases-bytes
decreases-bytes l = length l.bytes - l.count
