use Rattle.std.proofs.Common.{◌≡◌, ◌≤◌, length}
use Rattle.segment_lang.specs.Tokens.{behind_text}
use Rattle.segment_lang.proofs.tokens.skip_items.Given as goal

abbrev pub invariant-items : goal.invariant-items
invariant-items l = (behind_text l.rest ≡ behind_text l.bytes) × (length l.rest ≤ length l.bytes)

abbrev pub decreases-items : goal.decreases-items
decreases-items l = length l.rest
