use Rattle.std.proofs.Common.{◌≡◌, ℕ, ◌+◌, ◌-◌, ◌*◌, ◌≤◌, ◌<◌, ◌^◌, ◌⊎◌, inl, inr, Bool, true, false, List, length}
use Rattle.std.proofs.Common.{refl, arith, ◌==◌, not}
use Rattle.std.specs.Prelude.{IsTrue, slice_index}
use Rattle.raw_region.specs.Memory.{bytes_of, patched}
use Rattle.offset_link.specs.Relinked.{relinked, BothEven, HasNoNullLink}
use Rattle.offset_link.proofs.moves.ShiftedWords.{put_right, straight}
use Rattle.offset_link.proofs.moves.runs_down.Goals as goal

-- that none is null was known, or seen
none : (q : Bool) (b : List ℕ) (at n s t : ℕ) → (IsTrue q → HasNoNullLink (bytes_of b) at n)
    → (q ≡ false → BothEven s t → HasNoNullLink (bytes_of b) at n) → BothEven s t → HasNoNullLink (bytes_of b) at n
none true b at n s t known seen even = known refl
none false b at n s t known seen even = seen refl even

pub returns-then-has_odd : goal.returns-then-has_odd
returns-then-has_odd g c =
    put_right c.args.bytes.now c.all_turns_down-seen.new.bytes c.put_right.new.bytes c.args.at
    (c.args.at - c.args.by) (8 * c.args.n)
    (omega (arith, c.requires.source)) (omega (arith, c.requires.source)) (omega (arith, c.requires.source))
    c.all_turns_down-seen.ensures.changes
    c.bytes_are_octets.ensures.each_element c.put_right.ensures

pub returns-else-has_odd : goal.returns-else-has_odd
returns-else-has_odd g c =
    straight c.args.bytes.now c.all_turns_down-seen.new.bytes c.all_turns_down-seen.new.bytes c.args.at
    (c.args.at - c.args.by) (8 * c.args.n)
    (omega (arith, c.requires.source)) (omega (arith, c.requires.source)) (omega (arith, c.requires.source))
    c.all_turns_down-seen.ensures.changes
    (none (not (g.row.NON_NULL == 0)) c.args.bytes.now c.args.at (8 * c.args.n) c.all_turns_down-seen.result.first
    c.all_turns_down-seen.result.second
    c.requires.non_null c.all_turns_down-seen.ensures.keys_seen (c.has_odd.ensures c.if-has_odd.false))
