-- All values are taken, or none.
use Rattle.std.proofs.Common.{◌≡◌, refl, ℕ, ◌≤◌, true, length}
use Rattle.std.specs.Prelude.{nat_le}
use Rattle.std.proofs.lemmas.Bool.{and_from, le-leb}
use Rattle.segment_manager.specs.objects.Counted.{is_count}
use Rattle.segment_manager.proofs.CommandLaws.{array-refused, array-step}
use Rattle.segment_values.proofs.elements.construct_array.Goals as goal

is-count : (n : ℕ) → 1 ≤ n → n ≤ 1048576 → is_count n ≡ true
is-count n some few = and_from (nat_le 1 n) (nat_le n 1048576) (le-leb 1 n some) (le-leb n 1048576 few)

pub returns-clause-step : goal.returns-clause-step
returns-clause-step g c =
    array-step _ (c.construct_it.ensures.items
    (is-count (length c.args.series.now) c.requires.non_empty c.requires.max_count)) refl refl c.requires.non_empty

pub returns-clause-refused : goal.returns-clause-refused
returns-clause-refused g c =
    array-refused _ (c.construct_it.ensures.items
    (is-count (length c.args.series.now) c.requires.non_empty c.requires.max_count)) refl
