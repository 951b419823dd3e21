use Rattle.std.proofs.Common.{arith}
use Rattle.std.proofs.lemmas.Grind.{common_steps}
use Rattle.segment_dump.proofs.prefix_reading.next_entries.Goals as goal

pub returns-clause-spelled : goal.returns-clause-spelled
returns-clause-spelled c =
    let named = c.in_ok-named.ensures.spelled in let behind = c.in_ok-behind.ensures in
    let unique = c.in_ok-unique.ensures.spelled in let end = c.in_ok-behind-2.ensures in
    grind (arith, common_steps, named, behind, unique, end)
