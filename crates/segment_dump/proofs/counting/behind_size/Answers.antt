use Rattle.segment_dump.proofs.counting.behind_size.Goals as goal
use Rattle.segment_dump.proofs.{Common.sym, Common.subst, reading.PrefixFaults.size-none}
use Rattle.segment_dump.proofs.{reading.PrefixFaults.size-skipped}
use Rattle.segment_dump.specs.{Reads.Skips, Reads.seen_rest, Succeeding.IsNumber, Succeeding.size_said}

pub returns-in_err-behind : goal.returns-in_err-behind
returns-in_err-behind c =
    subst (λ o. Skips size_said IsNumber c.args.text.now (seen_rest o)) (sym c.from_residual.ensures)
    (size-none c.args.text.now c.in_err-behind.ensures)

pub returns : goal.returns
returns c =
    size-skipped c.args.text.now c.in_ok-behind.field-0.now _ _ _ c.in_ok-behind.ensures c.in_ok-rest.ensures.value
    c.behind-2.ensures
