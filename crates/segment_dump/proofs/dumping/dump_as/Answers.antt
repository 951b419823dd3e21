use Rattle.segment_dump.proofs.dumping.dump_as.Goals as goal
use Rattle.segment_dump.proofs.{Common.all_text, dumping.Sections.dump-parts, dumping.Output.of-cut}
use Rattle.segment_dump.proofs.{dumping.Output.of-same, dumping.Output.of-then}

pub returns-in_err-put_prefix : goal.returns-in_err-put_prefix
returns-in_err-put_prefix g c = of-same (of-cut (λ d. all_text d) c.from_residual.ensures.0 c.in_err-put_prefix.ensures)
    (λ d st. dump-parts c.args.size d)

pub returns : goal.returns
returns g c = of-same (of-then c.in_ok-put_prefix.ensures c.put_objects.ensures) (λ d st. dump-parts c.args.size d)
