-- The call's bytes behind the second reference are written back, and the bytes lent for reading stay.
use Rattle.best_fit.proofs.Common.{part}
use Rattle.best_fit.proofs.lending.TwoRanges.{called, second_written}
use Rattle.best_fit.proofs.lending.on_two.Goals as goal

pub returns : goal.returns
returns g c =
    let b = c.args.bytes.now in let e = c.two_mut-read.ensures in (
      c.change.new.arg3,
      called g.F.FnOnce c.args.change (part b c.args.a.from c.args.a.len) (part b c.args.b.from c.args.b.len)
          c.change.ensures e.first e.second,
      second_written b c.args.a.from c.args.a.len c.args.b.from c.args.b.len c.two_mut-read.result.0.now
          c.change.new.arg3 c.requires.first_in_bounds e.first,
    )
