use Rattle.segment_dump.proofs.counting.prefix_left.Goals as goal
use Rattle.segment_dump.proofs.{Common.sym, Common.ap, Common.◌∙◌, Common.length, texts.Options.none-some}
use Rattle.segment_dump.proofs.{texts.Options.same_Some}
use Rattle.segment_dump.specs.Reads.{seen_rest}
use Rattle.segment_dump.proofs.reading.PrefixFaults.{third-left, third-none}

pub returns-in_default : goal.returns-in_default
returns-in_default c = third-none c.args.text.now _ c.in_default.ensures

pub returns-in-Some-behind_size : goal.returns-in-Some-behind_size
returns-in-Some-behind_size c =
    third-left c.args.text.now c.in-Some.sized.now c.behind_size.result _ c.in-Some.ensures c.behind_size.ensures
    (λ a e. ap length (same_Some c.in-Some-behind_size.indexed.now a (ap seen_rest (sym c.in-Some-behind_size.is) ∙ e)))

pub returns-in-None : goal.returns-in-None
returns-in-None c =
    third-left c.args.text.now c.in-Some.sized.now c.behind_size.result _ c.in-Some.ensures c.behind_size.ensures
    (λ a e. absurd (none-some a (ap seen_rest (sym c.in-None.is) ∙ e)))
