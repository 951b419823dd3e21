use Rattle.std.proofs.Common.{◌≡◌, drop, ap, ◌∙◌, arith}
use Rattle.std.proofs.lemmas.Bool.{le-leb, leb-true}
use Rattle.std.proofs.lemmas.List.{take_rest}
use Rattle.segment_log.specs.Records.{number_of}
use Rattle.segment_log.proofs.log_kinds.has_record.Goals as goal

pub returns-then-head-eq1 : goal.returns-then-head-eq1
returns-then-head-eq1 c =
    let number : c.number_of.result ≡ number_of (drop 4096 c.args.head.now) =
    c.number_of.ensures ∙ ap number_of (take_rest c.args.head.now 4096) in (
      λ yes. record {
        is_open = c.if-head-eq1.true;
        whole = omega (arith, number, leb-true _ _ yes, c.if-len-lt4104.false);
      },
      λ has. le-leb _ _ (omega (arith, number, has.whole, c.if-len-lt4104.false)),
    )
