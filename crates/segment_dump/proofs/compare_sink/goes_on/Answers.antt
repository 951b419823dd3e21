use Rattle.segment_dump.proofs.texts.Prefixes.{goes-on}
use Rattle.segment_dump.proofs.compare_sink.goes_on.Goals as goal

pub returns-clause-on_true : goal.returns-clause-on_true
returns-clause-on_true c =
    goes-on c.is_same.result c.args.text.now c.args.at c.args.bytes.now c.split_at-2.result.0.now
    c.split_at.result.1.now c.split_at.ensures.back c.split_at-2.ensures.front c.is_same.ensures.0
