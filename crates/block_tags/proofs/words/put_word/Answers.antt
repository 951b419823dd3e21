use Rattle.std.proofs.Common.{arith}
use Rattle.block_tags.proofs.changes.WrittenWords.{put}
use Rattle.block_tags.proofs.words.put_word.Goals as goal

pub returns : goal.returns
returns c = put _ _ c.args.at c.args.word c.requires (omega arith) c.write_u64.ensures.output
