use Rattle.raw_region.proofs.words.Patches.{word-put}
use Rattle.raw_region.proofs.slices.set_word_in.Goals as goal

pub returns : goal.returns
returns c = word-put c.args.bytes.now c.args.at c.args.value c.write_u64.new.buf c.write_u64.ensures
