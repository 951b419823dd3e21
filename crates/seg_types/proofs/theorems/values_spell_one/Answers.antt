-- The law is the lemma.
use Rattle.seg_types.specs.ScalarLaws.{all_spell_one}
use Rattle.seg_types.proofs.theorems.values_spell_one.Goals as goal

pub returns : goal.returns
returns c = all_spell_one
