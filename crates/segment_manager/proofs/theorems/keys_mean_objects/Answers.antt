-- The law is the lemma.
use Rattle.segment_manager.proofs.objects.Locating.{keys-same, keys_of_kind-same, same-object}
use Rattle.segment_manager.proofs.theorems.keys_mean_objects.Goals as goal

pub returns : goal.returns
returns c = record { any_kind = keys-same; kind_fit = keys_of_kind-same; handle = same-object }
