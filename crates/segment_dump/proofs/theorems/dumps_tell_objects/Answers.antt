use Rattle.segment_dump.proofs.loading.DumpObjects.{dumps-tell-objects, dumps-tell-sizes}
use Rattle.segment_dump.proofs.theorems.dumps_tell_objects.Goals as goal

pub returns : goal.returns
returns c = record { objects = dumps-tell-objects; sizes = dumps-tell-sizes }
