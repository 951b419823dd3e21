-- The head has the object's properties.
use Rattle.segment_manager.proofs.objects.object_ref.read_object.Goals as goal

pub returns-clause-text : goal.returns-clause-text
returns-clause-text c = λ o s.
    let said = c.read_head-head.ensures o s in
    λ i. record { handle = s.at i; kind = said.kind i; name_len = said.name_len i; count = said.count i }
