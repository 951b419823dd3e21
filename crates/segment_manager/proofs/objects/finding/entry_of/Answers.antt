-- The name that a key is passes the test of names.
use Rattle.segment_manager.proofs.objects.finding.entry_of.Goals as goal
use Rattle.segment_manager.proofs.Common.{is_text_name, subst, true, ◌≡◌}
use Rattle.segment_manager.proofs.objects.Constructed.{text-is_name}

pub returns-in-Name-clause-new : goal.returns-in-Name-clause-new
returns-in-Name-clause-new c =
    let b = c.as_bytes-bytes.ensures in
    rw c.in-Name.is (λ kind is.
    (b.bytes, b.bytes, text-is_name c.in-Name.name.bytes.now (subst (λ bs. is_text_name bs ≡ true) b.bytes b.name)))
