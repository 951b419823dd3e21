use Rattle.std.proofs.Common.{◌≡◌, sym, ◌∙◌, ap, cond}
use Rattle.std.proofs.lemmas.Bool.{eq-eqb}
use Rattle.file_rights.specs.Rights.{common}
use Rattle.file_rights.specs.AccessLists.{common_within, entries_of}
use Rattle.file_rights.proofs.rights.Covering.{common_assoc}
use Rattle.file_rights.proofs.access_lists.common_within.Goals as goal

pub loop-entry-preserved-then-entry-tag : goal.loop-entry-preserved-then-entry-tag
loop-entry-preserved-then-entry-tag c =
    let mask = c.args.mask in
    let so_far = c.loop-entry.rights in
    let entry = c.in-Some.entry in
    let later = common_within c.args.tag mask (entries_of c.in-Some.behind.now) in
    let within : c.common.result ≡ common entry.rights mask = c.common.ensures in
    let taken : c.common-rights.result ≡ common so_far c.common.result = c.common-rights.ensures in
    ap (λ r. common r later) (taken ∙ ap (common so_far) within)
    ∙ common_assoc so_far (common entry.rights mask) later
    ∙ ap (common so_far)
    (sym (ap (λ t. cond t (common (common entry.rights mask) later) later) (eq-eqb _ _ c.if-entry-tag.true)))
    ∙ sym (ap (λ es. common so_far (common_within c.args.tag mask es)) c.in-Some.ensures.value)
    ∙ c.loop-entry.invariant
