use Rattle.segment_c.proofs.logs.zx_log_edit.Goals as goal
use Rattle.std.proofs.Common.{◌≡◌, ◌∙◌, List, ℕ, ◌++◌, length, ap, subst}
use Rattle.std.proofs.lemmas.List.{append_assoc}
use Rattle.segment_log.specs.{Edits.edit_text, Records.number_bytes}
use Rattle.segment_c.specs.Logs.{WritesOut}

pub returns : goal.returns
unfolding number_bytes
returns c =
    let bytes : List ℕ = c.args.bytes.now in
    let text : c.edit_head.result ++ bytes ≡ edit_text c.args.at bytes =
    ap (λ l. l ++ bytes) c.edit_head.ensures
    ∙ append_assoc (number_bytes c.args.at) (number_bytes (length bytes)) bytes in
    subst (λ l. WritesOut l c.args.out.now c.copy_both.new.out c.copy_both.result) text c.copy_both.ensures
