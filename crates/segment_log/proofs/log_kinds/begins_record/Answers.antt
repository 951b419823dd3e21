use Rattle.std.proofs.Common.{◌≡◌, ◌<◌, ℕ, List, length, drop, ap, sym, ◌∙◌, arith}
use Rattle.std.proofs.lemmas.Bool.{eq-eqb, eqb-true, leb-true}
use Rattle.std.proofs.lemmas.List.{take_rest}
use Rattle.segment_log.specs.LogKinds.{record_start}
use Rattle.segment_log.specs.Tags.{tag_of}
use Rattle.segment_log.proofs.log_kinds.Heads.{no_tag}
use Rattle.segment_log.proofs.log_kinds.begins_record.Goals as goal

pub returns-then-start-ge8 : goal.returns-then-start-ge8
returns-then-start-ge8 c =
    let start = c.record_start-start.ensures in
    let tag : c.tag_of.result.now ≡ tag_of (drop 8 (record_start c.args.head.now)) =
    c.tag_of.ensures ∙ ap tag_of (take_rest c.record_start-start.result.now 8 ∙ ap (λ (l : List ℕ). drop 8 l) start) in
    (λ yes. sym (ap length tag) ∙ eqb-true _ _ yes, λ begins. eq-eqb _ _ (ap length tag ∙ begins))

pub returns-else-start-ge8 : goal.returns-else-start-ge8
returns-else-start-ge8 c =
    let short : length (record_start c.args.head.now) < 8 =
    omega (arith, ap length c.record_start-start.ensures, c.if-start-ge8.false) in (
      λ yes. absurd (omega (arith, leb-true _ _ yes, c.if-start-ge8.false)),
      λ begins. absurd (no_tag c.args.head.now short begins),
    )
