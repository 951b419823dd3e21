use Rattle.std.proofs.Common.{◌≡◌, ◌||◌, ap, sym, ◌∙◌}
use Rattle.segment_log.specs.Records.{recovered}
use Rattle.segment_log.specs.Tags.{names_image, names_after}
use Rattle.segment_log.proofs.tags.Owned.{named_some}
use Rattle.segment_log.proofs.records.Reading.{shorter}
use Rattle.segment_log.proofs.tags.some_image.Goals as goal

pub loop-payload-smaller : goal.loop-payload-smaller
loop-payload-smaller c =
    shorter 4096 c.loop-payload.rest.now (c.in-Some.payload.now, c.in-Some.behind.now) c.in-Some.ensures

pub loop-payload-preserved : goal.loop-payload-preserved
loop-payload-preserved c =
    let prefix : (names_image c.args.id c.in-Some.payload.now || names_after c.args.id (recovered c.in-Some.behind.now))
    ≡ names_after c.args.id (recovered c.in-Some.behind.now) =
    ap (λ b. b || names_after c.args.id (recovered c.in-Some.behind.now)) (sym c.if-names_image.ensures) in
    sym prefix
    ∙ sym (named_some c.args.id c.loop-payload.rest.now c.in-Some.payload.now c.in-Some.behind.now c.in-Some.ensures)
    ∙ c.loop-payload.invariant
