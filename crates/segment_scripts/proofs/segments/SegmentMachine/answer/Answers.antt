use Rattle.std.proofs.Common.{◌∙◌, ap, sym}
use Rattle.segment_lang.specs.Seen.{reading_by}
use Rattle.segment_scripts.specs.Refusing.{refuses}
use Rattle.segment_scripts.proofs.segments.LineBounds.{asked-meant}
use Rattle.segment_scripts.proofs.segments.RefusedLines.{responds-form, responds-wrong}
use Rattle.segment_scripts.proofs.segments.SegmentMachine.answer.Goals as goal

pub answer_push-requires-clause-meaning : goal.answer_push-requires-clause-meaning
answer_push-requires-clause-meaning g c =
    λ command e. asked-meant command c.args.line.now (e
    ∙ ap (λ f. reading_by f c.in-Form.rest.now) (sym c.in-Push.is) ∙ c.in-Form.ensures)

pub answer_operation-requires-clause-meaning : goal.answer_operation-requires-clause-meaning
answer_operation-requires-clause-meaning g c =
    λ command e. asked-meant command c.args.line.now (e
    ∙ ap (λ f. reading_by f c.in-Form.rest.now) (sym c.in-Operation.is) ∙ c.in-Form.ensures)

pub returns-in-Wrong : goal.returns-in-Wrong
returns-in-Wrong g c =
    let r = responds-wrong c.args.self.now c.in-Wrong.error c.in-Wrong.ensures c.put_wrong.ensures.output
    c.put_wrong.ensures.report in
    record { step = r.leads; output = r.writes; report = r.tells; noop = r.idles }

pub returns-in-Size : goal.returns-in-Size
returns-in-Size g c =
    let r = responds-form c.in-Form.rest.now c.in-Size.is c.in-Form.ensures c.answer_size.ensures in
    record { step = r.leads; output = r.writes; report = r.tells; noop = r.idles }

pub returns-in-Get : goal.returns-in-Get
returns-in-Get g c =
    let r = responds-form c.in-Form.rest.now c.in-Get.is c.in-Form.ensures c.answer_get.ensures in
    record { step = r.leads; output = r.writes; report = r.tells; noop = r.idles }

pub returns-in-Push : goal.returns-in-Push
returns-in-Push g c =
    let r = responds-form c.in-Form.rest.now c.in-Push.is c.in-Form.ensures c.answer_push.ensures in
    record { step = r.leads; output = r.writes; report = r.tells; noop = r.idles }

pub returns-in-Put : goal.returns-in-Put
returns-in-Put g c =
    let r = responds-form c.in-Form.rest.now c.in-Put.is c.in-Form.ensures c.answer_put.ensures in
    record { step = r.leads; output = r.writes; report = r.tells; noop = r.idles }

pub returns-in-Pop : goal.returns-in-Pop
returns-in-Pop g c =
    let r = responds-form c.in-Form.rest.now c.in-Pop.is c.in-Form.ensures c.answer_pop.ensures in
    record { step = r.leads; output = r.writes; report = r.tells; noop = r.idles }

pub returns-in-Operation : goal.returns-in-Operation
returns-in-Operation g c =
    let r = responds-form c.in-Form.rest.now c.in-Operation.is c.in-Form.ensures c.answer_operation.ensures in
    record { step = r.leads; output = r.writes; report = r.tells; noop = r.idles }

pub returns-in-Nothing-clause-report : goal.returns-in-Nothing-clause-report
returns-in-Nothing-clause-report g c = λ at s. ap (refuses at.mode at.directory) c.in-Nothing.ensures
