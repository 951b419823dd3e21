use Rattle.std.proofs.Common.{◌≡◌, ◌∙◌, ap, rules}
use Rattle.std.specs.Prelude.{OnErr}
use Rattle.seg_types.specs.declared.kinds.Kind.TheVariants.{Strings}
use Rattle.seg_types.specs.Commands.{Pop}
use Rattle.segment_manager.specs.containers.TextLists.{LeadsOnOfKind}
use Rattle.segment_manager.specs.objects.BoundObjects.{key_of}
use Rattle.segment_manager.specs.State.{refusal_in}
use Rattle.segment_manager.proofs.Laws.{of-change, of_kind-leads_on}
use Rattle.segment_scripts.specs.Replies.{text_at}
use Rattle.segment_scripts.proofs.segments.Refusals.{answers-same}
use Rattle.segment_scripts.proofs.changing.Texts.{executes-leading, pop-text}
use Rattle.segment_values.proofs.Located.{bound-to-change, of-handle}
use Rattle.segment_scripts.proofs.popping.pop_text.Goals as goal

pub count_of-requires : goal.count_of-requires
count_of-requires g c = of-handle c.requires.object.there

pub returns-clause-execution : goal.returns-clause-execution
returns-clause-execution g c =
    let s = c.args.segment.now in
    let key = key_of c.args.object in
    let why = refusal_in c.pop.result in
    let e : c.pop.new.self.segment.now ≡ c.segment-1.given.0 = search rules in
    executes-leading s c.segment-1.given.0 (Pop key) c.pop.result
    (of_kind-leads_on s c.segment-1.given.0 key Strings (Pop key) why
    (bound-to-change c.requires.object c.requires.writing).is
    (of-change (λ o u v. LeadsOnOfKind u v (key_of o) Strings (Pop (key_of o)) why) c.at.ensures.object
    c.at.ensures.segment e c.pop.ensures.step))
    (of-change (λ o u v. OnErr c.pop.result (v ≡ u)) c.at.ensures.object c.at.ensures.segment e c.pop.ensures.refused)

pub returns-clause-outcome : goal.returns-clause-outcome
returns-clause-outcome g c =
    let s = c.args.segment.now in
    let key = key_of c.args.object in
    answers-same c.put_text_at-written.ensures
    (λ d st. ap (λ i. text_at d key i) c.saturating_sub-last.ensures
    ∙ pop-text s key (bound-to-change c.requires.object c.requires.writing).is c.count_of.result c.requires.writing
    c.count_of.ensures d st)
