use Rattle.seg_types.specs.declared.kinds.Kind.TheVariants.{String}
use Rattle.seg_types.specs.Commands.{Append}
use Rattle.segment_manager.specs.objects.BoundObjects.{key_of}
use Rattle.segment_manager.proofs.Laws.{binds, of-change}
use Rattle.segment_dump.proofs.filling_texts.append_piece.Goals as goal
use Rattle.segment_dump.proofs.{Common.◌≡◌, Common.refl, Common.TakesStepOfKind, Common.done_answer}
use Rattle.std.proofs.Common.{rules}
use Rattle.segment_dump.proofs.building.Presence.{still_of_kind-here}
use Rattle.segment_dump.proofs.filling.Strings.{piece-appended, piece-unappended}

pub returns-in_err-piece-clause-append : goal.returns-in_err-piece-clause-append
returns-in_err-piece-clause-append c =
    piece-unappended c.args.segment.now c.args.segment.now c.args.object.handle c.args.tokens.now _
    c.from_residual.result c.in_err-piece.ensures.piece

pub returns-clause-append : goal.returns-clause-append
returns-clause-append c =
    let e : c.append.new.self.segment.now ≡ c.segment-1.given.0 = search rules in
    piece-appended c.args.segment.now c.segment-1.given.0 c.args.object.handle
    c.args.tokens.now c.in_ok-piece.piece c.bytes.result.now c.append.result c.ended.result
    c.in_ok-piece.ensures.piece c.bytes.ensures (of-change (λ o u v. TakesStepOfKind u v (key_of o) String
    (Append (key_of o) c.bytes.result.now) (done_answer c.append.result)) c.at.ensures.object c.at.ensures.segment e
    c.append.ensures.step) c.ended.ensures

pub at-requires-clause-object : goal.at-requires-clause-object
at-requires-clause-object c = binds c.requires.object.object c.requires.kind

pub returns-clause-in_place : goal.returns-clause-in_place
returns-clause-in_place c =
    let e : c.append.new.self.segment.now ≡ c.segment-1.given.0 = search rules in
    still_of_kind-here c.requires.object _ _ _ _ (of-change (λ o u v. TakesStepOfKind u v (key_of o) String
    (Append (key_of o) c.bytes.result.now) (done_answer c.append.result)) c.at.ensures.object c.at.ensures.segment e
    c.append.ensures.step) refl
