use Rattle.std.proofs.Common.{refl}
use Rattle.segment_manager.specs.Answers.{Made}
use Rattle.segment_scripts.proofs.segments.CommandSteps.{replies-plain}
use Rattle.segment_scripts.proofs.values.Keys.{new_line_kind}
use Rattle.segment_scripts.proofs.constructing.NewKeyLineKey.make.Goals as goal

pub construct_under-requires : goal.construct_under-requires
construct_under-requires g c = record {
  object = c.requires.object;
  kind = new_line_kind c.args.self.now (g.F.ObjectInit.content c.args.filling.now) c.requires.content;
}

pub returns : goal.returns
returns g c = replies-plain Made (λ _. refl) c.construct_under.result refl refl c.made.ensures
    c.construct_under.ensures.step c.construct_under.ensures.refused (λ _. refl)
