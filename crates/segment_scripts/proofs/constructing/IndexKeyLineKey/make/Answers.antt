use Rattle.std.proofs.Common.{refl}
use Rattle.segment_manager.specs.objects.Found.{found_object}
use Rattle.segment_scripts.proofs.segments.CommandSteps.{has-found, replies-call}
use Rattle.segment_scripts.proofs.values.Keys.{entry_line_kind}
use Rattle.segment_scripts.proofs.constructing.IndexKeyLineKey.make.Goals as goal

pub find_or_construct_under-requires : goal.find_or_construct_under-requires
find_or_construct_under-requires g c = record {
  object = c.requires.object;
  kind = entry_line_kind c.args.self.now (g.F.ObjectInit.content c.args.filling.now) c.requires.content;
}

pub returns : goal.returns
returns g c = replies-call found_object (λ _. refl) c.find_or_construct_under.result refl refl c.found.ensures
    c.find_or_construct_under.ensures.step c.find_or_construct_under.ensures.refused
    (has-found _ (g.F.ObjectInit.content c.args.filling.now) c.find_or_construct_under.ensures.search)
