-- The map is at the place.
use Rattle.segment_manager.proofs.{Common.sym, containers.PairNumbers.releases-numbers, containers.PairNumbers.some-map}
use Rattle.segment_manager.proofs.{Common.subst, Common.ReleasesMap, Common.IsSomeMap, containers.ScalarTypes.of-map}
use Rattle.best_fit.specs.declared.places.Place.{Place}
use Rattle.segment_manager.proofs.objects.destroying.release_map.Goals as goal

pub release-requires : goal.release-requires
release-requires g c = subst (λ (p : Place). IsSomeMap g.K.Plain g.V.Plain c.args.heap.now.bytes p.handle p.at)
    (sym c.at.ensures) (some-map (of-map g.met.K.Scalar) (of-map g.met.V.Scalar) _ _ _ c.requires)

pub returns : goal.returns
returns g c = record {
  each = releases-numbers (of-map g.met.K.Scalar) (of-map g.met.V.Scalar) c.args.heap.now c.release.new.heap _ _ (subst
      (λ (p : Place).
      ReleasesMap g.K.Plain g.V.Plain c.args.heap.now c.release.new.heap p.handle p.at) c.at.ensures c.release.ensures);
}
