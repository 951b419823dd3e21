use Rattle.std.proofs.Common.{◌<◌, ap, subst, ◌∙◌, arith}
use Rattle.seg_types.specs.Names.{ByHandle}
use Rattle.segment_manager.specs.Parts.{parts_until}
use Rattle.segment_values.specs.Layouts.{count_at, part_at}
use Rattle.segment_values.proofs.Owed.{of-all, of-cut_in, of-more, of-same}
use Rattle.segment_values.proofs.{LaidElements.parts-at, pairs.Walk.map-said}
use Rattle.segment_values.proofs.contents.put_content.Goals as goal

pub returns-in-Map : goal.returns-in-Map
returns-in-Map g c =
    of-same c.put_pairs.ensures
    (map-said c.args.segment.now c.args.object c.requires.object c.in-Map.keys c.in-Map.values c.in-Map.is
    (g.L.Layout.spelling c.args.layout.now) c.args.count c.requires.count)

pub returns-in_err-put_element : goal.returns-in_err-put_element
returns-in_err-put_element g c =
    let sp = g.L.Layout.spelling c.args.layout.now in let key = ByHandle c.args.object.handle in
    of-same (of-cut_in (λ d. part_at sp d key) (λ d. count_at d key) c.elements.invariant
    (λ d st. subst (λ n. c.elements.index < n) (c.requires.count.answers d st) c.elements-test.true)
    c.in_err-put_element.ensures c.from_residual.ensures.0) (λ d st. parts-at sp d key)

pub elements-preserved : goal.elements-preserved
elements-preserved g c = of-more (λ d.
    part_at (g.L.Layout.spelling c.args.layout.now) d (ByHandle c.args.object.handle))
    c.elements.invariant c.in_ok-put_element.ensures

pub returns : goal.returns
returns g c =
    let sp = g.L.Layout.spelling c.args.layout.now in let key = ByHandle c.args.object.handle in
    of-same (of-all (λ d. part_at sp d key) c.elements.index c.args.count c.elements.invariant
    (omega (arith, c.elements-test.false, c.elements.auto.index-end)))
    (λ d st. ap (parts_until (part_at sp d key)) (c.requires.count.answers d st) ∙ parts-at sp d key)
