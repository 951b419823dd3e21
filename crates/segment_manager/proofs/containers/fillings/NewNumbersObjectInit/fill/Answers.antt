-- The bytes that are written spell the value.
use Rattle.segment_manager.proofs.containers.fillings.NewNumbersObjectInit.fill.Goals as goal
use Rattle.segment_manager.proofs.{Common.sym, Common.◌∙◌, objects.ArrayItems.equal-made}

pub returns : goal.returns
returns g c =
    let f = c.args.self.now in
    equal-made g.T.Scalar.kind f.count (g.T.Scalar.whole f.value) c.args.heap.now c.write_elements.new.heap c.args.place
    c.write.new.to c.requires.object.0 c.requires.object.1 (sym (g.met.T.Scalar.values f.value)
    ∙ c.write.ensures.value) (c.write.ensures.bytes ∙ g.met.T.Scalar.spelled f.value)
    c.write_elements.ensures.changes c.write_elements.ensures.content
