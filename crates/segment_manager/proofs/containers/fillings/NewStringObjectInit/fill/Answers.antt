-- The string is made with its bytes.
use Rattle.segment_manager.proofs.containers.NewContainers.{string-made}
use Rattle.segment_manager.proofs.containers.fillings.NewStringObjectInit.fill.Goals as goal

pub returns : goal.returns
returns c = string-made c.args.heap.now c.with_bytes.new.heap c.args.place c.args.self.now.bytes.now c.with_bytes.result
    c.requires.heap c.bytes_are_octets.ensures.every c.with_bytes.ensures
