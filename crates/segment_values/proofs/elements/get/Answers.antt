-- What the object has under its handle it has under the key.
use Rattle.segment_values.proofs.elements.Reading.{reply-by_key}
use Rattle.segment_values.proofs.elements.get.Goals as goal

pub returns : goal.returns
returns g c = reply-by_key c.in_ok-object.ensures c.args.index c.get_element.ensures
