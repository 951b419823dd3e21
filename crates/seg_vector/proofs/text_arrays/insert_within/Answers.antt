-- The text is placed, and inserted.
use Rattle.seg_vector.proofs.{sym, ap, length, err_from_is_err_and, within, within-err, within-ok}
use Rattle.seg_vector.proofs.text_arrays.insert_within.Goals as goal

pub insert_element-requires : goal.insert_element-requires
insert_element-requires c =
    let r = c.requires in let w = within r.texts r.space c.in_ok-block.ensures in
    record {
      first = c.args.heap.now;
      ps = r.ps;
      t = r.t;
      y = w.array;
      m = r.t.capacity;
      z = c.in_ok-block.ensures.text;
      ready = w.ready;
      inside = r.inside;
      at = c.in_ok-block.ensures.at;
    }

pub returns-in_err-block : goal.returns-in_err-block
returns-in_err-block c ps t s inside space =
    let p = err_from_is_err_and c.from_residual.result c.from_residual.ensures.1 in
    rw (p.1, p.2) (within-err s space c.in_err-block.ensures)

pub returns : goal.returns
returns c ps t s inside space =
    let pl = c.in_ok-block.ensures in let w = within s space pl in
    within-ok ps c.args.index t.extent space pl w.extent
    (c.insert_element.ensures c.args.heap.now ps t w.array t.capacity
    pl.text w.ready inside pl.at (ap length (sym pl.same)))
