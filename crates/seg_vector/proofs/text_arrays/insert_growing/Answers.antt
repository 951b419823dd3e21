-- The array is reserved, then the text is placed, and then the array is installed and the text inserted; or all is
-- undone.
use Rattle.seg_vector.proofs.text_arrays.insert_growing.Goals as goal
use Rattle.seg_vector.proofs.{sym, ap, subst, ◌*◌, length, WindowState, ReservesArray, err_from_is_err_and, asked-heap}
use Rattle.seg_vector.proofs.{ready-of, no-extent, growing-err, growing-none, growing-ok, growing-ready, more-places}
use Rattle.seg_vector.proofs.{small-wanted}

pub reserve_array-requires-clause-max_size : goal.reserve_array-requires-clause-max_size
reserve_array-requires-clause-max_size c = small-wanted c.args.heap.now c.args.n c.requires.texts c.requires.full
    c.requires.wanted

pub place_text-requires : goal.place_text-requires
place_text-requires c = asked-heap (c.in_ok-array.ensures c.requires.ps c.requires.t c.requires.texts)

pub undo_reserve-requires : goal.undo_reserve-requires
undo_reserve-requires c =
    let r = c.requires in
    record {
      first = c.args.heap.now;
      ps = r.ps;
      t = r.t;
      n = c.args.n;
      texts = r.texts;
      asked = subst (λ (k : WindowState).
          ReservesArray c.args.heap.now k r.t.extent (16 * c.args.n) c.in_ok-array.array)
          (sym c.in-Err.ensures.same) (c.in_ok-array.ensures r.ps r.t r.texts);
      was = c.array_room-room.ensures r.ps r.t r.texts;
    }

pub install_array-requires : goal.install_array-requires
install_array-requires c =
    let r = c.requires in
    ready-of c.args.n r.texts (more-places c.args.heap.now c.args.n r.texts r.full r.wanted).0
    (c.in_ok-array.ensures r.ps r.t r.texts) c.in-Ok.ensures.change (λ e. c.in-Ok.ensures.nothing (no-extent e))

pub insert_element-requires : goal.insert_element-requires
insert_element-requires c =
    let r = c.requires in let pl = c.in-Ok.ensures in
    let both = more-places c.args.heap.now c.args.n r.texts r.full r.wanted in
    let ad = c.install_array.ensures
    (ready-of c.args.n r.texts both.0 (c.in_ok-array.ensures r.ps r.t r.texts) pl.change
    (λ e. pl.nothing (no-extent e))) in
    record {
      first = c.args.heap.now;
      ps = r.ps;
      t = r.t;
      y = ad.array;
      m = c.args.n;
      z = pl.text;
      ready = growing-ready r.texts both.1 pl ad;
      inside = r.inside;
      at = pl.at;
    }

pub returns-in_err-array : goal.returns-in_err-array
returns-in_err-array c ps t s inside full wanted =
    let p = err_from_is_err_and c.from_residual.result c.from_residual.ensures.1 in
    rw (p.1, p.2) (growing-none c.args.n c.args.text.now s (more-places c.args.heap.now c.args.n s full wanted).0 wanted
    (c.in_err-array.ensures ps t s))

pub returns-in-Err : goal.returns-in-Err
returns-in-Err c ps t s inside full wanted =
    let a = c.in_ok-array.ensures ps t s in
    let asked = subst (λ (k : WindowState).
    ReservesArray c.args.heap.now k t.extent (16 * c.args.n) c.in_ok-array.array) (sym c.in-Err.ensures.same) a in
    growing-err ps t c.args.n (more-places c.args.heap.now c.args.n s full wanted).0 wanted full a c.in-Err.ensures
    (c.undo_reserve.ensures c.args.heap.now ps t c.args.n s asked (c.array_room-room.ensures ps t s))

pub returns-in-Ok : goal.returns-in-Ok
returns-in-Ok c ps t s inside full wanted =
    let pl = c.in-Ok.ensures in let a = c.in_ok-array.ensures ps t s in
    let both = more-places c.args.heap.now c.args.n s full wanted in
    let ad = c.install_array.ensures (ready-of c.args.n s both.0 a pl.change
    (λ e. pl.nothing (no-extent e))) in let ready = growing-ready s both.1 pl ad in
    growing-ok c.args.index both.0 wanted a pl ad
    (c.insert_element.ensures c.args.heap.now ps t ad.array c.args.n pl.text ready inside pl.at
    (ap length (sym pl.same)))
