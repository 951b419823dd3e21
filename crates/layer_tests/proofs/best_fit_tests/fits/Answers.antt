-- The block is there, and its room is not less.
use Rattle.std.proofs.lemmas.Bool.{leb-true}
use Rattle.best_fit.specs.Heap.{live_of}
use Rattle.layer_tests.proofs.calls.HeapCalls.{room_found}
use Rattle.layer_tests.proofs.best_fit_tests.fits.Goals as goal

pub returns : goal.returns
returns g c =
    room_found c.args.handle c.args.n c.room.result (live_of c.args.heap.now.bytes).extents c.room.ensures
    (leb-true c.args.n c.room.result c.holds-2.ensures) c.requires
