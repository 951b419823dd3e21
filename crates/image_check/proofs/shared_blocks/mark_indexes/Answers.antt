use Rattle.image_check.proofs.Common.{AreIndexesNoted, IsIndexNoted, refl}
use Rattle.image_check.specs.Sharing.{state_of}
use Rattle.image_check.proofs.block_collection.Lookup.{unmarked-marking}
use Rattle.image_check.proofs.shared_blocks.Worklist.{map-marked}
use Rattle.image_check.proofs.shared_blocks.AllNoted.{indexes-noted}
use mathlib.Core.Logic.{inl}
use Rattle.image_check.proofs.shared_blocks.mark_indexes.Goals as goal

pub mark_index-requires : goal.mark_index-requires
mark_index-requires g c =
    let r = c.requires in (
      r.0,
      (
        inl refl,
        unmarked-marking g.said c.args.window.now.bytes (state_of c.args.owners.now) r.0 r.1.0 r.1.1.0 r.1.1.1,
      ),
    )

pub returns-in-Ok-clause-mark : goal.returns-in-Ok-clause-mark
returns-in-Ok-clause-mark g c =
    let b = c.args.window.now.bytes in
    let m = state_of c.mark_index.new.owners in
    let n = state_of c.mark_index-in-Ok.new.owners in
    map-marked (IsIndexNoted g.said b 56 m n) (AreIndexesNoted g.said b n) g.said b c.mark_index-in-Ok.result
    (indexes-noted g.said b (state_of c.args.owners.now) m n c.requires.1.0 c.in-Ok.ensures.mark)
    c.mark_index-in-Ok.ensures.mark
