use Rattle.image_check.proofs.Common.{AreTextsNoted, IsValueGrown, refl}
use Rattle.seg_types.specs.declared.kinds.Kind.TheVariants.{Strings}
use Rattle.image_check.specs.Sharing.{state_of}
use Rattle.image_check.proofs.shared_blocks.Worklist.{map-marked}
use Rattle.image_check.proofs.shared_blocks.Values.{array-value, storage-may}
use Rattle.image_check.proofs.shared_blocks.mark_array.Goals as goal

pub mark_storage-requires : goal.mark_storage-requires
mark_storage-requires g c =
    let ready = c.requires.1.1 in
    let start = storage-may g.format c.args.window.now.bytes Strings c.args.value.at c.args.owners.now.blocks.entries
    ready refl refl in
    (c.requires.0, (c.requires.1.0, (ready.inside refl, (ready.aligned, start))))

pub mark_texts-requires : goal.mark_texts-requires
mark_texts-requires g c =
    let ready = c.requires.1.1 in
    (c.requires.0, (c.in-Ok.ensures.mark.grown.marking, (ready.inside refl, (ready.aligned, ready.elements refl))))

pub returns-in-Ok-clause-mark : goal.returns-in-Ok-clause-mark
returns-in-Ok-clause-mark g c =
    let b = c.args.window.now.bytes in
    let at = c.args.value.at in
    let o = state_of c.args.owners.now in
    let m = state_of c.mark_storage.new.owners in
    let n = state_of c.mark_texts.new.owners in
    map-marked (AreTextsNoted g.format b at m n) (IsValueGrown g.format b Strings at o n) g.format b
    c.mark_texts.result (array-value g.format b at o m c.in-Ok.ensures.mark n) c.mark_texts.ensures.mark
