use Rattle.image_check.proofs.Common.{IsStorageNoted, IsValueGrown, IsValueReady, MarksLink, Node, None, ap}
use Rattle.image_check.proofs.Common.{arith, bytes_of, has_link, has_storage, owner, refl, subst, sym}
use Rattle.image_check.specs.Owners.{MarksUnlessShared}
use Rattle.image_check.specs.Passes.{tiles_in}
use Rattle.image_check.specs.Sharing.{state_of}
use Rattle.image_check.proofs.shared_blocks.Worklist.{map-marked}
use Rattle.image_check.proofs.shared_blocks.Links.{Marks, few-wait}
use Rattle.image_check.proofs.shared_blocks.Values.{map-value, pays-from, root-may, storage-may, text-value}
use Rattle.image_check.proofs.shared_blocks.Values.{vector-value}
use mathlib.Core.Logic.{inl}
use Rattle.image_check.proofs.shared_blocks.mark_value.Given.{Over}
use Rattle.image_check.proofs.shared_blocks.mark_value.Goals.{After-mark}
use Rattle.image_check.proofs.shared_blocks.mark_value.Goals as goal

pub mark-requires-clause-no_overflow : goal.mark-requires-clause-no_overflow
mark-requires-clause-no_overflow g c =
    few-wait g.format c.args.window.now.bytes (state_of c.args.owners.now) c.requires.0 c.requires.1.0

pub mark_storage-requires : goal.mark_storage-requires
mark_storage-requires g c =
    let ready = c.requires.1.1 in
    let is = c.in-String.is in
    let start = storage-may g.format c.args.window.now.bytes c.args.kind c.args.value.at
    c.args.owners.now.blocks.entries ready (ap has_storage is) (ap has_link is) in
    (c.requires.0, (c.requires.1.0, (ready.inside (ap has_link is), (ready.aligned, start))))

pub mark_storage-requires-in-Vector : goal.mark_storage-requires-in-Vector
mark_storage-requires-in-Vector g c =
    let ready = c.requires.1.1 in
    let is = c.in-Vector.is in
    let start = storage-may g.format c.args.window.now.bytes c.args.kind c.args.value.at
    c.args.owners.now.blocks.entries ready (ap has_storage is) (ap has_link is) in
    (c.requires.0, (c.requires.1.0, (ready.inside (ap has_link is), (ready.aligned, start))))

-- the root link of a map is entered, or shares its block
rooted : (g : Over) (c : After-mark g) → MarksUnlessShared g.format c.args.window.now.bytes
    (MarksLink g.format (bytes_of c.args.window.now.bytes) (tiles_in c.args.window.now.bytes) None Node
    (owner c.args.value.at c.args.value.at) (state_of c.args.owners.now) (state_of c.mark.new.owners)) c.mark.result
rooted g c =
    let b = c.args.window.now.bytes in
    let es = c.args.owners.now.blocks.entries in
    let ready = c.requires.1.1 in
    let is = c.in-Map.is in
    let marks = subst (Marks g.format b Node c.link.result (state_of c.args.owners.now) (state_of c.mark.new.owners)
    c.mark.result) c.at-at.ensures (c.mark.ensures.marks g.format (bytes_of b) (tiles_in b) None c.requires.1.0) in
    marks c.link.ensures
    (root-may g.format b c.in-Map.field-0 c.in-Map.field-1 c.args.value.at es
    (subst (λ k. IsValueReady g.format b k c.args.value.at es) is ready)) (inl (ready.start (ap has_link is), refl))

pub returns-in-Map-clause-mark : goal.returns-in-Map-clause-mark
returns-in-Map-clause-mark g c =
    let b = c.args.window.now.bytes in
    let at = c.args.value.at in
    let o = state_of c.args.owners.now in
    let m = state_of c.mark.new.owners in
    map-marked (MarksLink g.format (bytes_of b) (tiles_in b) None Node (owner at at) o m)
    (IsValueGrown g.format b c.args.kind at o m) g.format b c.mark.result
    (λ d. subst (λ k. IsValueGrown g.format b k at o m) (sym c.in-Map.is)
    (map-value g.format b at o m c.in-Map.field-0 c.in-Map.field-1 d))
    (rooted g (goal.at.returns-in-Map-clause-mark g c).After-mark)

pub returns-in-Map-clause-visits : goal.returns-in-Map-clause-visits
returns-in-Map-clause-visits g c =
    let b = c.args.window.now.bytes in
    let at = c.args.value.at in
    let o = state_of c.args.owners.now in
    let m = state_of c.mark.new.owners in
    pays-from (MarksLink g.format (bytes_of b) (tiles_in b) None Node (owner at at) o m) g.format b 3 c.mark.result
    c.args.visits.now o c.mark.new.visits m (rooted g (goal.at.returns-in-Map-clause-visits g c).After-mark)
    (omega arith) (omega arith) (λ d. d.less)

pub returns-in-String-clause-mark : goal.returns-in-String-clause-mark
returns-in-String-clause-mark g c =
    let b = c.args.window.now.bytes in
    let at = c.args.value.at in
    let o = state_of c.args.owners.now in
    let m = state_of c.mark_storage.new.owners in
    map-marked (IsStorageNoted g.format b at o m) (IsValueGrown g.format b c.args.kind at o m) g.format b
    c.mark_storage.result
    (λ d. subst (λ k. IsValueGrown g.format b k at o m) (sym c.in-String.is) (text-value g.format b at o m d))
    c.mark_storage.ensures.mark

pub returns-in-Vector-clause-mark : goal.returns-in-Vector-clause-mark
returns-in-Vector-clause-mark g c =
    let b = c.args.window.now.bytes in
    let at = c.args.value.at in
    let o = state_of c.args.owners.now in
    let m = state_of c.mark_storage-in-Vector.new.owners in
    map-marked (IsStorageNoted g.format b at o m) (IsValueGrown g.format b c.args.kind at o m) g.format b
    c.mark_storage-in-Vector.result
    (λ d. subst (λ k. IsValueGrown g.format b k at o m) (sym c.in-Vector.is)
    (vector-value g.format b at o m c.in-Vector.field-0 d)) c.mark_storage-in-Vector.ensures.mark
