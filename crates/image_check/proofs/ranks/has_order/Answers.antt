-- The entries lie in the tile of the index.
use Rattle.image_check.proofs.Common.{Index, Some, arith, bytes_of, link_at, sym, weigh, ◌*◌, ◌+◌, ◌-◌}
use Rattle.image_check.proofs.Common.{◌/◌, ◌∙◌, ◌≡◌, ◌≤◌}
use Rattle.raw_region.specs.Memory.{word_at}
use Rattle.image_check.specs.Passes.{tiles_in}
use Rattle.image_check.specs.ObjectPasses.{entry_rates}
use Rattle.image_check.proofs.indexes.EntryPlaces.{order-found}
use Rattle.image_check.proofs.indexes.LinkOrder.{entry-among, entry-some, index-room}
use Rattle.image_check.proofs.indexes.Places.{IsIndexRoom, room-inside, weigh-one}
use Rattle.image_check.proofs.ranks.has_order.Goals.{In-Some}
use Rattle.image_check.proofs.ranks.has_order.Goals as goal

leads : (c : In-Some) → link_at (bytes_of c.args.window.now.bytes) c.args.at ≡ Some c.in-Some.block
leads c = sym c.header_link.ensures ∙ c.in-Some.is

room : (c : In-Some) → IsIndexRoom (tiles_in c.args.window.now.bytes) c.in-Some.block
    (word_at (bytes_of c.args.window.now.bytes) (c.args.at + 8))
room c = let b = c.args.window.now.bytes
    in index-room (bytes_of b) (tiles_in b) c.args.at c.in-Some.block c.requires.index (leads c)

pub rise-requires-clause-aligned : goal.rise-requires-clause-aligned
rise-requires-clause-aligned c =
    (room-inside _ _ _ c.requires.tiles (room (goal.at.rise-requires-clause-aligned c).In-Some)).0

pub rise-requires-clause-in_bounds : goal.rise-requires-clause-in_bounds
rise-requires-clause-in_bounds c =
    let i = (room-inside _ _ _ c.requires.tiles (room (goal.at.rise-requires-clause-in_bounds c).In-Some)).1 in
    let count = c.header_word.ensures in
    omega arith

pub rise-requires-clause-links : goal.rise-requires-clause-links
rise-requires-clause-links c i l =
    let b = c.args.window.now.bytes in
    entry-some (bytes_of b) (tiles_in b) c.args.at c.in-Some.block c.requires.index
    (leads (goal.at.rise-requires-clause-links c).In-Some) i (omega arith)

pub rise-requires-clause-heads : goal.rise-requires-clause-heads
rise-requires-clause-heads c i n l e =
    let b = c.args.window.now.bytes in
    c.requires.heads n (entry-among (bytes_of b) (tiles_in b) c.args.at c.in-Some.block c.requires.index
    (leads (goal.at.rise-requires-clause-heads c).In-Some) i n (omega arith) e)

pub returns-in-Some-clause-verdict : goal.returns-in-Some-clause-verdict
returns-in-Some-clause-verdict c =
    order-found (bytes_of c.args.window.now.bytes) c.args.class c.args.at c.in-Some.block c.header_word.result
    c.rise.result
    (leads (goal.at.returns-in-Some-clause-verdict c).In-Some) c.header_word.ensures c.rise.ensures.verdict

pub returns-in-Some-clause-visits : goal.returns-in-Some-clause-visits
returns-in-Some-clause-visits c =
    let w = c.args.window.now in
    let r = room (goal.at.returns-in-Some-clause-visits c).In-Some in
    let weight : 12 * (r.tile.len / 16) ≤ weigh entry_rates (tiles_in w.bytes) =
    weigh-one entry_rates (tiles_in w.bytes) r.tile Index r.mem r.use_of in
    let long = r.room in
    let count = c.header_word.ensures in
    let a = c.rise.ensures.visits in
    (omega arith, omega arith)
