-- The entries lie in the tile of the index.
use Rattle.image_check.proofs.Common.{Index, arith, bytes_of, inl, sym, weigh, ◌*◌, ◌+◌, ◌-◌, ◌/◌, ◌∙◌}
use Rattle.image_check.proofs.Common.{◌≤◌}
use Rattle.raw_region.specs.Memory.{word_at}
use Rattle.image_check.specs.Passes.{tiles_in}
use Rattle.image_check.specs.Visits.{index_rates}
use Rattle.image_check.proofs.indexes.EntryPlaces.{index-entered, wrong-head}
use Rattle.image_check.proofs.indexes.Places.{IsIndexRoom, room-inside, room-of, weigh-one}
use Rattle.image_check.proofs.indexes.enter_index.Goals.{In-Some}
use Rattle.image_check.proofs.indexes.enter_index.Goals as goal

room : (c : In-Some) → IsIndexRoom (tiles_in c.args.window.now.bytes) c.in-Some.block
    (word_at (bytes_of c.args.window.now.bytes) (c.args.at + 8))
room c =
    let w = c.args.window.now in
    room-of (bytes_of w.bytes) (tiles_in w.bytes) c.args.at c.in-Some.block c.in_default.ensures.verdict
    (sym c.header_link.ensures ∙ c.in-Some.is)

pub enter_all-requires-clause-aligned : goal.enter_all-requires-clause-aligned
enter_all-requires-clause-aligned c =
    (room-inside _ _ _ c.requires.tiles (room (goal.at.enter_all-requires-clause-aligned c).In-Some)).0

pub enter_all-requires-clause-in_bounds : goal.enter_all-requires-clause-in_bounds
enter_all-requires-clause-in_bounds c =
    let i = (room-inside _ _ _ c.requires.tiles (room (goal.at.enter_all-requires-clause-in_bounds c).In-Some)).1 in
    let count = c.header_word-count.ensures in
    omega arith

pub returns-in-Err-clause-entry : goal.returns-in-Err-clause-entry
returns-in-Err-clause-entry c =
    let w = c.args.window.now in
    let e = c.in-Err.ensures.verdict in
    (wrong-head (bytes_of w.bytes) (tiles_in w.bytes) c.args.owners.now.blocks.entries c.args.at e.0, inl e.1)

pub returns-in-Some-clause-entry : goal.returns-in-Some-clause-entry
returns-in-Some-clause-entry c =
    let w = c.args.window.now in
    index-entered (bytes_of w.bytes) (tiles_in w.bytes) c.args.owners.now.blocks.entries c.args.at
    c.enter_all.new.owners.blocks.entries c.in-Some.block c.header_word-count.result c.enter_all.result
    c.in_default.ensures.verdict (sym c.header_link.ensures
    ∙ c.in-Some.is) c.header_word-count.ensures c.requires.previous
    (c.enter_all.ensures.entry (tiles_in w.bytes) c.requires.blocks)

pub returns-in-Some-clause-visits : goal.returns-in-Some-clause-visits
returns-in-Some-clause-visits c =
    let w = c.args.window.now in
    let r = room (goal.at.returns-in-Some-clause-visits c).In-Some in
    let weight : 12 * (r.tile.len / 16) ≤ weigh index_rates (tiles_in w.bytes) =
    weigh-one index_rates (tiles_in w.bytes) r.tile Index r.mem r.use_of in
    let long = r.room in
    let count = c.header_word-count.ensures in
    let a = c.check_head.ensures.visits in
    let b = c.enter_all.ensures.visits in
    (omega arith, omega arith)
