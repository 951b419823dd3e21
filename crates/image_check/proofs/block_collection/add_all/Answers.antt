use Rattle.image_check.proofs.Common.{small_size}
use Rattle.image_check.proofs.Common.{arith, length}
use Rattle.image_check.proofs.walks.OneTile.{read-at, read-met, read-nearer}
use Rattle.image_check.proofs.walks.Tiles.{at-within, tags-IsTiledWindow, walk-end, walk-on, walk-start}
use Rattle.image_check.proofs.block_collection.Lookup.{Gathering, gathering-below, gathering-more, gathering-room}
use Rattle.image_check.proofs.block_collection.add_all.Goals as goal

pub first-tile-requires : goal.first-tile-requires
first-tile-requires c = tags-IsTiledWindow c.args.window.now c.requires.tiles.size c.requires.tiles.tags

pub tiles-init : goal.tiles-init
tiles-init c =
    let w = c.args.window.now in
    walk-start w (Gathering c.args.visits.now c.args.visits.now c.args.blocks.now.room c.args.blocks.now.room
    c.args.blocks.now.entries) c.first-tile.result
    (tags-IsTiledWindow w c.requires.tiles.size c.requires.tiles.tags) c.first-tile.ensures
    (record { entries = c.requires.empty; spare = omega arith; more = omega arith; most = omega arith })

pub add-requires-clause-max_size : goal.add-requires-clause-max_size
add-requires-clause-max_size c =
    let w = c.args.window.now in
    let in_it = at-within w _ c.read-here.result (read-at w _ c.tiles.tile c.in-Some.unread c.read-here.result
    c.tiles.invariant c.in-Some.is c.read-here.ensures.tile) in
    let small = small_size (length w.bytes) c.requires.tiles.size in
    omega arith

pub add-requires-clause-max_len : goal.add-requires-clause-max_len
add-requires-clause-max_len c =
    let w = c.args.window.now in
    let in_it = at-within w _ c.read-here.result (read-at w _ c.tiles.tile c.in-Some.unread c.read-here.result
    c.tiles.invariant c.in-Some.is c.read-here.ensures.tile) in
    let small = small_size (length w.bytes) c.requires.tiles.size in
    omega arith

pub add-requires-clause-order : goal.add-requires-clause-order
add-requires-clause-order c =
    let w = c.args.window.now in
    gathering-below w c.args.visits.now c.tiles.visits c.args.blocks.now.room c.tiles.blocks.room c.tiles.blocks.entries
    c.read-here.result
    (read-at w _ c.tiles.tile c.in-Some.unread c.read-here.result c.tiles.invariant c.in-Some.is
    c.read-here.ensures.tile)

pub add-requires-clause-room : goal.add-requires-clause-room
add-requires-clause-room c =
    let w = c.args.window.now in
    gathering-room w c.args.visits.now c.tiles.visits c.args.blocks.now.room c.tiles.blocks.room c.tiles.blocks.entries
    c.read-here.result
    (read-at w _ c.tiles.tile c.in-Some.unread c.read-here.result c.tiles.invariant c.in-Some.is
    c.read-here.ensures.tile) c.requires.room

pub next-tile-requires : goal.next-tile-requires
next-tile-requires c =
    (read-met c.args.window.now _ c.tiles.tile c.in-Some.unread c.read-here.result c.tiles.invariant c.in-Some.is
    c.read-here.ensures.tile).has

pub tiles-smaller : goal.tiles-smaller
tiles-smaller c =
    read-nearer c.args.window.now _ c.tiles.tile c.in-Some.unread c.read-here.result c.tiles.invariant c.in-Some.is
    c.read-here.ensures.tile c.next-tile.result c.next-tile.ensures

pub tiles-preserved : goal.tiles-preserved
tiles-preserved c =
    let w = c.args.window.now in
    walk-on w _ (Gathering c.args.visits.now c.add.new.visits c.args.blocks.now.room c.add.new.blocks.room
    c.add.new.blocks.entries) c.read-here.result c.next-tile.result
    (read-at w _ c.tiles.tile c.in-Some.unread c.read-here.result c.tiles.invariant c.in-Some.is
    c.read-here.ensures.tile) c.next-tile.ensures
    (λ front k. gathering-more c.args.visits.now c.tiles.visits c.args.blocks.now.room c.tiles.blocks.room
    c.tiles.blocks.entries front c.read-here.result c.add.new.visits c.add.new.blocks.room c.add.new.blocks.entries k
    (omega arith) (omega arith) c.add.ensures.entries c.add.ensures.room)

pub returns-clause-entries : goal.returns-clause-entries
returns-clause-entries c =
    (walk-end c.args.window.now _ c.tiles.tile c.tiles.invariant c.in_default.not-Some).entries

pub returns-clause-visits : goal.returns-clause-visits
returns-clause-visits c =
    let all = walk-end c.args.window.now _ c.tiles.tile c.tiles.invariant c.in_default.not-Some in
    let more = all.more in
    (omega arith, all.most)

pub returns-clause-tiles : goal.returns-clause-tiles
returns-clause-tiles c =
    (walk-end c.args.window.now _ c.tiles.tile c.tiles.invariant c.in_default.not-Some).more
