use Rattle.image_check.proofs.Common.{arith}
use Rattle.image_check.specs.Passes.{tiles_in}
use Rattle.image_check.proofs.containers.StorageBlocks.{storage-read}
use Rattle.image_check.proofs.arrays.is_array.Goals as goal

pub are_elements-requires-clause-aligned : goal.are_elements-requires-clause-aligned
are_elements-requires-clause-aligned c =
    let b = c.args.window.now.bytes in
    let there = storage-read b c.args.blocks.now.entries c.args.value.at 16 c.capacity-capacity.result
    c.in-Some.block c.link-link.result c.is_table.result c.requires.tiles c.requires.blocks c.requires.mark
    c.capacity-capacity.ensures c.link-link.ensures c.in-Some.is
    (c.is_table.ensures.value (tiles_in b) c.requires.blocks) c.if-not-is_table.false in
    let whole = there.whole in
    omega arith

pub are_elements-requires-clause-in_bounds : goal.are_elements-requires-clause-in_bounds
are_elements-requires-clause-in_bounds c =
    let b = c.args.window.now.bytes in
    let there = storage-read b c.args.blocks.now.entries c.args.value.at 16 c.capacity-capacity.result
    c.in-Some.block c.link-link.result c.is_table.result c.requires.tiles c.requires.blocks c.requires.mark
    c.capacity-capacity.ensures c.link-link.ensures c.in-Some.is
    (c.is_table.ensures.value (tiles_in b) c.requires.blocks) c.if-not-is_table.false in
    let inside = there.inside in
    let low = c.if-len-capacity.false in
    omega arith

pub returns-in-Some-clause-visits : goal.returns-in-Some-clause-visits
returns-in-Some-clause-visits c =
    let b = c.args.window.now.bytes in
    let there = storage-read b c.args.blocks.now.entries c.args.value.at 16 c.capacity-capacity.result
    c.in-Some.block c.link-link.result c.is_table.result c.requires.tiles c.requires.blocks c.requires.mark
    c.capacity-capacity.ensures c.link-link.ensures c.in-Some.is
    (c.is_table.ensures.value (tiles_in b) c.requires.blocks) c.if-not-is_table.false in
    let paid = there.paid in
    let low = c.if-len-capacity.false in
    let first = c.is_table.ensures.visits in
    let second = c.are_elements.ensures.visits in
    (omega arith, omega arith)
