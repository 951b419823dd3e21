use Rattle.image_check.proofs.Common.{Storage, ap, arith, is_table_link, size_of, ◌*◌, ◌∙◌, ◌≤◌}
use Rattle.std.proofs.Math.Nat.{mul-le-mul_left}
use Rattle.image_check.specs.Passes.{tiles_in}
use Rattle.image_check.proofs.containers.MapPairs.{size-times}
use Rattle.image_check.proofs.containers.StorageBlocks.{storage-read}
use Rattle.image_check.proofs.arrays.is_storage.Goals as goal

pub are_spellings-requires-clause-in_bounds : goal.are_spellings-requires-clause-in_bounds
are_spellings-requires-clause-in_bounds c =
    let b = c.args.window.now.bytes in
    let each = size_of c.args.kind in
    let there = storage-read b c.args.blocks.now.entries c.args.value.at each c.capacity-capacity.result
    c.in-Some.block c.link-link.result c.is_table.result c.requires.tiles c.requires.blocks c.requires.mark
    c.capacity-capacity.ensures c.link-link.ensures c.in-Some.is
    (c.is_table.ensures.value (tiles_in b) c.requires.blocks
    ∙ ap (λ n. is_table_link (tiles_in b) Storage c.link-link.result n c.capacity-capacity.result) c.size-each.ensures)
    c.if-not-is_table.false in
    let inside = there.inside in
    let least = mul-le-mul_left each c.if-len-capacity.false in
    omega arith

pub returns-in-Some-clause-visits : goal.returns-in-Some-clause-visits
returns-in-Some-clause-visits c =
    let b = c.args.window.now.bytes in
    let each = size_of c.args.kind in
    let there = storage-read b c.args.blocks.now.entries c.args.value.at each c.capacity-capacity.result
    c.in-Some.block c.link-link.result c.is_table.result c.requires.tiles c.requires.blocks c.requires.mark
    c.capacity-capacity.ensures c.link-link.ensures c.in-Some.is
    (c.is_table.ensures.value (tiles_in b) c.requires.blocks
    ∙ ap (λ n. is_table_link (tiles_in b) Storage c.link-link.result n c.capacity-capacity.result) c.size-each.ensures)
    c.if-not-is_table.false in
    let paid = there.paid in
    let least = mul-le-mul_left each c.if-len-capacity.false in
    let few : c.len-len.result ≤ each * c.len-len.result = size-times c.args.kind c.len-len.result in
    let first = c.is_table.ensures.visits in
    let second = c.are_spellings.ensures.visits in
    (omega arith, omega arith)
