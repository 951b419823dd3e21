-- The second index is entered after the first.
use Rattle.image_check.proofs.Common.{AreBlocks, Blocks, bytes_of, inl, inr, subst, sym}
use Rattle.image_check.specs.Passes.{tiles_in}
use Rattle.image_check.proofs.indexes.BothIndexes.{both-entered, both-right, entries-unmarked}
use Rattle.image_check.proofs.indexes.BothIndexes.{first-entered, first-wrong, none-entered, second-wrong}
use Rattle.image_check.proofs.indexes.EntryPlaces.{entered-right}
use Rattle.image_check.proofs.block_collection.Lookup.{tags-blocks}
use Rattle.image_check.proofs.indexes.check_indexes.Goals as goal
use Rattle.image_check.proofs.block_collection.Lookup.{unmarked-marking}

pub enter_index-requires-clause-blocks : goal.enter_index-requires-clause-blocks
enter_index-requires-clause-blocks c =
    subst (λ (es : Blocks). AreBlocks (tiles_in c.args.window.now.bytes) es) (sym c.requires.collection)
    (tags-blocks c.args.window.now.bytes c.requires.tiles)

pub enter_index-requires-clause-previous : goal.enter_index-requires-clause-previous
enter_index-requires-clause-previous c =
    none-entered (tiles_in c.args.window.now.bytes) c.args.owners.now.blocks.entries c.requires.collection

pub enter_index-requires-2-clause-previous : goal.enter_index-requires-2-clause-previous
enter_index-requires-2-clause-previous c =
    let w = c.args.window.now in
    first-entered (bytes_of w.bytes) (tiles_in w.bytes) c.args.owners.now.blocks.entries
    c.enter_index.new.owners.blocks.entries c.requires.collection c.in_default.ensures.entry.1

pub returns-in-Err-clause-verdict : goal.returns-in-Err-clause-verdict
returns-in-Err-clause-verdict c =
    let w = c.args.window.now in
    let e = c.in-Err.ensures.entry in (
      first-wrong (bytes_of w.bytes) (tiles_in w.bytes) c.args.owners.now.blocks.entries c.requires.collection e.0,
      inl e.1,
    )

pub returns-in-Err-enter_index-clause-verdict : goal.returns-in-Err-enter_index-clause-verdict
returns-in-Err-enter_index-clause-verdict c =
    let w = c.args.window.now in
    let a = c.in_default.ensures.entry in
    let e = c.in-Err-enter_index.ensures.entry in (
      second-wrong (bytes_of w.bytes) (tiles_in w.bytes) c.args.owners.now.blocks.entries
          c.enter_index.new.owners.blocks.entries c.requires.collection a.1 e.0,
      inr (entered-right (bytes_of w.bytes) (tiles_in w.bytes) c.args.owners.now.blocks.entries 32 a.0, e.1),
    )

pub returns-clause-verdict : goal.returns-clause-verdict
returns-clause-verdict c =
    let w = c.args.window.now in
    let a = c.in_default.ensures.entry in
    let b = c.in_default-enter_index.ensures.entry in
    both-right (bytes_of w.bytes) (tiles_in w.bytes) c.args.owners.now.blocks.entries
    c.enter_index.new.owners.blocks.entries c.requires.collection a.1 a.0 b.0

pub returns-clause-entry : goal.returns-clause-entry
returns-clause-entry c =
    let w = c.args.window.now in
    let a = c.in_default.ensures.entry in
    let b = c.in_default-enter_index.ensures.entry in
    both-entered (bytes_of w.bytes) (tiles_in w.bytes) c.args.owners.now.blocks.entries
    c.enter_index.new.owners.blocks.entries c.requires.collection a.1 a.0 b.0
    c.enter_index-2.new.owners.blocks.entries b.1

pub returns-clause-unmarked : goal.returns-clause-unmarked
returns-clause-unmarked c =
    let w = c.args.window.now in
    let a = c.in_default.ensures.entry in
    let b = c.in_default-enter_index.ensures.entry in
    entries-unmarked (tiles_in w.bytes) c.args.owners.now.blocks.entries c.enter_index.new.owners.blocks.entries
    c.enter_index-2.new.owners.blocks.entries _ _ c.requires.collection a.1 b.1

pub returns-clause-marking : goal.returns-clause-marking
returns-clause-marking c format =
    let w = c.args.window.now in
    let a = c.in_default.ensures.entry in
    let b = c.in_default-enter_index.ensures.entry in
    unmarked-marking format w.bytes _ c.requires.tiles
    (entries-unmarked (tiles_in w.bytes) c.args.owners.now.blocks.entries c.enter_index.new.owners.blocks.entries
    c.enter_index-2.new.owners.blocks.entries _ _ c.requires.collection a.1 b.1) (cc) (cc)
