use Rattle.image_check.proofs.Common.{AreBelow, Block, BlockMap, [], ap, nat_eq, subst, sym, ◌++◌, ◌<◌, ◌∙◌, ◌∷◌, ◌≡◌}
use Rattle.indexmap.specs.IndexMap.{spare}
use Rattle.indexmap.proofs.CallerLemmas.{insert_entry-new}
use Rattle.image_check.specs.Rows.{AreSortedBlocks}
use Rattle.image_check.proofs.block_collection.ByNumber.{below-new, ok-then, order-push}
use Rattle.image_check.proofs.image_window.blocks.BlockTable.add.Goals as goal

-- the entries with the new block at the end
added : (c : goal.After-insert)
    → c.insert.new.self.entries ≡ c.self.inside.map.entries ++ (c.args.target, c.args.block) ∷ []
added c =
    let map = c.self.inside.map in
    let room : 0 < spare map = subst (λ (v : BlockMap). 0 < v.room) (sym c.self.view_is) c.requires.room in
    let below = subst (λ (v : BlockMap). AreBelow v.entries c.args.target) (sym c.self.view_is) c.requires.order in
    ok-then c.insert.result _ (c.insert.ensures.succeeds room) c.insert.ensures.entries
    ∙ insert_entry-new nat_eq map c.args.target c.new.result (below-new map.entries c.args.target below)
    ∙ ap (λ (b : Block). map.entries ++ (c.args.target, b) ∷ []) c.new.ensures

pub invariant_of-self : goal.invariant_of-self
invariant_of-self c =
    let below = subst (λ (v : BlockMap). AreBelow v.entries c.args.target) (sym c.self.view_is) c.requires.order in
    subst AreSortedBlocks (sym (added c))
    (order-push c.self.inside.map.entries c.args.target c.args.block c.requires.max_size c.self.invariant below)

pub returns-clause-entries : goal.returns-clause-entries
returns-clause-entries c = added c
    ∙ ap (λ (v : BlockMap). v.entries ++ (c.args.target, c.args.block) ∷ []) c.self.view_is
