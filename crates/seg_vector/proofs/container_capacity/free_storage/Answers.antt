-- The words are written, and then the block is freed.
use Rattle.seg_vector.proofs.{sym, subst, ◌∙◌, IsTrue, is_live_in, changed-live, given-back, given-nothing, none-left}
use Rattle.seg_vector.proofs.{storage-live}
use Rattle.seg_vector.proofs.container_capacity.free_storage.Goals as goal

pub deallocate-requires : goal.deallocate-requires
deallocate-requires c = subst (λ l. IsTrue (is_live_in l c.in-Some.storage)) (sym (changed-live _ _ _ _ 24
    c.init_container.ensures.changes)) (storage-live c.requires.1.1.1 (sym c.link_of-storage.ensures ∙ c.in-Some.is))

pub returns-in-Some : goal.returns-in-Some
returns-in-Some c len t bytes s =
    given-back s (sym c.link_of-storage.ensures ∙ c.in-Some.is) c.init_container.ensures.changes
    (c.init_container.ensures.container c.args.each) c.deallocate.ensures.released

pub returns-in_default : goal.returns-in_default
returns-in_default c len t bytes s = given-nothing s (sym c.link_of-storage.ensures ∙ none-left c.link_of-storage.result
    c.in_default.not-Some) c.init_container.ensures.changes (c.init_container.ensures.container c.args.each)
