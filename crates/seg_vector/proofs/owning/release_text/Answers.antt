-- The block is in use.
use Rattle.seg_vector.proofs.{◌∙◌, sym, none-left, element-live, released-none, released-some}
use Rattle.seg_vector.proofs.owning.release_text.Goals as goal

pub deallocate-requires : goal.deallocate-requires
deallocate-requires c = element-live c.requires.1 (sym c.link.ensures ∙ c.in-Some.is)

pub returns-in-Some : goal.returns-in-Some
returns-in-Some c q s = released-some s (sym c.link.ensures ∙ c.in-Some.is) c.deallocate.ensures.released

pub returns-in_default : goal.returns-in_default
returns-in_default c q s = released-none c.args.heap.now s
    (sym c.link.ensures ∙ none-left c.link.result c.in_default.not-Some)
