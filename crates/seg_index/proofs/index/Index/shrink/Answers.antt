-- The block is freed, or cut.
use Rattle.seg_index.proofs.index.Index.shrink.Goals as goal
use Rattle.seg_index.proofs.{ap, sym, ◌∙◌, WindowState, live_of, same_live, in_header, leads_from, placed, emptied}
use Rattle.seg_index.proofs.{shrunk_bare, shrunk_empty, shrunk_short}

pub returns-in_default-clause-shrinking : goal.returns-in_default-clause-shrinking
returns-in_default-clause-shrinking c = λ t hs i. shrunk_bare i
    (leads_from c.args.heap.now c.header_offset-place.ensures c.header_link.ensures c.in_default.is)
    (in_header c.args.self)

pub returns-then-count-eq0-clause-shrinking : goal.returns-then-count-eq0-clause-shrinking
returns-then-count-eq0-clause-shrinking c = λ t hs i.
    let w = emptied c.header_offset-place.ensures c.set_header_word.ensures.changes c.set_header_word.ensures.word
    c.set_header_link.ensures.changes c.set_header_link.ensures.link_target c.len-count.ensures.word
    c.if-count-eq0.true in
    let leads = leads_from c.args.heap.now c.header_offset-place.ensures c.header_link.ensures c.in-Some.is in
    shrunk_empty (placed c.in-Some.block i leads) (sym (c.len-count.ensures.len t hs i) ∙ c.if-count-eq0.true) w
    c.deallocate.ensures.released (in_header c.args.self)

pub returns-else-count-eq0-clause-shrinking : goal.returns-else-count-eq0-clause-shrinking
returns-else-count-eq0-clause-shrinking c = λ t hs i.
    let leads = leads_from c.args.heap.now c.header_offset-place.ensures c.header_link.ensures c.in-Some.is in
    shrunk_short (placed c.in-Some.block i leads) c.if-count-eq0.false (c.len-count.ensures.len t hs i)
    c.header_offset-place.ensures c.set_header_word.ensures.changes c.set_header_word.ensures.word
    c.shrink_in_place.ensures.changes (in_header c.args.self)

pub returns-else-count-eq0-clause-progress : goal.returns-else-count-eq0-clause-progress
returns-else-count-eq0-clause-progress c = λ differ. c.shrink_in_place.ensures.progress (λ same.
    differ (ap (λ (w : WindowState). live_of w.bytes) same ∙ same_live c.set_header_word.ensures.changes))
