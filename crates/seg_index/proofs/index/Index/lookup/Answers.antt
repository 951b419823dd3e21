-- The search goes over the links of the block.
use Rattle.seg_index.proofs.{◌≡◌, ◌+◌, sym, ap, ◌∙◌, arith, bytes_of, comparisons_in, AreKeys, FindsPositionIn}
use Rattle.seg_index.proofs.{comparisons_found, comparisons_none, keys_given, leads_from, no_entries, place_found}
use Rattle.seg_index.proofs.{placed, same_search}
use Rattle.seg_index.proofs.index.Index.lookup.Goals as goal

pub search-result-requires-clause-keys : goal.search-result-requires-clause-keys
search-result-requires-clause-keys c =
    let e = c.new-comparisons.ensures in let n = c.len.result in let block = c.in-Some.block in
    let q = c.requires.index in
    let p = placed block q.index.index
    (leads_from c.args.heap.now c.header_offset.ensures c.header_link.ensures c.in-Some.is) in
    same_search (λ v k b. AreKeys v b n k) (sym e.heap) (sym e.key) (sym e.block)
    (keys_given c.args.heap.now c.args.self c.args.key block n q c.requires.key p c.len.ensures.word)

pub returns-clause-place : goal.returns-clause-place
returns-clause-place c = λ t hs i.
    let e = c.new-comparisons.ensures in let n = c.len.result in let block = c.in-Some.block in
    let p = placed block i (leads_from c.args.heap.now c.header_offset.ensures c.header_link.ensures c.in-Some.is) in
    place_found (bytes_of c.args.heap.now.bytes) c.args.key hs block n c.search-result.result p.links
    (c.len.ensures.len t hs i) (same_search (λ v k b. FindsPositionIn (bytes_of v.bytes) k b n c.search-result.result)
    e.heap e.key e.block c.search-result.ensures.place)

pub returns-clause-steps_exact : goal.returns-clause-steps_exact
returns-clause-steps_exact c = λ t hs i.
    let e = c.new-comparisons.ensures in let n = c.len.result in let block = c.in-Some.block in
    let p = placed block i (leads_from c.args.heap.now c.header_offset.ensures c.header_link.ensures c.in-Some.is) in
    let found = comparisons_found (bytes_of c.args.heap.now.bytes) c.args.key hs block n p.links
    (c.len.ensures.len t hs i) in
    let exact = same_search (λ v k b. c.search-result.new.comparisons.count ≡ comparisons_in (bytes_of v.bytes) k b n)
    e.heap e.key e.block c.search-result.ensures.steps_exact in
    c.add.ensures ∙ ap (λ k. c.args.steps.now + k) (c.count.ensures ∙ exact ∙ found)

pub returns-in_default-clause-steps_exact : goal.returns-in_default-clause-steps_exact
returns-in_default-clause-steps_exact c = λ t hs i.
    let none = leads_from c.args.heap.now c.header_offset.ensures c.header_link.ensures c.in_default.is in
    let zero = comparisons_none (bytes_of c.args.heap.now.bytes) c.args.key hs (no_entries i none) in
    omega (arith, zero)
