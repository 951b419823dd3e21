-- The eight bytes lie in the heap, whose last 16 bytes belong to no block.
use Rattle.seg_index.proofs.{◌+◌, ◌-◌, ◌*◌, ◌/◌, ◌^◌, ◌∙◌, ap, subst, arith, bit_and, ℕ, List, slice_range}
use Rattle.seg_index.proofs.{big_number, bytes_of, AreBytes, name_len_at, long_prefix, short_prefix}
use Rattle.seg_index.proofs.comparing.prefix_at.Goals as goal

pub returns-then-len : goal.returns-then-len
returns-then-len c =
    let b = c.args.heap.now.bytes in let h = c.args.handle in let len = name_len_at (bytes_of b) h in
    let word = c.read_u64-word.ensures
    ∙ ap (λ (l : List ℕ). big_number 8 (slice_range l (h + 16) (h + 16 + 8))) c.as_bytes-bytes.ensures in
    long_prefix b (subst AreBytes c.as_bytes-bytes.ensures c.bytes_are_octets.ensures.each_element) h len
    c.read_u64-word.result word (omega arith)

pub returns : goal.returns
returns c =
    let b = c.args.heap.now.bytes in let h = c.args.handle in let len = name_len_at (bytes_of b) h in
    let word = c.read_u64-word.ensures
    ∙ ap (λ (l : List ℕ). big_number 8 (slice_range l (h + 16) (h + 16 + 8))) c.as_bytes-bytes.ensures in
    ap (λ (k : ℕ). c.read_u64-word.result - bit_and c.read_u64-word.result ((2 ^ 64 - 1) / 2 ^ (8 * k)))
    c.requires.len ∙ short_prefix b (subst AreBytes c.as_bytes-bytes.ensures c.bytes_are_octets.ensures.each_element)
    h len
    c.read_u64-word.result word (omega arith)
