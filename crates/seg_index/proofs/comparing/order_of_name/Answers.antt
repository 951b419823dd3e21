-- If the fronts differ, the names have the order of the fronts.
use Rattle.seg_index.proofs.{◌≡◌, ◌≢◌, ◌≤◌, ◌∙◌, sym, ap, ap₂, subst, arith, ℕ, List, length, Equal, slice_cmp, nat_cmp}
use Rattle.raw_region.specs.Memory.{read}
use Rattle.seg_index.proofs.{◌+◌, ◌%◌, Ordering, bytes_of, AreBytes, prefix, name_at, prefix_equal, prefix_order}
use Rattle.seg_index.proofs.comparing.order_of_name.Goals as goal

apart : (xs ys : List ℕ) (f g : ℕ) (r : Ordering) → AreBytes xs → AreBytes ys → f ≡ prefix xs → g ≡ prefix ys → f ≢ g
    → r ≡ nat_cmp f g → r ≡ slice_cmp nat_cmp xs ys
apart xs ys f g r bx by e e' differ is =
    is ∙ ap₂ (λ (x y : ℕ). nat_cmp x y) e e' ∙ prefix_order xs ys bx by (λ same. differ (e ∙ same ∙ sym e'))

pub returns-then-begun-prefix : goal.returns-then-begun-prefix
returns-then-begun-prefix c =
    let m = bytes_of c.args.heap.now.bytes in let there = name_at m c.args.handle in
    let is = c.bytes-found.ensures ∙ ap (λ k. read m (c.args.handle + 16) (k % 4294967296)) c.word-len.ensures in
    apart there c.args.name.now c.prefix_at-begun.result c.args.prefix c.cmp.result
    (subst AreBytes is c.bytes_are_octets.ensures.each_element) c.bytes_are_octets-2.ensures.each_element
    c.prefix_at-begun.ensures
    c.requires.prefix c.if-begun-prefix.true c.cmp.ensures

alike : (xs ys : List ℕ) (f g : ℕ) → AreBytes xs → AreBytes ys → f ≡ prefix xs → g ≡ prefix ys → f ≡ g
    → length xs ≡ length ys → length ys ≤ 8 → Equal ≡ slice_cmp nat_cmp xs ys
alike xs ys f g bx by e e' same long few =
    sym (prefix_equal 8 xs ys bx by long (omega (arith, long, few)) (sym e ∙ same ∙ e'))

pub returns-then-name-le8 : goal.returns-then-name-le8
returns-then-name-le8 c =
    let m = bytes_of c.args.heap.now.bytes in let there = name_at m c.args.handle in
    let is = c.bytes-found.ensures ∙ ap (λ k. read m (c.args.handle + 16) (k % 4294967296)) c.word-len.ensures in
    let long = ap (λ (l : List ℕ). length l) is in
    alike there c.args.name.now c.prefix_at-begun.result c.args.prefix
    (subst AreBytes is c.bytes_are_octets.ensures.each_element) c.bytes_are_octets-2.ensures.each_element
    c.prefix_at-begun.ensures
    c.requires.prefix c.if-begun-prefix.false (omega arith) (omega arith)
