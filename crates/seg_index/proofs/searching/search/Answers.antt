-- Each turn halves the number of remaining keys, and compares one key.
use Rattle.seg_index.proofs.{◌≡◌, ◌+◌, ap, sym, subst, ◌∙◌, ◌≤◌, arith, bytes_of, bits, IsKeyedEntry, middle, order_at}
use Rattle.seg_index.proofs.{IsLeft, entry_of, left_down, left_found, left_none, left_up}
use Rattle.seg_index.proofs.{searching.search.Goals.After-compare, bits_few}
use Rattle.seg_index.specs.{declared.comparing.ComparisonCounter.ComparisonCounter, Beginnings.key_prefix}
use Rattle.seg_index.proofs.searching.search.Goals as goal

pub compare-requires : goal.compare-requires
compare-requires c =
    let i = c.halves.invariant in let most = bits_few c.args.count c.requires.max_count in
    let entry = entry_of (middle c.halves.low c.halves.high) c.requires.keys (omega arith) in
    record {
      entry = subst (λ (s : ComparisonCounter).
          IsKeyedEntry s.heap.now s.key s.block (middle c.halves.low c.halves.high))
          (sym i.same) entry;
      prefix = subst (λ (s : ComparisonCounter). s.prefix ≡ key_prefix s.key) (sym i.same) c.requires.prefix;
      room = omega arith;
    }

-- the order of the compared key, and the facts about the comparisons after it
stands : (c : After-compare) → order_at (bytes_of c.args.comparisons.now.heap.now.bytes) c.args.comparisons.now.key
    c.args.comparisons.now.block (middle c.halves.low c.halves.high) ≡ c.compare.result
stands c = subst (λ (s : ComparisonCounter). order_at (bytes_of s.heap.now.bytes) s.key s.block
    (middle c.halves.low c.halves.high) ≡ c.compare.result) c.halves.invariant.same (sym c.compare.ensures.order)

still : (c : After-compare) → c.compare.new.self ≡ record c.args.comparisons.now { count = c.compare.new.self.count }
still c =
    let counting = λ (s : ComparisonCounter). record s { count = c.compare.new.self.count } in
    ap counting c.compare.ensures.steps_lower ∙ ap counting c.halves.invariant.same

pub halves-preserved-in-Less : goal.halves-preserved-in-Less
halves-preserved-in-Less c =
    let a = c.args.comparisons.now in let after = (goal.at.halves-preserved-in-Less c).After-compare in
    record {
      same = still after;
      left = subst (λ k. IsLeft a.heap.now a.key a.block c.args.count (middle c.halves.low c.halves.high + 1)
          c.halves.high k) (sym (ap (λ (s : ComparisonCounter). s.count) c.compare.ensures.steps_lower))
          (left_up c.requires.keys c.halves.invariant.left c.halves-test.true (stands after ∙ c.in-Less.is));
    }

pub halves-preserved : goal.halves-preserved
halves-preserved c =
    let a = c.args.comparisons.now in let after = (goal.at.halves-preserved c).After-compare in
    record {
      same = still after;
      left = subst (λ k. IsLeft a.heap.now a.key a.block c.args.count c.halves.low (middle c.halves.low c.halves.high)
          k) (sym (ap (λ (s : ComparisonCounter). s.count) c.compare.ensures.steps_lower))
          (left_down c.requires.keys c.halves.invariant.left c.halves-test.true (stands after ∙ c.in-Greater.is));
    }

pub returns-in-Equal : goal.returns-in-Equal
returns-in-Equal c =
    let is = stands (goal.at.returns-in-Equal c).After-compare ∙ c.in-Equal.is in
    let r = left_found c.halves.invariant.left c.halves-test.true is in
    let e = ap (λ (s : ComparisonCounter). s.count) c.compare.ensures.steps_lower in
    record { place = r.place; count = subst (λ k. k ≤ bits c.args.count) (sym e) r.few; steps_exact = e ∙ r.exact }

pub returns-clause-steps_exact : goal.returns-clause-steps_exact
returns-clause-steps_exact c = (left_none c.halves.invariant.left c.halves-test.false).exact
