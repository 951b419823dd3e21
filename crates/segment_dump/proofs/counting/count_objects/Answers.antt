use Rattle.segment_dump.proofs.Common.{◌≡◌, ◌++◌, List, ℕ, length, sym, subst, arith, ◌∙◌, false≢true, end_text}
use Rattle.segment_dump.specs.Asked.{AskTogether, AsksObject, Begins}
use Rattle.segment_dump.proofs.reading.Sizes.{more-asks, none-asks}
use Rattle.segment_dump.proofs.counting.Dumps.{objects-cut, objects-end, objects-long, objects-more, objects-start}
use Rattle.segment_dump.proofs.counting.count_objects.Goals as goal

pub objects-init : goal.objects-init
objects-init c = record {
  left = objects-start c.args.text.now c.only_room-needs.result c.only_room-needs.ensures;
  asks = none-asks AsksObject c.args.text.now c.only_room-needs.result c.only_room-needs.ensures;
}

pub returns-then-is_end-clause-count : goal.returns-then-is_end-clause-count
returns-then-is_end-clause-count c = let at = c.if-is_end.ensures.on_true
    in objects-end c.args.text.now c.objects.rest.now at.0 c.objects.needs c.objects.counter at.1
    c.objects.invariant.left

pub returns-in_default-clause-count : goal.returns-in_default-clause-count
returns-in_default-clause-count c =
    let never : (x : List ℕ) → c.objects.rest.now ≡ end_text ++ x → ⊥ =
    λ x e. false≢true (sym c.if-is_end.false ∙ c.is_end.ensures.totality x e) in
    objects-cut c.args.text.now c.objects.rest.now c.objects.needs c.objects.counter (length c.objects.rest.now)
    never c.objects.invariant.left c.in_default.ensures.value

pub objects-preserved : goal.objects-preserved
objects-preserved c =
    let never : (x : List ℕ) → c.objects.rest.now ≡ end_text ++ x → ⊥ =
    λ x e. false≢true (sym c.if-is_end.false ∙ c.is_end.ensures.totality x e) in
    record {
      left = objects-more c.args.text.now c.objects.rest.now c.objects.needs c.in-Some.more c.and-needs.result
          c.objects.counter c.in-Some.behind.now never c.objects.invariant.left c.in-Some.ensures.value
          c.and-needs.ensures.sum;
      asks = more-asks AsksObject c.args.text.now c.objects.rest.now c.in-Some.behind.now c.objects.counter
          c.objects.needs c.in-Some.more c.and-needs.result c.objects.invariant.asks c.in-Some.ensures.questions
          c.and-needs.ensures.most;
    }

pub returns-clause-count : goal.returns-clause-count
returns-clause-count c = objects-long c.args.text.now c.objects.rest.now c.objects.needs c.objects.counter
    (length c.objects.rest.now) (omega (arith, c.objects-test.false)) c.objects.invariant.left

pub returns-then-is_end-clause-questions : goal.returns-then-is_end-clause-questions
returns-then-is_end-clause-questions c =
    let at = c.if-is_end.ensures.on_true in
    record {
      count = c.objects.counter;
      behind = at.0;
      begins = subst (λ (rest : List ℕ).
          Begins (AskTogether AsksObject c.objects.counter) c.args.text.now c.objects.needs rest) at.1
          c.objects.invariant.asks;
    }
