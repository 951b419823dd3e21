-- Each pair is that of the place at which the walk has come.
use Rattle.std.proofs.Common.{◌≡◌, ◌∙◌, None, Some, arith}
use Rattle.std.specs.Prelude.{Option}
use Rattle.seg_types.specs.{Names.ByHandle, declared.values.ScalarValue.ScalarValue}
use Rattle.segment_manager.proofs.{NextPairs.IsNext, NextPairs.no-pair}
use Rattle.segment_values.specs.{Asked.pair_part}
use Rattle.segment_values.proofs.pairs.Walk.{leads-first, leads-next, leads-none, led, none-owed, pair-owed}
use Rattle.segment_values.proofs.Owed.{of-all, of-cut_in, of-more, of-start}
use Rattle.segment_values.proofs.contents.put_pairs.Goals.{in-Some+in_ok-put_pair, in_default}
use Rattle.segment_values.proofs.contents.put_pairs.Goals as goal

pub returns-in_err-put_pair : goal.returns-in_err-put_pair
returns-in_err-put_pair g c =
    let s = c.args.segment.now in let h = c.args.object.handle in let k = c.args.keys in let v = c.args.values in
    let i = c.pairs.index in let sp = g.L.Layout.spelling c.args.layout.now in
    of-cut_in (λ d. pair_part sp k v d (ByHandle h)) (λ d. c.args.count)
    c.pairs.invariant.told (λ d l. omega (arith, c.pairs-test.true))
    (pair-owed s h k v i sp c.in-Some.key c.in-Some.value
    (led s h k v i c.pairs.above c.pairs.bound c.pair_past.result _ c.pairs.invariant.next c.pair_past.ensures.pair
    c.in-Some.is) c.in_err-put_pair.ensures) c.from_residual.ensures.0

pub pairs-init : goal.pairs-init
pairs-init g c = record {
  told = of-start (λ d. pair_part (g.L.Layout.spelling c.args.layout.now) c.args.keys c.args.values d
      (ByHandle c.args.object.handle));
  kind = c.least-bound.ensures.kind;
  next = leads-first c.requires.object c.least-bound.result c.least-bound.ensures.kind c.least-bound.ensures.value;
}

pub pairs-preserved : goal.pairs-preserved
pairs-preserved g c =
    let s = c.args.segment.now in let h = c.args.object.handle in let k = c.args.keys in let v = c.args.values in
    let i = c.pairs.index in let sp = g.L.Layout.spelling c.args.layout.now in
    let read : (p : Option (ScalarValue × ScalarValue)) → c.pair_past.result ≡ p → IsNext s h k v p i = λ p is.
    led s h k v i c.pairs.above c.pairs.bound c.pair_past.result p c.pairs.invariant.next c.pair_past.ensures.pair is in
    elim c.match-pair_past.branch [
      | in-Some+in_ok-put_pair w ↦
          let n = read (Some (w.in-Some.key, w.in-Some.value)) w.in-Some.is in
          record {
            told = rw w.out-is (of-more (λ d. pair_part sp k v d (ByHandle h)) c.pairs.invariant.told
                (pair-owed s h k v i sp w.in-Some.key w.in-Some.value n w.in_ok-put_pair.ensures));
            kind = rw w.bound-is (rw w.in-Some.is at c.pair_past.ensures.kind ∙ c.pairs.invariant.kind);
            next = rw (w.above-is, w.bound-is) (leads-next s h k v i w.in-Some.key w.in-Some.value n);
          }
      | in_default w ↦
          let n = read None (no-pair _ w.in_default.not-Some) in
          record {
            told = rw w.out-is (of-more (λ d. pair_part sp k v d (ByHandle h)) c.pairs.invariant.told
                (none-owed s h k v i sp n));
            kind = rw w.bound-is c.pairs.invariant.kind;
            next = rw (w.above-is, w.bound-is)
                (leads-none s h k v i c.pairs.above c.pairs.bound c.pairs.invariant.next n);
          }
    ]

pub returns : goal.returns
returns g c = of-all (λ d. pair_part (g.L.Layout.spelling c.args.layout.now) c.args.keys c.args.values d
    (ByHandle c.args.object.handle)) c.pairs.index
    c.args.count c.pairs.invariant.told (omega (arith, c.pairs-test.false, c.pairs.auto.index-end))
