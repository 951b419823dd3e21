-- Each pair is read at the first node that is listed; nodes are listed again when none is left.
use Rattle.segment_c.proofs.pair_series.read_typed.Goals as goal
use Rattle.std.proofs.Common.{◌∙◌, arith, get_or, int_lt, map, of_z, refl, subst, take, to_z, w64, ℤ}
use Rattle.std.proofs.Common.{◌<◌, ◌≡◌, drop, sym}
use Rattle.std.proofs.{lemmas.Int.to_z-of_z, lemmas.List.length-append, lemmas.List.length-drop}
use Rattle.std.proofs.{lemmas.List.Edits.paste_none, lemmas.List.length-take}
use Rattle.std.specs.Int.Signed.{mag}
use Rattle.seg_map.specs.Listing.{pairs_past}
use Rattle.seg_types.specs.Names.{ByHandle}
use Rattle.segment_manager.proofs.Laws.{map-rises}
use Rattle.segment_manager.specs.containers.{Maps.numbers_in, Walks.ReadsPairNode, Walks.pairs_at_kinds}
use Rattle.segment_c.proofs.pair_series.Walk.{filled, goes-on, is-there, listed, node-there, none-read, pair-told, told}
use Rattle.segment_c.specs.Series.{key_bits, value_bits}

-- a number of 64 bits is read as it was written
read-back : (z : ℤ) → mag z < 9223372036854775808 → to_z w64 (of_z w64 z) ≡ z
read-back z small = to_z-of_z w64 z (record { sfits = small })

pub pairs-init : goal.pairs-init
pairs-init g c = record {
  within = omega arith;
  listed = omega arith;
  few = omega arith;
  long = refl;
  walk = λ d st.
      let its = pairs_at_kinds d (ByHandle c.args.object.handle) g.K.Scalar.kind g.V.Scalar.kind in
      let all = pairs_past int_lt c.args.past (g.K.Scalar.whole c.args.from) its in
      record {
        there = omega arith;
        rest = refl;
        ahead = refl;
        end = λ short. absurd (omega (arith, short));
        keys_are = paste_none c.args.keys.now 0 (map key_bits all);
        values_are = paste_none c.args.values.now 0 (map value_bits all);
      };
}

pub returns-then-count-room : goal.returns-then-count-room
returns-then-count-room g c = λ d st.
    let is = c.pairs.invariant in
    let w = is.walk d st in
    filled w (omega (
      arith,
      c.if-at-count.true,
      c.pairs-test.true,
      c.min-capacity.ensures,
      is.long,
      is.few,
      w.end c.if-count-room.true,
      length-drop c.pairs.at (take c.pairs.count c.pairs.nodes),
      length-take c.pairs.count c.pairs.nodes,
    ))

pub pair_of-requires : goal.pair_of-requires
pair_of-requires g c =
    node-there c.at-map.ensures.object c.at-map.ensures.segment g.K.Scalar.kind g.V.Scalar.kind _ (record {
      answers = λ d st.
          let is = c.pairs.invariant in
          sym (is-there (map-rises d (ByHandle c.args.object.handle) g.K.Scalar.kind g.V.Scalar.kind
          c.args.segment.now.cut.bytes st.denotes) c.pairs.nodes c.pairs.at c.pairs.count (is.walk d st)
          (omega (arith, c.if-at-count.false, is.listed)) (omega (arith, is.few, is.long)));
    })

pub returns-in-None : goal.returns-in-None
returns-in-None g c = λ d st.
    let is = c.pairs.invariant in
    absurd (none-read (map-rises d (ByHandle c.args.object.handle) g.K.Scalar.kind g.V.Scalar.kind
    c.args.segment.now.cut.bytes st.denotes) c.pairs.nodes c.pairs.at c.pairs.count (is.walk d st)
    (omega (arith, c.if-at-count.false, is.listed)) (omega (arith, is.few, is.long))
    g.K.Scalar.whole g.V.Scalar.whole c.pair_of.result c.in-None.is
    ((pair-told c.at-map.ensures.object c.at-map.ensures.segment g.K.Scalar.kind g.V.Scalar.kind _ _
    c.pair_of.ensures).pairs d st))

pub pairs-preserved-then-at-count : goal.pairs-preserved-then-at-count
pairs-preserved-then-at-count g c =
    let is = c.pairs.invariant in
    let new = c.nodes_from-count in
    let room = c.min-room.result in
    let part = length-take room c.pairs.nodes in
    let long = new.auto.list in
    record {
      within = is.within;
      listed = omega arith;
      few = omega (arith, new.ensures.in_bounds, long, part, c.min-room.ensures);
      long = omega (
        arith,
        length-append new.new.list (drop room c.pairs.nodes),
        length-drop room c.pairs.nodes,
        long,
        part,
        is.long,
        c.min-room.ensures,
      );
      walk = λ d st.
          listed (is.walk d st) (take room c.pairs.nodes) new.new.list (drop room c.pairs.nodes) new.result
          (told c.at-map.ensures.object c.at-map.ensures.segment g.K.Scalar.kind g.V.Scalar.kind d st _ _
          new.ensures.count)
          (told c.at-map.ensures.object c.at-map.ensures.segment g.K.Scalar.kind g.V.Scalar.kind d st _ _
          new.ensures.list) new.ensures.in_bounds (λ short. omega (arith, short, part, is.long, c.min-room.ensures));
    }

pub pairs-preserved : goal.pairs-preserved
pairs-preserved g c =
    let is = c.pairs.invariant in
    let less : c.pairs.at < c.pairs.count = omega (arith, c.if-at-count.false, is.listed) in
    record {
      within = omega (arith, c.pairs-test.true);
      listed = omega (arith, less);
      few = is.few;
      long = is.long;
      walk = λ d st.
          goes-on (map-rises d (ByHandle c.args.object.handle) g.K.Scalar.kind g.V.Scalar.kind
          c.args.segment.now.cut.bytes st.denotes) c.pairs.nodes c.pairs.at c.pairs.count (is.walk d st) less
          (omega (arith, is.few, is.long)) (g.K.Scalar.whole c.in-Some.pair.0) (g.V.Scalar.whole c.in-Some.pair.1) _ _
          ((subst (λ o. ReadsPairNode c.args.segment.now (ByHandle c.args.object.handle) g.K.Scalar.kind g.V.Scalar.kind
          (get_or c.pairs.nodes c.pairs.at 0) (numbers_in g.K.Scalar.whole g.V.Scalar.whole o)) c.in-Some.is
          (pair-told c.at-map.ensures.object c.at-map.ensures.segment g.K.Scalar.kind g.V.Scalar.kind
          (get_or c.pairs.nodes c.pairs.at 0) _ c.pair_of.ensures)).pairs d st)
          (read-back c.bits-key_bits.result c.bits-key_bits.type_inv ∙ c.bits-key_bits.ensures)
          (read-back c.bits-value_bits.result c.bits-value_bits.type_inv ∙ c.bits-value_bits.ensures)
          (omega (arith, c.pairs-test.true, c.min-capacity.ensures))
          (omega (arith, c.pairs-test.true, c.min-capacity.ensures));
    }

pub returns : goal.returns
returns g c = λ d st.
    let w = c.pairs.invariant.walk d st in
    filled w (omega (arith, c.pairs-test.false, c.min-capacity.ensures, c.pairs.invariant.within, w.there))
