-- The pairs of the key's map.
use Rattle.std.proofs.Common.{List, ap, int_lt, subst, sym, ◌∙◌}
use Rattle.seg_map.specs.{Listing.pairs_past, Numbers.NumberPair}
use Rattle.seg_types.specs.{Keys.key_seen, Values.value_of_scalar, Written.literal_seen}
use Rattle.segment_manager.specs.{containers.Walks.pairs_at_kinds, State.DenotesCurrent}
use Rattle.segment_c.specs.{Passed.literal_in, Reads.IsCoded, Series.FillsSeries, Series.pairs_from_at}
use Rattle.segment_c.specs.Series.{pairs_in, those_past}
use Rattle.segment_c.proofs.slot.GoingOn.{reads}
use Rattle.segment_c.proofs.views.Neighbours.{same-pairs, told-map}
use Rattle.segment_c.proofs.pair_series.zx_read_pairs_from.Goals as goal

pub returns-in-Ok-value_of-clause-read : goal.returns-in-Ok-value_of-clause-read
returns-in-Ok-value_of-clause-read c =
    let it = c.in-Ok.ensures.entry in
    let key = key_seen c.in-Ok.it.0 in
    let found = c.in-Ok-map_of in
    let own = c.in-Ok-value_of.ensures in
    let s = c.deref.result.now in
    let fills = λ (ps : List NumberPair). FillsSeries ps c.args.keys.now c.read_of_kinds.new.keys c.args.values.now
    c.read_of_kinds.new.values c.read_of_kinds.result in
    let told = IsCoded fills c.put.result in
    reads it.0 it.2 c.put.ensures.effect (c.put.ensures.marks_are ∙ c.in-Ok.ensures.marks) c.deref.ensures (λ d st.
    subst (λ key. told (pairs_from_at d key c.args.past (literal_in c.args.from.now))) it.1.0
    (subst (λ l. told (pairs_from_at d key c.args.past l)) (sym it.1.1)
    (told-map s key told (λ d. pairs_in d key c.args.past (literal_seen c.in-Ok.it.1)) found.of_keys found.of_values
    found.ensures.kinds d st
    (subst told (ap (those_past (pairs_at_kinds d key found.of_keys found.of_values) c.args.past) (sym own.1)) (
      c.put.ensures.code_is,
      subst (λ ps. fills (pairs_past int_lt c.args.past (value_of_scalar c.in-Ok-value_of.from) ps))
          (same-pairs s key found.object found.ensures.map.0 _ found.of_values d st
          ∙ ap (λ j. pairs_at_kinds d key j found.of_values) own.0)
          (c.read_of_kinds.ensures d
          (subst (λ s. DenotesCurrent s.cut.bytes d) (c.deref.ensures ∙ sym c.deref-in-Ok-value_of.ensures) st)),
    )))))
