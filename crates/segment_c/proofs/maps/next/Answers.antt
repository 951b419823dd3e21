use Rattle.segment_c.proofs.maps.next.Goals as goal
use Rattle.std.proofs.Common.{Ok, Option, ap, subst, sym, ◌∙◌}
use Rattle.seg_types.specs.{Keys.key_seen, Written.literal_seen, Values.kind_of_scalar}
use Rattle.seg_types.specs.Values.{value_of_scalar}
use Rattle.seg_types.specs.declared.kinds.Kind.TheVariants.{Map}
use Rattle.segment_manager.specs.containers.Maps.{pair_above}
use Rattle.segment_manager.specs.containers.Walks.{KindedPair, pairs_at}
use Rattle.segment_c.specs.Reads.{TellsPair, above_in, item_in, next_in}
use Rattle.segment_c.proofs.views.Neighbours.{all-pairs, told-map, told-refused}

pub returns-in-Err-clause-read : goal.returns-in-Err-clause-read
returns-in-Err-clause-read c =
    told-refused c.args.segment.now (key_seen c.args.key.now)
    (TellsPair c.args.at.now c.args.value.now c.code_of-in-Err.result)
    (λ d. next_in (pairs_at d (key_seen c.args.key.now)) (literal_seen c.args.after)) c.in-Err.why
    c.in-Err.ensures.kinds c.code_of-in-Err.ensures.number

pub returns-in-Err-value_of-clause-read : goal.returns-in-Err-value_of-clause-read
returns-in-Err-value_of-clause-read c = λ d st.
    told-map c.args.segment.now (key_seen c.args.key.now) (TellsPair c.args.at.now c.args.value.now c.code_of.result)
    (λ d. next_in (pairs_at d (key_seen c.args.key.now)) (literal_seen c.args.after)) c.in-Ok.keys c.in-Ok.values
    c.in-Ok.ensures.kinds d st (subst (TellsPair c.args.at.now c.args.value.now c.code_of.result)
    (ap (above_in (pairs_at d (key_seen c.args.key.now)) c.in-Ok.keys c.in-Ok.values) (sym c.in-Err-value_of.ensures))
    c.code_of.ensures.number)

pub next_pair-requires : goal.next_pair-requires
next_pair-requires c = record {
  there = c.in-Ok.ensures.map.0.here;
  of_kind = c.in-Ok.ensures.map.1 ∙ ap (λ j. Map j c.in-Ok.values) (sym c.in-Ok-value_of.ensures.0);
}

pub returns-in-Ok-value_of-clause-read : goal.returns-in-Ok-value_of-clause-read
returns-in-Ok-value_of-clause-read c = λ d st.
    let key = key_seen c.args.key.now in
    let tells = TellsPair c.pair_out.new.at c.pair_out.new.value c.pair_out.result in
    let k = kind_of_scalar c.in-Ok-value_of.below in
    let z = value_of_scalar c.in-Ok-value_of.below in
    told-map c.args.segment.now key tells
    (λ d. next_in (pairs_at d key) (literal_seen c.args.after)) c.in-Ok.keys c.in-Ok.values
    c.in-Ok.ensures.kinds d st (subst tells (ap (above_in (pairs_at d key) c.in-Ok.keys c.in-Ok.values)
    (sym c.in-Ok-value_of.ensures.1)) (subst (λ (p : Option KindedPair). tells (Ok p)) (c.next_pair.ensures.answers d st
    ∙ ap (λ ps. item_in k c.in-Ok.values (pair_above z ps))
    (all-pairs c.args.segment.now key c.in-Ok.object c.in-Ok.ensures.map.0 d st)
    ∙ ap (λ j. item_in j c.in-Ok.values (pair_above z (pairs_at d key))) c.in-Ok-value_of.ensures.0)
    c.pair_out.ensures.read))
