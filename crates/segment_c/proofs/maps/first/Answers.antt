use Rattle.segment_c.proofs.maps.first.Goals as goal
use Rattle.std.proofs.Common.{◌∙◌, Ok, Option, ap, option_map, subst}
use Rattle.seg_map.specs.Places.{item_of}
use Rattle.seg_types.specs.Keys.{key_seen}
use Rattle.segment_manager.specs.containers.Walks.{KindedPair, first_of, pairs_at}
use Rattle.segment_c.specs.Reads.{TellsPair, first_in, item_in}
use Rattle.segment_c.proofs.views.Neighbours.{all-pairs, told-map, told-refused}

pub returns-in-Err-clause-read : goal.returns-in-Err-clause-read
returns-in-Err-clause-read c =
    told-refused c.args.segment.now (key_seen c.args.key.now)
    (TellsPair c.args.at.now c.args.value.now c.code_of.result) (λ d. first_in (pairs_at d (key_seen c.args.key.now)))
    c.in-Err.why c.in-Err.ensures.kinds c.code_of.ensures.number

pub first_pair-requires : goal.first_pair-requires
first_pair-requires c = record { there = c.in-Ok.ensures.map.0.here; of_kind = c.in-Ok.ensures.map.1 }

pub returns-in-Ok-clause-read : goal.returns-in-Ok-clause-read
returns-in-Ok-clause-read c = λ d st.
    let key = key_seen c.args.key.now in
    let tells = TellsPair c.pair_out.new.at c.pair_out.new.value c.pair_out.result in
    told-map c.args.segment.now key tells (λ d. first_in (pairs_at d key)) c.in-Ok.keys c.in-Ok.values
    c.in-Ok.ensures.kinds d st (subst (λ (p : Option KindedPair). tells (Ok p)) (c.first_pair.ensures.answers d st
    ∙ ap (λ ps. item_in c.in-Ok.keys c.in-Ok.values (option_map item_of (first_of ps)))
    (all-pairs c.args.segment.now key c.in-Ok.object c.in-Ok.ensures.map.0 d st)) c.pair_out.ensures.read)
