use Rattle.segment_dump.proofs.building.Presence.{begun_here, counted_here}
use Rattle.segment_dump.proofs.building.construct.Goals as goal

pub returns-in-String-clause-in_place : goal.returns-in-String-clause-in_place
returns-in-String-clause-in_place g c =
    begun_here _ _ c.construct_string.result c.requires.segment c.construct_string.ensures.step

pub returns-in-Strings-clause-in_place : goal.returns-in-Strings-clause-in_place
returns-in-Strings-clause-in_place g c =
    begun_here _ _ c.construct_texts.result c.requires.segment c.construct_texts.ensures.step

pub returns-in-Map-clause-in_place : goal.returns-in-Map-clause-in_place
returns-in-Map-clause-in_place g c =
    begun_here _ _ c.construct_map_of.result c.requires.segment c.construct_map_of.ensures.step

pub returns-in-Scalar-clause-in_place : goal.returns-in-Scalar-clause-in_place
returns-in-Scalar-clause-in_place g c =
    counted_here _ _ c.construct_scalars.result c.requires.segment c.construct_scalars.ensures.count
    c.construct_scalars.ensures.step

pub returns-in-Vector-clause-in_place : goal.returns-in-Vector-clause-in_place
returns-in-Vector-clause-in_place g c =
    begun_here _ _ c.construct_vector.result c.requires.segment c.construct_vector.ensures
