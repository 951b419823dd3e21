-- The laws of maps for other crates.

-- the nodes where a pair takes the place of another
pub use Rattle.seg_map.proofs.pairs.Lists.{replaced_nodes}
-- the last image of a list, and the images of a reversed list
pub use Rattle.seg_map.proofs.pairs.Lists.{last_mapped, map_reversed}
