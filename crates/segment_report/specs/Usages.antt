-- The uses of a segment's bytes: its gaps, and its blocks by role.
use Rattle.std.specs.Prelude.{ℕ, ◌-◌, Bool, List, length, filter, fold, max, sum_by}
use Rattle.block_tags.specs.declared.tile.Role.{Role}
use Rattle.block_tags.specs.declared.tile.Role.TheVariants.{Object as ObjectRole, Index, Storage, Node}
use Rattle.best_fit.specs.Ends.{least_size}
use Rattle.best_fit.specs.Extents.{Extent, Gap, gaps}
use Rattle.best_fit.specs.Table.{same_role}
use Rattle.segment_manager.specs.Directory.{Directory, live}
use Rattle.segment_report.specs.declared.tallies.Usage.{Usage}
use Rattle.segment_report.specs.declared.tallies.Tally.{Tally}

abbrev pub has_role : Role → Extent → Bool
has_role role x = same_role role x.role

-- the blocks of a role
abbrev pub blocks_of : Role → List Extent → List Extent
blocks_of role xs = filter (has_role role) xs

-- the number of blocks of a role, and the sum of their bytes, tags included
abbrev pub usage_of : Role → List Extent → Usage
usage_of role xs = record {
  count = length (blocks_of role xs);
  bytes = sum_by (λ (x : Extent). x.len) (blocks_of role xs);
}

-- the number and the bytes of the gaps
abbrev pub gap_usage : List Gap → Usage
gap_usage gs = record { count = length gs; bytes = sum_by (λ (g : Gap). g.len) gs }

-- the bytes of the longest, 0 if there is none
abbrev pub longest : List Gap → ℕ
longest gs = fold (λ n (g : Gap). max n g.len) 0 gs

-- the usages of a directory, and the number of bytes after its last block
abbrev pub tally_of : Directory → Tally
tally_of d = record {
  gaps = gap_usage (gaps (live d));
  longest_gap = longest (gaps (live d));
  objects = usage_of ObjectRole (live d).extents;
  indexes = usage_of Index (live d).extents;
  storages = usage_of Storage (live d).extents;
  nodes = usage_of Node (live d).extents;
  end_gap = d.size - least_size (live d);
}
