-- The figures of a segment, and how they are written: a line for each, of a word and a number.
use Rattle.std.specs.Prelude.{ℕ, List, [], ◌++◌, codes, flat_map, slice_index, ◌==◌, if◌then◌else◌}
use Rattle.seg_types.specs.declared.kinds.Kind.{Kind}
use Rattle.seg_types.specs.Kinds.{kinds}
use Rattle.seg_types.specs.Texts.{kind_text}
use Rattle.segment_manager.specs.Directory.{Directory}
use Rattle.segment_report.specs.declared.objects.ObjectTally.{ObjectTally}
use Rattle.segment_report.specs.declared.tallies.Tally.{Tally}
use Rattle.segment_report.specs.Entries.{entry_line}
use Rattle.segment_report.specs.Objects.{count_of_kind, kind_index, object_tally_of}
use Rattle.segment_report.specs.Usages.{tally_of}

-- the figures: the size, the bytes of all gaps, the number of gaps, the longest gap; the number and the bytes of the
-- blocks of each role; the number of objects of each class; the capacity of each index; and the number of bytes after
-- the last block
abbrev pub figures_text : ℕ → Tally → ObjectTally → ℕ → ℕ → List ℕ
figures_text size t o named unique =
    entry_line (codes "size") size
    ++ (entry_line (codes "free") t.gaps.bytes
    ++ (entry_line (codes "gaps") t.gaps.count ++ (entry_line (codes "largest_gap") t.longest_gap
    ++ (entry_line (codes "object_blocks") t.objects.count ++ (entry_line (codes "object_bytes") t.objects.bytes
    ++ (entry_line (codes "index_blocks") t.indexes.count ++ (entry_line (codes "index_bytes") t.indexes.bytes
    ++ (entry_line (codes "storage_blocks") t.storages.count ++ (entry_line (codes "storage_bytes") t.storages.bytes
    ++ (entry_line (codes "node_blocks") t.nodes.count ++ (entry_line (codes "node_bytes") t.nodes.bytes
    ++ (entry_line (codes "named") o.named
    ++ (entry_line (codes "unique") o.unique ++ (entry_line (codes "anonymous") o.anonymous
    ++ (entry_line (codes "named_capacity") named ++ (entry_line (codes "unique_capacity") unique
    ++ (entry_line (codes "shrink_frees") t.end_gap ++ [])))))))))))))))))

-- a kind that some objects have, and their number
abbrev pub kind_line : Kind → ℕ → List ℕ
kind_line k n = if n == 0 then [] else entry_line (kind_text k) n

-- the line of a kind whose number stands at its place among these
abbrev pub counted_line : List ℕ → Kind → List ℕ
counted_line counts k = kind_line k (slice_index counts (kind_index k))

-- the lines of the kinds, in their order, from the number of objects of each
abbrev pub kinds_text : (Kind → ℕ) → List ℕ
kinds_text count = flat_map (λ k. kind_line k (count k)) kinds

-- the figures of a directory, a line for each
abbrev pub stat_text : Directory → List ℕ
stat_text d =
    figures_text d.size (tally_of d) (object_tally_of d) d.named.capacity d.unique.capacity
    ++ kinds_text (count_of_kind d.objects)
