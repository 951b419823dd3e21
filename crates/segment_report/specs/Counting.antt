-- The same as a walk over the blocks and gaps meets it.
use Rattle.std.specs.Prelude.{ℕ, ◌+◌, Bool, true, false, Option, Some, None, List, length, filter, fold, max, sum_by}
use Rattle.block_tags.specs.declared.tile.Role.{Role}
use Rattle.block_tags.specs.declared.tile.Role.TheVariants.{Object as ObjectRole, Index, Storage, Node}
use Rattle.best_fit.specs.Extents.{Span}
use Rattle.best_fit.specs.Table.{same_role}
use Rattle.segment_report.specs.declared.tallies.Usage.{Usage}
use Rattle.segment_report.specs.declared.tallies.Tally.{Tally}

abbrev pub same_use : Option Role → Option Role → Bool
same_use None None = true
same_use None (Some r) = false
same_use (Some r) None = false
same_use (Some r) (Some s) = same_role r s

-- the blocks and gaps of a use
abbrev pub spans_of : Option Role → List Span → List Span
spans_of u ss = filter (λ (s : Span). same_use u s.use_of) ss

abbrev pub usage_in : Option Role → List Span → Usage
usage_in u ss = record { count = length (spans_of u ss); bytes = sum_by (λ (s : Span). s.len) (spans_of u ss) }

abbrev pub longest_in : List Span → ℕ
longest_in ss = fold (λ n (s : Span). max n s.len) 0 (spans_of None ss)

-- the length of a gap, and 0 of a block
abbrev pub free_len : Span → ℕ
free_len s = elim s.use_of [ None ↦ s.len | Some r ↦ 0 ]

-- the gap after all blocks
abbrev pub end_gap_in : List Span → ℕ
end_gap_in ss = fold (λ n s. free_len s) 0 ss

-- the counts of blocks and gaps, in order
abbrev pub tally_in : List Span → Tally
tally_in ss = record {
  gaps = usage_in None ss;
  longest_gap = longest_in ss;
  objects = usage_in (Some ObjectRole) ss;
  indexes = usage_in (Some Index) ss;
  storages = usage_in (Some Storage) ss;
  nodes = usage_in (Some Node) ss;
  end_gap = end_gap_in ss;
}

-- a count and one more
abbrev pub more : Usage → ℕ → Usage
more u len = record { count = u.count + 1; bytes = u.bytes + len }

-- the counts with one more of any use
abbrev pub counted : Tally → Option Role → ℕ → Tally
counted t None len = record t { gaps = more t.gaps len; longest_gap = max t.longest_gap len; end_gap = len }
counted t (Some ObjectRole) len = record t { objects = more t.objects len; end_gap = 0 }
counted t (Some Index) len = record t { indexes = more t.indexes len; end_gap = 0 }
counted t (Some Storage) len = record t { storages = more t.storages len; end_gap = 0 }
counted t (Some Node) len = record t { nodes = more t.nodes len; end_gap = 0 }

-- all that was counted
abbrev pub total_count : Tally → ℕ
total_count t = t.gaps.count + (t.objects.count + (t.indexes.count + (t.storages.count + t.nodes.count)))

-- the bytes of all blocks
abbrev pub total_bytes : Tally → ℕ
total_bytes t = t.gaps.bytes + (t.objects.bytes + (t.indexes.bytes + (t.storages.bytes + t.nodes.bytes)))
