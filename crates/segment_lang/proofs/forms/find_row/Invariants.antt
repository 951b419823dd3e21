use Rattle.std.proofs.Common.{◌≡◌, map, length, true}
use Rattle.std.specs.List.{list_all}
use Rattle.segment_lang.specs.Seen.{found_in}
use Rattle.segment_lang.specs.Tokens.{is_unbroken, up_to_blank}
use Rattle.segment_lang.proofs.forms.find_row.Given as goal

abbrev pub invariant-rows : goal.invariant-rows
invariant-rows l = record {
  same : found_in (map (λ row. (row.0.now, row.1)) l.rest) (up_to_blank l.line)
      ≡ found_in (map (λ row. (row.0.now, row.1)) l.rows) (up_to_blank l.line);
  unbroken : list_all (λ row. is_unbroken row.0.now) l.rest ≡ true;
}

abbrev pub decreases-rows : goal.decreases-rows
decreases-rows l = length l.rest
