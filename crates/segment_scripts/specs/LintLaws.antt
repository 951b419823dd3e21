-- The law that a lint owes as a machine: of a long line the first 4098 bytes decide.
use Rattle.std.proofs.Common.{◌≡◌, ℕ, ◌+◌, ◌<◌, List, length, take, sym, ap, ◌∙◌, arith}
use Rattle.std.specs.Prelude.{min}
use Rattle.std.proofs.lemmas.List.{length-take-le}
use Rattle.raw_region.specs.Format.{current}
use Rattle.segment_lang.specs.Language.{whole_language}
use Rattle.segment_lang.specs.Seen.{is_wrong}
use Rattle.segment_scripts.specs.LongLines.{too_long}
use Rattle.segment_scripts.specs.Linting.{LintState, lint_line, misses_line, respond}

pub lint_line-long : (at : LintState) (line : List ℕ) → 4097 < length line
    → lint_line at line ≡ lint_line at (take 4098 line)
lint_line-long at line h =
    let long = length-take-le 4098 line (omega arith) in
    let next : LintState = record at { line = min (at.line + 1) 18446744073709551615 } in
    ap (respond next line) (too_long (whole_language current) line h)
    ∙ sym (ap (respond next (take 4098 line)) (too_long (whole_language current) (take 4098 line) (omega arith)))

pub misses_line-long : (line : List ℕ) → 4097 < length line → misses_line line ≡ misses_line (take 4098 line)
misses_line-long line h =
    let long = length-take-le 4098 line (omega arith) in
    ap is_wrong (too_long (whole_language current) line h
    ∙ sym (too_long (whole_language current) (take 4098 line) (omega arith)))
