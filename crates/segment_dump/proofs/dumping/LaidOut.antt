-- Elements as a dump has them.
use Rattle.segment_dump.proofs.Common.{◌≡◌, refl, ValueContent, Scalars, Vector, String, Map, Strings, content_text}
use Rattle.segment_dump.proofs.Common.{element_line, pair_line, text_lines, in_lines, laid_out}
pub use Rattle.segment_values.proofs.Laid.{laid-flat, laid-made, parts-laid}

-- as a dump has them
pub laid-lines : (c : ValueContent) → laid_out in_lines c ≡ content_text c
laid-lines (Scalars k zs) = laid-flat (element_line k) 0 zs
laid-lines (Vector k zs) = laid-flat (element_line k) 0 zs
laid-lines (String bs) = refl
laid-lines (Map k v ps) = laid-flat (pair_line k v) 0 ps
laid-lines (Strings ts) = laid-flat text_lines 0 ts
