-- The values before the next one are encoded.
use Rattle.seg_vector.proofs.{◌≡◌, IsTrue, flat_map, list_all, patched, take}
use Rattle.seg_vector.proofs.elements.put_spellings.Given as goal

abbrev pub invariant-values : goal.invariant-values
invariant-values g l = IsTrue (list_all g.T.Plain.is_value (take l.i l.values))
    × (l.slice ≡ patched l.fn.slice l.from (flat_map g.T.Plain.spelling (take l.i l.values)))
