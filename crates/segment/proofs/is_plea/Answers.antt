use Rattle.std.proofs.Common.{◌∷◌, [], rules, tests}
use Rattle.std.specs.Str.{bytes_eq}
use Rattle.std.proofs.lemmas.Iterator.{YieldsList-from_slice}
use Rattle.std.proofs.lemmas.Iterator.Search.{any_from_yields_List}
use Rattle.segment.proofs.is_plea.Goals as goal

pub returns : goal.returns
returns c =
    let words = c.as_slice.result ∷ c.as_slice-2.result ∷ c.as_slice-3.result ∷ [] in
    let found = any_from_yields_List (λ plea. bytes_eq plea.now c.args.line.now) _ _ c.any.result c.any.ensures.ran
    (YieldsList-from_slice words cc) (λ x b q k. search (rules, tests)) in
    rw (c.as_slice.ensures, c.as_slice-2.ensures, c.as_slice-3.ensures) at found
