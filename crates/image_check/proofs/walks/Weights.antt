-- The visits for the tiles that a walk has passed.
use Rattle.image_check.proofs.Common.{List, Rates, Tile, [], arith, rate_of, weigh, ◌*◌, ◌++◌, ◌+◌, ◌/◌, ◌∷◌, ◌≡◌, ◌≤◌}

-- the visits for two lists of tiles
pub weigh-append : (r : Rates) (xs ys : List Tile) → weigh r (xs ++ ys) ≡ weigh r xs + weigh r ys
weigh-append r [] ys = omega arith
weigh-append r (x ∷ xs) ys = let i = weigh-append r xs ys in omega arith

-- the visits with one more tile
pub weigh-more : (r : Rates) (front : List Tile) (here : Tile)
    → weigh r (front ++ here ∷ []) ≡ weigh r front + rate_of r here.use_of * (here.len / 16)
weigh-more r front here = let i = weigh-append r front (here ∷ []) in omega arith

-- the visits for the passed tiles and this one are at most those for all tiles
pub weigh-front : (r : Rates) (front : List Tile) (here : Tile) (back : List Tile)
    → weigh r front + rate_of r here.use_of * (here.len / 16) ≤ weigh r (front ++ here ∷ back)
weigh-front r front here back = let i = weigh-append r front (here ∷ back) in omega arith
