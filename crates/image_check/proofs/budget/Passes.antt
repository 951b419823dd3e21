-- The bound of a pass for all tiles, from its bound for each.
use Rattle.image_check.proofs.Common.{List, Rates, Row, Tile, [], add-one, ap, arith, length, rate_of, weigh, ℕ, ◌*◌}
use Rattle.image_check.proofs.Common.{◌+◌, ◌/◌, ◌∷◌, ◌≡◌, ◌≤◌}
use Rattle.image_check.proofs.read_off.GoodValues.{mul-next}

-- the sum over all tiles
abbrev pub costs : (Tile → ℕ) → List Tile → ℕ
costs cost [] = 0
costs cost (t ∷ ts) = cost t + costs cost ts

-- costs within the rate of each tile weigh no more than all tiles
pub costs-weigh : (rates : Rates) (cost : Tile → ℕ) (at : ℕ) (ts : List Tile) (end : ℕ) → Row at ts end
    → ((t : Tile) → 32 ≤ t.len → cost t ≤ rate_of rates t.use_of * (t.len / 16)) → costs cost ts ≤ weigh rates ts
costs-weigh rates cost at [] end a h = omega arith
costs-weigh rates cost at (t ∷ ts) end a h =
    let one = h t a.1 in
    let more = costs-weigh rates cost (at + t.len) ts end a.3 h in
    omega arith

-- the cost of a list if each tile costs the same
pub costs-each : (n : ℕ) (ts : List Tile) → costs (λ t. n) ts ≡ n * length ts
costs-each n [] = omega arith
costs-each n (t ∷ ts) = let l = costs-each n ts in let s = mul-next n (length ts) in let u = add-one (length ts)
    in let v = ap (λ x. n * x) u in omega arith
