-- A map stands wherever a call of it ends.
use Rattle.std.proofs.Common.{◌≡◌, sym, subst, ℕ, Bool, [], true, false}
use Rattle.std.specs.Prelude.{Result, Ok, Err, Option, Some, None, MatchOption, MatchResult}
use Rattle.raw_region.specs.Memory.{WindowState}
use Rattle.seg_types.specs.declared.plain.Plain.{Ghosts as Plain}
use Rattle.seg_map.specs.Changing.{PutsNoSpace, InitsMap, PutsNewPair, OverwritesPair, PutsPair}
use Rattle.seg_map.specs.Map.{Pair, pair_at}
use Rattle.seg_map.specs.Places.{IsSomeMap}

pub begun : {K V : Type 0} → (k : Plain K) (v : Plain V) (a b : WindowState) (h at : ℕ) → InitsMap k v a b h at
    → IsSomeMap k v b.bytes h at
begun k v a b h at n = ([], n.map)

module _ {K V : Type 0} (k : Plain K) (v : Plain V) (a b : WindowState) (h at : ℕ) where
  same : b ≡ a → IsSomeMap k v a.bytes h at → IsSomeMap k v b.bytes h at
  same e q = subst (λ (c : WindowState). IsSomeMap k v c.bytes h at) (sym e) q

  -- a map stands after a put
  pub after_put : {E : Type 0} → (key : K) (value : V) (r : Result Bool E) → IsSomeMap k v a.bytes h at
      → PutsPair k v a b h at key value r → IsSomeMap k v b.bytes h at
  after_put {E} key value r q f = by_pair (pair_at k.order q.0 key) r (f q.0 q.1)
    where
      by_pair : (o : Option (Pair K V)) (s : Result Bool E)
          → MatchOption o (MatchResult s (λ c. (c ≡ true) × PutsNewPair k v a b h at q.0 key value) (λ e.
          PutsNoSpace k v a b))
          (λ p. (s ≡ Ok false) × OverwritesPair k v a b h at q.0 p key value) → IsSomeMap k v b.bytes h at
      by_pair None (Ok c) m = (_, m.1.map)
      by_pair None (Err e) m = same m.same q
      by_pair (Some p) s m = (_, m.1.map)
