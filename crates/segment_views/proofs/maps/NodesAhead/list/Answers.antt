-- The map lists the nodes of its first pairs from the bound on.
use Rattle.std.proofs.Common.{◌≡◌, ℕ, ◌≤◌, List, length, take, arith}
use Rattle.std.proofs.lemmas.List.{length-take}
use Rattle.std.specs.Range.Bound.{bound_map}
use Rattle.segment_manager.specs.{containers.Walks.pairs_at_kinds, objects.BoundObjects.key_of}
use Rattle.segment_views.proofs.maps.Ahead.{IsProbe, filled-ahead, none-filled, probes-all}
use Rattle.segment_views.proofs.maps.Bounds.{above-past, from-past}
use Rattle.segment_views.proofs.maps.NodesAhead.list.Goals.{in-Included, in-Excluded, in-Unbounded, then-self-eq0}
use Rattle.segment_views.proofs.maps.NodesAhead.list.Goals.{else-self-eq0}
use Rattle.segment_views.proofs.maps.NodesAhead.list.Goals as goal

some-taken : (nodes : List ℕ) (most : ℕ) → length nodes ≡ 32 → 1 ≤ most → 1 ≤ length (take most nodes)
some-taken nodes most long some = omega (arith, long, some, length-take most nodes)

pub returns : goal.returns
returns g c =
    let s = c.args.map.now.segment.now in
    let key = key_of c.args.map.now.object in
    let k = g.K.Scalar.kind in
    let v = g.V.Scalar.kind in
    let kw = g.K.Scalar.whole in
    let start = bound_map kw c.args.start in
    let from = c.match-start.from in
    let probe = elim c.match-start.branch as (λ _. IsProbe s key k v start from.1 (kw from.0)) [
      | in-Included w ↦ rw (w.in-Included.is, w.from-is) (λ d l.
          from-past (kw w.in-Included.from) (pairs_at_kinds d key k v))
      | in-Excluded w ↦ rw (w.in-Excluded.is, w.from-is) (λ d l.
          above-past (kw w.in-Excluded.after) (pairs_at_kinds d key k v))
      | in-Unbounded w ↦ rw (w.in-Unbounded.is, w.from-is) (probes-all s key k v (kw w.lowest.result) w.lowest.ensures)
    ] in
    let some = elim c.if-self-eq0.branch as (λ _. 1 ≤ c.if-self-eq0.most) [
      | then-self-eq0 w ↦ omega (arith, w.most-is)
      | else-self-eq0 w ↦ omega (arith, w.most-is)
    ] in
    let listed = c.nodes_from-self-inside.ensures in
    record {
      nodes = filled-ahead s key k v start from.1 (kw from.0) probe _ c.nodes_from-self-inside.new.list
          c.nodes_from-self-inside.result listed.count listed.list _ listed.in_bounds;
      empty = none-filled s key k v start from.1 (kw from.0) probe _ c.nodes_from-self-inside.new.list
          c.nodes_from-self-inside.result listed.count listed.list _ listed.in_bounds
          (some-taken c.self.inside.nodes c.if-self-eq0.most c.self.told some);
    }
