-- The capacity suffices, or a larger block is allocated, or it has no fit.
use Rattle.segment_manager.proofs.segment.Segment.reserve_index.Goals as goal
use Rattle.seg_index.specs.declared.index.Index.TheVariants as index
use Rattle.segment_manager.proofs.{directory.AnyDirectory.refuses-read_only, objects.Destroys.segment-index}
use Rattle.segment_manager.proofs.Common.{Index, is_changing, refl, reserve_of, sym, true, ℕ, ◌∙◌, ◌≡◌}
use Rattle.segment_manager.proofs.indexes.OtherTables.{reserves, reserves-none}
use Rattle.segment_manager.proofs.segment.Segment.reserve_index.Goals.{in-Err, in-Ok}

reserve-changes : (i : Index) (n : ℕ) → is_changing (reserve_of i n) ≡ true
reserve-changes index.Named n = refl
reserve-changes index.Unique n = refl

pub returns-then-is_read_only-clause-step : goal.returns-then-is_read_only-clause-step
returns-then-is_read_only-clause-step c = refuses-read_only c.args.self.now (reserve_of c.args.index c.args.n)
    (sym c.is_read_only.ensures ∙ c.if-is_read_only.true) (reserve-changes c.args.index c.args.n)

pub reserve-requires : goal.reserve-requires
reserve-requires c = record { index = segment-index c.args.index c.self.invariant }

pub invariant_of-self : goal.invariant_of-self
invariant_of-self c =
    elim c.match-reserve.branch [
      | in-Ok w ↦ (reserves c.self.view_is c.self.invariant c.args.index
          (sym c.is_read_only.ensures ∙ c.if-is_read_only.false) w.in-Ok.ensures.capacity).segment
      | in-Err w ↦ (reserves-none c.self.view_is c.self.invariant c.args.index c.args.n (sym c.is_read_only.ensures
          ∙ c.if-is_read_only.false) w.in-Err.ensures.capacity.0 w.in-Err.ensures.capacity.1).segment
    ]

pub returns-clause-step : goal.returns-clause-step
returns-clause-step c =
    elim c.match-reserve.branch [
      | in-Ok w ↦ rw w.result-is (reserves c.self.view_is c.self.invariant c.args.index
          (sym c.is_read_only.ensures ∙ c.if-is_read_only.false) w.in-Ok.ensures.capacity).step
      | in-Err w ↦ rw w.result-is (reserves-none c.self.view_is c.self.invariant c.args.index c.args.n
          (sym c.is_read_only.ensures ∙ c.if-is_read_only.false) w.in-Err.ensures.capacity.0
          w.in-Err.ensures.capacity.1).step
    ]
