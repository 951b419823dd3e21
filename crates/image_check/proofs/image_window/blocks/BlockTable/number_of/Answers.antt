use Rattle.image_check.proofs.Common.{BlockMap, IsRow, ap, arith, block_at, nat_eq, subst, sym, ◌^◌, ◌∙◌}
use Rattle.std.specs.Prelude.{IfSome, position}
use Rattle.std.specs.Map.{keys_of}
use Rattle.image_check.proofs.block_collection.ByNumber.{bound-absent, position-row}
use Rattle.image_check.proofs.image_window.blocks.BlockTable.number_of.Goals as goal

pub returns-in-Ok-clause-search : goal.returns-in-Ok-clause-search
returns-in-Ok-clause-search c =
    subst (λ (v : BlockMap). IfSome c.get_index_of.result (IsRow v.entries c.args.target)) c.self.view_is
    (position-row c.self.inside.map.entries c.args.target c.get_index_of.result
    (c.get_index_of.ensures.index ∙ ap (λ n.
    position (nat_eq n) (keys_of c.self.inside.map.entries)) c.in-Ok.ensures.1))

pub returns-in-Err-clause-absent : goal.returns-in-Err-clause-absent
returns-in-Err-clause-absent c =
    let large = c.in-Err.ensures in
    ap (λ (v : BlockMap). block_at v.entries c.args.target) (sym c.self.view_is)
    ∙ bound-absent c.self.inside.map.entries (2 ^ 32) c.args.target c.self.invariant.small (omega (arith, large))
