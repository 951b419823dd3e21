use Rattle.std.proofs.Common.{◌≡◌, ◌+◌, ◌*◌, rules, arith, ap, sym, ◌∙◌}
use Rattle.file_rights.specs.declared.narrowing.NewRights.{NewRights}
use Rattle.file_rights.specs.Narrowing.{new_rights}
use Rattle.file_rights.proofs.narrowing.Narrow.{list_narrows, mode_narrows}
use Rattle.file_rights.proofs.narrowing.Special.{keeps_ids, keeps_rights}
use Rattle.file_rights.proofs.narrowing.narrowed.Goals as goal

pub overflow_add-result : goal.overflow_add-result
overflow_add-result c = omega (arith, c.special_bits.ensures.upper, c.mode.ensures.upper)

pub returns-clause-mode : goal.returns-clause-mode
returns-clause-mode c =
    mode_narrows c.args.mode c.args.list c.args.has_owner c.args.has_group
    (c.special_bits.result * 512 + c.mode.result) (search rules)

pub returns-clause-list : goal.returns-clause-list
returns-clause-list c = λ is. list_narrows c.args.list c.args.has_owner c.args.has_group (sym c.sets_list.ensures ∙ is)

pub returns-clause-ids : goal.returns-clause-ids
returns-clause-ids c =
    keeps_ids c.args.has_owner c.args.has_group c.args.mode c.mode.result
    (c.special_bits.result * 512 + c.mode.result) c.mode.ensures.upper
    (ap (λ n. n * 512 + c.mode.result) c.special_bits.ensures.value)

pub returns-clause-unchanged : goal.returns-clause-unchanged
returns-clause-unchanged c = λ owners groups.
    let new : NewRights = record {
      mode = c.special_bits.result * 512 + c.mode.result;
      sets_list = c.sets_list.result;
    } in
    let is : new ≡ new_rights c.args.mode c.args.list c.args.has_owner c.args.has_group = search rules in
    keeps_rights c.args.mode c.args.list new (is ∙ λ i. new_rights c.args.mode c.args.list (owners i) (groups i))
