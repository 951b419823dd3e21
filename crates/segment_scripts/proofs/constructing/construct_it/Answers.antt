use Rattle.std.proofs.Common.{◌≡◌, sym, subst}
use Rattle.std.specs.Prelude.{IsTrue}
use Rattle.std.specs.Iterator.{YieldsFirst}
use Rattle.std.specs.List.{AllByRecursion}
use Rattle.seg_types.specs.Keys.{new_key_seen}
use Rattle.seg_types.specs.Kinds.{is_value}
use Rattle.seg_types.specs.Values.{kind_of_scalar, value_of_scalar}
use Rattle.segment_lang.specs.Arguments.{scalars_in}
use Rattle.segment_manager.specs.objects.NewObjects.{IsOfItsKind}
use Rattle.segment_manager.specs.objects.Items.{ConstructsFromItems}
use Rattle.segment_scripts.proofs.values.Arrays.{all-refused, all-step, taken-kind}
use Rattle.segment_scripts.proofs.values.Keys.{array_kind}
use Rattle.segment_scripts.proofs.constructing.construct_it.Goals as goal

pub construct_values-requires-clause-kind : goal.construct_values-requires-clause-kind
construct_values-requires-clause-kind c =
    subst (λ k. IsOfItsKind (new_key_seen c.args.key.now) k) (sym c.kind-kind.ensures.kind)
    (array_kind c.args.key.now c.args.values.kind c.args.count c.args.values.numbers c.requires)

pub construct_values-requires-clause-kind_fit : goal.construct_values-requires-clause-kind_fit
construct_values-requires-clause-kind_fit c =
    λ xs t h. subst (λ k. AllByRecursion (λ v. kind_of_scalar v ≡ k) xs) (sym c.kind-kind.ensures.kind)
    (taken-kind c.args.values t xs h)

pub returns-clause-step : goal.returns-clause-step
returns-clause-step c =
    all-step
    (subst (λ k. ConstructsFromItems (YieldsFirst scalars_in) value_of_scalar c.args.segment.now
    c.construct_values.new.self (new_key_seen c.args.key.now) k c.args.count c.args.values
    c.construct_values.new.items c.construct_values.result)
    c.kind-kind.ensures.kind c.construct_values.ensures) c.requires
    (subst (λ k. AllByRecursion (λ z. IsTrue (is_value k z)) c.args.values.numbers) c.kind-kind.ensures.kind
    c.kind-kind.ensures.values)

pub returns-clause-refused : goal.returns-clause-refused
returns-clause-refused c =
    all-refused
    (subst (λ k. ConstructsFromItems (YieldsFirst scalars_in) value_of_scalar c.args.segment.now
    c.construct_values.new.self (new_key_seen c.args.key.now) k c.args.count c.args.values
    c.construct_values.new.items c.construct_values.result)
    c.kind-kind.ensures.kind c.construct_values.ensures) c.requires
