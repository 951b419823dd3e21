-- The name is read after the head.
use Rattle.segment_manager.proofs.segment.Segment.instance_name.Goals as goal
use Rattle.segment_manager.proofs.{Common.refl, Common.sym, Common.◌∙◌, Common.◌≡◌, directory.AnyDirectory.denotes-heap}
use Rattle.segment_manager.proofs.Common.{Anonymous, Class, None, Some, UniqueClass, ap, current, inl, inr, key_seen}
use Rattle.segment_manager.proofs.objects.Destroys.{seen-object, seen-tells}
use Rattle.segment_manager.specs.objects.Instances.{name_in, own_name}

pub read_head-requires : goal.read_head-requires
read_head-requires c = seen-object _ _ c.self.view_is (key_seen c.args.key.now) _ c.self.invariant c.in-Some.ensures

pub read_name-requires-clause-heap : goal.read_name-requires-clause-heap
read_name-requires-clause-heap c =
    denotes-heap current c.self.inside.heap.bytes c.self.invariant.0 c.self.invariant.1.denotes

pub read_name-requires-clause-object : goal.read_name-requires-clause-object
read_name-requires-clause-object c =
    seen-object _ _ c.self.view_is (key_seen c.args.key.now) _ c.self.invariant c.in-Some.ensures

pub returns-in-Named : goal.returns-in-Named
returns-in-Named c = seen-tells c.self.view_is (key_seen c.args.key.now) own_name c.in-Some.ensures
    (λ o h. ap (λ n. Some n) (c.read_name.ensures o h)
    ∙ ap (λ k. name_in k o.name) (sym c.in-Named.is ∙ (c.read_head.ensures o h).class))

pub returns-in-Anonymous : goal.returns-in-Anonymous
returns-in-Anonymous c = seen-tells c.self.view_is (key_seen c.args.key.now) own_name c.in-Some.ensures (λ o h.
    let none : (k : Class) → name_in k o.name ≡ None → c.read_head.result.class ≡ k → None ≡ own_name o =
    λ k n e. sym n ∙ ap (λ k. name_in k o.name) (sym e ∙ (c.read_head.ensures o h).class) in
    elim c.in-Anonymous.is [ inl e ↦ none Anonymous refl e | inr e ↦ none UniqueClass refl e ])
