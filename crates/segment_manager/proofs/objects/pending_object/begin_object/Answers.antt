-- The key determines which index gets an entry.
use Rattle.seg_types.specs.Names as names
use Rattle.segment_manager.proofs.objects.pending_object.begin_object.Goals as goal
use Rattle.seg_types.specs.declared.keys.NewKey.{NewKey}
use Rattle.segment_manager.proofs.{Common.◌≡◌, objects.Constructed.text-is_name}
use Rattle.segment_manager.proofs.Common.{BeginsObject, IsOfKind, is_text_name, new_key_seen, refl, subst, sym, true}

pub begin_entered-requires-clause-key : goal.begin_entered-requires-clause-key
begin_entered-requires-clause-key c =
    let b = c.as_bytes-bytes.ensures in (
      names.ByName c.in-Name.name.bytes.now,
      (b.bytes, b.bytes, text-is_name c.in-Name.name.bytes.now (subst (λ bs. is_text_name bs ≡ true) b.bytes b.name)),
    )

pub begin_entered-requires-in-Unique-clause-key : goal.begin_entered-requires-in-Unique-clause-key
begin_entered-requires-in-Unique-clause-key c = (
  names.ByKind c.in-Unique.unique,
  (
    c.code.ensures,
    refl,
    subst (λ (k : NewKey). IsOfKind (new_key_seen k) c.args.shape.kind) c.in-Unique.is c.requires.kind,
  ),
)

pub returns-in-Name : goal.returns-in-Name
returns-in-Name c =
    let b = c.as_bytes-bytes.ensures in
    subst (λ (k : NewKey). BeginsObject c.args.heap.now c.begin_entered.new.heap
    (new_key_seen k) c.args.shape.kind c.args.shape.count c.args.shape.len c.begin_entered.result) (sym c.in-Name.is)
    (c.begin_entered.ensures (names.ByName c.in-Name.name.bytes.now)
    (b.bytes, b.bytes, text-is_name c.in-Name.name.bytes.now (subst (λ bs. is_text_name bs ≡ true) b.bytes b.name)))
