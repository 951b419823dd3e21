-- The head decides which value the object has, and its offset.
use Rattle.segment_manager.proofs.objects.destroying.release_contents.Goals as goal
use Rattle.seg_vector.specs.{Containers.IsStanding, Elements.FreesStorage}
use Rattle.segment_manager.proofs.Common.{ap, head_len, padded, subst, sym, ℕ, ◌+◌, ◌∙◌}
use Rattle.segment_manager.proofs.containers.RangeCalls.{elements-contents, has_storage-left, held-object}
use Rattle.segment_manager.proofs.containers.RangeCalls.{number-contents, pairs-contents, some-elements, some-pairs}
use Rattle.segment_manager.proofs.containers.RangeCalls.{some-texts, texts-contents}

pub read_head-head-requires : goal.read_head-head-requires
read_head-head-requires c = held-object c.args.heap.now.bytes c.args.handle c.requires

pub free_storage-requires : goal.free_storage-requires
free_storage-requires c = subst (IsStanding c.args.heap.now.bytes _) (sym c.element_len.ensures) (some-elements _ _ _ _
    c.requires c.read_head-head.ensures (c.value_at.ensures ∙ ap (λ (n : ℕ). head_len + padded n) c.from.ensures)
    (has_storage-left _ c.in_default.not-Scalar c.in_default.not-Map) c.in_default.not-Strings)

pub release_pairs-requires : goal.release_pairs-requires
release_pairs-requires c = some-pairs _ _ _ _ c.requires c.read_head-head.ensures
    (c.value_at.ensures ∙ ap (λ (n : ℕ). head_len + padded n) c.from.ensures) _ _ c.in-Map.is

pub release-requires : goal.release-requires
release-requires c = some-texts _ _ _ _ c.requires c.read_head-head.ensures
    (c.value_at.ensures ∙ ap (λ (n : ℕ). head_len + padded n) c.from.ensures) c.in-Strings.is

pub returns-in-Scalar : goal.returns-in-Scalar
returns-in-Scalar c = number-contents _ _ _ c.read_head-head.ensures _ c.in-Scalar.is

pub returns-in_default : goal.returns-in_default
returns-in_default c = elements-contents _ _ _ _ _ c.read_head-head.ensures
    (c.value_at.ensures ∙ ap (λ (n : ℕ). head_len + padded n) c.from.ensures)
    (has_storage-left _ c.in_default.not-Scalar c.in_default.not-Map) c.in_default.not-Strings
    (subst (FreesStorage c.args.heap.now c.free_storage.new.heap _) c.element_len.ensures c.free_storage.ensures)

pub returns-in-Strings : goal.returns-in-Strings
returns-in-Strings c = texts-contents _ _ _ _ _ c.read_head-head.ensures
    (c.value_at.ensures ∙ ap (λ (n : ℕ). head_len + padded n) c.from.ensures) c.in-Strings.is c.release.ensures

pub returns-in-Map : goal.returns-in-Map
returns-in-Map c = pairs-contents _ _ _ _ _ c.read_head-head.ensures
    (c.value_at.ensures ∙ ap (λ (n : ℕ). head_len + padded n) c.from.ensures) _ _ c.in-Map.is c.release_pairs.ensures
