-- The law is the lemma.
use Rattle.seg_types.specs.declared.kinds.Class.TheVariants.{Named, Unique}
use Rattle.segment_manager.proofs.Common.{object_at, sym, ℕ}
use Rattle.segment_manager.proofs.Common.{◌∙◌, ByHandle, Directory, IsDirectory, Object, by_kind, by_name, handle}
use Rattle.segment_manager.proofs.directory.IndexedParts.{IsLike, by_kind-face, by_name-face, ordered-changed}
use Rattle.segment_manager.proofs.directory.IndexedParts.{ordered-with, ordered-without}
use Rattle.segment_manager.proofs.indexes.Indexes.{by_kind-strict, by_name-strict, named-more, one-less, one-removed}
use Rattle.segment_manager.proofs.{directory.LiveSet.IsFound, directory.LiveSet.IsIn, indexes.Indexes.unique-more}
use Rattle.segment_manager.specs.indexes.Entries.{IndexesFollowObjects, KeepsEntries, RemovesOneEntry}
use Rattle.segment_manager.proofs.theorems.indexes_follow_objects.Goals as goal

removes-entry : {format : ℕ} {d : Directory} {o : Object} → IsDirectory format d → IsIn d o → RemovesOneEntry d o
removes-entry {d} {o} is f = record {
  named = λ e. one-removed Named by_name by_name-strict d o f e is.by_offset d.named is.named;
  named_again = λ e. sym (one-less Named by_name by_name-strict d o f e d.named is.named);
  not_named = ordered-without Named by_name d o f;
  unique = λ e. one-removed Unique by_kind by_kind-strict d o f e is.by_offset d.unique is.unique;
  unique_again = λ e. sym (one-less Unique by_kind by_kind-strict d o f e d.unique is.unique);
  not_unique = ordered-without Unique by_kind d o f;
}

keeps-entries : {d : Directory} (o : Object) {p : Object} → IsFound (handle p.extent) d.objects o → IsLike o p
    → KeepsEntries d p
keeps-entries {d} o {p} f like = record {
  named = (ordered-changed Named by_name by_name-face d o p f like).entries;
  unique = (ordered-changed Unique by_kind by_kind-face d o p f like).entries;
}

-- law: the indexes follow the objects
follows : IndexesFollowObjects
follows = record {
  puts = λ d o. record {
    named = named-more d o;
    not_named = ordered-with Named by_name d o;
    unique = unique-more d o;
    not_unique = ordered-with Unique by_kind d o;
  };
  removes = λ format d o is e. removes-entry is (record { is = e });
  changes = λ d o p e h. keeps-entries o (record { is = (λ i. object_at d (ByHandle (handle (h.extent i)))) ∙ e })
      (record { extent = h.extent; name = h.name; class = h.class; kind = h.kind });
}

pub returns : goal.returns
returns c = follows
