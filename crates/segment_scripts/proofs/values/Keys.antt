-- The key of a new object is for its kind.
use Rattle.std.proofs.Common.{◌≡◌, sym, ap, subst, ◌∙◌, ℕ, ℤ, ◌≤◌, List, Some, length, replicate}
use Rattle.std.specs.Prelude.{IsTrue}
use Rattle.std.proofs.lemmas.Bool.{eqb-true}
use Rattle.std.proofs.lemmas.List.{length-replicate}
use Rattle.seg_types.specs.declared.kinds.ScalarKind.{ScalarKind}
use Rattle.seg_types.specs.declared.kinds.Kind.{Kind}
use Rattle.seg_types.specs.declared.kinds.Kind.TheVariants.{Scalar}
use Rattle.seg_types.specs.declared.keys.NewKey.{NewKey}
use Rattle.seg_types.specs.declared.keys.NewKey.TheVariants as new
use Rattle.seg_types.specs.declared.keys.IndexKey.{IndexKey}
use Rattle.seg_types.specs.declared.keys.IndexKey.TheVariants as entry
use Rattle.seg_types.specs.Kinds.{code_of, kind_of_code, same_kind}
use Rattle.seg_types.specs.Keys.{index_key_seen, new_key_seen}
use Rattle.seg_types.specs.Commands as asked
use Rattle.segment_lang.specs.Reading.{agrees}
use Rattle.seg_types.specs.Names.{Key}
use Rattle.segment_manager.specs.{Directory.kind_of, Plan.bare}
use Rattle.segment_manager.specs.objects.NewObjects.{IsOfItsKind, IsOfKind}
use Rattle.segment_manager.proofs.Laws.{code-read}
use Rattle.segment_scripts.specs.Replies.{IsLineContent, IsMeant}

-- two kinds that are one as a test are one
pub kind-same : (k l : Kind) → IsTrue (same_kind k l) → l ≡ k
kind-same k l h =
    let e : Some l ≡ Some k = sym (code-read l) ∙ sym (ap kind_of_code (eqb-true (code_of k) (code_of l) h))
    ∙ code-read k in
    cc

new-of : (key : NewKey) (kind : Kind) → IsTrue (agrees kind (new_key_seen key)) → IsOfKind (new_key_seen key) kind
new-of (new.Name bytes) kind h = tt
new-of (new.Unique u) kind h = kind-same kind u h
new-of new.Anonymous kind h = tt

entry-of : (key : IndexKey) (kind : Kind) → IsTrue (agrees kind (index_key_seen key))
    → IsOfKind (index_key_seen key) kind
entry-of (entry.Name bytes) kind h = tt
entry-of (entry.Unique u) kind h = kind-same kind u h

some : (n : ℕ) (z : ℤ) → 1 ≤ length (replicate n z) → 1 ≤ n
some n z h = subst (λ m. 1 ≤ m) (length-replicate n z) h

few : (n : ℕ) (z : ℤ) → length (replicate n z) ≤ 1048576 → n ≤ 1048576
few n z h = subst (λ m. m ≤ 1048576) (length-replicate n z) h

-- ---- what a line makes

-- a content of a line is of a kind that agrees with its key
line-agrees : (key : Key) (content : asked.Content) → IsLineContent key content
    → IsTrue (agrees (kind_of (bare content)) key)
line-agrees key (asked.Numbers k zs) h = h.2
line-agrees key (asked.Elements k zs) h = h.1
line-agrees key (asked.Bytes bs) h = h.1
line-agrees key (asked.NoPairs k v) h = h
line-agrees key (asked.Strings bss) h = h.1

-- the content of a line is of the kind of its new key
pub new_line_kind : (key : NewKey) (content : asked.Content) → IsLineContent (new_key_seen key) content
    → IsOfKind (new_key_seen key) (kind_of (bare content))
new_line_kind key content h = new-of key (kind_of (bare content)) (line-agrees (new_key_seen key) content h)

-- the content of a line is of the kind of its entry
pub entry_line_kind : (key : IndexKey) (content : asked.Content) → IsLineContent (index_key_seen key) content
    → IsOfKind (index_key_seen key) (kind_of (bare content))
entry_line_kind key content h = entry-of key (kind_of (bare content)) (line-agrees (index_key_seen key) content h)

module _ (key : Key) (k : ScalarKind) (n : ℕ) (z : ℤ) (h : IsLineContent key (asked.Numbers k (replicate n z))) where
  -- a line of numbers has at least one
  pub line_some : 1 ≤ n
  line_some = some n z h.0

  -- a line of numbers has at most 2^20
  pub line_few : n ≤ 1048576
  line_few = few n z h.1

-- ---- an array

module _ (key : NewKey) (k : ScalarKind) (n : ℕ) (zs : List ℤ)
    (h : IsMeant (asked.ConstructIt (new_key_seen key) k n zs)) where
  -- the array of the line is of its kind
  pub array_kind : IsOfItsKind (new_key_seen key) k
  array_kind = new-of key (Scalar k) h.3

  pub array_some : 1 ≤ n
  array_some = h.0

  pub array_few : n ≤ 1048576
  array_few = h.1
