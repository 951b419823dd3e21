-- The place that the look-up ends at.
use Rattle.segment_manager.proofs.segment.Segment.named_place.Goals as goal
use Rattle.std.proofs.lemmas.Map.Lookups.{exact_bytes}
use denote.Ref.{Bor}
use Rattle.seg_index.specs.Lookups.{order}
use Rattle.segment_manager.proofs.Common.{Absent, Denotes, Directory, Equal, FindsPosition, Found, IsEntry, List, Name}
use Rattle.segment_manager.proofs.Common.{Named, Object, SegmentState, Some, WindowState, ap, arith, by_name, bytes_of}
use Rattle.segment_manager.proofs.Common.{cases_lt, current, entries_of, false, handle, inl, inr, is_lt, named_objects}
use Rattle.segment_manager.proofs.Common.{nat_cmp, same_Some, slice_cmp, slice_get, slice_get_within, subst, sym, true}
use Rattle.segment_manager.proofs.Common.{ℕ, ◌<◌, ◌∙◌, ◌≡◌, ◌≤◌, ◌⊎◌}
use Rattle.segment_manager.proofs.directory.Frame.{handles-length}
use Rattle.segment_manager.proofs.indexes.{Bridge.objects-ascend, Bridge.stands-at, Indexes.by_name-strict}
use Rattle.segment_manager.proofs.indexes.Bridge.{all-at, ascends-at, at-handle, denotes-sorted_index, entries-in}
use Rattle.segment_manager.proofs.objects.Destroys.{ForIndex, of-directory}
use Rattle.segment_manager.specs.indexes.NamesFrom.{IsFirstFrom, PartsNames, is_before}

module _ (c : WindowState) (d : Directory) (k : Denotes current c.bytes d) (s : Bor (List ℕ)) where
  -- an entry compares the name of its object
  compared : (j : ℕ) {o : Object} → slice_get (named_objects d) j ≡ Some o
      → slice_cmp nat_cmp o.name s.now ≡ order (bytes_of c.bytes) (Name s) (handle o.extent)
  compared j {o} f = λ i. slice_cmp nat_cmp
      (sym (all-at (IsEntry (bytes_of c.bytes)) (named_objects d) j (entries-in Named c k) f).name i) s.now

  -- an entry after that of the text, or the entry itself, does not precede the text
  from-there : (at j : ℕ) {o p : Object} → slice_get (named_objects d) at ≡ Some o → slice_get (named_objects d) j
      ≡ Some p → slice_cmp nat_cmp o.name s.now ≡ Equal → at ≤ j → (at < j) ⊎ (j ≤ at) → is_before s.now p ≡ false
  from-there at j {o} {p} f g e l (inl m) = subst (λ n. is_lt (slice_cmp nat_cmp p.name n) ≡ false)
      (exact_bytes o.name s.now e) (by_name-strict.asym o p
      (ascends-at (λ o p. by_name o p ≡ true) (named_objects d) at j (objects-ascend Named k.directory) m f g))
  from-there at j {o} {p} f g e l (inr m) =
      let same : at ≡ j = omega (arith, l, m) in
      ap is_lt (subst (λ (q : Object). slice_cmp nat_cmp q.name s.now ≡ Equal)
      (same_Some o p (sym f ∙ ap (slice_get (named_objects d)) same ∙ g)) e)

  parts-absent : (at : ℕ) → FindsPosition (bytes_of c.bytes) (Name s) (entries_of Named d) (Absent at)
      → PartsNames s.now (named_objects d) at
  parts-absent at p =
      let each = p.1 in
      record {
        within = omega (arith, p.0, handles-length (named_objects d));
        ahead = λ j o f l. ap is_lt (compared j f ∙ (each j (handle o.extent) (at-handle (named_objects d) j f)).0 l);
        from = λ j o f l. ap is_lt (compared j f ∙ (each j (handle o.extent) (at-handle (named_objects d) j f)).1 l);
      }

  parts-found : (at : ℕ) → FindsPosition (bytes_of c.bytes) (Name s) (entries_of Named d) (Found at)
      → PartsNames s.now (named_objects d) at
  parts-found at p =
      let t = stands-at (named_objects d) at p.1 in
      let equal : slice_cmp nat_cmp t.object.name s.now ≡ Equal =
      compared at t.is ∙ ap (order (bytes_of c.bytes) (Name s)) (sym t.handle) ∙ p.2 in
      record {
        within = omega (arith, slice_get_within (named_objects d) at t.object t.is);
        ahead = λ j o f l. subst (λ n. is_lt (slice_cmp nat_cmp o.name n) ≡ true)
            (exact_bytes t.object.name s.now equal)
            (ascends-at (λ o p. by_name o p ≡ true) (named_objects d) j at (objects-ascend Named k.directory) l f t.is);
        from = λ j o f l. from-there at j t.is f equal l (cases_lt at j);
      }

-- the same for each directory of the bytes
first-absent : (s : SegmentState) (e : Bor (List ℕ)) (at : ℕ)
    → ForIndex s.cut Named (λ hs. FindsPosition (bytes_of s.cut.bytes) (Name e) hs (Absent at)) → IsFirstFrom s e.now at
first-absent s e at f = record {
  parts = λ d k. parts-absent s.cut d k.denotes e at
      (of-directory s Named (λ hs. FindsPosition (bytes_of s.cut.bytes) (Name e) hs (Absent at)) k f);
}

-- the first entry from a name on is found
first-found : (s : SegmentState) (e : Bor (List ℕ)) (at : ℕ)
    → ForIndex s.cut Named (λ hs. FindsPosition (bytes_of s.cut.bytes) (Name e) hs (Found at)) → IsFirstFrom s e.now at
first-found s e at f = record {
  parts = λ d k. parts-found s.cut d k.denotes e at
      (of-directory s Named (λ hs. FindsPosition (bytes_of s.cut.bytes) (Name e) hs (Found at)) k f);
}

pub lookup-requires-clause-index : goal.lookup-requires-clause-index
lookup-requires-clause-index c = denotes-sorted_index Named c.self.invariant.1.denotes

pub returns-in-Found : goal.returns-in-Found
returns-in-Found c = subst (λ t. IsFirstFrom t c.args.text.now c.in-Found.place) c.self.view_is
    (first-found _ c.args.text c.in-Found.place c.in-Found.ensures.place)

pub returns-in-Absent : goal.returns-in-Absent
returns-in-Absent c = subst (λ t. IsFirstFrom t c.args.text.now c.in-Absent.place) c.self.view_is
    (first-absent _ c.args.text c.in-Absent.place c.in-Absent.ensures.place)
