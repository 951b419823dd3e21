-- The key determines which index has the entry. The entry is removed with its object, or there is none.
use Rattle.segment_manager.proofs.segment.Segment.destroy.Goals as goal
use Rattle.seg_types.specs.{Commands.Destroy, Keys.index_key_seen}
use Rattle.segment_manager.proofs.Common.{Entry, Found, Index, Key, LacksKey, Seeks, SegmentState, UnchangedWhere}
use Rattle.segment_manager.proofs.Common.{entries_of, none-some, refl, subst, sym, table_of, ℕ, ◌∙◌, ◌≡◌}
use Rattle.segment_manager.proofs.directory.AnyDirectory.{refuses-read_only}
use Rattle.segment_manager.proofs.indexes.Bridge.{denotes-index, denotes-sorted_index, lookup-found}
use Rattle.segment_manager.proofs.objects.Destroys.{Ends, destroys-entered, destroys-none, found-entry}

-- a look-up that found an entry: an object has the key
keeps-found : {s t : SegmentState} (view : s ≡ t) {new : SegmentState} (i : Index) (e : Entry) (at : ℕ)
    → Ends s.cut i e (Found at) → (key : Key) → Seeks i e key → UnchangedWhere t new (LacksKey key)
keeps-found {s} view {new} i e at p key q =
    subst (λ (u : SegmentState). UnchangedWhere u new (LacksKey key)) view (λ d k lacks.
    let there =
    lookup-found i s.cut e key k.denotes q at (p (table_of i d) (entries_of i d) (denotes-index i s.cut k.denotes)) in
    absurd (none-some there.object (sym lacks ∙ there.is)))

pub returns-then-is_read_only-clause-step : goal.returns-then-is_read_only-clause-step
returns-then-is_read_only-clause-step c = refuses-read_only c.args.self.now (Destroy (index_key_seen c.args.key.now))
    (sym c.is_read_only.ensures ∙ c.if-is_read_only.true) refl

pub lookup-requires-clause-index : goal.lookup-requires-clause-index
lookup-requires-clause-index c = denotes-sorted_index c.entry_of-index.result.0 c.self.invariant.1.denotes

pub remove_entered-requires : goal.remove_entered-requires
remove_entered-requires c =
    found-entry c.self.inside.heap c.self.invariant c.entry_of-index.result.0 c.entry_of-index.result.1
    (index_key_seen c.args.key.now) c.in-Found.place c.entry_of-index.ensures.search c.in-Found.ensures.place

pub invariant_of-self : goal.invariant_of-self
invariant_of-self c = (destroys-entered c.self.view_is c.self.invariant c.entry_of-index.result.0
    c.entry_of-index.result.1 (index_key_seen c.args.key.now) c.in-Found.place (sym c.is_read_only.ensures
    ∙ c.if-is_read_only.false) c.entry_of-index.ensures.search c.in-Found.ensures.place
    c.remove_entered.ensures).segment

pub returns-in-Found-clause-step : goal.returns-in-Found-clause-step
returns-in-Found-clause-step c = (destroys-entered c.self.view_is c.self.invariant c.entry_of-index.result.0
    c.entry_of-index.result.1 (index_key_seen c.args.key.now) c.in-Found.place (sym c.is_read_only.ensures
    ∙ c.if-is_read_only.false) c.entry_of-index.ensures.search c.in-Found.ensures.place c.remove_entered.ensures).step

pub returns-in-Found-clause-absent : goal.returns-in-Found-clause-absent
returns-in-Found-clause-absent c = keeps-found c.self.view_is c.entry_of-index.result.0 c.entry_of-index.result.1
    c.in-Found.place c.in-Found.ensures.place (index_key_seen c.args.key.now) c.entry_of-index.ensures.search

pub returns-in-Absent-clause-step : goal.returns-in-Absent-clause-step
returns-in-Absent-clause-step c = destroys-none c.self.view_is c.entry_of-index.result.0 c.entry_of-index.result.1
    (index_key_seen c.args.key.now) c.in-Absent.field-0 (sym c.is_read_only.ensures ∙ c.if-is_read_only.false)
    c.entry_of-index.ensures.search c.in-Absent.ensures.place
