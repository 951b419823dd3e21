-- An entry that an object has is found.
use Rattle.segment_manager.proofs.segment.Segment.listed_under.Goals as goal
use Rattle.segment_manager.proofs.Common.{HasEntries, IsListed, Some, subst, sym}
use Rattle.segment_manager.proofs.{indexes.Bridge.denotes-sorted_index, objects.Locating.listed-found}

pub lookup-requires-clause-index : goal.lookup-requires-clause-index
lookup-requires-clause-index c = denotes-sorted_index c.args.index c.self.invariant.1.denotes

pub returns-in-Found : goal.returns-in-Found
returns-in-Found c = λ h each. subst
    (λ t. IsListed t h (Some (record { index = c.args.index; place = c.in-Found.place }))) c.self.view_is (record {
      entry = c.args.entry;
      leads = subst (λ t. HasEntries t c.args.index c.args.entry h) (sym c.self.view_is) each;
      found = c.in-Found.ensures.place;
    })

pub returns-in-Absent : goal.returns-in-Absent
returns-in-Absent c = λ h each.
    listed-found c.self.view_is c.args.index c.args.entry h c.in-Absent.field-0 c.in-Absent.ensures.place each
