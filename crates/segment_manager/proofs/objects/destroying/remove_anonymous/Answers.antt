-- Once its contents are released its own block is in use.
use Rattle.segment_manager.proofs.objects.Destroys.{anonymous-gone, still-live}
use Rattle.segment_manager.proofs.objects.destroying.remove_anonymous.Goals as goal

pub deallocate-requires : goal.deallocate-requires
deallocate-requires c = let x = c.requires in still-live c.args.object c.release_contents.ensures x.stands x.is

pub returns : goal.returns
returns c =
    λ d o k e class. anonymous-gone c.args.object c.release_contents.ensures k e class c.deallocate.ensures.released
