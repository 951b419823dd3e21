use Rattle.segment_dump.proofs.Common.{refl}
use Rattle.segment_dump.proofs.loading.Success.{trims-none, trims-some}
use Rattle.segment_dump.proofs.loading.trim.Goals as goal

pub returns-in-None-clause-changes : goal.returns-in-None-clause-changes
returns-in-None-clause-changes c =
    trims-none c.args.segment.now c.cut_end.new.segment c.args.size c.in-None.is c.requires.writing c.cut_end.ensures

pub returns-in-Some-clause-changes : goal.returns-in-Some-clause-changes
returns-in-Some-clause-changes c = trims-some c.args.segment.now c.args.size _ c.in-Some.is c.requires.writing

pub returns-in-Some-clause-place : goal.returns-in-Some-clause-place
returns-in-Some-clause-place c = record { before = refl; bytes = refl; capacity = refl; after = refl }

pub returns-in-None-clause-place : goal.returns-in-None-clause-place
returns-in-None-clause-place c = c.cut_end.ensures.place
