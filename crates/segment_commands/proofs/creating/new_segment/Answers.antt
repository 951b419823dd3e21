use Rattle.std.proofs.Common.{◌≡◌, ℕ, IsTrue, Result, Ok, Err, MatchResult, inr, length, rules}
use Rattle.raw_region.specs.Device.{ReadDelta}
use Rattle.block_tags.specs.Format.{is_legal_size}
use Rattle.grow_shrink.specs.LargerRegion.{region_len}
use Rattle.segment_manager.specs.declared.modes.Mode.TheVariants.{Write}
use Rattle.segment_manager.specs.State.{SegmentState}
use Rattle.segment_cli.specs.declared.faults.SessionFault.{SessionFault}
use Rattle.segment_cli.specs.declared.faults.Start.TheVariants.{Fresh}
use Rattle.segment_cli.specs.Beginning.{BeginsSession}
use Rattle.segment_commands.specs.Commands.{IsFreshSegment}
use Rattle.segment_commands.specs.Faults.{region_refused}
use Rattle.segment_commands.proofs.changing.NewSegments.{made}
use Rattle.segment_commands.proofs.creating.new_segment.Goals as goal

fresh : (size capacity : ℕ) (image : ReadDelta) (result : Result SegmentState SessionFault)
    → capacity ≡ region_len size
    → ((fault : SessionFault) → BeginsSession (Fresh size) Write 0 capacity image (Err fault) → ⊥)
    → BeginsSession (Fresh size) Write 0 capacity image result
    → MatchResult result (IsFreshSegment size) (λ fault. fault ≡ region_refused size)
fresh size capacity image (Ok segment) room never starts =
    record { image = image; capacity = capacity; room = room; starts = starts }
fresh size capacity image (Err fault) room never starts = absurd (never fault starts)

pub returns : goal.returns
returns c =
    let legal : IsTrue (is_legal_size c.args.size) = search rules in
    inr (record {
      legal = legal;
      answers = fresh c.args.size (length c.in_ok-region.region) _ c.begin.result
          c.in_ok-region.ensures.len
          (made c.args.size (length c.in_ok-region.region) legal c.in_ok-region.ensures.room _) c.begin.ensures.start;
    })
