-- A new segment of a legal size is made, in a region that has room for it.
use Rattle.std.proofs.Common.{◌≡◌, ◌≤◌, ℕ, Err, IsTrue, subst, min, arith}
use Rattle.std.proofs.lemmas.Bool.{false≢true}
use Rattle.raw_region.specs.Device.{ReadDelta}
use Rattle.block_tags.specs.Format.{is_legal_size}
use Rattle.block_tags.proofs.Laws.{legal}
use Rattle.segment_manager.specs.declared.modes.Mode.TheVariants.{Write}
use Rattle.segment_cli.specs.declared.faults.Start.TheVariants.{Fresh, Image}
use Rattle.segment_cli.specs.declared.faults.SessionFault.{SessionFault}
use Rattle.segment_cli.specs.declared.faults.SessionFault.TheVariants.{Image as Refused, BadSize, RegionTooSmall}
use Rattle.segment_cli.specs.declared.faults.SessionFault.TheVariants.{OutOfMemory, ReadFault, WriteFault}
use Rattle.segment_cli.specs.declared.faults.SessionFault.TheVariants.{ScriptTooLong}
use Rattle.segment_cli.specs.Beginning.{IsWhyNotBegun, BeginsSession}

fresh_is_no_image : (size : ℕ) → Fresh size ≡ Image → ⊥
fresh_is_no_image size e = cc

module _ (size capacity : ℕ) (is_legal : IsTrue (is_legal_size size)) (room : min size 1073741824 ≤ capacity)
    (image : ReadDelta) where
  begun : (fault : SessionFault) → IsWhyNotBegun (Fresh size) image 0 capacity fault → ⊥
  begun (Refused c) why = fresh_is_no_image size why.0
  begun BadSize why = false≢true (subst IsTrue why is_legal)
  begun RegionTooSmall why = let small = why.1 in let high = (legal size is_legal).high
      in omega (arith, small, high, room)
  begun (OutOfMemory refusal) why = fresh_is_no_image size why.0
  begun ReadFault why = fresh_is_no_image size why.0
  begun WriteFault why = why
  begun ScriptTooLong why = why

  -- a new segment of a legal size begins a session
  pub made : (fault : SessionFault) → BeginsSession (Fresh size) Write 0 capacity image (Err fault) → ⊥
  made fault h = begun fault h.answers
