-- A line that is no command prints its error, leaves the segment where it is, and is refused.
use Rattle.std.proofs.Common.{◌≡◌, ℕ, true, List, Result, refl, sym, ap, subst, ◌∙◌}
use Rattle.seg_types.specs.Commands.{Reading}
use Rattle.seg_types.specs.declared.refusals.LineError.{LineError}
use Rattle.seg_types.specs.declared.refusals.LineError.TheVariants.{UnknownCommand, LineTooLong, BadSyntax}
use Rattle.raw_region.specs.Device.{WriterHistory, Writes}
use Rattle.segment_lang.specs.declared.forms.CommandForm.{CommandForm}
use Rattle.segment_lang.specs.Seen.{reading_by, wrong_reading}
use Rattle.segment_manager.specs.State.{SegmentState}
use Rattle.segment_scripts.specs.declared.answered.Answered.{Answered}
use Rattle.segment_scripts.specs.Refusing.{Tells, refuses}
use Rattle.segment_scripts.specs.Run.{error_line, respond}
use Rattle.segment_scripts.specs.Segments.{IsMachineAt, MachineState, Responds, state_after}
use Rattle.segment_scripts.proofs.listing.Output.{writes_owed}

printed : (at : MachineState) (e : LineError) → error_line e ≡ (respond at.mode at.directory (wrong_reading e)).0
printed at UnknownCommand = refl
printed at LineTooLong = refl
printed at BadSyntax = refl

refused : (at : MachineState) (e : LineError) → true ≡ refuses at.mode at.directory (wrong_reading e)
refused at UnknownCommand = refl
refused at LineTooLong = refl
refused at BadSyntax = refl

stays : (s : SegmentState) (at : MachineState) (e : LineError) → IsMachineAt s at
    → IsMachineAt s (state_after at (wrong_reading e))
stays s at UnknownCommand h = record { mode = h.mode; denotes = h.denotes; zeros = h.zeros }
stays s at LineTooLong h = record { mode = h.mode; denotes = h.denotes; zeros = h.zeros }
stays s at BadSyntax h = record { mode = h.mode; denotes = h.denotes; zeros = h.zeros }

-- a line that is no command is answered by its error
pub responds-wrong : {E : Type 0} {took took' : WriterHistory} {result : Result Answered E} {asked : Reading}
    (s : SegmentState) (e : LineError) → wrong_reading e ≡ asked → Writes took took' result (error_line e)
    → Tells result true
    → Responds s s took took' result asked
responds-wrong {took = took} {took' = took'} {result = result} {asked = asked} s e is w t = record {
  leads = λ at h. subst (λ (r : Reading). IsMachineAt s (state_after at r)) is (stays s at e h);
  writes = writes_owed w (λ at h. printed at e ∙ ap (λ (r : Reading). (respond at.mode at.directory r).0) is);
  tells = λ at h. subst (Tells result) (refused at e ∙ ap (refuses at.mode at.directory) is) t;
  idles = λ _ _ _. refl;
}

-- what the first word asks for is what the line asks for
pub responds-form : {E : Type 0} {old new : SegmentState} {took took' : WriterHistory} {result : Result Answered E}
    {f g : CommandForm} {asked : Reading} (rest : List ℕ) → f ≡ g → reading_by f rest ≡ asked
    → Responds old new took took' result (reading_by g rest) → Responds old new took took' result asked
responds-form {old = old} {new = new} {took = took} {took' = took'} {result = result} rest is e h =
    subst (Responds old new took took' result) (ap (λ f. reading_by f rest) (sym is) ∙ e) h
