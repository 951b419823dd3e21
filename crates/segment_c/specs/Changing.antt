-- What the calls do that change the object of a key, and answer a code alone.
use Rattle.std.specs.Prelude.{◌≡◌, ◌≤◌, ℕ, ◌∷◌, [], map, Option}
use Rattle.seg_types.specs.Commands.{Append as AppendTo, Assign, Clear as ClearAll, Erase as EraseAt, Insert, Pop, Push}
use Rattle.seg_types.specs.{Commands.Quoted, Commands.Set, Commands.Shrink, Names.Key}
use Rattle.seg_types.specs.declared.kinds.Kind.TheVariants.{String as StringKind, Strings as StringsKind}
use Rattle.segment_c.specs.{Calls.UnchangedOnCode as KeepsHandle, declared.changes.ObjectChange.ObjectChange}
use Rattle.segment_c.specs.declared.changes.ObjectChange.TheVariants.{Append, AssignText, AssignTexts, Clear, Erase}
use Rattle.segment_c.specs.declared.changes.ObjectChange.TheVariants.{InsertText, PopText, PushText, SetText, Trim}
use Rattle.segment_manager.specs.{Answers.Answer, Answers.refusal_of, containers.TextLists.LeadsOnOfKind}
use Rattle.segment_manager.specs.State.{TakesStep, TakesStepOfKind, SegmentState}

-- a change is this step of the machine
abbrev pub ChangesObject : ObjectChange → Key → SegmentState → SegmentState → Answer → Type 0
ChangesObject (Erase index) key s t answer = TakesStep s t (EraseAt key index) answer
ChangesObject PopText key s t answer = LeadsOnOfKind s t key StringsKind (Pop key) (refusal_of answer)
ChangesObject Trim key s t answer = TakesStep s t (Shrink key) answer
ChangesObject Clear key s t answer = TakesStep s t (ClearAll key) answer
ChangesObject (AssignText text) key s t answer =
    TakesStepOfKind s t key StringKind (Assign key (Quoted text.now ∷ [])) answer
ChangesObject (Append text) key s t answer = TakesStepOfKind s t key StringKind (AppendTo key text.now) answer
ChangesObject (SetText index text) key s t answer =
    TakesStepOfKind s t key StringsKind (Set key index (Quoted text.now)) answer
ChangesObject (PushText text) key s t answer = TakesStepOfKind s t key StringsKind (Push key (Quoted text.now)) answer
ChangesObject (InsertText index text) key s t answer =
    TakesStepOfKind s t key StringsKind (Insert key index (Quoted text.now)) answer
ChangesObject (AssignTexts texts) key s t answer =
    TakesStepOfKind s t key StringsKind (Assign key (map Quoted (map (λ text. text.now) texts.now))) answer

-- the call leaves the handle as it was; texts that find no room can leave other bytes in gaps
abbrev pub LeavesHandle : ObjectChange → ℕ → Option SegmentState → Option SegmentState → Type 0
LeavesHandle (PushText text) code old new = KeepsHandle code old new
LeavesHandle (InsertText index text) code old new = KeepsHandle code old new
LeavesHandle (AssignTexts texts) code old new = KeepsHandle code old new
LeavesHandle what code old new = 1 ≤ code → new ≡ old
