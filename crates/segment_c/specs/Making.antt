-- Objects that are made, or found and made if there are none.
use Rattle.std.specs.Prelude.{◌≡◌, ◌≤◌, ℕ}
use Rattle.seg_types.specs.Commands.{Construct, Content, FindOrConstruct}
use Rattle.seg_types.specs.{declared.kinds.Kind.Kind, Names.Key}
use Rattle.segment_manager.specs.Answers.{Answer, Found, Made}
use Rattle.segment_manager.specs.Keeping.{IsBoundKey, UnchangedWhere}
use Rattle.segment_manager.specs.State.{SegmentState, TakesStep}
use Rattle.segment_c.specs.{Codes.answer_for, Handles.MakesInHandle, declared.keys.CKey.CKey}
use Rattle.segment_c.specs.Passed.{entry_of, new_of}
use Rattle.segment_c.specs.declared.slot.Slot.{Slot}

-- the object of the key is found, and then nothing changes, or one of the content is made
pub record FindsOrMakesObject (s t : SegmentState) (key : Key) (content : Content) (answer : Answer) : Type 0 where
  pub step : TakesStep s t (FindOrConstruct key content) answer
  pub search : UnchangedWhere s t (IsBoundKey key)

-- a call makes an object of the content under a key, and says its handle
pub record TellsMade (wrong : ℕ) (key : CKey) (kind : Kind) (content : Content) (code : ℕ)
    (before after : Slot) (old new : ℕ) : Type 0
  where
    pub call : MakesInHandle wrong code before after (λ s t.
        TakesStep s t (Construct (new_of key kind) content) (answer_for code (Made new)))
    pub outputs_on_error : 1 ≤ code → new ≡ old

-- a call finds the object of a key, or makes one of the content, and says its handle and how many elements it has
pub record TellsFoundOrMade (wrong : ℕ) (key : CKey) (kind : Kind) (content : Content) (code : ℕ)
    (before after : Slot) (old new many many' : ℕ) : Type 0
  where
    pub call : MakesInHandle wrong code before after (λ s t.
        FindsOrMakesObject s t (entry_of key kind) content (answer_for code (Found new many')))
    pub outputs_on_error : 1 ≤ code → (new ≡ old) × (many' ≡ many)
