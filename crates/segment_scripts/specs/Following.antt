-- That an observer is asked before a line is answered.

-- the observer was asked with the writer as it was, before anything else was done with it: what `before_line` does led
-- from both to the observer as it is now, and to some state of the writer
abbrev pub AsksObserver : {F W : Type 0} → (F → W → F → W → Type 0) → F → F → W → Type 0
AsksObserver {F} {W} turns old new out = (after : W) × turns old out new after
