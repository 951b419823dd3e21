use Rattle.std.proofs.Common.{◌≡◌, ◌≤◌, ◌++◌, length, take}
use Rattle.std.specs.Option.{IsSome}
use Rattle.segment_lang.specs.Tokens.{text_at, text_in}
use Rattle.segment_lang.proofs.tokens.Quoted.append_to.Given as goal

abbrev pub invariant-items : goal.invariant-items
invariant-items l = record {
  text : IsSome (text_at l.rest);
  copied : take 4096 (l.text ++ text_in l.rest) ≡ take 4096 (l.initial.text ++ l.self);
  room : length l.text ≤ 4096;
}

abbrev pub decreases-items : goal.decreases-items
decreases-items l = length l.rest
