use Rattle.std.proofs.Common.{◌≡◌, ℕ, ◌-◌, ◌≤◌, List, ◌++◌, length, take, replicate, ap, sym, ◌∙◌, arith}
use Rattle.std.proofs.lemmas.List.{take_all, take_at}
use Rattle.segment_log.specs.Records.{recovered, zeros}
use Rattle.segment_log.specs.Edits.{applied_all, lens_after, Holds}
use Rattle.segment_log.proofs.edits.Within.{held_front, holds_with, length-applied_all, most_first}
use Rattle.segment_log.proofs.replaying.replay.Goals as goal

holds_filled : (buffer image : List ℕ) (most n : ℕ) → length image ≤ most → buffer ≡ take most image ++ replicate n 0
    → Holds buffer image
unfolding zeros
holds_filled buffer image most n le is =
    holds_with buffer image n (is ∙ ap (λ (l : List ℕ). l ++ replicate n 0) (take_all most image le))

pub overflow_sub-most : goal.overflow_sub-most
overflow_sub-most c =
    omega (arith, most_first (recovered c.args.log.now) c.len-len.result, c.most_len-most.ensures)

pub returns-clause-image : goal.returns-clause-image
returns-clause-image c =
    let image : List ℕ = c.args.image.now.items in
    let payloads : List (List ℕ) = recovered c.args.log.now in
    let most : ℕ = c.most_len-most.result in
    let room : length image ≤ most =
    omega (arith, most_first payloads c.len-len.result, c.most_len-most.ensures, c.len-len.ensures) in
    let more : ℕ = most - c.reserve_exact.new.self.len in
    let filled : c.as_mut_slice.result.now ≡ take most image ++ replicate more 0 =
    c.as_mut_slice.ensures.value ∙ c.in_ok-resize.ensures.items
    ∙ ap (λ (l : List ℕ). take most l ++ replicate more 0) c.in_ok-reserve_exact.ensures.items in
    let len : length image ≡ c.len-len.result = omega (arith, c.len-len.ensures) in
    let made = c.replay_within-made.ensures.image image len
    (holds_filled c.as_mut_slice.result.now image most more room filled) in
    let same : length c.replay_within-made.new.buffer ≡ c.resize.new.self.len =
    omega (arith, c.replay_within-made.auto.buffer, c.as_mut_slice.ensures.len) in
    c.truncate.ensures.items
    ∙ ap (λ (l : List ℕ). take c.replay_within-made.result.len l)
    (take_at c.replay_within-made.new.buffer _ c.resize.new.self.len same)
    ∙ held_front c.replay_within-made.new.buffer (applied_all payloads image) made c.replay_within-made.result.len
    (length-applied_all payloads image ∙ ap (λ n. lens_after payloads n) len ∙ sym c.replay_within-made.ensures.len)
