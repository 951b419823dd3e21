use Rattle.std.proofs.Common.{ℕ, List, [], ◌∷◌, ◌++◌, length, ap, sym, ◌∙◌, refl, subst, arith, length-append}
use Rattle.segment_log.specs.Records.{recovered}
use Rattle.segment_log.specs.Edits.{applied_all, len_after, lens_after, most_len, Holds}
use Rattle.segment_log.proofs.edits.Reading.{applied_last}
use Rattle.segment_log.proofs.edits.Within.{length-applied_all, lens_last, most_first, most_step}
use Rattle.segment_log.proofs.records.Reading.{shorter}
use Rattle.segment_log.proofs.replaying.Runs.{run_starts, run_goes_on, run_ends, end_of_run}
use Rattle.segment_log.proofs.replaying.replay_within.Goals as goal

pub loop-payload-init : goal.loop-payload-init
loop-payload-init c = ([], run_starts 4096 c.args.log.now, refl, omega arith, λ image is held. held)

pub apply_within-so_far-requires-clause-in_bounds : goal.apply_within-so_far-requires-clause-in_bounds
apply_within-so_far-requires-clause-in_bounds c =
    omega (arith, most_first (recovered c.loop-payload.rest.now) c.loop-payload.so_far, c.loop-payload.invariant.3)

pub apply_within-so_far-requires-clause-room : goal.apply_within-so_far-requires-clause-room
apply_within-so_far-requires-clause-room c =
    let n : ℕ = c.loop-payload.so_far in
    omega (
      arith,
      most_step c.loop-payload.rest.now c.in-Some.payload.now c.in-Some.behind.now n c.in-Some.ensures,
      most_first (recovered c.in-Some.behind.now) (len_after c.in-Some.payload.now n),
      c.loop-payload.invariant.3,
    )

pub loop-payload-smaller : goal.loop-payload-smaller
loop-payload-smaller c =
    shorter 4096 c.loop-payload.rest.now (c.in-Some.payload.now, c.in-Some.behind.now) c.in-Some.ensures

pub loop-payload-preserved : goal.loop-payload-preserved
loop-payload-preserved c =
    let so_far = c.loop-payload.invariant in
    let payload : List ℕ = c.in-Some.payload.now in
    let behind : List ℕ = c.in-Some.behind.now in
    let len = c.apply_within-so_far.ensures.len in (
      so_far.0 ++ payload ∷ [],
      run_goes_on 4095 c.args.log.now c.loop-payload.rest.now so_far.0 payload behind so_far.1 c.in-Some.ensures,
      len ∙ ap (len_after payload) so_far.2 ∙ sym (lens_last so_far.0 payload c.args.len),
      omega (
        arith,
        most_step c.loop-payload.rest.now payload behind c.loop-payload.so_far c.in-Some.ensures,
        ap (most_len (recovered behind)) len,
        c.apply_within-so_far.auto.buffer,
        c.loop-payload.auto.buffer,
        so_far.3,
      ),
      λ image is held. subst (λ (l : List ℕ). Holds c.apply_within-so_far.new.buffer l)
          (sym (applied_last so_far.0 payload image))
          (c.apply_within-so_far.ensures.image (applied_all so_far.0 image)
          (length-applied_all so_far.0 image ∙ ap (lens_after so_far.0) is ∙ sym so_far.2) (so_far.4 image is held)),
    )

pub overflow_sub-result : goal.overflow_sub-result
overflow_sub-result c =
    let run = c.loop-payload.invariant.1 in
    omega (arith, ap length run.split, length-append run.prefix c.loop-payload.rest.now)

pub returns-clause-image : goal.returns-clause-image
returns-clause-image c =
    let so_far = c.loop-payload.invariant in
    let all = run_ends 4096 c.args.log.now c.loop-payload.rest.now so_far.0 so_far.1 c.in_default.ensures in
    λ image is held. subst (λ ps. Holds c.loop-payload.buffer (applied_all ps image)) (sym all) (so_far.4 image is held)

pub returns-clause-len : goal.returns-clause-len
returns-clause-len c =
    let so_far = c.loop-payload.invariant in
    so_far.2
    ∙ ap (λ (ps : List (List ℕ)). lens_after ps c.args.len)
    (sym (run_ends 4096 c.args.log.now c.loop-payload.rest.now so_far.0 so_far.1 c.in_default.ensures))

pub returns-clause-end : goal.returns-clause-end
returns-clause-end c =
    let so_far = c.loop-payload.invariant in
    end_of_run 4096 c.args.log.now c.loop-payload.rest.now so_far.0 _ so_far.1 c.in_default.ensures refl
