use Rattle.std.proofs.Common.{◌≤◌, length, min, arith, inl, inr, refl}
use Rattle.std.proofs.lemmas.Result.{err_from_is_err_and}
use Rattle.segment_commands.proofs.loading.Loads.{refused-fits, roomy-for}
use Rattle.segment_commands.proofs.loading.segment_of.Goals as goal

pub returns-clause-creation : goal.returns-clause-creation
returns-clause-creation c = λ f.
    let len = c.bytes_mut.ensures.len in
    let capacity = c.capacity-capacity.ensures.capacity in
    let room = c.in_ok-room.ensures.room in
    let wide : min (length c.args.text.now) 1073741824 ≤ length c.bytes_mut.result.now =
    omega (arith, len, capacity, room) in
    absurd (refused-fits c.args.text.now (length c.in_ok-region.region) c.args.size (length c.bytes_mut.result.now)
    c.wanted_size.result c.in-Err.refused c.in_ok-region.ensures.room wide c.wanted_size.ensures.size_request
    c.in-Err.ensures.success f)

pub returns-clause-load : goal.returns-clause-load
returns-clause-load c =
    let len = c.bytes_mut.ensures.len in
    let capacity = c.capacity-capacity.ensures.capacity in
    let room = c.in_ok-room.ensures.room in
    inl (record {
      region = c.in_ok-region.region;
      roomy = roomy-for c.args.text.now c.args.size c.wanted_size.result c.in_ok-region.region
          c.wanted_size.ensures.request c.in_ok-region.ensures.room;
      room = length c.bytes_mut.result.now;
      wide = omega (arith, len, capacity, room);
      cause = c.in-Err.refused.cause;
      why = c.in-Err.ensures.completion.why;
      needed = c.needed_by.result;
      needs = c.needed_by.ensures;
      fault_is = c.fault_of.ensures;
    })

pub returns-in_err-region-clause-load : goal.returns-in_err-region-clause-load
returns-in_err-region-clause-load c =
    let from = c.from_residual in let p = err_from_is_err_and from.result from.ensures.1 in
    rw (p.1, p.2, c.in_err-region.ensures.refused) (inr (record {
      asked = c.wanted_size.result;
      request = inr (c.wanted_size.ensures.request, c.wanted_size.ensures.size_request);
      refused = refl;
    }))

pub returns-in_err-room-clause-load : goal.returns-in_err-room-clause-load
returns-in_err-room-clause-load c =
    let from = c.from_residual-in_err-room in let p = err_from_is_err_and from.result from.ensures.1 in
    rw (p.1, p.2, c.in_err-room.ensures.refused) (inr (record {
      asked = length c.args.text.now;
      request = inl refl;
      refused = refl;
    }))
