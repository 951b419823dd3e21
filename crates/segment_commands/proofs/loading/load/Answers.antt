use Rattle.std.proofs.Common.{rules, inl, inr, refl}
use Rattle.std.proofs.lemmas.Result.{err_from_is_err_and}
use Rattle.segment_commands.proofs.changing.Outcome.{segment_written}
use Rattle.segment_commands.proofs.loading.Loads.{unmade}
use Rattle.segment_commands.proofs.loading.load.Goals as goal

pub returns-clause-effect : goal.returns-clause-effect
returns-clause-effect g c = rw c.written.ensures (inr (record {
  found = c.path_status.result;
  is = search rules;
  looked = c.path_status.new.self;
  asked = c.path_status.ensures;
  goes = inr (segment_written _ _ _ _ _ _ c.in_ok-segment.segment c.in_ok-segment.ensures.effect c.write_made.result
      c.write_made.ensures);
}))

pub returns-clause-success : goal.returns-clause-success
returns-clause-success g c = rw c.written.ensures (record {
  loads = λ text r f. inr (inr (record {
    found = c.path_status.result;
    is = search rules;
    looked = c.path_status.new.self;
    asked = c.path_status.ensures;
    goes = segment_written _ _ _ _ _ _ c.in_ok-segment.segment c.in_ok-segment.ensures.effect c.write_made.result
        c.write_made.ensures;
  }));
})

pub returns-in_err-segment-clause-success : goal.returns-in_err-segment-clause-success
returns-in_err-segment-clause-success g c =
    let from = c.from_residual in let p = err_from_is_err_and from.result from.ensures.1 in
    rw (p.1, p.2) (record {
      loads = λ text r f. inr (inl (
        c.in_err-segment.field-0.0,
        unmade c.args.size (g.S.Source.history c.args.script.now) (g.S.Source.history c.load_dump.new.script)
            c.in_err-segment.field-0.0 text c.in_err-segment.ensures.effect r f,
        refl,
      ));
    })
