use Rattle.std.proofs.Common.{Ok, Err, arith}
use Rattle.segment_file.proofs.opening.Openings.{contents-kept, replay-opens}
use Rattle.segment_file.proofs.opening.open_replay.Goals as goal

pub returns-in-Ok-clause-opening : goal.returns-in-Ok-clause-opening
returns-in-Ok-clause-opening g c =
    let r = c.args.reader.now in
    let r' = c.open_image.new.reader in
    let fresh = c.requires.fresh in
    let sound = (r.start (omega (arith, fresh))).sound in
    replay-opens r.front r'.front r'.given (g.S.Source.history r.inner) (g.S.Source.history r'.inner) r.len r'.len
    sound c.args.versions c.args.region c.args.mode (Ok c.in-Ok.segment) r'.start r'.contents
    (rw fresh at c.in-Ok.ensures.history.grows) (rw fresh at c.in-Ok.ensures.opening) tt c.requires.max_size

pub returns-in-Ok-clause-contents : goal.returns-in-Ok-clause-contents
returns-in-Ok-clause-contents g c =
    let r = c.args.reader.now in
    let r' = c.open_image.new.reader in
    let fresh = c.requires.fresh in
    let sound = (r.start (omega (arith, fresh))).sound in
    contents-kept r.front r'.front r'.given (g.S.Source.history r.inner) (g.S.Source.history r'.inner) r.len r'.len
    sound (rw fresh at c.in-Ok.ensures.history.grows) r'.contents

pub returns-in-Err-clause-opening : goal.returns-in-Err-clause-opening
returns-in-Err-clause-opening g c =
    let r = c.args.reader.now in
    let r' = c.open_image.new.reader in
    let fresh = c.requires.fresh in
    let sound = (r.start (omega (arith, fresh))).sound in
    replay-opens r.front r'.front r'.given (g.S.Source.history r.inner) (g.S.Source.history r'.inner) r.len r'.len
    sound c.args.versions c.args.region c.args.mode (Err c.in-Err.refused) r'.start r'.contents
    (rw fresh at c.in-Err.ensures.history.grows) (rw fresh at c.in-Err.ensures.opening)
    (rw fresh at c.in-Err.ensures.place) c.requires.max_size

pub returns-in-Err-clause-contents : goal.returns-in-Err-clause-contents
returns-in-Err-clause-contents g c =
    let r = c.args.reader.now in
    let r' = c.open_image.new.reader in
    let fresh = c.requires.fresh in
    let sound = (r.start (omega (arith, fresh))).sound in
    contents-kept r.front r'.front r'.given (g.S.Source.history r.inner) (g.S.Source.history r'.inner) r.len r'.len
    sound (rw fresh at c.in-Err.ensures.history.grows) r'.contents
