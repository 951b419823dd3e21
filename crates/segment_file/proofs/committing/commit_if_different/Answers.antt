use Rattle.std.proofs.Common.{inr}
use Rattle.segment_file.proofs.committing.commit_if_different.Goals as goal

pub returns-in-Ok : goal.returns-in-Ok
returns-in-Ok g c = rw c.in-Different.is (inr (record {
  begun = c.begin_log.new.self;
  files = c.in-Ok.ensures.files;
  first = c.in-Ok.first;
  asked = c.in-Ok.ensures.asked;
  stands = c.in-Ok.ensures.committed;
  commits = c.commit_begun.ensures;
}))
