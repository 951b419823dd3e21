-- The laws of sessions and migrations, for crates that run their steps one by one.

-- a reader and a writer that were not used, and a writer that took a part of an image
pub use Rattle.segment_cli.proofs.sessions.Ends.{IsUnwritten, not_asked, not_written, prefix_added}
-- a session by its outcome: no segment, a script that was not run to its end, done, or an image not saved whole
pub use Rattle.segment_cli.proofs.sessions.Ends.{unbegun_session, stopped_session, done_session, unsaved_session}
-- the zero gaps of the image that a session saved
pub use Rattle.segment_cli.proofs.sessions.Ends.{done_zeros, no_zeros, unsaved_zeros}
-- a migration by its outcome: an image written whole, not opened, not written whole
pub use Rattle.segment_cli.proofs.migrations.Outcomes.{migrated, not-migrated, unmigrated}
