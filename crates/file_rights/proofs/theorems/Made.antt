-- Logs that are made with the rights of their file.
use Rattle.std.proofs.Common.{◌≡◌, inl, refl, sym, ◌∙◌, None, true}
use Rattle.file_rights.specs.declared.narrowing.AccessList.TheVariants.{Absent}
use Rattle.file_rights.specs.Rights.{to_write}
use Rattle.file_rights.specs.Access.{may_access}
use Rattle.file_rights.specs.LogRights.{file_of, log_mode}
use Rattle.file_rights.specs.Laws.{listed_mode, ListedFileKeepsWriters, LogOfOwnerCounts, NarrowedLogCounts}
use Rattle.file_rights.proofs.log_rights.Granting.{grants_as_mode}
use Rattle.file_rights.proofs.narrowing.Narrow.{mode_narrows}

-- a log with the rights that it gets counts
pub narrowed_log_counts : NarrowedLogCounts
narrowed_log_counts file log folder caller has_owner has_group trusted owners groups modes = record {
  maker = inl trusted;
  writers = λ user not_owner not_log may.
      let grants = (grants_as_mode file.mode (log_mode file.mode) refl).write user file.owner file.group in
      grants.0
      (mode_narrows (log_mode file.mode) Absent has_owner has_group log.mode modes
      (record { owner = file.owner; group = file.group; mode = log_mode file.mode; list = None }) log.owner log.group
      refl refl owners groups user to_write not_log may);
}

-- a log with the owner, the group and the rights of its file counts
pub log_of_owner_counts : LogOfOwnerCounts
log_of_owner_counts file log folder caller owners groups modes = record {
  maker = inl (inl owners);
  writers = λ user not_owner not_log may.
      let grants = (grants_as_mode file.mode log.mode modes).write user file.owner file.group in
      let same : may_access user (file_of log) to_write
      ≡ may_access user (record { owner = file.owner; group = file.group; mode = log.mode; list = None }) to_write =
      λ i. may_access user (record { owner = owners i; group = groups i; mode = log.mode; list = None }) to_write in
      grants.0 (sym same ∙ may);
}

-- beside a file with a list, a log without a list is compared with the mode that a new file would get without the list
pub listed_file_keeps_writers : ListedFileKeepsWriters
listed_file_keeps_writers file list log lists keeps user not_owner not_log may =
    mode_narrows file.mode list true true (listed_mode file.mode list) refl file file.owner file.group refl lists
    (λ same. refl) (λ same. refl) user to_write not_owner (keeps user not_owner not_log may)
