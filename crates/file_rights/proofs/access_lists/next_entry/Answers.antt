use Rattle.file_rights.proofs.access_lists.Reading.{first_entry}
use Rattle.file_rights.proofs.access_lists.next_entry.Goals as goal

pub returns-in-len8-up-clause-value : goal.returns-in-len8-up-clause-value
returns-in-len8-up-clause-value c =
    first_entry c.args.bytes.now c.from.result c.from-in-len8-up.result _ c.from-in-len8-up-3.result
    c.from-in-len8-up-4.result c.from-in-len8-up-5.result c.from-in-len8-up-6.result c.of.result
    c.in-len8-up.len_at_least
    (record {
      tag = c.from.ensures;
      tag_high = c.from-in-len8-up.ensures;
      perm = c.from-in-len8-up-2.ensures;
      rights = c.of.ensures;
      first = c.from-in-len8-up-3.ensures;
      second = c.from-in-len8-up-4.ensures;
      third = c.from-in-len8-up-5.ensures;
      fourth = c.from-in-len8-up-6.ensures;
    })
