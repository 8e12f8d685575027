use Rattle.std.proofs.Common.{rules}
use Rattle.plain_store.proofs.Commits.{may_commit}
use Rattle.plain_store.proofs.limits.commit_refused.Goals as goal

pub returns-in-Some-clause-refused : goal.returns-in-Some-clause-refused
returns-in-Some-clause-refused c = c.in-Some.ensures.refused c.args.base.now c.args.label.now

pub returns-in-Some-snapshots_refused-clause-refused : goal.returns-in-Some-snapshots_refused-clause-refused
returns-in-Some-snapshots_refused-clause-refused c = c.in-Some-snapshots_refused.ensures.refused c.args.book.now.lines c.args.writes.now

pub returns-clause-free : goal.returns-clause-free
returns-clause-free c none =
    may_commit c.args.base.now c.args.book.now.lines c.args.label.now c.args.writes.now c.requires.right (c.images_refused.ensures.free (search rules)) (c.snapshots_refused.ensures.free (search rules)) (c.archive_refused.ensures.free none)
