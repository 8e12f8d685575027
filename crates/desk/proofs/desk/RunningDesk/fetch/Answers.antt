use Rattle.std.proofs.Common.{◌≡◌, ◌∙◌, ◌⊎◌, inr, ℕ, [], ap, subst}
use Rattle.disk_model.proofs.Moments.{reads_write_nothing, writes_nothing_on}
use Rattle.disk_model.specs.Runs.{OnlyReads, WritesNothing}
use Rattle.desk.specs.Fetched.{ArePagesUnread, IsLogUnread, IsPagesRefusal}
use Rattle.desk.proofs.Joined.{fetches, match_on, match_two, whole_of}
use Rattle.desk.proofs.desk.RunningDesk.fetch.Goals as goal

pub returns-in-Ok-settled_pool-clause-cause : goal.returns-in-Ok-settled_pool-clause-cause
returns-in-Ok-settled_pool-clause-cause g c =
    let faults = g.D.Disk.faults in
    let honest = g.D.Disk.is_honest in
    let state = g.D.Disk.state in
    let seen = (state c.args.pages).seen in
    let pool = c.in-Ok-settled_pool.pool in
    let list = c.in-Ok.list in
    match_two c.open.result
    (λ desk. desk.log ≡ c.in-Ok.log) (λ desk. faults desk.pool.file.disk ≡ faults pool.file.disk) (λ desk. (faults desk.log.disk ≡ faults c.args.log) × (faults desk.pool.file.disk ≡ faults c.args.pages))
    (λ e. e.log ≡ c.in-Ok.log.disk) (λ e. IsPagesRefusal list (g.D.Disk.extent c.args.pages) seen c.args.mappings.now c.args.end (faults pool.file.disk) (faults e.pages) e.why)
    (λ e. IsLogUnread honest g.D.Disk.extent faults state c.args.version c.args.log c.args.pages e ⊎ ArePagesUnread honest g.D.Disk.extent faults state c.args.version c.args.log c.args.pages c.args.mappings.now c.args.end e)
    (λ desk same steady. (ap (λ s. faults s.disk) same ∙ c.in-Ok.ensures.cause, steady ∙ c.in-Ok-settled_pool.ensures.cause))
    (λ e same refused. inr (record {
      steady = ap faults same ∙ c.in-Ok.ensures.cause;
      list = list;
      lists = c.in-Ok.ensures.lists;
      refused = subst (λ (n : ℕ). IsPagesRefusal list (g.D.Disk.extent c.args.pages) seen c.args.mappings.now c.args.end n (faults e.pages) e.why) c.in-Ok-settled_pool.ensures.cause refused;
    }))
    c.open.ensures.log (c.open.ensures.cause (g.D.Disk.extent c.args.pages) seen c.in-Ok-settled_pool.ensures.side)

pub returns-in-Ok-settled_pool-clause-desk : goal.returns-in-Ok-settled_pool-clause-desk
returns-in-Ok-settled_pool-clause-desk g c =
    fetches g.D.Disk.is_honest g.D.Disk.state c.args.version c.args.log c.args.pages c.args.mappings.now c.in-Ok.list c.open.result c.in-Ok.ensures.lists
    (λ slots. c.open.ensures.desk (g.D.Disk.state c.args.pages).seen slots c.in-Ok-settled_pool.ensures.side) c.open.ensures.free

pub returns-in-Ok-settled_pool-clause-quiet_pages : goal.returns-in-Ok-settled_pool-clause-quiet_pages
returns-in-Ok-settled_pool-clause-quiet_pages g c = λ told.
    let remembers = g.D.Disk.remembers in
    let state = g.D.Disk.state in
    let clock = g.D.Disk.clock in
    let pages = c.args.pages in
    let mid = c.in-Ok-settled_pool.pool.file.disk in
    match_on c.open.result
    (λ desk. OnlyReads remembers state clock mid desk.pool.file.disk) (λ desk. WritesNothing remembers state clock pages desk.pool.file.disk)
    (λ e. OnlyReads remembers state clock mid e.pages) (λ e. WritesNothing remembers state clock pages e.pages)
    (λ desk reads. writes_nothing_on remembers state clock pages mid desk.pool.file.disk (c.in-Ok-settled_pool.ensures.quiet told) (reads_write_nothing remembers state clock mid desk.pool.file.disk reads))
    (λ e reads. writes_nothing_on remembers state clock pages mid e.pages (c.in-Ok-settled_pool.ensures.quiet told) (reads_write_nothing remembers state clock mid e.pages reads))
    (c.open.ensures.quiet (c.in-Ok-settled_pool.ensures.honest.0 told))

pub returns-in-Ok-settled_pool-clause-whole : goal.returns-in-Ok-settled_pool-clause-whole
returns-in-Ok-settled_pool-clause-whole g c = whole_of g.D.Disk.is_honest g.D.Disk.state c.open.result _ _ (c.open.ensures.desk (g.D.Disk.state c.args.pages).seen (λ slot. []) c.in-Ok-settled_pool.ensures.side)
