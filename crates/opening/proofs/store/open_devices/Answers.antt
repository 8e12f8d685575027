use Rattle.std.proofs.Common.{◌∙◌, ℕ, List, IfErr, IfOk, OnOk, refl, sym, subst}
use Rattle.replay.specs.Joined.{AreJoined}
use Rattle.replay.specs.Opened.{contents_of, Opens}
use Rattle.opening.specs.Opening.{IsApart}
use Rattle.opening.proofs.Holding.{LogRead, joined_opens, joined_told, maplog_unopened, passed_on, read_only, untouched}
use Rattle.opening.proofs.store.open_devices.Goals as goal

pub returns-in_err-mappings-clause-cause : goal.returns-in_err-mappings-clause-cause
returns-in_err-mappings-clause-cause g c =
    let disks = c.args.disks.now in
    let log = c.in_ok-log.log in
    let read : LogRead g.D.Disk.extent g.D.Disk.faults g.D.Disk.is_honest g.D.Disk.state c.args.version disks log = record {
      log_size = c.in_ok-log.ensures.size;
      pages = sym c.size.ensures ∙ c.in_ok-sized.ensures ∙ c.pages_bytes.ensures;
      pagelog = sym c.size-2.ensures ∙ c.in_ok-sized-2.ensures ∙ c.pagelog_bytes.ensures;
      stands = c.in_ok-log.ensures.stands;
      whole = g.met.D.Disk.sized;
    } in
    let why = c.in_err-mappings.field-0.0 in
    passed_on c.from_residual-in_err-mappings.result _ _ why c.from_residual-in_err-mappings.ensures.1
    (maplog_unopened g.D.Disk.extent g.D.Disk.faults g.D.Disk.is_honest g.D.Disk.state c.args.version disks _ c.in_ok-log.ensures.cause refl refl log read why c.in_err-mappings.ensures.cause)

pub returns-in_err-pages-clause-unwritten : goal.returns-in_err-pages-clause-unwritten
returns-in_err-pages-clause-unwritten g c =
    let disks = c.args.disks.now in
    record {
      log = record { same = c.log_of.ensures.same; quiet = c.log_of.ensures.quiet };
      pages = read_only g.D.Disk.extent g.D.Disk.is_honest g.D.Disk.remembers g.D.Disk.state g.D.Disk.clock disks.pages c.pages_of.new.disk c.pages_of.ensures.same c.pages_of.ensures.quiet;
      pagelog = untouched g.D.Disk.extent g.D.Disk.is_honest g.D.Disk.remembers g.D.Disk.state g.D.Disk.clock g.met.D.Disk.only_now disks.pagelog;
      maplog = record { same = c.mappings_of.ensures.same; quiet = c.mappings_of.ensures.quiet };
    }

pub returns-clause-cause : goal.returns-clause-cause
returns-clause-cause g c =
    let disks = c.args.disks.now in
    let log = c.in_ok-log.log in
    let read : LogRead g.D.Disk.extent g.D.Disk.faults g.D.Disk.is_honest g.D.Disk.state c.args.version disks log = record {
      log_size = c.in_ok-log.ensures.size;
      pages = sym c.size.ensures ∙ c.in_ok-sized.ensures ∙ c.pages_bytes.ensures;
      pagelog = sym c.size-2.ensures ∙ c.in_ok-sized-2.ensures ∙ c.pagelog_bytes.ensures;
      stands = c.in_ok-log.ensures.stands;
      whole = g.met.D.Disk.sized;
    } in
    let pages = c.in_ok-pages.pages.items in
    let slots = c.in_ok-slots.slots.items in
    let mappings = c.in_ok-mappings.mappings in
    joined_told g.D.Disk.extent g.D.Disk.faults g.D.Disk.is_honest g.D.Disk.state c.args.version disks _ c.in_ok-log.ensures.cause c.in_ok-pages.ensures.cause c.in_ok-slots.ensures.cause c.in_ok-mappings.ensures.cause log read
    c.in_ok-mappings.ensures.size mappings c.in_ok-mappings.end c.in_ok-mappings.ensures.stands pages slots c.in_ok-pages.ensures.read c.in_ok-slots.ensures.read c.joined.result
    (subst (λ (l : List (List ℕ)). IfErr c.joined.result (IsApart (contents_of log pages mappings l) c.in_ok-mappings.end)) c.deref.ensures.value c.joined.ensures.refused)

pub returns-clause-opens : goal.returns-clause-opens
returns-clause-opens g c =
    let disks = c.args.disks.now in
    let log = c.in_ok-log.log in
    let read : LogRead g.D.Disk.extent g.D.Disk.faults g.D.Disk.is_honest g.D.Disk.state c.args.version disks log = record {
      log_size = c.in_ok-log.ensures.size;
      pages = sym c.size.ensures ∙ c.in_ok-sized.ensures ∙ c.pages_bytes.ensures;
      pagelog = sym c.size-2.ensures ∙ c.in_ok-sized-2.ensures ∙ c.pagelog_bytes.ensures;
      stands = c.in_ok-log.ensures.stands;
      whole = g.met.D.Disk.sized;
    } in
    let pages = c.in_ok-pages.pages.items in
    let slots = c.in_ok-slots.slots.items in
    let mappings = c.in_ok-mappings.mappings in
    joined_opens g.D.Disk.extent g.D.Disk.faults g.D.Disk.is_honest g.D.Disk.state c.args.version disks disks refl refl refl refl log read
    c.in_ok-mappings.ensures.size mappings c.in_ok-mappings.end c.in_ok-mappings.ensures.stands pages slots c.in_ok-pages.ensures.read c.in_ok-slots.ensures.read c.joined.result
    (subst (λ (l : List (List ℕ)). IfOk c.joined.result (Opens (contents_of log pages mappings l))) c.deref.ensures.value c.joined.ensures.opens)
    (subst (λ (l : List (List ℕ)). OnOk c.joined.result (AreJoined (contents_of log pages mappings l))) c.deref.ensures.value c.joined.ensures.joined)
