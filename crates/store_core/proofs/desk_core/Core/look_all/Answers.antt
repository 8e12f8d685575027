use Rattle.std.proofs.Common.{◌≡◌, ◌∙◌, true, List, map, sym, ap, subst}
use Rattle.std.specs.Prelude.{OnOk}
use Rattle.history.specs.declared.entry.Base.{Base}
use Rattle.history.specs.declared.entry.Mark.{Mark}
use Rattle.history.specs.declared.journal.What.TheVariants.{LookedAll}
use Rattle.history.specs.Writes.{rises}
use Rattle.txn_set.specs.Ledger.{given_up, looking, opened}
use Rattle.store_core.proofs.Looked.{core_looks_all, retained_rise}
use Rattle.store_core.proofs.desk_core.Core.look_all.Goals as goal

pub look_all-requires-clause-rising : goal.look_all-requires-clause-rising
look_all-requires-clause-rising g c =
    subst (λ (marks : List Mark). rises 0 (map (λ (mark : Mark). mark.number) marks) ≡ true) (sym (c.marks.ensures ∙ ap (λ (b : Base). b.marks) c.base.ensures))
    (retained_rise g.D.Disk.is_honest g.D.Disk.state c.requires.core.opening c.args.self.now c.requires.core.plain c.requires.core.is)

pub returns-clause-core : goal.returns-clause-core
returns-clause-core g c = λ opening plain is.
    core_looks_all g.D.Disk.is_honest g.D.Disk.state opening c.args.self.now plain is c.args.who c.look_all.new.self c.look_all.result c.requires.idle
    (record {
      full = c.look_all.ensures.full;
      done = subst (λ (marks : List Mark). OnOk c.look_all.result (c.look_all.new.self
          ≡ opened c.args.who LookedAll (looking c.args.who c.args.self.now.ledger.book.lines (map (λ (mark : Mark). mark.number) marks)) (given_up c.args.who c.args.self.now.ledger)))
          (c.marks.ensures ∙ ap (λ (b : Base). b.marks) c.base.ensures) c.look_all.ensures.done;
      memory = c.look_all.ensures.memory;
      stays = c.look_all.ensures.stays;
    }) c.look_all.ensures.fits
