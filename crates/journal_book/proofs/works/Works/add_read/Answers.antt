use Rattle.std.proofs.Common.{◌≡◌, ◌∙◌, ℕ, List, length, Option, Some, None, refl, sym, ap, subst, set}
use Rattle.journal_book.specs.declared.work.Transaction.{Transaction}
use Rattle.journal_book.specs.declared.work.Work.{Work}
use Rattle.journal_book.specs.declared.work.Work.TheVariants.{Open}
use Rattle.std.specs.BTreeSet.{insert_key}
use Rattle.std.specs.Ordering.{nat_cmp}
use Rattle.journal_book.specs.Works.{Works, AreLatches, reading, work_at, with_work}
use Rattle.journal_book.proofs.Slots.{latches_open, one_open, refilled, with_work_same, works_is}
use Rattle.journal_book.proofs.works.Works.add_read.Goals as goal

abbrev with_reads : Transaction → List ℕ → Transaction
with_reads t keys = record t { reads = record { keys = keys } }

pub invariant_of-self : goal.invariant_of-self
invariant_of-self c =
    let new : Transaction = record c.open_slot-transaction.result { reads = c.insert.new.self } in
    let filled : c.fill.new.slots.items ≡ set (set c.self.inside.slots.items c.args.session None) c.args.session (Some (Open new)) =
    c.fill.ensures ∙ ap (λ (l : List (Option Work)). set l c.args.session (Some (Open new))) c.open_slot-transaction.ensures.slots in
    subst (AreLatches c.self.inside.latches.items) (sym filled) (latches_open c.self.inside.latches.items c.self.inside.slots.items c.args.session c.open_slot-transaction.result new c.self.invariant c.open_slot-transaction.ensures.transaction refl)

pub invariant_of-self-in-Err : goal.invariant_of-self-in-Err
invariant_of-self-in-Err c =
    let new : Transaction = record c.open_slot-transaction.result { reads = c.insert.new.self } in
    let filled : c.fill-in-Err.new.slots.items ≡ set (set c.self.inside.slots.items c.args.session None) c.args.session (Some (Open new)) =
    c.fill-in-Err.ensures ∙ ap (λ (l : List (Option Work)). set l c.args.session (Some (Open new))) c.open_slot-transaction.ensures.slots in
    subst (AreLatches c.self.inside.latches.items) (sym filled) (latches_open c.self.inside.latches.items c.self.inside.slots.items c.args.session c.open_slot-transaction.result new c.self.invariant c.open_slot-transaction.ensures.transaction refl)

pub returns-in-Ok-clause-done : goal.returns-in-Ok-clause-done
returns-in-Ok-clause-done c = λ t is.
    let new : Transaction = record c.open_slot-transaction.result { reads = c.insert.new.self } in
    let keys : c.insert.new.self.keys ≡ insert_key nat_cmp c.open_slot-transaction.result.reads.keys c.args.page = c.in-Ok.ensures.keys in
    let read : new ≡ reading c.args.page c.open_slot-transaction.result = ap (with_reads c.open_slot-transaction.result) keys in
    let same : c.open_slot-transaction.result ≡ t = one_open c.open_slot-transaction.result t (sym c.open_slot-transaction.ensures.transaction ∙ ap (λ (w : Works). work_at w.slots c.args.session) c.self.view_is ∙ is) in
    let filled : c.fill.new.slots.items ≡ with_work c.self.inside.slots.items c.args.session (Some (Open new)) =
    c.fill.ensures ∙ ap (λ (l : List (Option Work)). set l c.args.session (Some (Open new))) c.open_slot-transaction.ensures.slots
    ∙ refilled c.self.inside.slots.items c.args.session (Open c.open_slot-transaction.result) (Some (Open new)) c.open_slot-transaction.ensures.transaction in
    works_is (length c.self.inside.latches.items) c.args.self.now.pages c.fill.new.slots.items (with_work c.args.self.now.slots c.args.session (Some (Open (reading c.args.page t)))) (ap (λ (w : Works). w.pages) c.self.view_is)
    (filled ∙ ap (λ (x : Transaction). with_work c.self.inside.slots.items c.args.session (Some (Open x))) (read ∙ ap (reading c.args.page) same)
    ∙ ap (λ (w : Works). with_work w.slots c.args.session (Some (Open (reading c.args.page t)))) c.self.view_is)

pub returns-in-Err-clause-refused : goal.returns-in-Err-clause-refused
returns-in-Err-clause-refused c =
    let new : Transaction = record c.open_slot-transaction.result { reads = c.insert.new.self } in
    let keys : c.insert.new.self.keys ≡ c.open_slot-transaction.result.reads.keys = c.in-Err.ensures.err in
    let same : new ≡ c.open_slot-transaction.result = ap (with_reads c.open_slot-transaction.result) keys in
    let filled : c.fill-in-Err.new.slots.items ≡ with_work c.self.inside.slots.items c.args.session (Some (Open new)) =
    c.fill-in-Err.ensures ∙ ap (λ (l : List (Option Work)). set l c.args.session (Some (Open new))) c.open_slot-transaction.ensures.slots
    ∙ refilled c.self.inside.slots.items c.args.session (Open c.open_slot-transaction.result) (Some (Open new)) c.open_slot-transaction.ensures.transaction in
    works_is (length c.self.inside.latches.items) c.args.self.now.pages c.fill-in-Err.new.slots.items c.args.self.now.slots (ap (λ (w : Works). w.pages) c.self.view_is)
    (filled ∙ ap (λ (x : Transaction). with_work c.self.inside.slots.items c.args.session (Some (Open x))) same
    ∙ with_work_same c.self.inside.slots.items c.args.session (Open c.open_slot-transaction.result) c.open_slot-transaction.ensures.transaction ∙ ap (λ (w : Works). w.slots) c.self.view_is)
