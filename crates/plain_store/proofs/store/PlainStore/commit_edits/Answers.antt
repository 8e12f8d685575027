use Rattle.std.proofs.Common.{◌≡◌, ◌∙◌, ◌<◌, ℕ, List, Ok, length, refl, sym, ap, subst}
use Rattle.std.specs.Prelude.{Option}
use Rattle.std.specs.List.{AllByRecursion}
use Rattle.std.specs.Vec as Vec
use Rattle.std.specs.Option.{option_to_list}
use Rattle.history.specs.declared.journal.What.TheVariants.{Done}
use Rattle.history.specs.declared.writes.PageImage.{PageImage}
use Rattle.history.specs.History.{bases_after}
use Rattle.history.specs.Journal.{change_of}
use Rattle.history.specs.Marks.{newest}
use Rattle.history.proofs.PageLists.{written_back}
use Rattle.journal_book.specs.Book.{Book}
use Rattle.journal_law.specs.Seats as seat
use Rattle.plain_store.specs.Limits.{MayCommit}
use Rattle.plain_store.specs.Page.{AreCaptured, AreWritten, IsWithin, MayChange, PlainPage, page_at}
use Rattle.plain_store.specs.Plain.{IsPlain, Plain, view_of}
use Rattle.plain_store.specs.Work.{number_behind}
use Rattle.plain_store.specs.declared.work.Transaction.{Transaction}
use Rattle.plain_store.proofs.Committing.{captured_keeps, change_ground, commit_gives, commit_whole, edits_in_book, edits_in_pages, edits_same, number_free, two_back, within_base}
use Rattle.plain_store.proofs.Gives.{goes, mine_open}
use Rattle.plain_store.proofs.store.PlainStore.commit_edits.Goals as goal

pub capture_pages-requires-clause-within : goal.capture_pages-requires-clause-within
capture_pages-requires-clause-within c page =
    let p : Plain = record { session = c.self.inside.session; base = c.self.inside.base; book = c.self.inside.book; pages = c.self.inside.pages.items; work = c.self.inside.work } in
    let top : c.newest-newest.result ≡ newest p.base.marks = c.newest-newest.ensures ∙ ap newest c.marks.ensures in
    subst (λ (n : ℕ). IsWithin n (page_at c.deref_mut.result.now page)) (sym top) (subst (λ (ps : List PlainPage). IsWithin (newest p.base.marks) (page_at ps page)) (sym c.deref_mut.ensures.value) (within_base p c.self.invariant page))

pub invariant_of-self : goal.invariant_of-self
invariant_of-self c =
    let p : Plain = record { session = c.self.inside.session; base = c.self.inside.base; book = c.self.inside.book; pages = c.self.inside.pages.items; work = c.self.inside.work } in
    let top : c.newest-newest.result ≡ newest p.base.marks = c.newest-newest.ensures ∙ ap newest c.marks.ensures in
    let are : AreCaptured (newest p.base.marks) p.pages c.capture_pages.new.pages = subst (λ (n : ℕ). AreCaptured n p.pages c.capture_pages.new.pages) top (subst (λ (ps : List PlainPage). AreCaptured c.newest-newest.result ps c.capture_pages.new.pages) c.deref_mut.ensures.value c.capture_pages.ensures.captured) in
    let back = written_back c.self.inside.pages.items c.capture_pages.new.pages c.self.inside.pages.len are.long c.self.inside.pages.ok.0 in
    subst (λ (ps : List PlainPage). IsPlain (record { session = p.session; base = p.base; book = p.book; pages = ps; work = p.work })) (sym back) (captured_keeps p c.capture_pages.new.pages c.self.invariant are)

pub write_pages-requires : goal.write_pages-requires
write_pages-requires c =
    let p : Plain = record { session = c.self.inside.session; base = c.self.inside.base; book = c.self.inside.book; pages = c.self.inside.pages.items; work = c.self.inside.work } in
    let t : Transaction = c.take_transaction-edits.result in
    let open_is = c.take_transaction-edits.ensures.transaction in
    let top : c.newest-newest.result ≡ newest p.base.marks = c.newest-newest.ensures ∙ ap newest c.marks.ensures in
    let are : AreCaptured (newest p.base.marks) p.pages c.capture_pages.new.pages = subst (λ (n : ℕ). AreCaptured n p.pages c.capture_pages.new.pages) top (subst (λ (ps : List PlainPage). AreCaptured c.newest-newest.result ps c.capture_pages.new.pages) c.deref_mut.ensures.value c.capture_pages.ensures.captured) in
    let back = c.deref_mut-2.ensures.value ∙ written_back c.self.inside.pages.items c.capture_pages.new.pages c.self.inside.pages.len are.long c.self.inside.pages.ok.0 in
    subst (λ (ws : List PageImage). AllByRecursion (λ (w : PageImage). w.page < length c.deref_mut-2.result.now) ws) (sym c.images.ensures.value)
    (edits_in_pages p t c.deref_mut-2.result.now c.self.invariant open_is (ap length back ∙ are.long))

pub declared-number-requires : goal.declared-number-requires
declared-number-requires c some =
    let p : Plain = record { session = c.self.inside.session; base = c.self.inside.base; book = c.self.inside.book; pages = c.self.inside.pages.items; work = c.self.inside.work } in
    let t : Transaction = c.take_transaction-edits.result in
    let open_is = c.take_transaction-edits.ensures.transaction in
    let es : c.images-writes.result.now ≡ t.edits = c.images-writes.ensures.value ∙ edits_same p.work c.transaction.result.now t c.transaction.ensures open_is in
    let may : MayCommit p.base p.book.lines c.args.label t.edits = subst (MayCommit p.base p.book.lines c.args.label) es (c.commit_refused.ensures.free c.in_default.is) in
    let top : c.newest-newest.result ≡ newest p.base.marks = c.newest-newest.ensures ∙ ap newest c.marks.ensures in
    subst (λ (n : ℕ). n < 4294967295) (sym top) (number_free p c.args.label t.edits may some)

pub finish-requires-clause-pages : goal.finish-requires-clause-pages
finish-requires-clause-pages c =
    let p : Plain = record { session = c.self.inside.session; base = c.self.inside.base; book = c.self.inside.book; pages = c.self.inside.pages.items; work = c.self.inside.work } in
    edits_in_book p c.take_transaction-edits.result c.self.invariant c.take_transaction-edits.ensures.transaction

pub invariant_of-self-2 : goal.invariant_of-self-2
invariant_of-self-2 c =
    let p : Plain = record { session = c.self.inside.session; base = c.self.inside.base; book = c.self.inside.book; pages = c.self.inside.pages.items; work = c.self.inside.work } in
    let t : Transaction = c.take_transaction-edits.result in
    let open_is = c.take_transaction-edits.ensures.transaction in
    let es : c.images-writes.result.now ≡ t.edits = c.images-writes.ensures.value ∙ edits_same p.work c.transaction.result.now t c.transaction.ensures open_is in
    let may : MayCommit p.base p.book.lines c.args.label t.edits = subst (MayCommit p.base p.book.lines c.args.label) es (c.commit_refused.ensures.free c.in_default.is) in
    let top : c.newest-newest.result ≡ newest p.base.marks = c.newest-newest.ensures ∙ ap newest c.marks.ensures in
    let are : AreCaptured (newest p.base.marks) p.pages c.capture_pages.new.pages = subst (λ (n : ℕ). AreCaptured n p.pages c.capture_pages.new.pages) top (subst (λ (ps : List PlainPage). AreCaptured c.newest-newest.result ps c.capture_pages.new.pages) c.deref_mut.ensures.value c.capture_pages.ensures.captured) in
    let back = c.deref_mut-2.ensures.value ∙ written_back c.self.inside.pages.items c.capture_pages.new.pages c.self.inside.pages.len are.long c.self.inside.pages.ok.0 in
    let change : c.change.new.base ≡ bases_after p.base (option_to_list (change_of p.base (Done c.args.label t.edits))) = c.change.ensures ∙ ap (λ (l : Option (List ℕ)). bases_after p.base (option_to_list (change_of p.base (Done l t.edits)))) c.in_ok-mark.ensures in
    let changing : MayChange (newest p.base.marks) c.capture_pages.new.pages t.edits = subst (λ (n : ℕ). MayChange n c.capture_pages.new.pages t.edits) top (subst (MayChange c.newest-newest.result c.capture_pages.new.pages) es c.in_ok-capture_pages.ensures.may_change) in
    let wrote : AreWritten t.edits c.capture_pages.new.pages c.write_pages.new.pages = subst (λ (ps : List PlainPage). AreWritten t.edits ps c.write_pages.new.pages) back (subst (λ (ws : List PageImage). AreWritten ws c.deref_mut-2.result.now c.write_pages.new.pages) c.images.ensures.value c.write_pages.ensures) in
    commit_whole p t c.args.label c.change.new.base c.capture_pages.new.pages c.write_pages.new.pages _ c.finish.new.self c.take_transaction-edits.new.self c.self.invariant open_is c.images.ensures.rising may are changing wrote change c.finish.ensures c.take_transaction-edits.ensures.idle
    (two_back c.self.inside.pages.items c.capture_pages.new.pages c.write_pages.new.pages c.self.inside.pages.len c.self.inside.pages.ok.0 are.long wrote.long)

pub returns-clause-gives : goal.returns-clause-gives
returns-clause-gives c a open_now =
    let p : Plain = record { session = c.self.inside.session; base = c.self.inside.base; book = c.self.inside.book; pages = c.self.inside.pages.items; work = c.self.inside.work } in
    let t : Transaction = c.take_transaction-edits.result in
    let open_is = c.take_transaction-edits.ensures.transaction in
    let top : c.newest-newest.result ≡ newest p.base.marks = c.newest-newest.ensures ∙ ap newest c.marks.ensures in
    let change : c.change.new.base ≡ bases_after p.base (option_to_list (change_of p.base (Done c.args.label t.edits))) = c.change.ensures ∙ ap (λ (l : Option (List ℕ)). bases_after p.base (option_to_list (change_of p.base (Done l t.edits)))) c.in_ok-mark.ensures in
    let q : Plain = record { session = p.session; base = c.change.new.base; book = c.finish.new.self; pages = (Vec.with_items (Vec.with_items c.self.inside.pages c.capture_pages.new.pages) c.write_pages.new.pages).items; work = c.take_transaction-edits.new.self } in
    subst (λ (r : Plain). seat.CommitGives c.args.label (view_of r) (view_of q) a (Ok c.declared-number.result)) c.self.view_is
    (commit_gives p q t c.args.label c.declared-number.result a c.self.invariant open_is refl (change_ground p t c.args.label c.change.new.base change q.book q.pages q.work) (ap (λ (b : Book). b.lines) c.finish.ensures) c.take_transaction-edits.ensures.idle
    (c.declared-number.ensures ∙ ap (λ (n : ℕ). number_behind n c.args.label) top) (ap (λ (r : Plain). (view_of r).work) c.self.view_is ∙ open_now))

pub returns-clause-goes : goal.returns-clause-goes
returns-clause-goes c =
    let p : Plain = record { session = c.self.inside.session; base = c.self.inside.base; book = c.self.inside.book; pages = c.self.inside.pages.items; work = c.self.inside.work } in
    let t : Transaction = c.take_transaction-edits.result in
    let open_is = c.take_transaction-edits.ensures.transaction in
    let change : c.change.new.base ≡ bases_after p.base (option_to_list (change_of p.base (Done c.args.label t.edits))) = c.change.ensures ∙ ap (λ (l : Option (List ℕ)). bases_after p.base (option_to_list (change_of p.base (Done l t.edits)))) c.in_ok-mark.ensures in
    let q : Plain = record { session = p.session; base = c.change.new.base; book = c.finish.new.self; pages = (Vec.with_items (Vec.with_items c.self.inside.pages c.capture_pages.new.pages) c.write_pages.new.pages).items; work = c.take_transaction-edits.new.self } in
    goes p c.args.self.now q t.who (Done c.args.label t.edits) c.self.view_is refl (change_ground p t c.args.label c.change.new.base change q.book q.pages q.work) (mine_open p t c.self.invariant open_is) (λ fault. fault) (ap (λ (b : Book). b.lines) c.finish.ensures)
