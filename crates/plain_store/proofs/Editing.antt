-- What edits give.
use Rattle.std.proofs.Common.{◌≡◌, ◌∙◌, ◌<◌, ◌&&◌, ℕ, true, false, not, List, length, sym, ap, subst}
use Rattle.std.specs.Prelude.{Ok, nat_le}
use Rattle.retro_base.specs.declared.limits.TheConstants.{EDITED_PAGES}
use Rattle.history.specs.Writes.{is_among, pages_of, rises}
use Rattle.journal_book.specs.Works.{with_edit}
use Rattle.journal_law.specs.Pages.{pins_of}
use Rattle.journal_law.specs.Seats as seat
use Rattle.plain_store.specs.Plain.{IsPlain, Plain, WorkFits, closing_lines, ground_of, view_of, work_in, zeros}
use Rattle.plain_store.specs.declared.work.Transaction.{Transaction}
use Rattle.plain_store.specs.declared.work.Work.{Work}
use Rattle.plain_store.specs.declared.work.Work.TheVariants as work
use Rattle.plain_store.proofs.Edited.{also_edits, edits_few, edits_inside}
use Rattle.plain_store.proofs.Gives.{attempt_is, waits}
use Rattle.plain_store.proofs.Stores.{working}

pub edit_keeps : (p : Plain) (t : Transaction) (page : ℕ) (bytes : List ℕ) (w : Work) → IsPlain p → p.work ≡ work.Open t → rises 0 (pages_of t.edits) ≡ true → page < p.base.page_count
    → (nat_le EDITED_PAGES (length t.edits) && not (is_among page (pages_of t.edits))) ≡ false → w ≡ work.Open (record t { edits = with_edit (record { page = page; bytes = bytes }) t.edits })
    → IsPlain (record { session = p.session; base = p.base; book = p.book; pages = p.pages; work = w })
edit_keeps p t page bytes w is open_now rise lt free e =
    let fits = subst (WorkFits p.session p.base.page_count p.book.lines (pins_of zeros p.book.lines)) open_now is.work in
    subst (λ (v : Work). IsPlain (record { session = p.session; base = p.base; book = p.book; pages = p.pages; work = v })) (sym e)
    (working p (work.Open (record t { edits = with_edit (record { page = page; bytes = bytes }) t.edits })) is (sym (ap closing_lines open_now))
    (fits.0, fits.1, edits_inside p.base.page_count (record { page = page; bytes = bytes }) t.edits lt fits.2, edits_few (record { page = page; bytes = bytes }) t.edits rise fits.3 free))

pub edit_gives : (p q : Plain) (t : Transaction) (page : ℕ) (bytes : List ℕ) (a : seat.Attempt) → p.work ≡ work.Open t → rises 0 (pages_of t.edits) ≡ true → q.session ≡ p.session → q.base ≡ p.base → q.book ≡ p.book
    → q.work ≡ work.Open (record t { edits = with_edit (record { page = page; bytes = bytes }) t.edits }) → (view_of p).work ≡ seat.Open a → seat.EditGives page bytes (view_of p) (view_of q) a (Ok tt)
edit_gives p q t page bytes a open_now rise session base book w view =
    let edits = with_edit (record { page = page; bytes = bytes }) t.edits in
    subst (λ (x : seat.Attempt). seat.EditGives page bytes (view_of p) (view_of q) x (Ok tt)) (attempt_is p t a open_now view) (
      edits,
      waits p q _ session (ap (λ b. ground_of (record p { base = b })) base) (ap (λ b. b.lines) book)
          (ap (work_in q.base.page_count q.book.lines) w
          ∙ ap (λ b. work_in b.page_count q.book.lines (work.Open (record t { edits = edits }))) base
          ∙ ap (λ b. work_in p.base.page_count b.lines (work.Open (record t { edits = edits }))) book),
      also_edits t.edits page bytes rise,
    )
