-- What a look at all snapshots tells of the answers of queries, call by call.
use Rattle.std.proofs.Common.{◌≡◌, ◌∙◌, ◌⊎◌, ℕ, true, Some, Result, IsTrue, inl, refl, sym, subst}
use Rattle.retro_base.specs.declared.refusal.Refusal.{Refusal}
use Rattle.retro_base.specs.declared.refusal.Refusal.TheVariants as refusal
use Rattle.pager.specs.Allows.{only}
use Rattle.pager.specs.Pages.{Pages}
use Rattle.pager.specs.Stop.{Allowed}
use Rattle.pager.specs.declared.stop.Stop.{Stop}
use Rattle.rql.specs.AsOf.{Answers}
use Rattle.sql_exec.specs.Stored.{IsStored}
use Rattle.sql_exec.proofs.Answering.{allowed-then}
use Rattle.sql_select.specs.declared.answer.Answer.{Answer}
use Rattle.sql_tree.specs.declared.select.Select.{Select}
use Rattle.tables.specs.Meaning.{asked}
use Rattle.tables.specs.Tables.{Tables}
use Rattle.journal_law.specs.Seats.{View, is_looking}
use Rattle.seat_pager.specs.Laws.{unedited}
use Rattle.seat_pager.specs.Past.{Shows, pins}
use Rattle.seat_pager.proofs.Looks.{looking, pins_fact}
use Rattle.session.specs.Asking.{TellsPast, of_query_alone}
use Rattle.session.proofs.AsOf.{shown_past}

-- the answer of a query at a snapshot is the one that is told
pub past_told : (query : Select) (snapshot now_at : ℕ) (still : Type 0) (old new : View) (answers : Answers) (result : Result Answer (Stop Refusal)) → is_looking old.work ≡ true → IsTrue (pins old snapshot)
    → new.opened ≡ old.opened → new.work ≡ old.work → now_at ≡ snapshot → still → TellsPast old answers
    → ((base shown : Pages) (tables : Tables) → still × Shows new now_at shown → IsStored old.opened.base.page_count shown tables → Allowed (λ (a : Answer). a) (only (asked query (Some snapshot) tables)) result)
    → Allowed (λ (a : Answer). a) (λ r. answers snapshot query ≡ r) result
past_told query snapshot now_at still old new answers result is pinned ground work at_same honest tells over =
    let look = looking old.work is in
    let pin = pins_fact old snapshot pinned look.0 look.1 in
    let here = tells look.0 snapshot pin.1.0 look.1 pin.1.1 in
    allowed-then (λ (a : Answer). a) (only (asked query (Some snapshot) here.tables)) (λ r. answers snapshot query ≡ r) (λ b h. sym (here.are query) ∙ h) result
    (over (unedited pin.1.0) (unedited pin.1.0) here.tables
    (honest, subst (λ (n : ℕ). Shows new n (unedited pin.1.0)) (sym at_same) (shown_past snapshot old new look.0 pin.1.0 ground work look.1 pin.1.1)) here.stored)

-- a refusal of the query, or want of memory in its place
pub alone_allowed : (allows : Refusal → Type 0) (why : Refusal) → (why ≡ refusal.OutOfMemory) ⊎ allows why → (of_query_alone why ≡ refusal.OutOfMemory) ⊎ allows (of_query_alone why)
alone_allowed allows (refusal.NotAStore device place) h = h
alone_allowed allows refusal.UnknownName h = h
alone_allowed allows refusal.NameTaken h = h
alone_allowed allows refusal.WrongType h = h
alone_allowed allows refusal.Overflow h = h
alone_allowed allows why h = inl refl
