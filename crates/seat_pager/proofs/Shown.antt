-- What an attempt shows, call by call.
use Rattle.std.proofs.Common.{◌≡◌, ◌∙◌, ◌⊎◌, ℕ, true, List, Option, Some, None, Ok, Err, refl, sym, ap, subst, inl, inr}
use Rattle.retro_base.specs.declared.refusal.Refusal.{Refusal}
use Rattle.retro_base.specs.declared.refusal.Refusal.TheVariants as refusal
use Rattle.history.specs.Writes.{is_among}
use Rattle.history.specs.declared.journal.Line.{Line}
use Rattle.history.specs.declared.writes.PageImage.{PageImage}
use Rattle.journal_law.specs.Lawful.{Ground}
use Rattle.journal_law.specs.Pages.{Pages as Bytes, page_world}
use Rattle.journal_law.specs.Seats.{Agree, Attempt, EditGives, Idle, Looking, Open, ReadGives, View, Waits, Work, at_began, is_open}
use Rattle.pager.specs.Pages as pager
use Rattle.seat_pager.specs.Asked.{asked_behind}
use Rattle.seat_pager.specs.Transaction.{Tells, under}
use Rattle.seat_pager.proofs.Edits.{under_edit, written_at}

pub opened : (work : Work) → is_open work ≡ true → (a : Attempt) × (work ≡ Open a)
opened (Open a) is = (a, refl)
opened Idle is = cc
opened (Looking l) is = cc

pub same_open : (work : Work) (a b : Attempt) → work ≡ Open a → work ≡ Open b → b ≡ a
same_open work a b one two =
    let both : Open b ≡ Open a = sym two ∙ one in
    cc

pub open_still : (work : Work) (a : Attempt) → work ≡ Open a → is_open work ≡ true
open_still work a is = ap is_open is

began_same : (old new : View) (a b : Attempt) → new.opened ≡ old.opened → b.since ≡ a.since → at_began new b ≡ at_began old a
began_same old new a b ground since =
    ap (λ (g : Ground). (page_world g.pages b.since).current) ground ∙ ap (λ (ls : List Line). (page_world old.opened.pages ls).current) since

-- what it reads it reads still
pub tells_before : (old new : View) (asked : Option ℕ) (a b : Attempt) → old.work ≡ Open a → Waits old new (Open b) → b.since ≡ a.since → ((page : ℕ) → is_among page a.read ≡ true → is_among page b.read ≡ true)
    → (base shown : pager.Pages) → Tells new asked base shown → Agree a.read base.at (at_began old a) × (shown ≡ under base asked b.edits)
tells_before old new asked a b is waits since more base shown tells =
    let same : tells.attempt ≡ b = same_open new.work b tells.attempt waits.work_is tells.is_open in
    let agree = subst (λ (x : Attempt). Agree x.read base.at (at_began new x)) same tells.agree in
    let began = began_same old new a b waits.moves.opened since in (
      λ page among. agree page (more page among) ∙ ap (λ (pages : Bytes). pages page) began,
      tells.shows ∙ ap (λ (x : Attempt). under base asked x.edits) same,
    )

-- where only others have added lines, and the edits are as before
pub narrows : (old new : View) (asked : Option ℕ) (a b : Attempt) → old.work ≡ Open a → Waits old new (Open b) → b.since ≡ a.since → b.edits ≡ a.edits → ((page : ℕ) → is_among page a.read ≡ true → is_among page b.read ≡ true)
    → (base shown : pager.Pages) → Tells new asked base shown → Tells old asked base shown
narrows old new asked a b is waits since edits more base shown tells =
    let before = tells_before old new asked a b is waits since more base shown tells in
    let shows : shown ≡ under base asked a.edits = before.1 ∙ ap (λ (es : List PageImage). under base asked es) edits in
    record { attempt = a; is_open = is; agree = before.0; shows = shows }

-- the same of a store that is honest, and was so before
pub where_honest : (Was Is : Type 0) → (Is → Was) → (old new : pager.Pages → pager.Pages → Type 0) → pager.Narrows old new → pager.Narrows (λ base shown. Was × old base shown) (λ base shown. Is × new base shown)
where_honest Was Is before old new narrows base shown tells = (before tells.0, narrows base shown tells.1)

pub leads_where_honest : (Was Is : Type 0) → (Is → Was) → (old new step : pager.Pages → pager.Pages → Type 0) → pager.Leads old new step
    → pager.Leads (λ base shown. Was × old base shown) (λ base shown. Is × new base shown) step
leads_where_honest Was Is before old new step leads base shown tells =
    let was = leads base shown tells.1 in
    (was.0, (before tells.0, was.1), was.2)

-- a page that was read is as it is shown
pub read_told : (honest : Type 0) (page : ℕ) (out : List ℕ) (old new : View) (asked : Option ℕ) (a : Attempt) (u : Unit {0}) → ReadGives honest page out old new a (Ok u) → honest → (base shown : pager.Pages) → Tells new asked base shown → out ≡ shown.at page
read_told honest page out old new asked a u gives is_honest base shown tells =
    let b : Attempt = record a { read = gives.0 } in
    let same : tells.attempt ≡ b = same_open new.work b tells.attempt gives.1.work_is tells.is_open in
    let agree = subst (λ (x : Attempt). Agree x.read base.at (at_began new x)) same tells.agree in
    let began = began_same old new a b gives.1.moves.opened refl in
    let here : base.at page ≡ at_began old a page = agree page gives.2.here ∙ ap (λ (pages : Bytes). pages page) began in
    gives.3 is_honest ∙ sym (written_at a.edits page base.at (at_began old a) here)
    ∙ sym (ap (λ (p : pager.Pages). p.at page) (tells.shows ∙ ap (λ (x : Attempt). under base asked x.edits) same))

pub read_narrows : (honest : Type 0) (page : ℕ) (out : List ℕ) (old new : View) (asked : Option ℕ) (a : Attempt) (u : Unit {0}) → old.work ≡ Open a → ReadGives honest page out old new a (Ok u) → pager.Narrows (Tells old asked) (Tells new asked)
read_narrows honest page out old new asked a u is gives base shown tells = narrows old new asked a (record a { read = gives.0 }) is gives.1 refl refl gives.2.before base shown tells

-- an edit is shown over what was shown
pub edit_told : (page : ℕ) (bytes : List ℕ) (old new : View) (asked : Option ℕ) (a : Attempt) (u : Unit {0}) → old.work ≡ Open a → EditGives page bytes old new a (Ok u)
    → pager.Leads (Tells old asked) (Tells new asked) (λ was now. now ≡ pager.with_bytes was page bytes)
edit_told page bytes old new asked a u is gives base shown tells =
    let before = tells_before old new asked a (record a { edits = gives.0 }) is gives.1 refl (λ page h. h) base shown tells in
    (under base asked a.edits, record { attempt = a; is_open = is; agree = before.0; shows = refl }, before.1 ∙ under_edit base asked a.edits gives.0 page bytes gives.2)

-- the page counts as edited where its edit is refused as one too many
pub asked_told : (page : ℕ) (old new : View) (asked : Option ℕ) (a : Attempt) (kept : Option Refusal) (why : Refusal) → old.work ≡ Open a → Waits old new (Open (record a { kept = kept }))
    → pager.Leads (Tells old asked) (Tells new (asked_behind asked page why)) (λ was now. (now ≡ was) ⊎ (now ≡ pager.with_mark was page))
asked_told page old new asked a kept why is waits base shown tells = by_asked asked why tells
  where
    unasked : (asked : Option ℕ) → Tells new asked base shown → (was : pager.Pages) × Tells old asked base was × ((shown ≡ was) ⊎ (shown ≡ pager.with_mark was page))
    unasked asked tells = (shown, narrows old new asked a (record a { kept = kept }) is waits refl refl (λ page h. h) base shown tells, inl refl)

    by_asked : (asked : Option ℕ) (why : Refusal) → Tells new (asked_behind asked page why) base shown → (was : pager.Pages) × Tells old asked base was × ((shown ≡ was) ⊎ (shown ≡ pager.with_mark was page))
    by_asked None (refusal.TooManyPages needed) tells =
        let before = tells_before old new (Some page) a (record a { kept = kept }) is waits refl (λ page h. h) base shown tells in
        let was : pager.Pages = under base None a.edits in
        (was, record { attempt = a; is_open = is; agree = before.0; shows = refl }, inr before.1)
    by_asked None why tells = unasked None tells
    by_asked (Some other) why tells = unasked (Some other) tells

-- what is shown, behind a call that was refused
pub read_refused_narrows : (honest : Type 0) (page : ℕ) (out : List ℕ) (old new : View) (asked : Option ℕ) (a : Attempt) (why : Refusal) → old.work ≡ Open a → ReadGives honest page out old new a (Err why) → pager.Narrows (Tells old asked) (Tells new asked)
read_refused_narrows honest page out old new asked a (refusal.Overlap session item) is gives base shown tells =
    narrows old new asked a (record a { kept = Some (refusal.Overlap session item) }) is gives.0 refl refl (λ page h. h) base shown tells
read_refused_narrows honest page out old new asked a (refusal.DiskFault device count) is gives base shown tells =
    narrows old new asked a (record a { kept = Some (refusal.DiskFault device count) }) is gives.0 refl refl (λ page h. h) base shown tells
read_refused_narrows honest page out old new asked a why is gives base shown tells = narrows old new asked a a is gives.0 refl refl (λ page h. h) base shown tells

pub edit_refused_told : (page : ℕ) (bytes : List ℕ) (old new : View) (asked : Option ℕ) (a : Attempt) (why : Refusal) → old.work ≡ Open a → EditGives page bytes old new a (Err why)
    → pager.Leads (Tells old asked) (Tells new (asked_behind asked page why)) (λ was now. (now ≡ was) ⊎ (now ≡ pager.with_mark was page))
edit_refused_told page bytes old new asked a (refusal.Overlap session item) is gives = asked_told page old new asked a (Some (refusal.Overlap session item)) (refusal.Overlap session item) is gives.0
edit_refused_told page bytes old new asked a (refusal.DiskFault device count) is gives = asked_told page old new asked a (Some (refusal.DiskFault device count)) (refusal.DiskFault device count) is gives.0
edit_refused_told page bytes old new asked a (refusal.TooManyPages needed) is gives = asked_told page old new asked a (Some (refusal.TooManyPages needed)) (refusal.TooManyPages needed) is gives.0
edit_refused_told page bytes old new asked a why is gives = asked_told page old new asked a a.kept why is gives.0
