-- Queries as of a snapshot are run, and their replies are told.
use Rattle.std.proofs.Common.{◌≡◌, ◌∙◌, ◌⊎◌, ℕ, Bool, true, false, List, [], ◌∷◌, Option, Some, None, Result, Ok, Err, inl, inr, refl, ap, sym, subst}
use Rattle.std.specs.Prelude.{IfOk}
use Rattle.retro_base.specs.Gives.{Gives}
use Rattle.retro_base.specs.declared.refusal.Refusal.{Refusal}
use Rattle.retro_base.specs.declared.refusal.Refusal.TheVariants as refusal
use Rattle.retro_base.specs.declared.who.Who.{Who}
use Rattle.history.specs.declared.journal.What.TheVariants.{Refused}
use Rattle.pager.specs.Allows.{only}
use Rattle.pager.specs.Pages.{Pages}
use Rattle.pager.specs.Stop.{Allowed}
use Rattle.pager.specs.declared.stop.Stop.{Stop}
use Rattle.pager.specs.declared.stop.Stop.TheVariants as stop
use Rattle.sql_exec.specs.Stored.{IsStored}
use Rattle.sql_parts.specs.declared.parsed.AsOf.{AsOf as AsOfRecord}
use Rattle.sql_select.specs.declared.answer.Answer.{Answer}
use Rattle.sql_tree.specs.declared.select.Select.{Select}
use Rattle.tables.specs.Meaning.{asked}
use Rattle.tables.specs.Tables.{Tables}
use Rattle.journal_law.specs.Lawful.{Ground}
use Rattle.journal_law.specs.LinesFit.{Answers, At}
use Rattle.journal_law.specs.Pages.{Pages as Bytes, page_world}
use Rattle.journal_law.specs.Seats.{Adds, Idle, Look, LookGives, Looking, Pins, View, at_look, is_looking, place}
use Rattle.journal_law.specs.World.{as_of}
use Rattle.journal_law.proofs.LineFacts.{lines_fit}
use Rattle.seat_pager.specs.Laws.{unedited}
use Rattle.seat_pager.specs.Past.{IsTold, LooksOn, Shows}
use Rattle.seat_pager.proofs.Looks.{same_world}
use Rattle.session.specs.Ending.{Concludes, IsReason, LookEnds, told_alone}
use Rattle.session.specs.OneItem.{MayRun}
use Rattle.session.specs.Plan.{Plan, item_of}
use Rattle.session.specs.Singles.{AsksPast, Settles, concluded, item_as_of, of_query, of_seat}
use Rattle.session.specs.Sql.{sql, answer_told}
use Rattle.session.specs.Texts.{answer_text}
use Rattle.session.specs.Wording.{refusal_text}
use Rattle.session.proofs.Looks.{IsOpen, looked, refused_alone}
use Rattle.session.proofs.Settling.{cut_settles, finished_settles, fresh_of, look_settles}

-- ---- a look that does not begin

alone_settles : {E : Type 0} (names : List (List ℕ)) (who : Who) (query : AsOfRecord) (why : Refusal) (old new : View) (words : Result (Option (List ℕ)) E) → (added : Adds old new who (Refused why) Idle)
    → as_of query.snapshot (place old new added.moves) ≡ Err why → IfOk words (λ w. w ≡ Some (refusal_text names why)) → Settles who (item_as_of names query) old new words
alone_settles names who query why old new words added is tells = finished_settles who (item_as_of names query) old new (refusal_text names why) words
    (λ size plan may. record {
      whats = Refused why ∷ [];
      run = tt;
      uncut = refl;
      ended = refused_alone (sql size) (item_of plan) who (item_as_of names query) query.snapshot why old new (fresh_of size plan who (item_as_of names query) old may) refl added is;
    })
    tells

pub look_refused_settles : {E : Type 0} (names : List (List ℕ)) (who : Who) (query : AsOfRecord) (why : Refusal) (old new : View) (words : Result (Option (List ℕ)) E) → LookGives who query.snapshot old new (Err why)
    → IfOk words (λ w. w ≡ told_alone names why) → Settles who (item_as_of names query) old new words
look_refused_settles names who query (refusal.JournalFull lines images) old new words gives tells = cut_settles who (item_as_of names query) old new words tt refl gives.0 tells
look_refused_settles names who query refusal.OutOfMemory old new words gives tells = cut_settles who (item_as_of names query) old new words tt refl gives tells
look_refused_settles names who query why old new words gives tells = alone_settles names who query why old new words gives.0 gives.1 tells

-- what stands behind it
pub look_left : (who : Who) (snapshot : ℕ) (old new : View) (why : Refusal) → old.work ≡ Idle → LookGives who snapshot old new (Err why) → (new.work ≡ Idle) × (new.session ≡ old.session)
look_left who snapshot old new (refusal.JournalFull lines images) idle gives = (gives.0.work_is ∙ idle, gives.0.moves.session)
look_left who snapshot old new refusal.OutOfMemory idle gives = (gives.work_is ∙ idle, gives.moves.session)
look_left who snapshot old new why idle gives = (gives.0.work_is, gives.0.moves.session)

-- ---- a look that has begun

pub is_now_looking : (who : Who) (snapshot : ℕ) (old new : View) → LookGives who snapshot old new (Ok tt) → is_looking new.work ≡ true
is_now_looking who snapshot old new gives = ap is_looking gives.1.work_is

since_same : (one other : Look) → Looking one ≡ Looking other → one ≡ other
since_same one other e = cc

pub pins_now : (who : Who) (snapshot : ℕ) (old new : View) → LookGives who snapshot old new (Ok tt) → (look : Look) → new.work ≡ Looking look → Pins new look snapshot
pins_now who snapshot old new gives look is =
    let one : Look = record { who = who; since = gives.0; snapshot = Some snapshot } in
    let same : one ≡ look = since_same one look (sym gives.1.work_is ∙ is) in
    subst (λ (l : Look). Pins new l snapshot) same (inl refl, (gives.3.0, ap (as_of snapshot) (same_world old new one gives.1.moves.opened) ∙ gives.3.1))

pub looked_settles : {E : Type 0} (names : List (List ℕ)) (who : Who) (query : AsOfRecord) (honest : Type 0) (old now new : View) (words : Result (Option (List ℕ)) E) → LookGives who query.snapshot old now (Ok tt) → honest
    → LookEnds names (AsksPast query.query query.snapshot honest now) now new words → Settles who (item_as_of names query) old new words
looked_settles names who query honest old now new words gives is_honest ends =
    look_settles who (item_as_of names query) (At query.snapshot) gives.0 (AsksPast query.query query.snapshot honest now) old now new words refl opens answers ends
  where
    opens : (size : ℕ) (plan : Plan) → MayRun size plan who (item_as_of names query) old → IsOpen (sql size) (item_of plan) who (At query.snapshot) gives.0 old now
    opens size plan may = looked (sql size) (item_of plan) who (item_as_of names query) query.snapshot old now (fresh_of size plan who (item_as_of names query) old may) refl gives

    held : as_of query.snapshot (page_world now.opened.pages gives.0) ≡ Ok gives.3.0
    held = ap (as_of query.snapshot) (same_world old now (record { who = who; since = gives.0; snapshot = Some query.snapshot }) gives.1.moves.opened) ∙ gives.3.1

    answers : (size : ℕ) (plan : Plan) → MayRun size plan who (item_as_of names query) old → (r : Result (List ℕ) Refusal) → AsksPast query.query query.snapshot honest now r
        → Answers (sql size) now.opened (item_as_of names query) gives.0 r
    answers size plan may r asks =
        let sized : now.opened.base.page_count ≡ size = ap (λ (g : Ground). g.base.page_count) gives.1.moves.opened ∙ may.sized in
        (lines_fit (sql size)).looks.as_of (item_of plan) now.opened [] who (item_as_of names query) may.is query.snapshot gives.0 gives.3.0 r refl held
        (λ tables stored. asks is_honest (record { who = who; since = gives.0; snapshot = Some query.snapshot }) gives.3.0 gives.1.work_is held tables
        (subst (λ (s : ℕ). IsStored s (unedited gives.3.0) tables) (sym sized) stored))

-- ---- the query over the pages that the look shows

-- what the query answers over the tables that the pages of the snapshot hold
abbrev pub AnswersPast : Select → ℕ → Type 0 → View → Result Answer (Stop Refusal) → Type 0
AnswersPast query snapshot honest view answer =
    honest → (look : Look) (held : Bytes) → view.work ≡ Looking look → as_of snapshot (at_look view look) ≡ Ok held
    → (tables : Tables) → IsStored view.opened.base.page_count (unedited held) tables → Allowed (λ (a : Answer). a) (only (asked query (Some snapshot) tables)) answer

-- where the look has gone on, the pages as of the snapshot are still shown
pub shown_past : (snapshot : ℕ) (old new : View) (look : Look) (held : Bytes) → new.opened ≡ old.opened → new.work ≡ old.work → old.work ≡ Looking look → as_of snapshot (at_look old look) ≡ Ok held
    → Shows new snapshot (unedited held)
shown_past snapshot old new look held ground work is stands = record {
  look = look;
  is_looking = work ∙ is;
  held = held;
  is_held = ap (as_of snapshot) (same_world old new look ground) ∙ stands;
  bytes = refl;
}

pub seat_reason : {X : Type 0} (Answered : Result X Refusal → Type 0) (view : View) (last : Option Refusal) → IsTold (record { view = view; refused = last }) → IsReason Answered view (of_seat last)
seat_reason Answered view (Some (refusal.DiskFault device count)) is = is (refusal.DiskFault device count) refl
seat_reason Answered view last is = inl refl

-- want of memory
abbrev pub is_memory : Refusal → Bool
is_memory refusal.OutOfMemory = true
is_memory why = false

pub not_memory : (why : Refusal) {X : Type 0} → is_memory why ≡ false → (why ≡ refusal.OutOfMemory) ⊎ X → X
not_memory why isnt (inl e) = absurd (clash (ap is_memory e) isnt)
  where
    clash : is_memory why ≡ true → is_memory why ≡ false → ⊥
    clash one two = cc
not_memory why isnt (inr x) = x

-- a query that is refused
query_reason : (query : Select) (snapshot : ℕ) (honest : Type 0) (old new : View) (why : Refusal) → AnswersPast query snapshot honest old (Err (stop.Refused why)) → IsReason (AsksPast query snapshot honest old) new (of_query why)
query_reason query snapshot honest old new (refusal.DiskFault device count) answers = inl refl
query_reason query snapshot honest old new (refusal.Overlap session item) answers = inl refl
query_reason query snapshot honest old new refusal.OutOfMemory answers = inl refl
query_reason query snapshot honest old new why answers = inr (λ is_honest look held is stands tables stored. ap (answer_told answer_text) (not_memory why refl (answers is_honest look held is stands tables stored)))

-- what it ends with
ends_with : (query : Select) (snapshot : ℕ) (honest : Type 0) (old new : View) (answer : Result Answer (Stop Refusal)) (last : Option Refusal) → AnswersPast query snapshot honest old answer
    → IsTold (record { view = new; refused = last }) → Concludes (AsksPast query snapshot honest old) new (concluded answer last)
ends_with query snapshot honest old new (Ok answer) last answers is = λ is_honest look held at stands tables stored. ap (answer_told answer_text) (answers is_honest look held at stands tables stored)
ends_with query snapshot honest old new (Err (stop.Refused why)) last answers is = query_reason query snapshot honest old new why answers
ends_with query snapshot honest old new (Err (stop.Pager fault)) last answers is = seat_reason (AsksPast query snapshot honest old) new last is

pub concludes_past : (query : Select) (snapshot : ℕ) (honest : Type 0) (old new : View) (answer : Result Answer (Stop Refusal)) (last : Option Refusal) (text : Result (List ℕ) Refusal)
    → AnswersPast query snapshot honest old answer → IsTold (record { view = new; refused = last }) → Gives (λ (words : List ℕ). words) text (concluded answer last)
    → Concludes (AsksPast query snapshot honest old) new text
concludes_past query snapshot honest old new answer last (Ok words) answers is gives = subst (Concludes (AsksPast query snapshot honest old) new) gives (ends_with query snapshot honest old new answer last answers is)
concludes_past query snapshot honest old new answer last (Err why) answers is (inl memory) = subst (IsReason (AsksPast query snapshot honest old) new) (sym memory) (inl refl)
concludes_past query snapshot honest old new answer last (Err why) answers is (inr gives) = subst (Concludes (AsksPast query snapshot honest old) new) gives (ends_with query snapshot honest old new answer last answers is)

-- what the query over a pager of the look ends with
pub asked_past : (query : Select) (snapshot now_at : ℕ) (honest still : Type 0) (old before after : View) (first last told_last : Option Refusal) (answer : Result Answer (Stop Refusal)) (text : Result (List ℕ) Refusal)
    → (honest → still) → before ≡ old → now_at ≡ snapshot → LooksOn (record { view = before; refused = first }) (record { view = after; refused = last }) → first ≡ None → told_last ≡ last
    → ((base shown : Pages) (tables : Tables) → still × Shows after now_at shown → IsStored before.opened.base.page_count shown tables → Allowed (λ (a : Answer). a) (only (asked query (Some snapshot) tables)) answer)
    → Gives (λ (words : List ℕ). words) text (concluded answer told_last) → Concludes (AsksPast query snapshot honest old) after text
asked_past query snapshot now_at honest still old before after first last told_last answer text stays same at_same goes begun told_same over gives =
    subst (λ (v : View). Concludes (AsksPast query snapshot honest v) after text) same
    (concludes_past query snapshot honest before after answer told_last text answers told_now gives)
  where
    nothing : (why : Refusal) → None ≡ Some why → ⊥
    nothing why e = cc

    answers : AnswersPast query snapshot honest before answer
    answers is_honest look held is stands tables stored =
        over (unedited held) (unedited held) tables
        (stays is_honest, subst (λ (n : ℕ). Shows after n (unedited held)) (sym at_same) (shown_past snapshot before after look held goes.moves.opened goes.work is stands)) stored

    told_now : IsTold (record { view = after; refused = told_last })
    told_now = subst (λ (r : Option Refusal). IsTold (record { view = after; refused = r })) (sym told_same) (goes.reasons (λ why e. absurd (nothing why (sym begun ∙ e))))
