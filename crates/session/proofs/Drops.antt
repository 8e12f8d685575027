-- Drops are run, and their replies are told.
use Rattle.std.proofs.Common.{◌≡◌, ◌∙◌, ℕ, true, List, [], ◌∷◌, Option, Some, Result, Ok, Err, inl, inr, refl, subst}
use Rattle.std.specs.Prelude.{IfOk}
use Rattle.retro_base.specs.declared.device.Device.{Device}
use Rattle.retro_base.specs.declared.refusal.Refusal.{Refusal}
use Rattle.retro_base.specs.declared.refusal.Refusal.TheVariants as refusal
use Rattle.retro_base.specs.declared.who.Who.{Who}
use Rattle.history.specs.declared.entry.Change.TheVariants as change
use Rattle.history.specs.declared.journal.FailedCall.{FailedCall}
use Rattle.history.specs.declared.journal.FailedCall.TheVariants.{Append, Write}
use Rattle.history.specs.declared.journal.What.TheVariants.{Dropped, Fault, Refused}
use Rattle.journal_law.specs.Lawful.{Ground, at_drop}
use Rattle.journal_law.specs.LinesFit.{IsAbove, LeavesDrop}
use Rattle.journal_law.specs.Seats.{Adds, DropGives, DropRefusedThere, Idle, IsNew, View, lines_before, place}
use Rattle.session.specs.Ending.{told_alone}
use Rattle.session.specs.Plan.{item_of}
use Rattle.session.specs.Singles.{Settles, item_drop_below}
use Rattle.session.specs.Sql.{sql}
use Rattle.session.specs.Wording.{refusal_text, words_of}
use Rattle.session.proofs.Looks.{drop_failed, drop_refused, dropped}
use Rattle.session.proofs.Settling.{cut_settles, finished_settles, fresh_of}

pub drop_settles : {E : Type 0} (names : List (List ℕ)) (who : Who) (below : ℕ) (old new : View) (words : Result (Option (List ℕ)) E) → DropGives who below old new (Ok tt)
    → IfOk words (λ w. w ≡ Some ((words_of names).dropped below)) → Settles who (item_drop_below names below) old new words
drop_settles names who below old new words gives tells = finished_settles who (item_drop_below names below) old new ((words_of names).dropped below) words
    (λ size plan may. record {
      whats = Dropped below ∷ [];
      run = tt;
      uncut = refl;
      ended = dropped (sql size) (item_of plan) who (item_drop_below names below) below old new (fresh_of size plan who (item_drop_below names below) old may) refl gives;
    })
    tells

refused_settles : {E : Type 0} (names : List (List ℕ)) (who : Who) (below : ℕ) (why : Refusal) (old new : View) (words : Result (Option (List ℕ)) E) → (added : Adds old new who (Refused why) Idle)
    → DropRefusedThere old new added.moves below why → IfOk words (λ w. w ≡ Some (refusal_text names why)) → Settles who (item_drop_below names below) old new words
refused_settles names who below why old new words added is tells = finished_settles who (item_drop_below names below) old new (refusal_text names why) words
    (λ size plan may. record {
      whats = Refused why ∷ [];
      run = tt;
      uncut = refl;
      ended = drop_refused (sql size) (item_of plan) who (item_drop_below names below) below why old new (fresh_of size plan who (item_drop_below names below) old may) refl added is;
    })
    tells

-- a device failed in it, or while room was made for it
failed_settles : {E : Type 0} (names : List (List ℕ)) (who : Who) (below : ℕ) (device : Device) (count : ℕ) (call : FailedCall) (old new : View) (words : Result (Option (List ℕ)) E) → (adds : Adds old new who (Fault device count call) Idle)
    → IsNew new device count → LeavesDrop (at_drop old.opened.pages (place old new adds.moves) (lines_before old new adds.moves)) below call → IfOk words (λ w. w ≡ Some (refusal_text names (refusal.DiskFault device count)))
    → Settles who (item_drop_below names below) old new words
failed_settles names who below device count call old new words adds above leaves tells =
    finished_settles who (item_drop_below names below) old new (refusal_text names (refusal.DiskFault device count)) words
    (λ size plan may. record {
      whats = Fault device count call ∷ [];
      run = tt;
      uncut = refl;
      ended = drop_failed (sql size) (item_of plan) who (item_drop_below names below) below device count call old new (fresh_of size plan who (item_drop_below names below) old may) refl
          (subst (λ (g : Ground). IsAbove g device count) adds.moves.opened above) adds leaves;
    })
    tells

-- a drop that is refused
pub drop_refused_settles : {E : Type 0} (names : List (List ℕ)) (who : Who) (below : ℕ) (why : Refusal) (old new : View) (words : Result (Option (List ℕ)) E) → DropGives who below old new (Err why)
    → IfOk words (λ w. w ≡ told_alone names why) → Settles who (item_drop_below names below) old new words
drop_refused_settles names who below (refusal.DiskFault device count) old new words gives tells =
    elim gives.0 [
      | inl adds ↦ failed_settles names who below device count Write old new words adds gives.1 tt tells
      | inr may ↦ failed_settles names who below device count (Append (change.Drop below)) old new words may.0 gives.1 (refl, may.1) tells
    ]
drop_refused_settles names who below (refusal.JournalFull lines images) old new words gives tells = cut_settles who (item_drop_below names below) old new words tt refl gives.0 tells
drop_refused_settles names who below refusal.OutOfMemory old new words gives tells = cut_settles who (item_drop_below names below) old new words tt refl gives tells
drop_refused_settles names who below why old new words gives tells = refused_settles names who below why old new words gives.0 gives.1 tells

-- what stands behind it
pub drop_left : (who : Who) (below : ℕ) (old new : View) (result : Result (Unit {0}) Refusal) → old.work ≡ Idle → DropGives who below old new result → (new.work ≡ Idle) × (new.session ≡ old.session)
drop_left who below old new (Ok u) idle gives = (gives.0.work_is, gives.0.moves.session)
drop_left who below old new (Err (refusal.DiskFault device count)) idle gives = elim gives.0 [
  | inl adds ↦ (adds.work_is, adds.moves.session)
  | inr may ↦ (may.0.work_is, may.0.moves.session)
]
drop_left who below old new (Err (refusal.JournalFull lines images)) idle gives = (gives.0.work_is ∙ idle, gives.0.moves.session)
drop_left who below old new (Err refusal.OutOfMemory) idle gives = (gives.work_is ∙ idle, gives.moves.session)
drop_left who below old new (Err why) idle gives = (gives.0.work_is, gives.0.moves.session)
