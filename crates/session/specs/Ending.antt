-- How a look ends, and what is told of it.
use Rattle.std.specs.Prelude.{◌≡◌, ◌⊎◌, ℕ, List, [], Option, Some, None, Result, Ok, Err, Contains, IfOk}
use Rattle.retro_base.specs.declared.refusal.Refusal.{Refusal}
use Rattle.retro_base.specs.declared.refusal.Refusal.TheVariants as refusal
use Rattle.journal_law.specs.Seats.{IsNew, Look, Looking, Moves, UnlookGives, View}
use Rattle.journal_law.specs.declared.seat.Ending.{Ending}
use Rattle.journal_law.specs.declared.seat.Ending.TheVariants as ending
use Rattle.session.specs.Wording.{refusal_text}

-- the end of a look that has this refusal in place of an answer; a fault of a device is an end of its own
abbrev pub ending_by : Refusal → Ending
ending_by (refusal.DiskFault device count) = ending.Failed device count
ending_by why = ending.Refused why

-- the end of a look that has this for its answer
abbrev pub ending_of : Result (List ℕ) Refusal → Ending
ending_of (Ok text) = ending.Asked
ending_of (Err why) = ending_by why

-- what is told of it
abbrev pub told_of : List (List ℕ) → Result (List ℕ) Refusal → List ℕ
told_of names (Ok text) = text
told_of names (Err why) = refusal_text names why

-- what is told of an item whose only line says this refusal; where the journal is full, or memory is wanting, it has
-- none, and is cut short
abbrev pub told_alone : List (List ℕ) → Refusal → Option (List ℕ)
told_alone names (refusal.JournalFull lines images) = None
told_alone names refusal.OutOfMemory = None
told_alone names why = Some (refusal_text names why)

-- why a look may have no answer: want of memory, a fault that its seat was told of, or a refusal in place of the answer
abbrev pub IsReason : {X : Type 0} → (Result X Refusal → Type 0) → View → Refusal → Type 0
IsReason Answers view (refusal.DiskFault device count) = Contains view.told (record { device = device; count = count })
    × IsNew view device count
IsReason Answers view (refusal.Overlap session item) = ⊥
IsReason Answers view why = (why ≡ refusal.OutOfMemory) ⊎ Answers (Err why)

-- what a look may end with that is to answer so
abbrev pub Concludes : {X : Type 0} → (Result X Refusal → Type 0) → View → Result X Refusal → Type 0
Concludes Answers view (Ok found) = Answers (Ok found)
Concludes Answers view (Err why) = IsReason Answers view why

-- An open look that is to answer so has gone on, and has ended; the text of its end is told, where there is memory for
-- it.
pub record LookEnds {E : Type 0} (names : List (List ℕ)) (Answers : Result (List ℕ) Refusal → Type 0) (old new : View)
    (told : Result (Option (List ℕ)) E) : Type 0 where
  pub between : View
  pub moves : Moves old between []
  pub work : between.work ≡ old.work
  pub text : Result (List ℕ) Refusal
  pub concludes : Concludes Answers between text
  pub ends : (look : Look) → old.work ≡ Looking look → UnlookGives (ending_of text) between new look
  pub tells : IfOk told (λ words. words ≡ Some (told_of names text))
