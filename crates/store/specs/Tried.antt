-- The attempts of a journal: a commit ends one that its item had open.
use Rattle.std.specs.Prelude.{◌≡◌, ◌++◌, ℕ, Bool, true, false, List, [], ◌∷◌, Option, Some, if◌then◌else◌}
use Rattle.retro_base.specs.declared.who.Who.{Who}
use Rattle.history.specs.declared.journal.Line.{Line}
use Rattle.history.specs.declared.journal.What.{What}
use Rattle.history.specs.declared.journal.What.TheVariants.{Began, Done}
use Rattle.history.specs.Sound.{same_item}
use Rattle.journal_book.specs.declared.work.Work.{Work}
use Rattle.journal_book.specs.declared.work.Work.TheVariants.{Open}
use Rattle.journal_book.specs.Works.{work_at}
use Rattle.txn_set.specs.declared.ledger.Ledger.{Ledger}

abbrev pub is_began : What → Bool
is_began Began = true
is_began what = false

-- whether an attempt of the item is open behind lines, where this was so before them: its last line tells
abbrev pub trying_from : Who → Bool → List Line → Bool
trying_from who open_before [] = open_before
trying_from who open_before (line ∷ lines) =
    trying_from who (if same_item line.who who then is_began line.what else open_before) lines

abbrev pub is_trying : Who → List Line → Bool
is_trying who lines = trying_from who false lines

-- a commit is of an item that has an attempt open before it
abbrev pub EndsAttempt : List Line → Who → What → Type 0
EndsAttempt before who (Done label writes) = is_trying who before ≡ true
EndsAttempt before who what = Unit {0}

-- each of these lines is, behind those
abbrev pub AllEndAttempts : List Line → List Line → Type 0
AllEndAttempts before [] = Unit {0}
AllEndAttempts before (line ∷ lines) =
    EndsAttempt before line.who line.what × AllEndAttempts (before ++ line ∷ []) lines

-- an open transaction is an attempt of its item that is open, and of the session that has it
abbrev pub IsAttempt : List Line → ℕ → Option Work → Type 0
IsAttempt lines session (Some (Open t)) = (t.who.session ≡ session) × (is_trying t.who lines ≡ true)
IsAttempt lines session work = Unit {0}

-- each commit ended an attempt, and what sessions have open are attempts
pub record AreTried (ledger : Ledger) : Type 0 where
  pub commits : AllEndAttempts [] ledger.book.lines
  pub works : (session : ℕ) → IsAttempt ledger.book.lines session (work_at ledger.works.slots session)
