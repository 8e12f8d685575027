-- The lines that are kept for the faults of workers.
use Rattle.std.specs.Prelude.{◌≡◌, ◌⊎◌, ◌≤◌, ◌+◌, ◌||◌, ℕ, Bool, true, false, List, [], ◌∷◌, if◌then◌else◌}
use Rattle.retro_base.specs.declared.limits.TheConstants.{SESSIONS, WORKER_LINES}
use Rattle.history.specs.declared.journal.Line.{Line}
use Rattle.history.specs.declared.journal.What.{What}
use Rattle.history.specs.declared.journal.What.TheVariants.{Fault}
use Rattle.history.specs.Lines.{lines_of}
use Rattle.txn_set.specs.declared.ledger.Ledger.{Ledger}

abbrev pub tells_fault : What → Bool
tells_fault (Fault device count call) = true
tells_fault _ = false

-- whether one of these lines tells a fault
abbrev pub has_fault : List Line → Bool
has_fault [] = false
has_fault (line ∷ lines) = tells_fault line.what || has_fault lines

-- 1 where the session told a fault
abbrev pub told_by : ℕ → List Line → ℕ
told_by session lines = if has_fault (lines_of session lines) then 1 else 0

-- the two numbers behind those of the sessions
abbrev pub IsWorker : ℕ → Type 0
IsWorker number = (number ≡ SESSIONS) ⊎ (number ≡ SESSIONS + 1)

-- a worker that told no fault as yet
abbrev pub IsFreshWorker : ℕ → List Line → Type 0
IsFreshWorker number lines = IsWorker number × (has_fault (lines_of number lines) ≡ false)

-- A line is kept for each worker that told no fault.
abbrev pub WorkersFit : Ledger → Type 0
WorkersFit ledger =
    WORKER_LINES ≤ ledger.book.workers + told_by SESSIONS ledger.book.lines + told_by (SESSIONS + 1) ledger.book.lines
