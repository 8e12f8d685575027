-- The lines of attempts, one after the other.
use Rattle.std.proofs.Common.{◌≡◌, ◌*◌, ◌++◌, ℕ, zero, suc, List, [], ◌∷◌, length, refl, arith}
use Rattle.history.specs.declared.journal.What.{What}
use Rattle.history.specs.declared.journal.What.TheVariants.{Began, Done, Fault, Overlapped, Refused, RolledBack}
use Rattle.journal_law.specs.Lawful.{AreAttempts}
use Rattle.session.specs.Attempts.{AreOverlaps, IsLastEnd}

pub overlaps_are : (n : ℕ) (whats : List What) → AreOverlaps n whats → AreAttempts whats
overlaps_are zero [] are = tt
overlaps_are (suc n) (Began ∷ Overlapped session item ∷ whats) are = overlaps_are n whats are
overlaps_are n whats are = absurd are

pub overlaps_more : (n : ℕ) (whats : List What) (session item : ℕ) → AreOverlaps n whats → AreOverlaps (suc n) (whats ++ Began ∷ Overlapped session item ∷ [])
overlaps_more zero [] session item are = tt
overlaps_more (suc n) (Began ∷ Overlapped s i ∷ whats) session item are = overlaps_more n whats session item are
overlaps_more n whats session item are = absurd are

pub overlaps_many : (n : ℕ) (whats : List What) → AreOverlaps n whats → length whats ≡ 2 * n
overlaps_many zero [] are = refl
overlaps_many (suc n) (Began ∷ Overlapped session item ∷ whats) are = omega (arith, overlaps_many n whats are)
overlaps_many n whats are = absurd are

-- the last attempt
last_end : (what : What) → IsLastEnd what → AreAttempts (Began ∷ what ∷ [])
last_end (Done label writes) is = tt
last_end RolledBack is = tt
last_end (Refused why) is = tt
last_end (Fault device count call) is = tt
last_end what is = absurd is

pub ended_are : (n : ℕ) (whats : List What) (what : What) → AreOverlaps n whats → IsLastEnd what → AreAttempts (whats ++ Began ∷ what ∷ [])
ended_are zero [] what are is = last_end what is
ended_are (suc n) (Began ∷ Overlapped session item ∷ whats) what are is = ended_are n whats what are is
ended_are n whats what are is = absurd are
