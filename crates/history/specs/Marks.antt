-- The retained snapshots: a list of marks, in rising number.
use Rattle.std.specs.Prelude.{◌<◌, ◌≤◌, ◌==◌, nat_le, ℕ, Bool, List, [], ◌∷◌, map, if◌then◌else◌}
use Rattle.history.specs.declared.entry.Mark.{Mark}
use Rattle.history.specs.Writes.{is_among}

-- the number of the oldest retained snapshot, or 1
abbrev pub oldest : List Mark → ℕ
oldest [] = 1
oldest (mark ∷ marks) = mark.number

-- the number of the newest snapshot, or 0
abbrev pub newest : List Mark → ℕ
newest [] = 0
newest (mark ∷ []) = mark.number
newest (mark ∷ next ∷ marks) = newest (next ∷ marks)

-- whether a snapshot is retained
abbrev pub is_retained : ℕ → List Mark → Bool
is_retained number marks = is_among number (map (λ mark. mark.number) marks)

-- the start of a retained snapshot, else 0
abbrev pub start_of : ℕ → List Mark → ℕ
start_of number [] = 0
start_of number (mark ∷ marks) = if mark.number == number then mark.start else start_of number marks

-- the start of the oldest retained snapshot, else 0
abbrev pub oldest_start : List Mark → ℕ
oldest_start [] = 0
oldest_start (mark ∷ marks) = mark.start

-- the start of the newest snapshot, else 0
abbrev pub newest_start : List Mark → ℕ
newest_start [] = 0
newest_start (mark ∷ []) = mark.start
newest_start (mark ∷ next ∷ marks) = newest_start (next ∷ marks)

-- the marks that a drop of the snapshots below a number leaves: those from the first that is not below it
abbrev pub kept_marks : ℕ → List Mark → List Mark
kept_marks below [] = []
kept_marks below (mark ∷ marks) = if nat_le below mark.number then mark ∷ marks else kept_marks below marks

-- behind a number and a start the numbers strictly rise, the starts do not fall, and none is greater than this count of
-- captures
abbrev pub MarksRise : ℕ → ℕ → ℕ → List Mark → Type 0
MarksRise captures number start [] = start ≤ captures
MarksRise captures number start (mark ∷ marks) = (number < mark.number) × (start ≤ mark.start)
    × MarksRise captures mark.number mark.start marks

-- what marks are at a place with this count of captures
abbrev pub AreMarks : ℕ → List Mark → Type 0
AreMarks captures marks = MarksRise captures 0 0 marks
