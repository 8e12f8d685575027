-- The views of seats, and how they are cut and joined.
use Rattle.std.specs.Prelude.{◌==◌, nat_lt, ℕ, zero, suc, ◌+◌, ◌-◌, max, List, [], ◌∷◌}
use Rattle.std.specs.Prelude.{◌++◌, map, length, drop, Option, Some, None, if◌then◌else◌}
use Rattle.retro_base.specs.declared.device.Device.{Device}
use Rattle.history.specs.declared.journal.Line.{Line}
use Rattle.turn.specs.declared.view.Holding.{Holding}
use Rattle.turn.specs.declared.view.Place.{Place}
use Rattle.turn.specs.declared.view.Place.TheVariants.{Outside}
use Rattle.turn.specs.declared.view.View.{View}
use Rattle.turn.specs.Faults.{desk_faults, untold_by, vault_faults}
use Rattle.history.specs.Lines.{lines_of}
use Rattle.turn.specs.Meanings.{DeskMeaning, VaultMeaning}
use Rattle.turn.specs.Queue.{total}

-- A seat that lends nothing has all parts of its number, a helper one.
abbrev pub PARTS : ℕ
PARTS = 16

module _ {W : Type 0} where
  abbrev pub holding : ℕ → ℕ → List Line → Option W → List (Device × ℕ) → Holding W
  holding n k ls wk fs = record { number = n; parts = k; lines = ls; work = wk; faults = fs }

  -- the holding of a new seat
  abbrev pub fresh : ℕ → Holding W
  fresh n = holding n PARTS [] None []

  -- those of so many new seats, from the number k on
  abbrev pub fresh_from : ℕ → ℕ → List (Holding W)
  fresh_from k zero = []
  fresh_from k (suc n) = fresh k ∷ fresh_from (suc k) n

  -- the parts of the number n in a holding
  abbrev pub parts_in : ℕ → Holding W → ℕ
  parts_in n h = if h.number == n then h.parts else 0

  -- what is left of a holding that lends a part, and what the helper has
  abbrev pub lending : Holding W → Holding W
  lending h = record h { parts = h.parts - 1 }

  abbrev pub lent : Holding W → Holding W
  lent h = holding h.number 1 h.lines h.work []

  -- a holding that has its part back, with the faults that the helper was told
  abbrev pub returned : Holding W → Holding W → Holding W
  returned g h = record h { parts = h.parts + 1; faults = h.faults ++ g.faults }

  abbrev pub first_of : List (Holding W) → Holding W
  first_of [] = holding 0 0 [] None []
  first_of (h ∷ hs) = h

  abbrev pub firsts : List (Holding W) → List (Holding W)
  firsts [] = []
  firsts (h ∷ hs) = h ∷ []

  abbrev pub others : List (Holding W) → List (Holding W)
  others [] = []
  others (h ∷ hs) = hs

-- The faults that a seat was told and has not told since, behind an entry that left this journal: a line that tells a
-- fault stands for all of its device that the seat was told before.
abbrev pub still_told : List Line → List Line → List (Device × ℕ) → List (Device × ℕ)
still_told old new = untold_by (drop (length old) new)

-- a holding behind an entry to the desk, whose value changed so
abbrev pub behind_desk : {O W A : Type 0} → DeskMeaning O W A → A → A → Holding W → Holding W
behind_desk a old new h =
    holding h.number h.parts (lines_of h.number (a.journal new)) (a.work_of new h.number)
    (still_told (a.journal old) (a.journal new) (h.faults ++ desk_faults (a.counts old) (a.counts new)))

-- a holding behind an entry to the vault, whose value changed so
abbrev pub behind_vault : {O W B : Type 0} → VaultMeaning O B → B → B → Holding W → Holding W
behind_vault b old new h = record h { faults = h.faults ++ vault_faults (b.counts old) (b.counts new) }

abbrev pub longer : List Line → List Line → List Line
longer xs ys = if nat_lt (length xs) (length ys) then ys else xs

abbrev pub longest : List Line → List (List Line) → List Line
longest front [] = front
longest front (other ∷ fronts) = longest (longer front other) fronts

module _ {O W A B : Type 0} where
  abbrev pub view : Option O → Place A → Place B → List Line → List (List Line) → ℕ → List (Holding W) → View O W A B
  view o d v seen heard held hs =
      record { opening = o; desk = d; vault = v; seen = seen; heard = heard; held = held; holds = hs }

  abbrev pub desk_of : View O W A B → Place A
  desk_of v = v.desk

  abbrev pub vault_of : View O W A B → Place B
  vault_of v = v.vault

  -- the parts of the number n in a view, and of all numbers
  abbrev pub parts_at : ℕ → View O W A B → ℕ
  parts_at n v = total (parts_in n) v.holds

  abbrev pub parts_of : View O W A B → ℕ
  parts_of v = total (λ (h : Holding W). h.parts) v.holds

  -- a new table's one seat, with all numbers below the limit
  abbrev pub first_view : O → ℕ → View O W A B
  first_view o limit = view (Some o) Outside Outside [] [] 0 (fresh_from 0 limit)

  -- a view without its first holding, and a new one with it
  abbrev pub undealt : View O W A B → View O W A B
  undealt v = record v { holds = others v.holds }

  abbrev pub dealt : View O W A B → View O W A B
  dealt v = view v.opening Outside Outside v.seen [] v.held (firsts v.holds)

  -- the view of a seat that lends a part, and that of the helper
  abbrev pub lending_view : View O W A B → View O W A B
  lending_view v = record v { holds = map lending v.holds }

  abbrev pub lent_view : View O W A B → View O W A B
  lent_view v = view v.opening Outside Outside v.seen [] v.held (map lent v.holds)

  -- what a seat has seen, for another
  abbrev pub note_of : View O W A B → View O W A B
  note_of v = view v.opening Outside Outside v.seen [] v.held []

  -- both in one
  abbrev pub joined : View O W A B → View O W A B → View O W A B
  joined v w = record v { heard = v.heard ++ w.seen ∷ w.heard; held = max v.held w.held; holds = v.holds ++ w.holds }

  -- a view with its helper's
  abbrev pub returned_view : View O W A B → View O W A B → View O W A B
  returned_view v w =
      record v {
        heard = v.heard ++ w.seen ∷ w.heard;
        held = max v.held w.held;
        holds = map (returned (first_of w.holds)) v.holds;
      }

  -- what is left of a view that was joined into another
  abbrev pub spent : View O W A B
  spent = view None Outside Outside [] [] 0 []
