-- What each step on the table tells the seat that makes it.
use Rattle.std.specs.Prelude.{◌≡◌, ◌≢◌, ℕ, ◌%◌, ◌≤◌, List, [], ◌∷◌, map, Option, Some}
use mathlib.Core.Option.{some}
use mathlib.Core.List.{IsPrefix}
use lib.ListN.{get_elem?}
use Rattle.atomic_table.specs.Table.{Me, Step}
use Rattle.history.specs.declared.journal.Line.{Line}
use Rattle.turn.specs.declared.view.Holding.{Holding}
use Rattle.turn.specs.declared.view.Kept.{Kept}
use Rattle.turn.specs.declared.view.Kept.TheVariants.{Desk, Vault}
use Rattle.turn.specs.declared.view.Place.TheVariants.{Outside, Waits, Inside}
use Rattle.turn.specs.declared.view.View.{View}
use Rattle.history.specs.Lines.{horizon_of}
use Rattle.turn.specs.Meanings.{OpeningMeaning, DeskMeaning, VaultMeaning}
use Rattle.turn.specs.Rule.{AreOwn, DeskBeside, IsHorizon, TellsFaults, VaultBeside}
use Rattle.turn.specs.Views.{behind_desk, behind_vault, longest, spent}

-- a seat's view, and what it has taken
abbrev pub Sat : Type 0 → Type 0 → Type 0 → Type 0 → Type 0
Sat O W A B = Me (Option (Kept A B)) (View O W A B)

abbrev pub At : Type 0 → Type 0 → Type 0
At A B = Step (Option (Kept A B))

module _ {O W A B : Type 0} where
  abbrev pub draws_desk : At A B → Sat O W A B → ℕ → Sat O W A B → Type 0
  draws_desk st m found m' =
      (m'.1 ≡ m.1) × ((n : ℕ) × (found ≡ n % 18446744073709551616) × (m'.0 ≡ record m.0 { desk = Waits n }))

  abbrev pub draws_vault : At A B → Sat O W A B → ℕ → Sat O W A B → Type 0
  draws_vault st m found m' =
      (m'.1 ≡ m.1) × ((n : ℕ) × (found ≡ n % 18446744073709551616) × (m'.0 ≡ record m.0 { vault = Waits n }))

  abbrev pub serves_desk : At A B → Sat O W A B → ℕ → Sat O W A B → Type 0
  serves_desk st m found m' = (m'.1 ≡ []) × (m'.0 ≡ record m.0 { desk = Outside })

  abbrev pub serves_vault : At A B → Sat O W A B → ℕ → Sat O W A B → Type 0
  serves_vault st m found m' = (m'.1 ≡ []) × (m'.0 ≡ record m.0 { vault = Outside })

  -- a new seat that has nothing
  abbrev pub comes : At A B → Sat O W A B → ℕ → Sat O W A B → Type 0
  comes st m found m' = m'.0 ≡ spent

  module _ (o : OpeningMeaning O) (a : DeskMeaning O W A) (b : VaultMeaning O B) where
    -- the desk's value was found, and the vault's as it was last left
    pub record HasDesk (n : ℕ) (m m' : Sat O W A B) : Type 0 where
      pub value : A
      pub held : ℕ
      pub view_is : m'.0 ≡ record m.0 { desk = Inside n value; seen = a.journal value; held = held }
      pub slots : m'.1 ≡ (0, Some (Desk value)) ∷ m.1
      pub front : IsPrefix m.0.seen (a.journal value)
      pub rises : m.0.held ≤ held
      pub fits : a.Fits value
      pub lawful : o.Lawful (a.opening value) (a.journal value)
      pub acked : a.acked value ≤ held
      pub own : AreOwn (a.journal value) (a.work_of value) m.0.holds
      pub faults : (k : ℕ) (h : Holding W) → get_elem? m.0.holds k ≡ some h → TellsFaults a value h
      pub opening : (x : O) → m.0.opening ≡ Some x → x ≡ a.opening value
      pub beside : VaultBeside o a b value held

    -- it is served, and finds the value; or it is not, and waits on
    abbrev pub reads_desk : At A B → Sat O W A B → ℕ → Sat O W A B → Type 0
    reads_desk st m found m' =
        (n : ℕ) → m.0.desk ≡ Waits n → (found ≡ n % 18446744073709551616 → HasDesk n m m')
        × (found ≢ n % 18446744073709551616 → m' ≡ m)

    -- the vault's value was found, and the journal that it stands for seen, with the desk's as it was last left
    pub record HasVault (n : ℕ) (m m' : Sat O W A B) : Type 0 where
      pub value : B
      pub view_is : m'.0 ≡ record m.0 { vault = Inside n value; seen = m'.0.seen; held = b.held value }
      pub slots : m'.1 ≡ (1, Some (Vault value)) ∷ m.1
      pub front : IsPrefix m.0.seen m'.0.seen
      pub rises : m.0.held ≤ b.held value
      pub fits : (x : O) → m.0.opening ≡ Some x → b.Fits value x m'.0.seen × o.Lawful x m'.0.seen
      pub works : ℕ → Option W
      pub own : AreOwn m'.0.seen works m.0.holds
      pub beside : (x : O) → m.0.opening ≡ Some x → (near : DeskBeside o a b value (Some x) m'.0.seen)
          × (a.journal near.desk ≡ m'.0.seen)

    abbrev pub reads_vault : At A B → Sat O W A B → ℕ → Sat O W A B → Type 0
    reads_vault st m found m' =
        (n : ℕ) → m.0.vault ≡ Waits n → (found ≡ n % 18446744073709551616 → HasVault n m m')
        × (found ≢ n % 18446744073709551616 → m' ≡ m)

    -- the value in hand takes the place of the one that was found
    abbrev pub records : At A B → Sat O W A B → ℕ → Sat O W A B → Type 0
    records st m found m' =
        (m'.1 ≡ m.1) × ((n : ℕ) (old new : A) → m.0.desk ≡ Inside n old → m.1 ≡ (0, Some (Desk new)) ∷ [] →
        (m'.0 ≡ record m.0 { desk = Inside n new; seen = a.journal new; holds = map (behind_desk a old new) m.0.holds })
        × VaultBeside o a b new m.0.held)

    abbrev pub raises : At A B → Sat O W A B → ℕ → Sat O W A B → Type 0
    raises st m found m' =
        (m'.1 ≡ m.1) × ((n : ℕ) (old new : B) → m.0.vault ≡ Inside n old → m.1 ≡ (1, Some (Vault new)) ∷ [] →
        (m'.0 ≡ record m.0 { vault = Inside n new; held = b.held new; holds = map (behind_vault b old new) m.0.holds })
        × ((x : O) → m.0.opening ≡ Some x → DeskBeside o a b new (Some x) m.0.seen))

  module _ (o : OpeningMeaning O) (a : DeskMeaning O W A) where
    -- the journal as it is was seen
    pub record HasSeen (m m' : Sat O W A B) : Type 0 where
      pub view_is : m'.0 ≡ record m.0 { seen = m'.0.seen }
      pub slots : m'.1 ≡ m.1
      pub front : IsPrefix m.0.seen m'.0.seen
      pub lawful : (x : O) → m.0.opening ≡ Some x → o.Lawful x m'.0.seen
      pub works : ℕ → Option W
      pub own : AreOwn m'.0.seen works m.0.holds

    abbrev pub sees_horizon : At A B → Sat O W A B → ℕ → Sat O W A B → Type 0
    sees_horizon st m found m' =
        HasSeen m m' × ((x : O) → m.0.opening ≡ Some x → IsHorizon found (horizon_of (o.base x) m'.0.seen))

    -- the longest front of which the seat heard is seen, and begins the journal
    pub record HasSettled (m m' : Sat O W A B) : Type 0 where
      pub view_is : m'.0 ≡ record m.0 { seen = longest m.0.seen m.0.heard; heard = [] }
      pub slots : m'.1 ≡ m.1
      pub front : IsPrefix m.0.seen m'.0.seen
      pub heard : (k : ℕ) (front : List Line) → get_elem? m.0.heard k ≡ some front → IsPrefix front m'.0.seen
      pub journal : List Line
      pub works : ℕ → Option W
      pub begins : IsPrefix m'.0.seen journal
      pub lawful : (x : O) → m.0.opening ≡ Some x → o.Lawful x journal
      pub own : AreOwn journal works m.0.holds

    abbrev pub settles : At A B → Sat O W A B → ℕ → Sat O W A B → Type 0
    settles st m found m' = HasSettled m m'
