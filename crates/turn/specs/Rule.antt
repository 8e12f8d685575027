-- The rule of the two locks: what holds of the table between any two steps.
use Rattle.std.specs.Prelude.{◌≡◌, ℕ, ◌+◌, ◌*◌, ◌<◌, ◌≤◌, true, List, [], ◌∷◌, map, Option, Some, None}
use mathlib.Core.Option.{some}
use mathlib.Core.Option as maybe
use mathlib.Core.List.{IsPrefix}
use lib.ListN.{get_elem?}
use Rattle.atomic_table.specs.Table.{State}
use Rattle.retro_base.specs.declared.device.Device.{Device}
use Rattle.history.specs.declared.journal.Line.{Line}
use Rattle.turn.specs.declared.view.Holding.{Holding}
use Rattle.turn.specs.declared.view.Kept.{Kept}
use Rattle.turn.specs.declared.view.Kept.TheVariants.{Desk, Vault}
use Rattle.turn.specs.declared.view.Place.TheVariants.{Inside}
use Rattle.turn.specs.declared.view.View.{View}
use Rattle.turn.specs.Faults.{LAST, count_of, fault_lines, fault_times, is_of_desk}
use Rattle.history.specs.Lines.{FaultsDiffer, horizon_of, lines_of}
use Rattle.turn.specs.Meanings.{OpeningMeaning, DeskMeaning, VaultMeaning}
use Rattle.turn.specs.Queue.{Lock, total, tickets_in}
use Rattle.turn.specs.Views.{PARTS, desk_of, parts_at, parts_of, vault_of}

-- the six words of the table
pub record Words : Type 0 where
  pub desk_ticket : ℕ
  pub desk_serving : ℕ
  pub horizon : ℕ
  pub vault_ticket : ℕ
  pub vault_serving : ℕ
  pub held : ℕ

abbrev pub words_of : Words → List ℕ
words_of w = w.desk_ticket ∷ w.desk_serving ∷ w.horizon ∷ w.vault_ticket ∷ w.vault_serving ∷ w.held ∷ []

-- an oldest and a newest snapshot in one word
pub record IsHorizon (word : ℕ) (horizon : ℕ × ℕ) : Type 0 where
  pub word_is : word ≡ horizon.0 * 4294967296 + horizon.1
  pub newest : horizon.1 < 4294967296

-- a list of fronts of a journal
abbrev pub AreFronts : List Line → List (List Line) → Type 0
AreFronts journal fronts = (k : ℕ) (front : List Line) → get_elem? fronts k ≡ some front → IsPrefix front journal

-- a holding has the lines and the work of its number
abbrev pub IsOwn : {W : Type 0} → List Line → (ℕ → Option W) → Holding W → Type 0
IsOwn journal works h = 0 < h.parts → (h.lines ≡ lines_of h.number journal) × (h.work ≡ works h.number)

abbrev pub AreOwn : {W : Type 0} → List Line → (ℕ → Option W) → List (Holding W) → Type 0
AreOwn {W} journal works hs = (k : ℕ) (h : Holding W) → get_elem? hs k ≡ some h → IsOwn journal works h

-- a fault that a seat was told has a greater count than each that its lines tell of that device
abbrev pub IsNewer : {W : Type 0} → Holding W → Type 0
IsNewer h = (d : Device) (c e : ℕ) → c < LAST → 0 < fault_times d c h.faults → 0 < fault_lines d e h.lines → e < c

abbrev pub AreNewer : {W : Type 0} → List (Holding W) → Type 0
AreNewer {W} hs = (k : ℕ) (h : Holding W) → get_elem? hs k ≡ some h → IsNewer h

-- each holding has a part of its number
abbrev pub HasPart : {W : Type 0} → Holding W → Type 0
HasPart h = 0 < h.parts

abbrev pub HavePart : {W : Type 0} → List (Holding W) → Type 0
HavePart {W} hs = (k : ℕ) (h : Holding W) → get_elem? hs k ≡ some h → HasPart h

-- What the desk's value tells of faults, where a seat has this holding: no two of its lines tell one fault; none tells
-- one above the desk's own counts; and a fault that the seat was told is new: no line tells it, and its count is above
-- each that the seat's lines tell of that device.
pub record TellsFaults {O W A : Type 0} (a : DeskMeaning O W A) (desk : A) (h : Holding W) : Type 0 where
  pub differ : FaultsDiffer (a.journal desk)
  pub counted : (d : Device) (c : ℕ) → is_of_desk d ≡ true → 0 < fault_lines d c (a.journal desk) → c ≤ a.counts desk d
  pub told : (d : Device) (c : ℕ) → c < LAST → 0 < fault_times d c h.faults → fault_lines d c (a.journal desk) ≡ 0
  pub newer : IsNewer h

-- how often a fault was told to the seats, of what each has not told since
abbrev pub told_times : {O W A B : Type 0} → Device → ℕ → View O W A B → ℕ
told_times {W = W} d c v = total (λ (h : Holding W). fault_times d c h.faults) v.holds

-- A fault stands n times, in lines or told: but for the last value once at most, above the opening's count; and never
-- above the count.
pub record IsCounted (opened count c n : ℕ) : Type 0 where
  pub once : c < LAST → n ≤ 1
  pub above : c < LAST → 0 < n → opened < c
  pub below : 0 < n → c ≤ count

-- A device whose count of faults rose since the opening has one that is told so often.
abbrev pub IsHeard : ℕ → ℕ → (ℕ → ℕ) → Type 0
IsHeard opened count times = opened < count → (c : ℕ) × (0 < times c)

-- how many parts of the number n there are
abbrev pub AreParts : ℕ → ℕ → ℕ → Type 0
AreParts limit n parts = (n < limit → parts ≡ PARTS) × (limit ≤ n → parts ≡ 0)

module _ {O W A B : Type 0} (o : OpeningMeaning O) (a : DeskMeaning O W A) (b : VaultMeaning O B) where
  -- how many faults of a device there are, by the two values
  abbrev pub count_now : A → B → Device → ℕ
  count_now desk vault = count_of (a.counts desk) (b.counts vault)

  -- The two values as they were last left, at one moment: both stand for one opening and one journal, which may follow
  -- it, and the desk knows of no more mappings than the vault has. No count of faults is below the opening's, and no
  -- line tells a fault above its device's count.
  pub record AreTogether (desk : A) (vault : B) : Type 0 where
    pub lawful : o.Lawful (a.opening desk) (a.journal desk)
    pub desk_fits : a.Fits desk
    pub vault_fits : b.Fits vault (a.opening desk) (a.journal desk)
    pub acked : a.acked desk ≤ b.held vault
    pub counts : (d : Device) → o.counts (a.opening desk) d ≤ count_now desk vault d
    pub told : (d : Device) (c : ℕ) → 0 < fault_lines d c (a.journal desk) → c ≤ count_now desk vault d

  -- the vault as it was last left, beside this value of the desk, with no fewer mappings than these
  pub record VaultBeside (desk : A) (known : ℕ) : Type 0 where
    pub vault : B
    pub together : AreTogether desk vault
    pub held : known ≤ b.held vault

  -- the desk as it was last left, beside this value of the vault: of this opening, with a journal that these lines
  -- begin
  pub record DeskBeside (vault : B) (opened : Option O) (lines : List Line) : Type 0 where
    pub desk : A
    pub together : AreTogether desk vault
    pub opening : opened ≡ Some (a.opening desk)
    pub begins : IsPrefix lines (a.journal desk)

  -- the two values, and the two words that tell of them
  pub record Agree (desk : A) (vault : B) (shown held : ℕ) : Type 0 where
    pub lawful : o.Lawful (a.opening desk) (a.journal desk)
    pub desk_fits : a.Fits desk
    pub vault_fits : b.Fits vault (a.opening desk) (a.journal desk)
    pub horizon : IsHorizon shown (horizon_of (o.base (a.opening desk)) (a.journal desk))
    pub held_is : held ≡ b.held vault
    pub acked : a.acked desk ≤ b.held vault
    pub counts : (d : Device) → o.counts (a.opening desk) d ≤ count_now desk vault d

  -- what a seat knows of the two values
  pub record Knows (desk : A) (vault : B) (v : View O W A B) : Type 0 where
    pub front : IsPrefix v.seen (a.journal desk)
    pub heard : AreFronts (a.journal desk) v.heard
    pub held : v.held ≤ b.held vault
    pub in_desk : (n : ℕ) (old : A) → v.desk ≡ Inside n old → (old ≡ desk) × (v.seen ≡ a.journal desk)
    pub in_vault : (n : ℕ) (old : B) → v.vault ≡ Inside n old → (old ≡ vault) × (v.held ≡ b.held vault)
    pub own : AreOwn (a.journal desk) (a.work_of desk) v.holds
    pub newer : AreNewer v.holds
    pub parts : HavePart v.holds
    pub opening : (x : O) → v.opening ≡ Some x → x ≡ a.opening desk
    pub part : 0 < tickets_in v.desk + tickets_in v.vault → 0 < parts_of v

  -- the seats of a table with so many numbers
  pub record AreSeats (limit : ℕ) (desk : A) (vault : B) (views : List (View O W A B)) : Type 0 where
    pub few : limit ≤ 65536
    pub parts : total parts_of views ≡ PARTS * limit
    pub numbers : (n : ℕ) → AreParts limit n (total (parts_at n) views)
    pub foreign : (n : ℕ) → limit ≤ n → (lines_of n (a.journal desk) ≡ []) × (a.work_of desk n ≡ None)
    pub faults : (d : Device) (c : ℕ) →
        IsCounted (o.counts (a.opening desk) d) (count_now desk vault d) c
        (fault_lines d c (a.journal desk) + total (told_times d c) views)
    pub heard : (d : Device) →
        IsHeard (o.counts (a.opening desk) d) (count_now desk vault d)
        (λ c. fault_lines d c (a.journal desk) + total (told_times d c) views)
    pub differ : FaultsDiffer (a.journal desk)
    pub known : (i : ℕ) (v : View O W A B) → get_elem? views i ≡ some v → Knows desk vault v

  -- `desk` and `vault` are the two values as they were last recorded, `first` the opening.
  pub record IsRuled (first : O) (limit : ℕ) (s : State (Option (Kept A B)) (View O W A B)) : Type 0 where
    pub desk : A
    pub vault : B
    pub words : Words
    pub desk_slot : maybe.Option (Option (Kept A B))
    pub vault_slot : maybe.Option (Option (Kept A B))
    pub words_are : s.words ≡ words_of words
    pub homes_are : s.homes ≡ desk_slot ∷ vault_slot ∷ []
    pub opened : a.opening desk ≡ first
    pub agree : Agree desk vault words.horizon words.held
    pub desk_lock : Lock words.desk_ticket words.desk_serving (Desk desk) desk_slot (map desk_of s.views)
    pub vault_lock : Lock words.vault_ticket words.vault_serving (Vault vault) vault_slot (map vault_of s.views)
    pub seats : AreSeats limit desk vault s.views
