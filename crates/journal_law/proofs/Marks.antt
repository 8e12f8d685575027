-- Snapshots of pages and of tables.
use Rattle.std.proofs.Common.{◌≡◌, ◌≤◌, ◌+◌, ◌++◌, ◌==◌, ◌||◌, ◌&&◌, ℕ, Bool, true, false, cond, List, [], ◌∷◌, map, Some, None, Result, Ok, Err, ltb, refl, ap, sym, subst, arith, ◌∙◌}
use Rattle.std.specs.Prelude.{nat_le}
use Rattle.std.proofs.lemmas.Bool.{le-leb}
use Rattle.retro_base.specs.declared.refusal.Refusal.{Refusal}
use Rattle.retro_base.specs.declared.refusal.Refusal.TheVariants.{NoSuchSnapshot}
use Rattle.history.specs.declared.entry.Mark.{Mark as MarkOf}
use Rattle.history.specs.declared.journal.What.{What}
use Rattle.history.specs.declared.journal.What.TheVariants.{Done, Dropped}
use Rattle.history.specs.Journal.{pages_behind}
use Rattle.history.specs.History.{written}
use Rattle.history.specs.Marks.{MarksRise}
use Rattle.history.specs.Writes.{rises}
use Rattle.journal_law.specs.Language.{Language}
use Rattle.journal_law.specs.Pages.{Pages}
use Rattle.journal_law.specs.Shows.{MarksShow, Shows}
use Rattle.journal_law.specs.World.{Mark, World, as_of, behind, held_by, kept, mark_of, newest, newest_behind, oldest_of}

-- the numbers of a log's marks rise behind the one before them
pub numbers_rise : (captures number start : ℕ) (marks : List MarkOf) → MarksRise captures number start marks → (least : ℕ) → least ≤ number + 1 → rises least (map (λ (mark : MarkOf). mark.number) marks) ≡ true
numbers_rise captures number start [] up least low = refl
numbers_rise captures number start (mark ∷ marks) up least low =
    ap (λ (b : Bool). b && rises (mark.number + 1) (map (λ (m : MarkOf). m.number) marks)) (le-leb least mark.number (omega (arith, low, up.0))) ∙ numbers_rise captures mark.number mark.start marks up.2 (mark.number + 1) (omega arith)

module _ (L : Language) where
  marks_push : (ps : List (Mark Pages)) (ts : List (Mark L.Tables)) (p : Mark Pages) (t : Mark L.Tables) → MarksShow L ps ts → p.number ≡ t.number → p.label ≡ t.label → L.IsStored p.held t.held
      → MarksShow L (ps ++ p ∷ []) (ts ++ t ∷ [])
  marks_push [] [] p t shows number label held = (number, label, held, tt)
  marks_push [] (b ∷ ts) p t shows number label held = absurd shows
  marks_push (a ∷ ps) [] p t shows number label held = absurd shows
  marks_push (a ∷ ps) (b ∷ ts) p t shows number label held = (shows.0, shows.1, shows.2, marks_push ps ts p t shows.3 number label held)

  pub newest_same : (n : ℕ) (ps : List (Mark Pages)) (ts : List (Mark L.Tables)) → MarksShow L ps ts → newest_behind n ps ≡ newest_behind n ts
  newest_same n [] [] shows = refl
  newest_same n [] (b ∷ ts) shows = absurd shows
  newest_same n (a ∷ ps) [] shows = absurd shows
  newest_same n (a ∷ ps) (b ∷ ts) shows = rw shows.0 (newest_same b.number ps ts shows.3)

  pub oldest_same : (ps : List (Mark Pages)) (ts : List (Mark L.Tables)) → MarksShow L ps ts → oldest_of ps ≡ oldest_of ts
  oldest_same [] [] shows = refl
  oldest_same [] (b ∷ ts) shows = absurd shows
  oldest_same (a ∷ ps) [] shows = absurd shows
  oldest_same (a ∷ ps) (b ∷ ts) shows = shows.0

  kept_show : (below : ℕ) (ps : List (Mark Pages)) (ts : List (Mark L.Tables)) → MarksShow L ps ts → MarksShow L (kept below ps) (kept below ts)
  kept_show below [] [] shows = tt
  kept_show below [] (b ∷ ts) shows = absurd shows
  kept_show below (a ∷ ps) [] shows = absurd shows
  kept_show below (a ∷ ps) (b ∷ ts) shows = by_test (kept_show below ps ts shows.3) (nat_le below a.number) (nat_le below b.number) (ap (nat_le below) shows.0)
    where
      by_test : MarksShow L (kept below ps) (kept below ts) → (stays other : Bool) → stays ≡ other → MarksShow L (cond stays (a ∷ ps) (kept below ps)) (cond other (b ∷ ts) (kept below ts))
      by_test rest true true e = shows
      by_test rest false false e = rest
      by_test rest true false e = cc
      by_test rest false true e = cc

  -- what stands at a snapshot, of pages and of tables: both are refused alike, or the pages hold the tables
  abbrev pub SameHeld : Result Pages Refusal → Result L.Tables Refusal → Type 0
  SameHeld (Ok pages) (Ok tables) = L.IsStored pages tables
  SameHeld (Err why) (Err other) = why ≡ other
  SameHeld p t = ⊥

  marks_held : (n oldest : ℕ) (ps : List (Mark Pages)) (ts : List (Mark L.Tables)) → MarksShow L ps ts → SameHeld (held_by n oldest (mark_of n ps)) (held_by n oldest (mark_of n ts))
  marks_held n oldest [] [] shows = refl
  marks_held n oldest [] (b ∷ ts) shows = absurd shows
  marks_held n oldest (a ∷ ps) [] shows = absurd shows
  marks_held n oldest (a ∷ ps) (b ∷ ts) shows = by_test (marks_held n oldest ps ts shows.3) (a.number == n) (b.number == n) (ap (λ (k : ℕ). k == n) shows.0)
    where
      by_test : SameHeld (held_by n oldest (mark_of n ps)) (held_by n oldest (mark_of n ts)) → (here other : Bool) → here ≡ other
          → SameHeld (held_by n oldest (cond here (Some a) (mark_of n ps))) (held_by n oldest (cond other (Some b) (mark_of n ts)))
      by_test rest true true e = shows.2
      by_test rest false false e = rest
      by_test rest true false e = cc
      by_test rest false true e = cc

  pub held_same : (n : ℕ) (pages : World Pages) (tables : World L.Tables) → Shows L pages tables → SameHeld (as_of n pages) (as_of n tables)
  held_same n pages tables shows =
      rw (newest_same 0 pages.marks tables.marks shows.marks, oldest_same pages.marks tables.marks shows.marks) (by_test ((n == 0) || ltb (newest tables) n))
    where
      by_test : (none : Bool) → SameHeld (cond none (Err (NoSuchSnapshot n (newest tables))) (held_by n (oldest_of tables.marks) (mark_of n pages.marks))) (cond none (Err (NoSuchSnapshot n (newest tables))) (held_by n (oldest_of tables.marks) (mark_of n tables.marks)))
      by_test true = refl
      by_test false = marks_held n (oldest_of tables.marks) pages.marks tables.marks shows.marks

  held_ok : (r : Result Pages Refusal) (s : Result L.Tables Refusal) (held : Pages) → SameHeld r s → r ≡ Ok held → (tables : L.Tables) × (s ≡ Ok tables) × L.IsStored held tables
  held_ok (Ok p) (Ok t) held same e =
      let is : p ≡ held = cc in
      (t, refl, subst (λ (x : Pages). L.IsStored x t) is same)
  held_ok (Ok p) (Err w) held same e = absurd same
  held_ok (Err w) (Ok t) held same e = absurd same
  held_ok (Err w) (Err v) held same e = cc

  held_err : (r : Result Pages Refusal) (s : Result L.Tables Refusal) (why : Refusal) → SameHeld r s → r ≡ Err why → s ≡ Err why
  held_err (Ok p) (Ok t) why same e = cc
  held_err (Ok p) (Err w) why same e = absurd same
  held_err (Err w) (Ok t) why same e = absurd same
  held_err (Err w) (Err v) why same e =
      let is : w ≡ why = cc in
      ap Err (sym same ∙ is)

  -- the tables of a snapshot are held by its pages
  pub tables_of : (n : ℕ) (pages : World Pages) (tables : World L.Tables) (held : Pages) → Shows L pages tables → as_of n pages ≡ Ok held → (t : L.Tables) × (as_of n tables ≡ Ok t) × L.IsStored held t
  tables_of n pages tables held shows e = held_ok (as_of n pages) (as_of n tables) held (held_same n pages tables shows) e

  -- a snapshot is refused alike
  pub refused_of : (n : ℕ) (pages : World Pages) (tables : World L.Tables) (why : Refusal) → Shows L pages tables → as_of n pages ≡ Err why → as_of n tables ≡ Err why
  refused_of n pages tables why shows e = held_err (as_of n pages) (as_of n tables) why (held_same n pages tables shows) e

  -- a line leaves the tables now, or it is a commit, and then the pages that it writes hold the tables that it leaves
  abbrev pub Leaves : Pages → What → L.Tables → Type 0
  Leaves pages (Done label writes) after = L.IsStored (written pages writes) after
  Leaves pages what after = Unit {0}

  pub shows_behind : (pages : World Pages) (tables : World L.Tables) (what : What) (after : L.Tables) → Shows L pages tables → Leaves pages.current what after
      → Shows L (behind (pages_behind pages.current what) what pages) (behind after what tables)
  shows_behind pages tables (Done None writes) after shows leaves = record { current = leaves; marks = shows.marks }
  shows_behind pages tables (Done (Some label) writes) after shows leaves =
      record { current = leaves; marks = marks_push pages.marks tables.marks _ _ shows.marks (ap (λ (n : ℕ). n + 1) (newest_same 0 pages.marks tables.marks shows.marks)) refl leaves }
  shows_behind pages tables (Dropped below) after shows leaves = record { current = shows.current; marks = kept_show below pages.marks tables.marks shows.marks }
  shows_behind pages tables what after shows leaves = shows
