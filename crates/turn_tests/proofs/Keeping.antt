-- The small desk and the small vault.
use Rattle.std.proofs.Common.{◌≡◌, ◌≤◌, ◌+◌, ◌∙◌, ℕ, zero, suc, Bool, true, false, cond, eqb, ltb, List, [], ◌∷◌, ◌++◌, take, length, Some, slice_index_or, replicate, ap, refl, sym, subst, arith, append-nil, eq-eqb}
use Rattle.std.specs.Int.{from_bool}
use Rattle.std.proofs.lemmas.Bool.{ltb-true}
use Rattle.retro_base.specs.declared.device.Device.{Device}
use Rattle.retro_base.specs.declared.device.Device.TheVariants.{Log, Pages, Pagelog, Maplog, Cabinet}
use Rattle.history.specs.declared.entry.Base.{Base}
use Rattle.history.specs.declared.entry.Mark.{Mark}
use Rattle.history.specs.declared.journal.Line.{Line}
use Rattle.history.specs.declared.journal.What.{What}
use Rattle.history.specs.declared.journal.What.TheVariants.{Began, Done, RolledBack, Fault}
use Rattle.history.specs.Journal.{base_behind}
use Rattle.history.specs.Lines.{base_of, horizon_of, lines_of}
use Rattle.history.specs.Marks.{newest, oldest}
use Rattle.history.proofs.Lines.{base_of_one_more, lines_of_one_more}
use Rattle.history.proofs.MarkLaws.{newest-push}
use Rattle.turn_tests.specs.Makes.{Makes}
use Rattle.turn_tests.specs.Meanings.{AreQuiet, IsBook, Stands, base_at, is_quiet, newest_behind, only}
use Rattle.turn_tests.specs.declared.small.Book.{Book}

oldest_stays : (marks : List Mark) (mark : Mark) → oldest marks ≡ 1 → mark.number ≡ newest marks + 1 → oldest (marks ++ mark ∷ []) ≡ 1
oldest_stays [] mark first next = next
oldest_stays (other ∷ marks) mark first next = first

-- the oldest and the newest snapshot
abbrev horizon_at : Base → ℕ × ℕ
horizon_at base = (oldest base.marks, newest base.marks)

-- a quiet line behind a base whose oldest snapshot is 1
one_behind : (base : Base) (line : Line) (n : ℕ) → is_quiet line.what ≡ true → horizon_at base ≡ (1, n) → horizon_at (base_behind base line) ≡ (1, newest_behind n line.what)
one_behind base line n quiet is = go line.what quiet
  where
    go : (what : What) → is_quiet what ≡ true → horizon_at (base_behind base (record line { what = what })) ≡ (1, newest_behind n what)
    go Began q = is
    go RolledBack q = is
    go (Fault device count call) q = is
    go (Done (Some label) []) q =
        let mark : Mark = record { number = newest base.marks + 1; label = label; start = base.captures + 0 } in
        λ i. (oldest_stays base.marks mark (ap (λ (h : ℕ × ℕ). h.0) is) refl i, (newest-push base.marks mark ∙ ap (λ (h : ℕ × ℕ). h.1 + 1) is) i)
    go _ q = absurd (cc q)

still_quiet : (lines : List Line) (line : Line) → AreQuiet lines → is_quiet line.what ≡ true → AreQuiet (lines ++ line ∷ [])
still_quiet [] line quiet this = (this, tt)
still_quiet (first ∷ lines) line quiet this = (quiet.0, still_quiet lines line quiet.1 this)

-- a book with a quiet line more
pub book_more : (line : Line) (added : Bool) (old new : Book) → Makes line added old new → is_quiet line.what ≡ true → IsBook old → IsBook new
book_more line added old new makes quiet fits = go added makes
  where
    go : (t : Bool) → Makes line t old new → IsBook new
    go true m = record {
      quiet = subst AreQuiet (sym m.lines) (still_quiet old.lines line fits.quiet quiet);
      horizon = ap (λ (x : Base × List Line). horizon_of x.0 x.1) (λ i. (base_at (m.start i), m.lines i))
          ∙ (ap horizon_at (base_of_one_more (base_at old.start) old.lines line) ∙ (one_behind (base_of (base_at old.start) old.lines) line old.newest quiet fits.horizon ∙ ap (λ (n : ℕ). (1, n)) (sym m.newest)));
    }
    go false m = record {
      quiet = subst AreQuiet (sym (m.lines ∙ append-nil old.lines)) fits.quiet;
      horizon = ap (λ (x : Base × List Line). horizon_of x.0 x.1) (λ i. (base_at (m.start i), (m.lines ∙ append-nil old.lines) i)) ∙ (fits.horizon ∙ ap (λ (n : ℕ). (1, n)) (sym m.newest));
    }

-- a list of one value
pub all_one : {X : Type 0} (count n : ℕ) (x : X) → slice_index_or (replicate count x) n x ≡ x
all_one zero n x = refl
all_one (suc count) zero x = refl
all_one (suc count) (suc n) x = all_one count n x

-- the lines of a session behind a line of it, or none
pub own_more : (n : ℕ) (line : Line) (added : Bool) (old new : List Line) → line.who.session ≡ n → new ≡ old ++ cond added (line ∷ []) [] → lines_of n new ≡ lines_of n old ++ take (from_bool added) (line ∷ [])
own_more n line true old new mine is = ap (lines_of n) is ∙ (lines_of_one_more n old line ∙ ap (λ (t : Bool). lines_of n old ++ cond t (line ∷ []) []) (eq-eqb line.who.session n mine))
own_more n line false old new mine is = ap (lines_of n) (is ∙ append-nil old) ∙ sym (append-nil (lines_of n old))

pub only_rises : (device : Device) (old new : ℕ) → old ≤ new → (other : Device) → only device old other ≤ only device new other
only_rises Log old new up Log = up
only_rises Pages old new up Pages = up
only_rises Pagelog old new up Pagelog = up
only_rises Maplog old new up Maplog = up
only_rises Cabinet old new up Cabinet = up
only_rises _ old new up _ = omega arith

stands_below : (count : ℕ) (lines : List Line) → count ≤ length lines → Stands count lines
stands_below zero lines le = tt
stands_below (suc count) [] le = absurd (omega arith)
stands_below (suc count) (line ∷ lines) le = stands_below count lines (omega arith)

lines_fewer : (session : ℕ) (lines : List Line) → length (lines_of session lines) ≤ length lines
lines_fewer session [] = omega arith
lines_fewer session (line ∷ lines) = go (lines_fewer session lines) (eqb line.who.session session) refl
  where
    go : length (lines_of session lines) ≤ length lines → (own : Bool) → eqb line.who.session session ≡ own → length (lines_of session (line ∷ lines)) ≤ length (line ∷ lines)
    go rest true is = let e = ap (λ (b : Bool). length (cond b (line ∷ lines_of session lines) (lines_of session lines))) is in omega arith
    go rest false is = let e = ap (λ (b : Bool). length (cond b (line ∷ lines_of session lines) (lines_of session lines))) is in omega arith

-- what is held, raised below the lines of a seat, stands on the journal that it has seen
pub raised : (old most session : ℕ) (own lines : List Line) → most ≤ length own → own ≡ lines_of session lines → Stands old lines → (old ≤ cond (ltb old most) (old + 1) old) × Stands (cond (ltb old most) (old + 1) old) lines
raised old most session own lines le same stands = go (ltb old most) refl
  where
    go : (less : Bool) → ltb old most ≡ less → (old ≤ cond less (old + 1) old) × Stands (cond less (old + 1) old) lines
    go false is = (omega arith, stands)
    go true is = let lt = ltb-true old most is in let e = ap length same in let fewer = lines_fewer session lines in (omega arith, stands_below (old + 1) lines (omega arith))
