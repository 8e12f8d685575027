-- The lines that are kept for workers, behind a line more.
use Rattle.std.proofs.Common.{◌≡◌, ◌≤◌, ◌+◌, ◌∙◌, ◌++◌, ◌||◌, ℕ, Bool, true, false, cond, List, [], ◌∷◌, refl, sym, ap, subst, ⊎_elim, arith, eq-eqb}
use Rattle.std.proofs.lemmas.List.Elements.{filter-append}
use Rattle.retro_base.specs.declared.device.Device.{Device}
use Rattle.retro_base.specs.declared.limits.TheConstants.{SESSIONS}
use Rattle.retro_base.specs.declared.who.Who.{Who}
use Rattle.history.specs.declared.journal.FailedCall.{FailedCall}
use Rattle.history.specs.declared.journal.Line.{Line}
use Rattle.history.specs.declared.journal.What.TheVariants.{Fault}
use Rattle.history.specs.Lines.{lines_of}
use Rattle.journal_book.specs.Book.{noting}
use Rattle.txn_set.specs.declared.ledger.Ledger.{Ledger}
use Rattle.txn_set.specs.Ledger.{line_of}
use Rattle.store.specs.Workers.{IsFreshWorker, WorkersFit, has_fault, tells_fault, told_by}

lines_append : (n : ℕ) (xs ys : List Line) → lines_of n (xs ++ ys) ≡ lines_of n xs ++ lines_of n ys
lines_append n xs ys = rw filter-append refl

fault_append : (xs ys : List Line) → has_fault (xs ++ ys) ≡ (has_fault xs || has_fault ys)
fault_append [] ys = refl
fault_append (x ∷ xs) ys = at (tells_fault x.what) (fault_append xs ys) where
  at : (test : Bool) → has_fault (xs ++ ys) ≡ (has_fault xs || has_fault ys) → (test || has_fault (xs ++ ys)) ≡ ((test || has_fault xs) || has_fault ys)
  at true rest = refl
  at false rest = rest

told_few : (n : ℕ) (lines : List Line) → told_by n lines ≤ 1
told_few n lines = at (has_fault (lines_of n lines)) where
  at : (test : Bool) → cond test 1 0 ≤ 1
  at true = omega arith
  at false = omega arith

told_more : (n : ℕ) (lines more : List Line) → told_by n lines ≤ told_by n (lines ++ more)
told_more n lines more = subst (λ (b : Bool). told_by n lines ≤ cond b 1 0) (sym (ap has_fault (lines_append n lines more) ∙ fault_append (lines_of n lines) (lines_of n more))) (at (has_fault (lines_of n lines)) (has_fault (lines_of n more))) where
  at : (one other : Bool) → cond one 1 0 ≤ cond (one || other) 1 0
  at true other = omega arith
  at false true = omega arith
  at false false = omega arith

module _ (old new : Ledger) (workers : new.book.workers ≡ old.book.workers) where
  pub same_fits : new.book.lines ≡ old.book.lines → WorkersFit old → WorkersFit new
  same_fits same fits =
      let a = ap (told_by SESSIONS) same in let b = ap (told_by (SESSIONS + 1)) same in
      omega (arith, fits, workers, a, b)

  pub more_fits : (line : Line) → new.book.lines ≡ old.book.lines ++ line ∷ [] → WorkersFit old → WorkersFit new
  more_fits line is fits =
      let a = ap (told_by SESSIONS) is in let b = ap (told_by (SESSIONS + 1)) is in
      let c = told_more SESSIONS old.book.lines (line ∷ []) in let d = told_more (SESSIONS + 1) old.book.lines (line ∷ []) in
      omega (arith, fits, workers, a, b, c, d)

-- the line of a worker's fault
own_line : (n : ℕ) (line : Line) → line.who.session ≡ n → tells_fault line.what ≡ true → has_fault (lines_of n (line ∷ [])) ≡ true
own_line n line own tells = ap (λ (b : Bool). has_fault (cond b (line ∷ []) [])) (eq-eqb line.who.session n own) ∙ ap (λ (b : Bool). b || false) tells

module _ (who : Who) (device : Device) (count : ℕ) (call : FailedCall) (l : Ledger) where
  abbrev Line_is : Line
  Line_is = line_of who (Fault device count call)

  told_now : told_by who.session (l.book.lines ++ Line_is ∷ []) ≡ 1
  told_now = ap {B = ℕ} (λ (b : Bool). cond b 1 0) (ap has_fault (lines_append who.session l.book.lines (Line_is ∷ [])) ∙ (fault_append (lines_of who.session l.book.lines) (lines_of who.session (Line_is ∷ []))
      ∙ (ap (λ (b : Bool). has_fault (lines_of who.session l.book.lines) || b) (own_line who.session Line_is refl refl) ∙ or_true (has_fault (lines_of who.session l.book.lines))))) where
        or_true : (b : Bool) → (b || true) ≡ true
        or_true true = refl
        or_true false = refl

  -- it takes the place that was kept for the worker
  pub noted_fits : IsFreshWorker who.session l.book.lines → WorkersFit l → WorkersFit (record l { book = noting l.book Line_is })
  noted_fits fresh fits =
      let zero = ap {B = ℕ} (λ (b : Bool). cond b 1 0) fresh.1 in
      ⊎_elim (λ (e : who.session ≡ SESSIONS).
      let before = ap (λ (n : ℕ). told_by n l.book.lines) e in let now = told_now in let after = ap (λ (n : ℕ). told_by n (l.book.lines ++ Line_is ∷ [])) e in
      let other = told_more (SESSIONS + 1) l.book.lines (Line_is ∷ []) in let few = told_few (SESSIONS + 1) l.book.lines in
      omega (arith, fits, zero, before, now, after, other, few))
      (λ (e : who.session ≡ SESSIONS + 1).
      let before = ap (λ (n : ℕ). told_by n l.book.lines) e in let now = told_now in let after = ap (λ (n : ℕ). told_by n (l.book.lines ++ Line_is ∷ [])) e in
      let other = told_more SESSIONS l.book.lines (Line_is ∷ []) in let few = told_few SESSIONS l.book.lines in
      omega (arith, fits, zero, before, now, after, other, few))
      fresh.0

-- there is a place for it
pub worker_place : (who : Who) (l : Ledger) → IsFreshWorker who.session l.book.lines → WorkersFit l → 1 ≤ l.book.workers
worker_place who l fresh fits =
    let zero = ap {B = ℕ} (λ (b : Bool). cond b 1 0) fresh.1 in
    ⊎_elim (λ (e : who.session ≡ SESSIONS). let before = ap (λ (n : ℕ). told_by n l.book.lines) e in let few = told_few (SESSIONS + 1) l.book.lines in omega (arith, fits, zero, before, few))
    (λ (e : who.session ≡ SESSIONS + 1). let before = ap (λ (n : ℕ). told_by n l.book.lines) e in let few = told_few SESSIONS l.book.lines in omega (arith, fits, zero, before, few))
    fresh.0
