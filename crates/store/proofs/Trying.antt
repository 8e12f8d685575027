-- What sessions have open are attempts, behind a line more.
use Rattle.std.proofs.Common.{◌≡◌, ◌≢◌, ◌⊎◌, ◌∙◌, ◌++◌, ℕ, Bool, true, false, cond, eqb, List, [], ◌∷◌, Option, Some, None, refl, sym, ap, subst, inl, inr, append-nil, append_assoc, eq-eqb}
use Rattle.std.proofs.lemmas.Bool.{eqb-true}
use Rattle.retro_base.specs.declared.refusal.Refusal.{Refusal}
use Rattle.retro_base.specs.declared.refusal.Refusal.TheVariants as refusals
use Rattle.retro_base.specs.declared.who.Who.{Who}
use Rattle.history.specs.declared.journal.Line.{Line}
use Rattle.history.specs.declared.journal.What.TheVariants.{Began}
use Rattle.history.specs.Sound.{same_item}
use Rattle.history.proofs.Items.{apart_items, same_self}
use Rattle.journal_book.specs.declared.work.Transaction.{Transaction}
use Rattle.journal_book.specs.declared.work.Work.{Work}
use Rattle.journal_book.specs.declared.work.Work.TheVariants.{Open, Looking, KeptDrop}
use Rattle.txn_set.specs.declared.ending.Ending.{Ending}
use Rattle.txn_set.specs.declared.ending.Ending.TheVariants as ending
use Rattle.journal_book.specs.Works.{keeping_refusal}
use Rattle.txn_set.specs.Ledger.{closing, ended, is_kept, kept_behind, line_of}
use Rattle.store.specs.Tried.{AllEndAttempts, EndsAttempt, IsAttempt, is_began, is_trying, trying_from}

trying_append : (who : Who) (b : Bool) (xs ys : List Line) → trying_from who b (xs ++ ys) ≡ trying_from who (trying_from who b xs) ys
trying_append who b [] ys = refl
trying_append who b (x ∷ xs) ys = trying_append who (cond (same_item x.who who) (is_began x.what) b) xs ys

pub trying_more : (who : Who) (lines : List Line) (line : Line) → is_trying who (lines ++ line ∷ []) ≡ cond (same_item line.who who) (is_began line.what) (is_trying who lines)
trying_more who lines line = trying_append who false lines (line ∷ [])

pub trying_other : (who : Who) (lines : List Line) (line : Line) → line.who.session ≢ who.session → is_trying who (lines ++ line ∷ []) ≡ is_trying who lines
trying_other who lines line ne =
    trying_more who lines line ∙ ap (λ (b : Bool). cond b (is_began line.what) (is_trying who lines)) (apart_items line.who who (λ e. ne (ap (λ (w : Who). w.session) e)))

pub trying_began : (who : Who) (lines : List Line) → is_trying who (lines ++ line_of who Began ∷ []) ≡ true
trying_began who lines = trying_more who lines (line_of who Began) ∙ ap (λ (b : Bool). cond b true (is_trying who lines)) (same_self who)

pub ends_append : (before lines : List Line) (line : Line) → AllEndAttempts before lines → EndsAttempt (before ++ lines) line.who line.what → AllEndAttempts before (lines ++ line ∷ [])
ends_append before [] line all ends = (subst (λ (l : List Line). EndsAttempt l line.who line.what) (append-nil before) ends, tt)
ends_append before (x ∷ lines) line all ends =
    (all.0, ends_append (before ++ x ∷ []) lines line all.1 (subst (λ (l : List Line). EndsAttempt l line.who line.what) (sym (append_assoc before (x ∷ []) lines)) ends))

-- a line of another session leaves what a session has open
pub attempt_other : (lines : List Line) (line : Line) (n : ℕ) (w : Option Work) → line.who.session ≢ n → IsAttempt lines n w → IsAttempt (lines ++ line ∷ []) n w
attempt_other lines line n None ne is = tt
attempt_other lines line n (Some (Open t)) ne is = (is.0, trying_other t.who lines line (λ e. ne (e ∙ is.0)) ∙ is.1)
attempt_other lines line n (Some (Looking look)) ne is = tt
attempt_other lines line n (Some (KeptDrop who)) ne is = tt

-- a transaction that is open is an attempt, and so is one of the same item in its place
pub attempt_there : (lines : List Line) (n : ℕ) (w : Option Work) (t : Transaction) → w ≡ Some (Open t) → IsAttempt lines n w → (t.who.session ≡ n) × (is_trying t.who lines ≡ true)
attempt_there lines n w t there is = subst (IsAttempt lines n) there is

pub same_attempt : (lines : List Line) (n : ℕ) (w : Option Work) (t u : Transaction) → w ≡ Some (Open t) → u.who ≡ t.who → IsAttempt lines n w → (u.who.session ≡ n) × (is_trying u.who lines ≡ true)
same_attempt lines n w t u there of is = subst (λ (who : Who). (who.session ≡ n) × (is_trying who lines ≡ true)) (sym of) (attempt_there lines n w t there is)

pub kept_who : (why : Refusal) (t : Transaction) → (kept_behind why t).who ≡ t.who
kept_who why t = at (is_kept why) where
  at : (test : Bool) → (cond test (keeping_refusal why t) t).who ≡ t.who
  at true = refl
  at false = refl

pub which : (n m : ℕ) → (n ≡ m) ⊎ (n ≢ m)
which n m = at (eqb n m) refl where
  at : (test : Bool) → eqb n m ≡ test → (n ≡ m) ⊎ (n ≢ m)
  at true e = inl (eqb-true n m e)
  at false e = inr (λ is. absurd (cc (e, eq-eqb n m is)))

-- no line that closes a transaction without its edits, or ends a look, is a commit
pub closing_ends : (lines : List Line) (who : Who) (kept : Option Refusal) (why : Ending) → EndsAttempt lines who (closing kept why)
closing_ends lines who (Some (refusals.Overlap session item)) why = tt
closing_ends lines who (Some (refusals.DiskFault device count)) why = tt
closing_ends lines who (Some _) why = tt
closing_ends lines who None ending.Asked = tt
closing_ends lines who None (ending.Refused why) = tt
closing_ends lines who None (ending.Failed device count) = tt

pub ended_ends : (lines : List Line) (who : Who) (why : Ending) → EndsAttempt lines who (ended why)
ended_ends lines who ending.Asked = tt
ended_ends lines who (ending.Refused why) = tt
ended_ends lines who (ending.Failed device count) = tt
