-- An item that a transaction overlaps had an attempt open since it began.
use Rattle.std.proofs.Common.{◌≡◌, ◌≢◌, ◌+◌, ◌++◌, ◌&&◌, ◌∙◌, ℕ, suc, Bool, true, false, cond, eqb, not, List, [], ◌∷◌, drop, take, filter, map, Option, Some, None, refl, sym, ap, subst, append_assoc, append-nil, eq-eqb}
use Rattle.std.specs.Option.{option_or}
use Rattle.std.proofs.lemmas.List.{take-append-drop}
use Rattle.retro_base.specs.declared.who.Who.{Who}
use Rattle.history.specs.declared.journal.Line.{Line}
use Rattle.history.specs.declared.journal.What.{What}
use Rattle.history.specs.declared.journal.What.TheVariants.{Began, Done, Overlapped, RolledBack, Looked, LookedAll, Unlooked, Dropped, Refused, Fault}
use Rattle.history.specs.Lines.{change_by, changed_since, changes_page, last_change, lines_of}
use Rattle.history.specs.Sound.{same_item}
use Rattle.history.specs.Writes.{is_among, pages_of}
use Rattle.history.proofs.Items.{apart_items}
use Rattle.journal_book.specs.declared.work.Transaction.{Transaction}
use Rattle.journal_book.specs.declared.work.Work.{Work}
use Rattle.journal_book.specs.declared.work.Work.TheVariants.{KeptDrop, Looking, Open}
use Rattle.journal_book.specs.Works.{latch_holder, latched_by, work_at}
use Rattle.journal_law.specs.Lawful.{IsOverlapBy}
use Rattle.journal_law.specs.Own as law
use Rattle.journal_law.specs.Own.{SinceBegan, last_behind, line, own}
use Rattle.txn_set.specs.declared.ledger.Ledger.{Ledger}
use Rattle.store.specs.Tried.{AllEndAttempts, AreTried, EndsAttempt, IsAttempt, is_began, is_trying, trying_from}
use Rattle.store.specs.Seen.{HasBegun}

-- ---- the two ways to say that an attempt is open

same_began : (what : What) → is_began what ≡ law.is_began (Some what)
same_began Began = refl
same_began (Done label writes) = refl
same_began (Overlapped session item) = refl
same_began RolledBack = refl
same_began (Looked snapshot) = refl
same_began LookedAll = refl
same_began Unlooked = refl
same_began (Dropped below) = refl
same_began (Refused why) = refl
same_began (Fault device count call) = refl

trying_is : (who : Who) (last : Option What) (lines : List Line) → trying_from who (law.is_began last) lines ≡ law.is_began (last_behind last (own who lines))
trying_is who last [] = refl
trying_is who last (l ∷ lines) = at (same_item l.who who) (trying_is who (Some l.what) lines) (trying_is who last lines) where
  Own : Bool → List What
  Own test = map (λ (x : Line). x.what) (cond test (l ∷ filter (λ (x : Line). same_item x.who who) lines) (filter (λ (x : Line). same_item x.who who) lines))

  at : (test : Bool) → trying_from who (law.is_began (Some l.what)) lines ≡ law.is_began (last_behind (Some l.what) (own who lines)) → trying_from who (law.is_began last) lines ≡ law.is_began (last_behind last (own who lines))
      → trying_from who (cond test (is_began l.what) (law.is_began last)) lines ≡ law.is_began (last_behind last (Own test))
  at true one other = ap (λ (b : Bool). trying_from who b lines) (same_began l.what) ∙ one
  at false one other = other

pub trying_so : (who : Who) (lines : List Line) → is_trying who lines ≡ true → law.is_trying who lines ≡ true
trying_so who lines e = sym (trying_is who None lines) ∙ e

-- ---- lines that change a page

pub record ChangesAt (who : Who) (page : ℕ) (lines : List Line) (other : Who) : Type 0 where
  pub front : List Line
  pub at_line : Line
  pub more : List Line
  pub place : lines ≡ front ++ at_line ∷ more
  pub by_it : change_by who page at_line ≡ Some other

change_at : (who : Who) (page : ℕ) (lines : List Line) (other : Who) → last_change who page lines ≡ Some other → ChangesAt who page lines other
change_at who page [] other e = absurd (cc e)
change_at who page (l ∷ lines) other e = at (last_change who page lines) (change_at who page lines other) e where
  at : (later : Option Who) → (later ≡ Some other → ChangesAt who page lines other) → option_or later (change_by who page l) ≡ Some other → ChangesAt who page (l ∷ lines) other
  at None again f = record { front = []; at_line = l; more = lines; place = refl; by_it = f }
  at (Some x) again f = let c = again f in record { front = l ∷ c.front; at_line = c.at_line; more = c.more; place = ap (λ (ls : List Line). l ∷ ls) c.place; by_it = c.by_it }

changes_by : (who : Who) (page : ℕ) (l : Line) (other : Who) → change_by who page l ≡ Some other → (changes_page page l.what ≡ true) × (l.who ≡ other)
changes_by who page l other e = at (changes_page page l.what) (not (same_item l.who who)) refl e where
  at : (one two : Bool) → changes_page page l.what ≡ one → cond (one && two) (Some l.who) None ≡ Some other → (changes_page page l.what ≡ true) × (l.who ≡ other)
  at true true is f = (is, cc f)
  at true false is f = absurd (cc f)
  at false two is f = absurd (cc f)

ends_so : (before : List Line) (who : Who) (page : ℕ) (what : What) → changes_page page what ≡ true → EndsAttempt before who what → is_trying who before ≡ true
ends_so before who page (Done label writes) e ends = ends
ends_so before who page Began e ends = absurd (cc e)
ends_so before who page (Overlapped session item) e ends = absurd (cc e)
ends_so before who page RolledBack e ends = absurd (cc e)
ends_so before who page (Looked snapshot) e ends = absurd (cc e)
ends_so before who page LookedAll e ends = absurd (cc e)
ends_so before who page Unlooked e ends = absurd (cc e)
ends_so before who page (Dropped below) e ends = absurd (cc e)
ends_so before who page (Refused why) e ends = absurd (cc e)
ends_so before who page (Fault device count call) e ends = absurd (cc e)

ends_at : (before front : List Line) (l : Line) (more : List Line) → AllEndAttempts before (front ++ l ∷ more) → EndsAttempt (before ++ front) l.who l.what
ends_at before [] l more all = subst (λ (ls : List Line). EndsAttempt ls l.who l.what) (sym (append-nil before)) all.0
ends_at before (x ∷ front) l more all = subst (λ (ls : List Line). EndsAttempt ls l.who l.what) (append_assoc before (x ∷ []) front) (ends_at (before ++ x ∷ []) front l more all.1)

-- ---- sessions

not_own : (session : ℕ) (front : List Line) (l : Line) (more : List Line) → lines_of session (front ++ l ∷ more) ≡ [] → l.who.session ≢ session
not_own session [] l more none same = absurd (cc (none, ap (λ (b : Bool). cond b (l ∷ lines_of session more) (lines_of session more)) (eq-eqb l.who.session session same)))
not_own session (x ∷ front) l more none same = at (eqb x.who.session session) (λ e. not_own session front l more e same) none where
  at : (test : Bool) → (lines_of session (front ++ l ∷ more) ≡ [] → ⊥) → cond test (x ∷ lines_of session (front ++ l ∷ more)) (lines_of session (front ++ l ∷ more)) ≡ [] → ⊥
  at true again f = absurd (cc f)
  at false again f = again f

none_of : (who : Who) (lines : List Line) → lines_of who.session lines ≡ [] → own who lines ≡ []
none_of who [] none = refl
none_of who (l ∷ lines) none = at (eqb l.who.session who.session) refl (none_of who lines) none where
  Own : Bool → List What
  Own test = map (λ (x : Line). x.what) (cond test (l ∷ filter (λ (x : Line). same_item x.who who) lines) (filter (λ (x : Line). same_item x.who who) lines))

  at : (test : Bool) → eqb l.who.session who.session ≡ test → (lines_of who.session lines ≡ [] → own who lines ≡ []) → cond test (l ∷ lines_of who.session lines) (lines_of who.session lines) ≡ [] → own who (l ∷ lines) ≡ []
  at true is again f = absurd (cc f)
  at false is again f = ap Own (apart_items l.who who (λ e. absurd (cc (is, eq-eqb l.who.session who.session (ap (λ (w : Who). w.session) e))))) ∙ again f

-- the open transaction that holds a page
record HoldsPage (who : Who) (slots : List (Option Work)) (other : Who) : Type 0 where
  pub session : ℕ
  pub holder : Transaction
  pub there : work_at slots session ≡ Some (Open holder)
  pub is_other : holder.who ≡ other
  pub apart : holder.who.session ≢ who.session

latched_at : (who : Who) (page : ℕ) (other : Who) (slot : Option Work) → latched_by who page slot ≡ Some other → (t : Transaction) × (slot ≡ Some (Open t)) × (t.who ≡ other) × (t.who.session ≢ who.session)
latched_at who page other None e = absurd (cc e)
latched_at who page other (Some (Looking look)) e = absurd (cc e)
latched_at who page other (Some (KeptDrop w)) e = absurd (cc e)
latched_at who page other (Some (Open t)) e = at (is_among page (pages_of t.edits)) (eqb t.who.session who.session) refl e where
  at : (one two : Bool) → eqb t.who.session who.session ≡ two → cond (one && not two) (Some t.who) None ≡ Some other → (u : Transaction) × (Some (Open t) ≡ Some (Open u)) × (u.who ≡ other) × (u.who.session ≢ who.session)
  at true false is f = (t, refl, cc f, λ same. absurd (cc (is, eq-eqb t.who.session who.session same)))
  at true true is f = absurd (cc f)
  at false two is f = absurd (cc f)

holder_at : (who : Who) (page : ℕ) (other : Who) (slots : List (Option Work)) → latch_holder who page slots ≡ Some other → HoldsPage who slots other
holder_at who page other [] e = absurd (cc e)
holder_at who page other (slot ∷ slots) e = at (latched_by who page slot) refl (holder_at who page other slots) e where
  at : (here : Option Who) → latched_by who page slot ≡ here → (latch_holder who page slots ≡ Some other → HoldsPage who slots other) → option_or here (latch_holder who page slots) ≡ Some other → HoldsPage who (slot ∷ slots) other
  at None is again f = let h = again f in record { session = suc h.session; holder = h.holder; there = h.there; is_other = h.is_other; apart = h.apart }
  at (Some x) is again f = let l = latched_at who page other slot (is ∙ f) in record { session = 0; holder = l.0; there = l.1; is_other = l.2; apart = l.3 }

-- ---- an open transaction, and the journal

module _ (lines : List Line) (t : Transaction) (begun : HasBegun lines t.who.session t) where
  abbrev Since : List Line
  Since = take t.began lines

  abbrev Rest : List Line
  Rest = drop (t.began + 1) lines

  pub whole_is : lines ≡ (Since ++ line t.who Began ∷ []) ++ Rest
  whole_is = sym (take-append-drop t.began lines) ∙ (ap (λ (l : List Line). Since ++ l) begun.here ∙ sym (append_assoc Since (line t.who Began ∷ []) Rest))

  pub since_began : SinceBegan t.who lines Since Rest
  since_began = record { whole = whole_is; none = none_of t.who Rest begun.last }

  module _ (ledger : Ledger) (lines_are : ledger.book.lines ≡ lines) (tried : AreTried ledger) where
    commits_so : AllEndAttempts [] ((Since ++ line t.who Began ∷ []) ++ Rest)
    commits_so = subst (AllEndAttempts []) (lines_are ∙ whole_is) tried.commits

    -- another item changed a page since it began
    pub changed_overlaps : (page : ℕ) (other : Who) → changed_since t.who page t.began lines ≡ Some other → IsOverlapBy t.who lines other.session other.item
    changed_overlaps page other e =
        let first : last_change t.who page (line t.who Began ∷ Rest) ≡ Some other = ap (last_change t.who page) (sym begun.here) ∙ e in
        let c = change_at t.who page Rest other (later first) in
        let b = changes_by t.who page c.at_line other c.by_it in
        let before : List Line = (Since ++ line t.who Began ∷ []) ++ c.front in
        let there : AllEndAttempts [] (before ++ c.at_line ∷ c.more) = subst (AllEndAttempts []) (ap (λ (l : List Line). (Since ++ line t.who Began ∷ []) ++ l) c.place ∙ sym (append_assoc (Since ++ line t.who Began ∷ []) c.front (c.at_line ∷ c.more))) commits_so in
        let trying : is_trying c.at_line.who before ≡ true = ends_so before c.at_line.who page c.at_line.what b.0 (ends_at [] before c.at_line c.more there) in
        record {
          other = other;
          session_is = refl;
          item_is = refl;
          overlaps = record {
            apart = subst (λ (w : Who). w.session ≢ t.who.session) b.1 (not_own t.who.session c.front c.at_line c.more (ap (lines_of t.who.session) (sym c.place) ∙ begun.last));
            since = Since;
            rest = Rest;
            began = since_began;
            front = c.front;
            more = c.at_line ∷ c.more;
            place = c.place;
            trying = subst (λ (w : Who). law.is_trying w before ≡ true) b.1 (trying_so c.at_line.who before trying);
          };
        }
      where
        later : last_change t.who page (line t.who Began ∷ Rest) ≡ Some other → last_change t.who page Rest ≡ Some other
        later f = at (last_change t.who page Rest) f where
          at : (o : Option Who) → option_or o None ≡ Some other → o ≡ Some other
          at None g = absurd (cc g)
          at (Some x) g = g

    -- another session's open transaction holds a page
    pub holder_overlaps : (page : ℕ) (other : Who) → latch_holder t.who page ledger.works.slots ≡ Some other → IsOverlapBy t.who lines other.session other.item
    holder_overlaps page other e =
        let h = holder_at t.who page other ledger.works.slots e in
        let is : (h.holder.who.session ≡ h.session) × (is_trying h.holder.who ledger.book.lines ≡ true) = subst (IsAttempt ledger.book.lines h.session) h.there (tried.works h.session) in
        record {
          other = other;
          session_is = refl;
          item_is = refl;
          overlaps = record {
            apart = subst (λ (w : Who). w.session ≢ t.who.session) h.is_other h.apart;
            since = Since;
            rest = Rest;
            began = since_began;
            front = Rest;
            more = [];
            place = sym (append-nil Rest);
            trying = subst (λ (w : Who). law.is_trying w ((Since ++ line t.who Began ∷ []) ++ Rest) ≡ true) h.is_other (subst (λ (l : List Line). law.is_trying h.holder.who l ≡ true) (lines_are ∙ whole_is) (trying_so h.holder.who ledger.book.lines is.1));
          };
        }
