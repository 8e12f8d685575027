-- The works fit the journal behind each call.
use Rattle.std.proofs.Common.{◌≡◌, ◌∙◌, ◌+◌, ◌&&◌, ◌||◌, not, ℕ, zero, suc, Bool, true, false, cond, eqb, List, [], ◌∷◌, ◌++◌, drop, filter, Option, Some, None, refl, sym, ap, subst, arith, length-append}
use Rattle.std.specs.List.{AllByRecursion}
use Rattle.std.specs.Option.{option_or}
use Rattle.std.proofs.lemmas.Bool.{eqb-true, eqb-false}
use Rattle.std.proofs.lemmas.List.{drop-append-le}
use Rattle.retro_base.specs.declared.who.Who.{Who}
use Rattle.history.specs.declared.journal.Line.{Line}
use Rattle.history.specs.declared.journal.What.TheVariants.{Done}
use Rattle.history.specs.declared.writes.PageImage.{PageImage}
use Rattle.history.specs.LineLaws.{NoCommitOf}
use Rattle.history.specs.Lines.{begins, changed_since, changes_page, is_open, open_behind, open_in}
use Rattle.history.specs.Sound.{same_item}
use Rattle.history.specs.Writes.{pages_of, is_among}
use Rattle.history.proofs.Items.{same_self, apart_items}
use Rattle.history.proofs.Lines.{changed_since_in_one_more, open_in_one_more}
use Rattle.history.proofs.SoundLaws.{items_are}
use Rattle.journal_book.specs.declared.work.Transaction.{Transaction}
use Rattle.journal_book.specs.declared.work.Work.{Work}
use Rattle.journal_book.specs.declared.work.Work.TheVariants.{Open, Looking, KeptDrop}
use Rattle.journal_book.specs.Works.{edits_page, who_of, with_work, work_at}
use Rattle.journal_book.proofs.Slots.{work_at_with, works_of}
use Rattle.txn_set.specs.declared.ledger.Ledger.{Ledger}
use Rattle.txn_set.specs.WorksFit.{WorksFit, WorkFits, TransactionFits, has_begun, kept_lines}

abbrev pub one : Option Work → ℕ
one None = 0
one (Some work) = 1

abbrev pub ledger_of : ℕ → List Line → ℕ → ℕ → ℕ → List (Option Work) → Ledger
ledger_of pages lines kept workers count slots = record { book = record { pages = pages; lines = lines; kept = kept; workers = workers }; works = works_of count slots }

-- one kept line for each work
pub kept_with : (slots : List (Option Work)) (session : ℕ) (work : Option Work) → kept_lines (with_work slots session work) + one (work_at slots session) ≡ kept_lines slots + one work
kept_with [] zero None = refl
kept_with [] zero (Some work) = refl
kept_with [] (suc session) work = kept_with [] session work
kept_with (None ∷ slots) zero None = refl
kept_with (None ∷ slots) zero (Some work) = omega arith
kept_with (Some old ∷ slots) zero None = omega arith
kept_with (Some old ∷ slots) zero (Some work) = refl
kept_with (None ∷ slots) (suc session) work = kept_with slots session work
kept_with (Some old ∷ slots) (suc session) work = omega (arith, kept_with slots session work)

-- items of other sessions are others
other_session : (one other : Who) → (one.session ≡ other.session → ⊥) → same_item one other ≡ false
other_session one other apart = apart_items one other (λ is. apart (ap (λ (w : Who). w.session) is))

-- an item of another session stays open, or not
filtered : (line who : Who) (items : List Who) → same_item line who ≡ false → is_open who (filter (λ (w : Who). not (same_item w line)) items) ≡ is_open who items
filtered line who [] other = refl
filtered line who (item ∷ items) other = go (same_item item line) refl (filtered line who items other) where
  go : (b : Bool) → same_item item line ≡ b → is_open who (filter (λ (w : Who). not (same_item w line)) items) ≡ is_open who items
      → is_open who (cond (not b) (item ∷ filter (λ (w : Who). not (same_item w line)) items) (filter (λ (w : Who). not (same_item w line)) items)) ≡ same_item item who || is_open who items
  go true e again = again ∙ ap (λ (b : Bool). b || is_open who items) (sym (ap (λ (w : Who). same_item w who) (items_are item line e) ∙ other))
  go false e again = ap (λ (b : Bool). same_item item who || b) again

pub open_other : (items : List Who) (line : Line) (who : Who) → same_item line.who who ≡ false → is_open who (open_behind items line) ≡ is_open who items
open_other items line who other = go (begins line.what) where
  go : (b : Bool) → is_open who (cond b (line.who ∷ items) (filter (λ (w : Who). not (same_item w line.who)) items)) ≡ is_open who items
  go true = ap (λ (b : Bool). b || is_open who items) other
  go false = filtered line.who who items other

-- behind a line that begins its item is open
pub open_begun : (items : List Who) (line : Line) (who : Who) → begins line.what ≡ true → is_open who items ≡ false → is_open who (open_behind items line) ≡ same_item line.who who
open_begun items line who b none =
    ap (λ (x : Bool). is_open who (cond x (line.who ∷ items) (filter (λ (w : Who). not (same_item w line.who)) items))) b
    ∙ ap (λ (x : Bool). same_item line.who who || x) none ∙ or_false (same_item line.who who)
  where
    or_false : (x : Bool) → x || false ≡ x
    or_false true = refl
    or_false false = refl

-- behind another line it is not
gone : (line : Who) (items : List Who) → is_open line (filter (λ (w : Who). not (same_item w line)) items) ≡ false
gone line [] = refl
gone line (item ∷ items) = go (same_item item line) refl (gone line items) where
  go : (b : Bool) → same_item item line ≡ b → is_open line (filter (λ (w : Who). not (same_item w line)) items) ≡ false
      → is_open line (cond (not b) (item ∷ filter (λ (w : Who). not (same_item w line)) items) (filter (λ (w : Who). not (same_item w line)) items)) ≡ false
  go true e again = again
  go false e again = ap (λ (b : Bool). b || is_open line (filter (λ (w : Who). not (same_item w line)) items)) e ∙ again

pub open_ended : (items : List Who) (line : Line) (who : Who) → begins line.what ≡ false → (is_open who items ≡ true → line.who ≡ who) → is_open who (open_behind items line) ≡ false
open_ended items line who b own = ap (λ (x : Bool). is_open who (cond x (line.who ∷ items) (filter (λ (w : Who). not (same_item w line.who)) items))) b ∙ go (same_item line.who who) refl (is_open who items) refl where
  go : (x : Bool) → same_item line.who who ≡ x → (y : Bool) → is_open who items ≡ y → is_open who (filter (λ (w : Who). not (same_item w line.who)) items) ≡ false
  go true e y f = ap (λ (w : Who). is_open w (filter (λ (v : Who). not (same_item v line.who)) items)) (sym (items_are line.who who e)) ∙ gone line.who items
  go false e true f = absurd (cc (e, ap (λ (w : Who). same_item w who) (own f), same_self who))
  go false e false f = filtered line.who who items e ∙ f

all-push : {X : Type 0} (P : X → Type 0) (xs : List X) (x : X) → AllByRecursion P xs → P x → AllByRecursion P (xs ++ x ∷ [])
all-push P [] x all here = (here, tt)
all-push P (y ∷ ys) x all here = (all.0, all-push P ys x all.1 here)

-- a transaction of another session fits behind a line that does not change its pages
pub transaction_stays : (pages : ℕ) (lines : List Line) (line : Line) (t : Transaction) → TransactionFits pages lines t → (t.who.session ≡ line.who.session → ⊥)
    → ((page : ℕ) → is_among page (pages_of t.edits) ≡ true → changes_page page line.what ≡ false) → TransactionFits pages (lines ++ line ∷ []) t
transaction_stays pages lines line t fits other quiet = record {
  is_open = record {
    begun = omega (arith, fits.is_open.begun, length-append lines (line ∷ []));
    own = subst (NoCommitOf t.who) (sym (drop-append-le t.began lines (line ∷ []) fits.is_open.begun))
        (all-push (λ (l : Line). (label : Option (List ℕ)) (writes : List PageImage) → l.who ≡ t.who → l.what ≡ Done label writes → ⊥) (drop t.began lines) line fits.is_open.own
        (λ label writes is what. other (ap (λ (w : Who). w.session) (sym is))));
  };
  few = fits.few;
  edits_rise = fits.edits_rise;
  edits_inside = fits.edits_inside;
  unchanged = λ page edits.
      changed_since_in_one_more t.who page t.began lines line fits.is_open.begun
      ∙ ap (λ (b : Bool). option_or (cond (b && not (same_item line.who t.who)) (Some line.who) None) (changed_since t.who page t.began lines)) (quiet page edits)
      ∙ fits.unchanged page edits;
  reads_inside = fits.reads_inside;
  may_keep = fits.may_keep;
}

work_stays : (pages : ℕ) (lines : List Line) (line : Line) (work : Work) → WorkFits pages lines work → ((who_of work).session ≡ line.who.session → ⊥)
    → ((page : ℕ) → edits_page page (Some work) ≡ true → changes_page page line.what ≡ false) → WorkFits pages (lines ++ line ∷ []) work
work_stays pages lines line (Open t) fits other quiet = transaction_stays pages lines line t fits other quiet
work_stays pages lines line (Looking look) fits other quiet = record { begun = omega (arith, fits.begun, length-append lines (line ∷ [])); pins_rise = fits.pins_rise }
work_stays pages lines line (KeptDrop who) fits other quiet = tt

-- what stands at the sessions behind a change at one
pub record Changes (slots new : List (Option Work)) (session : ℕ) (work : Option Work) : Type 0 where
  pub at : (other : ℕ) → work_at new other ≡ cond (eqb other session) work (work_at slots other)

pub changes_with : (slots : List (Option Work)) (session : ℕ) (work : Option Work) → Changes slots (with_work slots session work) session work
changes_with slots session work = record { at = λ other. work_at_with slots session other work }

pub changes_none : (slots : List (Option Work)) (session : ℕ) → Changes slots slots session (work_at slots session)
changes_none slots session = record { at = λ other. go other (eqb other session) refl } where
  go : (other : ℕ) → (b : Bool) → eqb other session ≡ b → work_at slots other ≡ cond b (work_at slots session) (work_at slots other)
  go other true e = ap (work_at slots) (eqb-true other session e)
  go other false e = refl

-- the new work is its session's, and its edits no other's
pub record MayCome (pages : ℕ) (lines : List Line) (slots : List (Option Work)) (session : ℕ) (work : Option Work) : Type 0 where
  pub own : (w : Work) → work ≡ Some w → (who_of w).session ≡ session
  pub fits : (w : Work) → work ≡ Some w → WorkFits pages lines w
  pub alone : (page other : ℕ) → edits_page page work ≡ true → edits_page page (work_at slots other) ≡ true → other ≡ session

module _ (l : Ledger) (fits : WorksFit l) (session : ℕ) (work : Option Work) (new : List (Option Work)) (changes : Changes l.works.slots new session work) where
  sessions_stay : (lines : List Line) → MayCome l.book.pages lines l.works.slots session work → (other : ℕ) (w : Work) → work_at new other ≡ Some w → (who_of w).session ≡ other
  sessions_stay lines come other w is = go (eqb other session) refl (sym (changes.at other) ∙ is) where
    go : (b : Bool) → eqb other session ≡ b → cond b work (work_at l.works.slots other) ≡ Some w → (who_of w).session ≡ other
    go true e f = come.own w f ∙ sym (eqb-true other session e)
    go false e f = fits.sessions other w f

  apart_stays : (lines : List Line) → MayCome l.book.pages lines l.works.slots session work → (page first second : ℕ) → edits_page page (work_at new first) ≡ true → edits_page page (work_at new second) ≡ true → first ≡ second
  apart_stays lines come page first second is there =
      go (eqb first session) refl (eqb second session) refl (ap (edits_page page) (sym (changes.at first)) ∙ is) (ap (edits_page page) (sym (changes.at second)) ∙ there) where
        go : (b : Bool) → eqb first session ≡ b → (c : Bool) → eqb second session ≡ c → edits_page page (cond b work (work_at l.works.slots first)) ≡ true → edits_page page (cond c work (work_at l.works.slots second)) ≡ true → first ≡ second
        go true e true f is there = eqb-true first session e ∙ sym (eqb-true second session f)
        go true e false f is there = eqb-true first session e ∙ sym (come.alone page second is there)
        go false e true f is there = come.alone page first there is ∙ sym (eqb-true second session f)
        go false e false f is there = fits.apart page first second is there

  -- without a line
  pub fits_with : (kept : ℕ) → MayCome l.book.pages l.book.lines l.works.slots session work → kept ≡ kept_lines new → ((who : Who) → who.session ≡ session → has_begun who work ≡ has_begun who (work_at l.works.slots session))
      → WorksFit (ledger_of l.book.pages l.book.lines kept l.book.workers l.works.pages new)
  fits_with kept come count begun = record {
    pages = fits.pages;
    sessions = sessions_stay l.book.lines come;
    each = λ other w is. each other w (eqb other session) refl (sym (changes.at other) ∙ is);
    apart = apart_stays l.book.lines come;
    kept = count;
    open_items = λ who. fits.open_items who ∙ open_there who (eqb who.session session) refl ∙ ap (has_begun who) (sym (changes.at who.session));
  } where
    each : (other : ℕ) (w : Work) → (b : Bool) → eqb other session ≡ b → cond b work (work_at l.works.slots other) ≡ Some w → WorkFits l.book.pages l.book.lines w
    each other w true e f = come.fits w f
    each other w false e f = fits.each other w f

    open_there : (who : Who) → (b : Bool) → eqb who.session session ≡ b → has_begun who (work_at l.works.slots who.session) ≡ has_begun who (cond b work (work_at l.works.slots who.session))
    open_there who true e = ap (λ (n : ℕ). has_begun who (work_at l.works.slots n)) (eqb-true who.session session e) ∙ sym (begun who (eqb-true who.session session e))
    open_there who false e = refl

  -- with a line of the session
  pub fits_more : (line : Line) (kept workers : ℕ) → line.who.session ≡ session → MayCome l.book.pages (l.book.lines ++ line ∷ []) l.works.slots session work → kept ≡ kept_lines new
      → ((page other : ℕ) → edits_page page (work_at l.works.slots other) ≡ true → (other ≡ session → ⊥) → changes_page page line.what ≡ false)
      → ((who : Who) → who.session ≡ session → is_open who (open_behind (open_in l.book.lines) line) ≡ has_begun who work)
      → WorksFit (ledger_of l.book.pages (l.book.lines ++ line ∷ []) kept workers l.works.pages new)
  fits_more line kept workers own come count quiet begun = record {
    pages = fits.pages;
    sessions = sessions_stay (l.book.lines ++ line ∷ []) come;
    each = λ other w is. each other w (eqb other session) refl (sym (changes.at other) ∙ is);
    apart = apart_stays (l.book.lines ++ line ∷ []) come;
    kept = count;
    open_items = λ who. ap (is_open who) (open_in_one_more l.book.lines line) ∙ open_there who (eqb who.session session) refl ∙ ap (has_begun who) (sym (changes.at who.session));
  } where
    each : (other : ℕ) (w : Work) → (b : Bool) → eqb other session ≡ b → cond b work (work_at l.works.slots other) ≡ Some w → WorkFits l.book.pages (l.book.lines ++ line ∷ []) w
    each other w true e f = come.fits w f
    each other w false e f =
        work_stays l.book.pages l.book.lines line w (fits.each other w f) (λ same. eqb-false other session e (sym (fits.sessions other w f) ∙ same ∙ own))
        (λ page edits. quiet page other (ap (edits_page page) f ∙ edits) (eqb-false other session e))

    open_there : (who : Who) → (b : Bool) → eqb who.session session ≡ b → is_open who (open_behind (open_in l.book.lines) line) ≡ has_begun who (cond b work (work_at l.works.slots who.session))
    open_there who true e = begun who (eqb-true who.session session e)
    open_there who false e = open_other (open_in l.book.lines) line who (other_session line.who who (λ same. eqb-false who.session session e (sym same ∙ own))) ∙ fits.open_items who
