-- What the looks pin, behind each step of a ledger.
use Rattle.std.proofs.Common.{◌≡◌, ◌∙◌, ◌+◌, ◌-◌, ℕ, Bool, true, false, cond, eqb, List, [], ◌∷◌, ◌++◌, map, Option, Some, None, refl, sym, ap, subst}
use Rattle.std.specs.Prelude.{IsSome, is_some}
use Rattle.std.proofs.lemmas.Bool.{eqb-true, eqb-false}
use Rattle.std.proofs.lemmas.List.{append-nil}
use Rattle.retro_base.specs.declared.who.Who.{Who}
use Rattle.history.specs.declared.entry.Base.{Base}
use Rattle.history.specs.declared.journal.FailedCall.{FailedCall}
use Rattle.history.specs.declared.journal.Line.{Line}
use Rattle.history.specs.declared.journal.What.{What}
use Rattle.history.specs.declared.journal.What.TheVariants.{Began, Done, Overlapped, RolledBack, Looked, LookedAll, Unlooked, Dropped, Refused, Fault}
use Rattle.history.specs.LineLaws.{ends_look}
use Rattle.history.specs.Lines.{base_of, begins, pinned_by}
use Rattle.history.specs.Sound.{Pin, pins_behind, pins_of, same_item}
use Rattle.history.proofs.Items.{ended_pins_nothing, looks_pin, others_pins_stay, same_self}
use Rattle.history.proofs.Lines.{pins_of_one_more}
use Rattle.history.proofs.SoundLaws.{items_are}
use Rattle.journal_book.specs.declared.work.Look.{Look}
use Rattle.journal_book.specs.declared.work.Work.{Work}
use Rattle.journal_book.specs.declared.work.Work.TheVariants.{Open, Looking, KeptDrop}
use Rattle.journal_book.specs.Works.{with_work, work_at}
use Rattle.txn_set.specs.declared.ledger.Ledger.{Ledger}
use Rattle.txn_set.specs.Ledger.{closed, fresh, given_up, gives_up, keeping_drop, keeps_drop, keeps_other_drop, line_of, looking, opened}
use Rattle.txn_set.specs.PinLaws.{BeginPins, ClosePins, CommitPins, DropPins, FaultPins, LookAllPins, LookPins, OpenPins, ToldPins}
use Rattle.txn_set.specs.WorksFit.{Closes, PinsFit, pins_at}
use Rattle.txn_set.proofs.Fits.{Changes, changes_none, changes_with, ledger_of}
use Rattle.txn_set.proofs.FitSteps.{idle_none, is_none}
use Rattle.txn_set.proofs.LedgerSteps.{is_idle_so}

-- without a line
pins_with : (opening : Base) (l : Ledger) (session : ℕ) (work : Option Work) (kept : ℕ) → PinsFit opening l → ((who : Who) → who.session ≡ session → pins_at who work ≡ pins_at who (work_at l.works.slots session))
    → PinsFit opening (ledger_of l.book.pages l.book.lines kept l.book.workers l.works.pages (with_work l.works.slots session work))
pins_with opening l session work kept fits same = record { pins = λ who. fits.pins who ∙ go who (eqb who.session session) refl ∙ ap (pins_at who) (sym ((changes_with l.works.slots session work).at who.session)) } where
  go : (who : Who) → (b : Bool) → eqb who.session session ≡ b → pins_at who (work_at l.works.slots who.session) ≡ pins_at who (cond b work (work_at l.works.slots who.session))
  go who true e = ap (λ (n : ℕ). pins_at who (work_at l.works.slots n)) (eqb-true who.session session e) ∙ sym (same who (eqb-true who.session session e))
  go who false e = refl

-- with a line: the others pin what they did, and this item what it pins now
pins_more : (opening : Base) (l : Ledger) (who : Who) (what : What) (work : Option Work) (new : List (Option Work)) (kept workers : ℕ) → Changes l.works.slots new who.session work → PinsFit opening l
    → pinned_by who (pins_of opening [] (l.book.lines ++ line_of who what ∷ [])) ≡ pins_at who work
    → ((other : Who) → same_item who other ≡ false → pins_at other (work_at l.works.slots who.session) ≡ pins_at other work)
    → PinsFit opening (ledger_of l.book.pages (l.book.lines ++ line_of who what ∷ []) kept workers l.works.pages new)
pins_more opening l who what work new kept workers changes fits mine rest = record { pins = λ other. go other (same_item who other) refl (eqb other.session who.session) refl ∙ ap (pins_at other) (sym (changes.at other.session)) } where
  stays : (other : Who) → same_item who other ≡ false → pinned_by other (pins_of opening [] (l.book.lines ++ line_of who what ∷ [])) ≡ pins_at other (work_at l.works.slots other.session)
  stays other apart = others_pins_stay opening l.book.lines (line_of who what) other (λ is. absurd (cc (apart, ap (λ (w : Who). same_item who w) is, same_self who))) ∙ fits.pins other

  go : (other : Who) → (s : Bool) → same_item who other ≡ s → (b : Bool) → eqb other.session who.session ≡ b
      → pinned_by other (pins_of opening [] (l.book.lines ++ line_of who what ∷ [])) ≡ pins_at other (cond b work (work_at l.works.slots other.session))
  go other true s true e = subst (λ (w : Who). pinned_by w (pins_of opening [] (l.book.lines ++ line_of who what ∷ [])) ≡ pins_at w work) (items_are who other s) mine
  go other true s false e = absurd (eqb-false other.session who.session e (sym (ap (λ (w : Who). w.session) (items_are who other s))))
  go other false s true e = stays other s ∙ ap (λ (n : ℕ). pins_at other (work_at l.works.slots n)) (eqb-true other.session who.session e) ∙ rest other s
  go other false s false e = stays other s

-- a line that neither looks nor ends a look leaves the pins
plain : (base : Base) (pins : List Pin) (who : Who) (what : What) → begins what ≡ false → ends_look what ≡ false → pins_behind base pins who what ≡ pins
plain base pins who Began b e = refl
plain base pins who (Done label writes) b e = refl
plain base pins who (Overlapped session item) b e = refl
plain base pins who RolledBack b e = refl
plain base pins who (Dropped below) b e = refl
plain base pins who (Looked snapshot) b e = absurd cc
plain base pins who LookedAll b e = absurd cc
plain base pins who Unlooked b e = absurd cc
plain base pins who (Refused why) b e = absurd cc
plain base pins who (Fault device count call) b e = absurd cc

-- behind a line that begins nothing an item that pinned nothing pins nothing
nothing : (opening : Base) (lines : List Line) (who : Who) (what : What) → begins what ≡ false → pinned_by who (pins_of opening [] lines) ≡ [] → pinned_by who (pins_of opening [] (lines ++ line_of who what ∷ [])) ≡ []
nothing opening lines who what b none = go (ends_look what) refl where
  go : (e : Bool) → ends_look what ≡ e → pinned_by who (pins_of opening [] (lines ++ line_of who what ∷ [])) ≡ []
  go true e = ended_pins_nothing opening lines (line_of who what) e
  go false e = ap (pinned_by who) (pins_of_one_more opening lines (line_of who what) ∙ plain (base_of opening lines) (pins_of opening [] lines) who what b e) ∙ none

look_rest : (who : Who) (look : Look) (other : Who) → look.who ≡ who → same_item who other ≡ false → pins_at other (Some (Looking look)) ≡ []
look_rest who look other own apart = ap (λ (b : Bool). cond b look.pins []) (ap (λ (w : Who). same_item w other) own ∙ apart)

pins_given_up : (opening : Base) (l : Ledger) (who : Who) → PinsFit opening l → PinsFit opening (given_up who l)
pins_given_up opening l who fits = go (keeps_other_drop who (work_at l.works.slots who.session)) refl where
  no_pins : (work : Option Work) → keeps_other_drop who work ≡ true → (other : Who) → pins_at other None ≡ pins_at other work
  no_pins (Some (KeptDrop drop)) e other = refl
  no_pins (Some (Open t)) e other = refl
  no_pins (Some (Looking look)) e other = absurd cc
  no_pins None e other = refl

  go : (b : Bool) → keeps_other_drop who (work_at l.works.slots who.session) ≡ b → PinsFit opening (cond b (gives_up who.session l) l)
  go true e = pins_with opening l who.session None (l.book.kept - 1) fits (λ other same. no_pins (work_at l.works.slots who.session) e other)
  go false e = fits

module _ (opening : Base) (l : Ledger) (who : Who) (fits : PinsFit opening l) (none : work_at l.works.slots who.session ≡ None) where
  before : pinned_by who (pins_of opening [] l.book.lines) ≡ []
  before = fits.pins who ∙ ap (pins_at who) none

  begun : PinsFit opening (opened who Began (fresh who l.book.lines) l)
  begun =
      pins_more opening l who Began (Some (fresh who l.book.lines)) (with_work l.works.slots who.session (Some (fresh who l.book.lines))) (l.book.kept + 1) l.book.workers
      (changes_with l.works.slots who.session (Some (fresh who l.book.lines))) fits (ap (pinned_by who) (pins_of_one_more opening l.book.lines (line_of who Began)) ∙ before) (λ other apart. ap (pins_at other) none)

  looked : (what : What) (pins : List ℕ) → pinned_by who (pins_of opening [] (l.book.lines ++ line_of who what ∷ [])) ≡ pins → PinsFit opening (opened who what (looking who l.book.lines pins) l)
  looked what pins mine =
      pins_more opening l who what (Some (looking who l.book.lines pins)) (with_work l.works.slots who.session (Some (looking who l.book.lines pins))) (l.book.kept + 1) l.book.workers
      (changes_with l.works.slots who.session (Some (looking who l.book.lines pins))) fits (mine ∙ sym (ap (λ (b : Bool). cond b pins []) (same_self who)))
      (λ other apart. ap (pins_at other) none ∙ sym (ap (λ (b : Bool). cond b pins []) apart))

  lone : (what : What) (workers : ℕ) → begins what ≡ false → PinsFit opening (ledger_of l.book.pages (l.book.lines ++ line_of who what ∷ []) l.book.kept workers l.works.pages l.works.slots)
  lone what workers b =
      pins_more opening l who what (work_at l.works.slots who.session) l.works.slots l.book.kept workers (changes_none l.works.slots who.session) fits
      (nothing opening l.book.lines who what b before ∙ sym (ap (pins_at who) none)) (λ other apart. refl)

lines_same : (l : Ledger) (who : Who) → (given_up who l).book.lines ≡ l.book.lines
lines_same l who = go (keeps_other_drop who (work_at l.works.slots who.session)) where
  go : (b : Bool) → (cond b (gives_up who.session l) l).book.lines ≡ l.book.lines
  go true = refl
  go false = refl

pub begin_pins : BeginPins
begin_pins opening l who fits idle = subst (λ (x : List Line). PinsFit opening (opened who Began (fresh who x) (given_up who l))) (lines_same l who) (begun opening (given_up who l) who (pins_given_up opening l who fits) (idle_none l who idle))

pub look_pins : LookPins
look_pins opening l who number fits idle =
    let up : Ledger = given_up who l in
    let none : work_at up.works.slots who.session ≡ None = idle_none l who idle in
    let there : PinsFit opening up = pins_given_up opening l who fits in
    subst (λ (x : List Line). PinsFit opening (opened who (Looked number) (looking who x (number ∷ [])) up)) (lines_same l who)
    (looked opening up who there none (Looked number) (number ∷ []) ((looks_pin opening up.book.lines (line_of who (Looked number))).0 number refl ∙ ap (λ (p : List ℕ). number ∷ p) (before opening up who there none)))

pub look_all_pins : LookAllPins
look_all_pins opening l who fits idle =
    let up : Ledger = given_up who l in
    let none : work_at up.works.slots who.session ≡ None = idle_none l who idle in
    let there : PinsFit opening up = pins_given_up opening l who fits in
    subst (λ (x : List Line). PinsFit opening (opened who LookedAll (looking who x (map (λ mark. mark.number) (base_of opening x).marks)) up)) (lines_same l who)
    (looked opening up who there none LookedAll (map (λ mark. mark.number) (base_of opening up.book.lines).marks)
    ((looks_pin opening up.book.lines (line_of who LookedAll)).1 refl ∙ ap (λ (p : List ℕ). map (λ mark. mark.number) (base_of opening up.book.lines).marks ++ p) (before opening up who there none) ∙ append-nil _))

pub told_pins : ToldPins
told_pins opening l who why fits idle = lone opening (given_up who l) who (pins_given_up opening l who fits) (idle_none l who idle) (Refused why) (given_up who l).book.workers refl

pub close_pins : ClosePins
close_pins opening l who what fits some closes = go (work_at l.works.slots who.session) refl some closes where
  shut : pinned_by who (pins_of opening [] (l.book.lines ++ line_of who what ∷ [])) ≡ [] → ((other : Who) → same_item who other ≡ false → pins_at other (work_at l.works.slots who.session) ≡ []) → PinsFit opening (closed who what l)
  shut mine rest = pins_more opening l who what None (with_work l.works.slots who.session None) (l.book.kept - 1) l.book.workers (changes_with l.works.slots who.session None) fits mine rest

  go : (work : Option Work) → work_at l.works.slots who.session ≡ work → IsSome work → Closes who what work → PinsFit opening (closed who what l)
  go None e s c = absurd cc
  go (Some (Open t)) e s c = shut (nothing opening l.book.lines who what c.0 (fits.pins who ∙ ap (pins_at who) e)) (λ other apart. ap (pins_at other) e)
  go (Some (KeptDrop drop)) e s c = shut (nothing opening l.book.lines who what c (fits.pins who ∙ ap (pins_at who) e)) (λ other apart. ap (pins_at other) e)
  go (Some (Looking look)) e s c = shut (ended_pins_nothing opening l.book.lines (line_of who what) c.0) (λ other apart. ap (pins_at other) e ∙ look_rest who look other c.1 apart)

pub commit_pins : CommitPins
commit_pins opening l t label fits is =
    pins_more opening l t.who (Done label t.edits) None (with_work l.works.slots t.who.session None) (l.book.kept - 1) l.book.workers (changes_with l.works.slots t.who.session None) fits
    (nothing opening l.book.lines t.who (Done label t.edits) refl (fits.pins t.who ∙ ap (pins_at t.who) is)) (λ other apart. ap (pins_at other) is)

pub open_pins : OpenPins
open_pins opening l who t new fits is = pins_with opening l who.session (Some (Open new)) l.book.kept fits (λ other same. sym (ap (pins_at other) is))

pub drop_pins : DropPins
drop_pins opening l who fits closed_there = go (keeps_drop who (work_at l.works.slots who.session)) refl where
  go : (b : Bool) → keeps_drop who (work_at l.works.slots who.session) ≡ b → PinsFit opening (cond b l (keeping_drop who (given_up who l)))
  go true e = fits
  go false e =
      pins_with opening (given_up who l) who.session (Some (KeptDrop who)) ((given_up who l).book.kept + 1) (pins_given_up opening l who fits)
      (λ other same. sym (ap (pins_at other) (idle_none l who (is_idle_so who l closed_there e))))

pub fault_pins : FaultPins
fault_pins opening l who device count call fits closes = go (is_some (work_at l.works.slots who.session)) refl where
  go : (b : Bool) → is_some (work_at l.works.slots who.session) ≡ b
      → PinsFit opening (cond b (closed who (Fault device count call) l) (ledger_of l.book.pages (l.book.lines ++ line_of who (Fault device count call) ∷ []) l.book.kept (l.book.workers - 1) l.works.pages l.works.slots))
  go true e = close_pins opening l who (Fault device count call) fits e closes
  go false e = lone opening l who fits (is_none (work_at l.works.slots who.session) e) (Fault device count call) (l.book.workers - 1) refl
