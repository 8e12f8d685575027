-- What each call leaves pinned: the looks that are open pin what the journal says.
use Rattle.std.specs.Prelude.{◌≡◌, ℕ, Bool, true, List, [], ◌∷◌, map, Option, Some, IsSome}
use Rattle.retro_base.specs.declared.device.Device.{Device}
use Rattle.retro_base.specs.declared.refusal.Refusal.{Refusal}
use Rattle.retro_base.specs.declared.who.Who.{Who}
use Rattle.history.specs.declared.entry.Base.{Base}
use Rattle.history.specs.declared.journal.What.{What}
use Rattle.history.specs.declared.journal.FailedCall.{FailedCall}
use Rattle.history.specs.declared.journal.What.TheVariants.{Began, Fault, Looked, LookedAll, Refused}
use Rattle.history.specs.Lines.{base_of}
use Rattle.journal_book.specs.declared.work.Transaction.{Transaction}
use Rattle.journal_book.specs.declared.work.Work.TheVariants.{Open}
use Rattle.journal_book.specs.Works.{work_at}
use Rattle.txn_set.specs.declared.ledger.Ledger.{Ledger}
use Rattle.txn_set.specs.Ledger.{closed, committed, drop_kept, faulted, fresh, given_up, is_closed}
use Rattle.txn_set.specs.Ledger.{is_idle, looking, opened, taken, with_told_line, with_open}
use Rattle.txn_set.specs.WorksFit.{Closes, PinsFit}

abbrev pub BeginPins : Type 0
BeginPins = (opening : Base) (l : Ledger) (who : Who) → PinsFit opening l
    → is_idle who (work_at l.works.slots who.session) ≡ true
    → PinsFit opening (opened who Began (fresh who l.book.lines) (given_up who l))

abbrev pub LookPins : Type 0
LookPins = (opening : Base) (l : Ledger) (who : Who) (number : ℕ) → PinsFit opening l
    → is_idle who (work_at l.works.slots who.session) ≡ true
    → PinsFit opening (opened who (Looked number) (looking who l.book.lines (number ∷ [])) (given_up who l))

abbrev pub LookAllPins : Type 0
LookAllPins = (opening : Base) (l : Ledger) (who : Who) → PinsFit opening l
    → is_idle who (work_at l.works.slots who.session) ≡ true
    → PinsFit opening
    (opened who LookedAll (looking who l.book.lines (map (λ mark. mark.number) (base_of opening l.book.lines).marks))
    (given_up who l))

-- a look that was refused
abbrev pub ToldPins : Type 0
ToldPins = (opening : Base) (l : Ledger) (who : Who) (why : Refusal) → PinsFit opening l
    → is_idle who (work_at l.works.slots who.session) ≡ true
    → PinsFit opening (with_told_line who (Refused why) (given_up who l))

abbrev pub ClosePins : Type 0
ClosePins = (opening : Base) (l : Ledger) (who : Who) (what : What) → PinsFit opening l
    → IsSome (work_at l.works.slots who.session)
    → Closes who what (work_at l.works.slots who.session) → PinsFit opening (closed who what l)

abbrev pub CommitPins : Type 0
CommitPins = (opening : Base) (l : Ledger) (t : Transaction) (label : Option (List ℕ)) → PinsFit opening l
    → work_at l.works.slots t.who.session ≡ Some (Open t)
    → PinsFit opening (committed t.who label t.edits (taken t.who l))

-- a read, an edit, or a refusal that is kept
abbrev pub OpenPins : Type 0
OpenPins = (opening : Base) (l : Ledger) (who : Who) (t new : Transaction) → PinsFit opening l
    → work_at l.works.slots who.session ≡ Some (Open t) → PinsFit opening (with_open who new l)

abbrev pub DropPins : Type 0
DropPins = (opening : Base) (l : Ledger) (who : Who) → PinsFit opening l
    → is_closed (work_at l.works.slots who.session) ≡ true → PinsFit opening (drop_kept who l)

abbrev pub FaultPins : Type 0
FaultPins = (opening : Base) (l : Ledger) (who : Who) (device : Device) (count : ℕ) (call : FailedCall)
    → PinsFit opening l
    → Closes who (Fault device count call) (work_at l.works.slots who.session)
    → PinsFit opening (faulted who device count call l)
