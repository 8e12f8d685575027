-- What a worker leaves: nothing, or the line of a fault.
use Rattle.std.proofs.Common.{◌≡◌, ◌++◌, ◌∙◌, ℕ, Bool, cond, List, [], ◌∷◌, Option, None, Result, Ok, Err, append-nil, refl, sym, ap, subst, eq-eqb}
use Rattle.std.specs.Prelude.{IfErr, is_some}
use Rattle.atomic_table.specs.Seated.{TableId}
use Rattle.disk_model.specs.Disk.{State}
use Rattle.retro_base.specs.declared.device.Device.{Device}
use Rattle.retro_base.specs.declared.refusal.Refusal.{Refusal}
use Rattle.retro_base.specs.declared.refusal.Refusal.TheVariants.{DiskFault, OutOfMemory, Stopped}
use Rattle.retro_base.specs.declared.who.Who.{Who}
use Rattle.history.specs.declared.journal.FailedCall.TheVariants.{Write}
use Rattle.history.specs.declared.journal.Line.{Line}
use Rattle.history.specs.declared.journal.What.TheVariants.{Fault}
use Rattle.history.specs.Lines.{lines_of}
use Rattle.journal_book.specs.declared.work.Work.{Work}
use Rattle.journal_book.specs.Book.{noting}
use Rattle.journal_book.specs.Works.{work_at}
use Rattle.txn_set.specs.declared.ledger.Ledger.{Ledger}
use Rattle.txn_set.specs.Ledger.{closed, faulted}
use Rattle.txn_set.specs.WorksFit.{Closes}
use Rattle.turn.specs.declared.view.Holding.{Holding}
use Rattle.turn.specs.Seats.{mine, seen}
use Rattle.store.specs.declared.desk_side.DeskSide.{DeskSide}
use Rattle.store.specs.declared.pace.Ended.{Ended}
use Rattle.store.specs.Rounds.{MayServe, Passes}
use Rattle.store.specs.Seats.{IsReady, Sat, Visited, journal, slots_of}
use Rattle.store.proofs.Meeting.{work_stays}
use Rattle.store.proofs.Passing.{serve_on}
use Rattle.store.proofs.Reaching.{RoundEnds, RoundRefused}
use Rattle.store.proofs.Recalling.{lines_append}
use Rattle.store.specs.WorkerRounds.{IsRoundRefusal, MayWork, last_answer, lines_left}

-- a worker's rounds find a line for a fault
pub serves : {D : Type 0} (s : Sat D) (who : Who) → MayWork s → MayServe s who
serves s who may = record {
  closes = λ d c. subst (λ (w : Option Work). Closes who (Fault d c Write) w) (sym may.idle) tt;
  worker = λ none. may.fresh;
}

-- ---- rounds that were answered

module _ {D : Type 0} (z : TableId) (s0 s1 : Sat D) (passes : Passes z s0 s1) where
  passes_lines : (mine s1).lines ≡ (mine s0).lines
  passes_lines = ap (λ (h : Holding Work). h.lines) passes.stays.mine_is

  pub passes_idle : MayWork s0 → (mine s1).work ≡ None
  passes_idle may = work_stays s0 s1 passes.stays ∙ may.idle

  pub passes_may : Who → MayWork s0 → MayWork s1
  passes_may who may = record { idle = passes_idle may; fresh = (serve_on z s0 s1 passes who (serves s0 who may)).worker (passes_idle may) }

-- ---- a fault of the last round

own_line : (who : Who) (line : Line) → line.who.session ≡ who.session → lines_of who.session (line ∷ []) ≡ line ∷ []
own_line who line own = ap (λ (b : Bool). cond b (line ∷ []) []) (eq-eqb line.who.session who.session own)

module _ {D : Type 0} (is_honest : D → Type 0) (state : D → State) (faults : D → ℕ) (z : TableId) (s0 s1 : Sat D) (d0 d1 : DeskSide D) (ready : IsReady z s0) (v : Visited is_honest state faults z s0 s1 d0 d1)
    (who : Who) (own : who.session ≡ s0.number) (none : (mine s0).work ≡ None) (d : Device) (c : ℕ) (told : d1.core.ledger ≡ faulted who d c Write d0.core.ledger) where
  abbrev Told : Line
  Told = record { who = who; what = Fault d c Write }

  number_is : (mine s0).number ≡ s0.number
  number_is = ready.rests.seat.number

  work_there : work_at (slots_of d0) who.session ≡ None
  work_there = ap (work_at (slots_of d0)) own ∙ (sym v.work ∙ none)

  pub noted : d1.core.ledger ≡ record d0.core.ledger { book = noting d0.core.ledger.book Told }
  noted = told ∙ ap (λ (w : Option Work). cond (is_some w) (closed who (Fault d c Write) d0.core.ledger) (record d0.core.ledger { book = noting d0.core.ledger.book Told })) work_there

  lines_there : lines_of s0.number (journal d0) ≡ (mine s0).lines
  lines_there = ap (lines_of s0.number) (sym v.place)
      ∙ (lines_append s0.number (seen s0) v.others ∙ (ap (λ (l : List Line). lines_of s0.number (seen s0) ++ l) v.apart ∙ (append-nil (lines_of s0.number (seen s0)) ∙ sym ready.lines)))

  fault_lines : (mine s1).lines ≡ (mine s0).lines ++ Told ∷ []
  fault_lines =
      ap (λ (h : Holding Work). h.lines) v.mine
      ∙ (ap (λ (n : ℕ). lines_of n (journal d1)) number_is
      ∙ (ap (λ (l : Ledger). lines_of s0.number l.book.lines) noted
      ∙ (lines_append s0.number (journal d0) (Told ∷ [])
      ∙ (ap (λ (l : List Line). l ++ lines_of s0.number (Told ∷ [])) lines_there
      ∙ ap (λ (l : List Line). (mine s0).lines ++ l) (ap (λ (n : ℕ). lines_of n (Told ∷ [])) (sym own) ∙ own_line who Told refl)))))

  pub fault_idle : (mine s1).work ≡ None
  fault_idle =
      ap (λ (h : Holding Work). h.work) v.mine
      ∙ (ap (λ (l : Ledger). work_at l.works.slots (mine s0).number) noted ∙ (ap (work_at (slots_of d0)) number_is ∙ (sym v.work ∙ none)))

-- ---- all rounds

module _ {D : Type 0} (is_honest : D → Type 0) (state : D → State) (faults : D → ℕ) (z : TableId) (who : Who) (s0 s1 : Sat D) (own : who.session ≡ s0.number) (may : MayWork s0) where
  pub record Leaves (result : Result Ended Refusal) : Type 0 where
    pub cause : IfErr result IsRoundRefusal
    pub lines : (mine s1).lines ≡ (mine s0).lines ++ lines_left who result
    pub idle : (mine s1).work ≡ None
    pub again : lines_left who result ≡ [] → MayWork s1

  quiet : (result : Result Ended Refusal) → lines_left who result ≡ [] → IfErr result IsRoundRefusal → Passes z s0 s1 → Leaves result
  quiet result none cause passes = record {
    cause = cause;
    lines = passes_lines z s0 s1 passes ∙ (sym (append-nil (mine s0).lines) ∙ ap (λ (l : List Line). (mine s0).lines ++ l) (sym none));
    idle = passes_idle z s0 s1 passes may;
    again = λ e. passes_may z s0 s1 passes who may;
  }

  refused : (why : Refusal) → RoundRefused is_honest state faults z who why s0 s1 → Leaves (Err why)
  refused (DiskFault d c) e =
      let p = e.0.passes in
      let v = e.0.visits in
      let m : Sat D = e.0.middle in
      let number : who.session ≡ m.number = own ∙ sym p.stays.same.number in
      let none = passes_idle z s0 m p may in
      record {
        cause = tt;
        lines = fault_lines is_honest state faults z m s1 v.before v.after p.ready v.visited who number none d c v.does
            ∙ ap (λ (l : List Line). l ++ record { who = who; what = Fault d c Write } ∷ []) (passes_lines z s0 m p);
        idle = fault_idle is_honest state faults z m s1 v.before v.after p.ready v.visited who number none d c v.does;
        again = λ e. absurd (cc e);
      }
  refused (Stopped d c) e = quiet (Err (Stopped d c)) refl tt e
  refused OutOfMemory e = quiet (Err OutOfMemory) refl tt e
  refused _ e = absurd e

  pub leaves : (result : Result Ended Refusal) → RoundEnds is_honest state faults z who (last_answer result) s0 s1 → Leaves result
  leaves (Ok x) ends = quiet (Ok x) refl tt ends
  leaves (Err why) ends = refused why ends
