-- What a worker leaves at its seat, as sessions see it.
use Rattle.std.proofs.Common.{◌≡◌, ◌<◌, ◌++◌, ◌∙◌, ℕ, List, [], None, Result, Ok, Err, append-nil, append_assoc, refl, sym, ap, subst}
use Rattle.atomic_table.specs.Seated.{TableId}
use Rattle.disk_model.specs.Disk.{State}
use Rattle.retro_base.specs.declared.device.Device.{Device}
use Rattle.retro_base.specs.declared.refusal.Refusal.{Refusal}
use Rattle.retro_base.specs.declared.refusal.Refusal.TheVariants.{DiskFault, OutOfMemory, Stopped}
use Rattle.retro_base.specs.declared.who.Who.{Who}
use Rattle.history.specs.declared.journal.FailedCall.TheVariants.{Write}
use Rattle.history.specs.declared.journal.Line.{Line}
use Rattle.history.specs.declared.journal.What.TheVariants.{Fault}
use Rattle.history.specs.Lines.{lines_of}
use Rattle.journal_law.specs.Seats as law
use Rattle.journal_law.specs.Seats.{Adds, Idle, IsNew, View, one}
use Rattle.txn_set.specs.Ledger.{faulted}
use Rattle.txn_set.specs.declared.ledger.Ledger.{Ledger}
use Rattle.turn.specs.Seats.{mine, seen}
use Rattle.store.specs.declared.pace.Ended.{Ended}
use Rattle.store.specs.declared.desk_side.DeskSide.{DeskSide}
use Rattle.store.specs.Rounds.{Passes}
use Rattle.store.specs.Seats.{Sat, Visited, journal}
use Rattle.store.specs.Seen.{ground_in, view_of, work_in}
use Rattle.store.proofs.Coming.{Came, moves, work_so}
use Rattle.store.proofs.Reaching.{IsNewSince, RoundEnds, RoundRefused}
use Rattle.store.proofs.Recalling.{lines_append}
use Rattle.store.specs.WorkerRounds.{MayWork, WorkerGives, last_answer}
use Rattle.store.proofs.FaultLeft.{fault_idle, noted, passes_idle}

module _ {D : Type 0} (is_honest : D → Type 0) (state : D → State) (faults : D → ℕ) (z : TableId) (s0 s1 : Sat D) (may : MayWork s0) where
  abbrev Old : View
  Old = view_of state faults None [] s0

  abbrev New : View
  New = view_of state faults None [] s1

  -- lines of others alone have come
  waits : Passes z s0 s1 → law.Waits Old New Old.work
  waits passes =
      let others = passes.waits.others in
      let c : Came s0 s1 others [] None = record {
        apart = passes.waits.apart;
        front = sym passes.waits.front ∙ sym (append-nil (seen s0 ++ others));
        work_is = passes_idle z s0 s1 passes may;
        number = passes.stays.same.number;
        opening_is = passes.stays.same.opening;
      } in
      record {
        moves = moves state faults None None [] [] s0 s1 others [] None c;
        work_is = work_so state faults None None [] [] s0 s1 others [] None c ∙ sym (ap (work_in None (seen s0)) may.idle);
        told_is = refl;
      }

  -- and then the line of a fault
  module _ (who : Who) (m : Sat D) (passes : Passes z s0 m) (d0 d1 : DeskSide D) (v : Visited is_honest state faults z m s1 d0 d1) (own : who.session ≡ m.number) (none : (mine m).work ≡ None)
      (d : Device) (c : ℕ) (told : d1.core.ledger ≡ faulted who d c Write d0.core.ledger) where
    abbrev More : List Line
    More = passes.waits.others ++ v.others

    place_is : seen s0 ++ More ≡ journal d0
    place_is = sym (append_assoc (seen s0) passes.waits.others v.others) ∙ (ap (λ (l : List Line). l ++ v.others) passes.waits.front ∙ v.place)

    none_own : lines_of s0.number More ≡ []
    none_own =
        lines_append s0.number passes.waits.others v.others
        ∙ (ap (λ (l : List Line). l ++ lines_of s0.number v.others) passes.waits.apart ∙ (ap (λ (n : ℕ). lines_of n v.others) (sym passes.stays.same.number) ∙ v.apart))

    came : Came s0 s1 More (one who (Fault d c Write)) None
    came = record {
      apart = none_own;
      front = v.seen ∙ (ap (λ (l : Ledger). l.book.lines) (noted is_honest state faults z m s1 d0 d1 passes.ready v who own none d c told) ∙ ap (λ (l : List Line). l ++ one who (Fault d c Write)) (sym place_is));
      work_is = fault_idle is_honest state faults z m s1 d0 d1 passes.ready v who own none d c told;
      number = v.same.number ∙ passes.stays.same.number;
      opening_is = v.same.opening ∙ passes.stays.same.opening;
    }

    adds : Adds Old New who (Fault d c Write) Idle
    adds = record {
      moves = moves state faults None None [] [] s0 s1 More (one who (Fault d c Write)) None came;
      work_is = work_so state faults None None [] [] s0 s1 More (one who (Fault d c Write)) None came;
      told_is = refl;
    }

    is_new : IsNewSince is_honest state faults z d c s1 → IsNew New d c
    is_new since less = let there = v.same.opening ∙ v.opening in subst (λ g. g.faults d < c) (sym (ap (ground_in state faults) there)) (since d0.start there less)

  module _ (who : Who) (own : who.session ≡ s0.number) where
    refused : (why : Refusal) → RoundRefused is_honest state faults z who why s0 s1 → WorkerGives {T = Ended} who Old New (Err why)
    refused (DiskFault d c) e =
        let p = e.0.passes in
        let v = e.0.visits in
        let number : who.session ≡ e.0.middle.number = own ∙ sym p.stays.same.number in
        let none = passes_idle z s0 e.0.middle p may in (
          adds who e.0.middle p v.before v.after v.visited number none d c v.does,
          is_new who e.0.middle p v.before v.after v.visited number none d c v.does e.1,
        )
    refused (Stopped d c) e = waits e
    refused OutOfMemory e = waits e
    refused _ e = absurd e

    pub gives : (result : Result Ended Refusal) → RoundEnds is_honest state faults z who (last_answer result) s0 s1 → WorkerGives who Old New result
    gives (Ok x) ends = waits ends
    gives (Err why) ends = refused why ends
