-- When a seat may leave the desk as a call made it.
use Rattle.std.proofs.Common.{◌≡◌, ◌≤◌, ◌<◌, ◌∙◌, ◌++◌, ℕ, List, sym, ap, subst, inl, inr, ⊎_elim, arith}
use Rattle.disk_model.specs.Disk.{State}
use Rattle.retro_base.specs.declared.device.Device.{Device}
use Rattle.retro_base.specs.declared.who.Who.{Who}
use Rattle.history.specs.declared.entry.Base.{Base}
use Rattle.history.specs.declared.journal.What.{What}
use Rattle.journal_book.specs.declared.work.Work.{Work}
use Rattle.journal_book.specs.Works.{work_at}
use Rattle.txn_set.specs.declared.ledger.Ledger.{Ledger}
use Rattle.history.specs.Sound.{IsSound}
use Rattle.std.specs.Prelude.{◌↔◌}
use Rattle.desk.specs.declared.desk.RunningDesk.{RunningDesk}
use Rattle.store_core.specs.declared.desk_core.Core.{Core}
use Rattle.store_core.specs.Core.{IsWholeCore, StaysCore}
use Rattle.turn.specs.declared.view.Holding.{Holding}
use Rattle.turn.specs.Faults.{desk_faults, fault_times, line_fault}
use Rattle.turn.specs.Seats.{MayLeave}
use Rattle.store.specs.declared.desk_side.DeskSide.{DeskSide}
use Rattle.store.specs.declared.start.Start.{Start}
use Rattle.store.specs.Seats.{HasOwn, journal}
use Rattle.store.specs.Sides.{DeskStands, Keeps, of_desk}
use Rattle.store.specs.Start.{AreAsHonest, IsCoreFrom, IsLaterCore, IsOpenedTo, Origin, desk_counts, of_start, opened_base}
use Rattle.store.specs.Tried.{AreTried}
use Rattle.store.specs.Workers.{WorkersFit}
use Rattle.store.proofs.Adding.{AddsOwn}

-- each fault that a line tells is among these
abbrev pub IsToldIn : List (Device × ℕ) → What → Type 0
IsToldIn faults what = (d : Device) (c : ℕ) → 0 < line_fault d c what → 0 < fault_times d c faults

pub both : {A B C : Type 0} → (A ↔ B) → (B ↔ C) → A ↔ C
both one other = (λ a. other.0 (one.0 a), λ c. one.1 (other.1 c))

-- where nothing changed of the two devices
pub as_honest : {D : Type 0} (is_honest : D → Type 0) (old new : Core D) → new.desk ≡ old.desk → AreAsHonest is_honest old new
as_honest {D} is_honest old new e = let p = subst (λ (r : RunningDesk D). (is_honest old.desk.log.disk ↔ is_honest r.log.disk) × (is_honest old.desk.pool.file.disk ↔ is_honest r.pool.file.disk)) (sym e) ((λ a. a, λ a. a), (λ a. a, λ a. a)) in record { log = p.0; pages = p.1 }

module _ {D : Type 0} (is_honest : D → Type 0) (state : D → State) where
  pub whole_core : (side : DeskSide D) → DeskStands is_honest state side → IsWholeCore is_honest state side.core
  whole_core side stands = let found = stands.stands stands.origin stands.opened in record { opening = stands.origin.history; plain = found.plain; is = found.is }

  pub sound_journal : (side : DeskSide D) → DeskStands is_honest state side → IsSound (opened_base side.start) (journal side)
  sound_journal side stands = let found = stands.stands stands.origin stands.opened in subst (λ (b : Base). IsSound b (journal side)) stands.opened.base found.is.ledger.sound

  module _ (old new : DeskSide D) (start : new.start ≡ old.start) where
    -- the core is still one from each history
    pub stands_moved : ((origin : Origin) → IsCoreFrom is_honest state origin old.core → IsCoreFrom is_honest state origin new.core) → AreAsHonest is_honest old.core new.core → DeskStands is_honest state old → DeskStands is_honest state new
    stands_moved moves honest stands = record {
      honest = subst (λ (s : Start D). AreAsHonest is_honest s.core.value new.core) (sym start) (record { log = both stands.honest.log honest.log; pages = both stands.honest.pages honest.pages });
      origin = stands.origin;
      opened = subst (λ (s : Start D). IsOpenedTo is_honest state s stands.origin) (sym start) stands.opened;
      stands = λ other opened. moves other (stands.stands other (subst (λ (s : Start D). IsOpenedTo is_honest state s other) start opened));
    }

    pub stands_stays : StaysCore is_honest state old.core new.core → AreAsHonest is_honest old.core new.core → DeskStands is_honest state old → DeskStands is_honest state new
    stands_stays stays = stands_moved (λ origin from_. record { plain = from_.plain; is = stays origin.history from_.plain from_.is; floor = from_.floor; in_version = from_.in_version })

    -- seats are as many
    below : (n : ℕ) → new.start.seats.value ≤ n → old.start.seats.value ≤ n
    below n = subst (λ (s : Start D). s.seats.value ≤ n) start

    -- faults are not fewer than at the opening
    later_on : (faults : D → ℕ) → IsLaterCore faults old.start.core.value old.core → ((d : Device) → desk_counts faults old.core d ≤ desk_counts faults new.core d) → IsLaterCore faults new.start.core.value new.core
    later_on faults later counts = subst (λ (s : Start D). IsLaterCore faults s.core.value new.core) (sym start) (λ d. let a = later d in let b = counts d in omega (arith, a, b))

    -- a line of the seat's own, or none, with its work
    pub may_leave : (faults : D → ℕ) (who : Who) (tells : List (Device × ℕ) → Type 0) (most : ℕ) (mine : Holding Work) → DeskStands is_honest state new
        → ((d : Device) → desk_counts faults old.core d ≤ desk_counts faults new.core d) → new.core.desk.queue.first ≡ old.core.desk.queue.first
        → AddsOwn who.session (IsToldIn (mine.faults ++ desk_faults (desk_counts faults old.core) (desk_counts faults new.core))) old.core.ledger new.core.ledger
        → HasOwn who tells old mine → IsLaterCore faults old.start.core.value old.core → old.core.desk.queue.first ≤ most → MayLeave (of_desk is_honest state faults) (of_start faults) most mine old new
    may_leave faults who tells most mine stands counts acked adds own later le = record {
      opening = start;
      counts = counts;
      change = inr (record {
        whole = own.parts;
        works = λ n ne. adds.works n (λ e. ne (e ∙ sym own.number));
        journal = ⊎_elim (λ same. inl same) (λ one. inr (record { line = one.line; number = one.of ∙ sym own.number; journal = one.is; told = one.may })) adds.lines;
      });
      fits = (
        stands,
        record {
          workers = adds.workers own.workers;
          of_seats = λ n le. let few = below n le in adds.works n (λ e. let one = own.one in absurd (omega (arith, one, few, e))) ∙ own.of_seats n few;
          tried = adds.tried own.tried;
          later = later_on faults later counts;
        },
      );
      lawful = sound_journal new stands;
      acked = subst (λ (k : ℕ). k ≤ most) (sym acked) le;
    }

    -- nothing that the journal or the works would tell
    pub may_leave_quiet : (faults : D → ℕ) (most : ℕ) (mine : Holding Work) → DeskStands is_honest state new → Keeps is_honest state faults old → ((d : Device) → desk_counts faults old.core d ≤ desk_counts faults new.core d)
        → new.core.ledger ≡ old.core.ledger → new.core.desk.queue.first ≤ most → MayLeave (of_desk is_honest state faults) (of_start faults) most mine old new
    may_leave_quiet faults most mine stands keeps counts same acked = record {
      opening = start;
      counts = counts;
      change = inl (record { journal = ap (λ (l : Ledger). l.book.lines) same; works = λ n. ap (λ (l : Ledger). work_at l.works.slots n) same });
      fits = (
        stands,
        record {
          workers = subst WorkersFit (sym same) keeps.workers;
          of_seats = λ n le. ap (λ (l : Ledger). work_at l.works.slots n) same ∙ keeps.of_seats n (below n le);
          tried = subst AreTried (sym same) keeps.tried;
          later = later_on faults keeps.later counts;
        },
      );
      lawful = sound_journal new stands;
      acked = acked;
    }
