-- The seats of a store that was just opened.
use Rattle.std.proofs.Common.{◌≡◌, ◌<◌, ◌∙◌, ℕ, List, [], length, Option, Some, None, sym, ap, subst, slice_get, arith}
use Rattle.std.proofs.lemmas.Option.{slice_get_within}
use Rattle.atomic_table.specs.Seated.{TableId}
use Rattle.disk_model.specs.Disk.{State}
use Rattle.history.specs.declared.entry.Base.{Base}
use Rattle.history.specs.declared.journal.Line.{Line}
use Rattle.history.specs.History.{History, now}
use Rattle.history.specs.Lines.{horizon_of, lines_of}
use Rattle.history.specs.Marks.{newest}
use Rattle.journal_book.specs.declared.work.Work.{Work}
use Rattle.journal_book.specs.Works.{work_at}
use Rattle.archive.specs.Archive.{Running}
use Rattle.race_model.specs.Desk.{Desk}
use Rattle.store_core.specs.declared.desk_core.Core.{Core}
use Rattle.store_core.specs.Core.{IsCore}
use Rattle.turn.specs.declared.view.Holding.{Holding}
use Rattle.turn.specs.Faults.{count_of}
use Rattle.turn.specs.Seats.{AreNew, MayOpen, mine, opening, seen}
use Rattle.store.specs.declared.start.Start.{Start}
use Rattle.store.specs.declared.desk_side.DeskSide.{DeskSide}
use Rattle.store.specs.Seats.{IsReady, IsSized, IsWhole, Sat, journal}
use Rattle.store.specs.Sides.{DeskStands, VaultStands, of_desk, of_vault}
use Rattle.store.specs.Start.{AreAsHonest, AreJustOpened, AreOpenedTo, IsAsHonest, IsLaterArchive, IsLaterCore, IsOpenedTo, IsStartOf, IsVaultFrom, Origin, desk_counts, of_start, vault_counts}
use Rattle.store.specs.Tried.{AllEndAttempts, AreTried, IsAttempt}
use Rattle.store.proofs.Leaving.{sound_journal}

module _ {D : Type 0} (z : TableId) (o : Start D) (seats : List (Sat D)) (new : AreNew z o seats) (k : ℕ) (s : Sat D) (there : slice_get seats k ≡ Some s) where
  no_work : (mine s).work ≡ None
  no_work = ap (λ (h : Holding Work). h.work) (new k s there).2

  same_start : (start : Start D) → Some o ≡ Some start → o ≡ start
  same_start start e = cc e

  pub new_ready : o.seats.value ≡ length seats → IsReady z s × IsWhole s
  new_ready many =
      let is = new k s there in (
        record {
          rests = is.0;
          one = λ start e. subst (λ (x : Start D). s.number < x.seats.value) (same_start start (sym is.4 ∙ e)) (let number = is.1 in let inside = slice_get_within seats k s there in omega (arith, number, inside, many));
          lines = ap (λ (h : Holding Work). h.lines) is.2 ∙ ap (lines_of s.number) (sym is.3);
          work = record { number = λ w e. absurd (cc (e, no_work)); began = λ w e. absurd (cc (e, no_work)) };
        },
        record { parts = ap (λ (h : Holding Work). h.parts) is.2; kept = λ t d c e. absurd (cc (e, no_work)) },
      )

  pub new_seats : (core : Core D) (archive : Running D) → o.core.value ≡ core → o.archive.value ≡ archive → (s.number ≡ k) × ((mine s).work ≡ None) × (seen s ≡ []) × IsStartOf core archive (opening s)
  new_seats core archive first second = let is = new k s there in (is.1, no_work, is.3, subst (IsStartOf core archive) (sym is.4) (first, second))

-- the seats tell of as many pages as the core that the store began with
pub sized_by : {D : Type 0} (core : Core D) (archive : Running D) (s : Sat D) (pages : ℕ) → IsStartOf core archive (opening s) → pages ≡ core.desk.base.page_count → IsSized pages s
sized_by core archive s pages is count = λ start e. count ∙ ap (λ (c : Core _). c.desk.base.page_count) (sym (subst (IsStartOf core archive) e is).0)

-- the newest snapshot that a core tells of, which was just opened
pub newest_told : {D : Type 0} (is_honest : D → Type 0) (state : D → State) (core : Core D) (archive : Running D) → AreJustOpened is_honest state core archive → (horizon : ℕ × ℕ)
    → ((opening : History) (plain : Desk) → IsCore is_honest state opening core plain → horizon ≡ horizon_of (now opening).base core.ledger.book.lines) → horizon.1 ≡ newest core.desk.base.marks
newest_told is_honest state core archive just horizon told =
    let history : History = just.origin.history in
    let at : horizon ≡ horizon_of (now history).base [] = told history just.opened.core.plain just.opened.core.is ∙ ap (λ (lines : List Line). horizon_of (now history).base lines) just.lines in
    ap (λ (h : ℕ × ℕ). h.1) at ∙ ap (λ (b : Base). newest b.marks) just.opened.base

-- ---- a store that was just opened

later_same : {D : Type 0} (faults : D → ℕ) (old new : Core D) → old ≡ new → IsLaterCore faults old new
later_same {D = D} faults old new e d = let q = ap (λ (c : Core D). desk_counts faults c d) e in omega (arith, q)

later_vault : {D : Type 0} (faults : D → ℕ) (old new : Running D) → old ≡ new → IsLaterArchive faults old new
later_vault {D = D} faults old new e d = let q = ap (λ (a : Running D). vault_counts faults a d) e in omega (arith, q)

module _ {D : Type 0} (is_honest : D → Type 0) (state : D → State) (faults : D → ℕ) (core : Core D) (archive : Running D) (start : Start D) (core_is : start.core.value ≡ core) (archive_is : start.archive.value ≡ archive) (just : AreJustOpened is_honest state core archive) where
  abbrev Side : DeskSide D
  Side = record { core = core; start = start }

  opened_so : IsOpenedTo is_honest state start just.origin
  opened_so = subst (λ (c : Core D). AreOpenedTo is_honest state c start.archive.value just.origin) (sym core_is) (subst (λ (a : Running D). AreOpenedTo is_honest state core a just.origin) (sym archive_is) just.opened)

  here : (origin : Origin) → IsOpenedTo is_honest state start origin → AreOpenedTo is_honest state core archive origin
  here origin op = subst (λ (c : Core D). AreOpenedTo is_honest state c archive origin) core_is (subst (λ (a : Running D). AreOpenedTo is_honest state start.core.value a origin) archive_is op)

  idle_so : (n : ℕ) → work_at core.ledger.works.slots n ≡ None
  idle_so n = ap (λ (slots : List (Option Work)). work_at slots n) just.works

  stands_so : DeskStands is_honest state Side
  stands_so = record {
    honest = subst (λ (c : Core D). AreAsHonest is_honest c core) (sym core_is) (record { log = ((λ a. a), (λ a. a)); pages = ((λ a. a), (λ a. a)) });
    origin = just.origin;
    opened = opened_so;
    stands = λ other op. (here other op).core;
  }

  tried_so : AreTried core.ledger
  tried_so = record {
    commits = subst (AllEndAttempts []) (sym just.lines) tt;
    works = λ n. subst (IsAttempt core.ledger.book.lines n) (sym (idle_so n)) tt;
  }

  vault_so : VaultStands is_honest state archive start (journal Side)
  vault_so = record {
    honest = subst (λ (a : Running D). IsAsHonest is_honest a archive) (sym archive_is) (record { pagelog = ((λ a. a), (λ a. a)); maplog = ((λ a. a), (λ a. a)) });
    slots = just.slots;
    stands = λ origin op. subst (λ (l : List Line). IsVaultFrom is_honest state (is_honest start.core.value.desk.pool.file.disk) origin l archive) (sym just.lines)
        (subst (λ (c : Core D). IsVaultFrom is_honest state (is_honest c.desk.pool.file.disk) origin [] archive) (sym core_is) (here origin op).vault);
  }

  pub may_open : MayOpen (of_start faults) (of_desk is_honest state faults) (of_vault is_honest state faults) Side archive
  may_open = record {
    empty = just.lines;
    idle = idle_so;
    lawful = sound_journal is_honest state Side stands_so;
    desk_fits = (stands_so, record { workers = let w = just.workers in omega (arith, w); of_seats = λ n le. idle_so n; tried = tried_so; later = later_same faults start.core.value core core_is });
    vault_fits = (vault_so, later_vault faults start.archive.value archive archive_is);
    acked = just.held;
    counts = λ d. let q = ap (λ (c : Core D). count_of (desk_counts faults c) (vault_counts faults start.archive.value) d) core_is in let p = ap (λ (a : Running D). count_of (desk_counts faults core) (vault_counts faults a) d) archive_is in omega (arith, q, p);
    begins = λ d. let q = ap (λ (c : Core D). count_of (desk_counts faults c) (vault_counts faults start.archive.value) d) core_is in let p = ap (λ (a : Running D). count_of (desk_counts faults core) (vault_counts faults a) d) archive_is in omega (arith, q, p);
  }
