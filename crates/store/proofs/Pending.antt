-- Why captures may be in the log alone when a store was closed.
use Rattle.std.proofs.Common.{◌≡◌, ◌⊎◌, ◌<◌, ◌≤◌, ◌++◌, ◌∙◌, ℕ, zero, suc, Bool, true, false, cond, eqb, List, [], ◌∷◌, Option, Some, None, IfSome, Ok, Err, append-nil, append_assoc, arith, eq-eqb, inl, inr, refl, sym, ap, subst, ⊎_elim}
use Rattle.std.specs.Prelude.{is_some, slice_get}
use Rattle.std.specs.Option.{option_or}
use mathlib.Core.List.{IsPrefix}
use Rattle.atomic_table.specs.Seated.{TableId}
use Rattle.disk_model.specs.Disk.{State}
use Rattle.disk_model.specs.Moments.{Clock}
use Rattle.retro_base.specs.declared.device.Device.{Device}
use Rattle.retro_base.specs.declared.refusal.Refusal.{Refusal}
use Rattle.retro_base.specs.declared.refusal.Refusal.TheVariants.{DiskFault, OutOfMemory, Stopped}
use Rattle.retro_base.specs.declared.who.Who.{Who}
use Rattle.history.specs.declared.entry.Base.{Base}
use Rattle.history.specs.declared.journal.FailedCall.TheVariants.{Write}
use Rattle.history.specs.declared.journal.Line.{Line}
use Rattle.history.specs.declared.journal.What.TheVariants.{Fault}
use Rattle.history.specs.declared.stop.Stop.{Stop}
use Rattle.history.specs.History.{now}
use Rattle.history.specs.Journal.{after_journal}
use Rattle.history.specs.Lines.{base_of, first_stop, lines_of, stop_of}
use Rattle.history.proofs.Lines.{base_after_journal}
use Rattle.journal_law.specs.Seats.{Moves, View}
use Rattle.race_model.specs.Vault.{Batch}
use Rattle.skippy.specs.Mappings.{end_of}
use Rattle.archive.specs.Archive.{Running}
use Rattle.turn.specs.Seats.{held, mine, opening, seen}
use Rattle.turn.proofs.Fronts.{prefix_self, prefix_trans}
use Rattle.store.specs.declared.closing.Closed.{Closed}
use Rattle.store.specs.declared.pace.Ended.{Ended}
use Rattle.store.specs.declared.pace.Worker.TheVariants.{Copier}
use Rattle.store.specs.declared.start.Start.{Start}
use Rattle.store.specs.Carrying.{IsNotCarried}
use Rattle.store.specs.Closing.{ArchiveStopped, Closes, ClosesTold, HasCopiedAt, HasNoCopier, HasStopped, HaveCopied, HaveMet, IsCopied, IsDoneAt, IsPending, NoCopier, NoMemory, resting}
use Rattle.store.specs.Rounds.{CopiesRound, Passes}
use Rattle.store.specs.Seats.{IsReady, Sat, journal}
use Rattle.store.specs.Start.{opened_base}
use Rattle.store.specs.WorkerRounds.{CopierEnds, FoundStopped, HasEnded, HasWorked, IsHeld, IsRoundRefusal, NoBatch, Ran, WorkerLeaves, lines_left, worker}
use Rattle.store.proofs.Copying.{last_cause}
use Rattle.store.proofs.Entering.{apart}
use Rattle.store.proofs.Recalling.{lines_append}
use Rattle.store.proofs.WorkerEnds.{stop_on}

-- ---- a stop in the journal

stop_behind : (first rest : Option Stop) → is_some rest ≡ true → is_some (option_or first rest) ≡ true
stop_behind None rest is = is
stop_behind (Some s) rest is = refl

-- a line that tells the fault of a write
stop_last : (who : Who) (d : Device) (c : ℕ) (lines : List Line) → is_some (first_stop (lines ++ record { who = who; what = Fault d c Write } ∷ [])) ≡ true
stop_last who d c [] = refl
stop_last who d c (line ∷ lines) = stop_behind (stop_of line.what) _ (stop_last who d c lines)

-- a stop among the lines of one session is one of the journal
stop_among : (n : ℕ) (lines : List Line) → is_some (first_stop (lines_of n lines)) ≡ true → is_some (first_stop lines) ≡ true
stop_among n [] is = is
stop_among n (line ∷ lines) is = by_own (eqb line.who.session n) (stop_among n lines) is
  where
    by_first : (first : Option Stop) → (is_some (first_stop (lines_of n lines)) ≡ true → is_some (first_stop lines) ≡ true) → is_some (option_or first (first_stop (lines_of n lines))) ≡ true → is_some (option_or first (first_stop lines)) ≡ true
    by_first None rest is = rest is
    by_first (Some s) rest is = refl

    by_own : (own : Bool) → (is_some (first_stop (lines_of n lines)) ≡ true → is_some (first_stop lines) ≡ true) → is_some (first_stop (cond own (line ∷ lines_of n lines) (lines_of n lines))) ≡ true → is_some (first_stop (line ∷ lines)) ≡ true
    by_own true rest is = by_first (stop_of line.what) rest is
    by_own false rest is = stop_behind (stop_of line.what) _ (rest is)

-- ---- lines of nobody

no_back : {X : Type 0} (xs ys : List X) → xs ++ ys ≡ [] → ys ≡ []
no_back [] ys e = e
no_back (x ∷ xs) ys e = absurd (cc e)

no_lines : (lines : List Line) → ((n : ℕ) → lines_of n lines ≡ []) → lines ≡ []
no_lines [] none = refl
no_lines (line ∷ lines) none =
    let n = line.who.session in
    let own : lines_of n (line ∷ lines) ≡ line ∷ lines_of n lines = ap (λ (b : Bool). cond b (line ∷ lines_of n lines) (lines_of n lines)) (eq-eqb n n refl) in
    absurd (cc (own, none n))

moved : (a b : View) (own : List Line) → Moves a b own → IsPrefix a.front b.front
moved a b own moves = (moves.others ++ own, sym (moves.front ∙ append_assoc a.front moves.others own))

less_or_not : (a b : ℕ) → (a < b) ⊎ (b ≤ a)
less_or_not a zero = inr (omega arith)
less_or_not zero (suc b) = inl (omega arith)
less_or_not (suc a) (suc b) = ⊎_elim (λ less. inl (omega (arith, less))) (λ more. inr (omega (arith, more))) (less_or_not a b)

-- ---- why a round was refused

not_carried : {D : Type 0} (faults : D → ℕ) (batch : Batch) (a0 a1 : Running D) (why : Refusal) → IsNotCarried faults batch a0 a1 why → IsRoundRefusal why
not_carried faults batch a0 a1 (Stopped d c) is = tt
not_carried faults batch a0 a1 OutOfMemory is = tt
not_carried faults batch a0 a1 (DiskFault d c) is = tt
not_carried faults batch a0 a1 _ is = absurd is

module _ {D : Type 0} (is_honest : D → Type 0) (state : D → State) (faults : D → ℕ) (z : TableId) (remembers : Type 0) (clock : D → Clock) (who : Who) (why : Refusal) where
  round_cause : (before batch : Batch) (s0 s1 : Sat D) → CopiesRound is_honest state faults z remembers clock who before batch (Err why) s0 s1 → IsRoundRefusal why
  round_cause before batch s0 s1 round = at round.asked refl
    where
      at : (asked : Bool) → round.asked ≡ asked → IsRoundRefusal why
      at false e = let none = round.none e in absurd (cc none.0)
      at true e =
          let refused = round.some e in
          let cause = last_cause is_honest state faults z remembers clock batch refused.fault refused.carries in
          subst IsRoundRefusal refused.is (not_carried faults batch cause.0 cause.1 refused.fault.why cause.2)

  copier_cause : (flag : ℕ) (s0 s1 : Sat D) → CopierEnds is_honest state faults z remembers clock who flag (Err why) s0 s1 → IsRoundRefusal why
  copier_cause flag s0 s1 (NoBatch is same) = let memory : OutOfMemory ≡ why = cc is in subst IsRoundRefusal memory tt
  copier_cause flag s0 s1 (Ran batch rounds all_held) = round_cause rounds.middle.0 batch rounds.middle.1 s1 rounds.ends

-- ---- a store that was closed

-- what is held of an opening is held of this one
of_base : {D : Type 0} (base : Base) (lines : List Line) (count : ℕ) (o : Option (Start D)) → is_some o ≡ true → IfSome o (λ own. opened_base own ≡ base) → IfSome o (λ own. (base_of (opened_base own) lines).captures ≤ count)
    → (base_of base lines).captures ≤ count
of_base base lines count None is same few = absurd (cc is)
of_base base lines count (Some own) is same few = subst (λ (b : Base). (base_of b lines).captures ≤ count) same few

module _ {D : Type 0} (is_honest : D → Type 0) (state : D → State) (faults : D → ℕ) (z : TableId) (remembers : Type 0) (clock : D → Clock) (start : Start D) (limit phase : ℕ) (seats last : List (Sat D)) (left : Closed D) (copied : Bool)
    (worked : HaveCopied is_honest state faults z remembers clock phase seats last) (ends : ClosesTold is_honest state faults start limit last left copied) (ready : (k : ℕ) (s : Sat D) → slice_get last k ≡ Some s → IsReady z s) where
  abbrev Last : Closes is_honest state faults start limit last left
  Last = ends.closes

  abbrev J : List Line
  J = journal Last.side

  abbrev All : ℕ
  All = (base_of (opened_base Last.side.start) J).captures

  -- the copier has run at one of the seats
  abbrev RanAt : Type 0
  RanAt = IsDoneAt (HasCopiedAt is_honest state faults z remembers clock phase) seats last

  -- no more is held than was captured
  held_few : Last.archive.side.held ≤ All
  held_few =
      let origin = Last.stands.origin in
      let from = Last.vault.stands origin Last.stands.opened in
      let few : end_of from.vault.mappings ≤ from.vault.laid = from.numbers.held in
      let laid : from.vault.laid ≤ (now (after_journal origin.history J)).base.captures = from.numbers.laid in
      let entered : end_of from.vault.mappings ≡ Last.archive.side.held = from.is.mapped.shows.end in
      let all : (now (after_journal origin.history J)).base.captures ≡ All = ap (λ (b : Base). b.captures) (base_after_journal origin.history J ∙ ap (λ (b : Base). base_of b J) Last.stands.opened.base) in
      omega (arith, few, laid, entered, all)

  -- a stop that a seat has seen
  in_journal : (k : ℕ) (t : Sat D) → slice_get last k ≡ Some t → is_some (first_stop (seen t)) ≡ true → is_some (first_stop left.journal) ≡ true
  in_journal k t there is =
      let front = (Last.each k t there).front in
      subst (λ (lines : List Line). is_some (first_stop lines) ≡ true) (front.1 ∙ sym Last.lines) (stop_on (seen t) front.0 is)

  module _ (at : RanAt) where
    goes_on : WorkerLeaves (worker phase at.before.number) (resting state faults at.before) (resting state faults at.after) → IsPrefix (seen at.before) (seen at.after)
    goes_on (inl waits) = moved (resting state faults at.before) (resting state faults at.after) _ waits.moves
    goes_on (inr first) = moved (resting state faults at.before) (resting state faults at.after) _ first.adds.moves

    abbrev Rest : List Line
    Rest = (Last.each at.place at.after at.is).front.0

    whole : seen at.after ++ Rest ≡ J
    whole = (Last.each at.place at.after at.is).front.1

    -- of a session whose lines this front has, none has come since
    none_behind : (n : ℕ) (front : List Line) → IsPrefix front (seen at.after) → lines_of n front ≡ lines_of n J → lines_of n Rest ≡ []
    none_behind n front p same =
        no_back (lines_of n p.0) (lines_of n Rest)
        (sym (lines_append n p.0 Rest) ∙ apart n front (p.0 ++ Rest) J (sym (append_assoc front p.0 Rest) ∙ (ap (λ (lines : List Line). lines ++ Rest) p.1 ∙ whole)) same)

    module _ (met : HaveMet start limit seats) where
      by_seat : (k : ℕ) (s t : Sat D) → slice_get seats k ≡ Some s → slice_get last k ≡ Some t → (t ≡ s) ⊎ HasCopiedAt is_honest state faults z remembers clock phase s t → lines_of s.number Rest ≡ []
      by_seat k s t was is (inl same) =
          let e = Last.each k t is in
          none_behind s.number (seen s) (prefix_trans (seen s) (seen at.before) (seen at.after) (met.seen at.place k at.before s at.was was at.does.number) (goes_on at.does.leaves))
          (subst (λ (u : Sat D). lines_of u.number (seen u) ≡ lines_of u.number J) same e.lines)
      by_seat k s t was is (inr copied_there) =
          let number : at.after.number ≡ s.number = at.does.same.number ∙ (at.does.number ∙ sym copied_there.number) in
          none_behind s.number (seen at.after) (prefix_self (seen at.after)) (subst (λ (n : ℕ). lines_of n (seen at.after) ≡ lines_of n J) number (Last.each at.place at.after at.is).lines)

      by_number : (n : ℕ) → (n < limit) ⊎ (limit ≤ n) → lines_of n Rest ≡ []
      by_number n (inl less) =
          let found = met.each n less in
          let there = worked.each found.0 found.1 found.2 in
          subst (λ (m : ℕ). lines_of m Rest ≡ []) found.3 (by_seat found.0 found.1 there.0 found.2 there.1 there.2)
      by_number n (inr past) = none_behind n [] (seen at.after, refl) (sym (Last.foreign n past))

      sees_all : seen at.after ≡ J
      sees_all = sym (append-nil (seen at.after)) ∙ (ap (λ (lines : List Line). seen at.after ++ lines) (sym (no_lines Rest (λ n. by_number n (less_or_not n limit)))) ∙ whole)

      all_copied : IsHeld at.after (seen at.after) → IsCopied Last.side Last.archive
      all_copied all_held =
          let began = subst (λ (o : Option (Start D)). IfSome o (λ own. opened_base own ≡ opened_base start)) (sym at.does.same.opening) (met.began at.place at.before at.was) in
          let enough : (base_of (opened_base start) (seen at.after)).captures ≤ held at.after = of_base (opened_base start) (seen at.after) (held at.after) (opening at.after) (ready at.place at.after at.is).rests.seat.opened began all_held in
          let all : All ≡ (base_of (opened_base start) (seen at.after)).captures =
          ap (λ (s : Start D). (base_of (opened_base s) J).captures) Last.begun ∙ ap (λ (lines : List Line). (base_of (opened_base start) lines).captures) (sym sees_all) in
          let known = Last.known at.place at.after at.is in
          let few = held_few in
          omega (arith, enough, all, known, few)

      module _ (not_all : copied ≡ false) where
        abbrev Cause : Type 0
        Cause = IsPending is_honest state faults z remembers clock phase seats last left.journal

        by_why : (why : Refusal) (asked : Sat D) → Passes z at.before asked → is_some (first_stop (seen asked)) ≡ false → CopierEnds is_honest state faults z remembers clock (worker phase at.before.number) at.does.works.flag (Err why) asked at.after
            → (mine at.after).lines ≡ (mine asked).lines ++ lines_left {T = Ended} (worker phase at.before.number) (Err why) → Cause
        by_why OutOfMemory asked asks goes refused lines = NoMemory (record { place = at.place; before = at.before; after = at.after; was = at.was; is = at.is; does = record { asked = asked; asks = asks; goes = goes; flag = at.does.works.flag; ends = refused } })
        by_why (Stopped d c) asked asks goes refused lines = ArchiveStopped d c (record { place = at.place; before = at.before; after = at.after; was = at.was; is = at.is; does = record { asked = asked; asks = asks; goes = goes; flag = at.does.works.flag; ends = refused } })
        by_why (DiskFault d c) asked asks goes refused lines =
            HasStopped (in_journal at.place at.after at.is (stop_among at.after.number (seen at.after)
            (subst (λ (own : List Line). is_some (first_stop own) ≡ true) (sym lines ∙ (ready at.place at.after at.is).lines) (stop_last (worker phase at.before.number) d c (mine asked).lines))))
        by_why why asked asks goes refused lines = absurd (copier_cause is_honest state faults z remembers clock (worker phase at.before.number) why at.does.works.flag asked at.after refused)

        by_work : HasWorked is_honest state faults z remembers clock (worker phase at.before.number) at.does.works.flag Copier at.does.works.answer at.before at.after → Cause
        by_work (FoundStopped none asks is) = HasStopped (in_journal at.place at.after at.is is)
        by_work (HasEnded asked (Ok u) answers asks goes (NoBatch is same) lines) = absurd (cc is)
        by_work (HasEnded asked (Ok u) answers asks goes (Ran batch rounds all_held) lines) = let yes = ends.told.1 (all_copied all_held) in absurd (cc (yes, not_all))
        by_work (HasEnded asked (Err why) answers asks goes refused lines) = by_why why asked asks goes refused lines

  pub pends : copied ≡ false → HaveMet start limit seats → IsPending is_honest state faults z remembers clock phase seats last left.journal
  pends not_all met = by_run worked.runs
    where
      by_run : HasNoCopier seats ⊎ RanAt → IsPending is_honest state faults z remembers clock phase seats last left.journal
      by_run (inl none) = NoCopier none
      by_run (inr at) = by_work at met not_all at.does.works.works
