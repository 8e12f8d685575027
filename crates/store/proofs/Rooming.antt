-- Rounds that make room leave a fault's line at most, and so does the call that has them made but for what it does at last.
use Rattle.std.proofs.Common.{◌≡◌, ℕ, Bool, true, false, Result, Ok, Err, sym, subst, inl, inr, refl}
use Rattle.atomic_table.specs.Seated.{TableId}
use Rattle.disk_model.specs.Disk.{State}
use Rattle.disk_model.specs.Moments.{Clock}
use Rattle.retro_base.specs.declared.refusal.Refusal.{Refusal}
use Rattle.retro_base.specs.declared.refusal.Refusal.TheVariants.{NoRoom, OutOfMemory}
use Rattle.retro_base.specs.declared.who.Who.{Who}
use Rattle.store_core.specs.declared.desk_core.Core.{Core}
use Rattle.store.specs.Rounds.{Again, Answered, AnswersAtLast, AskedAgain, Cut, HasRoom, IsNoRoom, IsRoom, MakesRoom, MakesRound, MayAskAgain, NoBatch, NoCopy, NoRoomMade, NoRound, NoWrite, Passes}
use Rattle.store.specs.Seats.{IsReady, Sat, Visits}
use Rattle.store.proofs.Copying.{copy_ends}
use Rattle.store.proofs.Passing.{passes_none, passes_on}
use Rattle.store.proofs.Reaching.{AnswersSo, DropSo, RoundEnds, made_passes, ends_after, so_after, so_now, so_refused}
use Rattle.store.proofs.Writing.{below_ends, round_ends}

module _ {D : Type 0} (is_honest : D → Type 0) (state : D → State) (faults : D → ℕ) (z : TableId) (remembers : Type 0) (clock : D → Clock) (who : Who) where
  abbrev Round : ℕ → Result Bool Refusal → Sat D → Sat D → Type 0
  Round = MakesRound is_honest state faults z remembers clock who

  abbrev Makes : ℕ → Result (Unit {0}) Refusal → Sat D → Sat D → Type 0
  Makes = MakesRoom is_honest state faults z remembers clock who

  abbrev Ends : {T : Type 0} → Result T Refusal → Sat D → Sat D → Type 0
  Ends r = RoundEnds is_honest state faults z who r

  refused_as : {T : Type 0} (r : Result T Refusal) (why : Refusal) (s0 s1 : Sat D) → r ≡ Err why → Ends {T = Unit {0}} (Err why) s0 s1 → Ends r s0 s1
  refused_as {T} r why s0 s1 e ends = subst (λ (x : Result T Refusal). Ends x s0 s1) (sym e) ends

  module _ (bytes : ℕ) where
    pub room_round_ends : (r : Result Bool Refusal) (s0 s1 : Sat D) → IsReady z s0 → Round bytes r s0 s1 → Ends r s0 s1
    room_round_ends r s0 s1 ready (NoCopy before batch why e copies) = refused_as r why s0 s1 e (copy_ends is_honest state faults z remembers clock who before batch (Err why) s0 s1 ready copies)
    room_round_ends r s0 s1 ready (NoWrite before batch more why copied e copies writes) =
        let p = copy_ends is_honest state faults z remembers clock who before batch (Ok more) s0 copied ready copies in
        refused_as r why s0 s1 e (ends_after is_honest state faults z who {T = Unit {0}} (Err why) s0 copied s1 p (round_ends is_honest state faults z remembers clock who (Err why) copied s1 p.ready writes))
    room_round_ends r s0 s1 ready (Cut before batch more wrote copied written copies writes cuts) =
        let p = copy_ends is_honest state faults z remembers clock who before batch (Ok more) s0 copied ready copies in
        let q = passes_on z s0 copied p written (round_ends is_honest state faults z remembers clock who (Ok wrote) copied written p.ready writes) in
        ends_after is_honest state faults z who r s0 written s1 q (below_ends is_honest state faults z who remembers clock written s1 q.ready bytes r cuts)

    -- where it had no room as yet, nothing is left
    pub still_passes : (more : Bool) (s0 s1 : Sat D) → IsReady z s0 → Round bytes (Ok more) s0 s1 → Passes z s0 s1
    still_passes more s0 s1 ready round = room_round_ends (Ok more) s0 s1 ready round

    pub room_ends : {r : Result (Unit {0}) Refusal} {s0 s1 : Sat D} → Makes bytes r s0 s1 → IsReady z s0 → Ends r s0 s1
    room_ends {r} (NoBatch s e) ready = refused_as r OutOfMemory s s e (passes_none z s ready)
    room_ends {r} (HasRoom old new e round) ready = subst (λ (x : Result (Unit {0}) Refusal). Ends x old new) (sym e) (still_passes true old new ready round)
    room_ends {r} (NoRound why old new e round) ready = refused_as r why old new e (room_round_ends (Err why) old new ready round)
    room_ends {r} (Again old middle new round more) ready =
        let p = still_passes false old middle ready round in
        ends_after is_honest state faults z who r old middle new p (room_ends more p.ready)

    -- what is made from there on is made from here on
    abbrev pub MakesOn : Sat D → Sat D → Type 0
    MakesOn s0 s1 = (r : Result (Unit {0}) Refusal) (s2 : Sat D) → Makes bytes r s1 s2 → Makes bytes r s0 s2

    pub makes_here : (s : Sat D) → MakesOn s s
    makes_here s = λ r s2 rest. rest

    pub makes_again : (s0 s1 s2 : Sat D) → MakesOn s0 s1 → Round bytes (Ok false) s1 s2 → MakesOn s0 s2
    makes_again s0 s1 s2 leads round = λ r s3 rest. leads r s3 (Again s1 s2 s3 round rest)

  -- ---- asked until there is room

  module _ {T : Type 0} (Does : Result T Refusal → Core D → Core D → Type 0) where
    abbrev pub Answers : Result T Refusal → Sat D → Sat D → Type 0
    Answers = AnswersAtLast is_honest state faults z remembers clock who Does

    -- what is answered from there on is answered from here on
    abbrev pub LeadsOn : Sat D → Sat D → Type 0
    LeadsOn s0 s1 = (r : Result T Refusal) (s2 : Sat D) → Answers r s1 s2 → Answers r s0 s2

    pub leads_here : (s : Sat D) → LeadsOn s s
    leads_here s = λ r s2 rest. rest

    module _ (s0 s1 s2 : Sat D) (leads : LeadsOn s0 s1) where
      pub answered : (r : Result T Refusal) → Visits is_honest state faults z (Does r) s1 s2 → (IsNoRoom r → ⊥) → Answers r s0 s2
      answered r v none = leads r s2 (Answered s1 s2 v none)

      module _ (full : Refusal) (needed free : ℕ) (is : full ≡ NoRoom needed free) (v : Visits is_honest state faults z (Does (Err full)) s1 s2) (s3 : Sat D) where
        found_full : Visits is_honest state faults z (Does (Err (NoRoom needed free))) s1 s2
        found_full = subst (λ (why : Refusal). Visits is_honest state faults z (Does (Err why)) s1 s2) is v

        pub not_made : (why : Refusal) → Makes needed (Err why) s2 s3 → (MayAskAgain (Err why) → ⊥) → Answers (Err why) s0 s3
        not_made why makes never = leads (Err why) s3 (NoRoomMade needed free why s1 s2 s3 found_full makes never refl)

        pub leads_asked : (made : Result (Unit {0}) Refusal) → Makes needed made s2 s3 → MayAskAgain made → LeadsOn s0 s3
        leads_asked made makes may = λ r s4 rest. leads r s4 (AskedAgain needed free made s1 s2 s3 s4 found_full makes may rest)

  module _ {T : Type 0} (Does : Result T Refusal → Core D → Core D → Type 0) (r : Result T Refusal) where
    abbrev Asks : Result T Refusal → Sat D → Sat D → Type 0
    Asks answer = Visits is_honest state faults z (Does answer)

    abbrev So : Sat D → Sat D → Type 0
    So = AnswersSo is_honest state faults z who Does r

    -- an asking that finds no room leaves nothing, where it is of such a seat, and it stays one
    module _ (Is : Sat D → Type 0) (quiet : (full : Refusal) (s0 s1 : Sat D) → IsRoom full → IsReady z s0 → Is s0 → Asks (Err full) s0 s1 → Passes z s0 s1)
        (stays : (s0 s1 : Sat D) → Passes z s0 s1 → Is s0 → Is s1) where
      pub answers_so : {s0 s1 : Sat D} → AnswersAtLast is_honest state faults z remembers clock who Does r s0 s1 → IsReady z s0 → Is s0 → So s0 s1
      answers_so (Answered old new v none) ready is = so_now is_honest state faults z who Does r old old new (passes_none z old ready) v none
      answers_so (NoRoomMade needed free why old asked new v makes never e) ready is =
          let p = quiet (NoRoom needed free) old asked tt ready is v in
          so_refused is_honest state faults z who Does r why old new never e (ends_after is_honest state faults z who {T = Unit {0}} (Err why) old asked new p (room_ends needed makes p.ready))
      answers_so (AskedAgain needed free made old asked roomy new v makes may more) ready is =
          let p = quiet (NoRoom needed free) old asked tt ready is v in
          let q = passes_on z old asked p roomy (made_passes is_honest state faults z who made asked roomy may (room_ends needed makes p.ready)) in
          so_after is_honest state faults z who Does r old roomy new q (answers_so more q.ready (stays old roomy q is))

      -- the first asking is of another seat, and leaves one of these
      pub drop_so : {s0 s1 : Sat D} → AnswersAtLast is_honest state faults z remembers clock who Does r s0 s1 → ((full : Refusal) (s : Sat D) → IsRoom full → Asks (Err full) s0 s → Is s) → DropSo is_honest state faults z who Does r s0 s1
      drop_so (Answered old new v none) is = inl (v, none)
      drop_so (NoRoomMade needed free why old asked new v makes never e) is =
          inr (Err (NoRoom needed free), asked, tt, v, so_refused is_honest state faults z who Does r why asked new never e (room_ends needed makes v.visited.ready))
      drop_so (AskedAgain needed free made old asked roomy new v makes may more) is =
          let p = made_passes is_honest state faults z who made asked roomy may (room_ends needed makes v.visited.ready) in
          inr (Err (NoRoom needed free), asked, tt, v, so_after is_honest state faults z who Does r asked roomy new p (answers_so more p.ready (stays asked roomy p (is (NoRoom needed free) asked tt v))))
