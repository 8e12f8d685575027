-- The seats of a store that is closed behind a last copying: those of the sessions, one of which called, and the copier's.
use Rattle.std.proofs.Common.{◌≡◌, ◌≢◌, ◌++◌, ◌∙◌, ℕ, zero, suc, List, [], ◌∷◌, length, None, slice_get, Some, arith, inl, length-append, refl, sym, ap, subst}
use Rattle.disk_model.specs.Disk.{State}
use Rattle.history.specs.declared.journal.Line.{Line}
use Rattle.history.specs.Lines.{lines_of}
use Rattle.atomic_table.specs.Seated.{TableId}
use Rattle.turn.specs.Seats.{IsSame, mine, seen}
use Rattle.store.specs.Closing.{MayCopyLast, resting}
use Rattle.store.specs.Seats.{IsReady, IsWhole, Sat}
use Rattle.store.specs.WorkerRounds.{IsFreshOrStopped}
use Rattle.store.proofs.WorkerSeats.{Each, IsNewSeat, of_front, of_last, with_last}

module _ {D : Type 0} (z : TableId) (state : D → State) (faults : D → ℕ) (xs0 xs1 xs2 : List (Sat D)) (c s : Sat D) (one : xs0 ≡ xs1 ++ c ∷ []) (two : xs1 ≡ xs2 ++ s ∷ []) where
  abbrev MayCall : ℕ → Sat D → Type 0
  MayCall k t = IsReady z t × IsWhole t

  abbrev MayCopy : ℕ → Sat D → Type 0
  MayCopy k t = t.number ≡ 16 → ((mine t).work ≡ None) × IsFreshOrStopped (resting state faults t)

  module _ (ready : Each MayCall xs0) where
    fronts : Each MayCall xs1
    fronts = of_front MayCall xs1 c (subst (Each MayCall) one ready)

    pub session_calls : IsReady z s × IsWhole s
    session_calls = of_last MayCall xs2 s (subst (Each MayCall) two fronts)

    pub all_call : (t : Sat D) (ys all : List (Sat D)) → ys ≡ xs2 ++ t ∷ [] → all ≡ ys ++ c ∷ [] → IsReady z t × IsWhole t → Each MayCall all
    all_call t ys all three four is =
        let front = with_last MayCall xs2 t (of_front MayCall xs2 s (subst (Each MayCall) two fronts)) is in
        subst (Each MayCall) (sym four) (with_last MayCall ys c (subst (Each MayCall) (sym three) front) (of_last MayCall xs1 c (subst (Each MayCall) one ready)))

  module _ (new : Each IsNewSeat xs0) where
    new_fronts : Each IsNewSeat xs1
    new_fronts = of_front IsNewSeat xs1 c (subst (Each IsNewSeat) one new)

    pub session_idle : (mine s).work ≡ None
    session_idle = (of_last IsNewSeat xs2 s (subst (Each IsNewSeat) two new_fronts)).1

    new_may : (k : ℕ) (t : Sat D) → IsNewSeat k t → MayCopy k t
    new_may k t is number = (is.1, inl (ap (lines_of t.number) is.2))

    module _ (count : length xs0 ≡ 17) where
      place : length xs2 ≡ 15
      place = let a = ap length one in let b = length-append xs1 (c ∷ []) in let d = ap length two in let e = length-append xs2 (s ∷ []) in omega (arith, a, b, d, e, count)

      -- the session has another number than the copier
      other : (t : Sat D) → IsSame s t → MayCopy (length xs2) t
      other t same number =
          let here = (of_last IsNewSeat xs2 s (subst (Each IsNewSeat) two new_fronts)).0 in
          let goes = same.number in
          let at = place in
          absurd (omega (arith, here, goes, at, number))

      pub may_copy : (t : Sat D) (ys all : List (Sat D)) → ys ≡ xs2 ++ t ∷ [] → all ≡ ys ++ c ∷ [] → IsSame s t → MayCopyLast state faults all
      may_copy t ys all three four same =
          let front = with_last MayCopy xs2 t (λ k u e. new_may k u (of_front IsNewSeat xs2 s (subst (Each IsNewSeat) two new_fronts) k u e)) (other t same) in
          subst (Each MayCopy) (sym four) (with_last MayCopy ys c (subst (Each MayCopy) (sym three) front) (new_may (length xs1) c (of_last IsNewSeat xs1 c (subst (Each IsNewSeat) one new))))
