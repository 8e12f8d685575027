-- Seats of a list, by their places.
use Rattle.std.proofs.Common.{◌≡◌, zero, suc, List, [], ◌∷◌, ◌++◌, slice_index_or, ap, subst, arith}
use Rattle.std.proofs.lemmas.Option.{get_or_from_slice_get, slice_get-get_or}
use Rattle.std.proofs.lemmas.Option.{slice_get_within}
use Rattle.atomic_table.specs.Seated.{TableId}
use Rattle.turn.specs.Seats.{AreNew, AreWhole, Rests, mine}
use Rattle.turn.specs.Views.{PARTS}
use Rattle.turn_tests.specs.Ready.{AreReady, IsReady, Sat}
use Rattle.turn_tests.specs.declared.small.Start.{Start}

pub new_ready : (z : TableId) (o : Start) (seats : List Sat) → AreNew z o seats → AreReady z seats
new_ready z o seats new k d lt =
    let at = new k (slice_index_or seats k d) (slice_get-get_or seats k d lt) in
    (record { rests = at.0; lines = omega arith }, ap (λ h. h.parts) at.2)

pub ready_whole : (z : TableId) (seats : List Sat) → AreReady z seats → AreWhole z seats
ready_whole z seats ready k s e =
    let at = ready k s (slice_get_within seats k s e) in
    let is = get_or_from_slice_get seats k s s e in
    subst (λ (x : Sat). Rests z x × ((mine x).parts ≡ PARTS)) is (at.0.rests, at.1)

-- one seat more that is ready
pub ready_push : (z : TableId) (seats : List Sat) (s : Sat) → AreReady z seats → IsReady z 0 s → (mine s).parts ≡ PARTS → AreReady z (seats ++ s ∷ [])
ready_push z [] s ready this whole zero d lt = (this, whole)
ready_push z [] s ready this whole (suc k) d lt = absurd (omega arith)
ready_push z (seat ∷ seats) s ready this whole zero d lt = ready 0 d (omega arith)
ready_push z (seat ∷ seats) s ready this whole (suc k) d lt = ready_push z seats s (λ j e p. ready (suc j) e (omega arith)) this whole k d (omega arith)

pub ready_front : (z : TableId) (seats : List Sat) (s : Sat) → AreReady z (seats ++ s ∷ []) → AreReady z seats
ready_front z (seat ∷ seats) s ready zero d lt = ready 0 d (omega arith)
ready_front z (seat ∷ seats) s ready (suc k) d lt = ready_front z seats s (λ j e p. ready (suc j) e (omega arith)) k d (omega arith)
ready_front z [] s ready k d lt = absurd (omega arith)

pub ready_last : (z : TableId) (seats : List Sat) (s : Sat) → AreReady z (seats ++ s ∷ []) → IsReady z 0 s × ((mine s).parts ≡ PARTS)
ready_last z [] s ready = ready 0 s (omega arith)
ready_last z (seat ∷ seats) s ready = ready_last z seats s (λ j e p. ready (suc j) e (omega arith))
