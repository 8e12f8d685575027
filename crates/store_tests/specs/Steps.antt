-- A seat between the steps of a test.
use Rattle.std.specs.Prelude.{◌≡◌, None}
use Rattle.atomic_table.specs.Seated.{TableId}
use Rattle.store.specs.Seats.{IsReady, IsWhole, Sat}
use Rattle.store.specs.WorkerRounds.{MayWork}
use Rattle.turn.specs.Seats.{mine}

-- it may call
abbrev pub MayCall : {D : Type 0} → TableId → Sat D → Type 0
MayCall z s = IsReady z s × IsWhole s

-- it has nothing open
abbrev pub Rests : {D : Type 0} → TableId → Sat D → Type 0
Rests z s = MayCall z s × ((mine s).work ≡ None)

-- it is a worker's, which told no fault
abbrev pub MayRound : {D : Type 0} → TableId → Sat D → Type 0
MayRound z s = MayCall z s × MayWork s
