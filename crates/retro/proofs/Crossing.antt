-- What of a store may cross threads, as its devices may.
use denote.Ref.{NamedLft}
use denote.RattleType.{RattleType}
use denote.Param.Send.{IsSend, IsSync, sendable, shr_send}
use denote.Param.SendFields.{declared_send, declared_sync}
use Rattle.std.proofs.Crossing as values
use Rattle.std.proofs.MapsCrossing as maps
use Rattle.disk_model.specs.declared.disk.Disk.{Ghosts}
use Rattle.archive.proofs.archive.Archive.TheSendSync as archive
use Rattle.archive.specs.contracts.archive.Archive as Archive
use Rattle.journal_book.specs.contracts.work.Work as Work
use Rattle.store_core.proofs.desk_core.Core.TheSendSync as core
use Rattle.store.specs.contracts.desk_side.DeskSide as DeskSide
use Rattle.store.specs.contracts.desk_side.DeskSideDeskValue.TheImpl as desk
use Rattle.store.specs.contracts.held.Held as Held
use Rattle.store.specs.contracts.shared.Store as Store
use Rattle.store.specs.contracts.start.Start as Start
use Rattle.store.specs.contracts.start.StartOpening.TheImpl as opening
use Rattle.store.specs.contracts.vault_side.ArchiveVaultValueStart.TheImpl as vault
use Rattle.turn.proofs.seat.SeatOver.TheSendSync as seat
use Rattle.turn.proofs.turn.Turn.TheSendSync as turn
use Rattle.turn.specs.contracts.seat.SeatOver as SeatOver
use Rattle.turn.specs.contracts.turn.Turn as Turn

module _ (D : RattleType) (disk : Ghosts D.Denot) (s : IsSend D) where
  start_send : IsSend (Start.the_row D disk)
  start_send = search sendable depth 60 fits 20000

  desk_side_send : IsSend (DeskSide.the_row D disk)
  desk_side_send = declared_send (DeskSide.the_type D disk) (core.the_send D disk s, (start_send, tt))

  archive_send : IsSend (Archive.the_row D disk)
  archive_send = archive.the_send D disk s

  seat_send : IsSend (SeatOver.the_row (Start.the_row D disk) Work.the_row (DeskSide.the_row D disk) (Archive.the_row D disk))
  seat_send = seat.the_send (Start.the_row D disk) Work.the_row (DeskSide.the_row D disk) (Archive.the_row D disk) desk_side_send archive_send

  turn_sync : IsSync (Turn.the_row (DeskSide.the_row D disk) (Archive.the_row D disk) (Start.the_row D disk) Work.the_row (desk.ghosts D disk desk.no_dict desk.no_dict) (opening.ghosts D disk opening.no_dict) (vault.ghosts D disk vault.no_dict))
  turn_sync = turn.the_sync (DeskSide.the_row D disk) (Archive.the_row D disk) (Start.the_row D disk) Work.the_row (desk.ghosts D disk desk.no_dict desk.no_dict) (opening.ghosts D disk opening.no_dict) (vault.ghosts D disk vault.no_dict)
      desk_side_send archive_send

  store_sync : IsSync (Store.the_row D disk)
  store_sync = declared_sync (Store.the_type D disk) (turn_sync, (search sendable depth 20, (search sendable depth 20, (search sendable depth 20, tt))))

  pub held_send : (l : NamedLft) (R : RattleType) → IsSync R → IsSend (Held.the_row l R D disk)
  held_send l R y = declared_send (Held.the_type l R D disk)
      (search sendable depth 20, (shr_send _ _ R y, (shr_send _ _ (Store.the_row D disk) store_sync, (seat_send, (search (values.crosses, sendable) depth 60, (search (values.crosses, sendable) depth 60, (search (values.crosses, sendable) depth 60 fits 20000, (search (maps.crosses, values.crosses, sendable) depth 60 fits 20000, tt))))))))
