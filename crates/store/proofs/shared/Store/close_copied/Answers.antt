use Rattle.std.proofs.Common.{◌∙◌, List, ap, length, subst, sym}
use Rattle.turn.specs.Tables.{table_of}
use Rattle.store.specs.Closing.{AreReady, ClosesTold, HaveCopied, MayCopyLast}
use Rattle.store.specs.Seats.{Sat, start_of}
use Rattle.store.proofs.LastCopied.{back_again}
use Rattle.store.proofs.Pending.{pends}
use Rattle.store.proofs.shared.Store.close_copied.Goals as goal

pub copy_last-requires-clause-ready : goal.copy_last-requires-clause-ready
copy_last-requires-clause-ready g c = subst (λ (xs : List (Sat g.row.D.Denot)). AreReady (table_of c.args.self.turn) xs) (sym c.as_mut_slice.ensures.value) c.requires.ready

pub copy_last-requires-clause-may : goal.copy_last-requires-clause-may
copy_last-requires-clause-may g c = subst (λ (xs : List (Sat g.row.D.Denot)). MayCopyLast g.D.Disk.state g.D.Disk.faults xs) (sym c.as_mut_slice.ensures.value) c.requires.may

pub ended-requires-clause-all : goal.ended-requires-clause-all
ended-requires-clause-all g c =
    let value = c.as_mut_slice.ensures.value in
    let count = c.copy_last.ensures.copied.count ∙ ap length value in
    ap length (back_again c.copy_last.new.seats c.args.seats.items c.args.seats.len c.args.seats.ok.0 count) ∙ count ∙ c.requires.all

pub ended-requires-clause-ready : goal.ended-requires-clause-ready
ended-requires-clause-ready g c =
    let value = c.as_mut_slice.ensures.value in
    let back = back_again c.copy_last.new.seats c.args.seats.items c.args.seats.len c.args.seats.ok.0 (c.copy_last.ensures.copied.count ∙ ap length value) in
    subst (λ (xs : List (Sat g.row.D.Denot)). AreReady (table_of c.args.self.turn) xs) (sym back) c.copy_last.ensures.ready

pub returns : goal.returns
returns g c =
    let disk = g.D.Disk in
    let z = table_of c.args.self.turn in
    let start = start_of c.args.self.turn in
    let limit = c.args.self.turn.table.shared.key.seats in
    let last = c.copy_last.new.seats in
    let value = c.as_mut_slice.ensures.value in
    let back = back_again last c.args.seats.items c.args.seats.len c.args.seats.ok.0 (c.copy_last.ensures.copied.count ∙ ap length value) in
    let worked = subst (λ (xs : List (Sat g.row.D.Denot)). HaveCopied disk.is_honest disk.state disk.faults z disk.remembers disk.clock c.args.phase xs last) value c.copy_last.ensures.copied in
    let ends = subst (λ (xs : List (Sat g.row.D.Denot)). ClosesTold disk.is_honest disk.state disk.faults start limit xs c.ended.result.0 c.ended.result.1) back c.ended.ensures.closed in
    record {
      closed = record {
        last = last;
        worked = worked;
        ends = ends;
        pending = pends disk.is_honest disk.state disk.faults z disk.remembers disk.clock start limit c.args.phase c.args.seats.items last c.ended.result.0 c.ended.result.1 worked ends (λ k s there. (c.copy_last.ensures.ready k s there).0);
      };
    }
