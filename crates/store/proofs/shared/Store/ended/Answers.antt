use Rattle.std.proofs.Common.{◌≡◌, ◌∙◌, ◌+◌, ◌<◌, ap, sym, subst, arith, eq-eqb}
use Rattle.std.proofs.lemmas.Bool.{eqb-true}
use Rattle.std.specs.List.{AllByRecursion}
use Rattle.journal_law.specs.Lawful.{IsCounted}
use Rattle.opening.specs.Devices.{of_each}
use Rattle.history.specs.Lines.{base_of}
use Rattle.store.specs.Crashes.{CrashesMap, CrashesOpen}
use Rattle.store.specs.Opening.{IsHonestlyOpened, disks_of, four_of}
use Rattle.store.specs.Seats.{journal}
use Rattle.store.specs.Start.{opened_base, opened_counts}
use Rattle.store.proofs.Captures.{all_counted}
use Rattle.store.proofs.Crashing.{counted_lines, crashes_open, each_count, maps_all}
use Rattle.store.proofs.shared.Store.ended.Goals as goal

pub close-side-requires-clause-whole : goal.close-side-requires-clause-whole
close-side-requires-clause-whole g c = λ k s there. let r = c.requires.ready k s there in (r.0.rests, r.1.parts)

pub returns : goal.returns
returns g c =
    let e = c.close-side.ensures in
    let disk = g.D.Disk in
    let side = c.close-side.result.0 in
    let held = c.close-side.result.1 in
    let core = c.into_parts-log.ensures.parts in
    let archive = c.into_disks-pagelog.ensures.disks in
    let parts = c.into_parts-log.result in
    let held_disks = c.into_disks-pagelog.result in
    let disks : four_of parts.0 parts.1 held_disks.0 held_disks.1 ≡ disks_of side.core held = λ i. record { log = (core i).0; pages = (core i).1; pagelog = (archive i).0; maplog = (archive i).1 } in
    let pages_whole = ap (λ p. disk.extent p.1) (sym core) ∙ c.into_parts-log.ensures.whole in
    let slots_whole = ap (λ p. disk.extent p.0) (sym archive) ∙ c.into_disks-pagelog.ensures.pagelog in
    let first = c.acked.ensures in
    let pending = c.pending.ensures in
    let all = all_counted disk.is_honest disk.state side e.closed.desk_fits.0 in
    record {
      closed = record {
        closes = record {
          side = side;
          archive = held;
          begun = e.opening;
          stands = e.closed.desk_fits.0;
          vault = e.closed.vault_fits.0;
          acked = e.closed.acked;
          each = λ k s there. let r = e.right k s there in let own = c.requires.ready k s there in record { front = r.front; lines = sym own.0.lines ∙ r.lines; work = r.work };
          known = λ k s there. (e.right k s there).held;
          foreign = λ n le. (e.closed.foreign n le).0;
          differ = e.closed.differ;
          counted = subst (λ x. AllByRecursion (IsCounted (of_each disk.faults x)) (journal side)) (sym disks)
              (counted_lines (of_each disk.faults (disks_of side.core held)) (journal side) (λ d n h. let b = (e.closed.faults d n).below (omega (arith, h)) in let s = each_count disk.faults side.core held d in omega (arith, b, s)));
          risen = λ d n h lt. subst (λ s. opened_counts disk.faults s d < n) e.opening ((e.closed.faults d n).above lt (omega (arith, h)));
          heard = λ d up.
              let s = each_count disk.faults side.core held d in
              let o = ap (λ t. opened_counts disk.faults t d) e.opening in
              let l = ap (λ x. of_each disk.faults x d) disks in
              e.closed.heard d (omega (arith, up, s, o, l));
          disks = disks;
          lines = λ i. (core i).2;
          captures = omega (arith, first, pending, all);
          crashes = λ origin begun. subst (λ x. CrashesOpen disk.state origin.log origin.history (journal side) x) (sym disks)
              (crashes_open disk.extent disk.is_honest disk.state g.met.D.Disk.sized side held origin (subst (λ s. IsHonestlyOpened disk.is_honest disk.state s origin) (sym e.opening) begun) e.closed.desk_fits.0 e.closed.vault_fits.0 e.closed.acked pages_whole slots_whole);
          maps = λ origin begun copied. subst (λ x. CrashesMap disk.state origin.log (base_of (opened_base side.start) (journal side)).captures x) (sym disks)
              (maps_all disk.extent disk.is_honest disk.state g.met.D.Disk.sized side held origin (subst (λ s. IsHonestlyOpened disk.is_honest disk.state s origin) (sym e.opening) begun) e.closed.desk_fits.0 e.closed.vault_fits.0 e.closed.acked pages_whole slots_whole copied);
        };
        told = (
          (λ yes. let is = c.held.ensures in let same = eqb-true c.held.result (c.acked.result + c.pending.result) yes in omega (arith, is, same, first, pending, all)),
          (λ copied. let is = c.held.ensures in eq-eqb c.held.result (c.acked.result + c.pending.result) (omega (arith, copied, is, first, pending, all))),
        );
      };
    }
