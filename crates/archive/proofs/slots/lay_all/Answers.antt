use Rattle.std.proofs.Common.{◌≡◌, ◌∙◌, ◌+◌, ◌%◌, ◌<◌, length, refl, ap, arith}
use Rattle.block_file.specs.Blocks.{slot_of}
use Rattle.block_file.proofs.Blocks.{writes_none, writes_on}
use Rattle.race_model.specs.Vault.{IsSlotOf}
use Rattle.archive.proofs.Laying.{holds_more, lays_more, lays_none}
use Rattle.archive.proofs.slots.lay_all.Goals as goal

pub loop-place-init : goal.loop-place-init
loop-place-init g c = record {
  same = record { blocks = refl; honest = (λ h. h, λ h. h) };
  steady = refl;
  laid = λ told place none. absurd (omega arith);
  alone = λ told.
      lays_none c.args.pagelog.now.blocks c.args.batch.now g.D.Disk.remembers g.D.Disk.state g.D.Disk.clock c.args.pagelog.now.disk (λ image left. g.met.D.Disk.only_now c.args.pagelog.now.disk image told left);
}

pub returns-in_err-lay-clause-alone : goal.returns-in_err-lay-clause-alone
returns-in_err-lay-clause-alone g c = λ told.
    let place = c.loop-place.place in
    let within : place < length c.args.batch.now.images = omega (arith, c.len-place-end.ensures, c.loop-place-test.true) in
    let slot : slot_of c.loop-place.pagelog.blocks (c.first.result + place) ≡ (c.args.batch.now.first + place) % c.args.pagelog.now.blocks =
    ap (λ n. (c.first.result + place) % n) c.loop-place.invariant.same.blocks ∙ ap (λ n. (n + place) % c.args.pagelog.now.blocks) c.first.ensures in
    lays_more c.args.pagelog.now.blocks c.args.batch.now g.D.Disk.remembers g.D.Disk.state g.D.Disk.clock place (slot_of c.loop-place.pagelog.blocks (c.first.result + place)) within slot
    c.args.pagelog.now.disk c.loop-place.pagelog.disk c.lay.new.self.disk (c.loop-place.invariant.alone told) (c.lay.ensures.alone (c.loop-place.invariant.same.honest.0 told))

pub loop-place-preserved : goal.loop-place-preserved
loop-place-preserved g c =
    let place = c.loop-place.place in
    let within : place < length c.args.batch.now.images = omega (arith, c.len-place-end.ensures, c.loop-place-test.true) in
    let slot : slot_of c.loop-place.pagelog.blocks (c.first.result + place) ≡ (c.args.batch.now.first + place) % c.args.pagelog.now.blocks =
    ap (λ n. (c.first.result + place) % n) c.loop-place.invariant.same.blocks ∙ ap (λ n. (n + place) % c.args.pagelog.now.blocks) c.first.ensures in
    record {
      same = record {
        blocks = c.lay.ensures.same.blocks ∙ c.loop-place.invariant.same.blocks;
        honest = (λ h. c.lay.ensures.same.honest.0 (c.loop-place.invariant.same.honest.0 h), λ h. c.loop-place.invariant.same.honest.1 (c.lay.ensures.same.honest.1 h));
      };
      steady = c.in_ok-lay.ensures.cause ∙ c.loop-place.invariant.steady;
      laid = λ told.
          holds_more c.args.pagelog.now.blocks c.args.batch.now g.D.Disk.remembers g.D.Disk.state g.D.Disk.clock place (slot_of c.loop-place.pagelog.blocks (c.first.result + place)) within slot
          c.args.pagelog.now.disk c.loop-place.pagelog.disk c.lay.new.self.disk (c.loop-place.invariant.alone told) (c.lay.ensures.alone (c.loop-place.invariant.same.honest.0 told))
          c.requires.few c.bytes.result.now (c.in_ok-lay.ensures.laid (c.loop-place.invariant.same.honest.0 told)) c.bytes.ensures (c.loop-place.invariant.laid told);
      alone = λ told.
          lays_more c.args.pagelog.now.blocks c.args.batch.now g.D.Disk.remembers g.D.Disk.state g.D.Disk.clock place (slot_of c.loop-place.pagelog.blocks (c.first.result + place)) within slot
          c.args.pagelog.now.disk c.loop-place.pagelog.disk c.lay.new.self.disk (c.loop-place.invariant.alone told) (c.lay.ensures.alone (c.loop-place.invariant.same.honest.0 told));
    }

pub returns-clause-alone : goal.returns-clause-alone
returns-clause-alone g c = λ told.
    writes_on (IsSlotOf c.args.pagelog.now.blocks c.args.batch.now) g.D.Disk.remembers g.D.Disk.state g.D.Disk.clock c.args.pagelog.now.disk c.loop-place.pagelog.disk c.settle.new.self.disk (c.loop-place.invariant.alone told)
    (writes_none (IsSlotOf c.args.pagelog.now.blocks c.args.batch.now) g.D.Disk.remembers g.D.Disk.state g.D.Disk.clock c.loop-place.pagelog.disk c.settle.new.self.disk (c.settle.ensures.quiet (c.loop-place.invariant.same.honest.0 told)))
