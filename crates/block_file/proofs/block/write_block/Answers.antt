use Rattle.std.proofs.Common.{◌∙◌, ◌+◌, ◌*◌, ◌≤◌, length, arith}
use Rattle.retro_base.specs.declared.limits.TheConstants.{PAGE_BYTES}
use Rattle.block_file.proofs.Blocks.{block_written, keeps_over, write_changes}
use Rattle.block_file.proofs.block.write_block.Goals as goal

pub returns-in-Ok-clause-written : goal.returns-in-Ok-clause-written
returns-in-Ok-clause-written g c = λ honest.
    let fits : PAGE_BYTES * c.args.number + PAGE_BYTES ≤ length (g.D.Disk.state c.args.disk.now).seen = omega (arith, c.requires, g.met.D.Disk.sized c.args.disk.now honest) in
    block_written c.args.number c.place_of.result c.bytes.result.now (g.D.Disk.state c.args.disk.now).seen (g.D.Disk.state c.write_at.new.self).seen
    c.place_of.ensures c.bytes.ensures.whole fits (c.in-Ok.ensures.written honest).done
    ∙ c.bytes.ensures.same

pub returns-in-Ok-clause-alone : goal.returns-in-Ok-clause-alone
returns-in-Ok-clause-alone g c = λ honest.
    let others = write_changes c.args.number c.place_of.result c.bytes.result.now _ _ _ c.place_of.ensures c.bytes.ensures.whole (c.in-Ok.ensures.written honest) in
    record {
      others = others;
      any_moment = keeps_over _ g.D.Disk.remembers _ _ (g.D.Disk.state c.args.disk.now) (g.D.Disk.state c.write_at.new.self)
          (λ image left. g.met.D.Disk.only_now c.args.disk.now image honest left) others (c.in-Ok.ensures.time honest);
    }

pub returns-in-Err-clause-alone : goal.returns-in-Err-clause-alone
returns-in-Err-clause-alone g c = λ honest.
    let others = write_changes c.args.number c.place_of.result c.bytes.result.now _ _ _ c.place_of.ensures c.bytes.ensures.whole (c.in-Err.ensures.written honest) in
    record {
      others = others;
      any_moment = keeps_over _ g.D.Disk.remembers _ _ (g.D.Disk.state c.args.disk.now) (g.D.Disk.state c.write_at.new.self)
          (λ image left. g.met.D.Disk.only_now c.args.disk.now image honest left) others (c.in-Err.ensures.time honest);
    }
