use Rattle.std.proofs.Common.{◌≡◌, ◌∙◌, ℕ, List, true, false, ap, refl, subst, sym}
use Rattle.std.specs.Prelude.{Option, option_copied, IfSome}
use Rattle.std.proofs.lemmas.Bool.{both_ways}
use Rattle.block_file.specs.Blocks.{block_at, File, IsAsLong, KeepsSettled}
use Rattle.disk_model.specs.Moments.{LeavesOnly}
use Rattle.disk_model.proofs.Moments.{weaker}
use Rattle.page_pool.specs.declared.frames.Frame.{Frame}
use Rattle.page_pool.specs.Side.{HoldsSure, Pool, ReadsAs, soiled, with_page}
use Rattle.page_pool.proofs.Steps.{reads_written, same_failed, same_written, with_here, with_same, write_leaves}
use Rattle.page_pool.proofs.pool.PagePool.write_back.Goals as goal

pub returns-in-Ok-clause-done : goal.returns-in-Ok-clause-done
returns-in-Ok-clause-done g c =
    rw (← c.self.view_is)
    (λ now device loose dirty is.
    let page = c.args.page in
    let file = c.clear.ensures.file in
    let old = g.D.Disk.state c.self.inside.file.disk in
    let new = g.D.Disk.state c.write.new.self.disk in
    let back : g.D.Disk.is_honest c.clear.new.self.file.disk → g.D.Disk.is_honest c.self.inside.file.disk = λ told. c.write.ensures.same.honest.1 (subst (λ (f : File _). g.D.Disk.is_honest f.disk) file told) in
    record {
      marks = λ other. c.clear.ensures.marks other ∙ with_same _ dirty page false is.marks other;
      settled = λ e. absurd (both_ways c.clear.new.self.is_unsettled e c.clear.ensures.settled);
      unsettled = λ e. (page, with_here loose page true);
      shows = λ told. c.clear.ensures.shows now (record { frames = (is.shows (back told)).frames; clean = (is.shows (back told)).clean });
      reads = λ told.
          let written : block_at new.seen page ≡ now page = c.in-Ok.ensures.written (back told) ∙ subst (λ (o : Option Frame). IfSome o (λ f. f.bytes ≡ now page)) (sym c.get.ensures.value ∙ ap option_copied c.in-Some.is) ((is.shows (back told)).frames page) in
          let whole = c.write.ensures.fills (subst (λ (f : File _). g.D.Disk.is_honest f.disk) file told) in
          let there = reads_written old new c.self.inside.file.blocks c.write.new.self.blocks device loose (is.reads (back told)) page (c.write.ensures.alone (back told)).others whole in
          subst (λ (f : File _). ReadsAs (g.D.Disk.state f.disk) f.blocks (with_page device page (now page)) (with_page loose page true)) (sym file)
          (subst (λ (b : List ℕ). ReadsAs new c.write.new.self.blocks (with_page device page b) (with_page loose page true)) written there);
      same = λ told. same_written device now dirty page (is.same (back told));
    })

pub returns-in-Ok-clause-any_moment : goal.returns-in-Ok-clause-any_moment
returns-in-Ok-clause-any_moment g c =
    rw (← c.self.view_is)
    (λ now device loose dirty left told is.
    let page = c.args.page in
    let disk = c.self.inside.file.disk in
    let state = g.D.Disk.state disk in
    let next = c.write.new.self.disk in
    let ends = weaker g.D.Disk.remembers (g.D.Disk.clock disk) (g.D.Disk.clock next) (KeepsSettled (λ other. other ≡ page) state) (HoldsSure (with_page device page left) (with_page loose page true)) (write_leaves state state c.self.inside.file.blocks c.self.inside.file.blocks device loose (is.reads told) page left)
    (c.write.ensures.alone told).any_moment in
    subst (λ (f : File _). LeavesOnly g.D.Disk.remembers (g.D.Disk.clock disk) (g.D.Disk.clock f.disk) (HoldsSure (with_page device page left) (with_page loose page true))) (sym c.clear.ensures.file) ends)

pub returns-in-Err-clause-failed : goal.returns-in-Err-clause-failed
returns-in-Err-clause-failed g c =
    rw (← c.self.view_is)
    (λ now device loose dirty is.
    let page = c.args.page in
    let old = g.D.Disk.state c.self.inside.file.disk in
    let new = g.D.Disk.state c.write.new.self.disk in
    let back = c.write.ensures.same.honest.1 in
    let soiled_now : dirty page ≡ true = sym (is.marks page) ∙ ap (λ (p : Pool _). soiled p page) c.self.view_is ∙ c.requires in (
      block_at new.seen page,
      record {
        marks = is.marks;
        settled = λ e. absurd (both_ways true e refl);
        unsettled = λ e. (page, with_here loose page true);
        shows = λ told. record { frames = (is.shows (back told)).frames; clean = (is.shows (back told)).clean };
        reads = λ told. reads_written old new c.self.inside.file.blocks c.write.new.self.blocks device loose (is.reads (back told)) page (c.write.ensures.alone (back told)).others (c.write.ensures.fills told);
        same = λ told. same_failed device now dirty page (block_at new.seen page) soiled_now (is.same (back told));
      },
    ))

pub returns-in-Err-clause-any_moment : goal.returns-in-Err-clause-any_moment
returns-in-Err-clause-any_moment g c =
    rw (← c.self.view_is)
    (λ now device loose dirty left told is.
    let page = c.args.page in
    let disk = c.self.inside.file.disk in
    let state = g.D.Disk.state disk in
    weaker g.D.Disk.remembers (g.D.Disk.clock disk) (g.D.Disk.clock c.write.new.self.disk) (KeepsSettled (λ other. other ≡ page) state) (HoldsSure (with_page device page left) (with_page loose page true)) (write_leaves state state c.self.inside.file.blocks c.self.inside.file.blocks device loose (is.reads told) page left) (c.write.ensures.alone told).any_moment)

pub returns-in-Ok-clause-long : goal.returns-in-Ok-clause-long
returns-in-Ok-clause-long g c = rw (← c.self.view_is) (λ told.
    subst (λ (f : File _). LeavesOnly g.D.Disk.remembers (g.D.Disk.clock c.self.inside.file.disk) (g.D.Disk.clock f.disk) (IsAsLong (g.D.Disk.state c.self.inside.file.disk))) (sym c.clear.ensures.file) (c.write.ensures.long told))
