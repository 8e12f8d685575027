use Rattle.std.proofs.Common.{◌∙◌, sym}
use Rattle.history.specs.Marks.{start_of}
use Rattle.history.specs.History.{now}
use Rattle.desk.proofs.Told.{found_within, met_is, told_capture, told_page}
use Rattle.desk.proofs.desk.RunningDesk.peek.Goals as goal

pub image-requires : goal.image-requires
image-requires g c = found_within c.args.self.now.queue _ c.args.page c.in-Some.place (sym c.find.ensures ∙ c.in-Some.is)

pub returns-in-Some-clause-told : goal.returns-in-Some-clause-told
returns-in-Some-clause-told g c = λ desk is f told.
    let old = c.args.self.now in
    (told_capture g.D.Disk.is_honest g.D.Disk.state old desk is f told c.args.snapshot c.args.page c.in-Some.place c.image.result.now (met_is old.queue c.start.result (start_of c.args.snapshot old.base.marks) c.args.page c.find.result _ c.start.ensures c.find.ensures c.in-Some.is) c.image.ensures, c.first-upto.ensures ∙ is.first)

pub returns-in-Ok-clause-told : goal.returns-in-Ok-clause-told
returns-in-Ok-clause-told g c = λ desk is f told.
    let old = c.args.self.now in
    (told_page g.D.Disk.is_honest g.D.Disk.state old desk is f told c.args.snapshot c.args.page c.read.new.out (met_is old.queue c.start.result (start_of c.args.snapshot old.base.marks) c.args.page c.find.result _ c.start.ensures c.find.ensures c.in-None.is) (c.in-Ok.ensures.read (now desk.history).pages desk.pages desk.loose desk.dirty told is.pages), c.first-upto.ensures ∙ is.first)
