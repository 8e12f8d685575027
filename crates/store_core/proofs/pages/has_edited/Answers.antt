use Rattle.std.proofs.Common.{◌∙◌, ap}
use Rattle.std.specs.Prelude.{is_some}
use Rattle.store_core.proofs.Edits.{own_among, some_copied}
use Rattle.store_core.proofs.pages.has_edited.Goals as goal

pub returns : goal.returns
returns c = λ t there. c.is_some.ensures ∙ some_copied c.own_edit.result ∙ ap is_some (c.own_edit.ensures t there) ∙ own_among c.args.page t.edits
