use Rattle.std.proofs.Common.{inl, inr, length, refl, rules}
use Rattle.std.proofs.lemmas.Option.{slice_get_past, slice_get_read}
use Rattle.rql.proofs.GroupFolds.{cell_adds, cell_stays}
use Rattle.rql.proofs.groups.Cell.add.Goals as goal

pub returns-in_default : goal.returns-in_default
returns-in_default g c = cell_stays c.args.place c.args.row.now c.args.self.now (inl (search rules))

pub returns-in_default-get : goal.returns-in_default-get
returns-in_default-get g c =
    cell_stays c.args.place c.args.row.now c.args.self.now (inr (slice_get_past c.args.row.now c.args.place c.in_default-get.ensures.lookup.3))

pub returns : goal.returns
returns g c =
    let lookup = c.in-Some-get.ensures.lookup in
    cell_adds c.args.place c.args.row.now c.in-Some.function c.in-Some-get.value.now c.args.self.now
    (record { function = c.args.self.now.function; first = c.args.self.now.first; tally = c.add.new.self })
    c.in-Some.is (slice_get_read c.args.row.now (length c.args.row.now) c.args.place c.in-Some-get.value.now refl lookup.3.0 lookup.1) refl refl c.in_ok-add.ensures
