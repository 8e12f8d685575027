use Rattle.std.proofs.Common.{subst}
use Rattle.tables.specs.Tables.{IsTables, Tables}
use Rattle.tables.proofs.Inserting.{done_by, no_contents, refused_by, tuples_short}
use Rattle.tables.proofs.tables.Tables.insert.Goals as goal

pub insert_at-requires-clause-width : goal.insert_at-requires-clause-width
insert_at-requires-clause-width c =
    rw c.as_slice-tuples.ensures (tuples_short c.args.insert.now c.args.self.now c.in_ok-place.place (subst IsTables c.self.view_is c.self.invariant) c.in_ok-place.ensures c.requires)

pub returns-in-Err-clause-means : goal.returns-in-Err-clause-means
returns-in-Err-clause-means c =
    let inside : Tables = record { schema = c.self.inside.schema; contents = c.self.inside.contents.items } in
    refused_by c.args.insert.now inside c.args.self.now c.in_ok-place.place c.as_slice-tuples.result.now c.in-Err.why c.self.view_is c.as_slice-tuples.ensures c.self.invariant c.in_ok-place.ensures c.requires (c.in-Err.ensures.means no_contents)

pub invariant_of-self-2 : goal.invariant_of-self-2
invariant_of-self-2 c =
    let inside : Tables = record { schema = c.self.inside.schema; contents = c.self.inside.contents.items } in
    (done_by c.args.insert.now inside c.args.self.now c.in_ok-place.place c.as_slice-tuples.result.now c.insert_at.new.contents.items c.self.view_is c.as_slice-tuples.ensures c.self.invariant c.in_ok-place.ensures c.requires (c.in_default.ensures.means no_contents) (c.in_default.ensures.set no_contents)).sound

pub returns-clause-means : goal.returns-clause-means
returns-clause-means c =
    let inside : Tables = record { schema = c.self.inside.schema; contents = c.self.inside.contents.items } in
    (done_by c.args.insert.now inside c.args.self.now c.in_ok-place.place c.as_slice-tuples.result.now c.insert_at.new.contents.items c.self.view_is c.as_slice-tuples.ensures c.self.invariant c.in_ok-place.ensures c.requires (c.in_default.ensures.means no_contents) (c.in_default.ensures.set no_contents)).means
