use Rattle.std.proofs.Common.{subst, sym}
use Rattle.std.specs.Prelude.{slice_index_or}
use Rattle.tables.specs.Fates.{contents_after}
use Rattle.tables.specs.Tables.{IsTable, Tables}
use Rattle.tables.proofs.Finding.{put_sound}
use Rattle.tables.proofs.Inserting.{no_contents}
use Rattle.tables.proofs.tables.Tables.rewrite.Goals as goal

pub invariant_of-self : goal.invariant_of-self
invariant_of-self c =
    let inside : Tables = record { schema = c.self.inside.schema; contents = c.self.inside.contents.items } in
    rw (c.rewrite_at.ensures no_contents)
    (put_sound inside c.args.place (contents_after c.args.fates (slice_index_or inside.contents c.args.place no_contents)) c.self.invariant
    (λ s. subst (λ (t : Tables). IsTable (slice_index_or t.schema.tables c.args.place s) (contents_after c.args.fates (slice_index_or t.contents c.args.place no_contents))) (sym c.self.view_is) (c.requires.table s no_contents)))
