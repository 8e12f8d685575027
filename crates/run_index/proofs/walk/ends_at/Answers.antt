use Rattle.std.proofs.lemmas.Bool.{ne_eqb}
use Rattle.index_page.proofs.Placing.{place-reaches}
use Rattle.run_index.proofs.walk.ends_at.Goals as goal

pub returns-else-held-eq0 : goal.returns-else-held-eq0
returns-else-held-eq0 c =
    let held = c.args.held.now in
    rw (c.place_of.ensures.place, c.as_slice-entries.ensures, ne_eqb held.link 0 c.if-held-eq0.false) (place-reaches c.args.entry.now held.entries)
