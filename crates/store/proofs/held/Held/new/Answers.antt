use Rattle.std.proofs.Common.{List, None, subst, sym}
use Rattle.retro_base.specs.declared.who.Who.{Who}
use Rattle.journal_law.specs.declared.seat.ToldFault.{ToldFault}
use Rattle.store.specs.Seen.{IsSeated}
use Rattle.store.proofs.Coming.{seated_none}
use Rattle.store.proofs.held.Held.new.Goals as goal

pub invariant_of-result : goal.invariant_of-result
invariant_of-result g c =
    let who : Who = record { phase = 0; session = 0; item = 0 } in
    record {
      ready = c.requires.ready.0;
      whole = c.requires.ready.1;
      sized = c.requires.sized;
      seated = subst (λ (ts : List ToldFault). IsSeated who None ts c.args.seat) (sym c.new.ensures.items) (seated_none who None c.args.seat c.requires.idle);
      tabled = tt;
    }
