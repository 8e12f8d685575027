use Rattle.std.proofs.Common.{◌∙◌, inl, inr}
use Rattle.turn.specs.Seats.{seen}
use Rattle.retro.proofs.Stored.{longer_is}
use Rattle.retro.proofs.storing.HeldMeets.meet.Goals as goal

pub returns : goal.returns
returns g c =
    let e = c.meet.ensures in
    record {
      met = record {
        one_waits = e.waits;
        other_waits = e.others;
        same = e.seen.1;
        seen = elim (longer_is (seen c.args.self.now.seat) (seen c.args.other.now.seat)) [ inl first ↦ inl (e.seen.0 ∙ first) | inr second ↦ inr (e.seen.0 ∙ second) ];
      };
      goes = (e.goes, e.other_goes);
    }
