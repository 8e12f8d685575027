-- What sessions need of the pagers of their seats.
use Rattle.std.proofs.Common.{◌≡◌, ◌∙◌, true, false, [], Some, None, refl, sym}
use Rattle.retro_base.specs.declared.refusal.Refusal.{Refusal}
use Rattle.journal_law.specs.Language.{Language}
use Rattle.seat_pager.specs.Laws.{NothingIsKept, OverlapsStay, ShownAsOf, ShownAtBegan, ShownIsAsked, ShownIsMade, unedited}
use Rattle.seat_pager.specs.Transaction.{under}
use Rattle.seat_pager.proofs.Reasons.{overlap_on}

pub nothing_is_kept : NothingIsKept
nothing_is_kept who old new mine begins = record {
  attempt = record { who = who; since = begins.0; read = []; edits = []; kept = None };
  is_open = begins.1.work_is;
  mine = mine ∙ sym begins.1.moves.session;
  rise = refl;
  keeps = refl;
  known = λ why is. absurd (none why is);
  many = λ is. absurd (no is);
}
  where
    none : (why : Refusal) → None ≡ Some why → ⊥
    none why e = cc

    no : false ≡ true → ⊥
    no e = cc

pub overlaps_stay : OverlapsStay
overlaps_stay who front others session item apart is = overlap_on who front others session item apart is

pub shown_at_began : ShownAtBegan
shown_at_began view asked a is = record { attempt = a; is_open = is; agree = λ page among. refl; shows = refl }

pub shown_as_of : ShownAsOf
shown_as_of view look snapshot held is is_held = record { look = look; is_looking = is; held = held; is_held = is_held; bytes = refl }

module _ (L : Language) where
  pub shown_is_made : ShownIsMade L
  shown_is_made items view asked a item is makes pages tables agree stored =
      makes (unedited pages) (under (unedited pages) asked a.edits) tables (record { attempt = a; is_open = is; agree = agree; shows = refl }) stored

  pub shown_is_asked : ShownIsAsked L
  shown_is_asked view look snapshot held item answered is is_held asks tables stored =
      asks (unedited held) tables (record { look = look; is_looking = is; held = held; is_held = is_held; bytes = refl }) stored
