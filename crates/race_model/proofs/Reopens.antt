-- Opening makes a machine that fits, and so do whole lives.
use Rattle.std.proofs.Common.{inl, inr, ◌≤◌, ◌-◌, ℕ, List, [], ◌∷◌, drop, refl, sym, ap, arith}
use Rattle.retro_base.specs.declared.limits.TheConstants.{MIN_PAGES, MAX_PAGES, MIN_CAPACITY, MAX_CAPACITY}
use Rattle.history.specs.declared.writes.PageImage.{PageImage}
use Rattle.history.specs.declared.log.Version.{Version}
use Rattle.history.specs.Writes.{pages_of}
use Rattle.std.specs.List.{AllByRecursion}
use Rattle.history.specs.declared.entry.Base.{Base}
use Rattle.history.specs.declared.entry.Change.{Change}
use Rattle.history.specs.declared.entry.Change.TheVariants.{Commit, Drop}
use Rattle.history.specs.Right.{IsBase, WritesRise}
use Rattle.records.specs.Entries.{ChangeFits}
use Rattle.records.specs.InTurn.{InTurn}
use Rattle.records.specs.Log.{IsChangeBody}
use Rattle.records.proofs.Logs.{in_turn_right}
use Rattle.history.specs.History.{base_after, captures_of}
use Rattle.skippy.specs.Mappings.{end_of}
use Rattle.replay.specs.Opened.{Contents, opened}
use Rattle.replay.proofs.Belonging.{held_long}
use Rattle.race_model.specs.Desk.{Doubt, Sure, OneMore, NewBase, Desk}
use Rattle.race_model.specs.Fits.{AreOfStore}
use Rattle.race_model.specs.Machine.{Machine}
use Rattle.race_model.specs.Images.{OpenInDoubt, AreImagesOf}
use Rattle.race_model.specs.Invariant.{Fits}
use Rattle.race_model.specs.Laws.{MadeFits, OpenedFits, ReadFits, BothAtOnce}
use Rattle.race_model.specs.Reopened.{opened_machine, made, Life, Runs, Crashes}
use Rattle.race_model.proofs.Alike.{run_unchanged}
use Rattle.race_model.proofs.LogKeeps.{history_opened, log_opened, all_opened}
use Rattle.race_model.proofs.Opening.{opened_held}
use Rattle.race_model.proofs.Grows.{contains_none}
use Rattle.race_model.proofs.Keeps.{step_keeps, run_keeps, images_open}

pub opened_fits : OpenedFits
opened_fits version contents store =
    let joined = store.right.joined in
    record {
      desk = record {
        history = history_opened contents store;
        log = log_opened contents store;
        known = omega (arith, held_long contents);
        based = joined.holds_base.counted;
        pages = λ page. inl (refl, refl);
        clean = λ page h. sym (run_unchanged contents.log.base contents.pages contents.log.changes page h);
        soiled = λ page h. h;
        needed = omega arith;
        pending = joined.holds_changes.known;
        doubt = tt;
      };
      vault = record {
        mappings = record {
          above = omega arith;
          needed = joined.holds_changes.needed;
          later = drop (end_of contents.mappings - contents.log.base.captures) (pages_of (captures_of (opened contents).origin contents.log.changes));
          same = all_opened contents store;
          room = joined.holds_base.room;
        };
        others = λ other never. absurd (contains_none other never);
        held = omega arith;
        laid = joined.holds_changes.known;
        room = omega arith;
        slots = λ number ge lt. (refl, sym (ap (λ (i : PageImage). i.bytes) (opened_held contents number (omega (arith, ge, joined.holds_changes.needed)) lt)));
      };
      order = omega arith;
      batches = tt;
      receipts = tt;
      pins = λ pin never. absurd (contains_none pin never);
      told = tt;
    }

-- the commits of a log write in rising page
all_rise : (version : Version) (base : Base) (bodies : List (List ℕ)) (changes : List Change) → InTurn (IsChangeBody version) base_after base bodies changes → AllByRecursion WritesRise changes
all_rise version base [] [] are = tt
all_rise version base [] (change ∷ changes) are = absurd are
all_rise version base (body ∷ bodies) [] are = absurd are
all_rise version base (body ∷ bodies) (change ∷ changes) are = (rise change are.0.fits, all_rise version (base_after base change) bodies changes are.1) where
  rise : (change : Change) → ChangeFits version change → WritesRise change
  rise (Commit label writes) fits = fits.2
  rise (Drop below) fits = tt

pub read_fits : ReadFits
read_fits version [] contents is joined = absurd is
read_fits version (body ∷ bodies) contents is joined = record {
  right = record { base = is.1.right; right = in_turn_right version contents.log.base bodies contents.log.changes is.2; joined = joined };
  rises = all_rise version contents.log.base bodies contents.log.changes is.2;
}

first_base : (version : Version) (page_count capacity : ℕ) (pages slots : ℕ → List ℕ) → MIN_PAGES ≤ page_count → page_count ≤ MAX_PAGES → MIN_CAPACITY ≤ capacity → capacity ≤ MAX_CAPACITY → IsBase (made version page_count capacity pages slots).log.base
first_base version page_count capacity pages slots few many small large = record {
  pages = (few, many);
  capacity = (small, large);
  limits = record { total = omega arith; room = omega arith; retained = omega arith; newest = omega arith };
  marks = omega arith;
  undeclared = λ none. refl;
  rising = refl;
  in_store = tt;
  captured = omega arith;
}

pub made_fits : MadeFits
made_fits version page_count capacity pages slots few many small large = opened_fits version (made version page_count capacity pages slots) (record {
  right = record {
    base = first_base version page_count capacity pages slots few many small large;
    right = tt;
    joined = record {
      holds_base = record { counted = omega arith; room = omega arith; different = refl; captured = refl };
      holds_changes = record { known = omega arith; needed = omega arith; same = refl };
    };
  };
  rises = tt;
})

of_store : (contents : Contents) (desk : Desk) (doubt : Doubt) → OpenInDoubt contents desk doubt → AreOfStore contents
of_store contents desk Sure o = o.store
of_store contents desk (NewBase version) (inl o) = o.store
of_store contents desk (NewBase version) (inr o) = o.store
of_store contents desk (OneMore change) (inl o) = o.store
of_store contents desk (OneMore change) (inr o) = o.store

pub lives_keep : (first last : Machine) → Life first last → Fits first → Fits last
lives_keep first last (Runs run) f = run_keeps first last run f
lives_keep first last (Crashes {next = next} contents life images run) f =
    let fits : Fits next = lives_keep first next life f in
    run_keeps (opened_machine images.version contents) last run (opened_fits images.version contents (of_store contents next.desk next.desk.doubt (images_open next contents fits images)))

pub lives_open : (first last : Machine) (contents : Contents) → Life first last → Fits first → AreImagesOf last contents → OpenInDoubt contents last.desk last.desk.doubt
lives_open first last contents life f images = images_open last contents (lives_keep first last life f) images

pub both_at_once : BothAtOnce
both_at_once machine first both contents f one other images = images_open both contents (step_keeps first both other (step_keeps machine first one f)) images
