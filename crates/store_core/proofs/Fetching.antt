-- The core behind an opening.
use Rattle.std.proofs.Common.{◌≡◌, ℕ, false, [], refl, sym, ap, subst, arith, None}
use Rattle.disk_model.specs.Disk.{State}
use Rattle.history.specs.declared.log.Version.{Version}
use Rattle.history.specs.History.{History}
use Rattle.page_pool.specs.Side.{held}
use Rattle.skippy.specs.Mappings.{Mappings}
use Rattle.race_model.specs.Desk.{Desk}
use Rattle.race_model.specs.Fits.{DeskFits}
use Rattle.race_model.specs.Reopened.{opened_desk}
use Rattle.replay.specs.Opened.{opened}
use Rattle.desk.specs.declared.desk.RunningDesk.{RunningDesk}
use Rattle.desk.specs.Desk.{IsDesk}
use Rattle.desk.specs.Fetched.{FetchesDesk, contents_of}
use Rattle.txn_set.specs.declared.ledger.Ledger.{Ledger}
use Rattle.txn_set.specs.Ledger.{no_lines}
use Rattle.txn_set.specs.WorksFit.{WorksFit}
use Rattle.store_core.specs.declared.desk_core.Core.{Core}
use Rattle.store_core.specs.Core.{FetchesCore, IsCore, IsWholeCore}
use Rattle.desk.proofs.Steps.{going}
use Rattle.store_core.proofs.Cores.{append-nil, none_told}

core_opened : {D : Type 0} (honest : D → Type 0) (state : D → State) (desk : RunningDesk D) (plain : Desk) (pages : ℕ) → IsDesk honest state desk plain → DeskFits plain → ((page : ℕ) → held desk.pool page ≡ false) → desk.stop ≡ None
    → desk.base.page_count ≡ pages → WorksFit (no_lines pages) → IsCore honest state plain.history (record { desk = desk; ledger = no_lines pages }) plain
core_opened honest state desk plain pages is fits free goes count works = record {
  ledger = record {
    sound = record { short = omega arith; right = fits.history.right; keeps = tt };
    places = record { places = omega arith; workers = omega arith };
    works = works;
    pins = record { pins = λ who. refl };
    whole = λ session. tt;
  };
  is = is;
  fits = fits;
  journal = ap (λ l. let h : History = record plain.history { changes = l } in h) (sym (append-nil plain.history.changes));
  pages = sym count;
  edits = record { kept = λ page session e. absurd cc; only = λ page h. absurd (cc (h, free page)) };
  stop = goes;
  doubt = none_told plain plain.doubt [] (going desk.stop plain.stopped is.stopped goes) fits.doubt;
}

pub fetches : {D : Type 0} (honest : D → Type 0) (state : D → State) (version : Version) (log pages : D) (mappings : Mappings) (desk : RunningDesk D) (ledger : Ledger) (count : ℕ) → FetchesDesk honest state version log pages mappings desk → desk.stop ≡ None
    → desk.base.page_count ≡ count → ledger ≡ no_lines count → WorksFit ledger → FetchesCore honest state version log pages mappings (record { desk = desk; ledger = ledger })
fetches honest state version log pages mappings desk ledger count fetched goes same empty works = record {
  list = fetched.list;
  lists = fetched.lists;
  joined = fetched.joined;
  is = λ slots. subst (λ (l : Ledger). IsCore honest state (opened (contents_of fetched.list (state pages).seen mappings slots)) (record { desk = desk; ledger = l }) (opened_desk (contents_of fetched.list (state pages).seen mappings slots))) (sym empty)
      (core_opened honest state desk (opened_desk (contents_of fetched.list (state pages).seen mappings slots)) count (fetched.is slots) (fetched.fits slots) fetched.free goes same (subst WorksFit empty works));
}

pub whole_of : {D : Type 0} (honest : D → Type 0) (state : D → State) (version : Version) (log pages : D) (mappings : Mappings) (core : Core D) → FetchesCore honest state version log pages mappings core → IsWholeCore honest state core
whole_of honest state version log pages mappings core fetched = record {
  opening = opened (contents_of fetched.list (state pages).seen mappings (λ slot. []));
  plain = opened_desk (contents_of fetched.list (state pages).seen mappings (λ slot. []));
  is = fetched.is (λ slot. []);
}
