-- What stands behind the change that a lawful journal tells to be in doubt.
use Rattle.std.proofs.Common.{◌≡◌, ◌++◌, ℕ, true, List, [], ◌∷◌, Option, Some, None, refl, ap, sym, subst, ◌∙◌, append_assoc, append-nil}
use Rattle.std.specs.Prelude.{is_some}
use Rattle.std.specs.Option.{option_or}
use Rattle.retro_base.specs.declared.device.Device.{Device}
use Rattle.retro_base.specs.declared.who.Who.{Who}
use Rattle.history.specs.declared.entry.Change.{Change}
use Rattle.history.specs.declared.entry.Change.TheVariants as change
use Rattle.history.specs.declared.journal.FailedCall.TheVariants.{Append}
use Rattle.history.specs.declared.journal.Line.{Line}
use Rattle.history.specs.declared.journal.What.{What}
use Rattle.history.specs.declared.journal.What.TheVariants.{Done, Fault}
use Rattle.history.specs.declared.stop.Stop.{Stop}
use Rattle.history.specs.Journal.{pages_behind}
use Rattle.history.specs.Lines.{doubt_in, doubt_of, first_stop, stop_of}
use Rattle.history.proofs.Lines.{first_stop_in_one_more}
use Rattle.journal_law.specs.Language.{Commit, Kind, Language, Transaction, after_of}
use Rattle.journal_law.specs.Lawful.{AtDrop, AtEach, DoubtAt, IsOwnChange, KeepsRules, Lawful, Opening, WritesNothing}
use Rattle.journal_law.specs.Pages.{Pages, page_world}
use Rattle.journal_law.specs.Shows.{Shows, ShowsAlong, world}
use Rattle.journal_law.specs.World.{World, behind}
use Rattle.journal_law.proofs.Journal.{along_end, page_append}
use Rattle.journal_law.proofs.Marks.{Leaves, shows_behind}
use Rattle.store.specs.Recovery.{changed_world, what_of}

-- ---- the line that tells it

-- one of the lines tells this change to be in doubt
abbrev HasDoubt : List Line → Change → Type 0
HasDoubt lines change = (before : List Line) × (after : List Line) × (line : Line) × (lines ≡ before ++ line ∷ after) × (doubt_of line.what ≡ Some change)

doubted_line : (lines : List Line) (change : Change) → doubt_in lines ≡ Some change → HasDoubt lines change
doubted_line [] change is = cc
doubted_line (line ∷ lines) change is = by_line (doubt_of line.what) refl is (doubted_line lines change)
  where
    by_line : (doubt : Option Change) → doubt_of line.what ≡ doubt → option_or doubt (doubt_in lines) ≡ Some change → (doubt_in lines ≡ Some change → HasDoubt lines change) → HasDoubt (line ∷ lines) change
    by_line (Some told) tells same rest = ([], lines, line, refl, tells ∙ same)
    by_line None tells same rest =
        let later = rest same in
        (line ∷ later.0, later.1, later.2, ap (λ (ls : List Line). line ∷ ls) later.3, later.4)

-- which stops the store
doubt_stops : (what : What) (change : Change) → doubt_of what ≡ Some change → is_some (stop_of what) ≡ true
doubt_stops (Fault device count (Append told)) change is = refl
doubt_stops what change is = cc

-- a stop behind lines is one behind more
first_stays : (first last : Option Stop) → is_some first ≡ true → is_some (option_or first last) ≡ true
first_stays (Some stop) last is = refl
first_stays None last is = cc

last_counts : (first last : Option Stop) → is_some last ≡ true → is_some (option_or first last) ≡ true
last_counts (Some stop) last is = refl
last_counts None last is = is

stop_stays : (lines : List Line) (line : Line) → is_some (first_stop lines) ≡ true → is_some (first_stop (lines ++ line ∷ [])) ≡ true
stop_stays lines line stop = ap is_some (first_stop_in_one_more lines line) ∙ first_stays (first_stop lines) (stop_of line.what) stop

doubt_stays : (lines : List Line) (line : Line) (change : Change) → doubt_of line.what ≡ Some change → is_some (first_stop (lines ++ line ∷ [])) ≡ true
doubt_stays lines line change is = ap is_some (first_stop_in_one_more lines line) ∙ last_counts (first_stop lines) (stop_of line.what) (doubt_stops line.what change is)

-- ---- the pages stay behind it

writes_nothing : (oldest : ℕ) (what : What) (pages : World Pages) → WritesNothing oldest what → (behind (pages_behind pages.current what) what pages).current ≡ pages.current
writes_nothing oldest (Done None []) pages nothing = refl
writes_nothing oldest (Done None (write ∷ writes)) pages nothing = absurd nothing
writes_nothing oldest (Done (Some label) writes) pages nothing = absurd nothing
writes_nothing oldest what pages nothing = refl

-- a fault writes nothing
doubt_writes_nothing : (oldest : ℕ) (what : What) (change : Change) → doubt_of what ≡ Some change → WritesNothing oldest what
doubt_writes_nothing oldest (Fault device count (Append told)) change is = tt
doubt_writes_nothing oldest what change is = cc

module _ (L : Language) where
  -- a change in doubt leaves pages that hold what its item leaves
  own_leaves : (pages : Pages) (at : AtDrop) (tables : L.Tables) (item : L.Item) (kind : Kind) (change : Change) → IsOwnChange L pages at tables item kind change
      → Leaves L pages (what_of change) (L.after item tables)
  own_leaves pages at tables item (Transaction (Commit given)) (change.Commit label writes) own = own.1
  own_leaves pages at tables item kind (change.Drop below) own = tt
  own_leaves pages at tables item kind (change.Commit label writes) own = absurd own

  doubt_leaves : (pages : Pages) (at : AtDrop) (tables : L.Tables) (one : Option L.Item) (what : What) (change : Change) → doubt_of what ≡ Some change → DoubtAt L pages at tables one what
      → Leaves L pages (what_of change) (after_of L one tables)
  doubt_leaves pages at tables (Some item) (Fault device count (Append told)) change is own =
      let same : told ≡ change = cc in
      subst (λ (c : Change). Leaves L pages (what_of c) (L.after item tables)) same (own_leaves pages at tables item (L.kind item) told own)
  doubt_leaves pages at tables None (Fault device count (Append told)) change is own = absurd own
  doubt_leaves pages at tables one what change is own = cc

  module _ (items : Who → Option L.Item) (o : Opening L) (journal : List Line) (rules : AtEach L items (KeepsRules L items o) journal) where
    -- the pages now, behind these lines
    abbrev pages_now : List Line → Pages
    pages_now lines = (page_world o.opened.pages lines).current

    one_more : (oldest : ℕ) (lines : List Line) (line : Line) → WritesNothing oldest line.what → pages_now (lines ++ line ∷ []) ≡ pages_now lines
    one_more oldest lines line nothing =
        ap (λ (w : World Pages). w.current) (page_append o.opened.pages lines (line ∷ [])) ∙ writes_nothing oldest line.what (page_world o.opened.pages lines) nothing

    -- behind a stop they stay
    pages_stay : (before rest : List Line) → journal ≡ before ++ rest → is_some (first_stop before) ≡ true → pages_now journal ≡ pages_now before
    pages_stay before [] whole stop = ap pages_now (whole ∙ append-nil before)
    pages_stay before (line ∷ rest) whole stop =
        pages_stay (before ++ line ∷ []) rest (whole ∙ sym (append_assoc before (line ∷ []) rest)) (stop_stays before line stop) ∙ one_more _ before line ((rules before rest line whole).fault.stopped stop)

    -- and so behind a doubt
    doubt_keeps : (before after : List Line) (line : Line) (change : Change) → journal ≡ before ++ line ∷ after → doubt_of line.what ≡ Some change → pages_now journal ≡ pages_now before
    doubt_keeps before after line change whole is =
        pages_stay (before ++ line ∷ []) after (whole ∙ sym (append_assoc before (line ∷ []) after)) (doubt_stays before line change is) ∙ one_more 0 before line (doubt_writes_nothing 0 line.what change is)

  module _ (items : Who → Option L.Item) where
    -- The change in doubt is that of a line, and the pages behind it and the journal hold the tables behind the line's item.
    pub doubted : (o : Opening L) (ending : Device → ℕ) (journal : List Line) (change : Change) → Lawful L items o ending journal → ShowsAlong L items o.opened.pages o.tables journal
        → doubt_in journal ≡ Some change
        → (before : List Line) × (after : List Line) × (line : Line) × (journal ≡ before ++ line ∷ after) × (doubt_of line.what ≡ Some change)
        × Shows L (changed_world change (page_world o.opened.pages journal)) (behind (after_of L (items line.who) (world L items o.tables before).current) (what_of change) (world L items o.tables journal))
    doubted o ending journal change lawful along is =
        let found = doubted_line journal change is in
        (found.0, found.1, found.2, found.3, found.4, shown found.0 found.1 found.2 found.3 found.4)
      where
        shown : (before after : List Line) (line : Line) → journal ≡ before ++ line ∷ after → doubt_of line.what ≡ Some change
            → Shows L (changed_world change (page_world o.opened.pages journal)) (behind (after_of L (items line.who) (world L items o.tables before).current) (what_of change) (world L items o.tables journal))
        shown before after line whole tells =
            let left = after_of L (items line.who) (world L items o.tables before).current in
            let stay = doubt_keeps items o journal lawful.at_each before after line change whole tells in
            let leaves = doubt_leaves _ _ _ (items line.who) line.what change tells (lawful.at_each before after line whole).doubt in
            shows_behind L (page_world o.opened.pages journal) (world L items o.tables journal) (what_of change) left (along_end L items o.opened.pages o.tables journal along)
            (subst (λ (pages : Pages). Leaves L pages (what_of change) left) (sym stay) leaves)
