-- Each step of the desk keeps what holds of it.
use Rattle.std.proofs.Common.{◌≡◌, ◌⊎◌, inl, inr, ◌≤◌, ◌<◌, ◌+◌, ◌∙◌, ℕ, true, false, eqb, List, [], ◌∷◌, ◌++◌, length, get_or, refl, sym, ap, subst, arith}
use Rattle.std.proofs.lemmas.Bool.{cases_lt, cases_eq, eq-eqb, ne_eqb, cond-true, cond-false, or_parts, or_cases, both_ways}
use Rattle.std.proofs.lemmas.List.{append-nil}
use Rattle.history.specs.declared.entry.Change.{Change}
use Rattle.history.specs.declared.writes.PageImage.{PageImage}
use Rattle.history.specs.Right.{MayFollow}
use Rattle.history.specs.History.{State, now, captures_of, with_change}
use Rattle.history.proofs.Captures.{now-with}
use Rattle.history.specs.declared.log.Log.{Log}
use Rattle.replay.specs.Opened.{Contents, forgotten}
use Rattle.race_model.specs.Desk.{Doubt, Sure, OneMore, NewBase, Desk, behind, captured, log_from, IsInDoubt, IsLogOf, ArePagesOf, writes_page}
use Rattle.race_model.specs.Fits.{WasSent, DoubtFits, DeskFits}
use Rattle.race_model.specs.Machine.{changed, change_failed, acked_to, MayWrite, with_page, written_desk, write_failed, settled, stopped, MayCut, cut, cut_failed}
use Rattle.race_model.specs.Images.{HoldsCaptures, OpenTo, OpenInDoubt}
use Rattle.race_model.proofs.Alike.{unchanged, is_written-append, is_written-last}
use Rattle.race_model.proofs.Histories.{keeps_newest, count_with, fits_with}
use Rattle.race_model.proofs.LogKeeps.{counts, log_with, log_cut}
use Rattle.race_model.proofs.Opening.{ImageFits, captured_behind, opens}
use Rattle.race_model.proofs.Grows.{sent_with, sent_up, holds_with}

-- a desk that goes on is in no doubt
calm : (desk other : Desk) (doubt : Doubt) → desk.stopped ≡ false → DoubtFits desk doubt → DoubtFits other doubt
calm desk other Sure goes f = tt
calm desk other (OneMore change) goes f = absurd (both_ways desk.stopped goes f.1)
calm desk other (NewBase version) goes f = absurd (both_ways desk.stopped goes f.2)

module _ (desk : Desk) (f : DeskFits desk) where
  pub change_keeps : (change : Change) → desk.stopped ≡ false → MayFollow (now desk.history).base change → DeskFits (changed desk change)
  change_keeps change goes may = record {
    history = fits_with desk.history desk.floor f.history change may;
    log = log_with desk.history desk.floor f.history desk.past desk.rest f.log change may;
    known = f.known;
    based = f.based;
    pages = λ page. elim (f.pages page) [ inl same ↦ inl same | inr sent ↦ inr (sent_with (behind desk.history desk.past) change desk.rest desk.need page sent) ];
    clean = λ page h.
        f.clean page (or_parts (desk.dirty page) (writes_page page change) h).0
        ∙ sym (unchanged (now desk.history).pages change page (or_parts (desk.dirty page) (writes_page page change) h).1)
        ∙ ap (λ (s : State). s.pages page) (sym (now-with desk.history change));
    soiled = λ page h. elim (or_cases (desk.dirty page) (writes_page page change) h) [
      | inl had ↦ is_written-append page desk.rest (change ∷ []) (f.soiled page had)
      | inr here ↦ is_written-last page desk.rest change here
    ];
    needed = f.needed;
    pending = omega (arith, f.pending, count_with desk.history f.history.consistent change (keeps_newest (now desk.history).base change may.right));
    doubt = calm desk (changed desk change) desk.doubt goes f.doubt;
  }

  pub change_failed_keeps : (change : Change) → MayFollow (now desk.history).base change → DeskFits (change_failed desk change)
  change_failed_keeps change may = record {
    history = f.history;
    log = f.log;
    known = f.known;
    based = f.based;
    pages = f.pages;
    clean = f.clean;
    soiled = f.soiled;
    needed = f.needed;
    pending = f.pending;
    doubt = (may, refl);
  }

  pub ack_keeps : (count : ℕ) → count ≤ (now desk.history).base.captures → DeskFits (acked_to desk count)
  ack_keeps count le = record {
    history = f.history;
    log = f.log;
    known = f.known;
    based = f.based;
    pages = f.pages;
    clean = f.clean;
    soiled = f.soiled;
    needed = omega (arith, f.needed);
    pending = omega (arith, f.pending, le);
    doubt = same desk.doubt f.doubt;
  } where
    same : (doubt : Doubt) → DoubtFits desk doubt → DoubtFits (acked_to desk count) doubt
    same Sure h = tt
    same (OneMore change) h = h
    same (NewBase version) h = h

  pub stop_keeps : DeskFits (stopped desk)
  stop_keeps = record {
    history = f.history;
    log = f.log;
    known = f.known;
    based = f.based;
    pages = f.pages;
    clean = f.clean;
    soiled = f.soiled;
    needed = f.needed;
    pending = f.pending;
    doubt = same desk.doubt f.doubt;
  } where
    same : (doubt : Doubt) → DoubtFits desk doubt → DoubtFits (stopped desk) doubt
    same Sure h = tt
    same (OneMore change) h = (h.0, refl)
    same (NewBase version) h = (h.0, h.1, refl)

  pub settle_keeps : desk.stopped ≡ false → DeskFits (settled desk)
  settle_keeps goes = record {
    history = f.history;
    log = f.log;
    known = f.known;
    based = f.based;
    pages = λ page. elim (f.pages page) [ inl same ↦ inl (refl, same.1) | inr sent ↦ inr sent ];
    clean = f.clean;
    soiled = f.soiled;
    needed = f.needed;
    pending = f.pending;
    doubt = calm desk (settled desk) desk.doubt goes f.doubt;
  }

  -- a page that may be written may be lost
  may_go : (page need : ℕ) → MayWrite desk page need → WasSent (behind desk.history desk.past) desk.rest need page
  may_go page need can =
      let first : ℕ = (behind desk.history desk.past).base.captures in
      record {
        early = desk.rest;
        late = [];
        split = append-nil desk.rest;
        written = f.soiled page can.soiled;
        below = λ place lt e. elim (cases_lt (first + place) (length desk.history.held)) [
          | inl held ↦ omega (arith, held, f.known, can.up)
          | inr later ↦
              can.below (first + place) (omega (arith, counts desk.history desk.past desk.rest f.log.split, lt))
              (ap (λ (i : PageImage). i.page) (captured_behind desk.history desk.past desk.rest f.history.consistent.counted f.log.split (first + place) (omega arith) later)
              ∙ ap (λ n. (get_or (captures_of (behind desk.history desk.past) desk.rest) n forgotten).page) (omega arith) ∙ e)
        ];
      }

  pages_written : (page need : ℕ) (left : List ℕ) → MayWrite desk page need → (other : ℕ)
      → ((with_page desk.loose page true other ≡ false) × (with_page desk.pages page left other ≡ (behind desk.history desk.past).pages other)) ⊎ WasSent (behind desk.history desk.past) desk.rest need other
  pages_written page need left can other = elim (cases_eq other page) [
    | inl is ↦ inr (subst (λ p. WasSent (behind desk.history desk.past) desk.rest need p) (sym is) (may_go page need can))
    | inr differs ↦ elim (f.pages other) [
      | inl same ↦ inl (cond-false (eqb other page) true (desk.loose other) (ne_eqb other page differs) ∙ same.0, cond-false (eqb other page) left (desk.pages other) (ne_eqb other page differs) ∙ same.1)
      | inr sent ↦ inr (sent_up (behind desk.history desk.past) desk.rest desk.need need other can.up sent)
    ]
  ]

  pub write_keeps : (page need : ℕ) → MayWrite desk page need → DeskFits (written_desk desk page need)
  write_keeps page need can = record {
    history = f.history;
    log = f.log;
    known = omega (arith, f.known, can.up);
    based = omega (arith, f.based, can.up);
    pages = pages_written page need ((now desk.history).pages page) can;
    clean = λ other h. elim (cases_eq other page) [
      | inl is ↦ cond-true (eqb other page) ((now desk.history).pages page) (desk.pages other) (eq-eqb other page is) ∙ ap (now desk.history).pages (sym is)
      | inr differs ↦ cond-false (eqb other page) ((now desk.history).pages page) (desk.pages other) (ne_eqb other page differs) ∙ f.clean other (sym (cond-false (eqb other page) false (desk.dirty other) (ne_eqb other page differs)) ∙ h)
    ];
    soiled = λ other h. elim (cases_eq other page) [
      | inl is ↦ absurd (both_ways (with_page desk.dirty page false other) (cond-true (eqb other page) false (desk.dirty other) (eq-eqb other page is)) h)
      | inr differs ↦ f.soiled other (sym (cond-false (eqb other page) false (desk.dirty other) (ne_eqb other page differs)) ∙ h)
    ];
    needed = can.acked;
    pending = f.pending;
    doubt = calm desk (written_desk desk page need) desk.doubt can.goes f.doubt;
  }

  pub write_failed_keeps : (page need : ℕ) (left : List ℕ) → MayWrite desk page need → DeskFits (write_failed desk page need left)
  write_failed_keeps page need left can = record {
    history = f.history;
    log = f.log;
    known = omega (arith, f.known, can.up);
    based = omega (arith, f.based, can.up);
    pages = pages_written page need left can;
    clean = λ other h. elim (cases_eq other page) [
      | inl is ↦ absurd (both_ways (desk.dirty page) (ap desk.dirty (sym is) ∙ h) can.soiled)
      | inr differs ↦ cond-false (eqb other page) left (desk.pages other) (ne_eqb other page differs) ∙ f.clean other h
    ];
    soiled = f.soiled;
    needed = can.acked;
    pending = f.pending;
    doubt = calm desk (write_failed desk page need left) desk.doubt can.goes f.doubt;
  }

  pub cut_keeps : MayCut desk → DeskFits (cut desk)
  cut_keeps can = record {
    history = f.history;
    log = log_cut desk.history desk.floor f.history;
    known = f.history.consistent.known;
    based = omega arith;
    pages = λ page. inl ((can.clean page).1, f.clean page (can.clean page).0);
    clean = f.clean;
    soiled = λ page h. absurd (both_ways (desk.dirty page) (can.clean page).0 h);
    needed = omega (arith, can.acked);
    pending = f.pending;
    doubt = calm desk (cut desk) desk.doubt can.goes f.doubt;
  }

  pub cut_failed_keeps : MayCut desk → DeskFits (cut_failed desk)
  cut_failed_keeps can = record {
    history = f.history;
    log = f.log;
    known = f.history.consistent.known;
    based = omega (arith, f.based, f.needed, f.pending);
    pages = λ page. elim (f.pages page) [ inl same ↦ inl same | inr sent ↦ inr (sent_up (behind desk.history desk.past) desk.rest desk.need (now desk.history).base.captures page (omega (arith, f.needed, f.pending)) sent) ];
    clean = f.clean;
    soiled = f.soiled;
    needed = omega (arith, can.acked);
    pending = f.pending;
    doubt = (λ page. ((can.clean page).1, f.clean page (can.clean page).0), omega arith, refl);
  }

  -- ---- what it may do

  pub may_write_back : (page : ℕ) → desk.stopped ≡ false → desk.dirty page ≡ true
      → ((number : ℕ) → desk.acked ≤ number → number < (now desk.history).base.captures → (captured desk.history number).page ≡ page → ⊥) → MayWrite desk page desk.acked
  may_write_back page goes soiled none = record {
    goes = goes;
    soiled = soiled;
    below = λ number lt is. elim (cases_lt number desk.acked) [ inl below ↦ below | inr from ↦ absurd (none number from lt is) ];
    up = f.needed;
    acked = omega arith;
  }

  pub may_cut_settled : desk.stopped ≡ false → ((page : ℕ) → desk.dirty page ≡ false) → (now desk.history).base.captures ≤ desk.acked → MayCut (settled desk)
  may_cut_settled goes clean all = record { goes = goes; clean = λ page. (clean page, refl); acked = omega (arith, all, f.pending) }

  -- ---- its images

  module _ (contents : Contents) (is_log : IsLogOf desk contents.log) (are_pages : ArePagesOf desk contents.pages) (holds : HoldsCaptures desk.history desk.floor desk.need contents.mappings contents.slots) where
    here : (page : ℕ) → ImageFits desk.history desk.past desk.rest desk.need contents.pages page
    here page = elim (f.pages page) [ inl same ↦ inl (are_pages page same.0 ∙ same.1) | inr sent ↦ inr sent ]

    with_log : Log → Contents
    with_log log = record { log = log; pages = contents.pages; mappings = contents.mappings; slots = contents.slots }

    surely : contents.log ≡ log_from desk.version desk.history desk.past desk.rest → OpenTo contents desk.version desk.history
    unfolding with_log
    surely e =
        subst (λ (log : Log). OpenTo (with_log log) desk.version desk.history) (sym e)
        (opens desk.version desk.history desk.floor desk.past desk.rest desk.need contents.pages contents.mappings contents.slots f.history f.log f.known f.based here holds)

    pub desk_opens : OpenInDoubt contents desk desk.doubt
    unfolding with_log
    desk_opens = go desk.doubt f.doubt is_log where
      go : (doubt : Doubt) → DoubtFits desk doubt → (contents.log ≡ log_from desk.version desk.history desk.past desk.rest) ⊎ IsInDoubt desk doubt contents.log → OpenInDoubt contents desk doubt
      go Sure h (inl e) = surely e
      go Sure h (inr never) = absurd never
      go (NewBase version) h (inl e) = inl (surely e)
      go (NewBase version) h (inr e) =
          inr (subst (λ (log : Log). OpenTo (with_log log) version desk.history) (sym e)
          (opens version desk.history desk.floor desk.history.changes [] desk.need contents.pages contents.mappings contents.slots f.history (log_cut desk.history desk.floor f.history) f.known h.1
          (λ page. inl (are_pages page (h.0 page).0 ∙ (h.0 page).1)) holds))
      go (OneMore change) h (inl e) = inl (surely e)
      go (OneMore change) h (inr e) =
          inr (subst (λ (log : Log). OpenTo (with_log log) desk.version (with_change desk.history change)) (sym e)
          (opens desk.version (with_change desk.history change) desk.floor desk.past (desk.rest ++ change ∷ []) desk.need contents.pages contents.mappings contents.slots (fits_with desk.history desk.floor f.history change h.0)
          (log_with desk.history desk.floor f.history desk.past desk.rest f.log change h.0) f.known f.based
          (λ page. elim (here page) [ inl same ↦ inl same | inr sent ↦ inr (sent_with (behind desk.history desk.past) change desk.rest desk.need page sent) ])
          (holds_with desk.history desk.floor f.history change h.0 desk.need contents.mappings contents.slots holds)))
