use Rattle.std.proofs.Common.{◌∷◌, ◌∙◌, [], ℕ, Option, Some, Ok, Err, subst, sym}
use Rattle.std.specs.List.{AllByRecursion}
use Rattle.std.proofs.lemmas.Result.{err_from_is_err_and}
use Rattle.pager.specs.Draft.{drafted}
use Rattle.pager.specs.Pages.{Pages}
use Rattle.pager.specs.declared.index.Found.{Found}
use Rattle.tree_index.specs.declared.climb.Climb.{Climb}
use Rattle.tree_index.specs.Marking.{all-left}
use Rattle.tree_index.specs.Walk.{IsStored}
use Rattle.tree_index.specs.Work.{climbed, edited, placed}
use Rattle.tree_index.proofs.Climbed.{edited-err, edited-ok, popped}
use Rattle.pager.proofs.Stops.{allowed_stop}
use Rattle.tree_index.proofs.climb.climb_up.Goals as goal

pub returns-in_err-state-clause-edited : goal.returns-in_err-state-clause-edited
returns-in_err-state-clause-edited g c = λ base shown told.
    let p = err_from_is_err_and c.from_residual.result c.from_residual.ensures.1 in
    let inv = c.up.invariant in
    let met = c.in-Some.met in
    let before : Climb × Pages = (record { edits = c.up.edits; up = Some c.up.up }, drafted shown c.up.draft.list) in
    let whole = popped c.up.way.items c.pop.new.self.items inv.climbing.passed c.args.way.items met c.in-Some.ensures.items inv.climbing.whole_is in
    let pages = drafted shown c.args.draft.now.list in
    rw (p.1, p.2)
    (allowed_stop c.in_err-state.field-0.0
    (λ why h. subst (λ (n : ℕ). edited n c.args.root c.args.entry pages c.args.way.items (Err why)) inv.same
    (edited-err c.up.draft.size c.args.root c.args.entry pages c.args.way.items c.pop.new.self.items inv.climbing.passed met before why whole (inv.climbing.climbed_is base shown (c.in_err-state.ensures.only_drafts.narrows base shown told)) h))
    (c.in_err-state.ensures.placed base shown told))

pub up-preserved : goal.up-preserved
up-preserved g c =
    let inv = c.up.invariant in
    let met = c.in-Some.met in
    let drafts = c.in_ok-state.ensures.only_drafts in
    let state = c.in_ok-state.state in
    let whole = popped c.up.way.items c.pop.new.self.items inv.climbing.passed c.args.way.items met c.in-Some.ensures.items inv.climbing.whole_is in
    let left = all-left (IsStored c.up.draft.size) c.pop.new.self.items (met ∷ []) (subst (AllByRecursion (IsStored c.up.draft.size)) c.in-Some.ensures.items inv.way) in
    record {
      climbing = record {
        passed = met ∷ inv.climbing.passed;
        whole_is = whole;
        climbed_is = λ base shown told.
            let pages = drafted shown c.args.draft.now.list in
            let before : Climb × Pages = (record { edits = c.up.edits; up = Some c.up.up }, drafted shown c.up.draft.list) in
            let here = subst (λ (u : Option Found). placed c.up.draft.size c.args.root met c.up.edits (Some c.up.up) (drafted shown c.up.draft.list) (Ok (record { edits = state.edits; up = u }, drafted shown c.place.new.draft.list))) c.in-Some-up.is (c.in_ok-state.ensures.placed base shown told) in
            subst (λ (f : Found). climbed c.place.new.draft.size c.args.root c.args.entry pages (met ∷ inv.climbing.passed) (Ok (record { edits = state.edits; up = Some f }, drafted shown c.place.new.draft.list))) (sym c.in-Some-up.key-is)
            (subst (λ (n : ℕ). climbed n c.args.root c.args.entry pages (met ∷ inv.climbing.passed) (Ok (record { edits = state.edits; up = Some c.in-Some-up.key }, drafted shown c.place.new.draft.list))) (sym c.in_ok-state.ensures.size)
            (before, inv.climbing.climbed_is base shown (drafts.narrows base shown told), here));
      };
      way = subst (λ (n : ℕ). AllByRecursion (IsStored n) c.pop.new.self.items) (sym c.in_ok-state.ensures.size) left;
      stored = subst (λ (n : ℕ). AllByRecursion (IsStored n) state.edits) (sym c.in_ok-state.ensures.size) c.in_ok-state.ensures.stored;
      same = c.in_ok-state.ensures.size ∙ inv.same;
      narrows = λ base shown told. inv.narrows base shown (drafts.narrows base shown told);
      goes = g.met.P.Pager.goes_on _ _ _ inv.goes drafts.goes_on;
      size = drafts.size_stays ∙ inv.size;
      steady = drafts.cause ∙ inv.steady;
    }

pub returns-in_default-up-clause-edited : goal.returns-in_default-up-clause-edited
returns-in_default-up-clause-edited g c = λ base shown told.
    let inv = c.up.invariant in
    let met = c.in-Some.met in
    let state = c.in_ok-state.state in
    let pages = drafted shown c.args.draft.now.list in
    let before : Climb × Pages = (record { edits = c.up.edits; up = Some c.up.up }, drafted shown c.up.draft.list) in
    let whole = popped c.up.way.items c.pop.new.self.items inv.climbing.passed c.args.way.items met c.in-Some.ensures.items inv.climbing.whole_is in
    let here = subst (λ (u : Option Found). placed c.up.draft.size c.args.root met c.up.edits (Some c.up.up) (drafted shown c.up.draft.list) (Ok (record { edits = state.edits; up = u }, drafted shown c.place.new.draft.list))) c.in_default-up.is (c.in_ok-state.ensures.placed base shown told) in
    subst (λ (n : ℕ). edited n c.args.root c.args.entry pages c.args.way.items (Ok (state.edits, drafted shown c.place.new.draft.list))) inv.same
    (edited-ok c.up.draft.size c.args.root c.args.entry pages c.args.way.items c.pop.new.self.items inv.climbing.passed met before state.edits (drafted shown c.place.new.draft.list) whole (inv.climbing.climbed_is base shown (c.in_ok-state.ensures.only_drafts.narrows base shown told)) here)
