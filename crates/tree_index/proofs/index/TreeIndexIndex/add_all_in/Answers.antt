use Rattle.std.proofs.Common.{◌≡◌, ◌-◌, ◌∙◌, ℕ, List, Ok, Err, drop, length, length-drop, take, ap, arith, subst, sym}
use Rattle.std.proofs.Math.Seq.{take-add, take-length}
use Rattle.std.proofs.lemmas.List.{take-append-drop}
use Rattle.std.proofs.lemmas.Result.{err_from_is_err_and}
use Rattle.pager.proofs.Stops.{allowed_stop}
use Rattle.pager.proofs.Turns.{in_turn-join}
use Rattle.pager.specs.Allows.{in_turn}
use Rattle.pager.specs.Draft.{drafted}
use Rattle.pager.specs.Pages.{Pages}
use Rattle.pager.specs.declared.index.Found.{Found}
use Rattle.tree_index.specs.Work.{added}
use Rattle.tree_index.proofs.index.TreeIndexIndex.add_all_in.Goals as goal

-- all that is left behind some
rest-is : (n : ℕ) (xs : List Found) → take (length xs - n) (drop n xs) ≡ drop n xs
rest-is n xs = ap (λ (k : ℕ). take k (drop n xs)) (sym (length-drop n xs)) ∙ take-length (drop n xs)

pub returns-in_err-done-clause-added : goal.returns-in_err-done-clause-added
returns-in_err-done-clause-added g c = λ base shown told.
    let p = err_from_is_err_and c.from_residual.result c.from_residual.ensures.1 in
    let inv = c.runs.invariant in
    let size = c.args.draft.now.size in
    let root = c.args.self.now.root in
    let found = c.args.found.now in
    let done = c.runs.done in
    let pages : Pages = drafted shown c.args.draft.now.list in
    let mid : Pages = drafted shown c.runs.draft.list in
    rw (p.1, p.2)
    (allowed_stop c.in_err-done.field-0.0
    (λ why h.
    let rest = subst (λ (n : ℕ). in_turn (added n root) (drop done found) mid (Err why)) inv.draft_size (subst (λ (l : List Found). in_turn (added c.runs.draft.size root) l mid (Err why)) (rest-is done found) h) in
    subst (λ (l : List Found). in_turn (added size root) l pages (Err why)) (take-append-drop done found)
    (in_turn-join (added size root) (take done found) (drop done found) pages mid (Err why) (inv.done_is base shown (c.in_err-done.ensures.only_drafts.narrows base shown told)) rest))
    (c.in_err-done.ensures.added base shown told))

pub runs-preserved : goal.runs-preserved
runs-preserved g c =
    let inv = c.runs.invariant in
    let drafts = c.in_ok-done.ensures.only_drafts in
    let size = c.args.draft.now.size in
    let root = c.args.self.now.root in
    let found = c.args.found.now in
    let done = c.runs.done in
    let run = c.in_ok-done.field-0 in
    record {
      among = omega (arith, c.in_ok-done.ensures.run.1, ap length (rest-is done found), length-drop done found, inv.among);
      done_is = λ base shown told.
          let pages : Pages = drafted shown c.args.draft.now.list in
          let mid : Pages = drafted shown c.runs.draft.list in
          let after : Pages = drafted shown c.add_run.new.draft.list in
          let h : in_turn (added c.runs.draft.size root) (take run (take (length found - done) (drop done found))) mid (Ok (tt, after)) = c.in_ok-done.ensures.added base shown told in
          let rest = subst (λ (n : ℕ). in_turn (added n root) (take run (drop done found)) mid (Ok (tt, after))) inv.draft_size (subst (λ (l : List Found). in_turn (added c.runs.draft.size root) (take run l) mid (Ok (tt, after))) (rest-is done found) h) in
          subst (λ (l : List Found). in_turn (added size root) l pages (Ok (tt, after))) (sym (take-add done run found))
          (in_turn-join (added size root) (take done found) (take run (drop done found)) pages mid (Ok (tt, after)) (inv.done_is base shown (drafts.narrows base shown told)) rest);
      draft_size = c.in_ok-done.ensures.size ∙ inv.draft_size;
      narrows = λ base shown told. inv.narrows base shown (drafts.narrows base shown told);
      goes = g.met.P.Pager.goes_on _ _ _ inv.goes drafts.goes_on;
      size = drafts.size_stays ∙ inv.size;
      steady = drafts.cause ∙ inv.steady;
    }
