use Rattle.std.proofs.Common.{◌≡◌, ◌≤◌, ◌<◌, ◌∙◌, ◌+◌, ◌-◌, ℕ, Bool, true, false, List, None, Some, drop, eqb, get_or, length, ap, sym, arith}
use Rattle.std.specs.List.{position, remove}
use Rattle.std.proofs.lemmas.Bool.{eq-eqb, eqb-true}
use Rattle.std.proofs.lemmas.List.{get_or-drop, length-drop}
use Rattle.std.proofs.lemmas.List.Quantifiers.{position-Some}
use Rattle.heap_file.proofs.Fronts.{slice_rest}
use Rattle.heap_file.proofs.Positions.{none-at}
use Rattle.heap_file.proofs.Routes.{passed-at, passed-none}
use Rattle.heap_file.proofs.removing.pass.Goals as goal

pub returns-in_err-place : goal.returns-in_err-place
returns-in_err-place c =
    let route = c.args.route in
    let page = c.args.page in
    let same : c.deref.result.now ≡ route = c.deref.ensures.value ∙ c.from-pages.ensures in
    let rest : c.in_ok-get.field-0.now ≡ drop 1 route = rw same at (c.in_ok-get.ensures.lookup.0.2 ∙ slice_rest 1 c.deref.result.now) in
    let none : position (λ other. eqb other page) (drop 1 route) ≡ None = rw rest at (sym c.in_err-place.ensures) in
    let differs : (k d : ℕ) → 1 ≤ k → k < length route → get_or route k d ≡ page → ⊥ = λ k d some lt is.
    let back : 1 + (k - 1) ≡ k = omega arith in
    let here : get_or (drop 1 route) (k - 1) d ≡ page = get_or-drop 1 route (k - 1) d ∙ ap (λ (n : ℕ). get_or route n d) back ∙ is in
    apart (eq-eqb _ _ here) (none-at (λ other. eqb other page) (drop 1 route) none (k - 1) d (omega (arith, length-drop 1 route, lt, some))) in
    rw c.from_residual-in_err-place.ensures (passed-none route page differs)
  where
    apart : {b : Bool} → b ≡ true → b ≡ false → ⊥
    apart p q = absurd cc

pub returns : goal.returns
returns c =
    let route = c.args.route in
    let page = c.args.page in
    let found = c.in_ok-place.field-0 in
    let same : c.deref.result.now ≡ route = c.deref.ensures.value ∙ c.from-pages.ensures in
    let rest : c.in_ok-get.field-0.now ≡ drop 1 route = rw same at (c.in_ok-get.ensures.lookup.0.2 ∙ slice_rest 1 c.deref.result.now) in
    let some : position (λ other. eqb other page) (drop 1 route) ≡ Some found = rw rest at (sym c.in_ok-place.ensures) in
    let at = position-Some (λ other. eqb other page) (drop 1 route) found page some in
    let is : page ≡ get_or route (1 + found) page = sym (sym (get_or-drop 1 route found page) ∙ eqb-true _ _ at.1) in
    passed-at route (1 + found) page c.index-previous.result.now c.from.result (omega arith) (omega (arith, at.0, length-drop 1 route)) is
    (rw c.from-pages.ensures at c.index-previous.ensures)
    (c.from.ensures ∙ c.remove.ensures.items ∙ ap (λ (l : List ℕ). remove l (1 + found)) c.from-pages.ensures)
