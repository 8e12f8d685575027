use Rattle.std.proofs.Common.{◌≡◌, ◌∙◌, ◌+◌, ◌++◌, ◌∷◌, [], ℕ, suc, List, ap, sym, arith, append_assoc}
use Rattle.heap_file.specs.Filling.{placed_from}
use Rattle.heap_file.proofs.Fronts.{placed_from-more}
use Rattle.heap_file.proofs.filling.push_filled.Goals as goal

pub loop-place-preserved : goal.loop-place-preserved
loop-place-preserved c =
    let number = c.args.filled.now.number in
    let page = c.args.filled.now.page in
    let place = c.loop-place.place in
    let spot : ℕ × ℕ = (number + place, page) in
    let one : suc place ≡ place + 1 = omega arith in
    c.in_ok-push.ensures.items ∙ ap (λ (ps : List (ℕ × ℕ)). ps ++ spot ∷ []) c.loop-place.invariant ∙ append_assoc c.args.placed.now.items (placed_from number page place) (spot ∷ []) ∙ ap (λ (ps : List (ℕ × ℕ)). c.args.placed.now.items ++ ps) (sym (placed_from-more number page place) ∙ ap (placed_from number page) one)
