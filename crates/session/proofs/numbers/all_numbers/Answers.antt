use Rattle.std.proofs.Common.{◌≡◌, ℕ, List, rules, subst, sym, true}
use Rattle.std.specs.List.{AllByRecursion}
use Rattle.session.specs.Calls.{is_retained, marked_numbers}
use Rattle.session.proofs.ListedAll.{all_retained}
use Rattle.session.proofs.Rising.{rising_within}
use Rattle.session.proofs.numbers.all_numbers.Goals as goal

pub returns-clause-retained : goal.returns-clause-retained
returns-clause-retained c =
    let listed : c.in_ok-numbers.numbers.items ≡ marked_numbers c.args.marks.now = search rules in
    subst (λ (numbers : List ℕ). AllByRecursion (λ (number : ℕ). is_retained number c.args.marks.now ≡ true) numbers) (sym listed) (all_retained c.args.marks.now (rising_within c.args.marks.now c.requires.rising))
