use Rattle.std.proofs.Common.{◌≡◌, ◌∙◌, ◌&&◌, List, ℕ, length, sym, ap, arith}
use Rattle.std.proofs.lemmas.Bool.{and_parts, and_from}
use Rattle.history.specs.Writes.{is_among}
use Rattle.replay.specs.Joined.{are_among, differ, mapped_since}
use Rattle.replay.proofs.joining.holds_base.Goals as goal

pub returns : goal.returns
returns c =
    let base = c.args.base.now in
    let mappings = c.args.mappings.now in
    let since : List ℕ = mapped_since base mappings in
    let few = ap (λ (l : List ℕ). length l) c.pages.ensures in
    let same : c.meets_each_once.result ≡ (differ since && are_among since base.captured) =
    c.meets_each_once.ensures base.captured (λ page. c.in_ok-table.ensures page ∙ ap (is_among page) c.as_slice.ensures) ∙ ap (λ (l : List ℕ). differ l && are_among l base.captured) c.mapped_since.ensures in (
      λ t. let both = and_parts (differ since) (are_among since base.captured) (sym same ∙ t) in record { counted = omega arith; room = omega (arith, few); different = both.0; captured = both.1 },
      λ h. same ∙ and_from (differ since) (are_among since base.captured) h.different h.captured,
    )
