use Rattle.std.proofs.Common.{◌≡◌, ◌∙◌, ℕ, List, ◌++◌, sym, ap, subst, arith}
use Rattle.std.specs.Prelude.{codes}
use Rattle.values.specs.Name.{IsName}
use Rattle.sql_check.specs.Outputs.{numbered_name}
use Rattle.sql_check.proofs.Numbering.{IsName-numbered}
use Rattle.sql_check.proofs.outputs.numbered_name.Goals as goal

pub new-requires : goal.new-requires
new-requires c =
    let front : c.in_ok-bytes.bytes.items ≡ codes "col" = c.in_ok-bytes.ensures.items_if_clones_equal (λ x y e. e) in
    let back = c.as_bytes.ensures.value ∙ c.in_ok-digits.ensures.ok in
    let text : c.from.result ≡ numbered_name c.args.place =
    c.from.ensures ∙ c.in_ok-extend_from_slice.ensures.items ∙ ap (λ (x : List ℕ). x ++ c.as_bytes.result.now) front ∙ ap (λ (x : List ℕ). codes "col" ++ x) back in
    subst IsName (sym text) (IsName-numbered c.args.place (omega arith))
