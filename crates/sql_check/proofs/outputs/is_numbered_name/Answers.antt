use Rattle.std.proofs.Common.{◌≡◌, ◌∙◌, List, ◌++◌, Some, refl, sym}
use Rattle.std.specs.Prelude.{codes}
use Rattle.std.specs.Cmp.{unsigned_Decides}
use Rattle.std.proofs.lemmas.Slice.Eq.{strip_prefix_is}
use Rattle.sql_check.proofs.outputs.is_numbered_name.Goals as goal

pub returns-in-Some : goal.returns-in-Some
returns-in-Some c =
    let is : c.bytes.result.now ≡ codes "col" ++ c.in-Some.digits.now = strip_prefix_is unsigned_Decides c.bytes.result.now (codes "col") (Some c.in-Some.digits) c.in-Some.ensures.cases in
    let name : c.args.name.now ≡ codes "col" ++ c.in-Some.digits.now = sym c.bytes.ensures.value ∙ is in
    c.eq.ensures ∙ rw (c.as_bytes.ensures.value, c.format.ensures.text, name) refl
