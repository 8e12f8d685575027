use Rattle.std.proofs.Common.{◌∙◌, ◌++◌, ap, append-nil, sym}
use Rattle.std.proofs.lemmas.Slice.Zip.{either_empty_from_Zip}
use Rattle.std.specs.Iterator.Adapters.{zip_first, zip_second}
use Rattle.std.specs.Slice.Iter.{iter_rest}
use Rattle.rql.proofs.GroupRows.{no_key}
use Rattle.rql.proofs.groups.key_of.Goals as goal

pub returns : goal.returns
returns c =
    let ended = either_empty_from_Zip c.loop-function.function-iterator c.next.new.self c.next.result c.in-None.is c.next.ensures.steps in
    c.from.ensures
    ∙ sym (append-nil c.loop-function.key.items)
    ∙ ap (λ l. c.loop-function.key.items ++ l) (sym (no_key (iter_rest (zip_first c.loop-function.function-iterator)) (iter_rest (zip_second c.loop-function.function-iterator)) ended))
    ∙ c.loop-function.invariant
