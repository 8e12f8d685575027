-- A stack seen from its top.
use Rattle.std.proofs.Common.{◌≡◌, ◌∙◌, List, [], ◌∷◌, ◌++◌, flat_map, ap}
use Rattle.std.proofs.lemmas.List.{reverse-append}
use Rattle.sql_grammar.specs.declared.machine.Left.{Left}
use Rattle.sql_grammar.specs.Expected.{left}

pub above : (new old : List Left) (l : Left) → new ≡ old ++ l ∷ [] → left new ≡ l.next ∷ (l.rest.now ++ left old)
above new old l e = ap left e ∙ ap (flat_map (λ l. l.next ∷ l.rest.now)) (reverse-append old (l ∷ []))
