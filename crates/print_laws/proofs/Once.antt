-- A sentence says one thing.
use Rattle.std.proofs.Common.{◌≡◌, ◌∙◌, ◌++◌, inl, List, [], ◌∷◌, refl, sym, ap, subst}
use Rattle.sql_lexer.specs.declared.token.Token.{Token}
use Rattle.sql_grammar.specs.declared.grammar.Class.TheVariants.{End}
use Rattle.sql_parts.specs.declared.action.Op.{Op}
use Rattle.sql_parts.specs.declared.action.Op.TheVariants.{Act}
use Rattle.sql_grammar.specs.declared.grammar.Rule.TheVariants as rule
use Rattle.sql_grammar.specs.declared.grammar.Symbol.{Symbol}
use Rattle.sql_grammar.specs.declared.grammar.Symbol.TheVariants.{Use}
use Rattle.sql_grammar.specs.Derivation.{Derives, Done, Taken, Emitted, Replaced}
use Rattle.sql_grammar.specs.Grammar.{content_of}
use Rattle.sql_grammar.specs.Machine.{IsFine}
use Rattle.sql_grammar.proofs.Steps.{begins, done, emitted, replaced, taken}
use Rattle.sql_grammar.proofs.Tables.{fine_side, is_chosen}
use Rattle.sql_parts.specs.declared.parsed.Parsed.{Parsed}
use Rattle.sql_build.specs.Built.{built}
use Rattle.sql_text.specs.Line.{Says}
use Rattle.sql_parts.proofs.Common.{some_injective}

same_ops : {ss : List Symbol} {ts : List Token} {os : List Op} → Derives ss ts os → IsFine ss → (others : List Op) → Derives ss ts others → others ≡ os
same_ops Done fine others e = (done e).1
same_ops (Taken {k} {ss} {t} {ts} {os} q o d) fine others e =
    let r = taken e in
    r.1.1 ∙ ap (λ x. content_of t ++ x) (same_ops d fine.1 r.1.0 r.1.2) ∙ sym o
same_ops (Emitted {a} d) fine others e =
    let r = emitted e in
    r.1 ∙ ap (λ x. Act a ∷ x) (same_ops d fine r.0 r.2)
same_ops (Replaced {r} side {ss} {ts} {os} i d) fine others e =
    let x = replaced e in
    let same : x.0 ≡ side = sym (is_chosen r ss x.0 ts others fine x.1 x.2) ∙ is_chosen r ss side ts os fine i d in
    let P : List Symbol → Type 0 = λ s. Derives (s ++ ss) ts others in
    same_ops d (fine_side r ss side fine i) others (subst P same x.2)

pub says_once : (ts : List Token) (p q : Parsed) → Says ts p → Says ts q → q ≡ p
says_once ts p q a b =
    let fine : IsFine (Use rule.Sentence ∷ []) = ((begins rule.Sentence (inl refl)) End).fine in
    some_injective (sym b.2 ∙ ap built (same_ops a.1 fine b.0 b.1) ∙ a.2)
