use Rattle.std.proofs.Common.{◌≡◌, ◌∙◌, ◌<◌, ◌^◌, ◌++◌, [], ◌∷◌, ℕ, List, length, sym, ap, subst}
use Rattle.retro_base.specs.Framing.{sized}
use Rattle.gate_log.proofs.Framing.{unframed}
use Rattle.gate_log.proofs.framed.FramedBuilder.finish.Goals as goal

pub invariant_of-result : goal.invariant_of-result
invariant_of-result c =
    let framing : c.push.new.self.items ≡ sized c.args.self ++ 0 ∷ [] =
    c.in_ok-push.ensures.items ∙ ap (λ (l : List ℕ). l ++ 0 ∷ []) (c.put_length.ensures ∙ ap sized c.self.view_is) in
    let is = unframed c.args.self c.push.new.self.items framing in
    record {
      framing = framing ∙ ap (λ (l : List ℕ). sized l ++ 0 ∷ []) (sym is);
      short = subst (λ (l : List ℕ). length l < 2 ^ 32) (sym is) c.requires;
    }

pub returns-clause-ok : goal.returns-clause-ok
returns-clause-ok c =
    let framing : c.push.new.self.items ≡ sized c.args.self ++ 0 ∷ [] =
    c.in_ok-push.ensures.items ∙ ap (λ (l : List ℕ). l ++ 0 ∷ []) (c.put_length.ensures ∙ ap sized c.self.view_is) in
    unframed c.args.self c.push.new.self.items framing
