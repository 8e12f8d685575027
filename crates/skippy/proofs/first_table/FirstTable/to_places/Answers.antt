use Rattle.std.proofs.Common.{◌≡◌, ◌∙◌, ◌+◌, ◌-◌, ◌^◌, ◌≤◌, ◌<◌, ◌++◌, ◌∷◌, [], ℕ, List, All, map, sym, ap, subst, arith}
use Rattle.std.proofs.lemmas.List.{map-append}
use Rattle.std.proofs.lemmas.List.Elements.{All-head, All-rest}
use Rattle.std.specs.Map.Iter.{deref_pair}
use Rattle.skippy.specs.Segments.{from_start}
use Rattle.skippy.proofs.first_table.FirstTable.to_places.Goals as goal

pub loop-page-preserved : goal.loop-page-preserved
loop-page-preserved c =
    let entry : ℕ × ℕ = (c.in-Some.page.now, c.in-Some.number.now) in
    let all : All (λ e. (c.args.start ≤ e.1) × (e.1 < c.args.start + 2 ^ 32)) (entry ∷ c.next.new.self)
    = subst (λ es. All (λ e. (c.args.start ≤ e.1) × (e.1 < c.args.start + 2 ^ 32)) es) c.in-Some.ensures.steps c.loop-page.invariant.rest in
    let above : c.args.start ≤ c.in-Some.number.now = (All-head (λ e. (c.args.start ≤ e.1) × (e.1 < c.args.start + 2 ^ 32)) entry c.next.new.self all).0 in
    let number : c.args.start + (c.in-Some.number.now - c.args.start) ≡ c.in-Some.number.now = omega arith in
    record {
      made =
          ap (from_start c.args.start) c.in_ok-push.ensures.ok
          ∙ map-append (λ (e : ℕ × ℕ). (e.0, c.args.start + e.1)) c.loop-page.places ((c.in-Some.page.now, c.in-Some.number.now - c.args.start) ∷ [])
          ∙ ap (λ n. from_start c.args.start c.loop-page.places ++ (c.in-Some.page.now, n) ∷ []) number
          ∙ ap (λ es. es ++ entry ∷ []) c.loop-page.invariant.made
          ∙ sym (map-append deref_pair c.loop-page.yielded ((c.in-Some.page, c.in-Some.number) ∷ []));
      rest = All-rest (λ e. (c.args.start ≤ e.1) × (e.1 < c.args.start + 2 ^ 32)) entry c.next.new.self c.loop-page.page-iterator c.in-Some.ensures.steps c.loop-page.invariant.rest;
    }
