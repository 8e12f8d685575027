use Rattle.std.proofs.Common.{rules, arith, ap, sym, ◌∙◌, ◌≡◌, subst, ℕ, ◌∷◌, [], Some, ◌<◌, ◌+◌, length, length-append}
use Rattle.turn.specs.declared.view.View.{View}
use Rattle.turn.specs.Rule.{IsHorizon}
use Rattle.turn.specs.Seats.{AreNew}
use Rattle.turn.specs.Views.{dealt, fresh, undealt, view}
use Rattle.turn.specs.declared.view.Place.TheVariants.{Outside}
use Rattle.turn.proofs.Cuts.{deals}
use Rattle.turn.proofs.Ends.{first_left, first_right, one_new, starts, undealt_view}
use Rattle.turn.proofs.turn.Turn.new.Goals as goal

pub new-requires : goal.new-requires
new-requires g c =
    rw (c.in-Ok-in_slots.ensures.ok, c.of-first.ensures, c.held.ensures) (starts g.A.Opening.Opening.meaning g.A.DeskValue.meaning g.B.VaultValue.meaning c.args.seats c.args.desk c.args.vault c.word_of.result c.requires.seats c.requires.open
    (subst (IsHorizon c.word_of.result) c.horizon.ensures c.word_of.ensures))

pub split_seat-seat-requires : goal.split_seat-seat-requires
split_seat-seat-requires g c =
    let inv = c.deal.invariant in
    (inv.seated, search rules, deals _ _ _ _ _ _ c.deal.first.me.0 (ap (λ m. m.0.desk) inv.deals) (ap (λ m. m.0.vault) inv.deals))

pub deal-preserved : goal.deal-preserved
deal-preserved g c =
    let inv = c.deal.invariant in
    let i : ℕ = c.deal.number in
    let n : ℕ = c.args.seats in
    let few = c.requires.seats in
    let lt : i < n = omega arith in
    let o : g.row.A-Opening.Denot = g.A.DeskValue.meaning.opening c.args.desk in
    let cut = c.split_seat-seat.ensures in
    let was : c.deal.first.me.0 ≡ undealt_view o i n = ap (λ m. m.0) inv.deals in
    let pushed = c.push_reserved.ensures in
    let z = c.in-Ok-new.made.0.shared.table_id in
    record {
      seated = cut.0 ∙ inv.seated;
      deals = cut.2 ∙ (λ k. ((ap undealt was ∙ first_left o i n lt) k, ap (λ m. m.1) inv.deals k));
      count = ap length pushed.items ∙ (length-append c.deal.all.items _ ∙ ap (λ (k : ℕ). k + 1) inv.count);
      room = (let r = inv.room in let q = pushed.capacity in omega (arith, r, q));
      new = subst (AreNew z o) (sym pushed.items) (one_new z o c.deal.all.items _ inv.new (cut.3 ∙ inv.seated) (let e = inv.count in omega (arith, e, lt, few))
          (cut.4 ∙ ap (λ (v : View _ _ _ _). (v, [])) (ap dealt was ∙ (first_right o i n lt ∙ ap (λ (k : ℕ). view (Some o) Outside Outside [] [] 0 (fresh k ∷ [])) (sym inv.count)))));
    }
