use Rattle.std.proofs.Common.{rules, arith, refl, ap, sym, ◌∙◌, ◌≡◌, subst, List, ◌∷◌, [], ◌++◌, append-nil, append_assoc, length}
use Rattle.turn.specs.declared.view.View.{View}
use Rattle.turn.specs.Rule.{told_times}
use Rattle.turn.specs.Seats.{AreWhole, Covers, told_to}
use Rattle.turn.specs.Views.{joined, parts_of}
use Rattle.turn.proofs.Cuts.{enters, gathers}
use Rattle.turn.proofs.Ends.{covers_one, parts_joined, parts_whole, told_joined, told_one, whole_front, whole_last}
use Rattle.turn.proofs.turn.Turn.gather.Goals as goal

pub load_new_seat-all-requires : goal.load_new_seat-all-requires
load_new_seat-all-requires g c = (search rules, enters _ _ _ _ _ _ _)

pub gather-init : goal.gather-init
gather-init g c =
    let new = c.load_new_seat-all.ensures in
    record {
      seated = new.0;
      outside = (ap (λ (v : View _ _ _ _). v.desk) new.2, ap (λ (v : View _ _ _ _). v.vault) new.2, new.1);
      rest = c.requires;
      done = ([], sym (append-nil c.args.seats.items), ap parts_of new.2, (λ d k. ap (told_times d k) new.2), λ x y k i s e. absurd (cc));
    }

pub join_seat-requires : goal.join_seat-requires
join_seat-requires g c =
    let inv = c.gather.invariant in
    let all = subst (AreWhole c.args.self.now.table.shared.table_id) c.in-Some.ensures.items inv.rest in
    let last = whole_last c.args.self.now.table.shared.table_id c.pop.new.self.items c.in-Some.last all in (
      inv.seated,
      last.0.seat.table,
      last.0.slots,
      search rules,
      gathers _ _ _ _ _ _ _ c.gather.all.me.0 c.in-Some.last.seat.me.0 inv.outside.0 inv.outside.1 last.0.desk last.0.vault,
    )

pub gather-preserved : goal.gather-preserved
gather-preserved g c =
    let inv = c.gather.invariant in
    let z = c.args.self.now.table.shared.table_id in
    let left = c.pop.new.self.items in
    let s = c.in-Some.last in
    let all = subst (AreWhole z) c.in-Some.ensures.items inv.rest in
    let last = whole_last z left s all in
    let j = c.join_seat.ensures in
    let now : c.join_seat.new.seat.me.0 ≡ joined c.gather.all.me.0 s.seat.me.0 = ap (λ m. m.0) j.2 in
    let d = inv.done in
    let parts = parts_joined c.gather.all.me.0 s.seat.me.0 in
    let here = d.2 in
    let one = parts_whole z s last.0 last.1 in
    record {
      seated = j.0 ∙ inv.seated;
      outside = (ap (λ (v : View _ _ _ _). v.desk) now ∙ inv.outside.0, ap (λ (v : View _ _ _ _). v.vault) now ∙ inv.outside.1, ap (λ m. m.1) j.2 ∙ inv.outside.2);
      rest = whole_front z left (s ∷ []) all;
      done = (
        s ∷ d.0,
        d.1 ∙ (ap (λ xs. xs ++ d.0) c.in-Some.ensures.items ∙ append_assoc left (s ∷ []) d.0),
        ap parts_of now ∙ omega (arith, parts, here, one),
        (λ x k. let sum = told_joined x k c.gather.all.me.0 s.seat.me.0 in let mine = told_one z x k s last.0 in let before = d.3 x k in ap (told_times x k) now ∙ omega (arith, sum, mine, before)),
        subst (λ (v : View _ _ _ _). Covers g.A.Opening.Opening.meaning g.A.DeskValue.meaning g.B.VaultValue.meaning v (s ∷ d.0)) (sym now) (covers_one _ _ _ z c.gather.all.me.0 s d.0 inv.outside.0 inv.outside.1 last.0 d.4),
      );
    }

nothing : {A : Type 0} (xs : List A) → length xs ≡ 0 → xs ≡ []
nothing [] e = refl
nothing (x ∷ xs) e = absurd (omega arith)

pub returns-clause-covers : goal.returns-clause-covers
returns-clause-covers g c =
    let d = c.gather.invariant.done in
    let z = c.in_default.ensures.cases in
    let left = nothing c.gather.seats.items (omega (arith, z.0)) in
    subst (Covers g.A.Opening.Opening.meaning g.A.DeskValue.meaning g.B.VaultValue.meaning c.gather.all.me.0) (sym (d.1 ∙ ap (λ xs. xs ++ d.0) left)) d.4

pub returns-clause-told : goal.returns-clause-told
returns-clause-told g c =
    let d = c.gather.invariant.done in
    let z = c.in_default.ensures.cases in
    let left = nothing c.gather.seats.items (omega (arith, z.0)) in
    λ x k. d.3 x k ∙ ap (told_to x k) (sym (d.1 ∙ ap (λ xs. xs ++ d.0) left))
