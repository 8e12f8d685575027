use Rattle.std.proofs.Common.{◌≡◌, ◌∙◌, ◌+◌, ◌++◌, List, ◌∷◌, [], Ok, Err, ap, arith, get_or, inl, length, refl, rules, subst, sym}
use Rattle.std.proofs.lemmas.List.{length_push}
use Rattle.pager.specs.Stop.{AllowedStop}
use Rattle.sql_tree.specs.declared.statement.Column.{Column}
use Rattle.rql.specs.AsOf.{IsOfCall, IsOfSnapshot}
use Rattle.rql.specs.Folding.{IsHeld}
use Rattle.rql.specs.Gathering.{gathered, taken_later}
use Rattle.rql.proofs.Gatherings.{SoFar, among, asks_on, asks_out, gathers_all, gathers_first, gathers_more, gathers_refusal, handed_on, of_snapshot, stops_round}
use Rattle.rql.proofs.gathering.gather.Goals as goal

pub returns-in_err-part-clause-told : goal.returns-in_err-part-clause-told
returns-in_err-part-clause-told g c = λ answers e.
    let held = c.loop-place.invariant.held in
    let said : AllowedStop (λ why. taken_later (g.T.Takes.take c.args.takes.now) (λ snapshot. answers snapshot c.args.query.now) c.in_ok-columns.columns (get_or c.in-Some.later.now c.loop-place.place 0) ≡ Err why) c.in_err-part.field-0.0 =
    c.in_err-part.ensures.told answers (c.loop-place.invariant.told answers e) in
    handed_on (λ found. (found.0, found.1)) (IsHeld (g.T.Takes.holds c.args.takes.now) (length c.args.snapshots.now) (gathered (g.T.Takes.take c.args.takes.now) (λ snapshot. answers snapshot c.args.query.now) c.args.snapshots.now))
    c.from_residual-in_err-part.result c.in_err-part.field-0.0 c.from_residual-in_err-part.ensures
    (stops_round _ _ c.in_err-part.field-0.0 said
    (gathers_refusal (g.T.Takes.take c.args.takes.now) (λ snapshot. answers snapshot c.args.query.now) c.in_ok-columns.columns held.0 c.loop-place.place c.in-Some.later.now c.args.snapshots.now c.columns-2.inside.items.items c.columns-2.view_is (held.3 answers e) (omega arith)))

pub returns-in_err-part-clause-only_asks : goal.returns-in_err-part-clause-only_asks
returns-in_err-part-clause-only_asks g c =
    let here = get_or c.in-Some.later.now c.loop-place.place 0 in
    asks_on g.A.AsOf.may_ask g.A.AsOf.told g.A.AsOf.goes g.A.AsOf.goes_on g.A.AsOf.faults (IsOfSnapshot here) (IsOfCall c.args.snapshots.now)
    (of_snapshot c.args.snapshots.now here (among c.in-Some.first.now c.in-Some.later.now c.args.snapshots.now c.loop-place.place (omega arith) (search rules)))
    c.args.asof.now c.loop-place.asof c.take_later.new.asof
    c.loop-place.invariant.may_ask c.loop-place.invariant.told c.loop-place.invariant.goes c.loop-place.invariant.faults
    c.from_residual-in_err-part.result c.in_err-part.field-0.0 c.from_residual-in_err-part.ensures c.in_err-part.ensures.only_asks

pub returns-in_err-add-2-clause-only_asks : goal.returns-in_err-add-2-clause-only_asks
returns-in_err-add-2-clause-only_asks g c =
    let before = c.loop-place.invariant in
    let asks = c.in_ok-part.ensures.only_asks in
    asks_out g.A.AsOf.may_ask g.A.AsOf.told g.A.AsOf.goes g.A.AsOf.faults (IsOfCall c.args.snapshots.now) c.args.asof.now c.take_later.new.asof
    (asks.may_ask_stays ∙ before.may_ask) (λ answers e. asks.told_stays answers (before.told answers e)) (g.A.AsOf.goes_on _ _ _ before.goes asks.goes_on) (asks.cause ∙ before.faults) (inl tt)
    c.from_residual-in_err-add-2.result c.from_residual-in_err-add-2.ensures.1

pub loop-place-init : goal.loop-place-init
loop-place-init g c =
    let cols = c.columns-2.inside.items.items in
    let Held : List Column → Type 0 = λ l. g.T.Takes.holds c.args.takes.now l c.in_ok-state-2.state [] in
    let seen : c.as_slice-2.result.now ≡ cols = search rules in
    let split : c.args.snapshots.now ≡ c.in-Some.first.now ∷ c.in-Some.later.now = search rules in
    record {
      may_ask = search rules;
      told = search rules;
      goes = search rules;
      faults = search rules;
      held = (
        c.in_ok-columns.part ∷ [],
        refl,
        c.in_ok-add.ensures cols [] refl (subst Held seen c.in_ok-state-2.ensures),
        λ answers e.
            let Begun : List Column → Type 0 = λ l. SoFar (g.T.Takes.take c.args.takes.now) (λ snapshot. answers snapshot c.args.query.now) l (c.in_ok-columns.part ∷ []) 0 c.in-Some.later.now c.args.snapshots.now in
            subst Begun (sym c.columns-2.view_is) (gathers_first (g.T.Takes.take c.args.takes.now) (λ snapshot. answers snapshot c.args.query.now) c.in_ok-columns.columns c.in_ok-columns.part c.in-Some.first.now c.in-Some.later.now c.args.snapshots.now split
            (c.in_ok-columns.ensures.told answers e)),
      );
    }

pub loop-place-preserved : goal.loop-place-preserved
loop-place-preserved g c =
    let held = c.loop-place.invariant.held in
    record {
      may_ask = c.in_ok-part.ensures.only_asks.may_ask_stays ∙ c.loop-place.invariant.may_ask;
      told = λ answers e. c.in_ok-part.ensures.only_asks.told_stays answers (c.loop-place.invariant.told answers e);
      goes = g.A.AsOf.goes_on _ _ _ c.loop-place.invariant.goes c.in_ok-part.ensures.only_asks.goes_on;
      faults = c.in_ok-part.ensures.only_asks.cause ∙ c.loop-place.invariant.faults;
      held = (
        held.0 ++ c.in_ok-part.part ∷ [],
        length_push held.0 c.in_ok-part.part ∙ ap (λ n. n + 1) held.1,
        c.in_ok-add-2.ensures c.columns-2.inside.items.items held.0 held.1 held.2,
        λ answers e.
            let said : taken_later (g.T.Takes.take c.args.takes.now) (λ snapshot. answers snapshot c.args.query.now) c.in_ok-columns.columns (get_or c.in-Some.later.now c.loop-place.place 0) ≡ Ok c.in_ok-part.part =
            c.in_ok-part.ensures.told answers (c.loop-place.invariant.told answers e) in
            gathers_more (g.T.Takes.take c.args.takes.now) (λ snapshot. answers snapshot c.args.query.now) c.in_ok-columns.columns held.0 c.loop-place.place c.in-Some.later.now c.args.snapshots.now c.columns-2.inside.items.items c.columns-2.view_is (held.3 answers e) (omega arith)
            c.in_ok-part.part (held.0 ++ c.in_ok-part.part ∷ []) said refl,
      );
    }

pub returns-clause-told : goal.returns-clause-told
returns-clause-told g c = λ answers e.
    let held = c.loop-place.invariant.held in
    let Held : List Column → Type 0 = λ l. g.T.Takes.holds c.args.takes.now l c.loop-place.state held.0 in
    let split : c.args.snapshots.now ≡ c.in-Some.first.now ∷ c.in-Some.later.now = search rules in (
      held.0,
      omega (arith, ap length split),
      subst Held c.columns-2.view_is held.2,
      gathers_all (g.T.Takes.take c.args.takes.now) (λ snapshot. answers snapshot c.args.query.now) c.in_ok-columns.columns held.0 c.loop-place.place c.in-Some.later.now c.args.snapshots.now c.columns-2.inside.items.items c.columns-2.view_is (held.3 answers e) (omega arith),
    )

pub returns-clause-held : goal.returns-clause-held
returns-clause-held g c =
    let held = c.loop-place.invariant.held in
    let Held : List Column → Type 0 = λ l. g.T.Takes.holds c.args.takes.now l c.loop-place.state held.0 in
    let split : c.args.snapshots.now ≡ c.in-Some.first.now ∷ c.in-Some.later.now = search rules in
    (held.0, omega (arith, ap length split), subst Held c.columns-2.view_is held.2)
