use Rattle.std.proofs.lemmas.Option.{slice_get_read}
use Rattle.std.proofs.Common.{◌≡◌, ◌+◌, ◌++◌, ◌∷◌, [], List, ap, arith, length, length-append, refl, subst, sym, ◌∙◌}
use Rattle.plain_store.specs.Plain.{Plain, view_of}
use Rattle.session.specs.declared.kept.Kept.{Kept}
use Rattle.plain_run.specs.Turns.{CameThrough}
use Rattle.plain_run.proofs.Turning.{phase_begins, phase_ends, session_of, turned}
use Rattle.plain_run.proofs.driving.run_phase.Goals as goal

pub loop-place-init : goal.loop-place-init
loop-place-init g c =
    let p : Plain = record { session = c.store.inside.session; base = c.store.inside.base; book = c.store.inside.book; pages = c.store.inside.pages.items; work = c.store.inside.work } in
    record {
      idle = ap (λ (r : Plain). (view_of r).work) c.store.view_is ∙ c.requires.idle;
      long = ap length c.new-kept.ensures;
      came = λ plan is ground done long came.
          subst (λ (k : List (List Kept)). CameThrough plan ground p (done ++ k ∷ []) c.args.phase 0) (sym c.new-kept.ensures) (phase_begins plan ground p done c.args.phase long came);
    }

pub loop-place-preserved : goal.loop-place-preserved
loop-place-preserved g c =
    let before = c.loop-place.invariant in
    record {
      idle = c.in_ok-next.ensures.idle;
      long = ap length c.in_ok-push.ensures.ok ∙ length-append c.loop-place.kept (c.in_ok-next.one ∷ []) ∙ ap (λ n. n + 1) before.long;
      came = λ plan is ground done long came.
          subst (λ (k : List (List Kept)). CameThrough plan ground c.in_ok-next.next (done ++ k ∷ []) c.args.phase (c.loop-place.place + 1)) (sym c.in_ok-push.ensures.ok)
          (turned plan ground c.loop-place.store c.in_ok-next.next done c.loop-place.kept c.in_ok-next.one c.args.phase c.loop-place.place long before.long
          (c.in_ok-next.ensures.took plan (session_of plan c.args.phase c.loop-place.place c.args.sessions.now _ _ is
          (slice_get_read c.args.sessions.now (length c.args.sessions.now) c.loop-place.place c.index-sessions-place.result refl c.loop-place-test.true c.index-sessions-place.is) (c.as_slice.ensures ∙ c.in_ok-names.ensures))) (before.came plan is ground done long came));
    }

pub returns : goal.returns
returns g c plan is ground done long came =
    let p : Plain = record { session = c.store.inside.session; base = c.store.inside.base; book = c.store.inside.book; pages = c.store.inside.pages.items; work = c.store.inside.work } in
    let before = c.loop-place.invariant in
    let all : c.loop-place.place ≡ length c.args.sessions.now = omega (arith, c.loop-place-test.false, c.loop-place.auto.place-end) in
    phase_ends plan ground c.loop-place.store done c.loop-place.kept c.args.phase c.args.sessions.now long is (before.long ∙ all)
    (subst (λ n. CameThrough plan ground c.loop-place.store (done ++ c.loop-place.kept ∷ []) c.args.phase n) all (before.came plan is ground done long (subst (λ (r : Plain). CameThrough plan ground r done c.args.phase 0) (sym c.store.view_is) came)))
